use Rattle.std.proofs.Common.{append_assoc, rules}
use Rattle.of_match.specs.Writing.{transport_fields}
use Rattle.of_match.proofs.Spelled.{spelled-append}
use Rattle.of_match.proofs.writing.put_transport_fields.Goals as goal

pub returns-clause-bytes : goal.returns-clause-bytes
unfolding transport_fields
returns-clause-bytes c = search (rules, append_assoc, spelled-append)
