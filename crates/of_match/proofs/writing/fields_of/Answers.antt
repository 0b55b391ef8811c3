use Rattle.std.proofs.Common.{append_assoc, rules}
use Rattle.of_match.specs.Writing.{written_of}
use Rattle.of_match.proofs.Spelled.{spelled-append}
use Rattle.of_match.proofs.writing.fields_of.Goals as goal

pub returns-clause-bytes : goal.returns-clause-bytes
unfolding written_of
returns-clause-bytes c = search (rules, append_assoc, spelled-append)
