use Rattle.std.proofs.Common.{rules}
use Rattle.of_types.proofs.sizes.size_of_flow_mod.Goals as goal

pub returns-in-empty : goal.returns-in-empty
returns-in-empty c = search rules
