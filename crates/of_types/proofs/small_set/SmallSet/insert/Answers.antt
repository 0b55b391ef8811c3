use Rattle.std.proofs.Common.{arith, ap, ◌∙◌}
use Rattle.of_types.specs.SmallSets.{with_number}
use Rattle.of_types.proofs.Places.{places-insert}
use Rattle.of_types.proofs.small_set.SmallSet.insert.Goals as goal

pub returns : goal.returns
returns c =
    places-insert c.args.number 0 c.from.result c.self.inside.members (omega arith) (omega arith)
    ∙ ap (with_number c.args.number) c.self.view_is
