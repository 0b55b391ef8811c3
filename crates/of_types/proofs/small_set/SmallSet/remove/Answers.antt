use Rattle.std.proofs.Common.{arith, ap, ◌∙◌}
use Rattle.of_types.specs.SmallSets.{without_number}
use Rattle.of_types.proofs.Places.{places-remove}
use Rattle.of_types.proofs.small_set.SmallSet.remove.Goals as goal

pub returns : goal.returns
returns c =
    places-remove c.args.number 0 c.from.result c.self.inside.members (omega arith) (omega arith)
    ∙ ap (without_number c.args.number) c.self.view_is
