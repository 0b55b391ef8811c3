use Rattle.std.proofs.Common.{arith, subst}
use Rattle.std.specs.Prelude.{ℕ, List}
use Rattle.of_types.specs.SmallSets.{AscendWithin}
use Rattle.of_types.proofs.Places.{places-ascend}
use Rattle.of_types.proofs.small_set.SmallSet.lawful.Goals as goal

pub returns : goal.returns
returns c =
    subst (λ (numbers : List ℕ). AscendWithin 0 255 numbers) c.self.view_is (places-ascend 0 0 255 c.self.inside.members (omega arith) (omega (arith, c.self.told)))
