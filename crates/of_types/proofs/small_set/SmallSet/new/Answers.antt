use Rattle.std.proofs.Common.{refl}
use Rattle.of_types.specs.SmallSets.{places_from}
use Rattle.of_types.proofs.small_set.SmallSet.new.Goals as goal

pub returns : goal.returns
unfolding places_from
returns c = refl
