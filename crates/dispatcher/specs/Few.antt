-- Values of which there is one, mostly, as the list that they are.
use Rattle.std.specs.Prelude.{List, [], ◌∷◌}
use Rattle.dispatcher.specs.declared.few.Few.{Few}
use Rattle.dispatcher.specs.declared.few.Few.TheVariants.{Nothing, One, Many}

-- the values, in order
abbrev pub values_in : {T : Type 0} → Few T → List T
values_in Nothing = []
values_in (One value) = value ∷ []
values_in (Many values) = values.items
