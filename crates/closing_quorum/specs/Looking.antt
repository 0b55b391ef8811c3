-- From which views on a primary is looked for.
use Rattle.std.specs.Prelude.{ℕ}

-- A primary that takes part is looked for from no greater view: it is found within as many views as a group has
-- controllers, seven at most. The field of a view in a letter has 32 bits.
abbrev pub most_view_to_look_from : ℕ
most_view_to_look_from = 4200000000
