-- Which entries the words behind the program's name ask for.
use Rattle.std.specs.Prelude.{ℕ, nat_le, ◌&&◌, List, [], ◌∷◌, Option, Some, None, if◌then◌else◌}
use Rattle.numerals.specs.Numerals.{numeral_within}
use Rattle.chart.specs.declared.shapes.Window.{Window}

-- both ends of a window, where the first is not 0 and not behind the last
abbrev pub window_from : Option ℕ → Option ℕ → Option Window
window_from (Some first) (Some last) = if nat_le 1 first && nat_le first last then Some (record { first = first; last = last }) else None
window_from _ _ = None

-- without words the first 400 entries, and with two numerals those from the first to the second, counted from 1
abbrev pub window_of : List (List ℕ) → Option Window
window_of [] = Some (record { first = 1; last = 400 })
window_of (first ∷ last ∷ []) = window_from (numeral_within 18446744073709551615 first) (numeral_within 18446744073709551615 last)
window_of _ = None
