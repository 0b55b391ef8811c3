-- A text in parts.
use Rattle.std.specs.Prelude.{ℕ, List, [], ◌∷◌, ◌++◌}
use Rattle.report.specs.declared.parts.Part.{Part}
use Rattle.report.specs.Report.{hex_of}

-- words, and the digits of the body behind them
abbrev pub part_text : Part → List ℕ
part_text part = part.words ++ hex_of part.body

-- the parts, one after another
abbrev pub parts_text : List Part → List ℕ
parts_text [] = []
parts_text (part ∷ parts) = part_text part ++ parts_text parts
