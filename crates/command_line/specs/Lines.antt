-- The lines that the programs share.
use Rattle.std.specs.Prelude.{ℕ, List, [], ◌∷◌, ◌++◌, codes}
use Rattle.report.specs.Report.{line, number_text, newline}
use Rattle.command_line.specs.declared.text.Text.{Text}
use Rattle.command_line.specs.declared.text.Text.TheVariants.{Fixed, Own, Report}

-- a source failed
unfoldable pub unread_line : List ℕ
unread_line = codes "fault 4 read" ++ newline

-- the first line of a report that differs
unfoldable pub differs_line : ℕ → List ℕ
differs_line n = line (codes "differs") (codes "line" ∷ number_text n ∷ [])

-- the bytes of what is written
abbrev pub text_bytes : Text → List ℕ
text_bytes (Fixed line) = line.now
text_bytes (Own bytes) = bytes
text_bytes (Report text) = text
