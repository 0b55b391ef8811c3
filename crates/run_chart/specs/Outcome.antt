-- How a call ends.
use Rattle.std.specs.Prelude.{◌≡◌, ℕ, List, ◌++◌, Option, None, codes, ⊤}
use Rattle.report.specs.Report.{newline}
use Rattle.command_line.specs.Conversion as call
use Rattle.command_line.specs.declared.conversion.Ending.{Ending}
use Rattle.run_chart.specs.Words.{window_of}

unfoldable pub chart_usage_line : List ℕ
chart_usage_line = codes "fault 2 usage: run_chart, or run_chart FIRST LAST" ++ newline

-- The end of a call with these words, and what was left to be read before and after it. `unread` says that a read failed.
-- Which picture a report has isn't said
abbrev pub EndsChart : List (List ℕ) → Option (List ℕ) → Option (List ℕ) → Type 0 → Ending → Type 0
EndsChart words left rest unread ending = call.EndsCall (window_of words ≡ None) (λ told picture. ⊤) left rest unread ending
