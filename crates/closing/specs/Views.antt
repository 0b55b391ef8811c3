-- How great a view may be. Its field in a letter has 32 bits, so each bound is told with what keeps the views behind it
-- below 2^32.
use Rattle.std.specs.Prelude.{ℕ}
use Rattle.journal.specs.declared.journal.Turn.{Turn}
use Rattle.journal.specs.declared.journal.Turn.TheVariants as turn
use Rattle.journal.specs.declared.entries.Head.{Head}
use Rattle.journal.specs.declared.entries.Head.TheVariants as head
use Rattle.run_laws.specs.Laws.{SuspectsUpTo}

-- a step of a script suspects no greater view: the eight attempts that a closing behind it may take add 64 at most
abbrev pub most_view_of_a_script : ℕ
most_view_of_a_script = 4000000000

-- an attempt of a closing adds no more to the greatest view: one, to be above it, and up to seven, to find a primary that
-- takes part
abbrev pub views_of_an_attempt : ℕ
views_of_an_attempt = 8

-- a closing takes at most eight attempts: each but the last lost a controller
abbrev pub views_of_a_closing : ℕ
views_of_a_closing = 64

-- an attempt of a closing begins with no greater view: at most seven failed before it, each of which lost a controller, and
-- they added 56 at most
abbrev pub most_view_of_a_closing : ℕ
most_view_of_a_closing = 4100000000

-- an entry without its letters suspects no greater view
abbrev pub HeadSuspectsUpTo : ℕ → Head → Type 0
HeadSuspectsUpTo limit (head.Local actor input) = SuspectsUpTo limit input
HeadSuspectsUpTo limit _ = Unit {0}

-- a step suspects a view up to this one, or none
abbrev pub StepSuspectsUpTo : ℕ → Turn → Type 0
StepSuspectsUpTo limit (turn.Local a input) = SuspectsUpTo limit input
StepSuspectsUpTo limit _ = Unit {0}
