-- The closing is what stands behind the script's part.
use Rattle.std.proofs.Common.{◌≡◌, ◌≤◌, ℕ, List, [], ◌∷◌, length, drop, ◌∙◌, ap, arith, length-append}
use Rattle.std.specs.List.{AllByRecursion}
use Rattle.std.proofs.Math.Seq.{drop-append_seam}
use Rattle.journal.specs.declared.journal.Local.TheVariants as local
use Rattle.journal.specs.declared.journal.Turn.{Turn}
use Rattle.journal.specs.declared.journal.Turn.TheVariants as turn
use Rattle.run_spec.specs.States.{Scene}
use Rattle.world.specs.World.{Worlding}
use Rattle.closing.specs.declared.closed.ClosingOutcome.{ClosingOutcome}
use Rattle.closing.specs.Views.{most_view_of_a_script, StepSuspectsUpTo}
use Rattle.playing.specs.Manners.{Manner}
use Rattle.playing.specs.Played.{HasPlayed}
use Rattle.scenario.specs.Scenario.{HasView}

module _ {B A : Type 0} (manner : Manner) (scene : Scene B) (steps : List Turn) (count : ℕ) (ended : ClosingOutcome) (w : Worlding B A) (h : HasPlayed manner scene steps count ended w) where
  pub rest_is : drop count w.journal ≡ h.rest
  rest_is = rw (h.counted, h.joined) (drop-append_seam h.front h.rest)

  pub within_journal : count ≤ length w.journal
  within_journal = let lengths = ap length h.joined ∙ length-append h.front h.rest in let counted = h.counted in omega (arith, lengths, counted)

-- no step of a scenario suspects a view above what a closing can go beyond
step_up_to : (t : Turn) → HasView t → StepSuspectsUpTo most_view_of_a_script t
step_up_to (turn.Local a (local.Suspect view)) within = omega (arith, within)
step_up_to (turn.Local a (local.Frame port bytes)) within = tt
step_up_to (turn.Local a (local.Port port up)) within = tt
step_up_to (turn.Local a local.Tick) within = tt
step_up_to (turn.Local a local.Crash) within = tt
step_up_to (turn.Local a local.Restart) within = tt
step_up_to (turn.Draw a choice keep) within = tt
step_up_to (turn.Lose a choice) within = tt

pub views_up_to : (steps : List Turn) → AllByRecursion HasView steps → AllByRecursion (λ t. StepSuspectsUpTo most_view_of_a_script t) steps
views_up_to [] all = tt
views_up_to (t ∷ rest) (here, all) = (step_up_to t here, views_up_to rest all)
