-- What playing makes of a world.
use Rattle.std.specs.Prelude.{◌≡◌, ℕ, List, ◌++◌, length}
use Rattle.journal.specs.declared.journal.JournalEntry.{JournalEntry}
use Rattle.journal.specs.declared.journal.SaveResult.{SaveResult}
use Rattle.journal.specs.declared.journal.Turn.{Turn}
use Rattle.journal.specs.declared.wire.Stop.{Stop}
use Rattle.journal.specs.declared.wire.Stop.TheVariants.{OutOfMemory, JournalFull}
use Rattle.journal.specs.Pool.{past}
use Rattle.run_spec.specs.Script.{FollowsInOrder, TakesInOrder}
use Rattle.run_spec.specs.Closing.{Losing, Phase, Closes, ClosesTo}
use Rattle.run_spec.specs.States.{Scene, Sealing}
use Rattle.journal.specs.Stables.{Saving}
use Rattle.app_core.specs.Law.{AppLaw}
use Rattle.world.specs.Refusals.{IsRefusalBehind}
use Rattle.world.specs.World.{AreMore, Worlding, results_in, scene_in}
use Rattle.running.specs.declared.run.Played.{Played}
use Rattle.running.specs.Threads.{IsLeftLegal, IsLeftPaired}
use Rattle.closing.specs.declared.closed.ClosingOutcome.{ClosingOutcome}
use Rattle.closing.specs.Closing.{HasReason, IsBounded, closing_answer_of}
use Rattle.playing.specs.Manners.{Manner, In_order, Apart, Begins, FollowsManner}

-- a claim over the results of a world's saves, which stands whatever becomes of later ones
abbrev pub Lastingly : {B A : Type 0} → Worlding B A → (List (List SaveResult) → Type 0) → Type 0
Lastingly w claim = (later : List (List SaveResult)) → AreMore w.setup.controllers (results_in w.controllers) later → claim later

-- a script was followed in this manner
abbrev pub HasFollowed : {B A : Type 0} → Manner → Scene B → List Turn → Worlding B A → Type 0
HasFollowed manner scene steps w = Lastingly w (λ later. FollowsManner manner scene later steps (past w.journal))

-- a script was followed in this manner, and a closing has ended as a call tells: by its schedule, for a reason, within its bounds
pub record HasPlayed {B A : Type 0} (manner : Manner) (scene : Scene B) (steps : List Turn) (script : ℕ) (ended : ClosingOutcome) (w : Worlding B A) : Type 0 where
  pub front : List (JournalEntry B)
  pub rest : List (JournalEntry B)
  pub joined : w.journal ≡ front ++ rest
  pub counted : script ≡ length front
  pub follows : Lastingly w (λ later. FollowsManner manner scene later steps (past front))
  pub closes : Lastingly w (λ later. Closes scene later (past front) rest (closing_answer_of ended))
  pub reason : HasReason ended scene (results_in w.controllers) (past front) (past w.journal)
  pub bounded : IsBounded scene (results_in w.controllers) (past front) rest

-- and so by what a call tells: how the closing ended, and how many entries the script made
abbrev pub HasPlayedTo : {B A : Type 0} → Scene B → List Turn → Worlding B A → ClosingOutcome × ℕ → Type 0
HasPlayedTo scene steps w played = HasPlayed In_order scene steps played.1 played.0 w

-- Playing that found no memory: the first steps of the script were taken in order, or all of them and the first entries of a closing.
-- Behind these stands a refusal, or none
pub data IsHaltedIn {B A : Type 0} (scene : Scene B) (steps : List Turn) (w : Worlding B A) : Type 0 where
  In_the_script : (entries refusal : List (JournalEntry B)) → w.journal ≡ entries ++ refusal → IsRefusalBehind (past entries) refusal →
      Lastingly w (λ later. TakesInOrder scene later steps (past entries)) → IsHaltedIn scene steps w
  In_the_closing : (script entries refusal : List (JournalEntry B)) → w.journal ≡ script ++ entries ++ refusal → IsRefusalBehind (past (script ++ entries)) refusal →
      Lastingly w (λ later. FollowsInOrder scene later steps (past script) × ((last : Phase) × ClosesTo scene later Losing (past script) entries last)) → IsHaltedIn scene steps w

-- why playing stopped, and what stands then: at a full journal the run is cut short where an outbox met the limit
abbrev pub RunStops : {B A : Type 0} → Scene B → List Turn → Worlding B A → Stop → Type 0
RunStops scene steps new OutOfMemory = IsHaltedIn scene steps new
RunStops scene steps new (JournalFull bytes letters) = Begins In_order scene (results_in new.controllers) steps bytes letters (past new.journal)

-- what is left of a run whose actors play apart, where it was cut short: for want of memory controllers with their stable pairs, else a
-- legal journal too, cut short where an outbox met the limit
abbrev pub HaltsAs : {B G A W : Type 0} → AppLaw A → Saving W → Sealing B → List Turn → List ℕ → Worlding B A → List W → List W → Played B A G → Stop → Type 0
HaltsAs law saving sealing steps kinds start stables stables_after left OutOfMemory =
    IsLeftPaired saving start.setup start.controllers stables stables_after left.controllers.items
HaltsAs law saving sealing steps kinds start stables stables_after left (JournalFull bytes letters) =
    IsLeftLegal law saving sealing start.setup kinds start.controllers stables stables_after left
    × Begins Apart (scene_in sealing start kinds) (results_in left.controllers.items) steps bytes letters (past left.wire)
