-- What the laws of closings say of one that has ended in a world.
use Rattle.std.proofs.Common.{◌≡◌, inl, inr, ℕ, List, ◌++◌, sym, ◌∙◌, ap, subst}
use Rattle.std.specs.Prelude.{reverse}
use Rattle.std.proofs.lemmas.Bool.{cases_lt}
use Rattle.journal.specs.declared.journal.JournalEntry.{JournalEntry}
use Rattle.journal.specs.declared.journal.SaveResult.{SaveResult}
use Rattle.journal.specs.Pool.{past}
use Rattle.journal.specs.Turns.{IsWithinLimits}
use Rattle.app_core.specs.Law.{AppLaw}
use Rattle.run_spec.specs.Bound.{IsQuick, IsSharplyBounded}
use Rattle.run_spec.specs.Committed.{count_up}
use Rattle.run_spec.specs.Legal.{IsLegalPast, IsPossible}
use Rattle.run_spec.specs.Closing.{Closes, majority}
use Rattle.run_spec.specs.States.{IsFaithful, Scene, Sealing}
use Rattle.closing_laws.specs.Ends.{HasRested}
use Rattle.closing_laws.specs.Quick.{WhereSavesSucceed}
use Rattle.closing_laws.specs.Starts.{SavesSucceed}
use Rattle.closing_laws.specs.Stops.{IsAtLimit}
use Rattle.closing_laws.proofs.Ends.Limits.{limits_law}
use Rattle.closing_laws.proofs.Ends.Quorate.{quorum_law}
use Rattle.closing_laws.proofs.Ends.Rested.{rest_law}
use Rattle.closing_laws.proofs.Measure.QuickClosings.{quick_law, sharp_law}
use Rattle.world.specs.World.{Holds, Worlding, results_in, scene_in}
use Rattle.world.proofs.Growing.{no_more}
use Rattle.closing.specs.declared.closed.ClosingOutcome.{ClosingOutcome}
use Rattle.closing.specs.declared.closed.ClosingOutcome.TheVariants as closed
use Rattle.closing.specs.Closing.{HasClosed, HasEnded, HasReason, closing_answer_of}
use Rattle.closing.proofs.Leading.{runs_again}
use Rattle.closing.proofs.Turned.{past_joined}
use Rattle.closing.proofs.Worlds.{Runs}

module _ {B A : Type 0} (law : AppLaw A) (sealing : Sealing B) (faithful : IsFaithful sealing) (start now : Worlding B A) (kinds : List ℕ)
    (same : now.setup ≡ start.setup) (holds : Holds law sealing now kinds) (within : IsWithinLimits sealing.size (past now.journal))
    (ended : ClosingOutcome) (has : HasClosed (scene_in sealing start kinds) (closing_answer_of ended) start now) where
  abbrev OfRun : Scene B
  OfRun = scene_in sealing start kinds

  abbrev Results : List (List SaveResult)
  Results = results_in now.controllers

  runs : Runs law OfRun now
  runs = runs_again law sealing start now kinds same holds

  whole : past now.journal ≡ reverse has.entries ++ past start.journal
  whole = ap past has.joined ∙ past_joined start.journal has.entries

  closes : Closes OfRun Results (past start.journal) has.entries (closing_answer_of ended)
  closes = has.closes Results (no_more start.setup.controllers Results)

  possible : IsPossible OfRun Results (reverse has.entries ++ past start.journal)
  possible = subst (λ (l : List (JournalEntry B)). IsPossible OfRun Results l) whole runs.legal.possible

  within_limits : IsWithinLimits sealing.size (reverse has.entries ++ past start.journal)
  within_limits = subst (λ (l : List (JournalEntry B)). IsWithinLimits sealing.size l) whole within

  of_closing : (claim : Scene B → List (List SaveResult) → List (JournalEntry B) → List (JournalEntry B) → Type 0) → WhereSavesSucceed B claim →
      SavesSucceed OfRun Results (past start.journal) → claim OfRun Results (past start.journal) has.entries
  of_closing claim proved saved =
      proved OfRun Results (past start.journal) has.entries closes.last runs.setup faithful holds.few possible saved within_limits closes.steps closes.posted

  reason_by : (e : ClosingOutcome) → Closes OfRun Results (past start.journal) has.entries (closing_answer_of e) → HasReason e OfRun Results (past start.journal) (past now.journal)
  reason_by (closed.Done primary) c =
      subst (λ (l : List (JournalEntry B)). HasRested OfRun Results primary l) (sym whole)
      (rest_law OfRun Results (past start.journal) has.entries primary runs.setup faithful holds.few (subst (λ (l : List (JournalEntry B)). IsLegalPast OfRun Results l) whole runs.legal) c within_limits)
  reason_by (closed.NoQuorum up needed) c = λ saved. elim (cases_lt (count_up OfRun Results (past start.journal)) (majority start.setup.controllers)) [
    | inl less ↦ less
    | inr most ↦ absurd (quorum_law OfRun Results (past start.journal) has.entries up needed most saved c)
  ]
  reason_by (closed.Overfull limit) c =
      let at = limits_law OfRun Results (past start.journal) has.entries limit runs.setup faithful possible c in
      (at.0, at.1, subst (λ (l : List (JournalEntry B)). IsAtLimit OfRun Results l limit at.0 at.1) (sym whole) at.2)

  -- so it has its reason, and is within its bounds
  pub has_ended : HasEnded OfRun start now ended
  has_ended = record {
    closed = has;
    reason = reason_by ended closes;
    bounded = record {
      quick = of_closing (λ scene results before entries. IsQuick scene results before entries) quick_law;
      sharp = of_closing (λ scene results before entries. IsSharplyBounded scene results before entries) sharp_law;
    };
  }
