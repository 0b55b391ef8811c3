-- A closing that ends has left nothing undone: its last attempt starts a view, and that drains all.
use Rattle.std.proofs.Common.{◌≡◌, ◌≤◌, inl, inr, ℕ, List, [], ◌++◌, length, refl, sym, ◌∙◌, subst, arith}
use Rattle.std.specs.Prelude.{reverse, Option, Some, None}
use Rattle.std.proofs.lemmas.Bool.{cases_lt}
use Rattle.of_types.specs.Setups.{IsSetup}
use Rattle.journal.specs.declared.journal.JournalEntry.{JournalEntry}
use Rattle.journal.specs.declared.journal.SaveResult.{SaveResult}
use Rattle.journal.specs.Turns.{IsWithinLimits}
use Rattle.vr_log.specs.declared.entry.LogFull.{LogFull}
use Rattle.group_controller.specs.State.{ControllerState}
use Rattle.run_spec.specs.States.{Scene, IsFaithful}
use Rattle.run_spec.specs.Legal.{IsPossible, results_of}
use Rattle.run_spec.specs.Script.{IsPosted}
use Rattle.run_spec.specs.Closing.{count_turns, ClosesTo, Done, IsEnd, Phase, met_by, next_move}
use Rattle.closing_laws.specs.Ends.{ClosingsRest, HasRested}
use Rattle.closing_laws.specs.Following.{Start}
use Rattle.closing_laws.specs.Serving.{AreFew}
use Rattle.closing_laws.specs.Starts.{IsAttempt, Starts, members_at, quorum_after, turns_after, view_after}
use Rattle.closing_laws.specs.Views.{HasBest}
use Rattle.closing_laws.proofs.Draining.Behind as behind
use Rattle.closing_laws.proofs.Draining.Emptied as emptied
use Rattle.closing_laws.proofs.Ends.LastAttempts as attempts
use Rattle.closing_laws.proofs.Journal.Posting.{later, later_is}
use Rattle.closing_laws.proofs.Journal.Taking.{at}
use Rattle.closing_laws.proofs.Lists.Picked.{IsPicked, picked_of_quorum}
use Rattle.closing_laws.proofs.Start.Begun as begun
use Rattle.closing_laws.proofs.Start.BestLogs.{has_best}
use Rattle.closing_laws.proofs.Start.BestLogs.{has_best}
use Rattle.closing_laws.proofs.Start.InTime.{in_time_law}
use Rattle.closing_laws.proofs.Truths.Given.{are_few}

module _ {B : Type 0} (scene : Scene B) (results : List (List SaveResult)) (setup : IsSetup scene.setup) (faithful : IsFaithful scene.sealing) (few : AreFew scene.kinds scene.setup)
    (before entries : List (JournalEntry B)) (last : Phase) (primary : ℕ) (a : IsAttempt scene results before entries last) (end : IsEnd (next_move scene results last (reverse entries ++ before)) (Done primary)) where
  abbrev n : ℕ
  n = scene.setup.controllers

  abbrev w : ℕ
  w = view_after scene results before

  abbrev quorum : List ℕ
  quorum = quorum_after scene results before

  picked : IsPicked n w quorum
  picked = picked_of_quorum n w quorum (begun.quorum_is scene results before a.most)

  best_is : (best : ℕ) × HasBest quorum (members_at scene results before) best
  best_is = has_best (members_at scene results before) quorum (let count = picked.count in omega (arith, count))

  abbrev best : ℕ
  best = best_is.0

  starts : Starts scene results before entries last best
  starts =
      let s = in_time_law scene results before entries last best setup faithful a best_is.1 in
      elim (cases_lt (count_turns entries) (turns_after scene results before best)) [
        | inl less ↦ absurd (s.goes_on less (Done primary) end)
        | inr enough ↦ s.starts enough
      ]

  abbrev begins : List (JournalEntry B)
  begins = behind.begins scene results setup faithful few before entries last a best best_is.1 starts

  abbrev c : ControllerState
  c = behind.c scene results setup faithful few before entries last a best best_is.1 starts

  abbrev closing : IsPicked n w quorum
  closing = behind.picked scene results setup faithful few before entries last a best best_is.1 starts

  abbrev start : Start
  start = behind.start scene results setup faithful few before entries last a best best_is.1 starts

  whole : reverse entries ++ before ≡ later begins starts.rest
  whole = behind.whole scene results setup faithful few before entries last a best best_is.1 starts

  possible : IsPossible scene results (later begins starts.rest)
  possible = behind.possible scene results setup faithful few before entries last a best best_is.1 starts

  within : IsWithinLimits scene.sealing.size (later begins starts.rest)
  within = subst (λ (l : List (JournalEntry B)). IsWithinLimits scene.sealing.size l) whole a.within

  posted : IsPosted scene results (later begins starts.rest)
  posted = subst (λ (l : List (JournalEntry B)). IsPosted scene results l) whole a.posted

  ends_there : IsEnd (next_move scene results last (later begins starts.rest)) (Done primary)
  ends_there = subst (λ (l : List (JournalEntry B)). IsEnd (next_move scene results last l) (Done primary)) whole end

  goes_on : ClosesTo scene results (met_by c.full starts.phase) begins starts.rest last
  goes_on = behind.goes_on scene results setup faithful few before entries last a best best_is.1 starts

  -- what the primary holds there, if it may go on
  by_full : (o : Option LogFull) → c.full ≡ o → HasRested scene results primary (later begins starts.rest)
  by_full None is =
      emptied.ends scene results setup faithful few w quorum closing before a.saves start starts.rest begins last primary within starts.phase starts.drains
      (behind.opened scene results setup faithful few before entries last a best best_is.1 starts is) (subst (λ (o : Option LogFull). ClosesTo scene results (met_by o starts.phase) begins starts.rest last) is goes_on) possible posted ends_there
  by_full (Some limit) is =
      absurd (emptied.never_done scene results setup faithful few w quorum closing before a.saves anything limit begins starts.rest last primary
      (subst (λ (o : Option LogFull). ClosesTo scene results (met_by o starts.phase) begins starts.rest last) is goes_on) ends_there)
    where
      anything : Start
      anything = record { log = []; base = 0; known = 0 }

  pub attempt_rests : HasRested scene results primary (reverse entries ++ before)
  attempt_rests = subst (λ (l : List (JournalEntry B)). HasRested scene results primary l) (sym whole) (by_full c.full refl)

pub rest_law : {B : Type 0} → ClosingsRest B
rest_law {B = B} scene results before entries primary setup faithful given legal closes within =
    let l = attempts.last_attempt scene results closes.last primary (length entries) before entries (omega arith) (record {
      closes = closes.steps;
      possible = subst (λ (l : List (JournalEntry B)). IsPossible scene results l) (sym (later_is before entries)) legal.possible;
      posted = subst (λ (l : List (JournalEntry B)). IsPosted scene results l) (sym (later_is before entries)) closes.posted;
      within = subst (λ (l : List (JournalEntry B)). IsWithinLimits scene.sealing.size l) (sym (later_is before entries)) within;
      ends = subst (λ (l : List (JournalEntry B)). IsEnd (next_move scene results closes.last l) (Done primary)) (sym (later_is before entries)) closes.ends;
      exact = λ c there. subst (λ (l : List (JournalEntry B)). length (results_of results c) ≤ (at scene results c l).saves) (sym (later_is before entries)) (let same = legal.saves c there in omega (arith, same));
    }) in
    subst (λ (x : List (JournalEntry B)). HasRested scene results primary x) (sym l.same ∙ later_is before entries)
    (attempt_rests scene results setup faithful (are_few scene.setup setup scene.kinds given) l.before l.rest closes.last primary l.attempt
    (subst (λ (x : List (JournalEntry B)). IsEnd (next_move scene results closes.last x) (Done primary)) (sym (later_is before entries) ∙ l.same) closes.ends))
