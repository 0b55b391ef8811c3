-- In a group of several the best log of a quorum begins with what was decided.
use Rattle.std.proofs.Common.{◌≡◌, ◌<◌, inr, ℕ, ◌/◌, Bool, true, false, List, length, refl, sym, ap, ◌∙◌, subst, subst₂, arith, length-drop}
use Rattle.std.specs.Prelude.{nat_eq}
use Rattle.std.proofs.lemmas.Bool.{eqb-true}
use Rattle.of_types.specs.Setups.{IsSetup}
use Rattle.journal.specs.declared.journal.JournalEntry.{JournalEntry}
use Rattle.journal.specs.declared.journal.SaveResult.{SaveResult}
use Rattle.list_facts.specs.Lists.{IsPrefix}
use Rattle.list_facts.proofs.Prefixes.{prefix_trans}
use Rattle.agreement.specs.Decided as decision
use Rattle.agreement.specs.History.{State, size}
use Rattle.agreement.specs.Invariant as agreed
use Rattle.agreement.specs.Lists.{IsAtMost, count_below}
use Rattle.agreement.proofs.Leading.{best_begins, decided_certified}
use Rattle.vr_log.specs.declared.entry.Entry.{Entry}
use Rattle.vr_log.specs.declared.state.VrState.{VrState}
use Rattle.vr_log.specs.Choosing.{length_of}
use Rattle.controller_moves.specs.MemberMoves.Projection.{member_state_of}
use Rattle.controller_moves.proofs.Following.{follow_law}
use Rattle.run_spec.specs.States.{Scene, IsFaithful}
use Rattle.run_spec.specs.Legal.{IsPossible, results_of}
use Rattle.run_spec.specs.Committed.{decided}
use Rattle.run_laws.proofs.RunAgreement.Leading.{decided_begins}
use Rattle.closing_laws.specs.Quorum.{has}
use Rattle.closing_laws.specs.Starts.{members_at}
use Rattle.closing_laws.specs.Views.{HasBest, IsReadyMember, log_of}
use Rattle.closing_laws.proofs.Lists.Picked.{IsPicked}
use Rattle.closing_laws.proofs.Start.AloneLogs.{status_up}
use Rattle.closing_laws.proofs.Start.Covering.{better_far}
use Rattle.closing_laws.proofs.Start.Histories as histories
use Rattle.closing_laws.proofs.Truths.Promises.{picked_below}

module _ {B : Type 0} (scene : Scene B) (results : List (List SaveResult)) (setup : IsSetup scene.setup) (faithful : IsFaithful scene.sealing) (P : List (JournalEntry B)) (possible : IsPossible scene results P)
    (several : 0 < scene.setup.controllers / 2) (w : ℕ) (quorum : List ℕ) (picked : IsPicked scene.setup.controllers w quorum)
    (ready : (j : ℕ) → has quorum j ≡ true → IsReadyMember scene.setup.controllers w j (members_at scene results P j)) (best : ℕ) (b : HasBest quorum (members_at scene results P) best) where
  abbrev members : ℕ → VrState
  members = members_at scene results P

  abbrev f : ℕ
  f = histories.f scene results setup faithful P possible several

  state_is : (j : ℕ) → has quorum j ≡ true → (histories.h scene results setup faithful P possible several).state j ≡ member_state_of (members j)
  state_is j member = histories.state_is scene results setup faithful P possible several j (ready j member).small

  -- its length is what it tells of it
  length_is : (j : ℕ) → has quorum j ≡ true → length_of (log_of members j) ≡ length (members j).log
  length_is j member = let within = (ready j member).commit in let rest = length-drop (members j).commit (members j).log in omega (arith, within, rest)

  far : (j : ℕ) → has quorum j ≡ true → IsAtMost (members j).normal (length (members j).log) (members best).normal (length (members best).log)
  far j member = by_same (nat_eq j best) refl
    where
      by_same : (d : Bool) → nat_eq j best ≡ d → IsAtMost (members j).normal (length (members j).log) (members best).normal (length (members best).log)
      by_same true e = let same = eqb-true j best e in subst (λ (k : ℕ). IsAtMost (members k).normal (length (members k).log) (members best).normal (length (members best).log)) (sym same) (inr (refl, omega arith))
      by_same false e =
          subst₂ (λ (x y : ℕ). IsAtMost (members j).normal x (members best).normal y) (length_is j member) (length_is best b.member)
          (better_far (log_of members best) (log_of members j) (b.better j member e))

  many : f < count_below (has quorum) scene.setup.controllers
  many =
      let counted = picked_below (has quorum) (has quorum) scene.setup.controllers scene.setup.controllers (λ j h. h) (omega arith) in
      let long = ap (λ (l : List ℕ). length l) picked.ascending in
      let count = picked.count in
      let odd = (histories.odd scene results setup faithful P possible several).1 in
      omega (arith, counted, long, count, odd)

  whole : f < count_below (has quorum) scene.setup.controllers → f < count_below (has quorum) (size (histories.g scene results setup faithful P possible several))
  unfolding size
  whole h = subst (λ (n : ℕ). f < count_below (has quorum) n) (histories.odd scene results setup faithful P possible several).1 h

  -- what the moves have decided
  abbrev was : List Entry
  was = decision.decided_log (histories.r scene results setup faithful P possible several) (histories.g scene results setup faithful P possible several) (histories.all scene results setup faithful P possible several)

  pub decided_in_best : IsPrefix (decided scene results P) (members best).log
  decided_in_best =
      prefix_trans (decided_begins scene results f (histories.odd scene results setup faithful P possible several).1 P (histories.read scene results setup faithful P possible several))
      (subst (λ (s : State Entry). IsPrefix was s.log) (state_is best b.member)
      (best_begins (histories.good scene results setup faithful P possible several) (has quorum) best was (whole many)
      (λ j member. ap (λ (s : State Entry). agreed.is_up_status s.status) (state_is j member) ∙ status_up (members j).status (ready j member).up) b.member
      (histories.within scene results setup faithful P possible several best (ready best b.member).small)
      (λ j member. subst₂ (λ (x y : State Entry). IsAtMost x.normal (length x.log) y.normal (length y.log)) (sym (state_is j member)) (sym (state_is best b.member)) (far j member))
      (decided_certified (follow_law scene.kinds scene.setup f (λ c. results_of results c)) (histories.some scene results setup faithful P possible several) (histories.all scene results setup faithful P possible several)
      (histories.legal scene results setup faithful P possible several))))
