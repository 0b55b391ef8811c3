-- The log of a controller that is alone in its group, and takes part, begins with what is decided.
use Rattle.std.proofs.Common.{◌≡◌, ◌<◌, inl, inr, ℕ, suc, ◌+◌, ◌*◌, Bool, true, false, List, [], ◌++◌, take, drop, refl, sym, ◌∙◌, ap, subst, arith, take-append-drop}
use Rattle.std.specs.Prelude.{if◌then◌else◌}
use Rattle.of_types.specs.Setups.{IsSetup}
use Rattle.journal.specs.declared.journal.JournalEntry.{JournalEntry}
use Rattle.journal.specs.declared.journal.SaveResult.{SaveResult}
use Rattle.list_facts.specs.Lists.{IsPrefix}
use Rattle.list_facts.proofs.Prefixes.{front_prefix, prefix_nil, prefix_trans}
use Rattle.agreement.specs.History.{Group, State}
use Rattle.agreement.specs.Invariant as agreed
use Rattle.agreement.specs.Journals as journal
use Rattle.agreement.specs.Journals.{Rules, GoesOn, stands}
use Rattle.agreement.proofs.Alone.{journal_goes}
use Rattle.vr_log.specs.declared.entry.Entry.{Entry}
use Rattle.vr_log.specs.declared.state.Status.{Status}
use Rattle.vr_log.specs.declared.state.Status.TheVariants.{Normal, ViewChange, Recovering, Down}
use Rattle.vr_log.specs.Members.{is_up}
use Rattle.controller_moves.specs.MemberMoves.Projection.{group_of, member_state_of, member_status_of}
use Rattle.controller_moves.specs.Projection.{OwnInput}
use Rattle.controller_moves.specs.Rules.{SavingController}
use Rattle.controller_moves.proofs.Following.{follow_law}
use Rattle.group_controller.specs.State.{committed}
use Rattle.run_spec.specs.States.{Scene, IsFaithful}
use Rattle.run_spec.specs.Legal.{IsPossible, results_of}
use Rattle.run_spec.specs.Committed.{controller_state, decided, kept}
use Rattle.run_laws.specs.RunAgreement.Projection.{past_of, rules_of}
use Rattle.run_laws.specs.RunAgreement.Reading.{WhereValid}
use Rattle.run_laws.proofs.RunAgreement.Agreeing.{past_on}
use Rattle.run_laws.proofs.RunAgreement.Journals.{in_group}
use Rattle.run_laws.proofs.RunAgreement.Lasting.{decided_kept}
use Rattle.run_laws.proofs.RunAgreement.Reading.{IsReadPast, read_drop, read_past}
use Rattle.run_laws.proofs.RunAgreement.Standing.{stands_alike}
use Rattle.run_laws.proofs.Events.{events_valid}
use Rattle.run_laws.proofs.Laws.{always}

pub status_up : (s : Status) → elim s [ Normal ↦ true | ViewChange ↦ true | Recovering ↦ false | Down ↦ false ] ≡ true → agreed.is_up_status (member_status_of s) ≡ true
status_up Normal h = refl
status_up ViewChange h = refl
status_up Recovering h = absurd cc
status_up Down h = absurd cc

module _ {B : Type 0} (scene : Scene B) (results : List (List SaveResult)) (setup : IsSetup scene.setup) (faithful : IsFaithful scene.sealing) (alone : scene.setup.controllers ≡ 2 * 0 + 1)
    (P : List (JournalEntry B)) (possible : IsPossible scene results P) where
  abbrev r : Rules OwnInput SavingController Entry
  r = rules_of scene 0 results

  abbrev g : Group Entry
  g = group_of 0

  read : IsReadPast scene results P
  read = read_past scene results P possible (WhereValid faithful (events_valid scene results P possible (λ i. always scene results setup faithful P possible (suc i))))

  -- the state of a member after an earlier past
  state_at : (c : ℕ) (Q : List (JournalEntry B)) → IsReadPast scene results Q → r.state (stands r c (past_of scene Q)).now ≡ member_state_of (controller_state scene results c Q).vr
  state_at c Q was = ap (λ (a : SavingController). r.state a) (stands_alike scene results 0 c alone Q was.possible.orderly).now

  goes : (c i : ℕ) → c < scene.setup.controllers → is_up (controller_state scene results c P).vr ≡ true →
      IsPrefix (controller_state scene results c (drop i P)).vr.log (controller_state scene results c P).vr.log
  goes c i there up =
      let late : List (JournalEntry B) = drop i P in
      let x = past_on scene results 0 alone (take i P) late in
      let whole : past_of scene P ≡ x.0 ++ past_of scene late = ap (λ (es : List (JournalEntry B)). past_of scene es) (sym (take-append-drop i P)) ∙ x.1 in
      let then_is = state_at c late (read_drop scene results i P read) in
      let now_is = ap (λ (es : List (journal.Entry OwnInput Entry)). r.state (stands r c es).now) (sym whole) ∙ state_at c P read in
      let on : GoesOn (r.state (stands r c (past_of scene late)).now) (r.state (stands r c (x.0 ++ past_of scene late)).now) =
      journal_goes (follow_law scene.kinds scene.setup 0 (λ d. results_of results d)) refl c x.0 (past_of scene late) (in_group scene results 0 alone c there)
      (ap (λ (s : State Entry). agreed.is_up_status s.status) now_is ∙ status_up (controller_state scene results c P).vr.status up) in
      subst (λ (s : State Entry). IsPrefix (controller_state scene results c late).vr.log s.log) now_is
      (subst (λ (s : State Entry). IsPrefix s.log (r.state (stands r c (x.0 ++ past_of scene late)).now).log) then_is on.longer)

  kept_before : (c i : ℕ) → c < scene.setup.controllers → is_up (controller_state scene results c P).vr ≡ true → IsPrefix (kept scene results c (drop i P)) (controller_state scene results c P).vr.log
  kept_before c i there up =
      let then_ = controller_state scene results c (drop i P) in
      by_up (is_up then_.vr) (prefix_trans (front_prefix then_.vr.commit then_.vr.log) (goes c i there up))
    where
      by_up : (b : Bool) → IsPrefix (committed (controller_state scene results c (drop i P))) (controller_state scene results c P).vr.log →
          IsPrefix (if b then committed (controller_state scene results c (drop i P)) else []) (controller_state scene results c P).vr.log
      by_up true h = h
      by_up false h = prefix_nil (controller_state scene results c P).vr.log

  pub decided_before : (c : ℕ) → c < scene.setup.controllers → is_up (controller_state scene results c P).vr ≡ true → IsPrefix (decided scene results P) (controller_state scene results c P).vr.log
  decided_before c there up = elim (decided_kept scene results P) [
    | inl none ↦ subst (λ (l : List Entry). IsPrefix l (controller_state scene results c P).vr.log) (sym none) (prefix_nil (controller_state scene results c P).vr.log)
    | inr some ↦
        let other = some.2 in
        let same : some.1 ≡ c = omega (arith, other, there, alone) in
        subst (λ (l : List Entry). IsPrefix l (controller_state scene results c P).vr.log) (sym (some.3 ∙ ap (λ (d : ℕ). kept scene results d (drop some.0 P)) same)) (kept_before c some.0 there up)
  ]
