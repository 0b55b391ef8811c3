-- Of what the controllers of a run have committed, at any two times, one begins the other.
use Rattle.std.proofs.Common.{◌≡◌, ℕ, ◌+◌, ◌-◌, ◌*◌, ◌<◌, ◌≤◌, ◌⊎◌, inl, inr, Bool, true, false, cond, List, [], ◌∷◌, ◌++◌, take, drop, refl, sym, ap, ◌∙◌, subst, subst₂, arith, take-append-drop, append_assoc, drop-drop}
use Rattle.std.proofs.lemmas.Bool.{cases_lt}
use Rattle.journal.specs.declared.journal.Actor.TheVariants as actor
use Rattle.journal.specs.declared.journal.JournalEntry.{JournalEntry}
use Rattle.journal.specs.declared.journal.SaveResult.{SaveResult}
use Rattle.journal.specs.Part.{part, drawn}
use Rattle.list_facts.specs.Lists.{IsPrefix}
use Rattle.agreement.specs.Invariant as invariant
use Rattle.agreement.specs.Journals as journal
use Rattle.agreement.specs.Laws.{committed_log}
use Rattle.agreement.proofs.Agreeing.{journals_law}
use Rattle.vr_log.specs.declared.entry.Entry.{Entry}
use Rattle.vr_log.specs.declared.state.Status.{Status}
use Rattle.vr_log.specs.declared.state.Status.TheVariants as status
use Rattle.controller_moves.specs.MemberMoves.Projection.{group_of, member_status_of, member_state_of}
use Rattle.group_controller.specs.State.{ControllerState, committed}
use Rattle.controller_moves.specs.Projection.{OwnInput}
use Rattle.controller_moves.specs.Rules.{SavingController}
use Rattle.controller_moves.proofs.Following.{follow_law}
use Rattle.run_spec.specs.States.{Scene, controller_at}
use Rattle.run_spec.specs.Legal.{results_of}
use Rattle.run_spec.specs.Committed.{kept}
use Rattle.run_laws.specs.RunAgreement.Projection.{journal_entries_of, past_of, rules_of}
use Rattle.run_laws.specs.RunAgreement.Laws.{KeptLogsAgree}
use Rattle.run_laws.proofs.RunAgreement.Journals.{in_group, past_legal}
use Rattle.run_laws.proofs.RunAgreement.Reading.{IsReadPast, read_drop, read_past}
use Rattle.run_laws.proofs.RunAgreement.Standing.{stands_alike}

turned : {xs ys : List Entry} → IsPrefix xs ys ⊎ IsPrefix ys xs → IsPrefix ys xs ⊎ IsPrefix xs ys
turned z = elim z [ inl p ↦ inr p | inr p ↦ inl p ]

pub drops : {A : Type 0} (i j : ℕ) (xs : List A) → drop i (drop j xs) ≡ drop (i + j) xs
drops i j xs = drop-drop i j xs ∙ ap (λ (k : ℕ). drop k xs) (omega arith)

same_up : (x : Status) → invariant.is_up_status (member_status_of x) ≡ (elim x [ status.Normal ↦ true | status.ViewChange ↦ true | status.Recovering ↦ false | status.Down ↦ false ])
same_up status.Normal = refl
same_up status.ViewChange = refl
same_up status.Recovering = refl
same_up status.Down = refl

module _ {B : Type 0} (scene : Scene B) (results : List (List SaveResult)) (most_failures : ℕ) (n : scene.setup.controllers ≡ 2 * most_failures + 1) where
  -- the past of more entries goes on from that of fewer
  pub past_on : (more past : List (JournalEntry B)) → (ys : List (journal.Entry OwnInput Entry)) × (past_of scene (more ++ past) ≡ ys ++ past_of scene past)
  past_on [] past = ([], refl)
  past_on (e ∷ more) past =
      let x = past_on more past in
      let y : List (journal.Entry OwnInput Entry) = journal_entries_of scene e (drawn e (more ++ past)) in
      (y ++ x.0, ap (λ (l : List (journal.Entry OwnInput Entry)). y ++ l) x.1 ∙ sym (append_assoc y x.0 (past_of scene past)))

  -- what a controller has committed is what the moves show
  pub kept_is : (c : ℕ) (past : List (JournalEntry B)) → IsReadPast scene results past → journal.kept_log (rules_of scene most_failures results) c (past_of scene past) ≡ kept scene results c past
  kept_is c past k =
      let same = stands_alike scene results most_failures c n past k.possible.orderly in
      let at = controller_at scene (results_of results c) c (part (actor.Controller c) past) in
      let now : ControllerState = at.now in
      ap (λ (a : SavingController). cond (invariant.is_up_status (member_state_of a.state.vr).status) (committed_log (member_state_of a.state.vr)) []) same.now
      ∙ ap (λ (t : Bool). cond t (committed now) []) (same_up now.vr.status)

  later_agree : (more past : List (JournalEntry B)) (c d : ℕ) → IsReadPast scene results (more ++ past) → IsReadPast scene results past → c < scene.setup.controllers → d < scene.setup.controllers
      → IsPrefix (kept scene results c past) (kept scene results d (more ++ past)) ⊎ IsPrefix (kept scene results d (more ++ past)) (kept scene results c past)
  later_agree more past c d k k' b b' =
      let r = rules_of scene most_failures results in
      let legal = (past_legal scene results most_failures n (more ++ past) k).legal in
      let x = past_on more past in
      let law = journals_law r (group_of most_failures) x.0 (past_of scene past) c d (follow_law scene.kinds scene.setup most_failures (λ c. results_of results c))
      (subst (λ (es : List (journal.Entry OwnInput Entry)). journal.IsAllowed r (group_of most_failures) es) x.1 legal) (in_group scene results most_failures n c b) (in_group scene results most_failures n d b') in
      let new = ap (λ (es : List (journal.Entry OwnInput Entry)). journal.kept_log r d es) (sym x.1) ∙ kept_is d (more ++ past) k in
      subst₂ (λ p q. IsPrefix p q ⊎ IsPrefix q p) (kept_is c past k') new law

  -- the one at an earlier time than the other
  earlier_agree : (past : List (JournalEntry B)) → IsReadPast scene results past → (c d i j : ℕ) → i ≤ j → c < scene.setup.controllers → d < scene.setup.controllers
      → IsPrefix (kept scene results c (drop j past)) (kept scene results d (drop i past)) ⊎ IsPrefix (kept scene results d (drop i past)) (kept scene results c (drop j past))
  earlier_agree past k c d i j l b b' =
      let later : List (JournalEntry B) = drop i past in
      let back : drop (j - i) later ≡ drop j past = drops (j - i) i past ∙ ap (λ (m : ℕ). drop m past) (omega arith) in
      let whole : take (j - i) later ++ drop j past ≡ later = ap (λ (l : List (JournalEntry B)). take (j - i) later ++ l) (sym back) ∙ take-append-drop (j - i) later in
      subst (λ (es : List (JournalEntry B)). IsPrefix (kept scene results c (drop j past)) (kept scene results d es) ⊎ IsPrefix (kept scene results d es) (kept scene results c (drop j past))) whole
      (later_agree (take (j - i) later) (drop j past) c d (subst (λ (es : List (JournalEntry B)). IsReadPast scene results es) (sym whole) (read_drop scene results i past k)) (read_drop scene results j past k) b b')

  pub kept_agree : (past : List (JournalEntry B)) → IsReadPast scene results past → (c d i j : ℕ) → c < scene.setup.controllers → d < scene.setup.controllers
      → IsPrefix (kept scene results c (drop i past)) (kept scene results d (drop j past)) ⊎ IsPrefix (kept scene results d (drop j past)) (kept scene results c (drop i past))
  kept_agree past k c d i j b b' = elim (cases_lt j i) [
    | inl l ↦ earlier_agree past k c d j i (omega arith) b b'
    | inr l ↦ turned (earlier_agree past k d c i j l b' b)
  ]

pub kept_law : {B : Type 0} → KeptLogsAgree B
kept_law scene results most_failures past c d i j n read legal b b' = kept_agree scene results most_failures n past (read_past scene results past legal read) c d i j b b'
