-- The log of a controller that leads begins with what is decided.
use Rattle.std.proofs.Common.{◌≡◌, ◌≢◌, ℕ, zero, suc, ◌+◌, ◌*◌, ◌<◌, ◌≤◌, inl, inr, true, false, nat_le, leb, List, [], ◌∷◌, ◌++◌, take, drop, refl, sym, ap, ◌∙◌, subst, subst₂, arith, append_assoc, take-append-drop}
use Rattle.std.proofs.lemmas.Bool.{cases_eq, cases_lt, and_parts, eqb-true}
use Rattle.journal.specs.declared.journal.Actor.TheVariants as actor
use Rattle.journal.specs.declared.journal.JournalEntry.{JournalEntry}
use Rattle.journal.specs.declared.journal.SaveResult.{SaveResult}
use Rattle.journal.specs.Part.{part}
use Rattle.agreement.specs.Lists.{count_below}
use Rattle.list_facts.proofs.Prefixes.{prefix_nil, prefix_trans}
use Rattle.list_facts.specs.Lists.{IsPrefix}
use Rattle.list_facts.specs.Fold.{ActorStanding}
use Rattle.agreement.specs.History as core
use Rattle.agreement.specs.History.{Group, size, primary_in, Letter}
use Rattle.agreement.specs.Decided as decision
use Rattle.agreement.specs.Journals as journal
use Rattle.agreement.specs.Journals.{Rules, stands, firm}
use Rattle.agreement.specs.Leading as leading
use Rattle.agreement.proofs.Counts.{count_more}
use Rattle.agreement.proofs.Standing.{stands_other, stands_own, stands_valid}
use Rattle.agreement.proofs.Lasting as lasting
use Rattle.agreement.proofs.Leading.{led_law}
use Rattle.vr_log.specs.declared.entry.Entry.{Entry}
use Rattle.vr_log.specs.declared.state.VrState.{VrState}
use Rattle.vr_log.specs.Members as member
use Rattle.controller_moves.specs.MemberMoves.Projection.{group_of, member_state_of}
use Rattle.controller_moves.proofs.MemberMoves.Members.{IsMemberOf, member_of, normal_of, same_primary}
use Rattle.controller_moves.specs.Projection.{OwnInput}
use Rattle.controller_moves.specs.Rules.{SavingController}
use Rattle.controller_moves.proofs.Following.{follow_law}
use Rattle.run_spec.specs.States.{Scene, controller_at}
use Rattle.run_spec.specs.Legal.{results_of}
use Rattle.run_spec.specs.Committed.{kept, decided, controller_state}
use Rattle.run_laws.specs.RunAgreement.Projection.{past_of, rules_of}
use Rattle.run_laws.specs.RunAgreement.Laws.{MostOfRunPromiseUpTo, DecidedOfRunIsLed}
use Rattle.run_laws.proofs.RunAgreement.Agreeing.{past_on, kept_is}
use Rattle.run_laws.proofs.RunAgreement.Journals.{in_group, past_legal}
use Rattle.run_laws.proofs.RunAgreement.Lasting.{WasKept, decided_kept}
use Rattle.run_laws.proofs.RunAgreement.Reading.{IsReadPast, read_drop, read_past}
use Rattle.run_laws.proofs.RunAgreement.Standing.{saving, stands_alike}

-- each of the first m posts, so that no input of theirs may be refused any more
abbrev pub posting : {Own E : Type 0} → ℕ → List (journal.Entry Own E)
posting zero = []
posting (suc m) = journal.Posts m ∷ posting m

-- nothing is owed, and no input may be refused any more
abbrev pub at_rest : {A L : Type 0} → ActorStanding A L → ActorStanding A L
at_rest w = record w { owed = []; fresh = false }

module _ {Own A E : Type 0} (r : Rules Own A E) (g : Group E) where
  pub posting_legal : (m : ℕ) (past : List (journal.Entry Own E)) → m ≤ size g → journal.IsAllowed r g past → journal.IsAllowed r g (posting m ++ past)
  posting_legal zero past b k = k
  posting_legal (suc m) past b k = (omega arith, posting_legal m past (omega arith) k)

  -- who is not among them stands where it stood
  posting_other : (m j : ℕ) (past : List (journal.Entry Own E)) → m ≤ j → stands r j (posting m ++ past) ≡ stands r j past
  posting_other zero j past b = refl
  posting_other (suc m) j past b = stands_other r j (journal.Posts m) (posting m ++ past) (λ e. absurd (omega arith)) ∙ posting_other m j past (omega arith)

  -- and who is owes nothing from then on
  pub posting_stands : (m j : ℕ) (past : List (journal.Entry Own E)) → j < m → stands r j (posting m ++ past) ≡ at_rest (stands r j past)
  posting_stands zero j past b = absurd (omega arith)
  posting_stands (suc m) j past b = elim (cases_eq j m) [
    | inl e ↦
        let rest : List (journal.Entry Own E) = posting m ++ past in
        let own : stands r j (journal.Posts m ∷ rest) ≡ at_rest (stands r j rest) =
        subst (λ (i : ℕ). stands r i (journal.Posts m ∷ rest) ≡ at_rest (stands r i rest)) (sym e) (stands_own r (journal.Posts m) rest) in
        own ∙ ap (λ (w : ActorStanding A (Letter E)). at_rest w) (posting_other m j past (omega arith))
    | inr ne ↦ stands_other r j (journal.Posts m) (posting m ++ past) ne ∙ posting_stands m j past (below ne b)
  ]
    where
      below : j ≢ m → j < suc m → j < m
      below ne b = elim (cases_lt j m) [ inl l ↦ l | inr l ↦ absurd (ne (omega arith)) ]

module _ {B : Type 0} (scene : Scene B) (results : List (List SaveResult)) (most_failures : ℕ) (n : scene.setup.controllers ≡ 2 * most_failures + 1) where
  abbrev r : Rules OwnInput SavingController Entry
  r = rules_of scene most_failures results

  abbrev g : Group Entry
  g = group_of most_failures

  -- a past after which all have posted
  abbrev all_posted : List (JournalEntry B) → List (journal.Entry OwnInput Entry)
  all_posted past = posting (size g) ++ past_of scene past

  whole_group : scene.setup.controllers ≡ 2 * most_failures + 1 → scene.setup.controllers ≡ size g
  unfolding size
  whole_group e = e

  legal_past : (past : List (JournalEntry B)) → IsReadPast scene results past → journal.IsAllowed r g (all_posted past)
  legal_past past k = posting_legal r g (size g) (past_of scene past) (omega arith) (past_legal scene results most_failures n past k).legal

  -- what was committed begins what the moves have decided
  kept_begins : (past : List (JournalEntry B)) → IsReadPast scene results past → (i d : ℕ) → d < scene.setup.controllers → IsPrefix (kept scene results d (drop i past)) (decision.decided_log r g (all_posted past))
  kept_begins past k i d b =
      let late : List (JournalEntry B) = drop i past in
      let x = past_on scene results most_failures n (take i past) late in
      let whole : past_of scene past ≡ x.0 ++ past_of scene late = ap (λ (es : List (JournalEntry B)). past_of scene es) (sym (take-append-drop i past)) ∙ x.1 in
      let all : all_posted past ≡ (posting (size g) ++ x.0) ++ past_of scene late =
      ap (λ (ys : List (journal.Entry OwnInput Entry)). posting (size g) ++ ys) whole ∙ sym (append_assoc (posting (size g)) x.0 (past_of scene late)) in
      let law = lasting.lasting_law r g (posting (size g) ++ x.0) (past_of scene late) (follow_law scene.kinds scene.setup most_failures (λ c. results_of results c))
      (subst (λ (ys : List (journal.Entry OwnInput Entry)). journal.IsAllowed r g ys) all (legal_past past k)) in
      let same = kept_is scene results most_failures n d late (read_drop scene results i past k) in
      subst₂ (λ p q. IsPrefix p (decision.decided_log r g q)) same (sym all) (begun (past_of scene late) refl law.stays (λ e es z. law.holds d e es (in_group scene results most_failures n d b) z))
    where
      begun : (ys : List (journal.Entry OwnInput Entry)) → past_of scene (drop i past) ≡ ys → {zs : List Entry} → IsPrefix (decision.decided_log r g (past_of scene (drop i past))) zs
          → ((e : journal.Entry OwnInput Entry) (es : List (journal.Entry OwnInput Entry)) → past_of scene (drop i past) ≡ e ∷ es → IsPrefix (journal.kept_log r d (past_of scene (drop i past))) (decision.decided_log r g (past_of scene (drop i past))))
          → IsPrefix (journal.kept_log r d (past_of scene (drop i past))) zs
      begun [] e {zs} stays holds = subst (λ (q : List Entry). IsPrefix q zs) (sym (ap (λ (ys : List (journal.Entry OwnInput Entry)). journal.kept_log r d ys) e)) (prefix_nil zs)
      begun (y ∷ ys) e stays holds = prefix_trans (holds y ys e) stays

  -- and so does what is decided
  pub decided_begins : (past : List (JournalEntry B)) → IsReadPast scene results past → IsPrefix (decided scene results past) (decision.decided_log r g (all_posted past))
  decided_begins past k = by_kept (decided scene results past) (decided_kept scene results past)
    where
      by_kept : (xs : List Entry) → WasKept scene results past xs → IsPrefix xs (decision.decided_log r g (all_posted past))
      by_kept xs (inl e) = subst (λ (q : List Entry). IsPrefix q (decision.decided_log r g (all_posted past))) (sym e) (prefix_nil (decision.decided_log r g (all_posted past)))
      by_kept xs (inr z) = subst (λ (q : List Entry). IsPrefix q (decision.decided_log r g (all_posted past))) (sym z.3) (kept_begins past k z.0 z.1 z.2)

  led : (past : List (JournalEntry B)) (c : ℕ) → IsReadPast scene results past → c < scene.setup.controllers → member.leads (controller_state scene results c past).vr ≡ true → MostOfRunPromiseUpTo scene results past most_failures c
      → IsPrefix (decided scene results past) (controller_state scene results c past).vr.log
  led past c k b leading_now many =
      let follow = follow_law scene.kinds scene.setup most_failures (λ c. results_of results c) in
      let all : List (journal.Entry OwnInput Entry) = all_posted past in
      let is_now : (j : ℕ) → (stands r j (past_of scene past)).now ≡ saving (controller_at scene (results_of results j) j (part (actor.Controller j) past)) =
      λ j. (stands_alike scene results most_failures j n past k.possible.orderly).now in
      let at : (j : ℕ) → j < size g → stands r j all ≡ at_rest (stands r j (past_of scene past)) =
      λ j l. posting_stands r g (size g) j (past_of scene past) l in
      let there = in_group scene results most_failures n c b in
      let s : VrState = (controller_state scene results c past).vr in
      let mine : (stands r c all).now ≡ saving (controller_at scene (results_of results c) c (part (actor.Controller c) past)) =
      ap (λ (w : ActorStanding SavingController (Letter Entry)). w.now) (at c there) ∙ is_now c in
      let over : (stands r c all).fresh ≡ false = ap (λ (w : ActorStanding SavingController (Letter Entry)). w.fresh) (at c there) in
      let of : IsMemberOf g c s = member_of g c s (subst (λ (a : SavingController). r.is_valid c a ≡ true) (is_now c) (stands_valid follow c there (past_of scene past)).now) in
      let x = and_parts (member.is_normal s) (member.is_primary s) leading_now in
      let normal : (member_state_of s).status ≡ core.Normal = normal_of s.status x.0 in
      let own : c ≡ primary_in g s.view = sym (sym (same_primary g s of.controllers s.view) ∙ eqb-true (member.primary_of s s.view) s.me x.1 ∙ of.me) in
      let promises : count_below (λ j. nat_le (controller_state scene results j past).vr.promise s.view) (size g) ≤ count_below (λ j. leb (r.promise (firm (stands r j all))) s.view) (size g) =
      count_more (λ j. nat_le (controller_state scene results j past).vr.promise s.view) (λ j. leb (r.promise (firm (stands r j all))) s.view) (size g)
      (λ j l e.
      let is : firm (stands r j all) ≡ saving (controller_at scene (results_of results j) j (part (actor.Controller j) past)) =
      ap (λ (w : ActorStanding SavingController (Letter Entry)). firm w) (at j l) ∙ is_now j in
      ap (λ (a : SavingController). leb (r.promise a) s.view) is ∙ e) in
      let many' : most_failures < count_below (λ j. nat_le (controller_state scene results j past).vr.promise s.view) (size g) =
      subst (λ (m : ℕ). most_failures < count_below (λ j. nat_le (controller_state scene results j past).vr.promise s.view) m) (whole_group n) many in
      let law = subst
      (λ (a : SavingController).
      (let z = r.state a in z.status ≡ core.Normal → c ≡ primary_in g z.view → leading.MostPromiseUpTo g (journal.history r g all) z.view → IsPrefix (decision.decided_log r g all) z.log))
      mine (led_law r g all c follow (legal_past past k) there over) in
      prefix_trans (decided_begins past k) (law normal own (omega arith))

pub decided_law : {B : Type 0} → DecidedOfRunIsLed B
decided_law scene results most_failures past c n read legal b leading_now many = led scene results most_failures n past c (read_past scene results past legal read) b leading_now many
