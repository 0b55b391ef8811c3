-- A controller that led a view above 0 as it posted has f + 1 controllers that promise the view, from then on.
use Rattle.std.proofs.Common.{◌≡◌, ℕ, ◌+◌, ◌*◌, ◌<◌, ◌≤◌, true, nat_le, leb, List, [], ◌∷◌, ◌++◌, refl, sym, ap, ◌∙◌, subst, arith, le_refl, le_trans, append-nil}
use Rattle.std.proofs.lemmas.Bool.{and_parts, eqb-true, leb-true, le-leb}
use Rattle.journal.specs.declared.journal.Actor.TheVariants as actor
use Rattle.journal.specs.declared.journal.JournalEntry.{JournalEntry}
use Rattle.journal.specs.declared.journal.JournalEntry.TheVariants.{Post}
use Rattle.journal.specs.declared.journal.Letter.{Letter}
use Rattle.journal.specs.declared.journal.SaveResult.{SaveResult}
use Rattle.journal.specs.Part.{part}
use Rattle.list_facts.specs.Fold.{ActorStanding}
use Rattle.agreement.specs.Lists.{count_below}
use Rattle.agreement.specs.History as core
use Rattle.agreement.specs.History.{Group, History, size, primary_in}
use Rattle.agreement.specs.Invariant.{Invariant, IsGroup}
use Rattle.agreement.specs.Journals as journal
use Rattle.agreement.specs.Journals.{Rules, Follows, history, stands, firm}
use Rattle.agreement.specs.Laws.{Run, still, then}
use Rattle.agreement.proofs.Agreeing as agreeing
use Rattle.agreement.proofs.Backing.{backed_law}
use Rattle.agreement.proofs.Counts.{count_more}
use Rattle.agreement.proofs.Frame.{promise_more}
use Rattle.agreement.proofs.Journals.{journal_runs}
use Rattle.agreement.proofs.Keeping.{move_keeps}
use Rattle.agreement.proofs.Runs.{start_good, run_keeps}
use Rattle.agreement.proofs.Standing.{stands_own, stands_valid}
use Rattle.vr_log.specs.declared.entry.Entry.{Entry}
use Rattle.vr_log.specs.declared.state.VrState.{VrState}
use Rattle.vr_log.specs.Members as member
use Rattle.controller_moves.specs.MemberMoves.Projection.{group_of, member_state_of, is_member}
use Rattle.controller_moves.proofs.MemberMoves.Members.{IsMemberOf, member_of, normal_of, same_primary}
use Rattle.controller_moves.specs.Projection.{OwnInput}
use Rattle.controller_moves.specs.Rules.{SavingController}
use Rattle.controller_moves.proofs.Following.{follow_law}
use Rattle.run_spec.specs.States.{Scene, controller_at}
use Rattle.run_spec.specs.Legal.{results_of}
use Rattle.run_spec.specs.Committed.{controller_state}
use Rattle.run_laws.specs.RunAgreement.Projection.{past_of, rules_of}
use Rattle.run_laws.proofs.RunAgreement.Agreeing.{past_on}
use Rattle.run_laws.proofs.RunAgreement.Journals.{in_group, past_legal}
use Rattle.run_laws.proofs.RunAgreement.Reading.{IsReadPast, read_before}
use Rattle.run_laws.proofs.RunAgreement.Standing.{saving, stands_alike}

-- no promise falls
run_promises : {E : Type 0} {g : Group E} {h0 h : History E} → IsGroup g → Invariant g h0 → Run g h0 h → (j : ℕ) → h0.promise j ≤ h.promise j
run_promises {h0 = h0} gr i still j = le_refl (h0.promise j)
run_promises gr i (then c b r m) j = le_trans (run_promises gr i r j) (promise_more (move_keeps gr (run_keeps gr i r) b m).step j)

module _ {Own A E : Type 0} {r : Rules Own A E} {g : Group E} (f : Follows r g) (o : 1 ≤ g.most_failures) where
  -- nor in a journal, of what no refusal takes back
  pub promises_rise : (more past : List (journal.Entry Own E)) → journal.IsAllowed r g (more ++ past) → (j : ℕ) → r.promise (firm (stands r j past)) ≤ r.promise (firm (stands r j (more ++ past)))
  promises_rise more past k j =
      let good = agreeing.journal_good f o past (agreeing.legal_past r g more past k) in
      run_promises f.group good (journal_runs f o more past good k) j

  -- f + 1 controllers promise the view of one that leads, at each later time
  pub backed_since : (more past : List (journal.Entry Own E)) (c : ℕ) → journal.IsAllowed r g (more ++ past) → c < size g → (let s = r.state (firm (stands r c past)) in
      s.status ≡ core.Normal → c ≡ primary_in g s.view → 1 ≤ s.view → g.most_failures < count_below (λ j. leb s.view (r.promise (firm (stands r j (more ++ past))))) (size g))
  backed_since more past c k b n is some =
      let k1 = agreeing.legal_past r g more past k in
      let i0 = start_good f.group f.starts in
      let run : Run g (history r g []) (history r g past) =
      subst (λ (x : List (journal.Entry Own E)). Run g (history r g []) (history r g x)) (append-nil past) (journal_runs f o past [] i0 (subst (λ (x : List (journal.Entry Own E)). journal.IsAllowed r g x) (sym (append-nil past)) k1)) in
      let view : ℕ = (r.state (firm (stands r c past))).view in
      let then_many = backed_law g (history r g []) (history r g past) f.group f.starts run c b n is some in
      let more_now = count_more (λ j. leb view (r.promise (firm (stands r j past)))) (λ j. leb view (r.promise (firm (stands r j (more ++ past))))) (size g)
      (λ j l e. let u = leb-true view (r.promise (firm (stands r j past))) e in let p = promises_rise more past k j in le-leb view (r.promise (firm (stands r j (more ++ past)))) (omega (arith, u, p))) in
      omega (arith, then_many, more_now)

pub read_more : {B : Type 0} (scene : Scene B) (results : List (List SaveResult)) (more past : List (JournalEntry B)) → IsReadPast scene results (more ++ past) → IsReadPast scene results past
read_more scene results [] past k = k
read_more scene results (e ∷ more) past k = read_more scene results more past (read_before scene results e (more ++ past) k)

module _ {B : Type 0} (scene : Scene B) (results : List (List SaveResult)) (most_failures : ℕ) (n : scene.setup.controllers ≡ 2 * most_failures + 1) where
  abbrev r : Rules OwnInput SavingController Entry
  r = rules_of scene most_failures results

  abbrev g : Group Entry
  g = group_of most_failures

  whole_group : scene.setup.controllers ≡ 2 * most_failures + 1 → scene.setup.controllers ≡ size g
  unfolding size
  whole_group e = e

  abbrev at : ℕ → List (JournalEntry B) → SavingController
  at j past = saving (controller_at scene (results_of results j) j (part (actor.Controller j) past))

  legal : (past : List (JournalEntry B)) → IsReadPast scene results past → journal.IsAllowed r g (past_of scene past)
  legal past k = (past_legal scene results most_failures n past k).legal

  is_now : (past : List (JournalEntry B)) → IsReadPast scene results past → (j : ℕ) → (stands r j (past_of scene past)).now ≡ at j past
  is_now past k j = (stands_alike scene results most_failures j n past k.possible.orderly).now

  -- each is a member of the group
  pub member_at : (past : List (JournalEntry B)) → IsReadPast scene results past → (d : ℕ) → d < scene.setup.controllers → is_member g d (controller_state scene results d past).vr ≡ true
  member_at past k d b =
      let follow = follow_law scene.kinds scene.setup most_failures (λ c. results_of results c) in
      subst (λ (a : SavingController). r.is_valid d a ≡ true) (is_now past k d) (stands_valid follow d (in_group scene results most_failures n d b) (past_of scene past)).now

  -- one that leads is normal, and the primary of its view
  leads_as : (past : List (JournalEntry B)) → IsReadPast scene results past → (d : ℕ) → d < scene.setup.controllers → (let s = (controller_state scene results d past).vr in
      member.leads s ≡ true → ((member_state_of s).status ≡ core.Normal) × (d ≡ primary_in g s.view))
  leads_as past k d b leading =
      let s : VrState = (controller_state scene results d past).vr in
      let of : IsMemberOf g d s = member_of g d s (member_at past k d b) in
      let x = and_parts (member.is_normal s) (member.is_primary s) leading in
      (normal_of s.status x.0, sym (sym (same_primary g s of.controllers s.view) ∙ eqb-true (member.primary_of s s.view) s.me x.1 ∙ of.me))

  abbrev Backed : ℕ → List (journal.Entry OwnInput Entry) → Type 0
  Backed view es = most_failures < count_below (λ j. leb view (r.promise (firm (stands r j es)))) (size g)

  module _ (o : 1 ≤ most_failures) where
    -- what f + 1 have promised for good they promise now
    now_promised : (view : ℕ) (es : List (journal.Entry OwnInput Entry)) (past : List (JournalEntry B)) → IsReadPast scene results past → journal.IsAllowed r g es →
        ((j : ℕ) → (stands r j es).now ≡ (stands r j (past_of scene past)).now) → Backed view es → most_failures < count_below (λ j. nat_le view (controller_state scene results j past).vr.promise) scene.setup.controllers
    now_promised view es past k fine same many =
        let follow = follow_law scene.kinds scene.setup most_failures (λ c. results_of results c) in
        let settle : count_below (λ j. leb view (r.promise (firm (stands r j es)))) (size g) ≤ count_below (λ j. nat_le view (controller_state scene results j past).vr.promise) (size g) =
        count_more (λ j. leb view (r.promise (firm (stands r j es)))) (λ j. nat_le view (controller_state scene results j past).vr.promise) (size g)
        (λ j l h.
        let rises = promises_rise follow o (journal.Posts j ∷ []) es (l, fine) j in
        let is : r.promise (firm (stands r j (journal.Posts j ∷ es))) ≡ (controller_state scene results j past).vr.promise =
        ap (λ (w : ActorStanding SavingController (core.Letter Entry)). r.promise (firm w)) (stands_own r (journal.Posts j) es) ∙ ap (λ (a : SavingController). r.promise a) (same j ∙ is_now past k j) in
        let u = leb-true view (r.promise (firm (stands r j es))) h in
        le-leb view (controller_state scene results j past).vr.promise (omega (arith, u, rises, is))) in
        subst (λ (m : ℕ). most_failures < count_below (λ j. nat_le view (controller_state scene results j past).vr.promise) m) (sym (whole_group n)) (omega (arith, many, settle))

    -- and for ever that of one that led as it posted
    pub backed_now : (more before : List (JournalEntry B)) (d first lost : ℕ) (letters : List (Letter B)) → IsReadPast scene results (more ++ Post (actor.Controller d) first letters lost ∷ before) → d < scene.setup.controllers →
        (let s = (controller_state scene results d before).vr in
        member.leads s ≡ true → 1 ≤ s.view →
        most_failures < count_below (λ j. nat_le s.view (controller_state scene results j (more ++ Post (actor.Controller d) first letters lost ∷ before)).vr.promise) scene.setup.controllers)
    backed_now more before d first lost letters k b leading some =
        let e : JournalEntry B = Post (actor.Controller d) first letters lost in
        let past : List (JournalEntry B) = more ++ e ∷ before in
        let follow = follow_law scene.kinds scene.setup most_failures (λ c. results_of results c) in
        let k1 = read_before scene results e before (read_more scene results more (e ∷ before) k) in
        let there = in_group scene results most_failures n d b in
        let s : VrState = (controller_state scene results d before).vr in
        let as_it = leads_as before k1 d b leading in
        let mine : firm (stands r d (past_of scene (e ∷ before))) ≡ at d before =
        ap (λ (w : ActorStanding SavingController (core.Letter Entry)). firm w) (stands_own r (journal.Posts d) (past_of scene before)) ∙ is_now before k1 d in
        let on = past_on scene results most_failures n more (e ∷ before) in
        let many : Backed s.view (past_of scene past) =
        subst (λ (es : List (journal.Entry OwnInput Entry)). Backed s.view es) (sym on.1)
        (subst (λ (a : SavingController). (let z = r.state a in z.status ≡ core.Normal → d ≡ primary_in g z.view → 1 ≤ z.view → Backed z.view (on.0 ++ past_of scene (e ∷ before)))) mine
        (backed_since follow o on.0 (past_of scene (e ∷ before)) d (subst (λ (es : List (journal.Entry OwnInput Entry)). journal.IsAllowed r g es) on.1 (legal past k)) there) as_it.0 as_it.1 some) in
        now_promised s.view (past_of scene past) past k (legal past k) (λ j. refl) many
