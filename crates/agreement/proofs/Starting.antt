-- What several cases of the rules share: proposals, the own vote, and the start of a view.
use Rattle.std.proofs.Common.{◌≡◌, ◌≢◌, ℕ, ◌+◌, ◌<◌, ◌≤◌, inl, inr, eqb, List, [], ◌∷◌, ◌++◌, length, take, drop, map, refl, sym, ap, ◌∙◌, subst}
use Rattle.std.proofs.lemmas.Bool.{cond-true, cond-false, eq-eqb, ne_eqb}
use Rattle.list_facts.proofs.Prefixes.{prefix_append}
use Rattle.list_facts.specs.Lists.{IsIn}
use Rattle.agreement.specs.History.{Group, size, primary_in, Normal, ViewChange, Vote, Message, Prepare, StartView, Letter, State, History}
use Rattle.agreement.specs.Quorums.{is_prepare_ok}
use Rattle.agreement.specs.Invariant.{IsGoodMessage, IsGoodLetter, IsGroup}
use Rattle.agreement.specs.Moves.{AcknowledgeNothing, AreFrom, collecting, appended_to_history, started, Collects, Proposes, Starts, Speaks, IsBest}
use Rattle.agreement.specs.Turns.{KeepsCommitted}
use Rattle.agreement.specs.Effects.{front_of, prepares_entry, proposing_entries, proposing_letters, AreLogs, tells_view}
use Rattle.agreement.proofs.OwedStates.{no_letters}
use Rattle.agreement.proofs.Turns.{start_begins}
use Rattle.agreement.proofs.Conditions.{own_news, own_good_vote}
use Rattle.agreement.proofs.Suffixes.{front_whole, front_certified}
use Rattle.agreement.proofs.Chains.{moved_after, quiet_after, moved_growth, grown_growth}
use Rattle.agreement.proofs.Walks.{Walk, Tail, with_log, walk_on, walk_good, tail_good, tail_start, tail_says, tail_grows}

prepares_say : {E : Type 0} (c : ℕ) (to : List ℕ) (s : State E) (e : E) (x : Letter E) → IsIn x (prepares_entry c to s e) → (x.sender ≡ c) × (x.message ≡ Prepare s.view (length s.log + 1) s.commit e)
prepares_say c [] s e x i = absurd i
prepares_say {E = E} c (j ∷ js) s e x i = elim i [
  | inl z ↦ (ap (λ (y : Letter E). y.sender) z, ap (λ (y : Letter E). y.message) z)
  | inr k ↦ prepares_say c js s e x k
]

module _ {E : Type 0} {g : Group E} {h : History E} {c : ℕ} {p l : ℕ} (gr : IsGroup g) (b : c < size g) where
  -- proposals of a normal primary
  pub tail_proposes : (to : List ℕ) (es : List E) {s : State E} {new : List (Letter E)} {logs : ℕ → List E} → Tail g c h s p l new logs → s.status ≡ Normal → c ≡ primary_in g s.view → AreLogs g s.log es → logs s.view ≡ s.log
      → (logs' : ℕ → List E) × Tail g c h (proposing_entries s es) p l (proposing_letters c to s es new) logs' × (logs' s.view ≡ (proposing_entries s es).log) × ((v : ℕ) → v ≢ s.view → logs' v ≡ logs v)
  tail_proposes to [] {s} {new} {logs} w n is valid own = (logs, w, own, (λ v ne. refl))
  tail_proposes to (e ∷ es) {s} {new} {logs} w n is valid own =
      let s' : State E = appended_to_history s (s.log ++ e ∷ []) in
      let log : List E = s.log ++ e ∷ [] in
      let new' : List (Letter E) = prepares_entry c to s e in
      let leaves : KeepsCommitted s s' = record { status = refl; commit = λ u. refl; longer = λ u. prefix_append s.log (e ∷ []) } in
      let w' = tail_grows gr b w s' new' s.view log leaves (Proposes e new' n is valid.0 (prepares_say c to s e) (moved_growth w.at c s' p l new' s.view log) (grown_growth w.at c s' p l new' s.view log)) in
      let r = tail_proposes to es w' n is valid.1 (cond-true (eqb s.view s.view) log (logs s.view) (eq-eqb s.view s.view refl)) in
      (r.0, r.1, r.2, (λ v ne. r.3 v ne ∙ cond-false (eqb v s.view) log (logs v) (ne_eqb v s.view ne)))

tells_say : {E : Type 0} (c : ℕ) (to : List ℕ) (base : ℕ) (s : State E) (x : Letter E) → IsIn x (tells_view c to base s) → (x.sender ≡ c) × (x.message ≡ StartView s.view base s.commit (drop base s.log))
tells_say c [] base s x i = absurd i
tells_say {E = E} c (j ∷ js) base s x i = elim i [
  | inl z ↦ (ap (λ (y : Letter E). y.sender) z, ap (λ (y : Letter E). y.message) z)
  | inr k ↦ tells_say c js base s x k
]

module _ {E : Type 0} {g : Group E} {h : History E} {c : ℕ} {s : State E} {p l : ℕ} {new : List (Letter E)} (gr : IsGroup g) (b : c < size g) where
  -- good letters are posted
  pub walk_says : (w : Walk g c h s p l new) (out : List (Letter E)) → AreFrom c out → AcknowledgeNothing out → ((x : Letter E) → IsIn x out → IsGoodLetter g w.at x) → Walk g c h s p l (out ++ new)
  walk_says w out from' unlike good = walk_on gr b w s p l out unlike (Speaks out from' unlike good (moved_after w.at c s p l out) (quiet_after w.at c s p l out))

  -- the primary collects its own vote
  pub walk_own_vote : Walk g c h s p l new → s.status ≡ ViewChange → c ≡ primary_in g s.view → (¬ IsIn c (map (λ x. x.from) s.collected))
      → Walk g c h (collecting s (record { from = c; normal = s.normal; commit = s.commit; rest = drop s.commit s.log })) p l new
  walk_own_vote w n is new' =
      let own : Vote E = record { from = c; normal = s.normal; commit = s.commit; rest = drop s.commit s.log } in
      let s' : State E = collecting s own in
      walk_on gr b w s' p l [] no_letters (Collects own n is new' b (own_good_vote (walk_good gr b w) n) (moved_after w.at c s' p l []) (quiet_after w.at c s' p l []))

  -- the view starts, and the others are told
  pub tail_begins : Walk g c h s p l new → (to : List ℕ) (base : ℕ) (star most : Vote E) (log : List E) → s.status ≡ ViewChange → c ≡ primary_in g s.view → g.most_failures < length s.collected → IsIn star s.collected
      → IsBest s.collected star → IsIn most s.collected
      → star.commit ≤ length (front_of s) → log ≡ take star.commit (front_of s) ++ star.rest
      → Tail g c h (started s log most.commit) p l (tells_view c to base (started s log most.commit) ++ new) (with_log h.logs s.view log)
  tail_begins w to base star most log n is many in' best in'' long made =
      let r = walk_good gr b w in
      let good = (r.ballot n is).each star in' in
      let same : log ≡ good.whole = made ∙ front_whole w.inv (front_certified w.inv r n) long good in
      subst (λ (x : List E). Tail g c h (started s x most.commit) p l (tells_view c to base (started s x most.commit) ++ new) (with_log h.logs s.view x)) (sym same)
      (let s' : State E = started s good.whole most.commit in
      let t = tail_start gr b w s' p l s.view good.whole
      (Starts star most good n is many best in'' (moved_growth w.at c s' p l [] s.view good.whole) (grown_growth w.at c s' p l [] s.view good.whole))
      (λ h' e. start_begins r star most good n is many best in'' e) in
      let news = own_news (tail_good gr b t) base refl in
      let out : List (Letter E) = tells_view c to base s' in
      tail_says gr b t out (Speaks out (λ x j. (tells_say c to base s' x j).0) (λ x j v m. ap (λ (y : Message E). is_prepare_ok y v m) (tells_say c to base s' x j).1)
      (λ x j. subst (λ (y : Message E). IsGoodMessage g t.at x.sender x.receiver y) (sym (tells_say c to base s' x j).1) news)
      (moved_after t.at c s' p l out) (quiet_after t.at c s' p l out)))
