-- The cases of the rules are turns, where each view's log follows its primary.
use Rattle.std.proofs.Common.{◌≡◌, ◌≢◌, ℕ, ◌+◌, ◌-◌, ◌<◌, ◌≤◌, min, max, ◌⊎◌, inl, inr, Bool, true, false, ◌&&◌, eqb, leb, List, [], ◌∷◌, ◌++◌, length, take, drop, map, refl, sym, ap, ◌∙◌, subst, arith, append-nil, length-append}
use Rattle.std.proofs.lemmas.Bool.{cases_eq, cases_Bool, and_parts, and_from, eqb-true, eq-eqb, ne_eqb, cond-true, cond-false, and_right}
use Rattle.agreement.specs.Lists.{count_below, without_controller}
use Rattle.list_facts.proofs.Prefixes.{prefix_append, prefix_length}
use Rattle.list_facts.specs.Lists.{IsIn, IsPrefix}
use Rattle.agreement.specs.History.{Group, size, primary_in, Normal, ViewChange, Recovering, Down, Vote, Supplied, Filled, Message, PrepareOk, DoViewChange, Supply, Recovery, RecoveryResponse, Letter, Response, State, History, abstract_letter}
use Rattle.agreement.specs.Quorums.{is_prepare_ok, backed, IsCommitted}
use Rattle.agreement.specs.Invariant.{is_up_status, IsGoodLetter, IsGoodPrepare, IsGoodNews, Invariant, IsGroup}
use Rattle.agreement.specs.Moves.{Moved, LogsStay, LogBecomes, AcknowledgeNothing, AreFrom, Resembles, entered, collecting, supplying, adopted, started, hearing, fallen, risen, appended_to_history, committing, counting, Counts, Appends, Commits, Enters, Collects, Stocks, Adopts, Acknowledges, Keeps, Recovers, Falls, Rises, Speaks, StandsAt, IsBest}
use Rattle.agreement.specs.Turns.{Turn}
use Rattle.agreement.specs.Effects.{front_of, proposing_entries, proposing_letters, AreLogs, tells_view, ack_if}
use Rattle.agreement.specs.Journals.{is_normal_status, tracked, Tracks}
use Rattle.agreement.proofs.Quorums.{committed_less, committed_max}
use Rattle.agreement.proofs.Consequences.{own_log, heard_answer, up_not_down, own_of_view, adopted_above}
use Rattle.agreement.proofs.OwedStates.{no_letters}
use Rattle.agreement.proofs.Conditions.{prepare_grows, news_longer, acknowledged_accepted, majority_quorum}
use Rattle.agreement.proofs.Suffixes.{suffix}
use Rattle.agreement.proofs.Chains.{moved_after, quiet_after}
use Rattle.agreement.proofs.Walks.{Walk, Tail, walk_at, good_at, walk_on, walk_good, tail_of, tail_says, tail_end}
use Rattle.agreement.proofs.Starting.{tail_begins, tail_proposes}
use Rattle.agreement.proofs.Journals.{is_normal_true}

pub proposing_same : {E : Type 0} (s : State E) (es : List E) → ((proposing_entries s es).view ≡ s.view) × ((proposing_entries s es).status ≡ s.status)
proposing_same s [] = (refl, refl)
proposing_same {E = E} s (e ∷ es) = proposing_same (record s { log = s.log ++ e ∷ [] }) es

module _ {E : Type 0} {g : Group E} {h h' : History E} {c : ℕ} {s' : State E} {p l : ℕ} {new : List (Letter E)} (t : Moved h h' c s' p l new) (k : Tracks g h h' c) where
  -- no view's log changes, where a Normal primary has the log of its view
  pub quiet_by : (s'.status ≡ Normal → c ≡ primary_in g s'.view → s'.log ≡ h.logs s'.view) → LogsStay h h'
  quiet_by same = record {
    same = λ v. elim (cases_eq c (primary_in g v)) [
      | inr ne ↦ k.others v ne
      | inl is ↦ k.own v is ∙ ap (λ (s : State E). tracked v s (h.logs v)) t.state_own ∙ elim (cases_Bool (is_normal_status s'.status && eqb s'.view v)) [
        | inl e ↦
            let x = and_parts (is_normal_status s'.status) (eqb s'.view v) e in
            let z : s'.view ≡ v = eqb-true s'.view v x.1 in
            cond-true (is_normal_status s'.status && eqb s'.view v) s'.log (h.logs v) e ∙ same (is_normal_true s'.status x.0) (is ∙ ap (primary_in g) (sym z)) ∙ ap h.logs z
        | inr e ↦ cond-false (is_normal_status s'.status && eqb s'.view v) s'.log (h.logs v) e
      ]
    ];
  }

  -- the log of its view is the state's
  pub grown_by : s'.status ≡ Normal → c ≡ primary_in g s'.view → LogBecomes h h' s'.view s'.log
  grown_by n is = record {
    here = k.own s'.view is ∙ ap (λ (s : State E). tracked s'.view s (h.logs s'.view)) t.state_own
        ∙ cond-true (is_normal_status s'.status && eqb s'.view s'.view) s'.log (h.logs s'.view) (and_from (is_normal_status s'.status) (eqb s'.view s'.view) (ap is_normal_status n) (eq-eqb s'.view s'.view refl));
    others = λ v ne. elim (cases_eq c (primary_in g v)) [
      | inr z ↦ k.others v z
      | inl z ↦ k.own v z ∙ ap (λ (s : State E). tracked v s (h.logs v)) t.state_own
          ∙ cond-false (is_normal_status s'.status && eqb s'.view v) s'.log (h.logs v) (and_right (is_normal_status s'.status) (eqb s'.view v) (ne_eqb s'.view v (λ e. ne (sym e))))
    ];
  }

module _ {E : Type 0} {g : Group E} {h h' : History E} {c : ℕ} {s' : State E} (gr : IsGroup g) (i : Invariant g h) (b : c < size g) where
  -- the end of a walk by which c has a log of a view that is another's, with an acknowledgement or none
  end_adopted : {s : State E} {p l : ℕ} (to : ℕ) (acks : Bool) → Walk g c h s p l [] → s.status ≡ Normal → c ≢ primary_in g s.view
      → Resembles s s' → Moved h h' c s' p l (ack_if acks c to s.view (length s.log)) → Tracks g h h' c → Turn g c h h'
  end_adopted {s} {p} {l} to acks w n ne like t tr = ends acks t (quiet_by t tr (λ z is. absurd (ne (is ∙ ap (primary_in g) (like.view (ap is_up_status n))))))
    where
      ends : (acks : Bool) → Moved h h' c s' p l (ack_if acks c to s.view (length s.log)) → LogsStay h h' → Turn g c h h'
      ends false t q = tail_end gr b (tail_of gr b w) t like (λ y j. j) (λ y j. j) q.same
      ends true t q =
          let out : List (Letter E) = abstract_letter c to (PrepareOk s.view (length s.log)) ∷ [] in
          let w2 = tail_of gr b w in
          let w3 = tail_says gr b w2 out (Acknowledges to n ne (moved_after w2.at c s p l out) (quiet_after w2.at c s p l out)) in
          tail_end gr b w3 t like (λ y j. j) (λ y j. j) q.same

  -- RECOVERYRESPONSE that is kept
  pub turn_keep : {s : State E} {p l : ℕ} → Walk g c h s p l [] → s.status ≡ Recovering → Resembles s s' → Moved h h' c s' p l [] → Tracks g h h' c → Turn g c h h'
  turn_keep {s} w n like t tr =
      let q = quiet_by t tr (λ z is. absurd (let e : Recovering ≡ Normal = sym n ∙ sym like.status ∙ z in cc)) in
      tail_end gr b (tail_of gr b w) t like (λ y m. m) (λ y m. m) q.same

  -- a walk that ends with the start of a view: STARTVIEW to the others, and proposals
  pub end_start : {s : State E} {p l : ℕ} {new new' : List (Letter E)} → Walk g c h s p l new → (to : List ℕ) (base : ℕ) (es : List E) (star most : Vote E) (log : List E) → s.status ≡ ViewChange → c ≡ primary_in g s.view
      → g.most_failures < length s.collected → IsIn star s.collected → IsBest s.collected star → IsIn most s.collected
      → star.commit ≤ length (front_of s) → log ≡ take star.commit (front_of s) ++ star.rest → AreLogs g log es
      → (let s1 = started s log most.commit in
      Resembles (proposing_entries s1 es) s' × Moved h h' c s' p l new'
      × ((x : Letter E) → IsIn x (proposing_letters c to s1 es (tells_view c to base s1 ++ new)) → IsIn x new') × ((x : Letter E) → IsIn x new' → IsIn x (proposing_letters c to s1 es (tells_view c to base s1 ++ new))))
      → Tracks g h h' c → Turn g c h h'
  end_start {s} w to base es star most log n is many in' best in'' long made valid now tr =
      let s1 : State E = started s log most.commit in
      let w2 = tail_begins gr b w to base star most log n is many in' best in'' long made in
      let r = tail_proposes gr b to es w2 refl is valid (cond-true (eqb s.view s.view) log (h.logs s.view) (eq-eqb s.view s.view refl)) in
      let same = proposing_same s1 es in
      let view : s'.view ≡ s.view = now.0.view (ap is_up_status same.1) ∙ same.0 in
      let grown = grown_by now.1 tr (now.0.status ∙ same.1) (is ∙ ap (primary_in g) (sym view)) in
      tail_end gr b r.1 now.1 now.0 now.2 now.3 (λ v. elim (cases_eq v s.view) [
        | inl z ↦ ap h'.logs (z ∙ sym view) ∙ grown.here ∙ now.0.log (up_not_down (proposing_entries s1 es).status (ap is_up_status same.1)) ∙ sym r.2 ∙ ap r.0 (sym z)
        | inr z ↦ grown.others v (λ e. z (e ∙ view)) ∙ sym (r.3 v z ∙ cond-false (eqb v s.view) log (h.logs v) (ne_eqb v s.view z))
      ])

  -- a walk that ends in a view change
  pub end_changing : {s : State E} {p l : ℕ} {new new' : List (Letter E)} → Walk g c h s p l new → s.status ≡ ViewChange → Resembles s s' → Moved h h' c s' p l new'
      → ((x : Letter E) → IsIn x new → IsIn x new') → ((x : Letter E) → IsIn x new' → IsIn x new) → Tracks g h h' c → Turn g c h h'
  end_changing w n like t into back tr =
      let q = quiet_by t tr (λ z is. absurd (let e : ViewChange ≡ Normal = sym n ∙ sym like.status ∙ z in cc)) in
      tail_end gr b (tail_of gr b w) t like into back q.same

  -- a walk of a normal primary that ends with proposals
  end_proposes : {s : State E} {p l : ℕ} {new : List (Letter E)} → Walk g c h s p l [] → (to : List ℕ) (es : List E) → s.status ≡ Normal → c ≡ primary_in g s.view → h.logs s.view ≡ s.log → AreLogs g s.log es
      → Resembles (proposing_entries s es) s' → Moved h h' c s' p l new
      → ((x : Letter E) → IsIn x (proposing_letters c to s es []) → IsIn x new) → ((x : Letter E) → IsIn x new → IsIn x (proposing_letters c to s es [])) → Tracks g h h' c → Turn g c h h'
  end_proposes {s} w to es n is own valid like t into back tr =
      let r = tail_proposes gr b to es (tail_of gr b w) n is valid own in
      let same = proposing_same s es in
      let up : is_up_status (proposing_entries s es).status ≡ true = ap is_up_status (same.1 ∙ n) in
      let view : s'.view ≡ s.view = like.view up ∙ same.0 in
      let grown = grown_by t tr (like.status ∙ same.1 ∙ n) (is ∙ ap (primary_in g) (sym view)) in
      tail_end gr b r.1 t like into back (λ v. elim (cases_eq v s.view) [
        | inl z ↦ ap h'.logs (z ∙ sym view) ∙ grown.here ∙ like.log (up_not_down (proposing_entries s es).status up) ∙ sym r.2 ∙ ap r.0 (sym z)
        | inr z ↦ grown.others v (λ e. z (e ∙ view)) ∙ sym (r.3 v z)
      ])

module _ {E : Type 0} {g : Group E} {h h' : History E} {c : ℕ} {s' : State E} {st : State E} {promise life : ℕ} (gr : IsGroup g) (i : Invariant g h) (b : c < size g) (stand : StandsAt h c st promise life) where
  -- STARTVIEW and NEWSTATE of a later view: its log is adopted, and acknowledged where it has more than is committed
  pub turn_adopt : (w m k to : ℕ) (rest : List E) (acks : Bool) → is_up_status st.status ≡ true → c ≢ primary_in g w → IsGoodNews g h w m k rest → m ≤ st.commit
      → (st.view < w) ⊎ ((st.view ≡ w) × (st.status ≡ ViewChange))
      → (let log = take m st.log ++ rest in
      Resembles (adopted st w log (max st.commit k)) s' × Moved h h' c s' w life (ack_if acks c to w (length log)))
      → Tracks g h h' c → Turn g c h h'
  turn_adopt w m k to rest acks up ne news small later now tr =
      let r = good_at i b stand in
      let above : st.normal < w = adopted_above r up later in
      let same : take m st.log ++ rest ≡ news.log = suffix i (r.of_view up) above news.of_view small news.rest_is in
      subst (λ (log : List E). Resembles (adopted st w log (max st.commit k)) s' × Moved h h' c s' w life (ack_if acks c to w (length log)) → Turn g c h h') (sym same)
      (λ z.
      let s1 : State E = adopted st w news.log (max st.commit k) in
      let w0 = walk_at i stand in
      let w1 = walk_on gr b w0 s1 w life [] no_letters (Adopts w k news.log up ne news.of_view later (moved_after w0.at c s1 _ _ []) (quiet_after w0.at c s1 _ _ [])) in
      end_adopted gr i b to acks w1 refl ne z.0 z.1 tr)
      now

  -- a recovery ends with a filled response that is kept, which its view's primary has posted
  pub turn_recover : {s : State E} (walk : Walk g c h s promise life []) (x : Response E) (k to : ℕ) (log : List E) (acks : Bool) → s.status ≡ Recovering → IsIn x s.responses → x.answer ≡ Filled k log → promise ≤ x.view
      → Resembles (adopted s x.view log k) s' → Moved h h' c s' x.view life (ack_if acks c to x.view (length log)) → Tracks g h h' c → Turn g c h h'
  turn_recover {s} walk x k to log acks n in' is above like t tr =
      let s1 : State E = adopted s x.view log k in
      let own : walk.at.state c ≡ s = walk.moved.state_own in
      let good = heard_answer walk.inv c b (ap (λ (z : State E). z.status) own ∙ n) x (subst (λ (z : State E). IsIn x z.responses) (sym own) in') k log is in
      let apart = ((walk_good gr b walk).heard n x in').0 in
      let ne : c ≢ primary_in g x.view = λ z. apart (good.by_primary ∙ sym z) in
      let w1 = walk_on gr b walk s1 x.view life [] no_letters
      (Recovers x.view k log n above ne good.of_view (good.fresh (ap (λ (z : State E). z.status) own ∙ n) refl) (moved_after walk.at c s1 _ _ []) (quiet_after walk.at c s1 _ _ [])) in
      end_adopted gr i b to acks w1 refl ne like t tr

  -- a crash, and a save that fails
  pub turn_fall : (new_promise new_life : ℕ) → promise ≤ new_promise → life ≤ new_life → Resembles (fallen st) s' → Moved h h' c s' new_promise new_life [] → Tracks g h h' c → Turn g c h h'
  turn_fall new_promise new_life up older like t tr =
      let s1 : State E = fallen st in
      let w0 = walk_at i stand in
      let w1 = walk_on gr b w0 s1 new_promise new_life [] no_letters (Falls new_promise new_life up older (moved_after w0.at c s1 _ _ []) (quiet_after w0.at c s1 _ _ [])) in
      let q = quiet_by t tr (λ z is. absurd (let e : Down ≡ Normal = sym like.status ∙ z in cc)) in
      tail_end gr b (tail_of gr b w1) t like (λ y m. m) (λ y m. m) q.same

  -- a restart
  pub turn_rise : (new : List (Letter E)) → st.status ≡ Down → ((x : Letter E) → IsIn x new → (x.sender ≡ c) × (x.message ≡ Recovery (life + 1) promise)) → Resembles (risen st) s'
      → Moved h h' c s' promise (life + 1) new → Tracks g h h' c → Turn g c h h'
  turn_rise new n says like t tr =
      let s1 : State E = risen st in
      let w0 = walk_at i stand in
      let w1 = walk_on gr b w0 s1 promise (life + 1) new (λ x j v m. ap (λ (y : Message E). is_prepare_ok y v m) (says x j).1) (Rises new n says (moved_after w0.at c s1 _ _ new) (quiet_after w0.at c s1 _ _ new)) in
      let q = quiet_by t tr (λ z is. absurd (let e : Recovering ≡ Normal = sym like.status ∙ z in cc)) in
      tail_end gr b (tail_of gr b w1) t like (λ y m. subst (λ (ls : List (Letter E)). IsIn y ls) (append-nil new) m) (λ y m. subst (λ (ls : List (Letter E)). IsIn y ls) (sym (append-nil new)) m) q.same

  -- cases that only post letters
  pub turn_speak : (new : List (Letter E)) → AreFrom c new → AcknowledgeNothing new → ((x : Letter E) → IsIn x new → IsGoodLetter g h x) → Resembles st s' → Moved h h' c s' promise life new → LogsStay h h' → Turn g c h h'
  turn_speak new from' unlike good like t q =
      let w0 = walk_at i stand in
      let w1 = walk_on gr b w0 st promise life new unlike (Speaks new from' unlike good (moved_after w0.at c st _ _ new) (quiet_after w0.at c st _ _ new)) in
      tail_end gr b (tail_of gr b w1) t like (λ y m. subst (λ (ls : List (Letter E)). IsIn y ls) (append-nil new) m) (λ y m. subst (λ (ls : List (Letter E)). IsIn y ls) (sym (append-nil new)) m) q.same

  -- PREPARE of the next place: the log goes on, more may be committed, and it is acknowledged
  pub turn_prepare : (to place k : ℕ) (e : E) → st.status ≡ Normal → c ≢ primary_in g st.view → IsGoodPrepare g h st.view place k e → place ≡ length st.log + 1
      → (let log = st.log ++ e ∷ [] in
      Resembles (committing (appended_to_history st log) (max st.commit (min k (length log)))) s' × Moved h h' c s' promise life (ack_if true c to st.view (length log)))
      → Tracks g h h' c → Turn g c h h'
  turn_prepare to place k e n ne good is now tr =
      let s : State E = st in
      let row = prepare_grows (good_at i b stand) place k e n good is in
      let log : List E = s.log ++ e ∷ [] in
      let long = length-append s.log (e ∷ []) in
      let fits = ((good_at i b stand).of_view (ap is_up_status n)).within in
      let k' : ℕ = max s.commit (min k (length log)) in
      let s1 : State E = appended_to_history s log in
      let s2 : State E = committing s1 k' in
      let w0 = walk_at i stand in
      let w1 = walk_on gr b w0 s1 promise life [] no_letters (Appends log n ne (prefix_append s.log (e ∷ [])) row.0 (moved_after w0.at c s1 _ _ []) (quiet_after w0.at c s1 _ _ [])) in
      let w2 = walk_on gr b w1 s2 promise life [] no_letters (Commits k' n (omega arith) (omega arith) (w1.committed s.view k' row.1) (moved_after w1.at c s2 _ _ []) (quiet_after w1.at c s2 _ _ [])) in
      end_adopted gr i b to true w2 n ne now.0 now.1 tr

  -- NEWSTATE of the own view: the same
  pub turn_new_state : (m k to : ℕ) (rest : List E) → st.status ≡ Normal → c ≢ primary_in g st.view → IsGoodNews g h st.view m k rest → m ≤ length st.log → length st.log < m + length rest
      → (let log = st.log ++ drop (length st.log - m) rest in
      Resembles (committing (appended_to_history st log) (max st.commit (min k (length log)))) s' × Moved h h' c s' promise life (ack_if true c to st.view (length log)))
      → Tracks g h h' c → Turn g c h h'
  turn_new_state m k to rest n ne news l more now tr =
      let s : State E = st in
      let log : List E = s.log ++ drop (length s.log - m) rest in
      let row = news_longer (good_at i b stand) m k rest n news l more in
      let p : IsPrefix s.log log = prefix_append s.log (drop (length s.log - m) rest) in
      let up : IsPrefix log (h.logs s.view) = subst (λ (y : List E). IsPrefix y (h.logs s.view)) (sym row.3) row.2 in
      let fits = ((good_at i b stand).of_view (ap is_up_status n)).within in
      let len = prefix_length p in
      let own = own_of_view (good_at i b stand) n in
      let k' : ℕ = max s.commit (min k (length log)) in
      let s1 : State E = appended_to_history s log in
      let s2 : State E = committing s1 k' in
      let w0 = walk_at i stand in
      let w1 = walk_on gr b w0 s1 promise life [] no_letters (Appends log n ne p up (moved_after w0.at c s1 _ _ []) (quiet_after w0.at c s1 _ _ [])) in
      let w2 = walk_on gr b w1 s2 promise life [] no_letters
      (Commits k' n (omega arith) (omega arith) (w1.committed s.view k' (committed_max own.committed (committed_less row.5 (omega arith) (omega arith)))) (moved_after w1.at c s2 _ _ []) (quiet_after w1.at c s2 _ _ [])) in
      end_adopted gr i b to true w2 n ne now.0 now.1 tr

  -- PREPAREOK that lets nothing more be committed
  pub turn_count : (j place : ℕ) → st.status ≡ Normal → c ≡ primary_in g st.view → j ≢ c → IsIn (abstract_letter j c (PrepareOk st.view place)) h.sent
      → Resembles (counting st j place) s' → Moved h h' c s' promise life [] → Tracks g h h' c → Turn g c h h'
  turn_count j place n is ne at like t tr =
      let s1 : State E = counting st j place in
      let w0 = walk_at i stand in
      let w1 = walk_on gr b w0 s1 promise life [] no_letters (Counts j place n is ne (acknowledged_accepted (good_at i b stand) j place n is ne at) (moved_after w0.at c s1 _ _ []) (quiet_after w0.at c s1 _ _ [])) in
      let view : s'.view ≡ st.view = like.view (ap is_up_status n) in
      let q = quiet_by t tr (λ z p. like.log (up_not_down st.status (ap is_up_status n)) ∙ sym (own_log (good_at i b stand) n is) ∙ ap h.logs (sym view)) in
      tail_end gr b (tail_of gr b w1) t like (λ y m. m) (λ y m. m) q.same

  -- proposals of a normal primary
  pub turn_propose : (to : List ℕ) (es : List E) {new : List (Letter E)} → st.status ≡ Normal → c ≡ primary_in g st.view → AreLogs g st.log es
      → Resembles (proposing_entries st es) s' → Moved h h' c s' promise life new
      → ((x : Letter E) → IsIn x (proposing_letters c to st es []) → IsIn x new) → ((x : Letter E) → IsIn x new → IsIn x (proposing_letters c to st es [])) → Tracks g h h' c → Turn g c h h'
  turn_propose to es n is valid like t into back tr = end_proposes gr i b (walk_at i stand) to es n is (own_log (good_at i b stand) n is) valid like t into back tr

  -- PREPAREOK that lets m entries be committed, and proposals
  pub turn_prepare_ok : (j place m : ℕ) (to : List ℕ) (es : List E) {new : List (Letter E)} → st.status ≡ Normal → c ≡ primary_in g st.view → j ≢ c → IsIn (abstract_letter j c (PrepareOk st.view place)) h.sent
      → 1 ≤ g.most_failures → st.commit < m → g.most_failures ≤ count_below (without_controller c (λ i. leb m ((counting st j place).acked i))) (size g) → AreLogs g st.log es
      → Resembles (proposing_entries (committing (counting st j place) m) es) s' → Moved h h' c s' promise life new
      → ((x : Letter E) → IsIn x (proposing_letters c to (committing (counting st j place) m) es []) → IsIn x new) → ((x : Letter E) → IsIn x new → IsIn x (proposing_letters c to (committing (counting st j place) m) es []))
      → Tracks g h h' c → Turn g c h h'
  turn_prepare_ok j place m to es n is ne at f more many valid like t into back tr =
      let s : State E = st in
      let s1 : State E = counting s j place in
      let s2 : State E = committing s1 m in
      let w0 = walk_at i stand in
      let w1 = walk_on gr b w0 s1 promise life [] no_letters (Counts j place n is ne (acknowledged_accepted (good_at i b stand) j place n is ne at) (moved_after w0.at c s1 _ _ []) (quiet_after w0.at c s1 _ _ [])) in
      let row = majority_quorum (walk_good gr b w1) m b n is f (omega arith) many w1.inv in
      let w2 = walk_on gr b w1 s2 promise life [] no_letters (Commits m n (omega arith) row.1 (backed s.view m (omega arith) (omega arith) row.0) (moved_after w1.at c s2 _ _ []) (quiet_after w1.at c s2 _ _ [])) in
      end_proposes gr i b w2 to es n is (own_log (good_at i b stand) n is) valid like t into back tr

  -- a case that changes nothing that counts
  pub turn_note : Resembles st s' → Moved h h' c s' promise life [] → Tracks g h h' c → Turn g c h h'
  turn_note like t tr =
      let q = quiet_by t tr (own_log_of like) in
      tail_end gr b (tail_of gr b (walk_at i stand)) t like (λ y m. m) (λ y m. m) q.same
    where
      own_log_of : Resembles st s' → s'.status ≡ Normal → c ≡ primary_in g s'.view → s'.log ≡ h.logs s'.view
      own_log_of like n is =
          let n0 : st.status ≡ Normal = sym like.status ∙ n in
          let v = like.view (ap is_up_status n0) in
          like.log (up_not_down st.status (ap is_up_status n0)) ∙ sym (own_log (good_at i b stand) n0 (is ∙ ap (primary_in g) v)) ∙ ap h.logs (sym v)

  -- COMMIT, and PREPARE of a place that the log has, which is acknowledged
  pub turn_commit : (k to : ℕ) (acks : Bool) → st.status ≡ Normal → (acks ≡ true → c ≢ primary_in g st.view) → st.commit ≤ k → k ≤ length st.log → IsCommitted g h st.view k
      → Resembles (committing st k) s' → Moved h h' c s' promise life (ack_if acks c to st.view (length st.log))
      → Tracks g h h' c → Turn g c h h'
  turn_commit k to acks n apart more fits known like t tr =
      let s1 : State E = committing st k in
      let w0 = walk_at i stand in
      let w1 = walk_on gr b w0 s1 promise life [] no_letters (Commits k n more fits known (moved_after w0.at c s1 _ _ []) (quiet_after w0.at c s1 _ _ [])) in
      let q = quiet_by t tr (λ z is. let v = like.view (ap is_up_status n) in like.log (up_not_down st.status (ap is_up_status n)) ∙ sym (own_log (good_at i b stand) n (is ∙ ap (primary_in g) v)) ∙ ap h.logs (sym v)) in
      ends acks apart (tail_of gr b w1) t q
    where
      ends : (acks : Bool) → (acks ≡ true → c ≢ primary_in g st.view) → Tail g c h (committing st k) promise life [] h.logs
          → Moved h h' c s' promise life (ack_if acks c to st.view (length st.log)) → LogsStay h h' → Turn g c h h'
      ends false apart w t q = tail_end gr b w t like (λ y j. j) (λ y j. j) q.same
      ends true apart w t q =
          let s1 : State E = committing st k in
          let out : List (Letter E) = abstract_letter c to (PrepareOk st.view (length st.log)) ∷ [] in
          tail_end gr b (tail_says gr b w out (Acknowledges to n (apart refl) (moved_after w.at c s1 _ _ out) (quiet_after w.at c s1 _ _ out))) t like (λ y j. j) (λ y j. j) q.same

module _ {E : Type 0} {g : Group E} {h : History E} {c : ℕ} (gr : IsGroup g) (i : Invariant g h) (b : c < size g) where
  pub walk_collect : {s : State E} {p l : ℕ} {new : List (Letter E)} → (w : Walk g c h s p l new) → (j u k : ℕ) (rest : List E) → s.status ≡ ViewChange → c ≡ primary_in g s.view
      → IsIn (abstract_letter j c (DoViewChange s.view u k rest)) h.sent → j < size g → (¬ IsIn j (map (λ x. x.from) s.collected))
      → Walk g c h (collecting s (record { from = j; normal = u; commit = k; rest = rest })) p l new
  walk_collect {s} {p} {l} w j u k rest n is at small first =
      let vote : Vote E = record { from = j; normal = u; commit = k; rest = rest } in
      let s1 : State E = collecting s vote in
      walk_on gr b w s1 p l [] no_letters (Collects vote n is first small (w.inv.letters _ (w.moved.sent_more _ at)) (moved_after w.at c s1 p l []) (quiet_after w.at c s1 p l []))

  -- SUPPLY: it is kept
  pub walk_stock : {s : State E} {p l : ℕ} {new : List (Letter E)} → (w : Walk g c h s p l new) → (j v m : ℕ) (rest : List E) → s.status ≡ ViewChange → m ≤ s.commit → IsIn (abstract_letter j c (Supply v m rest)) h.sent
      → Walk g c h (supplying s (record { first = m; rest = rest })) p l new
  walk_stock {s} {p} {l} w j v m rest n small at =
      let x : Supplied E = record { first = m; rest = rest } in
      let s1 : State E = supplying s x in
      walk_on gr b w s1 p l [] no_letters (Stocks x n small (w.inv.letters _ (w.moved.sent_more _ at)) (moved_after w.at c s1 p l []) (quiet_after w.at c s1 p l []))

module _ {E : Type 0} {g : Group E} {h : History E} {c : ℕ} {st : State E} {promise life : ℕ} (gr : IsGroup g) (i : Invariant g h) (b : c < size g) (stand : StandsAt h c st promise life) where
  -- a later view is entered
  pub walk_enter : (w : ℕ) → is_up_status st.status ≡ true → st.view < w → Walk g c h (entered st w) w life []
  walk_enter w up later =
      let s1 : State E = entered st w in
      let w0 = walk_at i stand in
      walk_on gr b w0 s1 w life [] no_letters (Enters w up later (moved_after w0.at c s1 _ _ []) (quiet_after w0.at c s1 _ _ []))

  -- RECOVERYRESPONSE: one more is kept
  pub walk_keep : (x : Response E) (responses : List (Response E)) → st.status ≡ Recovering → x.from ≢ c → IsIn (abstract_letter x.from c (RecoveryResponse x.view life x.answer)) h.sent
      → ((y : Response E) → IsIn y responses → (y ≡ x) ⊎ IsIn y st.responses) → Walk g c h (hearing st responses) promise life []
  walk_keep x responses n apart at these =
      let s1 : State E = hearing st responses in
      let w0 = walk_at i stand in
      walk_on gr b w0 s1 promise life [] no_letters (Keeps x responses n apart at these (moved_after w0.at c s1 _ _ []) (quiet_after w0.at c s1 _ _ []))
