-- What every move keeps, whoever moves: all that controllers have accepted, and what follows from that. A move then owes only
-- its own state, its new letters and the view whose log it changed.
use Rattle.std.proofs.Common.{◌≡◌, ◌≢◌, ℕ, ◌<◌, ◌≤◌, ◌⊎◌, inl, inr, Bool, true, false, not, ◌&&◌, eqb, ltb, leb, List, [], ◌∷◌, length, refl, sym, ap, ◌∙◌, subst, arith}
use Rattle.std.proofs.lemmas.Bool.{cases_eq, cases_Bool, and_parts, and_from, or_right, or_left, or_cases, lt-ltb, ltb-true, leb-true, le-leb, false≢true, eqb-true, ne_eqb, eq-eqb, cond-true, cond-false}
use Rattle.list_facts.proofs.Prefixes.{prefix_length, prefix_take, prefix_trans}
use Rattle.list_facts.specs.Lists.{IsIn, IsPrefix}
use Rattle.agreement.specs.History.{Group, size, primary_in, Recovering, Vote, Answer, Filled, Bare, Message, Prepare, PrepareOk, Commit, StartViewChange, DoViewChange, StartView, GetState, NewState, Fetch, Supply, Recovery, RecoveryResponse, Letter, State, History, abstract_letter}
use Rattle.agreement.specs.Quorums.{has_acknowledged, is_prepare_ok, has_accepted, blocks, HasQuorum, IsBlocked, IsSafe, IsCommitted, nothing, backed, IsLogOf, IsVote, IsCertified, empty, shown}
use Rattle.agreement.specs.Invariant.{IsGoodVote, IsGoodSupply, IsGoodNews, IsBallot, IsGoodState, IsGoodAnswer, IsGoodResponse, IsGoodMessage, IsGoodLetter, IsGoodView, Invariant}
use Rattle.agreement.proofs.Counts.{count_more}
use Rattle.agreement.specs.Moves.{Moved, AreFrom}

-- what a move of c may change. What c accepts beyond what it had accepted is of the view that it has promised.
pub record Step {E : Type 0} (g : Group E) (h h' : History E) (c : ℕ) (new : List (Letter E)) : Type 0 where
  pub state_other : (j : ℕ) → j ≢ c → h'.state j ≡ h.state j
  pub promise_other : (j : ℕ) → j ≢ c → h'.promise j ≡ h.promise j
  pub life_other : (j : ℕ) → j ≢ c → h'.life j ≡ h.life j
  pub promise_up : h.promise c ≤ h'.promise c
  pub life_up : h.life c ≤ h'.life c
  pub logs_longer : (v : ℕ) → IsPrefix (h.logs v) (h'.logs v)
  pub logs_other : (v : ℕ) → primary_in g v ≢ c → h'.logs v ≡ h.logs v
  pub sent_more : (l : Letter E) → IsIn l h.sent → IsIn l h'.sent
  pub sent_split : (l : Letter E) → IsIn l h'.sent → IsIn l new ⊎ IsIn l h.sent
  pub posted : (l : Letter E) → IsIn l new → l.sender ≡ c
  pub newly : (v m : ℕ) → has_accepted g h' v m c ≡ true → has_accepted g h v m c ≡ false → v ≡ h'.promise c

-- where c recovers after the move, it did so before, in the same life, and has accepted nothing new; or its life is new
pub data Fresh {E : Type 0} (g : Group E) (h h' : History E) (c : ℕ) : Type 0 where
  not_recovering : (h'.state c).status ≢ Recovering → Fresh g h h' c
  same_life : (h.state c).status ≡ Recovering → h'.life c ≡ h.life c → ((v m : ℕ) → has_accepted g h' v m c ≡ has_accepted g h v m c) → Fresh g h h' c
  new_life : h.life c < h'.life c → Fresh g h h' c

-- who has accepted, by its two cases
module _ {E : Type 0} (g : Group E) (h : History E) where
  pub accepted_own : (v m c : ℕ) → c ≡ primary_in g v → has_accepted g h v m c ≡ leb m (length (h.logs v))
  unfolding has_accepted
  accepted_own v m c e = cond-true (eqb c (primary_in g v)) _ _ (eq-eqb c (primary_in g v) e)

  pub accepted_posted : (v m c : ℕ) → c ≢ primary_in g v → has_accepted g h v m c ≡ has_acknowledged h.sent c v m
  unfolding has_accepted
  accepted_posted v m c e = cond-false (eqb c (primary_in g v)) _ _ (ne_eqb c (primary_in g v) e)

-- a letter by which c has accepted, and back
pub acknowledged_by : {E : Type 0} (ls : List (Letter E)) (c v m : ℕ) → has_acknowledged ls c v m ≡ true → (l : Letter E) × IsIn l ls × (l.sender ≡ c) × (is_prepare_ok l.message v m ≡ true)
unfolding has_acknowledged
acknowledged_by [] c v m e = absurd (false≢true e)
acknowledged_by (x ∷ xs) c v m e = elim (or_cases (eqb x.sender c && is_prepare_ok x.message v m) (has_acknowledged xs c v m) e) [
  | inl a ↦ let s = and_parts (eqb x.sender c) (is_prepare_ok x.message v m) a in (x, inl refl, eqb-true x.sender c s.0, s.1)
  | inr a ↦ let r = acknowledged_by xs c v m a in (r.0, inr r.1, r.2, r.3)
]

pub acknowledged_from : {E : Type 0} (ls : List (Letter E)) (c v m : ℕ) (l : Letter E) → IsIn l ls → l.sender ≡ c → is_prepare_ok l.message v m ≡ true → has_acknowledged ls c v m ≡ true
unfolding has_acknowledged
acknowledged_from [] c v m l i e s = absurd i
acknowledged_from {E = E} (x ∷ xs) c v m l i e s = elim i [
  | inl q ↦ or_left (eqb x.sender c && is_prepare_ok x.message v m) (has_acknowledged xs c v m)
      (and_from (eqb x.sender c) (is_prepare_ok x.message v m) (eq-eqb x.sender c (ap (λ (y : Letter E). y.sender) (sym q) ∙ e)) (ap (λ (y : Letter E). is_prepare_ok y.message v m) (sym q) ∙ s))
  | inr j ↦ or_right (eqb x.sender c && is_prepare_ok x.message v m) (has_acknowledged xs c v m) (acknowledged_from xs c v m l j e s)
]

pub tests_same : (a b : Bool) → (a ≡ true → b ≡ true) → (b ≡ true → a ≡ true) → a ≡ b
tests_same true b f k = sym (f refl)
tests_same false true f k = k refl
tests_same false false f k = refl

-- c has acknowledged the same behind new letters, if none of them says so of c
pub acknowledged_same : {E : Type 0} (old all new : List (Letter E)) (c v m : ℕ) → ((l : Letter E) → IsIn l old → IsIn l all) → ((l : Letter E) → IsIn l all → IsIn l new ⊎ IsIn l old)
    → ((l : Letter E) → IsIn l new → l.sender ≡ c → is_prepare_ok l.message v m ≡ true → ⊥) → has_acknowledged all c v m ≡ has_acknowledged old c v m
acknowledged_same old all new c v m more split other = tests_same (has_acknowledged all c v m) (has_acknowledged old c v m)
    (λ a. let r = acknowledged_by all c v m a in elim (split r.0 r.1) [
      | inl k ↦ absurd (other r.0 k r.2 r.3)
      | inr k ↦ acknowledged_from old c v m r.0 k r.2 r.3
    ])
    (λ a. let r = acknowledged_by old c v m a in acknowledged_from all c v m r.0 (more r.0 r.1) r.2 r.3)

-- a move is a step, where its letters are its own, and the logs and what is accepted are as asked
pub step_of : {E : Type 0} (g : Group E) {h h' : History E} {c : ℕ} {s : State E} {p l : ℕ} {new : List (Letter E)} → Moved h h' c s p l new → h.promise c ≤ p → h.life c ≤ l → AreFrom c new
    → ((v : ℕ) → IsPrefix (h.logs v) (h'.logs v)) → ((v : ℕ) → primary_in g v ≢ c → h'.logs v ≡ h.logs v)
    → ((v m : ℕ) → has_accepted g h' v m c ≡ true → has_accepted g h v m c ≡ false → v ≡ h'.promise c) → Step g h h' c new
step_of g t up older from' longer others newly = record {
  state_other = t.state_other;
  promise_other = t.promise_other;
  life_other = t.life_other;
  promise_up = omega (arith, t.promise_own);
  life_up = omega (arith, t.life_own);
  logs_longer = longer;
  logs_other = others;
  sent_more = t.sent_more;
  sent_split = t.sent_split;
  posted = from';
  newly = newly;
}

-- a move of which c does not recover leaves nothing to be fresh
pub fresh_unless : {E : Type 0} {g : Group E} {h h' : History E} {c : ℕ} {s : State E} {p l : ℕ} {new : List (Letter E)} → Moved h h' c s p l new → s.status ≢ Recovering → Fresh g h h' c
fresh_unless {E = E} t ne = not_recovering (λ e. ne (ap (λ (x : State E). x.status) (sym t.state_own) ∙ e))

module _ {E : Type 0} {g : Group E} {h h' : History E} {c : ℕ} {new : List (Letter E)} (t : Step g h h' c new) where
  -- the others have accepted what they had, and the mover no less
  pub accepted_other : (v m j : ℕ) → j ≢ c → has_accepted g h' v m j ≡ has_accepted g h v m j
  accepted_other v m j ne = elim (cases_eq j (primary_in g v)) [
    | inl e ↦ accepted_own g h' v m j e ∙ ap (λ (l : List E). leb m (length l)) (t.logs_other v (λ z. ne (e ∙ z))) ∙ sym (accepted_own g h v m j e)
    | inr e ↦ accepted_posted g h' v m j e ∙ acknowledged_same h.sent h'.sent new j v m t.sent_more t.sent_split (λ l k is ok. ne (sym is ∙ t.posted l k)) ∙ sym (accepted_posted g h v m j e)
  ]

  pub accepted_more : (v m j : ℕ) → has_accepted g h v m j ≡ true → has_accepted g h' v m j ≡ true
  accepted_more v m j a = elim (cases_eq j (primary_in g v)) [
    | inl e ↦
        let n = prefix_length (t.logs_longer v) in
        let k = leb-true m (length (h.logs v)) (sym (accepted_own g h v m j e) ∙ a) in
        accepted_own g h' v m j e ∙ le-leb m (length (h'.logs v)) (omega arith)
    | inr e ↦
        let r = acknowledged_by h.sent j v m (sym (accepted_posted g h v m j e) ∙ a) in
        accepted_posted g h' v m j e ∙ acknowledged_from h'.sent j v m r.0 (t.sent_more r.0 r.1) r.2 r.3
  ]

  pub promise_more : (j : ℕ) → h.promise j ≤ h'.promise j
  promise_more j = elim (cases_eq j c) [
    | inl e ↦ subst (λ (x : ℕ). h.promise x ≤ h'.promise x) (sym e) t.promise_up
    | inr e ↦ omega (arith, t.promise_other j e)
  ]

  pub life_more : (j : ℕ) → h.life j ≤ h'.life j
  life_more j = elim (cases_eq j c) [
    | inl e ↦ subst (λ (x : ℕ). h.life x ≤ h'.life x) (sym e) t.life_up
    | inr e ↦ omega (arith, t.life_other j e)
  ]

  accepts_under_own : (v m : ℕ) → v < h.promise c → has_accepted g h' v m c ≡ has_accepted g h v m c
  accepts_under_own v m l = elim (cases_Bool (has_accepted g h v m c)) [
    | inl e ↦ accepted_more v m c e ∙ sym e
    | inr e ↦ elim (cases_Bool (has_accepted g h' v m c)) [
      | inl e' ↦ let z = t.newly v m e' e in let u = t.promise_up in absurd (omega arith)
      | inr e' ↦ e' ∙ sym e
    ]
  ]

  -- below its promise a controller accepts nothing more
  pub accepted_under : (v m j : ℕ) → v < h.promise j → has_accepted g h' v m j ≡ has_accepted g h v m j
  accepted_under v m j l = elim (cases_eq j c) [
    | inl e ↦ subst (λ (x : ℕ). has_accepted g h' v m x ≡ has_accepted g h v m x) (sym e) (accepts_under_own v m (subst (λ (x : ℕ). v < h.promise x) e l))
    | inr e ↦ accepted_other v m j e
  ]

  blocks_more : (v m j : ℕ) → blocks g h v m j ≡ true → blocks g h' v m j ≡ true
  unfolding blocks
  blocks_more v m j b =
      let s = and_parts (ltb v (h.promise j)) (not (has_accepted g h v m j)) b in
      let l = ltb-true v (h.promise j) s.0 in
      let u = promise_more j in
      and_from (ltb v (h'.promise j)) (not (has_accepted g h' v m j)) (lt-ltb v (h'.promise j) (omega arith)) (ap not (accepted_under v m j l) ∙ s.1)

  -- quorums and blocked places stay
  pub quorum_more : {v m : ℕ} → HasQuorum g h v m → HasQuorum g h' v m
  quorum_more {v} {m} q = let q' = q.many in record { many = omega (arith, count_more (has_accepted g h v m) (has_accepted g h' v m) (size g) (λ i l e. accepted_more v m i e)) }

  pub blocked_more : {v m : ℕ} → IsBlocked g h v m → IsBlocked g h' v m
  blocked_more {v} {m} q = let q' = q.many in record { many = omega (arith, count_more (blocks g h v m) (blocks g h' v m) (size g) (λ i l e. blocks_more v m i e)) }

  -- and with them logs, votes, and what is certified
  pub safe_more : {w : ℕ} {xs : List E} → IsSafe g h w xs → IsSafe g h' w xs
  safe_more {w} {xs} s = record {
    at = λ v m l o. elim (s.at v m l o) [
      | inl f ↦
          let n = prefix_length (t.logs_longer v) in let i = f.within in
          inl record { within = omega arith; front = subst (λ (z : List E). IsPrefix z xs) (prefix_take m (t.logs_longer v) i) f.front }
      | inr b ↦ inr (blocked_more b)
    ];
  }

  pub committed_more : {w k : ℕ} → IsCommitted g h w k → IsCommitted g h' w k
  committed_more (nothing e) = nothing e
  committed_more (backed v m a b q) = backed v m a b (quorum_more q)

  pub log_of_more : {w k : ℕ} {xs : List E} → IsLogOf g h w xs k → IsLogOf g h' w xs k
  log_of_more {w} {k} {xs} r = record { front = prefix_trans r.front (t.logs_longer w); within = r.within; safe = safe_more r.safe; committed = committed_more r.committed }

  pub certified_more : {xs : List E} → IsCertified g h xs → IsCertified g h' xs
  certified_more (empty e) = empty e
  certified_more (shown v m a b p q) = let n = prefix_length (t.logs_longer v) in shown v m a (omega arith) (prefix_trans p (t.logs_longer v)) (quorum_more q)

  pub vote_more : {j w u k : ℕ} {xs : List E} → IsVote g h j w u k xs → IsVote g h' j w u k xs
  vote_more {j} {w} {u} {k} {xs} r = let up = promise_more j in let p = r.promised in record {
    promised = omega arith;
    earlier = r.earlier;
    of_view = log_of_more r.of_view;
    covers = λ v m l o a. r.covers v m l o (sym (accepted_under v m j (omega arith)) ∙ a);
  }

  pub good_vote_more : {j w u k : ℕ} {rest : List E} → IsGoodVote g h j w u k rest → IsGoodVote g h' j w u k rest
  good_vote_more r = record { whole = r.whole; vote = vote_more r.vote; rest_is = r.rest_is }

  pub ballot_more : {w : ℕ} {votes : List (Vote E)} → IsBallot g h w votes → IsBallot g h' w votes
  ballot_more b = record { distinct = b.distinct; named = b.named; each = λ v i. good_vote_more (b.each v i) }

  pub supply_more : {m : ℕ} {rest : List E} → IsGoodSupply g h m rest → IsGoodSupply g h' m rest
  supply_more r = record { log = r.log; certified = certified_more r.certified; within = r.within; rest_is = r.rest_is }

  pub news_more : {v m k : ℕ} {rest : List E} → IsGoodNews g h v m k rest → IsGoodNews g h' v m k rest
  news_more r = record { log = r.log; of_view = log_of_more r.of_view; rest_is = r.rest_is }

  -- the letters of before stay good
  answer_more : {i j v x k : ℕ} {xs : List E} → Fresh g h h' c → x ≤ h.life j → IsGoodAnswer g h i j v x k xs → IsGoodAnswer g h' i j v x k xs
  answer_more {i} {j} {v} {x} {k} {xs} f old r = record {
    by_primary = r.by_primary;
    of_view = log_of_more r.of_view;
    fresh = λ s l m o a. elim (cases_eq j c) [
      | inr ne ↦ r.fresh (ap (λ (z : State E). z.status) (sym (t.state_other j ne)) ∙ s) (sym (t.life_other j ne) ∙ l) m o (sym (accepted_other v m j ne) ∙ a)
      | inl e ↦ fresh_own f (subst (λ (z : ℕ). (h'.state z).status ≡ Recovering) e s) (subst (λ (z : ℕ). h'.life z ≡ x) e l) (subst (λ (z : ℕ). x ≤ h.life z) e old)
          (λ m s l o a. r.fresh (subst (λ (z : ℕ). (h.state z).status ≡ Recovering) (sym e) s) (subst (λ (z : ℕ). h.life z ≡ x) (sym e) l) m o (subst (λ (z : ℕ). has_accepted g h v m z ≡ true) (sym e) a))
          m o (subst (λ (z : ℕ). has_accepted g h' v m z ≡ true) e a)
    ];
  }
    where
      fresh_own : Fresh g h h' c → (h'.state c).status ≡ Recovering → h'.life c ≡ x → x ≤ h.life c
          → ((m : ℕ) → (h.state c).status ≡ Recovering → h.life c ≡ x → 1 ≤ m → has_accepted g h v m c ≡ true → m ≤ length xs)
          → (m : ℕ) → 1 ≤ m → has_accepted g h' v m c ≡ true → m ≤ length xs
      fresh_own (not_recovering n) s l u r m o a = absurd (n s)
      fresh_own (same_life s0 l0 a0) s l u r m o a = r m s0 (sym l0 ∙ l) o (sym (a0 v m) ∙ a)
      fresh_own (new_life n) s l u r m o a = absurd (omega arith)

  response_more : (i j v x : ℕ) (answer : Answer E) → Fresh g h h' c → IsGoodResponse g h i j v x answer → IsGoodResponse g h' i j v x answer
  response_more i j v x (Filled k xs) f r = let u = life_more j in let l = r.0 in (omega arith, answer_more f r.0 r.1)
  response_more i j v x Bare f r = let u = life_more j in omega arith

  pub message_more : (i j : ℕ) (m : Message E) → Fresh g h h' c → IsGoodMessage g h i j m → IsGoodMessage g h' i j m
  message_more i j (Prepare v place k e) f r = record { before = r.before; at = r.at; front = prefix_trans r.front (t.logs_longer v); committed = committed_more r.committed }
  message_more i j (PrepareOk v place) f r = r
  message_more i j (Commit v k) f r = committed_more r
  message_more i j (StartViewChange w) f r = r
  message_more i j (DoViewChange w u k rest) f r = good_vote_more r
  message_more i j (StartView v m k rest) f r = news_more r
  message_more i j (GetState v m) f r = r
  message_more i j (NewState v m k rest) f r = news_more r
  message_more i j (Fetch v m) f r = r
  message_more i j (Supply v m rest) f r = supply_more r
  message_more i j (Recovery x p) f r = let u = life_more i in omega arith
  message_more i j (RecoveryResponse v x answer) f r = response_more i j v x answer f r

  -- and so do the states of the others
  pub state_more : (j : ℕ) (s : State E) → j ≢ c → IsGoodState g h j s → IsGoodState g h' j s
  state_more j s ne r =
      let p = t.promise_other j ne in
      let back : (v m : ℕ) → has_accepted g h' v m j ≡ true → has_accepted g h v m j ≡ true = λ v m a. sym (accepted_other v m j ne) ∙ a in
      record {
        normal = λ e. let x = r.normal e in (x.0, x.1 ∙ sym p);
        changing = λ e. let x = r.changing e in (x.0, x.1 ∙ sym p);
        blank = r.blank;
        promised = λ v m o a. let x = r.promised v m o (back v m a) in omega arith;
        held = λ v m o a. let x = r.held v m o (back v m a) in let n = prefix_length (t.logs_longer v) in omega arith;
        covers = λ u v m o a. r.covers u v m o (back v m a);
        of_view = λ u. log_of_more (r.of_view u);
        counted = λ e q i m z o b. accepted_more s.view m i (r.counted e q i m z o b);
        ballot = λ e q. ballot_more (r.ballot e q);
        supplied = λ e x i. let z = r.supplied e x i in (z.0, supply_more z.1);
        heard = λ e x i. let z = r.heard e x i in (z.0, t.sent_more _ (subst (λ (y : ℕ). IsIn (abstract_letter x.from j (RecoveryResponse x.view y x.answer)) h.sent) (sym (t.life_other j ne)) z.1));
      }

  pub view_more : (v : ℕ) → h'.logs v ≡ h.logs v → IsGoodView g h v → IsGoodView g h' v
  view_more v e r = record {
    valid = ap g.is_log e ∙ r.valid;
    safe = elim r.safe [
      | inl z ↦ inl (e ∙ z)
      | inr s ↦ inr (subst (λ (l : List E). IsSafe g h' v l) (sym e) (safe_more s))
    ];
  }

  -- what a move owes, and what follows
  pub invariant_kept : Invariant g h → Fresh g h h' c → (c < size g → IsGoodState g h' c (h'.state c)) → ((l : Letter E) → IsIn l new → IsGoodLetter g h' l)
      → ((v : ℕ) → (h'.logs v ≡ h.logs v) ⊎ IsGoodView g h' v) → Invariant g h'
  invariant_kept i f own letters views = record {
    states = λ j b. elim (cases_eq j c) [
      | inl e ↦ subst (λ (z : ℕ). IsGoodState g h' z (h'.state z)) (sym e) (own (subst (λ (z : ℕ). z < size g) e b))
      | inr ne ↦ subst (λ (s : State E). IsGoodState g h' j s) (sym (t.state_other j ne)) (state_more j (h.state j) ne (i.states j b))
    ];
    letters = λ l at. elim (t.sent_split l at) [
      | inl k ↦ letters l k
      | inr k ↦ message_more l.sender l.receiver l.message f (i.letters l k)
    ];
    views = λ v. elim (views v) [ inl e ↦ view_more v e (i.views v) | inr r ↦ r ];
  }
