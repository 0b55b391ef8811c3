-- Why the conditions of the moves hold in the cases of the rules. Here s is a good state of c, and the letter was posted.
use Rattle.std.proofs.Common.{◌≡◌, ◌≢◌, ℕ, ◌+◌, ◌-◌, ◌<◌, ◌≤◌, min, max, true, not, eqb, leb, List, [], ◌∷◌, ◌++◌, length, take, drop, refl, sym, ap, ◌∙◌, subst, arith, length-drop, append_assoc}
use Rattle.std.proofs.lemmas.Bool.{and_from, le-leb, eq-eqb, leb-true, and_parts, eqb-false, not-true}
use Rattle.agreement.specs.Lists.{count_below, without_controller}
use Rattle.list_facts.proofs.Prefixes.{prefix_append, prefix_both, prefix_lacks, prefix_next, prefix_trans, take_within}
use Rattle.list_facts.specs.Lists.{IsIn, IsPrefix}
use Rattle.agreement.specs.History.{Group, size, primary_in, Normal, ViewChange, Filled, PrepareOk, State, History, abstract_letter}
use Rattle.agreement.specs.Quorums.{has_accepted, HasQuorum, IsCommitted, IsVote}
use Rattle.agreement.specs.Invariant.{is_up_status, IsGoodState, IsGoodResponse, IsGoodPrepare, IsGoodVote, IsGoodSupply, IsGoodNews, Invariant, IsGroup}
use Rattle.agreement.proofs.Counts.{count_some, count_others}
use Rattle.agreement.proofs.Quorums.{committed_less, committed_max}
use Rattle.agreement.proofs.Frame.{accepted_posted, acknowledged_from}
use Rattle.agreement.proofs.Consequences.{own_place, own_log, committed_certified, own_of_view}

module _ {E : Type 0} {g : Group E} {h : History E} {c : ℕ} {s : State E} (r : IsGoodState g h c s) where
  -- DOVIEWCHANGE: the own vote
  pub own_vote : s.status ≡ ViewChange → IsVote g h c s.view s.normal s.commit s.log
  own_vote n = let at = r.changing n in record {
    promised = omega (arith, at.1);
    earlier = at.0;
    of_view = r.of_view (ap is_up_status n);
    covers = λ v m l o a. r.covers (ap is_up_status n) v m o a;
  }

  pub own_good_vote : s.status ≡ ViewChange → IsGoodVote g h c s.view s.normal s.commit (drop s.commit s.log)
  own_good_vote n = record { whole = s.log; vote = own_vote n; rest_is = refl }

  -- NEWSTATE and STARTVIEW: what is told of the own log
  pub own_news : (m : ℕ) → s.status ≡ Normal → IsGoodNews g h s.view m s.commit (drop m s.log)
  own_news m n = record { log = s.log; of_view = own_of_view r n; rest_is = refl }

  -- SUPPLY: what is told of the own committed entries
  pub own_supply : Invariant g h → (m : ℕ) → is_up_status s.status ≡ true → m ≤ s.commit → IsGoodSupply g h m (drop m (take s.commit s.log))
  own_supply i m u l = let o = r.of_view u in let n = o.within in record { log = take s.commit s.log; certified = committed_certified i o; within = omega (arith, take_within s.commit s.log n); rest_is = refl }

  -- PREPARE that is posted again
  pub own_prepare : (before : List E) (e : E) (rest : List E) → s.status ≡ Normal → s.log ≡ before ++ e ∷ rest → IsGoodPrepare g h s.view (length before + 1) s.commit e
  own_prepare before e rest n is =
      let whole : before ++ e ∷ rest ≡ (before ++ e ∷ []) ++ rest = sym (append_assoc before (e ∷ []) rest) in
      let front : IsPrefix (before ++ e ∷ []) s.log = subst (λ (l : List E). IsPrefix (before ++ e ∷ []) l) (sym (is ∙ whole)) (prefix_append (before ++ e ∷ []) rest) in
      record { before = before; at = refl; front = prefix_trans front (own_of_view r n).front; committed = (own_of_view r n).committed }

  -- NEWSTATE of the own view: the log goes on
  pub news_longer : (m k : ℕ) (rest : List E) → s.status ≡ Normal → IsGoodNews g h s.view m k rest → m ≤ length s.log → length s.log < m + length rest
      → (log : List E) × IsPrefix s.log log × IsPrefix log (h.logs s.view) × (s.log ++ drop (length s.log - m) rest ≡ log) × (k ≤ length log) × IsCommitted g h s.view k
  news_longer m k rest n x l more =
      let own = own_of_view r n in
      let long : length rest ≡ length x.log - m = ap length x.rest_is ∙ length-drop m x.log in
      let p : IsPrefix s.log x.log = prefix_both own.front x.of_view.front (omega arith) in
      (x.log, p, x.of_view.front, ap (λ (l : List E). s.log ++ drop (length s.log - m) l) x.rest_is ∙ prefix_lacks m p l, x.of_view.within, x.of_view.committed)

  -- PREPARE of the next place: the log goes on
  pub prepare_grows : (place k : ℕ) (e : E) → s.status ≡ Normal → IsGoodPrepare g h s.view place k e → place ≡ length s.log + 1 → IsPrefix (s.log ++ e ∷ []) (h.logs s.view) × IsCommitted g h s.view (max s.commit (min k (length (s.log ++ e ∷ []))))
  prepare_grows place k e n x at =
      let own = own_of_view r n in
      let y = x.at in
      (prefix_next x.before e own.front x.front (omega arith), committed_max own.committed (committed_less x.committed (omega arith) (omega arith)))

  -- PREPAREOK: its sender has accepted the place
  pub acknowledged_accepted : (j place : ℕ) → s.status ≡ Normal → c ≡ primary_in g s.view → j ≢ c → IsIn (abstract_letter j c (PrepareOk s.view place)) h.sent → has_accepted g h s.view place j ≡ true
  acknowledged_accepted j place n is ne i =
      accepted_posted g h s.view place j (λ z. ne (z ∙ sym is))
      ∙ acknowledged_from h.sent j s.view place (abstract_letter j c (PrepareOk s.view place)) i refl (and_from (eqb s.view s.view) (leb place place) (eq-eqb s.view s.view refl) (le-leb place place (omega arith)))

  -- what f others have acknowledged has a quorum
  pub majority_quorum : (m : ℕ) → c < size g → s.status ≡ Normal → c ≡ primary_in g s.view → 1 ≤ g.most_failures → 1 ≤ m → g.most_failures ≤ count_below (without_controller c (λ i. leb m (s.acked i))) (size g) → Invariant g h → HasQuorum g h s.view m × (m ≤ length s.log)
  majority_quorum m b n is f o many i =
      let some = count_some (without_controller c (λ i. leb m (s.acked i))) (size g) (omega arith) in
      let of_one = and_parts (leb m (s.acked some.0)) (not (eqb some.0 c)) some.2 in
      let ne : some.0 ≢ c = eqb-false some.0 c (not-true (eqb some.0 c) of_one.1) in
      let a = r.counted n is some.0 m ne o (leb-true m (s.acked some.0) of_one.0) in
      let within : m ≤ length (h.logs s.view) = (i.states some.0 some.1).held s.view m o a in
      let own = own_place g h s.view m c is within in
      let q : HasQuorum g h s.view m = record {
        many = count_others (has_accepted g h s.view m) (λ i. leb m (s.acked i)) c (size g) g.most_failures b own many
            (λ j l ne' e. r.counted n is j m ne' o (leb-true m (s.acked j) e));
      } in
      (q, omega (arith, ap length (own_log r n is)))

  -- RECOVERYRESPONSE to j: what a primary tells
  pub own_response : (j x : ℕ) → s.status ≡ Normal → c ≡ primary_in g s.view → j < size g → Invariant g h → x ≤ h.life j → IsGoodResponse g h c j s.view x (Filled s.commit s.log)
  own_response j x n is b i l = (
    l,
    record {
      by_primary = is;
      of_view = own_of_view r n;
      fresh = λ e z m o a. let w = (i.states j b).held s.view m o a in omega (arith, ap length (own_log r n is));
    },
  )

  -- the log and the commit number of a state that is up
  pub own_valid : IsGroup g → Invariant g h → is_up_status s.status ≡ true → (g.is_log s.log ≡ true) × (s.commit ≤ length s.log)
  own_valid gr i u = let o = r.of_view u in (gr.closed s.log (h.logs s.normal) o.front (i.views s.normal).valid, o.within)
