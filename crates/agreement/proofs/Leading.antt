-- Whose log begins with what is decided.
use Rattle.std.proofs.Common.{◌≡◌, ℕ, ◌+◌, ◌<◌, ◌≤◌, inl, inr, Bool, true, false, leb, ltb, List, [], ◌∷◌, ◌++◌, length, sym, ap, ◌∙◌, subst, arith}
use Rattle.std.proofs.lemmas.Bool.{cases_lt, leb-true, ltb-true, cond-true, cond-false}
use Rattle.agreement.specs.Lists.{IsAtMost, count_below}
use Rattle.list_facts.proofs.Prefixes.{front_prefix, prefix_both, prefix_nil, prefix_trans, take_within}
use Rattle.list_facts.specs.Lists.{IsPrefix}
use Rattle.list_facts.specs.Fold.{ActorStanding}
use Rattle.agreement.specs.History.{Group, size, primary_in, Normal, Letter, State, History}
use Rattle.agreement.specs.Quorums.{has_accepted, HasQuorum, IsSafe, IsCertified, empty, shown}
use Rattle.agreement.specs.Invariant.{is_up_status, Invariant, IsGroup}
use Rattle.agreement.specs.Laws.{Run, still, then, committed_log}
use Rattle.agreement.specs.Journals.{Rules, Entry, stands, history, IsAllowed, Follows, kept_log}
use Rattle.agreement.specs.Decided.{decided_log}
use Rattle.agreement.specs.Leading.{MostPromiseUpTo, SafeLogsBegin, LaterLogsBegin, PrimariesLead, DecidedIsLed}
use Rattle.agreement.proofs.Counts.{count_share}
use Rattle.agreement.proofs.Numbers.{below_trans}
use Rattle.agreement.proofs.Quorums.{quorum_begins}
use Rattle.agreement.proofs.Frame.{quorum_more}
use Rattle.agreement.proofs.Consequences.{own_log, own_of_view}
use Rattle.agreement.proofs.Keeping.{move_keeps}
use Rattle.agreement.proofs.Runs.{run_keeps, run_certified}
use Rattle.agreement.proofs.Turns.{shown_certified}
use Rattle.agreement.proofs.Journals.{journal_runs, journal_shows}
use Rattle.agreement.proofs.Alone.{alone_below, journal_goes}
use Rattle.agreement.proofs.Agreeing.{legal_past, journal_good}
use Rattle.agreement.proofs.Lasting.{decided_is}

module _ {E : Type 0} {g : Group E} where
  -- a place that a quorum has accepted is of a view below w, where f + 1 promises are
  is_below : {h : History E} → Invariant g h → (low : ℕ → Bool) (w v m : ℕ) → g.most_failures < count_below low (size g) → ((j : ℕ) → low j ≡ true → h.promise j < w) → HasQuorum g h v m → 1 ≤ m → v < w
  unfolding size
  is_below {h} i low w v m many small q o =
      let q' = q.many in
      let s = count_share (has_accepted g h v m) low (size g) (omega arith) in
      let p = (i.states s.0 s.1).promised v m o s.2 in
      let l = small s.0 s.3 in
      omega arith

  -- a certified log whose witness is of an earlier view begins each log that is safe
  below_safe : {h : History E} {v m w : ℕ} {xs ys : List E} → length ys ≤ m → IsPrefix ys (h.logs v) → HasQuorum g h v m → 1 ≤ m → v < w → IsSafe g h w xs → IsPrefix ys xs
  below_safe {h} {v} {m} a p q o l s =
      let f = quorum_begins q o l s in
      let n = take_within m (h.logs v) f.within in
      prefix_trans (prefix_both p (front_prefix m (h.logs v)) (omega arith)) f.front

  -- of more than f controllers that are up, the best log begins with all that is certified
  pub best_begins : {h : History E} → Invariant g h → (passes : ℕ → Bool) (best : ℕ) (ys : List E) → g.most_failures < count_below passes (size g) → ((j : ℕ) → passes j ≡ true → is_up_status (h.state j).status ≡ true)
      → passes best ≡ true → best < size g → ((j : ℕ) → passes j ≡ true → IsAtMost (h.state j).normal (length (h.state j).log) (h.state best).normal (length (h.state best).log))
      → IsCertified g h ys → IsPrefix ys (h.state best).log
  unfolding size
  best_begins {h} i passes best [] many up chosen b far k = prefix_nil (h.state best).log
  best_begins {h} i passes best (y ∷ ys) many up chosen b far (empty e) = absurd cc
  best_begins {h} i passes best (y ∷ ys) many up chosen b far (shown v m a w p q) =
      let q' = q.many in
      let s = count_share (has_accepted g h v m) passes (size g) (omega arith) in
      let own = (i.states best b).of_view (up best chosen) in
      elim (below_trans ((i.states s.0 s.1).covers (up s.0 s.3) v m (omega arith) s.2) (far s.0 s.3)) [
        | inl less ↦ below_safe a p q (omega arith) less own.safe
        | inr same ↦
            let le = same.1 in
            prefix_both p (subst (λ (u : ℕ). IsPrefix (h.state best).log (h.logs u)) (sym same.0) own.front) (omega arith)
      ]

  run_quorum : {h0 h : History E} → IsGroup g → Invariant g h0 → Run g h0 h → {v m : ℕ} → HasQuorum g h0 v m → HasQuorum g h v m
  run_quorum gr i still q = q
  run_quorum gr i (then c b r m) q = quorum_more (move_keeps gr (run_keeps gr i r) b m).step (run_quorum gr i r q)

  run_longer : {h0 h : History E} → IsGroup g → Invariant g h0 → Run g h0 h → {v : ℕ} {ys : List E} → IsPrefix ys (h0.logs v) → IsPrefix ys (h.logs v)
  run_longer gr i still p = p
  run_longer gr i (then c b r m) {v} p = prefix_trans (run_longer gr i r p) ((move_keeps gr (run_keeps gr i r) b m).step.logs_longer v)

pub later_law : {E : Type 0} → LaterLogsBegin E
later_law g h0 h w xs [] gr i run many k s = prefix_nil xs
later_law g h0 h w xs (y ∷ ys) gr i run many (empty e) s = absurd cc
later_law g h0 h w xs (y ∷ ys) gr i run many (shown v m a b p q) s =
    let low = is_below i (λ (j : ℕ). ltb (h0.promise j) w) w v m many (λ j e. ltb-true (h0.promise j) w e) q (omega arith) in
    below_safe a (run_longer gr i run p) (run_quorum gr i run q) (omega arith) low s

pub safe_law : {E : Type 0} → SafeLogsBegin E
safe_law g h w xs [] i many k s = prefix_nil xs
safe_law g h w xs (y ∷ ys) i many (empty e) s = absurd cc
safe_law g h w xs (y ∷ ys) i many (shown v m a b p q) s =
    below_safe a p q (omega arith) (is_below i (λ (j : ℕ). ltb (h.promise j) w) w v m many (λ j e. ltb-true (h.promise j) w e) q (omega arith)) s

pub lead_law : {E : Type 0} → PrimariesLead E
lead_law g h c [] i b n is many k = prefix_nil (h.state c).log
lead_law g h c (y ∷ ys) i b n is many (empty e) = absurd cc
lead_law {E = E} g h c (y ∷ ys) i b n is many (shown v m a f p q) =
    let s : State E = h.state c in
    let low = is_below i (λ (j : ℕ). leb (h.promise j) s.view) (s.view + 1) v m many (λ j e. let l = leb-true (h.promise j) s.view e in omega arith) q (omega arith) in
    elim (cases_lt v s.view) [
      | inl l ↦ below_safe a p q (omega arith) l (own_of_view (i.states c b) n).safe
      | inr l ↦
          let same : v ≡ s.view = omega arith in
          subst (λ (log : List E). IsPrefix (y ∷ ys) log) (ap h.logs same ∙ own_log (i.states c b) n is) p
    ]

module _ {Own A E : Type 0} {r : Rules Own A E} {g : Group E} (f : Follows r g) where
  -- what a journal has decided is certified
  pub decided_certified : 1 ≤ g.most_failures → (past : List (Entry Own E)) → IsAllowed r g past → IsCertified g (history r g past) (decided_log r g past)
  decided_certified o past k = elim (decided_is f past) [
    | inl e ↦ empty e
    | inr x ↦
        let k' : IsAllowed r g (x.0 ++ x.1) = subst (λ (l : List (Entry Own E)). IsAllowed r g l) x.3 k in
        let k1 = legal_past r g x.0 x.1 k' in
        let i1 = journal_good f o x.1 k1 in
        let shown_then = shown_certified f.group i1 x.4 (journal_shows f o x.1 x.2 i1 k1 x.4) in
        let now = run_certified f.group i1 (journal_runs f o x.0 x.1 i1 k') shown_then in
        subst (λ (l : List E). IsCertified g (history r g past) l) (sym x.5) (subst (λ (l : List (Entry Own E)). IsCertified g (history r g l) (kept_log r x.2 x.1)) (sym x.3) now)
  ]

  -- where c leads at state s, its log begins with what is decided
  abbrev IsLed : List (Entry Own E) → ℕ → State E → Type 0
  IsLed past c s = s.status ≡ Normal → c ≡ primary_in g s.view → MostPromiseUpTo g (history r g past) s.view → IsPrefix (decided_log r g past) s.log

  many_led : 1 ≤ g.most_failures → (past : List (Entry Own E)) (c : ℕ) → IsAllowed r g past → c < size g → (stands r c past).fresh ≡ false
      → IsLed past c (r.state (stands r c past).now)
  many_led o past c k b closed =
      let w : ActorStanding A (Letter E) = stands r c past in
      subst (λ (a : A). IsLed past c (r.state a)) (cond-false w.fresh w.before w.now closed)
      (λ n is many. lead_law g (history r g past) c (decided_log r g past) (journal_good f o past k) b n is many (decided_certified o past k))

  one_led : g.most_failures ≡ 0 → (past : List (Entry Own E)) (c : ℕ) → c < size g
      → (let s = r.state (stands r c past).now in s.status ≡ Normal → IsPrefix (decided_log r g past) s.log)
  one_led o past c b n = elim (decided_is f past) [
    | inl e ↦ subst (λ (l : List E). IsPrefix l (r.state (stands r c past).now).log) (sym e) (prefix_nil (r.state (stands r c past).now).log)
    | inr x ↦
        let same : x.2 ≡ c = alone_below f o x.2 x.4 ∙ sym (alone_below f o c b) in
        let s : State E = r.state (stands r c x.1).now in
        let up : is_up_status (r.state (stands r c (x.0 ++ x.1)).now).status ≡ true =
        ap (λ (l : List (Entry Own E)). is_up_status (r.state (stands r c l).now).status) (sym x.3) ∙ ap is_up_status n in
        let on = journal_goes f o c x.0 x.1 b up in
        let front : IsPrefix (committed_log s) (r.state (stands r c (x.0 ++ x.1)).now).log = prefix_trans (front_prefix s.commit s.log) on.longer in
        let now : IsPrefix (committed_log s) (r.state (stands r c past).now).log =
        subst (λ (l : List (Entry Own E)). IsPrefix (committed_log s) (r.state (stands r c l).now).log) (sym x.3) front in
        let decided_is_it : decided_log r g past ≡ committed_log s = x.5 ∙ ap (λ (j : ℕ). kept_log r j x.1) same ∙ cond-true (is_up_status s.status) (committed_log s) [] on.up in
        subst (λ (l : List E). IsPrefix l (r.state (stands r c past).now).log) (sym decided_is_it) now
  ]

pub led_law : {Own A E : Type 0} → DecidedIsLed Own A E
led_law r g past c f k b closed n is many = elim (cases_lt 0 g.most_failures) [
  | inl o ↦ many_led f (omega arith) past c k b closed n is many
  | inr o ↦ one_led f (omega arith) past c b n
]
