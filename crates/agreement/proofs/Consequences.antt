-- What the invariant gives at once, and how certified logs compare.
use Rattle.std.proofs.Common.{◌≡◌, ◌≢◌, ℕ, zero, suc, ◌<◌, ◌≤◌, ◌⊎◌, inl, inr, true, List, [], ◌∷◌, length, take, refl, sym, ap, ◌∙◌, subst, arith}
use Rattle.std.proofs.lemmas.Bool.{cases_lt, le-leb, false≢true}
use Rattle.std.proofs.lemmas.List.{nil_from_length}
use Rattle.agreement.specs.Lists.{IsAtMost}
use Rattle.list_facts.proofs.Prefixes.{comparable, front_prefix, prefix_both, prefix_equal, prefix_length, prefix_nil, prefix_trans, take_within}
use Rattle.list_facts.specs.Lists.{IsIn, IsPrefix}
use Rattle.agreement.specs.History.{Group, size, primary_in, Normal, ViewChange, Recovering, Answer, Filled, Response, State, History, Status, Down}
use Rattle.agreement.specs.Quorums.{has_accepted, HasQuorum, IsSafe, nothing, backed, IsLogOf, IsCertified, empty, shown}
use Rattle.agreement.specs.Invariant.{is_up_status, IsGoodState, IsGoodAnswer, IsGoodResponse, Invariant}
use Rattle.agreement.proofs.Counts.{count_some}
use Rattle.agreement.proofs.Quorums.{quorum_begins, certified_front}
use Rattle.agreement.proofs.Frame.{accepted_own}

module _ {E : Type 0} (g : Group E) (h : History E) where
  -- the primary of v has accepted each place of its log
  pub own_place : (v m c : ℕ) → c ≡ primary_in g v → m ≤ length (h.logs v) → has_accepted g h v m c ≡ true
  own_place v m c e l = accepted_own g h v m c e ∙ le-leb m (length (h.logs v)) l

module _ {E : Type 0} {g : Group E} {h : History E} {c : ℕ} {s : State E} where
  -- a view that its primary has not started has no log
  pub not_begun : IsGoodState g h c s → s.status ≡ ViewChange → c ≡ primary_in g s.view → h.logs s.view ≡ []
  not_begun r e p = elim (cases_lt 0 (length (h.logs s.view))) [
    | inl l ↦
        let b : IsAtMost s.view 1 s.normal (length s.log) = r.covers (ap is_up_status e) s.view 1 (omega arith) (own_place g h s.view 1 c p (omega arith)) in
        let n = (r.changing e).0 in absurd (omega arith)
    | inr l ↦ nil_from_length (h.logs s.view) (omega arith)
  ]

  -- a normal primary has the whole log of its view
  pub own_log : IsGoodState g h c s → s.status ≡ Normal → c ≡ primary_in g s.view → h.logs s.view ≡ s.log
  own_log r e p =
      let up : is_up_status s.status ≡ true = ap is_up_status e in
      let n = (r.normal e).0 in
      let front : IsPrefix s.log (h.logs s.view) = subst (λ (v : ℕ). IsPrefix s.log (h.logs v)) n (r.of_view up).front in
      let long : length (h.logs s.view) ≤ length s.log = elim (cases_lt 0 (length (h.logs s.view))) [
        | inl l ↦
            let b : IsAtMost s.view (length (h.logs s.view)) s.normal (length s.log) = r.covers up s.view (length (h.logs s.view)) (omega arith) (own_place g h s.view (length (h.logs s.view)) c p (omega arith)) in
            omega arith
        | inr l ↦ omega arith
      ] in
      sym (prefix_equal front long)

pub up_cases : (x : Status) → is_up_status x ≡ true → (x ≡ Normal) ⊎ (x ≡ ViewChange)
up_cases Normal e = inl refl
up_cases ViewChange e = inr refl
up_cases Recovering e = absurd (false≢true e)
up_cases Down e = absurd (false≢true e)

pub up_not_down : (x : Status) → is_up_status x ≡ true → x ≢ Down
up_not_down x u e = false≢true (ap is_up_status (sym e) ∙ u)

module _ {E : Type 0} {g : Group E} {h : History E} {c : ℕ} {s : State E} (r : IsGoodState g h c s) where
  pub up_view : is_up_status s.status ≡ true → (s.view ≡ h.promise c) × (s.normal ≤ s.view)
  up_view u = elim (up_cases s.status u) [
    | inl e ↦ let x = r.normal e in (x.1, omega (arith, x.0))
    | inr e ↦ let x = r.changing e in (x.1, omega (arith, x.0))
  ]

  -- a normal state's log is a log of its view
  pub own_of_view : s.status ≡ Normal → IsLogOf g h s.view s.log s.commit
  own_of_view n = subst (λ (v : ℕ). IsLogOf g h v s.log s.commit) (r.normal n).0 (r.of_view (ap is_up_status n))

  -- what is adopted is of a view above that of the log
  pub adopted_above : {w : ℕ} → is_up_status s.status ≡ true → (s.view < w) ⊎ ((s.view ≡ w) × (s.status ≡ ViewChange)) → s.normal < w
  adopted_above u later = let at = up_view u in elim later [ inl z ↦ omega (arith, at.1) | inr z ↦ omega (arith, z.0, (r.changing z.1).0) ]

module _ {E : Type 0} {g : Group E} {h : History E} where
  -- a place that has a quorum is in its view
  pub quorum_within : Invariant g h → {v m : ℕ} → HasQuorum g h v m → 1 ≤ m → m ≤ length (h.logs v)
  quorum_within i {v} {m} q o =
      let q' = q.many in
      let s = count_some (has_accepted g h v m) (size g) (omega arith) in
      (i.states s.0 s.1).held v m o s.2

  -- a filled response that is kept is good, and fresh
  pub heard_answer : Invariant g h → (c : ℕ) → c < size g → (h.state c).status ≡ Recovering → (r : Response E) → IsIn r (h.state c).responses → (k : ℕ) (log : List E) → r.answer ≡ Filled k log
      → IsGoodAnswer g h r.from c r.view (h.life c) k log
  heard_answer i c b e r at k log a =
      let good : IsGoodResponse g h r.from c r.view (h.life c) r.answer = i.letters _ ((i.states c b).heard e r at).1 in
      (subst (λ (z : Answer E). IsGoodResponse g h r.from c r.view (h.life c) z) a good).1

  -- what is committed of a log of a view is certified
  pub committed_certified : Invariant g h → {w k : ℕ} {xs : List E} → IsLogOf g h w xs k → IsCertified g h (take k xs)
  committed_certified i {w} {k = zero} {xs} r = empty refl
  committed_certified i {w} {k = suc j} {xs} r = elim r.committed [
    | nothing e ↦ absurd (omega (arith, e))
    | backed v m a b q ↦ elim (cases_lt v w) [
      | inl l ↦ (certified_front q b l r.safe).1
      | inr l ↦
          let same : w ≡ v = omega arith in
          let front : IsPrefix xs (h.logs v) = subst (λ (z : ℕ). IsPrefix xs (h.logs z)) same r.front in
          shown v m (omega (arith, take_within (suc j) xs r.within)) (quorum_within i q (omega arith)) (prefix_trans (front_prefix (suc j) xs) front) q
    ]
  ]

  -- what is committed of it begins each log that is safe for a later view
  pub committed_begins : Invariant g h → {u w k : ℕ} {xs ys : List E} → IsLogOf g h u ys k → u < w → IsSafe g h w xs → IsPrefix (take k ys) xs
  committed_begins i {u} {w} {k = zero} {xs} {ys} r l s = prefix_nil xs
  committed_begins i {u} {w} {k = suc j} {xs} {ys} r l s = elim r.committed [
    | nothing e ↦ absurd (omega (arith, e))
    | backed v m a b q ↦
        let f = quorum_begins q (omega arith) (omega arith) s in
        let n = take_within m (h.logs v) f.within in let n' = take_within (suc j) ys r.within in
        let short : length (take (suc j) ys) ≤ length (take m (h.logs v)) = omega arith in
        elim (cases_lt v u) [
          | inl l' ↦
              let f' = quorum_begins q (omega arith) l' r.safe in
              prefix_trans (prefix_both (front_prefix (suc j) ys) f'.front short) f.front
          | inr l' ↦
              let same : u ≡ v = omega arith in
              let front : IsPrefix ys (h.logs v) = subst (λ (z : ℕ). IsPrefix ys (h.logs z)) same r.front in
              prefix_trans (prefix_both (prefix_trans (front_prefix (suc j) ys) front) (front_prefix m (h.logs v)) short) f.front
        ]
  ]

  -- what is certified in an earlier view begins the log of a later one
  begins : Invariant g h → {v m w : ℕ} {xs ys : List E} → v < w → length xs ≤ m → m ≤ length (h.logs v) → IsPrefix xs (h.logs v) → HasQuorum g h v m → 1 ≤ length ys → IsPrefix ys (h.logs w) → IsPrefix xs (h.logs w)
  begins i {v} {m} {w} {xs = []} {ys} l a b p q o p' = prefix_nil (h.logs w)
  begins i {v} {m} {w} {xs = x ∷ xs} {ys} l a b p q o p' =
      elim (i.views w).safe [
        | inl z ↦ let n = prefix_length p' in let z' = ap length z in absurd (omega arith)
        | inr s ↦
            let f = quorum_begins q (omega arith) l s in
            let n = take_within m (h.logs v) f.within in
            prefix_trans (prefix_both p (front_prefix m (h.logs v)) (omega arith)) f.front
      ]

  -- of two certified logs one begins the other
  pub certified_agree : Invariant g h → {xs ys : List E} → IsCertified g h xs → IsCertified g h ys → IsPrefix xs ys ⊎ IsPrefix ys xs
  certified_agree i {xs} {ys} (empty e) b = inl (subst (λ (z : List E). IsPrefix z ys) (sym e) (prefix_nil ys))
  certified_agree i {xs} {ys} (shown v m a b p q) (empty e) = inr (subst (λ (z : List E). IsPrefix z xs) (sym e) (prefix_nil xs))
  certified_agree i {xs = []} {ys} (shown v m a b p q) (shown v' m' a' b' p' q') = inl (prefix_nil ys)
  certified_agree i {xs = x ∷ xs} {ys = []} (shown v m a b p q) (shown v' m' a' b' p' q') = inr (prefix_nil (x ∷ xs))
  certified_agree i {xs = x ∷ xs} {ys = y ∷ ys} (shown v m a b p q) (shown v' m' a' b' p' q') = elim (cases_lt v v') [
    | inl l ↦ comparable (begins i l a b p q (omega arith) p') p'
    | inr l ↦ elim (cases_lt v' v) [
      | inl l' ↦ comparable p (begins i l' a' b' p' q' (omega arith) p)
      | inr l' ↦ let e : v' ≡ v = omega arith in comparable p (subst (λ (z : ℕ). IsPrefix (y ∷ ys) (h.logs z)) e p')
    ]
  ]
