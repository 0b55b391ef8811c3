-- A quorum, as those of all members that are in it.
use Rattle.std.proofs.Common.{◌≡◌, ◌≤◌, ◌<◌, inl, inr, ℕ, zero, suc, ◌+◌, ◌/◌, ◌%◌, Bool, true, false, List, [], ◌∷◌, ◌++◌, length, refl, sym, ◌∙◌, ap, subst, arith}
use Rattle.std.specs.Prelude.{nat_eq, ◌||◌, filter, slice_index, if◌then◌else◌, not}
use Rattle.std.specs.List.{range_with_len}
use Rattle.std.specs.List.Sorted.{IsStrictlyIncreasing}
use Rattle.std.proofs.lemmas.Bool.{ne_eqb, eqb-true, eqb-false, or_cases, true≢false, cases_lt, false_from_ne_true, both_ways, not-true, eq-eqb}
use Rattle.std.proofs.lemmas.List.FromFn.{get_or-range_with_len, length-range_with_len}
use Rattle.std.proofs.lemmas.List.Kept.{IsStrictlyIncreasing-filter}
use Rattle.vr_log.specs.Members.{others_below}
use Rattle.dispatcher.proofs.Telling.{range_more}
use Rattle.closing_laws.specs.Quorum.{has, IsQuorum}
use Rattle.closing_laws.proofs.Lists.Numbers.{has_here, has_later, filter_has, filter_on, filter_no, below_has, Once, filter_once, below_once, others_but_one}

-- the members of a group, and those of a quorum among them
pub record IsPicked (n view : ℕ) (quorum : List ℕ) : Type 0 where
  pub ascending : quorum ≡ filter (has quorum) (others_below n n)
  pub count : length quorum ≡ suc (n / 2)
  pub primary : has quorum (view % n) ≡ true

-- all members, ascending
pub below_range : (me k : ℕ) → k ≤ me → others_below me k ≡ range_with_len 0 k
below_range me zero le = refl
below_range me (suc k) le =
    let apart : nat_eq k me ≡ false = ne_eqb k me (λ e. omega (arith, e, le)) in
    let next : k + 1 ≡ suc k = omega arith in
    ap (λ (b : Bool). if b then others_below me k else others_below me k ++ k ∷ []) apart
    ∙ ap (λ (l : List ℕ). l ++ k ∷ []) (below_range me k (omega (arith, le)))
    ∙ sym (range_more k) ∙ ap (range_with_len 0) next

pub range_increasing : (a n : ℕ) → IsStrictlyIncreasing (range_with_len a n)
range_increasing a n k less =
    let long = length-range_with_len a n in
    let one = get_or-range_with_len a n k 0 (omega (arith, long, less)) in
    let next = get_or-range_with_len a n (k + 1) 0 (omega (arith, long, less)) in
    omega (arith, one, next)

pub below_increasing : (n : ℕ) → IsStrictlyIncreasing (others_below n n)
below_increasing n = subst IsStrictlyIncreasing (sym (below_range n n (omega arith))) (range_increasing 0 n)

-- one that is picked is a quorum
pub quorum_of_picked : (n view : ℕ) (quorum : List ℕ) → IsPicked n view quorum → IsQuorum n view quorum
quorum_of_picked n view quorum p =
    record {
      count = (let count = p.count in omega (arith, count));
      ascending = subst IsStrictlyIncreasing (sym p.ascending) (IsStrictlyIncreasing-filter (has quorum) (others_below n n) (below_increasing n));
      members = λ c h. (below_has n n c (filter_has (has quorum) (others_below n n) c (ap (λ (l : List ℕ). has l c) (sym p.ascending) ∙ h)).0).0;
      primary = p.primary;
    }

-- in an ascending list each number is below those behind it
increasing_tail : (x : ℕ) (xs : List ℕ) → IsStrictlyIncreasing (x ∷ xs) → IsStrictlyIncreasing xs
increasing_tail x xs h k less =
    let next : suc k + 1 ≡ suc (k + 1) = omega arith in
    subst (λ (m : ℕ). slice_index (x ∷ xs) (suc k) < slice_index (x ∷ xs) m) next (h (suc k) (omega (arith, less)))

first_below : (x : ℕ) (xs : List ℕ) (c : ℕ) → IsStrictlyIncreasing (x ∷ xs) → has xs c ≡ true → x < c
first_below x [] c h there = absurd (true≢false (sym there))
first_below x (y ∷ ys) c h there =
    let less : x < y = h 0 (omega arith) in
    elim (or_cases (nat_eq y c) (has ys c) there) [
      | inl e ↦ let same = eqb-true y c e in omega (arith, less, same)
      | inr k ↦ let more = first_below y ys c (increasing_tail x (y ∷ ys) h) k in omega (arith, less, more)
    ]

range_low : (a n j : ℕ) → has (range_with_len a n) j ≡ true → a ≤ j
range_low a zero j h = absurd (true≢false (sym h))
range_low a (suc n) j h = elim (or_cases (nat_eq a j) (has (range_with_len (a + 1) n) j) h) [
  | inl e ↦ let same = eqb-true a j e in omega (arith, same)
  | inr k ↦ let low = range_low (a + 1) n j k in omega (arith, low)
]

-- so it is what a range has of it
of_range : (a n : ℕ) (xs : List ℕ) → IsStrictlyIncreasing xs → ((c : ℕ) → has xs c ≡ true → (a ≤ c) × (c < a + n)) → xs ≡ filter (has xs) (range_with_len a n)
of_range a n [] h within = sym (filter_no (range_with_len a n))
of_range a zero (x ∷ xs) h within = let x_is = within x (has_here x xs) in (let low = x_is.0 in let high = x_is.1 in absurd (omega (arith, low, high)))
of_range a (suc n) (x ∷ xs) h within =
    by_first (nat_eq x a) refl
    (λ e. of_range (a + 1) n xs (increasing_tail x xs h)
    (λ c k. let w = within c (has_later x c xs k) in let more = first_below x xs c h k in let high = w.1 in (omega (arith, e, more), omega (arith, high))))
    (λ other. of_range (a + 1) n (x ∷ xs) h
    (λ c k. let w = within c k in let low = w.0 in let high = w.1 in let first = above c k other in (omega (arith, first), omega (arith, high))))
  where
    above : (c : ℕ) → has (x ∷ xs) c ≡ true → (x ≡ a → ⊥) → a < c
    above c k other =
        let first = within x (has_here x xs) in
        let low : a < x = (let le = first.0 in less_of a x le (λ e. other (sym e))) in
        elim (or_cases (nat_eq x c) (has xs c) k) [
          | inl e ↦ let same = eqb-true x c e in omega (arith, same, low)
          | inr i ↦ let more = first_below x xs c h i in omega (arith, more, low)
        ]
      where
        less_of : (i j : ℕ) → i ≤ j → (i ≡ j → ⊥) → i < j
        less_of i j le apart = elim (cases_lt i j) [ inl lt ↦ lt | inr ge ↦ absurd (apart (omega (arith, le, ge))) ]

    by_first : (b : Bool) → nat_eq x a ≡ b → (x ≡ a → xs ≡ filter (has xs) (range_with_len (a + 1) n)) →
        ((x ≡ a → ⊥) → x ∷ xs ≡ filter (has (x ∷ xs)) (range_with_len (a + 1) n)) →
        x ∷ xs ≡ (if nat_eq x a || has xs a then a ∷ filter (has (x ∷ xs)) (range_with_len (a + 1) n) else filter (has (x ∷ xs)) (range_with_len (a + 1) n))
    by_first true e here later =
        let same = eqb-true x a e in
        let rest : filter (has (x ∷ xs)) (range_with_len (a + 1) n) ≡ xs =
        filter_on (has (x ∷ xs)) (has xs) (range_with_len (a + 1) n)
        (λ j k. ap (λ (b : Bool). b || has xs j) (ne_eqb x j (λ i. let low = range_low (a + 1) n j k in omega (arith, low, i, same)))) ∙ sym (here same) in
        ap (λ (y : ℕ). y ∷ xs) same ∙ ap (λ (l : List ℕ). a ∷ l) (sym rest)
        ∙ ap (λ (b : Bool). if b || has xs a then a ∷ filter (has (x ∷ xs)) (range_with_len (a + 1) n) else filter (has (x ∷ xs)) (range_with_len (a + 1) n)) (sym e)
    by_first false e here later =
        let other = eqb-false x a e in
        let none : has (x ∷ xs) a ≡ false = false_from_ne_true (has (x ∷ xs) a) (λ k. let more = above a k other in omega (arith, more)) in
        later other ∙ ap (λ (b : Bool). if b then a ∷ filter (has (x ∷ xs)) (range_with_len (a + 1) n) else filter (has (x ∷ xs)) (range_with_len (a + 1) n)) (sym none)

-- and a quorum is picked
pub picked_of_quorum : (n view : ℕ) (quorum : List ℕ) → IsQuorum n view quorum → IsPicked n view quorum
picked_of_quorum n view quorum q =
    record {
      ascending = of_range 0 n quorum q.ascending (λ c h. (omega arith, (let less = q.members c h in omega (arith, less)))) ∙ ap (filter (has quorum)) (sym (below_range n n (omega arith)));
      count = (let count = q.count in omega (arith, count));
      primary = q.primary;
    }

-- in a group of several a quorum has another member
pub another : (n view p : ℕ) (quorum : List ℕ) → IsPicked n view quorum → has quorum p ≡ true → 0 < n / 2 → (b : ℕ) × (has quorum b ≡ true) × (b ≡ p → ⊥)
another n view p quorum q inside some =
    let once = subst Once (sym q.ascending) (filter_once (has quorum) (others_below n n) (below_once n n)) in
    let all = others_but_one p quorum once inside in
    let count = q.count in
    first_other (filter (λ j. not (nat_eq p j)) quorum) refl (omega (arith, all, count, some))
  where
    first_other : (xs : List ℕ) → filter (λ j. not (nat_eq p j)) quorum ≡ xs → 0 < length xs → (b : ℕ) × (has quorum b ≡ true) × (b ≡ p → ⊥)
    first_other [] is long = absurd (omega (arith, long))
    first_other (x ∷ xs) is long =
        let among = filter_has (λ j. not (nat_eq p j)) quorum x (ap (λ (l : List ℕ). has l x) is ∙ has_here x xs) in
        (x, among.0, (λ e. both_ways (nat_eq p x) (not-true (nat_eq p x) among.1) (eq-eqb p x (sym e))))
