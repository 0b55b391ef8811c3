-- The greatest op on which a majority agrees, from the last op down.
use Rattle.std.proofs.Common.{inl, inr, ◌⊎◌, length, ap, ◌∙◌, ◌≡◌, ℕ, zero, suc, ◌+◌, ◌-◌, ◌<◌, ◌≤◌, Bool, true, false, List, [], ◌∷◌, refl, sym, arith, max, cond}
use Rattle.std.specs.Prelude.{count_by, filter, nat_eq, nat_le, not, ◌&&◌, ◌||◌, slice_index, if◌then◌else◌}
use Rattle.std.specs.List.{list_any}
use Rattle.std.proofs.lemmas.Bool.{eqb-true, cases_Bool, cases_eq, cases_lt}
use Rattle.std.proofs.lemmas.Bool.Decides.{nat_tests}
use Rattle.std.proofs.lemmas.List.{get_or_past}
use Rattle.std.proofs.lemmas.List.Sums.{sum_by-append, sum_by-cons}
use Rattle.vr_log.specs.declared.state.VrState.{VrState}
use Rattle.vr_log.specs.Members.{most_failures, others, others_below}
use Rattle.vr_normal.specs.Cases.{ops, greatest, is_agreed, agreed}

pub greatest_least : (k : ℕ) (numbers : List ℕ) → k ≤ greatest k numbers
greatest_least k [] = omega arith
greatest_least k (n ∷ numbers) = let h = greatest_least k numbers in omega arith

below_step : (p : ℕ → Bool) (k op : ℕ) (b : Bool) → p (suc op) ≡ b → greatest k (filter p (ops op)) ≤ max k op → greatest k (filter p (ops (suc op))) ≤ max k (suc op)
below_step p k op true e h = rw e (omega arith)
below_step p k op false e h = rw e (omega arith)

pub greatest_most : (p : ℕ → Bool) (k op : ℕ) → greatest k (filter p (ops op)) ≤ max k op
greatest_most p k zero = omega arith
greatest_most p k (suc op) = below_step p k op (p (suc op)) refl (greatest_most p k op)

-- each agreed op is at most the greatest
pub greatest_of : (p : ℕ → Bool) (k n op : ℕ) → 0 < op → op ≤ n → p op ≡ true → op ≤ greatest k (filter p (ops n))
greatest_of p k zero op some le e = absurd (omega arith)
greatest_of p k (suc n) op some le e =
    elim (cases_eq op (suc n)) [
      | inl same ↦ let here : p (suc n) ≡ true = ap p (sym same) ∙ e in rw here (omega (arith, same))
      | inr less ↦ let below = greatest_of p k n op some (omega (arith, ne_lt op n le less)) e in more p k n op (p (suc n)) refl below
    ]
  where
    ne_lt : (a b : ℕ) → a ≤ suc b → (a ≡ suc b → ⊥) → a ≤ b
    ne_lt a b le ne = elim (cases_lt b a) [ inl lt ↦ absurd (ne (omega arith)) | inr ge ↦ ge ]

    more : (p : ℕ → Bool) (k n op : ℕ) (b : Bool) → p (suc n) ≡ b → op ≤ greatest k (filter p (ops n)) → op ≤ greatest k (filter p (ops (suc n)))
    more p k n op true e h = rw e (omega arith)
    more p k n op false e h = rw e h

-- what is at least each of them is at least the greatest
pub greatest_below : (p : ℕ → Bool) (k n most : ℕ) → k ≤ most → ((op : ℕ) → 0 < op → op ≤ n → p op ≡ true → op ≤ most) → greatest k (filter p (ops n)) ≤ most
greatest_below p k zero most le each = le
greatest_below p k (suc n) most le each = step (p (suc n)) refl (greatest_below p k n most le (λ op some lt e. each op some (omega arith) e))
  where
    step : (b : Bool) → p (suc n) ≡ b → greatest k (filter p (ops n)) ≤ most → greatest k (filter p (ops (suc n))) ≤ most
    step true e h = let here = each (suc n) (omega arith) (omega arith) e in rw e (omega arith)
    step false e h = rw e h

-- where no member's op is this one, as many have acknowledged the next one
none_at : (a : ℕ → ℕ) (m : ℕ) (members : List ℕ) → list_any (λ j. nat_eq (a j) m) members ≡ false → count_by (λ j. nat_le (m + 1) (a j)) members ≡ count_by (λ j. nat_le m (a j)) members
none_at a m [] e = refl
none_at a m (j ∷ members) e =
    let p = or_parts (nat_eq (a j) m) (list_any (λ i. nat_eq (a i) m) members) e in
    let rest = none_at a m members p.1 in
    sum_by-cons (λ i. cond (nat_le (m + 1) (a i)) 1 0) j members ∙ rw (rest, same (a j) p.0) (sym (sum_by-cons (λ i. cond (nat_le m (a i)) 1 0) j members))
  where
    same : (n : ℕ) → nat_eq n m ≡ false → nat_le (m + 1) n ≡ nat_le m n
    same n e = grind (arith, nat_tests)

    or_parts : (b c : Bool) → (b || c) ≡ false → (b ≡ false) × (c ≡ false)
    or_parts false c e = (refl, e)
    or_parts true c e = absurd cc

some_at : (a : ℕ → ℕ) (m : ℕ) (members : List ℕ) → list_any (λ j. nat_eq (a j) m) members ≡ true → (j : ℕ) × (a j ≡ m)
some_at a m [] e = absurd cc
some_at a m (j ∷ members) e = elim (cases_Bool (nat_eq (a j) m)) [
  | inl here ↦ (j, eqb-true (a j) m here)
  | inr other ↦ some_at a m members (rw other at e)
]

-- so an agreed op is at most the last one, where that is agreed, or some member's
pub agreed_below : (a : ℕ → ℕ) (members : List ℕ) (f n most left op : ℕ) → op + left ≡ n →
    (nat_le f (count_by (λ j. nat_le n (a j)) members) ≡ true → n ≤ most) →
    ((j : ℕ) → a j < n → nat_le f (count_by (λ i. nat_le (a j) (a i)) members) ≡ true → a j ≤ most) →
    nat_le f (count_by (λ j. nat_le op (a j)) members) ≡ true → op ≤ most
agreed_below a members f n most zero op is last each e = let same : op ≡ n = omega arith in omega (arith, last (rw (sym same) e), same)
agreed_below a members f n most (suc left) op is last each e = elim (cases_Bool (list_any (λ j. nat_eq (a j) op) members)) [
  | inl here ↦
      let j = some_at a op members here in
      let same : a j.0 ≡ op = j.1 in
      let most_is = each j.0 (omega (arith, same, is)) (rw same e) in omega (arith, most_is, same)
  | inr none ↦ let next = agreed_below a members f n most left (op + 1) (omega arith) last each (rw (none_at a op members none) e) in omega (arith, next)
]

-- the best op of so many members
pub record Best (s : VrState) (members best : ℕ) : Type 0 where
  pub least : s.commit ≤ best
  pub from : (best ≡ s.commit) ⊎ ((0 < best) × (best ≤ length s.log) × (is_agreed s best ≡ true))
  pub each : (j : ℕ) → j < members → slice_index s.acked j < length s.log → is_agreed s (slice_index s.acked j) ≡ true → slice_index s.acked j ≤ best

pub best_rises : (s : VrState) (members best op : ℕ) → Best s members best → op ≡ slice_index s.acked members → best < op → op < length s.log → is_agreed s op ≡ true → Best s (members + 1) op
best_rises s members best op b is more le e = record {
  least = let l = b.least in omega arith;
  from = inr (omega arith, omega arith, e);
  each = λ j lt short agreed. elim (cases_eq j members) [
    | inl same ↦ let here : slice_index s.acked j ≡ op = ap (λ (i : ℕ). slice_index s.acked i) same ∙ sym is in omega (arith, here)
    | inr other ↦ let old = b.each j (below j members lt other) short agreed in omega (arith, old)
  ];
}
  where
    below : (i n : ℕ) → i < n + 1 → (i ≡ n → ⊥) → i < n
    below i n lt ne = elim (cases_lt i n) [ inl less ↦ less | inr ge ↦ absurd (ne (omega arith)) ]

pub best_stays : (s : VrState) (members best op : ℕ) → Best s members best → op ≡ slice_index s.acked members → (op < length s.log → is_agreed s op ≡ true → op ≤ best) → Best s (members + 1) best
best_stays s members best op b is most = record {
  least = b.least;
  from = b.from;
  each = λ j lt short agreed. elim (cases_eq j members) [
    | inl same ↦
        let here : op ≡ slice_index s.acked j = is ∙ ap (λ (i : ℕ). slice_index s.acked i) (sym same) in
        let old = most (omega (arith, here, short)) (ap (λ (n : ℕ). is_agreed s n) here ∙ agreed) in omega (arith, old, here)
    | inr other ↦ b.each j (below j members lt other) short agreed
  ];
}
  where
    below : (i n : ℕ) → i < n + 1 → (i ≡ n → ⊥) → i < n
    below i n lt ne = elim (cases_lt i n) [ inl less ↦ less | inr ge ↦ absurd (ne (omega arith)) ]

pub best_is : (s : VrState) (members best : ℕ) → length s.acked ≤ members → is_agreed s (length s.log) ≡ false → Best s members best → best ≡ agreed s
best_is s members best all off b =
    let most : agreed s ≤ best =
    greatest_below (is_agreed s) s.commit (length s.log) best b.least (λ op some le e.
    agreed_below (λ j. slice_index s.acked j) (others s) (most_failures s) (length s.log) best (length s.log - op) op (omega arith)
    (λ on. absurd (let z : true ≡ false = sym on ∙ off in cc))
    (λ j short on. elim (cases_lt j members) [ inl lt ↦ b.each j lt short on | inr ge ↦ let none : slice_index s.acked j ≡ 0 = get_or_past s.acked j 0 (omega arith) in omega (arith, none) ])
    e) in
    let least : best ≤ agreed s = elim b.from [
      | inl same ↦ let l = greatest_least s.commit (filter (is_agreed s) (ops (length s.log))) in omega (arith, l, same)
      | inr some ↦ greatest_of (is_agreed s) s.commit (length s.log) best some.0 some.1 some.2
    ] in
    omega (arith, most, least)

-- the last op is agreed on
pub last_is : (s : VrState) → is_agreed s (length s.log) ≡ true → max (length s.log) s.commit ≡ agreed s
last_is s on =
    let most = greatest_most (is_agreed s) s.commit (length s.log) in
    let least = greatest_least s.commit (filter (is_agreed s) (ops (length s.log))) in
    elim (cases_lt 0 (length s.log)) [
      | inl some ↦ let last = greatest_of (is_agreed s) s.commit (length s.log) (length s.log) some (omega arith) on in omega (arith, most, least, last)
      | inr none ↦ omega (arith, most, least, none)
    ]

-- one member more
pub count_more : (p : ℕ → Bool) (me j : ℕ) → count_by p (others_below me (suc j)) ≡ count_by p (others_below me j) + (if not (nat_eq j me) && p j then 1 else 0)
count_more p me j = chosen (nat_eq j me) refl (p j) refl
  where
    chosen : (b : Bool) → nat_eq j me ≡ b → (c : Bool) → p j ≡ c → count_by p (others_below me (suc j)) ≡ count_by p (others_below me j) + (if not (nat_eq j me) && p j then 1 else 0)
    chosen true e c d = rw e (omega arith)
    chosen false e true d = rw (e, sum_by-append (λ x. cond (p x) 1 0) (others_below me j) (j ∷ []), d) refl
    chosen false e false d = rw (e, sum_by-append (λ x. cond (p x) 1 0) (others_below me j) (j ∷ []), d) refl
