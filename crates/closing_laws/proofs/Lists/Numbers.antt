-- Lists of numbers, each once.
use Rattle.std.proofs.Common.{◌≡◌, ◌≤◌, ◌<◌, ◌⊎◌, inl, inr, ℕ, zero, suc, ◌+◌, Bool, true, false, List, [], ◌∷◌, ◌++◌, length, refl, sym, ◌∙◌, ap, arith}
use Rattle.std.specs.Prelude.{not, nat_eq, nat_lt, ◌&&◌, ◌||◌, filter, if◌then◌else◌}
use Rattle.std.proofs.lemmas.Bool.{eq-eqb, ne_eqb, eqb-true, eqb-false, cases_order, lt-ltb, le-ltb, or_parts, or_cases, or_left, or_right, true≢false, both_ways}
use Rattle.std.proofs.lemmas.List.{append-nil}
use Rattle.std.proofs.Math.Bool.{or_assoc}
use Rattle.vr_log.specs.Members.{others_below}
use Rattle.of_types.specs.SmallSets.{with_number}
use Rattle.list_facts.specs.Lists.{IsIn}
use Rattle.list_facts.proofs.Prefixes.{append_filter}
use Rattle.closing_laws.specs.Quorum.{has}

-- each of these numbers stands once
abbrev pub Once : List ℕ → Type 0
Once [] = Unit {0}
Once (x ∷ xs) = (has xs x ≡ false) × Once xs

pub has_here : (x : ℕ) (xs : List ℕ) → has (x ∷ xs) x ≡ true
has_here x xs = rw (eq-eqb x x refl) refl

pub has_later : (y x : ℕ) (xs : List ℕ) → has xs x ≡ true → has (y ∷ xs) x ≡ true
has_later y x xs h = or_right (nat_eq y x) (has xs x) h

pub in_has : (xs : List ℕ) (y : ℕ) → IsIn y xs → has xs y ≡ true
in_has [] y h = absurd h
in_has (x ∷ xs) y (inl e) = or_left (nat_eq x y) (has xs y) (eq-eqb x y (sym e))
in_has (x ∷ xs) y (inr h) = or_right (nat_eq x y) (has xs y) (in_has xs y h)

pub has_in : (xs : List ℕ) (y : ℕ) → has xs y ≡ true → IsIn y xs
has_in [] y there = absurd (true≢false (sym there))
has_in (x ∷ xs) y there = elim (or_cases (nat_eq x y) (has xs y) there) [ inl here ↦ inl (sym (eqb-true x y here)) | inr later ↦ inr (has_in xs y later) ]

pub has_append : (xs ys : List ℕ) (j : ℕ) → has (xs ++ ys) j ≡ (has xs j || has ys j)
has_append [] ys j = refl
has_append (x ∷ xs) ys j = ap (λ b. nat_eq x j || b) (has_append xs ys j) ∙ sym (or_assoc (nat_eq x j) (has xs j) (has ys j))

-- what is left of a list
kept_by : (t : ℕ → Bool) (x j : ℕ) (xs : List ℕ) (b : Bool) → t x ≡ b → has (if b then x ∷ filter t xs else filter t xs) j ≡ true → has (filter t xs) j ≡ true ⊎ ((x ≡ j) × (t x ≡ true))
kept_by t x j xs true e h = elim (or_cases (nat_eq x j) (has (filter t xs) j) h) [ inl k ↦ inr (eqb-true x j k, e) | inr k ↦ inl k ]
kept_by t x j xs false e h = inl h

pub filter_has : (t : ℕ → Bool) (xs : List ℕ) (j : ℕ) → has (filter t xs) j ≡ true → (has xs j ≡ true) × (t j ≡ true)
filter_has t [] j h = absurd (true≢false (sym h))
filter_has t (x ∷ xs) j h = elim (kept_by t x j xs (t x) refl h) [
  | inl k ↦ let r = filter_has t xs j k in (has_later x j xs r.0, r.1)
  | inr k ↦ (or_left (nat_eq x j) (has xs j) (eq-eqb x j k.0), ap t (sym k.0) ∙ k.1)
]

pub filter_in : (t : ℕ → Bool) (xs : List ℕ) (j : ℕ) → has xs j ≡ true → t j ≡ true → has (filter t xs) j ≡ true
filter_in t [] j h k = absurd (true≢false (sym h))
filter_in t (x ∷ xs) j h k = by_first (or_cases (nat_eq x j) (has xs j) h) (t x) refl (λ i. filter_in t xs j i k)
  where
    by_first : (nat_eq x j ≡ true) ⊎ (has xs j ≡ true) → (b : Bool) → t x ≡ b → (has xs j ≡ true → has (filter t xs) j ≡ true) → has (if b then x ∷ filter t xs else filter t xs) j ≡ true
    by_first (inl e) true is rest = or_left (nat_eq x j) (has (filter t xs) j) e
    by_first (inl e) false is rest = absurd (both_ways (t j) (ap t (sym (eqb-true x j e)) ∙ is) k)
    by_first (inr i) true is rest = has_later x j (filter t xs) (rest i)
    by_first (inr i) false is rest = rest i

pub filter_none : (t : ℕ → Bool) (xs : List ℕ) (j : ℕ) → has xs j ≡ false → has (filter t xs) j ≡ false
filter_none t xs j h = by_value (has (filter t xs) j) refl
  where
    by_value : (b : Bool) → has (filter t xs) j ≡ b → b ≡ false
    by_value true e = absurd (both_ways (has xs j) h (filter_has t xs j e).0)
    by_value false e = refl

pub filter_once : (t : ℕ → Bool) (xs : List ℕ) → Once xs → Once (filter t xs)
filter_once t [] once = tt
filter_once t (x ∷ xs) once = by_test (t x) (filter_once t xs once.1)
  where
    by_test : (b : Bool) → Once (filter t xs) → Once (if b then x ∷ filter t xs else filter t xs)
    by_test true h = (filter_none t xs x once.0, h)
    by_test false h = h

-- one test after another
pub filter_twice : (s t : ℕ → Bool) (xs : List ℕ) → filter s (filter t xs) ≡ filter (λ j. t j && s j) xs
filter_twice s t [] = refl
filter_twice s t (x ∷ xs) = by_test (t x) (filter_twice s t xs)
  where
    by_test : (b : Bool) → filter s (filter t xs) ≡ filter (λ j. t j && s j) xs →
        filter s (if b then x ∷ filter t xs else filter t xs) ≡ (if b && s x then x ∷ filter (λ j. t j && s j) xs else filter (λ j. t j && s j) xs)
    by_test true h = ap (λ (l : List ℕ). if s x then x ∷ l else l) h
    by_test false h = h

-- two tests that agree on a list
pub filter_on : (s t : ℕ → Bool) (xs : List ℕ) → ((j : ℕ) → has xs j ≡ true → s j ≡ t j) → filter s xs ≡ filter t xs
filter_on s t [] agree = refl
filter_on s t (x ∷ xs) agree =
    ap (λ b. if b then x ∷ filter s xs else filter s xs) (agree x (has_here x xs))
    ∙ ap (λ (l : List ℕ). if t x then x ∷ l else l) (filter_on s t xs (λ j h. agree j (has_later x j xs h)))

pub filter_all : (xs : List ℕ) → filter (λ j. true) xs ≡ xs
filter_all [] = refl
filter_all (x ∷ xs) = ap (λ (l : List ℕ). x ∷ l) (filter_all xs)

pub filter_no : (xs : List ℕ) → filter (λ j. false) xs ≡ []
filter_no [] = refl
filter_no (x ∷ xs) = filter_no xs

pub others_all : (c : ℕ) (xs : List ℕ) → has xs c ≡ false → filter (λ j. not (nat_eq c j)) xs ≡ xs
others_all c xs none =
    filter_on (λ j. not (nat_eq c j)) (λ j. true) xs (λ j h. ap not (ne_eqb c j (λ e. both_ways (has xs j) (ap (has xs) (sym e) ∙ none) h))) ∙ filter_all xs

pub others_but_one : (c : ℕ) (xs : List ℕ) → Once xs → has xs c ≡ true → suc (length (filter (λ j. not (nat_eq c j)) xs)) ≡ length xs
others_but_one c [] once h = absurd (true≢false (sym h))
others_but_one c (x ∷ xs) once h = by_test (nat_eq c x) refl (λ k. others_but_one c xs once.1 k)
  where
    by_test : (b : Bool) → nat_eq c x ≡ b → (has xs c ≡ true → suc (length (filter (λ j. not (nat_eq c j)) xs)) ≡ length xs) → suc (length (if not b then x ∷ filter (λ j. not (nat_eq c j)) xs else filter (λ j. not (nat_eq c j)) xs)) ≡ suc (length xs)
    by_test true e rest = ap (λ (l : List ℕ). suc (length l)) (others_all c xs (ap (has xs) (eqb-true c x e) ∙ once.0))
    by_test false e rest = ap suc (rest (elim (or_cases (nat_eq x c) (has xs c) h) [
      | inl k ↦ absurd (eqb-false c x e (sym (eqb-true x c k)))
      | inr k ↦ k
    ]))

-- a number joins a set
pub with_length : (c : ℕ) (xs : List ℕ) → has xs c ≡ false → length (with_number c xs) ≡ suc (length xs)
with_length c xs none = long (filter (λ m. nat_lt m c) xs) (filter (λ m. nat_lt c m) xs) ∙ ap suc (split xs none)
  where
    long : (ys zs : List ℕ) → length (ys ++ c ∷ zs) ≡ suc (length ys + length zs)
    long [] zs = omega arith
    long (y ∷ ys) zs = let h = long ys zs in omega (arith, h)

    split : (ys : List ℕ) → has ys c ≡ false → length (filter (λ m. nat_lt m c) ys) + length (filter (λ m. nat_lt c m) ys) ≡ length ys
    split [] gone = omega arith
    split (y ∷ ys) gone =
        let parts = or_parts (nat_eq y c) (has ys c) gone in
        let h = split ys parts.1 in
        elim (cases_order y c) [
          | inl e ↦ absurd (eqb-false y c parts.0 e)
          | inr (inl lt) ↦ rw (lt-ltb y c lt, le-ltb c y (omega (arith, lt))) (omega (arith, h))
          | inr (inr gt) ↦ rw (le-ltb y c (omega (arith, gt)), lt-ltb c y gt) (omega (arith, h))
        ]

pub with_none : (c j : ℕ) (xs : List ℕ) → has xs j ≡ false → nat_eq c j ≡ false → has (with_number c xs) j ≡ false
with_none c j xs none other =
    has_append (filter (λ m. nat_lt m c) xs) (c ∷ filter (λ m. nat_lt c m) xs) j
    ∙ rw (filter_none (λ m. nat_lt m c) xs j none, other, filter_none (λ m. nat_lt c m) xs j none) refl

-- the members below a number
pub below_has : (me n j : ℕ) → has (others_below me n) j ≡ true → (j < n) × (nat_eq me j ≡ false)
below_has me zero j h = absurd (true≢false (sym h))
below_has me (suc k) j h = by_test (nat_eq k me) refl h (λ i. below_has me k j i)
  where
    by_test : (b : Bool) → nat_eq k me ≡ b → has (if b then others_below me k else others_below me k ++ k ∷ []) j ≡ true → (has (others_below me k) j ≡ true → (j < k) × (nat_eq me j ≡ false)) → (j < suc k) × (nat_eq me j ≡ false)
    by_test true e h rest = let r = rest h in (let less = r.0 in omega (arith, less), r.1)
    by_test false e h rest = elim (or_cases (has (others_below me k) j) (has (k ∷ []) j) (sym (has_append (others_below me k) (k ∷ []) j) ∙ h)) [
      | inl i ↦ let r = rest i in (let less = r.0 in omega (arith, less), r.1)
      | inr i ↦ elim (or_cases (nat_eq k j) false i) [
        | inl at ↦ let same = eqb-true k j at in (omega (arith, same), ne_eqb me j (λ x. eqb-false k me e (same ∙ sym x)))
        | inr nil ↦ absurd (true≢false (sym nil))
      ]
    ]

pub below_once : (me n : ℕ) → Once (others_below me n)
below_once me zero = tt
below_once me (suc k) = by_test (nat_eq k me) (below_once me k)
  where
    none_above : has (others_below me k) k ≡ false
    none_above = by_value (has (others_below me k) k) refl
      where
        by_value : (b : Bool) → has (others_below me k) k ≡ b → b ≡ false
        by_value true e = let less = (below_has me k k e).0 in absurd (omega (arith, less))
        by_value false e = refl

    push : (xs : List ℕ) → Once xs → has xs k ≡ false → Once (xs ++ k ∷ [])
    push [] once gone = (refl, tt)
    push (x ∷ xs) once gone =
        let parts = or_parts (nat_eq x k) (has xs k) gone in
        let apart : nat_eq k x ≡ false = ne_eqb k x (λ e. eqb-false x k parts.0 (sym e)) in
        (has_append xs (k ∷ []) x ∙ rw (once.0, apart) refl, push xs once.1 parts.1)

    by_test : (b : Bool) → Once (others_below me k) → Once (if b then others_below me k else others_below me k ++ k ∷ [])
    by_test true h = h
    by_test false h = push (others_below me k) h none_above

pub below_others : (c n big : ℕ) → n ≤ big → others_below c n ≡ filter (λ j. not (nat_eq c j)) (others_below big n)
below_others c zero big le = refl
below_others c (suc k) big le =
    let high : nat_eq k big ≡ false = ne_eqb k big (λ e. omega (arith, e, le)) in
    let h = below_others c k big (omega (arith, le)) in
    by_test (nat_eq k c) refl h high
  where
    by_test : (b : Bool) → nat_eq k c ≡ b → others_below c k ≡ filter (λ j. not (nat_eq c j)) (others_below big k) → nat_eq k big ≡ false →
        (if b then others_below c k else others_below c k ++ k ∷ []) ≡ filter (λ j. not (nat_eq c j)) (if nat_eq k big then others_below big k else others_below big k ++ k ∷ [])
    by_test true e h high =
        let here : nat_eq c k ≡ true = eq-eqb c k (sym (eqb-true k c e)) in
        rw (high, append_filter (λ j. not (nat_eq c j)) (others_below big k) (k ∷ []), here) (h ∙ sym (append-nil (filter (λ j. not (nat_eq c j)) (others_below big k))))
    by_test false e h high =
        let there : nat_eq c k ≡ false = ne_eqb c k (λ x. eqb-false k c e (sym x)) in
        rw (high, append_filter (λ j. not (nat_eq c j)) (others_below big k) (k ∷ []), there) (ap (λ (l : List ℕ). l ++ k ∷ []) h)
