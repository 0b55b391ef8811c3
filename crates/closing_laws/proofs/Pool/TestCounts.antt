-- Counts of what passes a test, beside those of what passes another.
use Rattle.std.proofs.Common.{◌≡◌, ◌≤◌, ◌<◌, ◌⊎◌, inl, inr, ℕ, zero, suc, ◌+◌, Bool, true, false, List, [], ◌∷◌, filter, refl, sym, ◌∙◌, ap, arith}
use Rattle.std.specs.Prelude.{count_by, nat_eq, ◌&&◌, if◌then◌else◌}
use Rattle.std.specs.List.{range_with_len}
use Rattle.std.proofs.lemmas.Bool.{cases_eq, eq-eqb, ne_eqb}
use Rattle.list_facts.specs.Lists.{IsIn}
use Rattle.app_core.specs.declared.issued.Issued.{Issued}
use Rattle.closing_laws.proofs.Primary.Numbering.{of_range}
use Rattle.closing_laws.proofs.Primary.Telling.{numbers_in}
use Rattle.closing_laws.proofs.Switches.Saying.{count_cons, count_none}

abbrev one_if : Bool → ℕ
one_if b = if b then 1 else 0

pub less_if : (a b : Bool) → (a ≡ true → b ≡ true) → one_if a ≤ one_if b
less_if true b h = let e = ap one_if (h refl) in omega (arith, e)
less_if false b h = omega arith

but_if : (a b c : Bool) → (a ≡ true → (b ≡ true) ⊎ (c ≡ true)) → one_if a ≤ one_if b + one_if c
but_if true b c h = elim (h refl) [ inl is ↦ (let e = ap one_if is in omega (arith, e)) | inr is ↦ (let e = ap one_if is in omega (arith, e)) ]
but_if false b c h = omega arith

two_if : (a b c : Bool) → (a ≡ true → c ≡ true) → (b ≡ true → c ≡ true) → (a ≡ true → b ≡ true → ⊥) → one_if a + one_if b ≤ one_if c
two_if true true c first second apart = absurd (apart refl refl)
two_if true false c first second apart = let e = ap one_if (first refl) in omega (arith, e)
two_if false true c first second apart = let e = ap one_if (second refl) in omega (arith, e)
two_if false false c first second apart = omega arith

module _ {A : Type 0} where
  pub count_less : (p q : A → Bool) (xs : List A) → ((x : A) → IsIn x xs → p x ≡ true → q x ≡ true) → count_by p xs ≤ count_by q xs
  count_less p q [] each = omega arith
  count_less p q (x ∷ xs) each =
      let a = count_cons p x xs in
      let b = count_cons q x xs in
      let deeper = count_less p q xs (λ y among. each y (inr among)) in
      let first = less_if (p x) (q x) (each x (inl refl)) in
      omega (arith, a, b, deeper, first)

  -- what passes one test passes one of two others
  pub count_but : (p q r : A → Bool) (xs : List A) → ((x : A) → IsIn x xs → p x ≡ true → (q x ≡ true) ⊎ (r x ≡ true)) → count_by p xs ≤ count_by q xs + count_by r xs
  count_but p q r [] each = omega arith
  count_but p q r (x ∷ xs) each =
      let a = count_cons p x xs in
      let b = count_cons q x xs in
      let c = count_cons r x xs in
      let deeper = count_but p q r xs (λ y among. each y (inr among)) in
      let first = but_if (p x) (q x) (r x) (each x (inl refl)) in
      omega (arith, a, b, c, deeper, first)

  -- nothing passes both of two tests
  pub count_two : (p q r : A → Bool) (xs : List A) → ((x : A) → IsIn x xs → p x ≡ true → r x ≡ true) → ((x : A) → IsIn x xs → q x ≡ true → r x ≡ true) →
      ((x : A) → IsIn x xs → p x ≡ true → q x ≡ true → ⊥) → count_by p xs + count_by q xs ≤ count_by r xs
  count_two p q r [] first second apart = omega arith
  count_two p q r (x ∷ xs) first second apart =
      let a = count_cons p x xs in
      let b = count_cons q x xs in
      let c = count_cons r x xs in
      let deeper = count_two p q r xs (λ y among. first y (inr among)) (λ y among. second y (inr among)) (λ y among. apart y (inr among)) in
      let here = two_if (p x) (q x) (r x) (first x (inl refl)) (second x (inl refl)) (apart x (inl refl)) in
      omega (arith, a, b, c, deeper, here)

  -- one passes the second test alone
  pub count_more : (p q : A → Bool) (xs : List A) → ((x : A) → IsIn x xs → p x ≡ true → q x ≡ true) → (y : A) → IsIn y xs → p y ≡ false → q y ≡ true → count_by p xs < count_by q xs
  count_more p q [] each y none out in_ = absurd none
  count_more p q (x ∷ xs) each y (inl is) out in_ =
      let a = count_cons p x xs in
      let b = count_cons q x xs in
      let deeper = count_less p q xs (λ z among. each z (inr among)) in
      let first = ap (λ (z : A). one_if (p z)) (sym is) ∙ ap one_if out in
      let second = ap (λ (z : A). one_if (q z)) (sym is) ∙ ap one_if in_ in
      omega (arith, a, b, deeper, first, second)
  count_more p q (x ∷ xs) each y (inr among) out in_ =
      let a = count_cons p x xs in
      let b = count_cons q x xs in
      let deeper = count_more p q xs (λ z there. each z (inr there)) y among out in_ in
      let first = less_if (p x) (q x) (each x (inl refl)) in
      omega (arith, a, b, deeper, first)

  pub count_filter : (p q : A → Bool) (xs : List A) → count_by p (filter q xs) ≡ count_by (λ x. q x && p x) xs
  count_filter p q [] = refl
  count_filter p q (x ∷ xs) = by_test (q x) (count_filter p q xs) (count_cons (λ x. q x && p x) x xs)
    where
      by_test : (b : Bool) → count_by p (filter q xs) ≡ count_by (λ x. q x && p x) xs →
          count_by (λ x. q x && p x) (x ∷ xs) ≡ one_if (b && p x) + count_by (λ x. q x && p x) xs →
          count_by p (if b then x ∷ filter q xs else filter q xs) ≡ count_by (λ x. q x && p x) (x ∷ xs)
      by_test true rest all = let first = count_cons p x (filter q xs) in omega (arith, first, rest, all)
      by_test false rest all = omega (arith, rest, all)

-- a number stands once in a range
above_none : (a len n : ℕ) → n < a → count_by (λ i. nat_eq i n) (range_with_len a len) ≡ 0
above_none a len n less = count_none (λ i. nat_eq i n) (range_with_len a len) (λ i among. ne_eqb i n (λ e. let low = (of_range a len i among).0 in omega (arith, low, less, e)))

pub once_in_range : (a len n : ℕ) → count_by (λ i. nat_eq i n) (range_with_len a len) ≤ 1
once_in_range a zero n = omega arith
once_in_range a (suc len) n =
    let first = count_cons (λ i. nat_eq i n) a (range_with_len (a + 1) len) in
    elim (cases_eq a n) [
      | inl same ↦
          let one = ap one_if (eq-eqb a n same) in
          let rest = above_none (a + 1) len n (omega (arith, same)) in
          omega (arith, first, one, rest)
      | inr other ↦
          let none = ap one_if (ne_eqb a n other) in
          let rest = once_in_range (a + 1) len n in
          omega (arith, first, none, rest)
    ]

-- so one command of a life has a number
abbrev pub is_numbered : ℕ → ℕ → ℕ → Issued → Bool
is_numbered s life number x = (nat_eq x.switch s && nat_eq x.life life) && nat_eq x.number number

numbered_count : (s life number : ℕ) (xs : List Issued) → count_by (is_numbered s life number) xs ≡ count_by (λ i. nat_eq i number) (numbers_in s life xs)
numbered_count s life number [] = refl
numbered_count s life number (x ∷ xs) = by_test (nat_eq x.switch s && nat_eq x.life life) (numbered_count s life number xs) (count_cons (is_numbered s life number) x xs)
  where
    by_test : (b : Bool) → count_by (is_numbered s life number) xs ≡ count_by (λ i. nat_eq i number) (numbers_in s life xs) →
        count_by (is_numbered s life number) (x ∷ xs) ≡ one_if (b && nat_eq x.number number) + count_by (is_numbered s life number) xs →
        count_by (is_numbered s life number) (x ∷ xs) ≡ count_by (λ i. nat_eq i number) (if b then x.number ∷ numbers_in s life xs else numbers_in s life xs)
    by_test true rest all = let first = count_cons (λ i. nat_eq i number) x.number (numbers_in s life xs) in omega (arith, first, rest, all)
    by_test false rest all = omega (arith, rest, all)

pub numbered_once : (s life number a len : ℕ) (xs : List Issued) → numbers_in s life xs ≡ range_with_len a len → count_by (is_numbered s life number) xs ≤ 1
numbered_once s life number a len xs is =
    let all = numbered_count s life number xs in
    let same = ap (λ (ns : List ℕ). count_by (λ i. nat_eq i number) ns) is in
    let one = once_in_range a len number in
    omega (arith, all, same, one)
