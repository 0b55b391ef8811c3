-- Counts of the numbers below a bound that pass a test.
use Rattle.std.proofs.Common.{◌≡◌, ◌≢◌, ℕ, zero, suc, ◌+◌, ◌<◌, ◌≤◌, inl, inr, Bool, true, false, cond, not, ◌&&◌, eqb, List, [], ◌∷◌, length, refl, sym, ap, ◌∙◌, ap₂, arith}
use Rattle.std.proofs.lemmas.Bool.{cases_eq, cases_Bool, both_ways, and_parts, and_from, eqb-false, eq-eqb, ne_eqb, not_from_false, not-true}
use Rattle.agreement.specs.Lists.{AreDistinct, count_below, without_controller}
use Rattle.list_facts.specs.Lists.{IsIn}

abbrev one : Bool → ℕ
one b = cond b 1 0

one_le : (a b : Bool) → (a ≡ true → b ≡ true) → one a ≤ one b
one_le true b h = let e : one b ≡ 1 = ap one (h refl) in omega arith
one_le false b h = omega arith

one_apart : (a b : Bool) → (a ≡ true → b ≡ true → ⊥) → one a + one b ≤ 1
one_apart true true h = absurd (h refl refl)
one_apart true false h = omega arith
one_apart false true h = omega arith
one_apart false false h = omega arith

-- a test that passes wherever another does
pub count_more : (p q : ℕ → Bool) (n : ℕ) → ((i : ℕ) → i < n → p i ≡ true → q i ≡ true) → count_below p n ≤ count_below q n
count_more p q zero h = omega arith
count_more p q (suc n) h = omega (arith, count_more p q n (λ i l. h i (omega arith)), one_le (p n) (q n) (h n (omega arith)))

-- a number that passes, where some do
pub count_some : (p : ℕ → Bool) (n : ℕ) → 0 < count_below p n → (i : ℕ) × (i < n) × (p i ≡ true)
count_some p zero h = absurd (omega arith)
count_some p (suc n) h = elim (cases_Bool (p n)) [
  | inl e ↦ (n, omega arith, e)
  | inr e ↦ let z : one (p n) ≡ 0 = ap one e in let r = count_some p n (omega arith) in (r.0, omega (arith, r.1), r.2)
]

-- two counts that together pass the bound share a number
pub count_share : (p q : ℕ → Bool) (n : ℕ) → n < count_below p n + count_below q n → (i : ℕ) × (i < n) × (p i ≡ true) × (q i ≡ true)
count_share p q zero h = absurd (omega arith)
count_share p q (suc n) h = elim (cases_Bool (p n && q n)) [
  | inl e ↦ let b = and_parts (p n) (q n) e in (n, omega arith, b.0, b.1)
  | inr e ↦
      let few : one (p n) + one (q n) ≤ 1 = one_apart (p n) (q n) (λ a b. both_ways (p n && q n) e (and_from (p n) (q n) a b)) in
      let r = count_share p q n (omega arith) in (r.0, omega (arith, r.1), r.2, r.3)
]

without_below : (p : ℕ → Bool) (x n : ℕ) → n ≤ x → count_below (without_controller x p) n ≡ count_below p n
without_below p x zero h = refl
without_below p x (suc n) h =
    let e : eqb n x ≡ false = ne_eqb n x (λ z. omega arith) in
    let same : without_controller x p n ≡ p n = grind (arith, e) in
    ap₂ (λ (a : ℕ) (b : Bool). a + one b) (without_below p x n (omega arith)) same

-- a count is one more than without a number that passes
pub count_without : (p : ℕ → Bool) (x n : ℕ) → x < n → p x ≡ true → count_below p n ≡ count_below (without_controller x p) n + 1
count_without p x zero h e = absurd (omega arith)
count_without p x (suc n) h e = elim (cases_eq n x) [
  | inl z ↦
      let here : one (p n) ≡ 1 = ap one (ap p z ∙ e) in
      let out : without_controller x p n ≡ false = grind (arith, eq-eqb n x z) in
      let gone : one (without_controller x p n) ≡ 0 = ap one out in
      omega (arith, without_below p x n (omega (arith, z)))
  | inr z ↦
      let kept : without_controller x p n ≡ p n = grind (arith, ne_eqb n x z) in
      let same : one (without_controller x p n) ≡ one (p n) = ap one kept in
      omega (arith, count_without p x n (omega (arith, z)) e)
]

without_at : (p : ℕ → Bool) (x y : ℕ) → x ≢ y → p y ≡ true → without_controller x p y ≡ true
without_at p x y ne e = and_from (p y) (not (eqb y x)) e (not_from_false (eqb y x) (ne_eqb y x (λ z. ne (sym z))))

-- different numbers that pass
pub count_list : (xs : List ℕ) (p : ℕ → Bool) (n : ℕ) → AreDistinct xs → ((x : ℕ) → IsIn x xs → (x < n) × (p x ≡ true)) → length xs ≤ count_below p n
count_list [] p n d h = omega arith
count_list (x ∷ xs) p n d h =
    let here = h x (inl refl) in
    let rest = count_list xs (without_controller x p) n d.1 (λ y m. ((h y (inr m)).0, without_at p x y (d.0 y m) (h y (inr m)).1)) in
    omega (arith, count_without p x n here.0 here.1)

-- a number that passes, and f others
pub count_others : (p q : ℕ → Bool) (x n f : ℕ) → x < n → p x ≡ true → f ≤ count_below (without_controller x q) n → ((i : ℕ) → i < n → i ≢ x → q i ≡ true → p i ≡ true) → f < count_below p n
count_others p q x n f l e many others =
    let more = count_more (without_controller x q) (without_controller x p) n (λ i b h. let s = and_parts (q i) (not (eqb i x)) h in let ne = eqb-false i x (not-true (eqb i x) s.1) in without_at p x i (λ z. ne (sym z)) (others i b ne s.0)) in
    omega (arith, count_without p x n l e)
