-- Among the logs of several members one is better than each other.
use Rattle.std.proofs.Common.{◌≡◌, ◌<◌, ◌⊎◌, inl, inr, ℕ, Bool, true, false, List, [], ◌∷◌, length, refl, sym, ◌∙◌, subst, arith}
use Rattle.std.specs.Prelude.{nat_eq}
use Rattle.std.proofs.lemmas.Bool.{eq-eqb, ne_eqb, eqb-true, eqb-false, lt-ltb, or_cases, true≢false, cases_order, cases_eq}
use Rattle.vr_log.specs.declared.state.Collected.{Collected}
use Rattle.vr_log.specs.declared.state.VrState.{VrState}
use Rattle.vr_log.specs.Choosing.{is_better, length_of}
use Rattle.closing_laws.specs.Quorum.{has}
use Rattle.closing_laws.specs.Views.{HasBest, log_of}
use Rattle.closing_laws.proofs.Lists.Numbers.{has_here, has_later}

-- what it is for one to be better
data Better (a b : Collected) : Type 0 where
  Newer : b.normal < a.normal → Better a b
  Longer : a.normal ≡ b.normal → length_of b < length_of a → Better a b
  Lower : a.normal ≡ b.normal → length_of a ≡ length_of b → a.from < b.from → Better a b

better_is : (a b : Collected) → Better a b → is_better a b ≡ true
better_is a b (Newer less) = rw (ne_eqb a.normal b.normal (λ e. omega (arith, e, less))) (lt-ltb b.normal a.normal less)
better_is a b (Longer same less) = rw (eq-eqb a.normal b.normal same, ne_eqb (length_of a) (length_of b) (λ e. omega (arith, e, less))) (lt-ltb (length_of b) (length_of a) less)
better_is a b (Lower same long less) = rw (eq-eqb a.normal b.normal same, eq-eqb (length_of a) (length_of b) long) (lt-ltb a.from b.from less)

better_on : (a b c : Collected) → Better a b → Better b c → Better a c
better_on a b c (Newer x) (Newer y) = Newer (omega (arith, x, y))
better_on a b c (Newer x) (Longer e y) = Newer (omega (arith, x, e))
better_on a b c (Newer x) (Lower e l y) = Newer (omega (arith, x, e))
better_on a b c (Longer d x) (Newer y) = Newer (omega (arith, d, y))
better_on a b c (Longer d x) (Longer e y) = Longer (d ∙ e) (omega (arith, x, y))
better_on a b c (Longer d x) (Lower e l y) = Longer (d ∙ e) (omega (arith, x, l))
better_on a b c (Lower d k x) (Newer y) = Newer (omega (arith, d, y))
better_on a b c (Lower d k x) (Longer e y) = Longer (d ∙ e) (omega (arith, k, y))
better_on a b c (Lower d k x) (Lower e l y) = Lower (d ∙ e) (k ∙ l) (omega (arith, x, y))

-- one of two is better
one_is : (a b : Collected) → (a.from ≡ b.from → ⊥) → Better a b ⊎ Better b a
one_is a b apart = elim (cases_order a.normal b.normal) [
  | inl same ↦ elim (cases_order (length_of a) (length_of b)) [
    | inl long ↦ elim (cases_order a.from b.from) [
      | inl e ↦ absurd (apart e)
      | inr (inl less) ↦ inl (Lower same long less)
      | inr (inr more) ↦ inr (Lower (sym same) (sym long) more)
    ]
    | inr (inl less) ↦ inr (Longer (sym same) less)
    | inr (inr more) ↦ inl (Longer same more)
  ]
  | inr (inl less) ↦ inr (Newer less)
  | inr (inr more) ↦ inl (Newer more)
]

-- the best of a list, and one before it
record IsBestOf (start : ℕ → VrState) (xs : List ℕ) (best : ℕ) : Type 0 where
  pub member : has xs best ≡ true
  pub better : (j : ℕ) → has xs j ≡ true → nat_eq j best ≡ false → Better (log_of start best) (log_of start j)

best_with : (start : ℕ → VrState) (xs : List ℕ) (best x : ℕ) → IsBestOf start xs best → (y : ℕ) × IsBestOf start (x ∷ xs) y
best_with start xs best x b = elim (cases_eq x best) [
  | inl e ↦ (
    best,
    record {
      member = has_later x best xs b.member;
      better = λ j h other. elim (or_cases (nat_eq x j) (has xs j) h) [
        | inl at ↦ absurd (eqb-false j best other (sym (eqb-true x j at) ∙ e))
        | inr k ↦ b.better j k other
      ];
    },
  )
  | inr apart ↦ elim (one_is (log_of start x) (log_of start best) apart) [
    | inl first ↦ (
      x,
      record {
        member = has_here x xs;
        better = λ j h other. elim (or_cases (nat_eq x j) (has xs j) h) [
          | inl at ↦ absurd (eqb-false j x other (sym (eqb-true x j at)))
          | inr k ↦ by_place j k first (nat_eq j best) refl
        ];
      },
    )
    | inr second ↦ (
      best,
      record {
        member = has_later x best xs b.member;
        better = λ j h other. elim (or_cases (nat_eq x j) (has xs j) h) [
          | inl at ↦ subst (λ (k : ℕ). Better (log_of start best) (log_of start k)) (eqb-true x j at) second
          | inr k ↦ b.better j k other
        ];
      },
    )
  ]
]
  where
    by_place : (j : ℕ) → has xs j ≡ true → Better (log_of start x) (log_of start best) → (d : Bool) → nat_eq j best ≡ d → Better (log_of start x) (log_of start j)
    by_place j k first true e = subst (λ (i : ℕ). Better (log_of start x) (log_of start i)) (sym (eqb-true j best e)) first
    by_place j k first false e = better_on (log_of start x) (log_of start best) (log_of start j) first (b.better j k e)

best_exists : (start : ℕ → VrState) (x : ℕ) (xs : List ℕ) → (y : ℕ) × IsBestOf start (x ∷ xs) y
best_exists start x [] = (
  x,
  record {
    member = has_here x [];
    better = λ j h other. elim (or_cases (nat_eq x j) false h) [
      | inl at ↦ absurd (eqb-false j x other (sym (eqb-true x j at)))
      | inr nil ↦ absurd (true≢false (sym nil))
    ];
  },
)
best_exists start x (z ∷ xs) = let r = best_exists start z xs in best_with start (z ∷ xs) (r.0) x (r.1)

-- so there is always one
pub has_best : (start : ℕ → VrState) (quorum : List ℕ) → 0 < length quorum →
    (best : ℕ) × HasBest quorum start best
has_best start [] some = absurd (omega (arith, some))
has_best start (x ∷ xs) some =
    let r = best_exists start x xs in
    let b = r.1 in
    (r.0, record { member = b.member; better = λ j h other. better_is (log_of start (r.0)) (log_of start j) (b.better j h other) })
