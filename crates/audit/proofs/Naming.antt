-- Values by name, when one more name has a value.
use Rattle.std.proofs.Common.{◌≡◌, ℕ, Bool, true, false, ◌&&◌, List, Option, Some, None, is_some, cond, refl, sym, ap, ◌∙◌}
use Rattle.std.specs.Prelude.{nat_eq}
use Rattle.std.proofs.lemmas.Bool.{and_parts, eqb-true, eq-eqb}
use Rattle.audit.specs.Names.{Name, same_name, value_of, or_new}

pub name_equal : (a b : Name) → same_name a b ≡ true → a ≡ b
name_equal a b h =
    let p = and_parts (nat_eq a.0 b.0 && nat_eq a.1 b.1) (nat_eq a.2 b.2) h in
    let q = and_parts (nat_eq a.0 b.0) (nat_eq a.1 b.1) p.0 in
    ap (λ (n : ℕ). (n, a.1, a.2)) (eqb-true a.0 b.0 q.0) ∙ (ap (λ (n : ℕ). (b.0, n, a.2)) (eqb-true a.1 b.1 q.1) ∙ ap (λ (n : ℕ). (b.0, b.1, n)) (eqb-true a.2 b.2 p.1))

pub name_same : (a : Name) → same_name a a ≡ true
name_same a = rw (eq-eqb a.0 a.0 refl, eq-eqb a.1 a.1 refl, eq-eqb a.2 a.2 refl) refl

module _ {V : Type 0} where
  noted : (old there : Option V) (test : Bool) (value : V) → (test ≡ true → old ≡ there) → is_some there ≡ false → cond test (Some value) old ≡ or_new old test value
  noted (Some x) there true value same none = let e = same refl in absurd cc
  noted (Some x) there false value same none = refl
  noted None there true value same none = refl
  noted None there false value same none = refl

  same_value : (values : List (Name × V)) (name q : Name) → same_name name q ≡ true → value_of values q ≡ value_of values name
  same_value values name q h = ap (λ (n : Name). value_of values n) (sym (name_equal name q h))

  pub noted_is : (old new : List (Name × V)) (name : Name) (value : V) → is_some (value_of old name) ≡ false → ((q : Name) → value_of new q ≡ cond (same_name name q) (Some value) (value_of old q)) →
      (q : Name) → value_of new q ≡ or_new (value_of old q) (same_name name q) value
  noted_is old new name value none updates q = updates q ∙ noted (value_of old q) (value_of old name) (same_name name q) value (same_value old name q) none
