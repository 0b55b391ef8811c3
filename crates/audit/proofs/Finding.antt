-- How events are found by their names.
use Rattle.std.proofs.Common.{◌≡◌, ◌<◌, ℕ, zero, suc, Bool, true, false, List, ◌∷◌, [], ◌++◌, length, get_or, Option, Some, None, cond, refl, sym, ap, ◌∙◌, arith}
use Rattle.std.specs.Prelude.{option_map, if◌then◌else◌}
use Rattle.of_types.specs.declared.message.Event.{Event}
use Rattle.vr_log.specs.Same.{same_event}
use Rattle.audit.specs.Names.{Name, same_name, name_of, value_of, or_new}
use Rattle.audit.specs.Received.{ArePlaces, equal_at, first_at}

-- the first place that passes a test, with one element more
pub first_push : {A : Type 0} (p : A → Bool) (xs : List A) (x : A) → first_at p (xs ++ x ∷ []) ≡ or_new (first_at p xs) (p x) (length xs)
first_push p [] x = refl
first_push p (y ∷ xs) x = ap (λ o. cond (p y) (Some 0) (option_map suc o)) (first_push p xs x) ∙ by (p y) (first_at p xs)
  where
    by : (b : Bool) (o : Option ℕ) → cond b (Some 0) (option_map suc (or_new o (p x) (length xs))) ≡ or_new (cond b (Some 0) (option_map suc o)) (p x) (suc (length xs))
    by true o = refl
    by false (Some n) = refl
    by false None = by_test (p x)
      where
        by_test : (t : Bool) → option_map suc (cond t (Some (length xs)) None) ≡ cond t (Some (suc (length xs))) None
        by_test true = refl
        by_test false = refl

pub first_within : {A : Type 0} (p : A → Bool) (xs : List A) (n : ℕ) → first_at p xs ≡ Some n → n < length xs
first_within p [] n h = absurd cc
first_within p (x ∷ xs) n h = by (p x) (first_at p xs) n h (first_within p xs)
  where
    by : (b : Bool) (o : Option ℕ) (n : ℕ) → cond b (Some 0) (option_map suc o) ≡ Some n → ((k : ℕ) → o ≡ Some k → k < length xs) → n < suc (length xs)
    by true o zero h rest = omega arith
    by true o (suc n) h rest = absurd cc
    by false (Some k) zero h rest = absurd cc
    by false (Some k) (suc n) h rest = let same : k ≡ n = cc in let lt = rest k refl in omega (arith, lt, same)
    by false None n h rest = absurd cc

-- what was found by a name
pub found_by : (events : List Event) (places : List (Name × ℕ)) (name read : Name) (found : Option ℕ) → ArePlaces events places → read ≡ name → found ≡ value_of places read →
    first_at (λ e. same_name (name_of e) name) events ≡ found
found_by events places name read found are same is = sym (is ∙ ap (λ (n : Name). value_of places n) same ∙ are name)

pub places_more : (events : List Event) (e : Event) (old new : List (Name × ℕ)) → ArePlaces events old →
    ((q : Name) → value_of new q ≡ or_new (value_of old q) (same_name (name_of e) q) (length events)) → ArePlaces (events ++ e ∷ []) new
places_more events e old new are noted q =
    noted q ∙ ap (λ (o : Option ℕ). or_new o (same_name (name_of e) q) (length events)) (are q) ∙ sym (first_push (λ x. same_name (name_of x) q) events e)

module _ (line : Event) where
  abbrev is_named : Event → Bool
  is_named e = same_name (name_of e) (name_of line)

  pub none_found : (events : List Event) → first_at is_named events ≡ None → None ≡ equal_at events line
  none_found [] h = refl
  none_found (e ∷ events) h = by (is_named e) (first_at is_named events) h (none_found events)
    where
      by : (b : Bool) (o : Option ℕ) → cond b (Some 0) (option_map suc o) ≡ None → (o ≡ None → None ≡ equal_at events line) →
          None ≡ (if b then (if same_event e line then Some 0 else None) else option_map suc (equal_at events line))
      by true o h rest = absurd cc
      by false (Some n) h rest = absurd cc
      by false None h rest = ap (λ o. option_map suc o) (rest refl)

  pub one_found : (events : List Event) (at : ℕ) (x : Event) → first_at is_named events ≡ Some at → x ≡ get_or events at x → equal_at events line ≡ (if same_event x line then Some at else None)
  one_found [] at x h is = absurd cc
  one_found (e ∷ events) at x h is = by (is_named e) (first_at is_named events) at h is (one_found events)
    where
      shift : (b : Bool) (n : ℕ) → option_map suc (if b then Some n else None) ≡ (if b then Some (suc n) else None)
      shift true n = refl
      shift false n = refl

      by : (b : Bool) (o : Option ℕ) (at : ℕ) → cond b (Some 0) (option_map suc o) ≡ Some at → x ≡ get_or (e ∷ events) at x →
          ((n : ℕ) (y : Event) → o ≡ Some n → y ≡ get_or events n y → equal_at events line ≡ (if same_event y line then Some n else None)) →
          (if b then (if same_event e line then Some 0 else None) else option_map suc (equal_at events line)) ≡ (if same_event x line then Some at else None)
      by true o zero h is rest = ap (λ (y : Event). if same_event y line then Some 0 else None) (sym is)
      by true o (suc n) h is rest = absurd cc
      by false (Some n) zero h is rest = absurd cc
      by false (Some n) (suc m) h is rest =
          let same : n ≡ m = cc in
          ap (λ o. option_map suc o) (rest m x (ap (λ k. Some k) same) is) ∙ shift (same_event x line) m
      by false None at h is rest = absurd cc

pub joined_places : (events there : List Event) (places those : List (Name × ℕ)) → events ≡ there → places ≡ those → ArePlaces there those → ArePlaces events places
joined_places events there places those e p are q = ap (λ (l : List (Name × ℕ)). value_of l q) p ∙ are q ∙ ap (λ (l : List Event). first_at (λ x. same_name (name_of x) q) l) (sym e)
