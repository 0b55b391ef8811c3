-- The rows of no destination stand before all others.
use Rattle.std.proofs.Common.{◌≡◌, ℕ, Bool, true, false, List, [], ◌∷◌, filter, refl, sym, ap, ◌∙◌, inl, inr, subst}
use Rattle.std.specs.Prelude.{Option, Some, None, find, is_none, is_some, if◌then◌else◌}
use Rattle.std.specs.List.{AllByRecursion}
use Rattle.std.specs.List.Sorted.{IsStrictlySortedBy}
use Rattle.std.specs.Map.{keys_of}
use Rattle.std.specs.Ordering.{nat_cmp, ordering_then}
use Rattle.std.specs.Option.{option_cmp}
use Rattle.std.specs.declared.cmp.Ordering.{Ordering}
use Rattle.std.specs.declared.cmp.Ordering.TheVariants.{Less}
use Rattle.std.proofs.lemmas.Map.Keys.{sorted_head, sorted_tail}
use Rattle.flow_index.specs.declared.place.Place.{Place}
use Rattle.flow_index.specs.Entries.{by_place, open_entries}
use Rattle.flow_index.proofs.Indexed.{Entry, IsIn}

-- tests that say the same of each row find the same rows
pub filter_alike : (f g : Entry → Bool) (es : List Entry) → ((e : Entry) → IsIn e es → f e ≡ g e) → filter f es ≡ filter g es
filter_alike f g [] same = refl
filter_alike f g (x ∷ xs) same =
    by_test (f x) (g x) (same x (inl refl)) (filter_alike f g xs (λ e i. same e (inr i)))
  where
    by_test : (a b : Bool) → a ≡ b → filter f xs ≡ filter g xs → (if a then x ∷ filter f xs else filter f xs) ≡ (if b then x ∷ filter g xs else filter g xs)
    by_test a b e rest = rw (e, rest) refl

-- no place of no destination is behind one that has a destination
behind : (p q : Place) → is_some p.destination ≡ true → by_place p q ≡ Less → is_none q.destination ≡ false
behind p q some less = by_destinations p.destination q.destination refl refl some
  where
    by_destinations : (a b : Option ℕ) → p.destination ≡ a → q.destination ≡ b → is_some a ≡ true → is_none b ≡ false
    by_destinations None b is is' h = absurd cc
    by_destinations (Some x) (Some y) is is' h = refl
    by_destinations (Some x) None is is' h =
        let rest = ordering_then (nat_cmp p.rank q.rank) (nat_cmp p.number q.number) in
        let other = subst (λ (o : Option ℕ). ordering_then (option_cmp nat_cmp p.destination o) rest ≡ Less) is' less in
        let both = subst (λ (o : Option ℕ). ordering_then (option_cmp nat_cmp o None) rest ≡ Less) is other in
        absurd cc

all_closed : (p : Place) (es : List Entry) → is_some p.destination ≡ true → AllByRecursion (λ q. by_place p q ≡ Less) (keys_of es) → open_entries es ≡ []
all_closed p [] some after = refl
all_closed p (x ∷ xs) some after = rw (behind p x.0 some after.0) (all_closed p xs some after.1)

closed : (o : Option ℕ) → is_some o ≡ true → is_none o ≡ false
closed None h = absurd cc
closed (Some d) h = refl

unclosed : (o : Option ℕ) → is_some o ≡ false → is_none o ≡ true
unclosed None h = refl
unclosed (Some d) h = absurd cc

-- rows are looked through, up to one that has a destination: what is found in the rest is the answer
module _ (p : Entry → Bool) (x : Entry) (xs left : List Entry) (answer : Option Entry) (is : left ≡ x ∷ xs) (found : find p (open_entries left) ≡ answer) (sorted : IsStrictlySortedBy by_place (keys_of left)) where
  ascend : IsStrictlySortedBy by_place (keys_of (x ∷ xs))
  ascend = subst (λ (es : List Entry). IsStrictlySortedBy by_place (keys_of es)) is sorted

  here : find p (open_entries (x ∷ xs)) ≡ answer
  here = ap (λ (es : List Entry). find p (open_entries es)) (sym is) ∙ found

  pub ends_at : is_some x.0.destination ≡ true → None ≡ answer
  ends_at some =
      sym (ap (λ (es : List Entry). find p es) (ap (λ (b : Bool). if b then x ∷ open_entries xs else open_entries xs) (closed x.0.destination some) ∙ all_closed x.0 xs some (sorted_head by_place x.0 (keys_of xs) ascend)))
      ∙ here

  pub goes_past : is_some x.0.destination ≡ false → p x ≡ false → (find p (open_entries xs) ≡ answer) × IsStrictlySortedBy by_place (keys_of xs)
  goes_past none fails =
      (sym (ap (λ (b : Bool). find p (if b then x ∷ open_entries xs else open_entries xs)) (unclosed x.0.destination none) ∙ ap (λ (b : Bool). if b then Some x else find p (open_entries xs)) fails) ∙ here, sorted_tail by_place x.0 (keys_of xs) ascend)
