-- The order of places.
use Rattle.std.proofs.Common.{◌≡◌, ℕ, ◌<◌, ◌≤◌, ◌⊎◌, inl, inr, true, not, refl, sym, ap, arith, subst}
use Rattle.std.specs.Prelude.{Option, Some, None, ◌&&◌}
use Rattle.std.specs.Ordering.{nat_cmp, ordering_then, is_eq, is_le, is_lt}
use Rattle.std.specs.Option.{option_cmp}
use Rattle.std.specs.BTreeMap.{is_at}
use Rattle.std.specs.BTreeMap.Range.{range_contains}
use Rattle.std.specs.Cmp.Lexicographic.{options_total}
use Rattle.std.specs.declared.cmp.Ordering.{Ordering}
use Rattle.std.specs.declared.cmp.Ordering.TheVariants.{Less, Equal, Greater}
use Rattle.std.specs.declared.ops.Bound.TheVariants.{Included}
use Rattle.std.proofs.lemmas.Bool.{and_from}
use Rattle.std.proofs.lemmas.Cmp.{ranked, tied_itself, nat_cmp_total}
use Rattle.flow_index.specs.declared.place.Place.{Place}
use Rattle.flow_index.specs.Entries.{by_place, place_at}

nat_equal : (a b : ℕ) → nat_cmp a b ≡ Equal → a ≡ b
nat_equal a b e = ranked a b Equal (sym e)

nat_less : (a b : ℕ) → nat_cmp a b ≡ Less → a < b
nat_less a b e = ranked a b Less (sym e)

option_equal : (a b : Option ℕ) → option_cmp nat_cmp a b ≡ Equal → a ≡ b
option_equal None None e = refl
option_equal None (Some b) e = absurd cc
option_equal (Some a) None e = absurd cc
option_equal (Some a) (Some b) e = ap Some (nat_equal a b e)

is_equal : (o : Ordering) → is_eq o ≡ true → o ≡ Equal
is_equal Less e = absurd cc
is_equal Equal e = refl
is_equal Greater e = absurd cc

then_equal : (a b : Ordering) → ordering_then a b ≡ Equal → (a ≡ Equal) × (b ≡ Equal)
then_equal Less b e = absurd cc
then_equal Equal b e = (refl, e)
then_equal Greater b e = absurd cc

-- places that are equal have one number
pub equal_numbers : (p q : Place) → is_at (by_place p) q ≡ true → p.number ≡ q.number
equal_numbers p q e =
    let o = is_equal (by_place p q) e in
    let rest = (then_equal (option_cmp nat_cmp p.destination q.destination) (ordering_then (nat_cmp p.rank q.rank) (nat_cmp p.number q.number)) o).1 in
    nat_equal p.number q.number (then_equal (nat_cmp p.rank q.rank) (nat_cmp p.number q.number) rest).1

pub at_itself : (p : Place) → is_at (by_place p) p ≡ true
at_itself p =
    rw (tied_itself (options_total nat_cmp_total) p.destination, tied_itself nat_cmp_total p.rank, tied_itself nat_cmp_total p.number) refl

-- of two places of one destination the first is of a lower rank, or of one rank and a lower number
then_less : (a b : ℕ) (o : Ordering) → ordering_then (nat_cmp a b) o ≡ Less → (a < b) ⊎ ((a ≡ b) × (o ≡ Less))
then_less a b o e = by_answer (nat_cmp a b) refl
  where
    by_answer : (r : Ordering) → nat_cmp a b ≡ r → (a < b) ⊎ ((a ≡ b) × (o ≡ Less))
    by_answer Less is = inl (nat_less a b is)
    by_answer Equal is = inr (nat_equal a b is, rw is at e)
    by_answer Greater is = absurd (greater_less (rw is at e))
      where
        greater_less : Greater ≡ Less → ⊥
        greater_less g = cc

pub place_before : (p q : Place) → p.destination ≡ q.destination → by_place p q ≡ Less → (p.rank < q.rank) ⊎ ((p.rank ≡ q.rank) × (p.number < q.number))
place_before p q same less =
    let tied : option_cmp nat_cmp p.destination q.destination ≡ Equal = subst (λ (d : Option ℕ). option_cmp nat_cmp p.destination d ≡ Equal) same (tied_itself (options_total nat_cmp_total) p.destination) in
    let rest : ordering_then (nat_cmp p.rank q.rank) (nat_cmp p.number q.number) ≡ Less = rw tied at less in
    elim (then_less p.rank q.rank (nat_cmp p.number q.number) rest) [
      | inl lower ↦ inl lower
      | inr both ↦ inr (both.0, nat_less p.number q.number both.1)
    ]

-- ---- ranges

first_equal : (r a b : Ordering) → (is_le (ordering_then r a) && not (is_lt (ordering_then r b))) ≡ true → r ≡ Equal
first_equal Less a b e = absurd cc
first_equal Equal a b e = refl
first_equal Greater a b e = absurd cc

-- what is between two places of one destination has that destination
pub range_destination : (d : Option ℕ) (rank number rank' number' : ℕ) (p : Place) → range_contains by_place (Included (place_at d rank number)) (Included (place_at d rank' number')) p ≡ true → d ≡ p.destination
range_destination d rank number rank' number' p e = option_equal d p.destination (first_equal _ _ _ e)

then_le : (a b : ℕ) (o : Ordering) → a ≤ b → is_le o ≡ true → is_le (ordering_then (nat_cmp a b) o) ≡ true
then_le a b o le holds = by_answer (nat_cmp a b) refl
  where
    by_answer : (r : Ordering) → nat_cmp a b ≡ r → is_le (ordering_then r o) ≡ true
    by_answer Less is = refl
    by_answer Equal is = holds
    by_answer Greater is = absurd (omega (arith, le, ranked a b Greater (sym is)))

last_le : (a b : ℕ) → a ≤ b → is_le (nat_cmp a b) ≡ true
last_le a b le = by_answer (nat_cmp a b) refl
  where
    by_answer : (r : Ordering) → nat_cmp a b ≡ r → is_le r ≡ true
    by_answer Less is = refl
    by_answer Equal is = refl
    by_answer Greater is = absurd (omega (arith, le, ranked a b Greater (sym is)))

then_not_lt : (a b : ℕ) (o : Ordering) → b ≤ a → not (is_lt o) ≡ true → not (is_lt (ordering_then (nat_cmp a b) o)) ≡ true
then_not_lt a b o le holds = by_answer (nat_cmp a b) refl
  where
    by_answer : (r : Ordering) → nat_cmp a b ≡ r → not (is_lt (ordering_then r o)) ≡ true
    by_answer Less is = absurd (omega (arith, le, ranked a b Less (sym is)))
    by_answer Equal is = holds
    by_answer Greater is = refl

last_not_lt : (a b : ℕ) → b ≤ a → not (is_lt (nat_cmp a b)) ≡ true
last_not_lt a b le = by_answer (nat_cmp a b) refl
  where
    by_answer : (r : Ordering) → nat_cmp a b ≡ r → not (is_lt r) ≡ true
    by_answer Less is = absurd (omega (arith, le, ranked a b Less (sym is)))
    by_answer Equal is = refl
    by_answer Greater is = refl

-- a place of this destination, whose rank and number are between these, is in the range
pub in_range : (d : Option ℕ) (rank number rank' number' : ℕ) (p : Place) → p.destination ≡ d → rank ≤ p.rank → number ≤ p.number → p.rank ≤ rank' → p.number ≤ number' → range_contains by_place (Included (place_at d rank number)) (Included (place_at d rank' number')) p ≡ true
in_range d rank number rank' number' p same a b c e =
    let tied : option_cmp nat_cmp d p.destination ≡ Equal = subst (λ (x : Option ℕ). option_cmp nat_cmp d x ≡ Equal) (sym same) (tied_itself (options_total nat_cmp_total) d) in
    rw tied (and_from _ _ (then_le rank p.rank (nat_cmp number p.number) a (last_le number p.number b)) (then_not_lt rank' p.rank (nat_cmp number' p.number) c (last_not_lt number' p.number e)))
