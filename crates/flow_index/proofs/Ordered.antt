-- Rows that are put in order by their numbers.
use Rattle.std.proofs.Common.{◌≡◌, ℕ, Bor, map, zero, suc, ◌+◌, ◌<◌, ◌≤◌, inl, inr, Bool, true, false, List, [], ◌∷◌, ◌++◌, refl, sym, ◌∙◌, ap, arith, subst}
use Rattle.std.specs.Prelude.{Option, Some, None, nat_eq, fold, if◌then◌else◌}
use Rattle.std.specs.List.{AllByRecursion}
use Rattle.std.specs.List.Sorted.{IsStrictlySortedBy}
use Rattle.std.specs.Option.{option_to_list}
use Rattle.std.specs.Ordering.{nat_cmp, match_ordering, is_eq}
use Rattle.std.specs.BTreeMap.{is_at, insert_entry}
use Rattle.std.specs.Map.{keys_of, values_of, lookup}
use Rattle.std.specs.declared.cmp.Ordering.{Ordering}
use Rattle.std.specs.declared.cmp.Ordering.TheVariants.{Less, Equal, Greater}
use Rattle.std.proofs.lemmas.Bool.{cases_eq, ne_eqb, eq-eqb, eqb-true, eqb-false}
use Rattle.std.proofs.lemmas.Cmp.{ranked}
use Rattle.std.proofs.lemmas.List.{append_assoc, append-nil}
use Rattle.std.proofs.lemmas.Map.Keys.{sorted_head, sorted_tail}
use Rattle.of_types.specs.declared.message.Row.{Row}
use Rattle.flow_index.specs.Index.{numbered_rows, rows_below, AreSeparate, AreIndexed}
use Rattle.flow_index.proofs.Indexed.{Entry, all_in, all_from, numbered_absent}
use Rattle.flow_index.proofs.Listed.{listed_same}

abbrev pub Numbered : Type 0
Numbered = ℕ × Row

-- a row joins those that stand by their numbers
abbrev pub put : List Numbered → Entry → List Numbered
put rows e = insert_entry nat_cmp rows e.0.number e.1

abbrev pub by_number : List Entry → List Numbered
by_number es = fold put [] es

abbrev row_at : List Numbered → ℕ → Option Row
row_at rows n = lookup (is_at (nat_cmp n)) rows

at_number : (a b : ℕ) → is_at (nat_cmp a) b ≡ nat_eq b a
at_number a b = by_order (nat_cmp a b) refl
  where
    by_order : (o : Ordering) → nat_cmp a b ≡ o → is_eq o ≡ nat_eq b a
    by_order Less is = let less = ranked a b Less (sym is) in sym (ne_eqb b a (λ same. absurd (omega (arith, less, same))))
    by_order Equal is = sym (eq-eqb b a (sym (ranked a b Equal (sym is))))
    by_order Greater is = let more = ranked a b Greater (sym is) in sym (ne_eqb b a (λ same. absurd (omega (arith, more, same))))

row_put : (rows : List Numbered) (k : ℕ) (r : Row) (n : ℕ) → row_at (insert_entry nat_cmp rows k r) n ≡ (if nat_eq k n then Some r else row_at rows n)
row_put [] k r n = rw (at_number n k) refl
row_put (x ∷ xs) k r n = by_order (nat_cmp k x.0) refl (row_put xs k r n)
  where
    by_order : (o : Ordering) → nat_cmp k x.0 ≡ o → row_at (insert_entry nat_cmp xs k r) n ≡ (if nat_eq k n then Some r else row_at xs n)
        → row_at (match_ordering o ((k, r) ∷ x ∷ xs) ((x.0, r) ∷ xs) (x ∷ insert_entry nat_cmp xs k r)) n ≡ (if nat_eq k n then Some r else if is_at (nat_cmp n) x.0 then Some x.1 else row_at xs n)
    by_order Less is rest = rw (at_number n k) refl
    by_order Equal is rest =
        rw (at_number n x.0, ranked k x.0 Equal (sym is)) (by_test (nat_eq x.0 n))
      where
        by_test : (b : Bool) → (if b then Some r else row_at xs n) ≡ (if b then Some r else if b then Some x.1 else row_at xs n)
        by_test true = refl
        by_test false = refl
    by_order Greater is rest = rw (rest, at_number n x.0) (swap (nat_eq x.0 n) refl (nat_eq k n) refl)
      where
        swap : (b : Bool) → nat_eq x.0 n ≡ b → (c : Bool) → nat_eq k n ≡ c → (if b then Some x.1 else if c then Some r else row_at xs n) ≡ (if c then Some r else if b then Some x.1 else row_at xs n)
        swap true b true c =
            let more = ranked k x.0 Greater (sym is) in
            absurd (omega (arith, more, eqb-true x.0 n b, eqb-true k n c))
        swap true b false c = refl
        swap false b c d = refl

abbrev first_of : Option Row → Option Row → Option Row
first_of None later = later
first_of (Some r) later = Some r

-- a number's row is the same, in whatever order rows stand
row_of_number : (next : ℕ) (es : List Entry) (rows : List Numbered) (n : ℕ) → AreIndexed next es → row_at (fold put rows es) n ≡ first_of (numbered_rows es n) (row_at rows n)
row_of_number next [] rows n a = refl
row_of_number next (x ∷ xs) rows n a =
    row_of_number next xs (put rows x) n a.2 ∙ rw (row_put rows x.0.number x.1 n) (by_test (nat_eq x.0.number n) refl)
  where
    by_test : (b : Bool) → nat_eq x.0.number n ≡ b → first_of (numbered_rows xs n) (if b then Some x.1 else row_at rows n) ≡ first_of (if b then Some x.1 else numbered_rows xs n) (row_at rows n)
    by_test false is = refl
    by_test true is =
        let none : numbered_rows xs n ≡ None = numbered_absent xs n (all_from _ xs (λ e i. subst (λ (m : ℕ). nat_eq e.0.number m ≡ false) (eqb-true x.0.number n is) (ne_eqb e.0.number x.0.number (λ same. eqb-false x.0.number e.0.number (all_in (AreSeparate x) xs e a.1 i).numbers (sym same))))) in
        rw none refl

all_put : (P : Numbered → Type 0) (rows : List Numbered) (k : ℕ) (r : Row) → ((m : ℕ) (s : Row) → P (m, s) → P (m, r)) → AllByRecursion P rows → P (k, r) → AllByRecursion P (insert_entry nat_cmp rows k r)
all_put P [] k r change a here = (here, tt)
all_put P (x ∷ xs) k r change a here = by_order (nat_cmp k x.0) (all_put P xs k r change a.1 here)
  where
    by_order : (o : Ordering) → AllByRecursion P (insert_entry nat_cmp xs k r) → AllByRecursion P (match_ordering o ((k, r) ∷ x ∷ xs) ((x.0, r) ∷ xs) (x ∷ insert_entry nat_cmp xs k r))
    by_order Less rest = (here, a)
    by_order Equal rest = (change x.0 x.1 a.0, a.1)
    by_order Greater rest = (a.0, rest)

below_next : (next : ℕ) (es : List Entry) (rows : List Numbered) → AreIndexed next es → AllByRecursion (λ e. e.0 < next) rows → AllByRecursion (λ e. e.0 < next) (fold put rows es)
below_next next [] rows a b = b
below_next next (x ∷ xs) rows a b = below_next next xs (put rows x) a.2 (all_put (λ e. e.0 < next) rows x.0.number x.1 (λ m s lt. lt) b a.0.below)

-- the rows of so many numbers from one on
abbrev rows_from : (ℕ → Option Row) → ℕ → ℕ → List Row
rows_from f first zero = []
rows_from f first (suc count) = option_to_list (f first) ++ rows_from f (first + 1) count

from_last : (f : ℕ → Option Row) (first count : ℕ) → rows_from f first (suc count) ≡ rows_from f first count ++ option_to_list (f (first + count))
from_last f first zero = append-nil (option_to_list (f first)) ∙ ap (λ (n : ℕ). option_to_list (f n)) (omega arith)
from_last f first (suc count) =
    let rest = from_last f (first + 1) count in
    let last : option_to_list (f (first + 1 + count)) ≡ option_to_list (f (first + suc count)) = ap (λ (n : ℕ). option_to_list (f n)) (omega arith) in
    ap (λ (rows : List Row). option_to_list (f first) ++ rows) (rest ∙ ap (λ (rows : List Row). rows_from f (first + 1) count ++ rows) last)
    ∙ sym (append_assoc (option_to_list (f first)) (rows_from f (first + 1) count) (option_to_list (f (first + suc count))))

below_is_from : (f : ℕ → Option Row) (n : ℕ) → rows_below f n ≡ rows_from f 0 n
below_is_from f zero = refl
below_is_from f (suc n) =
    ap (λ (rows : List Row). rows ++ option_to_list (f n)) (below_is_from f n)
    ∙ ap (λ (m : ℕ). rows_from f 0 n ++ option_to_list (f m)) (omega arith)
    ∙ sym (from_last f 0 n)

from_same : (f g : ℕ → Option Row) (first count : ℕ) → ((m : ℕ) → first ≤ m → f m ≡ g m) → rows_from f first count ≡ rows_from g first count
from_same f g first zero same = refl
from_same f g first (suc count) same = rw (same first (omega arith), from_same f g (first + 1) count (λ m le. same m (omega (arith, le)))) refl

none_before : (first : ℕ) (rows : List Numbered) → AllByRecursion (λ e. first < e.0) rows → row_at rows first ≡ None
none_before first [] a = refl
none_before first (x ∷ xs) a = let less = a.0 in rw (at_number first x.0, ne_eqb x.0 first (λ same. absurd (omega (arith, less, same)))) (none_before first xs a.1)

abbrev IsBetween : ℕ → ℕ → Numbered → Type 0
IsBetween first count e = (first ≤ e.0) × (e.0 < first + count)

keys_above : (k : ℕ) (rows : List Numbered) → AllByRecursion (λ m. nat_cmp k m ≡ Less) (keys_of rows) → AllByRecursion (λ e. k < e.0) rows
keys_above k [] a = tt
keys_above k (x ∷ xs) a = (ranked k x.0 Less (sym a.0), keys_above k xs a.1)

narrowed : (first count k : ℕ) (rows : List Numbered) → first ≤ k → AllByRecursion (λ e. k < e.0) rows → AllByRecursion (IsBetween first (suc count)) rows → AllByRecursion (IsBetween (first + 1) count) rows
narrowed first count k [] le a b = tt
narrowed first count k (x ∷ xs) le a b = let above = a.0 in let high = b.0.1 in ((omega (arith, le, above), omega (arith, high)), narrowed first count k xs le a.1 b.1)

-- rows that stand by their numbers are listed so
listed_from : (count first : ℕ) (rows : List Numbered) → IsStrictlySortedBy nat_cmp (keys_of rows) → AllByRecursion (IsBetween first count) rows → values_of rows ≡ rows_from (row_at rows) first count
listed_from zero first [] sorted a = refl
listed_from zero first (x ∷ xs) sorted a = let low = a.0.0 in let high = a.0.1 in absurd (omega (arith, low, high))
listed_from (suc count) first [] sorted a = listed_from count (first + 1) [] sorted tt
listed_from (suc count) first (x ∷ xs) sorted a = elim (cases_eq x.0 first) [
  | inl same ↦
      let later = keys_above x.0 xs (sorted_head nat_cmp x.0 (keys_of xs) sorted) in
      let rest = listed_from count (first + 1) xs (sorted_tail nat_cmp x.0 (keys_of xs) sorted) (narrowed first count x.0 xs (omega (arith, same)) later a.1) in
      let here : row_at (x ∷ xs) first ≡ Some x.1 = rw (at_number first x.0, eq-eqb x.0 first same) refl in
      let others : rows_from (row_at xs) (first + 1) count ≡ rows_from (row_at (x ∷ xs)) (first + 1) count =
      from_same (row_at xs) (row_at (x ∷ xs)) (first + 1) count (λ m le. rw (at_number m x.0, ne_eqb x.0 m (λ is. absurd (omega (arith, le, same, is)))) refl) in
      rw here (ap (λ (rows : List Row). x.1 ∷ rows) (rest ∙ others))
  | inr apart ↦
      let low = a.0.0 in
      let high = a.0.1 in
      let later = keys_above x.0 xs (sorted_head nat_cmp x.0 (keys_of xs) sorted) in
      let above : first < x.0 = omega (arith, low, apart) in
      let gone = none_before first (x ∷ xs) (above, raised first x.0 xs above later) in
      rw gone (listed_from count (first + 1) (x ∷ xs) sorted ((omega (arith, above), omega (arith, high)), narrowed first count x.0 xs low later a.1))
]
  where
    raised : (m k : ℕ) (ys : List Numbered) → m < k → AllByRecursion (λ e. k < e.0) ys → AllByRecursion (λ e. m < e.0) ys
    raised m k ys lt b = every ys b
      where
        every : (zs : List Numbered) → AllByRecursion (λ e. k < e.0) zs → AllByRecursion (λ e. m < e.0) zs
        every [] c = tt
        every (z ∷ zs) c = let up = c.0 in (omega (arith, lt, up), every zs c.1)

between_all : (n : ℕ) (rows : List Numbered) → AllByRecursion (λ e. e.0 < n) rows → AllByRecursion (IsBetween 0 n) rows
between_all n [] a = tt
between_all n (x ∷ xs) a = let below = a.0 in ((omega arith, omega (arith, below)), between_all n xs a.1)

pub ordered_rows : (next : ℕ) (es : List Entry) (rows : List Numbered) → AreIndexed next es → rows ≡ by_number es → IsStrictlySortedBy nat_cmp (keys_of rows) → values_of rows ≡ rows_below (numbered_rows es) next
ordered_rows next es rows a is sorted =
    let below = subst (λ (xs : List Numbered). AllByRecursion (λ e. e.0 < next) xs) (sym is) (below_next next es [] a tt) in
    let one = λ (n : ℕ) (lt : n < next). ap (λ (xs : List Numbered). row_at xs n) is ∙ row_of_number next es [] n a ∙ first_none (numbered_rows es n) in
    listed_from next 0 rows sorted (between_all next rows below)
    ∙ sym (below_is_from (row_at rows) next)
    ∙ listed_same (row_at rows) (numbered_rows es) next one
  where
    first_none : (o : Option Row) → first_of o None ≡ o
    first_none None = refl
    first_none (Some r) = refl

-- ---- rows that are lent

-- numbers beside rows that are lent, as numbers beside rows
abbrev pub lent : List (ℕ × Bor Row) → List Numbered
lent rows = map (λ (e : ℕ × Bor Row). (e.0, e.1.now)) rows

abbrev pub lent_rows : List (Bor Row) → List Row
lent_rows rows = map (λ (r : Bor Row). r.now) rows

-- a row that is lent joins as the row does
pub lent_put : (rows : List (ℕ × Bor Row)) (k : ℕ) (r : Bor Row) → lent (insert_entry nat_cmp rows k r) ≡ insert_entry nat_cmp (lent rows) k r.now
lent_put [] k r = refl
lent_put (x ∷ xs) k r = by_order (nat_cmp k x.0) (lent_put xs k r)
  where
    by_order : (o : Ordering) → lent (insert_entry nat_cmp xs k r) ≡ insert_entry nat_cmp (lent xs) k r.now
        → lent (match_ordering o ((k, r) ∷ x ∷ xs) ((x.0, r) ∷ xs) (x ∷ insert_entry nat_cmp xs k r)) ≡ match_ordering o ((k, r.now) ∷ (x.0, x.1.now) ∷ lent xs) ((x.0, r.now) ∷ lent xs) ((x.0, x.1.now) ∷ insert_entry nat_cmp (lent xs) k r.now)
    by_order Less rest = refl
    by_order Equal rest = refl
    by_order Greater rest = ap (λ (rows : List Numbered). (x.0, x.1.now) ∷ rows) rest

pub lent_keys : (rows : List (ℕ × Bor Row)) → keys_of (lent rows) ≡ keys_of rows
lent_keys [] = refl
lent_keys (x ∷ xs) = ap (λ (ks : List ℕ). x.0 ∷ ks) (lent_keys xs)

pub lent_values : (rows : List (ℕ × Bor Row)) → values_of (lent rows) ≡ lent_rows (values_of rows)
lent_values [] = refl
lent_values (x ∷ xs) = ap (λ (rs : List Row). x.1.now ∷ rs) (lent_values xs)
