-- Rows by their places: what is looked for among them, and what changes make of them.
use Rattle.std.proofs.Common.{◌≡◌, ◌≢◌, ℕ, ◌+◌, ◌≤◌, ◌⊎◌, inl, inr, Bool, true, false, List, [], ◌∷◌, filter, refl, sym, ◌∙◌, ap, arith, subst}
use Rattle.std.specs.Prelude.{Some, None, nat_eq, find, if◌then◌else◌}
use Rattle.std.specs.List.{AllByRecursion}
use Rattle.std.specs.List.Sorted.{IsStrictlySortedBy}
use Rattle.std.specs.Option.{option_map}
use Rattle.std.specs.Ordering.{match_ordering, is_eq}
use Rattle.std.specs.BTreeMap.{is_at, insert_entry}
use Rattle.std.specs.Map.{keys_of, set_value, remove_entry, lookup}
use Rattle.std.specs.declared.cmp.Ordering.{Ordering}
use Rattle.std.specs.declared.cmp.Ordering.TheVariants.{Less, Equal, Greater}
use Rattle.std.proofs.lemmas.Bool.{ne_eqb, eq-eqb, eqb-true, eqb-false}
use Rattle.std.proofs.lemmas.Map.Entries.{option_filter}
use Rattle.std.proofs.lemmas.Map.Keys.{sorted_head, sorted_tail}
use Rattle.of_types.specs.declared.message.Row.{Row}
use Rattle.flow_table.specs.Table.{same_key}
use Rattle.flow_index.specs.declared.place.Place.{Place}
use Rattle.flow_index.specs.Places.{place_of}
use Rattle.flow_index.specs.Entries.{by_place}
use Rattle.flow_index.specs.Index.{each_row, rows_that, numbered_rows, IsPlaced, AreSeparate, AreIndexed}
use Rattle.flow_table.proofs.Keys.{HaveOneKey, key_back, same_some, unlike}
use Rattle.flow_index.proofs.Order.{equal_numbers, at_itself}

abbrev pub Entry : Type 0
Entry = Place × Row

-- an entry is one of some
abbrev pub IsIn : Entry → List Entry → Type 0
IsIn e [] = ⊥
IsIn e (x ∷ xs) = (x ≡ e) ⊎ IsIn e xs

pub all_in : (P : Entry → Type 0) (es : List Entry) (e : Entry) → AllByRecursion P es → IsIn e es → P e
all_in P [] e a i = absurd i
all_in P (x ∷ xs) e a (inl same) = subst P same a.0
all_in P (x ∷ xs) e a (inr i) = all_in P xs e a.1 i

pub all_from : (P : Entry → Type 0) (es : List Entry) → ((e : Entry) → IsIn e es → P e) → AllByRecursion P es
all_from P [] h = tt
all_from P (x ∷ xs) h = (h x (inl refl), all_from P xs (λ e i. h e (inr i)))

pub placed : (n : ℕ) (es : List Entry) (e : Entry) → AreIndexed n es → IsIn e es → IsPlaced n e
placed n [] e a i = absurd i
placed n (x ∷ xs) e a (inl same) = subst (IsPlaced n) same a.0
placed n (x ∷ xs) e a (inr i) = placed n xs e a.2 i

-- ---- numbers

pub numbered_absent : (es : List Entry) (n : ℕ) → AllByRecursion (λ e. nat_eq e.0.number n ≡ false) es → numbered_rows es n ≡ None
numbered_absent [] n a = refl
numbered_absent (x ∷ xs) n a = rw a.0 (numbered_absent xs n a.1)

-- no row has a number that was not given yet
pub numbered_later : (next : ℕ) (es : List Entry) (n : ℕ) → AreIndexed next es → next ≤ n → numbered_rows es n ≡ None
numbered_later next es n a le =
    numbered_absent es n (all_from _ es (λ e i. let p = placed next es e a i in ne_eqb e.0.number n (λ same. absurd (omega (arith, p.below, le, same)))))

-- the row of a number is at its place
pub numbered_in : (next : ℕ) (es : List Entry) (n : ℕ) (r : Row) → AreIndexed next es → numbered_rows es n ≡ Some r → IsIn (place_of r n, r) es
numbered_in next [] n r a e = absurd cc
numbered_in next (x ∷ xs) n r a e = by_test (nat_eq x.0.number n) refl (numbered_in next xs n r a.2) e
  where
    by_test : (b : Bool) → nat_eq x.0.number n ≡ b → (numbered_rows xs n ≡ Some r → IsIn (place_of r n, r) xs) → (if b then Some x.1 else numbered_rows xs n) ≡ Some r → IsIn (place_of r n, r) (x ∷ xs)
    by_test true is rest found =
        let row : x.1 ≡ r = same_some x.1 r found in
        let at : x.0 ≡ place_of r n = a.0.place ∙ ap (λ (m : ℕ). place_of x.1 m) (eqb-true x.0.number n is) ∙ ap (λ (s : Row). place_of s n) row in
        inl (ap (λ (p : Place). (p, x.1)) at ∙ ap (λ (s : Row). (place_of r n, s)) row)
    by_test false is rest found = inr (rest found)

-- and the row at a place has its number
pub in_numbered : (next : ℕ) (es : List Entry) (p : Place) (r : Row) → AreIndexed next es → IsIn (p, r) es → numbered_rows es p.number ≡ Some r
in_numbered next [] p r a i = absurd i
in_numbered next (x ∷ xs) p r a (inl same) =
    rw (eq-eqb x.0.number p.number (ap (λ (e : Entry). e.0.number) same)) (ap (λ (e : Entry). Some e.1) same)
in_numbered next (x ∷ xs) p r a (inr i) =
    rw (all_in (AreSeparate x) xs (p, r) a.1 i).numbers (in_numbered next xs p r a.2 i)

-- two rows of one key are one
pub one_of_key : (n : ℕ) (es : List Entry) (d e : Entry) → AreIndexed n es → IsIn d es → IsIn e es → same_key d.1 e.1 ≡ true → d ≡ e
one_of_key n [] d e a i j same = absurd i
one_of_key n (x ∷ xs) d e a (inl i) (inl j) same = sym i ∙ j
one_of_key n (x ∷ xs) d e a (inl i) (inr j) same = absurd (unlike (sym (all_in (AreSeparate x) xs e a.1 j).keys ∙ ap (λ (s : Entry). same_key s.1 e.1) i ∙ same))
one_of_key n (x ∷ xs) d e a (inr i) (inl j) same = absurd (unlike (sym (all_in (AreSeparate x) xs d a.1 i).keys ∙ ap (λ (s : Entry). same_key s.1 d.1) j ∙ key_back d.1 e.1 same))
one_of_key n (x ∷ xs) d e a (inr i) (inr j) same = one_of_key n xs d e a.2 i j same

-- ---- the first that passes, of those in a range

pub find_in : (q b : Entry → Bool) (es : List Entry) (e : Entry) → find q (filter b es) ≡ Some e → IsIn e es × (q e ≡ true) × (b e ≡ true)
find_in q b [] e f = absurd cc
find_in q b (x ∷ xs) e f = by_range (b x) refl (find_in q b xs e) f
  where
    by_range : (t : Bool) → b x ≡ t → (find q (filter b xs) ≡ Some e → IsIn e xs × (q e ≡ true) × (b e ≡ true)) → find q (if t then x ∷ filter b xs else filter b xs) ≡ Some e → IsIn e (x ∷ xs) × (q e ≡ true) × (b e ≡ true)
    by_range false is rest h = let r = rest h in (inr r.0, r.1, r.2)
    by_range true is rest h = by_test (q x) refl h
      where
        by_test : (t : Bool) → q x ≡ t → (if t then Some x else find q (filter b xs)) ≡ Some e → IsIn e (x ∷ xs) × (q e ≡ true) × (b e ≡ true)
        by_test true passes here = let same : x ≡ e = same_some x e here in (inl same, ap q (sym same) ∙ passes, ap b (sym same) ∙ is)
        by_test false fails later = let r = rest later in (inr r.0, r.1, r.2)

pub find_none : (q b : Entry → Bool) (es : List Entry) (e : Entry) → find q (filter b es) ≡ None → IsIn e es → b e ≡ true → q e ≡ false
find_none q b [] e f i h = absurd i
find_none q b (x ∷ xs) e f i h = by_range (b x) refl (find_none q b xs e) f i
  where
    by_range : (t : Bool) → b x ≡ t → (find q (filter b xs) ≡ None → IsIn e xs → b e ≡ true → q e ≡ false) → find q (if t then x ∷ filter b xs else filter b xs) ≡ None → IsIn e (x ∷ xs) → q e ≡ false
    by_range false is rest g (inl same) = absurd (unlike (sym is ∙ ap b same ∙ h))
    by_range false is rest g (inr j) = rest g j h
    by_range true is rest g j = by_test (q x) refl g j
      where
        by_test : (t : Bool) → q x ≡ t → (if t then Some x else find q (filter b xs)) ≡ None → IsIn e (x ∷ xs) → q e ≡ false
        by_test true passes here k = absurd cc
        by_test false fails later (inl same) = ap q (sym same) ∙ fails
        by_test false fails later (inr k) = rest later k h

-- of sorted entries the first is the least
pub find_least : (q b : Entry → Bool) (es : List Entry) (a e : Entry) → IsStrictlySortedBy by_place (keys_of es) → find q (filter b es) ≡ Some a → IsIn e es → b e ≡ true → q e ≡ true → (e ≡ a) ⊎ (by_place a.0 e.0 ≡ Less)
find_least q b [] a e sorted f i h k = absurd i
find_least q b (x ∷ xs) a e sorted f i h k = by_range (b x) refl (λ g j. find_least q b xs a e (sorted_tail by_place x.0 (keys_of xs) sorted) g j h k) f i
  where
    after : (es : List Entry) → AllByRecursion (λ p. by_place x.0 p ≡ Less) (keys_of es) → IsIn e es → by_place x.0 e.0 ≡ Less
    after [] all j = absurd j
    after (y ∷ ys) all (inl same) = subst (λ (s : Entry). by_place x.0 s.0 ≡ Less) same all.0
    after (y ∷ ys) all (inr j) = after ys all.1 j

    by_range : (t : Bool) → b x ≡ t → (find q (filter b xs) ≡ Some a → IsIn e xs → (e ≡ a) ⊎ (by_place a.0 e.0 ≡ Less)) → find q (if t then x ∷ filter b xs else filter b xs) ≡ Some a → IsIn e (x ∷ xs) → (e ≡ a) ⊎ (by_place a.0 e.0 ≡ Less)
    by_range false is rest g (inl same) = absurd (unlike (sym is ∙ ap b same ∙ h))
    by_range false is rest g (inr j) = rest g j
    by_range true is rest g j = by_test (q x) refl g j
      where
        by_test : (t : Bool) → q x ≡ t → (if t then Some x else find q (filter b xs)) ≡ Some a → IsIn e (x ∷ xs) → (e ≡ a) ⊎ (by_place a.0 e.0 ≡ Less)
        by_test true passes here (inl same) = inl (sym same ∙ same_some x a here)
        by_test true passes here (inr l) = inr (subst (λ (s : Entry). by_place s.0 e.0 ≡ Less) (same_some x a here) (after xs (sorted_head by_place x.0 (keys_of xs) sorted) l))
        by_test false fails later (inl same) = absurd (unlike (sym fails ∙ ap q same ∙ k))
        by_test false fails later (inr l) = rest later l

-- ---- changes

pub all_fixed : (f : Row → Row) (es : List Entry) → ((e : Entry) → IsIn e es → f e.1 ≡ e.1) → each_row f es ≡ es
all_fixed f [] h = refl
all_fixed f (x ∷ xs) h = rw (h x (inl refl), all_fixed f xs (λ e i. h e (inr i))) refl

pub all_kept : (q : Row → Bool) (es : List Entry) → ((e : Entry) → IsIn e es → q e.1 ≡ true) → rows_that q es ≡ es
all_kept q [] h = refl
all_kept q (x ∷ xs) h = rw (h x (inl refl)) (ap (λ (ys : List Entry). x ∷ ys) (all_kept q xs (λ e i. h e (inr i))))

-- a later entry is at another place than an earlier one
elsewhere : (x y : Entry) → AreSeparate x y → is_at (by_place y.0) x.0 ≡ false
elsewhere x y apart = by_test (is_at (by_place y.0) x.0) refl
  where
    by_test : (b : Bool) → is_at (by_place y.0) x.0 ≡ b → is_at (by_place y.0) x.0 ≡ false
    by_test true is = absurd (eqb-false x.0.number y.0.number apart.numbers (sym (equal_numbers y.0 x.0 is)))
    by_test false is = is

not_equal : (x y : Entry) → AreSeparate x y → y ≢ x
not_equal x y apart same = eqb-false x.0.number y.0.number apart.numbers (ap (λ (e : Entry). e.0.number) (sym same))

-- a row is found at its place
pub at_place : (n : ℕ) (es : List Entry) (p : Place) (r : Row) → AreIndexed n es → IsIn (p, r) es → lookup (is_at (by_place p)) es ≡ Some r
at_place n [] p r a i = absurd i
at_place n (x ∷ xs) p r a (inl same) =
    let hit : is_at (by_place p) x.0 ≡ true = subst (λ (e : Entry). is_at (by_place p) e.0 ≡ true) (sym same) (at_itself p) in
    rw hit (ap (λ (e : Entry). Some e.1) same)
at_place n (x ∷ xs) p r a (inr i) = rw (elsewhere x (p, r) (all_in (AreSeparate x) xs (p, r) a.1 i)) (at_place n xs p r a.2 i)

-- a value that is set at a place, where f changes the row there and no other
pub set_is_each : (n : ℕ) (es : List Entry) (p : Place) (r w : Row) (f : Row → Row) → AreIndexed n es → IsIn (p, r) es → f r ≡ w → ((e : Entry) → IsIn e es → e ≢ (p, r) → f e.1 ≡ e.1) → set_value (is_at (by_place p)) es w ≡ each_row f es
set_is_each n [] p r w f a i here others = absurd i
set_is_each n (x ∷ xs) p r w f a (inl same) here others =
    let hit : is_at (by_place p) x.0 ≡ true = subst (λ (e : Entry). is_at (by_place p) e.0 ≡ true) (sym same) (at_itself p) in
    let rest : each_row f xs ≡ xs = all_fixed f xs (λ e j. others e (inr j) (λ is. not_equal x e (all_in (AreSeparate x) xs e a.1 j) (is ∙ sym same))) in
    let written : f x.1 ≡ w = ap (λ (e : Entry). f e.1) same ∙ here in
    rw (hit, rest, written) refl
set_is_each n (x ∷ xs) p r w f a (inr i) here others =
    let apart = all_in (AreSeparate x) xs (p, r) a.1 i in
    let fixed : f x.1 ≡ x.1 = others x (inl refl) (λ is. not_equal x (p, r) apart (sym is)) in
    rw (elsewhere x (p, r) apart, fixed) (ap (λ (ys : List Entry). x ∷ ys) (set_is_each n xs p r w f a.2 i here (λ e j. others e (inr j))))

-- an entry that is taken out at a place, where q refuses the row there and no other
pub remove_is_filter : (n : ℕ) (es : List Entry) (p : Place) (r : Row) (q : Row → Bool) → AreIndexed n es → IsIn (p, r) es → q r ≡ false → ((e : Entry) → IsIn e es → e ≢ (p, r) → q e.1 ≡ true) → remove_entry (is_at (by_place p)) es ≡ rows_that q es
remove_is_filter n [] p r q a i here others = absurd i
remove_is_filter n (x ∷ xs) p r q a (inl same) here others =
    let hit : is_at (by_place p) x.0 ≡ true = subst (λ (e : Entry). is_at (by_place p) e.0 ≡ true) (sym same) (at_itself p) in
    let rest : rows_that q xs ≡ xs = all_kept q xs (λ e j. others e (inr j) (λ is. not_equal x e (all_in (AreSeparate x) xs e a.1 j) (is ∙ sym same))) in
    let gone : q x.1 ≡ false = ap (λ (e : Entry). q e.1) same ∙ here in
    rw (hit, gone, rest) refl
remove_is_filter n (x ∷ xs) p r q a (inr i) here others =
    let apart = all_in (AreSeparate x) xs (p, r) a.1 i in
    let stays : q x.1 ≡ true = others x (inl refl) (λ is. not_equal x (p, r) apart (sym is)) in
    rw (elsewhere x (p, r) apart, stays) (ap (λ (ys : List Entry). x ∷ ys) (remove_is_filter n xs p r q a.2 i here (λ e j. others e (inr j))))

pub numbered_each : (f : Row → Row) (es : List Entry) (n : ℕ) → numbered_rows (each_row f es) n ≡ option_map f (numbered_rows es n)
numbered_each f [] n = refl
numbered_each f (x ∷ xs) n = by_test (nat_eq x.0.number n) (numbered_each f xs n)
  where
    by_test : (b : Bool) → numbered_rows (each_row f xs) n ≡ option_map f (numbered_rows xs n) → (if b then Some (f x.1) else numbered_rows (each_row f xs) n) ≡ option_map f (if b then Some x.1 else numbered_rows xs n)
    by_test true rest = refl
    by_test false rest = rest

pub numbered_that : (q : Row → Bool) (next : ℕ) (es : List Entry) (n : ℕ) → AreIndexed next es → numbered_rows (rows_that q es) n ≡ option_filter q (numbered_rows es n)
numbered_that q next [] n a = refl
numbered_that q next (x ∷ xs) n a = by_row (q x.1) refl (nat_eq x.0.number n) refl (numbered_that q next xs n a.2)
  where
    by_row : (k : Bool) → q x.1 ≡ k → (b : Bool) → nat_eq x.0.number n ≡ b → numbered_rows (rows_that q xs) n ≡ option_filter q (numbered_rows xs n)
        → numbered_rows (if k then x ∷ rows_that q xs else rows_that q xs) n ≡ option_filter q (if b then Some x.1 else numbered_rows xs n)
    by_row true stays true is rest = rw (is, stays) refl
    by_row true stays false is rest = rw is rest
    by_row false goes true is rest =
        let none : numbered_rows xs n ≡ None = numbered_absent xs n (all_from _ xs (λ e i. subst (λ (m : ℕ). nat_eq e.0.number m ≡ false) (eqb-true x.0.number n is) (ne_eqb e.0.number x.0.number (λ same. eqb-false x.0.number e.0.number (all_in (AreSeparate x) xs e a.1 i).numbers (sym same))))) in
        rest ∙ rw (none, goes) refl
    by_row false goes false is rest = rest

pub numbered_insert : (es : List Entry) (p : Place) (r : Row) (n : ℕ) → AllByRecursion (λ e. nat_eq e.0.number p.number ≡ false) es → numbered_rows (insert_entry by_place es p r) n ≡ (if nat_eq p.number n then Some r else numbered_rows es n)
numbered_insert [] p r n a = refl
numbered_insert (x ∷ xs) p r n a = by_order (by_place p x.0) refl (numbered_insert xs p r n a.1)
  where
    by_order : (o : Ordering) → by_place p x.0 ≡ o → numbered_rows (insert_entry by_place xs p r) n ≡ (if nat_eq p.number n then Some r else numbered_rows xs n)
        → numbered_rows (match_ordering o ((p, r) ∷ x ∷ xs) ((x.0, r) ∷ xs) (x ∷ insert_entry by_place xs p r)) n ≡ (if nat_eq p.number n then Some r else if nat_eq x.0.number n then Some x.1 else numbered_rows xs n)
    by_order Less is rest = refl
    by_order Equal is rest = absurd (eqb-false x.0.number p.number a.0 (sym (equal_numbers p x.0 (ap is_eq is))))
    by_order Greater is rest = rw rest (swap (nat_eq x.0.number n) refl (nat_eq p.number n) refl)
      where
        swap : (b : Bool) → nat_eq x.0.number n ≡ b → (c : Bool) → nat_eq p.number n ≡ c → (if b then Some x.1 else if c then Some r else numbered_rows xs n) ≡ (if c then Some r else if b then Some x.1 else numbered_rows xs n)
        swap true b true c = absurd (eqb-false x.0.number p.number a.0 (eqb-true x.0.number n b ∙ sym (eqb-true p.number n c)))
        swap true b false c = refl
        swap false b c d = refl

-- ---- what changes keep

pub indexed_more : (n m : ℕ) (es : List Entry) → n ≤ m → AreIndexed n es → AreIndexed m es
indexed_more n m [] le a = tt
indexed_more n m (x ∷ xs) le a = (record { place = a.0.place; below = omega (arith, le, a.0.below); fits = a.0.fits }, a.1, indexed_more n m xs le a.2)

all_insert : (P : Entry → Type 0) (es : List Entry) (p : Place) (r : Row) → AllByRecursion (λ e. nat_eq e.0.number p.number ≡ false) es → AllByRecursion P es → P (p, r) → AllByRecursion P (insert_entry by_place es p r)
all_insert P [] p r new a here = (here, tt)
all_insert P (x ∷ xs) p r new a here = by_order (by_place p x.0) refl (all_insert P xs p r new.1 a.1 here)
  where
    by_order : (o : Ordering) → by_place p x.0 ≡ o → AllByRecursion P (insert_entry by_place xs p r) → AllByRecursion P (match_ordering o ((p, r) ∷ x ∷ xs) ((x.0, r) ∷ xs) (x ∷ insert_entry by_place xs p r))
    by_order Less is rest = (here, a)
    by_order Equal is rest = absurd (eqb-false x.0.number p.number new.0 (sym (equal_numbers p x.0 (ap is_eq is))))
    by_order Greater is rest = (a.0, rest)

-- a row of a new number and a new key joins
pub indexed_insert : (next : ℕ) (es : List Entry) (p : Place) (r : Row) → AreIndexed next es → IsPlaced (next + 1) (p, r) → AllByRecursion (λ e. AreSeparate e (p, r)) es → AllByRecursion (λ e. AreSeparate (p, r) e) es → AreIndexed (next + 1) (insert_entry by_place es p r)
indexed_insert next [] p r a here before after = (here, tt, tt)
indexed_insert next (x ∷ xs) p r a here before after = by_order (by_place p x.0) refl (indexed_insert next xs p r a.2 here before.1 after.1)
  where
    new : AllByRecursion (λ e. nat_eq e.0.number p.number ≡ false) xs
    new = all_from _ xs (λ e i. (all_in (λ e. AreSeparate e (p, r)) xs e before.1 i).numbers)

    by_order : (o : Ordering) → by_place p x.0 ≡ o → AreIndexed (next + 1) (insert_entry by_place xs p r) → AreIndexed (next + 1) (match_ordering o ((p, r) ∷ x ∷ xs) ((x.0, r) ∷ xs) (x ∷ insert_entry by_place xs p r))
    by_order Less is rest = (here, after, indexed_more next (next + 1) (x ∷ xs) (omega arith) a)
    by_order Equal is rest = absurd (eqb-false x.0.number p.number before.0.numbers (sym (equal_numbers p x.0 (ap is_eq is))))
    by_order Greater is rest = (record { place = a.0.place; below = omega (arith, a.0.below); fits = a.0.fits }, all_insert (AreSeparate x) xs p r new a.1 before.0, rest)

all_filter : (P : Entry → Type 0) (q : Row → Bool) (es : List Entry) → AllByRecursion P es → AllByRecursion P (rows_that q es)
all_filter P q [] a = tt
all_filter P q (x ∷ xs) a = by_test (q x.1) (all_filter P q xs a.1)
  where
    by_test : (b : Bool) → AllByRecursion P (rows_that q xs) → AllByRecursion P (if b then x ∷ rows_that q xs else rows_that q xs)
    by_test true rest = (a.0, rest)
    by_test false rest = rest

pub indexed_that : (n : ℕ) (q : Row → Bool) (es : List Entry) → AreIndexed n es → AreIndexed n (rows_that q es)
indexed_that n q [] a = tt
indexed_that n q (x ∷ xs) a = by_test (q x.1) (indexed_that n q xs a.2)
  where
    by_test : (b : Bool) → AreIndexed n (rows_that q xs) → AreIndexed n (if b then x ∷ rows_that q xs else rows_that q xs)
    by_test true rest = (a.0, all_filter (AreSeparate x) q xs a.1, rest)
    by_test false rest = rest

-- a change of rows that leaves their keys
abbrev pub KeepsKeys : (Row → Row) → Type 0
KeepsKeys f = (r : Row) → HaveOneKey (f r) r

keys_stay : (f : Row → Row) → KeepsKeys f → (a b : Row) → same_key a b ≡ false → same_key (f a) (f b) ≡ false
keys_stay f keeps a b differ = rw ((keeps a).priority, (keeps a).matching, (keeps b).priority, (keeps b).matching) differ

apart_each : (f : Row → Row) → KeepsKeys f → (x : Entry) (es : List Entry) → AllByRecursion (AreSeparate x) es → AllByRecursion (AreSeparate (x.0, f x.1)) (each_row f es)
apart_each f keeps x [] a = tt
apart_each f keeps x (y ∷ ys) a = (record { numbers = a.0.numbers; keys = keys_stay f keeps x.1 y.1 a.0.keys }, apart_each f keeps x ys a.1)

pub indexed_each : (n : ℕ) (f : Row → Row) → KeepsKeys f → (es : List Entry) → AreIndexed n es → AreIndexed n (each_row f es)
indexed_each n f keeps [] a = tt
indexed_each n f keeps (x ∷ xs) a = (
  record {
    place = a.0.place ∙ sym (rw ((keeps x.1).priority, (keeps x.1).matching) refl);
    below = a.0.below;
    fits = rw (keeps x.1).priority a.0.fits;
  },
  apart_each f keeps x xs a.1,
  indexed_each n f keeps xs a.2,
)
