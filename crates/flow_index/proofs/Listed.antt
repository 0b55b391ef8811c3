-- Rows with numbers, in the order of the numbers.
use Rattle.std.proofs.Common.{◌≡◌, ℕ, zero, suc, ◌+◌, ◌<◌, inl, inr, Bool, true, false, List, [], ◌∷◌, ◌++◌, length, map, filter, refl, sym, ◌∙◌, ap, arith}
use Rattle.std.specs.Prelude.{Option, Some, None, ◌||◌, if◌then◌else◌}
use Rattle.std.specs.List.{AllByRecursion, list_any}
use Rattle.std.specs.Option.{option_map, option_to_list}
use Rattle.std.proofs.lemmas.List.{append-nil, length-append}
use Rattle.std.proofs.lemmas.Bool.{cases_eq}
use Rattle.std.proofs.lemmas.Map.Entries.{option_filter}
use Rattle.of_types.specs.declared.message.Row.{Row}
use Rattle.flow_table.specs.Table.{same_key, with_row}
use Rattle.flow_index.specs.Index.{rows_below}

-- rows that agree below a number
pub listed_same : (f g : ℕ → Option Row) (n : ℕ) → ((m : ℕ) → m < n → f m ≡ g m) → rows_below f n ≡ rows_below g n
listed_same f g zero same = refl
listed_same f g (suc n) same = rw (listed_same f g n (λ m lt. same m (omega (arith, lt))), same n (omega arith)) refl

map_append : {A B : Type 0} (h : A → B) (xs ys : List A) → map h (xs ++ ys) ≡ map h xs ++ map h ys
map_append h [] ys = refl
map_append h (x ∷ xs) ys = rw (map_append h xs ys) refl

filter_append : {A : Type 0} (q : A → Bool) (xs ys : List A) → filter q (xs ++ ys) ≡ filter q xs ++ filter q ys
filter_append q [] ys = refl
filter_append {A} q (x ∷ xs) ys = by_test (q x) (filter_append q xs ys)
  where
    by_test : (b : Bool) → filter q (xs ++ ys) ≡ filter q xs ++ filter q ys → (if b then x ∷ filter q (xs ++ ys) else filter q (xs ++ ys)) ≡ (if b then x ∷ filter q xs else filter q xs) ++ filter q ys
    by_test true rest = rw rest refl
    by_test false rest = rest

map_option : (h : Row → Row) (o : Option Row) → option_to_list (option_map h o) ≡ map h (option_to_list o)
map_option h None = refl
map_option h (Some r) = refl

pub listed_map : (h : Row → Row) (f : ℕ → Option Row) (n : ℕ) → rows_below (λ m. option_map h (f m)) n ≡ map h (rows_below f n)
listed_map h f zero = refl
listed_map h f (suc n) = rw (listed_map h f n, map_option h (f n)) (sym (map_append h (rows_below f n) (option_to_list (f n))))

filter_option : (q : Row → Bool) (o : Option Row) → option_to_list (option_filter q o) ≡ filter q (option_to_list o)
filter_option q None = refl
filter_option q (Some r) = by_test (q r)
  where
    by_test : (b : Bool) → option_to_list (if b then Some r else None) ≡ (if b then r ∷ [] else [])
    by_test true = refl
    by_test false = refl

pub listed_filter : (q : Row → Bool) (f : ℕ → Option Row) (n : ℕ) → rows_below (λ m. option_filter q (f m)) n ≡ filter q (rows_below f n)
listed_filter q f zero = refl
listed_filter q f (suc n) = rw (listed_filter q f n, filter_option q (f n)) (sym (filter_append q (rows_below f n) (option_to_list (f n))))

all_append : {A : Type 0} (P : A → Type 0) (xs ys : List A) → AllByRecursion P xs → AllByRecursion P ys → AllByRecursion P (xs ++ ys)
all_append P [] ys a b = b
all_append P (x ∷ xs) ys a b = (a.0, all_append P xs ys a.1 b)

all_option : (P : Row → Type 0) (o : Option Row) → ((r : Row) → o ≡ Some r → P r) → AllByRecursion P (option_to_list o)
all_option P None h = tt
all_option P (Some r) h = (h r refl, tt)

pub listed_all : (P : Row → Type 0) (f : ℕ → Option Row) (n : ℕ) → ((m : ℕ) (r : Row) → m < n → f m ≡ Some r → P r) → AllByRecursion P (rows_below f n)
listed_all P f zero h = tt
listed_all P f (suc n) h = all_append P (rows_below f n) (option_to_list (f n)) (listed_all P f n (λ m r lt e. h m r (omega (arith, lt)) e)) (all_option P (f n) (λ r e. h n r (omega arith) e))

any_append : {A : Type 0} (t : A → Bool) (xs ys : List A) → list_any t xs ≡ true → list_any t (xs ++ ys) ≡ true
any_append t [] ys e = absurd cc
any_append {A} t (x ∷ xs) ys e = by_test (t x) (any_append t xs ys) e
  where
    by_test : (b : Bool) → (list_any t xs ≡ true → list_any t (xs ++ ys) ≡ true) → (b || list_any t xs) ≡ true → (b || list_any t (xs ++ ys)) ≡ true
    by_test true rest h = refl
    by_test false rest h = rest h

any_last : {A : Type 0} (t : A → Bool) (xs : List A) (y : A) → t y ≡ true → list_any t (xs ++ y ∷ []) ≡ true
any_last t [] y e = rw e refl
any_last {A} t (x ∷ xs) y e = by_test (t x) (any_last t xs y e)
  where
    by_test : (b : Bool) → list_any t (xs ++ y ∷ []) ≡ true → (b || list_any t (xs ++ y ∷ [])) ≡ true
    by_test true rest = refl
    by_test false rest = rest

pub listed_any : (t : Row → Bool) (f : ℕ → Option Row) (n m : ℕ) (r : Row) → m < n → f m ≡ Some r → t r ≡ true → list_any t (rows_below f n) ≡ true
listed_any t f zero m r lt e h = absurd (omega (arith, lt))
listed_any t f (suc n) m r lt e h = elim (cases_eq m n) [
  | inl same ↦ rw (sym (ap f same) ∙ e) (any_last t (rows_below f n) r h)
  | inr apart ↦ any_append t (rows_below f n) (option_to_list (f n)) (listed_any t f n m r (omega (arith, lt, apart)) e h)
]

pub none_any : {A : Type 0} (t : A → Bool) (xs : List A) → AllByRecursion (λ x. t x ≡ false) xs → list_any t xs ≡ false
none_any t [] a = refl
none_any t (x ∷ xs) a = rw a.0 (none_any t xs a.1)

-- one more row
pub listed_more : (f g : ℕ → Option Row) (n k : ℕ) (r : Row) → k < n → f k ≡ None → g k ≡ Some r → ((m : ℕ) → (m ≡ k → ⊥) → g m ≡ f m) → length (rows_below g n) ≡ length (rows_below f n) + 1
listed_more f g zero k r lt gone here others = absurd (omega (arith, lt))
listed_more f g (suc n) k r lt gone here others = elim (cases_eq n k) [
  | inl same ↦
      let front : rows_below g n ≡ rows_below f n = listed_same g f n (λ m below. others m (λ e. absurd (omega (arith, below, e, same)))) in
      let old : f n ≡ None = ap f same ∙ gone in
      let new : g n ≡ Some r = ap g same ∙ here in
      rw (front, old, new, append-nil (rows_below f n)) (length-append (rows_below f n) (r ∷ []))
  | inr apart ↦
      let front = listed_more f g n k r (omega (arith, lt, apart)) gone here others in
      let last : length (option_to_list (g n)) ≡ length (option_to_list (f n)) = ap (λ (o : Option Row). length (option_to_list o)) (others n apart) in
      length-append (rows_below g n) (option_to_list (g n)) ∙ omega (arith, front, last) ∙ sym (ap (λ (x : ℕ). x + 1) (length-append (rows_below f n) (option_to_list (f n))))
]

-- ---- ADD

-- a row whose key no row has comes last
pub with_new : (rows : List Row) (row : Row) → AllByRecursion (λ r. same_key r row ≡ false) rows → with_row rows row ≡ rows ++ row ∷ []
with_new [] row a = refl
with_new (r ∷ rows) row a = rw a.0 (ap (λ (xs : List Row). r ∷ xs) (with_new rows row a.1))

with_later : (xs ys : List Row) (row : Row) → AllByRecursion (λ r. same_key r row ≡ false) xs → with_row (xs ++ ys) row ≡ xs ++ with_row ys row
with_later [] ys row a = refl
with_later (x ∷ xs) ys row a = rw a.0 (ap (λ (rs : List Row). x ∷ rs) (with_later xs ys row a.1))

with_earlier : (xs ys : List Row) (row : Row) → list_any (λ r. same_key r row) xs ≡ true → with_row (xs ++ ys) row ≡ with_row xs row ++ ys
with_earlier [] ys row e = absurd cc
with_earlier (x ∷ xs) ys row e = by_test (same_key x row) (with_earlier xs ys row) e
  where
    by_test : (b : Bool) → (list_any (λ r. same_key r row) xs ≡ true → with_row (xs ++ ys) row ≡ with_row xs row ++ ys) → (b || list_any (λ r. same_key r row) xs) ≡ true
        → (if b then row ∷ (xs ++ ys) else x ∷ with_row (xs ++ ys) row) ≡ (if b then row ∷ xs else x ∷ with_row xs row) ++ ys
    by_test true rest h = refl
    by_test false rest h = ap (λ (rs : List Row). x ∷ rs) (rest h)

-- a row of the key of another is replaced by it
abbrev pub replaced : Row → Row → Row
replaced row r = if same_key r row then row else r

others_stay : (row : Row) (rows : List Row) → AllByRecursion (λ r. same_key r row ≡ false) rows → map (replaced row) rows ≡ rows
others_stay row [] a = refl
others_stay row (r ∷ rows) a = rw a.0 (ap (λ (xs : List Row). r ∷ xs) (others_stay row rows a.1))

pub listed_replaced : (f : ℕ → Option Row) (row : Row) (n k : ℕ) (r : Row) → k < n → f k ≡ Some r → same_key r row ≡ true → ((m : ℕ) (s : Row) → f m ≡ Some s → same_key s row ≡ true → m ≡ k) → with_row (rows_below f n) row ≡ map (replaced row) (rows_below f n)
listed_replaced f row zero k r lt here has one = absurd (omega (arith, lt))
listed_replaced f row (suc n) k r lt here has one = elim (cases_eq n k) [
  | inl same ↦
      let front = listed_all (λ s. same_key s row ≡ false) f n (λ m s below e. other m s e (λ is. absurd (omega (arith, below, is, same)))) in
      rw (ap f same ∙ here) (
      with_later (rows_below f n) (r ∷ []) row front
      ∙ rw (map_append (replaced row) (rows_below f n) (r ∷ []), others_stay row (rows_below f n) front, has) refl)
  | inr apart ↦
      let last = all_option (λ s. same_key s row ≡ false) (f n) (λ s e. other n s e apart) in
      with_earlier (rows_below f n) (option_to_list (f n)) row (listed_any (λ s. same_key s row) f n k r (omega (arith, lt, apart)) here has)
      ∙ rw (listed_replaced f row n k r (omega (arith, lt, apart)) here has one, map_append (replaced row) (rows_below f n) (option_to_list (f n)), others_stay row (option_to_list (f n)) last) refl
]
  where
    other : (m : ℕ) (s : Row) → f m ≡ Some s → (m ≡ k → ⊥) → same_key s row ≡ false
    other m s e apart = by_test (same_key s row) refl
      where
        by_test : (b : Bool) → same_key s row ≡ b → same_key s row ≡ false
        by_test true is = absurd (apart (one m s e is))
        by_test false is = is
