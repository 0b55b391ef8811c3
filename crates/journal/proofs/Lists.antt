-- Letters as packets, and journals, one element at a time.
use Rattle.std.proofs.Common.{◌≡◌, ◌<◌, ℕ, ◌+◌, zero, suc, List, [], ◌∷◌, ◌++◌, length, map, take, drop, refl, sym, ap, ◌∙◌, subst, arith}
use Rattle.std.specs.Prelude.{slice_get, Some, IfSome}
use Rattle.std.proofs.lemmas.List.{reverse-append, take_more}
use Rattle.std.proofs.lemmas.Option.{get_or_from_slice_get, slice_get_within}
use Rattle.journal.specs.declared.journal.Actor.{Actor}
use Rattle.journal.specs.declared.journal.JournalEntry.{JournalEntry}
use Rattle.journal.specs.declared.journal.Letter.{Letter}
use Rattle.journal.specs.Places.{packet_as}
use Rattle.journal.specs.Pool.{past, numbered_letters}

-- the past of a journal that grew by an entry
pub past-push : {B : Type 0} (journal : List (JournalEntry B)) (e : JournalEntry B) → past (journal ++ e ∷ []) ≡ e ∷ past journal
past-push journal e = reverse-append journal (e ∷ [])

-- the first letters, numbered
pub numbered-take : {B : Type 0} (n first : ℕ) (a : Actor) (letters : List (Letter B)) → numbered_letters first a (take n letters) ≡ take n (numbered_letters first a letters)
numbered-take zero first a letters = refl
numbered-take (suc n) first a [] = refl
numbered-take (suc n) first a (l ∷ letters) = ap (λ ps. packet_as first a l ∷ ps) (numbered-take n (first + 1) a letters)

pub length-numbered : {B : Type 0} (first : ℕ) (a : Actor) (letters : List (Letter B)) → length (numbered_letters first a letters) ≡ length letters
length-numbered first a [] = refl
length-numbered first a (l ∷ letters) = let rest = length-numbered (first + 1) a letters in omega (arith, rest)

-- what holds of the element at an index
pub at_index : {A : Type 0} (P : A → Type 0) (xs : List A) (i : ℕ) → i < length xs → IfSome (slice_get xs i) P → (x : A) × (slice_get xs i ≡ Some x) × P x
at_index P [] i within holds = absurd (omega (arith, within))
at_index P (x ∷ xs) zero within holds = (x, refl, holds)
at_index P (x ∷ xs) (suc i) within holds = at_index P xs i (omega (arith, within)) holds

-- one element more in front, and one fewer behind
pub take_next : {A : Type 0} (xs : List A) (i : ℕ) (x : A) → slice_get xs i ≡ Some x → take (i + 1) xs ≡ take i xs ++ x ∷ []
take_next xs i x here = take_more xs i x (slice_get_within xs i x here) ∙ ap (λ y. take i xs ++ y ∷ []) (get_or_from_slice_get xs i x x here)

pub drop_next : {A : Type 0} (xs : List A) (i next : ℕ) (x : A) → next ≡ suc i → slice_get xs i ≡ Some x → drop i xs ≡ x ∷ drop next xs
drop_next [] i next x is here = cc
drop_next (y ∷ xs) zero zero x is here = absurd (omega (arith, is))
drop_next (y ∷ xs) zero (suc next) x is here =
    let none : next ≡ zero = omega (arith, is) in
    let same : y ≡ x = cc in
    rw (none, same) refl
drop_next (y ∷ xs) (suc i) zero x is here = absurd (omega (arith, is))
drop_next (y ∷ xs) (suc i) (suc next) x is here = drop_next xs i next x (omega (arith, is)) here

pub get_within : {A : Type 0} (xs : List A) (i : ℕ) → i < length xs → (x : A) × (slice_get xs i ≡ Some x)
get_within [] i within = absurd (omega (arith, within))
get_within (x ∷ xs) zero within = (x, refl)
get_within (x ∷ xs) (suc i) within = get_within xs i (omega (arith, within))

pub if_at : {A : Type 0} (P : A → Type 0) (xs : List A) (i : ℕ) (x : A) → slice_get xs i ≡ Some x → P x → IfSome (slice_get xs i) P
if_at P xs i x here holds = subst (λ o. IfSome o P) (sym here) holds

pub map_at : {A B : Type 0} (f : A → B) (xs : List A) (i : ℕ) (x : A) → slice_get xs i ≡ Some x → slice_get (map f xs) i ≡ Some (f x)
map_at f [] i x here = cc
map_at f (y ∷ xs) zero x here = let same : y ≡ x = cc in ap (λ z. Some (f z)) same
map_at f (y ∷ xs) (suc i) x here = map_at f xs i x here

-- what is next behind the first ones
pub next_taken : {A : Type 0} (n : ℕ) (xs : List A) (x : A) (ys : List A) → drop n xs ≡ x ∷ ys → take (n + 1) xs ≡ take n xs ++ x ∷ []
next_taken {A = A} n xs x ys is = taken n (n + 1) xs (omega arith) is
  where
    taken : (k next : ℕ) (zs : List A) → next ≡ suc k → drop k zs ≡ x ∷ ys → take next zs ≡ take k zs ++ x ∷ []
    taken k zero zs next_is here = absurd (omega (arith, next_is))
    taken zero (suc next) [] next_is here = cc
    taken zero (suc next) (z ∷ zs) next_is here =
        let none : next ≡ zero = omega (arith, next_is) in
        let same : z ≡ x = cc in
        rw (none, same) refl
    taken (suc k) (suc next) [] next_is here = cc
    taken (suc k) (suc next) (z ∷ zs) next_is here = ap (λ us. z ∷ us) (taken k next zs (omega (arith, next_is)) here)

pub next_dropped : {A : Type 0} (n m : ℕ) (xs : List A) (x : A) (ys : List A) → m ≡ suc n → drop n xs ≡ x ∷ ys → drop m xs ≡ ys
next_dropped n zero xs x ys is here = absurd (omega (arith, is))
next_dropped zero (suc m) [] x ys is here = cc
next_dropped zero (suc m) (z ∷ zs) x ys is here =
    let none : m ≡ zero = omega (arith, is) in
    let same : zs ≡ ys = cc in
    rw none same
next_dropped (suc n) (suc m) [] x ys is here = cc
next_dropped (suc n) (suc m) (z ∷ zs) x ys is here = next_dropped n m zs x ys (omega (arith, is)) here

-- an element behind others
pub dropped_at : {A : Type 0} (n i place : ℕ) (xs : List A) → place ≡ n + i → slice_get (drop n xs) i ≡ slice_get xs place
dropped_at zero i place xs is = let same : i ≡ place = omega (arith, is) in ap (λ k. slice_get xs k) same
dropped_at (suc n) i place [] is = refl
dropped_at (suc n) i zero (x ∷ xs) is = absurd (omega (arith, is))
dropped_at (suc n) i (suc place) (x ∷ xs) is = dropped_at n i place xs (omega (arith, is))

drop_nil : {A : Type 0} (n : ℕ) → ◌≡◌ {A = List A} (drop n []) []
drop_nil zero = refl
drop_nil (suc n) = refl

pub drop_more : {A : Type 0} (m n : ℕ) (xs : List A) → drop n (drop m xs) ≡ drop (m + n) xs
drop_more {A = A} m n xs = dropped m (m + n) xs refl
  where
    dropped : (k : ℕ) (sum : ℕ) (zs : List A) → sum ≡ k + n → drop n (drop k zs) ≡ drop sum zs
    dropped zero sum zs is = let same : n ≡ sum = omega (arith, is) in ap (λ i. drop i zs) same
    dropped (suc k) zero zs is = absurd (omega (arith, is))
    dropped (suc k) (suc sum) [] is = drop_nil n
    dropped (suc k) (suc sum) (z ∷ zs) is = dropped k sum zs (omega (arith, is))
