-- Letters whose bodies are bytes, as bytes and letters come to them.
use Rattle.std.proofs.Common.{◌≡◌, ◌<◌, ◌≤◌, ℕ, zero, suc, ◌+◌, List, [], ◌∷◌, ◌++◌, length, map, take, drop, set, refl, sym, ap, ◌∙◌, arith, subst}
use Rattle.std.specs.Prelude.{slice_get, Option, Some, None, IfSome, IfNone}
use Rattle.std.proofs.Math.Seq.{map-set_same, take-append_seam}
use Rattle.std.proofs.lemmas.Option.{get_or_from_slice_get}
use Rattle.std.proofs.lemmas.List.{map-append}
use Rattle.journal.specs.declared.journal.Letter.{Letter}
use Rattle.journal.specs.declared.packed.Slip.{Slip}
use Rattle.journal.specs.declared.packed.Stored.{Stored}
use Rattle.journal.specs.declared.packed.Stored.TheVariants.{Own, Shared}
use Rattle.journal.specs.Mailbags.{body_of, letter_of, moved, moved_body, emptied, HasBody, ShareWithin, IsWithin}
use Rattle.journal.proofs.All.{all_append}
use Rattle.journal.proofs.Lists.{map_at}
use Rattle.journal.proofs.Rows.{take_less}

-- a part within the first ones
pub part_of : {A : Type 0} (start len n : ℕ) (xs : List A) → start + len ≤ n → take len (drop start (take n xs)) ≡ take len (drop start xs)
part_of zero len n xs within = take_less len n xs (omega (arith, within))
part_of (suc start) len zero xs within = absurd (omega (arith, within))
part_of (suc start) len (suc n) [] within = refl
part_of (suc start) len (suc n) (x ∷ xs) within = part_of start len n xs (omega (arith, within))

body_kept : (before new : List ℕ) (body : Stored) → take (length before) new ≡ before → IsWithin (length before) body → body_of new body ≡ body_of before body
body_kept before new (Own octets) front within = refl
body_kept before new (Shared start len) front within =
    sym (part_of start len (length before) new within) ∙ ap (λ xs. take len (drop start xs)) front

-- letters stay what they are where the bytes so far stand
pub letters_kept : (before new : List ℕ) (slips : List Slip) → take (length before) new ≡ before → ShareWithin (length before) slips → map (letter_of new) slips ≡ map (letter_of before) slips
letters_kept before new [] front within = refl
letters_kept before new (slip ∷ slips) front (here, within) =
    ap (λ body. record { to = slip.to; body = body } ∷ map (letter_of new) slips) (body_kept before new slip.body front here)
    ∙ ap (λ ls. letter_of before slip ∷ ls) (letters_kept before new slips front within)

within_body : (m n : ℕ) (body : Stored) → m ≤ n → IsWithin m body → IsWithin n body
within_body m n (Own octets) low within = tt
within_body m n (Shared start len) low within = omega (arith, low, within)

pub within_more : (m n : ℕ) (slips : List Slip) → m ≤ n → ShareWithin m slips → ShareWithin n slips
within_more m n [] low within = tt
within_more m n (slip ∷ slips) low (here, within) = (within_body m n slip.body low here, within_more m n slips low within)

pub within_one : (m n : ℕ) (slips : List Slip) (slip : Slip) → m ≤ n → ShareWithin m slips → IsWithin n slip.body → ShareWithin n (slips ++ slip ∷ [])
within_one m n slips slip low within here = all_append (λ s. IsWithin n s.body) slips (slip ∷ []) (within_more m n slips low within) (here, tt)

-- a letter came to others, and their bytes stand
pub one_more : (before new body : List ℕ) (slips : List Slip) (slip : Slip) → take (length before) new ≡ before → ShareWithin (length before) slips → body_of new slip.body ≡ body →
    map (letter_of new) (slips ++ slip ∷ []) ≡ map (letter_of before) slips ++ record { to = slip.to; body = body } ∷ []
one_more before new body slips slip front within is =
    map-append (letter_of new) slips (slip ∷ [])
    ∙ ap (λ ls. ls ++ letter_of new slip ∷ []) (letters_kept before new slips front within)
    ∙ ap (λ b. map (letter_of before) slips ++ record { to = slip.to; body = b } ∷ []) is

-- bytes behind others
drop_behind : (n start : ℕ) (xs ys : List ℕ) → n ≡ length xs + start → drop n (xs ++ ys) ≡ drop start ys
drop_behind n start [] ys is = let same : n ≡ start = omega (arith, is) in ap (λ m. drop m ys) same
drop_behind zero start (x ∷ xs) ys is = absurd (omega (arith, is))
drop_behind (suc n) start (x ∷ xs) ys is = drop_behind n start xs ys (omega (arith, is))

body_moved : (xs ys : List ℕ) (body : Stored) → body_of (xs ++ ys) (moved_body (length xs) body) ≡ body_of ys body
body_moved xs ys (Own octets) = refl
body_moved xs ys (Shared start len) = ap (take len) (drop_behind (length xs + start) start xs ys refl)

letters_moved : (xs ys : List ℕ) (slips : List Slip) → map (letter_of (xs ++ ys)) (map (moved (length xs)) slips) ≡ map (letter_of ys) slips
letters_moved xs ys [] = refl
letters_moved xs ys (slip ∷ slips) =
    ap (λ body. record { to = slip.to; body = body } ∷ map (letter_of (xs ++ ys)) (map (moved (length xs)) slips)) (body_moved xs ys slip.body)
    ∙ ap (λ ls. letter_of ys slip ∷ ls) (letters_moved xs ys slips)

-- all letters of a bag came to those of another
pub all_more : (xs ys : List ℕ) (slips more : List Slip) → ShareWithin (length xs) slips →
    map (letter_of (xs ++ ys)) (slips ++ map (moved (length xs)) more) ≡ map (letter_of xs) slips ++ map (letter_of ys) more
all_more xs ys slips more within =
    map-append (letter_of (xs ++ ys)) slips (map (moved (length xs)) more)
    ∙ ap (λ ls. ls ++ map (letter_of (xs ++ ys)) (map (moved (length xs)) more)) (letters_kept xs (xs ++ ys) slips (take-append_seam xs ys) within)
    ∙ ap (λ ls. map (letter_of xs) slips ++ ls) (letters_moved xs ys more)

body_within : (base n m : ℕ) (body : Stored) → base + n ≤ m → IsWithin n body → IsWithin m (moved_body base body)
body_within base n m (Own octets) low within = tt
body_within base n m (Shared start len) low within = omega (arith, low, within)

pub moved_within : (base n m : ℕ) (slips : List Slip) → base + n ≤ m → ShareWithin n slips → ShareWithin m (map (moved base) slips)
moved_within base n m [] low within = tt
moved_within base n m (slip ∷ slips) low (here, within) = (body_within base n m slip.body low here, moved_within base n m slips low within)

-- the slip of an index is within the bytes
pub within_at : (n i : ℕ) (slips : List Slip) (slip : Slip) → ShareWithin n slips → slice_get slips i ≡ Some slip → IsWithin n slip.body
within_at n i [] slip within here = cc
within_at n zero (s ∷ slips) slip (first, within) here = let same : s ≡ slip = cc in rw (← same) first
within_at n (suc i) (s ∷ slips) slip (first, within) here = within_at n i slips slip within here

-- a copy of a slip, in its own bag
pub moved_nowhere : (slip : Slip) → moved zero slip ≡ slip
moved_nowhere slip = ap (λ body. record { to = slip.to; body = body }) (nowhere slip.body)
  where
    nowhere : (body : Stored) → moved_body zero body ≡ body
    nowhere (Own octets) = refl
    nowhere (Shared start len) = let same : zero + start ≡ start = omega arith in ap (λ s. Shared s len) same

pub map_take : {A B : Type 0} (f : A → B) (n : ℕ) (xs : List A) → map f (take n xs) ≡ take n (map f xs)
map_take f zero xs = refl
map_take f (suc n) [] = refl
map_take f (suc n) (x ∷ xs) = ap (λ ys. f x ∷ ys) (map_take f n xs)

-- a letter of an index gave its body away: the others are as they were
pub emptied-length : (i : ℕ) (letters : List (Letter (List ℕ))) → length (emptied i letters) ≡ length letters
emptied-length i [] = refl
emptied-length zero (l ∷ letters) = refl
emptied-length (suc i) (l ∷ letters) = let rest = emptied-length i letters in omega (arith, rest)

pub emptied-other : (i j : ℕ) (letters : List (Letter (List ℕ))) → (i ≡ j → ⊥) → slice_get (emptied i letters) j ≡ slice_get letters j
emptied-other i j [] differ = refl
emptied-other zero zero (l ∷ letters) differ = absurd (differ refl)
emptied-other zero (suc j) (l ∷ letters) differ = refl
emptied-other (suc i) zero (l ∷ letters) differ = refl
emptied-other (suc i) (suc j) (l ∷ letters) differ = emptied-other i j letters (λ same. differ (ap suc same))

pub emptied-behind : (i n : ℕ) (letters : List (Letter (List ℕ))) → i < n → drop n (emptied i letters) ≡ drop n letters
emptied-behind i n [] behind = refl
emptied-behind i zero (l ∷ letters) behind = absurd (omega (arith, behind))
emptied-behind zero (suc n) (l ∷ letters) behind = refl
emptied-behind (suc i) (suc n) (l ∷ letters) behind = emptied-behind i n letters (omega (arith, behind))

emptied_there : (bytes : List ℕ) (slips : List Slip) (i : ℕ) (slip : Slip) → slice_get slips i ≡ Some slip →
    map (letter_of bytes) (set slips i (record { to = slip.to; body = Own [] })) ≡ emptied i (map (letter_of bytes) slips)
emptied_there bytes [] i slip here = cc
emptied_there bytes (s ∷ slips) zero slip here = let same : s ≡ slip = cc in ap (λ (x : Slip). record { to = x.to; body = [] } ∷ map (letter_of bytes) slips) (sym same)
emptied_there bytes (s ∷ slips) (suc i) slip here = ap (λ ls. letter_of bytes s ∷ ls) (emptied_there bytes slips i slip here)

within_set : (n : ℕ) (slips : List Slip) (i : ℕ) (slip : Slip) → ShareWithin n slips → IsWithin n slip.body → ShareWithin n (set slips i slip)
within_set n [] i slip within here = tt
within_set n (s ∷ slips) zero slip (first, within) here = (here, within)
within_set n (s ∷ slips) (suc i) slip (first, within) here = (first, within_set n slips i slip within here)

-- a slip whose body was moved out, or which has none of its own
module _ (bytes : List ℕ) (slips : List Slip) (i : ℕ) (slip after : Slip) (here : slice_get slips i ≡ Some slip) where
  pub taken_body : (own : Option (List ℕ)) → IfSome own (λ o. slip.body ≡ Own o) → IfSome own (λ o. HasBody (map (letter_of bytes) slips) i o)
  taken_body None is = tt
  taken_body (Some o) is = (letter_of bytes slip, map_at (letter_of bytes) slips i slip here, ap (body_of bytes) is)

  pub taken_left : (own : Option (List ℕ)) → IfSome own (λ _. after ≡ record { to = slip.to; body = Own [] }) → IfSome own (λ _. map (letter_of bytes) (set slips i after) ≡ emptied i (map (letter_of bytes) slips))
  taken_left None left = tt
  taken_left (Some o) left = ap (λ s. map (letter_of bytes) (set slips i s)) left ∙ emptied_there bytes slips i slip here

  pub taken_none : (own : Option (List ℕ)) → IfNone own (after ≡ slip) → IfNone own (map (letter_of bytes) (set slips i after) ≡ map (letter_of bytes) slips)
  taken_none None same = map-set_same (letter_of bytes) slips i after slip (ap (letter_of bytes) (same ∙ sym (get_or_from_slice_get slips i slip slip here)))
  taken_none (Some o) same = tt

  pub taken_within : (n : ℕ) (own : Option (List ℕ)) → ShareWithin n slips → IfSome own (λ _. after ≡ record { to = slip.to; body = Own [] }) → IfNone own (after ≡ slip) → ShareWithin n (set slips i after)
  taken_within n None within left same = within_set n slips i after within (subst (λ s. IsWithin n s.body) (sym same) (within_at n i slips slip within here))
  taken_within n (Some o) within left same = within_set n slips i after within (subst (λ s. IsWithin n s.body) (sym left) tt)
