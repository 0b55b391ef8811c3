-- What waits in slots, as they come and go.
use Rattle.std.proofs.Common.{◌≡◌, ◌<◌, ◌≤◌, ℕ, ◌+◌, ◌-◌, Bool, true, false, Option, Some, None, List, [], ◌∷◌, ◌++◌, length, map, take, set}
use Rattle.std.proofs.Common.{refl, sym, ap, ◌∙◌, arith, zero, suc}
use Rattle.std.specs.Prelude.{not, nat_eq, replicate, get_or, is_some, slice_get, option_map, if◌then◌else◌}
use Rattle.std.proofs.lemmas.Bool.{eqb-true, eq-eqb}
use Rattle.std.proofs.lemmas.Option.{get_or_from_slice_get, slice_get-get_or, slice_get_past}
use Rattle.std.proofs.lemmas.List.{append-nil, length-append, length-take, length-replicate}
use Rattle.journal.specs.declared.journal.Actor.{Actor}
use Rattle.journal.specs.declared.journal.Letter.{Letter}
use Rattle.journal.specs.Order.{addressed, without_packet, awaited, HaveNumbersBelow, IsClearBelow, IsLowest}

-- slots after others
awaited-append : (first : ℕ) (xs ys : List (Option Actor)) → awaited first (xs ++ ys) ≡ awaited first xs ++ awaited (first + length xs) ys
awaited-append first [] ys = let here : first ≡ first + 0 = omega arith in ap (λ n. awaited n ys) here
awaited-append first (None ∷ xs) ys =
    let next : first + 1 + length xs ≡ first + suc (length xs) = omega arith in
    awaited-append (first + 1) xs ys ∙ ap (λ n. awaited (first + 1) xs ++ awaited n ys) next
awaited-append first (Some a ∷ xs) ys =
    let next : first + 1 + length xs ≡ first + suc (length xs) = omega arith in
    ap (λ ws. (first, a) ∷ ws) (awaited-append (first + 1) xs ys ∙ ap (λ n. awaited (first + 1) xs ++ awaited n ys) next)

-- slots with no receiver
awaited-none : (first n : ℕ) → awaited first (replicate n None) ≡ []
awaited-none first zero = refl
awaited-none first (suc n) = awaited-none (first + 1) n

-- slots of letters
awaited-letters : {B : Type 0} (first : ℕ) (letters : List (Letter B)) → awaited first (map (λ letter. Some letter.to) letters) ≡ addressed first letters
awaited-letters first [] = refl
awaited-letters first (l ∷ letters) = ap (λ ws. (first, l.to) ∷ ws) (awaited-letters (first + 1) letters)

-- none that has a slot waits below the first
none_below : (number first : ℕ) (xs : List (Option Actor)) → number ≤ first → HaveNumbersBelow number (awaited first xs) → awaited first xs ≡ []
none_below number first [] low below = refl
none_below number first (None ∷ xs) low below = none_below number (first + 1) xs (omega arith) below
none_below number first (Some a ∷ xs) low below = absurd (omega (arith, below.0))

-- the slots in front of a number that is above all
awaited-take : (number first n : ℕ) (xs : List (Option Actor)) → number ≡ first + n → HaveNumbersBelow number (awaited first xs) →
    awaited first (take n xs) ≡ awaited first xs
awaited-take number first zero xs is below = sym (none_below number first xs (omega arith) below)
awaited-take number first (suc n) [] is below = refl
awaited-take number first (suc n) (None ∷ xs) is below = awaited-take number (first + 1) n xs (omega arith) below
awaited-take number first (suc n) (Some a ∷ xs) is below = ap (λ ws. (first, a) ∷ ws) (awaited-take number (first + 1) n xs (omega arith) below.1)

other_choice : (w : ℕ × Actor) (ws vs : List (ℕ × Actor)) (b : Bool) → (b ≡ true → ⊥) → vs ≡ ws → (if not b then w ∷ vs else vs) ≡ w ∷ ws
other_choice w ws vs true differs same = absurd (differs refl)
other_choice w ws vs false differs same = ap (λ us. w ∷ us) same

same_choice : (w : ℕ × Actor) (ws vs : List (ℕ × Actor)) (b : Bool) → b ≡ true → vs ≡ ws → (if not b then w ∷ vs else vs) ≡ ws
same_choice w ws vs true e same = same
same_choice w ws vs false e same = cc

-- a number without a slot
pub without_packet-outside : (first number : ℕ) (xs : List (Option Actor)) → ((k : ℕ) → k < length xs → first + k ≡ number → ⊥) →
    without_packet number (awaited first xs) ≡ awaited first xs
without_packet-outside first number [] outside = refl
without_packet-outside first number (None ∷ xs) outside = without_packet-outside (first + 1) number xs (λ k within is. outside (suc k) (omega arith) (omega arith))
without_packet-outside first number (Some a ∷ xs) outside =
    other_choice (first, a) (awaited (first + 1) xs) (without_packet number (awaited (first + 1) xs)) (nat_eq first number)
    (λ t. let same = eqb-true first number t in outside 0 (omega arith) (omega arith))
    (without_packet-outside (first + 1) number xs (λ k within is. outside (suc k) (omega arith) (omega arith)))

-- a number whose slot has no receiver any more
pub awaited-set : (first number i : ℕ) (xs : List (Option Actor)) → first + i ≡ number → i < length xs →
    awaited first (set xs i None) ≡ without_packet number (awaited first xs)
awaited-set first number i [] is within = absurd (omega arith)
awaited-set first number zero (None ∷ xs) is within = sym (without_packet-outside (first + 1) number xs (λ k _ e. omega arith))
awaited-set first number zero (Some a ∷ xs) is within =
    sym (same_choice (first, a) (awaited (first + 1) xs) (without_packet number (awaited (first + 1) xs)) (nat_eq first number) (eq-eqb first number (omega arith))
    (without_packet-outside (first + 1) number xs (λ k _ e. omega arith)))
awaited-set first number (suc i) (None ∷ xs) is within = awaited-set (first + 1) number i xs (omega arith) (omega arith)
awaited-set first number (suc i) (Some a ∷ xs) is within =
    sym (other_choice (first, a) (awaited (first + 1) (set xs i None)) (without_packet number (awaited (first + 1) xs)) (nat_eq first number)
    (λ t. let same = eqb-true first number t in omega arith)
    (sym (awaited-set (first + 1) number i xs (omega arith) (omega arith))))

-- slots of which none below the lowest has a receiver
pub clear_of : (n : ℕ) (xs : List (Option Actor)) → IsLowest n xs → IsClearBelow n xs
clear_of zero xs is = tt
clear_of (suc n) [] is = is
clear_of (suc n) (None ∷ xs) is = clear_of n xs is
clear_of (suc n) (Some a ∷ xs) is = is

-- one more of them is clear
pub clear_next : (n next : ℕ) (xs : List (Option Actor)) → next ≡ suc n → IsClearBelow n xs → slice_get xs n ≡ Some None → IsClearBelow next xs
clear_next n zero xs is clear here = tt
clear_next zero (suc next) [] is clear here = cc
clear_next zero (suc next) (None ∷ xs) is clear here = let none : next ≡ zero = omega (arith, is) in rw none tt
clear_next zero (suc next) (Some a ∷ xs) is clear here = cc
clear_next (suc n) (suc next) [] is clear here = clear
clear_next (suc n) (suc next) (None ∷ xs) is clear here = clear_next n next xs (omega (arith, is)) clear here
clear_next (suc n) (suc next) (Some a ∷ xs) is clear here = clear

-- what a look at a slot tells
no_receiver : (slot : Option Actor) → is_some slot ≡ false → slot ≡ None
no_receiver None empty = refl
no_receiver (Some a) empty = cc

pub slot_empty : (n : ℕ) (xs : List (Option Actor)) → n < length xs → is_some (get_or xs n None) ≡ false → slice_get xs n ≡ Some None
slot_empty n xs within empty = slice_get-get_or xs n None within ∙ ap (λ slot. Some slot) (no_receiver (get_or xs n None) empty)

pub slot_full : (n : ℕ) (xs : List (Option Actor)) → is_some (get_or xs n None) ≡ true → slice_get xs n ≡ Some None → ⊥
slot_full n xs full here = let none = get_or_from_slice_get xs n None None here in cc

pub slot_past : (n : ℕ) (xs : List (Option Actor)) → length xs ≤ n → slice_get xs n ≡ Some None → ⊥
slot_past n xs past here = let none = slice_get_past xs n past in cc

-- the search has ended
pub lowest_at : (n : ℕ) (xs : List (Option Actor)) → IsClearBelow n xs → (slice_get xs n ≡ Some None → ⊥) → IsLowest n xs
lowest_at zero [] is ends = tt
lowest_at zero (None ∷ xs) is ends = ends refl
lowest_at zero (Some a ∷ xs) is ends = tt
lowest_at (suc n) [] is ends = is
lowest_at (suc n) (None ∷ xs) is ends = lowest_at n xs is ends
lowest_at (suc n) (Some a ∷ xs) is ends = is

pub clear_set : (n i : ℕ) (xs : List (Option Actor)) → IsClearBelow n xs → IsClearBelow n (set xs i None)
clear_set zero i xs is = tt
clear_set (suc n) i [] is = absurd is
clear_set (suc n) zero (None ∷ xs) is = is
clear_set (suc n) (suc i) (None ∷ xs) is = clear_set n i xs is
clear_set (suc n) i (Some a ∷ xs) is = absurd is

-- the receiver of the lowest number
lowest_some : (first n : ℕ) (a : Actor) (xs : List (Option Actor)) → IsLowest n xs → slice_get xs n ≡ Some (Some a) →
    option_map (λ w. w.1) (slice_get (awaited first xs) 0) ≡ Some a
lowest_some first zero a [] is here = cc
lowest_some first zero a (None ∷ xs) is here = absurd is
lowest_some first zero a (Some b ∷ xs) is here = let same : b ≡ a = cc in ap (λ c. Some c) same
lowest_some first (suc n) a [] is here = absurd is
lowest_some first (suc n) a (None ∷ xs) is here = lowest_some (first + 1) n a xs is here
lowest_some first (suc n) a (Some b ∷ xs) is here = absurd is

-- nothing waits
pub lowest_none : (first n : ℕ) (xs : List (Option Actor)) → IsLowest n xs → slice_get xs n ≡ None →
    option_map (λ w. w.1) (slice_get (awaited first xs) 0) ≡ None
lowest_none first zero [] is here = refl
lowest_none first zero (None ∷ xs) is here = absurd is
lowest_none first zero (Some b ∷ xs) is here = cc
lowest_none first (suc n) [] is here = absurd is
lowest_none first (suc n) (None ∷ xs) is here = lowest_none (first + 1) n xs is here
lowest_none first (suc n) (Some b ∷ xs) is here = absurd is

-- at the lowest there is a receiver, or no slot
lowest_never : (n : ℕ) (xs : List (Option Actor)) → IsLowest n xs → slice_get xs n ≡ Some None → ⊥
lowest_never zero [] is here = cc
lowest_never zero (None ∷ xs) is here = is
lowest_never zero (Some b ∷ xs) is here = cc
lowest_never (suc n) [] is here = is
lowest_never (suc n) (None ∷ xs) is here = lowest_never n xs is here
lowest_never (suc n) (Some b ∷ xs) is here = is

pub lowest_receiver : (first n : ℕ) (receiver : Option Actor) (xs : List (Option Actor)) → IsLowest n xs → slice_get xs n ≡ Some receiver →
    receiver ≡ option_map (λ w. w.1) (slice_get (awaited first xs) 0)
lowest_receiver first n None xs is here = absurd (lowest_never n xs is here)
lowest_receiver first n (Some a) xs is here = sym (lowest_some first n a xs is here)

-- slots that end at a number that is above all
pub kept_resized : (number count : ℕ) (xs : List (Option Actor)) → HaveNumbersBelow number (awaited 0 xs) →
    awaited 0 (take number xs ++ replicate count None) ≡ awaited 0 xs
kept_resized number count xs below =
    awaited-append 0 (take number xs) (replicate count None)
    ∙ ap (λ ws. awaited 0 (take number xs) ++ ws) (awaited-none (0 + length (take number xs)) count)
    ∙ append-nil (awaited 0 (take number xs))
    ∙ awaited-take number 0 number xs (omega arith) below

pub long_resized : (number count : ℕ) (xs : List (Option Actor)) → count ≡ number - length xs → length (take number xs ++ replicate {A = Option Actor} count None) ≡ number
long_resized number count xs is =
    omega (arith, is, length-append (take number xs) (replicate {A = Option Actor} count None), length-take number xs, length-replicate {A = Option Actor} count None)

clear_front : (n number : ℕ) (xs ys : List (Option Actor)) → n ≤ number → IsClearBelow n xs → IsClearBelow n (take number xs ++ ys)
clear_front zero number xs ys low is = tt
clear_front (suc n) number [] ys low is = absurd is
clear_front (suc n) zero (None ∷ xs) ys low is = absurd (omega (arith, low))
clear_front (suc n) (suc number) (None ∷ xs) ys low is = clear_front n number xs ys (omega (arith, low)) is
clear_front (suc n) number (Some a ∷ xs) ys low is = absurd is

clear_below : (m n : ℕ) (xs : List (Option Actor)) → m ≤ n → IsClearBelow n xs → IsClearBelow m xs
clear_below zero n xs low is = tt
clear_below (suc m) zero xs low is = absurd (omega (arith, low))
clear_below (suc m) (suc n) [] low is = is
clear_below (suc m) (suc n) (None ∷ xs) low is = clear_below m n xs (omega (arith, low)) is
clear_below (suc m) (suc n) (Some a ∷ xs) low is = is

pub clear_resized : (m n number : ℕ) (xs ys : List (Option Actor)) → m ≤ n → m ≤ number → IsLowest n xs → IsClearBelow m (take number xs ++ ys)
clear_resized m n number xs ys low under is = clear_front m number xs ys under (clear_below m n xs low (clear_of n xs is))

-- letters came to wait
pub lowest_letters : {B : Type 0} (n : ℕ) (xs : List (Option Actor)) (letters : List (Letter B)) → IsLowest n xs → IsLowest n (xs ++ map (λ letter. Some letter.to) letters)
lowest_letters zero [] [] is = tt
lowest_letters zero [] (l ∷ letters) is = tt
lowest_letters zero (None ∷ xs) letters is = absurd is
lowest_letters zero (Some a ∷ xs) letters is = tt
lowest_letters (suc n) [] letters is = absurd is
lowest_letters (suc n) (None ∷ xs) letters is = lowest_letters n xs letters is
lowest_letters (suc n) (Some a ∷ xs) letters is = absurd is

pub letters_wait : {B : Type 0} (number : ℕ) (xs : List (Option Actor)) (letters : List (Letter B)) → length xs ≡ number →
    awaited 0 (xs ++ map (λ letter. Some letter.to) letters) ≡ awaited 0 xs ++ addressed number letters
letters_wait number xs letters long =
    awaited-append 0 xs (map (λ letter. Some letter.to) letters)
    ∙ ap (λ n. awaited 0 xs ++ awaited n (map (λ letter. Some letter.to) letters)) (let here : 0 + length xs ≡ number = omega (arith, long) in here)
    ∙ ap (λ ws. awaited 0 xs ++ ws) (awaited-letters number letters)
