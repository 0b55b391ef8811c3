-- Letters whose bodies are bytes, one behind another.
use Rattle.std.specs.Prelude.{◌≡◌, ◌≤◌, ℕ, zero, suc, ◌+◌, List, [], ◌∷◌, ◌++◌, take, drop, slice_get, Result, Ok, Some}
use Rattle.std.specs.declared.alloc.AllocError.{AllocError}
use Rattle.std.specs.List.{AllByRecursion}
use Rattle.std.specs.Fn.{FnOnceReturnsAtMut, Once}
use denote.Ref.{MutBor}
use Rattle.journal.specs.declared.journal.Actor.{Actor}
use Rattle.journal.specs.declared.journal.Letter.{Letter}
use Rattle.journal.specs.declared.packed.Slip.{Slip}
use Rattle.journal.specs.declared.packed.Stored.{Stored}
use Rattle.journal.specs.declared.packed.Stored.TheVariants.{Own, Shared}

-- a body, where these are the bytes of the bag
abbrev pub body_of : List ℕ → Stored → List ℕ
body_of bytes (Own octets) = octets
body_of bytes (Shared start len) = take len (drop start bytes)

-- a letter of a bag with these bytes
abbrev pub letter_of : List ℕ → Slip → Letter (List ℕ)
letter_of bytes slip = record { to = slip.to; body = body_of bytes slip.body }

-- what a letter shares is within so many bytes
abbrev pub IsWithin : ℕ → Stored → Type 0
IsWithin count (Own octets) = Unit {0}
IsWithin count (Shared start len) = start + len ≤ count

abbrev pub ShareWithin : ℕ → List Slip → Type 0
ShareWithin count slips = AllByRecursion (λ slip. IsWithin count slip.body) slips

-- a slip, where what letters share stands so many bytes further on
abbrev pub moved_body : ℕ → Stored → Stored
moved_body base (Own octets) = Own octets
moved_body base (Shared start len) = Shared (base + start) len

abbrev pub moved : ℕ → Slip → Slip
moved base slip = record { to = slip.to; body = moved_body base slip.body }

-- the letter of an index has this body
abbrev pub HasBody : {B : Type 0} → List (Letter B) → ℕ → B → Type 0
HasBody letters index body = (letter : Letter _) × (slice_get letters index ≡ Some letter) × (letter.body ≡ body)

-- letters, of which that of an index gave its body away
abbrev pub emptied : ℕ → List (Letter (List ℕ)) → List (Letter (List ℕ))
emptied index [] = []
emptied zero (letter ∷ letters) = record { to = letter.to; body = [] } ∷ letters
emptied (suc index) (letter ∷ letters) = letter ∷ emptied index letters

-- a letter came to others, with what the call put into an empty list for its body
pub record AddsPut {F : Type 0} (calls : Once F (MutBor (List ℕ) × Unit {0}) (Result (Unit {0}) AllocError × (MutBor (List ℕ) × Unit {0}))) (put : F)
    (to : Actor) (old new : List (Letter (List ℕ))) : Type 0 where
  pub body : List ℕ
  pub puts : FnOnceReturnsAtMut calls put [] (Ok tt) body
  pub adds : new ≡ old ++ record { to = to; body = body } ∷ []
