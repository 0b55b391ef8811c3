-- How many letters find room in a pool, one letter after another.
use Rattle.std.proofs.Common.{◌≡◌, ◌<◌, ◌≤◌, ℕ, ◌+◌, Bool, true, false, List, [], ◌∷◌, length, take, drop, refl, ap, ◌∙◌, arith}
use Rattle.std.specs.Prelude.{nat_le, ◌&&◌, if◌then◌else◌}
use Rattle.std.proofs.lemmas.Bool.{le-leb, lt-leb}
use Rattle.std.proofs.lemmas.List.Sums.{sum_by-cons}
use Rattle.journal.specs.Limits.{pool_packets, pool_bodies}
use Rattle.journal.specs.declared.journal.Letter.{Letter}
use Rattle.journal.specs.declared.pool.Sums.{Sums}
use Rattle.journal.specs.Orderly.{fitting_count}
use Rattle.journal.specs.Pool.{letter_bytes}

module _ {B : Type 0} (size : B → ℕ) where
  chosen_count : (packets bytes : ℕ) (l : Letter B) (letters : List (Letter B)) (b c : Bool) → nat_le (packets + 1) pool_packets ≡ b → nat_le (bytes + size l.body) pool_bodies ≡ c →
      fitting_count size packets bytes (l ∷ letters) ≡ (if b && c then 1 + fitting_count size (packets + 1) (bytes + size l.body) letters else 0)
  chosen_count packets bytes l letters b c few small =
      ap (λ x. if x && nat_le (bytes + size l.body) pool_bodies then 1 + fitting_count size (packets + 1) (bytes + size l.body) letters else 0) few
      ∙ ap (λ x. if b && x then 1 + fitting_count size (packets + 1) (bytes + size l.body) letters else 0) small

  -- a letter finds room
  pub finds_room : (packets bytes : ℕ) (l : Letter B) (letters : List (Letter B)) → packets + 1 ≤ pool_packets → bytes + size l.body ≤ pool_bodies →
      fitting_count size packets bytes (l ∷ letters) ≡ 1 + fitting_count size (packets + 1) (bytes + size l.body) letters
  finds_room packets bytes l letters few small = chosen_count packets bytes l letters true true (le-leb (packets + 1) pool_packets few) (le-leb (bytes + size l.body) pool_bodies small)

  -- a letter finds none
  pub too_many : (packets bytes : ℕ) (l : Letter B) (letters : List (Letter B)) → pool_packets < packets + 1 → fitting_count size packets bytes (l ∷ letters) ≡ 0
  too_many packets bytes l letters many = chosen_count packets bytes l letters false (nat_le (bytes + size l.body) pool_bodies) (lt-leb (packets + 1) pool_packets many) refl

  pub too_long : (packets bytes : ℕ) (l : Letter B) (letters : List (Letter B)) → pool_bodies < bytes + size l.body → fitting_count size packets bytes (l ∷ letters) ≡ 0
  too_long packets bytes l letters long = none (nat_le (packets + 1) pool_packets) refl
    where
      none : (b : Bool) → nat_le (packets + 1) pool_packets ≡ b → fitting_count size packets bytes (l ∷ letters) ≡ 0
      none true few = chosen_count packets bytes l letters true false few (lt-leb (bytes + size l.body) pool_bodies long)
      none false few = chosen_count packets bytes l letters false false few (lt-leb (bytes + size l.body) pool_bodies long)

  -- all letters find room
  pub all_find_room : (packets bytes : ℕ) (letters : List (Letter B)) → packets + length letters ≤ pool_packets → bytes + letter_bytes size letters ≤ pool_bodies →
      fitting_count size packets bytes letters ≡ length letters
  all_find_room packets bytes [] few small = refl
  all_find_room packets bytes (l ∷ letters) few small =
      let sum = sum_by-cons (λ l. size l.body) l letters in
      let rest = all_find_room (packets + 1) (bytes + size l.body) letters (omega (arith, few)) (omega (arith, small, sum)) in
      finds_room packets bytes l letters (omega (arith, few)) (omega (arith, small, sum)) ∙ omega (arith, rest)

-- the letters before this place find room, and with them so many packets of so many bytes wait
pub record FitsSoFar {B : Type 0} (size : B → ℕ) (start : Sums) (letters : List (Letter B)) (sums : Sums) (place : ℕ) : Type 0 where
  pub letters_are : sums.letters ≡ start.letters + place
  pub bytes_are : sums.bytes ≡ start.bytes + letter_bytes size (take place letters)
  pub whole : fitting_count size start.letters start.bytes letters ≡ place + fitting_count size sums.letters sums.bytes (drop place letters)
