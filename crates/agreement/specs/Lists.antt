-- Words for lists and for counts.
use Rattle.std.specs.Prelude.{◌≡◌, ◌≢◌, ℕ, zero, suc, ◌+◌, ◌<◌, ◌≤◌, ◌⊎◌, Bool, not, ◌&&◌, nat_eq, List, [], ◌∷◌, if◌then◌else◌, ⊤}
use Rattle.list_facts.specs.Lists.{IsIn}

-- the pair (a, b) is at most the pair (c, d): the first numbers decide, and where they are equal the second
abbrev pub IsAtMost : ℕ → ℕ → ℕ → ℕ → Type 0
IsAtMost a b c d = (a < c) ⊎ ((a ≡ c) × (b ≤ d))

-- no number stands twice in the list
abbrev pub AreDistinct : List ℕ → Type 0
AreDistinct [] = ⊤
AreDistinct (x ∷ xs) = ((y : ℕ) → IsIn y xs → x ≢ y) × AreDistinct xs

-- how many numbers below a bound pass the test
abbrev pub count_below : (ℕ → Bool) → ℕ → ℕ
count_below passes zero = 0
count_below passes (suc n) = count_below passes n + (if passes n then 1 else 0)

-- the same test, but that x does not pass it
abbrev pub without_controller : ℕ → (ℕ → Bool) → ℕ → Bool
without_controller x passes i = passes i && not (nat_eq i x)
