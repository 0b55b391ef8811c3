-- Counts of faults, and how much a write takes.
use Rattle.std.specs.Prelude.{◌≡◌, ◌≤◌, ◌<◌, ◌+◌, ◌-◌, ◌^◌, ℕ, min, List, length, Result, OnErr, OnOk}

-- a count that has risen, or that stands at its end
abbrev pub Rose : ℕ → ℕ → Type 0
Rose before now = min (before + 1) (2 ^ 64 - 1) ≤ now

-- a count never falls, an Err comes only where it rose, and an Ok only where it did not: so a call that failed is
-- not tried again in the same call
pub record HasCause {T E : Type 0} (before now : ℕ) (result : Result T E) : Type 0 where
  pub later : before ≤ now
  pub failed : OnErr result (Rose before now)
  pub served : OnOk result (now ≡ before)

-- a write takes at most what is there, and something of a nonempty piece
pub record TakesSome (count : ℕ) (bytes : List ℕ) : Type 0 where
  pub most : count ≤ length bytes
  pub least : 0 < length bytes → 0 < count
