-- A source or a sink in memory.
use Rattle.std.specs.Prelude.{◌≡◌, ℕ, ◌+◌, ◌-◌, ◌^◌, min, List}

-- the bytes that are left to be read, or that were taken; how often a call failed; the most bytes a
-- call; which calls fail, counted from 0; and how many calls there were
pub record Stream : Type 0 where
  pub bytes : List ℕ
  pub faults : ℕ
  pub most : ℕ
  pub failing : List ℕ
  pub made : ℕ

-- one call more
pub record IsCalled (before after : Stream) : Type 0 where
  pub made_is : after.made ≡ min (before.made + 1) (2 ^ 64 - 1)
  pub most_same : after.most ≡ before.most
  pub failing_same : after.failing ≡ before.failing
