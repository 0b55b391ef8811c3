-- What is left of a controller that crashes, and which saves of it fail.
use Rattle.std.specs.Prelude.{◌≡◌, ◌⊎◌, ℕ, nat_eq, List, [], ◌∷◌, if◌then◌else◌}
use Rattle.journal.specs.declared.journal.SaveResult.{SaveResult}
use Rattle.journal.specs.declared.journal.SaveResult.TheVariants.{Saved, KeptOld, KeptNew}
use Rattle.journal.specs.declared.stable.FailingSave.{FailingSave}

-- what a stable pair is to contracts, as one value: the promise and the life that stand, and how often a save has failed,
-- which never falls
pub record Saving (W : Type 0) : Type 0 where
  pub pair : W → ℕ × ℕ
  pub faults : W → ℕ

-- after a save that failed, the pair of before stands, or the new one does
abbrev pub StandsAsItWasOr : ℕ × ℕ → ℕ × ℕ → ℕ × ℕ → Type 0
StandsAsItWasOr saved old new = (new ≡ old) ⊎ (new ≡ saved)

-- a pair in memory: the promise and the life that stand, how often a save failed, which saves fail, counted from 0, and
-- how many there were
pub record Pair : Type 0 where
  pub promise : ℕ
  pub life : ℕ
  pub faults : ℕ
  pub failing : List FailingSave
  pub made : ℕ

-- what stands
abbrev pub pair_of : Pair → ℕ × ℕ
pair_of p = (p.promise, p.life)

-- what becomes of the save of this number, by the first of these that names it
abbrev pub save_result : List FailingSave → ℕ → SaveResult
save_result [] n = Saved
save_result (f ∷ failing) n = if nat_eq f.number n then (if f.keeps_new then KeptNew else KeptOld) else save_result failing n

-- the pair that stands after a save
abbrev pub standing : SaveResult → ℕ × ℕ → ℕ × ℕ → ℕ × ℕ
standing Saved saved old = saved
standing KeptOld saved old = old
standing KeptNew saved old = saved
