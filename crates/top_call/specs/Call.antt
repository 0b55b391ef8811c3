-- What a call is told to have read, written and answered.
use Rattle.std.specs.Prelude.{ℕ, List, Option}
use Rattle.journal.specs.Causes.{Rose}
use Rattle.app_core.specs.Law.{AppLaw}
use Rattle.top_call.specs.Play.{AreChains}
use Rattle.top_call.specs.Outcome.{Answers, IsComplete, IsOfFourNumbers, IsReadAndWritten, IsReadOf, IsWritten}
use Rattle.top_call.specs.Runs.{Telling}

-- what a source has left at first and at the end, or what a sink has taken by then; and that the count of its faults rose
pub record CallStream : Type 1 where
  pub before : Option (List ℕ)
  pub after : Option (List ℕ)
  pub failed : Type 0

abbrev pub stream : {S : Type 0} → (S → Option (List ℕ)) → (S → ℕ) → S → S → CallStream
stream bytes faults old new = record { before = bytes old; after = bytes new; failed = Rose (faults old) (faults new) }

-- a claim for all kinds of which these applications may be
abbrev pub ForChains : {A : Type 0} → AppLaw A → List A → (List ℕ → Type 0) → Type 0
ForChains law chains claim = (kinds : List ℕ) → AreChains law kinds chains → claim kinds

-- a call with these words was answered
abbrev pub IsAnswered : List ℕ → Telling → List (List ℕ) → CallStream → CallStream → ℕ → Type 0
IsAnswered kinds saves words read wrote status =
    IsReadAndWritten read.before read.after wrote.before wrote.after (λ input rest written. Answers kinds saves words input rest read.failed wrote.failed written status)

-- and it came to rest where nothing hindered it
abbrev pub IsCompleted : List ℕ → List (List ℕ) → CallStream → CallStream → Type 0 → ℕ → Type 0
IsCompleted kinds words read wrote calm status =
    IsReadOf read.before read.after (λ input rest. IsComplete kinds words input read.failed wrote.failed calm status)

-- so is a call with the words of a made scenario, whatever its source tells
abbrev pub IsMadeOfNumbers : List ℕ → Telling → List (List ℕ) → CallStream → CallStream → ℕ → Type 0
IsMadeOfNumbers kinds saves words read wrote status = IsOfFourNumbers words → (input : List ℕ) →
    IsWritten wrote.before wrote.after (λ written. Answers kinds saves words input input read.failed wrote.failed written status)
