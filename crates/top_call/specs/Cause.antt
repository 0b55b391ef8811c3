-- The cause of an ending, where it is told what was read.
use Rattle.std.specs.Prelude.{◌≡◌, ◌≢◌, ℕ, List, Option, Contains}
use Rattle.top_call.specs.declared.ending.Ending.{Ending}
use Rattle.top_call.specs.Ending.{ending_status, outcome_text}
use Rattle.top_call.specs.Runs.{Telling}
use Rattle.top_call.specs.Outcome.{Outcome, IsReadOf, IsUnserved, IsAudit, IsOfFourNumbers, AsksToPlay, statuses_of_audit, statuses_of_made, statuses_of_played}

-- an ending has a cause
abbrev pub HasEndingCause : List ℕ → Telling → List (List ℕ) → Type 0 → Option (List ℕ) → Option (List ℕ) → Ending → Type 0
HasEndingCause kinds saves words unread before after ending =
    IsReadOf before after (λ input rest. Outcome kinds saves words input rest unread (ending_status ending) (outcome_text ending))

-- what the status of an ending tells, whatever is known of the bytes: which words were not served, that a read
-- failed, and else that none did; and how an audit, a made scenario and one that is read may end
pub record TellsCause (words : List (List ℕ)) (unread unfailed : Type 0) (ending : Ending) : Type 0 where
  pub usage : ending_status ending ≡ 2 → IsUnserved words
  pub others : IsUnserved words → ending_status ending ≡ 2
  pub failed : ending_status ending ≡ 4 → unread
  pub served : ending_status ending ≢ 4 → unfailed
  pub audit : IsAudit words → Contains statuses_of_audit (ending_status ending)
  pub made : IsOfFourNumbers words → Contains statuses_of_made (ending_status ending)
  pub played : AsksToPlay words → Contains statuses_of_played (ending_status ending)

-- what is written at the words of a made scenario, whatever the source tells: nothing of it is read
abbrev pub IsOfNumbers : List ℕ → Telling → List (List ℕ) → Type 0 → Ending → Type 0
IsOfNumbers kinds saves words unread ending =
    IsOfFourNumbers words → (input : List ℕ) → Outcome kinds saves words input input unread (ending_status ending) (outcome_text ending)
