-- How quick a closing is.
use Rattle.std.specs.Prelude.{◌≤◌, List, ◌++◌, reverse}
use Rattle.of_types.specs.Setups.{IsSetup}
use Rattle.journal.specs.declared.journal.JournalEntry.{JournalEntry}
use Rattle.journal.specs.declared.journal.SaveResult.{SaveResult}
use Rattle.journal.specs.Turns.{IsWithinLimits}
use Rattle.dispatcher.specs.Ledger.{most_commands}
use Rattle.run_spec.specs.Bound.{IsQuick, IsSharplyBounded}
use Rattle.run_spec.specs.Legal.{IsPossible}
use Rattle.run_spec.specs.Script.{IsPosted}
use Rattle.run_spec.specs.Closing.{ClosesTo, Losing, Phase}
use Rattle.run_spec.specs.States.{Scene, IsFaithful}
use Rattle.app_core.specs.Chain.{given_by}
use Rattle.closing_laws.specs.Starts.{SavesSucceed}

-- A claim on each closing in which each save succeeds, whose journal is within the limits, and whose applications give no more commands for
-- an event than a ledger holds: at each moment of it at which all is posted, and not only at its end.
abbrev pub WhereSavesSucceed : (B : Type 0) → (Scene B → List (List SaveResult) → List (JournalEntry B) → List (JournalEntry B) → Type 0) → Type 0
WhereSavesSucceed B claim =
    (scene : Scene B) (results : List (List SaveResult)) (before entries : List (JournalEntry B)) (last : Phase) →
    IsSetup scene.setup → IsFaithful scene.sealing → given_by scene.kinds ≤ most_commands → IsPossible scene results (reverse entries ++ before) →
    SavesSucceed scene results before → IsWithinLimits scene.sealing.size (reverse entries ++ before) →
    ClosesTo scene results Losing before entries last → IsPosted scene results (reverse entries ++ before) →
    claim scene results before entries

-- such a closing takes no more turns than the sharper bound says, and so than the first
abbrev pub ClosingsAreSharplyBounded : Type 0 → Type 0
ClosingsAreSharplyBounded B = WhereSavesSucceed B (λ scene results before entries. IsSharplyBounded scene results before entries)

abbrev pub ClosingsAreQuick : Type 0 → Type 0
ClosingsAreQuick B = WhereSavesSucceed B (λ scene results before entries. IsQuick scene results before entries)
