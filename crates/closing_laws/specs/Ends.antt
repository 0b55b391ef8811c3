-- How a closing ends.
use Rattle.std.specs.Prelude.{◌≡◌, ◌≤◌, ℕ, true, List, ◌++◌, reverse}
use Rattle.of_types.specs.Setups.{IsSetup}
use Rattle.journal.specs.declared.journal.JournalEntry.{JournalEntry}
use Rattle.journal.specs.declared.journal.SaveResult.{SaveResult}
use Rattle.journal.specs.Turns.{IsWithinLimits}
use Rattle.run_spec.specs.States.{Scene, IsFaithful}
use Rattle.run_spec.specs.Legal.{IsLegalPast}
use Rattle.vr_log.specs.Members.{leads}
use Rattle.run_spec.specs.Committed.{controller_state, decided, kept}
use Rattle.run_spec.specs.Laws.{IsClosed}
use Rattle.run_spec.specs.Closing.{Closes, Done}
use Rattle.dispatcher.specs.Ledger.{most_commands}
use Rattle.app_core.specs.Chain.{given_by}

-- all is done, the primary that closed leads, and what it has committed is what is decided
pub record HasRested {B : Type 0} (scene : Scene B) (results : List (List SaveResult)) (primary : ℕ) (entries : List (JournalEntry B)) : Type 0 where
  pub closed : IsClosed scene results entries
  pub leads : leads (controller_state scene results primary entries).vr ≡ true
  pub kept : kept scene results primary entries ≡ decided scene results entries

-- A closing that ends has left nothing undone, where its journal is within the limits, and the applications give no more commands for
-- an event than a ledger holds.
abbrev pub ClosingsRest : Type 0 → Type 0
ClosingsRest B =
    (scene : Scene B) (results : List (List SaveResult)) (before entries : List (JournalEntry B)) (primary : ℕ) →
    IsSetup scene.setup → IsFaithful scene.sealing → given_by scene.kinds ≤ most_commands →
    IsLegalPast scene results (reverse entries ++ before) → Closes scene results before entries (Done primary) → IsWithinLimits scene.sealing.size (reverse entries ++ before) →
    HasRested scene results primary (reverse entries ++ before)
