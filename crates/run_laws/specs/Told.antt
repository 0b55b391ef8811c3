-- What is told of a run can be told: each event, each order and each row can be spelled. That each number fits its field is
-- in the types.
use Rattle.std.specs.Prelude.{◌≡◌, ◌<◌, ◌≤◌, ℕ, List, length}
use Rattle.std.specs.List.{AllByRecursion}
use Rattle.of_types.specs.declared.message.Event.{Event}
use Rattle.of_types.specs.declared.message.Executed.{Executed}
use Rattle.of_types.specs.declared.message.OfMessage.{OfMessage}
use Rattle.of_types.specs.declared.message.Row.{Row}
use Rattle.of_types.specs.declared.message.Spoken.TheVariants as spoken
use Rattle.of_types.specs.declared.setup.Setup.{Setup}
use Rattle.of_types.specs.Valid.{IsValid, IsValidMatch}
use Rattle.of_ravana.specs.Canonical.{happening_message, order_message}
use Rattle.journal.specs.declared.journal.JournalEntry.{JournalEntry}
use Rattle.journal.specs.declared.journal.SaveResult.{SaveResult}
use Rattle.vr_log.specs.declared.entry.Entry.{Entry}
use Rattle.vr_log.specs.declared.entry.Entry.TheVariants.{Received, Processed}
use Rattle.of_switch.specs.State.{SwitchState, rows_of}
use Rattle.run_spec.specs.States.{Scene}
use Rattle.run_spec.specs.Committed.{switch_state, decided}

-- a message of OpenFlow that can be spelled
abbrev pub IsSpellable : OfMessage → Type 0
IsSpellable message = IsValid (spoken.Plain message)

-- an event of this switch, as the message that tells it
pub record IsSpellableEvent (s : ℕ) (e : Event) : Type 0 where
  pub switch_is : e.switch ≡ s
  pub message : IsSpellable (happening_message e.what)

-- a command that was carried out, as the message of its order
abbrev pub IsSpellableOrder : Executed → Type 0
IsSpellableOrder x = IsSpellable (order_message x.order)

-- a row of a table: a match that can be spelled, and no more actions than one message can hold
pub record IsSpellableRow (r : Row) : Type 0 where
  pub matching : IsValidMatch r.matching
  pub few : length r.actions ≤ 4095

-- all that is told of a switch
pub record IsSpellableSwitch (s : ℕ) (state : SwitchState) : Type 0 where
  pub events : AllByRecursion (λ e. IsSpellableEvent s e) state.events
  pub executed : AllByRecursion (λ x. IsSpellableOrder x) state.executed
  pub rows : AllByRecursion (λ r. IsSpellableRow r) (rows_of state)

-- an entry of a log: an event of a switch of the setup, or its place alone
abbrev pub IsSpellableEntry : Setup → Entry → Type 0
IsSpellableEntry setup (Received e) = (e.switch < length setup.ports) × IsSpellable (happening_message e.what)
IsSpellableEntry setup (Processed j) = Unit {0}

-- all that is told of the switches, and of the decided log
pub record IsSpellableRun {B : Type 0} (scene : Scene B) (results : List (List SaveResult)) (entries : List (JournalEntry B)) : Type 0 where
  pub switches : (s : ℕ) → s < length scene.setup.ports → IsSpellableSwitch s (switch_state scene s entries)
  pub log : AllByRecursion (λ e. IsSpellableEntry scene.setup e) (decided scene results entries)
