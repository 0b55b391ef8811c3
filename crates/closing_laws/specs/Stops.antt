-- Why a closing ends before it comes to rest.
use Rattle.std.specs.Prelude.{◌≡◌, ◌≤◌, ◌<◌, ℕ, ◌+◌, ◌*◌, true, List, ◌++◌, length, flat_map, reverse, sum_by}
use Rattle.std.specs.List.{range_with_len}
use Rattle.of_types.specs.declared.message.Event.{Event}
use Rattle.of_types.specs.Setups.{IsSetup}
use Rattle.journal.specs.declared.journal.JournalEntry.{JournalEntry}
use Rattle.journal.specs.declared.journal.SaveResult.{SaveResult}
use Rattle.run_spec.specs.States.{Scene, IsFaithful}
use Rattle.vr_log.specs.declared.entry.Entry.{Entry}
use Rattle.vr_log.specs.declared.entry.Entry.TheVariants.{Received, Processed}
use Rattle.vr_log.specs.declared.entry.LogFull.{LogFull}
use Rattle.vr_log.specs.Log.{entry_size, full_at, is_past_limits, log_bytes, log_entries}
use Rattle.vr_log.specs.Members.{leads}
use Rattle.run_spec.specs.Legal.{IsPossible}
use Rattle.run_spec.specs.Committed.{controller_state, count_up, switch_state}
use Rattle.run_spec.specs.Closing.{Closes, NoQuorum, Overfull, majority}
use Rattle.closing_laws.specs.Starts.{SavesSucceed}

-- where a majority takes part as it begins, and each save in it succeeds, a closing finds a quorum
abbrev pub ClosingsFindAQuorum : Type 0 → Type 0
ClosingsFindAQuorum B =
    (scene : Scene B) (results : List (List SaveResult)) (before entries : List (JournalEntry B)) (up needed : ℕ) →
    majority scene.setup.controllers ≤ count_up scene results before → SavesSucceed scene results before →
    Closes scene results before entries (NoQuorum up needed) → ⊥

-- the events that the switches have made, in all of their lives
abbrev pub events_made : {B : Type 0} → Scene B → List (JournalEntry B) → List Event
events_made scene entries = flat_map (λ s. (switch_state scene s entries).events) (range_with_len 0 (length scene.setup.ports))

-- the entries of an event in a log are of so many bytes: one that it was received, and one that it is processed
abbrev pub bytes_logged : Event → ℕ
bytes_logged e = entry_size (Received e) + entry_size (Processed 0)

-- events fit a log, each with these two entries
pub record FitALog (events : List Event) : Type 0 where
  pub few : 2 * length events ≤ log_entries
  pub small : sum_by bytes_logged events ≤ log_bytes

-- a controller that leads has a log as this limit tells; an entry more would take it past the limits of a log, and the events that the
-- switches have made don't fit one
pub record IsAtLimit {B : Type 0} (scene : Scene B) (results : List (List SaveResult)) (entries : List (JournalEntry B)) (limit : LogFull) (c : ℕ) (entry : Entry) : Type 0 where
  pub member : c < scene.setup.controllers
  pub leads : leads (controller_state scene results c entries).vr ≡ true
  pub past : is_past_limits (controller_state scene results c entries).vr.log entry ≡ true
  pub limit_is : limit ≡ full_at (controller_state scene results c entries).vr.log entry
  pub crowded : FitALog (events_made scene entries) → ⊥

-- where a closing ends for want of room in a log, that log is full
abbrev pub ClosingsMeetLimits : Type 0 → Type 0
ClosingsMeetLimits B =
    (scene : Scene B) (results : List (List SaveResult)) (before entries : List (JournalEntry B)) (limit : LogFull) →
    IsSetup scene.setup → IsFaithful scene.sealing → IsPossible scene results (reverse entries ++ before) → Closes scene results before entries (Overfull limit) →
    (c : ℕ) × (entry : Entry) × IsAtLimit scene results (reverse entries ++ before) limit c entry
