-- What a switch holds of its present life (Ravana, 4.1).
use Rattle.std.specs.Prelude.{◌≡◌, ◌<◌, ℕ, List, length, drop}
use Rattle.of_types.specs.Setups.{IsSetup}
use Rattle.journal.specs.declared.journal.JournalEntry.{JournalEntry}
use Rattle.of_switch.specs.State.{events_in, life_of}
use Rattle.run_spec.specs.Committed.{switch_state}
use Rattle.run_spec.specs.States.{Scene}

-- each switch holds the events that it made in its present life, but for so many of the first as have left
abbrev pub AreKept : {B : Type 0} → Scene B → List (JournalEntry B) → Type 0
AreKept scene entries = (s : ℕ) → s < length scene.setup.ports →
    (switch_state scene s entries).buffer.held ≡ drop (switch_state scene s entries).buffer.cleared (events_in (switch_state scene s entries) (life_of (switch_state scene s entries)))

-- after every past
abbrev pub EventsAreKept : Type 0 → Type 0
EventsAreKept B = (scene : Scene B) (entries : List (JournalEntry B)) → IsSetup scene.setup → AreKept scene entries
