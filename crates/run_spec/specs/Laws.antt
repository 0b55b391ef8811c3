-- What holds of every legal journal, and of one at rest.
use Rattle.std.specs.Prelude.{◌≡◌, ◌<◌, ◌≤◌, ◌⊎◌, ℕ, ◌+◌, ◌%◌, true, nat_eq, nat_lt, ◌&&◌, List, [], ◌∷◌, ◌++◌, length, map, drop, take, filter, Contains, All, AllPairs, slice_get, Option, Some, if◌then◌else◌}
use Rattle.std.specs.List.{AllByRecursion, range_with_len}
use Rattle.list_facts.specs.Lists.{IsPrefix}
use Rattle.of_types.specs.declared.message.Event.{Event}
use Rattle.of_types.specs.declared.message.Executed.{Executed}
use Rattle.of_types.specs.declared.message.OfMessage.TheVariants as plain
use Rattle.of_types.specs.declared.message.Spoken.TheVariants as spoken
use Rattle.of_types.specs.declared.numbers.TheConstants.{MASTER}
use Rattle.of_types.specs.Lives.{last_life, has_ended}
use Rattle.journal.specs.declared.journal.Actor.TheVariants as actor
use Rattle.journal.specs.declared.journal.JournalEntry.{JournalEntry}
use Rattle.journal.specs.declared.journal.JournalEntry.TheVariants.{Draw, Local, Refused}
use Rattle.journal.specs.declared.journal.Local.{Local as LocalInput}
use Rattle.journal.specs.declared.journal.Local.TheVariants as local
use Rattle.journal.specs.declared.journal.Packet.{Packet}
use Rattle.journal.specs.declared.journal.SaveResult.{SaveResult}
use Rattle.journal.specs.Part.{part}
use Rattle.journal.specs.Pool.{pool}
use Rattle.vr_log.specs.declared.entry.Entry.{Entry}
use Rattle.vr_log.specs.declared.entry.Entry.TheVariants as entry
use Rattle.vr_log.specs.Log.{received, processed}
use Rattle.app_core.specs.Issued.{issued}
use Rattle.of_switch.specs.State.{SwitchState, life_of, events_in, cleared_in, executed_in}
use Rattle.run_spec.specs.declared.messages.Message.TheVariants as message
use Rattle.run_spec.specs.declared.messages.Unsealed.{Unsealed}
use Rattle.run_spec.specs.declared.messages.Unsealed.TheVariants as unsealed
use Rattle.run_spec.specs.States.{Scene, Sealing, content}
use Rattle.run_spec.specs.Committed.{decided, switch_state}

-- the events of one switch, and those of one of its lives
abbrev pub events_from : ℕ → List Event → List Event
events_from switch events = filter (λ e. nat_eq e.switch switch) events

abbrev pub events_from_life : ℕ → ℕ → List Event → List Event
events_from_life switch life events = filter (λ e. nat_eq e.switch switch && nat_eq e.life life) events

-- each event of a switch stands at most once in a log, life after life, and within a life in the order in which it
-- was made
pub record IsOrdered {B : Type 0} (scene : Scene B) (entries : List (JournalEntry B)) (log : List Entry) : Type 0 where
  pub rising : (s : ℕ) → s < length scene.setup.ports → AllPairs (λ e later. e.life ≤ later.life) (events_from s (received log))
  pub made : (s life : ℕ) → s < length scene.setup.ports →
      IsPrefix (events_from_life s life (received log)) (events_in (switch_state scene s entries) life)

-- the events of a log up to a place
abbrev pub events_through : List Entry → ℕ → List Event
events_through log j = take (j + 1) (received log)

-- each life of a switch has executed, each once and in order, a prefix of what one fault-free controller issues to it
-- on the log; what is processed is executed, or of a life that had ended by then; and what was dropped is processed
pub record IsExactlyOnce {B : Type 0} (scene : Scene B) (results : List (List SaveResult)) (entries : List (JournalEntry B)) : Type 0 where
  pub ordered : IsOrdered scene entries (decided scene results entries)
  pub numbers : (s life : ℕ) → s < length scene.setup.ports →
      map (λ x. x.number) (executed_in (switch_state scene s entries) life) ≡ range_with_len 0 (length (executed_in (switch_state scene s entries) life))
  pub orders : (s life : ℕ) → s < length scene.setup.ports →
      IsPrefix (map (λ x. x.order) (executed_in (switch_state scene s entries) life))
      (issued scene.kinds scene.setup s life (received (decided scene results entries)))
  pub done : (s life j : ℕ) (before rest : List Entry) → s < length scene.setup.ports →
      decided scene results entries ≡ before ++ entry.Processed j ∷ rest →
      (length (issued scene.kinds scene.setup s life (events_through (decided scene results entries) j)) ≤ length (executed_in (switch_state scene s entries) life))
      ⊎ (has_ended s life (received before) ≡ true)
  pub dropped : (s life i : ℕ) (e : Event) → s < length scene.setup.ports → i < cleared_in (switch_state scene s entries) life →
      slice_get (events_in (switch_state scene s entries) life) i ≡ Some e →
      Contains (take (processed (decided scene results entries)) (received (decided scene results entries))) e

-- what was decided stays decided. The prefixes of a journal are the ends of its past
abbrev pub IsLasting : {B : Type 0} → Scene B → List (List SaveResult) → List (JournalEntry B) → Type 0
IsLasting scene results entries =
    (i j : ℕ) → IsPrefix (decided scene results (drop (i + j) entries)) (decided scene results (drop j entries))

-- the generation of a packet that asks to be master, as a list. Any other has none
abbrev pub master_asked : Unsealed → List ℕ
master_asked (unsealed.Message (message.Of xid (spoken.Plain (plain.RoleRequest role generation)))) = if nat_eq role MASTER then generation ∷ [] else []
master_asked _ = []

-- the generations of the requests to be master that a switch drew in its life, and that life
pub record Heard : Type 0 where
  pub life : ℕ
  pub masters : List ℕ

-- now, and before its last input
pub record Asked : Type 0 where
  pub now : Heard
  pub before : Heard

-- a restart begins a life that has drawn none, where there is a further life
abbrev pub heard_local : Heard → LocalInput → Heard
heard_local w local.Restart = if nat_lt w.life last_life then record { life = w.life + 1; masters = [] } else w
heard_local w _ = w

abbrev pub asked_step : {B : Type 0} → Sealing B → Asked → JournalEntry B → Option (Packet B) → Asked
asked_step sealing w (Draw a id keep) (Some p) =
    record { now = record { life = w.now.life; masters = master_asked (content sealing p) ++ w.now.masters }; before = w.now }
asked_step sealing w (Local a input) p = record { now = heard_local w.now input; before = w.now }
asked_step sealing w (Refused a) p = record { now = w.before; before = w.before }
asked_step sealing w e p = w

-- what found no memory left out
abbrev pub nothing_heard : Heard
nothing_heard = record { life = 0; masters = [] }

abbrev pub masters_asked : {B : Type 0} → Sealing B → List (JournalEntry B × Option (Packet B)) → Asked
masters_asked sealing [] = record { now = nothing_heard; before = nothing_heard }
masters_asked sealing (step ∷ before) = asked_step sealing (masters_asked sealing before) step.0 step.1

pub record IsGreatest (n : ℕ) (ns : List ℕ) : Type 0 where
  pub among : Contains ns n
  pub bound : All (λ m. m ≤ n) ns

-- what a switch carries out at an entry
abbrev pub carried_out : {B : Type 0} → Scene B → ℕ → JournalEntry B → List (JournalEntry B) → List Executed
carried_out scene s e before = drop (length (switch_state scene s before).executed) (switch_state scene s (e ∷ before)).executed

-- a command has the greatest generation that asked a switch to be its master, in the life before an entry, and is from that master
pub record IsOfMaster {B : Type 0} (scene : Scene B) (s : ℕ) (before : List (JournalEntry B)) (x : Executed) : Type 0 where
  pub greatest : IsGreatest x.generation (masters_asked scene.sealing (part (actor.Switch s) before)).now.masters
  pub master : x.from ≡ x.generation % scene.setup.controllers

-- so has each command that a switch carries out at an entry, whatever the entry is
abbrev pub IsFencedEntry : {B : Type 0} → Scene B → JournalEntry B → List (JournalEntry B) → Type 0
IsFencedEntry scene e before = (s : ℕ) → AllByRecursion (λ x. IsOfMaster scene s before x) (carried_out scene s e before)

abbrev pub IsFenced : {B : Type 0} → Scene B → List (JournalEntry B) → Type 0
IsFenced scene [] = Unit {0}
IsFenced scene (e ∷ before) = IsFencedEntry scene e before × IsFenced scene before

-- all of a switch's present life is done: nothing is held or remembered, each event is logged, each command executed
pub record IsAtRest {B : Type 0} (scene : Scene B) (log : List Entry) (s : ℕ) (state : SwitchState) : Type 0 where
  pub cleared : state.buffer.held ≡ []
  pub remembered : state.buffer.dirty ≡ []
  pub logged : events_from_life s (life_of state) (received log) ≡ events_in state (life_of state)
  pub executed : length (executed_in state (life_of state)) ≡ length (issued scene.kinds scene.setup s (life_of state) (received log))

-- all is done: nothing waits, each switch is at rest, each event is processed
pub record IsClosed {B : Type 0} (scene : Scene B) (results : List (List SaveResult)) (entries : List (JournalEntry B)) : Type 0 where
  pub empty : pool entries ≡ []
  pub switches : (s : ℕ) → s < length scene.setup.ports → IsAtRest scene (decided scene results entries) s (switch_state scene s entries)
  pub processed_all : processed (decided scene results entries) ≡ length (received (decided scene results entries))
