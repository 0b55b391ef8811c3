-- What a record holds: numbers within their types, a setup within its limits, and messages that their bytes spell.
use Rattle.std.specs.Prelude.{◌≡◌, ◌≤◌, ◌<◌, ◌+◌, ◌^◌, ℕ, IfSome, List, [], ◌∷◌, length, get_or}
use Rattle.std.specs.List.{AllByRecursion}
use Rattle.of_match.specs.Spelling.{IsSpelled}
use Rattle.of_match.specs.Writing.{canonical_bare_match, canonical_match}
use Rattle.of_messages.specs.Canonical.{canonical, actions_of}
use Rattle.of_messages.specs.Fits.{FitPorts}
use Rattle.of_messages.specs.Grammar.{Spells}
use Rattle.of_ravana.specs.Canonical.{happening_message, order_message}
use Rattle.of_types.specs.declared.message.Event.{Event}
use Rattle.of_types.specs.declared.message.Executed.{Executed}
use Rattle.of_types.specs.declared.message.Match.{Match}
use Rattle.of_types.specs.declared.message.OfMessage.{OfMessage}
use Rattle.of_types.specs.declared.setup.Rule.{Rule}
use Rattle.of_types.specs.Setups.{IsSetup}
use Rattle.journal.specs.declared.journal.Actor.{Actor}
use Rattle.journal.specs.declared.journal.Actor.TheVariants.{Controller, Switch}
use Rattle.journal.specs.declared.journal.JournalEntry.{JournalEntry}
use Rattle.journal.specs.declared.journal.JournalEntry.TheVariants as entry
use Rattle.journal.specs.declared.journal.Letter.{Letter}
use Rattle.journal.specs.declared.journal.Local.{Local}
use Rattle.journal.specs.declared.journal.Local.TheVariants as local
use Rattle.vr_log.specs.declared.entry.Entry.{Entry}
use Rattle.vr_log.specs.declared.entry.Entry.TheVariants.{Received, Processed}
use Rattle.report.specs.declared.record.Record.{Record}
use Rattle.report.specs.declared.record.RowRecord.{RowRecord}
use Rattle.report.specs.declared.record.SwitchRecord.{SwitchRecord}

-- an entry of a journal of bytes
abbrev pub ByteEntry : Type 0
ByteEntry = JournalEntry (List ℕ)

abbrev pub AreOctets : List ℕ → Type 0
AreOctets bytes = (i : ℕ) → get_or bytes i 0 < 256

-- ---- the setup

-- the numbers of a rule
pub record FitsRule (r : Rule) : Type 0 where
  pub source : r.src.address < 2 ^ 32
  pub destination : r.dst.address < 2 ^ 32
  pub port : IfSome r.port (λ p. p < 2 ^ 16)

-- ---- the journal

abbrev pub FitsActor : Actor → Type 0
FitsActor (Controller c) = c < 2 ^ 8
FitsActor (Switch s) = s < 2 ^ 8

pub record FitsLetter (l : Letter (List ℕ)) : Type 0 where
  pub to : FitsActor l.to
  pub body : AreOctets l.body

abbrev pub FitsInput : Local → Type 0
FitsInput (local.Frame port bytes) = (port < 2 ^ 32) × AreOctets bytes
FitsInput (local.Port port up) = port < 2 ^ 32
FitsInput (local.Suspect view) = view < 2 ^ 32
FitsInput _ = Unit {0}

-- an entry that a report tells: there is no line for one that found no memory
abbrev pub IsToldEntry : JournalEntry (List ℕ) → Type 0
IsToldEntry (entry.Post a first letters lost) =
    FitsActor a × (first < 2 ^ 64) × (length letters < 2 ^ 64) × (lost < 2 ^ 64) × AllByRecursion FitsLetter letters
IsToldEntry (entry.Draw a id keep) = FitsActor a × (id < 2 ^ 64)
IsToldEntry (entry.Lose a id) = FitsActor a × (id < 2 ^ 64)
IsToldEntry (entry.Local a input) = FitsActor a × FitsInput input
IsToldEntry (entry.Idle a) = FitsActor a
IsToldEntry (entry.Refused a) = ⊥

-- ---- messages

-- a message that its written form spells
pub record IsTellable (m : OfMessage) : Type 0 where
  pub spelled : Spells (canonical 0 m) 0 m
  pub bytes : AreOctets (canonical 0 m)

pub record IsMatch (m : Match) : Type 0 where
  pub spelled : IsSpelled (canonical_match m) m
  pub bytes : AreOctets (canonical_bare_match m)

-- the ports of actions that one message can hold
pub record AreOutputs (actions : List ℕ) : Type 0 where
  pub few : length actions ≤ 4095
  pub ports : FitPorts actions
  pub bytes : AreOctets (actions_of actions)

-- ---- the log and the switches

pub record IsToldEvent (e : Event) : Type 0 where
  pub switch : e.switch < 2 ^ 8
  pub life : e.life < 2 ^ 32
  pub number : e.number < 2 ^ 64
  pub what : IsTellable (happening_message e.what)

abbrev pub IsLogEntry : Entry → Type 0
IsLogEntry (Received e) = IsToldEvent e
IsLogEntry (Processed j) = j < 2 ^ 64

pub record IsToldExecuted (x : Executed) : Type 0 where
  pub life : x.life < 2 ^ 32
  pub number : x.number < 2 ^ 64
  pub generation : x.generation < 2 ^ 64
  pub from : x.from < 2 ^ 8
  pub order : IsTellable (order_message x.order)

pub record IsShown (r : RowRecord) : Type 0 where
  pub priority : r.priority < 2 ^ 16
  pub matching : IsMatch r.matching
  pub actions : AreOutputs r.actions

-- an event of this switch
pub record IsEventOf (switch : ℕ) (e : Event) : Type 0 where
  pub told : IsToldEvent e
  pub of : e.switch ≡ switch

-- what is told of a switch
pub record IsToldSwitch (switch : ℕ) (t : SwitchRecord) : Type 0 where
  pub generation : IfSome t.generation (λ g. g < 2 ^ 64)
  pub master : IfSome t.master (λ c. c < 2 ^ 8)
  pub life : t.life < 2 ^ 32
  pub held : t.held < 2 ^ 64
  pub sent : t.sent < 2 ^ 64
  pub few_events : length t.events < 2 ^ 64
  pub few_executed : length t.executed < 2 ^ 64
  pub few_rows : length t.rows < 2 ^ 64
  pub events : AllByRecursion (IsEventOf switch) t.events
  pub executed : AllByRecursion IsToldExecuted t.executed
  pub rows : AllByRecursion IsShown t.rows

-- the switches from this one on
abbrev pub AreToldSwitches : ℕ → List SwitchRecord → Type 0
AreToldSwitches switch [] = Unit {0}
AreToldSwitches switch (t ∷ switches) = IsToldSwitch switch t × AreToldSwitches (switch + 1) switches

pub record IsRecord (r : Record) : Type 0 where
  pub setup : IsSetup r.setup
  pub rules : AllByRecursion FitsRule r.setup.deny
  pub journal_is : AllByRecursion IsToldEntry r.journal
  pub few_entries : length r.log < 2 ^ 64
  pub log : AllByRecursion IsLogEntry r.log
  pub switches : length r.switches ≡ length r.setup.ports
  pub told : AreToldSwitches 0 r.switches
  pub script : r.script < 2 ^ 64
  pub closing_is : r.closing < 2 ^ 64
