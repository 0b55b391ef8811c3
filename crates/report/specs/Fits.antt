-- What the types of the code say of a record: each number fits its field, and bytes are bytes.
use Rattle.std.specs.Prelude.{◌<◌, ◌^◌, ℕ, IfSome, List, [], length}
use Rattle.std.specs.List.{AllByRecursion}
use Rattle.of_match.specs.Spelling.{Fits}
use Rattle.of_messages.specs.Fits.{FitPorts, FitsPlain}
use Rattle.of_ravana.specs.Canonical.{happening_message, order_message}
use Rattle.of_types.specs.declared.message.Event.{Event}
use Rattle.of_types.specs.declared.message.Executed.{Executed}
use Rattle.of_types.specs.declared.message.OfMessage.{OfMessage}
use Rattle.of_types.specs.declared.message.OfMessage.TheVariants as plain
use Rattle.journal.specs.declared.journal.JournalEntry.{JournalEntry}
use Rattle.journal.specs.declared.journal.JournalEntry.TheVariants as entry
use Rattle.vr_log.specs.declared.entry.Entry.{Entry}
use Rattle.vr_log.specs.declared.entry.Entry.TheVariants.{Received, Processed}
use Rattle.report.specs.Records.{AreOctets, FitsRule, FitsActor, FitsLetter, FitsInput}
use Rattle.report.specs.declared.record.Record.{Record}
use Rattle.report.specs.declared.record.RowRecord.{RowRecord}
use Rattle.report.specs.declared.record.SwitchRecord.{SwitchRecord}

abbrev pub FitsEntry : JournalEntry (List ℕ) → Type 0
FitsEntry (entry.Post a first letters lost) =
    FitsActor a × (first < 2 ^ 64) × (length letters < 2 ^ 64) × (lost < 2 ^ 64) × AllByRecursion FitsLetter letters
FitsEntry (entry.Draw a id keep) = FitsActor a × (id < 2 ^ 64)
FitsEntry (entry.Lose a id) = FitsActor a × (id < 2 ^ 64)
FitsEntry (entry.Local a input) = FitsActor a × FitsInput input
FitsEntry (entry.Idle a) = FitsActor a
FitsEntry (entry.Refused a) = FitsActor a

-- the bytes that a message carries as they are
abbrev pub carried : OfMessage → List ℕ
carried (plain.Error kind code head) = head
carried (plain.EchoRequest body) = body
carried (plain.EchoReply body) = body
carried (plain.Experimenter body) = body
carried (plain.PacketIn p) = p.payload
carried (plain.PacketOut p) = p.payload
carried _ = []

pub record FitsOfMessage (m : OfMessage) : Type 0 where
  pub numbers : FitsPlain m
  pub bytes : AreOctets (carried m)

pub record FitsEvent (e : Event) : Type 0 where
  pub switch : e.switch < 2 ^ 8
  pub life : e.life < 2 ^ 32
  pub number : e.number < 2 ^ 64
  pub what : FitsOfMessage (happening_message e.what)

abbrev pub FitsLogEntry : Entry → Type 0
FitsLogEntry (Received e) = FitsEvent e
FitsLogEntry (Processed j) = j < 2 ^ 64

pub record FitsExecuted (x : Executed) : Type 0 where
  pub life : x.life < 2 ^ 32
  pub number : x.number < 2 ^ 64
  pub generation : x.generation < 2 ^ 64
  pub from : x.from < 2 ^ 8
  pub order : FitsOfMessage (order_message x.order)

pub record FitsShown (r : RowRecord) : Type 0 where
  pub priority : r.priority < 2 ^ 16
  pub matching : Fits r.matching
  pub actions : FitPorts r.actions

pub record FitsTold (t : SwitchRecord) : Type 0 where
  pub generation : IfSome t.generation (λ g. g < 2 ^ 64)
  pub master : IfSome t.master (λ c. c < 2 ^ 8)
  pub life : t.life < 2 ^ 32
  pub held : t.held < 2 ^ 64
  pub sent : t.sent < 2 ^ 64
  pub few_events : length t.events < 2 ^ 64
  pub few_executed : length t.executed < 2 ^ 64
  pub few_rows : length t.rows < 2 ^ 64
  pub events : AllByRecursion FitsEvent t.events
  pub executed : AllByRecursion FitsExecuted t.executed
  pub rows : AllByRecursion FitsShown t.rows

pub record FitsRecord (r : Record) : Type 0 where
  pub rules : AllByRecursion FitsRule r.setup.deny
  pub journal_is : AllByRecursion FitsEntry r.journal
  pub few_entries : length r.log < 2 ^ 64
  pub log : AllByRecursion FitsLogEntry r.log
  pub told : AllByRecursion FitsTold r.switches
  pub script : r.script < 2 ^ 64
  pub closing_is : r.closing < 2 ^ 64
