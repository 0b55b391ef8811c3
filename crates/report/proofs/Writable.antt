-- What fits and can be spelled is a record.
use Rattle.std.proofs.Common.{ℕ, ◌+◌, ◌≤◌, List, [], ◌∷◌, lit<}
use Rattle.std.specs.List.{AllByRecursion}
use Rattle.of_match.proofs.Laws.{is_form}
use Rattle.of_messages.proofs.Written.{message_spelled}
use Rattle.of_ravana.specs.Canonical.{happening_message, order_message}
use Rattle.of_types.specs.declared.message.Event.{Event}
use Rattle.of_types.specs.declared.message.Executed.{Executed}
use Rattle.of_types.specs.declared.message.Happening.{Happening}
use Rattle.of_types.specs.declared.message.Happening.TheVariants as happening
use Rattle.of_types.specs.declared.message.OfMessage.{OfMessage}
use Rattle.of_types.specs.declared.message.Order.{Order}
use Rattle.of_types.specs.declared.message.Order.TheVariants as order
use Rattle.of_types.specs.Sizes.{happening_size, order_size, plain_size}
use Rattle.of_types.specs.Valid.{IsValidHappening, IsValidOrder, IsValidPlain}
use Rattle.journal.specs.declared.journal.JournalEntry.{JournalEntry}
use Rattle.journal.specs.declared.journal.JournalEntry.TheVariants as entry
use Rattle.vr_log.specs.declared.entry.Entry.{Entry}
use Rattle.vr_log.specs.declared.entry.Entry.TheVariants.{Received, Processed}
use Rattle.vr_log.specs.Sizes.{IsValidEntry}
use Rattle.report.specs.declared.record.Record.{Record}
use Rattle.report.specs.declared.record.RowRecord.{RowRecord}
use Rattle.report.specs.declared.record.SwitchRecord.{SwitchRecord}
use Rattle.report.specs.Fits.{FitsEntry, FitsOfMessage, FitsEvent, FitsLogEntry, FitsExecuted, FitsShown, FitsTold, FitsRecord}
use Rattle.report.specs.Records.{IsToldEntry, IsTellable, IsToldEvent, IsLogEntry, IsToldExecuted, IsShown, IsEventOf, IsToldSwitch, AreToldSwitches, IsRecord}
use Rattle.report.specs.Writable.{HasLine, IsWritableEvent, IsWritableExecuted, IsWritableRow, IsWritableTold, AreWritable, IsWritable}
use Rattle.report.proofs.Bytes.{bare_match_bytes, actions_bytes, message_bytes}

-- what follows of two things that hold of each of a list
both_all : {A : Type 0} (P Q R : A → Type 0) → ((x : A) → P x → Q x → R x) → (xs : List A) → AllByRecursion P xs → AllByRecursion Q xs → AllByRecursion R xs
both_all P Q R made [] p q = tt
both_all P Q R made (x ∷ xs) (p, ps) (q, qs) = (made x p q, both_all P Q R made xs ps qs)

-- ---- the journal

told_entry : (e : JournalEntry (List ℕ)) → FitsEntry e → HasLine e → IsToldEntry e
told_entry (entry.Post a first letters lost) f line = f
told_entry (entry.Draw a id keep) f line = f
told_entry (entry.Lose a id) f line = f
told_entry (entry.Local a input) f line = f
told_entry (entry.Idle a) f line = f
told_entry (entry.Refused a) f line = line

-- ---- messages

tellable : (m : OfMessage) → IsValidPlain m → plain_size m ≤ 65535 → FitsOfMessage m → IsTellable m
tellable m v short f = record { spelled = message_spelled 0 m v f.numbers short (lit< tt); bytes = message_bytes 0 m f.bytes }

happening_tellable : (what : Happening) → IsValidHappening what → happening_size what ≤ 65535 → FitsOfMessage (happening_message what) → IsTellable (happening_message what)
happening_tellable (happening.PacketIn p) v short f = tellable (happening_message (happening.PacketIn p)) tt short f
happening_tellable (happening.FlowRemoved r) v short f = tellable (happening_message (happening.FlowRemoved r)) v short f
happening_tellable (happening.PortStatus p) v short f = tellable (happening_message (happening.PortStatus p)) tt short f

order_tellable : (what : Order) → IsValidOrder what → order_size what ≤ 65535 → FitsOfMessage (order_message what) → IsTellable (order_message what)
order_tellable (order.FlowMod c) v short f = tellable (order_message (order.FlowMod c)) v short f
order_tellable (order.PacketOut p) v short f = tellable (order_message (order.PacketOut p)) tt short f

-- ---- the log and the switches

told_event : (e : Event) → FitsEvent e → IsValidHappening e.what → happening_size e.what ≤ 65535 → IsToldEvent e
told_event e f v short = record { switch = f.switch; life = f.life; number = f.number; what = happening_tellable e.what v short f.what }

log_entry : (e : Entry) → FitsLogEntry e → IsValidEntry e → IsLogEntry e
log_entry (Received e) f v = told_event e f v.1 v.0
log_entry (Processed j) f v = f

event_of : (switch : ℕ) (e : Event) → FitsEvent e → IsWritableEvent switch e → IsEventOf switch e
event_of switch e f s = record { told = told_event e f s.valid s.small; of = s.of }

told_executed : (x : Executed) → FitsExecuted x → IsWritableExecuted x → IsToldExecuted x
told_executed x f s = record { life = f.life; number = f.number; generation = f.generation; from = f.from; order = order_tellable x.order s.valid s.small f.order }

shown : (r : RowRecord) → FitsShown r → IsWritableRow r → IsShown r
shown r f s = record {
  priority = f.priority;
  matching = record { spelled = is_form r.matching s.matching f.matching; bytes = bare_match_bytes r.matching };
  actions = record { few = s.few; ports = f.actions; bytes = actions_bytes r.actions };
}

told : (switch : ℕ) (t : SwitchRecord) → FitsTold t → IsWritableTold switch t → IsToldSwitch switch t
told switch t f s = record {
  generation = f.generation;
  master = f.master;
  life = f.life;
  held = f.held;
  sent = f.sent;
  few_events = f.few_events;
  few_executed = f.few_executed;
  few_rows = f.few_rows;
  events = both_all FitsEvent (IsWritableEvent switch) (IsEventOf switch) (event_of switch) t.events f.events s.events;
  executed = both_all FitsExecuted IsWritableExecuted IsToldExecuted told_executed t.executed f.executed s.executed;
  rows = both_all FitsShown IsWritableRow IsShown shown t.rows f.rows s.rows;
}

all_told : (switch : ℕ) (switches : List SwitchRecord) → AllByRecursion FitsTold switches → AreWritable switch switches → AreToldSwitches switch switches
all_told switch [] f s = tt
all_told switch (t ∷ switches) (f, fs) (s, ss) = (told switch t f s, all_told (switch + 1) switches fs ss)

pub is_record : (r : Record) → FitsRecord r → IsWritable r → IsRecord r
is_record r f s = record {
  setup = s.setup;
  rules = f.rules;
  journal_is = both_all FitsEntry HasLine IsToldEntry told_entry r.journal f.journal_is s.journal_is;
  few_entries = f.few_entries;
  log = both_all FitsLogEntry (λ entry. IsValidEntry entry) IsLogEntry log_entry r.log f.log s.log;
  switches = s.switches;
  told = all_told 0 r.switches f.told s.told;
  script = f.script;
  closing_is = f.closing_is;
}
