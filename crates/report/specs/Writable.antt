-- What a record takes beyond its types: a setup within its limits, entries that each have a line, and messages, matches and
-- actions that can be spelled.
use Rattle.std.specs.Prelude.{◌≡◌, ◌≤◌, ◌+◌, ℕ, List, [], ◌∷◌, length}
use Rattle.std.specs.List.{AllByRecursion}
use Rattle.of_types.specs.declared.message.Event.{Event}
use Rattle.of_types.specs.declared.message.Executed.{Executed}
use Rattle.of_types.specs.Setups.{IsSetup}
use Rattle.of_types.specs.Sizes.{happening_size, order_size}
use Rattle.of_types.specs.Valid.{IsValidHappening, IsValidMatch, IsValidOrder}
use Rattle.journal.specs.declared.journal.JournalEntry.{JournalEntry}
use Rattle.journal.specs.declared.journal.JournalEntry.TheVariants as entry
use Rattle.vr_log.specs.Sizes.{IsValidEntry}
use Rattle.report.specs.declared.record.Record.{Record}
use Rattle.report.specs.declared.record.RowRecord.{RowRecord}
use Rattle.report.specs.declared.record.SwitchRecord.{SwitchRecord}

-- an entry that has a line: there is none for an input that found no memory
abbrev pub HasLine : JournalEntry (List ℕ) → Type 0
HasLine (entry.Refused a) = ⊥
HasLine _ = Unit {0}

-- an event of this switch, whose message is valid and fits its header
pub record IsWritableEvent (switch : ℕ) (e : Event) : Type 0 where
  pub of : e.switch ≡ switch
  pub valid : IsValidHappening e.what
  pub small : happening_size e.what ≤ 65535

-- a command whose order is valid and fits its header
pub record IsWritableExecuted (x : Executed) : Type 0 where
  pub valid : IsValidOrder x.order
  pub small : order_size x.order ≤ 65535

-- a row whose match is valid, and whose actions fit one message
pub record IsWritableRow (r : RowRecord) : Type 0 where
  pub matching : IsValidMatch r.matching
  pub few : length r.actions ≤ 4095

pub record IsWritableTold (switch : ℕ) (t : SwitchRecord) : Type 0 where
  pub events : AllByRecursion (IsWritableEvent switch) t.events
  pub executed : AllByRecursion IsWritableExecuted t.executed
  pub rows : AllByRecursion IsWritableRow t.rows

-- the switches from this one on
abbrev pub AreWritable : ℕ → List SwitchRecord → Type 0
AreWritable switch [] = Unit {0}
AreWritable switch (t ∷ switches) = IsWritableTold switch t × AreWritable (switch + 1) switches

pub record IsWritable (r : Record) : Type 0 where
  pub setup : IsSetup r.setup
  pub journal_is : AllByRecursion HasLine r.journal
  pub log : AllByRecursion IsValidEntry r.log
  pub switches : length r.switches ≡ length r.setup.ports
  pub told : AreWritable 0 r.switches
