-- What a report tells of a run.
use Rattle.std.specs.Prelude.{◌≡◌, ℕ, Bool, true, false, List, [], length, map, drop, count_by, slice_get, Some, None}
use Rattle.std.specs.List.{range_with_len}
use Rattle.of_types.specs.declared.message.Row.{Row}
use Rattle.journal.specs.declared.entries.Head.{Head}
use Rattle.journal.specs.declared.entries.Head.TheVariants as head
use Rattle.journal.specs.declared.journal.JournalEntry.{JournalEntry}
use Rattle.journal.specs.declared.journal.SaveResult.{SaveResult}
use Rattle.journal.specs.Pool.{past}
use Rattle.vr_log.specs.declared.entry.Entry.{Entry}
use Rattle.group_controller.specs.Turns.{Controlling, state_of}
use Rattle.of_switch.specs.State.{SwitchState, rows_of, life_of}
use Rattle.run_spec.specs.States.{Scene}
use Rattle.run_spec.specs.Committed.{kept, kept_of, switch_state}
use Rattle.run_spec.specs.Closing.{count_turns}
use Rattle.world.specs.World.{Worlding}
use Rattle.report.specs.declared.record.Record.{Record}
use Rattle.report.specs.declared.record.RowRecord.{RowRecord}
use Rattle.report.specs.declared.record.SwitchRecord.{SwitchRecord}

-- an entry without its letters is a turn of a closing
abbrev pub is_turn_head : Head → Bool
is_turn_head (head.Draw actor id keep) = true
is_turn_head (head.Local actor input) = true
is_turn_head _ = false

-- how many are
abbrev pub head_turns : List Head → ℕ
head_turns heads = count_by is_turn_head heads

-- a row without its cookie
abbrev pub shown_row : Row → RowRecord
shown_row r = record { priority = r.priority; matching = r.matching; actions = r.actions }

-- what is told of a switch
abbrev pub told_of : SwitchState → SwitchRecord
told_of s =
    record {
      generation = s.fence.generation;
      master = s.fence.master;
      life = life_of s;
      held = length s.buffer.held;
      sent = s.sent;
      events = s.events;
      executed = s.executed;
      rows = map shown_row (rows_of s);
    }

-- what the controller of a number has committed
abbrev pub committed_at : {A : Type 0} → List (Controlling A) → ℕ → List Entry
committed_at controllers c = elim (slice_get controllers c) [
  | None ↦ []
  | Some x ↦ kept_of (state_of x)
]

-- what is told of a world, with the log of a primary: so many steps made its script, and so many of its entries
abbrev pub told_by : {A : Type 0} → Worlding (List ℕ) A → ℕ → ℕ → ℕ → Record
told_by w primary steps script = record {
  setup = w.setup;
  journal = w.journal;
  log = committed_at w.controllers primary;
  switches = map told_of w.switches;
  script = steps;
  closing = count_turns (drop script w.journal);
}

-- a record tells of this journal, with so many steps of a script and this closing by a primary: its setup, each entry, what
-- the primary has committed, each switch as the journal leaves it, and how many turns there were
pub record Shows (scene : Scene (List ℕ)) (results : List (List SaveResult)) (primary steps : ℕ) (closing journal : List (JournalEntry (List ℕ))) (told : Record) : Type 0 where
  pub setup : told.setup ≡ scene.setup
  pub journal_is : told.journal ≡ journal
  pub log : told.log ≡ kept scene results primary (past journal)
  pub script : told.script ≡ steps
  pub closing_is : told.closing ≡ count_turns closing
  pub switches : told.switches ≡ map (λ s. told_of (switch_state scene s (past journal))) (range_with_len 0 (length scene.setup.ports))
