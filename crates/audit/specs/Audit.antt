-- The audit of a report: which of its lines fail, by the lines alone and by what the controller that never fails does.
-- Nothing here knows what a switch or a controller is.
use Rattle.std.specs.Prelude.{ℕ, ◌+◌, Bool, true, false, not, ◌==◌, ◌&&◌, ◌||◌, nat_le, List, [], ◌∷◌, ◌++◌, length, take, map, sum_by, count_by, replicate, slice_get, Option, Some, None, Ok, Err}
use Rattle.std.specs.List.{list_any, list_all, find}
use Rattle.of_types.specs.declared.message.Event.{Event}
use Rattle.of_types.specs.declared.message.Executed.{Executed}
use Rattle.of_types.specs.declared.message.Order.{Order}
use Rattle.of_types.specs.Lives.{has_ended}
use Rattle.vr_log.specs.declared.entry.Entry.{Entry}
use Rattle.vr_log.specs.declared.entry.Entry.TheVariants.{Received, Processed}
use Rattle.vr_log.specs.Log.{received, processed, may_follow}
use Rattle.vr_log.specs.Same.{same_event}
use Rattle.app_core.specs.declared.issued.Issued.{Issued}
use Rattle.app_core.specs.Chain.{concat}
use Rattle.app_core.specs.Issued.{issues, commands_of}
use Rattle.report.specs.declared.record.Record.{Record}
use Rattle.report.specs.declared.record.SwitchRecord.{SwitchRecord}
use Rattle.report.specs.Outline.{count_entry_lines}
use Rattle.report.specs.Reading.{report_at}
use Rattle.audit.specs.declared.auditing.Verdict.{Verdict}
use Rattle.audit.specs.declared.auditing.Verdict.TheVariants.{Same, Differs}
use Rattle.audit.specs.Orders.{same_order}

-- ---- the lines of the log

-- an event line is equal
abbrev pub has_event_line : List SwitchRecord → Event → Bool
has_event_line switches e = list_any (λ t. list_any (same_event e) t.events) switches

-- a switch has an executed line of a life with a number
abbrev pub has_executed_line : List SwitchRecord → ℕ → ℕ → ℕ → Bool
has_executed_line switches switch life number =
    elim (slice_get switches switch) [ None ↦ false | Some t ↦ list_any (λ y. y.life == life && y.number == number) t.executed ]

-- a command was executed, or its switch began a later life before
abbrev pub is_settled_line : List SwitchRecord → List Entry → Issued → Bool
is_settled_line switches before x = has_executed_line switches x.switch x.life x.number || has_ended x.switch x.life (received before)

-- a line of the log fails: it may not follow those before it, an event has no event line, or a command of an event that
-- is processed was not settled
abbrev pub entry_fails : List ℕ → Record → List Entry → Entry → Bool
entry_fails kinds r before (Received e) = not (may_follow before (Received e) && has_event_line r.switches e)
entry_fails kinds r before (Processed j) =
    not (may_follow before (Processed j) && list_all (is_settled_line r.switches before) (commands_of kinds r.setup (received r.log) j))

abbrev pub log_fails : List ℕ → Record → List Entry → List Entry → List Bool
log_fails kinds r before [] = []
log_fails kinds r before (e ∷ log) = entry_fails kinds r before e ∷ log_fails kinds r (before ++ e ∷ []) log

-- ---- the lines of a switch

-- an event stands in the log and is processed there
abbrev pub is_processed_line : List Entry → Event → Bool
is_processed_line log line = list_any (λ e. same_event e line) (take (processed log) (received log))

-- an event line of the present life fails that is neither among the last ones that are held nor processed
abbrev pub events_fail : List Entry → SwitchRecord → List Event → List Bool
events_fail log t [] = []
events_fail log t (e ∷ events) =
    (e.life == t.life && nat_le t.held (count_by (λ f. f.life == t.life) events) && not (is_processed_line log e)) ∷ events_fail log t events

-- an order is not what was issued
abbrev pub differs_from : Option Issued → Order → Bool
differs_from None order = true
differs_from (Some x) order = not (same_order x.order order)

-- an executed line fails that is not what is issued to that life with that number
abbrev pub executed_fails : List Issued → ℕ → Executed → Bool
executed_fails issued switch y = differs_from (find (λ x. x.switch == switch && x.life == y.life && x.number == y.number) issued) y.order

-- the line of a switch, and those that it counts
abbrev pub told_fails : List ℕ → Record → ℕ → SwitchRecord → List Bool
told_fails kinds r switch t =
    false ∷ (events_fail r.log t t.events
    ++ (map (executed_fails (concat (issues kinds r.setup (received r.log))) switch) t.executed ++ replicate (length t.rows) false))

abbrev pub switches_fail : List ℕ → Record → ℕ → List SwitchRecord → List Bool
switches_fail kinds r switch [] = []
switches_fail kinds r switch (t ∷ switches) = told_fails kinds r switch t ++ switches_fail kinds r (switch + 1) switches

-- ---- the report

-- how many lines there are up to that of the log: two, those of the setup and of the journal, and its own
abbrev pub lines_before : Record → ℕ
lines_before r = 3 + length r.setup.ports + length r.setup.links + length r.setup.deny + sum_by count_entry_lines r.journal

-- whether each line fails, of all but the last one
unfoldable pub lines_fail : List ℕ → Record → List Bool
lines_fail kinds r = replicate (lines_before r) false ++ (log_fails kinds r [] r.log ++ switches_fail kinds r 0 r.switches)

-- the number of the first line that fails, of lines that are numbered from this number on
abbrev pub first_failing : ℕ → List Bool → Option ℕ
first_failing line [] = None
first_failing line (true ∷ lines) = Some line
first_failing line (false ∷ lines) = first_failing (line + 1) lines

-- the first line that fails, from 1 on
unfoldable pub differs : List ℕ → List ℕ → Option ℕ
differs kinds bytes = elim (report_at bytes) [ Err line ↦ Some line | Ok r ↦ first_failing 1 (lines_fail kinds r) ]

abbrev pub verdict_of : Option ℕ → Verdict
verdict_of None = Same
verdict_of (Some line) = Differs line
