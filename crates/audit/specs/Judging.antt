-- What the lines of a report are judged by.
use Rattle.std.specs.Prelude.{◌≡◌, ℕ, ◌+◌, Bool, true, false, not, ◌&&◌, ◌||◌, nat_eq, nat_lt, nat_le, List, [], ◌∷◌, ◌++◌, length, map, count_by, replicate, get_or, slice_index_or, is_some, Option, Some, None}
use Rattle.std.specs.List.{list_any, list_all}
use Rattle.of_types.specs.declared.message.Event.{Event}
use Rattle.of_types.specs.declared.message.Executed.{Executed}
use Rattle.of_types.specs.declared.message.Order.{Order}
use Rattle.vr_log.specs.declared.entry.Entry.{Entry}
use Rattle.vr_log.specs.declared.entry.Entry.TheVariants.{Received, Processed}
use Rattle.vr_log.specs.Log.{received, processed}
use Rattle.app_core.specs.Chain.{concat}
use Rattle.app_core.specs.Issued.{issues}
use Rattle.report.specs.declared.outline.Outline.{Outline}
use Rattle.report.specs.declared.record.Record.{Record}
use Rattle.report.specs.declared.record.SwitchRecord.{SwitchRecord}
use Rattle.audit.specs.declared.following.Following.{Following}
use Rattle.audit.specs.declared.evidence.Evidence.{Evidence}
use Rattle.audit.specs.declared.switch_lines.Committed.{Committed}
use Rattle.audit.specs.Audit.{log_fails, switches_fail}
use Rattle.audit.specs.Following.{may_go_behind, has_begun}
use Rattle.audit.specs.Issuing.{HoldsOrders}
use Rattle.audit.specs.Names.{Name, same_name, issued_name, value_of}
use Rattle.audit.specs.Orders.{same_order}
use Rattle.audit.specs.Received.{equal_at}

-- a place is this one
abbrev pub is_place : ℕ → Option ℕ → Bool
is_place i None = false
is_place i (Some n) = nat_eq n i

-- an event line tells of the event at a place
abbrev pub tells_event : List Event → ℕ → Event → Bool
tells_event events i line = is_place i (equal_at events line)

abbrev pub is_told_as_executed : List Event → List SwitchRecord → ℕ → Bool
is_told_as_executed events switches i = list_any (λ t. list_any (tells_event events i) t.events) switches

-- an executed line of a switch has a name
abbrev pub executed_as_told : ℕ → Name → Executed → Bool
executed_as_told switch name y = same_name (switch, y.life, y.number) name

-- of these switches, from this number on, one has such a line
abbrev pub is_executed : ℕ → List SwitchRecord → Name → Bool
is_executed switch [] name = false
is_executed switch (t ∷ switches) name = list_any (executed_as_told switch name) t.executed || is_executed (switch + 1) switches name

-- the evidence is that of a report
pub record IsEvidence (kinds : List ℕ) (r : Record) (e : Evidence) : Type 0 where
  pub told : (i : ℕ) → get_or e.told.items i false ≡ is_told_as_executed (received r.log) r.switches i
  pub executed : (q : Name) → is_some (value_of e.executed q) ≡ is_executed 0 r.switches q
  pub names : e.names ≡ map (λ list. map issued_name list) (issues kinds r.setup (received r.log))

abbrev pub is_settled_by : Evidence → Following → Name → Bool
is_settled_by e f name = is_some (value_of e.executed name) || has_begun f name.0 name.1

abbrev pub entry_fails_by : Evidence → Following → Entry → Bool
entry_fails_by e f (Received event) = not (may_go_behind f (Received event) && get_or e.told.items f.received false)
entry_fails_by e f (Processed j) = not (may_go_behind f (Processed j) && list_all (is_settled_by e f) (slice_index_or e.names j []))

-- what is committed is that of a report
pub record IsCommittedLog (kinds : List ℕ) (r : Record) (c : Committed) : Type 0 where
  pub events : c.received ≡ received r.log
  pub finished : c.processed ≡ processed r.log
  pub orders : HoldsOrders (concat (issues kinds r.setup (received r.log))) c.orders

-- a place is below a number
abbrev pub is_below : ℕ → Option ℕ → Bool
is_below n None = false
is_below n (Some i) = nat_lt i n

abbrev pub is_processed_in : Committed → Event → Bool
is_processed_in c line = is_below c.processed (equal_at c.received line)

abbrev pub events_fail_by : Committed → ℕ → ℕ → List Event → List Bool
events_fail_by c life held [] = []
events_fail_by c life held (e ∷ events) =
    (nat_eq e.life life && nat_le held (count_by (λ f. nat_eq f.life life) events) && not (is_processed_in c e)) ∷ events_fail_by c life held events

abbrev pub order_fails : Option Order → Order → Bool
order_fails None order = true
order_fails (Some issued) order = not (same_order issued order)

abbrev pub executed_fails_by : Committed → ℕ → Executed → Bool
executed_fails_by c switch y = order_fails (value_of c.orders (switch, y.life, y.number)) y.order

abbrev pub told_fails_by : Committed → ℕ → SwitchRecord → List Bool
told_fails_by c switch t =
    false ∷ (events_fail_by c t.life t.held t.events ++ (map (executed_fails_by c switch) t.executed ++ replicate (length t.rows) false))

abbrev pub switches_fail_by : Committed → ℕ → List SwitchRecord → List Bool
switches_fail_by c switch [] = []
switches_fail_by c switch (t ∷ switches) = told_fails_by c switch t ++ switches_fail_by c (switch + 1) switches

-- how many lines of an outline there are up to that of the log
abbrev pub outline_before : Outline → ℕ
outline_before o = 3 + length o.bare.setup.ports + length o.bare.setup.links + length o.bare.setup.deny + o.journal_lines

-- whether each of its lines fails, of all but the last one
abbrev pub outline_fails : List ℕ → Outline → List Bool
outline_fails kinds o =
    replicate (outline_before o) false ++ (log_fails kinds o.bare [] o.bare.log ++ switches_fail kinds o.bare 0 o.bare.switches)
