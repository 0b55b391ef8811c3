-- What a turn of a switch makes of the rows of its table: they change by the FLOW_MOD of a command that it carries out, some
-- leave at a tick, and they open anew with a life.
use Rattle.std.proofs.Common.{◌≡◌, ℕ, ◌&&◌, List, [], ◌∷◌, length, refl, ◌∙◌, ap, inl}
use Rattle.std.specs.Prelude.{nat_eq, nat_lt}
use Rattle.std.proofs.lemmas.Bool.{cond_both}
use Rattle.of_types.specs.declared.message.Executed.{Executed}
use Rattle.of_types.specs.declared.message.Extension.{Extension}
use Rattle.of_types.specs.declared.message.Extension.TheVariants as extension
use Rattle.of_types.specs.declared.message.FlowMod.{FlowMod}
use Rattle.of_types.specs.declared.message.Order.{Order}
use Rattle.of_types.specs.declared.message.Order.TheVariants as order
use Rattle.of_types.specs.declared.message.Outcome.{Outcome}
use Rattle.of_types.specs.declared.message.Outcome.TheVariants as outcome
use Rattle.of_types.specs.declared.message.Spoken.TheVariants as spoken
use Rattle.of_types.specs.Lives.{last_life, switch_up}
use Rattle.journal.specs.declared.journal.Actor.TheVariants as actor
use Rattle.journal.specs.declared.journal.Local.{Local}
use Rattle.journal.specs.declared.journal.Local.TheVariants as local
use Rattle.list_facts.proofs.Elements.{in_right}
use Rattle.list_facts.specs.Lists.{IsIn}
use Rattle.role_fence.specs.Fence.{may_execute}
use Rattle.command_buffer.specs.declared.buffer.Offer.{Offer}
use Rattle.command_buffer.specs.declared.buffer.Offer.TheVariants.{Execute, Repeat, Ahead, Full}
use Rattle.command_buffer.specs.Results.{offer_of}
use Rattle.flow_table.specs.Table.{opening_rows, chosen_row, table_step}
use Rattle.flow_clock.specs.Clocked.{Clocked, rows_in, clock_tick}
use Rattle.flow_clock.proofs.Remaining.{changed_rows, hit_rows}
use Rattle.flow_clock.specs.Holding.{clocked_of}
use Rattle.run_laws.proofs.SwitchTables.Tables.{row_keeps, outputs_keep, port_change_keeps, remembers_keeps, ports_keep, plain_keeps}
use Rattle.of_switch.specs.declared.says.SwitchInput.{SwitchInput}
use Rattle.of_switch.specs.declared.says.SwitchInput.TheVariants as switch_input
use Rattle.of_switch.specs.State.{SwitchState, SwitchTurn, quiet_switch, posts, then_turn, rows_of, life_of}
use Rattle.of_switch.specs.Events.{raised, next_life}
use Rattle.of_switch.specs.Forwarding.{is_frame, is_port_up, through_row, frame_fields_at, counting_ports, on_frame}
use Rattle.of_switch.specs.Commands.{done_as, counted_command, result_letter, result_of, on_offer, settled, on_command}
use Rattle.of_switch.specs.Rules.{switch_on_local, on_own_life, life_said, switch_turn}

-- the rows after a turn: those before it, those that a tick leaves of them, those of a new life, or those before it with the
-- change of a command that is carried out
pub data RowsAfter (s : SwitchState) (t : SwitchTurn) : Type 0 where
  Same : rows_of t.state ≡ rows_of s → RowsAfter s t
  Aged : rows_of t.state ≡ rows_in (clock_tick s.table) → RowsAfter s t
  Opening : rows_of t.state ≡ opening_rows → RowsAfter s t
  Changed : (change : FlowMod) (x : Executed) → IsIn x t.state.executed → x.order ≡ order.FlowMod change → rows_of t.state ≡ table_step (rows_of s) change → RowsAfter s t

-- a turn that leaves the table leaves its rows
abbrev keeps : (s : SwitchState) (t : SwitchTurn) → t.state.table ≡ s.table → RowsAfter s t
keeps s t h = Same (ap rows_in h)

frame_keeps : (port : ℕ) (frame : List ℕ) (s : SwitchState) → RowsAfter s (on_frame s port frame)
frame_keeps port frame s =
    let met : SwitchTurn = through_row s port frame (chosen_row (rows_of s) (frame_fields_at port frame)) in
    cond_both (is_port_up s port && is_frame frame) (counting_ports port frame met) (quiet_switch s) (λ (t : SwitchTurn). RowsAfter s t)
    (λ _. Same (hit_rows met.state.table (frame_fields_at port frame) (length frame) ∙ ap rows_in (row_keeps s.table port frame s (chosen_row (rows_of s) (frame_fields_at port frame)) refl)))
    (λ _. Same refl)

-- a command that is carried out with this result
carried : (s now : SwitchState) (from generation number : ℕ) (what : Order) (result : Outcome) → now.table ≡ s.table →
    RowsAfter s (then_turn (done_as result what now) (λ n. posts (counted_command from generation number what result n) (result_letter now from number result ∷ [])))
carried s now from generation number (order.PacketOut out) outcome.Done h = keeps s _ (outputs_keep s.table quiet_switch (λ n k. k) out.in_port out.payload out.actions (quiet_switch now) h)
carried s now from generation number (order.FlowMod change) outcome.Done h =
    let new : Executed = record { life = life_of now; number = number; generation = generation; from = from; order = order.FlowMod change } in
    Changed change new (in_right new now.executed (new ∷ []) (inl refl)) refl (changed_rows now.table change ∙ ap (λ (t : Clocked). table_step (rows_in t) change) h)
carried s now from generation number what (outcome.Failed kind code) h = keeps s _ h
carried s now from generation number what outcome.Cleared h = keeps s _ h

offered : (s now : SwitchState) (from generation number : ℕ) (what : Order) (o : Offer) → now.table ≡ s.table → RowsAfter s (on_offer now from generation number what o)
offered s now from generation number what Execute h = carried s now from generation number what (result_of now what) h
offered s now from generation number what (Repeat result) h = keeps s _ h
offered s now from generation number what Ahead h = keeps s _ h
offered s now from generation number what Full h = keeps s _ h

commanded : (s : SwitchState) (from xid generation number through : ℕ) (what : Order) → RowsAfter s (on_command s from xid generation number through what)
commanded s from xid generation number through what =
    cond_both (may_execute s.fence from generation) _ _ (λ (t : SwitchTurn). RowsAfter s t)
    (λ _. offered s (settled s through) from generation number what (offer_of (settled s through).results number) refl) (λ _. Same refl)

own_life : (s : SwitchState) (from xid : ℕ) (said : Extension) → RowsAfter s (on_own_life s from xid said)
own_life s from xid (extension.EventAck life through) = keeps s _ (remembers_keeps s.table s.buffer.dirty _ refl)
own_life s from xid (extension.Command life generation number through what) = commanded s from xid generation number through what
own_life s from xid _ = Same refl

locally : (s : SwitchState) (what : Local) → RowsAfter s (switch_on_local s what)
locally s (local.Frame port frame) = frame_keeps port frame s
locally s (local.Port port up) = keeps s _ (port_change_keeps s.table port up s refl)
locally s local.Tick = Aged refl
locally s local.Restart =
    cond_both (nat_lt (life_of s) last_life) _ _ (λ (t : SwitchTurn). RowsAfter s t)
    (λ _. Opening (ap rows_in (ports_keep (clocked_of []) s.down (raised switch_up (next_life s)) refl))) (λ _. Same refl)
locally s _ = Same refl

pub rows_after : (s : SwitchState) (x : SwitchInput) → RowsAfter s (switch_turn s x)
unfolding switch_turn
rows_after s (switch_input.Local what) = locally s what
rows_after s (switch_input.Of from xid (spoken.Plain m)) = keeps s _ (plain_keeps s.table s from xid m refl)
rows_after s (switch_input.Of from xid (spoken.Ravana said)) =
    cond_both (nat_eq (life_said said) (life_of s)) _ _ (λ (t : SwitchTurn). RowsAfter s t) (λ _. own_life s from xid said) (λ _. Same refl)
rows_after s (switch_input.Malformed (actor.Controller c) kind code xid head) = Same refl
rows_after s (switch_input.Malformed (actor.Switch t) kind code xid head) = Same refl
rows_after s (switch_input.Frame from port frame) = frame_keeps port frame s
