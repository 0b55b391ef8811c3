-- What a turn of a switch makes of its table.
use Rattle.std.proofs.Common.{◌≡◌, ℕ, Bool, true, false, not, ◌&&◌, List, [], ◌∷◌, ◌++◌, length, refl, sym, ◌∙◌, ap}
use Rattle.std.specs.Prelude.{nat_eq, nat_lt, Option, Some, None, if◌then◌else◌}
use Rattle.std.proofs.lemmas.Bool.{cond_both}
use Rattle.of_types.specs.declared.message.Extension.{Extension}
use Rattle.of_types.specs.declared.message.Extension.TheVariants as extension
use Rattle.of_types.specs.declared.message.Happening.{Happening}
use Rattle.of_types.specs.declared.message.OfMessage.{OfMessage}
use Rattle.of_types.specs.declared.message.OfMessage.TheVariants as plain
use Rattle.of_types.specs.declared.message.Order.{Order}
use Rattle.of_types.specs.declared.message.Order.TheVariants as order
use Rattle.of_types.specs.declared.message.Outcome.{Outcome}
use Rattle.of_types.specs.declared.message.Outcome.TheVariants as outcome
use Rattle.of_types.specs.declared.message.Row.{Row}
use Rattle.of_types.specs.declared.message.Spoken.TheVariants as spoken
use Rattle.of_types.specs.declared.numbers.TheConstants.{TO_CONTROLLER}
use Rattle.of_types.specs.Lives.{last_life, switch_up}
use Rattle.journal.specs.declared.journal.Actor.TheVariants as actor
use Rattle.journal.specs.declared.journal.Local.{Local}
use Rattle.journal.specs.declared.journal.Local.TheVariants as local
use Rattle.role_fence.specs.declared.fence.RoleAnswer.{RoleAnswer}
use Rattle.role_fence.specs.declared.fence.RoleAnswer.TheVariants.{Reply, Stale, BadRole}
use Rattle.role_fence.specs.Fence.{may_execute, RoleStep, role_step}
use Rattle.event_buffer.specs.Buffer.{is_full, without_dirty}
use Rattle.command_buffer.specs.declared.buffer.Offer.{Offer}
use Rattle.command_buffer.specs.declared.buffer.Offer.TheVariants.{Execute, Repeat, Ahead, Full}
use Rattle.command_buffer.specs.Results.{offer_of}
use Rattle.flow_table.specs.Table.{chosen_row}
use Rattle.flow_clock.specs.History.{Act, Tick, deeds_of}
use Rattle.flow_clock.specs.Clocked.{Clocked, is_last, clock_change, clock_hit, clock_risen}
use Rattle.flow_clock.specs.Holding.{clocked_of}
use Rattle.flow_clock.proofs.Held.{after_change, after_frame, after_tick}
use Rattle.of_switch.specs.declared.says.SwitchInput.{SwitchInput}
use Rattle.of_switch.specs.declared.says.SwitchInput.TheVariants as switch_input
use Rattle.of_switch.specs.State.{SwitchState, SwitchTurn, quiet_switch, then_turn, posts, greetings, rows_of, life_of}
use Rattle.of_switch.specs.Events.{raised, packet_raised, is_port_down, port_status, with_port, port_raised, is_port, on_port, remembers, tells_ports, next_life}
use Rattle.of_switch.specs.Forwarding.{is_frame, is_port_up, targets, sends_to, puts_out, puts_all, packet_in_of, through_row, frame_fields_at, counting_ports, on_frame}
use Rattle.of_switch.specs.Commands.{done_as, counted_command, result_letter, result_of, on_offer, settled, on_command}
use Rattle.of_switch.specs.Rules.{switch_on_local, on_role, switch_on_plain, on_own_life, life_said, switch_turn}
use Rattle.run_laws.specs.SwitchTables.Acts.{frame_acts, order_acts, offer_acts, command_acts, own_life_acts, acts_then}

-- a turn that leaves this table
module _ (table : Clocked) where
  abbrev Keeps : SwitchTurn → Type 0
  Keeps t = t.state.table ≡ table

  choice : (b : Bool) (x y : SwitchTurn) → Keeps x → Keeps y → Keeps (if b then x else y)
  choice b x y h k = cond_both b x y (λ (t : SwitchTurn). Keeps t) (λ _. h) (λ _. k)

  packet_keeps : (what : Happening) (s : SwitchState) → s.table ≡ table → Keeps (packet_raised what s)
  packet_keeps what s h = choice (is_full s.buffer) (quiet_switch s) (raised what s) h h

  port_keeps : (port : ℕ) (s : SwitchState) → s.table ≡ table → Keeps (port_raised port s)
  port_keeps port s h = choice (is_full s.buffer) _ (raised (port_status s port) s) h h

  pub port_change_keeps : (port : ℕ) (up : Bool) (s : SwitchState) → s.table ≡ table → Keeps (on_port s port up)
  port_change_keeps port up s h =
      choice (is_port s port && (if up then is_port_down s port else not (is_port_down s port))) (port_raised port (with_port s port up)) (quiet_switch s) (port_keeps port (with_port s port up) h) h

  pub remembers_keeps : (ports : List ℕ) (t : SwitchTurn) → Keeps t → Keeps (remembers ports t)
  remembers_keeps [] t h = h
  remembers_keeps (port ∷ ports) t h =
      let next : SwitchTurn = then_turn t (λ s. raised (port_status s port) (record s { buffer = without_dirty s.buffer port })) in
      choice (is_full t.state.buffer) t (remembers ports next) h (remembers_keeps ports next h)

  pub ports_keep : (ports : List ℕ) (t : SwitchTurn) → Keeps t → Keeps (tells_ports ports t)
  ports_keep [] t h = h
  ports_keep (port ∷ ports) t h = ports_keep ports (then_turn t (λ s. raised (port_status s port) s)) h

  pub outputs_keep : (tells : SwitchState → SwitchTurn) → ((s : SwitchState) → s.table ≡ table → Keeps (tells s)) → (port : ℕ) (frame outputs : List ℕ) (t : SwitchTurn) → Keeps t → Keeps (puts_all tells port frame outputs t)
  outputs_keep tells told port frame [] t h = h
  outputs_keep tells told port frame (output ∷ outputs) t h =
      outputs_keep tells told port frame outputs (then_turn t (puts_out tells port frame output))
      (choice (nat_eq output TO_CONTROLLER) (tells t.state) (sends_to frame (targets t.state port output) t.state) (told t.state h) h)

  pub row_keeps : (port : ℕ) (frame : List ℕ) (s : SwitchState) (found : Option Row) → s.table ≡ table → Keeps (through_row s port frame found)
  row_keeps port frame s None h = h
  row_keeps port frame s (Some row) h = outputs_keep (packet_raised (packet_in_of row port frame)) (packet_keeps (packet_in_of row port frame)) port frame row.actions (quiet_switch s) h

  role_keeps : (s : SwitchState) (from xid asked : ℕ) (step : RoleStep) (answer : RoleAnswer) → s.table ≡ table → Keeps (on_role s from xid asked step answer)
  role_keeps s from xid asked step (Reply role generation) h = h
  role_keeps s from xid asked step (Stale seen generation) h = h
  role_keeps s from xid asked step BadRole h = h

  pub plain_keeps : (s : SwitchState) (from xid : ℕ) (m : OfMessage) → s.table ≡ table → Keeps (switch_on_plain s from xid m)
  plain_keeps s from xid (plain.RoleRequest role generation) h = let step = role_step s.fence from role generation in role_keeps s from xid role step step.answer h
  plain_keeps s from xid _ h = h

-- ---- the table is that of what was done

module _ (s : SwitchState) (acts : List Act) (is : s.table ≡ clocked_of acts) where
  -- a turn, and what was done in it
  abbrev Does : SwitchTurn → List Act → Type 0
  Does t more = t.state.table ≡ clocked_of (more ++ acts)

  either : (b : Bool) (x y : SwitchTurn) (more none : List Act) → Does x more → Does y none → Does (if b then x else y) (if b then more else none)
  either true x y more none h k = h
  either false x y more none h k = k

  frame_does : (port : ℕ) (frame : List ℕ) → Does (on_frame s port frame) (frame_acts s port frame)
  frame_does port frame =
      let fields = frame_fields_at port frame in
      let met : SwitchTurn = through_row s port frame (chosen_row (rows_of s) fields) in
      either (is_port_up s port && is_frame frame) (counting_ports port frame met) (quiet_switch s) _ []
      (ap (λ (t : Clocked). clock_hit t fields (length frame)) (row_keeps s.table port frame s (chosen_row (rows_of s) fields) refl ∙ is)
      ∙ sym (after_frame fields (length frame) (deeds_of acts)))
      is

  tick_does : (b : Bool) → (if b then s.table else clock_risen s.table) ≡ clocked_of ((if b then [] else Tick ∷ []) ++ acts)
  tick_does true = is
  tick_does false = ap (λ (t : Clocked). clock_risen t) is ∙ sym (after_tick (deeds_of acts))

  carried_does : (now : SwitchState) (from generation number : ℕ) (what : Order) (result : Outcome) → now.table ≡ s.table →
      Does (then_turn (done_as result what now) (λ n. posts (counted_command from generation number what result n) (result_letter now from number result ∷ []))) (order_acts result what)
  carried_does now from generation number (order.PacketOut out) outcome.Done h = outputs_keep s.table quiet_switch (λ n k. k) out.in_port out.payload out.actions (quiet_switch now) h ∙ is
  carried_does now from generation number (order.FlowMod change) outcome.Done h =
      ap (λ (t : Clocked). clock_change t change) (h ∙ is) ∙ sym (after_change change (deeds_of acts))
  carried_does now from generation number (order.PacketOut out) (outcome.Failed kind code) h = h ∙ is
  carried_does now from generation number (order.FlowMod change) (outcome.Failed kind code) h = h ∙ is
  carried_does now from generation number (order.PacketOut out) outcome.Cleared h = h ∙ is
  carried_does now from generation number (order.FlowMod change) outcome.Cleared h = h ∙ is

  offer_does : (now : SwitchState) (from generation number : ℕ) (what : Order) (o : Offer) → now.table ≡ s.table → Does (on_offer now from generation number what o) (offer_acts now what o)
  offer_does now from generation number what Execute h = carried_does now from generation number what (result_of now what) h
  offer_does now from generation number what (Repeat result) h = h ∙ is
  offer_does now from generation number what Ahead h = h ∙ is
  offer_does now from generation number what Full h = h ∙ is

  command_does : (from xid generation number through : ℕ) (what : Order) → Does (on_command s from xid generation number through what) (command_acts s from generation number through what)
  command_does from xid generation number through what =
      either (may_execute s.fence from generation) _ _ _ [] (offer_does (settled s through) from generation number what (offer_of (settled s through).results number) refl) is

  own_life_does : (from xid : ℕ) (said : Extension) → Does (on_own_life s from xid said) (own_life_acts s from said)
  own_life_does from xid (extension.EventAck life through) = remembers_keeps s.table s.buffer.dirty _ refl ∙ is
  own_life_does from xid (extension.Command life generation number through what) = command_does from xid generation number through what
  own_life_does from xid (extension.Event life number what) = is
  own_life_does from xid (extension.CmdAck life number result) = is
  own_life_does from xid (extension.Clear life through) = is

  restart_does : (b : Bool) →
      (if b then then_turn (tells_ports s.down (raised switch_up (next_life s))) (λ now. posts now (greetings now)) else quiet_switch s).state.table ≡ clocked_of (if b then [] else acts)
  restart_does true = ports_keep (clocked_of []) s.down (raised switch_up (next_life s)) refl
  restart_does false = is

  local_does : (what : Local) → (switch_on_local s what).state.table ≡ clocked_of (acts_then s (switch_input.Local what) acts)
  local_does (local.Frame port frame) = frame_does port frame
  local_does (local.Port port up) = port_change_keeps s.table port up s refl ∙ is
  local_does local.Tick = tick_does (is_last s.table)
  local_does local.Restart = restart_does (nat_lt (life_of s) last_life)
  local_does (local.Suspect view) = is
  local_does local.Crash = is

  pub turn_does : (input : SwitchInput) → (switch_turn s input).state.table ≡ clocked_of (acts_then s input acts)
  unfolding switch_turn
  turn_does (switch_input.Local what) = local_does what
  turn_does (switch_input.Of from xid (spoken.Plain m)) = plain_keeps s.table s from xid m refl ∙ is
  turn_does (switch_input.Of from xid (spoken.Ravana said)) = either (nat_eq (life_said said) (life_of s)) _ _ _ [] (own_life_does from xid said) is
  turn_does (switch_input.Malformed (actor.Controller c) kind code xid head) = is
  turn_does (switch_input.Malformed (actor.Switch t) kind code xid head) = is
  turn_does (switch_input.Frame from port frame) = frame_does port frame
