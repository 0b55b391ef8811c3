-- A switch keeps its lists in order, whatever it takes: its buffer holds the last events of its life, no more than it has room for,
-- it is full while ports are remembered, and there are no more results than commands were carried out.
use Rattle.std.proofs.Common.{◌≡◌, ◌≤◌, ◌<◌, ℕ, zero, suc, ◌+◌, ◌-◌, Bool, true, not, ◌&&◌, List, [], ◌∷◌, length, refl, arith, length-append}
use Rattle.std.specs.Prelude.{nat_eq, nat_le, nat_lt, min, Option, Some, None, if◌then◌else◌}
use Rattle.std.proofs.lemmas.Bool.{and_parts, cond_both, leb-true}
use Rattle.std.proofs.lemmas.List.{length-drop}
use Rattle.of_types.specs.declared.message.Event.{Event}
use Rattle.of_types.specs.declared.message.Extension.{Extension}
use Rattle.of_types.specs.declared.message.Extension.TheVariants as extension
use Rattle.of_types.specs.declared.message.Happening.{Happening}
use Rattle.of_types.specs.declared.message.OfMessage.{OfMessage}
use Rattle.of_types.specs.declared.message.OfMessage.TheVariants as plain
use Rattle.of_types.specs.declared.message.Order.{Order}
use Rattle.of_types.specs.declared.message.Order.TheVariants as order
use Rattle.of_types.specs.declared.message.Outcome.{Outcome}
use Rattle.of_types.specs.declared.message.Outcome.TheVariants as outcome
use Rattle.of_types.specs.declared.message.Row.{Row}
use Rattle.of_types.specs.declared.message.Spoken.TheVariants as spoken
use Rattle.of_types.specs.declared.numbers.TheConstants.{TO_CONTROLLER}
use Rattle.of_types.specs.Lives.{last_life, switch_up}
use Rattle.of_types.specs.SmallSets.{AscendWithin, with_number, without_number}
use Rattle.of_types.proofs.Places.{ascend-with, ascend-without}
use Rattle.journal.specs.declared.journal.Actor.TheVariants as actor
use Rattle.journal.specs.declared.journal.Local.{Local}
use Rattle.journal.specs.declared.journal.Local.TheVariants as local
use Rattle.list_facts.specs.Lists.{IsIn}
use Rattle.role_fence.specs.declared.fence.RoleAnswer.{RoleAnswer}
use Rattle.role_fence.specs.declared.fence.RoleAnswer.TheVariants.{Reply, Stale, BadRole}
use Rattle.role_fence.specs.Fence.{may_execute, RoleStep, role_step}
use Rattle.event_buffer.specs.Buffer.{Buffer, cleared_to, highest_port, is_full, most_held, next_event, without_dirty}
use Rattle.event_buffer.proofs.Numbers.{has_room}
use Rattle.command_buffer.specs.declared.buffer.Offer.{Offer}
use Rattle.command_buffer.specs.declared.buffer.Offer.TheVariants.{Execute, Repeat, Ahead, Full}
use Rattle.command_buffer.specs.Results.{Results, first_kept, offer_of}
use Rattle.flow_table.specs.Table.{chosen_row}
use Rattle.flow_clock.specs.Clocked.{clock_told}
use Rattle.of_switch.proofs.Leaving.{any_left_told}
use Rattle.of_switch.specs.declared.says.SwitchInput.{SwitchInput}
use Rattle.of_switch.specs.declared.says.SwitchInput.TheVariants as switch_input
use Rattle.of_switch.specs.State.{SwitchState, SwitchTurn, quiet_switch, then_turn, rows_of, life_of}
use Rattle.of_switch.specs.Events.{raised, packet_raised, is_port_down, port_status, with_event, with_port, port_raised, is_port, on_port, remembers, tells_ports, next_life, on_event_ack, flow_removed}
use Rattle.of_switch.specs.Forwarding.{is_frame, is_port_up, targets, sends_to, puts_out, puts_all, packet_in_of, through_row, frame_fields_at, counting_ports, on_frame}
use Rattle.of_switch.specs.Commands.{done_as, counted_command, result_of, on_offer, settled, on_command}
use Rattle.of_switch.specs.Rules.{switch_on_local, on_role, switch_on_plain, on_own_life, life_said, switch_turn}
use Rattle.closing_laws.proofs.Truths.SwitchLists.{AreHeld, held_more, held_first, held_less, ascend_few, dirty_less, none_dirty, has_none}

-- lists of a switch, which has few ports
pub record AreInOrder (b : Buffer) (r : Results) (events : List Event) (ports : ℕ) (down : List ℕ) : Type 0 where
  pub are_held : AreHeld b.life b.cleared b.held events
  pub room : length b.held ≤ most_held
  pub results : length r.outcomes ≤ r.executed
  pub few : ports ≤ highest_port
  pub within : AscendWithin 1 ports down

abbrev pub HasLists : SwitchState → Type 0
HasLists s = AreInOrder s.buffer s.results s.events s.ports s.down

-- while ports are remembered the buffer is full
abbrev pub Remembers : Buffer → Type 0
Remembers b = 0 < length b.dirty → length b.held ≡ most_held

abbrev pub KeepsOrder : SwitchState → Type 0
KeepsOrder s = HasLists s × Remembers s.buffer

abbrev Keeps : SwitchTurn → Type 0
Keeps t = KeepsOrder t.state

-- a buffer that has room remembers no port
none_remembered : (b : Buffer) → Remembers b → length b.held < most_held → length b.dirty ≡ 0
none_remembered b h room = by_length (length b.dirty) refl
  where
    by_length : (n : ℕ) → length b.dirty ≡ n → n ≡ 0
    by_length zero e = refl
    by_length (suc n) e = let full = h (omega (arith, e)) in absurd (omega (arith, full, room))

-- ---- events are made

event_joins : (what : Happening) (s : SwitchState) → HasLists s → length s.buffer.held < most_held → HasLists (with_event s what)
event_joins what s h room =
    let long = length-append s.buffer.held (next_event s.buffer what ∷ []) in
    record {
      are_held = held_more s.buffer.life s.buffer.cleared s.buffer.held s.events (next_event s.buffer what) refl h.are_held;
      room = omega (arith, long, room);
      results = h.results;
      few = h.few;
      within = h.within;
    }

raised_keeps : (what : Happening) (s : SwitchState) → KeepsOrder s → length s.buffer.held < most_held → Keeps (raised what s)
raised_keeps what s h room = (event_joins what s h.0 room, λ some. let none = none_remembered s.buffer h.1 room in absurd (omega (arith, none, some)))

packet_keeps : (what : Happening) (s : SwitchState) → KeepsOrder s → Keeps (packet_raised what s)
packet_keeps what s h = cond_both (is_full s.buffer) (quiet_switch s) (raised what s) (λ (t : SwitchTurn). Keeps t) (λ _. h) (λ room. raised_keeps what s h (has_room s.buffer room))

port_keeps : (port : ℕ) (s : SwitchState) → KeepsOrder s → Keeps (port_raised port s)
port_keeps port s h =
    cond_both (is_full s.buffer) _ (raised (port_status s port) s) (λ (t : SwitchTurn). Keeps t)
    (λ full. (record { are_held = h.0.are_held; room = h.0.room; results = h.0.results; few = h.0.few; within = h.0.within }, λ some. has_none s.buffer h.0.room full))
    (λ room. raised_keeps (port_status s port) s h (has_room s.buffer room))

port_moves : (port : ℕ) (up : Bool) (s : SwitchState) → KeepsOrder s → is_port s port ≡ true → KeepsOrder (with_port s port up)
port_moves port up s h there =
    let both = and_parts (nat_le 1 port) (nat_le port s.ports) there in (
      record {
        are_held = h.0.are_held;
        room = h.0.room;
        results = h.0.results;
        few = h.0.few;
        within = cond_both up (without_number port s.down) (with_number port s.down) (λ (l : List ℕ). AscendWithin 1 s.ports l)
            (λ _. ascend-without port 1 s.ports s.down h.0.within)
            (λ _. ascend-with port 1 s.ports s.down (leb-true 1 port both.0) (leb-true port s.ports both.1) h.0.within);
      },
      h.1,
    )

ports_change : (port : ℕ) (up : Bool) (s : SwitchState) → KeepsOrder s → Keeps (on_port s port up)
ports_change port up s h =
    cond_both (is_port s port && (if up then is_port_down s port else not (is_port_down s port))) (port_raised port (with_port s port up)) (quiet_switch s) (λ (t : SwitchTurn). Keeps t)
    (λ moves. port_keeps port (with_port s port up) (port_moves port up s h (and_parts (is_port s port) (if up then is_port_down s port else not (is_port_down s port)) moves).0))
    (λ _. h)

-- ---- events leave, and ports that were remembered find room

remembered : (ports : List ℕ) (t : SwitchTurn) → HasLists t.state → ((d : ℕ) → IsIn d t.state.buffer.dirty → IsIn d ports) → Keeps (remembers ports t)
remembered [] t h only = (h, λ some. let none = none_dirty t.state.buffer.dirty only in absurd (omega (arith, none, some)))
remembered (port ∷ ports) t h only =
    let forgets : SwitchState = record t.state { buffer = without_dirty t.state.buffer port } in
    let next : SwitchTurn = then_turn t (λ s. raised (port_status s port) (record s { buffer = without_dirty s.buffer port })) in
    cond_both (is_full t.state.buffer) t (remembers ports next) (λ (u : SwitchTurn). Keeps u)
    (λ full. (h, λ some. has_none t.state.buffer h.room full))
    (λ room. remembered ports next
    (event_joins (port_status t.state port) forgets (record { are_held = h.are_held; room = h.room; results = h.results; few = h.few; within = h.within }) (has_room t.state.buffer room))
    (dirty_less port ports t.state.buffer.dirty only))

acknowledged : (s : SwitchState) (through : ℕ) → KeepsOrder s → Keeps (on_event_ack s through)
acknowledged s through h =
    let long = length-drop (cleared_to s.buffer through - s.buffer.cleared) s.buffer.held in
    let room = h.0.room in
    remembered s.buffer.dirty _ (record {
      are_held = held_less s.buffer.life s.buffer.cleared through s.buffer.held s.events h.0.are_held;
      room = omega (arith, long, room);
      results = h.0.results;
      few = h.0.few;
      within = h.0.within;
    }) (λ d k. k)

-- ---- a life begins

ports_told : (ports : List ℕ) (t : SwitchTurn) → HasLists t.state → length t.state.buffer.dirty ≡ 0 → length t.state.buffer.held + length ports ≤ most_held → Keeps (tells_ports ports t)
ports_told [] t h none room = (h, λ some. absurd (omega (arith, none, some)))
ports_told (port ∷ ports) t h none room =
    let long = length-append t.state.buffer.held (next_event t.state.buffer (port_status t.state port) ∷ []) in
    ports_told ports (then_turn t (λ s. raised (port_status s port) s)) (event_joins (port_status t.state port) t.state h (omega (arith, room))) none (omega (arith, room, long))

life_begins : (s : SwitchState) → KeepsOrder s → HasLists (raised switch_up (next_life s)).state
life_begins s h =
    record {
      are_held = held_first (life_of s + 1) s.events (next_event (next_life s).buffer switch_up) refl refl (λ l more. h.0.are_held.later l (omega (arith, more)));
      room = omega arith;
      results = omega arith;
      few = h.0.few;
      within = h.0.within;
    }

-- ---- frames, roles and commands

outputs_keep : (tells : SwitchState → SwitchTurn) → ((s : SwitchState) → KeepsOrder s → Keeps (tells s)) → (port : ℕ) (frame outputs : List ℕ) (t : SwitchTurn) → Keeps t → Keeps (puts_all tells port frame outputs t)
outputs_keep tells told port frame [] t h = h
outputs_keep tells told port frame (output ∷ outputs) t h =
    outputs_keep tells told port frame outputs (then_turn t (puts_out tells port frame output))
    (cond_both (nat_eq output TO_CONTROLLER) (tells t.state) (sends_to frame (targets t.state port output) t.state) (λ (u : SwitchTurn). Keeps u) (λ _. told t.state h) (λ _. h))

row_keeps : (port : ℕ) (frame : List ℕ) (s : SwitchState) (found : Option Row) → KeepsOrder s → Keeps (through_row s port frame found)
row_keeps port frame s None h = h
row_keeps port frame s (Some row) h = outputs_keep (packet_raised (packet_in_of row port frame)) (packet_keeps (packet_in_of row port frame)) port frame row.actions (quiet_switch s) h

frame_keeps : (port : ℕ) (frame : List ℕ) (s : SwitchState) → KeepsOrder s → Keeps (on_frame s port frame)
frame_keeps port frame s h =
    let found : Option Row = chosen_row (rows_of s) (frame_fields_at port frame) in
    cond_both (is_port_up s port && is_frame frame) (counting_ports port frame (through_row s port frame found)) (quiet_switch s) (λ (t : SwitchTurn). Keeps t) (λ _. row_keeps port frame s found h) (λ _. h)

role_keeps : (s : SwitchState) (from xid asked : ℕ) (step : RoleStep) (answer : RoleAnswer) → KeepsOrder s → Keeps (on_role s from xid asked step answer)
role_keeps s from xid asked step (Reply role generation) h = h
role_keeps s from xid asked step (Stale seen generation) h = h
role_keeps s from xid asked step BadRole h = h

plain_keeps : (s : SwitchState) (from xid : ℕ) (m : OfMessage) → KeepsOrder s → Keeps (switch_on_plain s from xid m)
plain_keeps s from xid (plain.RoleRequest role generation) h = let step = role_step s.fence from role generation in role_keeps s from xid role step step.answer h
plain_keeps s from xid _ h = h

-- results go
results_less : (s : SwitchState) (through : ℕ) → KeepsOrder s → KeepsOrder (settled s through)
results_less s through h =
    let long = length-drop (min through s.results.executed - first_kept s.results) s.results.outcomes in
    let few = h.0.results in
    (record { are_held = h.0.are_held; room = h.0.room; results = omega (arith, long, few); few = h.0.few; within = h.0.within }, h.1)

done_keeps : (s : SwitchState) (what : Order) (result : Outcome) → KeepsOrder s → Keeps (done_as result what s)
done_keeps s (order.PacketOut out) outcome.Done h = outputs_keep quiet_switch (λ n k. k) out.in_port out.payload out.actions (quiet_switch s) h
done_keeps s (order.FlowMod change) outcome.Done h = h
done_keeps s what (outcome.Failed kind code) h = h
done_keeps s what outcome.Cleared h = h

counts : (s : SwitchState) (from generation number : ℕ) (what : Order) (result : Outcome) → KeepsOrder s → KeepsOrder (counted_command from generation number what result s)
counts s from generation number what result h =
    let long = length-append s.results.outcomes (result ∷ []) in
    let few = h.0.results in
    (record { are_held = h.0.are_held; room = h.0.room; results = omega (arith, long, few); few = h.0.few; within = h.0.within }, h.1)

offered : (s : SwitchState) (from generation number : ℕ) (what : Order) (o : Offer) → KeepsOrder s → Keeps (on_offer s from generation number what o)
offered s from generation number what Execute h =
    counts (done_as (result_of s what) what s).state from generation number what (result_of s what) (done_keeps s what (result_of s what) h)
offered s from generation number what (Repeat result) h = h
offered s from generation number what Ahead h = h
offered s from generation number what Full h = h

commanded : (s : SwitchState) (from xid generation number through : ℕ) (what : Order) → KeepsOrder s → Keeps (on_command s from xid generation number through what)
commanded s from xid generation number through what h =
    cond_both (may_execute s.fence from generation) _ _ (λ (t : SwitchTurn). Keeps t)
    (λ _. offered (settled s through) from generation number what (offer_of (settled s through).results number) (results_less s through h)) (λ _. h)

-- ---- whole turns

own_life : (s : SwitchState) (from xid : ℕ) (said : Extension) → KeepsOrder s → Keeps (on_own_life s from xid said)
own_life s from xid (extension.EventAck life through) h = acknowledged s through h
own_life s from xid (extension.Command life generation number through what) h = commanded s from xid generation number through what h
own_life s from xid (extension.Clear life through) h = results_less s through h
own_life s from xid _ h = h

locally : (s : SwitchState) (what : Local) → KeepsOrder s → Keeps (switch_on_local s what)
locally s (local.Frame port frame) h = frame_keeps port frame s h
locally s (local.Port port up) h = ports_change port up s h
locally s local.Tick h = any_left_told KeepsOrder (λ e now room k. raised_keeps (flow_removed e) now k (has_room now.buffer room)) (clock_told s.table) s h
locally s local.Restart h =
    cond_both (nat_lt (life_of s) last_life) _ _ (λ (t : SwitchTurn). Keeps t)
    (λ _. ports_told s.down (raised switch_up (next_life s)) (life_begins s h) refl
    (let few = ascend_few 1 s.ports s.down (omega arith) h.0.within in let most = h.0.few in omega (arith, few, most)))
    (λ _. h)
locally s _ h = h

pub order_kept : (s : SwitchState) (x : SwitchInput) → KeepsOrder s → Keeps (switch_turn s x)
unfolding switch_turn
order_kept s (switch_input.Local what) h = locally s what h
order_kept s (switch_input.Of from xid (spoken.Plain m)) h = plain_keeps s from xid m h
order_kept s (switch_input.Of from xid (spoken.Ravana said)) h =
    cond_both (nat_eq (life_said said) (life_of s)) _ _ (λ (t : SwitchTurn). Keeps t) (λ _. own_life s from xid said h) (λ _. h)
order_kept s (switch_input.Malformed (actor.Controller c) kind code xid head) h = h
order_kept s (switch_input.Malformed (actor.Switch t) kind code xid head) h = h
order_kept s (switch_input.Frame from port frame) h = frame_keeps port frame s h
