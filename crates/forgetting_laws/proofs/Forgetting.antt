-- A switch that forgets its past says what one says that forgets nothing.
use Rattle.std.proofs.Common.{◌≡◌, ℕ, Bool, true, false, List, [], ◌∷◌, ◌++◌, refl, sym, ◌∙◌, ap}
use Rattle.std.specs.Prelude.{Option, Some, None, nat_eq, nat_le, nat_lt, not, ◌&&◌, if◌then◌else◌}
use Rattle.of_types.specs.declared.message.Extension.{Extension}
use Rattle.of_types.specs.declared.message.Extension.TheVariants as extension
use Rattle.of_types.specs.declared.message.Happening.{Happening}
use Rattle.of_types.specs.declared.message.OfMessage.{OfMessage}
use Rattle.of_types.specs.declared.message.OfMessage.TheVariants as plain
use Rattle.of_types.specs.declared.message.Order.{Order}
use Rattle.of_types.specs.declared.message.Order.TheVariants as order
use Rattle.of_types.specs.declared.message.Outcome.{Outcome}
use Rattle.of_types.specs.declared.message.Outcome.TheVariants as outcome
use Rattle.of_types.specs.declared.message.Row.{Row}
use Rattle.of_types.specs.declared.message.Spoken.TheVariants as spoken
use Rattle.of_types.specs.declared.numbers.TheConstants.{TO_CONTROLLER, SEND_REMOVED}
use Rattle.of_types.specs.Lives.{last_life, switch_up}
use Rattle.journal.specs.declared.journal.Actor.{Actor}
use Rattle.journal.specs.declared.journal.Actor.TheVariants as actor
use Rattle.journal.specs.declared.journal.Letter.{Letter}
use Rattle.journal.specs.declared.journal.Local.{Local}
use Rattle.journal.specs.declared.journal.Local.TheVariants as local
use Rattle.role_fence.specs.declared.fence.RoleAnswer.{RoleAnswer}
use Rattle.role_fence.specs.declared.fence.RoleAnswer.TheVariants.{Reply, Stale, BadRole}
use Rattle.role_fence.specs.Fence.{RoleStep, role_step, may_execute}
use Rattle.command_buffer.specs.declared.buffer.Offer.{Offer}
use Rattle.command_buffer.specs.declared.buffer.Offer.TheVariants.{Execute, Repeat, Ahead, Full}
use Rattle.command_buffer.specs.Results.{offer_of}
use Rattle.event_buffer.specs.Buffer.{is_full, without_dirty}
use Rattle.flow_clock.specs.Clocked.{clock_told, clock_tick}
use Rattle.flow_clock.specs.declared.times.Expired.{Expired}
use Rattle.flow_table.specs.Table.{chosen_row}
use Rattle.of_switch.specs.declared.says.SwitchInput.{SwitchInput}
use Rattle.of_switch.specs.declared.says.SwitchInput.TheVariants as switch_input
use Rattle.of_switch.specs.declared.says.SwitchSays.{SwitchSays}
use Rattle.of_switch.specs.State.{SwitchState, SwitchTurn, quiet_switch, posts, then_turn, answers, greetings, life_of, rows_of, most_gone, without_past, forgets_past}
use Rattle.of_switch.specs.Events.{aged, flow_removed, is_port, is_port_down, next_life, noted_event, on_event_ack, on_port, packet_raised, port_raised, port_status, raised, remembers}
use Rattle.of_switch.specs.Events.{switch_on_restart, switch_on_tick, switch_tick_letters, tells_left, tells_ports, with_event, with_port}
use Rattle.of_switch.specs.Forwarding.{counting_ports, frame_fields_at, is_frame, is_port_up, on_frame, packet_in_of, puts_all, puts_out, through_row}
use Rattle.of_switch.specs.Commands.{counted_command, done_as, executes, letter_of_result, on_command, on_offer, result_of, settled}
use Rattle.of_switch.specs.Rules.{life_said, on_malformed, on_own_life, on_role, switch_on_extension, switch_on_local, switch_on_plain, switch_turn, told_master}
use Rattle.forgetting_laws.specs.Switches.{AreAlikeNow, AreTurnsAlike, SwitchStep, Turn, Forget, present, without_forgetting, said_by, switch_after}

-- ---- turns that ask for no more than is present

abbrev Respects : (SwitchState → SwitchTurn) → Type 0
Respects f = (s : SwitchState) → AreTurnsAlike (f s) (f (present s))

-- switches that agree take turns that do
alike_turns : (f : SwitchState → SwitchTurn) → Respects f → (s t : SwitchState) → AreAlikeNow s t → AreTurnsAlike (f s) (f t)
alike_turns f respects s t h = record {
  letters = (respects s).letters ∙ ap (λ (z : SwitchState). (f z).letters) h ∙ sym (respects t).letters;
  state = (respects s).state ∙ ap (λ (z : SwitchState). present (f z).state) h ∙ sym (respects t).state;
}

-- one turn, and then another
after_turn : (f : SwitchState → SwitchTurn) → Respects f → (a b : SwitchTurn) → AreTurnsAlike a b → AreTurnsAlike (then_turn a f) (then_turn b f)
after_turn f respects a b same =
    let next = alike_turns f respects a.state b.state same.state in
    record {
      letters =
          ap (λ (l : List (Letter SwitchSays)). l ++ (f a.state).letters) same.letters
          ∙ ap (λ (l : List (Letter SwitchSays)). b.letters ++ l) next.letters;
      state = next.state;
    }

-- one of two, by the same test
either : (a a' c c' : SwitchTurn) (x y : Bool) → x ≡ y → AreTurnsAlike a a' → AreTurnsAlike c c' → AreTurnsAlike (if x then a else c) (if y then a' else c')
either a a' c c' true true e taken other = taken
either a a' c c' false false e taken other = other
either a a' c c' true false e taken other = absurd cc
either a a' c c' false true e taken other = absurd cc

quiet_respects : Respects quiet_switch
quiet_respects s = record { letters = refl; state = refl }

-- ---- events

raised_respects : (what : Happening) → Respects (raised what)
raised_respects what s = record { letters = refl; state = refl }

packet_respects : (what : Happening) → Respects (packet_raised what)
packet_respects what s = either _ _ _ _ (is_full s.buffer) (is_full s.buffer) refl (quiet_respects s) (raised_respects what s)

status_respects : (port : ℕ) → Respects (λ s. raised (port_status s port) s)
status_respects port s = record { letters = refl; state = refl }

port_respects : (port : ℕ) → Respects (port_raised port)
port_respects port s = either _ _ _ _ (is_full s.buffer) (is_full s.buffer) refl (record { letters = refl; state = refl }) (status_respects port s)

on_port_respects : (port : ℕ) (up : Bool) → Respects (λ s. on_port s port up)
on_port_respects port up s =
    let changes = is_port s port && (if up then is_port_down s port else not (is_port_down s port)) in
    either _ _ _ _ changes changes refl (port_respects port (with_port s port up)) (quiet_respects s)

-- ports that were remembered find room
found_room : (port : ℕ) → Respects (λ s. raised (port_status s port) (record s { buffer = without_dirty s.buffer port }))
found_room port s = record { letters = refl; state = refl }

remembers_same : (ports : List ℕ) (a b : SwitchTurn) → AreTurnsAlike a b → AreTurnsAlike (remembers ports a) (remembers ports b)
remembers_same [] a b same = same
remembers_same (port ∷ ports) a b same =
    either _ _ _ _ (is_full a.state.buffer) (is_full b.state.buffer) (ap (λ (z : SwitchState). is_full z.buffer) same.state) same
    (remembers_same ports _ _ (after_turn (λ s. raised (port_status s port) (record s { buffer = without_dirty s.buffer port })) (found_room port) a b same))

ack_respects : (through : ℕ) → Respects (λ s. on_event_ack s through)
ack_respects through s = remembers_same s.buffer.dirty _ _ (record { letters = refl; state = refl })

-- a new life
tells_ports_same : (ports : List ℕ) (a b : SwitchTurn) → AreTurnsAlike a b → AreTurnsAlike (tells_ports ports a) (tells_ports ports b)
tells_ports_same [] a b same = same
tells_ports_same (port ∷ ports) a b same = tells_ports_same ports _ _ (after_turn (λ s. raised (port_status s port) s) (status_respects port) a b same)

greets_respects : Respects (λ now. posts now (greetings now))
greets_respects s = record { letters = refl; state = refl }

restart_respects : Respects switch_on_restart
restart_respects s =
    let first = alike_turns (raised switch_up) (raised_respects switch_up) (next_life s) (next_life (present s)) refl in
    let begins = tells_ports_same s.down (raised switch_up (next_life s)) (raised switch_up (next_life (present s))) first in
    either _ _ _ _ (nat_lt (life_of s) last_life) (nat_lt (life_of s) last_life) refl
    (after_turn (λ now. posts now (greetings now)) greets_respects _ _ begins) (quiet_respects s)

-- a tick
noted_alike : (what : Happening) (s t : SwitchState) → AreAlikeNow s t → AreAlikeNow (noted_event what s) (noted_event what t)
noted_alike what s t h = by_room (is_full s.buffer) (is_full t.buffer) (ap (λ (z : SwitchState). is_full z.buffer) h)
  where
    by_room : (x y : Bool) → x ≡ y → AreAlikeNow (if x then s else with_event s what) (if y then t else with_event t what)
    by_room true true e = h
    by_room false false e = ap (λ (z : SwitchState). present (with_event z what)) h
    by_room true false e = absurd cc
    by_room false true e = absurd cc

tells_left_alike : (left : List Expired) (s t : SwitchState) → AreAlikeNow s t → AreAlikeNow (tells_left left s) (tells_left left t)
tells_left_alike [] s t h = h
tells_left_alike (e ∷ left) s t h = tells_left_alike left _ _ (asked (nat_eq e.flags SEND_REMOVED))
  where
    asked : (b : Bool) → AreAlikeNow (if b then noted_event (flow_removed e) s else s) (if b then noted_event (flow_removed e) t else t)
    asked true = noted_alike (flow_removed e) s t h
    asked false = h

aged_alike : (s : SwitchState) → AreAlikeNow (aged s) (aged (present s))
aged_alike s = ap (λ (z : SwitchState). present (record z { table = clock_tick s.table })) (tells_left_alike (clock_told s.table) s (present s) refl)

tick_letters_same : (s t : SwitchState) (master : Option ℕ) → AreAlikeNow s t → switch_tick_letters s master ≡ switch_tick_letters t master
tick_letters_same s t None h = ap (λ (z : SwitchState). switch_tick_letters z None) h
tick_letters_same s t (Some c) h = ap (λ (z : SwitchState). switch_tick_letters z (Some c)) h

tick_respects : Respects switch_on_tick
tick_respects s = record { letters = tick_letters_same (aged s) (aged (present s)) s.fence.master (aged_alike s); state = aged_alike s }

-- ---- frames

puts_out_respects : (tells : SwitchState → SwitchTurn) → Respects tells → (port : ℕ) (frame : List ℕ) (output : ℕ) → Respects (puts_out tells port frame output)
puts_out_respects tells respects port frame output s =
    either _ _ _ _ (nat_eq output TO_CONTROLLER) (nat_eq output TO_CONTROLLER) refl (respects s) (record { letters = refl; state = refl })

puts_all_same : (tells : SwitchState → SwitchTurn) → Respects tells → (port : ℕ) (frame outputs : List ℕ) (a b : SwitchTurn) → AreTurnsAlike a b →
    AreTurnsAlike (puts_all tells port frame outputs a) (puts_all tells port frame outputs b)
puts_all_same tells respects port frame [] a b same = same
puts_all_same tells respects port frame (output ∷ outputs) a b same =
    puts_all_same tells respects port frame outputs _ _
    (after_turn (puts_out tells port frame output) (puts_out_respects tells respects port frame output) a b same)

row_respects : (port : ℕ) (frame : List ℕ) (row : Option Row) → Respects (λ s. through_row s port frame row)
row_respects port frame None s = quiet_respects s
row_respects port frame (Some row) s =
    let what = packet_in_of row port frame in
    puts_all_same (packet_raised what) (packet_respects what) port frame row.actions (quiet_switch s) (quiet_switch (present s)) (quiet_respects s)

counted_same : (port : ℕ) (frame : List ℕ) (a b : SwitchTurn) → AreTurnsAlike a b → AreTurnsAlike (counting_ports port frame a) (counting_ports port frame b)
counted_same port frame a b same = record { letters = same.letters; state = ap (λ (z : SwitchState). (counting_ports port frame (quiet_switch z)).state) same.state }

frame_respects : (port : ℕ) (frame : List ℕ) → Respects (λ s. on_frame s port frame)
frame_respects port frame s =
    let taken = is_port_up s port && is_frame frame in
    either _ _ _ _ taken taken refl
    (counted_same port frame _ _ (row_respects port frame (chosen_row (rows_of s) (frame_fields_at port frame)) s)) (quiet_respects s)

-- ---- messages of OpenFlow

told_respects : (from asked : ℕ) → Respects (told_master from asked)
told_respects from asked s = record { letters = refl; state = refl }

role_respects : (from xid asked : ℕ) (step : RoleStep) (answer : RoleAnswer) → Respects (λ s. on_role s from xid asked step answer)
role_respects from xid asked step (Reply role generation) s =
    after_turn (told_master from asked) (told_respects from asked)
    (answers (record s { fence = step.fence }) from xid (spoken.Plain (plain.RoleReply role generation)))
    (answers (record (present s) { fence = step.fence }) from xid (spoken.Plain (plain.RoleReply role generation)))
    (record { letters = refl; state = refl })
role_respects from xid asked step (Stale seen generation) s = record { letters = refl; state = refl }
role_respects from xid asked step BadRole s = record { letters = refl; state = refl }

plain_respects : (from xid : ℕ) (said : OfMessage) → Respects (λ s. switch_on_plain s from xid said)
plain_respects from xid plain.Hello s = record { letters = refl; state = refl }
plain_respects from xid (plain.Error kind code head) s = record { letters = refl; state = refl }
plain_respects from xid (plain.EchoRequest body) s = record { letters = refl; state = refl }
plain_respects from xid (plain.EchoReply body) s = record { letters = refl; state = refl }
plain_respects from xid plain.FeaturesRequest s = record { letters = refl; state = refl }
plain_respects from xid plain.BarrierRequest s = record { letters = refl; state = refl }
plain_respects from xid (plain.RoleRequest role generation) s =
    let step = role_step s.fence from role generation in role_respects from xid role step step.answer s
plain_respects from xid (plain.PacketOut out) s = record { letters = refl; state = refl }
plain_respects from xid (plain.FlowMod change) s = record { letters = refl; state = refl }
plain_respects from xid (plain.Experimenter body) s = record { letters = refl; state = refl }
plain_respects from xid (plain.FeaturesReply datapath) s = record { letters = refl; state = refl }
plain_respects from xid (plain.PacketIn p) s = record { letters = refl; state = refl }
plain_respects from xid (plain.FlowRemoved r) s = record { letters = refl; state = refl }
plain_respects from xid (plain.PortStatus p) s = record { letters = refl; state = refl }
plain_respects from xid plain.BarrierReply s = record { letters = refl; state = refl }
plain_respects from xid (plain.RoleReply role generation) s = record { letters = refl; state = refl }

-- ---- commands

done_respects : (result : Outcome) (what : Order) → Respects (done_as result what)
done_respects outcome.Done (order.PacketOut out) s =
    puts_all_same quiet_switch quiet_respects out.in_port out.payload out.actions (quiet_switch s) (quiet_switch (present s)) (quiet_respects s)
done_respects outcome.Done (order.FlowMod change) s = record { letters = refl; state = refl }
done_respects (outcome.Failed kind code) what s = quiet_respects s
done_respects outcome.Cleared what s = quiet_respects s

-- a command is carried out, with a result that is known
carried_out : (from generation number : ℕ) (what : Order) (life : ℕ) (result : Outcome) →
    Respects (λ s. then_turn (done_as result what s) (λ now. posts (counted_command from generation number what result now) (letter_of_result from life number result ∷ [])))
carried_out from generation number what life result s =
    after_turn (λ now. posts (counted_command from generation number what result now) (letter_of_result from life number result ∷ []))
    (λ z. record { letters = refl; state = refl }) _ _ (done_respects result what s)

executes_respects : (from generation number : ℕ) (what : Order) → Respects (λ s. executes s from generation number what)
executes_respects from generation number (order.PacketOut out) s =
    carried_out from generation number (order.PacketOut out) (life_of s) (result_of s (order.PacketOut out)) s
executes_respects from generation number (order.FlowMod change) s =
    carried_out from generation number (order.FlowMod change) (life_of s) (result_of s (order.FlowMod change)) s

offer_respects : (from generation number : ℕ) (what : Order) (offer : Offer) → Respects (λ s. on_offer s from generation number what offer)
offer_respects from generation number what Execute s = executes_respects from generation number what s
offer_respects from generation number what (Repeat result) s = record { letters = refl; state = refl }
offer_respects from generation number what Ahead s = quiet_respects s
offer_respects from generation number what Full s = quiet_respects s

command_respects : (from xid generation number through : ℕ) (what : Order) → Respects (λ s. on_command s from xid generation number through what)
command_respects from xid generation number through what s =
    let passes = may_execute s.fence from generation in
    either _ _ _ _ passes passes refl
    (offer_respects from generation number what (offer_of (settled s through).results number) (settled s through)) (record { letters = refl; state = refl })

-- ---- messages of the extension

own_life_respects : (from xid : ℕ) (said : Extension) → Respects (λ s. on_own_life s from xid said)
own_life_respects from xid (extension.Event life number what) s = record { letters = refl; state = refl }
own_life_respects from xid (extension.EventAck life through) s = ack_respects through s
own_life_respects from xid (extension.Command life generation number through what) s = command_respects from xid generation number through what s
own_life_respects from xid (extension.CmdAck life number result) s = record { letters = refl; state = refl }
own_life_respects from xid (extension.Clear life through) s = record { letters = refl; state = refl }

extension_respects : (from xid : ℕ) (said : Extension) → Respects (λ s. switch_on_extension s from xid said)
extension_respects from xid said s =
    let own = nat_eq (life_said said) (life_of s) in either _ _ _ _ own own refl (own_life_respects from xid said s) (quiet_respects s)

-- ---- each input

local_respects : (what : Local) → Respects (λ s. switch_on_local s what)
local_respects (local.Frame port bytes) s = frame_respects port bytes s
local_respects (local.Port port up) s = on_port_respects port up s
local_respects local.Tick s = tick_respects s
local_respects (local.Suspect view) s = quiet_respects s
local_respects local.Crash s = quiet_respects s
local_respects local.Restart s = restart_respects s

malformed_respects : (sender : Actor) (kind code xid : ℕ) (head : List ℕ) → Respects (λ s. on_malformed s sender kind code xid head)
malformed_respects (actor.Controller from) kind code xid head s = record { letters = refl; state = refl }
malformed_respects (actor.Switch from) kind code xid head s = quiet_respects s

turn_respects : (input : SwitchInput) → Respects (λ s. switch_turn s input)
unfolding switch_turn
turn_respects (switch_input.Local what) s = local_respects what s
turn_respects (switch_input.Of from xid (spoken.Plain message)) s = plain_respects from xid message s
turn_respects (switch_input.Of from xid (spoken.Ravana message)) s = extension_respects from xid message s
turn_respects (switch_input.Malformed from kind code xid head) s = malformed_respects from kind code xid head s
turn_respects (switch_input.Frame from port bytes) s = frame_respects port bytes s

pub turns_alike : (s t : SwitchState) (input : SwitchInput) → AreAlikeNow s t → AreTurnsAlike (switch_turn s input) (switch_turn t input)
turns_alike s t input h = alike_turns (λ z. switch_turn z input) (turn_respects input) s t h

-- ---- turns, and forgetting between them

pub forgotten_alike : (s : SwitchState) → AreAlikeNow (forgets_past s) s
forgotten_alike s = by_test (nat_le (without_past s).gone most_gone)
  where
    by_test : (b : Bool) → AreAlikeNow (if b then without_past s else s) s
    by_test true = refl
    by_test false = refl

said_same : (steps : List SwitchStep) (s t : SwitchState) → AreAlikeNow s t → said_by s steps ≡ said_by t (without_forgetting steps)
said_same [] s t h = refl
said_same (Turn input ∷ steps) s t h =
    let turn = turns_alike s t input h in
    ap (λ (l : List (Letter SwitchSays)). l ∷ said_by (switch_turn s input).state steps) turn.letters
    ∙ ap (λ (l : List (List (Letter SwitchSays))). (switch_turn t input).letters ∷ l) (said_same steps _ _ turn.state)
said_same (Forget ∷ steps) s t h = said_same steps (forgets_past s) t (forgotten_alike s ∙ h)

left_same : (steps : List SwitchStep) (s t : SwitchState) → AreAlikeNow s t → AreAlikeNow (switch_after s steps) (switch_after t (without_forgetting steps))
left_same [] s t h = h
left_same (Turn input ∷ steps) s t h = left_same steps _ _ (turns_alike s t input h).state
left_same (Forget ∷ steps) s t h = left_same steps (forgets_past s) t (forgotten_alike s ∙ h)

pub said_alike : (s : SwitchState) (steps : List SwitchStep) → said_by s steps ≡ said_by s (without_forgetting steps)
said_alike s steps = said_same steps s s refl

pub left_alike : (s : SwitchState) (steps : List SwitchStep) → AreAlikeNow (switch_after s steps) (switch_after s (without_forgetting steps))
left_alike s steps = left_same steps s s refl
