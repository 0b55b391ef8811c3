-- What a switch makes of what happens, and when it sends it (Ravana, 4.1; OpenFlow 1.3, 7.4.1 and 7.4.3).
use Rattle.std.specs.Prelude.{ℕ, ◌+◌, ◌-◌, Bool, not, nat_eq, nat_le, nat_lt, ◌&&◌, ◌||◌, List, [], ◌∷◌, ◌++◌, length, take, drop, map, Option, Some, None, if◌then◌else◌}
use Rattle.std.specs.List.{list_any}
use Rattle.of_types.specs.declared.message.Event.{Event}
use Rattle.of_types.specs.declared.message.Extension.TheVariants as extension
use Rattle.of_types.specs.declared.message.Happening.{Happening}
use Rattle.of_types.specs.declared.message.Happening.TheVariants as happening
use Rattle.of_types.specs.declared.message.Spoken.TheVariants as spoken
use Rattle.of_types.specs.declared.numbers.TheConstants.{REASON_MODIFY, SEND_REMOVED}
use Rattle.of_types.specs.Lives.{last_life, switch_up}
use Rattle.of_types.specs.SmallSets.{with_number, without_number}
use Rattle.journal.specs.declared.journal.Letter.{Letter}
use Rattle.role_fence.specs.Fence.{starting_fence}
use Rattle.event_buffer.specs.Buffer.{is_full, next_event, with_posted, cleared_to, without_events_below, with_dirty, without_dirty, empty_buffer}
use Rattle.command_buffer.specs.Results.{no_results}
use Rattle.flow_clock.specs.declared.times.Expired.{Expired}
use Rattle.flow_clock.specs.Clocked.{clock_tick, clock_told}
use Rattle.flow_clock.specs.Holding.{clocked_of}
use Rattle.of_switch.specs.declared.says.SwitchSays.{SwitchSays}
use Rattle.of_switch.specs.State.{SwitchState, SwitchTurn, quiet_switch, posts, then_turn, to_controller, greetings, own_number_of, life_of}

-- how many events may be under way at once (our own choice)
abbrev pub window : ℕ
window = 8

-- the events of the buffer that may be under way
abbrev pub first_held : SwitchState → List Event
first_held s = take window s.buffer.held

abbrev pub event_letter : ℕ → Event → Letter SwitchSays
event_letter c e = to_controller c 0 (spoken.Ravana (extension.Event e.life e.number e.what))

-- letters of events to the master, where there is one (Ravana, 4.1)
abbrev pub event_letters : Option ℕ → List Event → List (Letter SwitchSays)
event_letters None events = []
event_letters (Some c) events = map (event_letter c) events

-- what happened joins the buffer as the next event (Ravana, 4.1)
abbrev pub with_event : SwitchState → Happening → SwitchState
with_event s what = record s { buffer = with_posted s.buffer what; events = s.events ++ next_event s.buffer what ∷ [] }

-- it is sent where it comes among the first
abbrev pub raised : Happening → SwitchState → SwitchTurn
raised what s =
    posts (with_event s what)
    (if nat_lt (length s.buffer.held) window then event_letters s.fence.master (next_event s.buffer what ∷ []) else [])

-- a packet-in that finds the buffer full is dropped without a number (our own rule)
abbrev pub packet_raised : Happening → SwitchState → SwitchTurn
packet_raised what s = if is_full s.buffer then quiet_switch s else raised what s

-- a port is down
abbrev pub is_port_down : SwitchState → ℕ → Bool
is_port_down s port = list_any (λ d. nat_eq d port) s.down

-- the present state of a port, as a change (OpenFlow 1.3, 7.4.3)
abbrev pub port_status : SwitchState → ℕ → Happening
port_status s port = happening.PortStatus (record { reason = REASON_MODIFY; port = port; up = not (is_port_down s port) })

-- a port goes down, or comes up
abbrev pub with_port : SwitchState → ℕ → Bool → SwitchState
with_port s port up = record s { down = if up then without_number port s.down else with_number port s.down }

-- its change is told, or the port is remembered where the buffer is full (our own rule)
abbrev pub port_raised : ℕ → SwitchState → SwitchTurn
port_raised port s = if is_full s.buffer then quiet_switch (record s { buffer = with_dirty s.buffer port }) else raised (port_status s port) s

-- ports are numbered from 1 (OpenFlow 1.3, 7.2.1)
abbrev pub is_port : SwitchState → ℕ → Bool
is_port s port = nat_le 1 port && nat_le port s.ports

-- a port goes down or comes up. What changes nothing tells nothing, and a port that there isn't stays down
abbrev pub on_port : SwitchState → ℕ → Bool → SwitchTurn
on_port s port up =
    if is_port s port && (if up then is_port_down s port else not (is_port_down s port)) then port_raised port (with_port s port up) else quiet_switch s

-- the ports that were remembered become events with their present state, while there is room: also one that is
-- back in its old state (our own rule)
abbrev pub remembers : List ℕ → SwitchTurn → SwitchTurn
remembers [] turn = turn
remembers (port ∷ ports) turn =
    if is_full turn.state.buffer then turn
    else remembers ports (then_turn turn (λ s. raised (port_status s port) (record s { buffer = without_dirty s.buffer port })))

-- the events that come among the first where so many have left
abbrev pub coming : SwitchState → ℕ → List Event
coming s left = drop (window - left) (take window s.buffer.held)

-- events below a number leave the buffer, and those that come among its first are sent
abbrev pub cleared : SwitchState → ℕ → SwitchState
cleared s through = record s { buffer = without_events_below s.buffer through }

-- what is acknowledged leaves, and what it makes room for comes
abbrev pub on_event_ack : SwitchState → ℕ → SwitchTurn
on_event_ack s through =
    remembers s.buffer.dirty
    (posts (cleared s through) (event_letters s.fence.master (coming (cleared s through) (cleared_to s.buffer through - s.buffer.cleared))))

-- An acknowledgement brings events among the first of the buffer, or ports that were remembered find room. Only then
-- does it take memory.
abbrev pub brings : SwitchState → ℕ → Bool
brings s through =
    nat_lt 0 (length (coming (cleared s through) (cleared_to s.buffer through - s.buffer.cleared)))
    || (nat_lt 0 (length s.buffer.dirty) && not (is_full (cleared s through).buffer))

-- each of these ports is told as it is
abbrev pub tells_ports : List ℕ → SwitchTurn → SwitchTurn
tells_ports [] turn = turn
tells_ports (port ∷ ports) turn = tells_ports ports (then_turn turn (λ s. raised (port_status s port) s))

-- the next life of a switch: what it held of the last one is gone. Its ports stay as they are, and the count of
-- frames (our own rule)
abbrev pub next_life : SwitchState → SwitchState
next_life s =
    record s {
      buffer = empty_buffer (own_number_of s) (life_of s + 1);
      results = no_results;
      table = clocked_of [];
      fence = starting_fence;
      ended = s.ended ++ s.buffer.cleared ∷ [];
    }

-- It begins with the event that tells so; the ports that are down are told, and every controller is greeted (our own rule)
abbrev pub switch_on_restart : SwitchState → SwitchTurn
switch_on_restart s =
    if nat_lt (life_of s) last_life
    then then_turn (tells_ports s.down (raised switch_up (next_life s))) (λ now. posts now (greetings now))
    else quiet_switch s

-- what a tick sends, by the master: the first events again (Ravana, 4.1). A later life without a master greets again
abbrev pub switch_tick_letters : SwitchState → Option ℕ → List (Letter SwitchSays)
switch_tick_letters s None = if nat_lt 0 (life_of s) then greetings s else []
switch_tick_letters s (Some c) = map (event_letter c) (first_held s)

-- what happened joins the buffer without being sent. Where the buffer is full it is dropped without a number (our own rule)
abbrev pub noted_event : Happening → SwitchState → SwitchState
noted_event what s = if is_full s.buffer then s else with_event s what

-- a row that has left, as an event (OpenFlow 1.3, 7.4.2)
abbrev pub flow_removed : Expired → Happening
flow_removed e =
    happening.FlowRemoved (record {
      cookie = e.row.cookie;
      priority = e.row.priority;
      reason = e.reason;
      duration = e.duration;
      idle = e.idle;
      hard = e.hard;
      packets = e.hits;
      octets = e.octets;
      matching = e.row.matching;
    })

-- a row that has left is told where its FLOW_MOD asked for that (OpenFlow 1.3, 5.5)
abbrev pub tells_left : List Expired → SwitchState → SwitchState
tells_left [] s = s
tells_left (e ∷ left) s = tells_left left (if nat_eq e.flags SEND_REMOVED then noted_event (flow_removed e) s else s)

-- the clock rises, and the rows whose time is over leave and are told
abbrev pub aged : SwitchState → SwitchState
aged s = record (tells_left (clock_told s.table) s) { table = clock_tick s.table }

-- a tick is a second: the table ages, and then the first events are sent
abbrev pub switch_on_tick : SwitchState → SwitchTurn
switch_on_tick s = posts (aged s) (switch_tick_letters (aged s) s.fence.master)
