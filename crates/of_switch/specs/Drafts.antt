-- What a turn is to add to a switch, while memory for it is still being found: nothing of the switch has changed yet.
use Rattle.std.specs.Prelude.{◌≡◌, ◌≤◌, ◌<◌, ℕ, ◌+◌, ◌-◌, ◌^◌, min, Bool, true, false, not, nat_eq, nat_le, nat_lt, ◌&&◌, is_none, take, List, [], ◌∷◌, ◌++◌, length, map, filter, flat_map, Option, Some, None, if◌then◌else◌}
use Rattle.of_types.specs.declared.message.Event.{Event}
use Rattle.of_types.specs.declared.message.FlowMod.{FlowMod}
use Rattle.of_types.specs.declared.message.Happening.{Happening}
use Rattle.of_types.specs.declared.message.Happening.TheVariants as happening
use Rattle.of_types.specs.declared.message.Outcome.{Outcome}
use Rattle.of_types.specs.declared.message.Outcome.TheVariants as outcome
use Rattle.of_types.specs.declared.message.OfMessage.TheVariants as plain
use Rattle.of_types.specs.declared.message.PacketOut.{PacketOut}
use Rattle.of_types.specs.declared.message.Row.{Row}
use Rattle.of_types.specs.declared.message.Spoken.TheVariants as spoken
use Rattle.of_types.specs.declared.numbers.TheConstants.{MASTER, TO_CONTROLLER, REASON_MODIFY, SEND_REMOVED}
use Rattle.of_types.specs.declared.refusal.TheConstants.{BAD_ROLE, STALE_ROLE}
use Rattle.of_types.specs.Lives.{switch_up}
use Rattle.journal.specs.declared.journal.Letter.{Letter}
use Rattle.event_buffer.specs.Buffer.{Buffer, Held, counted, most_held, without_dirty}
use Rattle.command_buffer.specs.declared.buffer.Offer.{Offer}
use Rattle.command_buffer.specs.declared.buffer.Offer.TheVariants as offer
use Rattle.role_fence.specs.declared.fence.RoleAnswer.{RoleAnswer}
use Rattle.role_fence.specs.declared.fence.RoleAnswer.TheVariants.{Reply, Stale, BadRole}
use Rattle.flow_clock.specs.declared.times.Expired.{Expired}
use Rattle.flow_clock.specs.Clocked.{Clocked, clock_change}
use Rattle.of_switch.specs.declared.says.SwitchSays.{SwitchSays}
use Rattle.of_switch.specs.State.{SwitchState, SwitchTurn, greetings, quiet_switch, posts, to_controller, error_letter}
use Rattle.of_switch.specs.Events.{window, first_held, event_letter, event_letters, flow_removed, is_port_down, port_status, next_life}
use Rattle.of_switch.specs.Commands.{result_letter}
use Rattle.of_switch.specs.Forwarding.{targets, over_links, packet_in_of}

pub record Draft : Type 0 where
  pub switch : ℕ
  pub life : ℕ
  pub master : Option ℕ  -- to whom events go
  pub cleared : ℕ  -- how many events have left the buffer by then
  pub held : ℕ  -- how many the buffer holds by then
  pub raised : List Event  -- those that are new
  pub sent : ℕ  -- how many frames have been sent out by then
  pub letters : List (Letter SwitchSays)

-- a draft as it starts: nothing is new
abbrev pub draft_from : Held → Option ℕ → ℕ → Draft
draft_from h master sent =
    record { switch = h.switch; life = h.life; master = master; cleared = h.cleared; held = h.count; raised = []; sent = sent; letters = [] }

abbrev pub draft_of : SwitchState → Draft
draft_of s = draft_from (counted s.buffer) s.fence.master s.sent

-- what a draft makes of a switch
abbrev pub drafted : SwitchState → Draft → SwitchTurn
drafted s d =
    record {
      state = record s { buffer = record s.buffer { held = s.buffer.held ++ d.raised }; events = s.events ++ d.raised; sent = d.sent };
      letters = d.letters;
    }

-- a draft is one of this switch
pub record IsDraft (s : SwitchState) (d : Draft) : Type 0 where
  pub switch_is : d.switch ≡ s.buffer.switch
  pub life_is : d.life ≡ s.buffer.life
  pub master_is : d.master ≡ s.fence.master
  pub cleared_is : d.cleared ≡ s.buffer.cleared
  pub held_is : d.held ≡ length s.buffer.held + length d.raised

-- letters are added
abbrev pub with_letters : Draft → List (Letter SwitchSays) → Draft
with_letters d letters = record d { letters = d.letters ++ letters }

-- events are told to the master
abbrev pub with_told : List Event → Draft → Draft
with_told events d = with_letters d (event_letters d.master events)

-- what happened, as the next event
abbrev pub drafted_event : Draft → Happening → Event
drafted_event d what = record { switch = d.switch; life = d.life; number = d.cleared + d.held; what = what }

-- it is raised
abbrev pub with_raised : Happening → Draft → Draft
with_raised what d =
    record d {
      held = d.held + 1;
      raised = d.raised ++ drafted_event d what ∷ [];
      letters = d.letters ++ (if nat_lt d.held window then event_letters d.master (drafted_event d what ∷ []) else []);
    }

-- a packet-in is raised, where there is room
abbrev pub with_packet : Happening → Draft → Draft
with_packet what d = if nat_le most_held d.held then d else with_raised what d

-- it joins without being told, where there is room
abbrev pub with_noted : Happening → Draft → Draft
with_noted what d =
    if nat_le most_held d.held then d else record d { held = d.held + 1; raised = d.raised ++ drafted_event d what ∷ [] }

-- rows that have left are noted where they ask for that
abbrev pub with_removed : List Expired → Draft → Draft
with_removed [] d = d
with_removed (e ∷ left) d = with_removed left (if nat_eq e.flags SEND_REMOVED then with_noted (flow_removed e) d else d)

-- at a tick a later life without a master greets, and the first events are told, old ones and new ones
abbrev pub with_greetings : SwitchState → Draft → Draft
with_greetings s d = if is_none d.master && nat_lt 0 d.life then with_letters d (greetings s) else d

abbrev pub with_first : List Event → Draft → Draft
with_first held d = with_told (take window (held ++ d.raised)) d

-- a frame is sent out by some ports
abbrev pub with_sent : SwitchState → List ℕ → List ℕ → Draft → Draft
with_sent s frame ports d =
    record d { sent = min (2 ^ 64 - 1) (d.sent + length ports); letters = d.letters ++ flat_map (over_links s frame) ports }

-- a port, where it is up and not the one that a frame came in by
abbrev pub other_port : SwitchState → ℕ → ℕ → List ℕ
other_port s in_port port = filter (λ p. not (nat_eq p in_port)) (filter (λ p. not (is_port_down s p)) (port ∷ []))

-- a frame is put out, by what becomes of one to the controller
abbrev pub with_output : SwitchState → (Draft → Draft) → ℕ → List ℕ → ℕ → Draft → Draft
with_output s tells port frame output d =
    if nat_eq output TO_CONTROLLER then tells d else with_sent s frame (targets s port output) d

abbrev pub with_outputs : SwitchState → (Draft → Draft) → ℕ → List ℕ → List ℕ → Draft → Draft
with_outputs s tells port frame [] d = d
with_outputs s tells port frame (output ∷ outputs) d = with_outputs s tells port frame outputs (with_output s tells port frame output d)

-- a frame meets a row, or none
abbrev pub with_draft_row : SwitchState → ℕ → List ℕ → Option Row → Draft → Draft
with_draft_row s port frame None d = d
with_draft_row s port frame (Some row) d = with_outputs s (with_packet (packet_in_of row port frame)) port frame row.actions d

-- no packet-in comes of a PACKET_OUT
abbrev pub untold : Draft → Draft
untold d = d

-- a port has changed
abbrev pub changed_to : ℕ → Bool → Happening
changed_to port up = happening.PortStatus (record { reason = REASON_MODIFY; port = port; up = up })

-- ports are told as they are
abbrev pub with_ports : SwitchState → List ℕ → Draft → Draft
with_ports s [] d = d
with_ports s (port ∷ ports) d = with_ports s ports (with_raised (port_status s port) d)

-- the next life begins: the event that tells so, the ports that are down, and the greetings
abbrev pub life_begun : SwitchState → Draft
life_begun s = with_letters (with_ports s s.down (with_raised switch_up (draft_of (next_life s)))) (greetings s)

-- ports are forgotten
abbrev pub forgets : List ℕ → Buffer → Buffer
forgets [] b = b
forgets (port ∷ ports) b = forgets ports (without_dirty b port)

abbrev pub forgetting : List ℕ → SwitchState → SwitchState
forgetting ports s = record s { buffer = forgets ports s.buffer }

-- a draft that keeps to its room
pub record KeepsToRoom (d : Draft) : Type 0 where
  pub room : d.held ≤ most_held
  pub countable : d.cleared + most_held < 2 ^ 64

-- a command is carried out
abbrev pub is_execute : Offer → Bool
is_execute offer.Execute = true
is_execute (offer.Repeat result) = false
is_execute offer.Ahead = false
is_execute offer.Full = false

-- the table after a change with this result
abbrev pub table_as : Outcome → Clocked → FlowMod → Clocked
table_as outcome.Done table change = clock_change table change
table_as (outcome.Failed kind code) table change = table
table_as outcome.Cleared table change = table

-- a PACKET_OUT with this result
abbrev pub sent_as : SwitchState → Outcome → PacketOut → Draft → Draft
sent_as s outcome.Done out d = with_outputs s untold out.in_port out.payload out.actions d
sent_as s (outcome.Failed kind code) out d = d
sent_as s outcome.Cleared out d = d

-- what is told of a command that isn't carried out
abbrev pub reported : SwitchState → ℕ → ℕ → Offer → SwitchTurn
reported s from number (offer.Repeat result) = posts s (result_letter s from number result ∷ [])
reported s from number offer.Execute = quiet_switch s
reported s from number offer.Ahead = quiet_switch s
reported s from number offer.Full = quiet_switch s

-- the letters for what the fence answers, and for the events that a master is told
abbrev pub role_letters : ℕ → ℕ → RoleAnswer → List (Letter SwitchSays) → List (Letter SwitchSays)
role_letters from xid (Reply role generation) events = to_controller from xid (spoken.Plain (plain.RoleReply role generation)) ∷ events
role_letters from xid (Stale seen asked) events = error_letter from xid STALE_ROLE.kind STALE_ROLE.code [] ∷ []
role_letters from xid BadRole events = error_letter from xid BAD_ROLE.kind BAD_ROLE.code [] ∷ []

-- the events that a controller is told which asks for a role
abbrev pub told_events : SwitchState → ℕ → ℕ → List (Letter SwitchSays)
told_events s from role = if nat_eq role MASTER then map (event_letter from) (first_held s) else []
