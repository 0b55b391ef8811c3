-- Turns of a switch, computed. What each leaves and says, another implementation of the rules told too.
use Rattle.std.specs.Prelude.{◌≡◌, ℕ, true, false, List, [], ◌∷◌, Some, None, refl}
use Rattle.of_types.specs.declared.message.Event.{Event}
use Rattle.of_types.specs.declared.message.Executed.{Executed}
use Rattle.of_types.specs.declared.message.Extension.TheVariants as extension
use Rattle.of_types.specs.declared.message.FlowCommand.TheVariants as flow
use Rattle.of_types.specs.declared.message.Happening.{Happening}
use Rattle.of_types.specs.declared.message.Happening.TheVariants as happening
use Rattle.of_types.specs.declared.message.Match.{Match}
use Rattle.of_types.specs.declared.message.OfMessage.TheVariants as plain
use Rattle.of_types.specs.declared.message.Order.{Order}
use Rattle.of_types.specs.declared.message.Order.TheVariants as order
use Rattle.of_types.specs.declared.message.Outcome.TheVariants as outcome
use Rattle.of_types.specs.declared.message.Row.{Row}
use Rattle.of_types.specs.declared.message.Spoken.{Spoken}
use Rattle.of_types.specs.declared.message.Spoken.TheVariants as spoken
use Rattle.journal.specs.declared.journal.Actor.TheVariants as actor
use Rattle.journal.specs.declared.journal.Letter.{Letter}
use Rattle.journal.specs.declared.journal.Local.TheVariants as local
use Rattle.flow_clock.specs.Clocked.{Kept}
use Rattle.of_switch.specs.declared.says.SwitchInput.{SwitchInput}
use Rattle.of_switch.specs.declared.says.SwitchInput.TheVariants as switch_input
use Rattle.of_switch.specs.declared.says.SwitchSays.{SwitchSays}
use Rattle.of_switch.specs.declared.says.SwitchSays.TheVariants as switch_says
use Rattle.of_switch.specs.State.{SwitchState, SwitchTurn}
use Rattle.of_switch.specs.Rules.{switch_turn}

-- ---- the parts of what follows

abbrev pub any_frame : Match
any_frame = record { in_port = None; eth_dst = None; eth_src = None; eth_type = None; ip_proto = None; ipv4_src = None; ipv4_dst = None; tcp_src = None; tcp_dst = None; udp_src = None; udp_dst = None }

-- a row with no timeout, as a table keeps it
abbrev pub lasting : Row → Kept
lasting row = record { row = row; times = None }

-- a switch of so many controllers and ports, as it starts
abbrev pub fresh : ℕ → ℕ → ℕ → SwitchState
fresh number controllers ports =
    record {
      controllers = controllers;
      ports = ports;
      links = [];
      down = [];
      sent = 0;
      buffer = record { switch = number; life = 0; cleared = 0; held = []; dirty = [] };
      results = record { executed = 0; outcomes = [] };
      table = record { clock = 0; rows = lasting (record { priority = 0; cookie = 0; matching = any_frame; actions = 4294967293 ∷ [] }) ∷ [] };
      fence = record { generation = None; master = None; slaves = [] };
      events = [];
      executed = [];
      ended = [];
      gone = 0;
    }

-- with these events in its buffer in a life, behind so many that have left
abbrev holding : ℕ → ℕ → List Event → SwitchState → SwitchState
holding life cleared events s =
    record s { buffer = record { switch = s.buffer.switch; life = life; cleared = cleared; held = events; dirty = [] } }

-- with these events made
abbrev having : List Event → SwitchState → SwitchState
having events s = record s { events = events }

-- with a master
abbrev pub mastered : ℕ → ℕ → SwitchState → SwitchState
mastered c generation s = record s { fence = record { generation = Some generation; master = Some c; slaves = [] } }

-- with one command carried out
abbrev counting : Executed → SwitchState → SwitchState
counting x s = record s { results = record { executed = 1; outcomes = outcome.Done ∷ [] }; executed = x ∷ [] }

abbrev event : ℕ → ℕ → ℕ → Happening → Event
event number life place what = record { switch = number; life = life; number = place; what = what }

-- a frame between two addresses, of which each is the two last bytes
abbrev frame : ℕ → ℕ → ℕ → ℕ → List ℕ
frame a b c d = 2 ∷ 0 ∷ 0 ∷ 0 ∷ a ∷ b ∷ 2 ∷ 0 ∷ 0 ∷ 0 ∷ c ∷ d ∷ 136 ∷ 181 ∷ []

abbrev pub packet : ℕ → List ℕ → Happening
packet port bytes = happening.PacketIn (record { reason = 0; cookie = 0; in_port = port; payload = bytes })

abbrev pub port_down : Happening
port_down = happening.PortStatus (record { reason = 2; port = 2; up = false })

abbrev is_back : Happening
is_back = happening.PortStatus (record { reason = 0; port = 4294967295; up = true })

abbrev pub flood : ℕ → List ℕ → Order
flood port bytes = order.PacketOut (record { buffer = 4294967295; in_port = port; actions = 4294967291 ∷ []; payload = bytes })

abbrev forget : Order
forget =
    order.FlowMod (record {
      cookie = 0;
      cookie_mask = 0;
      table = 0;
      command = flow.Delete;
      idle = 0;
      hard = 0;
      priority = 0;
      buffer = 4294967295;
      out_port = 2;
      out_group = 4294967295;
      flags = 0;
      matching = any_frame;
      actions = [];
    })

abbrev executed : ℕ → ℕ → ℕ → Order → Executed
executed life generation from what = record { life = life; number = 0; generation = generation; from = from; order = what }

abbrev said_by : ℕ → Spoken → SwitchInput
said_by c message = switch_input.Of c 0 message

abbrev pub to : ℕ → Spoken → Letter SwitchSays
to c message = record { to = actor.Controller c; body = switch_says.Of 0 message }

abbrev pub leaves : SwitchState → List (Letter SwitchSays) → SwitchTurn
leaves s letters = record { state = s; letters = letters }

-- ---- turns

-- a tick in life 0 without a master says nothing: the clock rises
pub idle_tick : switch_turn (fresh 1 3 1) (switch_input.Local local.Tick) ≡ leaves (record (fresh 1 3 1) { table = record (fresh 1 3 1).table { clock = 1 } }) []
unfolding switch_turn
idle_tick = refl

-- a restart begins life 1 with its event, and greets every controller
pub restart : switch_turn (fresh 0 3 4) (switch_input.Local local.Restart) ≡
    leaves (record (having (event 0 1 0 is_back ∷ []) (holding 1 0 (event 0 1 0 is_back ∷ []) (fresh 0 3 4))) { ended = 0 ∷ [] })
    (to 0 (spoken.Plain plain.Hello) ∷ to 1 (spoken.Plain plain.Hello) ∷ to 2 (spoken.Plain plain.Hello) ∷ [])
unfolding switch_turn
restart = refl

-- a frame that meets the table-miss row is an event that waits for a master
abbrev odd_frame : List ℕ
odd_frame = 1 ∷ 0 ∷ 0 ∷ 0 ∷ 0 ∷ 1 ∷ 2 ∷ 0 ∷ 0 ∷ 0 ∷ 0 ∷ 4 ∷ 136 ∷ 181 ∷ []

pub frame_waits : switch_turn (fresh 0 1 4) (switch_input.Local (local.Frame 1 odd_frame)) ≡
    leaves (having (event 0 0 0 (packet 1 odd_frame) ∷ []) (holding 0 0 (event 0 0 0 (packet 1 odd_frame) ∷ []) (fresh 0 1 4))) []
unfolding switch_turn
frame_waits = refl

-- and is told to one that is there
abbrev long_frame : List ℕ
long_frame = 2 ∷ 0 ∷ 0 ∷ 0 ∷ 0 ∷ 1 ∷ 0 ∷ 0 ∷ 0 ∷ 0 ∷ 0 ∷ 0 ∷ 136 ∷ 181 ∷ 0 ∷ []

pub frame_told : switch_turn (mastered 0 3 (fresh 0 3 1)) (switch_input.Local (local.Frame 1 long_frame)) ≡
    leaves (having (event 0 0 0 (packet 1 long_frame) ∷ []) (holding 0 0 (event 0 0 0 (packet 1 long_frame) ∷ []) (mastered 0 3 (fresh 0 3 1))))
    (to 0 (spoken.Ravana (extension.Event 0 0 (packet 1 long_frame))) ∷ [])
unfolding switch_turn
frame_told = refl

-- a port goes down
pub port_falls : switch_turn (fresh 0 1 3) (switch_input.Local (local.Port 2 false)) ≡
    leaves (record (having (event 0 0 0 port_down ∷ []) (holding 0 0 (event 0 0 0 port_down ∷ []) (fresh 0 1 3))) { down = 2 ∷ [] }) []
unfolding switch_turn
port_falls = refl

-- a controller becomes master
pub becomes_master : switch_turn (fresh 0 3 1) (said_by 0 (spoken.Plain (plain.RoleRequest 2 3))) ≡
    leaves (mastered 0 3 (fresh 0 3 1)) (to 0 (spoken.Plain (plain.RoleReply 2 3)) ∷ [])
unfolding switch_turn
becomes_master = refl

-- and is told the first events after the reply
abbrev second_life : SwitchState
second_life = record (having (event 1 1 0 is_back ∷ []) (holding 1 0 (event 1 1 0 is_back ∷ []) (fresh 1 1 3))) { ended = 0 ∷ [] }

pub told_events : switch_turn second_life (said_by 0 (spoken.Plain (plain.RoleRequest 2 0))) ≡
    leaves (mastered 0 0 second_life) (to 0 (spoken.Plain (plain.RoleReply 2 0)) ∷ to 0 (spoken.Ravana (extension.Event 1 0 is_back)) ∷ [])
unfolding switch_turn
told_events = refl

-- an acknowledgement lets the event leave
abbrev udp_frame : List ℕ
udp_frame =
    2 ∷ 0 ∷ 0 ∷ 0 ∷ 0 ∷ 4 ∷ 2 ∷ 0 ∷ 0 ∷ 0 ∷ 0 ∷ 4 ∷ 8 ∷ 0 ∷ 69 ∷ 0 ∷ 0 ∷ 0 ∷ 0 ∷ 0 ∷ 0 ∷ 1 ∷ 64 ∷ 0 ∷ 0 ∷ 0 ∷ 10 ∷ 0 ∷ 0 ∷ 0 ∷ 10 ∷ 0 ∷ 0 ∷ 3 ∷ 4 ∷ 210 ∷ 0 ∷ 53 ∷ 0 ∷ 0 ∷ 0 ∷ 0 ∷ []

abbrev told_once : SwitchState
told_once = having (event 1 0 0 (packet 1 udp_frame) ∷ []) (mastered 0 1 (fresh 1 1 1))

pub acknowledged : switch_turn (holding 0 0 (event 1 0 0 (packet 1 udp_frame) ∷ []) told_once) (said_by 0 (spoken.Ravana (extension.EventAck 0 1))) ≡
    leaves (holding 0 1 [] told_once) []
unfolding switch_turn
acknowledged = refl

-- a flood is carried out, counted, and told
abbrev own_frame : List ℕ
own_frame = 2 ∷ 0 ∷ 0 ∷ 0 ∷ 0 ∷ 1 ∷ 1 ∷ 0 ∷ 0 ∷ 0 ∷ 0 ∷ 1 ∷ 136 ∷ 181 ∷ []

abbrev waiting : SwitchState
waiting = having (event 0 0 0 (packet 1 own_frame) ∷ []) (holding 0 0 (event 0 0 0 (packet 1 own_frame) ∷ []) (mastered 2 5 (fresh 0 3 2)))

pub floods : switch_turn waiting (said_by 2 (spoken.Ravana (extension.Command 0 5 0 0 (flood 1 own_frame)))) ≡
    leaves (counting (executed 0 5 2 (flood 1 own_frame)) (record waiting { sent = 1 })) (to 2 (spoken.Ravana (extension.CmdAck 0 0 outcome.Done)) ∷ [])
unfolding switch_turn
floods = refl

-- over a link it goes to the other switch first
abbrev linked_frame : List ℕ
linked_frame = 0 ∷ 0 ∷ 0 ∷ 0 ∷ 0 ∷ 0 ∷ 2 ∷ 0 ∷ 0 ∷ 0 ∷ 0 ∷ 3 ∷ 136 ∷ 181 ∷ []

abbrev linked : SwitchState
linked =
    record (having (event 1 1 0 is_back ∷ event 1 1 1 (packet 3 linked_frame) ∷ []) (holding 1 1 (event 1 1 1 (packet 3 linked_frame) ∷ []) (fresh 1 3 4))) {
      links = record { switch = 2; port = 2; peer = 1; peer_port = 2 } ∷ [];
      fence = record { generation = Some 3; master = Some 0; slaves = 2 ∷ [] };
      ended = 0 ∷ [];
    }

pub floods_link : switch_turn linked (said_by 0 (spoken.Ravana (extension.Command 1 3 0 0 (flood 3 linked_frame)))) ≡
    leaves (counting (executed 1 3 0 (flood 3 linked_frame)) (record linked { sent = 3 }))
    (record { to = actor.Switch 2; body = switch_says.Frame 2 linked_frame } ∷ to 0 (spoken.Ravana (extension.CmdAck 1 0 outcome.Done)) ∷ [])
unfolding switch_turn
floods_link = refl

-- a DELETE of rows to a port leaves the table-miss row
abbrev tcp_frame : List ℕ
tcp_frame =
    2 ∷ 0 ∷ 0 ∷ 0 ∷ 0 ∷ 1 ∷ 2 ∷ 0 ∷ 0 ∷ 0 ∷ 0 ∷ 1 ∷ 8 ∷ 0 ∷ 69 ∷ 0 ∷ 0 ∷ 0 ∷ 0 ∷ 0 ∷ 0 ∷ 1 ∷ 64 ∷ 17 ∷ 0 ∷ 0 ∷ 10 ∷ 0 ∷ 0 ∷ 0 ∷ 10 ∷ 0 ∷ 0 ∷ 3 ∷ 0 ∷ 80 ∷ 1 ∷ 187 ∷ []

abbrev falling : SwitchState
falling =
    record (having (event 0 0 0 (packet 1 tcp_frame) ∷ event 0 0 1 port_down ∷ []) (holding 0 1 (event 0 0 1 port_down ∷ []) (mastered 0 1 (fresh 0 1 2)))) { down = 2 ∷ [] }

pub forgets : switch_turn falling (said_by 0 (spoken.Ravana (extension.Command 0 1 0 0 forget))) ≡
    leaves (counting (executed 0 1 0 forget) falling) (to 0 (spoken.Ravana (extension.CmdAck 0 0 outcome.Done)) ∷ [])
unfolding switch_turn
forgets = refl

-- a command of an ended life is dropped
abbrev pub there : List ℕ
there = frame 0 1 0 2

abbrev back : List ℕ
back = frame 0 2 0 1

abbrev restarted : SwitchState
restarted =
    record (having (
    event 0 0 0 (packet 2 there)
    ∷ event 0 0 1 (packet 1 back)
    ∷ event 0 0 2 (packet 1 back)
    ∷ event 0 0 3 (packet 2 there)
    ∷ event 0 0 4 (packet 1 (2 ∷ 0 ∷ 0 ∷ 0 ∷ 0 ∷ 1 ∷ 2 ∷ 0 ∷ 0 ∷ 0 ∷ 0 ∷ 2 ∷ 136 ∷ 181 ∷ 0 ∷ []))
    ∷ event 0 1 0 is_back
    ∷ [])
    (holding 1 0 (event 0 1 0 is_back ∷ []) (mastered 0 0 (fresh 0 1 2)))) {
      links = record { switch = 0; port = 2; peer = 0; peer_port = 1 } ∷ [];
      ended = 0 ∷ [];
    }

pub other_life : switch_turn restarted (said_by 0 (spoken.Ravana (extension.Command 0 0 0 0 (flood 2 there)))) ≡ leaves restarted []
unfolding switch_turn
other_life = refl

-- results go as the controller knows them
abbrev far : List ℕ
far = frame 0 1 0 4

abbrev carried : SwitchState
carried = counting (executed 0 3 3 (flood 4 far)) (record (having (event 0 0 0 (packet 4 far) ∷ []) (holding 0 1 [] (mastered 3 3 (fresh 0 5 4)))) { sent = 3 })

pub clears : switch_turn carried (said_by 3 (spoken.Ravana (extension.Clear 0 1))) ≡ leaves (record carried { results = record { executed = 1; outcomes = [] } }) []
unfolding switch_turn
clears = refl
