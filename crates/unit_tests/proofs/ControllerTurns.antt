-- Turns of a group's controller, computed. What each leaves, saves and says, another implementation of the rules told too.
use Rattle.std.specs.Prelude.{◌≡◌, ℕ, true, List, [], ◌∷◌, Some, None, refl}
use Rattle.of_types.specs.declared.message.Extension.TheVariants as extension
use Rattle.of_types.specs.declared.message.Happening.TheVariants as happening
use Rattle.of_types.specs.declared.message.OfMessage.TheVariants as plain
use Rattle.of_types.specs.declared.message.Order.TheVariants as order
use Rattle.of_types.specs.declared.message.Outcome.TheVariants as outcome
use Rattle.of_types.specs.declared.message.PacketIn.{PacketIn}
use Rattle.of_types.specs.declared.message.Spoken.TheVariants as spoken
use Rattle.of_types.specs.declared.setup.Setup.{Setup}
use Rattle.journal.specs.declared.journal.Actor.TheVariants.{Controller, Switch}
use Rattle.journal.specs.declared.journal.Letter.{Letter}
use Rattle.journal.specs.declared.journal.Local.TheVariants as local
use Rattle.vr_log.specs.declared.entry.Entry.{Entry}
use Rattle.vr_log.specs.declared.entry.Entry.TheVariants as entry
use Rattle.vr_log.specs.declared.message.VrMessage.{VrMessage}
use Rattle.vr_log.specs.declared.message.VrMessage.TheVariants as vr
use Rattle.vr_log.specs.declared.state.Collected.{Collected}
use Rattle.vr_log.specs.declared.state.Status.TheVariants as status
use Rattle.vr_log.specs.declared.state.VrState.{VrState}
use Rattle.vr_log.specs.Valid.{starting_state}
use Rattle.vr_core.specs.Step.{on_vr}
use Rattle.app_core.specs.Chain.{part_next, reactions, rule_of}
use Rattle.app_core.specs.Issued.{issues}
use Rattle.group_controller.specs.declared.messages.ControllerInput.TheVariants as input
use Rattle.group_controller.specs.declared.messages.ControllerSays.{ControllerSays}
use Rattle.group_controller.specs.declared.messages.ControllerSays.TheVariants as says
use Rattle.group_controller.specs.Rules.{after_step, controller_work}
use Rattle.group_controller.specs.Settling.{finishing, settling}
use Rattle.group_controller.specs.State.{Work, fresh, to_switch}

-- ---- the parts of what follows

-- so many controllers, and switches of so many ports
abbrev group : ℕ → List ℕ → Setup
group controllers ports = record { controllers = controllers; ports = ports; links = []; deny = [] }

-- a frame between hosts, by the last bytes of their addresses
abbrev frame : ℕ → ℕ → List ℕ → List ℕ
frame to from rest = 2 ∷ 0 ∷ 0 ∷ 0 ∷ 0 ∷ to ∷ 2 ∷ 0 ∷ 0 ∷ 0 ∷ 0 ∷ from ∷ 136 ∷ 181 ∷ rest

abbrev packet : ℕ → List ℕ → PacketIn
packet port payload = record { reason = 0; cookie = 0; in_port = port; payload = payload }

-- a log that a member told
abbrev told : ℕ → ℕ → ℕ → List Entry → Collected
told from normal commit log = record { from = from; normal = normal; commit = commit; log = log }

abbrev to_member : ℕ → VrMessage → Letter ControllerSays
to_member c message = record { to = Controller c; body = says.Vr message }

-- ---- the turns

-- A restart: the next life is saved, and it asks the others
restarts : controller_work (1 ∷ 2 ∷ []) (group 3 (4 ∷ 2 ∷ [])) (fresh (record (starting_state 0 3) { status = status.Down; promise = 1 })) (input.Local local.Restart) ≡ record { state = (fresh (record (starting_state 0 3) { status = status.Recovering; promise = 1; life = 1 })); save = Some (1, 1); letters = (to_member 1 (vr.Recovery 1 1)) ∷ (to_member 2 (vr.Recovery 1 1)) ∷ [] }
unfolding controller_work after_step settling finishing on_vr issues reactions part_next rule_of
restarts = refl

-- A suspicion: the promise is saved, and it asks for votes
suspects : controller_work (1 ∷ 2 ∷ []) (group 3 (1 ∷ [])) (fresh (starting_state 0 3)) (input.Local (local.Suspect 3)) ≡ record { state = (fresh (record (starting_state 0 3) { status = status.ViewChange; view = 3; promise = 3 })); save = Some (3, 0); letters = (to_member 1 (vr.StartViewChange 3)) ∷ (to_member 2 (vr.StartViewChange 3)) ∷ [] }
unfolding controller_work after_step settling finishing on_vr issues reactions part_next rule_of
suspects = refl

-- The view that it waited for has started, with an empty log
follows_a_view : controller_work (1 ∷ 2 ∷ []) (group 3 (1 ∷ [])) (fresh (record (starting_state 2 3) { status = status.ViewChange; view = 3; promise = 3; votes = 0 ∷ 1 ∷ []; sent = true })) (input.Vr 0 (vr.StartView 3 0 0 [])) ≡ record { state = (fresh (record (starting_state 2 3) { view = 3; normal = 3; promise = 3; votes = 0 ∷ 1 ∷ []; sent = true })); save = None; letters = [] }
unfolding controller_work after_step settling finishing on_vr issues reactions part_next rule_of
follows_a_view = refl

-- The first response to a member that recovers is kept
keeps_a_response : controller_work (1 ∷ 2 ∷ []) (group 3 (2 ∷ [])) (fresh (record (starting_state 0 3) { status = status.Recovering; promise = 1; life = 1 })) (input.Vr 1 (vr.RecoveryResponse 1 1 (Some (record { commit = 0; log = [] })))) ≡ record { state = (fresh (record (starting_state 0 3) { status = status.Recovering; promise = 1; life = 1; responses = (record { from = 1; view = 1; filled = Some (record { commit = 0; log = [] }) }) ∷ [] })); save = None; letters = [] }
unfolding controller_work after_step settling finishing on_vr issues reactions part_next rule_of
keeps_a_response = refl

-- Entries that a backup lacks
catches_up : controller_work (1 ∷ 2 ∷ []) (group 3 (4 ∷ 1 ∷ 4 ∷ 2 ∷ [])) (fresh (starting_state 1 3)) (input.Vr 0 (vr.NewState 0 0 1 ((entry.Received (record { switch = 0; life = 0; number = 0; what = happening.PacketIn (packet 1 (frame 2 3 (0 ∷ []))) })) ∷ []))) ≡ record { state = (fresh (record (starting_state 1 3) { log = (entry.Received (record { switch = 0; life = 0; number = 0; what = happening.PacketIn (packet 1 (frame 2 3 (0 ∷ []))) })) ∷ []; commit = 1 })); save = None; letters = (to_member 0 (vr.PrepareOk 0 1)) ∷ [] }
unfolding controller_work after_step settling finishing on_vr issues reactions part_next rule_of
catches_up = refl

-- A PREPARE of a later view: what lies behind the commit number is asked for
asks_for_a_log : controller_work (1 ∷ 2 ∷ []) (group 3 (2 ∷ 4 ∷ 2 ∷ [])) (fresh (starting_state 0 3)) (input.Vr 2 (vr.Prepare 2 3 0 (entry.Received (record { switch = 2; life = 2; number = 0; what = happening.PortStatus (record { reason = 0; port = 4294967295; up = true }) })))) ≡ record { state = (fresh (starting_state 0 3)); save = None; letters = (to_member 2 (vr.GetState 2 0)) ∷ [] }
unfolding controller_work after_step settling finishing on_vr issues reactions part_next rule_of
asks_for_a_log = refl

-- A switch takes this controller as its master
is_master : controller_work (1 ∷ 2 ∷ []) (group 1 (2 ∷ 4 ∷ 2 ∷ 3 ∷ [])) (fresh (starting_state 0 1)) (input.Of 1 0 (spoken.Plain (plain.RoleReply 2 0))) ≡ record { state = (record (fresh (starting_state 0 1)) { marks = (record { confirmed = 1 ∷ []; acked = [] }) }); save = None; letters = [] }
unfolding controller_work after_step settling finishing on_vr issues reactions part_next rule_of
is_master = refl

-- A switch greets, and is asked for its role
is_greeted : controller_work (1 ∷ 2 ∷ []) (group 1 (4 ∷ [])) (fresh (starting_state 0 1)) (input.Of 0 0 (spoken.Plain plain.Hello)) ≡ record { state = (fresh (starting_state 0 1)); save = None; letters = (to_switch 0 0 (spoken.Plain (plain.RoleRequest 2 0))) ∷ [] }
unfolding controller_work after_step settling finishing on_vr issues reactions part_next rule_of
is_greeted = refl

-- A controller alone commits an event at once, and sends its command
receives : controller_work (1 ∷ 2 ∷ []) (group 1 (2 ∷ [])) (record (fresh (starting_state 0 1)) { marks = (record { confirmed = 0 ∷ []; acked = [] }) }) (input.Of 0 0 (spoken.Ravana (extension.Event 0 0 (happening.PacketIn (packet 2 (frame 1 2 [])))))) ≡ record { state = (record (fresh (record (starting_state 0 1) { log = (entry.Received (record { switch = 0; life = 0; number = 0; what = happening.PacketIn (packet 2 (frame 1 2 [])) })) ∷ []; commit = 1 })) { marks = (record { confirmed = 0 ∷ []; acked = [] }); last_told = Some 0 }); save = None; letters = (to_switch 0 0 (spoken.Ravana (extension.Command 0 0 0 0 (order.PacketOut (record { buffer = 4294967295; in_port = 2; actions = 4294967291 ∷ []; payload = frame 1 2 [] }))))) ∷ [] }
unfolding controller_work after_step settling finishing on_vr issues reactions part_next rule_of
receives = refl

-- An event that is committed and not processed: nothing
receives_again : controller_work (1 ∷ 2 ∷ []) (group 3 (4 ∷ 1 ∷ 4 ∷ 2 ∷ [])) (record (fresh (record (starting_state 2 3) { view = 2; normal = 2; log = (entry.Received (record { switch = 0; life = 0; number = 0; what = happening.PacketIn (packet 1 (frame 2 3 (0 ∷ []))) })) ∷ []; commit = 1; promise = 2; votes = 0 ∷ []; sent = true; collected = (told 2 1 1 []) ∷ (told 0 1 1 []) ∷ []; base = 1 })) { marks = (record { confirmed = 0 ∷ []; acked = [] }); last_told = Some 0 }) (input.Of 0 0 (spoken.Ravana (extension.Event 0 0 (happening.PacketIn (packet 1 (frame 2 3 (0 ∷ []))))))) ≡ record { state = (record (fresh (record (starting_state 2 3) { view = 2; normal = 2; log = (entry.Received (record { switch = 0; life = 0; number = 0; what = happening.PacketIn (packet 1 (frame 2 3 (0 ∷ []))) })) ∷ []; commit = 1; promise = 2; votes = 0 ∷ []; sent = true; collected = (told 2 1 1 []) ∷ (told 0 1 1 []) ∷ []; base = 1 })) { marks = (record { confirmed = 0 ∷ []; acked = [] }); last_told = Some 0 }); save = None; letters = [] }
unfolding controller_work after_step settling finishing on_vr issues reactions part_next rule_of
receives_again = refl

-- A result counts; another command of the event has none yet
counts_a_result : controller_work (1 ∷ 2 ∷ []) (group 3 (3 ∷ 2 ∷ 48 ∷ [])) (record (fresh (record (starting_state 1 3) { view = 4; normal = 4; log = (entry.Received (record { switch = 1; life = 0; number = 0; what = happening.PacketIn (packet 2 (frame 1 2 (0 ∷ []))) })) ∷ (entry.Received (record { switch = 1; life = 0; number = 1; what = happening.PacketIn (packet 1 (frame 2 1 [])) })) ∷ (entry.Processed 0) ∷ []; commit = 3; promise = 4; votes = 0 ∷ []; sent = true; collected = (told 1 0 0 []) ∷ (told 0 0 0 []) ∷ []; acked = 3 ∷ 0 ∷ 0 ∷ [] })) { marks = (record { confirmed = 0 ∷ 1 ∷ 2 ∷ []; acked = (1, 0, 0) ∷ [] }); last_told = Some 1 }) (input.Of 1 0 (spoken.Ravana (extension.CmdAck 0 1 outcome.Done))) ≡ record { state = (record (fresh (record (starting_state 1 3) { view = 4; normal = 4; log = (entry.Received (record { switch = 1; life = 0; number = 0; what = happening.PacketIn (packet 2 (frame 1 2 (0 ∷ []))) })) ∷ (entry.Received (record { switch = 1; life = 0; number = 1; what = happening.PacketIn (packet 1 (frame 2 1 [])) })) ∷ (entry.Processed 0) ∷ []; commit = 3; promise = 4; votes = 0 ∷ []; sent = true; collected = (told 1 0 0 []) ∷ (told 0 0 0 []) ∷ []; acked = 3 ∷ 0 ∷ 0 ∷ [] })) { marks = (record { confirmed = 0 ∷ 1 ∷ 2 ∷ []; acked = (1, 0, 0) ∷ (1, 0, 1) ∷ [] }); last_told = Some 1 }); save = None; letters = [] }
unfolding controller_work after_step settling finishing on_vr issues reactions part_next rule_of
counts_a_result = refl

-- The last log that a primary needs: the view starts, the others are told, and switches are asked for their role
starts_a_view : controller_work (1 ∷ 2 ∷ []) (group 3 (3 ∷ [])) (fresh (record (starting_state 0 3) { status = status.ViewChange; view = 3; promise = 3; votes = 1 ∷ []; sent = true; collected = (told 0 0 0 []) ∷ [] })) (input.Vr 1 (vr.DoViewChange 3 2 0 [])) ≡ record { state = (fresh (record (starting_state 0 3) { view = 3; normal = 3; promise = 3; votes = 1 ∷ []; sent = true; collected = (told 0 0 0 []) ∷ (told 1 2 0 []) ∷ [] })); save = None; letters = (to_member 1 (vr.StartView 3 0 0 [])) ∷ (to_member 2 (vr.StartView 3 0 0 [])) ∷ (to_switch 0 0 (spoken.Plain (plain.RoleRequest 2 3))) ∷ [] }
unfolding controller_work after_step settling finishing on_vr issues reactions part_next rule_of
starts_a_view = refl

-- An entry that has an event as processed is committed: it is acknowledged
answers : controller_work (1 ∷ 2 ∷ []) (group 3 (4 ∷ 1 ∷ 4 ∷ 2 ∷ [])) (record (fresh (record (starting_state 2 3) { view = 2; normal = 2; log = (entry.Received (record { switch = 0; life = 0; number = 0; what = happening.PacketIn (packet 1 (frame 2 3 (0 ∷ []))) })) ∷ (entry.Received (record { switch = 3; life = 1; number = 0; what = happening.PortStatus (record { reason = 0; port = 4294967295; up = true }) })) ∷ (entry.Received (record { switch = 3; life = 1; number = 1; what = happening.PacketIn (packet 1 (frame 3 3 [])) })) ∷ (entry.Processed 0) ∷ (entry.Processed 1) ∷ (entry.Processed 2) ∷ []; commit = 5; promise = 2; votes = 0 ∷ []; sent = true; collected = (told 2 1 1 []) ∷ (told 0 1 1 []) ∷ []; acked = 5 ∷ 0 ∷ 0 ∷ []; base = 1 })) { marks = (record { confirmed = 0 ∷ 1 ∷ 2 ∷ 3 ∷ []; acked = (0, 0, 0) ∷ [] }); last_told = Some 2 }) (input.Vr 0 (vr.PrepareOk 2 6)) ≡ record { state = (record (fresh (record (starting_state 2 3) { view = 2; normal = 2; log = (entry.Received (record { switch = 0; life = 0; number = 0; what = happening.PacketIn (packet 1 (frame 2 3 (0 ∷ []))) })) ∷ (entry.Received (record { switch = 3; life = 1; number = 0; what = happening.PortStatus (record { reason = 0; port = 4294967295; up = true }) })) ∷ (entry.Received (record { switch = 3; life = 1; number = 1; what = happening.PacketIn (packet 1 (frame 3 3 [])) })) ∷ (entry.Processed 0) ∷ (entry.Processed 1) ∷ (entry.Processed 2) ∷ []; commit = 6; promise = 2; votes = 0 ∷ []; sent = true; collected = (told 2 1 1 []) ∷ (told 0 1 1 []) ∷ []; acked = 6 ∷ 0 ∷ 0 ∷ []; base = 1 })) { marks = (record { confirmed = 0 ∷ 1 ∷ 2 ∷ 3 ∷ []; acked = (0, 0, 0) ∷ [] }); last_told = Some 2 }); save = None; letters = (to_switch 3 0 (spoken.Ravana (extension.EventAck 1 2))) ∷ [] }
unfolding controller_work after_step settling finishing on_vr issues reactions part_next rule_of
answers = refl

-- A result of the last command of an event: that it is processed is proposed
finishes : controller_work (1 ∷ 2 ∷ []) (group 3 (3 ∷ 2 ∷ 48 ∷ [])) (record (fresh (record (starting_state 1 3) { view = 4; normal = 4; log = (entry.Received (record { switch = 1; life = 0; number = 0; what = happening.PacketIn (packet 2 (frame 1 2 (0 ∷ []))) })) ∷ (entry.Received (record { switch = 1; life = 0; number = 1; what = happening.PacketIn (packet 1 (frame 2 1 [])) })) ∷ []; commit = 2; promise = 4; votes = 0 ∷ []; sent = true; collected = (told 1 0 0 []) ∷ (told 0 0 0 []) ∷ []; acked = 2 ∷ 0 ∷ 0 ∷ [] })) { marks = (record { confirmed = 0 ∷ 1 ∷ 2 ∷ []; acked = [] }); last_told = Some 0 }) (input.Of 1 0 (spoken.Ravana (extension.CmdAck 0 0 outcome.Done))) ≡ record { state = (record (fresh (record (starting_state 1 3) { view = 4; normal = 4; log = (entry.Received (record { switch = 1; life = 0; number = 0; what = happening.PacketIn (packet 2 (frame 1 2 (0 ∷ []))) })) ∷ (entry.Received (record { switch = 1; life = 0; number = 1; what = happening.PacketIn (packet 1 (frame 2 1 [])) })) ∷ (entry.Processed 0) ∷ []; commit = 2; promise = 4; votes = 0 ∷ []; sent = true; collected = (told 1 0 0 []) ∷ (told 0 0 0 []) ∷ []; acked = 2 ∷ 0 ∷ 0 ∷ [] })) { marks = (record { confirmed = 0 ∷ 1 ∷ 2 ∷ []; acked = (1, 0, 0) ∷ [] }); last_told = Some 0 }); save = None; letters = (to_member 0 (vr.Prepare 4 3 2 (entry.Processed 0))) ∷ (to_member 2 (vr.Prepare 4 3 2 (entry.Processed 0))) ∷ [] }
unfolding controller_work after_step settling finishing on_vr issues reactions part_next rule_of
finishes = refl

-- A tick of a primary
ticks : controller_work (1 ∷ 2 ∷ []) (group 3 (3 ∷ 2 ∷ 48 ∷ [])) (fresh (starting_state 0 3)) (input.Local local.Tick) ≡ record { state = (fresh (starting_state 0 3)); save = None; letters = (to_member 1 (vr.Commit 0 0)) ∷ (to_member 2 (vr.Commit 0 0)) ∷ (to_switch 0 0 (spoken.Plain (plain.RoleRequest 2 0))) ∷ (to_switch 1 0 (spoken.Plain (plain.RoleRequest 2 0))) ∷ (to_switch 2 0 (spoken.Plain (plain.RoleRequest 2 0))) ∷ [] }
unfolding controller_work after_step settling finishing on_vr issues reactions part_next rule_of
ticks = refl

-- A port event
acknowledges : controller_work (1 ∷ 2 ∷ []) (group 1 (4 ∷ [])) (record (fresh (starting_state 0 1)) { marks = (record { confirmed = 0 ∷ []; acked = [] }) }) (input.Of 0 0 (spoken.Ravana (extension.Event 1 0 (happening.PortStatus (record { reason = 0; port = 4294967295; up = true }))))) ≡ record { state = (record (fresh (record (starting_state 0 1) { log = (entry.Received (record { switch = 0; life = 1; number = 0; what = happening.PortStatus (record { reason = 0; port = 4294967295; up = true }) })) ∷ (entry.Processed 0) ∷ []; commit = 2 })) { marks = (record { confirmed = 0 ∷ []; acked = [] }); last_told = Some 0 }); save = None; letters = (to_switch 0 0 (spoken.Ravana (extension.EventAck 1 1))) ∷ [] }
unfolding controller_work after_step settling finishing on_vr issues reactions part_next rule_of
acknowledges = refl

-- ---- turns that no run of a group reaches. By the rules, by hand

-- what changes nothing and says nothing
abbrev rests : VrState → Work
rests s = record { state = fresh s; save = None; letters = [] }

-- An echo, to a backup: it is answered with the same bytes and number
echoes : controller_work (1 ∷ 2 ∷ []) (group 3 (2 ∷ [])) (fresh (starting_state 1 3)) (input.Of 0 7 (spoken.Plain (plain.EchoRequest (1 ∷ 2 ∷ [])))) ≡ record { state = fresh (starting_state 1 3); save = None; letters = (to_switch 0 7 (spoken.Plain (plain.EchoReply (1 ∷ 2 ∷ [])))) ∷ [] }
unfolding controller_work after_step settling finishing on_vr issues reactions part_next rule_of
echoes = refl

-- None that is down or that recovers answers it
echoes_down : controller_work (1 ∷ 2 ∷ []) (group 3 (2 ∷ [])) (fresh (record (starting_state 1 3) { status = status.Down })) (input.Of 0 7 (spoken.Plain (plain.EchoRequest []))) ≡ rests (record (starting_state 1 3) { status = status.Down })
unfolding controller_work after_step settling finishing on_vr issues reactions part_next rule_of
echoes_down = refl

echoes_recovering : controller_work (1 ∷ 2 ∷ []) (group 3 (2 ∷ [])) (fresh (record (starting_state 1 3) { status = status.Recovering; life = 1 })) (input.Of 0 7 (spoken.Plain (plain.EchoRequest []))) ≡ rests (record (starting_state 1 3) { status = status.Recovering; life = 1 })
unfolding controller_work after_step settling finishing on_vr issues reactions part_next rule_of
echoes_recovering = refl

-- A body that spells nothing, and a restart of one that is up
hears_nothing : controller_work (1 ∷ 2 ∷ []) (group 1 (2 ∷ [])) (fresh (starting_state 0 1)) (input.Malformed (Switch 0)) ≡ rests (starting_state 0 1)
unfolding controller_work after_step settling finishing on_vr issues reactions part_next rule_of
hears_nothing = refl

is_up_already : controller_work (1 ∷ 2 ∷ []) (group 1 (2 ∷ [])) (fresh (starting_state 0 1)) (input.Local local.Restart) ≡ rests (starting_state 0 1)
unfolding controller_work after_step settling finishing on_vr issues reactions part_next rule_of
is_up_already = refl

-- An event of a switch that the group does not have gives no command, also where a rule denies its frame
elsewhere : reactions (1 ∷ 2 ∷ []) (record { controllers = 1; ports = 2 ∷ []; links = []; deny = (record { proto = 0; src = record { address = 0; length = 0 }; dst = record { address = 0; length = 0 }; port = None }) ∷ [] }) ((record { switch = 1; life = 0; number = 0; what = happening.PacketIn (packet 1 (frame 2 1 (8 ∷ 0 ∷ []))) }) ∷ []) ≡ [] ∷ []
unfolding issues reactions part_next rule_of
elsewhere = refl
