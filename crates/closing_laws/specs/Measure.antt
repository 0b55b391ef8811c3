-- What is left to be done while a closing is drained, as a number that each turn lowers.
use Rattle.std.specs.Prelude.{ℕ, ◌+◌, ◌-◌, ◌*◌, ◌/◌, not, ◌||◌, List, length, drop, filter, sum_by, if◌then◌else◌}
use Rattle.std.specs.List.{range_with_len}
use Rattle.of_types.specs.declared.message.Extension.TheVariants as extension
use Rattle.of_types.specs.declared.message.OfMessage.TheVariants as plain
use Rattle.of_types.specs.declared.message.Spoken.{Spoken}
use Rattle.of_types.specs.declared.message.Spoken.TheVariants as spoken
use Rattle.of_types.specs.declared.setup.Setup.{Setup}
use Rattle.vr_log.specs.declared.message.VrMessage.{VrMessage}
use Rattle.vr_log.specs.declared.message.VrMessage.TheVariants as vr
use Rattle.of_types.specs.Lives.{count_in}
use Rattle.vr_log.specs.declared.entry.Entry.{Entry}
use Rattle.vr_log.specs.Log.{received, processed}
use Rattle.two_stage_log.specs.Counts.{has_unprocessed}
use Rattle.app_core.specs.Chain.{concat}
use Rattle.app_core.specs.Issued.{commands_of, issues}
use Rattle.event_buffer.specs.Buffer.{next_number}
use Rattle.of_switch.specs.State.{SwitchState, life_of}
use Rattle.dispatcher.specs.Marks.{is_confirmed}
use Rattle.group_controller.specs.State.{ControllerState, committed}
use Rattle.group_controller.specs.Settling.{is_some_of, is_untold}
use Rattle.run_spec.specs.declared.messages.Message.{Message}
use Rattle.run_spec.specs.declared.messages.Message.TheVariants as message
use Rattle.run_spec.specs.Closing.{is_drawn}
use Rattle.closing_laws.specs.Serving.{logged_of, sent_of}
use Rattle.closing_laws.specs.Ways.{Sent}

-- the turns that a message on its way is worth: its own, and that of its answer
abbrev pub spoken_worth : Spoken → ℕ
spoken_worth (spoken.Plain (plain.RoleRequest role generation)) = 2
spoken_worth (spoken.Plain _) = 1
spoken_worth (spoken.Ravana (extension.Event life number what)) = 2
spoken_worth (spoken.Ravana (extension.Command life generation number settled what)) = 2
spoken_worth (spoken.Ravana _) = 1

abbrev pub vr_worth : VrMessage → ℕ
vr_worth (vr.StartView view first commit log) = 2
vr_worth (vr.Prepare view op commit entry) = 2
vr_worth _ = 1

abbrev pub message_worth : Message → ℕ
message_worth (message.Of xid said) = spoken_worth said
message_worth (message.Vr said) = vr_worth said
message_worth (message.Frame port bytes) = 1

-- one that is lost takes no turn
abbrev pub worth : List ℕ → Sent → ℕ
worth quorum m = if is_drawn quorum m.from m.to then message_worth m.said else 0

abbrev pub worths : List ℕ → List Sent → ℕ
worths quorum waiting = sum_by (worth quorum) waiting

-- the events of a switch that are still to be sent, once it was asked for its role, with the ports that it remembers
abbrev pub unsent : ControllerState → SwitchState → ℕ
unsent c sw =
    next_number sw.buffer - (if is_some_of c.vr.view sw.fence.generation then sent_of sw else sw.buffer.cleared) + length sw.buffer.dirty

-- those that are still to be logged
abbrev pub unlogged : ControllerState → ℕ → SwitchState → ℕ
unlogged c s sw = next_number sw.buffer - logged_of c s sw + length sw.buffer.dirty

-- the events of its present life that a log has, and that the switch holds
abbrev pub logged_held : List Entry → ℕ → SwitchState → ℕ
logged_held log s sw = count_in s (life_of sw) (received log) - sw.buffer.cleared

-- the events of the primary's log that do not stand there as processed, and those that do beyond what is committed
abbrev pub unprocessed : ControllerState → ℕ
unprocessed c = length (received c.vr.log) - processed c.vr.log

abbrev pub uncommitted : ControllerState → ℕ
uncommitted c = processed c.vr.log - processed (committed c)

-- the commands of the committed events from a place on
abbrev pub commands_from : List ℕ → Setup → ControllerState → ℕ → ℕ
commands_from kinds setup c place = length (concat (drop place (issues kinds setup (received (committed c)))))

-- those of events that are not processed, and those of them that were sent in this view
abbrev pub commands_open : List ℕ → Setup → ControllerState → ℕ
commands_open kinds setup c = commands_from kinds setup c (processed (committed c))

abbrev pub commands_sent : List ℕ → Setup → ControllerState → ℕ
commands_sent kinds setup c =
    if is_untold c || not (has_unprocessed (committed c)) then 0
    else length (filter (λ x. is_confirmed c.marks x.switch) (commands_of kinds setup (received (committed c)) (processed (committed c))))

-- what is left at the primary, in a group of 2 f + 1
abbrev pub left_to_process : List ℕ → Setup → ℕ → ControllerState → ℕ
left_to_process kinds setup f c =
    (2 * f + 1) * unprocessed c + uncommitted c + 3 * (commands_open kinds setup c - commands_sent kinds setup c) + commands_sent kinds setup c

-- at a switch
abbrev pub left_at : ℕ → ControllerState → ℕ → SwitchState → ℕ
left_at f c s sw = 2 * unsent c sw + (4 * f + 1) * unlogged c s sw

-- and at all of them, with what is on its way
abbrev pub left_at_switches : Setup → ℕ → ControllerState → (ℕ → SwitchState) → ℕ
left_at_switches setup f c switches = sum_by (λ s. left_at f c s (switches s)) (range_with_len 0 (length setup.ports))

abbrev pub left_to_do : List ℕ → Setup → List ℕ → ControllerState → (ℕ → SwitchState) → List Sent → ℕ
left_to_do kinds setup quorum c switches waiting =
    worths quorum waiting + left_at_switches setup (setup.controllers / 2) c switches + left_to_process kinds setup (setup.controllers / 2) c
