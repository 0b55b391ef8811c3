-- The rules of a controller: one definition for each case.
use Rattle.std.specs.Prelude.{ℕ, ◌+◌, Bool, true, false, not, nat_eq, nat_lt, ◌&&◌, List, [], ◌∷◌, ◌++◌, length, map, filter, Some, None, if◌then◌else◌}
use Rattle.std.specs.List.{range_with_len}
use Rattle.of_types.specs.declared.message.Event.{Event}
use Rattle.of_types.specs.declared.message.Extension.{Extension}
use Rattle.of_types.specs.declared.message.Extension.TheVariants as extension
use Rattle.of_types.specs.declared.message.OfMessage.{OfMessage}
use Rattle.of_types.specs.declared.message.OfMessage.TheVariants as plain
use Rattle.of_types.specs.declared.message.Spoken.{Spoken}
use Rattle.of_types.specs.declared.message.Spoken.TheVariants as spoken
use Rattle.of_types.specs.declared.numbers.TheConstants.{MASTER}
use Rattle.of_types.specs.declared.setup.Setup.{Setup}
use Rattle.of_types.specs.Lives.{last_life}
use Rattle.controller_life.specs.Life as life
use Rattle.journal.specs.declared.journal.Letter.{Letter}
use Rattle.journal.specs.declared.journal.Local.{Local}
use Rattle.journal.specs.declared.journal.Local.TheVariants as local
use Rattle.vr_log.specs.declared.entry.Entry.TheVariants.{Received}
use Rattle.vr_log.specs.declared.state.Status.TheVariants.{Normal, ViewChange, Recovering, Down}
use Rattle.vr_log.specs.declared.state.VrState.{VrState}
use Rattle.vr_log.specs.Members.{is_up, leads}
use Rattle.vr_log.specs.Steps.{VrStep}
use Rattle.vr_recovery.specs.Recovering.{restarted}
use Rattle.vr_core.specs.declared.input.VrInput.TheVariants as vr_input
use Rattle.vr_core.specs.Step.{vr_step}
use Rattle.dispatcher.specs.declared.answers.EventAction.{EventAction}
use Rattle.dispatcher.specs.declared.answers.EventAction.TheVariants.{Propose, Acknowledge, Nothing}
use Rattle.dispatcher.specs.Marks.{no_marks, is_confirmed, confirmed_by, off_role, is_pending, with_marked_result, outstanding}
use Rattle.dispatcher.specs.Folding.{wish}
use Rattle.group_controller.specs.declared.messages.ControllerInput.{ControllerInput}
use Rattle.group_controller.specs.declared.messages.ControllerInput.TheVariants as controller_input
use Rattle.group_controller.specs.declared.messages.ControllerSays.{ControllerSays}
use Rattle.group_controller.specs.State.{ControllerState, Work, committed, with_no_met_limit, down, fresh, resting, posting_work, leaving, stepped, to_switch}
use Rattle.group_controller.specs.Settling.{role_letter, command_letters, ack_letter, settling, after_finishing, proposing}

-- the numbers of the switches
abbrev pub switches : Setup → List ℕ
switches setup = range_with_len 0 (length setup.ports)

-- the member has started a view, as its primary
abbrev pub has_started : VrState → VrState → Bool
has_started old new = leads new && not (leads old && nat_eq old.view new.view)

-- what came in earlier views is forgotten, and each switch is asked for its role. What the view begins with as
-- processed is not answered: a switch that still holds such an event sends it again
abbrev pub starting_view : List ℕ → Setup → Work → Work
starting_view kinds setup work =
    let c = record work.state { marks = no_marks; last_told = None } in
    settling kinds setup c.vr.commit (posting_work (leaving work c) (map (role_letter c.vr.view) (switches setup)))

-- a step of the member: a primary settles where it started a view, and where more is committed
unfoldable pub after_step : List ℕ → Setup → ControllerState → VrStep → Work
after_step kinds setup c step =
    if has_started c.vr step.state then starting_view kinds setup (stepped c step)
    else if leads step.state && nat_lt c.vr.commit step.state.commit then settling kinds setup c.vr.commit (stepped c step)
    else stepped c step

-- the switches that did not take this controller as master in this view
abbrev pub unconfirmed : Setup → ControllerState → List ℕ
unconfirmed setup c = filter (λ s. not (is_confirmed c.marks s)) (switches setup)

-- a tick of a primary: what switches have not answered is sent again
abbrev pub tick_letters : List ℕ → Setup → ControllerState → List (Letter ControllerSays)
tick_letters kinds setup c =
    map (role_letter c.vr.view) (unconfirmed setup c) ++ command_letters kinds setup c (outstanding kinds setup (committed c) c.marks)

abbrev pub on_tick : List ℕ → Setup → ControllerState → Work
on_tick kinds setup c =
    posting_work (stepped c (vr_step c.vr vr_input.Tick)) (if leads c.vr then tick_letters kinds setup c else [])

-- an event comes: one that may follow is proposed, and one that was processed is acknowledged
abbrev pub on_wish : List ℕ → Setup → ControllerState → Event → EventAction → Work
on_wish kinds setup c event Propose = proposing kinds setup c (Received event)
on_wish kinds setup c event (Acknowledge through) =
    posting_work (resting c) (ack_letter (record { switch = event.switch; life = event.life; through = through }) ∷ [])
on_wish kinds setup c event Nothing = resting c

abbrev pub on_event : List ℕ → Setup → ControllerState → Event → Work
on_event kinds setup c event = on_wish kinds setup c event (wish c.vr.log (committed c) event)

-- a result comes: where its command waits for one, the event may be finished
abbrev pub on_result : List ℕ → Setup → ControllerState → ℕ → ℕ → ℕ → Work
on_result kinds setup c switch life number =
    if is_pending kinds setup (committed c) switch life number
    then after_finishing kinds setup (resting (record c { marks = with_marked_result kinds setup (committed c) c.marks switch life number }))
    else resting c

-- a switch takes this controller as master: it gets its commands
abbrev pub commands_for : List ℕ → Setup → ControllerState → ℕ → List (Letter ControllerSays)
commands_for kinds setup c switch =
    command_letters kinds setup c (filter (λ x. nat_eq x.switch switch) (outstanding kinds setup (committed c) c.marks))

abbrev pub on_master : List ℕ → Setup → ControllerState → ℕ → Work
on_master kinds setup c switch =
    let now = record c { marks = confirmed_by c.marks switch } in posting_work (resting now) (commands_for kinds setup now switch)

abbrev pub on_role_reply : List ℕ → Setup → ControllerState → ℕ → ℕ → ℕ → Work
on_role_reply kinds setup c switch role generation =
    if nat_eq role MASTER && nat_eq generation c.vr.view then on_master kinds setup c switch else resting c

-- a switch greets: it may have lost its state, and is asked again
abbrev pub on_hello : ControllerState → ℕ → Work
on_hello c switch = posting_work (resting (record c { marks = off_role c.marks switch })) (role_letter c.vr.view switch ∷ [])

-- a message of OpenFlow to a primary
abbrev pub on_plain : List ℕ → Setup → ControllerState → ℕ → OfMessage → Work
on_plain kinds setup c switch (plain.RoleReply role generation) = on_role_reply kinds setup c switch role generation
on_plain kinds setup c switch plain.Hello = on_hello c switch
on_plain kinds setup c switch _ = resting c

-- a message of the extension to a primary
abbrev pub on_extension : List ℕ → Setup → ControllerState → ℕ → Extension → Work
on_extension kinds setup c switch (extension.Event life number what) =
    on_event kinds setup c (record { switch = switch; life = life; number = number; what = what })
on_extension kinds setup c switch (extension.CmdAck life number outcome) = on_result kinds setup c switch life number
on_extension kinds setup c switch _ = resting c

abbrev pub on_spoken : List ℕ → Setup → ControllerState → ℕ → Spoken → Work
on_spoken kinds setup c switch (spoken.Plain message) = on_plain kinds setup c switch message
on_spoken kinds setup c switch (spoken.Ravana message) = on_extension kinds setup c switch message

abbrev pub on_echo : ControllerState → ℕ → ℕ → List ℕ → Work
on_echo c switch xid body =
    if is_up c.vr then posting_work (resting c) (to_switch switch xid (spoken.Plain (plain.EchoReply body)) ∷ []) else resting c

-- each controller that is up answers an ECHO_REQUEST. All else from a switch is for a primary
abbrev pub on_switch : List ℕ → Setup → ControllerState → ℕ → ℕ → Spoken → Work
on_switch kinds setup c switch xid (spoken.Plain (plain.EchoRequest body)) = on_echo c switch xid body
on_switch kinds setup c switch xid said = if leads c.vr then on_spoken kinds setup c switch said else resting c

-- it crashes: all but the stable pair is gone
abbrev pub on_crash : ControllerState → Work
on_crash c = resting (down c c.vr.promise c.vr.life)

-- one that is down begins its next life, which it saves first
abbrev pub on_restart : ControllerState → Work
on_restart c =
    if nat_lt c.vr.life last_life
    then record (stepped (fresh c.vr) (restarted c.vr.me c.vr.controllers c.vr.promise (c.vr.life + 1))) {
      save = Some (c.vr.promise, c.vr.life + 1);
    }
    else resting c

-- a local input at a controller that is not down
abbrev pub on_local : List ℕ → Setup → ControllerState → Local → Work
on_local kinds setup c (local.Frame port bytes) = resting c
on_local kinds setup c (local.Port port up) = resting c
on_local kinds setup c local.Tick = on_tick kinds setup c
on_local kinds setup c (local.Suspect view) = after_step kinds setup c (vr_step c.vr (vr_input.Suspect view))
on_local kinds setup c local.Crash = on_crash c
on_local kinds setup c local.Restart = resting c

-- any input at one that is not down
abbrev pub on_input : List ℕ → Setup → ControllerState → ControllerInput → Work
on_input kinds setup c (controller_input.Local what) = on_local kinds setup c what
on_input kinds setup c (controller_input.Of switch xid said) = on_switch kinds setup c switch xid said
on_input kinds setup c (controller_input.Malformed sender) = resting c
on_input kinds setup c (controller_input.Vr from message) = after_step kinds setup c (vr_step c.vr (vr_input.From from message))

abbrev pub is_crash_input : ControllerInput → Bool
is_crash_input (controller_input.Local what) = life.is_crash what
is_crash_input _ = false

abbrev pub is_restart_input : ControllerInput → Bool
is_restart_input (controller_input.Local what) = life.is_restart what
is_restart_input _ = false

-- one that is down drops all but a restart
abbrev pub when_down : ControllerState → ControllerInput → Work
when_down c (controller_input.Local local.Restart) = on_restart c
when_down c _ = resting c

abbrev pub is_down : ControllerState → Bool
is_down c = elim c.vr.status [ Normal ↦ false | ViewChange ↦ false | Recovering ↦ false | Down ↦ true ]

-- one turn of a controller
unfoldable pub controller_work : List ℕ → Setup → ControllerState → ControllerInput → Work
controller_work kinds setup c input = if is_down c then when_down c input else on_input kinds setup (with_no_met_limit c) input
