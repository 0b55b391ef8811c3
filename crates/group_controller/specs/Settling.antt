-- What a primary does once entries are committed (Ravana, 4.2): it answers what is processed, sends the commands of
-- the first event that is not, and proposes that event as processed where all of them are done.
use Rattle.std.specs.Prelude.{ℕ, zero, suc, Bool, not, nat_eq, nat_le, ◌&&◌, List, ◌++◌, length, drop, map, flat_map, Some, if◌then◌else◌}
use Rattle.of_types.specs.declared.message.Extension.TheVariants as extension
use Rattle.of_types.specs.declared.message.OfMessage.TheVariants as plain
use Rattle.of_types.specs.declared.message.Spoken.TheVariants as spoken
use Rattle.of_types.specs.declared.numbers.TheConstants.{MASTER}
use Rattle.of_types.specs.declared.setup.Setup.{Setup}
pub use Rattle.of_types.specs.SmallSets.{is_some_of}
use Rattle.journal.specs.declared.journal.Letter.{Letter}
use Rattle.vr_log.specs.declared.entry.Entry.{Entry}
use Rattle.vr_log.specs.declared.entry.Entry.TheVariants.{Processed}
use Rattle.vr_log.specs.Log.{received, processed, is_past_limits}
use Rattle.vr_log.specs.Members.{most_failures}
use Rattle.vr_normal.specs.Proposing.{proposed}
use Rattle.two_stage_log.specs.Counts.{has_unprocessed}
use Rattle.app_core.specs.declared.issued.Issued.{Issued}
use Rattle.dispatcher.specs.declared.numbered.NumberedOrder.{NumberedOrder}
use Rattle.dispatcher.specs.declared.answers.AckThrough.{AckThrough}
use Rattle.dispatcher.specs.Marks.{outstanding, is_finished}
use Rattle.dispatcher.specs.Folding.{numbered, acknowledges_at, clears_at, places_processed}
use Rattle.group_controller.specs.declared.messages.ControllerSays.{ControllerSays}
use Rattle.group_controller.specs.State.{ControllerState, Work, committed, met_limit, resting, posting_work, leaving, to_switch, to_members}

-- a switch is asked to take this controller as master
abbrev pub role_letter : ℕ → ℕ → Letter ControllerSays
role_letter view s = to_switch s 0 (spoken.Plain (plain.RoleRequest MASTER view))

-- a command to its switch, with the view as its generation
abbrev pub command_letter : ℕ → NumberedOrder → Letter ControllerSays
command_letter view n = to_switch n.switch 0 (spoken.Ravana (extension.Command n.life view n.number n.settled n.order))

abbrev pub command_letters : List ℕ → Setup → ControllerState → List Issued → List (Letter ControllerSays)
command_letters kinds setup c commands = map (λ x. command_letter c.vr.view (numbered kinds setup (committed c) x)) commands

-- a switch is told how many events, and how many commands, of a life are done with
abbrev pub ack_letter : AckThrough → Letter ControllerSays
ack_letter t = to_switch t.switch 0 (spoken.Ravana (extension.EventAck t.life t.through))

abbrev pub clear_letter : AckThrough → Letter ControllerSays
clear_letter t = to_switch t.switch 0 (spoken.Ravana (extension.Clear t.life t.through))

-- what answers that the event at a place is processed
abbrev pub answers_at : List ℕ → Setup → ControllerState → ℕ → List (Letter ControllerSays)
answers_at kinds setup c j =
    map ack_letter (acknowledges_at (committed c) j) ++ map clear_letter (clears_at kinds setup (committed c) j)

-- Settle, first step: what was newly committed as processed, behind so many entries, is answered
abbrev pub with_answers : List ℕ → Setup → ℕ → Work → Work
with_answers kinds setup before work =
    posting_work work (flat_map (answers_at kinds setup work.state) (places_processed (drop before (committed work.state))))

-- Settle, second step: the commands of the first unprocessed event go out, where they were not the last that did in
-- this view
abbrev pub is_untold : ControllerState → Bool
is_untold c = has_unprocessed (committed c) && not (is_some_of (processed (committed c)) c.last_told)

abbrev pub with_commands : List ℕ → Setup → Work → Work
with_commands kinds setup work =
    let c = work.state in
    if is_untold c
    then leaving (posting_work work (command_letters kinds setup c (outstanding kinds setup (committed c) c.marks)))
    (record c { last_told = Some (processed (committed c)) })
    else work

-- an entry is proposed: it joins the log, and the others are told
abbrev pub with_proposal : Work → Entry → Work
with_proposal work entry =
    let step = proposed work.state.vr entry in
    posting_work (leaving work (record work.state { vr = step.state })) (to_members step.letters)

-- the first unprocessed event is finished, and not yet proposed as processed
abbrev pub is_settled : List ℕ → Setup → ControllerState → Bool
is_settled kinds setup c =
    is_finished kinds setup (committed c) c.marks && nat_le (processed c.vr.log) (processed (committed c))

-- a controller alone in its group, where each proposal is committed at once
abbrev pub is_alone : ControllerState → Bool
is_alone c = nat_eq (most_failures c.vr) 0

-- An entry is proposed. Past the limits nothing is appended. A controller alone commits it at once, and settles again.
abbrev pub after_proposal : List ℕ → Setup → Work → Entry → Work
after_proposal kinds setup work entry =
    let c = work.state in
    if is_past_limits c.vr.log entry then leaving work (met_limit c entry)
    else if is_alone c then with_commands kinds setup (with_answers kinds setup c.vr.commit (with_proposal work entry))
    else with_proposal work entry

abbrev pub goes_on : ControllerState → Entry → Bool
goes_on c entry = not (is_past_limits c.vr.log entry) && is_alone c

-- Settle, third step: the first unprocessed event is proposed as processed where it is finished, so many times at most
abbrev pub processing : ControllerState → Entry
processing c = Processed (processed (committed c))

unfoldable pub finishing : ℕ → List ℕ → Setup → Work → Work
finishing zero kinds setup work = work
finishing (suc more) kinds setup work =
    let next = after_proposal kinds setup work (processing work.state) in
    if not (is_settled kinds setup work.state) then work
    else if goes_on work.state (processing work.state) then finishing more kinds setup next
    else next

-- as often as there are events in the log
abbrev pub after_finishing : List ℕ → Setup → Work → Work
after_finishing kinds setup work = finishing (length (received work.state.vr.log)) kinds setup work

-- Settle, once so many entries were answered
unfoldable pub settling : List ℕ → Setup → ℕ → Work → Work
settling kinds setup before work = after_finishing kinds setup (with_commands kinds setup (with_answers kinds setup before work))

-- the primary proposes an entry
abbrev pub proposing : List ℕ → Setup → ControllerState → Entry → Work
proposing kinds setup c entry =
    let next = after_proposal kinds setup (resting c) entry in
    if goes_on c entry then after_finishing kinds setup next else next
