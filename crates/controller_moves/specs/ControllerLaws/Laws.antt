-- The laws of a turn of a controller.
use Rattle.std.specs.Prelude.{◌≡◌, ◌<◌, ◌≤◌, ◌⊎◌, ℕ, ◌+◌, true, false, List, ◌∷◌, ◌++◌, length, take, filter, slice_get, Some}
use Rattle.of_types.specs.declared.message.Event.{Event}
use Rattle.of_types.specs.declared.setup.Setup.{Setup}
use Rattle.of_types.specs.Lives.{count_in}
use Rattle.journal.specs.declared.journal.Letter.{Letter}
use Rattle.journal.specs.declared.journal.Local.TheVariants as local
use Rattle.vr_log.specs.declared.entry.Entry.{Entry}
use Rattle.vr_log.specs.declared.entry.Entry.TheVariants.{Received, Processed}
use Rattle.vr_log.specs.declared.message.VrMessage.TheVariants as message
use Rattle.vr_log.specs.Log.{received, processed, is_log}
use Rattle.vr_log.specs.Steps.{letter}
use Rattle.vr_log.specs.Valid.{starting_state, down_state}
use Rattle.vr_recovery.specs.Recovering.{recovering_state}
use Rattle.two_stage_log.specs.Counts.{processed_of}
use Rattle.app_core.specs.Issued.{issued}
use Rattle.group_controller.specs.declared.messages.ControllerInput.{ControllerInput}
use Rattle.group_controller.specs.declared.messages.ControllerInput.TheVariants as controller_input
use Rattle.group_controller.specs.declared.messages.ControllerSays.{ControllerSays}
use Rattle.group_controller.specs.Rules.{is_down, controller_work}
use Rattle.group_controller.specs.Settling.{is_settled}
use Rattle.group_controller.specs.State.{ControllerState, Work, committed, down, fresh, resting, to_member}
use Rattle.controller_moves.specs.ControllerLaws.Letters as told
use Rattle.list_facts.specs.Lists.{IsIn, IsPrefix}
use Rattle.controller_moves.specs.ControllerLaws.CommitNumbers.{IsKnownCommit, WorkCommits}
use Rattle.controller_moves.specs.ControllerLaws.Entries.{IsConsistent, WorkHolds}
use Rattle.controller_moves.specs.ControllerLaws.Events.{IsNextOfLife, is_event_of}
use Rattle.controller_moves.specs.ControllerLaws.Moves.{Chain, IsSaid}
use Rattle.controller_moves.specs.ControllerLaws.Sources.{ComesFrom, StoodBeside}
use Rattle.controller_moves.specs.ControllerLaws.Views.{IsKnownView, StateViews}
use Rattle.controller_moves.specs.ControllerLaws.Turns.{beginning, IsReached}
use Rattle.controller_moves.specs.ControllerLaws.Finished.{IsFinished}

-- a turn of a controller that is not down is a chain of moves, or a crash, which leaves only the stable pair
abbrev pub TurnsAreChains : Type 0
TurnsAreChains =
    (kinds : List ℕ) (setup : Setup) (x : ControllerInput) (c : ControllerState) → is_down c ≡ false →
    Chain kinds setup x (beginning c) (controller_work kinds setup c x)
    ⊎ ((x ≡ controller_input.Local local.Crash) × (controller_work kinds setup c x ≡ resting (down c c.vr.promise c.vr.life)))

-- a restart begins anew, and only asks the others
pub record IsRestarted (c : ControllerState) (w : Work) : Type 0 where
  pub state_is : w.state ≡ fresh (recovering_state c.vr.me c.vr.controllers c.vr.promise (c.vr.life + 1))
  pub save_is : w.save ≡ Some (c.vr.promise, c.vr.life + 1)
  pub letters : (l : Letter ControllerSays) → IsIn l w.letters → (to : ℕ) × (l ≡ to_member (letter (message.Recovery (c.vr.life + 1) c.vr.promise) to))

-- one that is down rests, or restarts
abbrev pub DownRestsOrRestarts : Type 0
DownRestsOrRestarts =
    (kinds : List ℕ) (setup : Setup) (x : ControllerInput) (c : ControllerState) → is_down c ≡ true →
    (controller_work kinds setup c x ≡ resting c) ⊎ ((x ≡ controller_input.Local local.Restart) × IsRestarted c (controller_work kinds setup c x))

-- every state of a chain has a log that reaches its commit number, of which what is committed stays; its marks stood or
-- came; its letters were said on the way
abbrev pub ChainsReach : Type 0
ChainsReach =
    (kinds : List ℕ) (setup : Setup) (x : ControllerInput) (c : ControllerState) (w : Work) → IsConsistent c.vr → Chain kinds setup x (beginning c) w → IsReached kinds setup x c w

-- each entry that a controller holds or says stood at its place before, or came with the input, or was proposed there;
-- and beside a commit number that it goes beyond, it stood or was proposed beside one no greater
abbrev pub EntriesComeFrom : Type 0
EntriesComeFrom =
    (kinds : List ℕ) (setup : Setup) (x : ControllerInput) (c : ControllerState) (w : Work) → IsConsistent c.vr → Chain kinds setup x (beginning c) w →
    WorkHolds (λ n e. ComesFrom kinds setup x c w.state n e) (λ k n e. StoodBeside kinds setup x c w.state k n e) w

-- an event that may be proposed as processed is finished
abbrev pub SettledAreFinished : Type 0
SettledAreFinished = (kinds : List ℕ) (setup : Setup) (c : ControllerState) → IsConsistent c.vr → is_settled kinds setup c ≡ true → IsFinished kinds setup c

-- what a letter tells of what is committed
abbrev pub LettersTell : Type 0
LettersTell = (kinds : List ℕ) (setup : Setup) (x : ControllerInput) (c : ControllerState) (l : Letter ControllerSays) → IsSaid kinds setup x c l → told.LetterTells kinds setup x c l

-- views come from the member, from its responses, and from the input
abbrev pub ViewsComeFrom : Type 0
ViewsComeFrom = (kinds : List ℕ) (setup : Setup) (x : ControllerInput) (c : ControllerState) (w : Work) → Chain kinds setup x (beginning c) w → StateViews (λ v. IsKnownView x c v) w.state.vr

-- members that start, are down, or recover are consistent: they have nothing yet
abbrev pub EmptyAreConsistent : Type 0
EmptyAreConsistent = (me controllers promise life : ℕ) → IsConsistent (starting_state me controllers) × IsConsistent (down_state me controllers promise life) × IsConsistent (recovering_state me controllers promise life)

-- what is issued to a life on more events begins with what is issued on the first of them
abbrev pub IssuedLasts : Type 0
IssuedLasts = (kinds : List ℕ) (setup : Setup) (switch life : ℕ) (events more : List Event) → IsPrefix events more → IsPrefix (issued kinds setup switch life events) (issued kinds setup switch life more)

-- no fewer events are processed, and no fewer commands settled, in a longer log
pub record CountNoLess (kinds : List ℕ) (setup : Setup) (switch life : ℕ) (old new : List Entry) : Type 0 where
  pub events : processed_of old switch life ≤ processed_of new switch life
  pub commands : length (issued kinds setup switch life (take (processed old) (received old))) ≤ length (issued kinds setup switch life (take (processed new) (received new)))

-- of every life
abbrev pub CountsLast : Type 0
CountsLast = (kinds : List ℕ) (setup : Setup) (switch life : ℕ) (old new : List Entry) → IsPrefix old new → CountNoLess kinds setup switch life old new

-- in a log events are processed in their order, each behind where it was received
pub record AreProcessedInOrder (log : List Entry) : Type 0 where
  pub each : (front back : List Entry) (j : ℕ) → log ≡ front ++ Processed j ∷ back → (j ≡ processed front) × (j < length (received front))
  pub all : (j : ℕ) → j < processed log → (front : List Entry) × (back : List Entry) × (log ≡ front ++ Processed j ∷ back)

-- every log
abbrev pub LogsProcessInOrder : Type 0
LogsProcessInOrder = (log : List Entry) → is_log log ≡ true → AreProcessedInOrder log

-- where each event of a log is the one of its number that its switch made in its life, the events of a life are the
-- first that it made
abbrev pub LogsReceiveInOrder : Type 0
LogsReceiveInOrder =
    (made : ℕ → ℕ → List Event) (log : List Entry) → is_log log ≡ true → ((e : Event) → IsIn e (received log) → slice_get (made e.switch e.life) e.number ≡ Some e) →
    (switch life : ℕ) → filter (is_event_of switch life) (received log) ≡ take (count_in switch life (received log)) (made switch life)

-- each commit number that a controller holds of others, or says, is no greater than its own at last, or stood, or came
abbrev pub CommitsComeFrom : Type 0
CommitsComeFrom =
    (kinds : List ℕ) (setup : Setup) (x : ControllerInput) (c : ControllerState) (w : Work) → IsConsistent c.vr → Chain kinds setup x (beginning c) w →
    WorkCommits (λ k. IsKnownCommit x c w.state k) w

-- each event of a log is the next of its life
abbrev pub LogsNumberByLife : Type 0
LogsNumberByLife = (log front back : List Entry) (e : Event) → is_log log ≡ true → log ≡ front ++ Received e ∷ back → IsNextOfLife front e
