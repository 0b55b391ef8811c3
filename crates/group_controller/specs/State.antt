-- What a controller holds, and what a turn of it saves, leaves and posts.
use Rattle.std.specs.Prelude.{ℕ, Option, Some, None, option_map, List, [], ◌++◌, map, take}
use Rattle.of_types.specs.declared.message.Spoken.{Spoken}
use Rattle.of_types.specs.declared.setup.Setup.{Setup}
use Rattle.journal.specs.declared.journal.Actor.TheVariants.{Controller, Switch}
use Rattle.journal.specs.declared.journal.Letter.{Letter}
use Rattle.vr_log.specs.declared.entry.Entry.{Entry}
use Rattle.vr_log.specs.declared.entry.LogFull.{LogFull}
use Rattle.vr_log.specs.declared.message.VrLetter.{VrLetter}
use Rattle.vr_log.specs.declared.state.VrState.{VrState}
use Rattle.vr_log.specs.Log.{full_at}
use Rattle.vr_log.specs.Steps.{VrStep}
use Rattle.vr_log.specs.Valid.{starting_state, down_state}
use Rattle.dispatcher.specs.Marks.{Marks, no_marks, pending_alone}
use Rattle.group_controller.specs.declared.messages.ControllerSays.{ControllerSays}
use Rattle.group_controller.specs.declared.messages.ControllerSays.TheVariants as controller_says

-- A controller, as its neighbours see it: a member of its group, and the marks of its view. Its application is the
-- fold of its committed log, and no part of this. One that is down is a member that knows its stable pair alone.
pub record ControllerState : Type 0 where
  pub vr : VrState
  pub marks : Marks
  pub last_told : Option ℕ  -- the event whose commands were last sent in this view
  pub full : Option LogFull  -- the proposal that the last turn met the log's limit with

-- a member without marks
abbrev pub fresh : VrState → ControllerState
fresh vr = record { vr = vr; marks = no_marks; last_told = None; full = None }

abbrev pub starting_controller : ℕ → ℕ → ControllerState
starting_controller me controllers = fresh (starting_state me controllers)

-- it went down, and this pair is stable
abbrev pub down : ControllerState → ℕ → ℕ → ControllerState
down c promise life = fresh (down_state c.vr.me c.vr.controllers promise life)

abbrev pub committed : ControllerState → List Entry
committed c = take c.vr.commit c.vr.log

-- the results of commands that are settled are forgotten: no rule asks for them again
abbrev pub with_settled_forgotten : List ℕ → Setup → ControllerState → ControllerState
with_settled_forgotten kinds setup c = record c { marks = pending_alone kinds setup (committed c) c.marks }

-- a proposal met the limit of the log
abbrev pub met_limit : ControllerState → Entry → ControllerState
met_limit c entry = record c { full = Some (full_at c.vr.log entry) }

-- a turn begins with no proposal that met the limit
abbrev pub with_no_met_limit : ControllerState → ControllerState
with_no_met_limit c = record c { full = None }

-- what the rule of an input leaves, the stable pair that is saved before anything is posted, and what it wants to post
pub record Work : Type 0 where
  pub state : ControllerState
  pub save : Option (ℕ × ℕ)
  pub letters : List (Letter ControllerSays)

-- nothing is saved or posted
abbrev pub resting : ControllerState → Work
resting c = record { state = c; save = None; letters = [] }

-- letters go behind those that are there
abbrev pub posting_work : Work → List (Letter ControllerSays) → Work
posting_work work letters = record work { letters = work.letters ++ letters }

abbrev pub leaving : Work → ControllerState → Work
leaving work state = record work { state = state }

-- a letter to a switch. A message that is no answer has number 0
abbrev pub to_switch : ℕ → ℕ → Spoken → Letter ControllerSays
to_switch s xid message = record { to = Switch s; body = controller_says.Of xid message }

-- letters of a member
abbrev pub to_member : VrLetter → Letter ControllerSays
to_member l = record { to = Controller l.to; body = controller_says.Vr l.message }

abbrev pub to_members : List VrLetter → List (Letter ControllerSays)
to_members letters = map to_member letters

-- a step of the member was done: its promise is saved beside its life
abbrev pub stepped : ControllerState → VrStep → Work
stepped c step =
    record {
      state = record c { vr = step.state };
      save = option_map (λ promise. (promise, step.state.life)) step.promise;
      letters = to_members step.letters;
    }
