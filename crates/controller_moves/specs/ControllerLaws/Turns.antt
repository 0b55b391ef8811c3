-- What every state in the midst of a turn of a controller has, and where its letters come from.
use Rattle.std.specs.Prelude.{◌≡◌, ℕ, List, length}
use Rattle.of_types.specs.declared.message.Extension.TheVariants as extension
use Rattle.of_types.specs.declared.message.Outcome.{Outcome}
use Rattle.of_types.specs.declared.message.Spoken.TheVariants as spoken
use Rattle.of_types.specs.declared.setup.Setup.{Setup}
use Rattle.journal.specs.declared.journal.Letter.{Letter}
use Rattle.vr_log.specs.declared.entry.Entry.{Entry}
use Rattle.group_controller.specs.declared.messages.ControllerInput.{ControllerInput}
use Rattle.group_controller.specs.declared.messages.ControllerInput.TheVariants as controller_input
use Rattle.group_controller.specs.declared.messages.ControllerSays.{ControllerSays}
use Rattle.group_controller.specs.State.{ControllerState, Work, committed, with_no_met_limit, resting}
use Rattle.list_facts.specs.Lists.{IsIn, IsPrefix}
use Rattle.controller_moves.specs.ControllerLaws.Entries.{IsGoodBeside, StateHolds, IsConsistent}
use Rattle.controller_moves.specs.ControllerLaws.Moves.{IsSaid, IsProposed, Chain}

-- how a turn begins
abbrev pub beginning : ControllerState → Work
beginning c = resting (with_no_met_limit c)

-- a letter was said by a state in the midst of a turn, and what was committed there begins what is at the end
pub record IsSaidWithin (kinds : List ℕ) (setup : Setup) (x : ControllerInput) (c last : ControllerState) (l : Letter ControllerSays) : Type 0 where
  pub mid : Work
  pub chain : Chain kinds setup x (beginning c) mid
  pub consistent : IsConsistent mid.state.vr
  pub grows : IsPrefix (committed mid.state) (committed last)
  pub said : IsSaid kinds setup x mid.state l

-- a mark stood at the beginning of a turn, or came with the input
pub data HoldsMark (x : ControllerInput) (c : ControllerState) (switch life number : ℕ) : Type 0 where
  Stood : IsIn (switch, life, number) c.marks.acked → HoldsMark x c switch life number
  Came : (xid : ℕ) (outcome : Outcome) → x ≡ controller_input.Of switch xid (spoken.Ravana (extension.CmdAck life number outcome)) → HoldsMark x c switch life number

-- what holds of work in the midst of a turn
pub record IsReached (kinds : List ℕ) (setup : Setup) (x : ControllerInput) (c : ControllerState) (w : Work) : Type 0 where
  pub chain : Chain kinds setup x (beginning c) w
  pub consistent : IsConsistent w.state.vr
  pub grows : IsPrefix (committed c) (committed w.state)
  pub me : w.state.vr.me ≡ c.vr.me
  pub controllers : w.state.vr.controllers ≡ c.vr.controllers
  pub marks : (switch life number : ℕ) → IsIn (switch, life, number) w.state.marks.acked → HoldsMark x c switch life number
  pub said : (l : Letter ControllerSays) → IsIn l w.letters → IsSaidWithin kinds setup x c w.state l

-- what is proposed in the midst of a turn that ends so is good at the place where it comes to stand
abbrev pub ProposalsHold : List ℕ → Setup → ControllerInput → ControllerState → ControllerState → (ℕ → Entry → Type 0) → (ℕ → ℕ → Entry → Type 0) → Type 0
ProposalsHold kinds setup x c last IsGood IsBound =
    (mid : Work) (entry : Entry) → IsReached kinds setup x c mid → IsPrefix (committed mid.state) (committed last) → StateHolds IsGood IsBound mid.state.vr → IsProposed kinds setup x mid.state entry →
    IsGoodBeside IsGood IsBound mid.state.vr.commit (length mid.state.vr.log) entry
