-- The rules of controllers, with their saves, as rules of agreement.
use Rattle.std.specs.Prelude.{ℕ, ◌+◌, List, slice_index_or, Option, Some, None}
use Rattle.of_types.specs.declared.setup.Setup.{Setup}
use Rattle.journal.specs.declared.journal.Letter.{Letter}
use Rattle.journal.specs.declared.journal.SaveResult.{SaveResult}
use Rattle.journal.specs.declared.journal.SaveResult.TheVariants.{Saved}
use Rattle.agreement.specs.History as core
use Rattle.agreement.specs.History.{size}
use Rattle.agreement.specs.Journals.{Input, Rules}
use Rattle.vr_log.specs.declared.entry.Entry.{Entry}
use Rattle.controller_moves.specs.MemberMoves.Projection.{group_of, member_state_of, is_member}
use Rattle.group_controller.specs.declared.messages.ControllerSays.{ControllerSays}
use Rattle.group_controller.specs.State.{ControllerState, Work, starting_controller, down}
use Rattle.group_controller.specs.Rules.{controller_work}
use Rattle.group_controller.specs.Turns.{left_by, letters_posted_by}
use Rattle.controller_moves.specs.Projection.{OwnInput, input_of, letters_to_members}

-- a controller, and how many saves it has made
pub record SavingController : Type 0 where
  pub state : ControllerState
  pub saves : ℕ

-- a save came to this: where it failed, the controller is down, and posts nothing
abbrev pub saved : SavingController → Work → ℕ × ℕ → SaveResult → SavingController × List (Letter ControllerSays)
saved c work pair result = (record { state = left_by result c.state work pair; saves = c.saves + 1 }, letters_posted_by result work)

-- A turn is done: what it wants to be saved is saved before anything is posted (Viewstamped Replication Revisited, 4.3, needs
-- no disk; that promise and life are stable is our own rule). The next of these results is that of its save.
abbrev pub done : List SaveResult → SavingController → Work → Option (ℕ × ℕ) → SavingController × List (Letter ControllerSays)
done results c work None = (record { state = work.state; saves = c.saves }, work.letters)
done results c work (Some pair) = saved c work pair (slice_index_or results c.saves Saved)

-- one turn of controller c, of which the moves see the letters to members
abbrev pub turn : List ℕ → Setup → (ℕ → List SaveResult) → ℕ → SavingController → Input OwnInput Entry → SavingController × List (core.Letter Entry)
turn kinds setup results c a x =
    let work = controller_work kinds setup a.state (input_of x) in
    let out = done (results c) a work work.save in
    (out.0, letters_to_members c out.1)

-- the rules of the controllers of a group of 2 f + 1. Where a turn is refused, the controller is down with the pair from before
abbrev pub rules : List ℕ → Setup → ℕ → (ℕ → List SaveResult) → Rules OwnInput SavingController Entry
rules kinds setup most_failures results =
    record {
      start = λ c. record { state = starting_controller c (size (group_of most_failures)); saves = 0 };
      turn = turn kinds setup results;
      refused = λ c a. record a { state = down a.state a.state.vr.promise a.state.vr.life };
      state = λ a. member_state_of a.state.vr;
      promise = λ a. a.state.vr.promise;
      life = λ a. a.state.vr.life;
      is_valid = λ c a. is_member (group_of most_failures) c a.state.vr;
    }
