-- What a controller holds, and says to members, can be spelled.
use Rattle.std.specs.Prelude.{ℕ, List, ⊤}
use Rattle.std.specs.List.{AllByRecursion}
use Rattle.of_types.specs.declared.message.Extension.TheVariants as extension
use Rattle.of_types.specs.declared.message.Spoken.TheVariants as spoken
use Rattle.of_types.specs.declared.setup.Setup.{Setup}
use Rattle.journal.specs.declared.journal.Actor.{Actor}
use Rattle.journal.specs.declared.journal.Actor.TheVariants.{Controller, Switch}
use Rattle.journal.specs.declared.journal.Letter.{Letter}
use Rattle.vr_log.specs.declared.entry.Entry.TheVariants.{Received}
use Rattle.vr_log.specs.Sizes.{IsValidEntry, IsValidVr}
use Rattle.controller_moves.specs.MemberMoves.Spelling.{CanBeSpelled, IsValidInput}
use Rattle.group_controller.specs.declared.messages.ControllerInput.{ControllerInput}
use Rattle.group_controller.specs.declared.messages.ControllerInput.TheVariants as controller_input
use Rattle.group_controller.specs.declared.messages.ControllerSays.{ControllerSays}
use Rattle.group_controller.specs.declared.messages.ControllerSays.TheVariants as controller_says
use Rattle.group_controller.specs.Rules.{controller_work}
use Rattle.group_controller.specs.State.{ControllerState, Work}
use Rattle.controller_moves.specs.ControllerLaws.Moves.{member_input}

-- a letter to a member is a message of members, and can be spelled
abbrev pub IsValidTo : Actor → ControllerSays → Type 0
IsValidTo (Controller j) (controller_says.Vr said) = IsValidVr said
IsValidTo (Controller j) (controller_says.Of xid said) = ⊥
IsValidTo (Switch s) said = ⊤

-- so is each of these letters that goes to a member
abbrev pub AreValidToMembers : List (Letter ControllerSays) → Type 0
AreValidToMembers letters = AllByRecursion (λ l. IsValidTo l.to l.body) letters

-- the event that a switch tells, if it tells one, can be spelled in a log
abbrev pub HasValidEvent : ControllerInput → Type 0
HasValidEvent (controller_input.Of switch xid (spoken.Ravana (extension.Event life number what))) =
    IsValidEntry (Received (record { switch = switch; life = life; number = number; what = what }))
HasValidEvent _ = ⊤

-- the event of an input, or its message of a member, can be spelled
pub record CanBeHeard (x : ControllerInput) : Type 0 where
  pub event : HasValidEvent x
  pub message : IsValidInput (member_input x)

-- what a turn leaves, and says to members, can be spelled
pub record IsValidWork (w : Work) : Type 0 where
  pub state : CanBeSpelled w.state.vr
  pub letters : AreValidToMembers w.letters

-- where what a controller holds and hears can be spelled, what a turn leaves, and says to members, can be
abbrev pub TurnsCanBeSpelled : Type 0
TurnsCanBeSpelled = (kinds : List ℕ) (setup : Setup) (c : ControllerState) (x : ControllerInput) → CanBeSpelled c.vr → CanBeHeard x → IsValidWork (controller_work kinds setup c x)
