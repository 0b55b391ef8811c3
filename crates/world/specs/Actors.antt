-- One actor of a list takes an input.
use Rattle.std.specs.Prelude.{◌≡◌, ℕ, List, [], ◌∷◌, ◌++◌, slice_get, slice_set, Some}
use Rattle.journal.specs.declared.journal.Actor.TheVariants as actor
use Rattle.journal.specs.declared.journal.JournalEntry.TheVariants.{Refused}
use Rattle.journal.specs.declared.journal.Letter.{Letter}
use Rattle.of_switch.specs.declared.says.SwitchInput.{SwitchInput}
use Rattle.of_switch.specs.declared.says.SwitchSays.{SwitchSays}
use Rattle.of_switch.specs.State.{SwitchState}
use Rattle.journal.specs.Stables.{Saving}
use Rattle.app_core.specs.Law.{AppLaw}
use Rattle.group_controller.specs.declared.messages.ControllerInput.{ControllerInput}
use Rattle.group_controller.specs.declared.messages.ControllerSays.{ControllerSays}
use Rattle.group_controller.specs.Turns.{Controlling, Controls, pair_in, state_of}
use Rattle.run_spec.specs.States.{Sealing, switch_message, controller_message}
use Rattle.players.specs.Turns.{ControllerTurned, ControllerWanted, SwitchTurned}
use Rattle.world.specs.World.{IsOwed, Worlding}

-- the switch of a number takes a turn
pub record SwitchTakes (input : SwitchInput) (before : List SwitchState) (number : ℕ) (after : List SwitchState) (letters : List (Letter SwitchSays)) : Type 0 where
  pub old : SwitchState
  pub new : SwitchState
  pub stood : slice_get before number ≡ Some old
  pub state : after ≡ slice_set before number new
  pub turned : SwitchTurned old input new letters

-- the controller of a number keeps to its invariant, and its stable pair stands at the number
pub record IsServed {A W : Type 0} (law : AppLaw A) (saving : Saving W) (controllers : List (Controlling A)) (stables : List W) (number : ℕ) : Type 0 where
  pub kept : (x : Controlling A) → slice_get controllers number ≡ Some x → (kinds : List ℕ) × Controls law x kinds
  pub stands : (x : Controlling A) (stable : W) → slice_get controllers number ≡ Some x → slice_get stables number ≡ Some stable → saving.pair stable ≡ pair_in (state_of x)

-- the controller of a number takes a turn beside its stable pair
pub record ControllerTakes {A W : Type 0} (law : AppLaw A) (saving : Saving W) (input : ControllerInput)
    (before : List (Controlling A)) (stables : List W) (number : ℕ) (after : List (Controlling A)) (stables_after : List W) (letters : List (Letter ControllerSays)) : Type 0 where
  pub old : Controlling A
  pub new : Controlling A
  pub stable : W
  pub stable_after : W
  pub stood : slice_get before number ≡ Some old
  pub stable_stood : slice_get stables number ≡ Some stable
  pub state : after ≡ slice_set before number new
  pub stables_are : stables_after ≡ slice_set stables number stable_after
  pub turned : ControllerTurned law saving old stable input new stable_after letters

-- a switch of a world takes a turn, and owes what it says
pub record SwitchOwes {B A : Type 0} (sealing : Sealing B) (input : SwitchInput) (old : Worlding B A) (number : ℕ) (new : Worlding B A) : Type 0 where
  pub letters : List (Letter SwitchSays)
  pub sealed : List (Letter B)
  pub takes : SwitchTakes input old.switches number new.switches letters
  pub owes : IsOwed switch_message sealing letters sealed
  pub left : new ≡ record old { switches = new.switches; owed = Some (record { actor = actor.Switch number; letters = sealed }) }

-- a controller of a world takes a turn, beside its stable pair, and owes what it says
pub record ControllerOwes {B A W : Type 0} (law : AppLaw A) (saving : Saving W) (sealing : Sealing B) (input : ControllerInput)
    (old : Worlding B A) (stables : List W) (number : ℕ) (new : Worlding B A) (stables_after : List W) : Type 0 where
  pub letters : List (Letter ControllerSays)
  pub sealed : List (Letter B)
  pub takes : ControllerTakes law saving input old.controllers stables number new.controllers stables_after letters
  pub owes : IsOwed controller_message sealing letters sealed
  pub left : new ≡ record old { controllers = new.controllers; owed = Some (record { actor = actor.Controller number; letters = sealed }) }

-- the controller of a number finds no memory for its turn
pub record ControllerWants {A W : Type 0} (law : AppLaw A) (saving : Saving W)
    (before : List (Controlling A)) (stables : List W) (number : ℕ) (after : List (Controlling A)) (stables_after : List W) : Type 0 where
  pub old : Controlling A
  pub new : Controlling A
  pub stable : W
  pub stable_after : W
  pub stood : slice_get before number ≡ Some old
  pub stable_stood : slice_get stables number ≡ Some stable
  pub state : after ≡ slice_set before number new
  pub stables_are : stables_after ≡ slice_set stables number stable_after
  pub wanted : ControllerWanted law saving old stable new stable_after

-- a switch of a world finds no memory for the input of the newest entry: it is as it was, and the entry is refused
abbrev pub SwitchRefused : {B A : Type 0} → Worlding B A → ℕ → Worlding B A → Type 0
SwitchRefused old number new = new ≡ record old { journal = old.journal ++ Refused (actor.Switch number) ∷ [] }

-- a controller of a world finds none
pub record ControllerRefused {B A W : Type 0} (law : AppLaw A) (saving : Saving W)
    (old : Worlding B A) (stables : List W) (number : ℕ) (new : Worlding B A) (stables_after : List W) : Type 0 where
  pub wants : ControllerWants law saving old.controllers stables number new.controllers stables_after
  pub left : new ≡ record old { journal = old.journal ++ Refused (actor.Controller number) ∷ []; controllers = new.controllers }
