-- What a turn of an actor is, for all that have one take turns.
use Rattle.std.specs.Prelude.{◌≡◌, ℕ, List}
use Rattle.journal.specs.declared.journal.Letter.{Letter}
use Rattle.journal.specs.Stables.{Saving}
use Rattle.app_core.specs.Law.{AppLaw}
use Rattle.of_switch.specs.declared.says.SwitchInput.{SwitchInput}
use Rattle.of_switch.specs.declared.says.SwitchSays.{SwitchSays}
use Rattle.of_switch.specs.State.{SwitchState}
use Rattle.of_switch.specs.Rules.{switch_turn}
use Rattle.group_controller.specs.declared.messages.ControllerInput.{ControllerInput}
use Rattle.group_controller.specs.declared.messages.ControllerSays.{ControllerSays}
use Rattle.group_controller.specs.Turns.{Controlling, Controls, Turns, Wants, pair_in, state_of}

-- a switch takes a turn
pub record SwitchTurned (old : SwitchState) (input : SwitchInput) (new : SwitchState) (letters : List (Letter SwitchSays)) : Type 0 where
  pub state : new ≡ (switch_turn old input).state
  pub says : letters ≡ (switch_turn old input).letters

-- a controller that keeps to its invariant knows the stable pair beside it
pub record IsReadyBeside {A W : Type 0} (law : AppLaw A) (saving : Saving W) (x : Controlling A) (stable : W) : Type 0 where
  pub kept : (kinds : List ℕ) × Controls law x kinds
  pub stands : saving.pair stable ≡ pair_in (state_of x)

-- and takes a turn, whatever the kinds of its applications are
pub record ControllerTurned {A W : Type 0} (law : AppLaw A) (saving : Saving W) (old : Controlling A) (stable : W) (input : ControllerInput)
    (new : Controlling A) (stable_after : W) (letters : List (Letter ControllerSays)) : Type 0 where
  pub setup : new.setup ≡ old.setup
  pub me : new.me ≡ old.me
  pub turn : (kinds : List ℕ) → Controls law old kinds →
      Turns kinds old input letters new (saving.pair stable) (saving.pair stable_after) (saving.faults stable) (saving.faults stable_after)
  pub kept : (kinds : List ℕ) → Controls law old kinds → Controls law new kinds
  pub stands : saving.pair stable_after ≡ pair_in (state_of new)

-- or finds no memory for it: it is down, no save was made, and its stable pair stands
pub record ControllerWanted {A W : Type 0} (law : AppLaw A) (saving : Saving W) (old : Controlling A) (stable : W) (new : Controlling A) (stable_after : W) : Type 0 where
  pub setup : new.setup ≡ old.setup
  pub me : new.me ≡ old.me
  pub wants : Wants old new (saving.pair stable) (saving.pair stable_after) (saving.faults stable) (saving.faults stable_after)
  pub kept : (kinds : List ℕ) → Controls law old kinds → Controls law new kinds
  pub stands : saving.pair stable_after ≡ pair_in (state_of new)
