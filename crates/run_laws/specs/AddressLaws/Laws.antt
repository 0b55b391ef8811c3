-- A turn writes to actors of the setup alone.
use Rattle.std.specs.Prelude.{◌<◌, ℕ, List, drop}
use Rattle.std.specs.List.{AllByRecursion}
use Rattle.of_types.specs.declared.setup.Setup.{Setup}
use Rattle.of_types.specs.Setups.{IsSetup}
use Rattle.journal.specs.declared.journal.JournalEntry.{JournalEntry}
use Rattle.journal.specs.declared.journal.SaveResult.{SaveResult}
use Rattle.journal.specs.Actors.{IsActor, AreAddressed}
use Rattle.journal.specs.Pool.{pool}
use Rattle.of_switch.specs.declared.says.SwitchInput.{SwitchInput}
use Rattle.of_switch.specs.State.{SwitchState, SwitchTurn}
use Rattle.of_switch.specs.Rules.{switch_turn}
use Rattle.group_controller.specs.declared.messages.ControllerInput.{ControllerInput}
use Rattle.group_controller.specs.State.{ControllerState, Work}
use Rattle.group_controller.specs.Rules.{controller_work}
use Rattle.run_spec.specs.States.{Scene}
use Rattle.run_spec.specs.Legal.{IsPossible}
use Rattle.run_spec.specs.Committed.{controller_state}
use Rattle.run_laws.specs.AddressLaws.Addresses.{AreOfSwitches, KnowsSwitches, KnowsControllers, IsToController, WritesToSwitch}

-- a turn of a switch leaves what it knows, and writes to actors of the setup
pub record IsAddressedTurn (setup : Setup) (turn : SwitchTurn) : Type 0 where
  pub knows : KnowsControllers setup turn.state
  pub sends : AreAddressed setup turn.letters

-- each turn of a switch that takes what comes from the setup
abbrev pub SwitchesWriteToActors : Type 0
SwitchesWriteToActors = (setup : Setup) (s : SwitchState) (x : SwitchInput) → KnowsControllers setup s → WritesToSwitch setup x → IsAddressedTurn setup (switch_turn s x)

-- a turn of a controller leaves what it knows, and writes to actors of the setup
pub record IsAddressedWork (setup : Setup) (work : Work) : Type 0 where
  pub knows : KnowsSwitches setup work.state
  pub sends : AreAddressed setup work.letters

-- each turn of a controller that takes what comes from the setup, and whose log at its end has events of its switches alone
abbrev pub ControllersWriteToActors : Type 0
ControllersWriteToActors =
    (kinds : List ℕ) (setup : Setup) (c : ControllerState) (x : ControllerInput) → KnowsSwitches setup c → IsToController setup x →
    AreOfSwitches setup (controller_work kinds setup c x).state.vr.log → IsAddressedWork setup (controller_work kinds setup c x)

-- whatever waits goes to an actor of the setup
abbrev pub WaitsForActors : {B : Type 0} → Scene B → List (JournalEntry B) → Type 0
WaitsForActors scene entries = AllByRecursion (λ p. IsActor scene.setup p.to) (pool entries)

-- after every possible past, where the logs of the controllers had events of the setup's switches alone
abbrev pub JournalsAreAddressed : Type 0 → Type 0
JournalsAreAddressed B =
    (scene : Scene B) (results : List (List SaveResult)) (entries : List (JournalEntry B)) → IsSetup scene.setup → IsPossible scene results entries →
    ((i c : ℕ) → c < scene.setup.controllers → AreOfSwitches scene.setup (controller_state scene results c (drop i entries)).vr.log) → WaitsForActors scene entries
