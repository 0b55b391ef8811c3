-- To whom a turn writes. What an actor knows of its setup, and from whom its input comes.
use Rattle.std.specs.Prelude.{◌≡◌, ◌<◌, ℕ, List, length, IfSome}
use Rattle.std.specs.List.{AllByRecursion}
use Rattle.of_types.specs.declared.setup.Setup.{Setup}
use Rattle.journal.specs.Actors.{IsActor}
use Rattle.vr_log.specs.declared.entry.Entry.{Entry}
use Rattle.vr_log.specs.declared.entry.Entry.TheVariants.{Received, Processed}
use Rattle.vr_log.specs.declared.state.VrState.{VrState}
use Rattle.of_switch.specs.declared.says.SwitchInput.{SwitchInput}
use Rattle.of_switch.specs.declared.says.SwitchInput.TheVariants as switch_input
use Rattle.of_switch.specs.State.{SwitchState}
use Rattle.group_controller.specs.declared.messages.ControllerInput.{ControllerInput}
use Rattle.group_controller.specs.declared.messages.ControllerInput.TheVariants as controller_input
use Rattle.group_controller.specs.State.{ControllerState}

-- numbers of the setup's switches
abbrev pub AreSwitches : Setup → List ℕ → Type 0
AreSwitches setup numbers = AllByRecursion (λ s. s < length setup.ports) numbers

-- an entry names a switch of the setup, if it names one
abbrev pub IsOfSwitch : Setup → Entry → Type 0
IsOfSwitch setup (Received event) = event.switch < length setup.ports
IsOfSwitch setup (Processed j) = Unit {0}

abbrev pub AreOfSwitches : Setup → List Entry → Type 0
AreOfSwitches setup log = AllByRecursion (λ e. IsOfSwitch setup e) log

-- a member of a group of this size, which collected logs of its members alone
pub record IsOfGroup (size : ℕ) (s : VrState) : Type 0 where
  pub all : s.controllers ≡ size
  pub me : s.me < size
  pub collected : AllByRecursion (λ c. c.from < size) s.collected

-- a controller is one of its setup, and takes switches of it alone as its own
pub record KnowsSwitches (setup : Setup) (c : ControllerState) : Type 0 where
  pub member : IsOfGroup setup.controllers c.vr
  pub confirmed : AreSwitches setup c.marks.confirmed

-- a switch knows the setup's controllers and its own wires, which end at switches of the setup, and has one of these
-- controllers as its master, if any
pub record KnowsControllers (setup : Setup) (s : SwitchState) : Type 0 where
  pub all : s.controllers ≡ setup.controllers
  pub links : AllByRecursion (λ l. (l.switch < length setup.ports) × (l.peer < length setup.ports)) s.links
  pub master : IfSome s.fence.master (λ c. c < setup.controllers)

-- what a controller takes comes from the setup, as far as it is answered
abbrev pub IsToController : Setup → ControllerInput → Type 0
IsToController setup (controller_input.Of switch xid said) = switch < length setup.ports
IsToController setup _ = Unit {0}

-- and what a switch takes
abbrev pub WritesToSwitch : Setup → SwitchInput → Type 0
WritesToSwitch setup (switch_input.Of from xid said) = from < setup.controllers
WritesToSwitch setup (switch_input.Malformed from kind code xid head) = IsActor setup from
WritesToSwitch setup _ = Unit {0}
