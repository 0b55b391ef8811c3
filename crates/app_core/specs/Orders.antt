-- What the laws of runs need of each command of an application: it is of a switch of the setup, sends a frame once at most
-- to a port, and can be spelled.
use Rattle.std.specs.Prelude.{◌<◌, ◌≤◌, ◌⊎◌, ℕ, suc, ◌^◌, List, [], ◌∷◌, length}
use Rattle.std.specs.List.{AllByRecursion}
use Rattle.of_types.specs.declared.message.Command.{Command}
use Rattle.of_types.specs.declared.message.Event.{Event}
use Rattle.of_types.specs.declared.message.Happening.{Happening}
use Rattle.of_types.specs.declared.message.Happening.TheVariants as happening
use Rattle.of_types.specs.declared.message.Order.{Order}
use Rattle.of_types.specs.declared.message.Order.TheVariants as order
use Rattle.of_types.specs.declared.numbers.TheConstants.{LONGEST_FRAME}
use Rattle.of_types.specs.declared.setup.Setup.{Setup}
use Rattle.of_types.specs.Sizes.{order_size}
use Rattle.of_types.specs.Valid.{IsValidOrder}

-- a switch has at most so many ports
abbrev pub most_ports : ℕ
most_ports = 48

-- ports that a switch may have, from one on, ascending: so each stands once
abbrev pub Ascend : ℕ → List ℕ → Type 0
Ascend least [] = Unit {0}
Ascend least (port ∷ ports) = (least ≤ port) × (port ≤ most_ports) × Ascend (suc port) ports

-- one output at most, whatever it stands for, or ports
abbrev pub AreFewOutputs : List ℕ → Type 0
AreFewOutputs outputs = (length outputs ≤ 1) ⊎ Ascend 1 outputs

-- so an order sends its frame to each port of its switch once at most
abbrev pub HasFewOutputs : Order → Type 0
HasFewOutputs (order.PacketOut out) = AreFewOutputs out.actions
HasFewOutputs (order.FlowMod change) = Unit {0}

abbrev pub AreBytes : List ℕ → Type 0
AreBytes frame = AllByRecursion (λ b. b < 2 ^ 8) frame

-- what an order has as a frame is of bytes
abbrev pub IsGoodOrder : Order → Type 0
IsGoodOrder (order.PacketOut out) = AreBytes out.payload
IsGoodOrder (order.FlowMod change) = Unit {0}

-- an order that fits a command
abbrev pub IsSendable : Order → Type 0
IsSendable what = IsValidOrder what × (order_size what ≤ 65000) × IsGoodOrder what

-- a frame that came in is of bytes, and no longer than frames are
abbrev pub IsShort : Happening → Type 0
IsShort (happening.PacketIn p) = (length p.payload ≤ LONGEST_FRAME) × AreBytes p.payload
IsShort (happening.PortStatus p) = Unit {0}
IsShort (happening.FlowRemoved r) = Unit {0}

-- a command for an event
pub record IsGoodCommand (setup : Setup) (event : Event) (c : Command) : Type 0 where
  pub named : c.switch < length setup.ports
  pub few : HasFewOutputs c.order
  pub sendable : IsShort event.what → IsSendable c.order

abbrev pub AreGoodCommands : Setup → Event → List Command → Type 0
AreGoodCommands setup event commands = AllByRecursion (λ c. IsGoodCommand setup event c) commands
