-- What each rule in the table of kinds (Chain.antt) has to keep, for the laws of runs.
use Rattle.std.specs.Prelude.{◌<◌, ◌≤◌, ℕ, List, [], ◌∷◌, length}
use Rattle.of_types.specs.declared.message.Event.{Event}
use Rattle.of_types.specs.declared.setup.Setup.{Setup}
use Rattle.of_types.specs.Setups.{IsSetup}
use Rattle.app_core.specs.PartRule.{PartRule, rule_step}
use Rattle.app_core.specs.Orders.{AreGoodCommands}

-- the state of a part after events, the latest first
abbrev pub state_after : PartRule → Setup → List Event → List ℕ
state_after rule setup [] = rule.starts
state_after rule setup (event ∷ before) = (rule_step rule setup (state_after rule setup before) event).state

-- The commands of a rule are lawful in every state, and those for an event behind others are few
pub record HasLaws (rule : PartRule) : Type 0 where
  pub lawful : (setup : Setup) → IsSetup setup → (state : List ℕ) (event : Event) → event.switch < length setup.ports → AreGoodCommands setup event (rule.next setup state event).commands
  pub few : (setup : Setup) → IsSetup setup → (before : List Event) (event : Event) → event.switch < length setup.ports →
      length (rule.next setup (state_after rule setup before) event).commands ≤ rule.most
