-- What a part of a chain does with an event, and what tells it for all parts of a kind: the rule of the kind.
use Rattle.std.specs.Prelude.{ℕ, Bool, false, not, nat_lt, List, [], length, if◌then◌else◌}
use Rattle.of_types.specs.declared.message.Command.{Command}
use Rattle.of_types.specs.declared.message.Event.{Event}
use Rattle.of_types.specs.declared.setup.Setup.{Setup}

-- what a part of a chain does with an event. Its state is a list of numbers
pub record PartStep : Type 0 where
  pub state : List ℕ
  pub commands : List Command
  pub stops : Bool

-- the event passes on, and nothing else happens
abbrev pub passes_on : List ℕ → PartStep
passes_on state = record { state = state; commands = []; stops = false }

-- the rule of a kind: what a part of it does with an event at a switch of the setup, the state in which it starts, and the
-- most commands that it gives for an event
pub record PartRule : Type 0 where
  pub next : Setup → List ℕ → Event → PartStep
  pub starts : List ℕ
  pub most : ℕ

-- at a kind that there is not every event passes on
abbrev pub no_rule : PartRule
no_rule = record { next = λ setup state event. passes_on state; starts = []; most = 0 }

-- one step of a rule. An event of a switch that the setup does not have passes on
abbrev pub rule_step : PartRule → Setup → List ℕ → Event → PartStep
rule_step rule setup state event = if not (nat_lt event.switch (length setup.ports)) then passes_on state else rule.next setup state event
