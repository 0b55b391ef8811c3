-- What is written of a scenario, or its first fault of shape.
use Rattle.std.specs.Prelude.{Result, Ok}
use Rattle.serde_json.specs.Data.{Data}
use Rattle.scenario.specs.declared.scenario.Fault.{Fault}
use Rattle.scenario.specs.declared.scenario.FaultKind.TheVariants.{Shape}
use Rattle.scenario.specs.declared.scenario.FaultPlace.TheVariants.{Top, Switch, Link, Deny, Step}
use Rattle.scenario.specs.declared.written.Written.{Written}
use Rattle.scenario.specs.Faults.{◌>>=◌, found_at, each_alone}
use Rattle.scenario.specs.Grammar.{lists_of, switch_of, link_of, rule_of_json, step_of_json}

unfoldable pub written_of_json : Data → Result Written Fault
written_of_json value = do
  lists ← found_at Shape Top (lists_of value)
  switches ← each_alone Shape Switch switch_of lists.switches
  links ← each_alone Shape Link link_of lists.links
  deny ← each_alone Shape Deny rule_of_json lists.deny
  steps ← each_alone Shape Step step_of_json lists.steps
  Ok (record { controllers = lists.controllers; switches = switches; links = links; deny = deny; steps = steps })
