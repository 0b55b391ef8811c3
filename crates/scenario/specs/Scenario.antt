-- Which scenario bytes say, or their first fault.
use Rattle.std.specs.Prelude.{◌≡◌, ◌≤◌, ℕ, nat_le, List, [], length, Option, Result, Ok, Err, option_and_then}
use Rattle.std.specs.List.{AllByRecursion, flat_map}
use Rattle.std.specs.Str.{is_utf8}
use Rattle.serde_json.specs.Data.{Data}
use Rattle.serde_json.specs.Read.{read}
use Rattle.of_types.specs.declared.setup.Setup.{Setup}
use Rattle.of_types.specs.Setups.{IsSetup}
use Rattle.journal.specs.declared.journal.Local.TheVariants as local
use Rattle.journal.specs.declared.journal.Turn.{Turn}
use Rattle.journal.specs.declared.journal.Turn.TheVariants as turn
use Rattle.journal.specs.Actors.{IsActor}
use Rattle.journal.specs.Turns.{turn_actor}
use Rattle.scenario.specs.declared.reading.TheConstants.{SCENARIO_LIMIT}
use Rattle.scenario.specs.declared.limits.TheConstants.{MOST_VIEW}
use Rattle.scenario.specs.declared.scenario.Fault.{Fault}
use Rattle.scenario.specs.declared.scenario.FaultKind.TheVariants.{Size, Json, Limit}
use Rattle.scenario.specs.declared.scenario.FaultPlace.TheVariants.{Top, Switch, Link, Deny, Step}
use Rattle.scenario.specs.declared.scenario.Scenario.{Scenario}
use Rattle.scenario.specs.declared.scenario.ScenarioFault.{ScenarioFault}
use Rattle.scenario.specs.declared.scenario.ScenarioFault.TheVariants.{Refused, OutOfMemory}
use Rattle.scenario.specs.declared.written.Written.{Written}
use Rattle.scenario.specs.declared.written.WrittenStep.{WrittenStep}
use Rattle.scenario.specs.Faults.{◌>>=◌, found_at, each, each_alone}
use Rattle.scenario.specs.Limits.{only_if, is_within_limits, ports_within, link_within, rule_within, turn_within, restarts_of, repeated_member}
use Rattle.scenario.specs.Written.{written_of_json}

-- the steps of a script, each as often as it is taken
unfoldable pub steps_within : ℕ → List ℕ → List WrittenStep → Result (List Turn) Fault
steps_within controllers ports steps = do
  timed ← each Limit Step (λ before. turn_within controllers ports (restarts_of before)) [] steps
  Ok (flat_map repeated_member timed)

-- the setup that is written within the limits, or the first fault of a limit of it or of the whole
unfoldable pub setup_within : Written → Result Setup Fault
setup_within w = do
  controllers ← found_at Limit Top (only_if (is_within_limits w) w.controllers)
  ports ← each_alone Limit Switch ports_within w.switches
  links ← each Limit Link (link_within ports) [] w.links
  deny ← each_alone Limit Deny rule_within w.deny
  Ok (record { controllers = controllers; ports = ports; links = links; deny = deny })

-- what is written within the limits, or the first fault of a limit
unfoldable pub scenario_within : Written → Result Scenario Fault
scenario_within w = do
  setup ← setup_within w
  steps ← steps_within setup.controllers setup.ports w.steps
  Ok (record { setup = setup; steps = steps })

-- the most bytes of a scenario
abbrev pub scenario_limit : ℕ
scenario_limit = SCENARIO_LIMIT

-- the text that bytes are, and its JSON value
abbrev pub text_of : List ℕ → Option (List ℕ)
text_of bytes = only_if (is_utf8 bytes) bytes

abbrev pub json_of : List ℕ → Option Data
json_of bytes = option_and_then read (text_of bytes)

-- the scenario that bytes say, or their first fault: of size, of JSON, of shape anywhere, of a limit anywhere
unfoldable pub scenario_of : List ℕ → Result Scenario Fault
scenario_of bytes = do
  text ← found_at Size Top (only_if (nat_le (length bytes) scenario_limit) bytes)
  value ← found_at Json Top (json_of text)
  written ← written_of_json value
  scenario_within written

-- why nothing was read, over what there is to read
abbrev pub IsScenarioRefusal : {A : Type 0} → ScenarioFault → Result A Fault → Type 0
IsScenarioRefusal (Refused fault) said = said ≡ Err fault
IsScenarioRefusal OutOfMemory said = Unit {0}

-- what was read is what there is to read, unless there was no memory
abbrev pub GivesScenario : {A : Type 0} → Result A ScenarioFault → Result A Fault → Type 0
GivesScenario (Ok read) said = said ≡ Ok read
GivesScenario (Err fault) said = IsScenarioRefusal fault said

-- a view that a step suspects is within its limit
abbrev pub HasView : Turn → Type 0
HasView (turn.Local a (local.Suspect view)) = view ≤ MOST_VIEW
HasView _ = Unit {0}

-- a setup, and steps of its actors
pub record IsScenario (scenario : Scenario) : Type 0 where
  pub setup : IsSetup scenario.setup
  pub actors : AllByRecursion (λ t. IsActor scenario.setup (turn_actor t)) scenario.steps
  pub views : AllByRecursion HasView scenario.steps
