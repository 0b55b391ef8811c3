-- The status and the text of an ending, and the runs that end so.
use Rattle.std.specs.Prelude.{◌≡◌, ◌<◌, ◌≤◌, ℕ, List, length, Some, None, Ok, Err}
use Rattle.scenario.specs.declared.scenario.Scenario.{Scenario}
use Rattle.scenario.specs.Scenario.{scenario_of}
use Rattle.top_call.specs.declared.sim.Output.{Output}
use Rattle.top_call.specs.declared.sim.Output.TheVariants as told_as
use Rattle.top_call.specs.declared.ending.Ending.{Ending}
use Rattle.top_call.specs.declared.ending.Ending.TheVariants.{Report, Usage, Refused, Unread, NoQuorum, Overfull, Unposted, Same, Differs}
use Rattle.command_line.specs.Lines.{unread_line, differs_line}
use Rattle.top_call.specs.Lines.{usage_line, fault_line, no_quorum_line, overfull_line, unposted_line, same_line}
use Rattle.audit.specs.Audit.{differs}
use Rattle.top_call.specs.Audited.{report_limit, too_large}
use Rattle.top_call.specs.declared.service.Reader.{Reader}
use Rattle.top_call.specs.declared.service.Reader.TheVariants.{Sim, Run, Audit}
use Rattle.playing.specs.Manners.{Manner, In_order, Apart}
use Rattle.top_call.specs.Runs.{IsDone, IsLeft, IsOverfull, IsRunUnposted, Telling}

abbrev pub ending_status : Ending → ℕ
ending_status (Report words) = 0
ending_status Usage = 2
ending_status (Refused fault) = 3
ending_status Unread = 4
ending_status (NoQuorum up needed) = 7
ending_status (Overfull limit) = 9
ending_status (Unposted bytes letters) = 10
ending_status Same = 0
ending_status (Differs n) = 8

abbrev pub outcome_text : Ending → List ℕ
outcome_text (Report words) = words
outcome_text Usage = usage_line
outcome_text (Refused fault) = fault_line fault
outcome_text Unread = unread_line
outcome_text (NoQuorum up needed) = no_quorum_line up needed
outcome_text (Overfull limit) = overfull_line limit
outcome_text (Unposted bytes letters) = unposted_line bytes letters
outcome_text Same = same_line
outcome_text (Differs n) = differs_line n

-- how a run of a scenario, done in this manner, ends, of which this is told at rest
abbrev pub EndsRun : Manner → List ℕ → Telling → Output → Scenario → Ending → Type 0
EndsRun manner kinds saves output scenario (Report words) = IsDone manner kinds saves scenario output words
EndsRun manner kinds saves output scenario (NoQuorum up needed) = IsLeft manner kinds saves scenario up needed
EndsRun manner kinds saves output scenario (Overfull limit) = IsOverfull manner kinds saves scenario limit
EndsRun manner kinds saves output scenario (Unposted bytes letters) = IsRunUnposted manner kinds saves scenario bytes letters
EndsRun manner kinds saves output scenario Usage = ⊥
EndsRun manner kinds saves output scenario (Refused fault) = ⊥
EndsRun manner kinds saves output scenario Unread = ⊥
EndsRun manner kinds saves output scenario Same = ⊥
EndsRun manner kinds saves output scenario (Differs n) = ⊥

-- how the bytes of a scenario end: they are refused by their first fault, or the run of their scenario ends so
abbrev pub EndsScenario : Manner → List ℕ → Telling → List ℕ → Ending → Type 0
EndsScenario manner kinds saves bytes (Refused fault) = scenario_of bytes ≡ Err fault
EndsScenario manner kinds saves bytes ending = (scenario : Scenario) × (scenario_of bytes ≡ Ok scenario) × EndsRun manner kinds saves told_as.Report scenario ending

-- how the bytes of a report end, for controllers with applications of these kinds: they are too many, or no line differs, or
-- the first one that does
abbrev pub EndsReport : List ℕ → List ℕ → Ending → Type 0
EndsReport kinds bytes (Refused fault) = (fault ≡ too_large) × (report_limit < length bytes)
EndsReport kinds bytes Same = (length bytes ≤ report_limit) × (differs kinds bytes ≡ None)
EndsReport kinds bytes (Differs n) = (length bytes ≤ report_limit) × (differs kinds bytes ≡ Some n)
EndsReport kinds bytes _ = ⊥

-- how the bytes that are read end
abbrev pub EndsRead : List ℕ → Telling → Reader → List ℕ → Ending → Type 0
EndsRead kinds saves Sim bytes ending = EndsScenario In_order kinds saves bytes ending
EndsRead kinds saves Run bytes ending = EndsScenario Apart kinds saves bytes ending
EndsRead kinds saves Audit bytes ending = EndsReport kinds bytes ending
