-- What serves each job.
use Rattle.std.specs.Prelude.{ℕ}
use Rattle.command_line.specs.declared.words.Job.{Job}
use Rattle.command_line.specs.declared.words.Job.TheVariants.{Sim, Run, Audit, Gen}
use Rattle.scenario.specs.Scenario.{scenario_limit}
use Rattle.top_call.specs.declared.service.Service.{Service}
use Rattle.top_call.specs.declared.service.Service.TheVariants as service
use Rattle.top_call.specs.declared.service.Reader.{Reader}
use Rattle.top_call.specs.declared.service.Reader.TheVariants as reader
use Rattle.top_call.specs.Audited.{report_limit}

-- a scenario or a report is read, or a scenario is made of four numbers
abbrev pub service_of : Job → Service
service_of Sim = service.Reads reader.Sim
service_of Run = service.Reads reader.Run
service_of Audit = service.Reads reader.Audit
service_of (Gen number controllers switches frames) = service.Gen number controllers switches frames

-- the most bytes that are read
abbrev pub limit_of : Reader → ℕ
limit_of reader.Sim = scenario_limit
limit_of reader.Run = scenario_limit
limit_of reader.Audit = report_limit
