-- How many bytes are audited.
use Rattle.std.specs.Prelude.{ℕ}
use Rattle.scenario.specs.declared.scenario.Fault.{Fault}
use Rattle.scenario.specs.declared.scenario.FaultKind.TheVariants.{Size}
use Rattle.scenario.specs.declared.scenario.FaultPlace.TheVariants.{Top}
use Rattle.report.specs.declared.reading.TheConstants.{REPORT_LIMIT}

-- the most bytes of a report
abbrev pub report_limit : ℕ
report_limit = REPORT_LIMIT

-- what is told of bytes that are more than their limit
abbrev pub too_large : Fault
too_large = record { kind = Size; place = Top }
