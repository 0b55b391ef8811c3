use Rattle.run_chart.specs.Outcome.{chart_usage_line}
use Rattle.run_chart.proofs.outcome.chart.Goals as goal

pub returns-in-Ok-clause-told : goal.returns-in-Ok-clause-told
unfolding chart_usage_line
returns-in-Ok-clause-told g c = λ open_ known. let told = c.end_call.ensures.told open_ known in (c.in-Ok.ending, told.0, c.in-Ok.ensures.ends, told.1)

pub returns-in-Ok-clause-cut : goal.returns-in-Ok-clause-cut
unfolding chart_usage_line
returns-in-Ok-clause-cut g c = λ failed. (c.in-Ok.ending, c.in-Ok.ensures.ends, c.end_call.ensures.front failed)
