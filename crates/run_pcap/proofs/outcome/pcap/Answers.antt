use Rattle.run_pcap.specs.Outcome.{pcap_usage_line}
use Rattle.run_pcap.proofs.outcome.pcap.Goals as goal

pub returns-in-Ok-clause-cut : goal.returns-in-Ok-clause-cut
unfolding pcap_usage_line
returns-in-Ok-clause-cut g c = λ failed. (c.in-Ok.ending, c.in-Ok.ensures.ends, c.end_call.ensures.front failed)

pub returns-in-Ok-clause-told : goal.returns-in-Ok-clause-told
unfolding pcap_usage_line
returns-in-Ok-clause-told g c = λ open_ known. let told = c.end_call.ensures.told open_ known in (c.in-Ok.ending, told.0, c.in-Ok.ensures.ends, told.1)
