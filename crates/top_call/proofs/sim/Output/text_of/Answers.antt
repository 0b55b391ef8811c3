use Rattle.world_record.specs.Shows.{told_by}
use Rattle.top_call.proofs.LastLine.{tells_last}
use Rattle.top_call.proofs.sim.Output.text_of.Goals as goal

pub returns-in-LastLine-clause-text : goal.returns-in-LastLine-clause-text
returns-in-LastLine-clause-text g c =
    tells_last c.last_line.result c.args.self c.sums_of-sums.result (told_by c.args.world c.args.primary c.args.steps c.args.script) c.in-LastLine.is c.sums_of-sums.ensures c.last_line.ensures
