use Rattle.scenario.proofs.Setups.{generated_is}
use Rattle.scenario.proofs.generator.generate.Goals as goal

pub returns-clause-form : goal.returns-clause-form
returns-clause-form c =
    rw (c.in_ok-ports.ensures, c.in_ok-steps.ensures, c.new.ensures, c.new-2.ensures)
    (generated_is c.args.number c.args.controllers c.args.switches c.args.frames c.requires.group c.requires.some c.requires.few)
