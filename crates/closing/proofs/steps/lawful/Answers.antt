use Rattle.run_laws.proofs.Laws.{waits_law}
use Rattle.closing.proofs.Worlds.{views_known}
use Rattle.closing.proofs.steps.lawful.Goals as goal

pub returns-clause-views : goal.returns-clause-views
returns-clause-views g c = views_known _ _ g.met.B.Body.faithful c.args.world.now c.requires.0 c.requires.1

pub returns-clause-addressed : goal.returns-clause-addressed
returns-clause-addressed g c = let run = c.requires.1.run in waits_law _ _ _ run.setup g.met.B.Body.faithful run.legal.possible
