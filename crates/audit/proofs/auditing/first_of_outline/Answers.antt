use Rattle.audit.proofs.auditing.first_of_outline.Goals as goal

pub returns : goal.returns
returns g c = c.first_judged.ensures (g.A.App.law.kinds c.args.app.now) c.in_ok-evidence.ensures.evidence c.in_ok-evidence.ensures.committed
