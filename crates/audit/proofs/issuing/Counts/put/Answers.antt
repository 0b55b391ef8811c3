use Rattle.audit.proofs.Issues.{counted_as}
use Rattle.audit.proofs.issuing.Counts.put.Goals as goal

pub returns : goal.returns
returns c = λ s l. counted_as c.args.switch c.args.life c.args.count c.self.inside.counts.entries c.args.self.now c.insert.new.self.entries s l (c.in_ok-insert.ensures.updates.0 (s, l)) c.self.view_is
