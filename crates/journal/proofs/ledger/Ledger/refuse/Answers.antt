use Rattle.std.proofs.Common.{refl, ◌∙◌}
use Rattle.journal.proofs.Turning.{refuses}
use Rattle.journal.proofs.ledger.Ledger.refuse.Goals as goal

pub returns-clause-kept : goal.returns-clause-kept
returns-clause-kept g c =
    refuses g.B.Weight.size c.args.self.now (record { entries = c.push.new.self; queues = c.args.self.now.queues; posted = c.args.self.now.posted; waiting = c.args.self.now.waiting })
    c.args.actor c.requires.kept c.push.ensures.items (c.push.ensures.letters.0 ∙ c.requires.kept.coming) c.push.ensures.letters.1 refl refl refl
