use Rattle.journal.proofs.Picking.{none_leaves}
use Rattle.journal.proofs.ledger.Ledger.pick.Goals as goal

pub returns-in_err-found-clause-left : goal.returns-in_err-found-clause-left
returns-in_err-found-clause-left g c =
    none_leaves g.B.Weight.size c.args.self.now c.requires c.args.actor c.args.choice c.args.keep c.in_err-found.ensures
