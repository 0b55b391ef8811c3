use Rattle.journal.proofs.outside.raise.Goals as goal

pub returns-clause-count : goal.returns-clause-count
returns-clause-count c = c.saturating_add.ensures
