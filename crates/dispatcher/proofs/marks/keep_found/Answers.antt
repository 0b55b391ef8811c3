use Rattle.std.proofs.Common.{rules}
use Rattle.std.proofs.lemmas.Fn.{filter_same}
use Rattle.dispatcher.specs.Ledger.{has_pending}
use Rattle.dispatcher.proofs.marks.keep_found.Goals as goal

pub returns-clause-kept : goal.returns-clause-kept
returns-clause-kept c = filter_same _ (λ a. has_pending c.args.ledger.now a.0 a.1 a.2) _ (λ x b f' k. search rules) _ _ c.retain.ensures.filtered
