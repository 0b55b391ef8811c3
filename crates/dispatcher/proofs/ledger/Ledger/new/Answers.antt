use Rattle.std.proofs.Common.{refl}
use Rattle.dispatcher.proofs.Ledgers.{none_is}
use Rattle.dispatcher.proofs.ledger.Ledger.new.Goals as goal

pub returns : goal.returns
returns c = λ kinds setup. none_is kinds setup _ c.new.ensures c.new-2.ensures c.new-3.ensures.items refl refl
