use Rattle.std.proofs.Common.{◌≡◌, ◌++◌, true, take}
use Rattle.vr_log.specs.Log.{follows}
use Rattle.dispatcher.specs.Folding.{places_processed}
use Rattle.dispatcher.specs.Ledger.{AreHandledAt, ForEachLog, StandsFor}
use Rattle.dispatcher.proofs.dispatcher.Dispatcher.fold_each.Given as goal

abbrev pub invariant-entries : goal.invariant-entries
invariant-entries g l =
    (l.self.marks ≡ l.fn.self.marks)
    × ForEachLog (StandsFor g.A.App.law l.fn.self) (λ kinds setup log.
    follows log l.entries ≡ true → AreHandledAt kinds setup (log ++ take l.entry-index l.entries) (places_processed (take l.entry-index l.entries)) l.processed.items
    × StandsFor g.A.App.law l.self kinds setup (log ++ take l.entry-index l.entries))
