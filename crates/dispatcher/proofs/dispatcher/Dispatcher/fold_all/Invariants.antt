use Rattle.std.proofs.Common.{◌≡◌, ◌++◌, true, take}
use Rattle.vr_log.specs.Log.{follows}
use Rattle.dispatcher.specs.Ledger.{ForEachLog, StandsFor}
use Rattle.dispatcher.proofs.dispatcher.Dispatcher.fold_all.Given as goal

abbrev pub invariant-entries : goal.invariant-entries
invariant-entries g l =
    (l.self.marks ≡ l.fn.self.marks)
    × ForEachLog (StandsFor g.A.App.law l.fn.self) (λ kinds setup log.
    follows log l.entries ≡ true → StandsFor g.A.App.law l.self kinds setup (log ++ take l.entry-index l.entries))
