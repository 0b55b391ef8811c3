use Rattle.std.proofs.Common.{◌≡◌, ◌+◌, ◌++◌, drop}
use Rattle.vr_normal.specs.Ticks.{prepares_from}
use Rattle.vr_normal.proofs.ticks.repeat_entries.Given as goal

abbrev pub invariant-loop-entry : goal.invariant-loop-entry
invariant-loop-entry l = record {
  promise : l.out.promise ≡ l.fn.out.promise;
  op : l.op ≡ l.fn.first + l.entry-index;
  letters : l.out.letters ++ prepares_from l.state.view l.state.commit l.op (drop l.entry-index l.entries) l.to ≡ l.fn.out.letters ++ prepares_from l.state.view l.state.commit l.fn.first l.entries l.to;
}
