use Rattle.std.proofs.Common.{◌≡◌, ◌≤◌, ◌*◌, ◌^◌, take}
use Rattle.std.specs.Prelude.{sum_by}
use Rattle.vr_log.specs.Log.{entry_size}
use Rattle.report.proofs.report_text.size_of_log.Given as goal

abbrev pub invariant-loop-entry : goal.invariant-loop-entry
invariant-loop-entry l = record {
  exact : l.size ≡ sum_by entry_size (take l.entry-index l.log);
  small : l.size ≤ 2 ^ 65 * l.entry-index;
}
