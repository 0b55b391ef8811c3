use Rattle.std.proofs.Common.{◌≡◌, ◌++◌}
use Rattle.std.specs.Prelude.{flat_map}
use Rattle.vr_log.specs.Members.{others_below}
use Rattle.vr_normal.specs.Ticks.{repeats_to}
use Rattle.vr_normal.proofs.ticks.tick_as_primary.Given as goal

abbrev pub invariant-loop-to : goal.invariant-loop-to
invariant-loop-to l = record {
  promise : l.out.promise ≡ l.fn.out.promise;
  letters : l.out.letters ≡ l.fn.out.letters ++ flat_map (repeats_to l.state) (others_below l.state.me l.to);
}
