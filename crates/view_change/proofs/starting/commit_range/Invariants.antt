use Rattle.std.proofs.Common.{◌≡◌, drop}
use Rattle.vr_log.specs.Choosing.{least_commit, greatest_commit}
use Rattle.view_change.proofs.starting.commit_range.Given as goal

abbrev pub invariant-loop-log : goal.invariant-loop-log
invariant-loop-log l = record {
  least : least_commit l.least (drop l.log-index l.rest) ≡ least_commit l.first.commit l.rest;
  most : greatest_commit l.most (drop l.log-index l.rest) ≡ greatest_commit l.first.commit l.rest;
}
