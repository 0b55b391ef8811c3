use Rattle.std.proofs.Common.{◌≡◌, ◌+◌, length}
use Rattle.std.specs.List.{position_or_len}
use Rattle.report.proofs.spelled.long_front.Given as goal

abbrev pub invariant-passing : goal.invariant-passing
invariant-passing g l = record {
  within : l.len + length l.rest ≡ length l.text;
  len : l.len + position_or_len g.E.Ending.ends l.rest ≡ position_or_len g.E.Ending.ends l.text;
}

abbrev pub decreases-passing : goal.decreases-passing
decreases-passing g l = length l.rest
