use Rattle.std.proofs.Common.{◌≡◌, ◌+◌, ◌-◌}
use Rattle.run_spec.specs.Closing.{first_view}
use Rattle.closing_quorum.proofs.first_view.Given as goal

abbrev pub invariant-looking : goal.invariant-looking
invariant-looking l = record {
  view_is : l.view ≡ l.from + l.counter;
  rest : first_view (l.group - l.counter) l.group l.up l.view ≡ first_view l.group l.group l.up l.from;
}
