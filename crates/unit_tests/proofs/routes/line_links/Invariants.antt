use Rattle.std.proofs.Common.{◌≡◌}
use Rattle.unit_tests.specs.Lines.{line_links}
use Rattle.unit_tests.proofs.routes.line_links.Given as goal

abbrev pub invariant-loop-switch : goal.invariant-loop-switch
invariant-loop-switch l = l.links ≡ line_links 0 l.switch
