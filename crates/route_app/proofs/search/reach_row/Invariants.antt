use Rattle.std.proofs.Common.{◌≡◌, drop}
use Rattle.route_app.specs.Search.{so_far, reach_row}
use Rattle.route_app.proofs.search.reach_row.Given as goal

abbrev pub invariant-ends : goal.invariant-ends
invariant-ends l = reach_row l.hops (drop l.end-index l.row) (so_far l.levels l.front.items) ≡ reach_row l.hops l.row (so_far l.fn.levels l.fn.front.items)
