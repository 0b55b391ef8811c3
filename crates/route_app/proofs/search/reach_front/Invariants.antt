use Rattle.std.proofs.Common.{◌≡◌, drop}
use Rattle.route_app.specs.Search.{so_far, reach_front}
use Rattle.route_app.proofs.search.reach_front.Given as goal

abbrev pub invariant-switches : goal.invariant-switches
invariant-switches l = reach_front l.table l.hops (drop l.switch-index l.front) (so_far l.levels l.next.items) ≡ reach_front l.table l.hops l.front (so_far l.fn.levels l.fn.next.items)
