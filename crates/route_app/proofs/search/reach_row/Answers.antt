use Rattle.std.proofs.Common.{None, sym, ◌∙◌}
use Rattle.route_app.specs.Search.{so_far}
use Rattle.route_app.proofs.Spreading.{row_more, row_end}
use Rattle.route_app.proofs.search.reach_row.Goals as goal

pub ends-preserved : goal.ends-preserved
ends-preserved c =
    rw c.in_ok-reach_end.ensures
    (sym (row_more c.args.hops c.args.row.now c.ends.end-index None (so_far c.ends.levels c.ends.front.items) c.ends-test.true) ∙ c.ends.invariant)

pub returns : goal.returns
returns c = sym (row_end c.args.hops c.args.row.now c.ends.end-index (so_far c.ends.levels c.ends.front.items) c.ends-test.false) ∙ c.ends.invariant
