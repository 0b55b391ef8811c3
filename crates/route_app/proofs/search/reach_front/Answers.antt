use Rattle.std.proofs.Common.{List, Option, ap, sym, ◌∙◌}
use Rattle.app_core.specs.declared.switch_port.SwitchPort.{SwitchPort}
use Rattle.route_app.specs.Search.{so_far, reach_row}
use Rattle.route_app.proofs.Spreading.{front_more, front_end}
use Rattle.route_app.proofs.search.reach_front.Goals as goal

pub switches-preserved : goal.switches-preserved
switches-preserved c =
    let old = so_far c.switches.levels c.switches.next.items in
    rw (c.in_ok-reach_row.ensures ∙ ap (λ (r : List (Option SwitchPort)). reach_row c.args.hops r old) c.row.ensures)
    (sym (front_more c.args.table.now c.args.hops c.args.front.now c.switches.switch-index 0 old c.switches-test.true) ∙ c.switches.invariant)

pub returns : goal.returns
returns c = sym (front_end c.args.table.now c.args.hops c.args.front.now c.switches.switch-index (so_far c.switches.levels c.switches.next.items) c.switches-test.false) ∙ c.switches.invariant
