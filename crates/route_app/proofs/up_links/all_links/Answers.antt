use Rattle.std.proofs.Common.{List, [], Option, subst, sym, ◌∙◌}
use Rattle.app_core.specs.declared.switch_port.SwitchPort.{SwitchPort}
use Rattle.route_app.specs.Tables.{IsUpTable}
use Rattle.route_app.proofs.Relinking.{ends_up}
use Rattle.route_app.proofs.up_links.all_links.Goals as goal

pub returns-clause-up : goal.returns-clause-up
returns-clause-up c =
    λ setup w.
    subst (λ (down : List SwitchPort). IsUpTable setup down c.in_ok-table.table.items) (sym c.new.ensures.items)
    (subst (λ (t : List (Option SwitchPort)). IsUpTable setup [] t) (sym (c.in_ok-table.ensures.items ∙ c.as_slice.ensures.value)) (ends_up setup c.args.wires.now.ends.items w.ends))
