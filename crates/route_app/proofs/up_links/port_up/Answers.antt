use Rattle.std.proofs.Common.{List, Option, subst, sym, ap, ◌∙◌}
use Rattle.app_core.specs.declared.switch_port.SwitchPort.{SwitchPort}
use Rattle.app_core.specs.Routes.{is_link_down}
use Rattle.route_app.specs.Tables.{IsUpTable}
use Rattle.route_app.specs.UpLinks.{relinked}
use Rattle.route_app.proofs.Relinking.{down_without, relinked_up}
use Rattle.route_app.proofs.up_links.port_up.Goals as goal

pub returns-clause-up : goal.returns-clause-up
returns-clause-up c =
    λ setup w up.
    let old = c.args.links.now.down.items in
    let new = c.bring_up.new.down.items in
    let made = c.relink.ensures ∙ ap (λ (d : List SwitchPort). relinked c.args.wires.now d c.args.links.now.table.items c.args.at) c.as_slice.ensures.value in
    subst (λ (t : List (Option SwitchPort)). IsUpTable setup new t) (sym made)
    (relinked_up setup c.args.wires.now w new old c.args.links.now.table.items up c.args.at
    (λ x o. ap (λ (d : List SwitchPort). is_link_down d x) c.bring_up.ensures ∙ down_without old c.args.at x o))
