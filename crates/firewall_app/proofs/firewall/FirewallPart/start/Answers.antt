use Rattle.std.proofs.Common.{rules, ◌≡◌, length, ap, arith}
use Rattle.firewall_app.proofs.Installed.{fits_none}
use Rattle.firewall_app.proofs.firewall.FirewallPart.start.Goals as goal

pub returns-clause-fit : goal.returns-clause-fit
returns-clause-fit c =
    let few_rules = c.requires.few_rules in
    let few_switches = c.requires.few in
    let same : c.in_ok-self.field-0 ≡ c.args.setup.now.deny = search rules in
    let switches : c.len.result ≡ length c.args.setup.now.ports = search rules in
    rw c.new.ensures.items (fits_none c.args.setup.now c.in_ok-self.field-0 c.len.result same switches (omega (arith, few_switches, switches)) (omega (arith, few_rules, ap (λ l. length l) same)))
