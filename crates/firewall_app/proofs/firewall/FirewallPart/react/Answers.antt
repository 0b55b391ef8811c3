use Rattle.std.proofs.Common.{◌∙◌, sym, inr, arith}
use Rattle.firewall_app.proofs.Firewalls.{passes_unknown, back_up, passes_on, stops}
use Rattle.app_core.specs.Chain.{rule_of}
use Rattle.app_core.proofs.Installed.{hit_there}
use Rattle.firewall_app.proofs.Installed.{back_few, fits_either}
use Rattle.firewall_app.proofs.Rows.{few_more}
use Rattle.firewall_app.proofs.firewall.FirewallPart.react.Goals as goal

pub returns-then-event-self-clause-step : goal.returns-then-event-self-clause-step
returns-then-event-self-clause-step c = λ s fits. passes_unknown s c.args.self.now.installed.items c.args.event.now c.args.out.now (omega (arith, fits))

pub returns-then-is_switch_up-clause-step : goal.returns-then-is_switch_up-clause-step
returns-then-is_switch_up-clause-step c = λ s fits.
    back_up s c.args.self.now.installed.items c.args.event.now c.args.out.now c.drop_installed.new.out (omega (arith, fits)) (sym c.if-is_switch_up.ensures)
    (rw c.as_slice-installed.ensures.value at c.in_ok-drop_installed.ensures s (sym fits.rules_are ∙ sym c.as_slice.ensures))

pub returns-then-is_switch_up-clause-few : goal.returns-then-is_switch_up-clause-few
unfolding rule_of
returns-then-is_switch_up-clause-few c = λ s fits.
    back_few s c.args.self.now.rules c.args.self.now.switches c.args.self.now.installed.items c.args.event.now.switch c.args.out.now c.drop_installed.new.out fits
    (rw c.as_slice-installed.ensures.value at c.in_ok-drop_installed.ensures s (sym fits.rules_are ∙ sym c.as_slice.ensures))

pub returns-in_default-clause-step : goal.returns-in_default-clause-step
returns-in_default-clause-step c = λ s fits.
    passes_on s c.args.self.now.installed.items c.args.event.now c.args.out.now (omega (arith, fits)) (sym c.if-is_switch_up.ensures) (cc (fits.rules_are, c.first_hit.ensures, c.as_slice-2.ensures))

pub returns-in_err-install-clause-fit : goal.returns-in_err-install-clause-fit
returns-in_err-install-clause-fit c = λ s fits.
    fits_either s c.args.self.now.rules c.args.self.now.switches c.args.self.now.installed.items c.install.new.installed.items c.in-Some.place fits
    (hit_there c.args.self.now.rules c.args.event.now.what c.in-Some.place (cc (c.first_hit.ensures, c.as_slice-2.ensures))) c.in_err-install.ensures.kept

pub returns-clause-fit : goal.returns-clause-fit
returns-clause-fit c = λ s fits.
    fits_either s c.args.self.now.rules c.args.self.now.switches c.args.self.now.installed.items c.install.new.installed.items c.in-Some.place fits
    (hit_there c.args.self.now.rules c.args.event.now.what c.in-Some.place (cc (c.first_hit.ensures, c.as_slice-2.ensures))) (inr c.in_ok-install.ensures.known)

pub returns-clause-step : goal.returns-clause-step
returns-clause-step c = λ s fits.
    stops s c.args.self.now.installed.items c.args.event.now _ _ _ c.in-Some.place (omega (arith, fits)) (sym c.if-is_switch_up.ensures) (cc (fits.rules_are, c.first_hit.ensures, c.as_slice-2.ensures))
    c.in_ok-install.ensures.known (cc (fits.rules_are, fits.switches_are, c.in_ok-install.ensures.asked, c.as_slice-3.ensures))

pub returns-clause-few : goal.returns-clause-few
unfolding rule_of
returns-clause-few c = λ s fits. omega (arith, few_more _ c.args.self.now.switches _ c.args.out.now c.install.new.out c.in_ok-install.ensures.asked, fits)
