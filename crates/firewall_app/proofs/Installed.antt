-- A firewall of a setup, as its calls leave it.
use Rattle.std.proofs.Common.{◌≡◌, ◌⊎◌, inl, inr, ◌<◌, ◌≤◌, ◌+◌, ◌++◌, ℕ, List, [], Some, length, sym, ap, subst, length-append, arith}
use Rattle.of_types.specs.declared.message.Command.{Command}
use Rattle.of_types.specs.declared.setup.Rule.{Rule}
use Rattle.of_types.specs.declared.setup.Setup.{Setup}
use Rattle.app_core.specs.Firewall.{rows_at, installed_after}
use Rattle.app_core.proofs.Installed.{rows_few, installed_few, none_installed, more_installed}
use Rattle.firewall_app.specs.Installed.{IsFirewallOf}

module _ (setup : Setup) (rules : List Rule) (switches : ℕ) where
  -- one that was just started
  pub fits_none : rules ≡ setup.deny → switches ≡ length setup.ports → switches ≤ 64 → length rules ≤ 64 → IsFirewallOf rules switches [] setup
  fits_none are same few_switches few_rules =
      record { rules_are = are; switches_are = same; few_switches = few_switches; few_rules = few_rules; is_installed = none_installed (length rules) }

  with_installed : (installed new : List ℕ) (place : ℕ) → IsFirewallOf rules switches installed setup → place < length rules → new ≡ installed_after installed (Some place) → IsFirewallOf rules switches new setup
  with_installed installed new place fits within is =
      record {
        rules_are = fits.rules_are;
        switches_are = fits.switches_are;
        few_switches = fits.few_switches;
        few_rules = fits.few_rules;
        is_installed = rw is (more_installed (length rules) installed place fits.is_installed within);
      }

  -- one that installed a rule, or ran out of memory before
  pub fits_either : (installed new : List ℕ) (place : ℕ) → IsFirewallOf rules switches installed setup → place < length rules →
      (new ≡ installed) ⊎ (new ≡ installed_after installed (Some place)) → IsFirewallOf rules switches new setup
  fits_either installed new place fits within (inl same) = subst (λ l. IsFirewallOf rules switches l setup) (sym same) fits
  fits_either installed new place fits within (inr more) = with_installed installed new place fits within more

  -- a switch that is up again gets at most 64 rows
  pub back_few : (installed : List ℕ) (switch : ℕ) (before after : List Command) → IsFirewallOf rules switches installed setup →
      after ≡ before ++ rows_at setup switch installed → length after ≤ length before + 64
  back_few installed switch before after fits is =
      let few = fits.few_rules in
      let no_more = installed_few (length rules) installed fits.is_installed in
      omega (arith, ap (λ (l : List Command). length l) is, length-append before (rows_at setup switch installed), rows_few setup switch installed, no_more, few)
