-- What a firewall keeps of its setup, and which rules are installed.
use Rattle.std.specs.Prelude.{◌≡◌, ◌≤◌, ℕ, List, length}
use Rattle.of_types.specs.declared.setup.Rule.{Rule}
use Rattle.of_types.specs.declared.setup.Setup.{Setup}
use Rattle.app_core.specs.Firewall.{IsInstalled}

-- the rules and the count of switches of a setup, and rules of them that are installed
pub record IsFirewallOf (rules : List Rule) (switches : ℕ) (installed : List ℕ) (setup : Setup) : Type 0 where
  pub rules_are : rules ≡ setup.deny
  pub switches_are : switches ≡ length setup.ports
  pub few_switches : switches ≤ 64
  pub few_rules : length rules ≤ 64
  pub is_installed : IsInstalled (length rules) installed
