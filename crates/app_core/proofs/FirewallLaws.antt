-- A firewall keeps the laws of rules: rows are of switches of the setup, can be spelled, and are at most one for each switch.
use Rattle.std.proofs.Common.{◌≡◌, ◌≤◌, ◌<◌, ℕ, List, [], ◌∷◌, length, refl, arith}
use Rattle.std.specs.Prelude.{not, nat_lt, Option, Some, None, slice_get, option_map, option_to_list}
use Rattle.std.proofs.lemmas.Bool.{cond_both}
use Rattle.std.proofs.lemmas.List.FromFn.{length-map-range_with_len}
use Rattle.of_types.specs.declared.message.Command.{Command}
use Rattle.of_types.specs.declared.message.Event.{Event}
use Rattle.of_types.specs.declared.setup.Rule.{Rule}
use Rattle.of_types.specs.declared.setup.Setup.{Setup}
use Rattle.of_types.specs.Lives.{is_switch_up}
use Rattle.of_types.specs.Setups.{IsSetup}
use Rattle.app_core.specs.Chain.{firewall_rule, firewall_step}
use Rattle.app_core.specs.Firewall.{IsInstalled, dropping_row, dropping_rows, first_hit, firewall_commands, installed_after, is_installed, rows_at}
use Rattle.app_core.specs.Orders.{AreGoodCommands, IsGoodCommand}
use Rattle.app_core.specs.PartRule.{PartStep, passes_on}
use Rattle.app_core.specs.Rules.{HasLaws, state_after}
use Rattle.app_core.proofs.All.{all_append, all_numbered}
use Rattle.app_core.proofs.Denials.{denied_small, denied_valid}
use Rattle.app_core.proofs.Installed.{hit_there, installed_few, more_installed, none_installed, rows_few}

module _ (setup : Setup) (event : Event) where
  row_lawful : (rule : Rule) (switch : ℕ) → switch < length setup.ports → IsGoodCommand setup event (dropping_row rule switch)
  row_lawful rule switch there = record { named = there; few = tt; sendable = λ _. (denied_valid rule, omega (arith, denied_small rule), tt) }

  rows_lawful : (rule : Option Rule) → AreGoodCommands setup event (dropping_rows (length setup.ports) rule)
  rows_lawful None = tt
  rows_lawful (Some rule) = all_numbered (λ c. IsGoodCommand setup event c) (dropping_row rule) 0 (length setup.ports) (λ k low high. row_lawful rule k (omega (arith, high)))

  hit_lawful : (installed : List ℕ) (hit : Option ℕ) → AreGoodCommands setup event (firewall_commands setup installed hit)
  hit_lawful installed None = tt
  hit_lawful installed (Some place) =
      cond_both (is_installed installed place) [] (dropping_rows (length setup.ports) (slice_get setup.deny place)) (AreGoodCommands setup event) (λ _. tt)
      (λ _. rows_lawful (slice_get setup.deny place))

  module _ (switch : ℕ) (there : switch < length setup.ports) where
    rule_lawful : (rule : Option Rule) → AreGoodCommands setup event (option_to_list (option_map (λ r. dropping_row r switch) rule))
    rule_lawful None = tt
    rule_lawful (Some rule) = (row_lawful rule switch there, tt)

    again_lawful : (installed : List ℕ) → AreGoodCommands setup event (rows_at setup switch installed)
    again_lawful [] = tt
    again_lawful (place ∷ installed) =
        all_append (λ c. IsGoodCommand setup event c) (option_to_list (option_map (λ rule. dropping_row rule switch) (slice_get setup.deny place))) (rows_at setup switch installed)
        (rule_lawful (slice_get setup.deny place)) (again_lawful installed)

  firewall_lawful : (installed : List ℕ) → event.switch < length setup.ports → AreGoodCommands setup event (firewall_step setup installed event).commands
  firewall_lawful installed there =
      cond_both (is_switch_up event.what) _ _ (λ (y : PartStep). AreGoodCommands setup event y.commands) (λ _. again_lawful event.switch there installed)
      (λ _. hit_lawful installed (first_hit setup.deny event.what))

-- a switch that is up again gets a row for each rule, and a rule that is hit first a row for each switch
firewall_few : (setup : Setup) → IsSetup setup → (installed : List ℕ) → IsInstalled (length setup.deny) installed → (event : Event) →
    (length (firewall_step setup installed event).commands ≤ 64) × IsInstalled (length setup.deny) (firewall_step setup installed event).state
firewall_few setup is installed ok event =
    cond_both (is_switch_up event.what) _ _ (λ (x : PartStep). (length x.commands ≤ 64) × IsInstalled (length setup.deny) x.state)
    (λ _. (let rows = rows_few setup event.switch installed in let few = installed_few (length setup.deny) installed ok in let most = is.few_rules in omega (arith, rows, few, most), ok))
    (λ _. by_hit (first_hit setup.deny event.what) refl)
  where
    rows : (places : ℕ) → (o : Option Rule) → length (dropping_rows places o) ≤ places
    rows places None = omega arith
    rows places (Some rule) = omega (arith, length-map-range_with_len (dropping_row rule) 0 places)

    by_hit : (hit : Option ℕ) → first_hit setup.deny event.what ≡ hit → (length (firewall_commands setup installed hit) ≤ 64) × IsInstalled (length setup.deny) (installed_after installed hit)
    by_hit None e = (omega arith, ok)
    by_hit (Some place) e = (
      cond_both (is_installed installed place) _ _ (λ (x : List Command). length x ≤ 64) (λ _. omega arith)
          (λ _. let low = rows (length setup.ports) (slice_get setup.deny place) in let few = is.few in omega (arith, low, few)),
      more_installed (length setup.deny) installed place ok (hit_there setup.deny event.what place e),
    )

-- each rule is installed once, after whatever events
all_installed : (setup : Setup) → IsSetup setup → (before : List Event) → IsInstalled (length setup.deny) (state_after firewall_rule setup before)
all_installed setup is [] = none_installed (length setup.deny)
all_installed setup is (event ∷ before) =
    let state = state_after firewall_rule setup before in
    let old = all_installed setup is before in
    cond_both (not (nat_lt event.switch (length setup.ports))) (passes_on state) (firewall_step setup state event) (λ (x : PartStep). IsInstalled (length setup.deny) x.state)
    (λ _. old) (λ _. (firewall_few setup is state old event).1)

pub firewall_laws : HasLaws firewall_rule
firewall_laws = record {
  lawful = λ setup is state event there. firewall_lawful setup event state there;
  few = λ setup is before event there. (firewall_few setup is (state_after firewall_rule setup before) (all_installed setup is before) event).0;
}
