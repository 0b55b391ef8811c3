-- The rows of the table of kinds, as equations.
use Rattle.std.proofs.Common.{◌≡◌, refl}
use Rattle.std.specs.Prelude.{map}
use Rattle.app_core.specs.Chain.{aging, firewall, firewall_rule, hub, hub_rule, learning, learning_rule, pinned, plain_rule_of, routing, routing_rule, rule_of, slot, versions}
use Rattle.app_core.specs.Learning.{ageing, pinning, plainly}
use Rattle.app_core.specs.Operator.{asked_version}
use Rattle.app_core.specs.Slot.{slot_rule}

pub firewall_row : rule_of firewall ≡ firewall_rule
unfolding rule_of
firewall_row = refl

pub learning_row : rule_of learning ≡ learning_rule plainly
unfolding rule_of
learning_row = refl

pub slot_row : rule_of slot ≡ slot_rule asked_version (map plain_rule_of versions)
unfolding rule_of
slot_row = refl

pub hub_row : rule_of hub ≡ hub_rule
unfolding rule_of
hub_row = refl

pub pinned_row : rule_of pinned ≡ learning_rule pinning
unfolding rule_of
pinned_row = refl

pub aging_row : rule_of aging ≡ learning_rule ageing
unfolding rule_of
aging_row = refl

pub routing_row : rule_of routing ≡ routing_rule
unfolding rule_of
routing_row = refl
