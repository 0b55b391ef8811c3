-- Each rule in the table of kinds keeps its laws. A new kind is a row here, beside its row in Chain.antt.
use Rattle.std.proofs.Common.{ℕ}
use Rattle.std.specs.Prelude.{nat_eq, map}
use Rattle.std.proofs.lemmas.Bool.{cond_both}
use Rattle.app_core.specs.Chain.{aging, firewall, firewall_rule, hub, hub_rule, learning, learning_rule, pinned, plain_rule_of, routing, routing_rule, rule_of, slot, versions}
use Rattle.app_core.specs.Learning.{ageing, pinning, plainly}
use Rattle.app_core.specs.Operator.{asked_version}
use Rattle.app_core.specs.PartRule.{no_rule}
use Rattle.app_core.specs.Rules.{HasLaws}
use Rattle.app_core.specs.Slot.{slot_rule}
use Rattle.app_core.proofs.FirewallLaws.{firewall_laws}
use Rattle.app_core.proofs.HubLaws.{hub_laws}
use Rattle.app_core.proofs.LearningLaws.{learning_laws}
use Rattle.app_core.proofs.RoutingLaws.{routing_laws}
use Rattle.app_core.proofs.SlotLaws.{no_laws, slot_laws}

plain_laws : (kind : ℕ) → HasLaws (plain_rule_of kind)
plain_laws kind =
    cond_both (nat_eq kind firewall) firewall_rule _ HasLaws (λ _. firewall_laws)
    (λ _. cond_both (nat_eq kind learning) (learning_rule plainly) _ HasLaws (λ _. learning_laws plainly)
    (λ _. cond_both (nat_eq kind hub) hub_rule _ HasLaws (λ _. hub_laws)
    (λ _. cond_both (nat_eq kind pinned) (learning_rule pinning) _ HasLaws (λ _. learning_laws pinning)
    (λ _. cond_both (nat_eq kind aging) (learning_rule ageing) _ HasLaws (λ _. learning_laws ageing)
    (λ _. cond_both (nat_eq kind routing) routing_rule no_rule HasLaws (λ _. routing_laws) (λ _. no_laws))))))

-- a slot has the laws of its versions
pub laws_of : (kind : ℕ) → HasLaws (rule_of kind)
unfolding rule_of
laws_of kind =
    cond_both (nat_eq kind slot) (slot_rule asked_version (map plain_rule_of versions)) (plain_rule_of kind) HasLaws
    (λ _. slot_laws asked_version (map plain_rule_of versions) (plain_laws learning, (plain_laws hub, (plain_laws pinned, (plain_laws aging, (plain_laws routing, tt)))))) (λ _. plain_laws kind)
