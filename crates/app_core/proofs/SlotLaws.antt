-- A slot keeps the laws of rules where each of its versions does, and gives at most what one of them does.
use Rattle.std.proofs.Common.{◌≡◌, ◌≤◌, ◌<◌, ℕ, zero, suc, Bool, true, false, List, [], ◌∷◌, length, refl, sym, ap, subst, arith}
use Rattle.std.specs.Prelude.{nat_lt, not, Option, Some, None, ◌&&◌, if◌then◌else◌}
use Rattle.std.specs.List.{AllByRecursion}
use Rattle.std.proofs.lemmas.Bool.{cond_both}
use Rattle.of_types.specs.declared.message.Event.{Event}
use Rattle.of_types.specs.declared.setup.Setup.{Setup}
use Rattle.of_types.specs.Setups.{IsSetup}
use Rattle.app_core.specs.Orders.{AreGoodCommands}
use Rattle.app_core.specs.PartRule.{PartRule, no_rule, passes_on, rule_step}
use Rattle.app_core.specs.Rules.{HasLaws, state_after}
use Rattle.app_core.specs.Slot.{at_version, most_among, slot_rule, version_of, version_step}

pub no_laws : HasLaws no_rule
no_laws = record { lawful = λ setup is state event there. tt; few = λ setup is before event there. omega arith }

-- no version gives more than the most among them
pub version_most : (versions : List PartRule) (number : ℕ) → (version_of versions number).most ≤ most_among versions
version_most [] number = omega arith
version_most (rule ∷ rules) zero = omega arith
version_most (rule ∷ rules) (suc number) = let rest = version_most rules number in omega (arith, rest)

version_laws : (versions : List PartRule) → AllByRecursion (λ rule. HasLaws rule) versions → (number : ℕ) → HasLaws (version_of versions number)
version_laws [] laws number = no_laws
version_laws (rule ∷ rules) laws zero = laws.0
version_laws (rule ∷ rules) laws (suc number) = version_laws rules laws.1 number

module _ (asks : Event → Option ℕ) (versions : List PartRule) (laws : AllByRecursion (λ rule. HasLaws rule) versions) where
  abbrev slot : PartRule
  slot = slot_rule asks versions

  step_lawful : (setup : Setup) → IsSetup setup → (asked : Option ℕ) (active : ℕ) (state : List ℕ) (event : Event) → event.switch < length setup.ports →
      AreGoodCommands setup event (version_step versions asked setup active state event).commands
  step_lawful setup is (Some asked) active state event there = tt
  step_lawful setup is None active state event there = (version_laws versions laws active).lawful setup is state event there

  slot_lawful : (setup : Setup) → IsSetup setup → (state : List ℕ) (event : Event) → event.switch < length setup.ports → AreGoodCommands setup event (slot.next setup state event).commands
  slot_lawful setup is [] event there = tt
  slot_lawful setup is (active ∷ state) event there = step_lawful setup is (asks event) active state event there

  module _ (setup : Setup) (is : IsSetup setup) where
    -- the state of a slot is one that its active version has reached
    record IsActive (state : List ℕ) : Type 0 where
      pub active : ℕ
      pub before : List Event
      pub state_is : state ≡ at_version active (state_after (version_of versions active) setup before)

    asked_active : (asked : Option ℕ) (active : ℕ) (before : List Event) (event : Event) → nat_lt event.switch (length setup.ports) ≡ true →
        IsActive (version_step versions asked setup active (state_after (version_of versions active) setup before) event).state
    asked_active (Some asked) active before event known =
        cond_both (nat_lt active asked && nat_lt asked (length versions)) (at_version asked (version_of versions asked).starts) (at_version active (state_after (version_of versions active) setup before)) IsActive
        (λ _. record { active = asked; before = []; state_is = refl }) (λ _. record { active = active; before = before; state_is = refl })
    asked_active None active before event known =
        let state = state_after (version_of versions active) setup before in
        record {
          active = active;
          before = event ∷ before;
          state_is = sym (ap (λ (b : Bool). at_version active (if not b then passes_on state else (version_of versions active).next setup state event).state) known);
        }

    step_active : (state : List ℕ) (event : Event) → IsActive state → IsActive (rule_step slot setup state event).state
    step_active state event h = by_switch (nat_lt event.switch (length setup.ports)) refl
      where
        by_switch : (b : Bool) → nat_lt event.switch (length setup.ports) ≡ b → IsActive (if not b then passes_on state else slot.next setup state event).state
        by_switch false known = h
        by_switch true known = subst (λ (l : List ℕ). IsActive (slot.next setup l event).state) (sym h.state_is) (asked_active (asks event) h.active h.before event known)

    always_active : (before : List Event) → IsActive (state_after slot setup before)
    always_active [] = record { active = 0; before = []; state_is = refl }
    always_active (event ∷ before) = step_active (state_after slot setup before) event (always_active before)

    step_few : (asked : Option ℕ) (active : ℕ) (before : List Event) (event : Event) → event.switch < length setup.ports →
        length (version_step versions asked setup active (state_after (version_of versions active) setup before) event).commands ≤ most_among versions
    step_few (Some asked) active before event there = omega arith
    step_few None active before event there =
        let few = (version_laws versions laws active).few setup is before event there in
        let most = version_most versions active in
        omega (arith, few, most)

    slot_few : (before : List Event) (event : Event) → event.switch < length setup.ports → length (slot.next setup (state_after slot setup before) event).commands ≤ most_among versions
    slot_few before event there =
        let h = always_active before in
        subst (λ (l : List ℕ). length (slot.next setup l event).commands ≤ most_among versions) (sym h.state_is) (step_few (asks event) h.active h.before event there)

  pub slot_laws : HasLaws slot
  slot_laws = record { lawful = λ setup is state event there. slot_lawful setup is state event there; few = λ setup is before event there. slot_few setup is before event there }
