-- The active version of a slot is the operator's choice: each part of a chain passes on the event that asks for a version, and no other event changes it.
use Rattle.std.proofs.Common.{◌≡◌, ◌<◌, ℕ, zero, suc, Bool, true, false, List, [], ◌∷◌, length, map, Option, Some, None, get_or, refl, ap, ◌∙◌, arith}
use Rattle.std.specs.Prelude.{nat_eq, nat_lt, not, is_some, position, slice_get, option_map, ◌&&◌, if◌then◌else◌}
use Rattle.std.proofs.lemmas.Bool.{cond_both, eqb-true, lt-ltb, and_parts}
use Rattle.std.proofs.lemmas.List.Quantifiers.{position-Some}
use Rattle.std.proofs.lemmas.Option.{slice_get-map}
use Rattle.of_types.specs.declared.message.Event.{Event}
use Rattle.of_types.specs.declared.message.Fields.{Fields}
use Rattle.of_types.specs.declared.message.Happening.{Happening}
use Rattle.of_types.specs.declared.message.Happening.TheVariants as happening
use Rattle.of_types.specs.declared.setup.Rule.{Rule}
use Rattle.of_types.specs.declared.setup.Setup.{Setup}
use Rattle.of_types.specs.Header.{fields_of, number_at}
use Rattle.of_types.specs.Lives.{is_switch_up}
use Rattle.of_types.specs.Matching.{has_value}
use Rattle.of_types.specs.Setups.{IsSetup}
use Rattle.app_core.specs.declared.operator.TheConstants.{OPERATOR_SWITCH, OPERATOR_PORT, OPERATOR_TYPE, VERSION_PLACE}
use Rattle.app_core.proofs.Rows.{slot_row}
use Rattle.app_core.specs.Chain.{ChainStep, aging, chain_after, chain_next, firewall, firewall_rule, hub, hub_rule, learning, learning_rule, part_next, pinned, plain_rule_of, routing, routing_rule, rule_of, slot, starting, starting_chain, versions}
use Rattle.app_core.specs.Firewall.{denies, first_hit}
use Rattle.app_core.specs.Learning.{ageing, pinning, plainly}
use Rattle.app_core.specs.Operator.{asked_at, asked_version, version_after, version_from, version_next}
use Rattle.app_core.specs.PartRule.{PartRule, PartStep, no_rule}
use Rattle.app_core.specs.Slot.{IsAtVersion, slot_rule, version_of}

-- an operator asks at a switch that each setup has, by a packet-in
pub asked_there : (switch : ℕ) (what : Happening) (asked : ℕ) → asked_at switch what ≡ Some asked → switch ≡ 0
asked_there switch (happening.PacketIn p) asked is = by_switch (nat_eq switch OPERATOR_SWITCH) refl
  where
    by_switch : (b : Bool) → nat_eq switch OPERATOR_SWITCH ≡ b → switch ≡ 0
    by_switch true here = eqb-true switch 0 here
    by_switch false other = cc (rw other at is)
asked_there switch (happening.PortStatus p) asked is = absurd cc
asked_there switch (happening.FlowRemoved r) asked is = absurd cc

-- no rule of a firewall denies a frame of the operator's type, which is not IPv4
not_denied : (f : Fields) → f.eth_type ≡ Some OPERATOR_TYPE → (rule : Rule) → denies f rule ≡ false
not_denied f e rule = rw e refl

-- so none is at a place that one is found at
none_denies : (f : Fields) → f.eth_type ≡ Some OPERATOR_TYPE → (rules : List Rule) → position (denies f) rules ≡ None
none_denies f e [] = refl
none_denies f e (rule ∷ rules) = by_place (position (denies f) (rule ∷ rules)) refl
  where
    by_place : (o : Option ℕ) → position (denies f) (rule ∷ rules) ≡ o → o ≡ None
    by_place None is = refl
    by_place (Some place) is = absurd (let hit = (position-Some (denies f) (rule ∷ rules) place rule is).1 in let no = not_denied f e (get_or (rule ∷ rules) place rule) in cc)

has_type : (o : Option ℕ) → has_value (Some OPERATOR_TYPE) o ≡ true → o ≡ Some OPERATOR_TYPE
has_type None e = absurd cc
has_type (Some n) e = ap (λ (k : ℕ). Some k) (eqb-true n OPERATOR_TYPE e)

no_hit : (rules : List Rule) (switch : ℕ) (what : Happening) (asked : ℕ) → asked_at switch what ≡ Some asked → first_hit rules what ≡ None
no_hit rules switch (happening.PacketIn p) asked is = by_test (nat_eq switch OPERATOR_SWITCH && nat_eq p.in_port OPERATOR_PORT && has_value (Some OPERATOR_TYPE) (number_at 2 12 p.payload)) refl is
  where
    by_test : (b : Bool) → (nat_eq switch OPERATOR_SWITCH && nat_eq p.in_port OPERATOR_PORT && has_value (Some OPERATOR_TYPE) (number_at 2 12 p.payload)) ≡ b →
        (if b then slice_get p.payload VERSION_PLACE else None) ≡ Some asked → first_hit rules (happening.PacketIn p) ≡ None
    by_test false test e = absurd cc
    by_test true test e = none_denies (fields_of p.payload) (has_type (number_at 2 12 p.payload) (and_parts (nat_eq switch OPERATOR_SWITCH && nat_eq p.in_port OPERATOR_PORT) _ test).1) rules
no_hit rules switch (happening.PortStatus p) asked is = absurd cc
no_hit rules switch (happening.FlowRemoved r) asked is = absurd cc

-- whether a step of a rule stops what an operator asks
abbrev PassesOn : Event → PartRule → Type 0
PassesOn event rule = (setup : Setup) (state : List ℕ) (asked : ℕ) → asked_version event ≡ Some asked → (rule.next setup state event).stops ≡ false

firewall_passes : (event : Event) → PassesOn event firewall_rule
firewall_passes event setup state asked is = cond_both (is_switch_up event.what) _ _ (λ (s : PartStep). s.stops ≡ false) (λ _. refl) (λ _. ap is_some (no_hit setup.deny event.switch event.what asked is))

slot_passes : (event : Event) → PassesOn event (slot_rule asked_version (map plain_rule_of versions))
slot_passes event setup [] asked is = refl
slot_passes event setup (active ∷ state) asked is = rw is refl

plain_passes : (kind : ℕ) (event : Event) → PassesOn event (plain_rule_of kind)
plain_passes kind event =
    cond_both (nat_eq kind firewall) firewall_rule _ (PassesOn event) (λ _. firewall_passes event)
    (λ _. cond_both (nat_eq kind learning) (learning_rule plainly) _ (PassesOn event) (λ _ setup state asked is. refl)
    (λ _. cond_both (nat_eq kind hub) hub_rule _ (PassesOn event) (λ _ setup state asked is. refl)
    (λ _. cond_both (nat_eq kind pinned) (learning_rule pinning) _ (PassesOn event) (λ _ setup state asked is. refl)
    (λ _. cond_both (nat_eq kind aging) (learning_rule ageing) _ (PassesOn event) (λ _ setup state asked is. refl)
    (λ _. cond_both (nat_eq kind routing) routing_rule no_rule (PassesOn event) (λ _ setup state asked is. refl) (λ _ setup state asked is. refl))))))

kind_passes : (kind : ℕ) (event : Event) → PassesOn event (rule_of kind)
unfolding rule_of
kind_passes kind event = cond_both (nat_eq kind slot) (slot_rule asked_version (map plain_rule_of versions)) (plain_rule_of kind) (PassesOn event) (λ _. slot_passes event) (λ _. plain_passes kind event)

head_if : (b : Bool) (x y : ℕ) (xs ys : List ℕ) → (if b then x ∷ xs else y ∷ ys) ≡ (if b then x else y) ∷ (if b then xs else ys)
head_if true x y xs ys = refl
head_if false x y xs ys = refl

module _ (setup : Setup) (is : IsSetup setup) where
  -- no part of a chain stops what an operator asks
  stops_none : (kind : ℕ) (state : List ℕ) (event : Event) → (part_next kind setup state event).stops ≡ true → asked_version event ≡ None
  unfolding part_next
  stops_none kind state event stops = by_asked (asked_version event) refl
    where
      by_asked : (o : Option ℕ) → asked_version event ≡ o → o ≡ None
      by_asked None e = refl
      by_asked (Some asked) e =
          let passes : (part_next kind setup state event).stops ≡ false = cond_both (not (nat_lt event.switch (length setup.ports))) _ _ (λ (s : PartStep). s.stops ≡ false) (λ _. refl) (λ _. kind_passes kind event setup state asked e) in
          cc

  -- a slot goes to the version that is asked for
  goes : (active : ℕ) (state : List ℕ) (event : Event) → (rest : List ℕ) × ((part_next slot setup (active ∷ state) event).state ≡ version_next (length versions) active (asked_version event) ∷ rest)
  unfolding part_next rule_of
  goes active state event = by_asked (asked_version event) refl
    where
      rules : List PartRule
      rules = map plain_rule_of versions

      by_asked : (o : Option ℕ) → asked_version event ≡ o → (rest : List ℕ) × ((part_next slot setup (active ∷ state) event).state ≡ version_next (length versions) active o ∷ rest)
      by_asked None e = by_switch (nat_lt event.switch (length setup.ports)) refl
        where
          by_switch : (b : Bool) → nat_lt event.switch (length setup.ports) ≡ b → (rest : List ℕ) × ((part_next slot setup (active ∷ state) event).state ≡ active ∷ rest)
          by_switch false unknown = (state, rw unknown refl)
          by_switch true known = (((version_of rules active).next setup state event).state, rw (known, e) refl)
      by_asked (Some asked) e =
          let one = is.some in
          let there : event.switch < length setup.ports = omega (arith, one, asked_there event.switch event.what asked e) in
          let above = nat_lt active asked && nat_lt asked (length versions) in (
            if above then (version_of rules asked).starts else state,
            rw (lt-ltb event.switch (length setup.ports) there, e) (head_if above asked active (version_of rules asked).starts state),
          )

  -- so it does wherever it stands in a chain
  goes_in_chain : (kinds : List ℕ) (states : List (List ℕ)) (place active : ℕ) (state : List ℕ) (event : Event) → slice_get kinds place ≡ Some slot → slice_get states place ≡ Some (active ∷ state) →
      (rest : List ℕ) × (slice_get (chain_next kinds setup states event).states place ≡ Some (version_next (length versions) active (asked_version event) ∷ rest))
  goes_in_chain [] states place active state event there at = absurd cc
  goes_in_chain (kind ∷ kinds) [] place active state event there at = absurd cc
  goes_in_chain (kind ∷ kinds) (s ∷ states) zero active state event there at =
      let step = goes active state event in
      let slot_is : kind ≡ slot = cc in
      let state_is : s ≡ active ∷ state = cc in
      let here : (part_next kind setup s event).state ≡ version_next (length versions) active (asked_version event) ∷ step.0 = rw (slot_is, state_is) step.1 in (
        step.0,
        cond_both (part_next kind setup s event).stops _ _ (λ (c : ChainStep). slice_get c.states 0 ≡ Some (version_next (length versions) active (asked_version event) ∷ step.0))
            (λ _. ap (λ (l : List ℕ). Some l) here) (λ _. ap (λ (l : List ℕ). Some l) here),
      )
  goes_in_chain (kind ∷ kinds) (s ∷ states) (suc place) active state event there at = by_stop (part_next kind setup s event).stops refl (goes_in_chain kinds states place active state event there at)
    where
      by_stop : (b : Bool) → (part_next kind setup s event).stops ≡ b →
          (rest : List ℕ) × (slice_get (chain_next kinds setup states event).states place ≡ Some (version_next (length versions) active (asked_version event) ∷ rest)) →
          (rest : List ℕ) × (slice_get (chain_next (kind ∷ kinds) setup (s ∷ states) event).states (suc place) ≡ Some (version_next (length versions) active (asked_version event) ∷ rest))
      by_stop true stops step = (state, rw (stops, stops_none kind s event stops) at)
      by_stop false passes step = (step.0, rw passes step.1)

  goes_on : (kinds : List ℕ) (events : List Event) (states : List (List ℕ)) (place active : ℕ) (state : List ℕ) → slice_get kinds place ≡ Some slot → slice_get states place ≡ Some (active ∷ state) →
      IsAtVersion (version_from (length versions) active events) (slice_get (chain_after kinds setup states events) place)
  goes_on kinds [] states place active state there at = rw at refl
  goes_on kinds (event ∷ events) states place active state there at =
      let step = goes_in_chain kinds states place active state event there at in
      goes_on kinds events (chain_next kinds setup states event).states place (version_next (length versions) active (asked_version event)) step.0 there step.1

  pub version_holds : (kinds : List ℕ) (place : ℕ) (events : List Event) → slice_get kinds place ≡ Some slot → IsAtVersion (version_after (length versions) events) (slice_get (chain_after kinds setup (starting_chain kinds) events) place)
  version_holds kinds place events there =
      goes_on kinds events (starting_chain kinds) place 0 (version_of (map plain_rule_of versions) 0).starts there (slice_get-map starting kinds place ∙ ap (option_map starting) there ∙ ap (λ (rule : PartRule). Some rule.starts) slot_row)
