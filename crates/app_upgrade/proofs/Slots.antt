-- A step of a slot, by the parts that are left of it.
use Rattle.std.proofs.Common.{◌≡◌, ◌<◌, ◌≤◌, ◌-◌, ◌+◌, ℕ, zero, suc, Bool, true, false, List, [], ◌∷◌, Some, None, Ok, Err, length, map, drop, get_or, refl, sym, ap, ◌∙◌, append-nil, arith, length-drop}
use Rattle.std.specs.Prelude.{nat_lt, ◌&&◌, IfOk, OnOk, Result, if◌then◌else◌}
use Rattle.std.specs.List.{AllByRecursion}
use Rattle.std.proofs.lemmas.Bool.{cond_both, lt-ltb, ltb-true, and_parts}
use Rattle.std.proofs.lemmas.List.{drop-drop, drop-map, get_or-drop, get_or-map, length-map}
use Rattle.std.proofs.lemmas.Grind.{get_or_after_one}
use Rattle.of_types.specs.declared.message.Command.{Command}
use Rattle.of_types.specs.declared.message.Event.{Event}
use Rattle.of_types.specs.declared.setup.Setup.{Setup}
use Rattle.app_core.specs.Chain.{most_given, part_next, plain_rule_of, rule_of, slot, starting, starting_chain, versions}
use Rattle.app_core.specs.Operator.{asked_version}
use Rattle.app_core.specs.PartRule.{PartRule}
use Rattle.app_core.specs.Parts.{AllFit, PartSteps}
use Rattle.app_core.specs.Slot.{at_version, version_of}
use Rattle.app_core.proofs.Asking.{asked_there}
use Rattle.app_core.proofs.Rows.{aging_row, hub_row, learning_row, pinned_row, routing_row, slot_row}
use Rattle.app_upgrade.specs.declared.version.Version.{Version}
use Rattle.app_upgrade.specs.declared.version.Version.TheVariants as version
use Rattle.app_upgrade.specs.Versions.{AreLast, kind_in}
use Rattle.version_line.specs.Line.{active_of, left_after}

-- no version gives more than 64 commands
few_in : (v : Version) → most_given (kind_in v) ≤ 64
unfolding rule_of
few_in (version.Learning p) = omega arith
few_in (version.PlainLearning p) = omega arith
few_in (version.Hub p) = omega arith
few_in (version.Pinned p) = omega arith
few_in (version.Aging p) = omega arith
few_in (version.Route p) = omega arith

pub few_first : (parts : List Version) → most_given (get_or (map kind_in parts) 0 0) ≤ 64
unfolding rule_of
few_first [] = omega arith
few_first (v ∷ parts) = few_in v

pub at_most : {A E : Type 0} (r : Result A E) (before after most : ℕ) → most ≤ 64 → OnOk r (after ≤ before + most) → OnOk r (after ≤ before + 64)
at_most (Ok x) before after most few h = omega (arith, few, h)
at_most (Err e) before after most few h = tt

-- the rules of the versions, by their numbers
abbrev of_version : ℕ → PartRule
of_version number = version_of (map plain_rule_of versions) number

-- are those of their kinds, of which none is a slot
rules_are : (kinds : List ℕ) → AllByRecursion (λ kind. rule_of kind ≡ plain_rule_of kind) kinds → (number : ℕ) → rule_of (get_or kinds number 0) ≡ version_of (map plain_rule_of kinds) number
unfolding rule_of
rules_are [] plain number = refl
rules_are (kind ∷ kinds) plain zero = plain.0
rules_are (kind ∷ kinds) plain (suc number) = rules_are kinds plain.1 number

rule_is : (number : ℕ) → rule_of (get_or versions number 0) ≡ of_version number
rule_is number = rules_are versions (learning_row, (hub_row, (pinned_row, (aging_row, (routing_row, tt))))) number

module _ (parts : List Version) (last : AreLast parts) where
  -- as many parts as versions are left
  are_left : active_of parts + length parts ≡ length versions
  are_left = let same = ap length last.kinds in omega (arith, same, length-map parts kind_in, length-drop (active_of parts) versions)

  -- those that an operator leaves are again of the last versions
  pub last_left : (asked : ℕ) → AreLast (left_after asked parts)
  last_left asked = by_test (nat_lt (active_of parts) asked && nat_lt asked (length versions)) refl
    where
      by_test : (b : Bool) → (nat_lt (active_of parts) asked && nat_lt asked (length versions)) ≡ b → AreLast (if b then drop (asked - active_of parts) parts else parts)
      by_test false h = last
      by_test true h =
          let gone = asked - active_of parts in
          let p = and_parts (nat_lt (active_of parts) asked) (nat_lt asked (length versions)) h in
          let listed = ltb-true asked (length versions) p.1 in
          let later : active_of parts + gone ≡ active_of (drop gone parts) = omega (arith, are_left, ltb-true (active_of parts) asked p.0, listed, length-drop gone parts) in
          record { kinds = sym (drop-map kind_in gone parts) ∙ ap (drop gone) last.kinds ∙ drop-drop gone (active_of parts) versions ∙ ap (λ n. drop n versions) later }

  -- one is left where there was one
  pub some_left : (asked : ℕ) → 0 < length parts → 0 < length (left_after asked parts)
  some_left asked some = by_test (nat_lt (active_of parts) asked && nat_lt asked (length versions)) refl
    where
      by_test : (b : Bool) → (nat_lt (active_of parts) asked && nat_lt asked (length versions)) ≡ b → 0 < length (if b then drop (asked - active_of parts) parts else parts)
      by_test false h = some
      by_test true h =
          let listed = ltb-true asked (length versions) (and_parts (nat_lt (active_of parts) asked) (nat_lt asked (length versions)) h).1 in
          omega (arith, are_left, listed, length-drop (asked - active_of parts) parts)

-- the parts of a slot fit a setup, and those behind the first are as their versions start
abbrev AreReady : (Version → Setup → Type 0) → (Version → List ℕ) → List Version → Setup → Type 0
AreReady is_fit numbers_of parts setup = AllFit is_fit parts setup × (drop 1 (map numbers_of parts) ≡ starting_chain (drop 1 (map kind_in parts))) × (0 < length setup.ports)

module _ (is_fit : Version → Setup → Type 0) (numbers_of : Version → List ℕ) (setup : Setup) where
  -- so are they where some in front go
  ready_behind : (gone : ℕ) (parts : List Version) → AreReady is_fit numbers_of parts setup → AreReady is_fit numbers_of (drop gone parts) setup
  ready_behind zero parts ready = ready
  ready_behind (suc gone) [] ready = ready
  ready_behind (suc gone) (part ∷ parts) ready = ready_behind gone parts (ready.0.1, ap (drop 1) ready.1 ∙ drop-map starting 1 (map kind_in parts), ready.2)

  pub ready_left : (asked : ℕ) (parts : List Version) → AreReady is_fit numbers_of parts setup → AreReady is_fit numbers_of (left_after asked parts) setup
  ready_left asked parts ready =
      cond_both (nat_lt (active_of parts) asked && nat_lt asked (length versions)) (drop (asked - active_of parts) parts) parts (λ left. AreReady is_fit numbers_of left setup)
      (λ _. ready_behind (asked - active_of parts) parts ready) (λ _. ready)

module _ (numbers_of : Version → List ℕ) (parts : List Version) (last : AreLast parts) where
  abbrev AreWaiting : Type 0
  AreWaiting = drop 1 (map numbers_of parts) ≡ starting_chain (drop 1 (map kind_in parts))

  -- a part behind the first is as its version starts
  waits : AreWaiting → (j : ℕ) → suc j < length parts → get_or (map numbers_of (drop (suc j) parts)) 0 [] ≡ (of_version (active_of parts + suc j)).starts
  waits waiting j there =
      let listed : active_of parts + suc j < length versions = omega (arith, are_left parts last, there) in
      let next : suc j + 0 ≡ 1 + j = omega arith in
      let place : active_of parts + (1 + j) ≡ active_of parts + suc j = omega arith in
      ap (λ (l : List (List ℕ)). get_or l 0 []) (sym (drop-map numbers_of (suc j) parts))
      ∙ get_or-drop (suc j) (map numbers_of parts) 0 []
      ∙ ap (λ n. get_or (map numbers_of parts) n []) next
      ∙ sym (get_or_after_one (map numbers_of parts) j [])
      ∙ ap (λ (l : List (List ℕ)). get_or l j []) (waiting ∙ ap (λ (l : List ℕ). starting_chain (drop 1 l)) last.kinds)
      ∙ ap (λ (l : List (List ℕ)). get_or l j []) (sym (drop-map starting 1 (drop (active_of parts) versions)))
      ∙ get_or_after_one (map starting (drop (active_of parts) versions)) j []
      ∙ get_or-map starting (drop (active_of parts) versions) (1 + j) 0 [] (omega (arith, listed, length-drop (active_of parts) versions))
      ∙ ap starting (get_or-drop (active_of parts) versions (1 + j) 0 ∙ ap (λ n. get_or versions n 0) place)
      ∙ ap (λ (rule : PartRule). rule.starts) (rule_is (active_of parts + suc j))

  -- the part of a later version
  waits_at : AreWaiting → (asked : ℕ) → active_of parts < asked → asked < length versions → get_or (map numbers_of (drop (asked - active_of parts) parts)) 0 [] ≡ (of_version asked).starts
  waits_at waiting asked above listed = by_distance (asked - active_of parts) (omega (arith, above))
    where
      by_distance : (k : ℕ) → active_of parts + k ≡ asked → get_or (map numbers_of (drop k parts)) 0 [] ≡ (of_version asked).starts
      by_distance zero same = absurd (omega (arith, same, above))
      by_distance (suc j) same = waits waiting j (omega (arith, are_left parts last, same, listed)) ∙ ap (λ n. (of_version n).starts) same

  goes : AreWaiting → (asked : ℕ) (b : Bool) → (nat_lt (active_of parts) asked && nat_lt asked (length versions)) ≡ b →
      at_version (active_of (if b then drop (asked - active_of parts) parts else parts)) (get_or (map numbers_of (if b then drop (asked - active_of parts) parts else parts)) 0 [])
      ≡ (if b then at_version asked (of_version asked).starts else at_version (active_of parts) (get_or (map numbers_of parts) 0 []))
  goes waiting asked false h = refl
  goes waiting asked true h =
      let p = and_parts (nat_lt (active_of parts) asked) (nat_lt asked (length versions)) h in
      let above = ltb-true (active_of parts) asked p.0 in
      let listed = ltb-true asked (length versions) p.1 in
      let now : active_of (drop (asked - active_of parts) parts) ≡ asked = omega (arith, are_left parts last, above, listed, length-drop (asked - active_of parts) parts) in
      rw (now, waits_at waiting asked above listed) refl

  -- it is asked for a version
  pub slot_asked : AreWaiting → (setup : Setup) → 0 < length setup.ports → (event : Event) (asked : ℕ) → asked_version event ≡ Some asked → (new : List Version) → new ≡ left_after asked parts → (out : List Command) →
      PartSteps (part_next slot setup (at_version (active_of parts) (get_or (map numbers_of parts) 0 [])) event) (at_version (active_of new) (get_or (map numbers_of new) 0 [])) out out false
  unfolding part_next
  slot_asked waiting setup some event asked is new left out =
      let there : event.switch < length setup.ports = omega (arith, some, asked_there event.switch event.what asked is) in
      rw (lt-ltb event.switch (length setup.ports) there, slot_row, is)
      (record { state_is = rw left (goes waiting asked (nat_lt (active_of parts) asked && nat_lt asked (length versions)) refl); commands_are = sym (append-nil out); stops_is = refl })

module _ (parts : List Version) (last : AreLast parts) where
  -- the rule of the first part is that of the active version
  active_rule : rule_of (get_or (map kind_in parts) 0 0) ≡ of_version (active_of parts)
  active_rule =
      ap rule_of (ap (λ (l : List ℕ). get_or l 0 0) last.kinds ∙ get_or-drop (active_of parts) versions 0 0 ∙ ap (λ n. get_or versions n 0) (omega arith)) ∙ rule_is (active_of parts)

  -- another event is one of the active version
  is_active : (setup : Setup) (event : Event) → asked_version event ≡ None → (state : List ℕ) (b : Bool) → nat_lt event.switch (length setup.ports) ≡ b →
      part_next slot setup (at_version (active_of parts) state) event
      ≡ record (part_next (get_or (map kind_in parts) 0 0) setup state event) { state = at_version (active_of parts) (part_next (get_or (map kind_in parts) 0 0) setup state event).state }
  unfolding part_next
  is_active setup event none state false unknown = rw unknown refl
  is_active setup event none state true known = rw (known, slot_row, none, active_rule) refl

  pub slot_reacts : {E : Type 0} (setup : Setup) (event : Event) → asked_version event ≡ None → (state : List ℕ) (new : List Version) → map kind_in new ≡ map kind_in parts → (r : Result Bool E) (state_after : List ℕ) (before after : List Command) →
      IfOk r (λ stops. PartSteps (part_next (get_or (map kind_in parts) 0 0) setup state event) state_after before after stops) →
      IfOk r (λ stops. PartSteps (part_next slot setup (at_version (active_of parts) state) event) (at_version (active_of new) state_after) before after stops)
  slot_reacts setup event none state new kinds (Err e) state_after before after step = tt
  slot_reacts setup event none state new kinds (Ok stops) state_after before after step =
      let same : active_of new ≡ active_of parts = ap (λ n. length versions - n) (sym (length-map new kind_in) ∙ (ap length kinds ∙ length-map parts kind_in)) in
      rw (is_active setup event none state (nat_lt event.switch (length setup.ports)) refl)
      (record { state_is = rw same (ap (at_version (active_of parts)) step.state_is); commands_are = step.commands_are; stops_is = step.stops_is })
