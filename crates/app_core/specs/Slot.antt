-- A slot, kind 3: one of several versions of an application, the active one, until a later one is asked for. Its state is the
-- number of that version, and the version's own state. It is told for any list of rules, which are those of its versions.
use Rattle.std.specs.Prelude.{◌≡◌, ℕ, nat_lt, ◌&&◌, max, List, [], ◌∷◌, length, slice_index_or, Option, Some, None, if◌then◌else◌}
use Rattle.of_types.specs.declared.message.Event.{Event}
use Rattle.of_types.specs.declared.setup.Setup.{Setup}
use Rattle.app_core.specs.PartRule.{PartRule, PartStep, no_rule, passes_on}

-- the rule of a version
abbrev pub version_of : List PartRule → ℕ → PartRule
version_of versions number = slice_index_or versions number no_rule

-- the state of a slot at a version
abbrev pub at_version : ℕ → List ℕ → List ℕ
at_version number state = number ∷ state

-- what stands at a place is the state of a slot at a version
abbrev pub IsAtVersion : ℕ → Option (List ℕ) → Type 0
IsAtVersion number (Some (active ∷ state)) = active ≡ number
IsAtVersion number _ = ⊥

-- a slot goes to the version that is asked for, as that one starts, where it is listed and above the active one
abbrev pub upgraded : List PartRule → ℕ → ℕ → List ℕ → List ℕ
upgraded versions asked active state =
    if nat_lt active asked && nat_lt asked (length versions) then at_version asked (version_of versions asked).starts else at_version active state

-- where a version is asked for there is no command. Every other event is one of the active version
abbrev pub version_step : List PartRule → Option ℕ → Setup → ℕ → List ℕ → Event → PartStep
version_step versions (Some asked) setup active state event = passes_on (upgraded versions asked active state)
version_step versions None setup active state event =
    let step = (version_of versions active).next setup state event in
    record step { state = at_version active step.state }

-- by what an event asks for
abbrev pub slot_step : (Event → Option ℕ) → List PartRule → Setup → List ℕ → Event → PartStep
slot_step asks versions setup [] event = passes_on []
slot_step asks versions setup (active ∷ state) event = version_step versions (asks event) setup active state event

-- the most that one of some rules gives
abbrev pub most_among : List PartRule → ℕ
most_among [] = 0
most_among (rule ∷ rules) = max rule.most (most_among rules)

-- it starts as its first version does
abbrev pub slot_rule : (Event → Option ℕ) → List PartRule → PartRule
slot_rule asks versions =
    record {
      next = λ setup state event. slot_step asks versions setup state event;
      starts = at_version 0 (version_of versions 0).starts;
      most = most_among versions;
    }
