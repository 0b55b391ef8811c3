-- What is committed, and what switches did.
use Rattle.std.specs.Prelude.{ℕ, nat_lt, List, [], ◌∷◌, length, map, if◌then◌else◌}
use Rattle.std.specs.List.{range_with_len}
use Rattle.journal.specs.declared.journal.Actor.TheVariants as actor
use Rattle.journal.specs.declared.journal.JournalEntry.{JournalEntry}
use Rattle.journal.specs.declared.journal.SaveResult.{SaveResult}
use Rattle.journal.specs.Part.{part}
use Rattle.vr_log.specs.declared.entry.Entry.{Entry}
use Rattle.vr_log.specs.Members.{is_up}
use Rattle.of_switch.specs.State.{SwitchState}
use Rattle.group_controller.specs.State.{ControllerState, committed}
use Rattle.run_spec.specs.States.{Scene, switch_at, controller_at}
use Rattle.run_spec.specs.Legal.{results_of}

-- the state of a controller, and of a switch, after a past
abbrev pub controller_state : {B : Type 0} → Scene B → List (List SaveResult) → ℕ → List (JournalEntry B) → ControllerState
controller_state scene results c entries = (controller_at scene (results_of results c) c (part (actor.Controller c) entries)).now

abbrev pub switch_state : {B : Type 0} → Scene B → ℕ → List (JournalEntry B) → SwitchState
switch_state scene s entries = (switch_at scene s (part (actor.Switch s) entries)).now

-- the committed log of a controller that takes part
abbrev pub kept_of : ControllerState → List Entry
kept_of c = if is_up c.vr then committed c else []

abbrev pub kept : {B : Type 0} → Scene B → List (List SaveResult) → ℕ → List (JournalEntry B) → List Entry
kept scene results c entries = kept_of (controller_state scene results c entries)

-- the longest of these logs, the earliest among equals
abbrev pub longest : List Entry → List (List Entry) → List Entry
longest best [] = best
longest best (log ∷ logs) = longest (if nat_lt (length best) (length log) then log else best) logs

-- the longest log that was ever committed at a controller
unfoldable pub decided : {B : Type 0} → Scene B → List (List SaveResult) → List (JournalEntry B) → List Entry
decided scene results [] = []
decided scene results (e ∷ before) =
    longest (decided scene results before) (map (λ c. kept scene results c (e ∷ before)) (range_with_len 0 scene.setup.controllers))

-- the states of the controllers, by number
abbrev pub states_of : {B : Type 0} → Scene B → List (List SaveResult) → List (JournalEntry B) → List ControllerState
states_of scene results entries = map (λ c. controller_state scene results c entries) (range_with_len 0 scene.setup.controllers)

-- those that take part, by number
abbrev pub members_up : List ControllerState → List ℕ
members_up [] = []
members_up (c ∷ cs) = if is_up c.vr then c.vr.me ∷ members_up cs else members_up cs

-- how many controllers take part
abbrev pub count_up : {B : Type 0} → Scene B → List (List SaveResult) → List (JournalEntry B) → ℕ
count_up scene results entries = length (members_up (states_of scene results entries))
