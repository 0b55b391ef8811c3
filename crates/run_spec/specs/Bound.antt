-- In how many turns a closing comes to rest, by what it finds where it begins.
use Rattle.std.specs.Prelude.{◌≤◌, ℕ, ◌+◌, ◌-◌, ◌*◌, ◌/◌, ◌%◌, max, nat_eq, nat_lt, List, [], ◌∷◌, ◌++◌, length, take, drop, filter, map, sum_by, reverse}
use Rattle.std.specs.List.{list_any, range_with_len}
use Rattle.journal.specs.declared.journal.JournalEntry.{JournalEntry}
use Rattle.journal.specs.declared.journal.SaveResult.{SaveResult}
use Rattle.vr_log.specs.declared.entry.Entry.{Entry}
use Rattle.vr_log.specs.Log.{received, processed}
use Rattle.app_core.specs.Chain.{concat}
use Rattle.app_core.specs.Issued.{issues}
use Rattle.group_controller.specs.State.{ControllerState}
use Rattle.of_switch.specs.State.{SwitchState, life_of}
use Rattle.run_spec.specs.States.{Scene}
use Rattle.run_spec.specs.Committed.{decided, states_of, switch_state, members_up}
use Rattle.run_spec.specs.Closing.{closing_view, quorum_of, count_turns}

-- the events that a switch holds, and the ports that it remembers
abbrev pub waiting_at : SwitchState → ℕ
waiting_at s = length s.buffer.held + length s.buffer.dirty

-- the events of lives that are over, received and not processed. A switch may have begun a life that no log tells of yet
abbrev pub ended_waiting : {B : Type 0} → Scene B → List (JournalEntry B) → List Entry → ℕ
ended_waiting scene before log =
    length (filter (λ e. nat_lt e.life (life_of (switch_state scene e.switch before))) (drop (processed log) (received log)))

-- what is still to be logged, or processed
abbrev pub events_left : {B : Type 0} → Scene B → List (List SaveResult) → List (JournalEntry B) → ℕ
events_left scene results before =
    sum_by (λ s. waiting_at (switch_state scene s before)) (range_with_len 0 (length scene.setup.ports)) + ended_waiting scene before (decided scene results before)

-- the members that close
abbrev pub closing_members : {B : Type 0} → Scene B → List (List SaveResult) → List (JournalEntry B) → List ControllerState
closing_members scene results before =
    let states = states_of scene results before in
    let n = scene.setup.controllers in
    filter (λ c. list_any (λ m. nat_eq m c.vr.me) (quorum_of (closing_view states n % n) (n / 2) (members_up states))) states

-- the greatest of these
abbrev pub greatest_of : List ℕ → ℕ
greatest_of [] = 0
greatest_of (n ∷ numbers) = max n (greatest_of numbers)

-- how far the members know entries as committed, and how many stand behind that in the longest of their logs
abbrev pub place_known : List ControllerState → ℕ
place_known members = greatest_of (map (λ c. c.vr.commit) members)

abbrev pub entries_left : List ControllerState → ℕ
entries_left members = greatest_of (map (λ c. length c.vr.log) members) - place_known members

-- the commands for the events of a log that are not known as processed up to a place
abbrev pub commands_left : {B : Type 0} → Scene B → List Entry → ℕ → ℕ
commands_left scene log place =
    length (concat (drop (processed (take place log)) (issues scene.kinds scene.setup (received log))))

abbrev pub turns_bound : ℕ → ℕ → ℕ → ℕ → ℕ → ℕ
turns_bound n switches events entries commands =
    4 * n * n + 8 * n + 2 * switches + (events + entries) * (6 * n + 4) + 4 * commands

-- a sharper one, in a group of n = 2 f + 1 controllers
abbrev pub sharp_bound : ℕ → ℕ → ℕ → ℕ → ℕ → ℕ
sharp_bound n switches events entries commands =
    let f = n / 2 in
    f * f + 7 * f + 1 + 2 * switches + (2 * n + 1) * events + (n + 1) * entries + 3 * commands

-- a bound on the turns of a closing behind a past
abbrev pub most_by : {B : Type 0} → (ℕ → ℕ → ℕ → ℕ → ℕ → ℕ) → Scene B → List (List SaveResult) → List (JournalEntry B) → List (JournalEntry B) → ℕ
most_by bound scene results before after =
    let members = closing_members scene results before in
    bound scene.setup.controllers (length scene.setup.ports) (events_left scene results before) (entries_left members)
    (commands_left scene (decided scene results after) (place_known members))

-- it takes no more turns than the first bound says
abbrev pub IsQuick : {B : Type 0} → Scene B → List (List SaveResult) → List (JournalEntry B) → List (JournalEntry B) → Type 0
IsQuick scene results before entries = count_turns entries ≤ most_by turns_bound scene results before (reverse entries ++ before)

-- and no more than the sharper one
abbrev pub IsSharplyBounded : {B : Type 0} → Scene B → List (List SaveResult) → List (JournalEntry B) → List (JournalEntry B) → Type 0
IsSharplyBounded scene results before entries = count_turns entries ≤ most_by sharp_bound scene results before (reverse entries ++ before)
