-- How the view of a closing starts, told of its journal.
use Rattle.std.specs.Prelude.{◌≡◌, ◌≤◌, ◌<◌, ℕ, ◌/◌, ◌%◌, true, false, nat_eq, List, [], ◌++◌, map, reverse, slice_index_or, Option, None}
use Rattle.of_types.specs.Setups.{IsSetup}
use Rattle.journal.specs.declared.journal.Actor.TheVariants as actor
use Rattle.journal.specs.declared.journal.JournalEntry.{JournalEntry}
use Rattle.journal.specs.declared.journal.SaveResult.{SaveResult}
use Rattle.journal.specs.declared.journal.SaveResult.TheVariants.{Saved}
use Rattle.journal.specs.Part.{part}
use Rattle.journal.specs.Pool.{numbered_letters, pool}
use Rattle.journal.specs.Turns.{IsWithinLimits}
use Rattle.of_types.specs.declared.setup.Setup.{Setup}
use Rattle.vr_log.specs.declared.state.VrState.{VrState}
use Rattle.view_change.specs.Entering.{tells_start}
use Rattle.group_controller.specs.State.{Work, fresh, stepped}
use Rattle.group_controller.specs.Rules.{starting_view}
use Rattle.run_spec.specs.declared.messages.Unsealed.TheVariants as unsealed
use Rattle.run_spec.specs.States.{Scene, IsFaithful, content, controller_at, controller_message, sealed_letters}
use Rattle.run_spec.specs.Legal.{IsPossible, results_of}
use Rattle.run_spec.specs.Committed.{controller_state, switch_state, states_of, count_up}
use Rattle.run_spec.specs.Script.{IsPosted}
use Rattle.run_spec.specs.Closing.{Phase, Losing, Suspecting, Draining, ClosingAnswer, ClosesTo, IsEnd, after_member, closing_view, count_turns, majority, next_move}
use Rattle.closing_laws.specs.Quorum.{has, members_that_close}
use Rattle.closing_laws.specs.Views.{HasBest, IsCovered, in_view, lacks, log_of, started_with, tellers, turns_to_start}

-- each save of a controller after a past succeeds
abbrev pub SavesSucceed : {B : Type 0} → Scene B → List (List SaveResult) → List (JournalEntry B) → Type 0
SavesSucceed scene results before =
    (c i : ℕ) → c < scene.setup.controllers → (controller_at scene (results_of results c) c (part (actor.Controller c) before)).saves ≤ i →
    slice_index_or (results_of results c) i Saved ≡ Saved

-- the members of the controllers after a past, by number
abbrev pub members_at : {B : Type 0} → Scene B → List (List SaveResult) → List (JournalEntry B) → ℕ → VrState
members_at scene results entries c = (controller_state scene results c entries).vr

-- the turn in which the primary of a view starts it, with this member, and this promise if it has just made one
abbrev pub starting_turn : List ℕ → Setup → Option ℕ → VrState → Work
starting_turn kinds setup promise s = starting_view kinds setup (stepped (fresh s) (record (tells_start s) { promise = promise }))

-- A view has started in a journal: its primary has taken that turn, from the best log of the quorum, and nothing waits but
-- what it said in it, as it said it. The others of the quorum wait in the view with what they had, and those outside are as
-- they were.
pub record HasStartedIn {B : Type 0} (scene : Scene B) (results : List (List SaveResult)) (view : ℕ) (quorum : List ℕ) (start : ℕ → VrState) (best : ℕ) (entries : List (JournalEntry B)) : Type 0 where
  pub voters : ℕ → List ℕ
  pub promise : Option ℕ
  pub turn : Work
  pub turn_is : turn ≡ starting_turn scene.kinds scene.setup promise
      (started_with (start (view % scene.setup.controllers)) view (voters (view % scene.setup.controllers))
      (map (log_of start) (tellers (view % scene.setup.controllers) quorum)) (start best).log)
  pub primary : controller_state scene results (view % scene.setup.controllers) entries ≡ turn.state
  pub others : (c : ℕ) → has quorum c ≡ true → nat_eq c (view % scene.setup.controllers) ≡ false →
      members_at scene results entries c ≡ in_view (start c) view (voters c) true [] None
  pub outside : (c : ℕ) → c < scene.setup.controllers → has quorum c ≡ false → members_at scene results entries c ≡ start c
  pub number : ℕ
  pub waits : pool entries ≡ numbered_letters number (actor.Controller (view % scene.setup.controllers)) (sealed_letters controller_message scene.sealing turn.letters)
  pub says : map (content scene.sealing) (pool entries) ≡ map (λ l. unsealed.Message (controller_message l.body)) turn.letters

-- A closing over a past in which nothing waits or is owed, where a majority takes part, up to some phase of it. Each save
-- succeeds, and the journal stays within its limits
pub record IsAttempt {B : Type 0} (scene : Scene B) (results : List (List SaveResult)) (before entries : List (JournalEntry B)) (last : Phase) : Type 0 where
  pub possible : IsPossible scene results (reverse entries ++ before)
  pub rests : IsPosted scene results before
  pub empty : pool before ≡ []
  pub most : majority scene.setup.controllers ≤ count_up scene results before
  pub closes : ClosesTo scene results Losing before entries last
  pub posted : IsPosted scene results (reverse entries ++ before)
  pub saves : SavesSucceed scene results before
  pub within : IsWithinLimits scene.sealing.size (reverse entries ++ before)

-- the view that it takes, and its quorum
abbrev pub view_after : {B : Type 0} → Scene B → List (List SaveResult) → List (JournalEntry B) → ℕ
view_after scene results before = closing_view (states_of scene results before) scene.setup.controllers

abbrev pub quorum_after : {B : Type 0} → Scene B → List (List SaveResult) → List (JournalEntry B) → List ℕ
quorum_after scene results before = members_that_close scene.setup.controllers (states_of scene results before)

-- in how many turns its view starts from the log of this member
abbrev pub turns_after : {B : Type 0} → Scene B → List (List SaveResult) → List (JournalEntry B) → ℕ → ℕ
turns_after scene results before best =
    turns_to_start (scene.setup.controllers / 2) (lacks (view_after scene results before % scene.setup.controllers) (members_at scene results before) best)

-- all members suspect, and the pool is drained
pub data IsDraining (view : ℕ) (quorum : List ℕ) : Phase → Type 0 where
  Last_suspects : IsDraining view quorum (Suspecting view quorum [])
  Drains : IsDraining view quorum (Draining view quorum)

-- The first of these entries bring it there, with exactly so many turns, and the closing goes on from there. No switch has
-- taken a turn, and nothing is owed.
pub record Starts {B : Type 0} (scene : Scene B) (results : List (List SaveResult)) (before entries : List (JournalEntry B)) (last : Phase) (best : ℕ) : Type 0 where
  pub first : List (JournalEntry B)
  pub rest : List (JournalEntry B)
  pub joined : entries ≡ first ++ rest
  pub turns : count_turns first ≡ turns_after scene results before best
  pub started : HasStartedIn scene results (view_after scene results before) (quorum_after scene results before) (members_at scene results before) best (reverse first ++ before)
  pub covered : IsCovered (quorum_after scene results before) (members_at scene results before) best
  pub unchanged : (t : ℕ) → switch_state scene t (reverse first ++ before) ≡ switch_state scene t before
  pub posted : IsPosted scene results (reverse first ++ before)
  pub phase : Phase
  pub drains : IsDraining (view_after scene results before) (quorum_after scene results before) phase
  pub goes_on : ClosesTo scene results
      (after_member (view_after scene results before) (controller_state scene results (view_after scene results before % scene.setup.controllers) (reverse first ++ before)) phase)
      (reverse first ++ before) rest last

-- it starts with so many turns, and the closing doesn't end before
pub record StartsInTime {B : Type 0} (scene : Scene B) (results : List (List SaveResult)) (before entries : List (JournalEntry B)) (last : Phase) (best : ℕ) : Type 0 where
  pub starts : turns_after scene results before best ≤ count_turns entries → Starts scene results before entries last best
  pub goes_on : count_turns entries < turns_after scene results before best → (answer : ClosingAnswer) → IsEnd (next_move scene results last (reverse entries ++ before)) answer → ⊥

-- in each closing the view starts in time, from the best log of its quorum
abbrev pub ViewsStartInTime : Type 0 → Type 0
ViewsStartInTime B = (scene : Scene B) (results : List (List SaveResult)) (before entries : List (JournalEntry B)) (last : Phase) (best : ℕ) →
    IsSetup scene.setup → IsFaithful scene.sealing → IsAttempt scene results before entries last →
    HasBest (quorum_after scene results before) (members_at scene results before) best → StartsInTime scene results before entries last best
