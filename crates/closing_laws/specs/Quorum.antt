-- Who closes: the view of a closing, and the members that it takes.
use Rattle.std.specs.Prelude.{◌≡◌, ◌≤◌, ◌<◌, ℕ, ◌/◌, ◌%◌, Bool, true, nat_eq, List, length}
use Rattle.std.specs.List.{AllByRecursion, list_any}
use Rattle.std.specs.List.Sorted.{IsStrictlyIncreasing}
use Rattle.journal.specs.declared.journal.JournalEntry.{JournalEntry}
use Rattle.journal.specs.declared.journal.SaveResult.{SaveResult}
use Rattle.vr_log.specs.Members.{is_up}
use Rattle.group_controller.specs.State.{ControllerState}
use Rattle.run_spec.specs.States.{Scene}
use Rattle.run_spec.specs.Committed.{states_of, members_up, count_up}
use Rattle.run_spec.specs.Closing.{closing_view, quorum_of, majority}

-- a number is among these
abbrev pub has : List ℕ → ℕ → Bool
has numbers c = list_any (λ m. nat_eq m c) numbers

-- each of these numbers is one of those
abbrev pub AreAmong : List ℕ → List ℕ → Type 0
AreAmong numbers all = (c : ℕ) → has numbers c ≡ true → has all c ≡ true

-- a quorum of a group for a view: f + 1 of its 2 f + 1 members, each once and in ascending order, and the primary of the
-- view is one of them
pub record IsQuorum (group view : ℕ) (quorum : List ℕ) : Type 0 where
  pub count : length quorum ≡ majority group
  pub ascending : IsStrictlyIncreasing quorum
  pub members : (c : ℕ) → has quorum c ≡ true → c < group
  pub primary : has quorum (view % group) ≡ true

-- the views and the promises of the controllers that take part are below a view
abbrev pub AreBelow : List ControllerState → ℕ → Type 0
AreBelow states view = AllByRecursion (λ c. is_up c.vr ≡ true → (c.vr.view < view) × (c.vr.promise < view)) states

-- a closing may take a view: it is above all that they have and have promised, and its primary takes part
pub record MayClose (group : ℕ) (states : List ControllerState) (view : ℕ) : Type 0 where
  pub above : AreBelow states view
  pub primary : has (members_up states) (view % group) ≡ true

-- the view of a closing is one, and the least
pub record HasTheLeastView (group : ℕ) (states : List ControllerState) : Type 0 where
  pub may : MayClose group states (closing_view states group)
  pub least : (view : ℕ) → MayClose group states view → closing_view states group ≤ view

-- the members that a closing takes are a quorum for its view, and take part
pub record HasAQuorum (group : ℕ) (states : List ControllerState) (quorum : List ℕ) : Type 0 where
  pub quorum_is : IsQuorum group (closing_view states group) quorum
  pub are_up : AreAmong quorum (members_up states)

abbrev pub members_that_close : ℕ → List ControllerState → List ℕ
members_that_close group states = quorum_of (closing_view states group % group) (group / 2) (members_up states)

-- this holds of the group after each past, where a majority of it takes part
abbrev pub WhereMostAreUp : (B : Type 0) → (ℕ → List ControllerState → Type 0) → Type 0
WhereMostAreUp B Law = (scene : Scene B) (results : List (List SaveResult)) (entries : List (JournalEntry B)) →
    majority scene.setup.controllers ≤ count_up scene results entries → Law scene.setup.controllers (states_of scene results entries)
