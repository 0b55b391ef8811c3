-- What stands where a turn of a world stopped. One that found no memory is a crash of its controller, and nothing at a switch.
use Rattle.std.specs.Prelude.{◌≡◌, ◌⊎◌, ℕ, List, [], ◌∷◌, ◌++◌, slice_get, slice_set, Some, None}
use Rattle.journal.specs.declared.journal.Actor.{Actor}
use Rattle.journal.specs.declared.journal.Actor.TheVariants as actor
use Rattle.journal.specs.declared.journal.JournalEntry.{JournalEntry}
use Rattle.journal.specs.declared.journal.JournalEntry.TheVariants.{Refused}
use Rattle.journal.specs.declared.journal.Turn.{Turn}
use Rattle.journal.specs.declared.wire.Stop.{Stop}
use Rattle.journal.specs.declared.wire.Stop.TheVariants.{OutOfMemory, JournalFull}
use Rattle.journal.specs.Pool.{past}
use Rattle.journal.specs.Stables.{Saving}
use Rattle.journal.specs.Refusals.{MayBeRefused}
use Rattle.journal.specs.Turns.{turn_actor}
use Rattle.app_core.specs.Law.{AppLaw}
use Rattle.group_controller.specs.Turns.{Controlling, state_of}
use Rattle.run_spec.specs.Script.{IsInputOf}
use Rattle.run_spec.specs.States.{Sealing, crashed}
use Rattle.world.specs.Debts.{Debt}
use Rattle.world.specs.World.{IsStuck, Keeps, Worlding, taken, with_posts}

-- the controller of a number fell: it is down, with the pair that it had, and has made no save. All others are as they were
pub record IsFallen {A : Type 0} (number : ℕ) (before after : List (Controlling A)) : Type 0 where
  pub old : Controlling A
  pub new : Controlling A
  pub stood : slice_get before number ≡ Some old
  pub state : after ≡ slice_set before number new
  pub down : state_of new ≡ crashed (state_of old)
  pub unsaved : new.results ≡ old.results

-- so an actor is left whose input found no memory: a controller fell, and a switch is as it was
abbrev pub IsLeftOut : {B A : Type 0} → Actor → Worlding B A → Worlding B A → Type 0
IsLeftOut (actor.Controller c) old new = (new.switches ≡ old.switches) × IsFallen c old.controllers new.controllers
IsLeftOut (actor.Switch s) old new = (new.switches ≡ old.switches) × (new.controllers ≡ old.controllers)

-- the entry of an input stands, and behind it the one that refuses it
pub record IsRefused {B A : Type 0} (turn : Turn) (old new : Worlding B A) : Type 0 where
  pub input : MayBeRefused (past (taken turn old.journal))
  pub journal : new.journal ≡ taken turn old.journal ++ Refused (turn_actor turn) ∷ []
  pub rests : new.owed ≡ None
  pub left : IsLeftOut (turn_actor turn) old new

-- the entry of a turn stands, and its outbox is owed
pub record IsUnposted {B A : Type 0} (turn : Turn) (old new : Worlding B A) : Type 0 where
  pub journal : new.journal ≡ taken turn old.journal
  pub owing : Debt B
  pub owed : new.owed ≡ Some owing
  pub its : owing.actor ≡ turn_actor turn

-- A turn that found no memory. What was owed before it is owed still, and nothing has changed; or that was posted, and nothing
-- else has changed; or the turn's input is refused; or the turn was taken, and its outbox is owed
pub data IsHalted {B A : Type 0} (size : B → ℕ) (turn : Turn) (old new : Worlding B A) : Type 0 where
  Unchanged : new ≡ old → IsHalted size turn old new
  Posted : new ≡ with_posts size old → IsHalted size turn old new
  Turned_down : IsRefused turn (with_posts size old) new → IsHalted size turn old new
  Unposted : IsUnposted turn (with_posts size old) new → IsHalted size turn old new

-- why a turn stopped, and what stands then: at a full journal what was owed had no room, or what the turn owes has none
abbrev pub TurnStops : {B A : Type 0} → (B → ℕ) → Turn → Worlding B A → Worlding B A → Stop → Type 0
TurnStops size turn old new OutOfMemory = IsHalted size turn old new
TurnStops size turn old new (JournalFull bytes letters) = IsStuck size new bytes letters × ((new ≡ old) ⊎ (new.journal ≡ taken turn (with_posts size old).journal))

-- a refusal behind these entries, where one stands: the newest of them is its actor's input
pub data IsRefusalBehind {B : Type 0} (before : List (JournalEntry B)) : List (JournalEntry B) → Type 0 where
  None_stands : IsRefusalBehind before []
  One_stands : (a : Actor) → MayBeRefused before → IsInputOf a before → IsRefusalBehind before (Refused a ∷ [])

-- the step of a turn that found no memory: nothing has changed, or its input is refused
pub data StepStops {B A W : Type 0} (law : AppLaw A) (saving : Saving W) (sealing : Sealing B) (turn : Turn)
    (old : Worlding B A) (stables : List W) (new : Worlding B A) (stables_after : List W) : Type 0 where
  Not_taken : new ≡ old → stables_after ≡ stables → StepStops law saving sealing turn old stables new stables_after
  Turned_down : Keeps law saving sealing old stables new stables_after → IsRefused turn old new → StepStops law saving sealing turn old stables new stables_after
