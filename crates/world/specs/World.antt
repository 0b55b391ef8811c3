-- What a world is, what it keeps true of its parts, and what its turns do.
use Rattle.std.specs.Prelude.{◌≡◌, ◌<◌, ◌≤◌, ◌⊎◌, ℕ, ◌+◌, ◌-◌, ◌^◌, Bool, true, false, List, [], ◌∷◌, ◌++◌, length, map, count_by, slice_get, Option, Some, None, IfSome, Vec, if◌then◌else◌}
use Rattle.std.specs.List.{AllByRecursion, range_with_len}
use Rattle.of_types.specs.declared.setup.Setup.{Setup}
use Rattle.of_types.specs.Setups.{IsSetup}
use Rattle.journal.specs.declared.journal.Actor.{Actor}
use Rattle.journal.specs.declared.journal.Actor.TheVariants as actor
use Rattle.journal.specs.declared.journal.JournalEntry.{JournalEntry}
use Rattle.journal.specs.declared.journal.Letter.{Letter}
use Rattle.journal.specs.declared.journal.SaveResult.{SaveResult}
use Rattle.journal.specs.declared.journal.SaveResult.TheVariants.{Saved, KeptOld, KeptNew}
use Rattle.journal.specs.declared.journal.Turn.{Turn}
use Rattle.journal.specs.declared.wire.Stop.{Stop}
use Rattle.journal.specs.declared.wire.Stop.TheVariants.{OutOfMemory, JournalFull}
use Rattle.journal.specs.Actors.{same_actor}
use Rattle.journal.specs.Part.{part}
use Rattle.journal.specs.Pool.{past}
use Rattle.journal.specs.Turns.{entry_of, posting, turn_actor, IsFull}
use Rattle.of_switch.specs.State.{SwitchState, starting_switch}
use Rattle.journal.specs.Stables.{Saving}
use Rattle.app_core.specs.Chain.{given_by}
use Rattle.app_core.specs.Law.{AppLaw}
use Rattle.dispatcher.specs.Ledger.{most_commands}
use Rattle.group_controller.specs.State.{starting_controller}
use Rattle.group_controller.specs.Turns.{AreAlike, Controlling, state_of, pair_in, Controls}
use Rattle.run_spec.specs.declared.messages.Message.{Message}
use Rattle.run_spec.specs.States.{Scene, Sealing, switch_at, controller_at, sealed_letters, switch_message, controller_message}
use Rattle.run_spec.specs.Legal.{AreTyped, IsLegalPast, results_of}
use Rattle.run_spec.specs.Committed.{controller_state, switch_state}
use Rattle.run_spec.specs.Script.{IsInputOf}
use Rattle.world.specs.Debts.{Debt}

-- a world, as contracts see it: its setup, its journal, its controllers and its switches by number, and what is owed
pub record Worlding (B A : Type 0) : Type 0 where
  pub setup : Setup
  pub journal : List (JournalEntry B)
  pub controllers : List (Controlling A)
  pub switches : List SwitchState
  pub owed : Option (Debt B)

-- what its run is about, where its applications are of these kinds
abbrev pub scene_in : {B A : Type 0} → Sealing B → Worlding B A → List ℕ → Scene B
scene_in sealing w kinds = record { setup = w.setup; kinds = kinds; sealing = sealing }

-- what became of the saves of its controllers
abbrev pub results_in : {A : Type 0} → List (Controlling A) → List (List SaveResult)
results_in controllers = map (λ c. c.results) controllers

-- what an actor owes
abbrev pub debt_of : {B : Type 0} → Option (Debt B) → Actor → List (Letter B)
debt_of None a = []
debt_of (Some d) a = if same_actor d.actor a then d.letters else []

-- only the one of the newest input owes
abbrev pub IsDebtor : {B : Type 0} → Option (Debt B) → List (JournalEntry B) → Type 0
IsDebtor None entries = Unit {0}
IsDebtor (Some d) entries = IsInputOf d.actor entries

-- what is owed is what was said, sealed, and each number of it fits its field
pub record IsOwed {A B : Type 0} (said : A → Message) (sealing : Sealing B) (says : List (Letter A)) (letters : List (Letter B)) : Type 0 where
  pub sealed : letters ≡ sealed_letters said sealing says
  pub typed : AreTyped said says

-- the controller of a number is the one that the past gives
pub record IsMember {B A : Type 0} (law : AppLaw A) (scene : Scene B) (results : List (List SaveResult))
    (entries : List (JournalEntry B)) (controllers : List (Controlling A)) (number : ℕ) : Type 0 where
  pub member : Controlling A
  pub stands : slice_get controllers number ≡ Some member
  pub keeps : Controls law member scene.kinds
  pub setup : member.setup ≡ scene.setup
  pub me : member.me ≡ number
  pub state : state_of member ≡ controller_state scene results number entries

-- the journal of a world is that of a run, and its actors and what they owe are those that the journal gives
pub record HoldsAt {B A : Type 0} (law : AppLaw A) (scene : Scene B) (results : List (List SaveResult))
    (entries : List (JournalEntry B)) (w : Worlding B A) : Type 0 where
  pub setup : IsSetup scene.setup
  pub legal : IsLegalPast scene results entries
  pub group : length w.controllers ≡ scene.setup.controllers
  pub count : length w.switches ≡ length scene.setup.ports
  pub controllers : (c : ℕ) → c < scene.setup.controllers → IsMember law scene results entries w.controllers c
  pub switches : (s : ℕ) → s < length scene.setup.ports → slice_get w.switches s ≡ Some (switch_state scene s entries)
  pub controller_debts : (c : ℕ) → c < scene.setup.controllers →
      IsOwed controller_message scene.sealing (controller_at scene (results_of results c) c (part (actor.Controller c) entries)).owed (debt_of w.owed (actor.Controller c))
  pub switch_debts : (s : ℕ) → s < length scene.setup.ports →
      IsOwed switch_message scene.sealing (switch_at scene s (part (actor.Switch s) entries)).owed (debt_of w.owed (actor.Switch s))
  pub debtor : IsDebtor w.owed entries

-- each controller has the results that it had, and maybe more
abbrev pub AreMore : ℕ → List (List SaveResult) → List (List SaveResult) → Type 0
AreMore group old new = (c : ℕ) → c < group → (more : List SaveResult) × (results_of new c ≡ results_of old c ++ more)

-- what a world keeps true of its parts, where its applications are of these kinds: its run, and that they give no more
-- commands for an event than a ledger holds
pub record Holds {B A : Type 0} (law : AppLaw A) (sealing : Sealing B) (w : Worlding B A) (kinds : List ℕ) : Type 0 where
  pub run : HoldsAt law (scene_in sealing w kinds) (results_in w.controllers) (past w.journal) w
  pub few : given_by kinds ≤ most_commands

-- A run that was played elsewhere, with applications of these kinds, as a world of its own may take it over. These give
-- no more commands for an event than a ledger holds. Its journal
-- is legal: it is orderly, names actors of the setup alone, and gives each of them a sound part, with the results of the
-- saves that the controllers kept. These are all actors of the setup, by number, in the states that their parts give them,
-- and none of them owes a letter.
pub record IsPlayed {B A : Type 0} (law : AppLaw A) (sealing : Sealing B) (w : Worlding B A) (kinds : List ℕ) : Type 0 where
  pub setup : IsSetup w.setup
  pub few : given_by kinds ≤ most_commands
  pub legal : IsLegalPast (scene_in sealing w kinds) (results_in w.controllers) (past w.journal)
  pub group : length w.controllers ≡ w.setup.controllers
  pub count : length w.switches ≡ length w.setup.ports
  pub controllers : (c : ℕ) → c < w.setup.controllers → IsMember law (scene_in sealing w kinds) (results_in w.controllers) (past w.journal) w.controllers c
  pub switches : (s : ℕ) → s < length w.setup.ports → slice_get w.switches s ≡ Some (switch_state (scene_in sealing w kinds) s (past w.journal))
  pub controllers_rest : (c : ℕ) → c < w.setup.controllers →
      (controller_at (scene_in sealing w kinds) (results_of (results_in w.controllers) c) c (part (actor.Controller c) (past w.journal))).owed ≡ []
  pub switches_rest : (s : ℕ) → s < length w.setup.ports → (switch_at (scene_in sealing w kinds) s (part (actor.Switch s) (past w.journal))).owed ≡ []

-- a claim on what the run of a world is about, for all kinds of which its applications may be
abbrev pub ForEachScene : {B A : Type 0} → AppLaw A → Sealing B → Worlding B A → (Scene B → Type 0) → Type 0
ForEachScene law sealing w claim = (kinds : List ℕ) → Holds law sealing w kinds → claim (scene_in sealing w kinds)

-- a world of these parts, which owes nothing
abbrev pub resting_world : {B A : Type 0} → Setup → List (JournalEntry B) → List (Controlling A) → List SwitchState → Worlding B A
resting_world setup journal controllers switches = record { setup = setup; journal = journal; controllers = controllers; switches = switches; owed = None }

-- the stable pair of each controller is the one that it knows
abbrev pub PairsStand : {A W : Type 0} → Saving W → List W → List (Controlling A) → Type 0
PairsStand {A = A} {W = W} saving stables controllers = (c : ℕ) (x : Controlling A) → slice_get controllers c ≡ Some x →
    (stable : W) × (slice_get stables c ≡ Some stable) × (saving.pair stable ≡ pair_in (state_of x))

-- whether a save failed
abbrev pub is_failed : SaveResult → Bool
is_failed Saved = false
is_failed KeptOld = true
is_failed KeptNew = true

-- saves were made, with these results: the count of faults never fell, and rose with each that failed, up to its end. Where
-- none failed it stands
pub record SavesTold (before after : ℕ) (old new : List SaveResult) : Type 0 where
  pub more : List SaveResult
  pub joined : new ≡ old ++ more
  pub later : before ≤ after
  pub rose : (before + count_by is_failed more ≤ after) ⊎ (2 ^ 64 - 1 ≤ after)
  pub calm : count_by is_failed more ≡ 0 → after ≡ before

-- and so of each controller
abbrev pub AreTold : {A W : Type 0} → Saving W → List W → List W → List (Controlling A) → List (Controlling A) → Type 0
AreTold {A = A} {W = W} saving stables stables_after controllers controllers_after = (c : ℕ) (x : Controlling A) (stable : W) →
    slice_get controllers c ≡ Some x → slice_get stables c ≡ Some stable →
    (y : Controlling A) × (stable_after : W) × (slice_get controllers_after c ≡ Some y) × (slice_get stables_after c ≡ Some stable_after)
    × SavesTold (saving.faults stable) (saving.faults stable_after) x.results y.results

-- what a call keeps of a world and the stable pairs of its controllers, whatever the kinds of their applications. Further stable
-- pairs it leaves alone
pub record Keeps {B A W : Type 0} (law : AppLaw A) (saving : Saving W) (sealing : Sealing B)
    (old : Worlding B A) (stables : List W) (new : Worlding B A) (stables_after : List W) : Type 0 where
  pub setup : new.setup ≡ old.setup
  pub holds : (kinds : List ℕ) → Holds law sealing old kinds → Holds law sealing new kinds
  pub pairs : PairsStand saving stables_after new.controllers
  pub told : AreTold saving stables stables_after old.controllers new.controllers
  pub beyond : (i : ℕ) → old.setup.controllers ≤ i → slice_get stables_after i ≡ slice_get stables i

-- the post of what is owed, if anything is
abbrev pub posts_of : {B : Type 0} → (B → ℕ) → Option (Debt B) → List (JournalEntry B) → List (JournalEntry B)
posts_of size None journal = []
posts_of size (Some d) journal = posting size d.actor d.letters (past journal)

-- a world once it has posted what it owes
abbrev pub with_posts : {B A : Type 0} → (B → ℕ) → Worlding B A → Worlding B A
with_posts size w = record w { journal = w.journal ++ posts_of size w.owed w.journal; owed = None }

-- a turn was taken behind the post of what was owed
abbrev pub taken : {B : Type 0} → Turn → List (JournalEntry B) → List (JournalEntry B)
taken turn journal = journal ++ entry_of turn (past journal) ∷ []

-- a world takes a step: its entry stands, and what its actor says then is owed
pub record Steps {B A W : Type 0} (law : AppLaw A) (saving : Saving W) (sealing : Sealing B) (turn : Turn)
    (old : Worlding B A) (stables : List W) (new : Worlding B A) (stables_after : List W) : Type 0 where
  pub keeps : Keeps law saving sealing old stables new stables_after
  pub journal : new.journal ≡ taken turn old.journal
  pub owed : IfSome new.owed (λ d. d.actor ≡ turn_actor turn)

-- a turn was taken, and its outbox was posted
pub record Applies {B A : Type 0} (size : B → ℕ) (turn : Turn) (old new : Worlding B A) : Type 0 where
  pub owing : Option (Debt B)
  pub journal : new.journal ≡ taken turn (old.journal ++ posts_of size old.owed old.journal)
      ++ posts_of size owing (taken turn (old.journal ++ posts_of size old.owed old.journal))
  pub owed : IfSome owing (λ d. d.actor ≡ turn_actor turn)
  pub rests : new.owed ≡ None

-- what is owed has no room in the journal, by these sums
abbrev pub IsStuck : {B A : Type 0} → (B → ℕ) → Worlding B A → ℕ → ℕ → Type 0
IsStuck size w bytes letters = elim w.owed [
  | None ↦ ⊥
  | Some d ↦ IsFull size (past w.journal) d.letters bytes letters
]

-- why a post was refused: something is owed, and there was no memory or no room for it
abbrev pub PostStops : {B A : Type 0} → (B → ℕ) → Worlding B A → Stop → Type 0
PostStops {B = B} size w OutOfMemory = (d : Debt B) × (w.owed ≡ Some d)
PostStops size w (JournalFull bytes letters) = IsStuck size w bytes letters

-- the applications of a controller, all of these kinds. One is there for its first life
pub record IsStocked {A : Type 0} (law : AppLaw A) (kinds : List ℕ) (shelf : List A) : Type 0 where
  pub some : 0 < length shelf
  pub alike : AreAlike law kinds shelf

-- and so those of each controller
abbrev pub AreStocked : {A G : Type 0} → AppLaw A → List ℕ → List (Vec A G) → Type 0
AreStocked law kinds shelves = AllByRecursion (λ shelf. IsStocked law kinds shelf.items) shelves

-- a world of a setup as its group starts: no controller has promised a view, and each is in its first life
pub record StartsAs {B A : Type 0} (setup : Setup) (w : Worlding B A) : Type 0 where
  pub setup_is : w.setup ≡ setup
  pub journal : w.journal ≡ []
  pub rests : w.owed ≡ None
  pub pairs : (c : ℕ) (x : Controlling A) → slice_get w.controllers c ≡ Some x → pair_in (state_of x) ≡ (0, 0)

-- the switches of a setup as they start, by number
abbrev pub starting_switches : Setup → List SwitchState
starting_switches setup = map (λ s. starting_switch s setup) (range_with_len 0 (length setup.ports))

-- a controller of a number as its group starts
pub record IsNew {A : Type 0} (law : AppLaw A) (setup : Setup) (kinds : List ℕ) (number : ℕ) (x : Controlling A) : Type 0 where
  pub keeps : Controls law x kinds
  pub setup_is : x.setup ≡ setup
  pub me : x.me ≡ number
  pub state : state_of x ≡ starting_controller number setup.controllers
  pub unsaved : x.results ≡ []

-- and so many of them, by number
pub record AreNew {A : Type 0} (law : AppLaw A) (setup : Setup) (kinds : List ℕ) (count : ℕ) (controllers : List (Controlling A)) : Type 0 where
  pub group : length controllers ≡ count
  pub each : (c : ℕ) → c < count → (x : Controlling A) × (slice_get controllers c ≡ Some x) × IsNew law setup kinds c x
