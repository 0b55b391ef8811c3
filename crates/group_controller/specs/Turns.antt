-- One turn of a controller: what it leaves, saves and posts.
use Rattle.std.specs.Prelude.{◌≡◌, ◌≤◌, ◌<◌, ℕ, nat_lt, Bool, true, false, ◌&&◌, List, [], ◌∷◌, ◌++◌, Option, Some, None, is_none, IfSome, option_map, option_to_list}
use Rattle.std.specs.List.{AllByRecursion}
use Rattle.of_types.specs.declared.setup.Setup.{Setup}
use Rattle.of_types.specs.Lives.{last_life}
use Rattle.of_types.specs.Setups.{IsSetup}
use Rattle.journal.specs.declared.journal.Letter.{Letter}
use Rattle.journal.specs.declared.journal.SaveResult.{SaveResult}
use Rattle.journal.specs.declared.journal.SaveResult.TheVariants.{Saved, KeptOld, KeptNew}
use Rattle.journal.specs.Causes.{Rose}
use Rattle.journal.specs.Stables.{standing}
use Rattle.vr_log.specs.declared.state.Status.TheVariants.{Down}
use Rattle.vr_log.specs.Valid.{down_state}
use Rattle.vr_recovery.specs.Recovering.{restarted}
use Rattle.app_core.specs.Chain.{given_by, starting_chain}
use Rattle.app_core.specs.Law.{AppLaw}
use Rattle.dispatcher.specs.Ledger.{most_commands}
use Rattle.group_controller.specs.declared.messages.ControllerInput.{ControllerInput}
use Rattle.group_controller.specs.declared.messages.ControllerSays.{ControllerSays}
use Rattle.group_controller.specs.Acting.{Acting, Acts, BeginsTurn, begun, Works}
use Rattle.group_controller.specs.Rules.{controller_work, is_restart_input, on_input, on_restart}
use Rattle.group_controller.specs.State.{ControllerState, Work, down, fresh, resting, stepped}

-- what contracts see of a controller: its setup and its number, its stable pair, its turn where it is not down, the
-- applications of its later lives, and what became of its saves
pub record Controlling (A : Type 0) : Type 0 where
  pub setup : Setup
  pub me : ℕ
  pub promise : ℕ
  pub life : ℕ
  pub acting : Option (Acting A)
  pub shelf : List A
  pub results : List SaveResult

-- one that is down knows its stable pair alone
abbrev pub state_or : {A : Type 0} → ControllerState → Option (Acting A) → ControllerState
state_or below None = below
state_or below (Some a) = a.work.state

abbrev pub state_of : {A : Type 0} → Controlling A → ControllerState
state_of c = state_or (fresh (down_state c.me c.setup.controllers c.promise c.life)) c.acting

-- the stable pair of a state
abbrev pub pair_in : ControllerState → ℕ × ℕ
pair_in c = (c.vr.promise, c.vr.life)

-- a controller that knew what is stable knows it again
abbrev pub KnowsPair : {A : Type 0} → Controlling A → Controlling A → ℕ × ℕ → ℕ × ℕ → Type 0
KnowsPair old new pair_before pair_after = pair_before ≡ (old.promise, old.life) → pair_after ≡ (new.promise, new.life)

-- A member between two turns: its stable pair is the controller's.
pub record Stands {A : Type 0} (law : AppLaw A)
    (c : Controlling A) (kinds : List ℕ) (a : Acting A) : Type 0 where
  pub begins : BeginsTurn law a kinds c.setup
  pub me : a.work.state.vr.me ≡ c.me
  pub controllers : a.work.state.vr.controllers ≡ c.setup.controllers
  pub promise : a.work.state.vr.promise ≡ c.promise
  pub life : a.work.state.vr.life ≡ c.life
  pub awake : a.work.state.vr.status ≡ Down → ⊥

-- applications of these kinds, with at most so many commands for an event
abbrev pub AreAlike : {A : Type 0} → AppLaw A → List ℕ → List A → Type 0
AreAlike law kinds apps = AllByRecursion (λ app. (law.kinds app ≡ kinds) × (given_by (law.kinds app) ≤ most_commands)) apps

-- A controller of applications of these kinds. Where it is not down, the state of its application is the fold over its
-- committed log.
pub record Controls {A : Type 0} (law : AppLaw A)
    (c : Controlling A) (kinds : List ℕ) : Type 0 where
  pub setup : IsSetup c.setup
  pub member : c.me < c.setup.controllers
  pub acting : IfSome c.acting (Stands law c kinds)
  pub shelf : AreAlike law kinds c.shelf

-- whatever these kinds are
abbrev pub ForEachKinds : (List ℕ → Type 0) → (List ℕ → Type 0) → Type 0
ForEachKinds controls says = (kinds : List ℕ) → controls kinds → says kinds

-- A pair was saved, with this result: the count of faults rose where it failed, and only there, and never falls.
pub record Saves (result : SaveResult) (saved old new : ℕ × ℕ) (before after : ℕ) : Type 0 where
  pub pair : new ≡ standing result saved old
  pub later : before ≤ after
  pub served : result ≡ Saved → after ≡ before
  pub failed : (result ≡ Saved → ⊥) → Rose before after

-- what stands after a save, and what is posted: where it failed, the controller is down, and nothing is
abbrev pub left_by : SaveResult → ControllerState → Work → ℕ × ℕ → ControllerState
left_by Saved c work saved = work.state
left_by KeptOld c work saved = down c c.vr.promise c.vr.life
left_by KeptNew c work saved = down c saved.0 saved.1

abbrev pub letters_posted_by : SaveResult → Work → List (Letter ControllerSays)
letters_posted_by Saved work = work.letters
letters_posted_by KeptOld work = []
letters_posted_by KeptNew work = []

-- The work of a rule was done: what it wants to be saved was saved first, once, and the result is kept.
pub record SavedFirst (c : ControllerState) (work : Work) (saved : ℕ × ℕ) (state : ControllerState) (letters : List (Letter ControllerSays))
    (old new : List SaveResult) (pair_before pair_after : ℕ × ℕ) (before after : ℕ) : Type 0 where
  pub result : SaveResult
  pub kept : new ≡ old ++ result ∷ []
  pub saves : Saves result saved pair_before pair_after before after
  pub state_is : state ≡ left_by result c work saved
  pub letters_are : letters ≡ letters_posted_by result work

-- nothing was saved
pub record Unsaved (work : Work) (state : ControllerState) (letters : List (Letter ControllerSays))
    (old new : List SaveResult) (pair_before pair_after : ℕ × ℕ) (before after : ℕ) : Type 0 where
  pub kept : new ≡ old
  pub pair_is : pair_after ≡ pair_before
  pub faults_are : after ≡ before
  pub state_is : state ≡ work.state
  pub letters_are : letters ≡ work.letters

abbrev pub Done : ControllerState → Work → Option (ℕ × ℕ) → ControllerState → List (Letter ControllerSays) → List SaveResult → List SaveResult → ℕ × ℕ → ℕ × ℕ → ℕ → ℕ → Type 0
Done c work None state letters old new pair_before pair_after before after = Unsaved work state letters old new pair_before pair_after before after
Done c work (Some saved) state letters old new pair_before pair_after before after = SavedFirst c work saved state letters old new pair_before pair_after before after

-- one turn of a controller
abbrev pub Turns : {A : Type 0} → List ℕ → Controlling A → ControllerInput → List (Letter ControllerSays) → Controlling A → ℕ × ℕ → ℕ × ℕ → ℕ → ℕ → Type 0
Turns kinds old input letters new pair_before pair_after before after =
    let work = controller_work kinds old.setup (state_of old) input in
    Done (state_of old) work work.save (state_of new) letters old.results new.results pair_before pair_after before after

-- want of memory: the controller is down, and no save was made
pub record Wants {A : Type 0} (old new : Controlling A) (pair_before pair_after : ℕ × ℕ) (before after : ℕ) : Type 0 where
  pub state_is : state_of new ≡ down (state_of old) (state_of old).vr.promise (state_of old).vr.life
  pub kept : new.results ≡ old.results
  pub pair_is : pair_after ≡ pair_before
  pub faults_are : after ≡ before

-- what a turn left to be posted: nothing where the controller is down
abbrev pub letters_left : {A : Type 0} → Option (Acting A) → List (Letter ControllerSays)
letters_left None = []
letters_left (Some a) = a.work.letters

-- once it is posted nothing is left to be saved or posted
abbrev pub released : {A : Type 0} → Controlling A → Controlling A
released {A} c = record c { acting = option_map (λ (a : Acting A). record a { work = resting a.work.state; promise = None }) c.acting }

-- One that is not down took an input: it did what the rule says, and wants this promise to be saved.
pub record TakesInput {A : Type 0} (law : AppLaw A) (kinds : List ℕ)
    (input : ControllerInput) (promise : Option ℕ) (old new : Controlling A) : Type 0 where
  pub before : Acting A
  pub after : Acting A
  pub was : old.acting ≡ Some before
  pub works : Works law kinds old.setup (begun before) (on_input kinds old.setup (begun before).work.state input) after
  pub promise_is : after.promise ≡ promise
  pub left : new ≡ record old { acting = Some after }

-- a pair was saved, and what the turn left is kept where that did not fail
abbrev pub acting_by : {A : Type 0} → SaveResult → Option (Acting A) → Option (Acting A)
acting_by Saved acting = acting
acting_by KeptOld acting = None
acting_by KeptNew acting = None

pub record SavesAndKeeps {A : Type 0} (saved : ℕ × ℕ) (old new : Controlling A) (pair_before pair_after : ℕ × ℕ) (before after : ℕ) : Type 0 where
  pub result : SaveResult
  pub saves : Saves result saved pair_before pair_after before after
  pub left : new ≡ record old {
    promise = (standing result saved (old.promise, old.life)).0;
    life = (standing result saved (old.promise, old.life)).1;
    results = old.results ++ result ∷ [];
    acting = acting_by result old.acting;
  }

-- the member of a life that begins: nothing is committed, and it asks the others
pub record Born {A : Type 0} (law : AppLaw A)
    (c : Controlling A) (kinds : List ℕ) (life : ℕ) (a : Acting A) : Type 0 where
  pub acts : Acts law a kinds c.setup
  pub work_is : a.work ≡ stepped (fresh (down_state c.me c.setup.controllers c.promise c.life)) (restarted c.me c.setup.controllers c.promise life)
  pub unsaved : a.promise ≡ None

-- a restart of one that is down
abbrev pub Restarts : {A : Type 0} → Controlling A → List (Letter ControllerSays) → Controlling A → ℕ × ℕ → ℕ × ℕ → ℕ → ℕ → Type 0
Restarts old letters new pair_before pair_after before after =
    let work = on_restart (state_of old) in Done (state_of old) work work.save (state_of new) letters old.results new.results pair_before pair_after before after

-- one that is down is told to restart, and a life is left to it
abbrev pub begins_life : {A : Type 0} → Controlling A → ControllerInput → Bool
begins_life c input = is_none c.acting && is_restart_input input && nat_lt c.life last_life

-- the next application was taken from the shelf of later lives, where it stood last
abbrev pub TakesOne : {A : Type 0} → List A → List A → Type 0
TakesOne {A} old new = (app : A) × (old ≡ new ++ app ∷ [])

-- it was taken, or none was
abbrev pub TakesOneAtMost : {A : Type 0} → List A → List A → Type 0
TakesOneAtMost {A} old new = (app : Option A) × (old ≡ new ++ option_to_list app)

-- an application that has taken no event was put back, or there was no room for it
abbrev pub PutsBack : {A : Type 0} → AppLaw A → List A → List A → Type 0
PutsBack {A} law old new =
    (app : Option A) × (new ≡ old ++ option_to_list app) × IfSome app (λ app. law.states app ≡ starting_chain (law.kinds app))

-- A life was to begin, and its save had this result: its application was taken, and is put back only where the old
-- pair stands.
abbrev pub TakesBy : {A : Type 0} → AppLaw A → SaveResult → List A → List A → Type 0
TakesBy law Saved old new = TakesOne old new
TakesBy law KeptNew old new = TakesOne old new
TakesBy {A} law KeptOld old new = (between : List A) × TakesOne old between × PutsBack law between new

abbrev pub Takes : {A : Type 0} → AppLaw A → Controlling A → Controlling A → Type 0
Takes law old new =
    (result : SaveResult) × (new.results ≡ old.results ++ result ∷ []) × TakesBy law result old.shelf new.shelf

-- A turn leaves the shelf of later lives as it was, but a restart that begins a life takes its application from there.
abbrev pub LeavesShelf : {A : Type 0} → AppLaw A → Bool → Controlling A → Controlling A → Type 0
LeavesShelf law false old new = new.shelf ≡ old.shelf
LeavesShelf law true old new = Takes law old new

-- So does a turn that wants memory: the application of a life that was to begin may be gone.
abbrev pub MayTake : {A : Type 0} → Bool → Controlling A → Controlling A → Type 0
MayTake false old new = new.shelf ≡ old.shelf
MayTake true old new = TakesOneAtMost old.shelf new.shelf
