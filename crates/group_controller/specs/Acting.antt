-- A controller that is not down, as the contracts of its rules see it.
use Rattle.std.specs.Prelude.{◌≡◌, ◌≤◌, ℕ, true, false, List, [], ◌∷◌, ◌++◌, map, take, drop, Option, None, option_map, Result, Ok, Err, if◌then◌else◌}
use Rattle.of_types.specs.declared.setup.Setup.{Setup}
use Rattle.of_types.specs.Lives.{has_ended}
use Rattle.journal.specs.declared.journal.Letter.{Letter}
use Rattle.vr_log.specs.declared.state.VrOut.{VrOut}
use Rattle.vr_log.specs.declared.entry.Entry.{Entry}
use Rattle.vr_log.specs.declared.state.VrState.{VrState}
use Rattle.vr_log.specs.Log.{full_at, is_past_limits, received}
use Rattle.vr_log.specs.Members.{leads}
use Rattle.vr_log.specs.Steps.{VrStep, later_of}
use Rattle.vr_log.specs.Valid.{IsValidState}
use Rattle.vr_normal.specs.declared.normal.ProposeFault.{ProposeFault}
use Rattle.vr_normal.specs.declared.normal.ProposeFault.TheVariants as fault
use Rattle.vr_normal.specs.Proposing.{proposed}
use Rattle.vr_core.specs.Lasting.{CollectsItsOwn, Lasts}
use Rattle.vr_core.specs.Step.{Stepped}
use Rattle.app_core.specs.Law.{AppLaw}
use Rattle.dispatcher.specs.declared.answers.HandledEvent.{HandledEvent}
use Rattle.dispatcher.specs.declared.answers.AckThrough.{AckThrough}
use Rattle.dispatcher.specs.Folding.{acknowledgement, clears, places_processed}
use Rattle.dispatcher.specs.Ledger.{AreHandledAt, Dispatching, StandsFor}
use Rattle.group_controller.specs.declared.messages.ControllerSays.{ControllerSays}
use Rattle.group_controller.specs.Settling.{ack_letter, clear_letter}
use Rattle.group_controller.specs.State.{ControllerState, Work, committed, posting_work, resting, to_members, with_no_met_limit}

-- the turn as far as it was done, the promise that is to be saved, and the dispatcher
pub record Acting (A : Type 0) : Type 0 where
  pub work : Work
  pub promise : Option ℕ
  pub dispatcher : Dispatching A

-- a promise is saved beside the life
abbrev pub pair_with : ℕ → Option ℕ → Option (ℕ × ℕ)
pair_with life promise = option_map (λ p. (p, life)) promise

-- letters go behind those that are there
abbrev pub posts_letters : {A : Type 0} → Acting A → List (Letter ControllerSays) → Acting A
posts_letters a letters = record a { work = posting_work a.work letters }

abbrev pub with_state : {A : Type 0} → Acting A → ControllerState → Acting A
with_state a state = record a { work = record a.work { state = state } }

-- a turn begins: the limit that the last one met is forgotten
abbrev pub begun : {A : Type 0} → Acting A → Acting A
begun a = with_state a (with_no_met_limit a.work.state)

-- what a step of the member wants to be saved and sent
abbrev pub with_out : {A : Type 0} → Acting A → VrOut → Acting A
with_out a out =
    record a {
      work = record a.work { save = pair_with a.work.state.vr.life (later_of a.promise out.promise); letters = a.work.letters ++ to_members out.letters };
      promise = later_of a.promise out.promise;
    }

-- what answers an event that is processed, once so much is committed
abbrev pub acknowledges_of : ControllerState → HandledEvent → List AckThrough
acknowledges_of c h = if has_ended h.switch h.life (received (committed c)) then [] else acknowledgement (committed c) h.switch h.life ∷ []

abbrev pub answers_to : List ℕ → Setup → ControllerState → HandledEvent → List (Letter ControllerSays)
answers_to kinds setup c h = map ack_letter (acknowledges_of c h) ++ map clear_letter (clears kinds setup (committed c) h.commands)

-- these were newly committed as processed, behind so many entries
abbrev pub AreNewlyHandled : List ℕ → Setup → ControllerState → ℕ → List HandledEvent → Type 0
AreNewlyHandled kinds setup c before handled = AreHandledAt kinds setup (committed c) (places_processed (drop before (committed c))) handled

-- The member is valid, and the dispatcher stands for its log up to a place.
pub record ActsUpTo {A : Type 0} (law : AppLaw A)
    (place : ℕ) (a : Acting A) (kinds : List ℕ) (setup : Setup) : Type 0 where
  pub valid : IsValidState a.work.state.vr
  pub own : CollectsItsOwn a.work.state.vr
  pub reach : place ≤ a.work.state.vr.commit
  pub stands : StandsFor law a.dispatcher kinds setup (take place a.work.state.vr.log)
  pub marks : a.work.state.marks ≡ a.dispatcher.marks
  pub saves : a.work.save ≡ pair_with a.work.state.vr.life a.promise

-- The dispatcher stands for all that is committed: so it is where a rule begins, and where it ends.
abbrev pub Acts : {A : Type 0} → AppLaw A → Acting A → List ℕ → Setup → Type 0
Acts law a kinds setup = ActsUpTo law a.work.state.vr.commit a kinds setup

-- the turn begins: nothing is saved or posted
pub record BeginsTurn {A : Type 0} (law : AppLaw A)
    (a : Acting A) (kinds : List ℕ) (setup : Setup) : Type 0 where
  pub acts : Acts law a kinds setup
  pub rests : a.work ≡ resting a.work.state
  pub unsaved : a.promise ≡ None

-- whatever the kinds of its application are, and the setup
abbrev pub ForEachGroup : (List ℕ → Setup → Type 0) → (List ℕ → Setup → Type 0) → Type 0
ForEachGroup acts says = (kinds : List ℕ) (setup : Setup) → acts kinds setup → says kinds setup

abbrev pub InSomeGroup : (List ℕ → Setup → Type 0) → Type 0
InSomeGroup acts = (kinds : List ℕ) × (setup : Setup) × acts kinds setup

-- A rule was done: this is its work, and what was committed stays.
pub record Works {A : Type 0} (law : AppLaw A)
    (kinds : List ℕ) (setup : Setup) (old : Acting A) (work : Work) (new : Acting A) : Type 0 where
  pub acts : Acts law new kinds setup
  pub work_is : new.work ≡ work
  pub saved : Option ℕ
  pub lasts : Lasts old.work.state.vr saved new.work.state.vr
  pub promise_is : new.promise ≡ later_of old.promise saved

-- The member took a step, and what that wants to be saved and sent was taken.
pub record TakesStep {A : Type 0} (old : Acting A) (step : VrStep) (new : Acting A) : Type 0 where
  pub vr : VrState
  pub out : VrOut
  pub valid : IsValidState vr
  pub did : Stepped step vr out
  pub takes : new ≡ with_out (with_state old (record old.work.state { vr = vr })) out

-- The member was offered an entry, and what it wants to be sent was taken. A refusal changes nothing.
abbrev pub Offers : {A : Type 0} → Acting A → Entry → Result (Unit {0}) ProposeFault → Acting A → Type 0
Offers old entry (Ok done) new = (is_past_limits old.work.state.vr.log entry ≡ false) × TakesStep old (proposed old.work.state.vr entry) new
Offers old entry (Err fault.NotPrimary) new = (leads old.work.state.vr ≡ false) × (new ≡ old)
Offers old entry (Err (fault.LogFull full)) new =
    (is_past_limits old.work.state.vr.log entry ≡ true) × (full ≡ full_at old.work.state.vr.log entry) × (new ≡ old)
Offers old entry (Err fault.OutOfMemory) new = Unit {0}
