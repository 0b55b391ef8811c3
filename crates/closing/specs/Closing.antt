-- How a closing goes on in a world, whatever becomes of later saves.
use Rattle.std.specs.Prelude.{◌≡◌, ◌<◌, ◌≤◌, ℕ, ◌+◌, ◌-◌, ◌%◌, suc, max, Bool, true, false, not, nat_eq, List, [], ◌∷◌, ◌++◌, length, map, slice_get, Option, Some, None, Result, Ok, Err, if◌then◌else◌}
use Rattle.journal.specs.declared.journal.Actor.{Actor}
use Rattle.journal.specs.declared.journal.Actor.TheVariants as actor
use Rattle.journal.specs.declared.journal.JournalEntry.{JournalEntry}
use Rattle.journal.specs.declared.journal.Packet.{Packet}
use Rattle.journal.specs.declared.journal.SaveResult.{SaveResult}
use Rattle.journal.specs.declared.place.PacketPlace.{PacketPlace}
use Rattle.journal.specs.declared.wire.Stop.{Stop}
use Rattle.journal.specs.declared.wire.Stop.TheVariants.{OutOfMemory, JournalFull}
use Rattle.journal.specs.Limits.{letters_limit}
use Rattle.journal.specs.Places.{IsFound}
use Rattle.journal.specs.Pool.{past, pool, letters_posted}
use Rattle.vr_log.specs.declared.entry.Entry.{Entry}
use Rattle.vr_log.specs.declared.entry.LogFull.{LogFull}
use Rattle.vr_log.specs.Members.{is_up}
use Rattle.app_core.specs.Law.{AppLaw}
use Rattle.group_controller.specs.State.{ControllerState}
use Rattle.group_controller.specs.Turns.{Controlling, state_of}
use Rattle.run_spec.specs.States.{Scene, Sealing}
use Rattle.run_spec.specs.Bound.{IsQuick, IsSharplyBounded}
use Rattle.run_spec.specs.Committed.{count_up, members_up}
use Rattle.run_spec.specs.Closing.{Phase, Losing, Met, ClosingMove, ClosingAnswer, majority, next_move, next_suspicion, next_drained, ClosesTo, Closes}
use Rattle.run_spec.specs.Closing as schedule
use Rattle.run_laws.specs.Laws.{IsSuspectedUpTo}
use Rattle.closing_laws.specs.Ends.{HasRested}
use Rattle.closing_laws.specs.Starts.{SavesSucceed}
use Rattle.closing_laws.specs.Stops.{IsAtLimit}
use Rattle.world.specs.Refusals.{IsRefusalBehind}
use Rattle.world.specs.World.{AreMore, Holds, IsStuck, Worlding, results_in, scene_in}
use Rattle.closing.specs.declared.closed.TurnOutcome.{TurnOutcome}
use Rattle.closing.specs.declared.closed.TurnOutcome.TheVariants as came
use Rattle.closing.specs.declared.closed.ClosingOutcome.{ClosingOutcome}
use Rattle.closing.specs.declared.closed.ClosingOutcome.TheVariants as closed

-- what the schedule calls the end of a closing
abbrev pub closing_answer_of : ClosingOutcome → ClosingAnswer
closing_answer_of (closed.Done primary) = schedule.Done primary
closing_answer_of (closed.NoQuorum up needed) = schedule.NoQuorum up needed
closing_answer_of (closed.Overfull limit) = schedule.Overfull limit

-- the states of controllers, and the numbers of those that take part in a world
abbrev pub states_in : {A : Type 0} → List (Controlling A) → List ControllerState
states_in controllers = map (λ c. state_of c) controllers

abbrev pub up_in : {B A : Type 0} → Worlding B A → List ℕ
up_in w = members_up (states_in w.controllers)

-- where a closing is done, its primary is of the group of one world, and a majority of that group takes part in another
abbrev pub HasMajority : {B A : Type 0} → ClosingOutcome → Worlding B A → Worlding B A → Type 0
HasMajority (closed.Done primary) old new = (primary < old.setup.controllers) × (majority old.setup.controllers ≤ length (up_in new))
HasMajority (closed.NoQuorum up needed) old new = Unit {0}
HasMajority (closed.Overfull limit) old new = Unit {0}

-- the least view above the view and the promise of a controller
abbrev pub view_above : ControllerState → ℕ
view_above c = suc (max c.vr.view c.vr.promise)

-- a bound above a controller too, if it takes part, and its number
abbrev pub bound_with : ℕ → ControllerState → ℕ
bound_with bound c = if is_up c.vr then max bound (view_above c) else bound

abbrev pub member_in : ControllerState → List ℕ
member_in c = if is_up c.vr then c.vr.me ∷ [] else []

-- what is left to do: the letters that a journal may still post, and the packets that wait
abbrev pub work_left : {B : Type 0} → List (JournalEntry B) → ℕ
work_left entries = (letters_limit - letters_posted entries) + length (pool entries)

-- and less of it in a later world
abbrev pub HasLessLeft : {B A : Type 0} → Worlding B A → Worlding B A → Type 0
HasLessLeft old new = work_left (past new.journal) < work_left (past old.journal)

-- no controller has a view, or has promised one, above a limit
abbrev pub HaveViewsUpTo : {A : Type 0} → ℕ → List (Controlling A) → Type 0
HaveViewsUpTo {A = A} limit controllers = (c : ℕ) (x : Controlling A) → slice_get controllers c ≡ Some x → ((state_of x).vr.view ≤ limit) × ((state_of x).vr.promise ≤ limit)

-- this place is that of the packet of the lowest number
abbrev pub IsFirst : {B : Type 0} → PacketPlace → List (JournalEntry B) → Type 0
IsFirst place journal = IsFound journal (Some place) (slice_get (pool (past journal)) 0)

-- where a closing that began in one world stands in another
abbrev pub Stage : Type 0 → Type 0 → Type 1
Stage B A = Scene B → Worlding B A → Worlding B A → Type 0

-- at a phase, whatever becomes of later saves
pub record ClosesIn {B A : Type 0} (phase : Phase) (scene : Scene B) (start now : Worlding B A) : Type 0 where
  pub entries : List (JournalEntry B)
  pub joined : now.journal ≡ start.journal ++ entries
  pub steps : (later : List (List SaveResult)) → AreMore scene.setup.controllers (results_in now.controllers) later →
      ClosesTo scene later Losing (past start.journal) entries phase

-- and its next move is this one, by what waits
pub record IsNext {B A : Type 0} (move : List (Packet B) → ClosingMove B) (scene : Scene B) (start now : Worlding B A) : Type 0 where
  pub phase : Phase
  pub closes : ClosesIn phase scene start now
  pub next : (later : List (List SaveResult)) → AreMore scene.setup.controllers (results_in now.controllers) later →
      next_move scene later phase (past now.journal) ≡ move (pool (past now.journal))

-- these members of a quorum are still to suspect, and then what waits is drained
abbrev pub Suspects : {B A : Type 0} → ℕ → List ℕ → List ℕ → Stage B A
Suspects view quorum members scene start now = IsNext (next_suspicion scene.setup.controllers view quorum members) scene start now

-- what waits is drained, and is gone
abbrev pub Drains : {B A : Type 0} → ℕ → List ℕ → Stage B A
Drains view quorum scene start now = IsNext (next_drained scene.setup.controllers view quorum) scene start now

abbrev pub Drained : {B A : Type 0} → ℕ → List ℕ → Stage B A
Drained view quorum scene start now = Drains view quorum scene start now × (pool (past now.journal) ≡ [])

-- what the turn of a member of a quorum came to
abbrev pub came_met : Option LogFull → TurnOutcome
came_met None = came.ToRest
came_met (Some limit) = came.ToTheLimit limit

abbrev pub came_of : ℕ → ℕ → ℕ → ControllerState → TurnOutcome
came_of view group number state =
    if not (is_up state.vr) then came.ToAFailedSave else if nat_eq (view % group) number then came_met state.full else came.ToRest

-- what the turn of an actor came to
abbrev pub CameAt : {B A : Type 0} → ℕ → Worlding B A → Actor → TurnOutcome → Type 0
CameAt {A = A} view w (actor.Controller c) cause = (x : Controlling A) → slice_get w.controllers c ≡ Some x → cause ≡ came_of view w.setup.controllers c (state_of x)
CameAt view w (actor.Switch s) cause = cause ≡ came.ToRest

-- where a closing stands by that
abbrev pub CameTo : {B A : Type 0} → Stage B A → TurnOutcome → Stage B A
CameTo next came.ToRest scene start now = next scene start now
CameTo next came.ToAFailedSave scene start now = ClosesIn Losing scene start now
CameTo next (came.ToTheLimit limit) scene start now = ClosesIn (Met limit) scene start now

-- who takes part then: the same, or one less
abbrev pub UpBy : TurnOutcome → List ℕ → List ℕ → Type 0
UpBy came.ToRest before after = after ≡ before
UpBy came.ToAFailedSave before after = length after < length before
UpBy (came.ToTheLimit limit) before after = after ≡ before

-- whether a part of a closing is over before its end
abbrev pub is_over : TurnOutcome → Bool
is_over came.ToRest = false
is_over came.ToAFailedSave = true
is_over (came.ToTheLimit limit) = true

-- it was cut short: at a full journal it stands at some phase, and the outbox of the newest input stays unposted
pub record IsCutAt {B A : Type 0} (bytes letters : ℕ) (scene : Scene B) (start now : Worlding B A) : Type 0 where
  pub phase : Phase
  pub closes : ClosesIn phase scene start now
  pub stuck : IsStuck scene.sealing.size now bytes letters

-- It found no memory: its entries are the first of those of the schedule, and behind them stands a refusal, or none. At which phase
-- they end hangs on what becomes of later saves, since a refused input may have wanted one
pub record IsHaltedAt {B A : Type 0} (scene : Scene B) (start now : Worlding B A) : Type 0 where
  pub entries : List (JournalEntry B)
  pub refusal : List (JournalEntry B)
  pub joined : now.journal ≡ start.journal ++ entries ++ refusal
  pub refused : IsRefusalBehind (past (start.journal ++ entries)) refusal
  pub begins : (later : List (List SaveResult)) → AreMore scene.setup.controllers (results_in now.controllers) later →
      (last : Phase) × ClosesTo scene later Losing (past start.journal) entries last

-- where a closing stands after a call that may stop
abbrev pub ClosingStandsAt : {T B A : Type 0} → (T → Stage B A) → Result T Stop → Stage B A
ClosingStandsAt stage (Ok x) scene start now = stage x scene start now
ClosingStandsAt stage (Err OutOfMemory) scene start now = IsHaltedAt scene start now
ClosingStandsAt stage (Err (JournalFull bytes letters)) scene start now = IsCutAt bytes letters scene start now

-- wherever it began, a closing at one stage in a world is at another stage in a later world
abbrev pub LeadsTo : {B A : Type 0} → AppLaw A → Sealing B → Stage B A → Stage B A → Worlding B A → Worlding B A → Type 0
LeadsTo {B = B} {A = A} law sealing first next old new = (kinds : List ℕ) → Holds law sealing old kinds → (start : Worlding B A) →
    first (scene_in sealing old kinds) start old → next (scene_in sealing old kinds) start new

-- Where the calls of a closing lead it. Each may stop instead, and each that tells what it came to may come to a failed save,
-- or to the limit of the log.

-- it stays at its stage
abbrev pub StaysAt : {T B A : Type 0} → AppLaw A → Sealing B → Stage B A → Result T Stop → Worlding B A → Worlding B A → Type 0
StaysAt law sealing stage result old new = LeadsTo law sealing stage (ClosingStandsAt (λ _. stage) result) old new

-- the next member suspects, and these are still to
abbrev pub NextSuspects : {B A : Type 0} → AppLaw A → Sealing B → ℕ → List ℕ → ℕ → List ℕ → Result TurnOutcome Stop → Worlding B A → Worlding B A → Type 0
NextSuspects law sealing view quorum number members result old new =
    LeadsTo law sealing (Suspects view quorum (number ∷ members)) (ClosingStandsAt (CameTo (Suspects view quorum members)) result) old new

-- all members suspect, and what waits is to be drained
abbrev pub AllSuspect : {B A : Type 0} → AppLaw A → Sealing B → ℕ → List ℕ → Result TurnOutcome Stop → Worlding B A → Worlding B A → Type 0
AllSuspect law sealing view quorum result old new = LeadsTo law sealing (Suspects view quorum quorum) (ClosingStandsAt (CameTo (Drains view quorum)) result) old new

-- one packet is drained, and what waits still is to be
abbrev pub DrainsOne : {B A : Type 0} → AppLaw A → Sealing B → ℕ → List ℕ → Result TurnOutcome Stop → Worlding B A → Worlding B A → Type 0
DrainsOne law sealing view quorum result old new = LeadsTo law sealing (Drains view quorum) (ClosingStandsAt (CameTo (Drains view quorum)) result) old new

-- all that waits is drained, and is gone
abbrev pub DrainsAll : {B A : Type 0} → AppLaw A → Sealing B → ℕ → List ℕ → Result TurnOutcome Stop → Worlding B A → Worlding B A → Type 0
DrainsAll law sealing view quorum result old new = LeadsTo law sealing (Drains view quorum) (ClosingStandsAt (CameTo (Drained view quorum)) result) old new

-- all members suspect, and all that waits is drained, and is gone
abbrev pub ClosesBy : {B A : Type 0} → AppLaw A → Sealing B → ℕ → List ℕ → Result TurnOutcome Stop → Worlding B A → Worlding B A → Type 0
ClosesBy law sealing view quorum result old new = LeadsTo law sealing (Suspects view quorum quorum) (ClosingStandsAt (CameTo (Drained view quorum)) result) old new

-- no greater view was suspected than before, but for views up to this one
abbrev pub SuspectsNoMore : {B A : Type 0} → ℕ → Worlding B A → Worlding B A → Type 0
SuspectsNoMore limit old new = (most : ℕ) → limit ≤ most → IsSuspectedUpTo most (past old.journal) → IsSuspectedUpTo most (past new.journal)

-- the greatest view that was suspected grew by no more than this
abbrev pub RaisesViewsBy : {B A : Type 0} → ℕ → Worlding B A → Worlding B A → Type 0
RaisesViewsBy more old new = (limit : ℕ) → IsSuspectedUpTo limit (past old.journal) → IsSuspectedUpTo (limit + more) (past new.journal)

-- a closing that began in one world has ended in another with this answer, whatever becomes of later saves
pub record HasClosed {B A : Type 0} (scene : Scene B) (answer : ClosingAnswer) (start now : Worlding B A) : Type 0 where
  pub entries : List (JournalEntry B)
  pub joined : now.journal ≡ start.journal ++ entries
  pub closes : (later : List (List SaveResult)) → AreMore scene.setup.controllers (results_in now.controllers) later →
      Closes scene later (past start.journal) entries answer

-- Why a closing ended so, by the pasts before and behind it. Nothing is left undone, and what the primary that closed has
-- committed is what is decided; too few took part as it began, where each save in it succeeds; or no room is left in the
-- log of a controller that leads
abbrev pub HasReason : {B : Type 0} → ClosingOutcome → Scene B → List (List SaveResult) → List (JournalEntry B) → List (JournalEntry B) → Type 0
HasReason (closed.Done primary) scene results before after = HasRested scene results primary after
HasReason (closed.NoQuorum up needed) scene results before after = SavesSucceed scene results before → count_up scene results before < majority scene.setup.controllers
HasReason (closed.Overfull limit) scene results before after = (c : ℕ) × (entry : Entry) × IsAtLimit scene results after limit c entry

-- a closing takes no more turns than both of its bounds say, where each save in it succeeds
pub record IsBounded {B : Type 0} (scene : Scene B) (results : List (List SaveResult)) (before entries : List (JournalEntry B)) : Type 0 where
  pub quick : SavesSucceed scene results before → IsQuick scene results before entries
  pub sharp : SavesSucceed scene results before → IsSharplyBounded scene results before entries

-- a closing that began in one world has ended in another as a call tells: by its schedule, for a reason, within its bounds
pub record HasEnded {B A : Type 0} (scene : Scene B) (start now : Worlding B A) (ended : ClosingOutcome) : Type 0 where
  pub closed : HasClosed scene (closing_answer_of ended) start now
  pub reason : HasReason ended scene (results_in now.controllers) (past start.journal) (past now.journal)
  pub bounded : IsBounded scene (results_in now.controllers) (past start.journal) closed.entries

-- it has ended, or begins again
abbrev pub EndsBy : {B A : Type 0} → Option ClosingOutcome → Stage B A
EndsBy None scene start now = ClosesIn Losing scene start now
EndsBy (Some ended) scene start now = HasClosed scene (closing_answer_of ended) start now

-- an attempt leads a closing to its end, or to where it begins again
abbrev pub Attempts : {B A : Type 0} → AppLaw A → Sealing B → Result (Option ClosingOutcome) Stop → Worlding B A → Worlding B A → Type 0
Attempts law sealing result old new = LeadsTo law sealing (ClosesIn Losing) (ClosingStandsAt EndsBy result) old new

-- who takes part then: at its end a majority, and one less where it begins again
abbrev pub UpTo : {B A : Type 0} → Option ClosingOutcome → Worlding B A → Worlding B A → Type 0
UpTo None old new = length (up_in new) < length (up_in old)
UpTo (Some ended) old new = HasMajority ended old new

-- why a closing stopped, and what stands then
abbrev pub ClosingStops : {B A : Type 0} → Scene B → Worlding B A → Worlding B A → Stop → Type 0
ClosingStops scene start now OutOfMemory = IsHaltedAt scene start now
ClosingStops scene start now (JournalFull bytes letters) = IsCutAt bytes letters scene start now
