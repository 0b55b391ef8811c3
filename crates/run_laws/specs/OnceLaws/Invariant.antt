-- What holds after each past, clause by clause: of each switch, of each controller, and of each packet. Each
-- clause is about one entry of a log with its place, one letter or one switch, wherever it stands.
use Rattle.std.specs.Prelude.{◌≡◌, ◌<◌, ◌≤◌, ◌^◌, ℕ, ◌+◌, true, List, [], ◌∷◌, length, slice_get, Some}
use Rattle.std.specs.List.{AllByRecursion}
use Rattle.of_types.specs.declared.message.Event.{Event}
use Rattle.of_types.specs.declared.message.Executed.{Executed}
use Rattle.of_types.specs.declared.message.Spoken.{Spoken}
use Rattle.of_types.specs.declared.setup.Setup.{Setup}
use Rattle.of_types.specs.Valid.{IsValidMatch}
use Rattle.journal.specs.declared.journal.Actor.{Actor}
use Rattle.journal.specs.declared.journal.Actor.TheVariants as actor
use Rattle.journal.specs.declared.journal.JournalEntry.{JournalEntry}
use Rattle.journal.specs.declared.journal.Letter.{Letter}
use Rattle.journal.specs.declared.journal.Packet.{Packet}
use Rattle.journal.specs.declared.journal.SaveResult.{SaveResult}
use Rattle.journal.specs.Part.{part}
use Rattle.journal.specs.Pool.{pool}
use Rattle.list_facts.specs.Lists.{IsIn, IsPrefix}
use Rattle.vr_log.specs.declared.entry.Entry.{Entry}
use Rattle.vr_log.specs.declared.message.Filled.{Filled}
use Rattle.vr_log.specs.declared.message.VrMessage.{VrMessage}
use Rattle.vr_log.specs.declared.message.VrMessage.TheVariants as vr
use Rattle.vr_log.specs.declared.state.Collected.{Collected}
use Rattle.vr_log.specs.declared.state.Response.{Response}
use Rattle.vr_log.specs.declared.state.Supplied.{Supplied}
use Rattle.vr_log.specs.declared.state.VrState.{VrState}
use Rattle.vr_log.specs.Sizes.{IsValidVr}
use Rattle.vr_codec.specs.Fits.{FitsVr}
use Rattle.two_stage_log.specs.Counts.{processed_of}
use Rattle.event_buffer.specs.Buffer.{next_number}
use Rattle.of_switch.specs.declared.says.SwitchInput.{SwitchInput}
use Rattle.of_switch.specs.declared.says.SwitchInput.TheVariants as switch_input
use Rattle.of_switch.specs.declared.says.SwitchSays.{SwitchSays}
use Rattle.of_switch.specs.declared.says.SwitchSays.TheVariants as switch_says
use Rattle.of_switch.specs.State.{SwitchState, own_number_of, rows_of, life_of, cleared_in}
use Rattle.group_controller.specs.declared.messages.ControllerInput.{ControllerInput}
use Rattle.group_controller.specs.declared.messages.ControllerInput.TheVariants as controller_input
use Rattle.group_controller.specs.declared.messages.ControllerSays.{ControllerSays}
use Rattle.group_controller.specs.State.{ControllerState, to_switch, to_member}
use Rattle.controller_moves.specs.ControllerLaws.Views.{StateViews}
use Rattle.run_spec.specs.declared.messages.Message.TheVariants as message
use Rattle.run_spec.specs.declared.messages.Unsealed.{Unsealed}
use Rattle.run_spec.specs.declared.messages.Unsealed.TheVariants as unsealed
use Rattle.run_spec.specs.States.{Scene, SwitchAt, ControllerAt, switch_at, controller_at, content}
use Rattle.run_spec.specs.Legal.{IsTurn, FitsTypes, results_of}
use Rattle.run_laws.specs.OnceLaws.Facts.{PastFacts, facts_of, events_of, executed_of}
use Rattle.run_laws.specs.OnceLaws.Truths.{IsGoodFrame, IsGoodHappening, IsMade, IsTrueEntry, IsAhead, IsNumbered, MayTell, IsReported}

-- an entry stands at a place of a log, of whose entries these are the ones from there on
abbrev pub StandsFrom : ℕ → List Entry → ℕ → Entry → Type 0
StandsFrom first log i e = (k : ℕ) × (i ≡ first + k) × (slice_get log k ≡ Some e)

-- the entries of a message, with their places
abbrev pub HasEntry : VrMessage → ℕ → Entry → Type 0
HasEntry (vr.Prepare view op commit entry) i e = (i + 1 ≡ op) × (e ≡ entry)
HasEntry (vr.DoViewChange view normal commit log) i e = StandsFrom commit log i e
HasEntry (vr.StartView view first commit log) i e = StandsFrom first log i e
HasEntry (vr.RecoveryResponse view nonce (Some filled)) i e = StandsFrom 0 filled.log i e
HasEntry (vr.NewState view first commit log) i e = StandsFrom first log i e
HasEntry (vr.Supply view first log) i e = StandsFrom first log i e
HasEntry _ i e = ⊥

-- the entries of a member: those of its log, of the logs that it collected, of the answers that it keeps, and of what
-- was fetched
pub data HoldsEntry (s : VrState) (i : ℕ) (e : Entry) : Type 0 where
  Logged : slice_get s.log i ≡ Some e → HoldsEntry s i e
  Gathered : (c : Collected) → IsIn c s.collected → StandsFrom c.commit c.log i e → HoldsEntry s i e
  Answered : (r : Response) (filled : Filled) → IsIn r s.responses → r.filled ≡ Some filled → StandsFrom 0 filled.log i e → HoldsEntry s i e
  Fetched : (p : Supplied) → s.supply ≡ Some p → StandsFrom p.first p.log i e → HoldsEntry s i e

-- the commit numbers that a message tells, each with the entries beside it. Supplied entries are all committed
abbrev pub HasAhead : VrMessage → ℕ → List Entry → Type 0
HasAhead (vr.Prepare view op commit entry) k entries = (k ≡ commit) × (entries ≡ entry ∷ [])
HasAhead (vr.Commit view commit) k entries = (k ≡ commit) × (entries ≡ [])
HasAhead (vr.DoViewChange view normal commit log) k entries = (k ≡ commit) × (entries ≡ log)
HasAhead (vr.StartView view first commit log) k entries = (k ≡ commit) × (entries ≡ log)
HasAhead (vr.RecoveryResponse view nonce (Some filled)) k entries = (k ≡ filled.commit) × (entries ≡ filled.log)
HasAhead (vr.NewState view first commit log) k entries = (k ≡ commit) × (entries ≡ log)
HasAhead (vr.Supply view first log) k entries = (k ≡ first + length log) × (entries ≡ log)
HasAhead _ k entries = ⊥

-- and those that a member holds
pub data HoldsAhead (s : VrState) (k : ℕ) (entries : List Entry) : Type 0 where
  Own : k ≡ s.commit → entries ≡ s.log → HoldsAhead s k entries
  Collects : (c : Collected) → IsIn c s.collected → k ≡ c.commit → entries ≡ c.log → HoldsAhead s k entries
  Answers : (r : Response) (filled : Filled) → IsIn r s.responses → r.filled ≡ Some filled → k ≡ filled.commit → entries ≡ filled.log → HoldsAhead s k entries
  Supplies : (p : Supplied) → s.supply ≡ Some p → k ≡ p.first + length p.log → entries ≡ p.log → HoldsAhead s k entries

-- a switch's lists, counts and lives fit one another: each event and each command has its place of its life as number
pub record IsWell (s : ℕ) (state : SwitchState) : Type 0 where
  pub number_is : own_number_of state ≡ s
  pub lives : length state.ended ≡ life_of state
  pub made : (life i : ℕ) (e : Event) → slice_get (events_of life state.events) i ≡ Some e → (life ≤ life_of state) × IsMade s life i e
  pub held : (e : Event) → IsIn e state.buffer.held → IsIn e state.events
  pub next : next_number state.buffer ≡ length (events_of (life_of state) state.events)
  pub done : (life i : ℕ) (x : Executed) → slice_get (executed_of life state.executed) i ≡ Some x → (life ≤ life_of state) × (x.number ≡ i)
  pub count : state.results.executed ≡ length (executed_of (life_of state) state.executed)

-- a switch holds the events that it made, life after life and in order; it carried out the commands that were issued
-- to each of its lives, in order; only processed events have left its buffer; and the matches of its rows can be spelled
pub record SwitchIsSound (kinds : List ℕ) (setup : Setup) (f : PastFacts) (s : ℕ) (state : SwitchState) : Type 0 where
  pub well : IsWell s state
  pub good : (e : Event) → IsIn e state.events → IsGoodHappening e.what
  pub issued : (life i : ℕ) (x : Executed) → slice_get (executed_of life state.executed) i ≡ Some x → IsNumbered kinds setup f s life i x.order
  pub dropped : (life : ℕ) → cleared_in state life ≤ processed_of f.decided s life
  pub rows : AllByRecursion (λ r. IsValidMatch r.matching) (rows_of state)

-- a letter of a switch with these lists goes to a controller and tells the truth, or is a good frame for another switch
pub data IsReport (s : ℕ) (events : List Event) (executed : List Executed) (l : Letter SwitchSays) : Type 0 where
  Reported : (controller xid : ℕ) (said : Spoken) → l ≡ record { to = actor.Controller controller; body = switch_says.Of xid said } →
      IsReported s events executed said → IsReport s events executed l
  Forwarded : (peer port : ℕ) (frame : List ℕ) → l ≡ record { to = actor.Switch peer; body = switch_says.Frame port frame } →
      IsGoodFrame frame → IsReport s events executed l

-- a switch, before and after what may be its open input
pub record IsSoundAt (kinds : List ℕ) (setup : Setup) (f : PastFacts) (s : ℕ) (w : SwitchAt) : Type 0 where
  pub now : SwitchIsSound kinds setup f s w.now
  pub before : SwitchIsSound kinds setup f s w.before
  pub events : IsPrefix w.before.events w.now.events
  pub executed : IsPrefix w.before.executed w.now.executed
  pub owed : (l : Letter SwitchSays) → IsIn l w.owed → IsReport s w.now.events w.now.executed l

-- the entries of a controller tell the truth, wherever it holds them, its marks are of commands that are carried out, and
-- the views that it knows fit their type
pub record IsHonest (kinds : List ℕ) (setup : Setup) (f : PastFacts) (state : ControllerState) : Type 0 where
  pub entries : (i : ℕ) (e : Entry) → HoldsEntry state.vr i e → IsTrueEntry kinds setup f i e
  pub marks : (s life i : ℕ) → IsIn (s, life, i) state.marks.acked → i < length (executed_of life (f.executed s))
  pub ahead : (k : ℕ) (entries : List Entry) → HoldsAhead state.vr k entries → IsAhead f k entries
  pub views : StateViews (λ view. view < 2 ^ 32) state.vr

-- a message between members tells the truth, and can be spelled
pub record IsTrueVr (kinds : List ℕ) (setup : Setup) (f : PastFacts) (m : VrMessage) : Type 0 where
  pub entries : (i : ℕ) (e : Entry) → HasEntry m i e → IsTrueEntry kinds setup f i e
  pub ahead : (k : ℕ) (entries : List Entry) → HasAhead m k entries → IsAhead f k entries
  pub spelled : IsValidVr m

-- a letter of a controller tells the truth
pub data IsOrder (kinds : List ℕ) (setup : Setup) (f : PastFacts) (c : ℕ) (l : Letter ControllerSays) : Type 0 where
  ToSwitch : (switch xid : ℕ) (said : Spoken) → l ≡ to_switch switch xid said → MayTell kinds setup f c switch said → IsOrder kinds setup f c l
  ToMember : (d : ℕ) (m : VrMessage) → l ≡ to_member (record { to = d; message = m }) → IsTrueVr kinds setup f m → IsOrder kinds setup f c l

pub record IsHonestAt (kinds : List ℕ) (setup : Setup) (f : PastFacts) (c : ℕ) (w : ControllerAt) : Type 0 where
  pub now : IsHonest kinds setup f w.now
  pub owed : (l : Letter ControllerSays) → IsIn l w.owed → IsOrder kinds setup f c l

-- a packet tells the truth; of a message between members each number fits its field
abbrev pub IsTrueBetween : List ℕ → Setup → PastFacts → Actor → Actor → Unsealed → Type 0
IsTrueBetween kinds setup f (actor.Controller c) (actor.Switch s) (unsealed.Message (message.Of xid said)) = MayTell kinds setup f c s said
IsTrueBetween kinds setup f (actor.Controller c) (actor.Controller d) (unsealed.Message (message.Vr m)) = IsTrueVr kinds setup f m × FitsVr m
IsTrueBetween kinds setup f (actor.Switch s) (actor.Controller c) (unsealed.Message (message.Of xid said)) =
    (s < length setup.ports) × IsReported s (f.events s) (f.executed s) said
IsTrueBetween kinds setup f (actor.Switch s) (actor.Switch t) (unsealed.Message (message.Frame port frame)) = IsGoodFrame frame
IsTrueBetween kinds setup f from to u = ⊥

-- what a switch hears is true
abbrev pub IsHeardBySwitch : List ℕ → Setup → PastFacts → ℕ → SwitchInput → Type 0
IsHeardBySwitch kinds setup f s (switch_input.Local input) = FitsTypes input
IsHeardBySwitch kinds setup f s (switch_input.Of c xid said) = MayTell kinds setup f c s said
IsHeardBySwitch kinds setup f s (switch_input.Frame from port frame) = IsGoodFrame frame
IsHeardBySwitch kinds setup f s (switch_input.Malformed from kind code xid head) = ⊥

abbrev pub IsHeardByController : List ℕ → Setup → PastFacts → ControllerInput → Type 0
IsHeardByController kinds setup f (controller_input.Local input) = FitsTypes input
IsHeardByController kinds setup f (controller_input.Of s xid said) = (s < length setup.ports) × IsReported s (f.events s) (f.executed s) said
IsHeardByController kinds setup f (controller_input.Vr from m) = IsTrueVr kinds setup f m × FitsVr m
IsHeardByController kinds setup f (controller_input.Malformed from) = ⊥

-- all of it
pub record HoldsOfRun {B : Type 0} (scene : Scene B) (results : List (List SaveResult)) (entries : List (JournalEntry B)) : Type 0 where
  pub switches : (s : ℕ) → s < length scene.setup.ports → IsSoundAt scene.kinds scene.setup (facts_of scene results entries) s (switch_at scene s (part (actor.Switch s) entries))
  pub turns : (s : ℕ) → s < length scene.setup.ports → IsTurn (part (actor.Switch s) entries) → (switch_at scene s (part (actor.Switch s) entries)).fresh ≡ true
  pub controllers : (c : ℕ) → c < scene.setup.controllers → IsHonestAt scene.kinds scene.setup (facts_of scene results entries) c (controller_at scene (results_of results c) c (part (actor.Controller c) entries))
  pub packets : (p : Packet B) → IsIn p (pool entries) → IsTrueBetween scene.kinds scene.setup (facts_of scene results entries) p.from p.to (content scene.sealing p)
