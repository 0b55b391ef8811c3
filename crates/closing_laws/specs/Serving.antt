-- How the primary of a closing serves its switches, once its view has started: what is on its way between them, beside what
-- both hold.
use Rattle.std.specs.Prelude.{◌≡◌, ◌≤◌, ◌<◌, ◌⊎◌, ℕ, ◌+◌, ◌-◌, ◌^◌, min, Bool, true, false, nat_eq, nat_le, List, [], ◌∷◌, ◌++◌, length, take, drop, filter, count_by, slice_get, Option, Some, IfSome, if◌then◌else◌}
use Rattle.std.specs.List.{AllByRecursion, range_with_len}
use Rattle.of_types.specs.declared.message.Event.{Event}
use Rattle.of_types.specs.declared.message.Extension.TheVariants as extension
use Rattle.of_types.specs.declared.message.Happening.{Happening}
use Rattle.of_types.specs.declared.message.OfMessage.TheVariants as plain
use Rattle.of_types.specs.declared.message.Order.{Order}
use Rattle.of_types.specs.declared.message.Outcome.{Outcome}
use Rattle.of_types.specs.declared.message.Spoken.TheVariants as spoken
use Rattle.of_types.specs.declared.numbers.TheConstants.{MASTER}
use Rattle.of_types.specs.declared.setup.Setup.{Setup}
use Rattle.of_types.specs.Lives.{count_in, life_in, is_switch_up}
use Rattle.journal.specs.declared.journal.Actor.TheVariants as actor
use Rattle.journal.specs.declared.journal.Letter.{Letter}
use Rattle.list_facts.specs.Lists.{IsIn}
use Rattle.vr_log.specs.declared.entry.Entry.{Entry}
use Rattle.vr_log.specs.Log.{is_log, received, processed}
use Rattle.vr_log.specs.Members.{leads, most_failures}
use Rattle.two_stage_log.specs.Counts.{has_unprocessed, processed_of}
use Rattle.app_core.specs.Chain.{concat}
use Rattle.app_core.specs.declared.issued.Issued.{Issued}
use Rattle.app_core.specs.Issued.{count_issued, commands_of, issues}
use Rattle.app_core.specs.Orders.{HasFewOutputs}
use Rattle.event_buffer.specs.Buffer.{most_held, next_number}
use Rattle.of_switch.specs.State.{SwitchState, events_in, life_of, own_number_of}
use Rattle.of_switch.specs.Events.{window}
use Rattle.dispatcher.specs.Ledger.{most_commands}
use Rattle.dispatcher.specs.Marks.{has_result, is_confirmed, settled_commands}
use Rattle.group_controller.specs.declared.messages.ControllerSays.{ControllerSays}
use Rattle.group_controller.specs.State.{ControllerState, committed}
use Rattle.group_controller.specs.Settling.{is_settled, is_untold}
use Rattle.run_spec.specs.declared.messages.Message.{Message}
use Rattle.run_spec.specs.declared.messages.Message.TheVariants as message
use Rattle.run_spec.specs.States.{controller_message}
use Rattle.run_laws.specs.OnceLaws.Truths.{IsMade}
use Rattle.closing_laws.specs.Following.{ArePrepares}
use Rattle.closing_laws.specs.Ways.{told_to}

-- what the primary says to switches
abbrev pub asks_role : ℕ → Message
asks_role view = message.Of 0 (spoken.Plain (plain.RoleRequest MASTER view))

abbrev pub acknowledges_events : ℕ → ℕ → Message
acknowledges_events life through = message.Of 0 (spoken.Ravana (extension.EventAck life through))

-- and each kind of it. A command's number is not far beyond what is settled
pub data IsSaidBy (view : ℕ) : Message → Type 0 where
  Asks : IsSaidBy view (asks_role view)
  Acknowledges : (life through : ℕ) → IsSaidBy view (acknowledges_events life through)
  Commands : (life number settled : ℕ) (what : Order) → number < settled + most_commands →
      IsSaidBy view (message.Of 0 (spoken.Ravana (extension.Command life view number settled what)))
  Clears : (life through : ℕ) → IsSaidBy view (message.Of 0 (spoken.Ravana (extension.Clear life through)))

-- what switches say to the primary, in their present life
pub data IsSaidIn (view life : ℕ) : Message → Type 0 where
  Replies : (xid : ℕ) → IsSaidIn view life (message.Of xid (spoken.Plain (plain.RoleReply MASTER view)))
  Tells : (xid number : ℕ) (what : Happening) → IsSaidIn view life (message.Of xid (spoken.Ravana (extension.Event life number what)))
  Results : (xid number : ℕ) (result : Outcome) → IsSaidIn view life (message.Of xid (spoken.Ravana (extension.CmdAck life number result)))

-- a message asks for a role, and replies to that
abbrev pub is_request : Message → Bool
is_request (message.Of xid (spoken.Plain (plain.RoleRequest role generation))) = true
is_request _ = false

abbrev pub is_reply : Message → Bool
is_reply (message.Of xid (spoken.Plain (plain.RoleReply role generation))) = true
is_reply _ = false

-- the numbers of the commands for a life among messages
abbrev pub commands_said : ℕ → List Message → List ℕ
commands_said life [] = []
commands_said life (message.Of xid (spoken.Ravana (extension.Command l generation number settled what)) ∷ messages) =
    if nat_eq l life then number ∷ commands_said life messages else commands_said life messages
commands_said life (_ ∷ messages) = commands_said life messages

-- the numbers of the results among messages
abbrev pub results_said : List Message → List ℕ
results_said [] = []
results_said (message.Of xid (spoken.Ravana (extension.CmdAck life number result)) ∷ messages) = number ∷ results_said messages
results_said (_ ∷ messages) = results_said messages

-- the events of a switch among messages
abbrev pub events_said : ℕ → List Message → List Event
events_said s [] = []
events_said s (message.Of xid (spoken.Ravana (extension.Event life number what)) ∷ messages) =
    record { switch = s; life = life; number = number; what = what } ∷ events_said s messages
events_said s (_ ∷ messages) = events_said s messages

-- up to which number the events of a switch's life were sent, once it was asked
abbrev pub sent_of : SwitchState → ℕ
sent_of s = min (next_number s.buffer) (s.buffer.cleared + window)

-- how many events of a switch's present life the primary has in its log
abbrev pub logged_of : ControllerState → ℕ → SwitchState → ℕ
logged_of c s sw = count_in s (life_of sw) (received c.vr.log)

-- and how many of them it knows as processed
abbrev pub processed_by : ControllerState → ℕ → SwitchState → ℕ
processed_by c s sw = processed_of (committed c) s (life_of sw)

-- how many commands for its present life are settled
abbrev pub settled_by : List ℕ → Setup → ControllerState → ℕ → SwitchState → ℕ
settled_by kinds setup c s sw = settled_commands kinds setup (committed c) s (life_of sw)

-- for how many events the primary has told the commands: those that are processed, and the first that is not, where its
-- commands were told
abbrev pub events_told : ControllerState → ℕ
events_told c = processed (committed c) + (if is_untold c then 0 else 1)

-- the commands of these for a life of a switch
abbrev pub told_through : List ℕ → Setup → ControllerState → ℕ → ℕ → ℕ
told_through kinds setup c s life = count_issued s life (concat (take (events_told c) (issues kinds setup (received (committed c)))))

abbrev pub letters_told_by : List ℕ → Setup → ControllerState → ℕ → SwitchState → ℕ
letters_told_by kinds setup c s sw = told_through kinds setup c s (life_of sw)

-- a generation is older than this one, or there is none
abbrev pub IsOlder : Option ℕ → ℕ → Type 0
IsOlder generation view = IfSome generation (λ g. g < view)

-- The switch was not asked for its role in this view: that waits first of all, no command waits, and it has said nothing.
pub record IsUnasked (c : ControllerState) (s : ℕ) (sw : SwitchState) (out in_ : List Message) : Type 0 where
  pub older : IsOlder sw.fence.generation c.vr.view
  pub rest : List Message
  pub first : out ≡ asks_role c.vr.view ∷ rest
  pub once : count_by is_request rest ≡ 0
  pub silent : in_ ≡ []
  pub unconfirmed : is_confirmed c.marks s ≡ false

-- It was: the primary is its master, and has its reply, or that is on its way.
pub record IsMastered (c : ControllerState) (s : ℕ) (sw : SwitchState) (out in_ : List Message) : Type 0 where
  pub generation : sw.fence.generation ≡ Some c.vr.view
  pub master : sw.fence.master ≡ Some c.vr.me
  pub no_more : count_by is_request out ≡ 0
  pub replies : count_by is_reply in_ + (if is_confirmed c.marks s then 1 else 0) ≡ 1

-- Of the events that are not logged those that were sent are on their way, in order; and where events that are processed are still held,
-- the switch will be told so: by an acknowledgement on its way, or in answer to such an event.
pub record AreEventsTold (c : ControllerState) (s : ℕ) (sw : SwitchState) (out in_ : List Message) : Type 0 where
  pub coming : filter (λ e. nat_le (logged_of c s sw) e.number) (events_said s in_) ≡
      take (sent_of sw - logged_of c s sw) (drop (logged_of c s sw) (events_in sw (life_of sw)))
  pub stands : (e : Event) → IsIn e (events_said s in_) → slice_get (events_in sw (life_of sw)) e.number ≡ Some e
  pub acknowledged : sw.buffer.cleared < processed_by c s sw →
      IsIn (acknowledges_events (life_of sw) (processed_by c s sw)) out ⊎ ((e : Event) × IsIn e (events_said s in_) × (e.number < processed_by c s sw))

-- Of a switch that has confirmed its role: its commands are on their way in order, the next of them at the latest, and each command that
-- was told and is not settled has its result, or waits, or its result does.
pub record AreCommanded (kinds : List ℕ) (setup : Setup) (c : ControllerState) (s : ℕ) (sw : SwitchState) (out in_ : List Message) : Type 0 where
  pub next : ℕ
  pub waits : commands_said (life_of sw) out ≡ range_with_len next (letters_told_by kinds setup c s sw - next)
  pub in_order : next < letters_told_by kinds setup c s sw → next ≤ sw.results.executed
  pub accounted : (i : ℕ) → settled_by kinds setup c s sw ≤ i → i < letters_told_by kinds setup c s sw →
      (has_result c.marks s (life_of sw) i ≡ true) ⊎ (IsIn i (commands_said (life_of sw) out) ⊎ IsIn i (results_said in_))

-- Of one that has not: nothing is told, and nothing came.
pub record AreUntold (c : ControllerState) (s : ℕ) (sw : SwitchState) (out in_ : List Message) : Type 0 where
  pub no_commands : commands_said (life_of sw) out ≡ []
  pub no_results : results_said in_ ≡ []
  pub no_marks : (i : ℕ) → has_result c.marks s (life_of sw) i ≡ false

-- all of it, of one switch
pub record IsAttended (kinds : List ℕ) (setup : Setup) (c : ControllerState) (s : ℕ) (sw : SwitchState) (out in_ : List Message) : Type 0 where
  pub said : AllByRecursion (λ m. IsSaidBy c.vr.view m) out
  pub heard : AllByRecursion (λ m. IsSaidIn c.vr.view (life_of sw) m) in_
  pub role : IsUnasked c s sw out in_ ⊎ (IsMastered c s sw out in_ × AreEventsTold c s sw out in_)
  pub confirmed : is_confirmed c.marks s ≡ true → AreCommanded kinds setup c s sw out in_
  pub unconfirmed : is_confirmed c.marks s ≡ false → AreUntold c s sw out in_
  pub marks : (i : ℕ) → has_result c.marks s (life_of sw) i ≡ true → i < letters_told_by kinds setup c s sw
  pub results : (i : ℕ) → IsIn i (results_said in_) → i < letters_told_by kinds setup c s sw

-- The commands of an event that was told last in this view: it is not beyond the first that is not processed.
abbrev pub IsToldLast : ControllerState → Type 0
IsToldLast c = IfSome c.last_told (λ t. (t ≤ processed (committed c)) × (t ≡ processed (committed c) → has_unprocessed (committed c) ≡ true))

-- the primary between two turns: what it had to do is done
pub record IsSettled (kinds : List ℕ) (setup : Setup) (c : ControllerState) : Type 0 where
  pub told : is_untold c ≡ false
  pub proposed : is_settled kinds setup c ≡ false
  pub last : IsToldLast c

-- What is true of a switch beside the primary's log, at each moment of a closing: its lists and counts fit; what left its buffer is
-- logged, what is logged it has made, and what is settled it has carried out; no event of a later life is logged; a later life begins
-- with its switch-up event; and where ports are remembered the buffer is full.
pub record IsTrueOf (kinds : List ℕ) (setup : Setup) (c : ControllerState) (s : ℕ) (sw : SwitchState) : Type 0 where
  pub number : own_number_of sw ≡ s
  pub made : (i : ℕ) (e : Event) → slice_get (events_in sw (life_of sw)) i ≡ Some e → IsMade s (life_of sw) i e
  pub held : sw.buffer.held ≡ drop sw.buffer.cleared (events_in sw (life_of sw))
  pub next : next_number sw.buffer ≡ length (events_in sw (life_of sw))
  pub room : length sw.buffer.held ≤ most_held
  pub results : length sw.results.outcomes ≤ sw.results.executed
  pub cleared : sw.buffer.cleared ≤ logged_of c s sw
  pub logged : logged_of c s sw ≤ next_number sw.buffer
  pub processed : processed_by c s sw ≤ logged_of c s sw
  pub life : life_in s (received c.vr.log) ≤ life_of sw
  pub unlogged : life_in s (received c.vr.log) < life_of sw → logged_of c s sw ≡ 0
  pub first : 0 < life_of sw → (e : Event) → slice_get (events_in sw (life_of sw)) 0 ≡ Some e → is_switch_up e.what ≡ true
  pub begun : 0 < life_of sw → 0 < next_number sw.buffer
  pub settled : settled_by kinds setup c s sw ≤ sw.results.executed
  pub remembered : 0 < length sw.buffer.dirty → length sw.buffer.held ≡ most_held

-- What is true of the primary: it leads, its log is one, and past what is committed at most one event stands as processed, one that
-- is committed.
pub record IsTruePrimary (c : ControllerState) : Type 0 where
  pub leads : leads c.vr ≡ true
  pub me : c.vr.me < c.vr.controllers
  pub view : c.vr.view < 2 ^ 32
  pub one : is_log c.vr.log ≡ true
  pub commit : c.vr.commit ≤ length c.vr.log
  pub ahead : processed c.vr.log ≤ processed (committed c) + 1
  pub unfinished : processed (committed c) < processed c.vr.log → has_unprocessed (committed c) ≡ true

-- A turn of the primary has made its log longer by these entries: each other member is told them, and alone in its group it has
-- committed them.
pub record Extends (old : ControllerState) (more : List Entry) (new : ControllerState) (letters : List (Letter ControllerSays)) : Type 0 where
  pub state_is : new.vr ≡ record old.vr { log = old.vr.log ++ more; commit = new.vr.commit }
  pub alone : most_failures old.vr ≡ 0 → new.vr.commit ≡ old.vr.commit + length more
  pub several : 0 < most_failures old.vr → new.vr.commit ≡ old.vr.commit
  pub members : (b : ℕ) → b < old.vr.controllers → (b ≡ old.vr.me → ⊥) →
      ArePrepares old.vr.view new.vr.commit (length old.vr.log) more (told_to controller_message (actor.Controller b) letters)

-- What the applications ask of switches for an event: no more commands than they may give, each of a switch of the setup, and
-- with few outputs
pub record AreFew (kinds : List ℕ) (setup : Setup) : Type 0 where
  pub few : (events : List Event) (j : ℕ) → length (commands_of kinds setup events j) ≤ most_commands
  pub named : (events : List Event) (j : ℕ) (x : Issued) → IsIn x (commands_of kinds setup events j) → x.switch < length setup.ports
  pub outputs : (events : List Event) (j : ℕ) (x : Issued) → IsIn x (commands_of kinds setup events j) → HasFewOutputs x.order
