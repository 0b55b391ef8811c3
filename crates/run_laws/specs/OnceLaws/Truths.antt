-- When an entry of a log, and a message on its way, tells the truth: what it says is among the facts, and
-- stays so.
use Rattle.std.specs.Prelude.{◌≡◌, ◌<◌, ◌≤◌, ◌⊎◌, ℕ, ◌+◌, ◌%◌, ◌^◌, true, List, [], length, take, slice_get, Some}
use Rattle.of_types.specs.declared.message.Event.{Event}
use Rattle.of_types.specs.declared.message.Executed.{Executed}
use Rattle.of_types.specs.declared.message.Extension.TheVariants as extension
use Rattle.of_types.specs.declared.message.Happening.{Happening}
use Rattle.of_types.specs.declared.message.Happening.TheVariants as happening
use Rattle.of_types.specs.declared.message.OfMessage.TheVariants as plain
use Rattle.of_types.specs.declared.message.Order.{Order}
use Rattle.of_types.specs.declared.message.Spoken.{Spoken}
use Rattle.of_types.specs.declared.message.Spoken.TheVariants as spoken
use Rattle.of_types.specs.declared.numbers.TheConstants.{MASTER}
use Rattle.of_types.specs.declared.setup.Setup.{Setup}
use Rattle.of_types.specs.Valid.{IsValid, IsValidRemoved}
use Rattle.list_facts.specs.Lists.{IsIn}
use Rattle.vr_log.specs.declared.entry.Entry.{Entry}
use Rattle.vr_log.specs.declared.entry.Entry.TheVariants.{Received, Processed}
use Rattle.vr_log.specs.Log.{received, processed}
use Rattle.two_stage_log.specs.Counts.{processed_of}
use Rattle.app_core.specs.Issued.{issued}
use Rattle.app_core.specs.Orders.{AreBytes, IsGoodOrder}
use Rattle.of_switch.specs.Forwarding.{is_frame}
use Rattle.run_laws.specs.OnceLaws.Facts.{PastFacts, events_of, executed_of}

-- a frame that may be taken, of bytes
abbrev pub IsGoodFrame : List ℕ → Type 0
IsGoodFrame frame = (is_frame frame ≡ true) × AreBytes frame

-- what happened comes with a good frame, or tells of a row that can be spelled
abbrev pub IsGoodHappening : Happening → Type 0
IsGoodHappening (happening.PacketIn p) = IsGoodFrame p.payload
IsGoodHappening (happening.PortStatus p) = Unit {0}
IsGoodHappening (happening.FlowRemoved r) = IsValidRemoved r

-- an event of a life of a switch at this place of its events
pub record IsMade (s life i : ℕ) (e : Event) : Type 0 where
  pub switch_is : e.switch ≡ s
  pub life_is : e.life ≡ life
  pub number_is : e.number ≡ i

-- an event is one that its switch made
pub record IsGenuine (setup : Setup) (f : PastFacts) (e : Event) : Type 0 where
  pub there : e.switch < length setup.ports
  pub stands : slice_get (events_of e.life (f.events e.switch)) e.number ≡ Some e
  pub good : IsGoodHappening e.what

-- below a place of the decided log stands an event of a later life of a switch
pub record IsOver (f : PastFacts) (s life i : ℕ) : Type 0 where
  pub place : ℕ
  pub below : place < i
  pub event : Event
  pub stands : slice_get f.decided place ≡ Some (Received event)
  pub switch_is : event.switch ≡ s
  pub later : life < event.life

-- the commands for the events up to this one are carried out, or their life was over below this place
pub record IsDoneThrough (kinds : List ℕ) (setup : Setup) (f : PastFacts) (i j : ℕ) : Type 0 where
  pub there : j < length (received f.decided)
  pub all : (s life : ℕ) → (length (issued kinds setup s life (take (j + 1) (received f.decided))) ≤ length (executed_of life (f.executed s))) ⊎ IsOver f s life i

-- an entry at a place of a log: a received event is genuine, and one that stands as processed is done
abbrev pub IsTrueEntry : List ℕ → Setup → PastFacts → ℕ → Entry → Type 0
IsTrueEntry kinds setup f i (Received e) = IsGenuine setup f e
IsTrueEntry kinds setup f i (Processed j) = IsDoneThrough kinds setup f i j

-- entries that came with a commit number: the number is no more than what is decided, and past it at most one event
-- stands as processed, whose event is committed
pub record IsAhead (f : PastFacts) (k : ℕ) (log : List Entry) : Type 0 where
  pub bound : k ≤ length f.decided
  pub one : (j : ℕ) → IsIn (Processed j) log → (j ≤ processed (take k f.decided)) × (j < length (received (take k f.decided)))

-- a command is one of the first unprocessed event of some moment: its number is its place among the orders that
-- one fault-free controller issues to this life of the switch, and those of the events before are settled
pub record IsTrueCommand (kinds : List ℕ) (setup : Setup) (f : PastFacts) (s life settled i : ℕ) (what : Order) : Type 0 where
  pub place : ℕ
  pub there : place < length (received f.decided)
  pub reached : place ≤ processed f.decided
  pub settled_is : settled ≡ length (issued kinds setup s life (take place (received f.decided)))
  pub least : settled ≤ i
  pub most : i < length (issued kinds setup s life (take (place + 1) (received f.decided)))
  pub stands : slice_get (issued kinds setup s life (received f.decided)) i ≡ Some what

-- an order has this number among those that one fault-free controller issues to a life of a switch on the decided log
abbrev pub IsNumbered : List ℕ → Setup → PastFacts → ℕ → ℕ → ℕ → Order → Type 0
IsNumbered kinds setup f s life i what = slice_get (issued kinds setup s life (received f.decided)) i ≡ Some what

-- how many commands for the processed events were issued to a life of a switch
abbrev pub settled_of : List ℕ → Setup → PastFacts → ℕ → ℕ → ℕ
settled_of kinds setup f s life = length (issued kinds setup s life (take (processed f.decided) (received f.decided)))

-- what a controller may say to a switch
abbrev pub MayTell : List ℕ → Setup → PastFacts → ℕ → ℕ → Spoken → Type 0
MayTell kinds setup f c s (spoken.Plain (plain.RoleRequest role generation)) =
    (role ≡ MASTER) × (generation < 2 ^ 32) × (generation % setup.controllers ≡ c)
MayTell kinds setup f c s (spoken.Ravana (extension.Command life generation number settled what)) =
    IsTrueCommand kinds setup f s life settled number what × IsGoodOrder what × IsValid (spoken.Ravana (extension.Command life generation number settled what)) × (generation % setup.controllers ≡ c)
MayTell kinds setup f c s (spoken.Ravana (extension.EventAck life through)) = through ≤ processed_of f.decided s life
MayTell kinds setup f c s (spoken.Ravana (extension.Clear life through)) = through ≤ settled_of kinds setup f s life
MayTell kinds setup f c s _ = ⊥

-- what a switch with these lists may say to a controller
abbrev pub IsReported : ℕ → List Event → List Executed → Spoken → Type 0
IsReported s events executed (spoken.Plain plain.Hello) = Unit {0}
IsReported s events executed (spoken.Plain (plain.RoleReply role generation)) = Unit {0}
IsReported s events executed (spoken.Plain (plain.Error kind code head)) = head ≡ []
IsReported s events executed (spoken.Ravana (extension.Event life number what)) =
    let e : Event = record { switch = s; life = life; number = number; what = what } in
    (slice_get (events_of life events) number ≡ Some e) × IsGoodHappening what
IsReported s events executed (spoken.Ravana (extension.CmdAck life number result)) = number < length (executed_of life executed)
IsReported s events executed _ = ⊥
