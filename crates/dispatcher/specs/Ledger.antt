-- What is kept of a committed log, so that no question asks for the whole of it again.
use Rattle.std.specs.Prelude.{◌≡◌, ◌≤◌, ℕ, ◌+◌, ◌-◌, ◌*◌, ◌^◌, min, Bool, not, nat_eq, nat_le, nat_lt, ◌&&◌, List, [], ◌∷◌, count_by, length, take, drop, get_or, map, slice_get, Option, Some, None, if◌then◌else◌}
use Rattle.std.specs.List.{list_any}
use Rattle.of_types.specs.declared.message.Event.{Event}
use Rattle.of_types.specs.declared.setup.Setup.{Setup}
use Rattle.of_types.specs.Lives.{life_in, count_in}
use Rattle.vr_log.specs.declared.entry.Entry.{Entry}
use Rattle.vr_log.specs.declared.entry.Entry.TheVariants.{Received, Processed}
use Rattle.vr_log.specs.Log.{received, processed}
use Rattle.app_core.specs.declared.issued.Issued.{Issued}
use Rattle.app_core.specs.Chain.{concat, chain_after, starting_chain, given_by}
use Rattle.app_core.specs.Issued.{count_issued, issues}
use Rattle.app_core.specs.Law.{AppLaw}
use Rattle.dispatcher.specs.Counted.{Counted, counts_in, counts_of}
use Rattle.dispatcher.specs.declared.answers.HandledEvent.{HandledEvent}
use Rattle.dispatcher.specs.declared.answers.AckThrough.{AckThrough}
use Rattle.dispatcher.specs.declared.counts.Counts.{Counts}
use Rattle.dispatcher.specs.declared.counts.LifeCount.{LifeCount}
use Rattle.dispatcher.specs.declared.counts.Progress.{Progress}
use Rattle.dispatcher.specs.declared.counts.Progress.TheVariants as progress
use Rattle.dispatcher.specs.declared.ledger.Ledger.{Ledger}
use Rattle.dispatcher.specs.declared.numbered.NumberedOrder.{NumberedOrder}
use Rattle.dispatcher.specs.Marks.{Marks, has_result, is_confirmed, unsettled}

-- one life has these counts from now on
abbrev pub IsCountedAs : Counted → ℕ → ℕ → Counts → Counted → Type 0
IsCountedAs old switch life counts new =
    (s l : ℕ) → counts_of new s l ≡ (if nat_eq s switch && nat_eq l life then counts else counts_of old s l)

-- the same in the row of a switch
abbrev pub IsRowCountedAs : List LifeCount → ℕ → Counts → List LifeCount → Type 0
IsRowCountedAs old life counts new = (l : ℕ) → counts_in new l ≡ (if nat_eq l life then counts else counts_in old l)

-- the counts are those of the events that are processed, and of the commands that are issued and settled
abbrev pub AreCounts : List Event → List Issued → List Issued → Counted → Type 0
AreCounts done issued settled counts =
    (s l : ℕ) → counts_of counts s l ≡ record { processed = count_in s l done; issued = count_issued s l issued; settled = count_issued s l settled }

-- the lives are those that switches have with these events
abbrev pub AreLives : List Event → List ℕ → Type 0
AreLives events lives = (s : ℕ) → get_or lives s 0 ≡ life_in s events

-- the most that a count can be: it stands still there
abbrev pub most_count : ℕ
most_count = 2 ^ 64 - 1

-- one event more of a life is processed, one command more is issued to it, or one more is settled
abbrev pub one_processed : Counts → Counts
one_processed c = record c { processed = min (c.processed + 1) most_count }

abbrev pub one_issued : Counts → Counts
one_issued c = record c { issued = min (c.issued + 1) most_count }

abbrev pub one_settled : Counts → Counts
one_settled c = record c { settled = min (c.settled + 1) most_count }

-- one thing more is counted
abbrev pub one_more : Progress → Counts → Counts
one_more progress.Processed c = one_processed c
one_more progress.Issued c = one_issued c
one_more progress.Settled c = one_settled c

-- how many there are of a kind
abbrev pub tally_of : Progress → Counts → ℕ
tally_of progress.Processed c = c.processed
tally_of progress.Issued c = c.issued
tally_of progress.Settled c = c.settled

-- a number is that of a command of a life that is issued and not settled
abbrev pub has_pending : Ledger → ℕ → ℕ → ℕ → Bool
has_pending ledger switch life number =
    let c = counts_of ledger.counts switch life in
    nat_le c.settled number && nat_lt number c.issued

-- events beside what is issued for them
abbrev pub handled_of : List Event → List (List Issued) → List HandledEvent
handled_of (event ∷ events) (commands ∷ lists) =
    record { switch = event.switch; life = event.life; commands = commands } ∷ handled_of events lists
handled_of _ _ = []

-- the most commands of an application for an event
abbrev pub most_commands : ℕ
most_commands = 128

-- the ledger is that of a committed log: of the events that it has as received, and how many of them it has as processed
pub record IsLedgerOf (kinds : List ℕ) (setup : Setup) (events : List Event) (done : ℕ) (ledger : Ledger) : Type 0 where
  pub lives : AreLives events ledger.lives
  pub counts : AreCounts (take done events) (concat (issues kinds setup events)) (concat (take done (issues kinds setup events))) ledger.counts
  pub pending : ledger.pending.items ≡ drop done (handled_of events (issues kinds setup events))
  pub processed_is : ledger.processed ≡ done
  pub unsettled_are : ledger.unsettled ≡ length (concat (drop done (issues kinds setup events)))
  pub ordered : done ≤ length events
  pub few : length (concat (issues kinds setup events)) ≤ most_commands * length events

abbrev pub IsLedgerOfLog : List ℕ → Setup → List Entry → Ledger → Type 0
IsLedgerOfLog kinds setup log ledger = IsLedgerOf kinds setup (received log) (processed log) ledger

-- the commands of the first of these
abbrev pub first_commands : List HandledEvent → List Issued
first_commands [] = []
first_commands (h ∷ pending) = h.commands

-- what contracts see of a dispatcher: its application, how many switches there are, what it keeps of the committed log,
-- the marks of its view, and for how many results there is room
pub record Dispatching (A : Type 0) : Type 0 where
  pub app : A
  pub switches : ℕ
  pub ledger : Ledger
  pub marks : Marks
  pub room : ℕ

-- no result of a command came
abbrev pub lacks_result : Marks → Issued → Bool
lacks_result marks x = not (has_result marks x.switch x.life x.number)

-- there is room for the results of these commands
pub record HasRoomForResults (commands : List Issued) (marks : Marks) (room : ℕ) : Type 0 where
  pub in_view : length marks.acked + count_by (lacks_result marks) commands ≤ room  -- beside those that came in this view
  pub in_next : length commands ≤ room  -- of each of them, in the next view

-- it stands for a committed log: its application has taken the events of that log, and no others, and there is room for
-- the results that may still come
pub record StandsFor {A : Type 0} (law : AppLaw A)
    (d : Dispatching A) (kinds : List ℕ) (setup : Setup) (log : List Entry) : Type 0 where
  pub kind : law.kinds d.app ≡ kinds
  pub few : given_by (law.kinds d.app) ≤ most_commands
  pub suited : law.suits d.app setup
  pub states : law.states d.app ≡ chain_after kinds setup (starting_chain kinds) (received log)
  pub size : d.switches ≡ length setup.ports
  pub ledger : IsLedgerOfLog kinds setup log d.ledger
  pub room : HasRoomForResults (unsettled kinds setup log) d.marks d.room

-- a command of the log wants a result, by what is kept: none came, and its life goes on
abbrev pub wants : Ledger → Marks → Issued → Bool
wants ledger marks x = not (has_result marks x.switch x.life x.number) && not (nat_lt x.life (get_or ledger.lives x.switch 0))

abbrev pub is_outstanding : Ledger → Marks → Issued → Bool
is_outstanding ledger marks x = wants ledger marks x && is_confirmed marks x.switch

-- a command as it is sent
abbrev pub as_numbered : Ledger → Issued → NumberedOrder
as_numbered ledger x =
    record { switch = x.switch; life = x.life; number = x.number; settled = (counts_of ledger.counts x.switch x.life).settled; order = x.order }

-- a switch has one of these commands
abbrev pub is_addressed : List Issued → ℕ → Bool
is_addressed commands switch = list_any (λ x. nat_eq x.switch switch) commands

-- the present life of a switch has one of these commands
abbrev pub has_told : Ledger → List Issued → ℕ → Bool
has_told ledger commands switch = list_any (λ x. nat_eq x.switch switch && not (nat_lt x.life (get_or ledger.lives x.switch 0))) commands

-- what is settled of the present life of a switch
abbrev pub cleared_of_life : Ledger → ℕ → AckThrough
cleared_of_life ledger switch =
    let life = get_or ledger.lives switch 0 in
    record { switch = switch; life = life; through = (counts_of ledger.counts switch life).settled }

-- whatever the committed log is that it stands for
abbrev pub ForEachLog : (List ℕ → Setup → List Entry → Type 0) → (List ℕ → Setup → List Entry → Type 0) → Type 0
ForEachLog stands says = (kinds : List ℕ) (setup : Setup) (log : List Entry) → stands kinds setup log → says kinds setup log

-- the event that a log has as received at a place, beside what is issued for it
abbrev pub handled_at : List ℕ → Setup → List Entry → ℕ → Option HandledEvent
handled_at kinds setup log j = slice_get (handled_of (received log) (issues kinds setup (received log))) j

-- what an entry tells of an event that it has as processed
abbrev pub handled_by : List ℕ → Setup → List Entry → Entry → Option HandledEvent
handled_by kinds setup log (Received event) = None
handled_by kinds setup log (Processed j) = handled_at kinds setup log j

-- these are the events that a log has as received at these places, beside what is issued for them
abbrev pub AreHandledAt : List ℕ → Setup → List Entry → List ℕ → List HandledEvent → Type 0
AreHandledAt kinds setup log places handled = map (handled_at kinds setup log) places ≡ map Some handled
