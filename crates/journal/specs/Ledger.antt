-- What a ledger keeps, and what a turn adds to it.
use Rattle.std.specs.Prelude.{◌≡◌, ◌<◌, ◌≤◌, ◌⊎◌, ℕ, ◌+◌, ◌-◌, ◌^◌, min, List, ◌++◌, length, [], take, map, Option, Some, None}
use Rattle.journal.specs.declared.journal.Actor.{Actor}
use Rattle.journal.specs.declared.journal.JournalEntry.{JournalEntry}
use Rattle.journal.specs.declared.journal.JournalEntry.TheVariants.{Draw, Lose, Local, Idle}
use Rattle.journal.specs.declared.journal.Letter.{Letter}
use Rattle.journal.specs.declared.journal.Packet.{Packet}
use Rattle.journal.specs.declared.journal.Turn.{Turn}
use Rattle.journal.specs.declared.journal.Turn.TheVariants as turn
use Rattle.journal.specs.declared.ledger.Ledger.{Ledger}
use Rattle.journal.specs.declared.ledger.Ready.{Ready}
use Rattle.journal.specs.declared.place.PacketPlace.{PacketPlace}
use Rattle.journal.specs.declared.pool.Sums.{Sums}
use Rattle.journal.specs.declared.queues.Queues.{Queues}
use Rattle.journal.specs.declared.wire.Stop.{Stop}
use Rattle.journal.specs.declared.wire.Stop.TheVariants.{OutOfMemory, JournalFull}
use Rattle.journal.specs.Limits.{letters_limit, bytes_limit}
use Rattle.journal.specs.Order.{waiter_of, addressed}
use Rattle.journal.specs.Places.{placed, queue_of, sent_to, ArePlacesOf}
use Rattle.journal.specs.Pool.{past, pool, waiting, chosen, letter_bytes}
use Rattle.journal.specs.Orderly.{pool_bytes, fitting_count}
use Rattle.journal.specs.Refusals.{MayBeRefused}
use Rattle.journal.specs.Turns.{IsKept}

-- the packet that a step finds in a pool
abbrev pub found_in : {B : Type 0} → Turn → List (Packet B) → Option (Packet B)
found_in (turn.Draw a choice keep) packets = chosen choice (waiting a packets)
found_in (turn.Lose a choice) packets = chosen choice (waiting a packets)
found_in (turn.Local a input) packets = None

-- the entry of a step, by what was found
abbrev pub entry_by : {B : Type 0} → Turn → Option PacketPlace → JournalEntry B
entry_by (turn.Draw a choice keep) None = Idle a
entry_by (turn.Draw a choice keep) (Some place) = Draw a place.id keep
entry_by (turn.Lose a choice) None = Idle a
entry_by (turn.Lose a choice) (Some place) = Lose a place.id
entry_by (turn.Local a input) found = Local a input

-- the letters and bytes with those of an outbox, which pass no limit
pub record IsSummed {B : Type 0} (size : B → ℕ) (next total : ℕ) (letters : List (Letter B)) (sums : Sums) : Type 0 where
  pub letters_are : sums.letters ≡ next + length letters
  pub bytes_are : sums.bytes ≡ total + letter_bytes size letters
  pub few : sums.letters ≤ letters_limit
  pub small : sums.bytes ≤ bytes_limit

-- with those of an outbox a limit is passed
pub record IsPast {B : Type 0} (size : B → ℕ) (next total : ℕ) (post : List (Letter B)) (bytes count : ℕ) : Type 0 where
  pub bytes_are : bytes ≡ min (2 ^ 64 - 1) (total + letter_bytes size post)
  pub letters_are : count ≡ min (2 ^ 64 - 1) (next + length post)
  pub passes : (bytes_limit < bytes) ⊎ (letters_limit < count)

-- why an outbox was refused
abbrev pub IsRefusal : {B : Type 0} → (B → ℕ) → ℕ → ℕ → List (Letter B) → Stop → Type 0
IsRefusal size next total post OutOfMemory = Unit {0}
IsRefusal size next total post (JournalFull bytes count) = IsPast size next total post bytes count

-- nothing changed but what memory there is
pub record IsUnchanged {B G : Type 0} (before after : Ledger B G) : Type 0 where
  pub entries_same : after.entries.items ≡ before.entries.items
  pub coming_same : after.entries.coming ≡ before.entries.coming
  pub next_same : after.entries.next ≡ before.entries.next
  pub queues_same : (a : Actor) → queue_of after.queues a ≡ queue_of before.queues a
  pub order_same : after.queues.order ≡ before.queues.order
  pub posted_same : after.posted ≡ before.posted
  pub waiting_same : after.waiting ≡ before.waiting

-- the letters of an outbox that find room have come into the queues
pub record ArePlaced {B : Type 0} (size : B → ℕ) (a : Actor) (letters : List (Letter B)) (posted waiting : Sums) (before after : Queues) (ready : Ready) : Type 0 where
  pub count : ℕ
  pub count_is : count ≡ fitting_count size waiting.letters waiting.bytes letters
  pub count_within : count ≤ length letters
  pub lost_is : ready.lost ≡ length letters - count
  pub queues_are : (receiver : Actor) → queue_of after receiver ≡ queue_of before receiver ++ sent_to receiver (placed posted.letters a (take count letters))
  pub order_is : after.order ≡ before.order ++ addressed posted.letters (take count letters)
  pub waiting_letters : ready.waiting.letters ≡ waiting.letters + count
  pub waiting_bytes : ready.waiting.bytes ≡ waiting.bytes + letter_bytes size (take count letters)
  pub summed : IsSummed size posted.letters posted.bytes letters ready.posted

-- an outbox has all that may fail of its post behind it
pub record IsReady {B G : Type 0} (size : B → ℕ) (a : Actor) (letters : List (Letter B)) (before after : Ledger B G) (ready : Ready) : Type 0 where
  pub entries_same : after.entries.items ≡ before.entries.items
  pub coming_is : after.entries.coming ≡ letters
  pub next_same : after.entries.next ≡ before.entries.next
  pub posted_same : after.posted ≡ before.posted
  pub waiting_same : after.waiting ≡ before.waiting
  pub are_placed : ArePlaced size a letters before.posted before.waiting before.queues after.queues ready

-- what is kept of packets that wait, in the order of their numbers: the numbers and receivers of all, for each actor the
-- places of those for it, how many there are, and the bytes of their bodies
pub record Waits {B : Type 0} (size : B → ℕ) (journal : List (JournalEntry B)) (packets : List (Packet B)) (queues : Queues) (waits : Sums) : Type 0 where
  pub letters_are : waits.letters ≡ length packets
  pub bytes_are : waits.bytes ≡ pool_bytes size packets
  pub order_is : queues.order ≡ map waiter_of packets
  pub queues_are : (a : Actor) → ArePlacesOf journal (queue_of queues a) (waiting a packets)

-- what a ledger keeps beside its entries: behind an input that may want memory there is room for the entry that says so
pub record IsLedger {B G : Type 0} (size : B → ℕ) (ledger : Ledger B G) : Type 0 where
  pub kept : IsKept size (past ledger.entries.items) ledger.posted.letters ledger.posted.bytes
  pub waits : Waits size ledger.entries.items (pool (past ledger.entries.items)) ledger.queues ledger.waiting
  pub coming : ledger.entries.coming ≡ []
  pub next : ledger.entries.next ≡ ledger.posted.letters
  pub room : MayBeRefused (past ledger.entries.items) → 0 < ledger.entries.room
