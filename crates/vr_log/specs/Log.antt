-- The replicated log of a group (Ravana, 3.2; Viewstamped Replication Revisited, 4): which entry may
-- follow, and the limits.
use Rattle.std.specs.Prelude.{◌≡◌, ◌≤◌, ℕ, ◌+◌, ◌-◌, ◌^◌, min, Bool, true, false, not, nat_eq, nat_lt, nat_le, ◌&&◌, List, [], ◌∷◌, ◌++◌, length, count_by, sum_by, Result, Ok, Err, if◌then◌else◌}
use Rattle.of_types.specs.declared.message.Event.{Event}
use Rattle.of_types.specs.Lives.{life_in, count_in, is_switch_up}
use Rattle.of_types.specs.Sizes.{happening_size}
use Rattle.vr_log.specs.declared.entry.Entry.{Entry}
use Rattle.vr_log.specs.declared.entry.Entry.TheVariants.{Received, Processed}
use Rattle.vr_log.specs.declared.entry.LogFull.{LogFull}
use Rattle.vr_log.specs.declared.log.PushFault.{PushFault}
use Rattle.vr_log.specs.declared.log.PushFault.TheVariants as fault

-- the most entries of a log, and its most bytes
abbrev pub log_entries : ℕ
log_entries = 4096

abbrev pub log_bytes : ℕ
log_bytes = 4194304

-- the events of a log, in order
abbrev pub received : List Entry → List Event
received [] = []
received (Received event ∷ log) = event ∷ received log
received (Processed j ∷ log) = received log

abbrev pub is_processed : Entry → Bool
is_processed (Received event) = false
is_processed (Processed j) = true

-- how many events a log has as processed
abbrev pub processed : List Entry → ℕ
processed log = count_by is_processed log

-- the bytes of an entry, and of a log
abbrev pub entry_size : Entry → ℕ
entry_size (Received event) = 18 + happening_size event.what
entry_size (Processed j) = 9

abbrev pub log_size : List Entry → ℕ
log_size log = sum_by entry_size log

-- a log with this entry would be past its limits
abbrev pub is_past_limits : List Entry → Entry → Bool
is_past_limits log entry = not (nat_le (length log + 1) log_entries && nat_le (log_size log + entry_size entry) log_bytes)

-- An event may follow a log (Ravana, 3.2; the lives are our own rule). A switch's events come by number, from 0
-- on in each of its lives, and a later life begins with its switch-up event.
abbrev pub may_be_received : Event → List Event → Bool
may_be_received event events =
    let life = life_in event.switch events in
    if nat_eq event.life life then nat_eq event.number (count_in event.switch life events)
    else nat_lt life event.life && nat_eq event.number 0 && is_switch_up event.what

-- The entry may follow the log. Events are processed in the order in which they were received.
abbrev pub may_follow : List Entry → Entry → Bool
may_follow log (Received event) = may_be_received event (received log)
may_follow log (Processed j) = nat_eq j (processed log) && nat_lt j (length (received log))

-- the life that a switch has in a log, and the number that its next event of that life has
abbrev pub next_place : List Entry → ℕ → ℕ × ℕ
next_place log switch = (life_in switch (received log), count_in switch (life_in switch (received log)) (received log))

-- the log takes the entry
abbrev pub fits : List Entry → Entry → Bool
fits log entry = not (is_past_limits log entry) && may_follow log entry

-- each of these entries fits behind those before it
abbrev pub follows : List Entry → List Entry → Bool
follows before [] = true
follows before (entry ∷ entries) = fits before entry && follows (before ++ entry ∷ []) entries

-- the entries are a log: each follows those before it
abbrev pub is_log : List Entry → Bool
is_log entries = follows [] entries

pub record IsLog (entries : List Entry) : Type 0 where
  pub follow : is_log entries ≡ true
  pub short : length entries ≤ log_entries
  pub small : log_size entries ≤ log_bytes

-- a front of a log is one
abbrev pub FrontsAreLogs : Type 0
FrontsAreLogs = (front rest : List Entry) → is_log (front ++ rest) ≡ true → is_log front ≡ true

-- The limits that an entry meets: the length and the bytes of the log, and the bytes of the entry, as
-- far as a number of 64 bits goes.
abbrev pub full_at : List Entry → Entry → LogFull
full_at log entry = record { length = length log; bytes = log_size log; next = min (2 ^ 64 - 1) (entry_size entry) }

-- What push answers, and what it leaves: the limits are tested first. Want of memory comes only to an
-- entry that fits.
abbrev pub Pushes : List Entry → Entry → Result (Unit {0}) PushFault → List Entry → Type 0
Pushes log entry (Ok done) new = (fits log entry ≡ true) × (new ≡ log ++ entry ∷ [])
Pushes log entry (Err (fault.LogFull full)) new = (is_past_limits log entry ≡ true) × (full ≡ full_at log entry) × (new ≡ log)
Pushes log entry (Err fault.Misplaced) new = (is_past_limits log entry ≡ false) × (may_follow log entry ≡ false) × (new ≡ log)
Pushes log entry (Err fault.OutOfMemory) new = (fits log entry ≡ true) × (new ≡ log)
