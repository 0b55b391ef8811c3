-- What is kept beside a log, so that the next entry is judged without a look at those before it.
use Rattle.std.specs.Prelude.{◌≡◌, ℕ, ◌+◌, Bool, not, nat_eq, nat_lt, nat_le, true, ◌&&◌, ◌-◌, ◌^◌, min, List, ◌++◌, length, get_or, if◌then◌else◌}
use Rattle.of_types.specs.declared.message.Event.{Event}
use Rattle.of_types.specs.Lives.{life_in, count_in, is_switch_up}
use Rattle.vr_log.specs.declared.entry.Entry.{Entry}
use Rattle.vr_log.specs.declared.entry.Entry.TheVariants.{Received, Processed}
use Rattle.vr_log.specs.declared.tally.Place.{Place}
use Rattle.vr_log.specs.declared.tally.Tally.{Tally}
use Rattle.vr_log.specs.Log.{log_entries, log_bytes, entry_size, log_size, is_processed, received, processed, follows, IsLog}

-- where the first event of a switch stands
abbrev pub first_place : Place
first_place = record { life = 0; number = 0 }

-- the place of a switch's next event. The list has places up to the last switch that has events.
abbrev pub next_place_of : List Place → ℕ → Place
next_place_of places switch = get_or places switch first_place

-- the place of the next event that a switch has behind these events
pub record IsNextPlace (switch : ℕ) (events : List Event) (place : Place) : Type 0 where
  pub life : place.life ≡ life_in switch events
  pub number : place.number ≡ count_in switch (life_in switch events) events

-- the tally is that of this log
pub record IsTally (log : List Entry) (tally : Tally) : Type 0 where
  pub size : tally.bytes ≡ log_size log
  pub events : tally.received ≡ length (received log)
  pub finished : tally.processed ≡ processed log
  pub places : (switch : ℕ) → IsNextPlace switch (received log) (next_place_of tally.places switch)

-- the next event of one switch has this place from now on
abbrev pub IsPut : List Place → ℕ → Place → List Place → Type 0
IsPut old switch place new = (s : ℕ) → next_place_of new s ≡ (if nat_eq s switch then place else next_place_of old s)

-- the log with this entry would be past its limits
abbrev pub is_log_full : Tally → Entry → Bool
is_log_full tally entry =
    not (nat_le (tally.received + tally.processed + 1) log_entries && nat_le (tally.bytes + entry_size entry) log_bytes)

-- the entry may follow the log
abbrev pub may_join : Tally → Entry → Bool
may_join tally (Received event) =
    let place = next_place_of tally.places event.switch in
    if nat_eq event.life place.life then nat_eq event.number place.number
    else nat_lt place.life event.life && nat_eq event.number 0 && is_switch_up event.what
may_join tally (Processed j) = nat_eq j tally.processed && nat_lt j tally.received

abbrev pub joins : Tally → Entry → Bool
joins tally entry = not (is_log_full tally entry) && may_join tally entry

-- behind an event stands the next one of its life
abbrev pub PlacesNext : List Place → Entry → List Place → Type 0
PlacesNext old (Received event) new = IsPut old event.switch (record { life = event.life; number = min (2 ^ 64 - 1) (event.number + 1) }) new
PlacesNext old (Processed j) new = new ≡ old

-- One entry more is counted. A number stands still at its type's end, which no log within the limits reaches.
pub record IsCounted (old : Tally) (entry : Entry) (new : Tally) : Type 0 where
  pub bytes : new.bytes ≡ old.bytes + entry_size entry
  pub received : new.received ≡ old.received + (if is_processed entry then 0 else 1)
  pub processed : new.processed ≡ old.processed + (if is_processed entry then 1 else 0)
  pub places : PlacesNext old.places entry new.places

-- What counting entries one after another tells, whatever the log is that was counted: whether each fits, and
-- where they do, the counts with them.
abbrev pub Tells : Tally → List Entry → Bool → Tally → Type 0
Tells old entries taken new =
    (log : List Entry) → IsLog log → IsTally log old → (taken ≡ follows log entries) × (taken ≡ true → IsTally (log ++ entries) new)
