-- What is counted in the first entries of a log (Ravana, 3.2): an event is received, and later processed.
use Rattle.std.specs.Prelude.{◌≡◌, ◌<◌, ℕ, Bool, true, false, nat_eq, nat_lt, ◌&&◌, List, length, take, Option, Some, None, if◌then◌else◌}
use Rattle.std.specs.List.{list_any}
use Rattle.of_types.specs.declared.message.Event.{Event}
use Rattle.of_types.specs.Lives.{count_in, is_switch_up}
use Rattle.vr_log.specs.declared.entry.Entry.{Entry}
use Rattle.vr_log.specs.declared.entry.Entry.TheVariants.{Received, Processed}
use Rattle.vr_log.specs.Log.{received, processed}

-- An event may come to a log in which its switch has this life and this next number: where its life goes on, it has
-- that number; else a later life begins with its switch-up event, number 0.
abbrev pub may_come : ℕ → ℕ → Event → Bool
may_come life next event =
    if nat_eq event.life life then nat_eq event.number next
    else nat_lt life event.life && nat_eq event.number 0 && is_switch_up event.what

-- An event is processed in a log in which its switch has this life, and so many events of it are processed
abbrev pub is_processed_by : ℕ → ℕ → Event → Bool
is_processed_by life through event = nat_eq event.life life && nat_lt event.number through

-- an event that is received is not processed
abbrev pub has_unprocessed : List Entry → Bool
has_unprocessed log = nat_lt (processed log) (length (received log))

-- the place of the first event that is received and not processed: events are processed in their order
abbrev pub first_unprocessed : List Entry → Option ℕ
first_unprocessed log = if has_unprocessed log then Some (processed log) else None

-- how many events of a life of a switch are processed
abbrev pub processed_of : List Entry → ℕ → ℕ → ℕ
processed_of log switch life = count_in switch life (take (processed log) (received log))

-- an entry tells that the event at this place is processed
abbrev pub tells_processed : ℕ → Entry → Bool
tells_processed j (Received event) = false
tells_processed j (Processed i) = nat_eq i j

-- each event that is received is processed there
abbrev pub AllProcessed : List Entry → Type 0
AllProcessed log = (j : ℕ) → j < length (received log) → list_any (λ entry. tells_processed j entry) log ≡ true
