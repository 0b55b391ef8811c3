-- The events of a switch, and its buffer, which holds the newest of them (Ravana, 4.1).
use Rattle.std.specs.Prelude.{ℕ, ◌+◌, List, [], ◌++◌}
use Rattle.of_types.specs.declared.message.Event.{Event}
use Rattle.event_buffer.specs.Buffer.{Buffer, empty_buffer, without_events_below}

pub record History : Type 0 where
  pub events : List Event  -- of all lives, in order
  pub buffer : Buffer

abbrev pub starting_history : ℕ → History
starting_history switch = record { events = []; buffer = empty_buffer switch 0 }

-- events are new, and wait to be processed
abbrev pub with_joined : List Event → History → History
with_joined events h = record { events = h.events ++ events; buffer = record h.buffer { held = h.buffer.held ++ events } }

-- the events below a number need not wait any more
abbrev pub with_cleared : ℕ → History → History
with_cleared through h = record h { buffer = without_events_below h.buffer through }

-- the events that do not wait are forgotten
abbrev pub with_past_forgotten : History → History
with_past_forgotten h = record h { events = h.buffer.held }

-- the next life begins, in which no event waits yet
abbrev pub in_next_life : History → History
in_next_life h = record h { buffer = empty_buffer h.buffer.switch (h.buffer.life + 1) }
