-- Events of the lives of switches.
use Rattle.std.specs.Prelude.{ℕ, Bool, nat_eq, ◌&&◌}
use Rattle.of_types.specs.declared.message.Event.{Event}
use Rattle.std.specs.Prelude.{◌≡◌, ◌<◌, ◌≤◌, List}
use Rattle.of_types.specs.Lives.{count_in}
use Rattle.vr_log.specs.declared.entry.Entry.{Entry}
use Rattle.vr_log.specs.Log.{received}
use Rattle.of_types.specs.Lives.{life_in}
use Rattle.list_facts.specs.Lists.{IsIn}

-- an event is of a life of a switch
abbrev pub is_event_of : ℕ → ℕ → Event → Bool
is_event_of switch life e = nat_eq e.switch switch && nat_eq e.life life

-- an event of a later life of a switch is among these
pub record IsEndedBy (switch life : ℕ) (events : List Event) : Type 0 where
  pub event : Event
  pub among : IsIn event events
  pub switch_is : event.switch ≡ switch
  pub later : life < event.life

-- an event of a log is of no earlier life than its switch had there, and has the next number of its life
pub record IsNextOfLife (front : List Entry) (e : Event) : Type 0 where
  pub life : life_in e.switch (received front) ≤ e.life
  pub number : e.number ≡ count_in e.switch e.life (received front)
