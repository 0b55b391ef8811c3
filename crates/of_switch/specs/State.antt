-- What a switch holds, and what a turn of it leaves and posts: a datapath of OpenFlow 1.3 with the event buffer
-- and the command buffer of Ravana (4.1 and 4.2).
use Rattle.std.specs.Prelude.{◌≡◌, ◌≤◌, ℕ, ◌+◌, ◌-◌, ◌^◌, Bool, not, nat_eq, nat_le, ◌||◌, List, [], ◌∷◌, ◌++◌, length, map, filter, slice_index, slice_index_or, if◌then◌else◌}
use Rattle.std.specs.List.{list_any, range_with_len}
use Rattle.of_types.specs.declared.message.Event.{Event}
use Rattle.of_types.specs.declared.message.Executed.{Executed}
use Rattle.of_types.specs.declared.message.OfMessage.TheVariants as plain
use Rattle.of_types.specs.declared.message.Row.{Row}
use Rattle.of_types.specs.declared.message.Spoken.{Spoken}
use Rattle.of_types.specs.declared.message.Spoken.TheVariants as spoken
use Rattle.of_types.specs.declared.refusal.Refusal.{Refusal}
use Rattle.of_types.specs.declared.setup.Link.{Link}
use Rattle.of_types.specs.declared.setup.Setup.{Setup}
use Rattle.journal.specs.declared.journal.Actor.TheVariants.{Controller}
use Rattle.journal.specs.declared.journal.Letter.{Letter}
use Rattle.role_fence.specs.Fence.{Fence, starting_fence}
use Rattle.event_buffer.specs.Buffer.{Buffer, empty_buffer, highest_port, next_number}
use Rattle.command_buffer.specs.Results.{Results, no_results}
use Rattle.flow_clock.specs.Clocked.{Clocked, rows_in}
use Rattle.flow_clock.specs.Holding.{clocked_of}
use Rattle.of_switch.specs.declared.says.SwitchSays.{SwitchSays}
use Rattle.of_switch.specs.declared.says.SwitchSays.TheVariants as switch_says

-- A switch, as its neighbours see it. What it holds of its present life is gone with a restart: the buffer, the
-- results, the table and the fence.
pub record SwitchState : Type 0 where
  pub controllers : ℕ  -- how many controllers there are
  pub ports : ℕ  -- how many ports it has
  pub links : List Link  -- the wires at its ports
  pub down : List ℕ  -- its ports that are down, ascending
  pub sent : ℕ  -- how many frames it sent out
  pub buffer : Buffer  -- its number, its life, and the events that wait to be processed
  pub results : Results
  pub table : Clocked  -- the rows in the order of adding, and the clock
  pub fence : Fence
  pub events : List Event  -- all that it made, in all its lives, and did not forget
  pub executed : List Executed  -- all that it carried out, in all its lives, and did not forget
  pub ended : List ℕ  -- for each life that is over and not forgotten, how many events had left the buffer
  pub gone : ℕ  -- how many events and commands it forgot

-- a wire begins, or ends, at a port of this switch
abbrev pub is_at : ℕ → Link → Bool
is_at number l = nat_eq l.switch number || nat_eq l.peer number

-- A switch as it starts: every port is up, the table has the table-miss row alone and its clock stands at 0, and no controller has asked for a role.
abbrev pub starting_switch : ℕ → Setup → SwitchState
starting_switch number setup =
    record {
      controllers = setup.controllers;
      ports = slice_index_or setup.ports number 0;
      links = filter (is_at number) setup.links;
      down = [];
      sent = 0;
      buffer = empty_buffer number 0;
      results = no_results;
      table = clocked_of [];
      fence = starting_fence;
      events = [];
      executed = [];
      ended = [];
      gone = 0;
    }

abbrev pub own_number_of : SwitchState → ℕ
own_number_of s = s.buffer.switch

-- the rows of its table, in the order of adding
abbrev pub rows_of : SwitchState → List Row
rows_of s = rows_in s.table

abbrev pub life_of : SwitchState → ℕ
life_of s = s.buffer.life

-- the events that it made in one of its lives, and how many of them have left the buffer
abbrev pub events_in : SwitchState → ℕ → List Event
events_in s life = filter (λ e. nat_eq e.life life) s.events

abbrev pub cleared_in : SwitchState → ℕ → ℕ
cleared_in s life = slice_index (s.ended ++ s.buffer.cleared ∷ []) life

-- the commands that it carried out in one of its lives
abbrev pub executed_in : SwitchState → ℕ → List Executed
executed_in s life = filter (λ x. nat_eq x.life life) s.executed

-- the ports that are up, ascending
abbrev pub ports_up : SwitchState → List ℕ
ports_up s = filter (λ p. not (list_any (λ d. nat_eq d p) s.down)) (range_with_len 1 s.ports)

-- the most events and commands that a switch forgets (our own choice): its numbers stay below 2 ^ 64
abbrev pub most_gone : ℕ
most_gone = 2 ^ 62

-- a switch as its calls leave it: it has few ports, and has or counts each event and each command that it numbered
pub record IsSwitch (s : SwitchState) : Type 0 where
  pub ports : s.ports ≤ highest_port
  pub events : next_number s.buffer ≤ s.gone + length s.events
  pub executed : s.results.executed ≤ s.gone + length s.executed
  pub countable : s.gone ≤ most_gone

-- a switch without its past: the events that wait stay, and what goes is counted
abbrev pub without_past : SwitchState → SwitchState
without_past s =
    record s {
      events = s.buffer.held;
      executed = [];
      ended = [];
      gone = s.gone + (length s.events - length s.buffer.held) + length s.executed;
    }

-- it forgets its past, as long as what is gone can be counted
abbrev pub forgets_past : SwitchState → SwitchState
forgets_past s = if nat_le (without_past s).gone most_gone then without_past s else s

-- what a turn leaves, and what it wants to post
pub record SwitchTurn : Type 0 where
  pub state : SwitchState
  pub letters : List (Letter SwitchSays)

-- nothing is posted
abbrev pub quiet_switch : SwitchState → SwitchTurn
quiet_switch s = record { state = s; letters = [] }

abbrev pub posts : SwitchState → List (Letter SwitchSays) → SwitchTurn
posts s letters = record { state = s; letters = letters }

-- one turn, and then another from the state that it left
abbrev pub then_turn : SwitchTurn → (SwitchState → SwitchTurn) → SwitchTurn
then_turn first next = record { state = (next first.state).state; letters = first.letters ++ (next first.state).letters }

-- a letter to a controller. A message that is no answer has number 0 (our own choice)
abbrev pub to_controller : ℕ → ℕ → Spoken → Letter SwitchSays
to_controller c xid message = record { to = Controller c; body = switch_says.Of xid message }

-- an answer repeats the number of its request (OpenFlow 1.3, 7.1)
abbrev pub answers : SwitchState → ℕ → ℕ → Spoken → SwitchTurn
answers s c xid message = posts s (to_controller c xid message ∷ [])

-- an ERROR (OpenFlow 1.3, 7.4.4), with the beginning of the request where it could not be read. That of a request
-- that was read holds no bytes (our own choice)
abbrev pub error_letter : ℕ → ℕ → ℕ → ℕ → List ℕ → Letter SwitchSays
error_letter c xid kind code head = to_controller c xid (spoken.Plain (plain.Error kind code head))

abbrev pub switch_refuses : SwitchState → ℕ → ℕ → Refusal → SwitchTurn
switch_refuses s c xid why = posts s (error_letter c xid why.kind why.code [] ∷ [])

-- a switch that began a life greets every controller with a HELLO (OpenFlow 1.3, 6.3.1)
abbrev pub greetings : SwitchState → List (Letter SwitchSays)
greetings s = map (λ c. to_controller c 0 (spoken.Plain plain.Hello)) (range_with_len 0 s.controllers)

-- a turn left this state and wants to post these letters
pub record Turned (turn : SwitchTurn) (state : SwitchState) (letters : List (Letter SwitchSays)) : Type 0 where
  pub state_is : state ≡ turn.state
  pub letters_are : letters ≡ turn.letters
