-- What one turn of a switch does, in the words of its neighbours.
use Rattle.std.specs.Prelude.{◌≡◌, ◌<◌, ◌⊎◌, ℕ, ◌+◌, true, nat_lt, List, [], ◌∷◌, ◌++◌, length, slice_get, Some}
use Rattle.of_types.specs.declared.message.Event.{Event}
use Rattle.of_types.specs.declared.message.Extension.TheVariants as extension
use Rattle.of_types.specs.declared.message.OfMessage.{OfMessage}
use Rattle.of_types.specs.declared.message.OfMessage.TheVariants as plain
use Rattle.of_types.specs.declared.message.Order.{Order}
use Rattle.of_types.specs.declared.message.Order.TheVariants as order
use Rattle.of_types.specs.declared.message.Outcome.{Outcome}
use Rattle.of_types.specs.declared.message.PacketOut.{PacketOut}
use Rattle.of_types.specs.declared.message.Spoken.{Spoken}
use Rattle.of_types.specs.declared.message.Spoken.TheVariants as spoken
use Rattle.of_types.specs.Lives.{last_life}
use Rattle.journal.specs.declared.journal.Actor.TheVariants as actor
use Rattle.journal.specs.declared.journal.Letter.{Letter}
use Rattle.journal.specs.declared.journal.Local.TheVariants as local
use Rattle.list_facts.specs.Lists.{IsIn, IsPrefix}
use Rattle.role_fence.specs.Fence.{may_execute, role_step, starting_fence}
use Rattle.event_buffer.specs.Buffer.{cleared_to}
use Rattle.of_switch.specs.declared.says.SwitchInput.{SwitchInput}
use Rattle.of_switch.specs.declared.says.SwitchInput.TheVariants as switch_input
use Rattle.of_switch.specs.declared.says.SwitchSays.{SwitchSays}
use Rattle.of_switch.specs.State.{SwitchState, SwitchTurn, life_of, to_controller, events_in, executed_in}
use Rattle.of_switch.specs.Events.{event_letter}
use Rattle.of_switch.specs.Forwarding.{is_frame, frame_letter}
use Rattle.of_switch.specs.Commands.{result_letter}
use Rattle.of_switch.specs.Rules.{switch_turn}
use Rattle.run_laws.specs.OnceLaws.Invariant.{IsWell}

-- the one command that a turn carries out: of the switch's life, from its master, with the next number
pub record CarriesOut (s : SwitchState) (x : SwitchInput) (t : SwitchTurn) : Type 0 where
  pub c : ℕ
  pub xid : ℕ
  pub generation : ℕ
  pub number : ℕ
  pub through : ℕ
  pub what : Order
  pub asks : x ≡ switch_input.Of c xid (spoken.Ravana (extension.Command (life_of s) generation number through what))
  pub may : may_execute s.fence c generation ≡ true
  pub next : number ≡ length (executed_in s (life_of s))
  pub more : t.state.executed ≡ s.executed ++ record { life = life_of s; number = number; generation = generation; from = c; order = what } ∷ []

-- events leave on an acknowledgement of the switch's life alone; a restart begins a life, and keeps the count of the last
pub data Clears (s : SwitchState) (x : SwitchInput) (t : SwitchTurn) : Type 0 where
  Nothing : t.state.buffer.cleared ≡ s.buffer.cleared → t.state.ended ≡ s.ended → life_of t.state ≡ life_of s → Clears s x t
  Through : (c xid through : ℕ) → x ≡ switch_input.Of c xid (spoken.Ravana (extension.EventAck (life_of s) through)) →
      t.state.buffer.cleared ≡ cleared_to s.buffer through → t.state.ended ≡ s.ended → life_of t.state ≡ life_of s → Clears s x t
  Life : x ≡ switch_input.Local local.Restart → nat_lt (life_of s) last_life ≡ true → t.state.buffer.cleared ≡ 0 → t.state.ended ≡ s.ended ++ s.buffer.cleared ∷ [] →
      life_of t.state ≡ life_of s + 1 → Clears s x t

-- the fence changes on a request for a role alone, by the rule of roles; and with a life a new one begins
pub data Fences (s : SwitchState) (x : SwitchInput) (t : SwitchTurn) : Type 0 where
  Stays : t.state.fence ≡ s.fence → Fences s x t
  Asked : (c xid role generation : ℕ) → x ≡ switch_input.Of c xid (spoken.Plain (plain.RoleRequest role generation)) → t.state.fence ≡ (role_step s.fence c role generation).fence → Fences s x t
  Anew : x ≡ switch_input.Local local.Restart → t.state.fence ≡ starting_fence → Fences s x t

-- an input that brings a frame
pub data BringsFrame (x : SwitchInput) (frame : List ℕ) : Type 0 where
  Wire : (port : ℕ) → x ≡ switch_input.Local (local.Frame port frame) → BringsFrame x frame
  Peer : (from port : ℕ) → x ≡ switch_input.Frame from port frame → BringsFrame x frame
  Output : (c xid life generation number through : ℕ) (out : PacketOut) → x ≡ switch_input.Of c xid (spoken.Ravana (extension.Command life generation number through (order.PacketOut out))) →
      frame ≡ out.payload → BringsFrame x frame

-- what it posts: events that it made, to its master; the result of a command that was carried out, and answers, to the
-- sender; a greeting; and a frame that the input brings, to a peer
pub data Posts (s : SwitchState) (x : SwitchInput) (t : SwitchTurn) (l : Letter SwitchSays) : Type 0 where
  Event_to_master : (c : ℕ) (e : Event) → slice_get (events_in t.state e.life) e.number ≡ Some e → t.state.fence.master ≡ Some c → l ≡ event_letter c e → Posts s x t l
  Result_to_sender : (c xid life generation number through : ℕ) (what : Order) (result : Outcome) → x ≡ switch_input.Of c xid (spoken.Ravana (extension.Command life generation number through what)) →
      number < length (executed_in t.state (life_of s)) → l ≡ result_letter s c number result → Posts s x t l
  Answer_to_sender : (c xid : ℕ) (asked : Spoken) (answer : OfMessage) → x ≡ switch_input.Of c xid asked → l ≡ to_controller c xid (spoken.Plain answer) → Posts s x t l
  Fault_to_sender : (c kind code xid : ℕ) (head : List ℕ) → x ≡ switch_input.Malformed (actor.Controller c) kind code xid head → l ≡ to_controller c xid (spoken.Plain (plain.Error kind code head)) → Posts s x t l
  Greeting : (c : ℕ) → l ≡ to_controller c 0 (spoken.Plain plain.Hello) → Posts s x t l
  Frame_to_peer : (peer port : ℕ) (frame : List ℕ) → BringsFrame x frame → is_frame frame ≡ true → l ≡ frame_letter frame peer port → Posts s x t l

-- a turn of a switch, from a state whose accounts fit
pub record IsSwitchTurn (number : ℕ) (s : SwitchState) (x : SwitchInput) (t : SwitchTurn) : Type 0 where
  pub well : IsWell number t.state
  pub events : IsPrefix s.events t.state.events
  pub executed : (t.state.executed ≡ s.executed) ⊎ CarriesOut s x t
  pub clears : Clears s x t
  pub fence : Fences s x t
  pub letters : (l : Letter SwitchSays) → IsIn l t.letters → Posts s x t l

-- each turn is one
abbrev pub AreSwitchTurns : Type 0
AreSwitchTurns = (number : ℕ) (s : SwitchState) (x : SwitchInput) → IsWell number s → IsSwitchTurn number s x (switch_turn s x)
