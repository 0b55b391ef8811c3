-- Which of the commands that a switch carried out changed its table (OpenFlow 1.3, 6.4).
use Rattle.std.specs.Prelude.{◌≡◌, ℕ, List, [], ◌∷◌, reverse, Some, None}
use Rattle.of_types.specs.declared.message.Executed.{Executed}
use Rattle.of_types.specs.declared.message.Fields.{Fields}
use Rattle.of_types.specs.declared.message.FlowMod.{FlowMod}
use Rattle.of_types.specs.declared.message.Order.TheVariants as order
use Rattle.of_types.specs.declared.message.PacketOut.{PacketOut}
use Rattle.flow_table.specs.declared.rows.TableFault.{TableFault}
use Rattle.flow_table.specs.Table.{table_fault}
use Rattle.flow_clock.specs.History.{Act, Change, Tick, Frame, table_of}
use Rattle.of_switch.specs.State.{SwitchState, life_of, executed_in}

-- the commands that a switch carried out in its present life, the latest first
abbrev pub latest_commands : SwitchState → List Executed
latest_commands s = reverse (executed_in s (life_of s))

-- What a switch with so many ports did with its table comes of the commands that it carried out, both the latest first, with
-- ticks and frames between them: a FLOW_MOD that had no fault over the table of then is a change, and no other command is one
pub data ComesOf (ports : ℕ) : List Executed → List Act → Type 0 where
  Nothing_yet : ComesOf ports [] []
  Changed_by : {executed : List Executed} {acts : List Act} (x : Executed) (change : FlowMod) → x.order ≡ order.FlowMod change → table_fault (table_of acts) ports change ≡ None →
      ComesOf ports executed acts → ComesOf ports (x ∷ executed) (Change change ∷ acts)
  Refused_by : {executed : List Executed} {acts : List Act} (x : Executed) (change : FlowMod) (fault : TableFault) → x.order ≡ order.FlowMod change → table_fault (table_of acts) ports change ≡ Some fault →
      ComesOf ports executed acts → ComesOf ports (x ∷ executed) acts
  Sent_by : {executed : List Executed} {acts : List Act} (x : Executed) (out : PacketOut) → x.order ≡ order.PacketOut out → ComesOf ports executed acts → ComesOf ports (x ∷ executed) acts
  At_tick : {executed : List Executed} {acts : List Act} → ComesOf ports executed acts → ComesOf ports executed (Tick ∷ acts)
  At_frame : {executed : List Executed} {acts : List Act} (fields : Fields) (octets : ℕ) → ComesOf ports executed acts → ComesOf ports executed (Frame fields octets ∷ acts)
