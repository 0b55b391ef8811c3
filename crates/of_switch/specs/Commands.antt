-- What a switch does with commands (Ravana, 4.2; OpenFlow 1.3, 6.4 and 7.3.7).
use Rattle.std.specs.Prelude.{ℕ, Bool, not, nat_eq, ◌||◌, [], ◌∷◌, ◌++◌, Option, Some, None, if◌then◌else◌}
use Rattle.std.specs.List.{list_any}
use Rattle.of_types.specs.declared.message.Extension.TheVariants as extension
use Rattle.of_types.specs.declared.message.Order.{Order}
use Rattle.of_types.specs.declared.message.Order.TheVariants as order
use Rattle.of_types.specs.declared.message.Outcome.{Outcome}
use Rattle.of_types.specs.declared.message.Outcome.TheVariants as outcome
use Rattle.of_types.specs.declared.message.Spoken.TheVariants as spoken
use Rattle.of_types.specs.declared.numbers.TheConstants.{IN_PORT, FLOOD, ALL_PORTS, NO_BUFFER}
use Rattle.of_types.specs.declared.refusal.Refusal.{Refusal}
use Rattle.of_types.specs.declared.refusal.TheConstants.{BAD_OUT_PORT, BAD_PACKET, NOT_MASTER, UNKNOWN_BUFFER}
use Rattle.of_types.specs.declared.refusal.TheConstants as refusal
use Rattle.journal.specs.declared.journal.Letter.{Letter}
use Rattle.role_fence.specs.Fence.{may_execute}
use Rattle.command_buffer.specs.declared.buffer.Offer.{Offer}
use Rattle.command_buffer.specs.declared.buffer.Offer.TheVariants.{Execute, Repeat, Ahead, Full}
use Rattle.command_buffer.specs.Results.{without_results_below, with_result, offer_of}
use Rattle.flow_table.specs.declared.rows.TableFault.{TableFault}
use Rattle.flow_table.specs.declared.rows.TableFault.TheVariants as table
use Rattle.flow_table.specs.Table.{table_fault}
use Rattle.flow_clock.specs.Clocked.{clock_change}
use Rattle.of_switch.specs.declared.says.SwitchSays.{SwitchSays}
use Rattle.of_switch.specs.State.{SwitchState, SwitchTurn, quiet_switch, posts, then_turn, to_controller, switch_refuses, rows_of, life_of}
use Rattle.of_switch.specs.Events.{is_port}
use Rattle.of_switch.specs.Forwarding.{is_frame, puts_all}

-- an output that a PACKET_OUT may have: a port of the switch, or IN_PORT, FLOOD or ALL (OpenFlow 1.3, 7.3.7)
abbrev pub is_output : SwitchState → ℕ → Bool
is_output s output = is_port s output || nat_eq output IN_PORT || nat_eq output FLOOD || nat_eq output ALL_PORTS

-- an error as a result
abbrev pub failed : Refusal → Outcome
failed why = outcome.Failed why.kind why.code

-- how a fault of a FLOW_MOD is told (OpenFlow 1.3, 6.4 and 7.4.4). Want of memory is none
abbrev pub fault_result : TableFault → Outcome
fault_result table.BadTable = failed refusal.BAD_TABLE
fault_result table.BadFlags = failed refusal.BAD_FLAGS
fault_result table.BadBuffer = failed UNKNOWN_BUFFER
fault_result table.BadPort = failed BAD_OUT_PORT
fault_result table.TableFull = failed refusal.TABLE_FULL
fault_result table.OutOfMemory = outcome.Done

abbrev pub table_result : Option TableFault → Outcome
table_result None = outcome.Done
table_result (Some fault) = fault_result fault

-- the result of an order: the first of its faults, in this order (OpenFlow 1.3, 7.3.7 and 7.4.4)
abbrev pub result_of : SwitchState → Order → Outcome
result_of s (order.PacketOut out) =
    if not (nat_eq out.buffer NO_BUFFER) then failed UNKNOWN_BUFFER
    else if list_any (λ output. not (is_output s output)) out.actions then failed BAD_OUT_PORT
    else if not (is_frame out.payload) then failed BAD_PACKET
    else outcome.Done
result_of s (order.FlowMod change) = table_result (table_fault (rows_of s) s.ports change)

-- what an order does that has no fault
abbrev pub does : Order → SwitchState → SwitchTurn
does (order.PacketOut out) s = puts_all quiet_switch out.in_port out.payload out.actions (quiet_switch s)
does (order.FlowMod change) s = quiet_switch (record s { table = clock_change s.table change })

-- an order with a fault changes nothing (OpenFlow 1.3, 6.4)
abbrev pub done_as : Outcome → Order → SwitchState → SwitchTurn
done_as outcome.Done what s = does what s
done_as (outcome.Failed kind code) what s = quiet_switch s
done_as outcome.Cleared what s = quiet_switch s

-- a command is counted beside its result, also where that is a fault (Ravana, 4.2)
abbrev pub counted_command : ℕ → ℕ → ℕ → Order → Outcome → SwitchState → SwitchState
counted_command from generation number what result s =
    record s {
      executed = s.executed ++ record { life = life_of s; number = number; generation = generation; from = from; order = what } ∷ [];
      results = with_result s.results result;
    }

-- the letter that tells a result, in a life
abbrev pub letter_of_result : ℕ → ℕ → ℕ → Outcome → Letter SwitchSays
letter_of_result from life number result = to_controller from 0 (spoken.Ravana (extension.CmdAck life number result))

abbrev pub result_letter : SwitchState → ℕ → ℕ → Outcome → Letter SwitchSays
result_letter s from number result = letter_of_result from (life_of s) number result

-- it is carried out where its order has no fault, and its result is told after its frames
abbrev pub executes : SwitchState → ℕ → ℕ → ℕ → Order → SwitchTurn
executes s from generation number what =
    then_turn (done_as (result_of s what) what s)
    (λ now. posts (counted_command from generation number what (result_of s what) now) (result_letter s from number (result_of s what) ∷ []))

-- a command that the fence lets pass, by what the command buffer says of its number: each number is carried out
-- once, and in order (Ravana, 4.2)
abbrev pub on_offer : SwitchState → ℕ → ℕ → ℕ → Order → Offer → SwitchTurn
on_offer s from generation number what Execute = executes s from generation number what
on_offer s from generation number what (Repeat result) = posts s (result_letter s from number result ∷ [])
on_offer s from generation number what Ahead = quiet_switch s
on_offer s from generation number what Full = quiet_switch s

-- the results of commands below a number go
abbrev pub settled : SwitchState → ℕ → SwitchState
settled s through = record s { results = without_results_below s.results through }

-- a command: one that is not of the master and its generation is refused (OpenFlow 1.3, 6.3.5); what the controller
-- knows as settled goes first
abbrev pub on_command : SwitchState → ℕ → ℕ → ℕ → ℕ → ℕ → Order → SwitchTurn
on_command s from xid generation number through what =
    if may_execute s.fence from generation
    then on_offer (settled s through) from generation number what (offer_of (settled s through).results number)
    else switch_refuses s from xid NOT_MASTER
