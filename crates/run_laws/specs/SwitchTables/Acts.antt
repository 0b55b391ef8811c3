-- What a switch does with its flow table (OpenFlow 1.3, 5.5 and 6.4), in a turn and in its present life.
use Rattle.std.specs.Prelude.{ℕ, Bool, false, nat_eq, nat_lt, ◌&&◌, List, [], ◌∷◌, ◌++◌, length, if◌then◌else◌}
use Rattle.of_types.specs.declared.message.Extension.{Extension}
use Rattle.of_types.specs.declared.message.Extension.TheVariants as extension
use Rattle.of_types.specs.declared.message.Order.{Order}
use Rattle.of_types.specs.declared.message.Order.TheVariants as order
use Rattle.of_types.specs.declared.message.Outcome.{Outcome}
use Rattle.of_types.specs.declared.message.Outcome.TheVariants as outcome
use Rattle.of_types.specs.declared.message.Spoken.TheVariants as spoken
use Rattle.of_types.specs.Lives.{last_life}
use Rattle.journal.specs.declared.journal.Local.{Local}
use Rattle.journal.specs.declared.journal.Local.TheVariants as local
use Rattle.role_fence.specs.Fence.{may_execute}
use Rattle.command_buffer.specs.declared.buffer.Offer.{Offer}
use Rattle.command_buffer.specs.declared.buffer.Offer.TheVariants.{Execute}
use Rattle.command_buffer.specs.Results.{offer_of}
use Rattle.flow_clock.specs.History.{Act, Change, Tick, Frame}
use Rattle.flow_clock.specs.Clocked.{is_last}
use Rattle.of_switch.specs.declared.says.SwitchInput.{SwitchInput}
use Rattle.of_switch.specs.declared.says.SwitchInput.TheVariants as switch_input
use Rattle.of_switch.specs.State.{SwitchState, life_of}
use Rattle.of_switch.specs.Forwarding.{is_frame, is_port_up, frame_fields_at}
use Rattle.of_switch.specs.Commands.{result_of, settled}
use Rattle.of_switch.specs.Rules.{life_said}

-- a frame at a port that is up meets the table
abbrev pub frame_acts : SwitchState → ℕ → List ℕ → List Act
frame_acts s port frame = if is_port_up s port && is_frame frame then Frame (frame_fields_at port frame) (length frame) ∷ [] else []

-- at a tick the clock rises, until the end of its numbers
abbrev pub tick_acts : SwitchState → List Act
tick_acts s = if is_last s.table then [] else Tick ∷ []

abbrev pub local_acts : SwitchState → Local → List Act
local_acts s (local.Frame port bytes) = frame_acts s port bytes
local_acts s local.Tick = tick_acts s
local_acts s _ = []

-- a FLOW_MOD that is carried out without a fault
abbrev pub order_acts : Outcome → Order → List Act
order_acts outcome.Done (order.FlowMod change) = Change change ∷ []
order_acts _ _ = []

abbrev pub offer_acts : SwitchState → Order → Offer → List Act
offer_acts s what Execute = order_acts (result_of s what) what
offer_acts s what _ = []

abbrev pub command_acts : SwitchState → ℕ → ℕ → ℕ → ℕ → Order → List Act
command_acts s from generation number through what =
    if may_execute s.fence from generation then offer_acts (settled s through) what (offer_of (settled s through).results number) else []

abbrev pub own_life_acts : SwitchState → ℕ → Extension → List Act
own_life_acts s from (extension.Command life generation number through what) = command_acts s from generation number through what
own_life_acts s from _ = []

-- what a switch does with its table in a turn: at most one act
abbrev pub acts_in : SwitchState → SwitchInput → List Act
acts_in s (switch_input.Local what) = local_acts s what
acts_in s (switch_input.Frame from port bytes) = frame_acts s port bytes
acts_in s (switch_input.Of from xid (spoken.Ravana said)) = if nat_eq (life_said said) (life_of s) then own_life_acts s from said else []
acts_in s _ = []

-- a restart begins a life, where there is one
abbrev pub begins_switch_life : SwitchState → SwitchInput → Bool
begins_switch_life s (switch_input.Local local.Restart) = nat_lt (life_of s) last_life
begins_switch_life s _ = false

-- what it did in its present life by then, the latest first
abbrev pub acts_then : SwitchState → SwitchInput → List Act → List Act
acts_then s input acts = if begins_switch_life s input then [] else acts_in s input ++ acts
