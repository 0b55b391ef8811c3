-- Whether two orders are equal.
use Rattle.std.specs.Prelude.{Bool, true, false, nat_eq, ◌&&◌}
use Rattle.of_types.specs.declared.message.FlowCommand.{FlowCommand}
use Rattle.of_types.specs.declared.message.FlowCommand.TheVariants.{Add, Modify, ModifyStrict, Delete, DeleteStrict}
use Rattle.of_types.specs.declared.message.FlowMod.{FlowMod}
use Rattle.of_types.specs.declared.message.Order.{Order}
use Rattle.of_types.specs.declared.message.Order.TheVariants as order
use Rattle.of_types.specs.declared.message.PacketOut.{PacketOut}
use Rattle.of_types.specs.Matching.{same_match}
use Rattle.vr_log.specs.Same.{same_numbers}

abbrev pub same_command : FlowCommand → FlowCommand → Bool
same_command Add Add = true
same_command Modify Modify = true
same_command ModifyStrict ModifyStrict = true
same_command Delete Delete = true
same_command DeleteStrict DeleteStrict = true
same_command _ _ = false

-- which rows are changed, and how
abbrev pub same_way : FlowMod → FlowMod → Bool
same_way a b =
    nat_eq a.cookie b.cookie && nat_eq a.cookie_mask b.cookie_mask && nat_eq a.table b.table && same_command a.command b.command
    && nat_eq a.idle b.idle && nat_eq a.hard b.hard

abbrev pub same_place : FlowMod → FlowMod → Bool
same_place a b =
    nat_eq a.priority b.priority && nat_eq a.buffer b.buffer && nat_eq a.out_port b.out_port && nat_eq a.out_group b.out_group
    && nat_eq a.flags b.flags

abbrev pub same_flow_mod : FlowMod → FlowMod → Bool
same_flow_mod a b = same_way a b && same_place a b && same_match a.matching b.matching && same_numbers a.actions b.actions

abbrev pub same_packet_out : PacketOut → PacketOut → Bool
same_packet_out a b =
    nat_eq a.buffer b.buffer && nat_eq a.in_port b.in_port && same_numbers a.actions b.actions && same_numbers a.payload b.payload

abbrev pub same_order : Order → Order → Bool
same_order (order.FlowMod a) (order.FlowMod b) = same_flow_mod a b
same_order (order.PacketOut a) (order.PacketOut b) = same_packet_out a b
same_order _ _ = false
