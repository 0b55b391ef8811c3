-- Rows chosen from a table, a part at a time.
use Rattle.std.specs.Prelude.{Option, Some, None}
use Rattle.of_types.specs.declared.message.Row.{Row}
use Rattle.flow_table.specs.Table.{better}

-- a row chosen from some rows, against one from the later ones
abbrev pub merged : Option Row → Option Row → Option Row
merged None later = later
merged (Some row) later = Some (better row later)
