use Rattle.std.proofs.Common.{◌∙◌, ap}
use Rattle.std.specs.Prelude.{List}
use Rattle.of_types.specs.declared.message.Row.{Row}
use Rattle.flow_table.specs.Table.{chosen_row}
use Rattle.flow_index.proofs.Chosen.{found_is_chosen}
use Rattle.flow_index.proofs.index.FlowIndexRows.look_up.Goals as goal

pub returns : goal.returns
returns c =
    c.preferred.ensures
    ∙ rw (c.first_exact.ensures, c.first_open.ensures.first) (found_is_chosen c.self.inside.next c.self.inside.rows.entries c.args.fields.now c.self.invariant.1 c.self.invariant.0 c.first_open.ensures.ordered)
    ∙ ap (λ (rows : List Row). chosen_row rows c.args.fields.now) c.self.view_is
