use Rattle.std.proofs.Common.{◌∙◌, List, length, ap, sym}
use Rattle.of_types.specs.declared.message.Row.{Row}
use Rattle.flow_index.proofs.Views.{view_length}
use Rattle.flow_index.proofs.index.FlowIndexRows.count.Goals as goal

pub returns : goal.returns
returns c =
    c.len.ensures.len
    ∙ sym (view_length c.self.inside.next c.self.inside.rows.entries c.self.invariant.0)
    ∙ ap (λ (rows : List Row). length rows) c.self.view_is
