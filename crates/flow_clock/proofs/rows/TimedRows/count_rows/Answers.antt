use Rattle.std.proofs.Common.{List, length, ap, sym, ◌∙◌}
use Rattle.of_types.specs.declared.message.Row.{Row}
use Rattle.flow_clock.proofs.Kept.{rows_seen}
use Rattle.flow_clock.proofs.Timing.{times_in}
use Rattle.flow_clock.proofs.rows.TimedRows.count_rows.Goals as goal

pub returns : goal.returns
returns g c = c.count.ensures ∙ sym (ap (λ (rows : List Row). length rows) (rows_seen (times_in c.self.inside.times) _ _ _ c.self.view_is))
