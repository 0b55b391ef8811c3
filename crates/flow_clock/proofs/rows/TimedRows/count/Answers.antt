use Rattle.std.proofs.Common.{List, ap, sym, ◌∙◌}
use Rattle.of_types.specs.declared.message.Row.{Row}
use Rattle.flow_table.specs.Table.{chosen_row}
use Rattle.flow_clock.specs.Clocked.{Clocked, clock_hit}
use Rattle.flow_clock.proofs.Kept.{rows_seen, hit_kept, hit_missed}
use Rattle.flow_clock.proofs.Timing.{times_in, is_key, tells_keys}
use Rattle.flow_clock.proofs.rows.TimedRows.count.Goals as goal

pub returns-in_default : goal.returns-in_default
returns-in_default g c =
    hit_missed _ c.args.fields.now c.args.length (c.in_default.ensures ∙ ap (λ (rows : List Row). chosen_row rows c.args.fields.now) (sym (rows_seen (times_in c.self.inside.times) _ _ _ c.self.view_is)))

pub returns-in-Some : goal.returns-in-Some
returns-in-Some g c =
    hit_kept is_key tells_keys (times_in c.self.inside.times) _ c.self.inside.clock c.args.length c.in-Some.row.now (rw c.key_of.ensures at c.count_at.ensures) _ c.args.fields.now c.in-Some.ensures
    ∙ ap (λ (a : Clocked). clock_hit a c.args.fields.now c.args.length) c.self.view_is
