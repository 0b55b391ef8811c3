use Rattle.std.proofs.Common.{◌∙◌, refl, sym, ap}
use Rattle.flow_clock.specs.History.{deeds_of}
use Rattle.flow_clock.specs.Clocked.{Clocked, clock_hit}
use Rattle.flow_clock.proofs.Held.{after_frame}
use Rattle.flow_clock.proofs.Kept.{hit_untimed}
use Rattle.flow_clock.proofs.Timing.{times_in, untimed}
use Rattle.flow_clock.proofs.rows.TimedRows.hit.Goals as goal

pub returns-then-not-is_empty-clause-table : goal.returns-then-not-is_empty-clause-table
returns-then-not-is_empty-clause-table g c = λ acts is.
    c.count.ensures ∙ ap (λ (a : Clocked). clock_hit a c.args.fields.now c.args.length) is ∙ sym (after_frame c.args.fields.now c.args.length (deeds_of acts))

pub returns-else-not-is_empty-clause-counted : goal.returns-else-not-is_empty-clause-counted
returns-else-not-is_empty-clause-counted g c =
    hit_untimed (times_in c.self.inside.times) (untimed c.self.inside.times (c.if-not-is_empty.ensures.0 refl)) c.self.inside.clock c.args.length _ c.args.fields.now _ c.self.view_is

pub returns-else-not-is_empty-clause-table : goal.returns-else-not-is_empty-clause-table
returns-else-not-is_empty-clause-table g c = λ acts is.
    hit_untimed (times_in c.self.inside.times) (untimed c.self.inside.times (c.if-not-is_empty.ensures.0 refl)) c.self.inside.clock c.args.length _ c.args.fields.now _ c.self.view_is
    ∙ ap (λ (a : Clocked). clock_hit a c.args.fields.now c.args.length) is
    ∙ sym (after_frame c.args.fields.now c.args.length (deeds_of acts))
