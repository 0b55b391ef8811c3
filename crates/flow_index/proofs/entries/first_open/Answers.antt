use Rattle.std.proofs.Common.{sym, ◌∙◌}
use Rattle.of_types.specs.Matching.{matches}
use Rattle.flow_index.proofs.Open.{ends_at, goes_past}
use Rattle.flow_index.proofs.entries.first_open.Goals as goal

pub returns-then-is_some-clause-first : goal.returns-then-is_some-clause-first
returns-then-is_some-clause-first c =
    let inv = c.loop-place.invariant in
    ends_at (λ e. matches e.1.matching c.args.fields.now) (c.in-Some.place.now, c.in-Some.row.now) c.next.new.self c.loop-place.place-iterator _ c.in-Some.ensures.steps inv.0 inv.1 (sym c.is_some.ensures ∙ c.if-is_some.true)

pub loop-place-preserved : goal.loop-place-preserved
loop-place-preserved c =
    let inv = c.loop-place.invariant in
    goes_past (λ e. matches e.1.matching c.args.fields.now) (c.in-Some.place.now, c.in-Some.row.now) c.next.new.self c.loop-place.place-iterator _ c.in-Some.ensures.steps inv.0 inv.1 (sym c.is_some.ensures ∙ c.if-is_some.false) (sym c.matches.ensures ∙ c.if-matches.false)
