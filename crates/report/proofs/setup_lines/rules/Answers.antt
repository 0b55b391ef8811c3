use Rattle.std.proofs.Common.{sym}
use Rattle.std.specs.Prelude.{codes}
use Rattle.report.specs.Lines.{line_at}
use Rattle.report.specs.OneLine.{begins, rule_at}
use Rattle.report.proofs.Sequences.{ok_gives, line_ok, while_more}
use Rattle.report.proofs.setup_lines.rules.Goals as goal

pub loop-place-preserved : goal.loop-place-preserved
loop-place-preserved c =
    rw c.in_ok-push.ensures
    (while_more (begins (codes "deny")) (λ _ rest. line_at rest (rule_at rest)) 16 c.loop-place.place c.loop-place.rules c.in_ok-rule.rule c.loop-place.rest.now c.in_ok-rule.after.now _
    c.loop-place-test.true (sym c.if-not-starts_with.ensures.value) (line_ok _ _ _ (ok_gives _ _ _ _ c.rule.ensures c.in_ok-rule.ensures)) c.loop-place.invariant)
