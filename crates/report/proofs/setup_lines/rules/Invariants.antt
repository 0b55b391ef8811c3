use Rattle.std.proofs.Common.{◌≡◌, ◌-◌, []}
use Rattle.std.specs.Prelude.{codes}
use Rattle.report.specs.Lines.{line_at, while_at}
use Rattle.report.specs.OneLine.{begins, rule_at}
use Rattle.report.proofs.setup_lines.rules.Given as goal

abbrev pub invariant-loop-place : goal.invariant-loop-place
invariant-loop-place l = while_at (begins (codes "deny")) (λ _ rest. line_at rest (rule_at rest)) (16 - l.place) l.rules l.rest ≡ while_at (begins (codes "deny")) (λ _ rest. line_at rest (rule_at rest)) 16 [] l.bytes
