use Rattle.std.proofs.Common.{◌≡◌, ◌-◌, []}
use Rattle.std.specs.Prelude.{codes}
use Rattle.report.specs.Lines.{line_at, while_at}
use Rattle.report.specs.OneLine.{begins, link_in_text}
use Rattle.report.proofs.setup_lines.links.Given as goal

abbrev pub invariant-loop-place : goal.invariant-loop-place
invariant-loop-place l = while_at (begins (codes "link")) (λ before rest. line_at rest (link_in_text l.fn.ports before rest)) (1024 - l.place) l.links l.rest ≡ while_at (begins (codes "link")) (λ before rest. line_at rest (link_in_text l.ports before rest)) 1024 [] l.bytes
