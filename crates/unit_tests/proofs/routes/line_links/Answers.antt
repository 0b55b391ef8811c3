use Rattle.std.proofs.Common.{sym, ap, ◌∙◌, arith}
use Rattle.unit_tests.specs.Lines.{line_links}
use Rattle.unit_tests.proofs.Line.{more_links, no_links}
use Rattle.unit_tests.proofs.routes.line_links.Goals as goal

pub loop-switch-init : goal.loop-switch-init
loop-switch-init c = c.new-links.ensures ∙ no_links

pub loop-switch-preserved : goal.loop-switch-preserved
loop-switch-preserved c = rw (c.in_ok-push.ensures, c.loop-switch.invariant) (sym (more_links c.loop-switch.switch))

pub returns : goal.returns
returns c = c.loop-switch.invariant ∙ ap (λ n. line_links 0 n) (omega arith)
