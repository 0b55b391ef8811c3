use Rattle.std.proofs.Common.{List, ℕ, ap, ◌∙◌}
use Rattle.audit.specs.Audit.{differs, verdict_of}
use Rattle.audit.proofs.Committed.{outline_setup, outline_differs}
use Rattle.audit.proofs.auditing.check.Goals as goal

-- what is read is a record
pub first_of_outline-requires : goal.first_of_outline-requires
first_of_outline-requires g c =
    let read = c.in-Ok.ensures in
    outline_setup c.as_slice.result.now c.in-Ok.outline read.0 read.1 read.2

pub returns-in-Ok : goal.returns-in-Ok
returns-in-Ok g c =
    let read = c.in-Ok.ensures in
    let kinds = g.A.App.law.kinds c.args.app.now in
    let first = c.in_ok-first_of_outline-in-Ok.ensures ∙ outline_differs c.as_slice.result.now c.in-Ok.outline read.0 read.1 read.2 kinds ∙ ap (λ (l : List ℕ). differs kinds l) c.as_slice.ensures in
    c.verdict_of.ensures ∙ ap verdict_of first
