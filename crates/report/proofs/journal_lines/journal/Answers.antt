use Rattle.std.proofs.Common.{List, ℕ, Bool, length, sym, ap}
use Rattle.std.specs.Prelude.{codes, not}
use Rattle.std.proofs.lemmas.Result.{err_from_is_err_and}
use Rattle.report.specs.OneLine.{begins}
use Rattle.report.specs.Reading.{journal_entry_at, journal_at}
use Rattle.report.proofs.Sequences.{while_more, while_stops}
use Rattle.report.proofs.journal_lines.journal.Goals as goal

abbrev goes_on : List ℕ → Bool
goes_on rest = not (begins (codes "log") rest)

pub loop-place-preserved : goal.loop-place-preserved
loop-place-preserved c =
    rw c.in_ok-push.ensures
    (while_more goes_on (λ _ rest. journal_entry_at rest) (length c.args.bytes.now) c.loop-place.place c.loop-place.entries c.in_ok-entry.entry c.loop-place.rest.now c.in_ok-entry.after.now _
    c.loop-place-test.true (ap not (sym c.if-starts_with.ensures.value)) c.in_ok-entry.ensures c.loop-place.invariant)

pub returns-in_err-entry : goal.returns-in_err-entry
unfolding journal_at
returns-in_err-entry c =
    let p = err_from_is_err_and c.from_residual.result c.from_residual.ensures.1 in
    rw (p.1, p.2)
    (while_stops goes_on (λ _ rest. journal_entry_at rest) (length c.args.bytes.now) c.loop-place.place c.loop-place.entries c.loop-place.rest.now c.in_err-entry.field-0.0 _
    c.loop-place-test.true (ap not (sym c.if-starts_with.ensures.value)) c.loop-place.invariant c.in_err-entry.ensures)
