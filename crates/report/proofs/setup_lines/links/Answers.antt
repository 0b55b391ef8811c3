use Rattle.std.proofs.Common.{◌≡◌, ℕ, ◌-◌, List, refl, sym, subst, arith, Result, Ok}
use Rattle.std.specs.Prelude.{codes}
use Rattle.std.proofs.lemmas.Result.{err_from_is_err_and}
use Rattle.of_types.specs.declared.setup.Link.{Link}
use Rattle.report.specs.Lines.{LineStopsAt, line_at}
use Rattle.report.specs.OneLine.{begins, link_in_text}
use Rattle.report.specs.Reading.{links_at}
use Rattle.report.proofs.Sequences.{while_more, while_stops, while_done, while_last}
use Rattle.report.proofs.setup_lines.links.Goals as goal

abbrev read : List ℕ → List Link → List ℕ → Result (Link × List ℕ) ℕ
read ports before rest = line_at rest (link_in_text ports before rest)

pub loop-place-init : goal.loop-place-init
loop-place-init c = rw c.new-links.ensures refl

pub loop-place-preserved : goal.loop-place-preserved
loop-place-preserved c =
    let link = subst (λ before. read c.args.ports.now before c.loop-place.rest.now ≡ Ok (c.in_ok-link.link, c.in_ok-link.after.now)) c.as_slice.ensures c.in_ok-link.ensures in
    rw c.in_ok-push.ensures
    (while_more (begins (codes "link")) (read c.args.ports.now) 1024 c.loop-place.place c.loop-place.links c.in_ok-link.link c.loop-place.rest.now c.in_ok-link.after.now _
    c.loop-place-test.true (sym c.if-not-starts_with.ensures.value) link c.loop-place.invariant)

pub returns-then-not-starts_with : goal.returns-then-not-starts_with
unfolding links_at
returns-then-not-starts_with c =
    while_done (begins (codes "link")) (read c.args.ports.now) (1024 - c.loop-place.place) c.loop-place.links c.loop-place.rest.now _ (sym c.if-not-starts_with.ensures.value) c.loop-place.invariant

pub returns-in_err-link : goal.returns-in_err-link
unfolding links_at
returns-in_err-link c =
    let p = err_from_is_err_and c.from_residual.result c.from_residual.ensures.1 in
    let stop = subst (λ before. LineStopsAt c.in_err-link.field-0.0 (read c.args.ports.now before c.loop-place.rest.now)) c.as_slice.ensures c.in_err-link.ensures in
    rw (p.1, p.2)
    (while_stops (begins (codes "link")) (read c.args.ports.now) 1024 c.loop-place.place c.loop-place.links c.loop-place.rest.now c.in_err-link.field-0.0 _
    c.loop-place-test.true (sym c.if-not-starts_with.ensures.value) c.loop-place.invariant stop)

pub returns-then-starts_with : goal.returns-then-starts_with
unfolding links_at
returns-then-starts_with c =
    while_last (begins (codes "link")) (read c.args.ports.now) (1024 - c.loop-place.place) c.loop-place.links c.loop-place.rest.now _ (omega (arith, c.loop-place-test.false)) (sym c.if-starts_with.ensures.value) c.loop-place.invariant

pub returns : goal.returns
unfolding links_at
returns c =
    while_done (begins (codes "link")) (read c.args.ports.now) (1024 - c.loop-place.place) c.loop-place.links c.loop-place.rest.now _ (sym c.if-starts_with.ensures.value) c.loop-place.invariant
