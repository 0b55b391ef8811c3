use Rattle.std.proofs.Common.{◌≡◌, ◌+◌, ◌++◌, drop, refl, sym, ap, ◌∙◌}
use Rattle.std.proofs.KnownBytes.{Appends-trans}
use Rattle.std.proofs.lemmas.List.{append_assoc, drop_more}
use Rattle.report.specs.Parts.{part_text, parts_text}
use Rattle.report.proofs.Pieces.{if_err, front_behind, next_part}
use Rattle.report.proofs.parts.write_parts.Goals as goal

pub returns-in_err-write_part-clause-err : goal.returns-in_err-write_part-clause-err
returns-in_err-write_part-clause-err g c =
    let (done, wrote, all) = c.loop-part.invariant.taken in
    let next = next_part c.args.parts.now c.loop-part.part-index c.part-item.result c.loop-part-test.true c.part-item.is in
    if_err c.from_residual.result (front_behind _ _ _ done (part_text c.part-item.result) (parts_text (drop (c.loop-part.part-index + 1) c.args.parts.now)) _ wrote c.in_err-write_part.ensures.err
    (ap (λ l. done ++ l) (sym next) ∙ all))

pub loop-part-preserved : goal.loop-part-preserved
loop-part-preserved g c =
    let (done, wrote, all) = c.loop-part.invariant.taken in
    let next = next_part c.args.parts.now c.loop-part.part-index c.part-item.result c.loop-part-test.true c.part-item.is in
    let text = part_text c.part-item.result in
    record {
      taken = (
        done ++ text,
        Appends-trans _ _ _ done text wrote c.in_ok-write_part.ensures.ok,
        append_assoc done text (parts_text (drop (c.loop-part.part-index + 1) c.args.parts.now)) ∙ ap (λ l. done ++ l) (sym next) ∙ all,
      );
      served = c.in_ok-write_part.ensures.cause.served ∙ c.loop-part.invariant.served;
    }
