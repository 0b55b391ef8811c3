use Rattle.std.proofs.Common.{rules, ◌≡◌, ◌++◌, sym, ap, ◌∙◌}
use Rattle.std.proofs.KnownBytes.{Appends-trans}
use Rattle.std.proofs.lemmas.List.{append_assoc}
use Rattle.report.specs.Report.{hex_of}
use Rattle.report.proofs.Pairs.{hex_append, rejoined}
use Rattle.report.proofs.Pieces.{if_err, front_behind}
use Rattle.report.proofs.parts.spell_all.Goals as goal

pub returns-in_err-write_all-clause-err : goal.returns-in_err-write_all-clause-err
returns-in_err-write_all-clause-err g c =
    let (done, wrote, all) = c.pieces.invariant.taken in
    let piece = c.split_at.result.0.now in
    let behind = c.split_at.result.1.now in
    let parts = rejoined c.min.result c.pieces.rest.now piece behind c.split_at.ensures.front c.split_at.ensures.back in
    let told : c.as_slice.result.now ≡ hex_of piece = search rules in
    if_err c.from_residual.result (front_behind _ _ _ done c.as_slice.result.now (hex_of behind) _ wrote c.in_err-write_all.ensures.err
    (ap (λ l. done ++ (l ++ hex_of behind)) told ∙ ap (λ l. done ++ l) (sym (hex_append piece behind) ∙ ap hex_of (sym parts)) ∙ all))

pub pieces-preserved : goal.pieces-preserved
pieces-preserved g c =
    let (done, wrote, all) = c.pieces.invariant.taken in
    let piece = c.split_at.result.0.now in
    let behind = c.split_at.result.1.now in
    let parts = rejoined c.min.result c.pieces.rest.now piece behind c.split_at.ensures.front c.split_at.ensures.back in
    let told : c.as_slice.result.now ≡ hex_of piece = search rules in
    record {
      taken = (
        done ++ c.as_slice.result.now,
        Appends-trans _ _ _ done c.as_slice.result.now wrote c.in_ok-write_all.ensures.ok,
        append_assoc done c.as_slice.result.now (hex_of behind) ∙ ap (λ l. done ++ (l ++ hex_of behind)) told
            ∙ ap (λ l. done ++ l) (sym (hex_append piece behind) ∙ ap hex_of (sym parts)) ∙ all,
      );
      served = c.in_ok-write_all.ensures.cause.served ∙ c.pieces.invariant.served;
    }
