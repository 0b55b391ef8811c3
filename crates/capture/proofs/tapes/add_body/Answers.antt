use Rattle.std.proofs.Common.{◌≡◌, ◌==◌, false, true, length, sym, ◌∙◌}
use Rattle.capture.proofs.Noted.{pieces_end, pieces_more}
use Rattle.capture.proofs.tapes.add_body.Goals as goal

pub pieces-preserved : goal.pieces-preserved
pieces-preserved c =
    let inv = c.pieces.invariant in
    let some : (length c.pieces.rest.now == 0) ≡ false = sym c.is_empty.ensures ∙ c.pieces-test.true in
    let step = pieces_more inv.0 c.args.heading.time c.args.heading.from c.args.heading.to c.args.comment.now c.pieces.rest.now c.pieces.tape.packets some inv.1 in (
      step.0,
      rw c.first_piece.ensures.back step.1,
      c.in_ok-add_segment.ensures.counted,
      rw (c.first_piece.ensures.back, c.in_ok-add_segment.ensures.added, c.first_piece.ensures.front, c.is_last.ensures) (sym step.2 ∙ inv.3),
    )

pub returns-clause-added : goal.returns-clause-added
returns-clause-added c =
    let inv = c.pieces.invariant in
    let none : (length c.pieces.rest.now == 0) ≡ true = sym c.is_empty.ensures ∙ c.pieces-test.false in
    sym (pieces_end inv.0 c.args.heading.time c.args.heading.from c.args.heading.to c.args.comment.now c.pieces.rest.now c.pieces.tape.packets none) ∙ inv.3
