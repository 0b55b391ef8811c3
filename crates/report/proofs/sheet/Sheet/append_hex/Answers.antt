use Rattle.std.proofs.Common.{rules, ◌≡◌, ◌<◌, length, refl, arith}
use Rattle.report.proofs.Pairs.{all_spelled, piece_spelled, rejoined}
use Rattle.report.proofs.sheet.Sheet.append_hex.Goals as goal

pub pieces-init : goal.pieces-init
pieces-init c = refl

pub pieces-smaller : goal.pieces-smaller
pieces-smaller c =
    let some : 0 < length c.pieces.rest.now = search rules in
    let back = c.split_at.ensures.back_len in
    let most = c.min.ensures in
    let less : length c.split_at.result.1.now < length c.pieces.rest.now = omega (arith, back, most, some) in
    less

pub pieces-preserved : goal.pieces-preserved
pieces-preserved c =
    let split = c.split_at.ensures in
    let parts = rejoined c.min.result c.pieces.rest.now c.split_at.result.0.now c.split_at.result.1.now split.front split.back in
    let cut = c.split_at.result in
    piece_spelled c.pieces.self _ c.pieces.rest.now cut.0.now cut.1.now c.append_pairs.new.self c.pieces.invariant parts c.in_ok-append_pairs.ensures

pub returns : goal.returns
returns c =
    let none : length c.pieces.rest.now ≡ 0 = search rules in
    all_spelled c.pieces.self _ c.pieces.rest.now none c.pieces.invariant
