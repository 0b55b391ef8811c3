use Rattle.std.proofs.Common.{◌≡◌, ◌*◌, ◌++◌, length, drop, take, refl, ap, ◌∙◌, arith}
use Rattle.std.proofs.Math.Seq.{take-length}
use Rattle.report.specs.Report.{hex_of}
use Rattle.report.proofs.Pairs.{pair_spelled}
use Rattle.report.proofs.room.spell_pairs.Goals as goal

pub loop-index-init : goal.loop-index-init
loop-index-init c = refl

pub loop-index-preserved : goal.loop-index-preserved
loop-index-preserved c =
    pair_spelled c.args.bytes.now c.args.place.now c.loop-index.place c.loop-index.index _ _ c.loop-index-test.true c.requires c.loop-index.invariant c.hex_digit.ensures c.hex_digit-in-loop-index.ensures

pub returns : goal.returns
returns c =
    let end : c.loop-index.index ≡ length c.args.bytes.now = let over = c.loop-index-test.false in let most = c.loop-index.auto.index-end in omega (arith, over, most) in
    c.loop-index.invariant ∙ ap (λ n. hex_of (take n c.args.bytes.now) ++ drop (2 * n) c.args.place.now) end ∙ ap (λ l. hex_of l ++ drop (2 * length c.args.bytes.now) c.args.place.now) (take-length c.args.bytes.now)
