use Rattle.std.proofs.Common.{◌<◌, ◌≤◌, ◌≡◌, ◌+◌, ◌++◌, ap, arith, get_or, length, sym, ◌∙◌}
use Rattle.std.proofs.lemmas.List.{drop-set-lt}
use Rattle.journal.specs.declared.entries.Head.{Head}
use Rattle.journal.specs.Entries.{whole_entry}
use Rattle.report.specs.Report.{entry_lines}
use Rattle.report.proofs.HeadLines.{head_behind, head_fits, head_whole, lines_by_heads}
use Rattle.report.proofs.Written.{all_written, next_written}
use Rattle.report.proofs.heads.write_heads.Goals as goal

pub write_head-requires : goal.write_head-requires
write_head-requires c =
    let step = c.loop-head in
    let within = c.loop-head-test.true in
    let long = step.auto.heads in
    let less : step.head-index < length step.heads = omega (arith, within, long) in
    let is = ap (λ (h : Head). get_or step.heads step.head-index h) (sym c.head-item.is) in
    head_fits step.letters c.args.letters.now step.heads step.head-index (get_or step.heads step.head-index c.head-item.result) less is step.invariant.left

pub loop-head-preserved : goal.loop-head-preserved
loop-head-preserved c =
    let step = c.loop-head in
    let all = c.args.letters.now in
    let within = c.loop-head-test.true in
    let long = step.auto.heads in
    let less : step.head-index < length step.heads = omega (arith, within, long) in
    let head = get_or step.heads step.head-index c.head-item.result in
    let is = ap (λ (h : Head). get_or step.heads step.head-index h) (sym c.head-item.is) in
    let whole = head_whole step.letters all step.heads step.head-index head less is step.invariant.left in
    record {
      left = head_behind step.letters all step.heads step.head-index head less is step.invariant.left c.write_head.new.letters _ (drop-set-lt (step.head-index + 1) step.heads step.head-index c.write_head.new.head (omega arith))
          c.in_ok-write_head.ensures.rest c.write_head.ensures.long;
      wrote = next_written (λ h. entry_lines (whole_entry all h)) step.heads step.head-index c.head-item.result c.write_head.new.head step.out _ _ less step.invariant.wrote
          (c.in_ok-write_head.ensures.lines ∙ ap (λ e. step.out ++ entry_lines e) whole);
    }

pub returns : goal.returns
returns c =
    let step = c.loop-head in
    let all = c.args.letters.now in
    let end = c.loop-head-test.false in
    let long = step.auto.heads in
    let over : length step.heads ≤ step.head-index = omega (arith, end, long) in
    all_written (λ h. entry_lines (whole_entry all h)) step.heads step.head-index step.out _ over step.invariant.wrote ∙ ap (λ l. c.args.out.now ++ l) (lines_by_heads all c.args.heads.now)
