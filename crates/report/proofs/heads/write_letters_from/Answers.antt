use Rattle.std.proofs.Common.{◌<◌, ◌≡◌, ◌+◌, ◌-◌, ap, arith, drop, length, sym, ◌∙◌}
use Rattle.journal.proofs.Lists.{drop_more}
use Rattle.report.proofs.HeadLines.{next_letter, no_letter}
use Rattle.report.proofs.heads.write_letters_from.Goals as goal

pub loop-index-preserved : goal.loop-index-preserved
loop-index-preserved c =
    let step = c.loop-index in
    let all = c.args.letters.now in
    let less = c.loop-index-test.true in
    let most = c.requires in
    let long = step.invariant.long in
    let begun = step.invariant.begun in
    let within : step.index < length step.letters = omega (arith, less, most, long) in
    record {
      begun = omega (arith, begun);
      wrote = next_letter step.letters all step.index (c.args.first + c.args.count) step.out c.write_letter_at.new.out _ less within step.invariant.rest step.invariant.wrote c.in_ok-write_letter_at.ensures.line;
      rest = c.write_letter_at.ensures.rest ∙ sym (drop_more step.index 1 step.letters) ∙ ap (λ l. drop 1 l) step.invariant.rest ∙ drop_more step.index 1 all;
      long = c.write_letter_at.ensures.long ∙ long;
    }

pub returns-clause-lines : goal.returns-clause-lines
returns-clause-lines c =
    let step = c.loop-index in
    let over = c.loop-index-test.false in
    let none : c.args.first + c.args.count - step.index ≡ 0 = omega (arith, over) in
    no_letter (drop step.index c.args.letters.now) step.out _ (c.args.first + c.args.count - step.index) none step.invariant.wrote
