use Rattle.std.proofs.Common.{◌≤◌, ◌<◌, length, arith}
use Rattle.report.specs.Report.{letter_line}
use Rattle.report.proofs.Written.{all_written, next_written}
use Rattle.report.proofs.lines.write_letters.Goals as goal

pub loop-letter-preserved : goal.loop-letter-preserved
loop-letter-preserved c =
    let step = c.loop-letter in
    let within = c.loop-letter-test.true in
    let long = step.auto.letters in
    let less : step.letter-index < length step.letters = omega (arith, within, long) in
    record { wrote = next_written letter_line step.letters step.letter-index c.letter-item.result c.write_letter.new.letter step.out _ _ less step.invariant.wrote c.in_ok-write_letter.ensures }

pub returns : goal.returns
returns c =
    let step = c.loop-letter in
    let end = c.loop-letter-test.false in
    let long = step.auto.letters in
    let over : length step.letters ≤ step.letter-index = omega (arith, end, long) in
    all_written letter_line step.letters step.letter-index step.out _ over step.invariant.wrote
