use Rattle.std.proofs.Common.{◌≤◌, ◌<◌, length, arith}
use Rattle.report.specs.Report.{entry_lines}
use Rattle.report.proofs.Written.{all_written, next_written}
use Rattle.report.proofs.lines.write_entries.Goals as goal

pub loop-told-preserved : goal.loop-told-preserved
loop-told-preserved c =
    let step = c.loop-told in
    let within = c.loop-told-test.true in
    let long = step.auto.entries in
    let less : step.told-index < length step.entries = omega (arith, within, long) in
    record { wrote = next_written entry_lines step.entries step.told-index c.told-item.result c.write_entry.new.told step.out _ _ less step.invariant.wrote c.in_ok-write_entry.ensures }

pub returns : goal.returns
returns c =
    let step = c.loop-told in
    let end = c.loop-told-test.false in
    let long = step.auto.entries in
    let over : length step.entries ≤ step.told-index = omega (arith, end, long) in
    all_written entry_lines step.entries step.told-index step.out _ over step.invariant.wrote
