use Rattle.std.proofs.Common.{sym, ◌∙◌, arith, true, false}
use Rattle.two_stage_log.proofs.Fronts.{received_at, processed_at, counted_on, none_on}
use Rattle.two_stage_log.proofs.counts.count_first.Goals.{in-Received+then-left-gt0+then-is_of, in-Received+then-left-gt0+else-is_of, in-Received+else-left-gt0, in_default}
use Rattle.two_stage_log.proofs.counts.count_first.Goals as goal

pub loop-entry-preserved : goal.loop-entry-preserved
loop-entry-preserved c =
    let entries = c.args.entries.now in let at = c.loop-entry.entry-index in let item = c.entry-item.result in let inv = c.loop-entry.invariant in
    let s = inv.small in
    elim c.match-entry.branch [
      | in-Received+then-left-gt0+then-is_of w ↦ record {
        counted = rw w.left-is (counted_on c.args.switch c.args.life c.loop-entry.left c.loop-entry.count c.match-entry.count _ w.in-Received.event _ _ true (sym w.is_of.ensures ∙ w.if-is_of.true) w.if-left-gt0.true
            (received_at entries at item w.in-Received.event c.loop-entry-test.true c.entry-item.is w.in-Received.is) inv.counted (omega (arith, w.count-is)));
        small = let e = w.count-is in omega arith;
      }
      | in-Received+then-left-gt0+else-is_of w ↦ record {
        counted = rw w.left-is (counted_on c.args.switch c.args.life c.loop-entry.left c.loop-entry.count c.match-entry.count _ w.in-Received.event _ _ false (sym w.is_of.ensures ∙ w.if-is_of.false) w.if-left-gt0.true
            (received_at entries at item w.in-Received.event c.loop-entry-test.true c.entry-item.is w.in-Received.is) inv.counted (omega (arith, w.count-is)));
        small = let e = w.count-is in omega arith;
      }
      | in-Received+else-left-gt0 w ↦ record {
        counted = rw (w.count-is, w.left-is) (none_on c.args.switch c.args.life c.loop-entry.left c.loop-entry.count _ _ _ w.if-left-gt0.false inv.counted);
        small = let e = w.count-is in omega arith;
      }
      | in_default w ↦ record {
        counted = rw (w.count-is, w.left-is, sym (processed_at entries at w.in_default.field-0 item c.loop-entry-test.true c.entry-item.is w.in_default.is)) inv.counted;
        small = let e = w.count-is in omega arith;
      }
    ]
