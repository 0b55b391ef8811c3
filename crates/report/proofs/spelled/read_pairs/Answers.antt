use Rattle.std.proofs.Common.{arith}
use Rattle.report.proofs.Steps.{byte_read, bytes_read, digits_behind}
use Rattle.report.proofs.spelled.read_pairs.Goals as goal

pub loop-byte-preserved : goal.loop-byte-preserved
loop-byte-preserved c =
    let digits = c.args.digits.now in
    let room = c.loop-byte.room in
    let rest = c.loop-byte.rest.now in
    let inv = c.loop-byte.invariant in
    let split = c.split_at.ensures in
    let less = c.loop-byte-test.true in
    let same = c.loop-byte.auto.room in
    let pairs = c.requires.pairs in
    let left = inv.left in
    let behind = split.back_len in
    record {
      read = rw split.back (byte_read digits room rest c.loop-byte.byte-index _ _ (omega (arith, less, pairs, left)) (omega (arith, less, same)) (rw split.front at c.value_of.ensures.value) (rw split.front at c.value_of-in-loop-byte.ensures.value) inv.read);
      left = omega (arith, behind, left);
      digits = rw split.back (digits_behind rest inv.digits);
    }

pub returns : goal.returns
returns c =
    let over = c.loop-byte-test.false in
    let same = c.loop-byte.auto.room in
    let end = c.loop-byte.auto.byte-index-end in
    let pairs = c.requires.pairs in
    let left = c.loop-byte.invariant.left in
    bytes_read c.args.digits.now c.loop-byte.room c.loop-byte.rest.now c.loop-byte.byte-index (omega (arith, over, end, pairs, left)) (omega (arith, over, same)) c.loop-byte.invariant.read
