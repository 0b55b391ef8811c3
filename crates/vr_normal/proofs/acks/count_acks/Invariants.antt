use Rattle.std.proofs.Common.{◌≡◌, ◌≤◌}
use Rattle.std.specs.Prelude.{count_by, nat_le, slice_index}
use Rattle.vr_log.specs.Members.{others_below}
use Rattle.vr_normal.proofs.acks.count_acks.Given as goal

abbrev pub invariant-loop-member : goal.invariant-loop-member
invariant-loop-member l = record {
  counted : l.count ≡ count_by (λ j. nat_le l.op (slice_index l.state.acked j)) (others_below l.state.me l.member);
  small : l.count ≤ l.member;
}
