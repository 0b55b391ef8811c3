use Rattle.std.proofs.Common.{◌≡◌, ◌≤◌, [], length}
use Rattle.vr_codec.specs.Reading.{entries_at}
use Rattle.vr_codec.proofs.entries.read_entries.Given as goal

abbrev pub invariant-entries : goal.invariant-entries
invariant-entries l = record {
  whole : entries_at (length l.bytes) l.left l.entries l.rest ≡ entries_at (length l.bytes) l.count [] l.bytes;
  shorter : length l.rest ≤ length l.bytes;
}

abbrev pub decreases-entries : goal.decreases-entries
decreases-entries l = l.left
