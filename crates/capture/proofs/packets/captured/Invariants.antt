use Rattle.std.proofs.Common.{◌≡◌, ◌+◌, drop, []}
use Rattle.std.specs.BTreeMap.{get}
use Rattle.std.specs.Ordering.{nat_cmp}
use Rattle.capture_laws.specs.Packets.{with_entries}
use Rattle.capture.specs.Tapes.{IsTape}
use Rattle.capture.proofs.packets.captured.Given as goal

abbrev pub invariant-entries : goal.invariant-entries
invariant-entries l =
    IsTape l.tape
    × (with_entries (get nat_cmp l.fates) (l.place + 1) (drop l.place l.journal) l.tape.packets ≡ with_entries (get nat_cmp l.fates) 1 l.journal [])
