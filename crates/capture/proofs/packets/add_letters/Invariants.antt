use Rattle.std.proofs.Common.{◌≡◌, drop}
use Rattle.std.specs.BTreeMap.{get}
use Rattle.std.specs.Ordering.{nat_cmp}
use Rattle.capture_laws.specs.Packets.{with_packets_of_post}
use Rattle.capture.specs.Tapes.{IsTape}
use Rattle.capture.proofs.packets.add_letters.Given as goal

abbrev pub invariant-letters : goal.invariant-letters
invariant-letters l =
    IsTape l.tape
    × (with_packets_of_post (get nat_cmp l.fates) l.posting.time l.posting.from l.posting.first l.posting.room l.index (drop l.index l.letters) l.tape.packets
    ≡ with_packets_of_post (get nat_cmp l.fates) l.posting.time l.posting.from l.posting.first l.posting.room 0 l.letters l.initial.tape.packets)
