use Rattle.std.proofs.Common.{◌≡◌, ℕ, take}
use Rattle.std.specs.BTreeMap.{get}
use Rattle.std.specs.Option.{option_or}
use Rattle.std.specs.Ordering.{nat_cmp}
use Rattle.journal.specs.Pool.{numbered_letters}
use Rattle.chart.specs.Arrows.{sent_among}
use Rattle.chart.proofs.packets.note_letters.Given as goal

abbrev pub invariant-letters : goal.invariant-letters
invariant-letters l =
    (id : ℕ) → get nat_cmp l.sent id ≡ option_or (sent_among id l.place (numbered_letters l.first l.sender (take l.index l.letters))) (get nat_cmp l.initial.sent id)
