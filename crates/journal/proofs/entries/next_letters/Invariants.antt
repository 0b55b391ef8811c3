use Rattle.std.proofs.Common.{◌≡◌, drop, take}
use Rattle.std.specs.Vec.Iter.{into_iter_items}
use Rattle.journal.proofs.entries.next_letters.Given as goal

abbrev pub invariant-loop : goal.invariant-loop
invariant-loop g l = record {
  post : l.post.items ≡ take l.counter (into_iter_items l.fn.letters);
  left : into_iter_items l.letters ≡ drop l.counter (into_iter_items l.fn.letters);
}
