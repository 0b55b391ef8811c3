use Rattle.std.proofs.Common.{◌≡◌, ◌++◌, map, drop}
use Rattle.std.specs.Prelude.{sum_by}
use Rattle.std.specs.Vec.Iter.{into_iter_items}
use Rattle.journal.specs.Entries.{letter_count, whole_entry}
use Rattle.journal.proofs.entries.entries_of.Given as goal

abbrev pub invariant-loop-head : goal.invariant-loop-head
invariant-loop-head g l = record {
  rest : l.fn.heads.items ≡ l.yielded ++ l.head-iterator.rest.items;
  left : into_iter_items l.letters ≡ drop (sum_by letter_count l.yielded) l.fn.letters.items;
  journal : l.journal.items ≡ map (whole_entry l.fn.letters.items) l.yielded;
}
