use Rattle.std.proofs.Common.{◌≡◌, ◌++◌, map}
use Rattle.journal.specs.Mailbags.{letter_of}
use Rattle.journal.proofs.packed.letters_of.Given as goal

abbrev pub invariant-loop-slip : goal.invariant-loop-slip
invariant-loop-slip l = record {
  rest : l.fn.slips.items ≡ l.yielded ++ l.slip-iterator.rest.items;
  letters : l.letters.items ≡ map (letter_of l.bytes) l.yielded;
}
