use Rattle.std.proofs.Common.{◌≡◌, ◌-◌, length, take}
use Rattle.journal.specs.declared.journal.Actor.{Actor}
use Rattle.journal.specs.Places.{queue_of, letters_to}
use Rattle.journal.proofs.queues.Queues.pop_each.Given as goal

abbrev pub invariant-loop-index : goal.invariant-loop-index
invariant-loop-index g l = record {
  queues : (a : Actor) → queue_of l.self a ≡
      take (length (queue_of l.fn.self a) - length (letters_to a (take l.index l.letters))) (queue_of l.fn.self a);
  order : l.self.order ≡ l.fn.self.order;
}
