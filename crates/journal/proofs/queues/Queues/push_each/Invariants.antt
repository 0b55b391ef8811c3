use Rattle.std.proofs.Common.{◌≡◌, ◌++◌, take}
use Rattle.journal.specs.declared.journal.Actor.{Actor}
use Rattle.journal.specs.Places.{queue_of, sent_to, placed}
use Rattle.journal.proofs.queues.Queues.push_each.Given as goal

abbrev pub invariant-loop-letter : goal.invariant-loop-letter
invariant-loop-letter g l = record {
  queues : (a : Actor) → queue_of l.self a ≡ queue_of l.fn.self a ++ sent_to a (placed l.first l.from (take l.letter l.letters));
  order : l.self.order ≡ l.fn.self.order;
}
