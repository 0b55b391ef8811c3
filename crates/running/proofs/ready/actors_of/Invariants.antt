use Rattle.std.proofs.Common.{◌≡◌, ◌++◌, ℕ, map}
use Rattle.std.specs.List.{range_with_len}
use Rattle.journal.specs.declared.journal.Actor.TheVariants as actor
use Rattle.running.proofs.ready.actors_of.Given as goal

abbrev pub invariant-loop-number : goal.invariant-loop-number
invariant-loop-number l = l.actors.items ≡ map (λ (c : ℕ). actor.Controller c) (range_with_len 0 l.number)

abbrev pub invariant-loop-number-2 : goal.invariant-loop-number-2
invariant-loop-number-2 l = l.actors.items ≡ map (λ (c : ℕ). actor.Controller c) (range_with_len 0 l.fn.controllers) ++ map (λ (s : ℕ). actor.Switch s) (range_with_len 0 l.number)
