use Rattle.std.proofs.Common.{◌≡◌, ◌∷◌, ◌++◌, take}
use Rattle.std.specs.Prelude.{filter, nat_lt}
use Rattle.view_change.proofs.entering.with_vote.Given as goal

abbrev pub invariant-below : goal.invariant-below
invariant-below l = l.joined ≡ filter (λ m. nat_lt m l.member) (take l.vote-index l.vote-items)

abbrev pub invariant-above : goal.invariant-above
invariant-above l = l.joined ≡ filter (λ m. nat_lt m l.member) l.votes ++ l.member ∷ filter (λ m. nat_lt l.member m) (take l.vote-index l.vote-items)
