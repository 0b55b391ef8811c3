use Rattle.std.proofs.Common.{ℕ, List, ◌≤◌, ◌+◌, min, filter, length, sym, subst, vec_capacity, IsPermutation}
use Rattle.std.specs.HashSet.{spare}
use Rattle.dispatcher.specs.Ledger.{has_pending}
use Rattle.dispatcher.specs.Marks.{AreWithin, KeptMarks}
use Rattle.dispatcher.proofs.Forgetting.{filters_permute, kept_room, kept_within}
use Rattle.dispatcher.proofs.marks.ViewMarks.forget_settled.Goals as goal

pub invariant_of-self : goal.invariant_of-self
invariant_of-self c =
    let listed = c.keep_listed.ensures.kept in
    let pending = has_pending c.args.ledger.now in
    rw c.keep_found.ensures.kept (
      subst (λ (l : List (ℕ × ℕ × ℕ)). IsPermutation l (filter (λ a. pending a.0 a.1 a.2) c.self.inside.found.keys)) (sym listed) (filters_permute (λ a. pending a.0 a.1 a.2) _ _ c.self.invariant.0),
      subst (λ (l : List (ℕ × ℕ × ℕ)). AreWithin (record { confirmed = c.self.inside.confirmed; acked = l }) c.self.inside.highest) (sym listed)
          (kept_within pending (record { confirmed = c.self.inside.confirmed; acked = c.self.inside.acked.items }) _ c.self.invariant.1),
    )

pub returns-clause-room : goal.returns-clause-room
returns-clause-room c =
    let pending = has_pending c.args.ledger.now in
    let listed = c.keep_listed.ensures in
    let found = c.keep_found.ensures in
    subst (λ (m : KeptMarks). m.room + length c.keep_listed.new.commands.items ≤ min (vec_capacity c.keep_listed.new.commands) (length c.keep_found.new.commands.keys + spare c.keep_found.new.commands) + length m.marks.acked) c.self.view_is
    (kept_room (λ a. pending a.0 a.1 a.2) c.self.inside.acked.items c.self.inside.found.keys _ _ _ _ _ _ c.self.invariant.0 listed.kept found.kept listed.room found.room)
