use Rattle.std.proofs.Common.{rules, ℕ, ◌∙◌, ◌≡◌, ◌<◌, ◌≤◌, ◌+◌, ◌++◌, ◌∷◌, [], List, min, arith, length, sym, subst, vec_capacity, IsPermutation}
use Rattle.std.proofs.lemmas.List.Sorted.{length_permutation}
use Rattle.std.specs.HashSet.{spare}
use Rattle.dispatcher.specs.Marks.{KeptMarks, AreWithin}
use Rattle.dispatcher.proofs.Finding.{found_is, noted_within, put_in_both}
use Rattle.dispatcher.proofs.Rooms.{insert_room}
use Rattle.dispatcher.proofs.marks.ViewMarks.note_result.Goals as goal

pub invariant_of-self : goal.invariant_of-self
invariant_of-self c =
    let e = c.insert.ensures in
    let absent = found_is _ _ _ _ _ _ c.self.invariant.0 c.self.view_is ∙ sym c.has_result.ensures ∙ c.if-has_result.false in
    let pushed : c.push.new.self.items ≡ c.self.inside.acked.items ++ (c.args.switch, c.args.life, c.args.number) ∷ [] = search rules in
    let found = put_in_both c.insert.result _ _ _ _ _ (sym c.is_ok.ensures.value ∙ c.if-is_ok.true) absent e.added e.keys c.self.invariant.0 in
    let within =
    noted_within (record { confirmed = c.self.inside.confirmed; acked = c.self.inside.acked.items }) _ _ _ _ _ c.self.invariant.1 c.raise.ensures.reached c.raise.ensures.kept in (
      subst (λ (l : List (ℕ × ℕ × ℕ)). IsPermutation l c.insert.new.self.keys) (sym pushed) found,
      subst (λ (l : List (ℕ × ℕ × ℕ)). AreWithin (record { confirmed = c.self.inside.confirmed; acked = l }) c.raise.new.self) (sym pushed) within,
    )

pub returns-then-is_ok-clause-room : goal.returns-then-is_ok-clause-room
returns-then-is_ok-clause-room c =
    let e = c.insert.ensures in
    let absent = found_is _ _ _ _ _ _ c.self.invariant.0 c.self.view_is ∙ sym c.has_result.ensures ∙ c.if-has_result.false in
    let more = insert_room c.insert.result _ _ _ _ _ e.added e.len e.err e.succeeds e.spare absent in
    let capacity = c.push.ensures.capacity in
    subst (λ (m : KeptMarks). m.room ≤ min (vec_capacity c.push.new.self) (length c.insert.new.self.keys + spare c.insert.new.self)) c.self.view_is (omega (arith, more, capacity))

pub returns-else-is_ok-clause-first : goal.returns-else-is_ok-clause-first
returns-else-is_ok-clause-first c = λ new there.
    let both = length_permutation c.self.inside.acked.items c.self.inside.found.keys c.self.invariant.0 in
    let fits : length c.self.inside.acked.items < min (vec_capacity c.self.inside.acked) (length c.self.inside.found.keys + spare c.self.inside.found) =
    subst (λ (m : KeptMarks). length m.marks.acked < m.room) (sym c.self.view_is) there in
    let put = c.insert.ensures.succeeds (omega (arith, both, fits)) in
    absurd cc (put, c.is_ok.ensures.value, c.if-is_ok.false)
