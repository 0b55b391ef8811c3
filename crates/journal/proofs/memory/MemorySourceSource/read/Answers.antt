use Rattle.std.proofs.Common.{◌≡◌, ◌<◌, ℕ, ◌+◌, ◌-◌, min, List, [], ◌++◌, length, take, drop, sym, ap, ◌∙◌, arith, take_all, refl}
use Rattle.std.proofs.lemmas.List.{take-append-drop, length-drop, drop-drop, drop_all}
use Rattle.journal.proofs.memory.MemorySourceSource.read.Goals as goal

-- a piece was given of what is left, and it is empty only at the end or with no room
gives_piece : (bytes left rest before after : List ℕ) (given most count : ℕ) →
    left ≡ drop given bytes → rest ≡ take (length bytes - given) (drop given bytes) → 0 < most → count ≡ min (min (length rest) (length before)) most →
    length after ≡ length before → take count after ≡ take count rest →
    (left ≡ take count after ++ drop (given + count) bytes) × (count ≡ 0 → 0 < length after → drop (given + count) bytes ≡ [])
gives_piece bytes left rest before after given most count left_is rest_is some count_is same piece =
    let all : rest ≡ drop given bytes = rest_is ∙ take_all (length bytes - given) (drop given bytes) (omega (arith, length-drop given bytes)) in (
      left_is
          ∙ sym (take-append-drop count (drop given bytes))
          ∙ ap (λ xs. xs ++ drop count (drop given bytes)) (sym (piece ∙ ap (λ xs. take count xs) all))
          ∙ ap (λ xs. take count after ++ xs) (drop-drop count given bytes),
      λ none room. drop_all (given + count) bytes (omega (arith, length-drop given bytes, ap length all)),
    )

pub returns-clause-bytes : goal.returns-clause-bytes
returns-clause-bytes c =
    let copied = rw c.as_slice.ensures at c.copy_front-count.ensures in
    gives_piece c.self.inside.bytes c.args.self.now.bytes _ c.args.into.now c.copy_front-count.new.into c.self.inside.given c.self.inside.most c.copy_front-count.result
    (sym (ap (λ s. s.bytes) c.self.view_is)) refl c.self.invariant.1 copied.count copied.len copied.bytes

-- as many are given as are left and find room, and at most so many
gives_count : (bytes left rest before after : List ℕ) (given most count : ℕ) →
    left ≡ drop given bytes → rest ≡ take (length bytes - given) (drop given bytes) → count ≡ min (min (length rest) (length before)) most → length after ≡ length before →
    count ≡ min (min (length left) (length after)) most
gives_count bytes left rest before after given most count left_is rest_is count_is same =
    let all : rest ≡ drop given bytes = rest_is ∙ take_all (length bytes - given) (drop given bytes) (omega (arith, length-drop given bytes)) in
    rw (left_is, same, ← all) count_is

pub returns-clause-count : goal.returns-clause-count
returns-clause-count c =
    let copied = rw c.as_slice.ensures at c.copy_front-count.ensures in
    gives_count c.self.inside.bytes c.args.self.now.bytes _ c.args.into.now c.copy_front-count.new.into c.self.inside.given c.args.self.now.most c.copy_front-count.result
    (sym (ap (λ s. s.bytes) c.self.view_is)) refl (rw (ap (λ s. s.most) c.self.view_is) at copied.count) copied.len

pub returns-then-next_fails-clause-fails : goal.returns-then-next_fails-clause-fails
returns-then-next_fails-clause-fails c = rw (← c.self.view_is) c.if-next_fails.ensures.failing

pub returns-clause-fails : goal.returns-clause-fails
returns-clause-fails c = rw (← c.self.view_is) c.if-next_fails.ensures.failing
