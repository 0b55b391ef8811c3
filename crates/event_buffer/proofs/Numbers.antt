-- Events numbered on from a number.
use Rattle.std.proofs.Common.{◌≡◌, ℕ, ◌+◌, ◌-◌, ◌≤◌, ◌<◌, false, List, [], ◌∷◌, ◌++◌, length, drop, arith, suc, zero, subst}
use Rattle.std.proofs.lemmas.Bool.{leb-false}
use Rattle.of_types.specs.declared.message.Event.{Event}
use Rattle.event_buffer.specs.Buffer.{Buffer, AreNumbered, is_full}

-- the next event joins
pub numbered-push : (switch life number : ℕ) (events : List Event) (e : Event) → AreNumbered switch life number events → e.switch ≡ switch → e.life ≡ life → e.number ≡ number + length events → AreNumbered switch life number (events ++ e ∷ [])
numbered-push switch life number [] e known s l n = (s, l, (omega arith), tt)
numbered-push switch life number (first ∷ events) e known s l n =
    (known.0, known.1, known.2, numbered-push switch life (number + 1) events e known.3 s l (omega arith))

-- events leave at the front
pub numbered-drop : (switch life number count : ℕ) (events : List Event) → AreNumbered switch life number events → count ≤ length events → AreNumbered switch life (number + count) (drop count events)
numbered-drop switch life number zero events known h =
    let same : number ≡ number + zero = omega arith in subst (λ (n : ℕ). AreNumbered switch life n events) same known
numbered-drop switch life number (suc count) [] known h = absurd (omega (arith, h))
numbered-drop switch life number (suc count) (first ∷ events) known h =
    let same : number + 1 + count ≡ number + suc count = omega arith in
    subst (λ (n : ℕ). AreNumbered switch life n (drop count events)) same (numbered-drop switch life (number + 1) count events known.3 (omega arith))

-- the same, by the number of the first that stays
pub numbered_from : (switch life number first : ℕ) (events : List Event) → AreNumbered switch life number events → number ≤ first → first - number ≤ length events → AreNumbered switch life first (drop (first - number) events)
numbered_from switch life number first events known low high =
    let same : number + (first - number) ≡ first = omega arith in
    subst (λ (n : ℕ). AreNumbered switch life n (drop (first - number) events)) same (numbered-drop switch life number (first - number) events known high)

-- a buffer that is not full has room
pub has_room : (b : Buffer) → is_full b ≡ false → length b.held < 256
has_room b h = leb-false 256 (length b.held) h
