-- The newest of some events.
use Rattle.std.proofs.Common.{◌≡◌, ◌≤◌, ℕ, ◌+◌, ◌-◌, List, ◌++◌, length, drop, length-append, length-drop, sym, ◌∙◌, ap, arith}
use Rattle.std.proofs.lemmas.List.{drop-append-le, drop-drop}
use Rattle.of_types.specs.declared.message.Event.{Event}
use Rattle.event_buffer.specs.Buffer.{Held, newest, with_left, left_below, AreNumbered}
use Rattle.event_buffer.proofs.Numbers.{numbered_from}

-- as many are held as are counted
pub newest-count : (count : ℕ) (events : List Event) → count ≤ length events → length (newest count events) ≡ count
newest-count count events h = let size = length-drop (length events - count) events in omega (arith, size, h)

-- more events are held with those that join the list
pub newest-joined : (count more : ℕ) (events joining : List Event) → count ≤ length events → more ≡ length joining → newest (count + more) (events ++ joining) ≡ newest count events ++ joining
newest-joined count more events joining h m =
    let size = length-append events joining in
    let past : length (events ++ joining) - (count + more) ≡ length events - count = omega (arith, size, h, m) in
    ap (λ (n : ℕ). drop n (events ++ joining)) past ∙ drop-append-le (length events - count) events joining (omega arith)

-- those that leave are the oldest
pub newest-left : (count left : ℕ) (events : List Event) → count ≤ length events → left ≤ count → newest (count - left) events ≡ drop left (newest count events)
newest-left count left events h k =
    let past : length events - (count - left) ≡ length events - count + left = omega (arith, h, k) in
    ap (λ (n : ℕ). drop n events) past ∙ sym (drop-drop left (length events - count) events)

-- and those that have left stay out
pub newest-dropped : (count gone : ℕ) (events : List Event) → gone + count ≤ length events → newest count (drop gone events) ≡ newest count events
newest-dropped count gone events h =
    let size = length-drop gone events in
    let past : gone + (length (drop gone events) - count) ≡ length events - count = omega (arith, size, h) in
    drop-drop (length (drop gone events) - count) gone events ∙ ap (λ (n : ℕ). drop n events) past

-- those that stay are numbered on
pub numbered-left : (h : Held) (through : ℕ) (events : List Event) → h.count ≤ length events → AreNumbered h.switch h.life h.cleared (newest h.count events) →
    AreNumbered h.switch h.life (left_below h through) (newest (with_left h through).count events)
numbered-left h through events k known =
    let size = newest-count h.count events k in
    rw (newest-left h.count (left_below h through - h.cleared) events k (omega arith))
    (numbered_from h.switch h.life h.cleared (left_below h through) (newest h.count events) known (omega arith) (omega (arith, size)))
