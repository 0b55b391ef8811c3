-- Which events of a life stand between two numbers: the events of a life are numbered by their places, so that those from a
-- number on are those behind a place.
use Rattle.std.proofs.Common.{◌≡◌, ◌≤◌, ◌<◌, ℕ, ◌+◌, ◌-◌, min, max, zero, suc, List, [], ◌∷◌, ◌++◌, length, filter, take, drop, refl, sym, ◌∙◌, ap, arith, inl, inr, take-append-drop, length-append, length-take}
use Rattle.std.specs.Prelude.{nat_le, slice_get, Some}
use Rattle.std.proofs.lemmas.Bool.{cases_lt, le-leb, lt-leb}
use Rattle.std.proofs.lemmas.List.{drop-drop, drop-take, drop_all, drop-append-le, length-drop, take-append-le, take-take, take_min}
use Rattle.of_types.specs.declared.message.Event.{Event}
use Rattle.list_facts.specs.Lists.{IsIn}
use Rattle.list_facts.proofs.Places.{get_dropped, in_get}
use Rattle.list_facts.proofs.Prefixes.{append_filter}
use Rattle.of_switch.specs.Events.{window}

module _ {A : Type 0} where
  -- what stands from a place up to another
  pub window_is : (lo hi : ℕ) (xs : List A) → take (hi - lo) (drop lo xs) ≡ drop lo (take hi xs)
  window_is lo hi xs = elim (cases_lt hi lo) [
    | inl beyond ↦
        let none : hi - lo ≡ 0 = omega (arith, beyond) in
        let few = length-take hi xs in
        rw none (sym (drop_all lo (take hi xs) (omega (arith, beyond, few))))
    | inr within ↦ let whole : lo + (hi - lo) ≡ hi = omega (arith, within) in sym (drop-take lo (hi - lo) xs) ∙ ap (λ (n : ℕ). drop lo (take n xs)) whole
  ]

  -- the first of two lists one behind the other
  pub take_append : (n : ℕ) (xs ys : List A) → take n (xs ++ ys) ≡ take n xs ++ take (n - length xs) ys
  take_append zero xs ys = let none : 0 - length xs ≡ 0 = omega arith in rw none refl
  take_append (suc n) [] ys = let all : suc n - 0 ≡ suc n = omega arith in rw all refl
  take_append (suc n) (x ∷ xs) ys =
      let one : suc n - suc (length xs) ≡ n - length xs = omega arith in rw one (ap (λ (l : List A). x ∷ l) (take_append n xs ys))

  -- both parts behind a place
  pub windows_join : (g sent low : ℕ) (xs : List A) → sent ≤ length xs → low ≤ g → drop g (take sent xs) ++ drop (max (max sent low) g) xs ≡ drop g xs
  windows_join g sent low xs enough below = elim (cases_lt sent g) [
    | inl beyond ↦
        let few = length-take sent xs in
        let most : max (max sent low) g ≡ g = omega (arith, beyond, below) in
        rw (most, drop_all g (take sent xs) (omega (arith, beyond, few))) refl
    | inr within ↦
        let few = length-take sent xs in
        let most : max (max sent low) g ≡ sent = omega (arith, within, below) in
        rw most (sym (drop-append-le g (take sent xs) (drop sent xs) (omega (arith, within, few, enough))) ∙ ap (λ (l : List A). drop g l) (take-append-drop sent xs))
  ]

-- events stand where their numbers say, from a number on
abbrev pub StandFrom : ℕ → List Event → Type 0
StandFrom from events = (i : ℕ) (e : Event) → slice_get events i ≡ Some e → e.number ≡ from + i

-- those of such events that are not below a number
pub from_number : (g from : ℕ) (events : List Event) → StandFrom from events → filter (λ e. nat_le g e.number) events ≡ drop (g - from) events
from_number g from [] stand = sym (drop_all (g - from) [] (omega arith))
from_number g from (e ∷ events) stand =
    let here : e.number ≡ from + 0 = stand 0 e refl in
    let rest : filter (λ x. nat_le g x.number) events ≡ drop (g - (from + 1)) events = from_number g (from + 1) events (λ i x at. let so = stand (suc i) x at in omega (arith, so)) in
    elim (cases_lt from g) [
      | inl below ↦
          let more : g - from ≡ suc (g - (from + 1)) = omega (arith, below) in
          rw (lt-leb g e.number (omega (arith, below, here)), more) rest
      | inr above ↦
          let none : g - from ≡ 0 = omega (arith, above) in
          let none_more : g - (from + 1) ≡ 0 = omega (arith, above) in
          rw (le-leb g e.number (omega (arith, above, here)), none) (ap (λ (l : List Event). e ∷ l) (rest ∙ ap (λ (n : ℕ). drop n events) none_more))
    ]

-- the same, of some of the events of a life
pub window_stands : (lo hi from : ℕ) (events : List Event) → StandFrom from events → StandFrom (from + lo) (drop lo (take hi events))
window_stands lo hi from events stand i e at =
    let there : slice_get events (lo + i) ≡ Some e = get_dropped lo (hi - lo) events i e (ap (λ (l : List Event). slice_get l i) (window_is lo hi events) ∙ at) in
    let so = stand (lo + i) e there in omega (arith, so)

pub window_from : (g lo hi : ℕ) (events : List Event) → StandFrom 0 events → filter (λ e. nat_le g e.number) (drop lo (take hi events)) ≡ drop (max lo g) (take hi events)
window_from g lo hi events stand =
    let most : lo + (g - (0 + lo)) ≡ max lo g = omega arith in
    from_number g (0 + lo) (drop lo (take hi events)) (window_stands lo hi 0 events stand) ∙ drop-drop (g - (0 + lo)) lo (take hi events) ∙ ap (λ (n : ℕ). drop n (take hi events)) most

-- an event of some of them stands where its number says
pub window_at : (lo hi : ℕ) (events : List Event) → StandFrom 0 events → (e : Event) → IsIn e (drop lo (take hi events)) → slice_get events e.number ≡ Some e
window_at lo hi events stand e among =
    let at = in_get (drop lo (take hi events)) e among in
    let there : slice_get events (lo + at.0) ≡ Some e = get_dropped lo (hi - lo) events at.0 e (ap (λ (l : List Event). slice_get l at.0) (window_is lo hi events) ∙ at.1) in
    let number : lo + at.0 ≡ e.number = let so = stand (lo + at.0) e there in omega (arith, so) in
    ap (λ (n : ℕ). slice_get events n) (sym number) ∙ there

-- ---- what leaves the buffer, and what comes among its first

-- up to which number events were sent, where so many of them left
abbrev pub sent_to : ℕ → List Event → ℕ
sent_to gone events = min (length events) (gone + window)

-- where more leave, and more are made, these are sent
pub sent_anew : (from to : ℕ) (events more : List Event) → from ≤ to → to ≤ length events →
    drop (window - (to - from)) (take window (drop to events)) ++ take (window - length (drop to events)) more ≡ drop (max (sent_to from events) to) (take (to + window) (events ++ more))
sent_anew from to events more up within =
    ap (λ (l : List Event). drop (window - (to - from)) l ++ take (window - length (drop to events)) more) (sym (drop-take to window events))
    ∙ ap (λ (l : List Event). l ++ take (window - length (drop to events)) more) (drop-drop (window - (to - from)) to (take (to + window) events) ∙ first)
    ∙ ap (λ (n : ℕ). drop (max (sent_to from events) to) (take (to + window) events) ++ take n more) room
    ∙ sym (drop-append-le (max (sent_to from events) to) (take (to + window) events) (take (to + window - length events) more) (let n = length-take (to + window) events in omega (arith, n, within, up)))
    ∙ ap (λ (l : List Event). drop (max (sent_to from events) to) l) (sym (take_append (to + window) events more))
  where
    room : window - length (drop to events) ≡ to + window - length events
    room = let n = length-drop to events in omega (arith, n, within)

    first : drop (to + (window - (to - from))) (take (to + window) events) ≡ drop (max (sent_to from events) to) (take (to + window) events)
    first = elim (cases_lt (length events) (to + (window - (to - from)))) [
      | inl beyond ↦
          let n = length-take (to + window) events in
          drop_all (to + (window - (to - from))) (take (to + window) events) (omega (arith, n, beyond))
          ∙ sym (drop_all (max (sent_to from events) to) (take (to + window) events) (omega (arith, n, beyond, up, within)))
      | inr inside ↦
          let same : to + (window - (to - from)) ≡ max (sent_to from events) to = omega (arith, inside, up, within) in
          ap (λ (n : ℕ). drop n (take (to + window) events)) same
    ]

-- of those that are not logged those that were sent are on their way, also then
pub coming_anew : (g from to : ℕ) (events more said new : List Event) → StandFrom 0 (events ++ more) → from ≤ to → to ≤ length events → to ≤ g →
    filter (λ e. nat_le g e.number) said ≡ take (sent_to from events - g) (drop g events) →
    new ≡ drop (max (sent_to from events) to) (take (to + window) (events ++ more)) →
    filter (λ e. nat_le g e.number) (said ++ new) ≡ take (sent_to to (events ++ more) - g) (drop g (events ++ more))
coming_anew g from to events more said new stand up within low coming is =
    append_filter (λ (e : Event). nat_le g e.number) said new
    ∙ ap (λ (l : List Event). l ++ filter (λ e. nat_le g e.number) new) (coming ∙ window_is g (sent_to from events) events ∙ ap (λ (l : List Event). drop g l) before)
    ∙ ap (λ (l : List Event). drop g (take (sent_to from events) all) ++ filter (λ e. nat_le g e.number) l) is
    ∙ ap (λ (l : List Event). drop g (take (sent_to from events) all) ++ l) (window_from g (max (sent_to from events) to) (to + window) (events ++ more) stand)
    ∙ windows_join g (sent_to from events) to all enough low
    ∙ ap (λ (l : List Event). drop g l) (sym whole)
    ∙ sym (window_is g (sent_to to (events ++ more)) (events ++ more))
  where
    all : List Event
    all = take (to + window) (events ++ more)

    enough : sent_to from events ≤ length all
    enough = let n = length-take (to + window) (events ++ more) in let m = length-append events more in omega (arith, n, m, up, within)

    before : take (sent_to from events) events ≡ take (sent_to from events) all
    before = sym (take-take (sent_to from events) (to + window) (events ++ more) (omega (arith, up)) ∙ take-append-le (sent_to from events) events more (omega arith))

    whole : take (sent_to to (events ++ more)) (events ++ more) ≡ all
    whole =
        let turned : sent_to to (events ++ more) ≡ min (to + window) (length (events ++ more)) = omega arith in
        ap (λ (n : ℕ). take n (events ++ more)) turned ∙ take_min (to + window) (events ++ more)

-- all of the first that are held, to one who was told none of them
pub coming_first : (g gone : ℕ) (events : List Event) → StandFrom 0 events → gone ≤ g →
    filter (λ e. nat_le g e.number) (take window (drop gone events)) ≡ take (sent_to gone events - g) (drop g events)
coming_first g gone events stand low =
    let most : max gone g ≡ g = omega (arith, low) in
    let turned : sent_to gone events ≡ min (gone + window) (length events) = omega arith in
    ap (λ (l : List Event). filter (λ e. nat_le g e.number) l) (sym (drop-take gone window events))
    ∙ window_from g gone (gone + window) events stand
    ∙ ap (λ (n : ℕ). drop n (take (gone + window) events)) most
    ∙ ap (λ (l : List Event). drop g l) (sym (ap (λ (n : ℕ). take n events) turned ∙ take_min (gone + window) events))
    ∙ sym (window_is g (sent_to gone events) events)

-- and the first of them is the first that was not cleared
pub first_held_is : (gone : ℕ) (events : List Event) → gone < length events → (e : Event) × IsIn e (take window (drop gone events)) × (slice_get events gone ≡ Some e)
first_held_is gone [] less = absurd (omega (arith, less))
first_held_is zero (e ∷ events) less = (e, inl refl, refl)
first_held_is (suc gone) (e ∷ events) less = first_held_is gone events (omega (arith, less))
