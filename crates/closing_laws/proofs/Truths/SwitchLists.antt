-- What a switch holds of its present life fits the events that it made: the buffer holds the last of them, and a later life
-- begins with the event that tells so.
use Rattle.std.proofs.Common.{◌≡◌, ◌≤◌, ◌<◌, inl, inr, ℕ, ◌+◌, ◌-◌, true, not, List, [], ◌∷◌, ◌++◌, length, drop, refl, sym, ◌∙◌, ap, subst, arith, length-append}
use Rattle.std.specs.Prelude.{nat_eq, min, max}
use Rattle.std.proofs.lemmas.Bool.{eq-eqb, ne_eqb, leb-true, both_ways, not-true}
use Rattle.std.proofs.lemmas.List.{drop-append-le, drop-drop, length-drop}
use Rattle.of_types.specs.declared.message.Event.{Event}
use Rattle.of_types.specs.Lives.{is_switch_up}
use Rattle.of_types.specs.SmallSets.{AscendWithin, without_number}
use Rattle.list_facts.specs.Lists.{IsIn}
use Rattle.list_facts.proofs.Elements.{filter_passes, in_filter}
use Rattle.list_facts.proofs.Prefixes.{filter_more, filter_same}
use Rattle.event_buffer.specs.Buffer.{Buffer, is_full, most_held}
use Rattle.run_laws.specs.OnceLaws.Facts.{events_of}

-- the first of these events tells that the switch is up
abbrev pub StartUp : List Event → Type 0
StartUp [] = ⊥
StartUp (e ∷ events) = is_switch_up e.what ≡ true

start_more : (xs : List Event) (e : Event) → StartUp xs → StartUp (xs ++ e ∷ [])
start_more [] e h = absurd h
start_more (x ∷ xs) e h = h

-- what is held of a life, behind so many that have left, and all that was made in all lives
pub record AreHeld (life cleared : ℕ) (held events : List Event) : Type 0 where
  pub held_is : held ≡ drop cleared (events_of life events)
  pub next : cleared + length held ≡ length (events_of life events)
  pub first : 0 < life → StartUp (events_of life events)
  pub later : (l : ℕ) → life < l → events_of l events ≡ []

-- one more event
pub held_more : (life cleared : ℕ) (held events : List Event) (e : Event) → e.life ≡ life → AreHeld life cleared held events → AreHeld life cleared (held ++ e ∷ []) (events ++ e ∷ [])
held_more life cleared held events e own h =
    let more : events_of life (events ++ e ∷ []) ≡ events_of life events ++ e ∷ [] = filter_more (λ (x : Event). nat_eq x.life life) events e (eq-eqb e.life life own) in
    let next = h.next in
    let long = length-append held (e ∷ []) in
    let longer = ap length more ∙ length-append (events_of life events) (e ∷ []) in
    record {
      held_is = ap (λ (l : List Event). l ++ e ∷ []) h.held_is ∙ sym (drop-append-le cleared (events_of life events) (e ∷ []) (omega (arith, next))) ∙ ap (λ (l : List Event). drop cleared l) (sym more);
      next = omega (arith, next, long, longer);
      first = λ some. subst (λ (l : List Event). StartUp l) (sym more) (start_more (events_of life events) e (h.first some));
      later = λ l less. filter_same (λ (x : Event). nat_eq x.life l) events e (ne_eqb e.life l (λ same. omega (arith, same, own, less))) ∙ h.later l less;
    }

-- the first event of a life
pub held_first : (life : ℕ) (events : List Event) (e : Event) → e.life ≡ life → is_switch_up e.what ≡ true → ((l : ℕ) → life ≤ l → events_of l events ≡ []) → AreHeld life 0 (e ∷ []) (events ++ e ∷ [])
held_first life events e own up none =
    let more : events_of life (events ++ e ∷ []) ≡ e ∷ [] =
    filter_more (λ (x : Event). nat_eq x.life life) events e (eq-eqb e.life life own) ∙ ap (λ (l : List Event). l ++ e ∷ []) (none life (omega arith)) in
    let long = ap length more in
    record {
      held_is = sym more;
      next = omega (arith, long);
      first = λ some. subst (λ (l : List Event). StartUp l) (sym more) up;
      later = λ l less. filter_same (λ (x : Event). nat_eq x.life l) events e (ne_eqb e.life l (λ same. omega (arith, same, own, less))) ∙ none l (omega (arith, less));
    }

-- events leave
pub held_less : (life cleared through : ℕ) (held events : List Event) → AreHeld life cleared held events →
    AreHeld life (max cleared (min through (cleared + length held))) (drop (max cleared (min through (cleared + length held)) - cleared) held) events
held_less life cleared through held events h =
    let next = h.next in
    let more : cleared + (max cleared (min through (cleared + length held)) - cleared) ≡ max cleared (min through (cleared + length held)) = omega arith in
    let long = length-drop (max cleared (min through (cleared + length held)) - cleared) held in
    record {
      held_is = ap (λ (l : List Event). drop (max cleared (min through (cleared + length held)) - cleared) l) h.held_is
          ∙ drop-drop (max cleared (min through (cleared + length held)) - cleared) cleared (events_of life events) ∙ ap (λ (n : ℕ). drop n (events_of life events)) more;
      next = omega (arith, next, long);
      first = h.first;
      later = h.later;
    }

-- nothing was made
pub held_none : AreHeld 0 0 [] []
held_none = record { held_is = refl; next = refl; first = λ some. absurd (omega (arith, some)); later = λ l less. refl }

-- ascending numbers are no more than their bounds allow
pub ascend_few : (low high : ℕ) (ns : List ℕ) → low ≤ high + 1 → AscendWithin low high ns → low + length ns ≤ high + 1
ascend_few low high [] room h = omega (arith, room)
ascend_few low high (n ∷ ns) room h = let least = h.0 in let most = h.1 in let r = ascend_few (n + 1) high ns (omega (arith, most)) h.2 in omega (arith, r, least)

-- where a port leaves those that are remembered
pub dirty_less : (port : ℕ) (ports dirty : List ℕ) → ((d : ℕ) → IsIn d dirty → IsIn d (port ∷ ports)) → (d : ℕ) → IsIn d (without_number port dirty) → IsIn d ports
dirty_less port ports dirty h d k =
    elim (h d (in_filter (λ (m : ℕ). not (nat_eq m port)) dirty d k)) [
      | inl same ↦ absurd (both_ways (nat_eq d port) (not-true (nat_eq d port) (filter_passes (λ (m : ℕ). not (nat_eq m port)) dirty d k)) (eq-eqb d port same))
      | inr r ↦ r
    ]

pub none_dirty : (dirty : List ℕ) → ((d : ℕ) → IsIn d dirty → IsIn d []) → length dirty ≡ 0
none_dirty [] h = refl
none_dirty (d ∷ dirty) h = absurd (h d (inl refl))

-- a buffer that has no room
pub has_none : (b : Buffer) → length b.held ≤ most_held → is_full b ≡ true → length b.held ≡ most_held
has_none b room h = let all = leb-true most_held (length b.held) h in omega (arith, room, all)
