-- The events of a log that were not decided as processed: each of them is held by its switch, or is of a life that is over, or was not
-- decided as received.
use Rattle.std.proofs.Common.{◌≡◌, ◌≤◌, ◌<◌, ◌⊎◌, inl, inr, ℕ, ◌+◌, ◌-◌, Bool, List, [], ◌∷◌, length, drop, filter, refl, sym, ◌∙◌, ap, subst, arith, length-append, length-drop}
use Rattle.std.specs.Prelude.{nat_eq, nat_lt, ◌&&◌, sum_by, if◌then◌else◌}
use Rattle.std.specs.List.{range_with_len}
use Rattle.std.proofs.lemmas.Bool.{and_from, cases_Bool, eq-eqb, ltb-false}
use Rattle.std.proofs.lemmas.List.Sums.{sum_by-cons, sum_by-take-drop}
use Rattle.list_facts.specs.Lists.{IsIn, IsPrefix}
use Rattle.list_facts.proofs.Elements.{in_drop, in_left}
use Rattle.of_types.specs.declared.message.Event.{Event}
use Rattle.of_types.specs.Lives.{count_in}
use Rattle.vr_log.specs.declared.entry.Entry.{Entry}
use Rattle.vr_log.specs.Log.{processed, received}
use Rattle.vr_log.proofs.Logs.{received-append}
use Rattle.controller_moves.proofs.ControllerLaws.Logs.{count_prefix, received_prefix}
use Rattle.of_switch.specs.State.{SwitchState, life_of}
use Rattle.two_stage_log.specs.Counts.{processed_of}
use Rattle.closing_laws.specs.Measure.{logged_held}
use Rattle.closing_laws.proofs.Lists.Sums.{sum_lower, sum_most}
use Rattle.closing_laws.proofs.Primary.Numbering.{in_range, of_range}

-- events of few switches, by their lives
module _ (k : ℕ) (present : ℕ → ℕ) where
  pub one_more : (e : Event) (es : List Event) → e.switch < k → (d : ℕ) → (d ≡ 0) ⊎ ((d ≡ 1) × (e.life ≡ present e.switch)) →
      sum_by (λ s. count_in s (present s) es) (range_with_len 0 k) + d ≤ sum_by (λ s. count_in s (present s) (e ∷ es)) (range_with_len 0 k)
  one_more e es there d how =
      sum_lower (λ s. count_in s (present s) es) (λ s. count_in s (present s) (e ∷ es)) (range_with_len 0 k) e.switch d (in_range 0 k e.switch (omega arith) (omega (arith, there)))
      (λ s. let parts = sum_by-cons (λ (x : Event). if nat_eq x.switch s && nat_eq x.life (present s) then 1 else 0) e es in omega (arith, parts))
      (by_case how)
    where
      by_case : (d ≡ 0) ⊎ ((d ≡ 1) × (e.life ≡ present e.switch)) → count_in e.switch (present e.switch) es + d ≤ count_in e.switch (present e.switch) (e ∷ es)
      by_case (inl none) =
          let parts = sum_by-cons (λ (x : Event). if nat_eq x.switch e.switch && nat_eq x.life (present e.switch) then 1 else 0) e es in
          omega (arith, parts, none)
      by_case (inr one) =
          let parts = sum_by-cons (λ (x : Event). if nat_eq x.switch e.switch && nat_eq x.life (present e.switch) then 1 else 0) e es in
          let here = ap {B = ℕ} (λ (b : Bool). if b then 1 else 0) (and_from (nat_eq e.switch e.switch) (nat_eq e.life (present e.switch)) (eq-eqb e.switch e.switch refl) (eq-eqb e.life (present e.switch) one.1)) in
          let is = one.0 in
          omega (arith, parts, here, is)

  -- each is of its switch's present life, or of one that is over
  pub by_lives : (es : List Event) → ((e : Event) → IsIn e es → (e.switch < k) × (e.life ≤ present e.switch)) →
      length es ≤ sum_by (λ s. count_in s (present s) es) (range_with_len 0 k) + length (filter (λ e. nat_lt e.life (present e.switch)) es)
  by_lives [] each = omega arith
  by_lives (e ∷ es) each =
      let rest = by_lives es (λ x among. each x (inr among)) in
      let own = each e (inl refl) in
      elim (cases_Bool (nat_lt e.life (present e.switch))) [
        | inl over ↦
            let more = ap (λ (b : Bool). length (if b then e ∷ filter (λ x. nat_lt x.life (present x.switch)) es else filter (λ x. nat_lt x.life (present x.switch)) es)) over in
            let sums = one_more e es own.0 0 (inl refl) in
            omega (arith, rest, more, sums)
        | inr now ↦
            let more = ap (λ (b : Bool). length (if b then e ∷ filter (λ x. nat_lt x.life (present x.switch)) es else filter (λ x. nat_lt x.life (present x.switch)) es)) now in
            let high = ltb-false e.life (present e.switch) now in
            let low = own.1 in
            let sums = one_more e es own.0 1 (inr (refl, omega (arith, high, low))) in
            omega (arith, rest, more, sums)
      ]

-- a log that goes on from what was decided
module _ (k : ℕ) (sw : ℕ → SwitchState) (log was : List Entry) (front : IsPrefix was log)
    (genuine : (e : Event) → IsIn e (received log) → (e.switch < k) × (e.life ≤ life_of (sw e.switch)))
    (cleared : (s : ℕ) → s < k → (sw s).buffer.cleared ≤ processed_of was s (life_of (sw s))) where
  -- the events that were decided, and were not processed
  abbrev open_events : List Event
  open_events = drop (processed was) (received was)

  held_here : (s : ℕ) → s < k → count_in s (life_of (sw s)) open_events ≤ logged_held log s (sw s)
  held_here s there =
      let parts = sum_by-take-drop (λ (e : Event). if nat_eq e.switch s && nat_eq e.life (life_of (sw s)) then 1 else 0) (received was) (processed was) in
      let some = count_prefix s (life_of (sw s)) (received_prefix front) in
      let gone = cleared s there in
      omega (arith, parts, some, gone)

  pub unprocessed_left : length (received log) - processed was ≤
      sum_by (λ s. logged_held log s (sw s)) (range_with_len 0 k) + length (filter (λ e. nat_lt e.life (life_of (sw e.switch))) open_events) + (length (received log) - length (received was))
  unprocessed_left =
      let lives = by_lives k (λ s. life_of (sw s)) open_events (λ e among. genuine e (subst (λ (l : List Event). IsIn e l) (sym (received_prefix front).joined) (in_left e (received was) (received_prefix front).rest (in_drop (processed was) (received was) e among)))) in
      let held = sum_most 1 0 (λ s. count_in s (life_of (sw s)) open_events) (λ s. logged_held log s (sw s)) (range_with_len 0 k) (λ s among.
      let less = (of_range 0 k s among).1 in
      let here = held_here s (omega (arith, less)) in
      omega (arith, here)) in
      let all = ap (λ (l : List Entry). length (received l)) front.joined ∙ ap (λ (l : List Event). length l) (received-append was front.rest) ∙ length-append (received was) (received front.rest) in
      let rest = length-drop (processed was) (received was) in
      omega (arith, lives, held, all, rest)
