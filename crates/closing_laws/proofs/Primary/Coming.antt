-- The next event of a switch comes and is logged: those behind it are the ones that are on their way then.
use Rattle.std.proofs.Common.{◌≡◌, ◌≤◌, ◌<◌, ◌⊎◌, inl, inr, ℕ, ◌+◌, ◌-◌, zero, suc, Bool, true, false, List, [], ◌∷◌, take, drop, filter, refl, sym, ◌∙◌, ap, subst, arith}
use Rattle.std.specs.Prelude.{nat_eq, nat_lt, nat_le, slice_get, Some, if◌then◌else◌}
use Rattle.std.proofs.lemmas.Bool.{cases_order, eq-eqb, le-leb, leb-true, lt-ltb, ne_eqb, true≢false}
use Rattle.list_facts.specs.Lists.{IsIn}
use Rattle.list_facts.proofs.Places.{get_dropped, in_get}
use Rattle.of_types.specs.declared.message.Event.{Event}
use Rattle.of_types.specs.declared.setup.Setup.{Setup}
use Rattle.of_types.specs.Lives.{count_in, is_switch_up, life_in}
use Rattle.vr_log.specs.Log.{may_be_received, received}
use Rattle.of_switch.specs.State.{SwitchState, events_in, life_of}
use Rattle.group_controller.specs.State.{ControllerState}
use Rattle.run_laws.specs.OnceLaws.Truths.{IsMade}
use Rattle.closing_laws.specs.Serving.{IsTrueOf, logged_of, sent_of}

-- two tests that keep the same
filter_later : (p q : Event → Bool) (xs : List Event) → ((x : Event) → q x ≡ true → p x ≡ true) → ((x : Event) → IsIn x (filter p xs) → q x ≡ true) → filter q xs ≡ filter p xs
filter_later p q [] weaker all = refl
filter_later p q (x ∷ xs) weaker all = by_test (p x) refl (λ below. filter_later p q xs weaker below)
  where
    by_test : (b : Bool) → p x ≡ b → (((y : Event) → IsIn y (filter p xs) → q y ≡ true) → filter q xs ≡ filter p xs) → filter q (x ∷ xs) ≡ (if b then x ∷ filter p xs else filter p xs)
    by_test true is rest =
        let here : q x ≡ true = all x (rw is (inl refl)) in
        rw here (ap (λ (l : List Event). x ∷ l) (rest (λ y h. all y (rw is (inr h)))))
    by_test false is rest = by_other (q x) refl (rest (λ y h. all y (rw is h)))
      where
        by_other : (d : Bool) → q x ≡ d → filter q xs ≡ filter p xs → (if d then x ∷ filter q xs else filter q xs) ≡ filter p xs
        by_other false other same = same
        by_other true other same = absurd (true≢false (sym (weaker x other) ∙ is))

-- the first behind a place, and those behind it
next_of : (n : ℕ) (events : List Event) (k : ℕ) (e : Event) (back : List Event) → e ∷ back ≡ take k (drop n events) → (slice_get events n ≡ Some e) × (0 < k) × (back ≡ take (k - 1) (drop (n + 1) events))
next_of zero events zero e back is = absurd cc
next_of zero [] (suc k) e back is = absurd cc
next_of zero (x ∷ events) (suc k) e back is =
    let first : x ≡ e = cc in
    let rest : back ≡ take k events = cc in
    let less : suc k - 1 ≡ k = omega arith in
    (ap (λ (y : Event). Some y) first, omega arith, rest ∙ ap (λ (n : ℕ). take n events) (sym less))
next_of (suc n) [] zero e back is = absurd cc
next_of (suc n) [] (suc k) e back is = absurd cc
next_of (suc n) (x ∷ events) k e back is =
    let r = next_of n events k e back is in
    let step : suc n + 1 ≡ suc (n + 1) = omega arith in
    (r.0, r.1, r.2 ∙ ap (λ (m : ℕ). take (k - 1) (drop m (x ∷ events))) (sym step))

module _ (kinds : List ℕ) (setup : Setup) (c : ControllerState) (s : ℕ) (sw : SwitchState) (true_of : IsTrueOf kinds setup c s sw) (e : Event) (rest : List Event)
    (coming : filter (λ x. nat_le (logged_of c s sw) x.number) (e ∷ rest) ≡ take (sent_of sw - logged_of c s sw) (drop (logged_of c s sw) (events_in sw (life_of sw))))
    (late : logged_of c s sw ≤ e.number) where
  abbrev n : ℕ
  n = logged_of c s sw

  pub parts : (slice_get (events_in sw (life_of sw)) n ≡ Some e) × (0 < sent_of sw - n) × (filter (λ x. nat_le n x.number) rest ≡ take (sent_of sw - n - 1) (drop (n + 1) (events_in sw (life_of sw))))
  parts =
      next_of n (events_in sw (life_of sw)) (sent_of sw - n) e (filter (λ x. nat_le n x.number) rest)
      (sym (ap (λ (b : Bool). if b then e ∷ filter (λ x. nat_le n x.number) rest else filter (λ x. nat_le n x.number) rest) (le-leb n e.number late)) ∙ coming)

  pub made : IsMade s (life_of sw) n e
  made = true_of.made n e parts.0

  -- the ones that are not logged then
  pub coming_next : filter (λ x. nat_le (n + 1) x.number) rest ≡ take (sent_of sw - (n + 1)) (drop (n + 1) (events_in sw (life_of sw)))
  coming_next =
      let less : sent_of sw - n - 1 ≡ sent_of sw - (n + 1) = omega arith in
      filter_later (λ x. nat_le n x.number) (λ x. nat_le (n + 1) x.number) rest
      (λ x h. let more = leb-true (n + 1) x.number h in le-leb n x.number (omega (arith, more)))
      (λ x h. by_place x (in_get (take (sent_of sw - n - 1) (drop (n + 1) (events_in sw (life_of sw)))) x (subst (λ (l : List Event). IsIn x l) parts.2 h)))
      ∙ parts.2 ∙ ap (λ (k : ℕ). take k (drop (n + 1) (events_in sw (life_of sw)))) less
    where
      by_place : (x : Event) → (i : ℕ) × (slice_get (take (sent_of sw - n - 1) (drop (n + 1) (events_in sw (life_of sw)))) i ≡ Some x) → nat_le (n + 1) x.number ≡ true
      by_place x p =
          let m = true_of.made (n + 1 + p.0) x (get_dropped (n + 1) (sent_of sw - n - 1) (events_in sw (life_of sw)) p.0 x p.1) in
          let place = m.number_is in
          le-leb (n + 1) x.number (omega (arith, place))

  -- it may be logged
  pub may_come : may_be_received e (received c.vr.log) ≡ true
  may_come = by_life (cases_order (life_in s (received c.vr.log)) (life_of sw))
    where
      of_switch : life_in e.switch (received c.vr.log) ≡ life_in s (received c.vr.log)
      of_switch = ap (λ (k : ℕ). life_in k (received c.vr.log)) made.switch_is

      by_life : (life_in s (received c.vr.log) ≡ life_of sw) ⊎ ((life_in s (received c.vr.log) < life_of sw) ⊎ (life_of sw < life_in s (received c.vr.log))) → may_be_received e (received c.vr.log) ≡ true
      by_life (inl same) =
          let here : nat_eq e.life (life_in e.switch (received c.vr.log)) ≡ true = eq-eqb e.life (life_in e.switch (received c.vr.log)) (made.life_is ∙ sym same ∙ sym of_switch) in
          let next : nat_eq e.number (count_in e.switch (life_in e.switch (received c.vr.log)) (received c.vr.log)) ≡ true =
          eq-eqb e.number (count_in e.switch (life_in e.switch (received c.vr.log)) (received c.vr.log))
          (made.number_is ∙ ap (λ (l : ℕ). count_in s l (received c.vr.log)) (sym same ∙ sym of_switch) ∙ ap (λ (k : ℕ). count_in k (life_in e.switch (received c.vr.log)) (received c.vr.log)) (sym made.switch_is)) in
          rw (here, next) refl
      by_life (inr (inl older)) =
          let none = true_of.unlogged older in
          let life = made.life_is in
          let switch = of_switch in
          let apart : nat_eq e.life (life_in e.switch (received c.vr.log)) ≡ false = ne_eqb e.life (life_in e.switch (received c.vr.log)) (λ x. omega (arith, x, life, switch, older)) in
          let later : nat_lt (life_in e.switch (received c.vr.log)) e.life ≡ true = lt-ltb (life_in e.switch (received c.vr.log)) e.life (omega (arith, life, switch, older)) in
          let zeroth : nat_eq e.number 0 ≡ true = eq-eqb e.number 0 (made.number_is ∙ none) in
          let begins : is_switch_up e.what ≡ true = true_of.first (omega (arith, older)) e (subst (λ (k : ℕ). slice_get (events_in sw (life_of sw)) k ≡ Some e) none parts.0) in
          rw (apart, later, zeroth, begins) refl
      by_life (inr (inr younger)) = absurd (let most = true_of.life in omega (arith, most, younger))

-- one that is logged may not come again
pub may_not : (s : ℕ) (life : ℕ) (e : Event) (events : List Event) → e.switch ≡ s → e.life ≡ life → life_in s events ≡ life → e.number < count_in s life events → may_be_received e events ≡ false
may_not s life e events switch_is life_is now less =
    let of_switch : life_in e.switch events ≡ life = ap (λ (k : ℕ). life_in k events) switch_is ∙ now in
    let count = ap (λ (l : ℕ). count_in e.switch l events) of_switch ∙ ap (λ (k : ℕ). count_in k life events) switch_is in
    let here : nat_eq e.life (life_in e.switch events) ≡ true = eq-eqb e.life (life_in e.switch events) (life_is ∙ sym of_switch) in
    let past : nat_eq e.number (count_in e.switch (life_in e.switch events) events) ≡ false = ne_eqb e.number (count_in e.switch (life_in e.switch events) events) (λ x. omega (arith, x, count, less)) in
    rw (here, past) refl
