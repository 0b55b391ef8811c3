-- Lives and their counts, one event after another.
use Rattle.std.proofs.Common.{inl, inr, ◌≡◌, ◌<◌, ◌≤◌, ℕ, ◌+◌, List, [], ◌∷◌, ◌++◌, refl, ap, ◌∙◌, arith}
use Rattle.std.specs.Prelude.{nat_eq, ◌&&◌, if◌then◌else◌}
use Rattle.std.proofs.lemmas.Bool.{eq-eqb, cases_eq, ne_eqb}
use Rattle.std.proofs.lemmas.List.Sums.{sum_by-cons, sum_by-append}
use Rattle.of_types.specs.declared.message.Event.{Event}
use Rattle.of_types.specs.Lives.{life_after, life_in, count_in}

pub life_after-append : (life s : ℕ) (xs ys : List Event) → life_after life s (xs ++ ys) ≡ life_after (life_after life s xs) s ys
life_after-append life s [] ys = refl
life_after-append life s (x ∷ xs) ys = life_after-append (if nat_eq x.switch s then x.life else life) s xs ys

-- the life of a switch with one event more
pub life_in-append : (s : ℕ) (events : List Event) (e : Event) → life_in s (events ++ e ∷ []) ≡ (if nat_eq e.switch s then e.life else life_in s events)
life_in-append s events e = life_after-append 0 s events (e ∷ [])

-- one for an event of a life, else nothing
abbrev pub one_of : ℕ → ℕ → Event → ℕ
one_of s life e = if nat_eq e.switch s && nat_eq e.life life then 1 else 0

pub count_in-append : (s life : ℕ) (events : List Event) (e : Event) → count_in s life (events ++ e ∷ []) ≡ count_in s life events + one_of s life e
count_in-append s life events e = sum_by-append (one_of s life) events (e ∷ []) ∙ ap (λ (n : ℕ). count_in s life events + n) (sum_by-cons (one_of s life) e [] ∙ zero_more (one_of s life e))
  where
    zero_more : (n : ℕ) → n + 0 ≡ n
    zero_more n = omega arith

one_here : (s life : ℕ) (e : Event) → e.switch ≡ s → e.life ≡ life → one_of s life e ≡ 1
one_here s life e a b = rw (eq-eqb e.switch s a, eq-eqb e.life life b) refl

one_of_life : (s life : ℕ) (e : Event) → e.switch ≡ s → e.life < life → one_of s life e ≡ 0
one_of_life s life e a lt = rw (eq-eqb e.switch s a, ne_eqb e.life life (λ z. absurd (omega (arith, z, lt)))) refl

one_of_switch : (s life : ℕ) (e : Event) → (e.switch ≡ s → ⊥) → one_of s life e ≡ 0
one_of_switch s life e other = rw (ne_eqb e.switch s other) refl

-- no event is of a later life than its switch has
abbrev pub NoneAfter : List Event → Type 0
NoneAfter events = (s life : ℕ) → life_in s events < life → count_in s life events ≡ 0

pub none_after-append : (events : List Event) (e : Event) → NoneAfter events → life_in e.switch events ≤ e.life → NoneAfter (events ++ e ∷ [])
none_after-append events e none low s life less =
    elim (cases_eq e.switch s) [
      | inl same ↦
          let is : life_in s (events ++ e ∷ []) ≡ e.life = life_in-append s events e ∙ rw (eq-eqb e.switch s same) refl in
          let z : life_in e.switch events ≡ life_in s events = ap (λ (a : ℕ). life_in a events) same in
          let old = none s life (omega (arith, z, low, is, less)) in
          let off = one_of_life s life e same (omega (arith, is, less)) in
          let c = count_in-append s life events e in
          omega (arith, c, off, old)
      | inr other ↦
          let is : life_in s (events ++ e ∷ []) ≡ life_in s events = life_in-append s events e ∙ rw (ne_eqb e.switch s other) refl in
          let old = none s life (omega (arith, is, less)) in
          let off = one_of_switch s life e other in
          let c = count_in-append s life events e in
          omega (arith, c, off, old)
    ]

-- the count of the life that the switch of an event has with it
pub count_here : (events : List Event) (e : Event) → count_in e.switch e.life (events ++ e ∷ []) ≡ count_in e.switch e.life events + 1
count_here events e = count_in-append e.switch e.life events e ∙ ap (λ (n : ℕ). count_in e.switch e.life events + n) (one_here e.switch e.life e refl refl)

-- the count of another switch
pub count_there : (s life : ℕ) (events : List Event) (e : Event) → (e.switch ≡ s → ⊥) → count_in s life (events ++ e ∷ []) ≡ count_in s life events
count_there s life events e other = count_in-append s life events e ∙ (let off = one_of_switch s life e other in omega (arith, off))
