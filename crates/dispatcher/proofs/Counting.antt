-- The row of a switch, when the counts of one life change.
use Rattle.std.proofs.Common.{◌≡◌, ◌<◌, ◌≤◌, ℕ, zero, suc, Bool, true, false, List, [], ◌∷◌, ◌++◌, length, set, get_or, refl, sym, ap, subst, ◌∙◌, arith, inl, inr}
use Rattle.std.specs.Prelude.{nat_eq, if◌then◌else◌}
use Rattle.std.proofs.lemmas.Bool.{eqb-true, eq-eqb, ne_eqb, cases_eq}
use Rattle.dispatcher.specs.declared.counts.Counts.{Counts}
use Rattle.dispatcher.specs.declared.counts.LifeCount.{LifeCount}
use Rattle.dispatcher.specs.Counted.{counts_in, no_counts, event_place_of}

module _ (life : ℕ) (counts : Counts) (l : ℕ) where
  abbrev counted : LifeCount
  counted = record { life = life; counts = counts }

  -- at the place of the life, whatever is behind it
  here : (c : LifeCount) (rest : Counts) → c.life ≡ life → (if nat_eq life l then counts else rest) ≡ (if nat_eq l life then counts else (if nat_eq c.life l then c.counts else rest))
  here c rest is = elim (cases_eq l life) [
    | inl same ↦ rw (eq-eqb life l (sym same), eq-eqb l life same) refl
    | inr other ↦ rw (ne_eqb life l (λ e. other (sym e)), ne_eqb l life other, ne_eqb c.life l (λ e. other (sym e ∙ is))) refl
  ]

  -- at another life
  there : (c : LifeCount) (new old : Counts) → nat_eq c.life life ≡ false → new ≡ (if nat_eq l life then counts else old)
      → (if nat_eq c.life l then c.counts else new) ≡ (if nat_eq l life then counts else (if nat_eq c.life l then c.counts else old))
  there c new old e is = elim (cases_eq c.life l) [
    | inl same ↦
        let apart : l ≡ life → ⊥ = λ k. let q : nat_eq c.life life ≡ true = eq-eqb c.life life (same ∙ k) in absurd cc (e, q) in
        rw (eq-eqb c.life l same, ne_eqb l life apart) refl
    | inr other ↦ rw (ne_eqb c.life l other) is
  ]

  -- a life that has a place gets other counts
  pub counted_there : (row : List LifeCount) → event_place_of row life < length row
      → counts_in (set row (event_place_of row life) counted) l ≡ (if nat_eq l life then counts else counts_in row l)
  counted_there [] h = absurd (omega (arith, h))
  counted_there (c ∷ row) h = by_life (nat_eq c.life life) refl (λ k. counted_there row k) h
    where
      by_life : (is : Bool) → nat_eq c.life life ≡ is
          → (event_place_of row life < length row → counts_in (set row (event_place_of row life) counted) l ≡ (if nat_eq l life then counts else counts_in row l))
          → (if is then zero else suc (event_place_of row life)) < suc (length row)
          → counts_in (set (c ∷ row) (if is then zero else suc (event_place_of row life)) counted) l ≡ (if nat_eq l life then counts else counts_in (c ∷ row) l)
      by_life true e rest within = here c (counts_in row l) (eqb-true c.life life e)
      by_life false e rest within = there c (counts_in (set row (event_place_of row life) counted) l) (counts_in row l) e (rest (omega (arith, within)))

  -- one that has none gets one
  pub counted_behind : (row : List LifeCount) → length row ≤ event_place_of row life
      → counts_in (row ++ counted ∷ []) l ≡ (if nat_eq l life then counts else counts_in row l)
  counted_behind [] h = elim (cases_eq l life) [
    | inl same ↦ rw (eq-eqb life l (sym same), eq-eqb l life same) refl
    | inr other ↦ rw (ne_eqb life l (λ e. other (sym e)), ne_eqb l life other) refl
  ]
  counted_behind (c ∷ row) h = by_life (nat_eq c.life life) refl (λ k. counted_behind row k) h
    where
      by_life : (is : Bool) → nat_eq c.life life ≡ is
          → (length row ≤ event_place_of row life → counts_in (row ++ counted ∷ []) l ≡ (if nat_eq l life then counts else counts_in row l)) → suc (length row) ≤ (if is then zero else suc (event_place_of row life))
          → (if nat_eq c.life l then c.counts else counts_in (row ++ counted ∷ []) l) ≡ (if nat_eq l life then counts else counts_in (c ∷ row) l)
      by_life true e rest none = absurd (omega (arith, none))
      by_life false e rest none = there c (counts_in (row ++ counted ∷ []) l) (counts_in row l) e (rest (omega (arith, none)))

-- what stands at the place of a life
pub counts_there : (row : List LifeCount) (life : ℕ) (otherwise : LifeCount) → event_place_of row life < length row → (get_or row (event_place_of row life) otherwise).counts ≡ counts_in row life
counts_there [] life otherwise h = absurd (omega (arith, h))
counts_there (c ∷ row) life otherwise h = by_life (nat_eq c.life life) (λ k. counts_there row life otherwise k) h
  where
    by_life : (is : Bool) → (event_place_of row life < length row → (get_or row (event_place_of row life) otherwise).counts ≡ counts_in row life) → (if is then zero else suc (event_place_of row life)) < suc (length row)
        → (get_or (c ∷ row) (if is then zero else suc (event_place_of row life)) otherwise).counts ≡ (if is then c.counts else counts_in row life)
    by_life true rest within = refl
    by_life false rest within = rest (omega (arith, within))

-- and where it has none
pub counts_nowhere : (row : List LifeCount) (life : ℕ) → length row ≤ event_place_of row life → no_counts ≡ counts_in row life
counts_nowhere [] life h = refl
counts_nowhere (c ∷ row) life h = by_life (nat_eq c.life life) (λ k. counts_nowhere row life k) h
  where
    by_life : (is : Bool) → (length row ≤ event_place_of row life → no_counts ≡ counts_in row life) → suc (length row) ≤ (if is then zero else suc (event_place_of row life)) → no_counts ≡ (if is then c.counts else counts_in row life)
    by_life true rest none = absurd (omega (arith, none))
    by_life false rest none = rest (omega (arith, none))

-- what is read at the place of a life
pub counts_found : (row : List LifeCount) (life place : ℕ) (c : LifeCount) → place ≡ event_place_of row life → place < length row → c ≡ get_or row place c → c.counts ≡ counts_in row life
counts_found row life place c at within is =
    ap (λ (x : LifeCount). x.counts) is
    ∙ ap (λ (p : ℕ). (get_or row p c).counts) at
    ∙ counts_there row life c (subst (λ (p : ℕ). p < length row) at within)

-- and written there, or behind the others
pub counts_put : (row : List LifeCount) (life place : ℕ) (counts : Counts) → place ≡ event_place_of row life → place < length row
    → (l : ℕ) → counts_in (set row place (record { life = life; counts = counts })) l ≡ (if nat_eq l life then counts else counts_in row l)
counts_put row life place counts at within l =
    ap (λ (p : ℕ). counts_in (set row p (record { life = life; counts = counts })) l) at
    ∙ counted_there life counts l row (subst (λ (p : ℕ). p < length row) at within)

pub counts_pushed : (row : List LifeCount) (life place : ℕ) (counts : Counts) → place ≡ event_place_of row life → length row ≤ place
    → (l : ℕ) → counts_in (row ++ record { life = life; counts = counts } ∷ []) l ≡ (if nat_eq l life then counts else counts_in row l)
counts_pushed row life place counts at none l = counted_behind life counts l row (subst (λ (p : ℕ). length row ≤ p) at none)
