-- The view of a closing: the least above all views and promises of those that take part, whose primary takes part.
use Rattle.std.proofs.Common.{◌≡◌, ◌≤◌, ◌<◌, inl, inr, ℕ, zero, suc, ◌+◌, ◌-◌, ◌*◌, ◌/◌, ◌%◌, Bool, true, false, List, [], ◌∷◌, refl, sym, ◌∙◌, ap, arith}
use Rattle.std.specs.Prelude.{max, if◌then◌else◌}
use Rattle.std.proofs.Math.Nat.{div-add-mod, mod-lt, suc-mul, mul_comm}
use Rattle.std.proofs.lemmas.Nat.{mod-mul-add}
use Rattle.std.proofs.lemmas.Bool.{cases_lt, both_ways}
use Rattle.vr_log.specs.Members.{is_up}
use Rattle.group_controller.specs.State.{ControllerState}
use Rattle.run_spec.specs.Committed.{members_up}
use Rattle.run_spec.specs.Closing.{bound_of, first_view, closing_view}
use Rattle.closing_laws.specs.Quorum.{has, AreBelow, HasTheLeastView}

-- among as many views as a group has members each member leads one
moved_on : (b p r j : ℕ) → p + r ≡ b → r ≤ j → b + (j - r) ≡ p + j
moved_on b p r j is le = omega (arith, is, le)

moved_over : (b p r j n : ℕ) → p + r ≡ b → r ≤ n → b + (n + j - r) ≡ (p + n) + j
moved_over b p r j n is le = omega (arith, is, le)

pub led_by : (n b j : ℕ) → j < n → (k : ℕ) × (k < n) × ((b + k) % n ≡ j)
led_by n b j less =
    let r = b % n in
    let q = b / n in
    let under : r < n = mod-lt b (omega (arith, less)) in
    let whole : q * n + r ≡ b = (let e = div-add-mod b n in turned q n ∙ e) in
    elim (cases_lt j r) [
      | inl before ↦ (
        n + j - r,
        omega (arith, before, under),
        ap (λ (k : ℕ). k % n) (moved_over b (q * n) r j n whole (omega (arith, under)) ∙ ap (λ (k : ℕ). k + j) (sym (suc-mul q n))) ∙ mod-mul-add (suc q) n j less,
      )
      | inr from ↦ (
        j - r,
        omega (arith, from, less),
        ap (λ (k : ℕ). k % n) (moved_on b (q * n) r j whole (omega (arith, from))) ∙ mod-mul-add q n j less,
      )
    ]
  where
    turned : (q m : ℕ) → q * m + b % m ≡ m * q + b % m
    turned q m = ap (λ (k : ℕ). k + b % m) (mul_comm q m)

-- the first of these views whose primary takes part
pub first_meets : (more group : ℕ) (up : List ℕ) (view k : ℕ) → k < more → has up ((view + k) % group) ≡ true → has up (first_view more group up view % group) ≡ true
first_meets zero group up view k less there = absurd (omega (arith, less))
first_meets (suc more) group up view k less there = by_first (has up (view % group)) refl (λ i lt h. first_meets more group up (suc view) i lt h)
  where
    by_first : (b : Bool) → has up (view % group) ≡ b → ((i : ℕ) → i < more → has up ((suc view + i) % group) ≡ true → has up (first_view more group up (suc view) % group) ≡ true) →
        has up ((if b then view else first_view more group up (suc view)) % group) ≡ true
    by_first true e rest = e
    by_first false e rest = by_place k less there
      where
        by_place : (i : ℕ) → i < suc more → has up ((view + i) % group) ≡ true → has up (first_view more group up (suc view) % group) ≡ true
        by_place zero lt h = let same : view + 0 ≡ view = omega arith in absurd (both_ways (has up (view % group)) e (ap (λ (x : ℕ). has up (x % group)) (sym same) ∙ h))
        by_place (suc i) lt h = let same : suc view + i ≡ view + suc i = omega arith in rest i (omega (arith, lt)) (ap (λ (x : ℕ). has up (x % group)) same ∙ h)

pub first_least : (more group : ℕ) (up : List ℕ) (view other : ℕ) → view ≤ other → has up (other % group) ≡ true → first_view more group up view ≤ other
first_least zero group up view other le there = le
first_least (suc more) group up view other le there = by_first (has up (view % group)) refl (λ lt. first_least more group up (suc view) other lt there)
  where
    by_first : (b : Bool) → has up (view % group) ≡ b → (suc view ≤ other → first_view more group up (suc view) ≤ other) → (if b then view else first_view more group up (suc view)) ≤ other
    by_first true e rest = le
    by_first false e rest = elim (cases_lt view other) [
      | inl lt ↦ rest (omega (arith, lt))
      | inr ge ↦ let same : other ≡ view = omega (arith, le, ge) in absurd (both_ways (has up (view % group)) e (ap (λ (x : ℕ). has up (x % group)) (sym same) ∙ there))
    ]

pub first_from : (more group : ℕ) (up : List ℕ) (view : ℕ) → view ≤ first_view more group up view
first_from zero group up view = omega arith
first_from (suc more) group up view = by_first (has up (view % group)) (first_from more group up (suc view))
  where
    by_first : (b : Bool) → suc view ≤ first_view more group up (suc view) → view ≤ (if b then view else first_view more group up (suc view))
    by_first true h = omega arith
    by_first false h = omega (arith, h)

-- the bound is the least number above all views and promises
below_more : (v w : ℕ) (cs : List ControllerState) → v ≤ w → AreBelow cs v → AreBelow cs w
below_more v w [] le h = tt
below_more v w (c ∷ cs) le h = ((λ up. let p = h.0 up in (let x = p.0 in omega (arith, x, le), let y = p.1 in omega (arith, y, le))), below_more v w cs le h.1)

pub below_bound : (cs : List ControllerState) → AreBelow cs (bound_of cs)
below_bound [] = tt
below_bound (c ∷ cs) = by_up (is_up c.vr) refl (below_bound cs)
  where
    by_up : (b : Bool) → is_up c.vr ≡ b → AreBelow cs (bound_of cs) →
        AreBelow (c ∷ cs) (if b then max (suc (max c.vr.view c.vr.promise)) (bound_of cs) else bound_of cs)
    by_up true e h = ((λ up. (omega arith, omega arith)), below_more (bound_of cs) (max (suc (max c.vr.view c.vr.promise)) (bound_of cs)) cs (omega arith) h)
    by_up false e h = ((λ up. absurd (both_ways (is_up c.vr) e up)), h)

pub bound_least : (cs : List ControllerState) (v : ℕ) → AreBelow cs v → bound_of cs ≤ v
bound_least [] v h = omega arith
bound_least (c ∷ cs) v h = by_up (is_up c.vr) refl (bound_least cs v h.1)
  where
    by_up : (b : Bool) → is_up c.vr ≡ b → bound_of cs ≤ v → (if b then max (suc (max c.vr.view c.vr.promise)) (bound_of cs) else bound_of cs) ≤ v
    by_up true e rest = let below = h.0 e in let a = below.0 in let p = below.1 in omega (arith, a, p, rest)
    by_up false e rest = rest

-- so the view of a closing is the least that it may take
pub view_least : (group : ℕ) (states : List ControllerState) (j : ℕ) → j < group → has (members_up states) j ≡ true → HasTheLeastView group states
view_least group states j less there =
    let found = led_by group (bound_of states) j less in
    record {
      may = record {
        above = below_more (bound_of states) (closing_view states group) states (first_from group group (members_up states) (bound_of states)) (below_bound states);
        primary = first_meets group group (members_up states) (bound_of states) found.0 found.1 (ap (has (members_up states)) found.2 ∙ there);
      };
      least = λ view may. first_least group group (members_up states) (bound_of states) view (bound_least states view may.above) may.primary;
    }
