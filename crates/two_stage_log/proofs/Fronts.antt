-- The events at the front of a list.
use Rattle.std.proofs.Common.{◌≡◌, ℕ, zero, suc, ◌+◌, ◌-◌, ◌<◌, ◌≤◌, Bool, List, ◌∷◌, length, get_or, drop, refl, sym, ap, subst, ◌∙◌, arith, cond, take}
use Rattle.std.specs.Prelude.{nat_eq, ◌&&◌}
use Rattle.std.proofs.lemmas.List.{drop_more}
use Rattle.std.proofs.lemmas.List.Sums.{sum_by-cons}
use Rattle.of_types.specs.declared.message.Event.{Event}
use Rattle.of_types.specs.Lives.{count_in}
use Rattle.vr_log.specs.declared.entry.Entry.{Entry}
use Rattle.vr_log.specs.declared.entry.Entry.TheVariants.{Received, Processed}
use Rattle.vr_log.specs.Log.{received}

-- what is received from a place on
pub received_at : (entries : List Entry) (i : ℕ) (item : Entry) (event : Event) → i < length entries → item ≡ get_or entries i item → item ≡ Received event
    → received (drop i entries) ≡ event ∷ received (drop (i + 1) entries)
received_at entries i item event lt at is = ap received (drop_more entries i item lt) ∙ rw (sym at, is) refl

pub processed_at : (entries : List Entry) (i j : ℕ) (item : Entry) → i < length entries → item ≡ get_or entries i item → item ≡ Processed j
    → received (drop i entries) ≡ received (drop (i + 1) entries)
processed_at entries i j item lt at is = ap received (drop_more entries i item lt) ∙ rw (sym at, is) refl

module _ (switch life : ℕ) where
  front_on : (left : ℕ) (event : Event) (events : List Event) → 0 < left
      → count_in switch life (take left (event ∷ events)) ≡ cond (nat_eq event.switch switch && nat_eq event.life life) 1 0 + count_in switch life (take (left - 1) events)
  front_on zero event events lt = absurd (omega arith)
  front_on (suc left) event events lt =
      let back : suc left - 1 ≡ left = omega arith in
      rw back (sum_by-cons (λ (x : Event). cond (nat_eq x.switch switch && nat_eq x.life life) 1 0) event (take left events))

  -- an event of the front is counted where it is of the life of the switch
  pub counted_on : (left count new total : ℕ) (event : Event) (events rest : List Event) (b : Bool) → (nat_eq event.switch switch && nat_eq event.life life) ≡ b → 0 < left → events ≡ event ∷ rest
      → count + count_in switch life (take left events) ≡ total → new ≡ count + cond b 1 0 → new + count_in switch life (take (left - 1) rest) ≡ total
  counted_on left count new total event events rest b e lt is inv more =
      let f = front_on left event rest lt in
      let h : count + count_in switch life (take left (event ∷ rest)) ≡ total = subst (λ (xs : List Event). count + count_in switch life (take left xs) ≡ total) is inv in
      let g = ap (λ (x : Bool). cond {A = ℕ} x 1 0) e in
      omega (arith, f, h, g, more)

  -- behind the front nothing is counted
  pub none_on : (left count total : ℕ) (events rest : List Event) → left ≤ 0 → count + count_in switch life (take left events) ≡ total → count + count_in switch life (take left rest) ≡ total
  none_on zero count total events rest le inv = inv
  none_on (suc left) count total events rest le inv = absurd (omega arith)
