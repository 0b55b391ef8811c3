-- What a leading controller does with a message of a switch, and the switches that have confirmed their role.
use Rattle.std.proofs.Common.{◌≡◌, ◌<◌, ◌⊎◌, inl, inr, arith, ℕ, Bool, true, false, List, [], ◌∷◌, refl, sym, ◌∙◌, ap, filter}
use Rattle.std.specs.Prelude.{nat_eq, nat_lt, ◌||◌, if◌then◌else◌}
use Rattle.std.proofs.lemmas.Bool.{cases_order, eq-eqb, le-ltb, lt-ltb, ne_eqb, or_right}
use Rattle.std.proofs.lemmas.List.Folds.{list_any-append}
use Rattle.std.proofs.Math.Bool.{or_assoc}
use Rattle.of_types.specs.declared.setup.Setup.{Setup}
use Rattle.of_types.specs.SmallSets.{with_number}
use Rattle.vr_log.specs.Members.{leads}
use Rattle.group_controller.specs.declared.messages.ControllerInput.{ControllerInput}
use Rattle.group_controller.specs.State.{ControllerState, with_no_met_limit}
use Rattle.group_controller.specs.Rules.{controller_work, is_down, on_input, when_down}
use Rattle.run_laws.proofs.Members.{up_leads}
use Rattle.closing_laws.specs.Quorum.{has}
use Rattle.closing_laws.proofs.Journal.Taking.{up_not_down}

-- one that leads is not down
pub leader_up : (c : ControllerState) → leads c.vr ≡ true → is_down c ≡ false
leader_up c lead = up_not_down c (up_leads c.vr lead)

pub leader_input : (kinds : List ℕ) (setup : Setup) (c : ControllerState) (x : ControllerInput) → leads c.vr ≡ true → controller_work kinds setup c x ≡ on_input kinds setup (with_no_met_limit c) x
unfolding controller_work
leader_input kinds setup c x h = ap (λ (b : Bool). if b then when_down c x else on_input kinds setup (with_no_met_limit c) x) (leader_up c h)

-- a number that joins a set
split_same : (c j : ℕ) → nat_eq c j ≡ false → (xs : List ℕ) → (has (filter (λ m. nat_lt m c) xs) j || has (filter (λ m. nat_lt c m) xs) j) ≡ has xs j
split_same c j other [] = refl
split_same c j other (y ∷ ys) = by_order (split_same c j other ys) (cases_order y c)
  where
    second : (a b e : Bool) → (b || (a || e)) ≡ (a || (b || e))
    second true true e = refl
    second true false e = refl
    second false b e = refl

    by_order : (has (filter (λ m. nat_lt m c) ys) j || has (filter (λ m. nat_lt c m) ys) j) ≡ has ys j → (y ≡ c) ⊎ ((y < c) ⊎ (c < y)) →
        (has (filter (λ m. nat_lt m c) (y ∷ ys)) j || has (filter (λ m. nat_lt c m) (y ∷ ys)) j) ≡ has (y ∷ ys) j
    by_order rest (inl e) = rw (le-ltb y c (omega (arith, e)), le-ltb c y (omega (arith, e))) (let off : nat_eq y j ≡ false = ap (λ (k : ℕ). nat_eq k j) e ∙ other in rest ∙ sym (ap (λ (b : Bool). b || has ys j) off))
    by_order rest (inr (inl lt)) =
        rw (lt-ltb y c lt, le-ltb c y (omega (arith, lt)))
        (or_assoc (nat_eq y j) (has (filter (λ m. nat_lt m c) ys) j) (has (filter (λ m. nat_lt c m) ys) j) ∙ ap (λ (b : Bool). nat_eq y j || b) rest)
    by_order rest (inr (inr gt)) =
        rw (le-ltb y c (omega (arith, gt)), lt-ltb c y gt)
        (second (nat_eq y j) (has (filter (λ m. nat_lt m c) ys) j) (has (filter (λ m. nat_lt c m) ys) j) ∙ ap (λ (b : Bool). nat_eq y j || b) rest)

pub joins : (c : ℕ) (xs : List ℕ) → has (with_number c xs) c ≡ true
joins c xs =
    let own : nat_eq c c ≡ true = eq-eqb c c refl in
    list_any-append (λ m. nat_eq m c) (filter (λ m. nat_lt m c) xs) (c ∷ filter (λ m. nat_lt c m) xs)
    ∙ ap (λ (b : Bool). has (filter (λ m. nat_lt m c) xs) c || (b || has (filter (λ m. nat_lt c m) xs) c)) own ∙ or_right (has (filter (λ m. nat_lt m c) xs) c) true refl

pub joins_others : (c j : ℕ) (xs : List ℕ) → (j ≡ c → ⊥) → has (with_number c xs) j ≡ has xs j
joins_others c j xs other =
    let off : nat_eq c j ≡ false = ne_eqb c j (λ e. other (sym e)) in
    list_any-append (λ m. nat_eq m j) (filter (λ m. nat_lt m c) xs) (c ∷ filter (λ m. nat_lt c m) xs)
    ∙ ap (λ (b : Bool). has (filter (λ m. nat_lt m c) xs) j || (b || has (filter (λ m. nat_lt c m) xs) j)) off ∙ split_same c j off xs
