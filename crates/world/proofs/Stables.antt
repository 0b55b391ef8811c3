-- The stable pairs of controllers through a turn of one of them, and what its saves tell.
use Rattle.std.proofs.Common.{◌≡◌, ◌≤◌, ◌<◌, ◌⊎◌, inl, inr, ℕ, ◌+◌, Bool, true, false, List, [], ◌∷◌, ◌++◌, refl, sym, ◌∙◌, ap, subst, arith, append-nil, append_assoc}
use Rattle.std.specs.Prelude.{◌-◌, ◌^◌, nat_eq, count_by, slice_get, slice_set, Option, Some, None, if◌then◌else◌}
use Rattle.std.proofs.lemmas.List.Sums.{sum_by-append}
use Rattle.std.proofs.lemmas.Bool.{cases_lt, eqb-true, eqb-false}
use Rattle.journal.specs.declared.journal.Letter.{Letter}
use Rattle.journal.specs.declared.journal.SaveResult.{SaveResult}
use Rattle.journal.specs.declared.journal.SaveResult.TheVariants.{Saved, KeptOld, KeptNew}
use Rattle.journal.specs.Causes.{Rose}
use Rattle.journal.specs.Stables.{Saving}
use Rattle.app_core.specs.Law.{AppLaw}
use Rattle.group_controller.specs.declared.messages.ControllerInput.{ControllerInput}
use Rattle.group_controller.specs.declared.messages.ControllerSays.{ControllerSays}
use Rattle.group_controller.specs.State.{ControllerState, Work}
use Rattle.group_controller.specs.Rules.{controller_work}
use Rattle.group_controller.specs.Turns.{Controlling, Done, Saves, state_of, pair_in, Controls}
use Rattle.run_spec.proofs.Pasts.{from_some}
use Rattle.world.specs.World.{AreTold, PairsStand, SavesTold, is_failed}
use Rattle.players.specs.Turns.{ControllerTurned}
use Rattle.world.specs.Actors.{ControllerTakes, ControllerWants}
use Rattle.world.proofs.Places.{got_set, got_other}

-- a count of two lists
count_append : {X : Type 0} (p : X → Bool) (xs ys : List X) → count_by p (xs ++ ys) ≡ count_by p xs + count_by p ys
count_append p xs ys = sum_by-append (λ x. if p x then 1 else 0) xs ys

-- a count that rose stands above, or at its end
one_more : (before after : ℕ) → Rose before after → (before + count_by is_failed (KeptOld ∷ []) ≤ after) ⊎ (2 ^ 64 - 1 ≤ after)
one_more before after rose = by_end (cases_lt before (2 ^ 64 - 1))
  where
    by_end : (before < 2 ^ 64 - 1) ⊎ (2 ^ 64 - 1 ≤ before) → (before + count_by is_failed (KeptOld ∷ []) ≤ after) ⊎ (2 ^ 64 - 1 ≤ after)
    by_end (inl below) = inl (omega (arith, rose, below))
    by_end (inr past) = inr (omega (arith, rose, past))

-- no save was made
pub unsaved_told : (count : ℕ) (results : List SaveResult) → SavesTold count count results results
unsaved_told count results = record { more = []; joined = sym (append-nil results); later = omega arith; rose = inl (omega arith); calm = λ none. refl }

-- saves, and then more
pub told_then : (a b c : ℕ) (xs ys zs : List SaveResult) → SavesTold a b xs ys → SavesTold b c ys zs → SavesTold a c xs zs
told_then a b c xs ys zs first next = record {
  more = first.more ++ next.more;
  joined = next.joined ∙ ap (λ l. l ++ next.more) first.joined ∙ append_assoc xs first.more next.more;
  later = let one = first.later in let two = next.later in omega (arith, one, two);
  rose = by_first first.rose;
  calm = λ none. let n = count_append is_failed first.more next.more in next.calm (omega (arith, n, none)) ∙ first.calm (omega (arith, n, none));
}
  where
    both : a + count_by is_failed first.more ≤ b → b + count_by is_failed next.more ≤ c → a + count_by is_failed (first.more ++ next.more) ≤ c
    both one two = let n = count_append is_failed first.more next.more in omega (arith, one, two, n)

    by_then : a + count_by is_failed first.more ≤ b → (b + count_by is_failed next.more ≤ c) ⊎ (2 ^ 64 - 1 ≤ c) → (a + count_by is_failed (first.more ++ next.more) ≤ c) ⊎ (2 ^ 64 - 1 ≤ c)
    by_then one (inl two) = inl (both one two)
    by_then one (inr end) = inr end

    by_first : (a + count_by is_failed first.more ≤ b) ⊎ (2 ^ 64 - 1 ≤ b) → (a + count_by is_failed (first.more ++ next.more) ≤ c) ⊎ (2 ^ 64 - 1 ≤ c)
    by_first (inl one) = by_then one next.rose
    by_first (inr end) = let later = next.later in inr (omega (arith, end, later))

pub each_told_then : {A W : Type 0} (saving : Saving W) (s0 s1 s2 : List W) (c0 c1 c2 : List (Controlling A)) → AreTold saving s0 s1 c0 c1 → AreTold saving s1 s2 c1 c2 → AreTold saving s0 s2 c0 c2
each_told_then saving s0 s1 s2 c0 c1 c2 first next c x stable found stands =
    let a = first c x stable found stands in
    let b = next c a.0 a.1 a.2 a.3 in
    (b.0, b.1, b.2, b.3, told_then (saving.faults stable) (saving.faults a.1) (saving.faults b.1) x.results a.0.results b.0.results a.4 b.4)

-- what the saves of a turn tell
module _ {A W : Type 0} (law : AppLaw A) (saving : Saving W) (x : ControllerInput) (old new : Controlling A) (stable stable_after : W)
    (letters : List (Letter ControllerSays)) (t : ControllerTurned law saving old stable x new stable_after letters) where
  saved_told : (saved old_pair new_pair : ℕ × ℕ) (r : SaveResult) → Saves r saved old_pair new_pair (saving.faults stable) (saving.faults stable_after) →
      (saving.faults stable + count_by is_failed (r ∷ []) ≤ saving.faults stable_after) ⊎ (2 ^ 64 - 1 ≤ saving.faults stable_after)
  saved_told saved old_pair new_pair Saved s = let later = s.later in inl (omega (arith, later))
  saved_told saved old_pair new_pair KeptOld s = one_more (saving.faults stable) (saving.faults stable_after) (s.failed (λ h. cc))
  saved_told saved old_pair new_pair KeptNew s = one_more (saving.faults stable) (saving.faults stable_after) (s.failed (λ h. cc))

  saved_calm : (saved old_pair new_pair : ℕ × ℕ) (r : SaveResult) → Saves r saved old_pair new_pair (saving.faults stable) (saving.faults stable_after) →
      count_by is_failed (r ∷ []) ≡ 0 → saving.faults stable_after ≡ saving.faults stable
  saved_calm saved old_pair new_pair Saved s none = s.served refl
  saved_calm saved old_pair new_pair KeptOld s none = absurd (let h = none in cc)
  saved_calm saved old_pair new_pair KeptNew s none = absurd (let h = none in cc)

  told_by : (state : ControllerState) (work : Work) (o : Option (ℕ × ℕ)) → Done state work o (state_of new) letters old.results new.results (saving.pair stable) (saving.pair stable_after) (saving.faults stable) (saving.faults stable_after) →
      SavesTold (saving.faults stable) (saving.faults stable_after) old.results new.results
  told_by state work None d = let same = d.faults_are in record {
    more = [];
    joined = d.kept ∙ sym (append-nil old.results);
    later = omega (arith, same);
    rose = inl (omega (arith, same));
    calm = λ none. same;
  }
  told_by state work (Some saved) d = record {
    more = d.result ∷ [];
    joined = d.kept;
    later = d.saves.later;
    rose = saved_told saved (saving.pair stable) (saving.pair stable_after) d.result d.saves;
    calm = saved_calm saved (saving.pair stable) (saving.pair stable_after) d.result d.saves;
  }

  -- the count of faults rises with each save that fails
  pub saves_told : (kinds : List ℕ) → Controls law old kinds → SavesTold (saving.faults stable) (saving.faults stable_after) old.results new.results
  saves_told kinds keeps = told_by (state_of old) (controller_work kinds old.setup (state_of old) x) (controller_work kinds old.setup (state_of old) x).save (t.turn kinds keeps)

-- one controller has changed, and its stable pair
module _ {A W : Type 0} (saving : Saving W) (before after : List (Controlling A)) (stables stables_after : List W) (c : ℕ) (old new : Controlling A) (stable stable_after : W)
    (stood : slice_get before c ≡ Some old) (stable_stood : slice_get stables c ≡ Some stable) (state : after ≡ slice_set before c new) (stables_are : stables_after ≡ slice_set stables c stable_after) where
  -- it stands there
  new_there : (d : ℕ) → c ≡ d → slice_get after d ≡ Some new
  new_there d same = subst (λ (n : ℕ). slice_get after n ≡ Some new) same (ap (λ l. slice_get l c) state ∙ got_set before c old new stood)

  stable_there : (d : ℕ) → c ≡ d → slice_get stables_after d ≡ Some stable_after
  stable_there d same = subst (λ (n : ℕ). slice_get stables_after n ≡ Some stable_after) same (ap (λ l. slice_get l c) stables_are ∙ got_set stables c stable stable_after stable_stood)

  -- each controller still knows what is stable
  pub pairs_at : saving.pair stable_after ≡ pair_in (state_of new) → PairsStand saving stables before → PairsStand saving stables_after after
  pairs_at stands stand d y found = by_number (nat_eq c d) refl
    where
      by_number : (b : Bool) → nat_eq c d ≡ b → (s : W) × (slice_get stables_after d ≡ Some s) × (saving.pair s ≡ pair_in (state_of y))
      by_number true is =
          let same = eqb-true c d is in
          (stable_after, stable_there d same, stands ∙ ap (λ z. pair_in (state_of z)) (from_some new y (sym (new_there d same) ∙ found)))
      by_number false is =
          let other = eqb-false c d is in
          let s = stand d y (sym (ap (λ l. slice_get l d) state ∙ got_other before c d new other) ∙ found) in
          (s.0, ap (λ l. slice_get l d) stables_are ∙ got_other stables c d stable_after other ∙ s.1, s.2)

  -- what its saves tell is told, and those of the others stay
  pub told_at : SavesTold (saving.faults stable) (saving.faults stable_after) old.results new.results → AreTold saving stables stables_after before after
  told_at told d y s found stands = by_number (nat_eq c d) refl
    where
      by_number : (b : Bool) → nat_eq c d ≡ b →
          (z : Controlling A) × (t : W) × (slice_get after d ≡ Some z) × (slice_get stables_after d ≡ Some t) × SavesTold (saving.faults s) (saving.faults t) y.results z.results
      by_number true is =
          let same = eqb-true c d is in
          let one : old ≡ y = from_some old y (sym stood ∙ subst (λ (n : ℕ). slice_get before n ≡ Some y) (sym same) found) in
          let other : stable ≡ s = from_some stable s (sym stable_stood ∙ subst (λ (n : ℕ). slice_get stables n ≡ Some s) (sym same) stands) in (
            new,
            stable_after,
            new_there d same,
            stable_there d same,
            subst (λ (t : W). SavesTold (saving.faults t) (saving.faults stable_after) y.results new.results) other
                (subst (λ (o : Controlling A). SavesTold (saving.faults stable) (saving.faults stable_after) o.results new.results) one told),
          )
      by_number false is =
          let other = eqb-false c d is in (
            y,
            s,
            ap (λ l. slice_get l d) state ∙ got_other before c d new other ∙ found,
            ap (λ l. slice_get l d) stables_are ∙ got_other stables c d stable_after other ∙ stands,
            unsaved_told (saving.faults s) y.results,
          )

-- a controller took its turn
module _ {A W : Type 0} (law : AppLaw A) (saving : Saving W) (x : ControllerInput) (before after : List (Controlling A))
    (stables stables_after : List W) (c : ℕ) (letters : List (Letter ControllerSays)) (t : ControllerTakes law saving x before stables c after stables_after letters) where
  pub pairs_stand : PairsStand saving stables before → PairsStand saving stables_after after
  pairs_stand = pairs_at saving before after stables stables_after c t.old t.new t.stable t.stable_after t.stood t.stable_stood t.state t.stables_are t.turned.stands

  pub each_told : (kinds : List ℕ) → Controls law t.old kinds → AreTold saving stables stables_after before after
  each_told kinds keeps = told_at saving before after stables stables_after c t.old t.new t.stable t.stable_after t.stood t.stable_stood t.state t.stables_are
      (saves_told law saving x t.old t.new t.stable t.stable_after letters t.turned kinds keeps)

-- and found no memory for it
module _ {A W : Type 0} (law : AppLaw A) (saving : Saving W) (before after : List (Controlling A)) (stables stables_after : List W) (c : ℕ)
    (t : ControllerWants law saving before stables c after stables_after) where
  pub pairs_wanted : PairsStand saving stables before → PairsStand saving stables_after after
  pairs_wanted = pairs_at saving before after stables stables_after c t.old t.new t.stable t.stable_after t.stood t.stable_stood t.state t.stables_are t.wanted.stands

  pub told_wanted : AreTold saving stables stables_after before after
  told_wanted = told_at saving before after stables stables_after c t.old t.new t.stable t.stable_after t.stood t.stable_stood t.state t.stables_are
      (subst (λ (n : ℕ). SavesTold (saving.faults t.stable) n t.old.results t.new.results) (sym t.wanted.wants.faults_are)
      (subst (λ (rs : List SaveResult). SavesTold (saving.faults t.stable) (saving.faults t.stable) t.old.results rs) (sym t.wanted.wants.kept) (unsaved_told (saving.faults t.stable) t.old.results)))
