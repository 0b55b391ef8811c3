-- The actors of a world as they start.
use Rattle.std.proofs.Common.{◌≡◌, ◌≤◌, ◌<◌, ◌⊎◌, inl, inr, ℕ, List, [], ◌∷◌, ◌++◌, length, map, refl, sym, ◌∙◌, ap, subst, arith, zero, suc, ◌+◌, length-append}
use Rattle.std.specs.Prelude.{Option, Some, None, IfSome, IfOk, Result, Ok, Err, option_to_list, slice_get}
use Rattle.std.proofs.lemmas.Bool.{cases_lt}
use Rattle.std.specs.List.{range_with_len}
use Rattle.of_types.specs.declared.setup.Setup.{Setup}
use Rattle.vr_log.specs.Valid.{down_state}
use Rattle.app_core.specs.Law.{AppLaw}
use Rattle.group_controller.specs.Acting.{Acting}
use Rattle.group_controller.specs.State.{fresh, starting_controller}
use Rattle.group_controller.specs.Turns.{Controlling, Controls, Stands, state_of, state_or}
use Rattle.world.specs.World.{AreNew, IsNew}

-- one goes from the end of a list to the end of another
pub moved_long : {A : Type 0} (all rest : List A) (last : Option A) (x : A) (done more : List A) (total : ℕ) → all ≡ rest ++ option_to_list last → last ≡ Some x → more ≡ done ++ x ∷ [] →
    length done + length all ≡ total → length more + length rest ≡ total
moved_long all rest last x done more total all_is last_is more_is long =
    let a = ap length (all_is ∙ ap (λ o. rest ++ option_to_list o) last_is) ∙ length-append rest (x ∷ []) in
    let b = ap length more_is ∙ length-append done (x ∷ []) in
    omega (arith, a, b, long)

-- a list by numbers, one longer
longer : {X : Type 0} (f : ℕ → X) (first count : ℕ) → map f (range_with_len first (suc count)) ≡ map f (range_with_len first count) ++ f (first + count) ∷ []
longer f first zero = let same : first ≡ first + 0 = omega arith in ap (λ n. f n ∷ []) same
longer f first (suc count) =
    let next : first + 1 + count ≡ first + suc count = omega arith in
    ap (λ l. f first ∷ l) (longer f (first + 1) count ∙ ap (λ n. map f (range_with_len (first + 1) count) ++ f n ∷ []) next)

pub mapped_push : {X : Type 0} (f : ℕ → X) (count : ℕ) → map f (range_with_len 0 (count + 1)) ≡ map f (range_with_len 0 count) ++ f count ∷ []
mapped_push f count =
    let more : count + 1 ≡ suc count = omega arith in
    let same : 0 + count ≡ count = omega arith in
    ap (λ n. map f (range_with_len 0 n)) more ∙ longer f 0 count ∙ ap (λ n. map f (range_with_len 0 count) ++ f n ∷ []) same

module _ {A : Type 0} (law : AppLaw A) where
  me_by : (x : Controlling A) (kinds : List ℕ) (o : Option (Acting A)) → IfSome o (Stands law x kinds) →
      (state_or (fresh (down_state x.me x.setup.controllers x.promise x.life)) o).vr.me ≡ x.me
  me_by x kinds None h = refl
  me_by x kinds (Some a) h = h.me

  -- a controller as its group starts
  pub new_is : {E : Type 0} (setup : Setup) (kinds own : List ℕ) (number : ℕ) (result : Result (Controlling A) E) → own ≡ kinds →
      IfOk result (λ x. Controls law x own) →
      IfOk result (λ x. (x.setup ≡ setup) × (state_of x ≡ starting_controller number setup.controllers) × (x.results ≡ [])) →
      IfOk result (IsNew law setup kinds number)
  new_is setup kinds own number (Ok x) same controls starts = record {
    keeps = subst (λ k. Controls law x k) same controls;
    setup_is = starts.0;
    me = sym (me_by x own x.acting controls.acting) ∙ ap (λ s. s.vr.me) starts.1;
    state = starts.1;
    unsaved = starts.2;
  }
  new_is setup kinds own number (Err e) same controls starts = tt

module _ {A : Type 0} (law : AppLaw A) (setup : Setup) (kinds : List ℕ) where
  pub none_new : (controllers : List (Controlling A)) → controllers ≡ [] → AreNew law setup kinds 0 controllers
  none_new controllers none = record { group = ap length none; each = λ c less. absurd (omega (arith, less)) }

  -- the place behind all, and those before
  pushed_at : {X : Type 0} (xs : List X) (x : X) → slice_get (xs ++ x ∷ []) (length xs) ≡ Some x
  pushed_at [] x = refl
  pushed_at (y ∷ xs) x = pushed_at xs x

  before_at : {X : Type 0} (xs : List X) (x y : X) (i : ℕ) → slice_get xs i ≡ Some y → slice_get (xs ++ x ∷ []) i ≡ Some y
  before_at [] x y i found = cc
  before_at (z ∷ xs) x y zero found = found
  before_at (z ∷ xs) x y (suc i) found = before_at xs x y i found

  -- one more controller
  pub one_new : (count : ℕ) (controllers pushed : List (Controlling A)) (x : Controlling A) → AreNew law setup kinds count controllers → IsNew law setup kinds count x → pushed ≡ controllers ++ x ∷ [] →
      AreNew law setup kinds (count + 1) pushed
  one_new count controllers pushed x news new pushed_is = record {
    group = let long = ap length pushed_is ∙ length-append controllers (x ∷ []) in let before = news.group in omega (arith, long, before);
    each = λ c less. by_place c less (cases_lt c count);
  }
    where
      last : (c : ℕ) → c ≡ count → (y : Controlling A) × (slice_get pushed c ≡ Some y) × IsNew law setup kinds c y
      last c same = (
        x,
        ap (λ l. slice_get l c) pushed_is ∙ ap (λ n. slice_get (controllers ++ x ∷ []) n) (same ∙ sym news.group) ∙ pushed_at controllers x,
        subst (λ (n : ℕ). IsNew law setup kinds n x) (sym same) new,
      )

      by_place : (c : ℕ) → c < count + 1 → (c < count) ⊎ (count ≤ c) → (y : Controlling A) × (slice_get pushed c ≡ Some y) × IsNew law setup kinds c y
      by_place c less (inl before) = let y = news.each c before in (y.0, ap (λ l. slice_get l c) pushed_is ∙ before_at controllers x y.0 c y.1, y.2)
      by_place c less (inr behind) = last c (omega (arith, less, behind))
