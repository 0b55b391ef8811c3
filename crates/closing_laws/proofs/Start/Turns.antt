-- How many turns a view takes to start.
use Rattle.std.proofs.Common.{◌≡◌, ℕ, suc, ◌+◌, ◌*◌, ◌/◌, Bool, true, false, List, [], ◌∷◌, length, sym, ◌∙◌, ap, arith}
use Rattle.std.specs.Prelude.{if◌then◌else◌}
use Rattle.std.proofs.Math.Nat.{suc-mul}
use Rattle.closing_laws.specs.Views.{turns_to_start}
use Rattle.closing_laws.proofs.Start.Words.{times}

times_is : (each : ℕ) (xs : List ℕ) → times each xs ≡ length xs * each
times_is each [] = omega arith
times_is each (x ∷ xs) = let h = times_is each xs in one (length xs * each) (times each xs) h ∙ sym (suc-mul (length xs) each)
  where
    one : (p t : ℕ) → t ≡ p → each + t ≡ p + each
    one p t is = omega (arith, is)

square : (f : ℕ) → suc f * f ≡ f * f + f
square f = suc-mul f f

pub turns_are : (n : ℕ) (quorum : List ℕ) (fetches : Bool) (turns : ℕ) → length quorum ≡ suc (n / 2) → turns ≡ length quorum + times (n / 2) quorum + n / 2 + (if fetches then 2 else 0) →
    turns ≡ turns_to_start (n / 2) fetches
turns_are n quorum fetches turns count took =
    let all = times_is (n / 2) quorum in
    let product : length quorum * (n / 2) ≡ suc (n / 2) * (n / 2) = ap (λ (k : ℕ). k * (n / 2)) count in
    let parts = square (n / 2) in
    by_need fetches (times (n / 2) quorum) ((n / 2) * (n / 2)) (all ∙ product ∙ parts) took
  where
    by_need : (b : Bool) (t s : ℕ) → t ≡ s + n / 2 → turns ≡ length quorum + t + n / 2 + (if b then 2 else 0) → turns ≡ s + 3 * (n / 2) + 1 + (if b then 2 else 0)
    by_need true t s is took = omega (arith, is, took, count)
    by_need false t s is took = omega (arith, is, took, count)
