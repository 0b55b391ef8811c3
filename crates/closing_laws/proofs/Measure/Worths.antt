-- The worth of what letters put on their way, in a closing of this quorum.
use Rattle.std.proofs.Common.{◌≡◌, ℕ, ◌+◌, ◌*◌, List, [], ◌∷◌, ◌++◌, length, map, refl, ◌∙◌, ap, arith, inl, inr}
use Rattle.std.specs.Prelude.{sum_by}
use Rattle.std.proofs.lemmas.List.{map-append}
use Rattle.std.proofs.lemmas.List.Sums.{sum_by-append, sum_by-cons}
use Rattle.list_facts.specs.Lists.{IsIn}
use Rattle.journal.specs.declared.journal.Actor.{Actor}
use Rattle.journal.specs.declared.journal.Letter.{Letter}
use Rattle.run_spec.specs.declared.messages.Message.{Message}
use Rattle.closing_laws.specs.Measure.{worth}
use Rattle.closing_laws.specs.Ways.{sent_by}

module _ {A : Type 0} (quorum : List ℕ) (says : A → Message) (from : Actor) where
  abbrev pub worth_of : Letter A → ℕ
  worth_of l = worth quorum (sent_by says from l)

  -- what letters of an actor are worth
  abbrev pub worths_of : List (Letter A) → ℕ
  worths_of letters = sum_by (worth quorum) (map (sent_by says from) letters)

  pub worths-append : (xs ys : List (Letter A)) → worths_of (xs ++ ys) ≡ worths_of xs + worths_of ys
  worths-append xs ys = ap (sum_by (worth quorum)) (map-append (sent_by says from) xs ys) ∙ sum_by-append (worth quorum) (map (sent_by says from) xs) (map (sent_by says from) ys)

  pub worths-cons : (x : Letter A) (xs : List (Letter A)) → worths_of (x ∷ xs) ≡ worth_of x + worths_of xs
  worths-cons x xs = sum_by-cons (worth quorum) (sent_by says from x) (map (sent_by says from) xs)

  -- letters that are worth nothing, one or two each
  pub worths_none : (xs : List (Letter A)) → ((x : Letter A) → IsIn x xs → worth_of x ≡ 0) → worths_of xs ≡ 0
  worths_none [] each = refl
  worths_none (x ∷ xs) each = let h = worths-cons x xs in let one = each x (inl refl) in let rest = worths_none xs (λ y m. each y (inr m)) in omega (arith, h, one, rest)

  module _ {X : Type 0} (g : X → Letter A) where
    pub worths_one : ((x : X) → worth_of (g x) ≡ 1) → (xs : List X) → worths_of (map g xs) ≡ length xs
    worths_one each [] = refl
    worths_one each (x ∷ xs) = let h = worths-cons (g x) (map g xs) in let one = each x in let rest = worths_one each xs in omega (arith, h, one, rest)

    pub worths_two : ((x : X) → worth_of (g x) ≡ 2) → (xs : List X) → worths_of (map g xs) ≡ 2 * length xs
    worths_two each [] = refl
    worths_two each (x ∷ xs) = let h = worths-cons (g x) (map g xs) in let one = each x in let rest = worths_two each xs in omega (arith, h, one, rest)
