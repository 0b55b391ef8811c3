-- What a step of an iterator gave, and that it gave nothing.
use Rattle.std.proofs.Common.{◌≡◌, Option, Some, None, subst}
use Rattle.std.specs.Option.{MatchOption}

pub some_step : {A : Type 0} (r : Option A) (x : A) (N : Type 0) (S : A → Type 0) → r ≡ Some x → MatchOption r N S → S x
some_step r x N S e h = subst (λ (o : Option _). MatchOption o N S) e h

pub none_step : {A : Type 0} (r : Option A) (N : Type 0) (S : A → Type 0) → r ≡ None → MatchOption r N S → N
none_step r N S e h = subst (λ (o : Option _). MatchOption o N S) e h
