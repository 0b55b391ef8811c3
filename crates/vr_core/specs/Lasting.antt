-- What a step of a member keeps: what is committed, and what is stable.
use Rattle.std.specs.Prelude.{◌≡◌, ◌≤◌, ℕ, true, take, Option, Some, None}
use Rattle.std.specs.List.{AllByRecursion}
use Rattle.vr_log.specs.declared.state.Status.TheVariants.{Down}
use Rattle.vr_log.specs.declared.state.VrState.{VrState}
use Rattle.vr_log.specs.Members.{is_changing}

-- while a member changes view, what it collected from itself has its own commit number
abbrev pub CollectsItsOwn : VrState → Type 0
CollectsItsOwn s = is_changing s ≡ true → AllByRecursion (λ c. c.from ≡ s.me → c.commit ≡ s.commit) s.collected

-- the promise that stands once what is to be saved was saved
abbrev pub promised : ℕ → Option ℕ → ℕ
promised old None = old
promised old (Some view) = view

-- What is committed stays, and only a promise that is saved changes the stable pair.
pub record Lasts (old : VrState) (promise : Option ℕ) (new : VrState) : Type 0 where
  pub rises : old.commit ≤ new.commit
  pub stays : take old.commit new.log ≡ take old.commit old.log
  pub me : new.me ≡ old.me
  pub controllers : new.controllers ≡ old.controllers
  pub life : new.life ≡ old.life
  pub promise_is : new.promise ≡ promised old.promise promise
  pub awake : (old.status ≡ Down → ⊥) → new.status ≡ Down → ⊥  -- it does not go down by itself
