-- What an application is to contracts, as one value.
use Rattle.std.specs.Prelude.{ℕ, List, map}
use Rattle.of_types.specs.declared.setup.Setup.{Setup}
use Rattle.app_core.specs.Parts.{AllFit}

-- the kinds of its parts, their states, and the setups that it suits
pub record AppLaw (A : Type 0) : Type 1 where
  pub kinds : A → List ℕ
  pub states : A → List (List ℕ)
  pub suits : A → Setup → Type 0

-- an application that is a chain of parts, each of which has a kind and a state, and fits some setups
abbrev pub chain_law : {A P : Type 0} → (P → ℕ) → (P → List ℕ) → (P → Setup → Type 0) → (A → List P) → AppLaw A
chain_law kind_of numbers is_fit parts =
    record {
      kinds = λ a. map kind_of (parts a);
      states = λ a. map numbers (parts a);
      suits = λ a setup. AllFit is_fit (parts a) setup;
    }
