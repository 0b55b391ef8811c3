-- What a member holds and says can be spelled: its logs are within the limits, and so are their entries.
use Rattle.std.specs.Prelude.{List, Option, Some, None, ⊤}
use Rattle.std.specs.List.{AllByRecursion}
use Rattle.vr_log.specs.declared.message.VrLetter.{VrLetter}
use Rattle.vr_log.specs.declared.state.Supplied.{Supplied}
use Rattle.vr_log.specs.declared.state.VrState.{VrState}
use Rattle.vr_log.specs.Sizes.{IsValidLog, IsValidFilled, IsValidVr}
use Rattle.vr_log.specs.Steps.{VrStep}
use Rattle.vr_core.specs.declared.input.VrInput.{VrInput}
use Rattle.vr_core.specs.declared.input.VrInput.TheVariants as vr_input
use Rattle.vr_core.specs.Step.{vr_step}

abbrev pub IsValidSupply : Option Supplied → Type 0
IsValidSupply None = ⊤
IsValidSupply (Some x) = IsValidLog x.log

-- each log that a member holds can be spelled
pub record CanBeSpelled (s : VrState) : Type 0 where
  pub log : IsValidLog s.log
  pub collected : AllByRecursion (λ c. IsValidLog c.log) s.collected
  pub supply : IsValidSupply s.supply
  pub responses : AllByRecursion (λ r. IsValidFilled r.filled) s.responses

-- each message of these letters can be spelled
abbrev pub AreValidLetters : List VrLetter → Type 0
AreValidLetters letters = AllByRecursion (λ l. IsValidVr l.message) letters

-- what a step leaves and says can be spelled
pub record IsValidStep (step : VrStep) : Type 0 where
  pub state : CanBeSpelled step.state
  pub letters : AreValidLetters step.letters

-- the message of an input, if it is one, can be spelled
abbrev pub IsValidInput : VrInput → Type 0
IsValidInput (vr_input.From from what) = IsValidVr what
IsValidInput (vr_input.Suspect view) = ⊤
IsValidInput vr_input.Tick = ⊤

-- where what a member holds and hears can be spelled, what it holds then and says can be spelled
abbrev pub StepsCanBeSpelled : Type 0
StepsCanBeSpelled = (s : VrState) (x : VrInput) → CanBeSpelled s → IsValidInput x → IsValidStep (vr_step s x)
