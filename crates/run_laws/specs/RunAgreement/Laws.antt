-- Agreement of the controllers of every possible past of a run, whatever is lost, repeated, refused or not saved.
use Rattle.std.specs.Prelude.{◌≡◌, ℕ, true, nat_le, ◌+◌, ◌*◌, ◌<◌, List, drop}
use Rattle.of_types.specs.declared.setup.Setup.{Setup}
use Rattle.of_types.specs.Setups.{IsSetup}
use Rattle.journal.specs.declared.journal.JournalEntry.{JournalEntry}
use Rattle.journal.specs.declared.journal.SaveResult.{SaveResult}
use Rattle.agreement.specs.Lists.{count_below}
use Rattle.list_facts.specs.Lists.{IsPrefix}
use Rattle.vr_log.specs.Members.{leads}
use Rattle.run_spec.specs.States.{Scene}
use Rattle.run_spec.specs.Legal.{IsPossible}
use Rattle.run_spec.specs.Committed.{kept, decided, controller_state}
use Rattle.run_spec.specs.Laws.{IsLasting}
use Rattle.list_facts.specs.Lists.{AreOne}
use Rattle.run_laws.specs.RunAgreement.Reading.{AreReadAsSealed}

-- of what two controllers have committed, at any two times, one begins the other
abbrev pub KeptLogsAgree : Type 0 → Type 0
KeptLogsAgree B = (scene : Scene B) (results : List (List SaveResult)) (most_failures : ℕ) (past : List (JournalEntry B)) (c d i j : ℕ)
    → scene.setup.controllers ≡ 2 * most_failures + 1 → AreReadAsSealed scene past → IsPossible scene results past
    → c < scene.setup.controllers → d < scene.setup.controllers → AreOne (kept scene results c (drop i past)) (kept scene results d (drop j past))

-- what was decided stays decided
abbrev pub DecidedLasts : Type 0 → Type 0
DecidedLasts B = (scene : Scene B) (results : List (List SaveResult)) (most_failures : ℕ) (past : List (JournalEntry B))
    → scene.setup.controllers ≡ 2 * most_failures + 1 → AreReadAsSealed scene past → IsPossible scene results past → IsLasting scene results past

-- f + 1 controllers have promised a view that is not above that of c
abbrev pub MostOfRunPromiseUpTo : {B : Type 0} → Scene B → List (List SaveResult) → List (JournalEntry B) → ℕ → ℕ → Type 0
MostOfRunPromiseUpTo scene results past most_failures c =
    most_failures < count_below (λ j. nat_le (controller_state scene results j past).vr.promise (controller_state scene results c past).vr.view) scene.setup.controllers

-- the log of a controller that leads begins with what is decided, where most promises are not above its view
abbrev pub DecidedOfRunIsLed : Type 0 → Type 0
DecidedOfRunIsLed B = (scene : Scene B) (results : List (List SaveResult)) (most_failures : ℕ) (past : List (JournalEntry B)) (c : ℕ)
    → scene.setup.controllers ≡ 2 * most_failures + 1 → AreReadAsSealed scene past → IsPossible scene results past → c < scene.setup.controllers
    → leads (controller_state scene results c past).vr ≡ true → MostOfRunPromiseUpTo scene results past most_failures c
    → IsPrefix (decided scene results past) (controller_state scene results c past).vr.log

-- each setup has 2 f + 1 controllers
abbrev pub SetupsAreOdd : Type 0
SetupsAreOdd = (setup : Setup) → IsSetup setup → (most_failures : ℕ) × (setup.controllers ≡ 2 * most_failures + 1)
