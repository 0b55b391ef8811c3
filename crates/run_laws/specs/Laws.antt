-- What holds of every run of a group and its switches: of every past that may have come about, whatever is lost, repeated,
-- reordered, crashed, restarted, refused for want of memory or not saved.
use Rattle.std.specs.Prelude.{◌≡◌, ◌<◌, ◌≤◌, ℕ, ◌+◌, ◌*◌, true, List, drop}
use Rattle.std.specs.List.{AllByRecursion}
use Rattle.of_types.specs.Setups.{IsSetup}
use Rattle.journal.specs.declared.journal.Actor.TheVariants as actor
use Rattle.journal.specs.declared.journal.JournalEntry.{JournalEntry}
use Rattle.journal.specs.declared.journal.JournalEntry.TheVariants.{Local}
use Rattle.journal.specs.declared.journal.Local.{Local as LocalInput}
use Rattle.journal.specs.declared.journal.Local.TheVariants as local
use Rattle.journal.specs.declared.journal.SaveResult.{SaveResult}
use Rattle.list_facts.specs.Lists.{IsIn, IsPrefix}
use Rattle.vr_log.specs.Members.{leads}
use Rattle.of_switch.specs.State.{life_of}
use Rattle.run_spec.specs.States.{Scene, IsFaithful}
use Rattle.run_spec.specs.Legal.{IsPossible}
use Rattle.run_spec.specs.Committed.{controller_state, switch_state, kept, decided}
use Rattle.list_facts.specs.Lists.{AreOne}
use Rattle.run_laws.specs.OnceLaws.Premises.{IsProperLog, AreControllers}
use Rattle.run_laws.specs.RunAgreement.Laws.{MostOfRunPromiseUpTo}

-- this holds of every past of every run, where bodies say what was sealed in them
abbrev pub InEveryRun : (B : Type 0) → (Scene B → List (List SaveResult) → List (JournalEntry B) → Type 0) → Type 0
InEveryRun B Law = (scene : Scene B) (results : List (List SaveResult)) (entries : List (JournalEntry B)) →
    IsSetup scene.setup → IsFaithful scene.sealing → IsPossible scene results entries → Law scene results entries

-- of what two controllers have committed, at any two times, one begins the other (Viewstamped Replication Revisited, 8.1)
abbrev pub AreAgreed : {B : Type 0} → Scene B → List (List SaveResult) → List (JournalEntry B) → Type 0
AreAgreed scene results entries = (c d i j : ℕ) → c < scene.setup.controllers → d < scene.setup.controllers →
    AreOne (kept scene results c (drop i entries)) (kept scene results d (drop j entries))

-- each entry of what is decided may follow those before it, and so it is with each log that was committed at any time: its
-- events come by number in each life, and are processed in order (Ravana, 3.2)
pub record AreValidLogs {B : Type 0} (scene : Scene B) (results : List (List SaveResult)) (entries : List (JournalEntry B)) : Type 0 where
  pub decided : IsProperLog (decided scene results entries)
  pub each : (c i : ℕ) → IsProperLog (kept scene results c (drop i entries))

-- the log of a controller that leads begins with what is decided, where f + 1 of the 2 f + 1 promises are not above its view
abbrev pub IsLed : {B : Type 0} → Scene B → List (List SaveResult) → List (JournalEntry B) → Type 0
IsLed scene results entries = (most_failures c : ℕ) → scene.setup.controllers ≡ 2 * most_failures + 1 → c < scene.setup.controllers →
    leads (controller_state scene results c entries).vr ≡ true → MostOfRunPromiseUpTo scene results entries most_failures c →
    IsPrefix (decided scene results entries) (controller_state scene results c entries).vr.log

-- an input, an entry and a past suspect no view above a limit
abbrev pub SuspectsUpTo : ℕ → LocalInput → Type 0
SuspectsUpTo limit (local.Suspect view) = view ≤ limit
SuspectsUpTo limit _ = Unit {0}

abbrev pub EntrySuspectsUpTo : {B : Type 0} → ℕ → JournalEntry B → Type 0
EntrySuspectsUpTo limit (Local a input) = SuspectsUpTo limit input
EntrySuspectsUpTo limit _ = Unit {0}

abbrev pub IsSuspectedUpTo : {B : Type 0} → ℕ → List (JournalEntry B) → Type 0
IsSuspectedUpTo limit entries = AllByRecursion (λ e. EntrySuspectsUpTo limit e) entries

-- no controller has a view, or has promised one, above a limit
abbrev pub AreViewsUpTo : {B : Type 0} → Scene B → List (List SaveResult) → ℕ → List (JournalEntry B) → Type 0
AreViewsUpTo scene results limit entries = (c : ℕ) → c < scene.setup.controllers →
    ((controller_state scene results c entries).vr.view ≤ limit) × ((controller_state scene results c entries).vr.promise ≤ limit)

-- no controller has a view, or has promised one, above each that was suspected
abbrev pub AreViewsSuspected : {B : Type 0} → Scene B → List (List SaveResult) → List (JournalEntry B) → Type 0
AreViewsSuspected scene results entries = (limit : ℕ) → IsSuspectedUpTo limit entries → AreViewsUpTo scene results limit entries

-- the controllers of every run keep to their side
abbrev pub ControllersKeepTheirSide : Type 0 → Type 0
ControllersKeepTheirSide B = (scene : Scene B) (results : List (List SaveResult)) → IsSetup scene.setup → IsFaithful scene.sealing → AreControllers scene results

-- no entry restarts this switch
abbrev pub IsUnrestarted : {B : Type 0} → ℕ → List (JournalEntry B) → Type 0
IsUnrestarted s entries = IsIn (Local (actor.Switch s) local.Restart) entries → ⊥

-- a switch that was never restarted is in its first life
abbrev pub AreFirstLives : {B : Type 0} → Scene B → List (JournalEntry B) → Type 0
AreFirstLives scene entries = (s : ℕ) → IsUnrestarted s entries → life_of (switch_state scene s entries) ≡ 0
