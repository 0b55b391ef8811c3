-- What members say to each other is read as it was sealed.
use Rattle.std.proofs.Common.{◌≡◌, ℕ, zero, suc, ◌<◌, List, [], ◌∷◌, drop, ap, subst}
use Rattle.std.specs.Prelude.{⊤}
use Rattle.std.specs.List.{AllByRecursion}
use Rattle.journal.specs.declared.journal.Actor.{Actor}
use Rattle.journal.specs.declared.journal.Actor.TheVariants as actor
use Rattle.journal.specs.declared.journal.JournalEntry.{JournalEntry}
use Rattle.journal.specs.declared.journal.Letter.{Letter}
use Rattle.journal.specs.declared.journal.SaveResult.{SaveResult}
use Rattle.journal.specs.Part.{part}
use Rattle.journal.proofs.All.{all_weaker}
use Rattle.vr_log.specs.declared.message.VrMessage.{VrMessage}
use Rattle.group_controller.specs.declared.messages.ControllerSays.{ControllerSays}
use Rattle.group_controller.specs.declared.messages.ControllerSays.TheVariants as controller_says
use Rattle.controller_moves.specs.Spelling.{IsValidTo}
use Rattle.run_spec.specs.declared.messages.Message.TheVariants as message
use Rattle.run_spec.specs.declared.messages.Unsealed.TheVariants as unsealed
use Rattle.run_spec.specs.declared.messages.Way.TheVariants as way
use Rattle.run_spec.specs.Messages.{FitsMessage}
use Rattle.run_spec.specs.States.{Scene, controller_message, controller_at}
use Rattle.run_spec.specs.Legal.{IsPossible, results_of}
use Rattle.run_spec.proofs.Pasts.{possible_before}
use Rattle.list_facts.proofs.Elements.{all_in}
use Rattle.run_laws.specs.RunAgreement.Reading.{IsTrueToMembers, DrawsValidEvents, AreReadAsSealed, Always, WhereValid, OwnBodiesAreTrue}
use Rattle.run_laws.proofs.RunAgreement.Invariants.{valid_read}
use Rattle.run_laws.proofs.RunAgreement.Spelling.{all_spelled}

-- a letter to a member is read as it was sealed, where it reads as a message of members
abbrev pub IsRead : {B : Type 0} → Scene B → Actor → ControllerSays → Type 0
IsRead scene to said =
    (c : ℕ) (m : VrMessage) → to ≡ actor.Controller c → scene.sealing.spelled way.Vr (scene.sealing.sealed (controller_message said)) ≡ unsealed.Message (message.Vr m) → said ≡ controller_says.Vr m

-- so is each letter that a controller owed at some time before the end of a past, if its numbers fit their fields
abbrev pub OwedAreRead : {B : Type 0} → Scene B → List (List SaveResult) → List (JournalEntry B) → Type 0
OwedAreRead scene results past =
    (c : ℕ) → c < scene.setup.controllers → AllByRecursion (λ l. FitsMessage (controller_message l.body) → IsRead scene l.to l.body) (controller_at scene (results_of results c) c (part (actor.Controller c) past)).owed

abbrev pub LettersAreRead : {B : Type 0} → Scene B → List (List SaveResult) → List (JournalEntry B) → Type 0
LettersAreRead scene results [] = ⊤
LettersAreRead scene results (e ∷ before) = OwedAreRead scene results before × LettersAreRead scene results before

-- a past that is possible, and whose letters are read
pub record IsReadPast {B : Type 0} (scene : Scene B) (results : List (List SaveResult)) (past : List (JournalEntry B)) : Type 0 where
  pub possible : IsPossible scene results past
  pub letters : LettersAreRead scene results past

pub read_before : {B : Type 0} (scene : Scene B) (results : List (List SaveResult)) (e : JournalEntry B) (before : List (JournalEntry B)) → IsReadPast scene results (e ∷ before) → IsReadPast scene results before
read_before scene results e before k = record { possible = possible_before scene results e before k.possible; letters = k.letters.1 }

pub read_drop : {B : Type 0} (scene : Scene B) (results : List (List SaveResult)) (i : ℕ) (past : List (JournalEntry B)) → IsReadPast scene results past → IsReadPast scene results (drop i past)
read_drop scene results zero past k = k
read_drop scene results (suc i) [] k = k
read_drop scene results (suc i) (e ∷ before) k = read_drop scene results i before (read_before scene results e before k)

-- a message is what a controller says of it
vr_said : (said : ControllerSays) (m : VrMessage) → controller_message said ≡ message.Vr m → said ≡ controller_says.Vr m
vr_said (controller_says.Of xid x) m e = absurd cc
vr_said (controller_says.Vr x) m e = ap (λ (k : VrMessage). controller_says.Vr k) (let same : x ≡ m = cc in same)

module _ {B : Type 0} (scene : Scene B) (results : List (List SaveResult)) where
  read_always : IsTrueToMembers scene.sealing → (past : List (JournalEntry B)) → LettersAreRead scene results past
  read_always true_to [] = tt
  read_always true_to (e ∷ before) =
      ((λ c there. all_in (λ (l : Letter ControllerSays). FitsMessage (controller_message l.body) → IsRead scene l.to l.body) _ (λ l among typed d m to says. vr_said l.body m (true_to (controller_message l.body) m says))), read_always true_to before)

  -- where bodies are read as they were sealed, so are letters
  pub read_past : (past : List (JournalEntry B)) → IsPossible scene results past → AreReadAsSealed scene past → IsReadPast scene results past
  read_past past legal (Always true_to) = record { possible = legal; letters = read_always true_to past }
  read_past past legal (WhereValid faithful valid) = record { possible = legal; letters = by_past past legal valid }
    where
      by_past : (es : List (JournalEntry B)) → IsPossible scene results es → DrawsValidEvents scene es → LettersAreRead scene results es
      by_past [] k v = tt
      by_past (e ∷ before) k v =
          let k' = possible_before scene results e before k in (
            (λ c there. all_weaker (λ (l : Letter ControllerSays). IsValidTo l.to l.body) (λ (l : Letter ControllerSays). FitsMessage (controller_message l.body) → IsRead scene l.to l.body)
                (λ l good typed d m to says. valid_read scene faithful d l.body m (subst (λ (a : Actor). IsValidTo a l.body) to good) typed says)
                _ ((all_spelled scene results faithful before k' v.1).controllers c there).owed),
            by_past before k' v.1,
          )

pub own_law : OwnBodiesAreTrue
own_law (message.Of xid x) m e = absurd cc
own_law (message.Vr x) m e = ap (λ (k : VrMessage). message.Vr k) (let same : x ≡ m = cc in same)
own_law (message.Frame port bytes) m e = absurd cc
