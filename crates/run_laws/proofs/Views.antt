-- No controller has a view, or has promised one, above each that was suspected.
use Rattle.std.proofs.Common.{◌≡◌, ℕ, suc, List, [], ◌∷◌, refl, arith}
use Rattle.std.specs.List.{AllByRecursion}
use Rattle.of_types.specs.Setups.{IsSetup}
use Rattle.journal.specs.declared.journal.Actor.{Actor}
use Rattle.journal.specs.declared.journal.Actor.TheVariants as actor
use Rattle.journal.specs.declared.journal.JournalEntry.{JournalEntry}
use Rattle.journal.specs.declared.journal.Letter.{Letter}
use Rattle.journal.specs.declared.journal.Local.{Local as LocalInput}
use Rattle.journal.specs.declared.journal.Local.TheVariants as local
use Rattle.journal.specs.declared.journal.SaveResult.{SaveResult}
use Rattle.vr_log.specs.declared.message.VrMessage.{VrMessage}
use Rattle.group_controller.specs.declared.messages.ControllerInput.{ControllerInput}
use Rattle.group_controller.specs.declared.messages.ControllerInput.TheVariants as controller_input
use Rattle.group_controller.specs.declared.messages.ControllerSays.{ControllerSays}
use Rattle.group_controller.specs.declared.messages.ControllerSays.TheVariants as controller_says
use Rattle.group_controller.specs.State.{ControllerState}
use Rattle.group_controller.specs.Rules.{controller_work}
use Rattle.controller_moves.specs.ControllerLaws.Moves.{member_input}
use Rattle.controller_moves.specs.Spelling.{IsValidTo, CanBeHeard}
use Rattle.run_spec.specs.declared.messages.Message.TheVariants as message
use Rattle.run_spec.specs.declared.messages.Unsealed.{Unsealed}
use Rattle.run_spec.specs.declared.messages.Unsealed.TheVariants as unsealed
use Rattle.run_spec.specs.States.{Scene, IsFaithful, controller_hears}
use Rattle.run_spec.specs.Legal.{EntryFits, IsPossible}
use Rattle.run_laws.specs.RunAgreement.Reading.{DrawsValidEvents}
use Rattle.run_laws.proofs.RunAgreement.Invariants.{IsInvariant, invariant_holds}
use Rattle.run_laws.proofs.RunAgreement.Spelling.{IsSpelled, spelled_invariant}
use Rattle.run_laws.specs.Laws.{InEveryRun, SuspectsUpTo, EntrySuspectsUpTo, IsSuspectedUpTo, AreViewsUpTo, AreViewsSuspected}
use Rattle.run_laws.proofs.Events.{events_valid}
use Rattle.run_laws.proofs.Laws.{always}
use Rattle.run_laws.proofs.StepViews.{IsStateUpTo, IsInputUpTo}
use Rattle.run_laws.proofs.WorkViews.{IsSaidUpTo, IsWorkUpTo, down_up, turn_up}

all_both : {A : Type 0} (P Q : A → Type 0) (xs : List A) → AllByRecursion P xs → AllByRecursion Q xs → AllByRecursion (λ x. P x × Q x) xs
all_both P Q [] p q = tt
all_both P Q (x ∷ xs) p q = ((p.0, q.0), all_both P Q xs p.1 q.1)

module _ (limit : ℕ) where
  local_up : (what : LocalInput) → SuspectsUpTo limit what → IsInputUpTo limit (member_input (controller_input.Local what))
  local_up (local.Suspect view) h = h
  local_up local.Tick h = tt
  local_up local.Crash h = tt
  local_up local.Restart h = tt
  local_up (local.Frame port bytes) h = tt
  local_up (local.Port port up) h = tt

  heard_up : (c : ℕ) (from : Actor) (u : Unsealed) → ((j : ℕ) (m : VrMessage) → controller_hears from u ≡ controller_input.Vr j m → IsSaidUpTo limit (actor.Controller c) (controller_says.Vr m))
      → IsInputUpTo limit (member_input (controller_hears from u))
  heard_up c (actor.Controller i) (unsealed.Message (message.Vr m)) said = said i m refl
  heard_up c (actor.Controller i) (unsealed.Message (message.Of xid m)) said = tt
  heard_up c (actor.Controller i) (unsealed.Message (message.Frame port bytes)) said = tt
  heard_up c (actor.Controller i) (unsealed.Malformed kind code xid head) said = tt
  heard_up c (actor.Switch s) (unsealed.Message (message.Vr m)) said = tt
  heard_up c (actor.Switch s) (unsealed.Message (message.Of xid m)) said = tt
  heard_up c (actor.Switch s) (unsealed.Message (message.Frame port bytes)) said = tt
  heard_up c (actor.Switch s) (unsealed.Malformed kind code xid head) said = tt

  -- beside it, all can be spelled, so that it is read as it was sealed
  abbrev Good : ControllerState → Type 0
  Good c = IsSpelled c × IsStateUpTo limit c.vr

  abbrev Said : Actor → ControllerSays → Type 0
  Said to said = IsValidTo to said × IsSaidUpTo limit to said

  abbrev GoodInput : ControllerInput → Type 0
  GoodInput x = CanBeHeard x × IsInputUpTo limit (member_input x)

  abbrev GoodEntry : {B : Type 0} → JournalEntry B → Type 0
  GoodEntry e = EntryFits e × EntrySuspectsUpTo limit e

  views_invariant : {B : Type 0} (scene : Scene B) → IsInvariant (λ (e : JournalEntry B). GoodEntry e) scene.setup.controllers (λ c x. controller_work scene.kinds scene.setup c x) Good Said GoodInput
  views_invariant scene =
      let spelled = spelled_invariant scene in
      record {
        starts = λ c. (spelled.starts c, (omega arith, omega arith, tt));
        falls = λ c good. (spelled.falls c good.0, down_up limit c.vr.me c.vr.controllers c.vr.promise c.vr.life good.1.1);
        turns = λ c x good heard.
            let k = spelled.turns c x good.0 heard.0 in
            let w : IsWorkUpTo limit (controller_work scene.kinds scene.setup c x) = turn_up limit scene.kinds scene.setup c x good.1 heard.1 in
            record {
              state = (k.state, w.state);
              letters = all_both (λ (l : Letter ControllerSays). IsValidTo l.to l.body) (λ (l : Letter ControllerSays). IsSaidUpTo limit l.to l.body) _ k.letters w.letters;
              saves = λ pair e. (k.saves pair e, down_up limit c.vr.me c.vr.controllers pair.0 pair.1 (w.saves pair e));
            };
        valid = λ to said p. p.0;
        local = λ a what fine. (spelled.local a what fine.0, local_up what fine.1);
        heard = λ c from u event said. (spelled.heard c from u event (λ j m is. (said j m is).0), heard_up c from u (λ j m is. (said j m is).1));
      }

-- where no view above a limit was suspected, no controller has one, or has promised one
pub views_up_to : {B : Type 0} (scene : Scene B) (results : List (List SaveResult)) (entries : List (JournalEntry B)) → IsSetup scene.setup → IsFaithful scene.sealing → IsPossible scene results entries
    → (limit : ℕ) → IsSuspectedUpTo limit entries → AreViewsUpTo scene results limit entries
views_up_to {B = B} scene results entries setup faithful possible limit suspected c there =
    let valid : DrawsValidEvents scene entries = events_valid scene results entries possible (λ i. always scene results setup faithful entries possible (suc i)) in
    let fine : AllByRecursion (λ (e : JournalEntry B). GoodEntry limit e) entries = all_both (λ (e : JournalEntry B). EntryFits e) (λ (e : JournalEntry B). EntrySuspectsUpTo limit e) entries possible.fits suspected in
    let now = ((invariant_holds scene results faithful (λ e. GoodEntry limit e) (Good limit) (Said limit) (GoodInput limit) (views_invariant limit scene) entries possible valid fine).controllers c there).now in
    (now.1.0, now.1.1)

pub views_law : {B : Type 0} → InEveryRun B (λ scene results entries. AreViewsSuspected scene results entries)
views_law scene results entries setup faithful possible limit suspected = views_up_to scene results entries setup faithful possible limit suspected
