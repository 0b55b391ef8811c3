-- A past in which each actor stands behind its part is that of a run.
use Rattle.std.proofs.Common.{◌≡◌, ◌<◌, ℕ, Bool, true, false, List, [], ◌∷◌, length, refl, sym, ◌∙◌, ap, subst}
use Rattle.std.specs.Prelude.{Option, Some, slice_get}
use Rattle.std.specs.List.{AllByRecursion}
use Rattle.of_types.specs.declared.setup.Setup.{Setup}
use Rattle.of_types.specs.Setups.{IsSetup}
use Rattle.journal.specs.declared.journal.Actor.{Actor}
use Rattle.journal.specs.declared.journal.Actor.TheVariants as actor
use Rattle.journal.specs.declared.journal.JournalEntry.{JournalEntry}
use Rattle.journal.specs.declared.journal.Letter.{Letter}
use Rattle.journal.specs.declared.journal.Packet.{Packet}
use Rattle.journal.specs.declared.journal.SaveResult.{SaveResult}
use Rattle.journal.specs.Actors.{same_actor, actor_of, IsActor}
use Rattle.journal.specs.Orderly.{IsOrderly}
use Rattle.journal.specs.Part.{part, drawn}
use Rattle.of_switch.specs.State.{SwitchState}
use Rattle.group_controller.specs.Turns.{Controlling, state_of}
use Rattle.run_spec.specs.States.{Scene, controller_at, switch_at, controller_message, switch_message}
use Rattle.run_spec.specs.Legal.{EntryFits, IsSoundController, IsPossible, IsLegalPast, results_of}
use Rattle.run_spec.specs.Committed.{switch_state}
use Rattle.world.specs.World.{HoldsAt, IsDebtor, IsMember, IsOwed, Worlding, debt_of, results_in}
use Rattle.run_spec.proofs.Pasts.{self_controller, self_switch}
use Rattle.world.specs.Standing.{AllStand}
use Rattle.world.proofs.Places.{results_at}
use Rattle.app_core.specs.Law.{AppLaw}

same_refl : (a : Actor) → same_actor a a ≡ true
same_refl (actor.Controller c) = self_controller c
same_refl (actor.Switch s) = self_switch s

module _ {B : Type 0} where
  pub own_part : (a : Actor) (e : JournalEntry B) (before : List (JournalEntry B)) → same_actor (actor_of e) a ≡ true → part a (e ∷ before) ≡ (e, drawn e before) ∷ part a before
  own_part a e before is = rw is refl

  pub other_part : (a : Actor) (e : JournalEntry B) (before : List (JournalEntry B)) → same_actor (actor_of e) a ≡ false → part a (e ∷ before) ≡ part a before
  other_part a e before is = rw is refl

  abbrev AreTyped : List (JournalEntry B × Option (Packet B)) → Type 0
  AreTyped own = AllByRecursion (λ (x : JournalEntry B × Option (Packet B)). EntryFits x.0) own

  -- what holds of each actor's entries holds of all
  from_parts : (setup : Setup) (entries : List (JournalEntry B)) → AllByRecursion (λ e. IsActor setup (actor_of e)) entries →
      ((a : Actor) → IsActor setup a → AreTyped (part a entries)) → AllByRecursion (λ e. EntryFits e) entries
  from_parts setup [] named each = tt
  from_parts setup (e ∷ before) named each = (here, from_parts setup before named.1 (λ a there. less a (same_actor (actor_of e) a) refl (each a there)))
    where
      here : EntryFits e
      here = (subst AreTyped (own_part (actor_of e) e before (same_refl (actor_of e))) (each (actor_of e) named.0)).0

      less : (a : Actor) (b : Bool) → same_actor (actor_of e) a ≡ b → AreTyped (part a (e ∷ before)) → AreTyped (part a before)
      less a true is all = (subst AreTyped (own_part a e before is) all).1
      less a false is all = subst AreTyped (other_part a e before is) all

module _ {B A : Type 0} (law : AppLaw A) (scene : Scene B) (entries : List (JournalEntry B)) (controllers : List (Controlling A)) (switches : List SwitchState)
    (owed : Actor → List (Letter B)) (stand : AllStand law scene entries controllers switches owed)
    (named : AllByRecursion (λ e. IsActor scene.setup (actor_of e)) entries) (orderly : IsOrderly scene.sealing.size entries) where
  abbrev Results : List (List SaveResult)
  Results = results_in controllers

  -- by the results that all controllers have
  result_of : (c : ℕ) (there : c < scene.setup.controllers) → results_of Results c ≡ (stand.controllers_stand c there).0.results
  result_of c there = let x = stand.controllers_stand c there in results_at controllers c x.0 x.1

  typed : AllByRecursion (λ e. EntryFits e) entries
  typed = from_parts scene.setup entries named each
    where
      each : (a : Actor) → IsActor scene.setup a → AreTyped (part a entries)
      each (actor.Controller c) there = (stand.controllers_stand c there).2.stands.typed
      each (actor.Switch s) there = (stand.switches_stand s there).2.typed

  pub possible : IsPossible scene Results entries
  possible = record {
    named = named;
    fits = typed;
    orderly = orderly;
    switches = λ s there. (stand.switches_stand s there).2.sound;
    controllers = λ c there. subst (λ (rs : List SaveResult). IsSoundController scene rs c (part (actor.Controller c) entries)) (sym (result_of c there)) (stand.controllers_stand c there).2.stands.sound;
  }

  pub legal : IsLegalPast scene Results entries
  legal = record {
    possible = possible;
    saves = λ c there. subst (λ (rs : List SaveResult). length rs ≡ (controller_at scene rs c (part (actor.Controller c) entries)).saves) (sym (result_of c there)) (stand.controllers_stand c there).2.saves;
  }

  pub members : (c : ℕ) → c < scene.setup.controllers → IsMember law scene Results entries controllers c
  members c there =
      let x = stand.controllers_stand c there in
      record {
        member = x.0;
        stands = x.1;
        keeps = x.2.keeps;
        setup = x.2.setup_is;
        me = x.2.me_is;
        state = subst (λ (rs : List SaveResult). state_of x.0 ≡ (controller_at scene rs c (part (actor.Controller c) entries)).now) (sym (result_of c there)) x.2.stands.state_is;
      }

  pub switches_are : (s : ℕ) → s < length scene.setup.ports → slice_get switches s ≡ Some (switch_state scene s entries)
  switches_are s there = let x = stand.switches_stand s there in x.1 ∙ ap (λ y. Some y) x.2.state_is

  pub controller_owes : (c : ℕ) → c < scene.setup.controllers →
      IsOwed controller_message scene.sealing (controller_at scene (results_of Results c) c (part (actor.Controller c) entries)).owed (owed (actor.Controller c))
  controller_owes c there =
      subst (λ (rs : List SaveResult). IsOwed controller_message scene.sealing (controller_at scene rs c (part (actor.Controller c) entries)).owed (owed (actor.Controller c)))
      (sym (result_of c there)) (stand.controllers_stand c there).2.stands.owes

  pub switch_owes : (s : ℕ) → s < length scene.setup.ports → IsOwed switch_message scene.sealing (switch_at scene s (part (actor.Switch s) entries)).owed (owed (actor.Switch s))
  switch_owes s there = (stand.switches_stand s there).2.owes

-- a world whose actors stand so is that of a run
pub joined : {B A : Type 0} (law : AppLaw A) (scene : Scene B) (entries : List (JournalEntry B)) (w : Worlding B A) → AllStand law scene entries w.controllers w.switches (debt_of w.owed) →
    IsSetup scene.setup → AllByRecursion (λ e. IsActor scene.setup (actor_of e)) entries → IsOrderly scene.sealing.size entries → IsDebtor w.owed entries →
    HoldsAt law scene (results_in w.controllers) entries w
joined law scene entries w stand setup named orderly debtor = record {
  setup = setup;
  legal = legal law scene entries w.controllers w.switches (debt_of w.owed) stand named orderly;
  group = stand.group;
  count = stand.count;
  controllers = members law scene entries w.controllers w.switches (debt_of w.owed) stand named orderly;
  switches = switches_are law scene entries w.controllers w.switches (debt_of w.owed) stand named orderly;
  controller_debts = controller_owes law scene entries w.controllers w.switches (debt_of w.owed) stand named orderly;
  switch_debts = switch_owes law scene entries w.controllers w.switches (debt_of w.owed) stand named orderly;
  debtor = debtor;
}
