-- A run is cut short where an outbox finds no room.
use Rattle.std.proofs.Common.{◌≡◌, ℕ, Bool, true, List, [], ◌∷◌, zero, suc, refl, sym, ◌∙◌, ap, subst}
use Rattle.std.specs.Prelude.{slice_get, Option, Some, None, if◌then◌else◌}
use Rattle.std.specs.List.{AllByRecursion}
use Rattle.std.proofs.lemmas.Bool.{eq-eqb, eqb-true}
use Rattle.journal.specs.declared.journal.Actor.{Actor}
use Rattle.journal.specs.declared.journal.Actor.TheVariants as actor
use Rattle.journal.specs.declared.journal.JournalEntry.{JournalEntry}
use Rattle.journal.specs.declared.journal.Letter.{Letter}
use Rattle.journal.specs.declared.journal.SaveResult.{SaveResult}
use Rattle.journal.specs.Actors.{actor_of, same_actor, IsActor}
use Rattle.journal.specs.Pool.{past}
use Rattle.journal.specs.Turns.{IsFull}
use Rattle.app_core.specs.Law.{AppLaw}
use Rattle.run_spec.specs.Script.{owed_of}
use Rattle.run_spec.specs.Limit.{IsJournalFull}
use Rattle.run_spec.specs.States.{Scene}
use Rattle.world.specs.Debts.{Debt}
use Rattle.world.specs.World.{IsStuck, Worlding, debt_of, results_in}
use Rattle.closing.proofs.Worlds.{Runs}

-- two actors that are the same
same_is : (a b : Actor) → same_actor a b ≡ true → a ≡ b
same_is (actor.Controller i) (actor.Controller j) same = ap (λ n. actor.Controller n) (eqb-true i j same)
same_is (actor.Switch i) (actor.Switch j) same = ap (λ n. actor.Switch n) (eqb-true i j same)
same_is (actor.Controller i) (actor.Switch j) same = cc
same_is (actor.Switch i) (actor.Controller j) same = cc

pub same_self : (a : Actor) → same_actor a a ≡ true
same_self (actor.Controller c) = eq-eqb c c refl
same_self (actor.Switch s) = eq-eqb s s refl

module _ {B A : Type 0} (law : AppLaw A) (scene : Scene B) (w : Worlding B A) (runs : Runs law scene w) where
  abbrev results : List (List SaveResult)
  results = results_in w.controllers

  -- what an actor owes by the journal is what the world has of it
  owes : (a : Actor) → IsActor scene.setup a → debt_of w.owed a ≡ owed_of scene results a (past w.journal)
  owes (actor.Controller c) there = (runs.controller_debts c there).sealed
  owes (actor.Switch s) there = (runs.switch_debts s there).sealed

  -- what has no room is what the newest input's actor owes
  pub stuck_full : (bytes letters : ℕ) → IsStuck scene.sealing.size w bytes letters → IsJournalFull scene results (past w.journal) bytes letters
  stuck_full bytes letters stuck = by_owed w.owed refl
    where
      by_past : (d : Debt B) → w.owed ≡ Some d → IsFull scene.sealing.size (past w.journal) d.letters bytes letters → (entries : List (JournalEntry B)) → past w.journal ≡ entries → IsJournalFull scene results entries bytes letters
      by_past d is full [] none = absurd (rw (is, none) at runs.debtor)
      by_past d is full (e ∷ before) some =
          let debtor = rw (is, some) at runs.debtor in
          let one : actor_of e ≡ d.actor = same_is (actor_of e) d.actor debtor.1 in
          let named : IsActor scene.setup (actor_of e) = (rw some at runs.legal.possible.named).0 in
          let own : debt_of w.owed (actor_of e) ≡ d.letters = ap (λ o. debt_of o (actor_of e)) is ∙ ap (λ (b : Bool). if b then d.letters else []) (ap (λ a. same_actor d.actor a) one ∙ same_self d.actor) in
          let letters_are : d.letters ≡ owed_of scene results (actor_of e) (e ∷ before) = sym own ∙ owes (actor_of e) named ∙ ap (λ l. owed_of scene results (actor_of e) l) some in
          (debtor.0, subst (λ (ls : List (Letter B)). IsFull scene.sealing.size (e ∷ before) ls bytes letters) letters_are (subst (λ l. IsFull scene.sealing.size l d.letters bytes letters) some full))

      by_owed : (o : Option (Debt B)) → w.owed ≡ o → IsJournalFull scene results (past w.journal) bytes letters
      by_owed None is = absurd (rw is at stuck)
      by_owed (Some d) is = by_past d is (rw is at stuck) (past w.journal) refl

-- what holds of all holds of one
pub all_found : {X : Type 0} (P : X → Type 0) (xs : List X) (i : ℕ) (x : X) → AllByRecursion P xs → slice_get xs i ≡ Some x → P x
all_found P [] i x all found = cc
all_found P (y ∷ xs) zero x all found = subst P (one found) all.0
  where
    one : Some y ≡ Some x → y ≡ x
    one h = cc
all_found P (y ∷ xs) (suc i) x all found = all_found P xs i x all.1 found
