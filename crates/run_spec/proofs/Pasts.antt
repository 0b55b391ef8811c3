-- A past that is possible without its newest entries, and what a draw of it finds.
use Rattle.std.proofs.Common.{◌≡◌, length, ◌<◌, ℕ, Bool, true, List, [], ◌∷◌, drop, zero, suc, refl, sym, ◌∙◌, ap, subst}
use Rattle.std.specs.Prelude.{Option, Some}
use Rattle.std.proofs.lemmas.Bool.{eq-eqb}
use Rattle.journal.specs.Orderly.{IsOrderly}
use Rattle.journal.specs.declared.journal.Actor.{Actor}
use Rattle.journal.specs.declared.journal.Actor.TheVariants as actor
use Rattle.journal.specs.declared.journal.JournalEntry.{JournalEntry}
use Rattle.journal.specs.declared.journal.JournalEntry.TheVariants.{Post, Draw, Lose, Local, Idle, Refused}
use Rattle.journal.specs.declared.journal.Packet.{Packet}
use Rattle.journal.specs.declared.journal.SaveResult.{SaveResult}
use Rattle.journal.specs.Actors.{same_actor, actor_of, IsActor}
use Rattle.journal.specs.Part.{drawn, part}
use Rattle.run_spec.specs.States.{Scene, SwitchAt, switch_step, switch_at, controller_at, switch_message, controller_message}
use Rattle.run_spec.specs.Legal.{FitsDebt, EntryFits, IsTurn, IsSoundSwitch, IsSoundController, IsPossible, results_of}
use Rattle.run_spec.proofs.Entries.{Own, Other, controller_after, Mine, Another, switch_after}
use Rattle.run_spec.proofs.Pools.{orderly_before, drawn_found}

-- an input is fresh
pub turn_fresh : {B : Type 0} (scene : Scene B) (w : SwitchAt) (e : JournalEntry B) (found : Option (Packet B)) (rest : List (JournalEntry B × Option (Packet B))) →
    ((a : Actor) (id : ℕ) (keep : Bool) → e ≡ Draw a id keep → (p : Packet B) × (found ≡ Some p)) → IsTurn ((e, found) ∷ rest) → (switch_step scene w e found).fresh ≡ true
turn_fresh scene w (Draw a id keep) found rest finds turn = let r = finds a id keep refl in subst (λ (o : Option (Packet _)). (switch_step scene w (Draw a id keep) o).fresh ≡ true) (sym r.1) refl
turn_fresh scene w (Local a input) found rest finds turn = refl
turn_fresh scene w (Post a first letters lost) found rest finds turn = absurd turn
turn_fresh scene w (Lose a id) found rest finds turn = absurd turn
turn_fresh scene w (Idle a) found rest finds turn = absurd turn
turn_fresh scene w (Refused a) found rest finds turn = absurd turn

-- a past is possible without its newest entry
pub possible_before : {B : Type 0} (scene : Scene B) (results : List (List SaveResult)) (e : JournalEntry B) (before : List (JournalEntry B)) → IsPossible scene results (e ∷ before) → IsPossible scene results before
possible_before {B = B} scene results e before legal =
    record {
      named = legal.named.1;
      fits = legal.fits.1;
      orderly = orderly_before scene.sealing.size e before legal.orderly;
      switches = λ s lt. elim (switch_after scene s e before) [
        | Mine same is ↦ (subst (λ (p : List (JournalEntry B × Option (Packet B))). IsSoundSwitch scene s p) is (legal.switches s lt)).1
        | Another other is ↦ subst (λ (p : List (JournalEntry B × Option (Packet B))). IsSoundSwitch scene s p) is (legal.switches s lt)
      ];
      controllers = λ c lt. elim (controller_after scene (results_of results c) c e before) [
        | Own same is goes ↦ (subst (λ (p : List (JournalEntry B × Option (Packet B))). IsSoundController scene (results_of results c) c p) is (legal.controllers c lt)).1
        | Other other is ↦ subst (λ (p : List (JournalEntry B × Option (Packet B))). IsSoundController scene (results_of results c) c p) is (legal.controllers c lt)
      ];
    }

pub possible_drop : {B : Type 0} (scene : Scene B) (results : List (List SaveResult)) (i : ℕ) (entries : List (JournalEntry B)) → IsPossible scene results entries → IsPossible scene results (drop i entries)
possible_drop scene results zero entries legal = legal
possible_drop scene results (suc i) [] legal = legal
possible_drop scene results (suc i) (e ∷ before) legal = possible_drop scene results i before (possible_before scene results e before legal)

pub from_some : {A : Type 0} (x y : A) → Some x ≡ Some y → x ≡ y
from_some x y h = cc

pub self_switch : (s : ℕ) → same_actor (actor.Switch s) (actor.Switch s) ≡ true
self_switch s = eq-eqb s s refl

pub self_controller : (c : ℕ) → same_actor (actor.Controller c) (actor.Controller c) ≡ true
self_controller c = eq-eqb c c refl

-- a draw of a legal journal finds its packet
pub legal_finds : {B : Type 0} (scene : Scene B) (results : List (List SaveResult)) (e : JournalEntry B) (before : List (JournalEntry B)) → IsPossible scene results (e ∷ before) →
    (a : Actor) (id : ℕ) (keep : Bool) → e ≡ Draw a id keep → (p : Packet B) × (drawn e before ≡ Some p)
legal_finds {B = B} scene results e before legal a id keep is =
    let r = drawn_found scene.sealing.size a id keep before (subst (λ (x : JournalEntry B). IsOrderly scene.sealing.size (x ∷ before)) is legal.orderly) in
    (r.packet, ap (λ (x : JournalEntry B). drawn x before) is ∙ r.found)

-- a past goes on with an entry that stands where it may
pub possible_after : {B : Type 0} (scene : Scene B) (results : List (List SaveResult)) (e : JournalEntry B) (before : List (JournalEntry B)) → IsPossible scene results before →
    IsActor scene.setup (actor_of e) → EntryFits e → IsOrderly scene.sealing.size (e ∷ before) →
    ((s : ℕ) → s < length scene.setup.ports → same_actor (actor_of e) (actor.Switch s) ≡ true → FitsDebt switch_message scene.sealing (switch_at scene s (part (actor.Switch s) before)).owed (part (actor.Switch s) before) e) →
    ((c : ℕ) → c < scene.setup.controllers → same_actor (actor_of e) (actor.Controller c) ≡ true →
    FitsDebt controller_message scene.sealing (controller_at scene (results_of results c) c (part (actor.Controller c) before)).owed (part (actor.Controller c) before) e) →
    IsPossible scene results (e ∷ before)
possible_after {B = B} scene results e before old named typed orderly switches controllers =
    record {
      named = (named, old.named);
      fits = (typed, old.fits);
      orderly = orderly;
      switches = λ s there. elim (switch_after scene s e before) [
        | Mine same is ↦ subst (λ (p : List (JournalEntry B × Option (Packet B))). IsSoundSwitch scene s p) (sym is) (switches s there same, old.switches s there)
        | Another other is ↦ subst (λ (p : List (JournalEntry B × Option (Packet B))). IsSoundSwitch scene s p) (sym is) (old.switches s there)
      ];
      controllers = λ c there. elim (controller_after scene (results_of results c) c e before) [
        | Own same is goes ↦ subst (λ (p : List (JournalEntry B × Option (Packet B))). IsSoundController scene (results_of results c) c p) (sym is) (controllers c there same, old.controllers c there)
        | Other other is ↦ subst (λ (p : List (JournalEntry B × Option (Packet B))). IsSoundController scene (results_of results c) c p) (sym is) (old.controllers c there)
      ];
    }
