-- A controller beside its stable pair plays on.
use Rattle.std.proofs.Common.{◌≡◌, ℕ, List, [], ◌∷◌, sym, subst, Result, Ok, Err, IfOk, OnOk, OnErr, IfErr}
use Rattle.std.specs.Prelude.{Option, Some, None}
use Rattle.of_types.specs.declared.setup.Setup.{Setup}
use Rattle.journal.specs.declared.journal.Actor.{Actor}
use Rattle.journal.specs.declared.journal.JournalEntry.{JournalEntry}
use Rattle.journal.specs.declared.journal.JournalEntry.TheVariants.{Refused}
use Rattle.journal.specs.declared.journal.Letter.{Letter}
use Rattle.journal.specs.declared.journal.Packet.{Packet}
use Rattle.journal.specs.declared.journal.SaveResult.{SaveResult}
use Rattle.group_controller.specs.declared.messages.ControllerInput.{ControllerInput}
use Rattle.group_controller.specs.declared.messages.ControllerInput.TheVariants as controller_input
use Rattle.group_controller.specs.declared.messages.ControllerSays.{ControllerSays}
use Rattle.run_spec.specs.States.{Sealing, controller_hears, controller_message}
use Rattle.players.specs.Turns.{ControllerTurned, ControllerWanted}
use Rattle.world.specs.World.{IsOwed, SavesTold}
use Rattle.world.proofs.Stables.{saves_told, told_then}
use Rattle.running.specs.declared.seated.Served.{Served}
use Rattle.running.specs.Hearing.{Hears}
use Rattle.running.specs.Playing.{ServedPlays, scene_of}
use Rattle.running.proofs.Controlling.{controller_refuses, controller_takes}
use Rattle.app_core.specs.Law.{AppLaw}
use Rattle.journal.specs.Stables.{Saving}

pub if_ok : {T E : Type 0} (r : Result T E) (P Q : T → Type 0) → ((x : T) → P x → Q x) → IfOk r P → IfOk r Q
if_ok (Ok x) P Q made h = made x h
if_ok (Err e) P Q made h = tt

pub on_ok_then : {T E : Type 0} (r : Result T E) (P Q : Type 0) → (P → Q) → OnOk r P → OnOk r Q
on_ok_then (Ok x) P Q made h = made h
on_ok_then (Err e) P Q made h = tt

pub ok_at : {T E : Type 0} (r : Result T E) (P : T → Type 0) (x : T) → r ≡ Ok x → IfOk r P → P x
ok_at r P x is h = rw is at h

pub on_ok_at : {T E : Type 0} (r : Result T E) (Q : Type 0) (x : T) → r ≡ Ok x → OnOk r Q → Q
on_ok_at r Q x is h = rw is at h

pub on_err_at : {T E : Type 0} (r : Result T E) (Q : Type 0) (e : E) → r ≡ Err e → OnErr r Q → Q
on_err_at r Q e is h = rw is at h

pub err_at : {T E : Type 0} (r : Result T E) (P : E → Type 0) (e : E) → r ≡ Err e → IfErr r P → P e
err_at r P e is h = rw is at h

pub on_err_then : {T E : Type 0} (r : Result T E) (P Q : Type 0) → (P → Q) → OnErr r P → OnErr r Q
on_err_then (Ok x) P Q made h = tt
on_err_then (Err e) P Q made h = made h

pub on_both : {T E : Type 0} (r : Result T E) (P Q R : Type 0) → OnOk r P → OnOk r Q → (P → Q → R) → OnOk r R
on_both (Ok x) P Q R h k made = made h k
on_both (Err e) P Q R h k made = tt

module _ {B A W : Type 0} (law : AppLaw A) (saving : Saving W) (sealing : Sealing B) where
  pub served_takes : (setup : Setup) (kinds : List ℕ) (a : Actor) (start : Served A W) (own : List (JournalEntry B × Option (Packet B))) (e : JournalEntry B) (found : Option (Packet B)) (input : ControllerInput)
      (old new : Served A W) (letters : List (Letter ControllerSays)) (sealed : List (Letter B)) →
      Hears sealing controller_hears (λ l. controller_input.Local l) e found (Some input) → ServedPlays law saving sealing setup kinds a start own old [] →
      ControllerTurned law saving old.controller old.stable input new.controller new.stable letters → IsOwed controller_message sealing letters sealed →
      ServedPlays law saving sealing setup kinds a start ((e, found) ∷ own) new sealed
  served_takes setup kinds a start own e found input old new letters sealed hears h t owes = record {
    number = h.number;
    is = h.is;
    pair_is = t.stands;
    told = told_then (saving.faults start.stable) (saving.faults old.stable) (saving.faults new.stable) start.controller.results old.controller.results new.controller.results h.told
        (saves_told law saving input old.controller new.controller old.stable new.stable letters t kinds h.stands.keeps);
    stands = controller_takes law (scene_of sealing setup kinds) h.number own old.controller new.controller e found input letters sealed (saving.pair old.stable) (saving.pair new.stable) (saving.faults old.stable) (saving.faults new.stable)
        hears h.stands (t.turn kinds h.stands.keeps) t.setup t.me (t.kept kinds h.stands.keeps) owes;
  }

  -- it finds no memory for what it hears there
  pub served_wants : (setup : Setup) (kinds : List ℕ) (a : Actor) (start : Served A W) (own : List (JournalEntry B × Option (Packet B))) (e : JournalEntry B) (found : Option (Packet B)) (input : ControllerInput) (old new : Served A W) →
      Hears sealing controller_hears (λ l. controller_input.Local l) e found (Some input) → ServedPlays law saving sealing setup kinds a start own old [] →
      ControllerWanted law saving old.controller old.stable new.controller new.stable → ServedPlays law saving sealing setup kinds a start ((Refused a, None) ∷ (e, found) ∷ own) new []
  served_wants setup kinds a start own e found input old new hears h t = record {
    number = h.number;
    is = h.is;
    pair_is = t.stands;
    told = subst (λ (n : ℕ). SavesTold (saving.faults start.stable) n start.controller.results new.controller.results) (sym t.wants.faults_are)
        (subst (λ (rs : List SaveResult). SavesTold (saving.faults start.stable) (saving.faults old.stable) start.controller.results rs) (sym t.wants.kept) h.told);
    stands = controller_refuses law (scene_of sealing setup kinds) h.number own old.controller new.controller a e found input hears h.stands t.wants.state_is t.wants.kept t.setup t.me (t.kept kinds h.stands.keeps);
  }
