-- What one entry does to an actor.
use Rattle.std.proofs.Common.{◌≡◌, ◌⊎◌, inl, inr, ℕ, Bool, true, false, List, [], ◌∷◌, refl, sym, subst}
use Rattle.std.specs.Prelude.{Option, Some, None, slice_index_or}
use Rattle.journal.specs.declared.journal.Actor.{Actor}
use Rattle.journal.specs.declared.journal.Actor.TheVariants as actor
use Rattle.journal.specs.declared.journal.JournalEntry.{JournalEntry}
use Rattle.journal.specs.declared.journal.JournalEntry.TheVariants.{Post, Draw, Lose, Local, Idle, Refused}
use Rattle.journal.specs.declared.journal.Packet.{Packet}
use Rattle.journal.specs.declared.journal.SaveResult.{SaveResult}
use Rattle.journal.specs.declared.journal.SaveResult.TheVariants.{Saved, KeptOld, KeptNew}
use Rattle.journal.specs.Actors.{same_actor, actor_of}
use Rattle.journal.specs.Part.{part, drawn}
use Rattle.group_controller.specs.declared.messages.ControllerInput.{ControllerInput}
use Rattle.group_controller.specs.State.{ControllerState, down}
use Rattle.group_controller.specs.Rules.{controller_work}
use Rattle.of_switch.specs.declared.says.SwitchInput.{SwitchInput}
use Rattle.of_switch.specs.Rules.{switch_turn}
use Rattle.run_spec.specs.Inputs.{IsHeard, By_draw, By_local, IsHeardAt}
use Rattle.run_spec.specs.States.{SwitchAt, switch_step, switch_took, Scene, ControllerAt, controller_at, controller_step, controller_took, controller_saved}

-- what an entry of a controller does to it
pub data ControllerGoes {B : Type 0} (scene : Scene B) (e : JournalEntry B) (found : Option (Packet B)) (w w' : ControllerAt) : Type 0 where
  Turns : (x : ControllerInput) → IsHeard scene e found x → w'.now ≡ (controller_work scene.kinds scene.setup w.now x).state →
      w'.owed ≡ (controller_work scene.kinds scene.setup w.now x).letters → ControllerGoes scene e found w w'
  Falls : (c : ControllerState) (promise life : ℕ) → w'.now ≡ down c promise life → w'.owed ≡ [] → ControllerGoes scene e found w w'
  Stays : w'.now ≡ w.now → (w'.owed ≡ w.owed) ⊎ (w'.owed ≡ []) → ControllerGoes scene e found w w'

module _ {B : Type 0} (scene : Scene B) (results : List SaveResult) (w : ControllerAt) (e : JournalEntry B) (found : Option (Packet B)) (x : ControllerInput) (heard : IsHeard scene e found x) where
  saved_goes : (promise life : ℕ) (r : SaveResult) →
      ControllerGoes scene e found w (controller_saved w (controller_work scene.kinds scene.setup w.now x) promise life r)
  saved_goes promise life Saved = Turns x heard refl refl
  saved_goes promise life KeptOld = Falls w.now w.now.vr.promise w.now.vr.life refl refl
  saved_goes promise life KeptNew = Falls w.now promise life refl refl

  took_goes : ControllerGoes scene e found w (controller_took results w (controller_work scene.kinds scene.setup w.now x))
  took_goes = by_save (controller_work scene.kinds scene.setup w.now x).save refl
    where
      by_save : (o : Option (ℕ × ℕ)) → (controller_work scene.kinds scene.setup w.now x).save ≡ o →
          ControllerGoes scene e found w (controller_took results w (controller_work scene.kinds scene.setup w.now x))
      by_save None h = rw h (Turns x heard refl refl)
      by_save (Some pair) h = rw h (saved_goes pair.0 pair.1 (slice_index_or results w.saves Saved))

pub step_goes : {B : Type 0} (scene : Scene B) (results : List SaveResult) (w : ControllerAt) (e : JournalEntry B) (found : Option (Packet B)) →
    ControllerGoes scene e found w (controller_step scene results w e found)
step_goes scene results w (Draw a id keep) (Some p) = took_goes scene results w (Draw a id keep) (Some p) _ (By_draw a id keep p refl refl refl)
step_goes scene results w (Draw a id keep) None = Stays refl (inl refl)
step_goes scene results w (Local a input) found = took_goes scene results w (Local a input) found _ (By_local a input refl refl)
step_goes scene results w (Post a first letters lost) found = Stays refl (inr refl)
step_goes scene results w (Refused a) found = Falls w.before w.before.vr.promise w.before.vr.life refl refl
step_goes scene results w (Lose a id) found = Stays refl (inl refl)
step_goes scene results w (Idle a) found = Stays refl (inl refl)

-- an entry is one of a controller, or leaves it
pub data ControllerAfter {B : Type 0} (scene : Scene B) (results : List SaveResult) (c : ℕ) (e : JournalEntry B) (before : List (JournalEntry B)) : Type 0 where
  Own : same_actor (actor_of e) (actor.Controller c) ≡ true → part (actor.Controller c) (e ∷ before) ≡ (e, drawn e before) ∷ part (actor.Controller c) before →
      ControllerGoes scene e (drawn e before) (controller_at scene results c (part (actor.Controller c) before)) (controller_at scene results c (part (actor.Controller c) (e ∷ before))) → ControllerAfter scene results c e before
  Other : same_actor (actor_of e) (actor.Controller c) ≡ false → part (actor.Controller c) (e ∷ before) ≡ part (actor.Controller c) before → ControllerAfter scene results c e before

pub controller_after : {B : Type 0} (scene : Scene B) (results : List SaveResult) (c : ℕ) (e : JournalEntry B) (before : List (JournalEntry B)) → ControllerAfter scene results c e before
controller_after {B = B} scene results c e before = by_actor (same_actor (actor_of e) (actor.Controller c)) refl
  where
    by_actor : (b : Bool) → same_actor (actor_of e) (actor.Controller c) ≡ b → ControllerAfter scene results c e before
    by_actor true h =
        let own : part (actor.Controller c) (e ∷ before) ≡ (e, drawn e before) ∷ part (actor.Controller c) before = rw h refl in
        Own h own (subst (λ (p : List (JournalEntry B × Option (Packet B))). ControllerGoes scene e (drawn e before) (controller_at scene results c (part (actor.Controller c) before)) (controller_at scene results c p)) (sym own)
        (step_goes scene results (controller_at scene results c (part (actor.Controller c) before)) e (drawn e before)))
    by_actor false h = Other h (rw h refl)

-- what an entry of a switch does to it
pub data SwitchGoes {B : Type 0} (scene : Scene B) (e : JournalEntry B) (found : Option (Packet B)) (w w' : SwitchAt) : Type 0 where
  Takes : (x : SwitchInput) → IsHeardAt scene e found x → w' ≡ switch_took w (switch_turn w.now x) → SwitchGoes scene e found w w'
  Rests : w' ≡ record w { fresh = false } → SwitchGoes scene e found w w'
  Posts : w' ≡ record w { owed = []; fresh = false } → SwitchGoes scene e found w w'
  Refuses : (a : Actor) → e ≡ Refused a → w' ≡ record w { now = w.before; owed = []; fresh = false; saves = w.saves_before } → SwitchGoes scene e found w w'

pub switch_goes : {B : Type 0} (scene : Scene B) (w : SwitchAt) (e : JournalEntry B) (found : Option (Packet B)) → SwitchGoes scene e found w (switch_step scene w e found)
switch_goes scene w (Draw a id keep) (Some p) = Takes _ (By_draw a id keep p refl refl refl) refl
switch_goes scene w (Draw a id keep) None = Rests refl
switch_goes scene w (Local a input) found = Takes _ (By_local a input refl refl) refl
switch_goes scene w (Post a first letters lost) found = Posts refl
switch_goes scene w (Refused a) found = Refuses a refl refl
switch_goes scene w (Lose a id) found = Rests refl
switch_goes scene w (Idle a) found = Rests refl

-- an entry is one of a switch, or leaves it
pub data SwitchAfter {B : Type 0} (scene : Scene B) (s : ℕ) (e : JournalEntry B) (before : List (JournalEntry B)) : Type 0 where
  Mine : same_actor (actor_of e) (actor.Switch s) ≡ true → part (actor.Switch s) (e ∷ before) ≡ (e, drawn e before) ∷ part (actor.Switch s) before → SwitchAfter scene s e before
  Another : same_actor (actor_of e) (actor.Switch s) ≡ false → part (actor.Switch s) (e ∷ before) ≡ part (actor.Switch s) before → SwitchAfter scene s e before

pub switch_after : {B : Type 0} (scene : Scene B) (s : ℕ) (e : JournalEntry B) (before : List (JournalEntry B)) → SwitchAfter scene s e before
switch_after {B = B} scene s e before = by_actor (same_actor (actor_of e) (actor.Switch s)) refl
  where
    by_actor : (b : Bool) → same_actor (actor_of e) (actor.Switch s) ≡ b → SwitchAfter scene s e before
    by_actor true h = Mine h (rw h refl)
    by_actor false h = Another h (rw h refl)
