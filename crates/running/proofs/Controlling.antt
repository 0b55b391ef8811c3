-- A controller goes on behind its own entries.
use Rattle.std.proofs.Common.{◌≡◌, ℕ, List, [], ◌∷◌, ◌++◌}
use Rattle.std.specs.Prelude.{Option, Some, None}
use Rattle.app_core.specs.Law.{AppLaw}
use Rattle.journal.specs.declared.journal.Actor.{Actor}
use Rattle.journal.specs.declared.journal.JournalEntry.{JournalEntry}
use Rattle.journal.specs.declared.journal.JournalEntry.TheVariants.{Refused}
use Rattle.journal.specs.declared.journal.Letter.{Letter}
use Rattle.journal.specs.declared.journal.Packet.{Packet}
use Rattle.journal.specs.Turns.{posting}
use Rattle.group_controller.specs.declared.messages.ControllerInput.{ControllerInput}
use Rattle.group_controller.specs.declared.messages.ControllerInput.TheVariants as controller_input
use Rattle.group_controller.specs.declared.messages.ControllerSays.{ControllerSays}
use Rattle.group_controller.specs.Turns.{Controlling, Controls, Turns, state_of}
use Rattle.run_spec.specs.States.{Scene, controller_hears, controller_message, controller_speech, crashed}
use Rattle.world.specs.Standing.{ControllerStands}
use Rattle.world.specs.World.{IsOwed}
use Rattle.world.proofs.Controlling as standing
use Rattle.shared_wire.specs.Calls.{beside_seat}
use Rattle.running.specs.Hearing.{Hears}
use Rattle.running.proofs.Hearing.{heard, unheard}

module _ {B A : Type 0} (law : AppLaw A) (scene : Scene B) (c : ℕ) where
  -- what it owes is posted
  pub controller_posts : (a : Actor) (own : List (JournalEntry B × Option (Packet B))) (x : Controlling A) (owed : List (Letter B)) (before : List (JournalEntry B)) →
      ControllerStands law scene c own x owed → ControllerStands law scene c (beside_seat (posting scene.sealing.size a owed before) before ++ own) x []
  controller_posts a own x [] before h = h
  controller_posts a own x (l ∷ owed) before h = standing.controller_posts law scene c own x l owed a _ _ None h

  -- it hears nothing at an entry of its own
  pub controller_rests : (own : List (JournalEntry B × Option (Packet B))) (x : Controlling A) (e : JournalEntry B) (found : Option (Packet B)) →
      Hears scene.sealing controller_hears (λ l. controller_input.Local l) e found None → ControllerStands law scene c own x [] → ControllerStands law scene c ((e, found) ∷ own) x []
  controller_rests own x e found hears h = standing.controller_rests law scene c own x e found (unheard controller_speech scene.sealing e found hears) h

  -- it takes what it hears there
  pub controller_takes : (own : List (JournalEntry B × Option (Packet B))) (old new : Controlling A) (e : JournalEntry B) (found : Option (Packet B)) (input : ControllerInput)
      (letters : List (Letter ControllerSays)) (sealed : List (Letter B)) (pair_before pair_after : ℕ × ℕ) (before after : ℕ) →
      Hears scene.sealing controller_hears (λ l. controller_input.Local l) e found (Some input) → ControllerStands law scene c own old [] →
      Turns scene.kinds old input letters new pair_before pair_after before after → new.setup ≡ old.setup → new.me ≡ old.me → Controls law new scene.kinds →
      IsOwed controller_message scene.sealing letters sealed → ControllerStands law scene c ((e, found) ∷ own) new sealed
  controller_takes own old new e found input letters sealed pair_before pair_after before after hears h turn setup_is me_is keeps owes =
      let it = heard controller_speech scene.sealing e found input hears in
      standing.controller_takes law scene c own old new input letters sealed pair_before pair_after before after h turn e found it.0 it.1 setup_is me_is keeps owes

  -- it finds no memory for it
  pub controller_refuses : (own : List (JournalEntry B × Option (Packet B))) (old new : Controlling A) (a : Actor) (e : JournalEntry B) (found : Option (Packet B)) (input : ControllerInput) →
      Hears scene.sealing controller_hears (λ l. controller_input.Local l) e found (Some input) → ControllerStands law scene c own old [] →
      state_of new ≡ crashed (state_of old) → new.results ≡ old.results → new.setup ≡ old.setup → new.me ≡ old.me → Controls law new scene.kinds →
      ControllerStands law scene c ((Refused a, None) ∷ (e, found) ∷ own) new []
  controller_refuses own old new a e found input hears h down unsaved setup_is me_is keeps =
      let it = heard controller_speech scene.sealing e found input hears in
      standing.controller_refuses law scene c own old new input e found None a it.0 it.1 h down unsaved setup_is me_is keeps
