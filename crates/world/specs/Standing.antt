-- What an actor is behind its own entries, and what it owes there: for a world of actors, and for actors that play apart.
use Rattle.std.specs.Prelude.{◌≡◌, ◌<◌, ℕ, List, length, slice_get, Option, Some}
use Rattle.std.specs.List.{AllByRecursion}
use Rattle.list_facts.specs.Fold.{ActorRules}
use Rattle.journal.specs.declared.journal.Actor.{Actor}
use Rattle.journal.specs.declared.journal.Actor.TheVariants as actor
use Rattle.journal.specs.declared.journal.JournalEntry.{JournalEntry}
use Rattle.journal.specs.declared.journal.Letter.{Letter}
use Rattle.journal.specs.declared.journal.Packet.{Packet}
use Rattle.journal.specs.Part.{part}
use Rattle.of_switch.specs.State.{SwitchState, starting_switch}
use Rattle.app_core.specs.Law.{AppLaw}
use Rattle.group_controller.specs.State.{starting_controller}
use Rattle.group_controller.specs.Turns.{Controlling, Controls, state_of}
use Rattle.run_spec.specs.States.{Scene, Sealing, Speech, actor_at, controller_at, controller_rules, controller_speech, switch_rules, switch_speech}
use Rattle.run_spec.specs.Legal.{EachFinds, EntryFits, IsSound}
use Rattle.world.specs.World.{IsOwed}

-- an actor of these rules, which started so, is what these entries of its own make of it, and owes these letters. They stand
-- with the newest first, each draw beside its packet
pub record WorldStands {B S I A : Type 0} (rules : ActorRules S I (Letter A)) (speech : Speech I A) (sealing : Sealing B) (start : S)
    (own : List (JournalEntry B × Option (Packet B))) (state : S) (owed : List (Letter B)) : Type 0 where
  pub typed : AllByRecursion (λ x. EntryFits x.0) own
  pub finds : EachFinds own
  pub sound : IsSound rules speech sealing start own
  pub state_is : state ≡ (actor_at rules speech sealing start own).now
  pub owes : IsOwed speech.said sealing (actor_at rules speech sealing start own).owed owed

-- a switch of a number does
abbrev pub SwitchStands : {B : Type 0} → Scene B → ℕ → List (JournalEntry B × Option (Packet B)) → SwitchState → List (Letter B) → Type 0
SwitchStands scene s own state owed = WorldStands switch_rules switch_speech scene.sealing (starting_switch s scene.setup) own state owed

-- and a controller, whose saves had these results, and no more
pub record ControllerStands {B A : Type 0} (law : AppLaw A) (scene : Scene B) (c : ℕ) (own : List (JournalEntry B × Option (Packet B)))
    (x : Controlling A) (owed : List (Letter B)) : Type 0 where
  pub keeps : Controls law x scene.kinds
  pub setup_is : x.setup ≡ scene.setup
  pub me_is : x.me ≡ c
  pub saves : length x.results ≡ (controller_at scene x.results c own).saves
  pub stands : WorldStands (controller_rules scene x.results) controller_speech scene.sealing (starting_controller c scene.setup.controllers) own (state_of x) owed

-- each actor of a setup stands behind its part of a past, owing these letters
pub record AllStand {B A : Type 0} (law : AppLaw A) (scene : Scene B) (entries : List (JournalEntry B))
    (controllers : List (Controlling A)) (switches : List SwitchState) (owed : Actor → List (Letter B)) : Type 0 where
  pub group : length controllers ≡ scene.setup.controllers
  pub count : length switches ≡ length scene.setup.ports
  pub controllers_stand : (c : ℕ) → c < scene.setup.controllers →
      (x : Controlling A) × (slice_get controllers c ≡ Some x) × ControllerStands law scene c (part (actor.Controller c) entries) x (owed (actor.Controller c))
  pub switches_stand : (s : ℕ) → s < length scene.setup.ports →
      (state : SwitchState) × (slice_get switches s ≡ Some state) × SwitchStands scene s (part (actor.Switch s) entries) state (owed (actor.Switch s))
