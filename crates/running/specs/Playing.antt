-- What an actor that plays its own steps is, in a run of a setup.
use Rattle.std.specs.Prelude.{◌≡◌, ℕ, List, Option}
use Rattle.of_types.specs.declared.setup.Setup.{Setup}
use Rattle.journal.specs.declared.journal.Actor.{Actor}
use Rattle.journal.specs.declared.journal.Actor.TheVariants as actor
use Rattle.journal.specs.declared.journal.JournalEntry.{JournalEntry}
use Rattle.journal.specs.declared.journal.Letter.{Letter}
use Rattle.journal.specs.declared.journal.Packet.{Packet}
use Rattle.of_switch.specs.State.{SwitchState}
use Rattle.group_controller.specs.Turns.{state_of, pair_in}
use Rattle.run_spec.specs.States.{Scene, Sealing}
use Rattle.world.specs.World.{SavesTold}
use Rattle.world.specs.Standing.{ControllerStands, SwitchStands}
use Rattle.running.specs.declared.seated.Served.{Served}
use Rattle.app_core.specs.Law.{AppLaw}
use Rattle.journal.specs.Stables.{Saving}

abbrev pub scene_of : {B : Type 0} → Sealing B → Setup → List ℕ → Scene B
scene_of sealing setup kinds = record { setup = setup; kinds = kinds; sealing = sealing }

-- a switch of the setup is what its own entries make of it, and owes these letters
pub record SwitchPlays {B : Type 0} (sealing : Sealing B) (setup : Setup) (kinds : List ℕ) (a : Actor) (start : SwitchState) (own : List (JournalEntry B × Option (Packet B))) (state : SwitchState) (owed : List (Letter B)) : Type 0 where
  pub number : ℕ
  pub is : a ≡ actor.Switch number
  pub stands : SwitchStands (scene_of sealing setup kinds) number own state owed

-- a controller is. Its stable pair stands, and each save that failed raised the count
pub record ServedPlays {B A W : Type 0} (law : AppLaw A) (saving : Saving W) (sealing : Sealing B) (setup : Setup) (kinds : List ℕ) (a : Actor)
    (start : Served A W) (own : List (JournalEntry B × Option (Packet B))) (x : Served A W) (owed : List (Letter B)) : Type 0 where
  pub number : ℕ
  pub is : a ≡ actor.Controller number
  pub pair_is : saving.pair x.stable ≡ pair_in (state_of x.controller)
  pub told : SavesTold (saving.faults start.stable) (saving.faults x.stable) start.controller.results x.controller.results
  pub stands : ControllerStands law (scene_of sealing setup kinds) number own x.controller owed
