-- What a run of threads starts from, and what it leaves.
use Rattle.std.specs.Prelude.{◌≡◌, ◌<◌, ◌≤◌, ℕ, List, length, slice_get}
use Rattle.std.specs.List.{AllByRecursion}
use Rattle.of_types.specs.declared.setup.Setup.{Setup}
use Rattle.of_types.specs.Setups.{IsSetup}
use Rattle.journal.specs.declared.journal.Turn.{Turn}
use Rattle.journal.specs.declared.wire.Stop.{Stop}
use Rattle.journal.specs.declared.wire.Stop.TheVariants.{OutOfMemory, JournalFull}
use Rattle.journal.specs.Actors.{IsActor}
use Rattle.journal.specs.Pool.{past}
use Rattle.journal.specs.Turns.{IsWithinLimits, turn_actor}
use Rattle.of_switch.specs.State.{SwitchState}
use Rattle.group_controller.specs.Turns.{Controlling}
use Rattle.run_spec.specs.States.{Sealing}
use Rattle.run_spec.specs.Legal.{IsLegalPast}
use Rattle.world.specs.World.{AreNew, AreTold, IsMember, IsPlayed, PairsStand, resting_world, results_in, starting_switches}
use Rattle.running.specs.declared.run.Played.{Played}
use Rattle.running.specs.Apart.{BeginsApart, FollowsApart}
use Rattle.running.specs.Playing.{scene_of}
use Rattle.app_core.specs.Law.{AppLaw}
use Rattle.journal.specs.Stables.{Saving}
use Rattle.app_core.specs.Chain.{given_by}
use Rattle.dispatcher.specs.Ledger.{most_commands}

-- a group as it starts, beside what its controllers save to, for a script that names its actors alone
pub record StartsApart {A W : Type 0} (law : AppLaw A) (saving : Saving W) (setup : Setup) (kinds : List ℕ) (steps : List Turn)
    (controllers : List (Controlling A)) (switches : List SwitchState) (stables : List W) : Type 0 where
  pub is_setup : IsSetup setup
  pub few : given_by kinds ≤ most_commands
  pub members : AreNew law setup kinds setup.controllers controllers
  pub others : switches ≡ starting_switches setup
  pub enough : setup.controllers ≤ length stables
  pub pairs : PairsStand saving stables controllers
  pub named : AllByRecursion (λ t. IsActor setup (turn_actor t)) steps

-- What threads left, whatever became of them: the stable pairs of all controllers stand, and their counts of faults rose with each save that
-- failed
pub record IsLeftPaired {A W : Type 0} (saving : Saving W) (setup : Setup) (before : List (Controlling A)) (stables stables_after : List W) (controllers : List (Controlling A)) : Type 0 where
  pub group : length controllers ≡ setup.controllers
  pub pairs : PairsStand saving stables_after controllers
  pub told : AreTold saving stables stables_after before controllers
  pub beyond : (i : ℕ) → setup.controllers ≤ i → slice_get stables_after i ≡ slice_get stables i

-- and but for want of memory: a legal journal, with the results of the saves that the controllers kept, and the controllers that it gives
pub record IsLeftLegal {B G A W : Type 0} (law : AppLaw A) (saving : Saving W) (sealing : Sealing B) (setup : Setup) (kinds : List ℕ)
    (before : List (Controlling A)) (stables stables_after : List W) (left : Played B A G) : Type 0 where
  pub legal : IsLegalPast (scene_of sealing setup kinds) (results_in left.controllers.items) (past left.wire)
  pub within : IsWithinLimits sealing.size (past left.wire)
  pub members : (c : ℕ) → c < setup.controllers → IsMember law (scene_of sealing setup kinds) (results_in left.controllers.items) (past left.wire) left.controllers.items c
  pub paired : IsLeftPaired saving setup before stables stables_after left.controllers.items

-- the threads did all steps: a world may take over what they left, and each actor's inputs are its own steps in order
pub record HasPlayedApart {B G A W : Type 0} (law : AppLaw A) (saving : Saving W) (sealing : Sealing B) (setup : Setup) (kinds : List ℕ) (steps : List Turn)
    (before : List (Controlling A)) (stables stables_after : List W) (left : Played B A G) : Type 0 where
  pub left_legal : IsLeftLegal law saving sealing setup kinds before stables stables_after left
  pub follows : FollowsApart (scene_of sealing setup kinds) (results_in left.controllers.items) steps (past left.wire)
  pub played : IsPlayed law sealing (resting_world setup left.wire left.controllers.items left.switches.items) kinds

-- why threads were cut short, and what they left
abbrev pub HaltsApart : {B G A W : Type 0} → AppLaw A → Saving W → Sealing B → Setup → List ℕ → List Turn →
    List (Controlling A) → List W → List W → Played B A G → Stop → Type 0
HaltsApart law saving sealing setup kinds steps before stables stables_after left OutOfMemory =
    IsLeftPaired saving setup before stables stables_after left.controllers.items
HaltsApart law saving sealing setup kinds steps before stables stables_after left (JournalFull bytes letters) =
    IsLeftLegal law saving sealing setup kinds before stables stables_after left
    × BeginsApart (scene_of sealing setup kinds) (results_in left.controllers.items) steps bytes letters (past left.wire)
