-- What becomes of controllers and switches that play at one board.
use Rattle.std.specs.Prelude.{◌≡◌, ◌≤◌, ◌+◌, ℕ, List, ◌++◌, length, map, drop, All, Option, None, vec_len, vec_capacity}
use Rattle.journal.specs.declared.journal.Turn.{Turn}
use Rattle.journal.specs.declared.wire.Stop.{Stop}
use Rattle.journal.specs.Orderly.{IsOrderly}
use Rattle.journal.specs.Pool.{past}
use Rattle.journal.specs.Stables.{Saving}
use Rattle.journal.specs.Turns.{IsWithinLimits}
use Rattle.of_switch.specs.State.{SwitchState}
use Rattle.app_core.specs.Law.{AppLaw}
use Rattle.group_controller.specs.Turns.{Controlling}
use Rattle.run_spec.specs.States.{Sealing}
use Rattle.shared_wire.specs.Rule.{AreNamed}
use Rattle.shared_wire.specs.Places.{IsPartOf, PlaceState}
use Rattle.running.specs.declared.ready.Ready.{Ready}
use Rattle.running.specs.declared.run.Played.{Played}
use Rattle.running.specs.declared.seated.Served.{Served}
use Rattle.running.specs.declared.task.Task.{Task}
use Rattle.running.specs.Playing.{ServedPlays, SwitchPlays}
use Rattle.running.specs.Runs.{actors_up_to, controller_of, first_stop, seat_place_of, player_of, seated, served, stable_of}
use Rattle.running.specs.Tasks.{AllRan, MayBegin}

-- there is room for a group of so many controllers and so many switches, and for so many stables
pub record HasRoom {B G A W : Type 0} (group count stables : ℕ) (r : Ready B A W G) : Type 0 where
  pub none : (vec_len r.served ≡ 0) × (vec_len r.members ≡ 0) × (vec_len r.others ≡ 0)
  pub none_left : (vec_len r.left_places ≡ 0) × (vec_len r.left_served ≡ 0) × (vec_len r.left_controllers ≡ 0) × (vec_len r.left_switches ≡ 0) × (vec_len r.left_stables ≡ 0)
  pub served : group ≤ vec_capacity r.served
  pub members : group ≤ vec_capacity r.members
  pub others : count ≤ vec_capacity r.others
  pub left_places : group + count ≤ vec_capacity r.left_places
  pub left_served : group ≤ vec_capacity r.left_served
  pub left_controllers : group ≤ vec_capacity r.left_controllers
  pub left_switches : count ≤ vec_capacity r.left_switches
  pub left_stables : stables ≤ vec_capacity r.left_stables

-- controllers, each beside its stable, and switches may begin at the places of a board that is ready for them
abbrev pub MembersMayBegin : {B G A W : Type 0} → AppLaw A → Saving W → Sealing B → List Turn → Ready B A W G → List (Controlling A) → List W → Type 0
MembersMayBegin {G = G} law saving sealing steps ready controllers stables =
    All (MayBegin (ServedPlays law saving sealing) ready.board.id steps) (seated {G = G} ready.places.items (served controllers stables))

abbrev pub OthersMayBegin : {B G A W : Type 0} → Sealing B → List Turn → Ready B A W G → ℕ → List SwitchState → Type 0
OthersMayBegin {G = G} sealing steps ready group switches =
    All (MayBegin (SwitchPlays sealing) ready.board.id steps) (seated {G = G} (drop group ready.places.items) switches)

-- Controllers beside their stables and switches took these places, each was run, and this is what they left. The journal names
-- the actors of the places alone, and the own entries of each are its part of it
pub record HavePlayed {B G A W : Type 0} (law : AppLaw A) (saving : Saving W) (sealing : Sealing B) (steps : List Turn) (places : List (PlaceState B))
    (controllers : List (Controlling A)) (switches : List SwitchState) (stables stables_after : List W) (played : Played B A G) (stop : Option Stop) : Type 0 where
  pub members : List (Task B (Served A W) G)
  pub others : List (Task B SwitchState G)
  pub members_ran : AllRan (ServedPlays law saving sealing) sealing.size steps (seated places (served controllers stables)) members
  pub others_ran : AllRan (SwitchPlays sealing) sealing.size steps (seated (drop (length controllers) places) switches) others
  pub orderly : IsOrderly sealing.size (past played.wire)
  pub within : IsWithinLimits sealing.size (past played.wire)
  pub named : AreNamed (actors_up_to (length controllers) (length switches)) played.wire
  pub parts : All (IsPartOf played.wire) (map seat_place_of members ++ map seat_place_of others)
  pub controllers_are : played.controllers.items ≡ map controller_of (map player_of members)
  pub switches_are : played.switches.items ≡ map player_of others
  pub stables_are : stables_after ≡ map stable_of (map player_of members) ++ drop (length controllers) stables
  pub stop_is : stop ≡ first_stop (first_stop None members) others
