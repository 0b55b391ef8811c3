use Rattle.std.proofs.Common.{◌≡◌, take}
use Rattle.std.specs.Prelude.{count_by}
use Rattle.vr_log.specs.Members.{is_up}
use Rattle.group_controller.specs.Turns.{state_of}
use Rattle.world.proofs.world.World.up.Given as goal

abbrev pub invariant-loop-controller : goal.invariant-loop-controller
invariant-loop-controller g l = l.up ≡ count_by (λ c. is_up (state_of c).vr) (take l.controller-index l.controller-items)
