use Rattle.std.proofs.Common.{◌≡◌, map, filter, not}
use Rattle.std.specs.List.{range_with_len}
use Rattle.dispatcher.specs.Marks.{is_confirmed}
use Rattle.group_controller.specs.Acting.{posts_letters}
use Rattle.group_controller.specs.Settling.{role_letter}
use Rattle.group_controller.proofs.active.Active.ask_unconfirmed.Given as goal

abbrev pub invariant-switches : goal.invariant-switches
invariant-switches g l =
    l.self ≡ posts_letters l.fn.self (map (role_letter l.fn.self.work.state.vr.view) (filter (λ s. not (is_confirmed l.fn.self.dispatcher.marks s)) (range_with_len 0 l.switch)))
