use Rattle.std.proofs.Common.{◌≡◌, take}
use Rattle.std.specs.Prelude.{flat_map}
use Rattle.group_controller.specs.Acting.{Acts, answers_to, ForEachGroup, posts_letters}
use Rattle.group_controller.proofs.active.Active.answer_each.Given as goal

abbrev pub invariant-processed : goal.invariant-processed
invariant-processed g l =
    ForEachGroup (Acts g.A.App.law l.fn.self) (λ kinds setup.
    l.self ≡ posts_letters l.fn.self (flat_map (answers_to kinds setup l.fn.self.work.state) (take l.handled-index l.processed)))
