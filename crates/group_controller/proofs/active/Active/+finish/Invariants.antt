use Rattle.group_controller.proofs.active.Active.+finish.Given as goal

abbrev pub decreases-finish : goal.decreases-finish
decreases-finish g l = l.more
