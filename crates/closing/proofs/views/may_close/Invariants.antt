use Rattle.std.proofs.Common.{take}
use Rattle.journal.specs.Pool.{past}
use Rattle.run_laws.specs.Laws.{IsSuspectedUpTo}
use Rattle.closing.specs.Views.{most_view_of_a_script}
use Rattle.closing.proofs.views.may_close.Given as goal

abbrev pub invariant-loop-head : goal.invariant-loop-head
invariant-loop-head g l = IsSuspectedUpTo most_view_of_a_script (past (take l.head-index l.world.journal))
