use Rattle.std.proofs.Common.{drop}
use Rattle.plain_controller.proofs.Runs.{HasRun}
use Rattle.plain_controller.proofs.single.Single.run.Given as goal

abbrev pub invariant-loop-event : goal.invariant-loop-event
invariant-loop-event g l =
    HasRun g.A.App.law l.initial.app l.app l.lists.items (drop l.event-index l.events) l.events
