use Rattle.std.proofs.Common.{◌≡◌, drop, max}
use Rattle.vr_quorum.specs.Ending.{greatest_view}
use Rattle.vr_quorum.proofs.ending.greatest_view.Given as goal

abbrev pub invariant-loop-response : goal.invariant-loop-response
invariant-loop-response l = max l.most (greatest_view (drop l.response-index l.responses)) ≡ greatest_view l.responses
