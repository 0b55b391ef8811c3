use Rattle.std.proofs.Common.{sym}
use Rattle.app_core.proofs.Paths.{routing_starts}
use Rattle.route_app.proofs.part.RoutePart.start.Goals as goal

pub returns-clause-state : goal.returns-clause-state
returns-clause-state c = rw (c.new.ensures.empty, c.in_ok-all_links.ensures.none_down) (sym routing_starts)
