use Rattle.std.proofs.Common.{sym}
use Rattle.app_core.proofs.Paths.{routing_most}
use Rattle.route_app.proofs.part.RoutePart.most.Goals as goal

pub returns-clause-most : goal.returns-clause-most
returns-clause-most c = sym routing_most
