-- The route of a setup is the first of the walks.
use Rattle.app_core.proofs.Reaching.{is_the_route, reaches}
use Rattle.app_core.proofs.Routes.{route_means}
use Rattle.app_core.proofs.shortest.routes_are_shortest.Goals as goal

pub returns-clause-some : goal.returns-clause-some
returns-clause-some c = λ setup down from to walk is e. route_means setup down to is from walk e

pub returns-clause-none : goal.returns-clause-none
returns-clause-none c = λ setup down from to walk is e walks. reaches setup down to is from e walk walks

pub returns-clause-only : goal.returns-clause-only
returns-clause-only c = λ setup down from to walk is route. is_the_route setup down to is from walk route
