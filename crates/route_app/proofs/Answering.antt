-- What it is to answer with the route.
use Rattle.std.proofs.Common.{◌≡◌, ℕ, List, Option, Some, None, sym, ap}
use Rattle.std.specs.Prelude.{IfSome}
use Rattle.of_types.specs.declared.setup.Setup.{Setup}
use Rattle.of_types.specs.Setups.{IsSetup}
use Rattle.app_core.specs.declared.switch_port.SwitchPort.{SwitchPort}
use Rattle.app_core.specs.Routes.{IsRoute}
use Rattle.route_app.specs.Hops.{AnswersRoute}
use Rattle.app_core.proofs.Routes.{route_means, one_route}

module _ (setup : Setup) (down : List SwitchPort) (is : IsSetup setup) (from to : ℕ) where
  pub answers_route : (found : Option (List SwitchPort)) → AnswersRoute setup down from to found → IfSome found (λ walk. IsRoute setup down from to walk)
  answers_route None a = tt
  answers_route (Some w) a = route_means setup down to is from w (sym a.is)

  pub answers_only : (w : List SwitchPort) → IsRoute setup down from to w → (found : Option (List SwitchPort)) → AnswersRoute setup down from to found → found ≡ Some w
  answers_only w r None a = absurd (a.none w r.walks)
  answers_only w r (Some v) a = ap (λ (l : List SwitchPort). Some l) (one_route setup down to from v w (route_means setup down to is from v (sym a.is)) r)
