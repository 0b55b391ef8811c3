-- Levels that are 0 where walks lead to, and at most 1 apart at the ends of each link, bound each walk; so one along which they fall has the fewest hops.
use Rattle.std.proofs.Common.{◌≡◌, ◌≤◌, ℕ, List, [], ◌∷◌, length, get_or, sym, ap, ◌∙◌, arith}
use Rattle.of_types.specs.declared.setup.Setup.{Setup}
use Rattle.app_core.specs.declared.switch_port.SwitchPort.{SwitchPort}
use Rattle.app_core.specs.Routes.{IsWalk, FallsAlong, AreBounds}
use Rattle.app_core.proofs.Linked.{over_other}

module _ (setup : Setup) (down : List SwitchPort) (to : ℕ) (levels : List ℕ) (bounds : AreBounds setup down to levels) where
  -- no walk has fewer hops than the level of the switch that it begins at
  pub level_bounds : (w : List SwitchPort) (from : ℕ) → IsWalk setup down from to w → get_or levels from 0 ≤ length w
  level_bounds [] from e = let zero_at = ap (λ (s : ℕ). get_or levels s 0) e ∙ bounds.zero_there in omega (arith, zero_at)
  level_bounds (hop ∷ hops) from (at, (end, link, rest)) =
      let more = level_bounds hops end.switch rest in
      let close = bounds.close hop end link in
      let here = ap (λ (s : ℕ). get_or levels s 0) at in
      omega (arith, more, close, here)

  -- a walk along which they fall has as many
  level_is : (w : List SwitchPort) (from : ℕ) → IsWalk setup down from to w → FallsAlong setup levels w → length w ≡ get_or levels from 0
  level_is [] from e falls = sym (ap (λ (s : ℕ). get_or levels s 0) e ∙ bounds.zero_there)
  level_is (hop ∷ hops) from (at, (end, link, rest)) falls =
      let more = level_is hops end.switch rest falls.1 in
      let one = falls.0 end (over_other setup down hop end link) in
      let here = ap (λ (s : ℕ). get_or levels s 0) at in
      omega (arith, more, one, here)

  pub falls_fewest : (w other : List SwitchPort) (from : ℕ) → IsWalk setup down from to w → FallsAlong setup levels w → IsWalk setup down from to other → length w ≤ length other
  falls_fewest w other from walks falls others = let long = level_is w from walks falls in let bound = level_bounds other from others in omega (arith, long, bound)
