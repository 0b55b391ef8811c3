-- Levels that bound each link bound each walk.
use Rattle.app_core.proofs.Bounds.{falls_fewest, level_bounds}
use Rattle.app_core.proofs.shortest.levels_bound_walks.Goals as goal

pub returns-clause-bound : goal.returns-clause-bound
returns-clause-bound c = λ setup down from to levels walk bounds walks. level_bounds setup down to levels bounds walk from walks

pub returns-clause-fewest : goal.returns-clause-fewest
returns-clause-fewest c = λ setup down from to levels walk other bounds walks falls others. falls_fewest setup down to levels bounds walk other from walks falls others
