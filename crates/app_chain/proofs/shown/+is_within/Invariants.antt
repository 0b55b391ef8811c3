use Rattle.std.proofs.Common.{length}
use Rattle.app_chain.proofs.shown.+is_within.Given as goal

abbrev pub decreases-is_within : goal.decreases-is_within
decreases-is_within g l = length l.parts.now
