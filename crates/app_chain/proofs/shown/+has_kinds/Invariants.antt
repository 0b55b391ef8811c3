use Rattle.std.proofs.Common.{length}
use Rattle.app_chain.proofs.shown.+has_kinds.Given as goal

abbrev pub decreases-has_kinds : goal.decreases-has_kinds
decreases-has_kinds g l = length l.parts.now
