use Rattle.std.proofs.Common.{length}
use Rattle.journal.proofs.stable.+save_result.Given as goal

abbrev pub decreases-save_result : goal.decreases-save_result
decreases-save_result l = length l.failing.now
