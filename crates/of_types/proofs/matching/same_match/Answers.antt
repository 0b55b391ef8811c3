use Rattle.std.proofs.Math.Bool.{and_assoc}
use Rattle.of_types.proofs.matching.same_match.Goals as goal

pub returns : goal.returns
returns c = simp (and_assoc, c.eq.ensures)
