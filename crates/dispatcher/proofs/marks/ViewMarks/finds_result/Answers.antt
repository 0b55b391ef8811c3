use Rattle.std.proofs.Common.{◌∙◌}
use Rattle.dispatcher.proofs.Finding.{found_is}
use Rattle.dispatcher.proofs.marks.ViewMarks.finds_result.Goals as goal

pub returns : goal.returns
returns c = c.contains.ensures ∙ found_is _ _ _ _ _ _ c.self.invariant.0 c.self.view_is
