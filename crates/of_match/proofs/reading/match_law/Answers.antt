use Rattle.of_match.proofs.Laws.{reads_back, is_form}
use Rattle.of_match.proofs.Sizes.{has_size}
use Rattle.of_match.proofs.reading.match_law.Goals as goal

pub returns-clause-again : goal.returns-clause-again
returns-clause-again c = reads_back

pub returns-clause-spelled : goal.returns-clause-spelled
returns-clause-spelled c = is_form

pub returns-clause-size : goal.returns-clause-size
returns-clause-size c = has_size
