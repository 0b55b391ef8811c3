use Rattle.vr_codec.proofs.Laws.{one_message, read_again}
use Rattle.vr_codec.proofs.Written.{entry_length}
use Rattle.vr_codec.proofs.reading.vr_law.Goals as goal

pub returns-clause-again : goal.returns-clause-again
returns-clause-again c = read_again

pub returns-clause-one : goal.returns-clause-one
returns-clause-one c = one_message

pub returns-clause-size : goal.returns-clause-size
returns-clause-size c = entry_length
