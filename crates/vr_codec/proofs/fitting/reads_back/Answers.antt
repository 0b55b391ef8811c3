use Rattle.vr_codec.proofs.Laws.{read_again}
use Rattle.vr_codec.proofs.Written.{vr_spelled}
use Rattle.vr_codec.proofs.fitting.reads_back.Goals as goal

pub returns-clause-spelled : goal.returns-clause-spelled
returns-clause-spelled c = λ v. vr_spelled c.args.message.now v c.vr_fits.ensures

pub returns-clause-again : goal.returns-clause-again
returns-clause-again c = λ v. read_again c.args.message.now v c.vr_fits.ensures
