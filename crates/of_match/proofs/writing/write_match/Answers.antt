use Rattle.of_match.proofs.Laws.{is_form}
use Rattle.of_match.proofs.writing.write_match.Goals as goal

pub returns-clause-spelled : goal.returns-clause-spelled
returns-clause-spelled c = λ v. is_form c.args.matching.now v c.fits.ensures
