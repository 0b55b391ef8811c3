use Rattle.report.proofs.HeadLines.{long_kept, rest_kept}
use Rattle.report.proofs.heads.write_letter_at.Goals as goal

pub returns-in-Some-clause-rest : goal.returns-in-Some-clause-rest
returns-in-Some-clause-rest c = rw c.in-Some.ensures.left (rest_kept c.args.index c.args.letters.now)

pub returns-in-Some-clause-long : goal.returns-in-Some-clause-long
returns-in-Some-clause-long c = rw c.in-Some.ensures.left (long_kept c.args.index c.args.letters.now)
