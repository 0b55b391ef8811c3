use Rattle.forgetting_laws.proofs.AgreeingMarks.{commutes, forgotten_unasked, none_issued, stay_issued}
use Rattle.forgetting_laws.proofs.marks.marks_forget.Goals as goal

pub returns-clause-issued : goal.returns-clause-issued
returns-clause-issued c = λ kinds setup log. (none_issued kinds setup log, stay_issued kinds setup log)

pub returns-clause-unasked : goal.returns-clause-unasked
returns-clause-unasked c = forgotten_unasked

pub returns-clause-commutes : goal.returns-clause-commutes
returns-clause-commutes c = commutes
