use Rattle.std.proofs.Common.{[]}
use Rattle.vr_log.proofs.Logs.{follows_front}
use Rattle.vr_log.proofs.log.logs_have_fronts.Goals as goal

pub returns : goal.returns
returns c = λ front rest h. follows_front [] front rest h
