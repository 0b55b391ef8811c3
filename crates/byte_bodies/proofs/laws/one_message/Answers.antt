use Rattle.byte_bodies.proofs.Framed.{one_frame}
use Rattle.byte_bodies.proofs.laws.one_message.Goals as goal

pub returns : goal.returns
returns c = one_frame
