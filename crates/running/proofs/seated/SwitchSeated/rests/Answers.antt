use Rattle.running.specs.Playing.{scene_of}
use Rattle.running.proofs.Switching.{switch_rests}
use Rattle.running.proofs.seated.SwitchSeated.rests.Goals as goal

pub returns-clause-quiet : goal.returns-clause-quiet
returns-clause-quiet g c = λ setup kinds a start own e found hears h. record {
  number = h.number;
  is = h.is;
  stands = switch_rests (scene_of g.B.Body.sealing setup kinds) h.number own c.args.self.now e found hears h.stands;
}
