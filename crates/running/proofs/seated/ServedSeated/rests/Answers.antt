use Rattle.running.specs.Playing.{scene_of}
use Rattle.running.proofs.Controlling.{controller_rests}
use Rattle.running.proofs.seated.ServedSeated.rests.Goals as goal

pub returns-clause-quiet : goal.returns-clause-quiet
returns-clause-quiet g c = λ setup kinds a start own e found hears h. record {
  number = h.number;
  is = h.is;
  pair_is = h.pair_is;
  told = h.told;
  stands = controller_rests g.A.App.law (scene_of g.B.Body.sealing setup kinds) h.number own
      c.args.self.now.controller e found hears h.stands;
}
