use Rattle.std.proofs.Common.{◌≡◌, subst, sym}
use Rattle.std.specs.Prelude.{IfOk, IfSome, IsSome}
use Rattle.journal.specs.Places.{packet_at}
use Rattle.run_spec.specs.Messages.{way_of}
use Rattle.world.proofs.Hearing.{is_among, packet_heard}
use Rattle.world.proofs.world.World.hear.Goals as goal

pub heard-requires : goal.heard-requires
heard-requires g c =
    let place = c.args.place in
    let some = subst (λ w. IsSome (packet_at place w.journal)) (sym c.self.view_is) c.requires in
    is_among (packet_at place c.self.inside.wire) c.letter-index.result.0.now c.letter-index.result.1 some c.letter-index.ensures

pub returns : goal.returns
returns g c =
    let place = c.args.place in
    let is = packet_heard (packet_at place c.self.inside.wire) c.letter-index.result.0.now c.letter-index.result.1 c.heard.result
    (λ b. g.P.Player.hears place.from (g.B.Body.sealing.spelled (way_of place.from place.to) b)) c.letter-index.ensures c.heard.ensures in
    subst (λ w. IfSome (packet_at place w.journal) (λ packet. IfOk c.heard.result
    (λ input. input ≡ g.P.Player.hears place.from (g.B.Body.sealing.spelled (way_of place.from place.to) packet.body)))) c.self.view_is is
