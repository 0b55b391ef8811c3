use Rattle.std.proofs.Common.{◌≡◌, subst, Some}
use Rattle.journal.specs.declared.journal.Turn.TheVariants as turn
use Rattle.journal.specs.Orderly.{IsOrderly}
use Rattle.journal.specs.Places.{IsFound, packet_at}
use Rattle.journal.specs.Pool.{past, pick}
use Rattle.std.specs.Prelude.{drop}
use Rattle.run_spec.specs.Messages.{way_of}
use Rattle.running.proofs.Going.{finds, finds_nothing, holds_one, reads_one, stands_there, still_on}
use Rattle.running.proofs.next.draws.Goals as goal

pub returns-in_default-clause-ok : goal.returns-in_default-clause-ok
returns-in_default-clause-ok g c =
    finds_nothing g.B.Body.sealing g.P.Player.hears g.P.Player.locally c.args.place.now c.draw_next.new.place c.args.owed.now c.args.choice c.args.keep
    c.in_ok-packet.ensures.ok
    (subst (λ o. IsFound c.draw_next.new.place.seen o (pick c.args.place.now.actor c.args.choice (drop 1 (past c.draw_next.new.place.seen)))) c.in_default.is c.in_ok-packet.ensures.found)

pub heard-requires : goal.heard-requires
heard-requires g c =
    let packet = c.in-Some.packet in
    let seen = c.draw_next.new.place.seen in
    let choice = pick c.args.place.now.actor c.args.choice (drop 1 (past seen)) in
    let found = subst (λ o. IsFound seen o choice) c.in-Some.is c.in_ok-packet.ensures.found in
    holds_one (packet_at packet seen) c.new-letter.result c.copy_letter.new.into c.new-letter.ensures (stands_there seen packet choice found) c.in_ok-copy_letter.ensures.copied

pub returns-clause-ok : goal.returns-clause-ok
returns-clause-ok g c =
    let sealing = g.B.Body.sealing in
    let packet = c.in-Some.packet in
    let seen = c.draw_next.new.place.seen in
    let choice = pick c.args.place.now.actor c.args.choice (drop 1 (past seen)) in
    let found = subst (λ o. IsFound seen o choice) c.in-Some.is c.in_ok-packet.ensures.found in
    let read = reads_one (packet_at packet seen) c.new-letter.result c.copy_letter.new.into (λ body. c.in_ok-input.input ≡ g.P.Player.hears packet.from (sealing.spelled (way_of packet.from packet.to) body))
    c.new-letter.ensures (stands_there seen packet choice found) c.in_ok-copy_letter.ensures.copied c.in_ok-input.ensures in
    still_on sealing g.P.Player.hears g.P.Player.locally c.args.place.now c.draw_next.new.place c.args.owed.now (turn.Draw c.args.place.now.actor c.args.choice c.args.keep) c.copy_letter.new.place (Some c.in_ok-input.input)
    (finds sealing g.P.Player.hears g.P.Player.locally c.args.place.now c.draw_next.new.place c.args.owed.now c.args.choice c.args.keep c.in_ok-packet.ensures.ok packet found
    (subst (λ z. IsOrderly z (past seen)) g.met.B.Body.weighed c.lawful.ensures.orderly) read.0 read.1 c.in_ok-input.input read.2)
    c.copy_letter.ensures.nothing
