use Rattle.std.proofs.Common.{map, sym, subst, refl}
use Rattle.std.specs.Prelude.{IsSome, IfSome}
use Rattle.journal.specs.Entries.{EntriesState, whole_entry}
use Rattle.journal.specs.Mailbags.{HasBody}
use Rattle.journal.specs.Places.{packet_at}
use Rattle.journal.proofs.Heads.{letter_there, some_packet, unnumbered}
use Rattle.journal.proofs.entries.Entries.letter.Goals as goal

pub returns : goal.returns
returns g c =
    let inside = c.self.inside in
    let place = c.args.place in
    let entries = map (whole_entry inside.letters) inside.heads.items in
    let some = subst (λ (e : EntriesState _). IsSome (packet_at place e.items)) (sym c.self.view_is) c.requires in
    let p = some_packet (packet_at place entries) some in
    let here = letter_there inside.heads.items inside.posted inside.letters place.id p.0 c.self.invariant.1 p.1 in
    let has : HasBody inside.letters place.id p.0.body = (unnumbered p.0, here, refl) in
    subst (λ (e : EntriesState _). IfSome (packet_at place e.items) (λ packet. HasBody inside.letters place.id packet.body)) c.self.view_is
    (subst (λ o. IfSome o (λ packet. HasBody inside.letters place.id packet.body)) (sym p.1) has)
