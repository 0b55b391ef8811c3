use Rattle.std.proofs.Common.{◌≡◌, map, sym, subst}
use Rattle.std.specs.Prelude.{IsSome, IfSome}
use Rattle.std.proofs.lemmas.Option.{slice_get_within}
use Rattle.journal.specs.Entries.{EntriesState, whole_entry}
use Rattle.journal.specs.Places.{packet_at}
use Rattle.journal.proofs.Heads.{letter_there, some_packet, unnumbered}
use Rattle.journal.proofs.entries.Entries.size.Goals as goal

pub size-requires : goal.size-requires
size-requires g c =
    let inside = c.self.inside in
    let place = c.args.place in
    let some = subst (λ (e : EntriesState _). IsSome (packet_at place e.items)) (sym c.self.view_is) c.requires in
    let p = some_packet (packet_at place (map (whole_entry inside.letters) inside.heads.items)) some in
    let here = letter_there inside.heads.items inside.posted inside.letters place.id p.0 c.self.invariant.1 p.1 in
    slice_get_within inside.letters place.id (unnumbered p.0) here

pub returns : goal.returns
returns g c =
    let inside = c.self.inside in
    let place = c.args.place in
    let some = subst (λ (e : EntriesState _). IsSome (packet_at place e.items)) (sym c.self.view_is) c.requires in
    let p = some_packet (packet_at place (map (whole_entry inside.letters) inside.heads.items)) some in
    let here = letter_there inside.heads.items inside.posted inside.letters place.id p.0 c.self.invariant.1 p.1 in
    let weight = subst (λ o. IfSome o (λ letter. c.size.result ≡ g.B.Weight.size letter.body)) here c.size.ensures in
    subst (λ (e : EntriesState _). IfSome (packet_at place e.items) (λ packet. c.size.result ≡ g.B.Weight.size packet.body)) c.self.view_is
    (subst (λ o. IfSome o (λ packet. c.size.result ≡ g.B.Weight.size packet.body)) (sym p.1) weight)
