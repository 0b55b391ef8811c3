use Rattle.std.proofs.Common.{rules, ap, get_or, subst, ◌<◌, length, List}
use Rattle.journal.specs.declared.journal.Actor.{Actor}
use Rattle.journal.specs.declared.journal.Actor.TheVariants.{Controller}
use Rattle.shared_wire.proofs.Lists.{there, some_element}
use Rattle.shared_wire.proofs.Steps.{closes, closed}
use Rattle.shared_wire.proofs.board.Board.close.Goals as goal

pub end_all-last-requires-clause-some : goal.end_all-last-requires-clause-some
end_all-last-requires-clause-some g c =
    let some_actor = subst (λ (xs : List Actor). 0 < length xs) (ap (λ b. b.actors) c.self.view_is) c.self.invariant.2 in
    let some_place = some_element (λ p. p.actor) (Controller 0) c.args.self.actors c.args.places.items some_actor c.requires.all in
    let len = c.args.places.ok in
    search (rules, some_place, len)

pub take_home-wire-requires-clause-there : goal.take_home-wire-requires-clause-there
take_home-wire-requires-clause-there g c =
    let same = ap (λ b. b.actors) c.self.view_is in
    let last = c.end_all-last.ensures in
    let x = closes _ _ _ _ _ _ c.args.places.items same c.close_with.ensures.values.2 last.last.1 last.known c.requires.all in
    (x.0, x.1)

pub returns-clause-named : goal.returns-clause-named
returns-clause-named g c =
    let same = ap (λ b. b.actors) c.self.view_is in
    let last = c.end_all-last.ensures in
    let x = closes _ _ _ _ _ _ c.args.places.items same c.close_with.ensures.values.2 last.last.1 last.known c.requires.all in
    (closed _ _ c.args.places.items c.take_home-wire.result x c.take_home-wire.ensures).1

pub returns-clause-parts : goal.returns-clause-parts
returns-clause-parts g c =
    let same = ap (λ b. b.actors) c.self.view_is in
    let last = c.end_all-last.ensures in
    let x = closes _ _ _ _ _ _ c.args.places.items same c.close_with.ensures.values.2 last.last.1 last.known c.requires.all in
    let y = closed _ _ c.args.places.items c.take_home-wire.result x c.take_home-wire.ensures in
    λ k d lt. y.0 k (get_or c.args.places.items k d) (there c.args.places.items k d lt)
