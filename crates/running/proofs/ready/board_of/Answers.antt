use Rattle.std.proofs.Common.{List, subst, sym, ◌∙◌, ap, ◌<◌, length, map, arith}
use Rattle.std.specs.List.{IsDistinct}
use Rattle.journal.specs.declared.journal.Actor.{Actor}
use Rattle.journal.specs.Actors.{same_actor}
use Rattle.shared_wire.specs.Places.{fresh}
use Rattle.running.proofs.Distinct.{distinct, how_many}
use Rattle.running.proofs.ready.board_of.Goals as goal

pub new-requires-clause-some : goal.new-requires-clause-some
new-requires-clause-some g c =
    let many = how_many c.args.group c.args.count in
    let some = c.requires.0 in
    subst (λ (l : List Actor). 0 < length l) (sym (c.as_slice.ensures.value ∙ c.in_ok-actors.ensures)) (omega (arith, many, some))

pub new-requires-clause-distinct : goal.new-requires-clause-distinct
new-requires-clause-distinct g c = subst (λ (l : List Actor). IsDistinct same_actor l) (sym (c.as_slice.ensures.value ∙ c.in_ok-actors.ensures)) (distinct c.args.group c.args.count)

pub returns-clause-board : goal.returns-clause-board
returns-clause-board g c = c.in_ok-board.ensures.actors ∙ c.as_slice.ensures.value ∙ c.in_ok-actors.ensures

pub returns-clause-places : goal.returns-clause-places
returns-clause-places g c = c.in_ok-board.ensures.places ∙ ap (map (fresh c.in_ok-board.board.id)) (c.as_slice.ensures.value ∙ c.in_ok-actors.ensures)
