use Rattle.std.proofs.Common.{ap, ◌∙◌, ◌∷◌, [], ◌++◌, Some}
use Rattle.shared_wire.proofs.Steps.{opens_as}
use Rattle.shared_wire.proofs.board.Board.new.Goals as goal

pub new-requires-2 : goal.new-requires-2
new-requires-2 g c = opens_as c.args.actors.now _ _ c.in_ok-key.ensures.items (c.push_reserved.ensures.items ∙ ap (λ l. l ++ Some c.new.result ∷ []) c.in_ok-slots.ensures.items ∙ ap (λ j. Some j ∷ []) c.new.ensures) c.requires.distinct
