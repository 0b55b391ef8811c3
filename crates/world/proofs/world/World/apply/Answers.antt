use Rattle.std.proofs.Common.{subst, refl}
use Rattle.std.specs.Prelude.{IfErr, OnOk}
use Rattle.std.proofs.lemmas.Result.{err_from_is_err_and}
use Rattle.world.specs.Refusals.{TurnStops, Unchanged}
use Rattle.world.specs.World.{Applies}
use Rattle.world.proofs.Turning.{rests_keeps}
use Rattle.world.proofs.world.World.apply.Goals as goal

pub returns-in_err-turn-clause-keeps : goal.returns-in_err-turn-clause-keeps
returns-in_err-turn-clause-keeps g c =
    rests_keeps g.A.App.law g.W.Stable.saving g.B.Body.sealing c.args.self.now c.args.self.now c.args.stables.now refl refl (λ kinds h. h) c.requires.pairs

pub returns-clause-applies : goal.returns-clause-applies
returns-clause-applies g c = subst (λ t. OnOk c.take.result (Applies g.B.Body.sealing.size t c.args.self.now c.take.new.self)) c.in_ok-turn.ensures c.take.ensures.applies

pub returns-clause-stops : goal.returns-clause-stops
returns-clause-stops g c = subst (λ t. IfErr c.take.result (TurnStops g.B.Body.sealing.size t c.args.self.now c.take.new.self)) c.in_ok-turn.ensures c.take.ensures.stops
