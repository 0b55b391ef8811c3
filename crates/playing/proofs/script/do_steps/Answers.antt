use Rattle.std.proofs.Common.{◌≡◌, ◌+◌, ◌++◌, ◌∷◌, [], length, ap, arith, sym, subst, ◌∙◌, append_assoc, length-append}
use Rattle.std.proofs.lemmas.Result.{err_from_is_err_and}
use Rattle.journal.specs.Actors.{IsActor}
use Rattle.journal.specs.Turns.{turn_actor}
use Rattle.closing.specs.Views.{most_view_of_a_script, StepSuspectsUpTo}
use Rattle.playing.proofs.Following.{keeps_next, stands_behind, stands_last, stands_next, Stands, stops_next}
use Rattle.playing.proofs.Stopping.{all_found}
use Rattle.playing.proofs.script.do_steps.Goals as goal

pub take-requires-clause-holds : goal.take-requires-clause-holds
take-requires-clause-holds g c = (c.requires.holds.0, c.loop-step.invariant.stands.keeps.holds c.requires.holds.0 c.requires.holds.1)

pub take-requires-clause-named : goal.take-requires-clause-named
take-requires-clause-named g c =
    let steps = ap (λ l. c.loop-step.yielded ++ l) (sym c.in-Some.ensures.steps.0) ∙ c.loop-step.invariant.joined in
    let found = stands_behind c.loop-step.yielded c.in-Some.step c.next.new.self.rest.items c.args.steps steps in
    subst (λ s. IsActor s (turn_actor c.in-Some.step)) (sym c.loop-step.invariant.stands.keeps.setup)
    (all_found (λ t. IsActor c.args.world.now.setup (turn_actor t)) c.args.steps (length c.loop-step.yielded) c.in-Some.step c.requires.named found)

pub returns-in_err-take-clause-keeps : goal.returns-in_err-take-clause-keeps
returns-in_err-take-clause-keeps g c =
    let steps = ap (λ l. c.loop-step.yielded ++ l) (sym c.in-Some.ensures.steps.0) ∙ c.loop-step.invariant.joined in
    let count = length c.loop-step.yielded in
    let found = stands_behind c.loop-step.yielded c.in-Some.step c.next.new.self.rest.items c.args.steps steps in
    let named = all_found (λ t. IsActor c.args.world.now.setup (turn_actor t)) c.args.steps count c.in-Some.step c.requires.named found in
    let within = all_found (λ t. StepSuspectsUpTo most_view_of_a_script t) c.args.steps count c.in-Some.step c.requires.views found in
    keeps_next g.A.App.law g.W.Stable.saving g.B.Body.sealing c.args.steps most_view_of_a_script c.args.world.now c.args.stables.now c.requires.holds count c.loop-step.world c.take.new.self c.loop-step.stables c.take.new.stables c.loop-step.invariant.stands c.in-Some.step found named within c.in_err-take.ensures.keeps

pub returns-in_err-take-clause-stops : goal.returns-in_err-take-clause-stops
returns-in_err-take-clause-stops g c =
    let p = err_from_is_err_and c.from_residual.result c.from_residual.ensures.1 in
    let steps = ap (λ l. c.loop-step.yielded ++ l) (sym c.in-Some.ensures.steps.0) ∙ c.loop-step.invariant.joined in
    let count = length c.loop-step.yielded in
    let found = stands_behind c.loop-step.yielded c.in-Some.step c.next.new.self.rest.items c.args.steps steps in
    let named = all_found (λ t. IsActor c.args.world.now.setup (turn_actor t)) c.args.steps count c.in-Some.step c.requires.named found in
    let within = all_found (λ t. StepSuspectsUpTo most_view_of_a_script t) c.args.steps count c.in-Some.step c.requires.views found in
    rw (p.1, p.2) (stops_next g.A.App.law g.W.Stable.saving g.B.Body.sealing c.args.steps most_view_of_a_script c.args.world.now c.args.stables.now c.requires.holds count c.loop-step.world c.take.new.self c.loop-step.stables c.take.new.stables c.loop-step.invariant.stands c.in-Some.step found named within c.in_err-take.field-0.0
    c.in_err-take.ensures.keeps c.in_err-take.ensures.stops)

pub loop-step-preserved : goal.loop-step-preserved
loop-step-preserved g c =
    let steps = ap (λ l. c.loop-step.yielded ++ l) (sym c.in-Some.ensures.steps.0) ∙ c.loop-step.invariant.joined in
    let count = length c.loop-step.yielded in
    let found = stands_behind c.loop-step.yielded c.in-Some.step c.next.new.self.rest.items c.args.steps steps in
    let named = all_found (λ t. IsActor c.args.world.now.setup (turn_actor t)) c.args.steps count c.in-Some.step c.requires.named found in
    let within = all_found (λ t. StepSuspectsUpTo most_view_of_a_script t) c.args.steps count c.in-Some.step c.requires.views found in
    record {
      stands = subst (λ n. Stands g.A.App.law g.W.Stable.saving g.B.Body.sealing c.args.steps most_view_of_a_script n c.args.world.now c.args.stables.now c.take.new.self c.take.new.stables) (sym (length-append c.loop-step.yielded (c.in-Some.step ∷ [])))
          (stands_next g.A.App.law g.W.Stable.saving g.B.Body.sealing c.args.steps most_view_of_a_script c.args.world.now c.args.stables.now c.requires.holds count c.loop-step.world c.take.new.self c.loop-step.stables c.take.new.stables c.loop-step.invariant.stands c.in-Some.step found named within c.in_ok-take.ensures.keeps c.in_ok-take.ensures.applies);
      joined = append_assoc c.loop-step.yielded (c.in-Some.step ∷ []) c.next.new.self.rest.items ∙ steps;
    }

pub returns-clause-follows : goal.returns-clause-follows
returns-clause-follows g c =
    let yielded = c.loop-step.yielded in
    let rest = c.loop-step.step-iterator.rest in
    let none = c.in-None.ensures.steps.0 in
    let sum = length-append yielded rest.items in
    let whole = ap length c.loop-step.invariant.joined in
    let all : length yielded ≡ length c.args.steps = omega (arith, none, rest.ok.0, sum, whole) in
    stands_last g.A.App.law g.W.Stable.saving g.B.Body.sealing c.args.steps most_view_of_a_script c.args.world.now c.args.stables.now c.loop-step.world c.loop-step.stables (length yielded) c.loop-step.invariant.stands all
