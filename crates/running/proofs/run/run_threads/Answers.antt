use Rattle.std.proofs.Common.{ap, arith, length}
use Rattle.running.proofs.Fresh.{follows_apart, halts_with, keeps_apart, starts, starts_with}
use Rattle.running.proofs.run.run_threads.Goals as goal

pub run_actors-answer-requires-clause-served : goal.run_actors-answer-requires-clause-served
run_actors-answer-requires-clause-served g c =
    let kinds = c.requires.holds.0 in
    let world = c.args.world in
    let s = starts g.A.App.law g.W.Stable.saving g.B.Body.sealing world c.args.stables.now.items kinds c.args.steps.now c.requires.holds.1 c.requires.fresh c.requires.pairs c.requires.named in
    let enough = s.enough in
    let group = s.members.group in
    let same = ap (λ l. length l) c.into_parts-setup.ensures.controllers in
    let long = c.into_parts-setup.result.2.ok.0 in
    let stables = c.args.stables.now.ok.0 in omega (arith, enough, group, same, long, stables)

pub run_actors-answer-requires-clause-starts : goal.run_actors-answer-requires-clause-starts
run_actors-answer-requires-clause-starts g c = λ κs bounds.
    let kinds = c.requires.holds.0 in (
      kinds,
      starts_with g.A.App.law g.W.Stable.saving c.args.world c.args.stables.now.items c.args.steps.now
          c.into_parts-setup.result.0 c.into_parts-setup.result.2.items c.into_parts-setup.result.3.items c.into_parts-setup.ensures.setup c.into_parts-setup.ensures.controllers c.into_parts-setup.ensures.switches kinds
          (starts g.A.App.law g.W.Stable.saving g.B.Body.sealing c.args.world c.args.stables.now.items kinds c.args.steps.now c.requires.holds.1 c.requires.fresh c.requires.pairs c.requires.named),
    )

pub returns-in-Err-clause-halts : goal.returns-in-Err-clause-halts
returns-in-Err-clause-halts g c =
    let law = g.A.App.law in
    let saving = g.W.Stable.saving in
    let sealing = g.B.Body.sealing in
    let parts = c.into_parts-setup in
    λ kinds holds.
    (halts_with law saving sealing c.args.world c.args.stables.now.items c.run_actors-answer.new.stables.items c.args.steps.now
    parts.result.0 parts.result.2.items parts.result.3.items parts.ensures.setup parts.ensures.controllers parts.ensures.switches kinds c.in-Err.halt.played c.in-Err.halt.stop
    (c.in-Err.ensures.halts kinds
    (starts_with law saving c.args.world c.args.stables.now.items c.args.steps.now
    parts.result.0 parts.result.2.items parts.result.3.items parts.ensures.setup parts.ensures.controllers parts.ensures.switches kinds
    (starts law saving sealing c.args.world c.args.stables.now.items kinds c.args.steps.now holds c.requires.fresh c.requires.pairs c.requires.named))))

pub returns-in-Ok-clause-keeps : goal.returns-in-Ok-clause-keeps
returns-in-Ok-clause-keeps g c =
    let law = g.A.App.law in
    let saving = g.W.Stable.saving in
    let sealing = g.B.Body.sealing in
    let parts = c.into_parts-setup in
    keeps_apart law saving sealing c.args.world c.args.stables.now.items c.run_actors-answer.new.stables.items c.args.steps.now
    parts.result.0 parts.result.2.items parts.result.3.items parts.ensures.setup parts.ensures.controllers parts.ensures.switches c.in-Ok.played c.adopt.result c.adopt.ensures.is c.requires.holds
    (λ kinds holds. c.in-Ok.ensures.played kinds
    (starts_with law saving c.args.world c.args.stables.now.items c.args.steps.now
    parts.result.0 parts.result.2.items parts.result.3.items parts.ensures.setup parts.ensures.controllers parts.ensures.switches kinds
    (starts law saving sealing c.args.world c.args.stables.now.items kinds c.args.steps.now holds c.requires.fresh c.requires.pairs c.requires.named)))
    c.adopt.ensures.holds

pub returns-in-Ok-clause-follows : goal.returns-in-Ok-clause-follows
returns-in-Ok-clause-follows g c =
    let law = g.A.App.law in
    let saving = g.W.Stable.saving in
    let sealing = g.B.Body.sealing in
    let parts = c.into_parts-setup in
    λ kinds holds.
    follows_apart law saving sealing c.args.world c.args.stables.now.items c.run_actors-answer.new.stables.items c.args.steps.now
    parts.result.0 parts.result.2.items parts.result.3.items parts.ensures.setup parts.ensures.controllers parts.ensures.switches c.in-Ok.played c.adopt.result c.adopt.ensures.is kinds
    (c.in-Ok.ensures.played kinds
    (starts_with law saving c.args.world c.args.stables.now.items c.args.steps.now
    parts.result.0 parts.result.2.items parts.result.3.items parts.ensures.setup parts.ensures.controllers parts.ensures.switches kinds
    (starts law saving sealing c.args.world c.args.stables.now.items kinds c.args.steps.now holds c.requires.fresh c.requires.pairs c.requires.named)))
