use Rattle.std.proofs.Common.{length, map, refl, ◌∙◌, ap, subst}
use Rattle.shared_wire.specs.Places.{fresh}
use Rattle.running.specs.Runs.{actors_up_to}
use Rattle.running.specs.Together.{HavePlayed}
use Rattle.world.proofs.Turning.{none_told}
use Rattle.running.proofs.Together as together
use Rattle.running.proofs.run.run_actors.Goals as goal

pub play_together-played-requires-clause-members : goal.play_together-played-requires-clause-members
play_together-played-requires-clause-members g c = λ κs bounds.
    let kinds = c.requires.starts.0 in
    let id = c.in-Ok.ready.board.id in
    let places_are = c.in-Ok.ensures.places ∙ ap (λ n. map (fresh id) (actors_up_to n c.len-2.result)) (c.len.ensures ∙ c.args.controllers.ok.0)
    ∙ ap (λ n. map (fresh id) (actors_up_to (length c.args.controllers.items) n)) (c.len-2.ensures ∙ c.args.switches.ok.0) in
    together.members_ready_at _ g.A.App.law g.W.Stable.saving g.B.Body.sealing c.args.setup.now kinds c.args.steps.now id c.args.controllers.items c.args.switches.items c.args.stables.now.items c.requires.starts.1
    c.in-Ok.ready.places.items places_are

pub play_together-played-requires-clause-others : goal.play_together-played-requires-clause-others
play_together-played-requires-clause-others g c = λ κs bounds.
    let kinds = c.requires.starts.0 in
    let id = c.in-Ok.ready.board.id in
    let places_are = c.in-Ok.ensures.places ∙ ap (λ n. map (fresh id) (actors_up_to n c.len-2.result)) (c.len.ensures ∙ c.args.controllers.ok.0)
    ∙ ap (λ n. map (fresh id) (actors_up_to (length c.args.controllers.items) n)) (c.len-2.ensures ∙ c.args.switches.ok.0) in
    together.others_ready_at _ g.A.App.law g.W.Stable.saving g.B.Body.sealing c.args.setup.now kinds c.args.steps.now id c.args.controllers.items c.args.switches.items c.args.stables.now.items c.requires.starts.1
    c.in-Ok.ready.places.items places_are

pub returns-in-None-clause-played : goal.returns-in-None-clause-played
returns-in-None-clause-played g c = λ kinds starts.
    let id = c.in-Ok.ready.board.id in
    let law = g.A.App.law in
    let saving = g.W.Stable.saving in
    let sealing = g.B.Body.sealing in
    let places_are = c.in-Ok.ensures.places ∙ ap (λ n. map (fresh id) (actors_up_to n c.len-2.result)) (c.len.ensures ∙ c.args.controllers.ok.0)
    ∙ ap (λ n. map (fresh id) (actors_up_to (length c.args.controllers.items) n)) (c.len-2.ensures ∙ c.args.switches.ok.0) in
    together.none_stops _ law saving sealing c.args.setup.now kinds c.args.steps.now id c.args.controllers.items c.args.switches.items c.args.stables.now.items starts
    c.play_together-played.new.stables.items c.play_together-played.result.0 c.play_together-played.result.1
    (subst (λ p. HavePlayed law saving sealing c.args.steps.now p c.args.controllers.items c.args.switches.items c.args.stables.now.items c.play_together-played.new.stables.items c.play_together-played.result.0 c.play_together-played.result.1)
    places_are c.play_together-played.ensures) c.in-None.is

pub returns-in-Some-clause-halts : goal.returns-in-Some-clause-halts
returns-in-Some-clause-halts g c = λ kinds starts.
    let id = c.in-Ok.ready.board.id in
    let law = g.A.App.law in
    let saving = g.W.Stable.saving in
    let sealing = g.B.Body.sealing in
    let places_are = c.in-Ok.ensures.places ∙ ap (λ n. map (fresh id) (actors_up_to n c.len-2.result)) (c.len.ensures ∙ c.args.controllers.ok.0)
    ∙ ap (λ n. map (fresh id) (actors_up_to (length c.args.controllers.items) n)) (c.len-2.ensures ∙ c.args.switches.ok.0) in
    together.some_stops _ law saving sealing c.args.setup.now kinds c.args.steps.now id c.args.controllers.items c.args.switches.items c.args.stables.now.items starts
    c.play_together-played.new.stables.items c.play_together-played.result.0 c.play_together-played.result.1
    (subst (λ p. HavePlayed law saving sealing c.args.steps.now p c.args.controllers.items c.args.switches.items c.args.stables.now.items c.play_together-played.new.stables.items c.play_together-played.result.0 c.play_together-played.result.1)
    places_are c.play_together-played.ensures) c.in-Some.stop c.in-Some.is

pub returns-in_default-clause-halts : goal.returns-in_default-clause-halts
returns-in_default-clause-halts g c = λ kinds starts. record {
  group = starts.members.group;
  pairs = starts.pairs;
  told = none_told g.W.Stable.saving c.args.stables.now.items c.args.controllers.items;
  beyond = λ i past. refl;
}
