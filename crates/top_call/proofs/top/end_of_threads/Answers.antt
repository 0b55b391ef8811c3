use Rattle.top_call.specs.declared.sim.Output.TheVariants.{Report}
use Rattle.playing.specs.Manners.{Apart}
use Rattle.top_call.specs.Runs.{StablesTell}
use Rattle.top_call.proofs.Endings.{run_untouched}
use Rattle.top_call.proofs.Staying.{stay_same}
use Rattle.top_call.proofs.top.end_of_threads.Goals as goal

pub simulate_apart-requires-clause-stocked : goal.simulate_apart-requires-clause-stocked
simulate_apart-requires-clause-stocked g c = λ κs bounds. (c.requires.chains.0, c.in_ok-shelves.ensures.stocked c.requires.chains.0 c.requires.chains.1)

pub returns-clause-ends : goal.returns-clause-ends
returns-clause-ends g c = λ kinds chains. c.simulate_apart.ensures.ends kinds (c.in_ok-shelves.ensures.stocked kinds chains)

pub returns-clause-unplayed : goal.returns-clause-unplayed
returns-clause-unplayed g c =
    let kinds = c.requires.chains.0 in
    run_untouched Apart kinds (StablesTell g.W.Stable.saving c.args.stables.now.items c.simulate_apart.new.stables.items) Report c.args.scenario.now c.simulate_apart.result c.args.stables.now.items c.simulate_apart.new.stables.items
    (c.simulate_apart.ensures.ends kinds (c.in_ok-shelves.ensures.stocked kinds c.requires.chains.1))

pub returns-in_err-shelves-clause-stay : goal.returns-in_err-shelves-clause-stay
returns-in_err-shelves-clause-stay g c = stay_same g.W.Stable.saving c.args.stables.now.items
