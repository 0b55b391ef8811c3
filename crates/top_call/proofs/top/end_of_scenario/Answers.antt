use Rattle.std.proofs.Common.{List, subst, sym}
use Rattle.playing.specs.Manners.{In_order}
use Rattle.top_call.specs.Play.{AreFresh}
use Rattle.top_call.specs.Runs.{StablesTell}
use Rattle.top_call.proofs.Endings.{ends_over, run_untouched}
use Rattle.top_call.proofs.Staying.{stay_over, stay_same}
use Rattle.top_call.proofs.top.end_of_scenario.Goals as goal

pub simulate-requires-clause-stocked : goal.simulate-requires-clause-stocked
simulate-requires-clause-stocked g c = (c.requires.chains.0, c.in_ok-shelves.ensures.stocked c.requires.chains.0 c.requires.chains.1)

pub simulate-requires-clause-fresh : goal.simulate-requires-clause-fresh
simulate-requires-clause-fresh g c = subst (λ (l : List _). AreFresh g.W.Stable.saving l) (sym c.deref_mut.ensures.value) c.requires.fresh

pub returns-clause-ends : goal.returns-clause-ends
returns-clause-ends g c = λ kinds chains.
    ends_over g.W.Stable.saving kinds c.args.output c.args.scenario c.simulate.result c.args.stables.now.len c.args.stables.now.items c.deref_mut.result.now c.simulate.new.stables c.args.stables.now.ok.0 c.deref_mut.ensures.value c.simulate.auto.stables
    (c.simulate.ensures.ends kinds (c.in_ok-shelves.ensures.stocked kinds chains))

pub returns-clause-unplayed : goal.returns-clause-unplayed
returns-clause-unplayed g c =
    let kinds = c.requires.chains.0 in
    run_untouched In_order kinds (StablesTell g.W.Stable.saving c.deref_mut.result.now c.simulate.new.stables) c.args.output c.args.scenario c.simulate.result _ _
    (c.simulate.ensures.ends kinds (c.in_ok-shelves.ensures.stocked kinds c.requires.chains.1))

pub returns-clause-stay : goal.returns-clause-stay
returns-clause-stay g c =
    stay_over g.W.Stable.saving c.args.stables.now.len c.args.stables.now.items c.deref_mut.result.now c.simulate.new.stables c.args.stables.now.ok.0 c.deref_mut.ensures.value c.simulate.auto.stables c.simulate.ensures.stay

pub returns-in_err-shelves-clause-stay : goal.returns-in_err-shelves-clause-stay
returns-in_err-shelves-clause-stay g c = stay_same g.W.Stable.saving c.args.stables.now.items
