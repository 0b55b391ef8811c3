use Rattle.std.proofs.Common.{subst, ◌≡◌, Ok}
use Rattle.scenario.specs.Scenario.{scenario_of}
use Rattle.playing.specs.Manners.{In_order}
use Rattle.top_call.specs.Runs.{StablesTell}
use Rattle.top_call.proofs.Endings.{scenario_ends}
use Rattle.top_call.proofs.top.simulated.Goals as goal

pub returns-in-Ok-clause-ends : goal.returns-in-Ok-clause-ends
returns-in-Ok-clause-ends g c = λ kinds chains.
    scenario_ends In_order kinds (StablesTell g.W.Stable.saving c.args.stables.now.items c.end_of_scenario.new.stables.items) c.args.bytes c.in-Ok.scenario c.end_of_scenario.result
    (subst (λ b. scenario_of b ≡ Ok c.in-Ok.scenario) c.as_slice.ensures c.in-Ok.ensures.exact)
    (c.end_of_scenario.ensures.ends kinds chains)
