use Rattle.std.proofs.Common.{sym, subst, IfOk}
use Rattle.top_call.specs.declared.service.Reader.{Reader}
use Rattle.top_call.specs.Ending.{EndsRead}
use Rattle.top_call.specs.Runs.{StablesTell}
use Rattle.top_call.proofs.top.end_of_reading.Goals as goal

pub returns-in-Sim-clause-ends : goal.returns-in-Sim-clause-ends
returns-in-Sim-clause-ends g c = λ kinds chains.
    subst (λ (r : Reader). IfOk c.simulated.result (λ e. EndsRead kinds (StablesTell g.W.Stable.saving c.args.stables.now.items c.simulated.new.stables.items) r c.args.bytes e)) (sym c.in-Sim.is)
    (c.simulated.ensures.ends kinds chains)

pub returns-in-Audit-clause-ends : goal.returns-in-Audit-clause-ends
returns-in-Audit-clause-ends g c = λ kinds chains.
    subst (λ (r : Reader). IfOk c.audited.result (λ e. EndsRead kinds (StablesTell g.W.Stable.saving c.args.stables.now.items c.args.stables.now.items) r c.args.bytes e)) (sym c.in-Audit.is)
    (c.audited.ensures kinds chains)

pub returns-in-Run-clause-ends : goal.returns-in-Run-clause-ends
returns-in-Run-clause-ends g c = λ kinds chains.
    subst (λ (r : Reader). IfOk c.simulated_apart.result (λ e. EndsRead kinds (StablesTell g.W.Stable.saving c.args.stables.now.items c.simulated_apart.new.stables.items) r c.args.bytes e)) (sym c.in-Run.is)
    (c.simulated_apart.ensures.ends kinds chains)
