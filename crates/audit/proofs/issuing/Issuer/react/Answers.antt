use Rattle.std.proofs.Common.{refl, ◌++◌, ◌∷◌, []}
use Rattle.audit.specs.declared.issuing.Issuer.{Issuer}
use Rattle.audit.proofs.Issues.{issuer_reacts}
use Rattle.audit.proofs.issuing.Issuer.react.Goals as goal

pub returns : goal.returns
returns c = λ past before kept.
    let old : Issuer = c.args.self.now in
    let e = c.args.event.now in
    c.issue_each.ensures (past ++ e ∷ []) before (issuer_reacts past e before old (record old { lives = c.begin.new.self }) c.begin.ensures refl refl kept)
