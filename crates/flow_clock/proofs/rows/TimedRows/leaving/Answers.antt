use Rattle.std.proofs.Common.{◌≡◌, ◌∙◌, rules}
use Rattle.flow_clock.specs.History.{deeds_of}
use Rattle.flow_clock.specs.Clocked.{clock_told}
use Rattle.flow_clock.proofs.Held.{told_of}
use Rattle.flow_clock.proofs.rows.TimedRows.leaving.Goals as goal

pub returns-clause-table : goal.returns-clause-table
returns-clause-table g c =
    let told : c.in_ok-left.left.items ≡ clock_told c.args.self.now = search rules in λ acts is below. told ∙ told_of _ (deeds_of acts) is below
