use Rattle.std.proofs.Common.{sym, ◌∙◌}
use Rattle.of_types.proofs.Taken.{covered-takes}
use Rattle.of_types.proofs.covering.covers.Goals as goal

pub returns-clause-taken : goal.returns-clause-taken
returns-clause-taken c = λ found covering narrow. covered-takes c.args.wide.now c.args.narrow.now found (sym c.covers_each_field.ensures ∙ covering) narrow
