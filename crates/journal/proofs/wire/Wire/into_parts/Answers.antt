use Rattle.std.proofs.Common.{◌∙◌}
use Rattle.journal.proofs.Heads.{tiled_whole}
use Rattle.journal.proofs.wire.Wire.into_parts.Goals as goal

pub returns-clause-tiled : goal.returns-clause-tiled
returns-clause-tiled g c =
    tiled_whole c.into_parts.result.0.items c.self.inside.ledger.entries.next c.into_parts.result.1 c.into_parts.ensures.tiled c.into_parts.ensures.long
    (c.into_parts.ensures.coming ∙ c.self.invariant.coming)
