use Rattle.std.proofs.Common.{sym, subst, arith}
use Rattle.journal.specs.Entries.{Tile}
use Rattle.journal.proofs.Heads.{bare_counts, bare_starts, tile_more}
use Rattle.journal.proofs.entries.Entries.push.Goals as goal

pub invariant_of-self : goal.invariant_of-self
invariant_of-self g c =
    let posted = c.self.inside.posted in (
      c.self.invariant.0,
      subst (λ hs. Tile 0 hs posted) (sym c.push_reserved.ensures.items)
          (tile_more 0 c.self.inside.heads.items posted posted c.args.head c.self.invariant.1 (bare_starts posted c.args.head c.requires.bare) (omega (arith, bare_counts c.args.head c.requires.bare))),
    )
