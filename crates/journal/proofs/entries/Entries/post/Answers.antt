use Rattle.std.proofs.Common.{◌-◌, sym, subst, arith, refl}
use Rattle.journal.specs.Entries.{Tile}
use Rattle.journal.specs.declared.entries.Head.TheVariants as head
use Rattle.journal.proofs.Heads.{tile_more}
use Rattle.journal.proofs.entries.Entries.post.Goals as goal

pub invariant_of-self : goal.invariant_of-self
invariant_of-self g c =
    let posted = c.self.inside.posted in
    let count = c.len-self-inside.result - posted in (
      omega (arith, c.len-self-inside.ensures),
      subst (λ hs. Tile 0 hs c.len-self-inside.result) (sym c.push_reserved.ensures.items)
          (tile_more 0 c.self.inside.heads.items posted c.len-self-inside.result (head.Post c.args.actor posted count c.args.lost) c.self.invariant.1 refl
          (omega (arith, c.self.invariant.0, c.len-self-inside.ensures))),
    )
