-- What is asked of a world, of what its fields show.
use Rattle.std.proofs.Common.{◌≡◌, ℕ, List, sym, subst}
use Rattle.std.specs.Prelude.{None}
use Rattle.journal.specs.Stables.{Saving}
use Rattle.app_core.specs.Law.{AppLaw}
use Rattle.run_spec.specs.States.{Sealing}
use Rattle.world.specs.World.{Holds, PairsStand, Worlding}

pub record Seen {B A W : Type 0} (law : AppLaw A) (saving : Saving W) (sealing : Sealing B) (w : Worlding B A) (stables : List W) : Type 0 where
  pub rests : w.owed ≡ None
  pub some : (kinds : List ℕ) × Holds law sealing w kinds
  pub stand : PairsStand saving stables w.controllers

pub seen : {B A W : Type 0} (law : AppLaw A) (saving : Saving W) (sealing : Sealing B) (w old : Worlding B A) (stables : List W) → w ≡ old →
    old.owed ≡ None → (kinds : List ℕ) × Holds law sealing old kinds → PairsStand saving stables old.controllers → Seen law saving sealing w stables
seen law saving sealing w old stables is rests some stand =
    subst (λ z. Seen law saving sealing z stables) (sym is) (record { rests = rests; some = some; stand = stand })
