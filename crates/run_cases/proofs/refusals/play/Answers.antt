use Rattle.std.proofs.Common.{◌∷◌, [], List, sym, subst}
use Rattle.std.specs.List.{AllByRecursion}
use Rattle.of_types.specs.declared.setup.Setup.{Setup}
use Rattle.journal.specs.declared.journal.Turn.{Turn}
use Rattle.journal.specs.contracts.stable.MemoryStableStable.TheImpl as stable
use Rattle.journal.specs.Actors.{IsActor}
use Rattle.journal.specs.Turns.{turn_actor}
use Rattle.app_core.specs.Chain.{learning}
use Rattle.world.specs.World.{PairsStand}
use Rattle.top_call.proofs.Ran.{fresh_pairs}
use Rattle.run_cases.specs.contracts.wanting.WantingApp.TheImpl.{ghosts}
use Rattle.run_cases.proofs.refusals.play.Goals as goal

pub play_in-requires-clause-holds : goal.play_in-requires-clause-holds
play_in-requires-clause-holds c = (learning ∷ [], c.in_ok-world.ensures.holds (learning ∷ []) c.in_ok-shelves.ensures.stocked)

pub play_in-requires-clause-pairs : goal.play_in-requires-clause-pairs
play_in-requires-clause-pairs c =
    subst (λ l. PairsStand stable.ghosts.saving l c.in_ok-world.world.controllers) (sym c.as_mut_slice.ensures.value)
    (fresh_pairs ghosts.law stable.ghosts.saving c.in_ok-stables.stables.items c.args.scenario.now.setup c.in_ok-world.world (learning ∷ []) c.in_ok-stables.ensures c.in_ok-world.ensures.starts
    (c.in_ok-world.ensures.holds (learning ∷ []) c.in_ok-shelves.ensures.stocked))

pub play_in-requires-clause-named : goal.play_in-requires-clause-named
play_in-requires-clause-named c =
    subst (λ (l : List Turn). AllByRecursion (λ t. IsActor c.in_ok-world.world.setup (turn_actor t)) l) (sym c.as_slice-steps.ensures)
    (subst (λ (s : Setup). AllByRecursion (λ t. IsActor s (turn_actor t)) c.args.scenario.now.steps) (sym c.in_ok-world.ensures.starts.setup_is) c.requires.actors)
