use Rattle.std.proofs.Common.{◌+◌, ◌∷◌, [], List, length, length-append, sym, ◌∙◌, ap, subst}
use Rattle.journal.proofs.All.{all_append}
use Rattle.app_core.specs.Chain.{learning}
use Rattle.world.specs.World.{AreStocked, IsStocked}
use Rattle.run_cases.specs.contracts.wanting.WantingApp.TheImpl.{ghosts}
use Rattle.run_cases.proofs.wanting.shelves_of.Goals as goal

pub controllers-preserved : goal.controllers-preserved
controllers-preserved c = record {
  count = ap length c.in_ok-push.ensures.items ∙ length-append c.controllers.shelves.items (c.in_ok-shelf_of.field-0 ∷ []) ∙ ap (λ n. n + 1) c.controllers.invariant.count;
  stocked = subst (λ (l : List _). AreStocked ghosts.law (learning ∷ []) l) (sym c.in_ok-push.ensures.items)
      (all_append (λ shelf. IsStocked ghosts.law (learning ∷ []) shelf.items) c.controllers.shelves.items (c.in_ok-shelf_of.field-0 ∷ []) c.controllers.invariant.stocked (c.in_ok-shelf_of.ensures, tt));
}
