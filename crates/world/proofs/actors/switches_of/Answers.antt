use Rattle.std.proofs.Common.{ℕ, ◌∷◌, [], ◌++◌, sym, ◌∙◌, ap, map}
use Rattle.std.specs.List.{range_with_len}
use Rattle.of_switch.specs.State.{starting_switch}
use Rattle.world.proofs.Shelves.{mapped_push}
use Rattle.world.proofs.actors.switches_of.Goals as goal

pub loop-number-preserved : goal.loop-number-preserved
loop-number-preserved c =
    let starts = λ (s : ℕ). starting_switch s c.args.setup.now in
    c.in_ok-push.ensures.items ∙ ap (λ l. l ++ c.in_ok-new.field-0 ∷ []) c.loop-number.invariant ∙
    ap (λ s. map starts (range_with_len 0 c.loop-number.number) ++ s ∷ []) c.in_ok-new.ensures ∙
    sym (mapped_push starts c.loop-number.number)
