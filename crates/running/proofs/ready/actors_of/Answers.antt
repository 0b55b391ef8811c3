use Rattle.std.proofs.Common.{ℕ, [], ◌∷◌, ◌++◌, sym, ◌∙◌, ap, map, append_assoc}
use Rattle.std.specs.List.{range_with_len}
use Rattle.journal.specs.declared.journal.Actor.TheVariants as actor
use Rattle.world.proofs.Shelves.{mapped_push}
use Rattle.running.proofs.ready.actors_of.Goals as goal

pub loop-number-preserved : goal.loop-number-preserved
loop-number-preserved c =
    let member = λ (n : ℕ). actor.Controller n in
    c.in_ok-push.ensures.items ∙ ap (λ l. l ++ member c.loop-number.number ∷ []) c.loop-number.invariant ∙ sym (mapped_push member c.loop-number.number)

pub loop-number-2-preserved : goal.loop-number-2-preserved
loop-number-2-preserved c =
    let member = λ (n : ℕ). actor.Controller n in
    let other = λ (n : ℕ). actor.Switch n in
    c.in_ok-push-2.ensures.items ∙ ap (λ l. l ++ other c.loop-number-2.number ∷ []) c.loop-number-2.invariant
    ∙ append_assoc (map member (range_with_len 0 c.args.controllers)) (map other (range_with_len 0 c.loop-number-2.number)) (other c.loop-number-2.number ∷ [])
    ∙ ap (λ l. map member (range_with_len 0 c.args.controllers) ++ l) (sym (mapped_push other c.loop-number-2.number))
