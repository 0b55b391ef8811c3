use Rattle.std.proofs.Common.{◌∙◌, ◌++◌, List, append_assoc, arith, ap, sym}
use Rattle.std.specs.Prelude.{ℕ, map, ◌∷◌, []}
use Rattle.std.specs.List.{range_with_len}
use Rattle.std.proofs.lemmas.List.FromFn.{map-range_with_len_more}
use Rattle.of_types.specs.declared.message.OfMessage.TheVariants as plain
use Rattle.of_types.specs.declared.message.Spoken.TheVariants as spoken
use Rattle.journal.specs.declared.journal.Letter.{Letter}
use Rattle.of_switch.specs.declared.says.SwitchSays.{SwitchSays}
use Rattle.of_switch.specs.State.{to_controller}
use Rattle.of_switch.proofs.letters.push_greetings.Goals as goal

pub loop-controller-preserved : goal.loop-controller-preserved
loop-controller-preserved c =
    let hello : ℕ → Letter SwitchSays = λ k. to_controller k 0 (spoken.Plain plain.Hello) in
    let before = c.args.letters.now.items in
    c.in_ok-push.ensures.items
    ∙ ap (λ (ls : List (Letter SwitchSays)). ls ++ c.to_controller.result ∷ []) c.loop-controller.invariant
    ∙ ap (λ (l : Letter SwitchSays). before ++ map hello (range_with_len 0 c.loop-controller.controller) ++ l ∷ []) c.to_controller.ensures
    ∙ append_assoc before (map hello (range_with_len 0 c.loop-controller.controller)) (hello c.loop-controller.controller ∷ [])
    ∙ ap (λ (ls : List (Letter SwitchSays)). before ++ ls) (sym (map-range_with_len_more hello 0 c.loop-controller.controller c.loop-controller.controller (omega arith)))
