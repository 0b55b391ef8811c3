use Rattle.std.proofs.Common.{◌++◌, [], ◌∷◌, map, sym, ◌∙◌, ap, arith}
use Rattle.std.specs.List.{range_with_len}
use Rattle.std.proofs.lemmas.List.FromFn.{map-range_with_len_more}
use Rattle.scenario.specs.Generated.{frame_turn}
use Rattle.scenario.proofs.generator.script.Goals as goal

pub frames-preserved : goal.frames-preserved
frames-preserved c =
    let more = map-range_with_len_more (frame_turn c.args.number c.args.switches) 0 c.frames.frame c.frames.frame (omega arith) in
    c.in_ok-push.ensures ∙ ap (λ l. l ++ c.in_ok-frame_turn.field-0 ∷ []) c.frames.invariant ∙ ap (λ t. map (frame_turn c.args.number c.args.switches) (range_with_len 0 c.frames.frame) ++ t ∷ []) c.in_ok-frame_turn.ensures ∙ sym more
