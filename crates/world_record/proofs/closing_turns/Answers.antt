use Rattle.std.proofs.Common.{◌∙◌, ap, arith, drop, length, length-drop, take_all, ◌-◌}
use Rattle.world_record.specs.Shows.{head_turns}
use Rattle.world_record.proofs.Heads.{turns_of_heads}
use Rattle.world_record.proofs.closing_turns.Goals as goal

pub returns : goal.returns
returns g c =
    let heads = c.heads.result.now in
    let script = c.args.script in
    let long = length-drop script heads in
    c.turns_in.ensures ∙ ap head_turns (take_all (length heads - script) (drop script heads) (omega (arith, long))) ∙ ap (λ l. head_turns (drop script l)) c.heads.ensures
    ∙ turns_of_heads script c.args.world.now.journal
