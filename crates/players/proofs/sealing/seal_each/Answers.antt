use Rattle.std.proofs.Common.{◌∙◌, ◌++◌, ◌∷◌, [], ap, sym, eq-eqb, ne_eqb}
use Rattle.journal.specs.declared.journal.Actor.TheVariants as actor
use Rattle.vr_log.specs.Members.{others_below}
use Rattle.run_spec.specs.declared.messages.Message.TheVariants as messages
use Rattle.players.proofs.Mails.{first_is, none_more, one_more}
use Rattle.players.proofs.sealing.seal_each.Goals.{then-to-me+in_ok-seal_told, else-to-me}
use Rattle.players.proofs.sealing.seal_each.Goals as goal

pub seal_told-requires : goal.seal_told-requires
seal_told-requires g c =
    rw (c.loop-to.invariant, c.len-first.ensures)
    (first_is (g.B.Body.sealing.sealed (messages.Vr c.args.message.now)) c.args.bag.now (others_below c.args.me c.loop-to.to))

pub loop-to-preserved : goal.loop-to-preserved
loop-to-preserved g c =
    let b = g.B.Body.sealing.sealed (messages.Vr c.args.message.now) in
    elim c.if-to-me.branch [
      | then-to-me+in_ok-seal_told w ↦
          w.bag-is ∙ w.in_ok-seal_told.ensures.ok
          ∙ ap (λ l. l ++ record { to = actor.Controller c.loop-to.to; body = b } ∷ []) c.loop-to.invariant
          ∙ sym (one_more b c.args.bag.now c.args.me c.loop-to.to (ne_eqb c.loop-to.to c.args.me w.if-to-me.true))
      | else-to-me w ↦
          w.bag-is ∙ c.loop-to.invariant ∙ sym (none_more b c.args.bag.now c.args.me c.loop-to.to (eq-eqb c.loop-to.to c.args.me w.if-to-me.false))
    ]
