use Rattle.std.specs.Prelude.{◌≡◌, ◌++◌}
use Rattle.run_spec.specs.declared.messages.Message.TheVariants as messages
use Rattle.vr_log.specs.Members.{others_below}
use Rattle.players.specs.Mails.{copies}
use Rattle.players.proofs.sealing.seal_each.Given as goal

abbrev pub invariant-loop-to : goal.invariant-loop-to
invariant-loop-to g l = l.bag ≡ l.fn.bag ++ copies (g.B.Body.sealing.sealed (messages.Vr l.message)) (others_below l.me l.to)
