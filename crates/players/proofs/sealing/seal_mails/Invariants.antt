use Rattle.std.specs.Prelude.{◌≡◌, ◌++◌, take}
use Rattle.group_controller.specs.Mails.{mailed}
use Rattle.run_spec.specs.States.{controller_message, sealed_letters}
use Rattle.players.proofs.sealing.seal_mails.Given as goal

abbrev pub invariant-loop-mail : goal.invariant-loop-mail
invariant-loop-mail g l = l.bag ≡ l.fn.bag ++ sealed_letters controller_message g.B.Body.sealing (mailed (take l.mail-index l.mails))
