use Rattle.std.proofs.Common.{◌≡◌, ◌++◌, List, subst}
use Rattle.std.specs.Prelude.{OnOk}
use Rattle.journal.specs.declared.journal.Letter.{Letter}
use Rattle.players.proofs.Mails.{copies_sealed}
use Rattle.players.proofs.sealing.seal_member_mail.Goals as goal

pub returns-in-Others-clause-ok : goal.returns-in-Others-clause-ok
returns-in-Others-clause-ok g c =
    subst (λ (l : List (Letter _)). OnOk c.seal_each.result (c.seal_each.new.bag ≡ c.args.bag.now ++ l))
    (copies_sealed g.B.Body.sealing c.args.mail.now c.in-Others.me c.in-Others.controllers c.in-Others.is) c.seal_each.ensures.ok
