use Rattle.std.proofs.Common.{ℕ, ◌<◌, subst}
use Rattle.players.proofs.Mails.{repeated}
use Rattle.players.proofs.sealing.seal_told.Goals as goal

pub returns-then-first-len-clause-ok : goal.returns-then-first-len-clause-ok
returns-then-first-len-clause-ok g c =
    let within = subst (λ (n : ℕ). c.args.first < n) c.len.ensures c.if-first-len.true in
    repeated c.repeat.result c.args.bag.now c.repeat.new.self c.args.first c.args.to _ within c.requires c.repeat.ensures.ok
