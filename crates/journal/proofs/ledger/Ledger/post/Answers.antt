use Rattle.std.proofs.Common.{List, length, ap, ◌∙◌}
use Rattle.std.specs.Prelude.{nat_eq}
use Rattle.journal.specs.declared.journal.Letter.{Letter}
use Rattle.journal.proofs.Turning.{posts}
use Rattle.journal.proofs.ledger.Ledger.post.Goals as goal

pub returns-then-not-is_empty-clause-kept : goal.returns-then-not-is_empty-clause-kept
returns-then-not-is_empty-clause-kept g c =
    let ready = c.in_ok-ready.ensures.ok in
    let some = c.if-not-is_empty.ensures ∙ ap (λ (ls : List (Letter _)). nat_eq (length ls) 0) (c.coming.ensures ∙ ready.coming_is) in
    (posts g.B.Weight.size c.args.actor (g.P.Outgoing.letters c.args.post.now) c.args.self.now c.prepare.new.self c.write.new.self c.in_ok-ready.ready some c.requires.kept
    ready c.write.ensures.entries c.write.ensures.coming c.write.ensures.next c.write.ensures.queues c.write.ensures.posted c.write.ensures.waiting).kept
