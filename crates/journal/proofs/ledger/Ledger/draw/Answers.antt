use Rattle.std.proofs.Common.{Some, ap, ◌∙◌, arith, refl}
use Rattle.journal.specs.Entries.{EntriesState, entry_without}
use Rattle.journal.specs.declared.entries.Head.TheVariants as head
use Rattle.journal.specs.declared.journal.Turn.TheVariants as turn
use Rattle.journal.proofs.Turning.{takes}
use Rattle.journal.proofs.ledger.Ledger.draw.Goals as goal

pub returns-clause-kept : goal.returns-clause-kept
returns-clause-kept g c =
    (takes g.B.Weight.size c.args.self.now (record { entries = c.push.new.self; queues = c.leave.new.self.queues; posted = c.leave.new.self.posted; waiting = c.leave.new.self.waiting })
    (turn.Draw c.args.actor c.args.choice c.args.keep) (Some c.args.place) c.leave.new.self.entries.items (entry_without (head.Draw c.args.actor c.args.place.id c.args.keep)) c.requires.kept c.requires.found c.leave.ensures.left c.leave.ensures.posted
    refl (ap (λ (e : EntriesState _). e.items) c.leave.ensures.entries) c.push.ensures.items (c.push.ensures.letters.0 ∙ ap (λ (e : EntriesState _). e.coming) c.leave.ensures.entries ∙ c.requires.kept.coming)
    (c.push.ensures.letters.1 ∙ ap (λ (e : EntriesState _). e.next) c.leave.ensures.entries) (omega (arith, c.push.ensures.room, c.requires.room, ap (λ (e : EntriesState _). e.room) c.leave.ensures.entries))).kept
