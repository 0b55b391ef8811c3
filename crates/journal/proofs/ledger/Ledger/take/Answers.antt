use Rattle.std.proofs.Common.{ap, ◌∙◌, arith}
use Rattle.journal.specs.Entries.{EntriesState, entry_without}
use Rattle.journal.proofs.Turning.{takes}
use Rattle.journal.proofs.ledger.Ledger.take.Goals as goal

pub returns-clause-kept : goal.returns-clause-kept
returns-clause-kept g c =
    (takes g.B.Weight.size c.args.self.now (record { entries = c.push.new.self; queues = c.find-found.new.self.queues; posted = c.find-found.new.self.posted; waiting = c.find-found.new.self.waiting })
    c.args.step c.find-found.result c.find-found.new.self.entries.items (entry_without c.entry_by.result) c.requires.kept c.find-found.ensures.found c.find-found.ensures.left c.find-found.ensures.posted
    c.entry_by.ensures.is (ap (λ (e : EntriesState _). e.items) c.find-found.ensures.entries) c.push.ensures.items (c.push.ensures.letters.0 ∙ ap (λ (e : EntriesState _). e.coming) c.find-found.ensures.entries ∙ c.requires.kept.coming)
    (c.push.ensures.letters.1 ∙ ap (λ (e : EntriesState _). e.next) c.find-found.ensures.entries) (omega (arith, c.push.ensures.room, c.requires.room, ap (λ (e : EntriesState _). e.room) c.find-found.ensures.entries))).kept

pub returns-clause-found : goal.returns-clause-found
returns-clause-found g c =
    (takes g.B.Weight.size c.args.self.now (record { entries = c.push.new.self; queues = c.find-found.new.self.queues; posted = c.find-found.new.self.posted; waiting = c.find-found.new.self.waiting })
    c.args.step c.find-found.result c.find-found.new.self.entries.items (entry_without c.entry_by.result) c.requires.kept c.find-found.ensures.found c.find-found.ensures.left c.find-found.ensures.posted
    c.entry_by.ensures.is (ap (λ (e : EntriesState _). e.items) c.find-found.ensures.entries) c.push.ensures.items (c.push.ensures.letters.0 ∙ ap (λ (e : EntriesState _). e.coming) c.find-found.ensures.entries ∙ c.requires.kept.coming)
    (c.push.ensures.letters.1 ∙ ap (λ (e : EntriesState _). e.next) c.find-found.ensures.entries) (omega (arith, c.push.ensures.room, c.requires.room, ap (λ (e : EntriesState _). e.room) c.find-found.ensures.entries))).found_is
