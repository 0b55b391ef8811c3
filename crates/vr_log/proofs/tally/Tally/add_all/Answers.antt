use Rattle.std.proofs.Common.{sym, ◌∙◌}
use Rattle.vr_log.proofs.Tallies.{starts, goes_on, stops, ends}
use Rattle.vr_log.proofs.tally.Tally.add_all.Goals as goal

pub loop-entry-init : goal.loop-entry-init
loop-entry-init c = λ log lawful t. starts log c.args.entries.now c.args.self.now lawful t

pub loop-entry-preserved : goal.loop-entry-preserved
loop-entry-preserved c = λ log lawful t.
    goes_on log c.args.entries.now c.loop-entry.entry-index c.loop-entry.self c.entry-item.result (c.loop-entry.invariant log lawful t) c.loop-entry-test.true c.entry-item.is
    c.add.new.self (sym c.joins.ensures ∙ c.if-not-joins.false) c.in_ok-add.ensures.ok

pub returns-then-not-joins : goal.returns-then-not-joins
returns-then-not-joins c = λ log lawful t.
    let none = stops log c.args.entries.now c.loop-entry.entry-index c.loop-entry.self c.entry-item.result (c.loop-entry.invariant log lawful t) c.loop-entry-test.true c.entry-item.is (sym c.joins.ensures ∙ c.if-not-joins.true) in
    (sym none, λ off. absurd cc)

pub returns : goal.returns
returns c = λ log lawful t. ends log c.args.entries.now c.loop-entry.entry-index c.loop-entry.self (c.loop-entry.invariant log lawful t) c.loop-entry-test.false
