use Rattle.std.proofs.Common.{◌+◌, ℕ, sym, subst, rules}
use Rattle.audit.proofs.Followed.{Follows, follows_starts, follows_stops, follows_on, follows_ends}
use Rattle.audit.proofs.log_lines.first_of_log.Goals as goal

pub loop-entry-init : goal.loop-entry-init
loop-entry-init c = follows_starts c.args.evidence.now c.args.log.now c.args.line c.new-so_far.result c.new-so_far.ensures

pub returns-then-fails : goal.returns-then-fails
returns-then-fails c =
    follows_stops c.args.evidence.now c.args.log.now c.args.line c.loop-entry.number c.loop-entry.entry-index c.loop-entry.so_far c.entry-item.result (search rules) c.entry-item.is c.loop-entry.invariant
    c.fails.result c.fails.ensures c.if-fails.true

pub loop-entry-preserved : goal.loop-entry-preserved
loop-entry-preserved c =
    subst (λ (n : ℕ). Follows c.args.evidence.now c.args.log.now c.args.line n (c.loop-entry.entry-index + 1) c.join.new.self) (sym c.in_ok-number.ensures)
    (follows_on c.args.evidence.now c.args.log.now c.args.line c.loop-entry.number c.loop-entry.entry-index c.loop-entry.so_far c.entry-item.result (search rules) c.entry-item.is c.loop-entry.invariant
    c.fails.result c.join.new.self c.fails.ensures c.if-fails.false c.in_ok-join.ensures)

pub returns : goal.returns
returns c = follows_ends c.args.evidence.now c.args.log.now c.args.line c.loop-entry.number c.loop-entry.entry-index c.loop-entry.so_far c.loop-entry-test.false c.loop-entry.invariant
