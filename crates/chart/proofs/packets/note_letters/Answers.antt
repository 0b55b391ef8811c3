use Rattle.std.proofs.Common.{nat_cmp, sym}
use Rattle.std.specs.BTreeMap.{get}
use Rattle.chart.proofs.Noting.{letters_more}
use Rattle.chart.proofs.packets.note_letters.Goals as goal

pub letters-preserved : goal.letters-preserved
letters-preserved c =
    let first = c.from.ensures in
    letters_more c.args.place c.args.first c.args.sender c.args.letters.now c.letters.index c.index-letters-index.result c.in_ok-body.body
    (λ id. get nat_cmp c.args.sent.now id) (λ id. get nat_cmp c.letters.sent id) (λ id. get nat_cmp c.insert.new.self id) c.letters-test.true c.index-letters-index.is c.in_ok-body.ensures c.letters.invariant
    (λ id. rw (sym first) (c.in_ok-insert.ensures.updates.0 id))
