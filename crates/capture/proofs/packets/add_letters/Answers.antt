use Rattle.std.proofs.Common.{nat_cmp, sym, ◌∙◌}
use Rattle.std.specs.BTreeMap.{get}
use Rattle.capture.proofs.Noted.{letters_end, letters_step}
use Rattle.capture.proofs.packets.add_letters.Goals as goal

pub letters-preserved : goal.letters-preserved
letters-preserved c =
    let step = letters_step (get nat_cmp c.args.fates.now) c.args.posting.time c.args.posting.from c.args.posting.first c.args.posting.room c.letters.index c.args.letters.now c.index-letters-index.result c.letters.tape.packets
    c.letters-test.true c.index-letters-index.is in
    (c.in_ok-add_numbered.ensures.counted, rw c.in_ok-add_numbered.ensures.added (sym step ∙ c.letters.invariant.1))

pub returns-clause-added : goal.returns-clause-added
returns-clause-added c =
    sym (letters_end (get nat_cmp c.args.fates.now) c.args.posting.time c.args.posting.from c.args.posting.first c.args.posting.room c.letters.index c.args.letters.now c.letters.tape.packets c.letters-test.false) ∙ c.letters.invariant.1
