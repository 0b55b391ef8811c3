use Rattle.std.proofs.Common.{nat_cmp, refl, sym, ◌∙◌, ◌+◌}
use Rattle.std.specs.BTreeMap.{get}
use Rattle.capture.proofs.Noted.{counted_none, entries_end, entries_step, same_fates}
use Rattle.capture.proofs.packets.captured.Goals as goal

pub entries-init : goal.entries-init
entries-init c = (λ k. rw (c.new.ensures.empty, c.new-2.ensures) (counted_none k), rw c.new-2.ensures refl)

pub entries-preserved : goal.entries-preserved
entries-preserved c =
    let step = entries_step (get nat_cmp c.in_ok-fates.fates) c.entries.place c.args.journal.now c.index-journal-place.result c.entries.tape.packets c.entries-test.true c.index-journal-place.is in
    (c.in_ok-add_entry.ensures.counted, rw c.in_ok-add_entry.ensures.added (sym step ∙ c.entries.invariant.1))

pub returns : goal.returns
returns c =
    sym (entries_end (get nat_cmp c.in_ok-fates.fates) (c.entries.place + 1) c.entries.place c.args.journal.now c.entries.tape.packets c.entries-test.false)
    ∙ c.entries.invariant.1 ∙ same_fates (get nat_cmp c.in_ok-fates.fates) c.args.journal.now c.in_ok-fates.ensures
