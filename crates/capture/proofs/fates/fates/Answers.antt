use Rattle.std.proofs.Common.{nat_cmp, refl}
use Rattle.std.specs.BTreeMap.{get}
use Rattle.capture_laws.specs.Fates.{fate}
use Rattle.capture.proofs.Noted.{fates_more}
use Rattle.capture.proofs.fates.fates.Goals as goal

pub entries-init : goal.entries-init
unfolding fate
entries-init c = λ q. rw c.new-fates.ensures.empty refl

pub entries-preserved : goal.entries-preserved
entries-preserved c =
    fates_more c.args.journal.now c.entries.place c.index-journal-place.result (λ q. get nat_cmp c.entries.fates q) (λ q. get nat_cmp c.note.new.fates q)
    c.entries-test.true c.index-journal-place.is c.entries.invariant c.in_ok-note.ensures
