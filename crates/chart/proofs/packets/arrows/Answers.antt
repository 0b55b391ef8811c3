use Rattle.std.proofs.Common.{◌∙◌, sym, nat_cmp, take, refl}
use Rattle.std.proofs.lemmas.List.{append-nil}
use Rattle.journal.specs.Pool.{past}
use Rattle.std.specs.BTreeMap.{get}
use Rattle.chart.specs.Arrows.{arrows, sent}
use Rattle.chart.proofs.Noting.{arrows_more, length-past, sent_more}
use Rattle.chart.proofs.packets.arrows.Goals as goal
use Rattle.chart.proofs.packets.arrows.Goals.{in-Some+in_ok-push, in_default}

pub entries-init : goal.entries-init
unfolding sent arrows
entries-init c = (λ id. rw c.new-sent.ensures.empty refl, c.new-arrows.ensures)

pub entries-preserved : goal.entries-preserved
entries-preserved c =
    let shown = c.args.shown.now in
    let i = c.entries.place in
    let e = c.index-shown-place.result in
    let within = c.entries-test.true in
    let drawn = c.in_ok-arrow.ensures (past (take i shown)) (length-past shown i within) c.entries.invariant.0 in (
      sent_more shown i e (λ id. get nat_cmp c.entries.sent id) (λ id. get nat_cmp c.note_posted.new.sent id) within c.index-shown-place.is c.entries.invariant.0 c.in_ok-note_posted.ensures,
      arrows_more shown i e c.entries.arrows c.match-branch-2.arrows c.in_ok-arrow.field-0 within c.index-shown-place.is drawn c.entries.invariant.1
          (elim c.match-branch-2.branch [
            | in-Some+in_ok-push w ↦ w.arrows-is ∙ w.in_ok-push.ensures ∙ rw w.in-Some.is refl
            | in_default w ↦ w.arrows-is ∙ rw w.in_default.is (sym (append-nil c.entries.arrows))
          ]),
    )
