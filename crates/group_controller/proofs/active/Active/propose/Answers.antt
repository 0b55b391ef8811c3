use Rattle.std.proofs.Common.{◌∙◌, Err, ap, sym}
use Rattle.group_controller.specs.Acting.{Acting}
use Rattle.group_controller.proofs.Acting.{full_noted, offer_full, offer_joins, proposes}
use Rattle.group_controller.proofs.Settling.{Proposed, Joined, Full, proposed_same, proposed_grows}
use Rattle.group_controller.proofs.active.Active.propose.Goals.{in-Ok, in-Err-LogFull}
use Rattle.group_controller.proofs.active.Active.propose.Goals as goal

pub returns-then-committed-before : goal.returns-then-committed-before
returns-then-committed-before g c = λ kinds setup acts.
    let now = c.args.self.now in
    let at = c.committed-before.ensures ∙ ap (λ (a : Acting _). a.work.state.vr.commit) c.self.view_is in
    let left : Proposed g.A.App.law kinds setup now c.match-offer.self c.args.entry = elim c.match-offer.branch [
      | in-Ok w ↦
          let p = offer_joins now c.offer.new.self c.args.entry c.offer.result _ c.offer.ensures w.in-Ok.is in
          Joined p.0 (proposes g.A.App.law kinds setup now c.match-offer.self c.args.entry p.1.vr p.1.out acts c.requires.leads p.1.valid p.1.did (w.self-is ∙ p.1.takes))
      | in-Err-LogFull w ↦
          let p = offer_full now c.offer.new.self c.args.entry c.offer.result w.in-Err-LogFull.full c.offer.ensures (w.in-Err-LogFull.is ∙ ap (λ f. Err f) w.in-Err-LogFull.field-0-is) in
          Full p.0 (w.self-is ∙ full_noted now c.offer.new.self _ c.args.entry w.in-Err-LogFull.full p.1 p.2 w.note_limit.ensures)
    ] in
    let same = ap (λ (a : Acting _). a.work.state.vr.commit) (sym c.self-2.view_is) ∙ sym c.committed.ensures in
    proposed_same g.A.App.law kinds setup now c.match-offer.self c.args.entry acts left (same ∙ c.if-committed-before.true ∙ at)

pub returns : goal.returns
returns g c = λ kinds setup acts.
    let now = c.args.self.now in
    let at = c.committed-before.ensures ∙ ap (λ (a : Acting _). a.work.state.vr.commit) c.self.view_is in
    let left : Proposed g.A.App.law kinds setup now c.match-offer.self c.args.entry = elim c.match-offer.branch [
      | in-Ok w ↦
          let p = offer_joins now c.offer.new.self c.args.entry c.offer.result _ c.offer.ensures w.in-Ok.is in
          Joined p.0 (proposes g.A.App.law kinds setup now c.match-offer.self c.args.entry p.1.vr p.1.out acts c.requires.leads p.1.valid p.1.did (w.self-is ∙ p.1.takes))
      | in-Err-LogFull w ↦
          let p = offer_full now c.offer.new.self c.args.entry c.offer.result w.in-Err-LogFull.full c.offer.ensures (w.in-Err-LogFull.is ∙ ap (λ f. Err f) w.in-Err-LogFull.field-0-is) in
          Full p.0 (w.self-is ∙ full_noted now c.offer.new.self _ c.args.entry w.in-Err-LogFull.full p.1 p.2 w.note_limit.ensures)
    ] in
    let same = ap (λ (a : Acting _). a.work.state.vr.commit) (sym c.self-2.view_is) ∙ sym c.committed.ensures in
    proposed_grows g.A.App.law kinds setup now c.match-offer.self c.follow.new.self c.args.entry c.committed-before.result left at
    (λ equal. c.if-committed-before.false (sym same ∙ equal ∙ sym at)) (λ acts'. c.in_ok-follow.ensures kinds setup acts')
