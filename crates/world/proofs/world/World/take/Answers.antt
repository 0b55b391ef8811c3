use Rattle.std.proofs.Common.{sym, subst}
use Rattle.std.proofs.lemmas.Result.{err_from_is_err_and}
use Rattle.world.proofs.Applying.{IsRested, applied, none_rests, outbox_stops, rested_keeps, step_halts, step_keeps, unposted}
use Rattle.world.proofs.Turning.{keeps_then, on_ok, post_same, rests_keeps}
use Rattle.world.proofs.world.World.take.Goals as goal
use Rattle.world.proofs.world.World.take.Goals.{then-owes+in_ok-post_late, else-owes}

pub returns-in_err-post_late-clause-keeps : goal.returns-in_err-post_late-clause-keeps
returns-in_err-post_late-clause-keeps g c =
    let law = g.A.App.law in
    let sealing = g.B.Body.sealing in
    let first = post_same sealing.size c.args.self.now c.post_late.new.self c.post_late.result _ c.post_late.ensures.posts c.post_late.ensures.stops in
    rests_keeps law g.W.Stable.saving sealing c.args.self.now c.post_late.new.self c.args.stables.now first.0 first.1 c.post_late.ensures.holds c.requires.pairs

pub returns-in_err-post_late-clause-stops : goal.returns-in_err-post_late-clause-stops
returns-in_err-post_late-clause-stops g c =
    let p = err_from_is_err_and c.from_residual.result c.from_residual.ensures.1 in
    rw (p.1, p.2) (unposted g.B.Body.sealing.size c.args.turn c.args.self.now c.post_late.new.self c.in_err-post_late.field-0.0 c.in_err-post_late.ensures.stops)

pub step-requires-clause-holds : goal.step-requires-clause-holds
step-requires-clause-holds g c =
    let law = g.A.App.law in
    let sealing = g.B.Body.sealing in
    let rested : IsRested law sealing c.args.self.now c.if-owes.self = elim c.if-owes.branch [
      | then-owes+in_ok-post_late w ↦ subst (λ z. IsRested law sealing c.args.self.now z) (sym w.self-is) (record { posted = w.in_ok-post_late.ensures.posts; holds = w.post_late.ensures.holds })
      | else-owes w ↦ none_rests law sealing c.args.self.now c.if-owes.self (c.owes.ensures w.if-owes.false) w.self-is
    ] in
    (c.requires.holds.0, rested.holds c.requires.holds.0 c.requires.holds.1)

pub returns-in_err-step-clause-keeps : goal.returns-in_err-step-clause-keeps
returns-in_err-step-clause-keeps g c =
    let law = g.A.App.law in
    let sealing = g.B.Body.sealing in
    let rested : IsRested law sealing c.args.self.now c.if-owes.self = elim c.if-owes.branch [
      | then-owes+in_ok-post_late w ↦ subst (λ z. IsRested law sealing c.args.self.now z) (sym w.self-is) (record { posted = w.in_ok-post_late.ensures.posts; holds = w.post_late.ensures.holds })
      | else-owes w ↦ none_rests law sealing c.args.self.now c.if-owes.self (c.owes.ensures w.if-owes.false) w.self-is
    ] in
    let posted = rested_keeps law g.W.Stable.saving sealing c.args.self.now c.if-owes.self c.args.stables.now rested c.requires.pairs in
    step_keeps law g.W.Stable.saving sealing c.args.turn c.args.self.now c.if-owes.self c.step.new.self c.args.stables.now c.step.new.stables posted c.in_err-step.ensures.stops

pub returns-in_err-step-clause-stops : goal.returns-in_err-step-clause-stops
returns-in_err-step-clause-stops g c =
    let law = g.A.App.law in
    let sealing = g.B.Body.sealing in
    let rested : IsRested law sealing c.args.self.now c.if-owes.self = elim c.if-owes.branch [
      | then-owes+in_ok-post_late w ↦ subst (λ z. IsRested law sealing c.args.self.now z) (sym w.self-is) (record { posted = w.in_ok-post_late.ensures.posts; holds = w.post_late.ensures.holds })
      | else-owes w ↦ none_rests law sealing c.args.self.now c.if-owes.self (c.owes.ensures w.if-owes.false) w.self-is
    ] in
    let p = err_from_is_err_and c.from_residual-in_err-step.result c.from_residual-in_err-step.ensures.1 in
    rw (p.1, p.2) (step_halts law g.W.Stable.saving sealing c.args.turn c.args.self.now c.if-owes.self c.step.new.self c.args.stables.now c.step.new.stables rested.posted c.in_err-step.ensures.stops)

pub returns-clause-applies : goal.returns-clause-applies
returns-clause-applies g c =
    let law = g.A.App.law in
    let sealing = g.B.Body.sealing in
    let rested : IsRested law sealing c.args.self.now c.if-owes.self = elim c.if-owes.branch [
      | then-owes+in_ok-post_late w ↦ subst (λ z. IsRested law sealing c.args.self.now z) (sym w.self-is) (record { posted = w.in_ok-post_late.ensures.posts; holds = w.post_late.ensures.holds })
      | else-owes w ↦ none_rests law sealing c.args.self.now c.if-owes.self (c.owes.ensures w.if-owes.false) w.self-is
    ] in
    on_ok c.post_owed.result _ _ (λ is. applied law g.W.Stable.saving sealing c.args.turn c.args.self.now c.if-owes.self c.step.new.self c.post_owed.new.self c.args.stables.now c.step.new.stables
    rested.posted c.in_ok-step.ensures.steps is) c.post_owed.ensures.posts

pub returns-clause-keeps : goal.returns-clause-keeps
returns-clause-keeps g c =
    let law = g.A.App.law in
    let sealing = g.B.Body.sealing in
    let rested : IsRested law sealing c.args.self.now c.if-owes.self = elim c.if-owes.branch [
      | then-owes+in_ok-post_late w ↦ subst (λ z. IsRested law sealing c.args.self.now z) (sym w.self-is) (record { posted = w.in_ok-post_late.ensures.posts; holds = w.post_late.ensures.holds })
      | else-owes w ↦ none_rests law sealing c.args.self.now c.if-owes.self (c.owes.ensures w.if-owes.false) w.self-is
    ] in
    let last = post_same sealing.size c.step.new.self c.post_owed.new.self c.post_owed.result _ c.post_owed.ensures.posts c.post_owed.ensures.stops in
    let posted = rested_keeps law g.W.Stable.saving sealing c.args.self.now c.if-owes.self c.args.stables.now rested c.requires.pairs in
    let stepped = c.in_ok-step.ensures.steps.keeps in
    let ended = rests_keeps law g.W.Stable.saving sealing c.step.new.self c.post_owed.new.self c.step.new.stables last.0 last.1 c.post_owed.ensures.holds stepped.pairs in
    keeps_then law g.W.Stable.saving sealing _ _ _ _ _ _ posted (keeps_then law g.W.Stable.saving sealing _ _ _ _ _ _ stepped ended)

pub returns-clause-stops : goal.returns-clause-stops
returns-clause-stops g c =
    let law = g.A.App.law in
    let sealing = g.B.Body.sealing in
    let rested : IsRested law sealing c.args.self.now c.if-owes.self = elim c.if-owes.branch [
      | then-owes+in_ok-post_late w ↦ subst (λ z. IsRested law sealing c.args.self.now z) (sym w.self-is) (record { posted = w.in_ok-post_late.ensures.posts; holds = w.post_late.ensures.holds })
      | else-owes w ↦ none_rests law sealing c.args.self.now c.if-owes.self (c.owes.ensures w.if-owes.false) w.self-is
    ] in
    outbox_stops law g.W.Stable.saving sealing c.args.turn c.args.self.now c.if-owes.self c.step.new.self c.post_owed.new.self c.args.stables.now c.step.new.stables
    rested.posted c.in_ok-step.ensures.steps c.post_owed.result c.post_owed.ensures.stops
