use Rattle.std.proofs.Common.{rules, ◌≡◌, ◌≤◌, ◌+◌, ◌∷◌, [], ◌++◌, ap, subst, sym, ◌∙◌}
use Rattle.std.specs.Prelude.{box_value, option_map, Some}
use Rattle.journal.specs.Stables.{standing}
use Rattle.app_core.specs.Chain.{given_by, starting_chain}
use Rattle.dispatcher.specs.Ledger.{most_commands}
use Rattle.group_controller.specs.Acting.{Acting}
use Rattle.group_controller.specs.Turns.{AreAlike, Controlling, PutsBack, Saves}
use Rattle.group_controller.proofs.Controlling.{born_fresh, controls_back, may_have_taken, has_taken, on_any_err, pushed_alike, puts_back, restart_kept_new, restart_saved, restart_takes, takes_kept_new, takes_kept_old, takes_saved}
use Rattle.group_controller.proofs.controller.Controller.restart.Goals as goal

pub returns-in-KeptNew-clause-turn : goal.returns-in-KeptNew-clause-turn
returns-in-KeptNew-clause-turn g c = λ kinds controls.
    let life = c.self.inside.life + 1 in
    let mid = c.born.new.self in
    let r = c.in_ok-save.field-0 in
    let saves = subst (λ (x : Controlling _). Saves r (x.promise, life) (g.W.Stable.saving.pair c.args.stable.now) (g.W.Stable.saving.pair c.save-2.new.stable) (g.W.Stable.saving.faults c.args.stable.now) (g.W.Stable.saving.faults c.save-2.new.stable)) c.save.view_is c.in_ok-save.ensures.saves in
    let left = c.in_ok-save.ensures.left
    ∙ ap (λ (x : Controlling _). record mid { promise = (standing r (x.promise, life) (mid.promise, mid.life)).0; life = (standing r (x.promise, life) (mid.promise, mid.life)).1; results = mid.results ++ r ∷ [] }) c.save.view_is in
    restart_kept_new g.A.App.law kinds c.args.self.now mid c.save-2.new.self life r (g.W.Stable.saving.pair c.args.stable.now) (g.W.Stable.saving.pair c.save-2.new.stable) (g.W.Stable.saving.faults c.args.stable.now) (g.W.Stable.saving.faults c.save-2.new.stable)
    c.requires.down (search rules) (ap (λ (x : Controlling _). x.life + 1) c.self.view_is) c.in_ok-active.ensures.shelf c.in-KeptNew.is saves left

pub returns-in-KeptOld-clause-controls : goal.returns-in-KeptOld-clause-controls
returns-in-KeptOld-clause-controls g c = λ kinds controls.
    let born = c.in_ok-active.ensures.born kinds controls in
    let alike = c.in_ok-active.ensures.alike kinds controls in
    let mid_is = c.in_ok-active.ensures.shelf in
    let after_is = c.self-2.view_is ∙ c.in_ok-save.ensures.left in
    let before = subst (λ (x : Controlling _). AreAlike g.A.App.law kinds x.shelf) (sym after_is) alike in
    let app_is = c.into_app.ensures ∙ ap (λ (a : Acting _). a.dispatcher.app) c.into_inner.ensures in
    let kind = ap g.A.App.law.kinds app_is ∙ born.acts.stands.kind in
    let few = subst (λ a. given_by (g.A.App.law.kinds a) ≤ most_commands) (sym app_is) born.acts.stands.few in
    let i = c.self-2.inside in
    let after : Controlling _ = record { setup = i.setup; me = i.me; promise = i.promise; life = i.life; acting = option_map box_value i.active; shelf = i.shelf.items; results = i.results.items } in
    controls_back g.A.App.law kinds c.args.self.now after c.push.new.self.items controls
    (ap (λ (x : Controlling _). x.setup) after_is ∙ ap (λ (x : Controlling _). x.setup) mid_is)
    (ap (λ (x : Controlling _). x.me) after_is ∙ ap (λ (x : Controlling _). x.me) mid_is)
    (ap (λ (x : Controlling _). x.acting) after_is ∙ ap (λ (x : Controlling _). x.acting) mid_is ∙ c.requires.down)
    (pushed_alike g.A.App.law kinds _ _ c.push.new.self.items c.into_app.result before kind few c.push.ensures.items)

pub returns-in-Saved-clause-turn : goal.returns-in-Saved-clause-turn
returns-in-Saved-clause-turn g c = λ kinds controls.
    let life = c.self.inside.life + 1 in
    let r = c.in_ok-save.field-0 in
    let born = c.in_ok-active.active.value in
    let i = c.self-2.inside in
    let new : Controlling _ = record { setup = i.setup; me = i.me; promise = i.promise; life = i.life; acting = Some born; shelf = i.shelf.items; results = i.results.items } in
    let saves = subst (λ (x : Controlling _). Saves r (x.promise, life) (g.W.Stable.saving.pair c.args.stable.now) (g.W.Stable.saving.pair c.save-2.new.stable) (g.W.Stable.saving.faults c.args.stable.now) (g.W.Stable.saving.faults c.save-2.new.stable)) c.save.view_is c.in_ok-save.ensures.saves in
    restart_saved g.A.App.law kinds c.args.self.now c.born.new.self c.save-2.new.self new born life r (g.W.Stable.saving.pair c.args.stable.now) (g.W.Stable.saving.pair c.save-2.new.stable) (g.W.Stable.saving.faults c.args.stable.now) (g.W.Stable.saving.faults c.save-2.new.stable)
    c.requires.down (search rules) (ap (λ (x : Controlling _). x.life + 1) c.self.view_is) c.in_ok-active.ensures.shelf c.in-Saved.is saves (c.in_ok-active.ensures.born kinds controls)
    (ap (λ (x : Controlling _). x.results) c.in_ok-save.ensures.left) (ap (λ (x : Controlling _). record x { acting = Some born }) c.self-2.view_is)

pub returns-in-Saved-clause-shelf : goal.returns-in-Saved-clause-shelf
returns-in-Saved-clause-shelf g c =
    let r = c.in_ok-save.field-0 in
    let i = c.self-2.inside in
    let new : Controlling _ = record { setup = i.setup; me = i.me; promise = i.promise; life = i.life; acting = Some c.in_ok-active.active.value; shelf = i.shelf.items; results = i.results.items } in
    let left = c.self-2.view_is ∙ c.in_ok-save.ensures.left in
    restart_takes g.A.App.law c.args.self.now c.born.new.self new r (search rules) c.in_ok-active.ensures.shelf (ap (λ (x : Controlling _). x.results) left)
    (takes_saved g.A.App.law r c.args.self.now.shelf c.born.new.self.shelf new.shelf c.in-Saved.is c.in_ok-active.ensures.takes (ap (λ (x : Controlling _). x.shelf) left))

pub returns-in-KeptNew-clause-shelf : goal.returns-in-KeptNew-clause-shelf
returns-in-KeptNew-clause-shelf g c =
    let r = c.in_ok-save.field-0 in
    restart_takes g.A.App.law c.args.self.now c.born.new.self c.save-2.new.self r (search rules) c.in_ok-active.ensures.shelf
    (ap (λ (x : Controlling _). x.results) c.in_ok-save.ensures.left)
    (takes_kept_new g.A.App.law r c.args.self.now.shelf c.born.new.self.shelf c.save-2.new.self.shelf c.in-KeptNew.is c.in_ok-active.ensures.takes
    (ap (λ (x : Controlling _). x.shelf) c.in_ok-save.ensures.left))

pub returns-in_err-active-clause-lost : goal.returns-in_err-active-clause-lost
returns-in_err-active-clause-lost g c = on_any_err _ _ (may_have_taken c.args.self.now c.born.new.self (search rules) c.in_err-active.ensures.lost)

pub returns-in_err-save-clause-lost : goal.returns-in_err-save-clause-lost
returns-in_err-save-clause-lost g c = on_any_err _ _ (has_taken c.args.self.now c.born.new.self c.save-2.new.self (search rules) c.in_ok-active.ensures.takes c.in_err-save.ensures.wants.0)

pub returns-in-KeptOld-clause-shelf : goal.returns-in-KeptOld-clause-shelf
returns-in-KeptOld-clause-shelf g c =
    let r = c.in_ok-save.field-0 in
    let i = c.self-2.inside in
    let left : Controlling _ = record { setup = i.setup; me = i.me; promise = i.promise; life = i.life; acting = option_map box_value i.active; shelf = c.push.new.self.items; results = i.results.items } in
    let after_is = c.self-2.view_is ∙ c.in_ok-save.ensures.left in
    let born = c.in_ok-active.ensures.born c.requires.controls.0 c.requires.controls.1 in
    let app_is = c.into_app.ensures ∙ ap (λ (a : Acting _). a.dispatcher.app) c.into_inner.ensures in
    let fresh = subst (λ a. g.A.App.law.states a ≡ starting_chain (g.A.App.law.kinds a)) (sym app_is) (born_fresh g.A.App.law c.args.self.now c.requires.controls.0 _ c.in_ok-active.active.value born) in
    restart_takes g.A.App.law c.args.self.now c.born.new.self left r (search rules) c.in_ok-active.ensures.shelf (ap (λ (x : Controlling _). x.results) after_is)
    (takes_kept_old g.A.App.law r c.args.self.now.shelf c.born.new.self.shelf left.shelf c.in-KeptOld.is c.in_ok-active.ensures.takes
    (subst (λ l. PutsBack g.A.App.law l left.shelf) (ap (λ (x : Controlling _). x.shelf) after_is) (puts_back g.A.App.law _ i.shelf.items left.shelf c.into_app.result fresh c.push.ensures.items)))
