use Rattle.std.proofs.Common.{◌≡◌, ◌++◌, ◌∙◌, ℕ, List, true, subst, sym, ap, arith, take, drop, refl}
use Rattle.std.proofs.lemmas.Result.{on_ok_weaker}
use Rattle.vr_log.specs.declared.entry.Entry.{Entry}
use Rattle.vr_log.specs.Log.{follows}
use Rattle.dispatcher.specs.Ledger.{StandsFor}
use Rattle.group_controller.specs.Acting.{ActsUpTo}
use Rattle.group_controller.proofs.Answering.{part_follows, parts_join}
use Rattle.group_controller.proofs.active.Active.fold_unanswered.Goals as goal

pub returns-clause-folds : goal.returns-clause-folds
returns-clause-folds g c = λ kinds setup acts.
    let inside : ActsUpTo g.A.App.law c.args.before _ kinds setup =
    subst (λ a. ActsUpTo g.A.App.law c.args.before a kinds setup) (sym c.self.view_is) acts in
    let log = c.self.inside.replica.log in
    let commit = c.self.inside.replica.commit in
    let entries : List Entry = c.committed_behind-behind.result.now in
    let is : entries ≡ drop c.args.before (take commit log) =
    c.committed_behind-behind.ensures
    ∙ ap (λ (n : ℕ). drop c.args.before (take n c.log.result.now)) c.committed-committed.ensures
    ∙ ap (λ (l : List Entry). drop c.args.before (take commit l)) c.log.ensures in
    let joined = parts_join c.args.before commit log inside.reach in
    let folded = c.fold_all.ensures.folds kinds setup (take c.args.before log) inside.stands
    (subst (λ (l : List Entry). follows (take c.args.before log) l ≡ true) (sym is) (part_follows c.args.before commit log inside.reach inside.valid.log.follow)) in
    on_ok_weaker c.fold_all.result
    (λ stands. record {
      valid = inside.valid;
      own = inside.own;
      reach = omega arith;
      stands = subst (λ (l : List Entry). StandsFor g.A.App.law c.fold_all.new.self kinds setup l) joined
          (subst (λ (l : List Entry). StandsFor g.A.App.law c.fold_all.new.self kinds setup (take c.args.before log ++ l)) is stands);
      marks = refl;
      saves = refl;
    })
    folded
