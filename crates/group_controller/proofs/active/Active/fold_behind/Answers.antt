use Rattle.std.proofs.Common.{◌≡◌, ◌++◌, ◌∙◌, ℕ, List, true, subst, sym, ap, arith, take, drop, refl}
use Rattle.std.proofs.lemmas.Result.{IfOk-weaker}
use Rattle.vr_log.specs.declared.entry.Entry.{Entry}
use Rattle.vr_log.specs.Log.{follows}
use Rattle.dispatcher.specs.Ledger.{AreHandledAt, StandsFor}
use Rattle.dispatcher.specs.Folding.{places_processed}
use Rattle.group_controller.specs.Acting.{ActsUpTo}
use Rattle.dispatcher.specs.Few.{values_in}
use Rattle.group_controller.proofs.Answering.{part_follows, parts_join}
use Rattle.group_controller.proofs.active.Active.fold_behind.Goals as goal

pub returns-clause-folds : goal.returns-clause-folds
returns-clause-folds g c = λ kinds setup acts.
    let inside : ActsUpTo g.A.App.law c.args.before _ kinds setup =
    subst (λ a. ActsUpTo g.A.App.law c.args.before a kinds setup) (sym c.self.view_is) acts in
    let log = c.self.inside.replica.log in
    let commit = c.self.inside.replica.commit in
    let entries : List Entry = c.committed_behind-entries.result.now in
    let is : entries ≡ drop c.args.before (take commit log) =
    c.committed_behind-entries.ensures
    ∙ ap (λ (n : ℕ). drop c.args.before (take n c.log.result.now)) c.committed-committed.ensures
    ∙ ap (λ (l : List Entry). drop c.args.before (take commit l)) c.log.ensures in
    let joined = parts_join c.args.before commit log inside.reach in
    let folded = c.fold_new.ensures.folds kinds setup (take c.args.before log) inside.stands
    (subst (λ (l : List Entry). follows (take c.args.before log) l ≡ true) (sym is) (part_follows c.args.before commit log inside.reach inside.valid.log.follow)) in
    IfOk-weaker c.fold_new.result _ _
    (λ handled p. (
      subst (λ (l : List Entry). AreHandledAt kinds setup l (places_processed (drop c.args.before (take commit log))) (values_in handled)) joined
          (subst (λ (l : List Entry). AreHandledAt kinds setup (take c.args.before log ++ l) (places_processed l) (values_in handled)) is p.0),
      record {
        valid = inside.valid;
        own = inside.own;
        reach = omega arith;
        stands = subst (λ (l : List Entry). StandsFor g.A.App.law c.fold_new.new.dispatcher kinds setup l) joined
            (subst (λ (l : List Entry). StandsFor g.A.App.law c.fold_new.new.dispatcher kinds setup (take c.args.before log ++ l)) is p.1);
        marks = refl;
        saves = refl;
      },
    ))
    folded
