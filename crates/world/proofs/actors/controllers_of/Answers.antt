use Rattle.std.proofs.Common.{◌≡◌, ℕ, List, sym, ap, subst, arith, length}
use Rattle.world.proofs.Yielding.{some_step, none_step}
use Rattle.world.specs.World.{AreNew, AreStocked}
use Rattle.world.proofs.Shelves.{none_new, one_new}
use Rattle.world.proofs.actors.controllers_of.Goals as goal

pub loop-lives-init : goal.loop-lives-init
loop-lives-init g c =
    let same = c.into_iter-lives-iterator.ensures.into_iter_gives.0 in
    record {
      new = λ kinds stocked. (
        none_new g.A.App.law c.args.setup.now kinds c.new-controllers.result.items c.new-controllers.ensures.items,
        subst (λ (l : List _). AreStocked g.A.App.law kinds l) (sym same) stocked,
      );
      left = let long = ap length same in let each = c.requires.each in omega (arith, long, each);
    }

pub controller_of-requires-clause-stocked : goal.controller_of-requires-clause-stocked
controller_of-requires-clause-stocked g c =
    let kinds = c.requires.stocked.0 in
    let rest = (c.loop-lives.invariant.new kinds c.requires.stocked.1).1 in
    (kinds, (subst (λ (l : List _). AreStocked g.A.App.law kinds l) (some_step _ _ _ _ c.in-Some.is c.next.ensures.steps).0 rest).0)

pub loop-lives-preserved : goal.loop-lives-preserved
loop-lives-preserved g c =
    let step = (some_step _ _ _ _ c.in-Some.is c.next.ensures.steps).0 in
    record {
      new = λ kinds stocked.
          let h = c.loop-lives.invariant.new kinds stocked in
          let rest = subst (λ (l : List _). AreStocked g.A.App.law kinds l) step h.1 in (
            one_new g.A.App.law c.args.setup.now kinds c.loop-lives.number c.loop-lives.controllers.items c.push.new.self.items c.in_ok-controller_of.field-0
                h.0 (c.in_ok-controller_of.ensures kinds rest.0) c.in_ok-push.ensures.items,
            rest.1,
          );
      left = let long = ap length step in let before = c.loop-lives.invariant.left in omega (arith, long, before);
    }

pub returns : goal.returns
returns g c = λ kinds stocked.
    let empty = (none_step _ _ _ c.in-None.is c.next.ensures.steps).0 in
    let long = c.loop-lives.lives-iterator.rest.ok.0 in
    let left = c.loop-lives.invariant.left in
    let all : c.loop-lives.number ≡ c.args.setup.now.controllers = omega (arith, empty, long, left) in
    subst (λ (n : ℕ). AreNew g.A.App.law c.args.setup.now kinds n c.loop-lives.controllers.items) all (c.loop-lives.invariant.new kinds stocked).0
