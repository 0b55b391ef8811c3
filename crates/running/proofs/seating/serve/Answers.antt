use Rattle.std.proofs.Common.{◌++◌, ◌∷◌, [], length, rules, sym, ◌∙◌, ap, arith, length-append}
use Rattle.std.specs.Prelude.{option_to_list}
use Rattle.std.specs.Vec.Iter.{into_iter_items}
use Rattle.running.proofs.Lists.{drop_next, served_next}
use Rattle.running.proofs.seating.serve.Goals as goal

pub loop-controller-preserved : goal.loop-controller-preserved
loop-controller-preserved g c =
    let left = ap (λ o. option_to_list o ++ into_iter_items c.next-in-loop-controller.new.self) (sym c.in-Some-next.is) ∙ sym c.next-in-loop-controller.ensures.items ∙ c.loop-controller.invariant.stables in
    let one = ap (λ o. length (option_to_list o)) c.in-Some-next.is in
    let its = c.next-in-loop-controller.ensures.len in
    let more = length-append c.loop-controller.yielded (c.in-Some.controller ∷ []) in
    let left_before = c.loop-controller.invariant.left in
    let long_before = c.loop-controller.invariant.long in
    let pushed = c.push_reserved.ensures.len in
    record {
      beside = c.push_reserved.ensures.items ∙ ap (λ l. l ++ record { controller = c.in-Some.controller; stable = c.in-Some-next.stable } ∷ []) c.loop-controller.invariant.beside
          ∙ served_next c.args.beside.now.items (into_iter_items c.args.stables.now) (into_iter_items c.next-in-loop-controller.new.self) c.loop-controller.yielded c.in-Some-next.stable c.in-Some.controller left;
      stables = drop_next c.loop-controller.yielded (into_iter_items c.args.stables.now) (into_iter_items c.next-in-loop-controller.new.self) c.in-Some.controller c.in-Some-next.stable left;
      left = omega (arith, one, its, more, left_before);
      long = omega (arith, more, long_before, pushed);
      capacity = search rules;
    }
