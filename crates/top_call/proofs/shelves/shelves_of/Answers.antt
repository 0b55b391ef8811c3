use Rattle.std.proofs.Common.{◌≡◌, ◌≤◌, ◌<◌, ◌+◌, List, [], ◌∷◌, length, sym, ◌∙◌, ap, subst, arith}
use Rattle.std.specs.List.{AllByRecursion}
use Rattle.group_controller.specs.Turns.{AreAlike}
use Rattle.journal.proofs.All.{all_append}
use Rattle.world.proofs.Yielding.{some_step, none_step}
use Rattle.world.specs.World.{IsStocked}
use Rattle.top_call.proofs.Shelving.{IsFilled, alike_push, all_full, long_push, none_filled, not_full, passed, put, put_last}
use Rattle.top_call.proofs.shelves.shelves_of.Goals as goal

pub shelving-init : goal.shelving-init
shelving-init g c =
    let same = c.into_iter-chain-iterator.ensures.into_iter_gives.0 in
    record {
      filled = rw (c.new-shelves.ensures.items, c.new-shelf.ensures.items) (none_filled c.args.controllers (length c.into_iter-chain-iterator.result.rest.items) c.requires.few (ap length same ∙ c.requires.chains.1.count));
      alike = λ kinds chains. (
        subst (λ (l : List _). AllByRecursion (λ shelf. IsStocked g.A.App.law kinds shelf.items) l) (sym c.new-shelves.ensures.items) tt,
        subst (λ (l : List _). AreAlike g.A.App.law kinds l) (sym c.new-shelf.ensures.items) tt,
        subst (λ (l : List _). AreAlike g.A.App.law kinds l) (sym same) chains.alike,
      );
    }

pub shelving-preserved : goal.shelving-preserved
shelving-preserved g c =
    let step = (some_step _ _ _ _ c.in-Some.is c.next.ensures.steps).0 in
    let shelves = length c.shelving.shelves.items in
    let shelf = length c.shelving.shelf.items in
    let rest = length c.next.new.self.rest.items in
    let one : length c.shelving.chain-iterator.rest.items ≡ rest + 1 = let long = ap length step in omega (arith, long) in
    let over : c.args.controllers ≤ shelves = let test = c.if-len-from.false in let a = c.from.ensures in let b : c.len.result ≡ shelves = c.len.ensures ∙ c.shelving.shelves.ok.0 in omega (arith, test, a, b) in
    record {
      filled = passed c.args.controllers shelves shelf rest (subst (λ n. IsFilled c.args.controllers shelves shelf n) one c.shelving.invariant.filled) over;
      alike = λ kinds chains.
          let h = c.shelving.invariant.alike kinds chains in
          (h.0, h.1, (subst (λ (l : List _). AreAlike g.A.App.law kinds l) step h.2).1);
    }

pub shelving-preserved-then-len-eq-LIVES : goal.shelving-preserved-then-len-eq-LIVES
shelving-preserved-then-len-eq-LIVES g c =
    let step = (some_step _ _ _ _ c.in-Some.is c.next.ensures.steps).0 in
    let shelves = length c.shelving.shelves.items in
    let shelf = length c.shelving.shelf.items in
    let rest = length c.next.new.self.rest.items in
    let one : length c.shelving.chain-iterator.rest.items ≡ rest + 1 = let long = ap length step in omega (arith, long) in
    let less : shelves < c.args.controllers = let test = c.if-len-from.true in let a = c.from.ensures in let b : c.len.result ≡ shelves = c.len.ensures ∙ c.shelving.shelves.ok.0 in omega (arith, test, a, b) in
    let pushed = long_push c.shelving.shelf.items c.push.new.self.items c.in-Some.chain c.in_ok-push.ensures.items in
    let before = subst (λ n. IsFilled c.args.controllers shelves shelf n) one c.shelving.invariant.filled in
    let more = long_push c.shelving.shelves.items c.push-then-len-eq-LIVES.new.self.items c.push.new.self c.in_ok-push-2.ensures.items in
    let full : length c.push.new.self.items ≡ 16 = sym (c.len-then-len-from.ensures ∙ c.push.new.self.ok.0) ∙ c.if-len-eq-LIVES.true in
    record {
      filled = rw (c.new-shelf-then-len-eq-LIVES.ensures.items, more) (put_last c.args.controllers shelves shelf rest before less (sym pushed ∙ full));
      alike = λ kinds chains.
          let h = c.shelving.invariant.alike kinds chains in
          let next = subst (λ (l : List _). AreAlike g.A.App.law kinds l) step h.2 in
          let all = alike_push g.A.App.law kinds c.shelving.shelf.items c.push.new.self.items c.in-Some.chain c.in_ok-push.ensures.items h.1 next.0 in (
            subst (λ (l : List _). AllByRecursion (λ shelf. IsStocked g.A.App.law kinds shelf.items) l) (sym c.in_ok-push-2.ensures.items)
                (all_append (λ shelf. IsStocked g.A.App.law kinds shelf.items) c.shelving.shelves.items (c.push.new.self ∷ []) h.0 (record { some = omega (arith, full); alike = all }, tt)),
            subst (λ (l : List _). AreAlike g.A.App.law kinds l) (sym c.new-shelf-then-len-eq-LIVES.ensures.items) tt,
            next.1,
          );
    }

pub shelving-preserved-else-len-eq-LIVES : goal.shelving-preserved-else-len-eq-LIVES
shelving-preserved-else-len-eq-LIVES g c =
    let step = (some_step _ _ _ _ c.in-Some.is c.next.ensures.steps).0 in
    let shelves = length c.shelving.shelves.items in
    let shelf = length c.shelving.shelf.items in
    let rest = length c.next.new.self.rest.items in
    let one : length c.shelving.chain-iterator.rest.items ≡ rest + 1 = let long = ap length step in omega (arith, long) in
    let less : shelves < c.args.controllers = let test = c.if-len-from.true in let a = c.from.ensures in let b : c.len.result ≡ shelves = c.len.ensures ∙ c.shelving.shelves.ok.0 in omega (arith, test, a, b) in
    let pushed = long_push c.shelving.shelf.items c.push.new.self.items c.in-Some.chain c.in_ok-push.ensures.items in
    let before = subst (λ n. IsFilled c.args.controllers shelves shelf n) one c.shelving.invariant.filled in
    let few : shelf + 1 < 16 = not_full shelf (λ full. c.if-len-eq-LIVES.false (c.len-then-len-from.ensures ∙ c.push.new.self.ok.0 ∙ pushed ∙ full)) before in
    record {
      filled = rw pushed (put c.args.controllers shelves shelf rest before less few);
      alike = λ kinds chains.
          let h = c.shelving.invariant.alike kinds chains in
          let next = subst (λ (l : List _). AreAlike g.A.App.law kinds l) step h.2 in
          (h.0, alike_push g.A.App.law kinds c.shelving.shelf.items c.push.new.self.items c.in-Some.chain c.in_ok-push.ensures.items h.1 next.0, next.1);
    }

pub returns-clause-each : goal.returns-clause-each
returns-clause-each g c =
    let empty = (none_step _ _ _ c.in-None.is c.next.ensures.steps).0 in
    let long = c.shelving.chain-iterator.rest.ok.0 in
    all_full c.args.controllers (length c.shelving.shelves.items) (length c.shelving.shelf.items) (length c.shelving.chain-iterator.rest.items) c.shelving.invariant.filled (omega (arith, empty, long))

pub returns-clause-stocked : goal.returns-clause-stocked
returns-clause-stocked g c = λ kinds chains. (c.shelving.invariant.alike kinds chains).0
