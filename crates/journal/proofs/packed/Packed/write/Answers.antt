use Rattle.std.proofs.Common.{◌≡◌, Ok, [], ◌∷◌, ◌++◌, length, map, take, sym, subst, ap, ◌∙◌, refl}
use Rattle.list_facts.proofs.Prefixes.{prefix_front, prefix_length}
use Rattle.std.specs.Fn.{FnOnceReturnsAtMut}
use Rattle.journal.specs.declared.packed.Slip.{Slip}
use Rattle.journal.specs.Mailbags.{letter_of, ShareWithin}
use Rattle.journal.proofs.Packing.{letters_kept, one_more, within_one}
use Rattle.journal.proofs.Results.{err_given}
use Rattle.journal.proofs.packed.Packed.write.Goals as goal

pub returns-in_err-push-clause-err : goal.returns-in_err-push-clause-err
returns-in_err-push-clause-err g c =
    let before = c.self.inside.bytes in
    let new = c.store_body.new.bytes in
    let slips = c.self.inside.slips.items in
    err_given c.from_residual-in_err-push.result
    (ap (map (letter_of new)) c.in_err-push.ensures.items
    ∙ letters_kept before new slips (sym (prefix_front c.store_body.ensures.behind)) c.self.invariant
    ∙ c.self.view_is)

pub invariant_of-self-2 : goal.invariant_of-self-2
invariant_of-self-2 g c =
    let before = c.self.inside.bytes in
    let new = c.store_body.new.bytes in
    let slip : Slip = record { to = c.args.to; body = c.in_ok-body.body } in
    subst (ShareWithin (length new)) (sym c.in_ok-push.ensures.items)
    (within_one (length before) (length new) c.self.inside.slips.items slip (prefix_length c.store_body.ensures.behind) c.self.invariant c.in_ok-body.ensures.within)

pub returns-clause-ok : goal.returns-clause-ok
returns-clause-ok g c =
    let before = c.self.inside.bytes in
    let new = c.store_body.new.bytes in
    let body = c.put.new.arg2 in
    let slips = c.self.inside.slips.items in
    let slip : Slip = record { to = c.args.to; body = c.in_ok-body.body } in
    let told : FnOnceReturnsAtMut g.F.FnOnce c.args.put c.clear.new.self c.put.result body = record { shown = _; shows = refl; left = _; met = c.put.ensures; leaves = refl } in
    let gave = subst (λ r. FnOnceReturnsAtMut g.F.FnOnce c.args.put c.clear.new.self r body) c.in_ok-put.was told in
    record {
      body = body;
      puts = subst (λ b. FnOnceReturnsAtMut g.F.FnOnce c.args.put b (Ok tt) body) c.clear.ensures gave;
      adds =
          ap (map (letter_of new)) c.in_ok-push.ensures.items
          ∙ one_more before new body slips slip (sym (prefix_front c.store_body.ensures.behind)) c.self.invariant (c.in_ok-body.ensures.body ∙ c.as_slice.ensures)
          ∙ ap (λ ls. ls ++ record { to = c.args.to; body = body } ∷ []) c.self.view_is;
    }
