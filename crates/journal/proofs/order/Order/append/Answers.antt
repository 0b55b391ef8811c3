use Rattle.std.proofs.Common.{◌≡◌, ◌≤◌, ◌-◌, ◌++◌, None, length, map, take, replicate, subst, sym, ap, ◌∙◌, arith}
use Rattle.std.specs.Prelude.{Some}
use Rattle.journal.specs.Order.{HaveNumbersBelow, IsLowest, addressed, awaited}
use Rattle.journal.proofs.Slots.{clear_resized, kept_resized, letters_wait, long_resized, lowest_letters}
use Rattle.journal.proofs.Results.{err_given}
use Rattle.journal.proofs.order.Order.append.Goals as goal

pub lowest_from-self-inside-requires : goal.lowest_from-self-inside-requires
lowest_from-self-inside-requires g c =
    let slots = c.self.inside.slots in
    let low : c.min.result ≤ c.self.inside.lowest = omega (arith, c.min.ensures) in
    let under : c.min.result ≤ c.args.number = omega (arith, c.min.ensures) in
    rw (c.as_slice.ensures.value, c.in_ok-resize.ensures.items)
    (clear_resized c.min.result c.self.inside.lowest c.args.number slots.items (replicate (c.args.number - slots.len) None) low under c.self.invariant)

pub returns-in_err-reserve-clause-err : goal.returns-in_err-reserve-clause-err
returns-in_err-reserve-clause-err g c =
    let slots = c.self.inside.slots in
    let below = subst (HaveNumbersBelow c.args.number) (sym c.self.view_is) c.requires.above in
    err_given c.from_residual-in_err-reserve.result
    (ap (awaited 0) c.in_err-reserve.ensures.items
    ∙ ap (awaited 0) c.in_ok-resize.ensures.items
    ∙ kept_resized c.args.number (c.args.number - slots.len) slots.items below
    ∙ c.self.view_is)

pub invariant_of-self-2 : goal.invariant_of-self-2
invariant_of-self-2 g c =
    let lowest = c.lowest_from-self-inside.result in
    let is : IsLowest lowest c.resize.new.self.items = subst (IsLowest lowest) c.as_slice.ensures.value c.lowest_from-self-inside.ensures in
    rw (c.push_each.ensures, c.in_ok-reserve.ensures.items) (lowest_letters lowest c.resize.new.self.items (take c.args.count c.args.letters.now) is)

pub returns-clause-ok : goal.returns-clause-ok
returns-clause-ok g c =
    let slots = c.self.inside.slots in
    let letters = take c.args.count c.args.letters.now in
    let count = c.args.number - slots.len in
    let count_is : count ≡ c.args.number - length slots.items = omega (arith, slots.ok.0) in
    let below = subst (HaveNumbersBelow c.args.number) (sym c.self.view_is) c.requires.above in
    let long = ap length c.in_ok-resize.ensures.items ∙ long_resized c.args.number count slots.items count_is in
    ap (awaited 0) c.push_each.ensures
    ∙ ap (λ xs. awaited 0 (xs ++ map (λ letter. Some letter.to) letters)) c.in_ok-reserve.ensures.items
    ∙ letters_wait c.args.number c.resize.new.self.items letters long
    ∙ ap (λ ws. ws ++ addressed c.args.number letters)
    (ap (awaited 0) c.in_ok-resize.ensures.items ∙ kept_resized c.args.number count slots.items below ∙ c.self.view_is)
