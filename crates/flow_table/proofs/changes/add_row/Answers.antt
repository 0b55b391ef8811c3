use Rattle.std.proofs.Common.{◌<◌, length, arith, add-one, sym, ◌∙◌}
use Rattle.std.proofs.lemmas.List.{set_split}
use Rattle.flow_table.proofs.changes.add_row.Goals as goal

pub returns-then-place-len-clause-ok : goal.returns-then-place-len-clause-ok
returns-then-place-len-clause-ok c =
    let within : c.place_of-place.result < length c.args.rows.now.items = omega arith in
    let known = rw c.deref.ensures.value at c.place_of-place.ensures.known in
    rw c.in_ok-row.ensures (set_split c.args.rows.now.items c.place_of-place.result _ within ∙ rw add-one at (sym (known within)))
