use Rattle.std.proofs.Common.{sym, ◌∙◌}
use Rattle.flow_index.proofs.Strict.{modify_absent, modify_unnamed, modify_named, lookup_found}
use Rattle.flow_index.proofs.changes.modify_strict.Goals as goal

pub returns-in_default-clause-ok : goal.returns-in_default-clause-ok
returns-in_default-clause-ok c = λ next small indexed. modify_absent c.args.change.now next c.args.rows.now.entries c.requires small indexed (sym c.in_default.ensures)

pub returns-then-not-is_named-clause-ok : goal.returns-then-not-is_named-clause-ok
returns-then-not-is_named-clause-ok c = λ next small indexed.
    modify_unnamed c.args.change.now next c.args.rows.now.entries (c.in-Some.place.now, c.in-Some.row.now) c.requires indexed (sym c.in-Some.ensures) (sym c.if-not-is_named.ensures)

pub returns-clause-ok : goal.returns-clause-ok
returns-clause-ok c = λ next small indexed.
    let found = sym c.in-Some.ensures in
    let set = c.set_actions.ensures c.in-Some.row.now (lookup_found c.args.change.now next c.args.rows.now.entries c.in-Some.place.now c.in-Some.row.now indexed found) in
    rw c.in_ok-actions.ensures at set ∙ modify_named c.args.change.now next c.args.rows.now.entries c.in-Some.place.now c.in-Some.row.now c.requires indexed found (sym c.if-not-is_named.ensures)
