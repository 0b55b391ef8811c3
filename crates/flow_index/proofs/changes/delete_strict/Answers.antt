use Rattle.std.proofs.Common.{sym, ◌∙◌}
use Rattle.flow_index.proofs.Strict.{delete_absent, delete_kept, delete_taken}
use Rattle.flow_index.proofs.changes.delete_strict.Goals as goal

pub returns-in_default : goal.returns-in_default
returns-in_default c = λ next small indexed. delete_absent c.args.change.now next c.args.rows.now.entries c.requires small indexed (sym c.in_default.ensures)

pub returns-then-is_deleted : goal.returns-then-is_deleted
returns-then-is_deleted c = λ next small indexed.
    c.remove.ensures.entries
    ∙ delete_taken c.args.change.now next c.args.rows.now.entries c.in-Some.place.now c.in-Some.row.now c.requires indexed (sym c.in-Some.ensures) (sym c.is_deleted.ensures ∙ c.if-is_deleted.true)

pub returns-else-is_deleted : goal.returns-else-is_deleted
returns-else-is_deleted c = λ next small indexed.
    delete_kept c.args.change.now next c.args.rows.now.entries (c.in-Some.place.now, c.in-Some.row.now) c.requires indexed (sym c.in-Some.ensures) (sym c.is_deleted.ensures ∙ c.if-is_deleted.false)
