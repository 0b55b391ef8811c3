use Rattle.std.proofs.Common.{map, drop, ap, ◌∙◌}
use Rattle.journal.specs.Entries.{whole_entry}
use Rattle.journal.proofs.Heads.{drop_taken, entries_left, same_entries}
use Rattle.journal.proofs.entries.Entries.forget.Goals as goal

pub returns : goal.returns
returns g c =
    let inside = c.self.inside in
    let heads = inside.heads.items in
    let items = ap (λ ls. map (whole_entry ls) heads) c.truncate.ensures ∙ entries_left heads inside.posted inside.letters c.self.invariant.1 c.self.invariant.0 in
    let coming = ap (drop inside.posted) c.truncate.ensures ∙ drop_taken inside.posted inside.letters in
    rw (← c.self.view_is) (same_entries _ _ _ _ _ _ items coming)
