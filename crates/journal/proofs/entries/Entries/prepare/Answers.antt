use Rattle.std.proofs.Common.{◌≡◌, [], map, take, drop, sym, ap, ◌∙◌}
use Rattle.list_facts.proofs.Prefixes.{prefix_take}
use Rattle.journal.specs.Entries.{EntriesState, whole_entry}
use Rattle.journal.proofs.Heads.{drop_seam, drop_taken, entries_kept, entries_left, same_entries}
use Rattle.journal.proofs.entries.Entries.prepare.Goals as goal

pub returns-in-Ok-clause-ok : goal.returns-in-Ok-clause-ok
returns-in-Ok-clause-ok g c =
    let inside = c.self.inside in
    let heads = inside.heads.items in
    let more = g.P.Outgoing.letters c.args.post.now in
    let none : drop inside.posted inside.letters ≡ [] = ap (λ (e : EntriesState _). e.coming) c.self.view_is ∙ c.requires in
    let items = ap (λ ls. map (whole_entry ls) heads) c.in-Ok.ensures.ok ∙ entries_kept 0 heads inside.posted inside.letters more c.self.invariant.1 c.self.invariant.0 in
    let coming = ap (drop inside.posted) c.in-Ok.ensures.ok ∙ drop_seam inside.posted inside.letters more c.self.invariant.0 none in
    rw (← c.self.view_is) (same_entries _ _ _ _ _ _ items coming)

pub returns-in-Err-clause-err : goal.returns-in-Err-clause-err
returns-in-Err-clause-err g c =
    let inside = c.self.inside in
    let heads = inside.heads.items in
    let none : drop inside.posted inside.letters ≡ [] = ap (λ (e : EntriesState _). e.coming) c.self.view_is ∙ c.requires in
    let cut = c.truncate.ensures ∙ sym (prefix_take inside.posted c.in-Err.ensures.err c.self.invariant.0) in
    let items = ap (λ ls. map (whole_entry ls) heads) cut ∙ entries_left heads inside.posted inside.letters c.self.invariant.1 c.self.invariant.0 in
    let coming = ap (drop inside.posted) cut ∙ drop_taken inside.posted inside.letters ∙ sym none in
    same_entries _ _ _ _ _ _ items coming ∙ c.self.view_is
