use Rattle.std.proofs.Common.{map, ap, ◌∙◌}
use Rattle.journal.specs.Entries.{EntriesState, head_of}
use Rattle.journal.proofs.Heads.{heads_of}
use Rattle.journal.proofs.entries.Entries.heads.Goals as goal

pub returns : goal.returns
returns g c =
    c.as_slice.ensures.value
    ∙ heads_of 0 c.self.inside.heads.items c.self.inside.posted c.self.inside.letters c.self.invariant.1 c.self.invariant.0
    ∙ ap (λ (e : EntriesState _). map head_of e.items) c.self.view_is
