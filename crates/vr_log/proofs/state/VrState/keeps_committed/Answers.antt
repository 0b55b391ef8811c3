use Rattle.std.proofs.Common.{◌-◌, take, refl, ◌∙◌}
use Rattle.std.specs.List.{slice_range}
use Rattle.std.proofs.lemmas.List.{take_min}
use Rattle.vr_log.proofs.Steps.{kept_is}
use Rattle.vr_log.proofs.state.VrState.keeps_committed.Goals as goal

pub returns-clause-exact : goal.returns-clause-exact
returns-clause-exact c =
    let s = c.args.self.now in
    kept_is c.same_entries.result c.args.first s.commit s.log c.args.entries.now (slice_range s.log c.args.first s.commit) (take c.min.result c.args.entries.now) c.requires.first c.requires.commit
    (c.same_entries.ensures.exact ∙ rw c.as_slice.ensures.entries refl) refl (rw c.min.ensures (take_min (s.commit - c.args.first) c.args.entries.now))
