use Rattle.std.proofs.Common.{◌≡◌}
use Rattle.std.specs.Prelude.{find}
use Rattle.of_types.specs.Matching.{matches}
use Rattle.flow_index.specs.Entries.{entries_of}
use Rattle.flow_index.proofs.entries.first_match.Given as goal

abbrev pub invariant-loop-place : goal.invariant-loop-place
invariant-loop-place l =
    find (λ e. matches e.1.matching l.fields) l.place-iterator ≡ find (λ e. matches e.1.matching l.fields) (entries_of l.fn.destination l.rows.entries)
