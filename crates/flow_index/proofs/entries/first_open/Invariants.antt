use Rattle.std.proofs.Common.{◌≡◌}
use Rattle.std.specs.Prelude.{find}
use Rattle.std.specs.List.Sorted.{IsStrictlySortedBy}
use Rattle.std.specs.Map.{keys_of}
use Rattle.of_types.specs.Matching.{matches}
use Rattle.flow_index.specs.Entries.{by_place, open_entries}
use Rattle.flow_index.proofs.entries.first_open.Given as goal

abbrev pub invariant-loop-place : goal.invariant-loop-place
invariant-loop-place l =
    (find (λ e. matches e.1.matching l.fields) (open_entries l.place-iterator) ≡ find (λ e. matches e.1.matching l.fields) (open_entries l.rows.entries))
    × IsStrictlySortedBy by_place (keys_of l.place-iterator)
