use Rattle.std.proofs.Common.{◌≡◌, ◌++◌, drop}
use Rattle.std.specs.Prelude.{flat_map}
use Rattle.vr_codec.specs.Canonical.{canonical_entry}
use Rattle.vr_codec.proofs.writing.write_entries.Given as goal

abbrev pub invariant-loop-entry : goal.invariant-loop-entry
invariant-loop-entry l = l.out ++ flat_map canonical_entry (drop l.entry-index l.entries) ≡ l.fn.out ++ flat_map canonical_entry l.entries
