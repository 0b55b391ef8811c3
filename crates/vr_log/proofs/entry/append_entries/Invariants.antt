use Rattle.std.proofs.Common.{◌≡◌, ◌++◌, take}
use Rattle.vr_log.proofs.entry.append_entries.Given as goal

abbrev pub invariant-loop-entry : goal.invariant-loop-entry
invariant-loop-entry l = l.list ≡ l.fn.list ++ take l.entry-index l.entries
