use Rattle.std.proofs.Common.{◌≡◌, ◌*◌, ◌++◌, drop, take}
use Rattle.report.specs.Report.{hex_of}
use Rattle.report.proofs.room.spell_pairs.Given as goal

abbrev pub invariant-loop-index : goal.invariant-loop-index
invariant-loop-index l = l.place ≡ hex_of (take l.index l.bytes) ++ drop (2 * l.index) l.fn.place
