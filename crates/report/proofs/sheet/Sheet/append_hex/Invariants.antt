use Rattle.std.proofs.Common.{◌≡◌, ◌++◌, length}
use Rattle.report.specs.Report.{hex_of}
use Rattle.report.proofs.sheet.Sheet.append_hex.Given as goal

abbrev pub invariant-pieces : goal.invariant-pieces
invariant-pieces l = l.self ++ hex_of l.rest ≡ l.fn.self ++ hex_of l.bytes

abbrev pub decreases-pieces : goal.decreases-pieces
decreases-pieces l = length l.rest
