use Rattle.std.proofs.Common.{◌≡◌, ◌-◌, [], length}
use Rattle.std.specs.Prelude.{not, codes}
use Rattle.report.specs.Lines.{while_at}
use Rattle.report.specs.OneLine.{begins}
use Rattle.report.specs.Reading.{journal_entry_at}
use Rattle.report.proofs.journal_lines.journal.Given as goal

abbrev pub invariant-loop-place : goal.invariant-loop-place
invariant-loop-place l = while_at (λ rest. not (begins (codes "log") rest)) (λ _ rest. journal_entry_at rest) (length l.bytes - l.place) l.entries l.rest ≡ while_at (λ rest. not (begins (codes "log") rest)) (λ _ rest. journal_entry_at rest) (length l.bytes) [] l.bytes
