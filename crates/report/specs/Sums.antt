-- What the last line of a report sums up.
use Rattle.std.specs.Prelude.{ℕ, List, ◌++◌, length, sum_by, codes}
use Rattle.report.specs.declared.record.Record.{Record}
use Rattle.report.specs.declared.sums.Sums.{Sums}
use Rattle.report.specs.Report.{labelled, newline, number_text, sums_words}

-- the sums of a record
abbrev pub sums_in : Record → Sums
sums_in r = record {
  script = r.script;
  closing = r.closing;
  events = sum_by (λ t. length t.events) r.switches;
  entries = length r.log;
  executed = sum_by (λ t. length t.executed) r.switches;
  rows = sum_by (λ t. length t.rows) r.switches;
}

-- the last line of each report with these sums
unfoldable pub sums_line : Sums → List ℕ
sums_line s =
    codes "end" ++ (labelled (codes "script") (number_text s.script) ++ (labelled (codes "closing") (number_text s.closing)
    ++ (sums_words s.events s.entries s.executed s.rows ++ newline)))
