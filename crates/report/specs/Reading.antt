-- A report as it is read, from line to line: the record, or else the first line that does not fit.
use Rattle.std.specs.Prelude.{◌≡◌, ℕ, zero, suc, ◌+◌, ◌-◌, not, ◌==◌, List, [], ◌∷◌, length, take, count_by, Result, Ok, Err, codes, if◌then◌else◌}
use Rattle.of_bytes.specs.Reading.{◌>>=◌}
use Rattle.of_types.specs.declared.setup.Link.{Link}
use Rattle.of_types.specs.declared.setup.Rule.{Rule}
use Rattle.of_types.specs.declared.setup.Setup.{Setup}
use Rattle.journal.specs.declared.journal.JournalEntry.{JournalEntry}
use Rattle.journal.specs.declared.journal.JournalEntry.TheVariants as entry
use Rattle.vr_log.specs.declared.entry.Entry.{Entry}
use Rattle.vr_log.specs.Log.{log_size}
use Rattle.vr_log.specs.Same.{same_numbers}
use Rattle.report.specs.declared.fault.ReportFault.{ReportFault}
use Rattle.report.specs.declared.fault.ReportFault.TheVariants as fault
use Rattle.report.specs.declared.record.Record.{Record}
use Rattle.report.specs.declared.record.SwitchRecord.{SwitchRecord}
use Rattle.report.specs.Lines.{line_at, each_at, while_at}
use Rattle.report.specs.OneLine.{begins, counts_at, ports_in_text, link_in_text, rule_at, letter_at, post_line_at, short_entry_at, log_line_at, log_entry_at, switch_line_at, event_in_text, executed_at, row_at, first_line_at, last_line_at}
use Rattle.report.specs.Report.{number_text, sum_words}

-- the ports of so many switches, from this one on
unfoldable pub port_counts_at : ℕ → ℕ → List ℕ → Result (List ℕ × List ℕ) ℕ
port_counts_at zero switch bytes = Ok ([], bytes)
port_counts_at (suc n) switch bytes = do
  first ← line_at bytes (ports_in_text switch bytes)
  others ← port_counts_at n (switch + 1) first.1
  Ok (first.0 ∷ others.0, others.1)

-- at most 1,024 wires
unfoldable pub links_at : List ℕ → List ℕ → Result (List Link × List ℕ) ℕ
links_at ports bytes = while_at (begins (codes "link")) (λ before rest. line_at rest (link_in_text ports before rest)) 1024 [] bytes

-- at most 16 rules
unfoldable pub rules_at : List ℕ → Result (List Rule × List ℕ) ℕ
rules_at bytes = while_at (begins (codes "deny")) (λ _ rest. line_at rest (rule_at rest)) 16 [] bytes

unfoldable pub setup_at : List ℕ → Result (Setup × List ℕ) ℕ
setup_at bytes = do
  counts ← line_at bytes (counts_at bytes)
  ports ← port_counts_at counts.0.1 0 counts.1
  links ← links_at ports.0 ports.1
  rules ← rules_at links.1
  Ok (record { controllers = counts.0.0; ports = ports.0; links = links.0; deny = rules.0 }, rules.1)

unfoldable pub post_at : List ℕ → Result (JournalEntry (List ℕ) × List ℕ) ℕ
post_at bytes = do
  line ← line_at bytes (post_line_at bytes)
  letters ← each_at letter_at line.0.count line.1
  Ok (entry.Post line.0.actor line.0.first letters.0 line.0.lost, letters.1)

unfoldable pub journal_entry_at : List ℕ → Result (JournalEntry (List ℕ) × List ℕ) ℕ
journal_entry_at bytes = if begins (codes "post") bytes then post_at bytes else line_at bytes (short_entry_at bytes)

-- the entries up to the line of the log
unfoldable pub journal_at : List ℕ → Result (List (JournalEntry (List ℕ)) × List ℕ) ℕ
journal_at bytes = while_at (λ rest. not (begins (codes "log") rest)) (λ _ rest. journal_entry_at rest) (length bytes) [] bytes

-- the log. Its own line fails where it tells another number of bytes
unfoldable pub log_in_text : List ℕ → Result (List Entry × List ℕ) ℕ
log_in_text bytes = do
  line ← line_at bytes (log_line_at bytes)
  entries ← each_at log_entry_at line.0.0 line.1
  if same_numbers (number_text (log_size entries.0)) line.0.1 then Ok entries else Err (length bytes)

unfoldable pub told_in_text : ℕ → List ℕ → Result (SwitchRecord × List ℕ) ℕ
told_in_text switch bytes = do
  line ← line_at bytes (switch_line_at switch bytes)
  events ← each_at (event_in_text switch) line.0.events line.1
  executed ← each_at (executed_at switch) line.0.executed events.1
  rows ← each_at (row_at switch) line.0.rows executed.1
  Ok (
    record {
      generation = line.0.generation;
      master = line.0.master;
      life = line.0.life;
      held = line.0.held;
      sent = line.0.sent;
      events = events.0;
      executed = executed.0;
      rows = rows.0;
    },
    rows.1,
  )

-- what is told of so many switches, from this one on
unfoldable pub switches_at : ℕ → ℕ → List ℕ → Result (List SwitchRecord × List ℕ) ℕ
switches_at zero switch bytes = Ok ([], bytes)
switches_at (suc n) switch bytes = do
  first ← told_in_text switch bytes
  others ← switches_at n (switch + 1) first.1
  Ok (first.0 ∷ others.0, others.1)

-- the journal and the log
unfoldable pub history_at : List ℕ → Result ((List (JournalEntry (List ℕ)) × List Entry) × List ℕ) ℕ
history_at bytes = do
  journal ← journal_at bytes
  log ← log_in_text journal.1
  Ok ((journal.0, log.0), log.1)

-- so many switches behind a log of so many entries, and the turns of the script and of the closing
unfoldable pub outcome_in_text : ℕ → ℕ → List ℕ → Result ((List SwitchRecord × (ℕ × ℕ)) × List ℕ) ℕ
outcome_in_text count entries bytes = do
  switches ← switches_at count 0 bytes
  turns ← line_at switches.1 (last_line_at (sum_words entries switches.0) switches.1)
  Ok ((switches.0, turns.0), turns.1)

unfoldable pub record_at : List ℕ → Result (Record × List ℕ) ℕ
record_at bytes = do
  rest ← line_at bytes (first_line_at bytes)
  setup ← setup_at rest
  history ← history_at setup.1
  outcome ← outcome_in_text (length setup.0.ports) (length history.0.1) history.1
  Ok (record { setup = setup.0; journal = history.0.0; log = history.0.1; switches = outcome.0.0; script = outcome.0.1.0; closing = outcome.0.1.1 }, outcome.1)

-- the number, from 1 on, of the line with which so many bytes are left
abbrev pub line_number : List ℕ → ℕ → ℕ
line_number bytes left = 1 + count_by (λ b. b == 10) (take (length bytes - left) bytes)

-- nothing is left
abbrev pub all_of : List ℕ → Record × List ℕ → Result Record ℕ
all_of bytes (told, []) = Ok told
all_of bytes (told, b ∷ rest) = Err (line_number bytes (length (b ∷ rest)))

-- a whole report, or the number of the first line that does not fit
unfoldable pub report_at : List ℕ → Result Record ℕ
report_at bytes = elim (record_at bytes) [ Ok found ↦ all_of bytes found | Err left ↦ Err (line_number bytes left) ]

-- the answer to bytes; want of memory says nothing
abbrev pub IsReadAs : List ℕ → Result Record ReportFault → Type 0
IsReadAs bytes (Ok told) = report_at bytes ≡ Ok told
IsReadAs bytes (Err (fault.NotText line)) = report_at bytes ≡ Err line
IsReadAs bytes (Err fault.OutOfMemory) = Unit {0}
