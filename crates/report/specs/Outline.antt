-- A report of which no entry of the journal is kept: the record without it, and how many lines it takes.
use Rattle.std.specs.Prelude.{◌≡◌, ℕ, ◌+◌, List, [], length, sum_by, Result, Ok, Err}
use Rattle.journal.specs.declared.journal.JournalEntry.{JournalEntry}
use Rattle.journal.specs.declared.journal.JournalEntry.TheVariants as entry
use Rattle.report.specs.declared.fault.ReportFault.{ReportFault}
use Rattle.report.specs.declared.fault.ReportFault.TheVariants as fault
use Rattle.report.specs.declared.outline.LineCount.{LineCount}
use Rattle.report.specs.declared.outline.Outline.{Outline}
use Rattle.report.specs.declared.record.Record.{Record}
use Rattle.report.specs.Reading.{report_at}

-- how many lines an entry takes: a post one for each letter too
abbrev pub count_entry_lines : JournalEntry (List ℕ) → ℕ
count_entry_lines (entry.Post actor first letters lost) = 1 + length letters
count_entry_lines (entry.Refused actor) = 0
count_entry_lines e = 1

abbrev pub count_journal_lines : List (JournalEntry (List ℕ)) → LineCount
count_journal_lines journal = record { lines = sum_by count_entry_lines journal }

-- a record without its journal
abbrev pub bare : Record → Record
bare r = record r { journal = [] }

abbrev pub outline_of : Record → Outline
outline_of r = record { bare = bare r; journal_lines = sum_by count_entry_lines r.journal }

-- the answer to bytes, where this is kept of the record that is read; want of memory says nothing
abbrev pub IsKeptAs : {A : Type 0} → (Record → A) → List ℕ → Result A ReportFault → Type 0
IsKeptAs of bytes (Ok kept) = (r : Record) × (report_at bytes ≡ Ok r) × (kept ≡ of r)
IsKeptAs of bytes (Err (fault.NotText line)) = report_at bytes ≡ Err line
IsKeptAs of bytes (Err fault.OutOfMemory) = Unit {0}
