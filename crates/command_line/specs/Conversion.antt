-- How a call that makes something of a report takes it, and how it ends.
use Rattle.std.specs.Prelude.{◌≡◌, ◌<◌, ◌≤◌, ◌+◌, ℕ, List, ◌++◌, length, Option, Ok, Err, codes}
use Rattle.std.specs.Io.KnownBytes.{Consumes, IsAtEnd}
use Rattle.report.specs.Reading.{report_at}
use Rattle.report.specs.Report.{newline}
use Rattle.report.specs.declared.reading.TheConstants.{REPORT_LIMIT}
use Rattle.report.specs.declared.record.Record.{Record}
use Rattle.command_line.specs.Lines.{unread_line, differs_line}
use Rattle.command_line.specs.declared.conversion.Ending.{Ending}
use Rattle.command_line.specs.declared.conversion.Ending.TheVariants.{Made, Usage, TooLarge, Unread, Differs}
use Rattle.command_line.specs.declared.conversion.Taken.{Taken}
use Rattle.command_line.specs.declared.conversion.Taken.TheVariants.{Told, Ended}

-- more bytes than a report has
unfoldable pub size_line : List ℕ
size_line = codes "fault 3 size top" ++ newline

-- What bytes are: a report, or else the first line that is none of a report's, or too many
abbrev pub AreTaken : List ℕ → Taken → Type 0
AreTaken bytes (Told told) = (length bytes ≤ REPORT_LIMIT) × (report_at bytes ≡ Ok told)
AreTaken bytes (Ended (Differs line)) = (length bytes ≤ REPORT_LIMIT) × (report_at bytes ≡ Err line)
AreTaken bytes (Ended TooLarge) = REPORT_LIMIT < length bytes
AreTaken bytes (Ended Unread) = ⊥
AreTaken bytes (Ended Usage) = ⊥
AreTaken bytes (Ended (Made text)) = ⊥

-- a source was read to its end, or one byte past the most that a report has
pub record IsReadOut (bytes : List ℕ) (rest : Option (List ℕ)) : Type 0 where
  pub most : length bytes ≤ REPORT_LIMIT + 1
  pub ends : length bytes ≤ REPORT_LIMIT → IsAtEnd rest

-- bytes were read out of a source, and are this
abbrev pub IsTakenAs : Option (List ℕ) → Option (List ℕ) → Taken → Type 0
IsTakenAs left rest taken = (bytes : List ℕ) × Consumes left rest bytes × IsReadOut bytes rest × AreTaken bytes taken

-- What was taken, by what was left to be read before and after it. `unread` says that a read failed
abbrev pub IsTaken : Option (List ℕ) → Option (List ℕ) → Type 0 → Taken → Type 0
IsTaken left rest unread (Told told) = IsTakenAs left rest (Told told)
IsTaken left rest unread (Ended Unread) = unread
IsTaken left rest unread (Ended (Differs line)) = IsTakenAs left rest (Ended (Differs line))
IsTaken left rest unread (Ended TooLarge) = IsTakenAs left rest (Ended TooLarge)
IsTaken left rest unread (Ended Usage) = ⊥
IsTaken left rest unread (Ended (Made text)) = ⊥

-- a claim on an ending that tells of no read that failed
abbrev pub IfServed : Ending → Type 0 → Type 0
IfServed Unread claim = Unit {0}
IfServed _ claim = claim

-- and on what was taken
abbrev pub IfRead : Taken → Type 0 → Type 0
IfRead (Told told) claim = claim
IfRead (Ended ending) claim = IfServed ending claim

-- The end of a call, of which `refused` says that its words are not accepted, and `makes` what it makes of a report
abbrev pub EndsCall : Type 0 → (Record → List ℕ → Type 0) → Option (List ℕ) → Option (List ℕ) → Type 0 → Ending → Type 0
EndsCall refused makes left rest unread Usage = refused
EndsCall refused makes left rest unread (Made text) = (refused → ⊥) × (told : Record) × makes told text × IsTaken left rest unread (Told told)
EndsCall refused makes left rest unread TooLarge = (refused → ⊥) × IsTaken left rest unread (Ended TooLarge)
EndsCall refused makes left rest unread Unread = (refused → ⊥) × IsTaken left rest unread (Ended Unread)
EndsCall refused makes left rest unread (Differs line) = (refused → ⊥) × IsTaken left rest unread (Ended (Differs line))

abbrev pub status_of : Ending → ℕ
status_of (Made text) = 0
status_of Usage = 2
status_of TooLarge = 3
status_of Unread = 4
status_of (Differs line) = 8

-- what is written: what was made, or a line
abbrev pub ending_text : List ℕ → Ending → List ℕ
ending_text usage (Made text) = text
ending_text usage Usage = usage
ending_text usage TooLarge = size_line
ending_text usage Unread = unread_line
ending_text usage (Differs line) = differs_line line
