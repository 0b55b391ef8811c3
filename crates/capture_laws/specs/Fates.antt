-- What becomes of letters, and the comments that tell it. A past has its newest entry first.
use Rattle.std.specs.Prelude.{ℕ, ◌+◌, ◌-◌, ◌^◌, min, nat_eq, nat_lt, Bool, true, false, List, [], ◌∷◌, ◌++◌, Option, Some, None, codes, if◌then◌else◌}
use Rattle.journal.specs.declared.journal.JournalEntry.{JournalEntry}
use Rattle.journal.specs.declared.journal.JournalEntry.TheVariants.{Post, Draw, Lose, Local, Idle, Refused}
use Rattle.report.specs.Report.{number_text, word}
use Rattle.capture_laws.specs.declared.shapes.Fate.{Fate}
use Rattle.report.specs.Records.{ByteEntry}

abbrev pub fate_or_none : Option Fate → Fate
fate_or_none None = record { kept = 0; lost = false }
fate_or_none (Some f) = f

abbrev pub kept_again : Fate → Fate
kept_again f = record { kept = min (2 ^ 64 - 1) (f.kept + 1); lost = f.lost }

abbrev pub lost_now : Fate → Fate
lost_now f = record { kept = f.kept; lost = true }

-- what is known of a number once an entry is seen
abbrev pub noted : ℕ → ByteEntry → Option Fate → Option Fate
noted id (Draw actor i true) old = if nat_eq i id then Some (kept_again (fate_or_none old)) else old
noted id (Draw actor i false) old = old
noted id (Lose actor i) old = if nat_eq i id then Some (lost_now (fate_or_none old)) else old
noted id (Post actor first letters lost) old = old
noted id (Local actor input) old = old
noted id (Idle actor) old = old
noted id (Refused actor) old = old

unfoldable pub fate : ℕ → List ByteEntry → Option Fate
fate id [] = None
fate id (e ∷ before) = noted id e (fate id before)

-- how often a letter was drawn and kept, if it was
unfoldable pub kept_times : ℕ → List ℕ
kept_times kept = word (codes "drawn and kept") ++ (word (number_text kept) ++ word (codes "times"))

unfoldable pub kept_words : ℕ → List ℕ
kept_words kept = if nat_lt 0 kept then kept_times kept else []

unfoldable pub lost_words : Bool → List ℕ
lost_words lost = if lost then word (codes "lost") else []

unfoldable pub roomless_words : ℕ → List ℕ
roomless_words id = codes "packet" ++ (word (number_text id) ++ word (codes "found no room"))

-- the comment of a letter by its number, of which it is known whether it found room: none where it is only drawn
unfoldable pub comment_of : ℕ → Bool → Option Fate → List ℕ
comment_of id false found = roomless_words id
comment_of id true None = []
comment_of id true (Some f) = codes "packet" ++ (word (number_text id) ++ (kept_words f.kept ++ lost_words f.lost))
