-- The report of a run, line by line.
use Rattle.std.specs.Prelude.{ℕ, ◌+◌, ◌/◌, ◌%◌, Bool, true, false, nat_le, List, [], ◌∷◌, ◌++◌, length, sum_by, Option, Some, None, codes, if◌then◌else◌}
use Rattle.std.specs.Fmt.{decimal}
use Rattle.of_types.specs.declared.message.Event.{Event}
use Rattle.of_types.specs.declared.message.Executed.{Executed}
use Rattle.of_types.specs.declared.setup.Link.{Link}
use Rattle.of_types.specs.declared.setup.Rule.{Rule}
use Rattle.of_types.specs.declared.setup.Setup.{Setup}
use Rattle.journal.specs.declared.journal.Actor.{Actor}
use Rattle.journal.specs.declared.journal.Actor.TheVariants.{Controller, Switch}
use Rattle.journal.specs.declared.journal.JournalEntry.{JournalEntry}
use Rattle.journal.specs.declared.journal.JournalEntry.TheVariants as entry
use Rattle.journal.specs.declared.journal.Letter.{Letter}
use Rattle.journal.specs.declared.journal.Local.{Local}
use Rattle.journal.specs.declared.journal.Local.TheVariants as local
use Rattle.vr_log.specs.declared.entry.Entry.{Entry}
use Rattle.vr_log.specs.declared.entry.Entry.TheVariants.{Received, Processed}
use Rattle.vr_log.specs.Log.{log_size}
use Rattle.report.specs.declared.record.Record.{Record}
use Rattle.report.specs.declared.record.RowRecord.{RowRecord}
use Rattle.report.specs.declared.record.SwitchRecord.{SwitchRecord}
use Rattle.of_match.specs.Writing.{canonical_bare_match}
use Rattle.of_messages.specs.Canonical.{actions_of}
use Rattle.of_ravana.specs.Canonical.{canonical_happening, canonical_order}

-- a digit of base sixteen, in lower case
abbrev pub hex_digit : ℕ → ℕ
hex_digit n = if nat_le 10 n then n + 87 else n + 48

abbrev pub hex_of : List ℕ → List ℕ
hex_of [] = []
hex_of (b ∷ bytes) = hex_digit (b / 16) ∷ hex_digit (b % 16) ∷ hex_of bytes

-- a dash for no bytes
unfoldable pub hex : List ℕ → List ℕ
hex [] = codes "-"
hex (b ∷ bytes) = hex_of (b ∷ bytes)

-- a number as a word
unfoldable pub number_text : ℕ → List ℕ
number_text n = decimal n

-- a word behind a space, and the end of a line
unfoldable pub word : List ℕ → List ℕ
word text = 32 ∷ text

abbrev pub newline : List ℕ
newline = 10 ∷ []

-- a line: its first word, and further ones
abbrev pub further : List (List ℕ) → List ℕ
further [] = newline
further (text ∷ words) = word text ++ further words

unfoldable pub line : List ℕ → List (List ℕ) → List ℕ
line first words = first ++ further words

unfoldable pub actor_word : Actor → List ℕ
actor_word (Controller c) = 99 ∷ decimal c
actor_word (Switch s) = 115 ∷ decimal s

unfoldable pub flag : Bool → List ℕ
flag true = codes "1"
flag false = codes "0"

-- a dash for a number that is not there
unfoldable pub number_or_dash : Option ℕ → List ℕ
number_or_dash None = codes "-"
number_or_dash (Some n) = decimal n

unfoldable pub master_word : Option ℕ → List ℕ
master_word None = codes "-"
master_word (Some c) = actor_word (Controller c)

-- an address as its four bytes
unfoldable pub address_word : ℕ → List ℕ
address_word a =
    decimal (a / 16777216 % 256) ++ 46 ∷ decimal (a / 65536 % 256) ++ 46 ∷ decimal (a / 256 % 256) ++ 46 ∷ decimal (a % 256)

-- the setup
unfoldable pub port_line : ℕ → ℕ → List ℕ
port_line s count = line (codes "ports") (number_text s ∷ number_text count ∷ [])

unfoldable pub port_lines : ℕ → List ℕ → List ℕ
port_lines s [] = []
port_lines s (count ∷ counts) = port_line s count ++ port_lines (s + 1) counts

abbrev pub link_line : Link → List ℕ
link_line l = line (codes "link") (number_text l.switch ∷ number_text l.port ∷ number_text l.peer ∷ number_text l.peer_port ∷ [])

abbrev pub deny_line : Rule → List ℕ
deny_line r =
    line (codes "deny") (number_text r.proto ∷ address_word r.src.address ∷ number_text r.src.length ∷ address_word r.dst.address
    ∷ number_text r.dst.length ∷ number_or_dash r.port ∷ [])

-- the lines of each, one after another
unfoldable pub lines_of : {A : Type 0} → (A → List ℕ) → List A → List ℕ
lines_of text [] = []
lines_of text (x ∷ xs) = text x ++ lines_of text xs

unfoldable pub setup_line : Setup → List ℕ
setup_line setup = line (codes "setup") (number_text setup.controllers ∷ number_text (length setup.ports) ∷ [])

unfoldable pub setup_lines : Setup → List ℕ
setup_lines setup =
    setup_line setup ++ (port_lines 0 setup.ports ++ (lines_of link_line setup.links ++ lines_of deny_line setup.deny))

-- the journal
abbrev pub letter_line : Letter (List ℕ) → List ℕ
letter_line l = line (codes "letter") (actor_word l.to ∷ hex l.body ∷ [])

abbrev pub input_words : Local → List (List ℕ)
input_words (local.Frame port bytes) = codes "frame" ∷ number_text port ∷ hex bytes ∷ []
input_words (local.Port port up) = codes "port" ∷ number_text port ∷ flag up ∷ []
input_words local.Tick = codes "tick" ∷ []
input_words (local.Suspect view) = codes "suspect" ∷ number_text view ∷ []
input_words local.Crash = codes "crash" ∷ []
input_words local.Restart = codes "restart" ∷ []

abbrev pub post_line : Actor → ℕ → ℕ → ℕ → List ℕ
post_line a first count lost = line (codes "post") (actor_word a ∷ number_text first ∷ number_text count ∷ number_text lost ∷ [])

abbrev pub entry_lines : JournalEntry (List ℕ) → List ℕ
entry_lines (entry.Post a first letters lost) = post_line a first (length letters) lost ++ lines_of letter_line letters
entry_lines (entry.Draw a id keep) = line (codes "draw") (actor_word a ∷ number_text id ∷ flag keep ∷ [])
entry_lines (entry.Lose a id) = line (codes "lose") (actor_word a ∷ number_text id ∷ [])
entry_lines (entry.Local a input) = line (codes "local") (actor_word a ∷ input_words input)
entry_lines (entry.Idle a) = line (codes "idle") (actor_word a ∷ [])
entry_lines (entry.Refused a) = []

-- an event: who had it and when, and the message that it tells
abbrev pub event_words : Event → List (List ℕ)
event_words e = number_text e.switch ∷ number_text e.life ∷ number_text e.number ∷ hex (canonical_happening e.what) ∷ []

-- the committed log
abbrev pub log_line : Entry → List ℕ
log_line (Received e) = line (codes "received") (event_words e)
log_line (Processed j) = line (codes "processed") (number_text j ∷ [])

unfoldable pub log_lines : List Entry → List ℕ
log_lines log = line (codes "log") (number_text (length log) ∷ number_text (log_size log) ∷ []) ++ lines_of log_line log

-- a switch
abbrev pub event_line : Event → List ℕ
event_line e = line (codes "event") (event_words e)

abbrev pub executed_line : ℕ → Executed → List ℕ
executed_line s x =
    line (codes "executed") (number_text s ∷ number_text x.life ∷ number_text x.number ∷ number_text x.generation ∷ actor_word (Controller x.from)
    ∷ hex (canonical_order x.order) ∷ [])

abbrev pub row_line : ℕ → RowRecord → List ℕ
row_line s r = line (codes "row") (number_text s ∷ number_text r.priority ∷ hex (canonical_bare_match r.matching) ∷ hex (actions_of r.actions) ∷ [])

-- a name, and what stands behind it
unfoldable pub labelled : List ℕ → List ℕ → List ℕ
labelled name text = word name ++ word text

unfoldable pub role_words : SwitchRecord → List ℕ
role_words t =
    labelled (codes "generation") (number_or_dash t.generation)
    ++ (labelled (codes "master") (master_word t.master) ++ labelled (codes "life") (number_text t.life))

unfoldable pub count_words : SwitchRecord → List ℕ
count_words t =
    labelled (codes "events") (number_text (length t.events)) ++ (labelled (codes "held") (number_text t.held)
    ++ (labelled (codes "executed") (number_text (length t.executed)) ++ (labelled (codes "rows") (number_text (length t.rows))
    ++ labelled (codes "sent") (number_text t.sent))))

unfoldable pub switch_line : ℕ → SwitchRecord → List ℕ
switch_line s t = codes "switch" ++ (word (number_text s) ++ (role_words t ++ (count_words t ++ newline)))

unfoldable pub told_lines : ℕ → SwitchRecord → List ℕ
told_lines s t =
    switch_line s t ++ (lines_of event_line t.events ++ (lines_of (executed_line s) t.executed ++ lines_of (row_line s) t.rows))

unfoldable pub switch_lines : ℕ → List SwitchRecord → List ℕ
switch_lines s [] = []
switch_lines s (t ∷ switches) = told_lines s t ++ switch_lines (s + 1) switches

-- how many events, entries of the log, executed commands and rows there are
abbrev pub sums_words : ℕ → ℕ → ℕ → ℕ → List ℕ
sums_words events entries executed rows =
    labelled (codes "events") (number_text events) ++ (labelled (codes "log") (number_text entries)
    ++ (labelled (codes "commands") (number_text executed) ++ labelled (codes "rows") (number_text rows)))

-- the same of the log and the switches
unfoldable pub sum_words : ℕ → List SwitchRecord → List ℕ
sum_words entries switches =
    sums_words (sum_by (λ t. length t.events) switches) entries (sum_by (λ t. length t.executed) switches) (sum_by (λ t. length t.rows) switches)

-- the last line: the turns, and the sums over all switches
unfoldable pub end_line : Record → List ℕ
end_line r =
    codes "end" ++ (labelled (codes "script") (number_text r.script) ++ (labelled (codes "closing") (number_text r.closing) ++ (sum_words (length r.log) r.switches ++ newline)))

-- the report
unfoldable pub text : Record → List ℕ
text r =
    codes "ravana report 1" ++ (newline ++ (setup_lines r.setup ++ (lines_of entry_lines r.journal ++ (log_lines r.log ++ (switch_lines 0 r.switches ++ end_line r)))))
