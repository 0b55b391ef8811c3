-- A report that is read without its journal: what is kept of it.
use Rattle.std.proofs.Common.{◌≡◌, ℕ, suc, ◌+◌, ◌-◌, ◌≤◌, ◌<◌, Bool, true, false, not, List, [], ◌∷◌, ◌++◌, length, refl, sym, ap, subst, ◌∙◌, append_assoc, length-append, arith, Result, Ok, Err}
use Rattle.std.specs.Prelude.{Option, Some, None, codes, sum_by}
use Rattle.std.proofs.lemmas.List.Sums.{sum_by_push}
use denote.Ref.{Bor}
use Rattle.journal.specs.declared.journal.Actor.{Actor}
use Rattle.journal.specs.declared.journal.JournalEntry.{JournalEntry}
use Rattle.journal.specs.declared.journal.JournalEntry.TheVariants as entry
use Rattle.journal.specs.declared.journal.Letter.{Letter}
use Rattle.of_types.specs.declared.setup.Setup.{Setup}
use Rattle.vr_log.specs.declared.entry.Entry.{Entry}
use Rattle.report.specs.declared.fault.Misfit.{Misfit}
use Rattle.report.specs.declared.fault.Misfit.TheVariants as misfit
use Rattle.report.specs.declared.fault.Broken.{Broken}
use Rattle.report.specs.declared.fault.Broken.TheVariants as broken
use Rattle.report.specs.declared.journal_lines.PostLine.{PostLine}
use Rattle.report.specs.declared.outline.LineCount.{LineCount}
use Rattle.report.specs.declared.record.Record.{Record}
use Rattle.report.specs.declared.record.SwitchRecord.{SwitchRecord}
use Rattle.report.specs.Lines.{LineStopsAt, IsOnLine, line_at, each_at, while_at}
use Rattle.report.specs.OneLine.{begins, letter_at, post_line_at, short_entry_at, first_line_at}
use Rattle.report.specs.Outline.{bare, count_entry_lines, count_journal_lines}
use Rattle.report.specs.Reading.{post_at, journal_entry_at, journal_at, setup_at, history_at, outcome_in_text, record_at, report_at}
use Rattle.report.specs.Records.{IsRecord, IsToldEntry}
use Rattle.report.specs.Report.{word, further, line, lines_of, actor_word, number_text, entry_lines, letter_line, text}
use Rattle.report.specs.Spelled.{◌>>=◌, after_at, end_at, actor_in_text, hex_at, last_hex_at, PassesText}
use Rattle.report.proofs.LinesTaken.{letter_takes, post_takes, short_takes}
use Rattle.report.proofs.ListsTaken.{each_takes}
use Rattle.report.proofs.RecordTaken.{report_takes}
use Rattle.report.proofs.Sequences.{with_front, each_more, while_more, while_stops, while_done, while_last}

-- ---- lines are not short

further_long : (words : List (List ℕ)) → 1 ≤ length (further words)
further_long [] = omega arith
further_long (text ∷ words) = let more = further_long words in omega (arith, length-append (word text) (further words), more)

line_long : (first : List ℕ) (words : List (List ℕ)) (rest : List ℕ) → 1 + length rest ≤ length (line first words ++ rest)
unfolding line
line_long first words rest = let more = further_long words in omega (arith, length-append first (further words), length-append (first ++ further words) rest, more)

letter_long : (bytes : List ℕ) (x : Letter (List ℕ)) (rest : List ℕ) → letter_at bytes ≡ Some (x, rest) → 1 + length rest ≤ length bytes
letter_long bytes x rest e = let is = letter_takes.takes bytes x rest e in rw is.0 (line_long (codes "letter") _ rest)

pub post_long : (bytes : List ℕ) (p : PostLine) (rest : List ℕ) → post_line_at bytes ≡ Some (p, rest) → 1 + length rest ≤ length bytes
post_long bytes p rest e = let is = post_takes.takes bytes p rest e in rw is.0 (line_long (codes "post") _ rest)

-- ---- letters

abbrev letter : Actor → List ℕ → List ℕ → Option (Letter (List ℕ) × List ℕ)
letter to body rest = Some (record { to = to; body = body }, rest)

abbrev told : List ℕ → List ℕ → Option (List ℕ × List ℕ)
told body rest = Some (body, rest)

letter_of : (to : Actor) (o : Option (List ℕ × List ℕ)) →
    (o >>= λ body. end_at body.1 >>= λ rest. letter to body.0 rest) ≡ ((o >>= λ body. end_at body.1 >>= λ rest. told body.0 rest) >>= λ x. letter to x.0 x.1)
letter_of to None = refl
letter_of to (Some body) = by (end_at body.1)
  where
    by : (o : Option (List ℕ)) → (o >>= λ rest. letter to body.0 rest) ≡ ((o >>= λ rest. told body.0 rest) >>= λ x. letter to x.0 x.1)
    by None = refl
    by (Some rest) = refl

letter_is : (bytes b0 : List ℕ) (to : Actor) (b1 : List ℕ) → after_at (codes "letter") bytes ≡ Some b0 → actor_in_text b0 ≡ Some (to, b1) → letter_at bytes ≡ (last_hex_at b1 >>= λ x. letter to x.0 x.1)
unfolding letter_at last_hex_at
letter_is bytes b0 to b1 first actor = rw (first, actor) (letter_of to (hex_at b1))

pub letter_passed : (bytes b0 : List ℕ) (to : Actor) (b1 : List ℕ) (passed : Result (Bor (List ℕ)) Misfit) → after_at (codes "letter") bytes ≡ Some b0 → actor_in_text b0 ≡ Some (to, b1) →
    PassesText passed (last_hex_at b1) → PassesText passed (letter_at bytes)
letter_passed bytes b0 to b1 passed first actor read = rw (letter_is bytes b0 to b1 first actor) (by passed (last_hex_at b1) read)
  where
    by : (passed : Result (Bor (List ℕ)) Misfit) (o : Option (List ℕ × List ℕ)) → PassesText passed o → PassesText passed (o >>= λ x. letter to x.0 x.1)
    by (Ok rest) o (body, e) = (record { to = to; body = body }, rw e refl)
    by (Err misfit.Text) o e = rw e refl
    by (Err misfit.OutOfMemory) o e = tt

-- what stands behind a value that was passed
passed_is : {A : Type 0} (passed : Result (Bor (List ℕ)) Misfit) (rest : Bor (List ℕ)) (read : Option (A × List ℕ)) → passed ≡ Ok rest → PassesText passed read → (x : A) × (read ≡ Some (x, rest.now))
passed_is passed rest read e is = subst (λ p. PassesText p read) e is

abbrev pub Passed : ℕ → ℕ → List ℕ → List ℕ → Type 0
Passed count place bytes rest =
    (letters : List (Letter (List ℕ))) × (with_front letters (each_at letter_at (count - place) rest) ≡ each_at letter_at count bytes) × (place + length rest ≤ length bytes)

pub letters_begin : (count : ℕ) (bytes : List ℕ) → Passed count 0 bytes bytes
letters_begin count bytes =
    let all : count - 0 ≡ count = omega arith in
    ([], ap (λ n. with_front [] (each_at letter_at n bytes)) all ∙ none (each_at letter_at count bytes), omega arith)
  where
    none : (read : Result (List (Letter (List ℕ)) × List ℕ) ℕ) → with_front [] read ≡ read
    none (Ok x) = refl
    none (Err left) = refl

pub letters_more : (count place : ℕ) (bytes rest : List ℕ) (after : Bor (List ℕ)) (passed : Result (Bor (List ℕ)) Misfit) → place < count → passed ≡ Ok after → PassesText passed (letter_at rest) →
    Passed count place bytes rest → Passed count (place + 1) bytes after.now
letters_more count place bytes rest after passed less is read (letters, so_far, long) =
    let next = passed_is passed after (letter_at rest) is read in
    let more = letter_long rest next.0 after.now next.1 in
    (letters ++ next.0 ∷ [], each_more letter_at count place letters next.0 rest after.now _ less next.1 so_far, omega (arith, long, more))

pub letters_done : (count place : ℕ) (bytes rest : List ℕ) → count ≤ place → Passed count place bytes rest → (letters : List (Letter (List ℕ))) × (each_at letter_at count bytes ≡ Ok (letters, rest))
unfolding each_at
letters_done count place bytes rest over (letters, so_far, long) =
    let none : count - place ≡ 0 = omega (arith, over) in
    (letters ++ [], sym so_far ∙ ap (λ n. with_front letters (each_at letter_at n rest)) none)

stops_there : (count place : ℕ) (bytes rest : List ℕ) → place < count → letter_at rest ≡ None → Passed count place bytes rest → each_at letter_at count bytes ≡ Err (length rest)
unfolding each_at
stops_there count place bytes rest less none (letters, so_far, long) =
    let left : count - place ≡ suc (count - (place + 1)) = omega arith in
    let now = rw left at so_far in
    sym (rw none at now)

pub letters_stop : (count place : ℕ) (bytes rest : List ℕ) (passed : Result (Bor (List ℕ)) Misfit) (e : Broken) → place < count → PassesText passed (letter_at rest) → IsOnLine {X = Bor (List ℕ)} rest passed (Err e) →
    Passed count place bytes rest → LineStopsAt e (each_at letter_at count bytes)
letters_stop count place bytes rest passed (broken.Line left) less read on so_far =
    let none : letter_at rest ≡ None = subst (λ p. PassesText p (letter_at rest)) on.0 read in
    stops_there count place bytes rest less none so_far ∙ ap (λ (n : ℕ). Err n) (sym on.1)
letters_stop count place bytes rest passed broken.OutOfMemory less read on so_far = tt

-- ---- entries

pub post_passed : (bytes : List ℕ) (p : PostLine) (b : List ℕ) (letters : List (Letter (List ℕ))) (rest : List ℕ) → begins (codes "post") bytes ≡ true → post_line_at bytes ≡ Some (p, b) →
    each_at letter_at p.count b ≡ Ok (letters, rest) → (x : JournalEntry (List ℕ)) × (journal_entry_at bytes ≡ Ok (x, rest)) × (1 + p.count ≡ count_entry_lines x)
unfolding journal_entry_at post_at
post_passed bytes p b letters rest post is each =
    let all = each_takes letter_takes p.count b letters rest each in
    (entry.Post p.actor p.first letters p.lost, rw (post, is, each) refl, ap (λ n. 1 + n) (sym all.many))

one_line : (bytes : List ℕ) (x : JournalEntry (List ℕ)) (rest : List ℕ) → begins (codes "post") bytes ≡ false → bytes ≡ entry_lines x ++ rest → IsToldEntry x → count_entry_lines x ≡ 1
unfolding line
one_line bytes (entry.Post a first letters lost) rest other is told =
    let post : begins (codes "post") (entry_lines (entry.Post a first letters lost) ++ rest) ≡ true = refl in
    absurd cc (other, post, ap (λ (l : List ℕ). begins (codes "post") l) is)
one_line bytes (entry.Draw a id keep) rest other is told = refl
one_line bytes (entry.Lose a id) rest other is told = refl
one_line bytes (entry.Local a input) rest other is told = refl
one_line bytes (entry.Idle a) rest other is told = refl
one_line bytes (entry.Refused a) rest other is told = absurd told

entry_long : (x : JournalEntry (List ℕ)) (rest : List ℕ) → count_entry_lines x ≡ 1 → IsToldEntry x → 1 + length rest ≤ length (entry_lines x ++ rest)
entry_long (entry.Post a first letters lost) rest one told =
    let words = actor_word a ∷ number_text first ∷ number_text (length letters) ∷ number_text lost ∷ [] in
    let behind = lines_of letter_line letters in
    let long = line_long (codes "post") words (behind ++ rest) in
    let whole = ap (λ (l : List ℕ). length l) (append_assoc (line (codes "post") words) behind rest) in
    omega (arith, long, whole, length-append behind rest)
entry_long (entry.Draw a id keep) rest one told = line_long (codes "draw") _ rest
entry_long (entry.Lose a id) rest one told = line_long (codes "lose") _ rest
entry_long (entry.Local a input) rest one told = line_long (codes "local") _ rest
entry_long (entry.Idle a) rest one told = line_long (codes "idle") _ rest
entry_long (entry.Refused a) rest one told = absurd told

pub short_passed : (bytes : List ℕ) (x : JournalEntry (List ℕ)) (rest : List ℕ) → begins (codes "post") bytes ≡ false → short_entry_at bytes ≡ Some (x, rest) →
    (y : JournalEntry (List ℕ)) × (journal_entry_at bytes ≡ Ok (y, rest)) × (1 ≡ count_entry_lines y)
unfolding journal_entry_at
short_passed bytes x rest other is =
    let told = short_takes.takes bytes x rest is in
    (x, rw (other, is) refl, sym (one_line bytes x rest other told.0 told.1))

pub short_long : (bytes : List ℕ) (x : JournalEntry (List ℕ)) (rest : List ℕ) → begins (codes "post") bytes ≡ false → short_entry_at bytes ≡ Some (x, rest) → 1 + length rest ≤ length bytes
short_long bytes x rest other is =
    let told = short_takes.takes bytes x rest is in
    rw told.0 (entry_long x rest (one_line bytes x rest other told.0 told.1) told.1)

-- ---- the journal

abbrev goes_on : List ℕ → Bool
goes_on rest = not (begins (codes "log") rest)

abbrev entries_at : ℕ → List (JournalEntry (List ℕ)) → List ℕ → Result (List (JournalEntry (List ℕ)) × List ℕ) ℕ
entries_at count entries rest = while_at goes_on (λ _ rest. journal_entry_at rest) count entries rest

abbrev pub Counting : List ℕ → ℕ → List ℕ → ℕ → Type 0
Counting bytes place rest lines =
    (entries : List (JournalEntry (List ℕ))) × (entries_at (length bytes - place) entries rest ≡ entries_at (length bytes) [] bytes) × (lines ≡ sum_by count_entry_lines entries)
    × (lines + length rest ≤ length bytes)

abbrev line_count : ℕ → LineCount
line_count lines = record { lines = lines }

pub count_begins : (bytes : List ℕ) → Counting bytes 0 bytes 0
count_begins bytes =
    let all : length bytes - 0 ≡ length bytes = omega arith in
    ([], ap (λ n. entries_at n [] bytes) all, refl, omega arith)

pub count_more : (bytes : List ℕ) (place : ℕ) (rest : List ℕ) (lines more : ℕ) (x : JournalEntry (List ℕ)) (after : List ℕ) → place < length bytes → begins (codes "log") rest ≡ false →
    journal_entry_at rest ≡ Ok (x, after) → more ≡ count_entry_lines x → more + length after ≤ length rest → Counting bytes place rest lines → Counting bytes (place + 1) after (lines + more)
count_more bytes place rest lines more x after less log is counts shorter (entries, so_far, sum, long) = (
  entries ++ x ∷ [],
  while_more goes_on (λ _ rest. journal_entry_at rest) (length bytes) place entries x rest after _ less (ap not log) is so_far,
  let push = sum_by_push count_entry_lines entries x in omega (arith, sum, counts, push),
  omega (arith, long, shorter),
)

pub count_stops : (bytes : List ℕ) (place : ℕ) (rest : List ℕ) (lines : ℕ) (e : Broken) → place < length bytes → begins (codes "log") rest ≡ false →
    LineStopsAt e (journal_entry_at rest) → Counting bytes place rest lines → LineStopsAt e (journal_at bytes)
unfolding journal_at
count_stops bytes place rest lines e less log stops (entries, so_far, sum, long) =
    while_stops goes_on (λ _ rest. journal_entry_at rest) (length bytes) place entries rest e _ less (ap not log) so_far stops

pub count_done : (bytes : List ℕ) (place : ℕ) (rest : List ℕ) (lines : ℕ) → begins (codes "log") rest ≡ true → Counting bytes place rest lines →
    (entries : List (JournalEntry (List ℕ))) × (journal_at bytes ≡ Ok (entries, rest)) × (line_count lines ≡ count_journal_lines entries)
unfolding journal_at
count_done bytes place rest lines log (entries, so_far, sum, long) =
    (entries, while_done goes_on (λ _ rest. journal_entry_at rest) (length bytes - place) entries rest _ (ap not log) so_far, ap line_count sum)

pub count_last : (bytes : List ℕ) (place : ℕ) (rest : List ℕ) (lines : ℕ) → length bytes ≤ place → begins (codes "log") rest ≡ false → Counting bytes place rest lines → journal_at bytes ≡ Err (length rest)
unfolding journal_at
count_last bytes place rest lines over log (entries, so_far, sum, long) =
    while_last goes_on (λ _ rest. journal_entry_at rest) (length bytes - place) entries rest _ (omega (arith, over)) (ap not log) so_far

-- ---- the record

abbrev beside : {A B : Type 0} → A → B → A × B
beside x y = (x, y)

pub record_kept : {J : Type 0} (of : List (JournalEntry (List ℕ)) → J) (bytes b0 : List ℕ) (setup : Setup) (b1 : List ℕ) (history : List (JournalEntry (List ℕ)) × List Entry) (b2 : List ℕ) (kept : J) (log : List Entry)
    (switches : List SwitchRecord) (script closing : ℕ) (rest : List ℕ) → line_at bytes (first_line_at bytes) ≡ Ok b0 → setup_at b0 ≡ Ok (setup, b1) → history_at b1 ≡ Ok (history, b2) →
    beside kept log ≡ beside (of history.0) history.1 → outcome_in_text (length setup.ports) (length log) b2 ≡ Ok ((switches, (script, closing)), rest) →
    (r : Record) × (record_at bytes ≡ Ok (r, rest))
    × (beside {A = Record} (record { setup = setup; journal = []; log = log; switches = switches; script = script; closing = closing }) kept ≡ beside (bare r) (of r.journal))
unfolding record_at
record_kept {J} of bytes b0 setup b1 history b2 kept log switches script closing rest first set told is outcome =
    let same : log ≡ history.1 = ap (λ (p : J × List Entry). p.1) is in
    let end : outcome_in_text (length setup.ports) (length history.1) b2 ≡ Ok ((switches, (script, closing)), rest) =
    ap (λ (l : List Entry). outcome_in_text (length setup.ports) (length l) b2) (sym same) ∙ outcome in (
      record { setup = setup; journal = history.0; log = history.1; switches = switches; script = script; closing = closing },
      rw (first, set, told, end) refl,
      ap (λ (p : J × List Entry). beside {A = Record} (record { setup = setup; journal = []; log = p.1; switches = switches; script = script; closing = closing }) p.0) is,
    )

pub whole_found : (bytes : List ℕ) (b : Record) (journal : List (JournalEntry (List ℕ))) (r : Record) → report_at bytes ≡ Ok r → beside b journal ≡ beside (bare r) r.journal →
    IsRecord (record b { journal = journal }) × (text (record b { journal = journal }) ≡ bytes)
whole_found bytes b journal r e is =
    subst (λ (p : Record × List (JournalEntry (List ℕ))). IsRecord (record p.0 { journal = p.1 }) × (text (record p.0 { journal = p.1 }) ≡ bytes)) (sym is) (report_takes bytes r e)
