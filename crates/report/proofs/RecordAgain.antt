-- The text of a record is read as that record.
use Rattle.std.proofs.Common.{◌≡◌, ℕ, suc, ◌+◌, ◌^◌, ◌≤◌, ◌<◌, true, false, not, List, [], ◌∷◌, ◌++◌, length, Ok, refl, sym, ap, subst, ◌∙◌, append_assoc, length-append, arith}
use Rattle.std.specs.Prelude.{Option, Some, None, codes, IfSome}
use Rattle.std.specs.List.{AllByRecursion}
use Rattle.journal.specs.declared.journal.Actor.TheVariants.{Controller}
use Rattle.journal.specs.declared.journal.JournalEntry.{JournalEntry}
use Rattle.journal.specs.declared.journal.JournalEntry.TheVariants as entry
use Rattle.journal.specs.declared.journal.Letter.{Letter}
use Rattle.vr_log.specs.declared.entry.Entry.{Entry}
use Rattle.report.specs.declared.record.Record.{Record}
use Rattle.report.specs.declared.record.SwitchRecord.{SwitchRecord}
use Rattle.report.specs.declared.switch_lines.SwitchLine.{SwitchLine}
use Rattle.report.specs.OneLine.{begins, letter_at, short_entry_at, role_words_at, switch_counts_at, switch_line_at, event_in_text, executed_at, row_at, first_line_at, last_line_at}
use Rattle.report.specs.Reading.{post_at, journal_entry_at, journal_at, told_in_text, switches_at, history_at, outcome_in_text, record_at, report_at}
use Rattle.report.specs.Records.{IsToldEntry, FitsLetter, IsEventOf, IsToldExecuted, IsShown, IsToldSwitch, AreToldSwitches, IsRecord}
use Rattle.report.specs.Report.{word, newline, line, number_text, actor_word, number_or_dash, master_word, labelled, role_words, count_words, switch_line, told_lines, switch_lines, event_line, executed_line, row_line, letter_line, entry_lines, log_lines, lines_of, sum_words, end_line, text}
use Rattle.report.specs.Spelled.{◌>>=◌, dash_or, number64_at, controller_in_text}
use Rattle.report.proofs.LinesAgain as again
use Rattle.report.proofs.ListsAgain.{lines_then, line_then, fits_line, no_lines, more_lines, each_again, while_again, all_behind}
use Rattle.report.proofs.Readers.{after_then, again_then, known_then, end_then, parted, parted_end}
use Rattle.report.proofs.WordsAgain.{number32, number64_or_dash, controller_or_dash, or_dash, labelled_then, parted_label}
use Rattle.report.proofs.SetupAgain.{setup_again}
use Rattle.report.proofs.Texts.{IsParted, end_again}
use Rattle.report.proofs.LogAgain.{log_again}
use Rattle.of_bytes.proofs.Steps.{ok_is}

-- ---- the journal

short_is : (e : JournalEntry (List ℕ)) (rest : List ℕ) → IsToldEntry e → begins (codes "post") (entry_lines e ++ rest) ≡ false → short_entry_at (entry_lines e ++ rest) ≡ Some (e, rest)
unfolding short_entry_at line
short_is (entry.Post a first letters lost) rest told short = absurd (is_post short)
  where
    is_post : true ≡ false → ⊥
    is_post e = cc
short_is (entry.Draw a id keep) rest told short = again.draw_is a id keep rest told.0 told.1
short_is (entry.Lose a id) rest told short = again.lose_is a id rest told.0 told.1
short_is (entry.Local a input) rest told short = again.local_is a input rest told.0 told.1
short_is (entry.Idle a) rest told short = again.idle_is a rest told
short_is (entry.Refused a) rest told short = absurd told

post_is : (a : _) (first : ℕ) (letters : List (Letter (List ℕ))) (lost : ℕ) (rest : List ℕ) → IsToldEntry (entry.Post a first letters lost) →
    post_at (entry_lines (entry.Post a first letters lost) ++ rest) ≡ Ok (entry.Post a first letters lost, rest)
unfolding post_at
post_is a first letters lost rest told =
    ap post_at (append_assoc (line (codes "post") (actor_word a ∷ number_text first ∷ number_text (length letters) ∷ number_text lost ∷ [])) (lines_of letter_line letters) rest)
    ∙ line_then _ _ _ _ _ (again.post_is (record { actor = a; first = first; count = length letters; lost = lost }) _ (record { actor = told.0; first = told.1; count = told.2; lost = told.3 }))
    (lines_then _ _ _ _ (each_again letter_at letter_line FitsLetter again.letter_is letters rest told.4) refl)

entry_is : (e : JournalEntry (List ℕ)) (rest : List ℕ) → IsToldEntry e → journal_entry_at (entry_lines e ++ rest) ≡ Ok (e, rest)
unfolding journal_entry_at line
entry_is (entry.Post a first letters lost) rest told = post_is a first letters lost rest told
entry_is (entry.Draw a id keep) rest told = fits_line (entry_lines (entry.Draw a id keep) ++ rest) _ _ (short_is (entry.Draw a id keep) rest told refl)
entry_is (entry.Lose a id) rest told = fits_line (entry_lines (entry.Lose a id) ++ rest) _ _ (short_is (entry.Lose a id) rest told refl)
entry_is (entry.Local a input) rest told = fits_line (entry_lines (entry.Local a input) ++ rest) _ _ (short_is (entry.Local a input) rest told refl)
entry_is (entry.Idle a) rest told = fits_line (entry_lines (entry.Idle a) ++ rest) _ _ (short_is (entry.Idle a) rest told refl)
entry_is (entry.Refused a) rest told = absurd told

-- what an entry does not begin with
record BeginsEntry (bytes : List ℕ) : Type 0 where
  pub log : begins (codes "log") bytes ≡ false
  pub link : begins (codes "link") bytes ≡ false
  pub deny : begins (codes "deny") bytes ≡ false
  pub some : 1 ≤ length bytes

entry_begins : (e : JournalEntry (List ℕ)) (rest : List ℕ) → IsToldEntry e → BeginsEntry (entry_lines e ++ rest)
unfolding line
entry_begins (entry.Post a first letters lost) rest told = record { log = refl; link = refl; deny = refl; some = omega arith }
entry_begins (entry.Draw a id keep) rest told = record { log = refl; link = refl; deny = refl; some = omega arith }
entry_begins (entry.Lose a id) rest told = record { log = refl; link = refl; deny = refl; some = omega arith }
entry_begins (entry.Local a input) rest told = record { log = refl; link = refl; deny = refl; some = omega arith }
entry_begins (entry.Idle a) rest told = record { log = refl; link = refl; deny = refl; some = omega arith }
entry_begins (entry.Refused a) rest told = absurd told

many : (journal : List (JournalEntry (List ℕ))) (rest : List ℕ) → AllByRecursion IsToldEntry journal → length journal ≤ length (lines_of entry_lines journal ++ rest)
unfolding lines_of
many [] rest told = omega arith
many (e ∷ journal) rest told =
    let some = (entry_begins e [] told.0).some in
    let more = many journal rest told.1 in
    omega (arith, some, more, length-append (entry_lines e) [], length-append (entry_lines e ++ lines_of entry_lines journal) rest, length-append (entry_lines e) (lines_of entry_lines journal), length-append (lines_of entry_lines journal) rest)

journal_again : (journal : List (JournalEntry (List ℕ))) (rest : List ℕ) → AllByRecursion IsToldEntry journal → begins (codes "log") rest ≡ true → journal_at (lines_of entry_lines journal ++ rest) ≡ Ok (journal, rest)
unfolding journal_at
journal_again journal rest told ends =
    while_again (λ rest. not (begins (codes "log") rest)) (λ _ rest. journal_entry_at rest) entry_lines (λ before e. IsToldEntry e)
    (λ before e rest told. ap not (entry_begins e rest told).log)
    (λ before e rest told. entry_is e rest told)
    (length (lines_of entry_lines journal ++ rest)) [] journal rest (many journal rest told) (all_behind IsToldEntry [] journal told) (ap not ends)

-- neither a wire nor a rule stands where the journal does
no_link : (journal : List (JournalEntry (List ℕ))) (rest : List ℕ) → AllByRecursion IsToldEntry journal → begins (codes "link") rest ≡ false → begins (codes "link") (lines_of entry_lines journal ++ rest) ≡ false
no_link [] rest told e = ap (begins (codes "link")) (no_lines entry_lines rest) ∙ e
no_link (x ∷ journal) rest told e = ap (begins (codes "link")) (more_lines entry_lines x journal rest) ∙ (entry_begins x (lines_of entry_lines journal ++ rest) told.0).link

no_deny : (journal : List (JournalEntry (List ℕ))) (rest : List ℕ) → AllByRecursion IsToldEntry journal → begins (codes "deny") rest ≡ false → begins (codes "deny") (lines_of entry_lines journal ++ rest) ≡ false
no_deny [] rest told e = ap (begins (codes "deny")) (no_lines entry_lines rest) ∙ e
no_deny (x ∷ journal) rest told e = ap (begins (codes "deny")) (more_lines entry_lines x journal rest) ∙ (entry_begins x (lines_of entry_lines journal ++ rest) told.0).deny

-- ---- the switches

three_labels : (a b c d e f rest : List ℕ) → ((a ++ b) ++ ((c ++ d) ++ (e ++ f))) ++ rest ≡ a ++ (b ++ (c ++ (d ++ (e ++ (f ++ rest)))))
three_labels a b c d e f rest = simp append_assoc refl

pub role_parts : (t : SwitchRecord) (rest : List ℕ) → role_words t ++ rest ≡ word (codes "generation") ++ (word (number_or_dash t.generation) ++ (word (codes "master") ++ (word (master_word t.master) ++ (word (codes "life") ++ (word (number_text t.life) ++ rest)))))
unfolding role_words labelled
role_parts t rest = three_labels (word (codes "generation")) (word (number_or_dash t.generation)) (word (codes "master")) (word (master_word t.master)) (word (codes "life")) (word (number_text t.life)) rest

pub generation_word : (g : Option ℕ) → number_or_dash g ≡ or_dash number_text g
unfolding number_or_dash number_text
generation_word None = refl
generation_word (Some g) = refl

generation_then : {R : Type 0} (g : Option ℕ) (rest : List ℕ) (more : Option ℕ × List ℕ → Option R) (y : Option R) → IfSome g (λ n. n < 2 ^ 64) → IsParted rest → more (g, rest) ≡ y →
    (dash_or number64_at (word (number_or_dash g) ++ rest) >>= more) ≡ y
generation_then g rest more y fits follows e =
    subst (λ t. (dash_or number64_at (word t ++ rest) >>= more) ≡ y) (sym (generation_word g)) (again_then number64_or_dash g rest more y fits follows e)

pub master_is : (c : Option ℕ) → master_word c ≡ or_dash (λ c. actor_word (Controller c)) c
unfolding master_word
master_is None = refl
master_is (Some c) = refl

master_then : {R : Type 0} (c : Option ℕ) (rest : List ℕ) (more : Option ℕ × List ℕ → Option R) (y : Option R) → IfSome c (λ n. n < 2 ^ 8) → IsParted rest → more (c, rest) ≡ y →
    (dash_or controller_in_text (word (master_word c) ++ rest) >>= more) ≡ y
master_then c rest more y fits follows e =
    subst (λ t. (dash_or controller_in_text (word t ++ rest) >>= more) ≡ y) (sym (master_is c)) (again_then controller_or_dash c rest more y fits follows e)

role_is : (s : ℕ) (t : SwitchRecord) (rest : List ℕ) → IsToldSwitch s t → IsParted rest → role_words_at (role_words t ++ rest) ≡ Some ((t.generation, t.master, t.life), rest)
unfolding role_words_at
role_is s t rest told follows =
    ap role_words_at (role_parts t rest)
    ∙ known_then (codes "generation") _ _ _
    (generation_then t.generation _ _ _ told.generation (parted (codes "master") _)
    (known_then (codes "master") _ _ _
    (master_then t.master _ _ _ told.master (parted (codes "life") _)
    (known_then (codes "life") _ _ _
    (again_then number32 t.life _ _ _ told.life follows refl)))))

role_then : {R : Type 0} (s : ℕ) (t : SwitchRecord) (rest : List ℕ) (more : (Option ℕ × Option ℕ × ℕ) × List ℕ → Option R) (y : Option R) → IsToldSwitch s t → IsParted rest → more ((t.generation, t.master, t.life), rest) ≡ y →
    (role_words_at (role_words t ++ rest) >>= more) ≡ y
role_then s t rest more y told follows e = rw (role_is s t rest told follows) e

parted_role : (t : SwitchRecord) (rest : List ℕ) → IsParted (role_words t ++ rest)
unfolding role_words labelled word
parted_role t rest = refl

-- the line of a switch, part by part
five_parts : (first of role a b c d e end rest : List ℕ) → (first ++ (of ++ (role ++ ((a ++ (b ++ (c ++ (d ++ e)))) ++ end)))) ++ rest ≡ first ++ (of ++ (role ++ (a ++ (b ++ (c ++ (d ++ (e ++ (end ++ rest))))))))
five_parts first of role a b c d e end rest = simp append_assoc refl

pub switch_parts : (s : ℕ) (t : SwitchRecord) (rest : List ℕ) → switch_line s t ++ rest ≡
    codes "switch" ++ (word (number_text s) ++ (role_words t ++ (labelled (codes "events") (number_text (length t.events)) ++ (labelled (codes "held") (number_text t.held) ++ (labelled (codes "executed") (number_text (length t.executed))
    ++ (labelled (codes "rows") (number_text (length t.rows)) ++ (labelled (codes "sent") (number_text t.sent) ++ (newline ++ rest))))))))
unfolding switch_line count_words
switch_parts s t rest =
    five_parts (codes "switch") (word (number_text s)) (role_words t) (labelled (codes "events") (number_text (length t.events))) (labelled (codes "held") (number_text t.held)) (labelled (codes "executed") (number_text (length t.executed)))
    (labelled (codes "rows") (number_text (length t.rows))) (labelled (codes "sent") (number_text t.sent)) newline rest

abbrev pub line_of : SwitchRecord → SwitchLine
line_of t = record { generation = t.generation; master = t.master; life = t.life; events = length t.events; held = t.held; executed = length t.executed; rows = length t.rows; sent = t.sent }

switch_line_is : (s : ℕ) (t : SwitchRecord) (rest : List ℕ) → s < 2 ^ 8 → IsToldSwitch s t → switch_line_at s (switch_line s t ++ rest) ≡ Some (line_of t, rest)
unfolding switch_line_at switch_counts_at
switch_line_is s t rest small told =
    ap (switch_line_at s) (switch_parts s t rest)
    ∙ after_then (codes "switch") _ _ _
    (again.of_then s _ _ _ small (parted_role t _)
    (role_then s t _ _ _ told (parted_label (codes "events") _ _)
    (labelled_then (codes "events") (length t.events) _ _ _ told.few_events (parted_label (codes "held") _ _)
    (labelled_then (codes "held") t.held _ _ _ told.held (parted_label (codes "executed") _ _)
    (labelled_then (codes "executed") (length t.executed) _ _ _ told.few_executed (parted_label (codes "rows") _ _)
    (labelled_then (codes "rows") (length t.rows) _ _ _ told.few_rows (parted_label (codes "sent") _ _)
    (labelled_then (codes "sent") t.sent _ _ _ told.sent (parted_end rest)
    (end_then rest _ _ refl))))))))

four_parts : (a b c d rest : List ℕ) → (a ++ (b ++ (c ++ d))) ++ rest ≡ a ++ (b ++ (c ++ (d ++ rest)))
four_parts a b c d rest = simp append_assoc refl

pub told_parts : (s : ℕ) (t : SwitchRecord) (rest : List ℕ) → told_lines s t ++ rest ≡ switch_line s t ++ (lines_of event_line t.events ++ (lines_of (executed_line s) t.executed ++ (lines_of (row_line s) t.rows ++ rest)))
unfolding told_lines
told_parts s t rest = four_parts (switch_line s t) (lines_of event_line t.events) (lines_of (executed_line s) t.executed) (lines_of (row_line s) t.rows) rest

told_is : (s : ℕ) (t : SwitchRecord) (rest : List ℕ) → s < 2 ^ 8 → IsToldSwitch s t → told_in_text s (told_lines s t ++ rest) ≡ Ok (t, rest)
unfolding told_in_text
told_is s t rest small told =
    ap (told_in_text s) (told_parts s t rest)
    ∙ line_then _ _ _ _ _ (switch_line_is s t _ small told)
    (lines_then _ _ _ _ (each_again (event_in_text s) event_line (IsEventOf s) (again.event_is s) t.events _ told.events)
    (lines_then _ _ _ _ (each_again (executed_at s) (executed_line s) IsToldExecuted (λ x rest is. again.executed_is s x rest small is) t.executed _ told.executed)
    (lines_then _ _ _ _ (each_again (row_at s) (row_line s) IsShown (λ r rest is. again.row_is s r rest small is) t.rows _ told.rows) refl)))

pub more_switches : (s : ℕ) (t : SwitchRecord) (switches : List SwitchRecord) (rest : List ℕ) → switch_lines s (t ∷ switches) ++ rest ≡ told_lines s t ++ (switch_lines (s + 1) switches ++ rest)
unfolding switch_lines
more_switches s t switches rest = append_assoc (told_lines s t) (switch_lines (s + 1) switches) rest

pub no_switches : (s : ℕ) (rest : List ℕ) → switch_lines s [] ++ rest ≡ rest
unfolding switch_lines
no_switches s rest = refl

switches_again : (switches : List SwitchRecord) (s : ℕ) (rest : List ℕ) → s + length switches ≤ 2 ^ 8 → AreToldSwitches s switches → switches_at (length switches) s (switch_lines s switches ++ rest) ≡ Ok (switches, rest)
unfolding switches_at
switches_again [] s rest small told = ap (λ (l : List ℕ). Ok ([], l)) (no_switches s rest)
switches_again (t ∷ switches) s rest small told =
    ap (switches_at (suc (length switches)) s) (more_switches s t switches rest)
    ∙ lines_then _ _ _ _ (told_is s t _ (omega (arith, small)) told.0)
    (lines_then _ _ _ _ (switches_again switches (s + 1) rest (omega (arith, small)) told.1) refl)

all_switches : (ports : List ℕ) (switches : List SwitchRecord) (rest : List ℕ) → length switches ≡ length ports → length ports ≤ 64 → AreToldSwitches 0 switches → switches_at (length ports) 0 (switch_lines 0 switches ++ rest) ≡ Ok (switches, rest)
all_switches ports switches rest same few told = ap (λ n. switches_at n 0 (switch_lines 0 switches ++ rest)) (sym same) ∙ switches_again switches 0 rest (omega (arith, same, few)) told

-- ---- the report

sums_parted : (entries : ℕ) (switches : List SwitchRecord) (rest : List ℕ) → IsParted (sum_words entries switches ++ rest)
unfolding sum_words labelled word
sums_parted entries switches rest = refl

last_is : (r : Record) → r.script < 2 ^ 64 → r.closing < 2 ^ 64 → last_line_at (sum_words (length r.log) r.switches) (end_line r) ≡ Some ((r.script, r.closing), [])
unfolding last_line_at end_line
last_is r script closing =
    after_then (codes "end") _ _ _
    (labelled_then (codes "script") r.script _ _ _ script (parted_label (codes "closing") (number_text r.closing) _)
    (labelled_then (codes "closing") r.closing _ _ _ closing (sums_parted (length r.log) r.switches newline)
    (after_then (sum_words (length r.log) r.switches) newline _ _
    (end_then [] _ _ refl))))

first_is : (rest : List ℕ) → first_line_at (codes "ravana report 1" ++ (newline ++ rest)) ≡ Some rest
unfolding first_line_at
first_is rest = after_then (codes "ravana report 1") _ _ _ (end_again rest)

log_begins : (log : List Entry) (rest : List ℕ) → (begins (codes "log") (log_lines log ++ rest) ≡ true) × (begins (codes "link") (log_lines log ++ rest) ≡ false) × (begins (codes "deny") (log_lines log ++ rest) ≡ false)
unfolding log_lines line
log_begins log rest = (refl, refl, refl)

history_is : (r : Record) (rest : List ℕ) → IsRecord r → history_at (lines_of entry_lines r.journal ++ (log_lines r.log ++ rest)) ≡ Ok ((r.journal, r.log), rest)
unfolding history_at
history_is r rest is =
    let opens = log_begins r.log rest in
    lines_then _ _ _ _ (journal_again r.journal _ is.journal_is opens.0) (lines_then _ _ _ _ (log_again r.log _ is.few_entries is.log) refl)

outcome_is : (r : Record) → IsRecord r → outcome_in_text (length r.setup.ports) (length r.log) (switch_lines 0 r.switches ++ end_line r) ≡ Ok ((r.switches, (r.script, r.closing)), [])
unfolding outcome_in_text
outcome_is r is =
    let few = is.setup.few in
    let same = is.switches in
    lines_then _ _ _ _ (all_switches r.setup.ports r.switches (end_line r) same few is.told) (line_then (end_line r) _ _ _ _ (last_is r is.script is.closing_is) refl)

record_is : (r : Record) → IsRecord r → record_at (text r) ≡ Ok (r, [])
unfolding record_at text
record_is r is =
    let behind : List ℕ = switch_lines 0 r.switches ++ end_line r in
    let opens = log_begins r.log behind in
    line_then (text r) _ _ _ _ (first_is _)
    (lines_then _ _ _ _ (setup_again r.setup _ is.setup is.rules (no_link r.journal _ is.journal_is opens.1) (no_deny r.journal _ is.journal_is opens.2))
    (lines_then _ _ _ _ (history_is r _ is) (lines_then _ _ _ _ (outcome_is r is) refl)))

-- what is written of a record is read as it
pub report_again : (r : Record) → IsRecord r → report_at (text r) ≡ Ok r
unfolding report_at
report_again r is = rw (report_at, record_is r is) refl

-- a text is one record's
pub one_record : (r other : Record) → IsRecord r → IsRecord other → text r ≡ text other → r ≡ other
one_record r other is also e = ok_is ℕ r other (sym (report_again r is) ∙ ap report_at e ∙ report_again other also)
