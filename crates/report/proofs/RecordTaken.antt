-- A record is written as it was read.
use Rattle.std.proofs.Common.{◌≡◌, ℕ, zero, suc, ◌+◌, ◌^◌, ◌<◌, not, List, [], ◌∷◌, ◌++◌, length, Result, Ok, Err, refl, sym, ap, ◌∙◌, append_assoc, arith}
use Rattle.std.specs.Prelude.{Option, Some, codes, IfOk, IfSome}
use Rattle.std.specs.List.{AllByRecursion}
use Rattle.of_bytes.proofs.Steps.{ok_is}
use Rattle.numerals.specs.Numerals.{is_numeral}
use Rattle.journal.specs.declared.journal.JournalEntry.{JournalEntry}
use Rattle.journal.specs.declared.journal.JournalEntry.TheVariants as entry
use Rattle.journal.proofs.All.{all_append}
use Rattle.vr_log.specs.declared.entry.Entry.{Entry}
use Rattle.vr_log.specs.Log.{log_size}
use Rattle.vr_log.specs.Same.{same_numbers}
use Rattle.vr_log.proofs.Equal.{numbers_equal}
use Rattle.report.specs.declared.fault.ReportFault.{ReportFault}
use Rattle.report.specs.declared.record.Record.{Record}
use Rattle.report.specs.declared.record.SwitchRecord.{SwitchRecord}
use Rattle.report.specs.declared.switch_lines.SwitchLine.{SwitchLine}
use Rattle.report.specs.Lines.{line_at, each_at}
use Rattle.report.specs.OneLine.{begins, letter_at, post_line_at, short_entry_at, log_line_at, log_entry_at, role_words_at, switch_counts_at, switch_line_at, event_in_text, executed_at, row_at, first_line_at, last_line_at}
use Rattle.report.specs.Reading.{post_at, journal_entry_at, journal_at, log_in_text, told_in_text, switches_at, setup_at, history_at, outcome_in_text, record_at, report_at, all_of, line_number, IsReadAs}
use Rattle.report.specs.Records.{IsToldEntry, IsLogEntry, IsToldSwitch, AreToldSwitches, IsRecord}
use Rattle.report.specs.Report.{word, newline, line, number_text, actor_word, number_or_dash, master_word, labelled, switch_line, told_lines, switch_lines, event_line, executed_line, letter_line, entry_lines, log_line, log_lines, lines_of, sum_words, end_line, setup_lines, text}
use Rattle.report.specs.Spelled.{word_at}
use Rattle.report.proofs.LinesAgain.{post_words}
use Rattle.report.proofs.LinesTaken.{letter_takes, post_takes, short_takes, log_entry_takes, event_takes, executed_takes, row_takes, took_of}
use Rattle.report.proofs.ListsTaken.{each_takes, Kept, while_takes}
use Rattle.report.proofs.Readers.{line_is}
use Rattle.report.proofs.RecordAgain.{role_parts, generation_word, master_is, switch_parts, line_of, told_parts, more_switches, no_switches}
use Rattle.report.proofs.SetupTaken.{setup_takes}
use Rattle.report.proofs.Takers.{then, then_lines, branches, tested, fits, both_found, both_are, took, took_text, took_known, took_end, closes, Spelt}
use Rattle.report.proofs.Texts.{word_takes, end_takes}
use Rattle.report.proofs.WordsTaken.{number32_takes, number64_takes, number64_or_dash_takes, controller_or_dash_takes, labelled_takes}

-- ---- the journal

post_is : (bytes : List ℕ) (x : JournalEntry (List ℕ)) (rest : List ℕ) → post_at bytes ≡ Ok (x, rest) → Spelt entry_lines IsToldEntry bytes x rest
unfolding post_at
post_is bytes x rest e =
    then_lines (line_at bytes (post_line_at bytes)) _ _ e (λ p here e.
    then_lines (each_at letter_at p.0.count p.1) _ _ e (λ letters there e.
    let head = post_takes.takes bytes p.0 p.1 (fits bytes (post_line_at bytes) p here) in
    let all = each_takes letter_takes p.0.count p.1 letters.0 letters.1 there in
    let many = all.many in
    let few = head.1.count in
    let first : List ℕ → List ℕ = λ behind. line (codes "post") (post_words p.0) ++ behind in
    both_are (Spelt entry_lines IsToldEntry bytes) (entry.Post p.0.actor p.0.first letters.0 p.0.lost) x letters.1 rest e
    (head.0 ∙ ap first all.spelled ∙ counted p.0.actor p.0.first p.0.count p.0.lost letters.0 letters.1 many, (head.1.actor, head.1.first, omega (arith, many, few), head.1.lost, all.each))))
  where
    counted : (a : _) (first count lost : ℕ) (letters : List _) (rest : List ℕ) → length letters ≡ count →
        line (codes "post") (actor_word a ∷ number_text first ∷ number_text count ∷ number_text lost ∷ []) ++ (lines_of letter_line letters ++ rest) ≡ entry_lines (entry.Post a first letters lost) ++ rest
    counted a first count lost letters rest many =
        ap (λ n. line (codes "post") (actor_word a ∷ number_text first ∷ number_text n ∷ number_text lost ∷ []) ++ (lines_of letter_line letters ++ rest)) (sym many)
        ∙ sym (append_assoc (line (codes "post") (actor_word a ∷ number_text first ∷ number_text (length letters) ∷ number_text lost ∷ [])) (lines_of letter_line letters) rest)

entry_is : (bytes : List ℕ) (x : JournalEntry (List ℕ)) (rest : List ℕ) → journal_entry_at bytes ≡ Ok (x, rest) → Spelt entry_lines IsToldEntry bytes x rest
unfolding journal_entry_at
entry_is bytes x rest e =
    branches (begins (codes "post") bytes) _ _ _ e (λ _ e. post_is bytes x rest e)
    (λ _ e. short_takes.takes bytes x rest (fits bytes (short_entry_at bytes) (x, rest) e))

journal_is : (bytes : List ℕ) (journal : List (JournalEntry (List ℕ))) (rest : List ℕ) → journal_at bytes ≡ Ok (journal, rest) → Kept entry_lines (AllByRecursion IsToldEntry) (length bytes) [] bytes journal rest
unfolding journal_at
journal_is bytes journal rest e =
    while_takes (λ rest. not (begins (codes "log") rest)) (λ _ rest. journal_entry_at rest) entry_lines (AllByRecursion IsToldEntry)
    (λ before bytes x rest so_far e. let is = entry_is bytes x rest e in (is.0, all_append IsToldEntry before (x ∷ []) so_far (is.1, tt)))
    (length bytes) [] bytes journal rest tt e

-- ---- the log

abbrev log_text : ℕ → List ℕ → List ℕ → List ℕ
log_text count size rest = codes "log" ++ (word (number_text count) ++ (word size ++ (newline ++ rest)))

log_line_is : (bytes : List ℕ) (x : ℕ × List ℕ) (rest : List ℕ) → log_line_at bytes ≡ Some (x, rest) → (bytes ≡ log_text x.0 x.1 rest) × (x.0 < 2 ^ 64)
unfolding log_line_at
log_line_is bytes x rest e =
    took_text (codes "log") bytes _ _ e (λ b0 e0 e.
    took number64_takes b0 _ _ e (λ count b1 e1 f1 e.
    then (word_at b1) _ _ e (λ size is e.
    took_end size.1 _ _ e (λ end e3 e.
    tested (λ (x : ℕ × List ℕ) rest. (bytes ≡ log_text x.0 x.1 rest) × (x.0 < 2 ^ 64)) (is_numeral size.0) (count, size.0) end x rest e (λ _.
    (e0 ∙ ap (λ l. codes "log" ++ l) (e1 ∙ ap (λ l. word (number_text count) ++ l) (word_takes b1 size.0 size.1 is ∙ ap (λ l. word size.0 ++ l) e3)), f1))))))

-- a log that is written in these bytes
record IsLogText (bytes : List ℕ) (log : List Entry) (rest : List ℕ) : Type 0 where
  pub spelled : bytes ≡ log_lines log ++ rest
  pub few : length log < 2 ^ 64
  pub each : AllByRecursion IsLogEntry log

log_parts : (log : List Entry) (rest : List ℕ) → log_lines log ++ rest ≡ log_text (length log) (number_text (log_size log)) (lines_of log_line log ++ rest)
unfolding log_lines
log_parts log rest =
    append_assoc (line (codes "log") (number_text (length log) ∷ number_text (log_size log) ∷ [])) (lines_of log_line log) rest
    ∙ line_is (codes "log") (number_text (length log) ∷ number_text (log_size log) ∷ []) (lines_of log_line log ++ rest)

log_is : (bytes : List ℕ) (log : List Entry) (rest : List ℕ) → log_in_text bytes ≡ Ok (log, rest) → IsLogText bytes log rest
unfolding log_in_text
log_is bytes log rest e =
    then_lines (line_at bytes (log_line_at bytes)) _ _ e (λ l here e.
    then_lines (each_at log_entry_at l.0.0 l.1) _ _ e (λ entries there e.
    let head = log_line_is bytes l.0 l.1 (fits bytes (log_line_at bytes) l here) in
    let all = each_takes log_entry_takes l.0.0 l.1 entries.0 entries.1 there in
    let many = all.many in
    let few = head.1 in
    branches (same_numbers (number_text (log_size entries.0)) l.0.1) _ _ _ e
    (λ same e. both_are (IsLogText bytes) entries.0 log entries.1 rest e (record {
      spelled =
          head.0 ∙ ap (λ size. log_text l.0.0 size l.1) (sym (numbers_equal (number_text (log_size entries.0)) l.0.1 same)) ∙ ap (λ n. log_text n (number_text (log_size entries.0)) l.1) (sym many)
          ∙ ap (log_text (length entries.0) (number_text (log_size entries.0))) all.spelled ∙ sym (log_parts entries.0 entries.1);
      few = omega (arith, many, few);
      each = all.each;
    }))
    (λ _ e. absurd cc)))

-- ---- the switches

abbrev role_text : Option ℕ → Option ℕ → ℕ → List ℕ → List ℕ
role_text g m life rest =
    word (codes "generation") ++ (word (number_or_dash g) ++ (word (codes "master") ++ (word (master_word m) ++ (word (codes "life") ++ (word (number_text life) ++ rest)))))

record IsRole (bytes : List ℕ) (x : Option ℕ × Option ℕ × ℕ) (rest : List ℕ) : Type 0 where
  pub spelled : bytes ≡ role_text x.0 x.1 x.2 rest
  pub generation : IfSome x.0 (λ g. g < 2 ^ 64)
  pub master : IfSome x.1 (λ c. c < 2 ^ 8)
  pub life : x.2 < 2 ^ 32

role_is : (bytes : List ℕ) (x : Option ℕ × Option ℕ × ℕ) (rest : List ℕ) → role_words_at bytes ≡ Some (x, rest) → IsRole bytes x rest
unfolding role_words_at
role_is bytes x rest e =
    took_known (codes "generation") bytes _ _ e (λ b0 e0 e.
    took number64_or_dash_takes b0 _ _ e (λ g b1 e1 f1 e.
    took_known (codes "master") b1 _ _ e (λ b2 e2 e.
    took controller_or_dash_takes b2 _ _ e (λ m b3 e3 f3 e.
    took_known (codes "life") b3 _ _ e (λ b4 e4 e.
    took number32_takes b4 _ _ e (λ life b5 e5 f5 e.
    both_found (IsRole bytes) (g, m, life) x b5 rest e
    (record { spelled = rw (e0, e1, e2, e3, e4, e5, ← generation_word g, ← master_is m) refl; generation = f1; master = f3; life = f5 })))))))

abbrev switch_text : ℕ → SwitchLine → List ℕ → List ℕ
switch_text s l rest =
    codes "switch" ++ (word (number_text s) ++ role_text l.generation l.master l.life (labelled (codes "events") (number_text l.events) ++ (labelled (codes "held") (number_text l.held)
    ++ (labelled (codes "executed") (number_text l.executed) ++ (labelled (codes "rows") (number_text l.rows) ++ (labelled (codes "sent") (number_text l.sent) ++ (newline ++ rest)))))))

record IsSwitchText (s : ℕ) (bytes : List ℕ) (l : SwitchLine) (rest : List ℕ) : Type 0 where
  pub spelled : bytes ≡ switch_text s l rest
  pub generation_is : IfSome l.generation (λ g. g < 2 ^ 64)
  pub master_is : IfSome l.master (λ c. c < 2 ^ 8)
  pub life_is : l.life < 2 ^ 32
  pub events_are : l.events < 2 ^ 64
  pub held_is : l.held < 2 ^ 64
  pub executed_are : l.executed < 2 ^ 64
  pub rows_are : l.rows < 2 ^ 64
  pub sent_is : l.sent < 2 ^ 64

switch_line_is : (s : ℕ) (bytes : List ℕ) (x : SwitchLine) (rest : List ℕ) → switch_line_at s bytes ≡ Some (x, rest) → IsSwitchText s bytes x rest
unfolding switch_line_at switch_counts_at
switch_line_is s bytes x rest e =
    took_text (codes "switch") bytes _ _ e (λ b0 e0 e.
    took_of s b0 _ _ e (λ b1 e1 e.
    then (role_words_at b1) _ _ e (λ role is e.
    let r = role_is b1 role.0 role.1 is in
    took (labelled_takes (codes "events")) role.1 _ _ e (λ events b3 e3 f3 e.
    took (labelled_takes (codes "held")) b3 _ _ e (λ held b4 e4 f4 e.
    took (labelled_takes (codes "executed")) b4 _ _ e (λ executed b5 e5 f5 e.
    took (labelled_takes (codes "rows")) b5 _ _ e (λ rows b6 e6 f6 e.
    took (labelled_takes (codes "sent")) b6 _ _ e (λ sent b7 e7 f7 e.
    closes (IsSwitchText s bytes) (record { generation = role.0.0; master = role.0.1; life = role.0.2; events = events; held = held; executed = executed; rows = rows; sent = sent }) b7 x rest e (λ end e8.
    record {
      spelled =
          e0 ∙ ap (λ l. codes "switch" ++ l) (e1 ∙ ap (λ l. word (number_text s) ++ l) (r.spelled ∙ ap (role_text role.0.0 role.0.1 role.0.2) (e3 ∙ rw (e4, e5, e6, e7, e8) refl)));
      generation_is = r.generation;
      master_is = r.master;
      life_is = r.life;
      events_are = f3;
      held_is = f4;
      executed_are = f5;
      rows_are = f6;
      sent_is = f7;
    })))))))))

switch_again : (s : ℕ) (t : SwitchRecord) (rest : List ℕ) → switch_line s t ++ rest ≡ switch_text s (line_of t) rest
switch_again s t rest = switch_parts s t rest ∙ ap (λ l. codes "switch" ++ (word (number_text s) ++ l)) (role_parts t _)

record IsToldText (s : ℕ) (bytes : List ℕ) (t : SwitchRecord) (rest : List ℕ) : Type 0 where
  pub spelled : bytes ≡ told_lines s t ++ rest
  pub is : IsToldSwitch s t

counts_same : (l : SwitchLine) (events executed rows : ℕ) → events ≡ l.events → executed ≡ l.executed → rows ≡ l.rows →
    l ≡ (record { generation = l.generation; master = l.master; life = l.life; events = events; held = l.held; executed = executed; rows = rows; sent = l.sent })
counts_same l events executed rows a b c = rw (a, b, c) refl

told_is : (s : ℕ) (bytes : List ℕ) (x : SwitchRecord) (rest : List ℕ) → told_in_text s bytes ≡ Ok (x, rest) → IsToldText s bytes x rest
unfolding told_in_text
told_is s bytes x rest e =
    then_lines (line_at bytes (switch_line_at s bytes)) _ _ e (λ l here e.
    then_lines (each_at (event_in_text s) l.0.events l.1) _ _ e (λ events events_e e.
    then_lines (each_at (executed_at s) l.0.executed events.1) _ _ e (λ executed executed_e e.
    then_lines (each_at (row_at s) l.0.rows executed.1) _ _ e (λ rows rows_e e.
    let head = switch_line_is s bytes l.0 l.1 (fits bytes (switch_line_at s bytes) l here) in
    let one = each_takes (event_takes s) l.0.events l.1 events.0 events.1 events_e in
    let two = each_takes (executed_takes s) l.0.executed events.1 executed.0 executed.1 executed_e in
    let three = each_takes (row_takes s) l.0.rows executed.1 rows.0 rows.1 rows_e in
    let made : SwitchRecord = record { generation = l.0.generation; master = l.0.master; life = l.0.life; held = l.0.held; sent = l.0.sent; events = events.0; executed = executed.0; rows = rows.0 } in
    let same = counts_same l.0 (length events.0) (length executed.0) (length rows.0) one.many two.many three.many in
    let many_events = one.many in
    let many_executed = two.many in
    let many_rows = three.many in
    let few_events = head.events_are in
    let few_executed = head.executed_are in
    let few_rows = head.rows_are in
    both_are (IsToldText s bytes) made x rows.1 rest e (record {
      spelled =
          head.spelled ∙ ap (λ line. switch_text s line l.1) same ∙ sym (switch_again s made l.1)
          ∙ ap (λ l. switch_line s made ++ l) (one.spelled ∙ ap (λ l. lines_of event_line events.0 ++ l) (two.spelled ∙ ap (λ l. lines_of (executed_line s) executed.0 ++ l) three.spelled))
          ∙ sym (told_parts s made rows.1);
      is = record {
        generation = head.generation_is;
        master = head.master_is;
        life = head.life_is;
        held = head.held_is;
        sent = head.sent_is;
        few_events = omega (arith, many_events, few_events);
        few_executed = omega (arith, many_executed, few_executed);
        few_rows = omega (arith, many_rows, few_rows);
        events = one.each;
        executed = two.each;
        rows = three.each;
      };
    })))))

record AreSwitches (count s : ℕ) (bytes : List ℕ) (switches : List SwitchRecord) (rest : List ℕ) : Type 0 where
  pub spelled : bytes ≡ switch_lines s switches ++ rest
  pub many : length switches ≡ count
  pub told : AreToldSwitches s switches

switches_are : (count s : ℕ) (bytes : List ℕ) (switches : List SwitchRecord) (rest : List ℕ) → switches_at count s bytes ≡ Ok (switches, rest) → AreSwitches count s bytes switches rest
unfolding switches_at
switches_are zero s bytes switches rest e =
    both_are (AreSwitches 0 s bytes) [] switches bytes rest e (record { spelled = sym (no_switches s bytes); many = refl; told = tt })
switches_are (suc n) s bytes switches rest e =
    then_lines (told_in_text s bytes) _ _ e (λ first here e.
    then_lines (switches_at n (s + 1) first.1) _ _ e (λ others there e.
    let one = told_is s bytes first.0 first.1 here in
    let more = switches_are n (s + 1) first.1 others.0 others.1 there in
    both_are (AreSwitches (suc n) s bytes) (first.0 ∷ others.0) switches others.1 rest e (record {
      spelled = one.spelled ∙ ap (λ l. told_lines s first.0 ++ l) more.spelled ∙ sym (more_switches s first.0 others.0 others.1);
      many = ap suc more.many;
      told = (one.is, more.told);
    })))

-- ---- the report

abbrev end_text : List ℕ → ℕ → ℕ → List ℕ → List ℕ
end_text sums script closing rest =
    codes "end" ++ (labelled (codes "script") (number_text script) ++ (labelled (codes "closing") (number_text closing) ++ (sums ++ (newline ++ rest))))

record IsEnd (sums bytes : List ℕ) (x : ℕ × ℕ) (rest : List ℕ) : Type 0 where
  pub spelled : bytes ≡ end_text sums x.0 x.1 rest
  pub script : x.0 < 2 ^ 64
  pub closing_is : x.1 < 2 ^ 64

last_is : (sums bytes : List ℕ) (x : ℕ × ℕ) (rest : List ℕ) → last_line_at sums bytes ≡ Some (x, rest) → IsEnd sums bytes x rest
unfolding last_line_at
last_is sums bytes x rest e =
    took_text (codes "end") bytes _ _ e (λ b0 e0 e.
    took (labelled_takes (codes "script")) b0 _ _ e (λ script b1 e1 f1 e.
    took (labelled_takes (codes "closing")) b1 _ _ e (λ closing b2 e2 f2 e.
    took_text sums b2 _ _ e (λ b3 e3 e.
    closes (IsEnd sums bytes) (script, closing) b3 x rest e (λ end e4.
    record { spelled = rw (e0, e1, e2, e3, e4) refl; script = f1; closing_is = f2 })))))

first_is : (bytes rest : List ℕ) → first_line_at bytes ≡ Some rest → bytes ≡ codes "ravana report 1" ++ (newline ++ rest)
unfolding first_line_at
first_is bytes rest e =
    took_text (codes "ravana report 1") bytes _ _ e (λ b0 e0 e.
    e0 ∙ ap (λ l. codes "ravana report 1" ++ l) (end_takes b0 rest e))

record IsHistory (bytes : List ℕ) (x : List (JournalEntry (List ℕ)) × List Entry) (rest : List ℕ) : Type 0 where
  pub spelled : bytes ≡ lines_of entry_lines x.0 ++ (log_lines x.1 ++ rest)
  pub journal_is : AllByRecursion IsToldEntry x.0
  pub few_entries : length x.1 < 2 ^ 64
  pub log : AllByRecursion IsLogEntry x.1

history_is : (bytes : List ℕ) (x : List (JournalEntry (List ℕ)) × List Entry) (rest : List ℕ) → history_at bytes ≡ Ok (x, rest) → IsHistory bytes x rest
unfolding history_at
history_is bytes x rest e =
    then_lines (journal_at bytes) _ _ e (λ journal journal_e e.
    then_lines (log_in_text journal.1) _ _ e (λ log log_e e.
    let one = journal_is bytes journal.0 journal.1 journal_e in
    let two = log_is journal.1 log.0 log.1 log_e in
    let all : one.further ≡ journal.0 = sym one.all_is in
    both_are (IsHistory bytes) (journal.0, log.0) x log.1 rest e (record {
      spelled = one.spelled ∙ ap (λ entries. lines_of entry_lines entries ++ journal.1) all ∙ ap (λ l. lines_of entry_lines journal.0 ++ l) two.spelled;
      journal_is = one.holds;
      few_entries = two.few;
      log = two.each;
    })))

record IsOutcome (count entries : ℕ) (bytes : List ℕ) (x : List SwitchRecord × (ℕ × ℕ)) (rest : List ℕ) : Type 0 where
  pub spelled : bytes ≡ switch_lines 0 x.0 ++ end_text (sum_words entries x.0) x.1.0 x.1.1 rest
  pub many : length x.0 ≡ count
  pub told : AreToldSwitches 0 x.0
  pub script : x.1.0 < 2 ^ 64
  pub closing_is : x.1.1 < 2 ^ 64

outcome_is : (count entries : ℕ) (bytes : List ℕ) (x : List SwitchRecord × (ℕ × ℕ)) (rest : List ℕ) → outcome_in_text count entries bytes ≡ Ok (x, rest) → IsOutcome count entries bytes x rest
unfolding outcome_in_text
outcome_is count entries bytes x rest e =
    then_lines (switches_at count 0 bytes) _ _ e (λ switches switches_e e.
    let sums : List ℕ = sum_words entries switches.0 in
    then_lines (line_at switches.1 (last_line_at sums switches.1)) _ _ e (λ turns turns_e e.
    let one = switches_are count 0 bytes switches.0 switches.1 switches_e in
    let two = last_is sums switches.1 turns.0 turns.1 (fits switches.1 (last_line_at sums switches.1) turns turns_e) in
    both_are (IsOutcome count entries bytes) (switches.0, turns.0) x turns.1 rest e (record {
      spelled = one.spelled ∙ ap (λ l. switch_lines 0 switches.0 ++ l) two.spelled;
      many = one.many;
      told = one.told;
      script = two.script;
      closing_is = two.closing_is;
    })))

-- the text of a record, and what stands behind it
abbrev text_before : Record → List ℕ → List ℕ
text_before r rest =
    codes "ravana report 1" ++ (newline ++ (setup_lines r.setup ++ (lines_of entry_lines r.journal ++ (log_lines r.log ++ (switch_lines 0 r.switches ++ end_text (sum_words (length r.log) r.switches) r.script r.closing rest)))))

record IsReport (bytes : List ℕ) (r : Record) (rest : List ℕ) : Type 0 where
  pub spelled : bytes ≡ text_before r rest
  pub is : IsRecord r

record_takes : (bytes : List ℕ) (r : Record) (rest : List ℕ) → record_at bytes ≡ Ok (r, rest) → IsReport bytes r rest
unfolding record_at
record_takes bytes r rest e =
    then_lines (line_at bytes (first_line_at bytes)) _ _ e (λ b0 here e.
    then_lines (setup_at b0) _ _ e (λ setup setup_e e.
    then_lines (history_at setup.1) _ _ e (λ history history_e e.
    then_lines (outcome_in_text (length setup.0.ports) (length history.0.1) history.1) _ _ e (λ outcome outcome_e e.
    let one = first_is bytes b0 (fits bytes (first_line_at bytes) b0 here) in
    let two = setup_takes b0 setup.0 setup.1 setup_e in
    let three = history_is setup.1 history.0 history.1 history_e in
    let four = outcome_is (length setup.0.ports) (length history.0.1) history.1 outcome.0 outcome.1 outcome_e in
    let made : Record = record { setup = setup.0; journal = history.0.0; log = history.0.1; switches = outcome.0.0; script = outcome.0.1.0; closing = outcome.0.1.1 } in
    both_are (IsReport bytes) made r outcome.1 rest e (record {
      spelled =
          one ∙ ap (λ l. codes "ravana report 1" ++ (newline ++ l)) (two.spelled ∙ ap (λ l. setup_lines setup.0 ++ l)
          (three.spelled ∙ ap (λ l. lines_of entry_lines history.0.0 ++ (log_lines history.0.1 ++ l)) four.spelled));
      is = record {
        setup = two.is;
        rules = two.rules;
        journal_is = three.journal_is;
        few_entries = three.few_entries;
        log = three.log;
        switches = four.many;
        told = four.told;
        script = four.script;
        closing_is = four.closing_is;
      };
    })))))

text_is : (r : Record) → text_before r [] ≡ text r
unfolding text end_line
text_is r = refl

all_is : (bytes : List ℕ) (found : Record × List ℕ) (r : Record) → all_of bytes found ≡ Ok r → found ≡ (r, [])
all_is bytes (told, []) r e = ap (λ t. (t, [])) (ok_is ℕ told r e)
all_is bytes (told, b ∷ rest) r e = absurd cc

-- a whole report is a record, with nothing behind it
whole_is : (bytes : List ℕ) (r : Record) → report_at bytes ≡ Ok r → record_at bytes ≡ Ok (r, [])
unfolding report_at
whole_is bytes r e = read (record_at bytes) e
  where
    read : (o : Result (Record × List ℕ) ℕ) → (elim o as (λ _. Result Record ℕ) [ Ok found ↦ all_of bytes found | Err left ↦ Err (line_number bytes left) ]) ≡ Ok r → o ≡ Ok (r, [])
    read (Ok found) e = ap Ok (all_is bytes found r e)
    read (Err left) e = absurd cc

-- what is read is a record, and the bytes are its text
pub report_takes : (bytes : List ℕ) (r : Record) → report_at bytes ≡ Ok r → IsRecord r × (text r ≡ bytes)
report_takes bytes r e =
    let t = record_takes bytes r [] (whole_is bytes r e) in
    (t.is, sym (t.spelled ∙ text_is r))

pub is_found : (bytes : List ℕ) (read : Result Record ReportFault) → IsReadAs bytes read → IfOk read (λ r. IsRecord r × (text r ≡ bytes))
is_found bytes (Ok r) e = report_takes bytes r e
is_found bytes (Err fault) e = tt
