-- Lines are written as they were read.
use Rattle.std.proofs.Common.{◌≡◌, ℕ, List, [], ◌∷◌, ◌++◌, refl, sym, ap, ◌∙◌}
use Rattle.std.specs.Prelude.{Option, Some, codes, ◌==◌}
use Rattle.std.proofs.lemmas.Bool.{eqb-true}
use Rattle.of_types.specs.declared.message.Event.{Event}
use Rattle.of_types.specs.declared.message.Executed.{Executed}
use Rattle.journal.specs.declared.journal.Actor.TheVariants.{Controller}
use Rattle.journal.specs.declared.journal.JournalEntry.{JournalEntry}
use Rattle.journal.specs.declared.journal.JournalEntry.TheVariants as entry
use Rattle.journal.specs.declared.journal.Letter.{Letter}
use Rattle.journal.specs.declared.journal.Local.{Local}
use Rattle.journal.specs.declared.journal.Local.TheVariants as local
use Rattle.of_messages.specs.Canonical.{actions_of}
use Rattle.of_match.specs.Writing.{canonical_bare_match}
use Rattle.of_ravana.specs.Canonical.{canonical_order}
use Rattle.vr_log.specs.declared.entry.Entry.{Entry}
use Rattle.vr_log.specs.declared.entry.Entry.TheVariants.{Received, Processed}
use Rattle.report.specs.declared.journal_lines.PostLine.{PostLine}
use Rattle.report.specs.declared.record.RowRecord.{RowRecord}
use Rattle.report.specs.OneLine.{begins, letter_at, post_line_at, draw_at, lose_at, idle_at, local_at, input_at, frame_in_text, port_at, suspect_at, bare_at, short_entry_at, event_words_at, received_in_text, processed_in_text, log_entry_at, event_in_text, executed_words_at, executed_at, row_at, of_at}
use Rattle.report.specs.Records.{FitsLetter, FitsInput, IsToldEntry, IsToldEvent, IsLogEntry, IsToldExecuted, IsShown, IsEventOf}
use Rattle.report.specs.Report.{word, newline, line, number_text, actor_word, flag, hex, letter_line, input_words, entry_lines, event_words, log_line, event_line, executed_line, row_line}
use Rattle.report.specs.Spelled.{◌>>=◌}
use Rattle.report.proofs.LinesAgain.{FitsPost, post_words}
use Rattle.report.proofs.MessagesTaken.{happening_takes, order_takes, matching_takes, actions_takes}
use Rattle.report.proofs.Readers.{chain, line_is}
use Rattle.report.proofs.Takers.{then, branches, both_found, tested, Takes, Spelt, took, took_text, took_known, closes}
use Rattle.report.proofs.Texts.{some_is}
use Rattle.report.proofs.WordsTaken.{number8_takes, number16_takes, number32_takes, number64_takes, actor_takes, controller_takes, flag_takes, hex_takes}

-- ---- the journal

letter_is : (bytes : List ℕ) (l : Letter (List ℕ)) (rest : List ℕ) → letter_at bytes ≡ Some (l, rest) → Spelt letter_line FitsLetter bytes l rest
unfolding letter_at
letter_is bytes l rest e =
    took_text (codes "letter") bytes _ _ e (λ b0 e0 e.
    took actor_takes b0 _ _ e (λ to b1 e1 f1 e.
    took hex_takes b1 _ _ e (λ body b2 e2 f2 e.
    closes (Spelt letter_line FitsLetter bytes) (record { to = to; body = body }) b2 l rest e (λ end e3.
    (rw (e0, e1, e2, e3) (sym (line_is (codes "letter") (actor_word to ∷ hex body ∷ []) end)), record { to = f1; body = f2 })))))

pub letter_takes : Takes letter_at letter_line FitsLetter
letter_takes = record { takes = letter_is }

post_is : (bytes : List ℕ) (p : PostLine) (rest : List ℕ) → post_line_at bytes ≡ Some (p, rest) → Spelt (λ p. line (codes "post") (post_words p)) FitsPost bytes p rest
unfolding post_line_at
post_is bytes p rest e =
    took_text (codes "post") bytes _ _ e (λ b0 e0 e.
    took actor_takes b0 _ _ e (λ actor b1 e1 f1 e.
    took number64_takes b1 _ _ e (λ first b2 e2 f2 e.
    took number64_takes b2 _ _ e (λ count b3 e3 f3 e.
    took number64_takes b3 _ _ e (λ lost b4 e4 f4 e.
    closes (Spelt (λ p. line (codes "post") (post_words p)) FitsPost bytes) (record { actor = actor; first = first; count = count; lost = lost }) b4 p rest e (λ end e5.
    (rw (e0, e1, e2, e3, e4, e5) (sym (line_is (codes "post") (actor_word actor ∷ number_text first ∷ number_text count ∷ number_text lost ∷ []) end)), record { actor = f1; first = f2; count = f3; lost = f4 })))))))

pub post_takes : Takes post_line_at (λ p. line (codes "post") (post_words p)) FitsPost
post_takes = record { takes = post_is }

abbrev SpeltEntry : List ℕ → JournalEntry (List ℕ) → List ℕ → Type 0
SpeltEntry bytes = Spelt entry_lines IsToldEntry bytes

draw_is : (bytes : List ℕ) (x : JournalEntry (List ℕ)) (rest : List ℕ) → draw_at bytes ≡ Some (x, rest) → SpeltEntry bytes x rest
unfolding draw_at
draw_is bytes x rest e =
    took_text (codes "draw") bytes _ _ e (λ b0 e0 e.
    took actor_takes b0 _ _ e (λ a b1 e1 f1 e.
    took number64_takes b1 _ _ e (λ id b2 e2 f2 e.
    took flag_takes b2 _ _ e (λ keep b3 e3 f3 e.
    closes (SpeltEntry bytes) (entry.Draw a id keep) b3 x rest e (λ end e4.
    (rw (e0, e1, e2, e3, e4) (sym (line_is (codes "draw") (actor_word a ∷ number_text id ∷ flag keep ∷ []) end)), (f1, f2)))))))

lose_is : (bytes : List ℕ) (x : JournalEntry (List ℕ)) (rest : List ℕ) → lose_at bytes ≡ Some (x, rest) → SpeltEntry bytes x rest
unfolding lose_at
lose_is bytes x rest e =
    took_text (codes "lose") bytes _ _ e (λ b0 e0 e.
    took actor_takes b0 _ _ e (λ a b1 e1 f1 e.
    took number64_takes b1 _ _ e (λ id b2 e2 f2 e.
    closes (SpeltEntry bytes) (entry.Lose a id) b2 x rest e (λ end e3.
    (rw (e0, e1, e2, e3) (sym (line_is (codes "lose") (actor_word a ∷ number_text id ∷ []) end)), (f1, f2))))))

idle_is : (bytes : List ℕ) (x : JournalEntry (List ℕ)) (rest : List ℕ) → idle_at bytes ≡ Some (x, rest) → SpeltEntry bytes x rest
unfolding idle_at
idle_is bytes x rest e =
    took_text (codes "idle") bytes _ _ e (λ b0 e0 e.
    took actor_takes b0 _ _ e (λ a b1 e1 f1 e.
    closes (SpeltEntry bytes) (entry.Idle a) b1 x rest e (λ end e2.
    (rw (e0, e1, e2) (sym (line_is (codes "idle") (actor_word a ∷ []) end)), f1))))

-- words of an input, and what stands behind them
abbrev words_before : List (List ℕ) → List ℕ → List ℕ
words_before [] rest = rest
words_before (text ∷ words) rest = word text ++ words_before words rest

abbrev SpeltInput : List ℕ → Local → List ℕ → Type 0
SpeltInput bytes input rest = (bytes ≡ words_before (input_words input) rest) × FitsInput input

frame_is : (bytes : List ℕ) (input : Local) (rest : List ℕ) → frame_in_text bytes ≡ Some (input, rest) → SpeltInput bytes input rest
unfolding frame_in_text
frame_is bytes input rest e =
    took_known (codes "frame") bytes _ _ e (λ b0 e0 e.
    took number32_takes b0 _ _ e (λ port b1 e1 f1 e.
    took hex_takes b1 _ _ e (λ told b2 e2 f2 e.
    both_found (SpeltInput bytes) (local.Frame port told) input b2 rest e (rw (e0, e1, e2) refl, (f1, f2)))))

port_is : (bytes : List ℕ) (input : Local) (rest : List ℕ) → port_at bytes ≡ Some (input, rest) → SpeltInput bytes input rest
unfolding port_at
port_is bytes input rest e =
    took_known (codes "port") bytes _ _ e (λ b0 e0 e.
    took number32_takes b0 _ _ e (λ port b1 e1 f1 e.
    took flag_takes b1 _ _ e (λ up b2 e2 f2 e.
    both_found (SpeltInput bytes) (local.Port port up) input b2 rest e (rw (e0, e1, e2) refl, f1))))

suspect_is : (bytes : List ℕ) (input : Local) (rest : List ℕ) → suspect_at bytes ≡ Some (input, rest) → SpeltInput bytes input rest
unfolding suspect_at
suspect_is bytes input rest e =
    took_known (codes "suspect") bytes _ _ e (λ b0 e0 e.
    took number32_takes b0 _ _ e (λ view b1 e1 f1 e.
    both_found (SpeltInput bytes) (local.Suspect view) input b1 rest e (rw (e0, e1) refl, f1)))

bare_is : (name : List ℕ) (made : Local) (bytes : List ℕ) (input : Local) (rest : List ℕ) → input_words made ≡ name ∷ [] → FitsInput made → bare_at name made bytes ≡ Some (input, rest) → SpeltInput bytes input rest
unfolding bare_at
bare_is name made bytes input rest named fits e =
    took_known name bytes _ _ e (λ b0 e0 e.
    both_found (SpeltInput bytes) made input b0 rest e (e0 ∙ ap (λ words. words_before words b0) (sym named), fits))

input_is : (bytes : List ℕ) (input : Local) (rest : List ℕ) → input_at bytes ≡ Some (input, rest) → SpeltInput bytes input rest
unfolding input_at
input_is bytes input rest e =
    branches (begins (codes " frame") bytes) _ _ _ e (λ _ e. frame_is bytes input rest e)
    (λ _ e. branches (begins (codes " port") bytes) _ _ _ e (λ _ e. port_is bytes input rest e)
    (λ _ e. branches (begins (codes " suspect") bytes) _ _ _ e (λ _ e. suspect_is bytes input rest e)
    (λ _ e. branches (begins (codes " tick") bytes) _ _ _ e (λ _ e. bare_is (codes "tick") local.Tick bytes input rest refl tt e)
    (λ _ e. branches (begins (codes " crash") bytes) _ _ _ e (λ _ e. bare_is (codes "crash") local.Crash bytes input rest refl tt e)
    (λ _ e. bare_is (codes "restart") local.Restart bytes input rest refl tt e)))))

before_end : (words : List (List ℕ)) (rest : List ℕ) → words_before words (newline ++ rest) ≡ chain words rest
before_end [] rest = refl
before_end (text ∷ words) rest = ap (λ l. word text ++ l) (before_end words rest)

local_is : (bytes : List ℕ) (x : JournalEntry (List ℕ)) (rest : List ℕ) → local_at bytes ≡ Some (x, rest) → SpeltEntry bytes x rest
unfolding local_at
local_is bytes x rest e =
    took_text (codes "local") bytes _ _ e (λ b0 e0 e.
    took actor_takes b0 _ _ e (λ a b1 e1 f1 e.
    then (input_at b1) _ _ e (λ input read e.
    let t = input_is b1 input.0 input.1 read in
    closes (SpeltEntry bytes) (entry.Local a input.0) input.1 x rest e (λ end e3.
    (rw (e0, e1) (ap (λ l. codes "local" ++ (word (actor_word a) ++ l)) (t.0 ∙ ap (words_before (input_words input.0)) e3 ∙ before_end (input_words input.0) end) ∙ sym (line_is (codes "local") (actor_word a ∷ input_words input.0) end)), (f1, t.1))))))

short_is : (bytes : List ℕ) (x : JournalEntry (List ℕ)) (rest : List ℕ) → short_entry_at bytes ≡ Some (x, rest) → SpeltEntry bytes x rest
unfolding short_entry_at
short_is bytes x rest e =
    branches (begins (codes "draw") bytes) _ _ _ e (λ _ e. draw_is bytes x rest e)
    (λ _ e. branches (begins (codes "lose") bytes) _ _ _ e (λ _ e. lose_is bytes x rest e)
    (λ _ e. branches (begins (codes "idle") bytes) _ _ _ e (λ _ e. idle_is bytes x rest e) (λ _ e. local_is bytes x rest e)))

pub short_takes : Takes short_entry_at entry_lines IsToldEntry
short_takes = record { takes = short_is }

-- ---- the committed log

pub event_words_is : (bytes : List ℕ) (x : Event) (rest : List ℕ) → event_words_at bytes ≡ Some (x, rest) → (bytes ≡ chain (event_words x) rest) × IsToldEvent x
unfolding event_words_at
event_words_is bytes x rest e =
    took number8_takes bytes _ _ e (λ switch b1 e1 f1 e.
    took number32_takes b1 _ _ e (λ life b2 e2 f2 e.
    took number64_takes b2 _ _ e (λ number_text b3 e3 f3 e.
    took happening_takes b3 _ _ e (λ what b4 e4 f4 e.
    closes (λ x rest. (bytes ≡ chain (event_words x) rest) × IsToldEvent x) (record { switch = switch; life = life; number = number_text; what = what }) b4 x rest e (λ end e5.
    (rw (e1, e2, e3, e4, e5) refl, record { switch = f1; life = f2; number = f3; what = f4 }))))))

received_is : (bytes : List ℕ) (x : Entry) (rest : List ℕ) → received_in_text bytes ≡ Some (x, rest) → Spelt log_line IsLogEntry bytes x rest
unfolding received_in_text
received_is bytes x rest e =
    took_text (codes "received") bytes _ _ e (λ b0 e0 e.
    then (event_words_at b0) _ _ e (λ event read e.
    let t = event_words_is b0 event.0 event.1 read in
    both_found (Spelt log_line IsLogEntry bytes) (Received event.0) x event.1 rest e
    (e0 ∙ ap (λ l. codes "received" ++ l) t.0 ∙ sym (line_is (codes "received") (event_words event.0) event.1), t.1)))

processed_is : (bytes : List ℕ) (x : Entry) (rest : List ℕ) → processed_in_text bytes ≡ Some (x, rest) → Spelt log_line IsLogEntry bytes x rest
unfolding processed_in_text
processed_is bytes x rest e =
    took_text (codes "processed") bytes _ _ e (λ b0 e0 e.
    took number64_takes b0 _ _ e (λ place b1 e1 f1 e.
    closes (Spelt log_line IsLogEntry bytes) (Processed place) b1 x rest e (λ end e2.
    (rw (e0, e1, e2) (sym (line_is (codes "processed") (number_text place ∷ []) end)), f1))))

log_entry_is : (bytes : List ℕ) (x : Entry) (rest : List ℕ) → log_entry_at bytes ≡ Some (x, rest) → Spelt log_line IsLogEntry bytes x rest
unfolding log_entry_at
log_entry_is bytes x rest e = branches (begins (codes "received") bytes) _ _ _ e (λ _ e. received_is bytes x rest e) (λ _ e. processed_is bytes x rest e)

pub log_entry_takes : Takes log_entry_at log_line IsLogEntry
log_entry_takes = record { takes = log_entry_is }

-- ---- the switches

of_is : (s : ℕ) (bytes rest : List ℕ) → of_at s bytes ≡ Some rest → bytes ≡ word (number_text s) ++ rest
unfolding of_at
of_is s bytes rest e =
    took number8_takes bytes _ _ e (λ named behind is fits e.
    branches (named == s) _ _ _ e
    (λ same e. is ∙ ap (λ n. word (number_text n) ++ behind) (eqb-true named s same) ∙ ap (λ l. word (number_text s) ++ l) (some_is behind rest e))
    (λ _ e. absurd cc))

pub took_of : {R G : Type 0} (s : ℕ) (bytes : List ℕ) (more : List ℕ → Option R) (r : R) → (of_at s bytes >>= more) ≡ Some r → ((rest : List ℕ) → bytes ≡ word (number_text s) ++ rest → more rest ≡ Some r → G) → G
took_of s bytes more r e goal = then (of_at s bytes) more r e (λ rest is e. goal rest (of_is s bytes rest is) e)

event_is : (s : ℕ) (bytes : List ℕ) (x : Event) (rest : List ℕ) → event_in_text s bytes ≡ Some (x, rest) → Spelt event_line (IsEventOf s) bytes x rest
unfolding event_in_text
event_is s bytes x rest e =
    took_text (codes "event") bytes _ _ e (λ b0 e0 e.
    then (event_words_at b0) _ _ e (λ event read e.
    let t = event_words_is b0 event.0 event.1 read in
    tested (Spelt event_line (IsEventOf s) bytes) (event.0.switch == s) event.0 event.1 x rest e (λ same.
    (e0 ∙ ap (λ l. codes "event" ++ l) t.0 ∙ sym (line_is (codes "event") (event_words event.0) event.1), record { told = t.1; of = eqb-true event.0.switch s same }))))

pub event_takes : (s : ℕ) → Takes (event_in_text s) event_line (IsEventOf s)
event_takes s = record { takes = event_is s }

executed_is : (s : ℕ) (bytes : List ℕ) (x : Executed) (rest : List ℕ) → executed_at s bytes ≡ Some (x, rest) → Spelt (executed_line s) IsToldExecuted bytes x rest
unfolding executed_at executed_words_at
executed_is s bytes x rest e =
    took_text (codes "executed") bytes _ _ e (λ b0 e0 e.
    took_of s b0 _ _ e (λ b1 e1 e.
    took number32_takes b1 _ _ e (λ life b2 e2 f2 e.
    took number64_takes b2 _ _ e (λ n b3 e3 f3 e.
    took number64_takes b3 _ _ e (λ generation b4 e4 f4 e.
    took controller_takes b4 _ _ e (λ from b5 e5 f5 e.
    took order_takes b5 _ _ e (λ order b6 e6 f6 e.
    closes (Spelt (executed_line s) IsToldExecuted bytes) (record { life = life; number = n; generation = generation; from = from; order = order }) b6 x rest e (λ end e7. (
      rw (e0, e1, e2, e3, e4, e5, e6, e7)
          (sym (line_is (codes "executed") (number_text s ∷ number_text life ∷ number_text n ∷ number_text generation ∷ actor_word (Controller from) ∷ hex (canonical_order order) ∷ []) end)),
      record { life = f2; number = f3; generation = f4; from = f5; order = f6 },
    )))))))))

pub executed_takes : (s : ℕ) → Takes (executed_at s) (executed_line s) IsToldExecuted
executed_takes s = record { takes = executed_is s }

row_is : (s : ℕ) (bytes : List ℕ) (x : RowRecord) (rest : List ℕ) → row_at s bytes ≡ Some (x, rest) → Spelt (row_line s) IsShown bytes x rest
unfolding row_at
row_is s bytes x rest e =
    took_text (codes "row") bytes _ _ e (λ b0 e0 e.
    took_of s b0 _ _ e (λ b1 e1 e.
    took number16_takes b1 _ _ e (λ priority b2 e2 f2 e.
    took matching_takes b2 _ _ e (λ matching b3 e3 f3 e.
    took actions_takes b3 _ _ e (λ actions b4 e4 f4 e.
    closes (Spelt (row_line s) IsShown bytes) (record { priority = priority; matching = matching; actions = actions }) b4 x rest e (λ end e5. (
      rw (e0, e1, e2, e3, e4, e5) (sym (line_is (codes "row") (number_text s ∷ number_text priority ∷ hex (canonical_bare_match matching) ∷ hex (actions_of actions) ∷ []) end)),
      record { priority = f2; matching = f3; actions = f4 },
    )))))))

pub row_takes : (s : ℕ) → Takes (row_at s) (row_line s) IsShown
row_takes s = record { takes = row_is s }
