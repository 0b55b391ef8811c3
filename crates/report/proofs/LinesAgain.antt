-- Lines are read as they are written.
use Rattle.std.proofs.Common.{◌≡◌, ℕ, ◌^◌, ◌<◌, Bool, List, [], ◌∷◌, ◌++◌, refl, ap, ◌∙◌}
use Rattle.std.proofs.lemmas.Bool.{eq-eqb}
use Rattle.std.specs.Prelude.{Option, Some, codes, ◌==◌}
use Rattle.of_types.specs.declared.message.Event.{Event}
use Rattle.of_types.specs.declared.message.Executed.{Executed}
use Rattle.journal.specs.declared.journal.Actor.{Actor}
use Rattle.journal.specs.declared.journal.Actor.TheVariants.{Controller}
use Rattle.journal.specs.declared.journal.JournalEntry.TheVariants as entry
use Rattle.journal.specs.declared.journal.Letter.{Letter}
use Rattle.journal.specs.declared.journal.Local.{Local}
use Rattle.journal.specs.declared.journal.Local.TheVariants as local
use Rattle.of_messages.specs.Canonical.{actions_of}
use Rattle.of_match.specs.Writing.{canonical_bare_match}
use Rattle.of_ravana.specs.Canonical.{canonical_happening, canonical_order}
use Rattle.vr_log.specs.declared.entry.Entry.{Entry}
use Rattle.vr_log.specs.declared.entry.Entry.TheVariants.{Received, Processed}
use Rattle.report.specs.declared.journal_lines.PostLine.{PostLine}
use Rattle.report.specs.declared.record.RowRecord.{RowRecord}
use Rattle.report.specs.OneLine.{letter_at, post_line_at, draw_at, lose_at, idle_at, local_at, input_at, frame_in_text, port_at, suspect_at, bare_at, event_words_at, received_in_text, processed_in_text, log_entry_at, event_in_text, executed_words_at, executed_at, row_at, of_at}
use Rattle.report.specs.Records.{AreOctets, FitsActor, FitsLetter, FitsInput, IsToldEvent, IsLogEntry, IsToldExecuted, IsShown, IsEventOf}
use Rattle.report.specs.Report.{word, newline, line, number_text, actor_word, flag, hex, letter_line, input_words, entry_lines, event_words, log_line, event_line, executed_line, row_line}
use Rattle.report.specs.Spelled.{◌>>=◌}
use Rattle.report.proofs.Readers.{after_then, again_then, known_then, test_then, end_then, parted, parted_end, chain, line_is}
use Rattle.report.proofs.WordsAgain.{number8, number16, number32, number64, actor, controller, is_flag, hexed}
use Rattle.report.proofs.MessagesAgain.{happenings, orders, matchings, outputs}
use Rattle.report.proofs.Texts.{IsParted}

-- ---- the journal

pub letter_is : (l : Letter (List ℕ)) (rest : List ℕ) → FitsLetter l → letter_at (letter_line l ++ rest) ≡ Some (l, rest)
unfolding letter_at
letter_is l rest fits =
    ap letter_at (line_is (codes "letter") (actor_word l.to ∷ hex l.body ∷ []) rest)
    ∙ after_then (codes "letter") _ _ _
    (again_then actor l.to _ _ _ fits.to (parted (hex l.body) _)
    (again_then hexed l.body _ _ _ fits.body (parted_end rest)
    (end_then rest _ _ refl)))

abbrev pub post_words : PostLine → List (List ℕ)
post_words p = actor_word p.actor ∷ number_text p.first ∷ number_text p.count ∷ number_text p.lost ∷ []

pub record FitsPost (p : PostLine) : Type 0 where
  pub actor : FitsActor p.actor
  pub first : p.first < 2 ^ 64
  pub count : p.count < 2 ^ 64
  pub lost : p.lost < 2 ^ 64

pub post_is : (p : PostLine) (rest : List ℕ) → FitsPost p → post_line_at (line (codes "post") (post_words p) ++ rest) ≡ Some (p, rest)
unfolding post_line_at
post_is p rest fits =
    ap post_line_at (line_is (codes "post") (post_words p) rest)
    ∙ after_then (codes "post") _ _ _
    (again_then actor p.actor _ _ _ fits.actor (parted (number_text p.first) _)
    (again_then number64 p.first _ _ _ fits.first (parted (number_text p.count) _)
    (again_then number64 p.count _ _ _ fits.count (parted (number_text p.lost) _)
    (again_then number64 p.lost _ _ _ fits.lost (parted_end rest)
    (end_then rest _ _ refl)))))

pub draw_is : (a : Actor) (id : ℕ) (keep : Bool) (rest : List ℕ) → FitsActor a → id < 2 ^ 64 → draw_at (entry_lines (entry.Draw a id keep) ++ rest) ≡ Some (entry.Draw a id keep, rest)
unfolding draw_at
draw_is a id keep rest fits small =
    ap draw_at (line_is (codes "draw") (actor_word a ∷ number_text id ∷ flag keep ∷ []) rest)
    ∙ after_then (codes "draw") _ _ _
    (again_then actor a _ _ _ fits (parted (number_text id) _)
    (again_then number64 id _ _ _ small (parted (flag keep) _)
    (again_then is_flag keep _ _ _ tt (parted_end rest)
    (end_then rest _ _ refl))))

pub lose_is : (a : Actor) (id : ℕ) (rest : List ℕ) → FitsActor a → id < 2 ^ 64 → lose_at (entry_lines (entry.Lose a id) ++ rest) ≡ Some (entry.Lose a id, rest)
unfolding lose_at
lose_is a id rest fits small =
    ap lose_at (line_is (codes "lose") (actor_word a ∷ number_text id ∷ []) rest)
    ∙ after_then (codes "lose") _ _ _
    (again_then actor a _ _ _ fits (parted (number_text id) _)
    (again_then number64 id _ _ _ small (parted_end rest)
    (end_then rest _ _ refl)))

pub idle_is : (a : Actor) (rest : List ℕ) → FitsActor a → idle_at (entry_lines (entry.Idle a) ++ rest) ≡ Some (entry.Idle a, rest)
unfolding idle_at
idle_is a rest fits =
    ap idle_at (line_is (codes "idle") (actor_word a ∷ []) rest)
    ∙ after_then (codes "idle") _ _ _
    (again_then actor a _ _ _ fits (parted_end rest)
    (end_then rest _ _ refl))

frame_is : (port : ℕ) (bytes rest : List ℕ) → port < 2 ^ 32 → AreOctets bytes → frame_in_text (chain (input_words (local.Frame port bytes)) rest) ≡ Some (local.Frame port bytes, newline ++ rest)
unfolding frame_in_text
frame_is port bytes rest small are =
    known_then (codes "frame") _ _ _
    (again_then number32 port _ _ _ small (parted (hex bytes) _)
    (again_then hexed bytes _ _ _ are (parted_end rest) refl))

port_is : (port : ℕ) (up : Bool) (rest : List ℕ) → port < 2 ^ 32 → port_at (chain (input_words (local.Port port up)) rest) ≡ Some (local.Port port up, newline ++ rest)
unfolding port_at
port_is port up rest small =
    known_then (codes "port") _ _ _
    (again_then number32 port _ _ _ small (parted (flag up) _)
    (again_then is_flag up _ _ _ tt (parted_end rest) refl))

suspect_is : (view : ℕ) (rest : List ℕ) → view < 2 ^ 32 → suspect_at (chain (input_words (local.Suspect view)) rest) ≡ Some (local.Suspect view, newline ++ rest)
unfolding suspect_at
suspect_is view rest small =
    known_then (codes "suspect") _ _ _
    (again_then number32 view _ _ _ small (parted_end rest) refl)

bare_is : (name : List ℕ) (input : Local) (rest : List ℕ) → bare_at name input (word name ++ (newline ++ rest)) ≡ Some (input, newline ++ rest)
unfolding bare_at
bare_is name input rest = known_then name _ _ _ refl

input_is : (input : Local) (rest : List ℕ) → FitsInput input → input_at (chain (input_words input) rest) ≡ Some (input, newline ++ rest)
unfolding input_at word
input_is (local.Frame port bytes) rest fits = frame_is port bytes rest fits.0 fits.1
input_is (local.Port port up) rest fits = port_is port up rest fits
input_is local.Tick rest fits = bare_is (codes "tick") local.Tick rest
input_is (local.Suspect view) rest fits = suspect_is view rest fits
input_is local.Crash rest fits = bare_is (codes "crash") local.Crash rest
input_is local.Restart rest fits = bare_is (codes "restart") local.Restart rest

input_parted : (input : Local) (rest : List ℕ) → IsParted (chain (input_words input) rest)
input_parted (local.Frame port bytes) rest = parted (codes "frame") _
input_parted (local.Port port up) rest = parted (codes "port") _
input_parted local.Tick rest = parted (codes "tick") _
input_parted (local.Suspect view) rest = parted (codes "suspect") _
input_parted local.Crash rest = parted (codes "crash") _
input_parted local.Restart rest = parted (codes "restart") _

input_then : {R : Type 0} (input : Local) (rest : List ℕ) (more : Local × List ℕ → Option R) (y : Option R) → FitsInput input → more (input, newline ++ rest) ≡ y → (input_at (chain (input_words input) rest) >>= more) ≡ y
input_then input rest more y fits e = rw (input_is input rest fits) e

pub local_is : (a : Actor) (input : Local) (rest : List ℕ) → FitsActor a → FitsInput input → local_at (entry_lines (entry.Local a input) ++ rest) ≡ Some (entry.Local a input, rest)
unfolding local_at
local_is a input rest fits within =
    ap local_at (line_is (codes "local") (actor_word a ∷ input_words input) rest)
    ∙ after_then (codes "local") _ _ _
    (again_then actor a _ _ _ fits (input_parted input rest)
    (input_then input rest _ _ within
    (end_then rest _ _ refl)))

-- ---- the committed log

event_words_is : (e : Event) (rest : List ℕ) → IsToldEvent e → event_words_at (chain (event_words e) rest) ≡ Some (e, rest)
unfolding event_words_at
event_words_is e rest told =
    again_then number8 e.switch _ _ _ told.switch (parted (number_text e.life) _)
    (again_then number32 e.life _ _ _ told.life (parted (number_text e.number) _)
    (again_then number64 e.number _ _ _ told.number (parted (hex (canonical_happening e.what)) _)
    (again_then happenings e.what _ _ _ told.what (parted_end rest)
    (end_then rest _ _ refl))))

event_then : {R : Type 0} (e : Event) (rest : List ℕ) (more : Event × List ℕ → Option R) (y : Option R) → IsToldEvent e → more (e, rest) ≡ y → (event_words_at (chain (event_words e) rest) >>= more) ≡ y
event_then event rest more y told e = rw (event_words_is event rest told) e

received_is : (e : Event) (rest : List ℕ) → IsToldEvent e → received_in_text (log_line (Received e) ++ rest) ≡ Some (Received e, rest)
unfolding received_in_text
received_is e rest told =
    ap received_in_text (line_is (codes "received") (event_words e) rest)
    ∙ after_then (codes "received") _ _ _ (event_then e rest _ _ told refl)

processed_is : (j : ℕ) (rest : List ℕ) → j < 2 ^ 64 → processed_in_text (log_line (Processed j) ++ rest) ≡ Some (Processed j, rest)
unfolding processed_in_text
processed_is j rest small =
    ap processed_in_text (line_is (codes "processed") (number_text j ∷ []) rest)
    ∙ after_then (codes "processed") _ _ _ (again_then number64 j _ _ _ small (parted_end rest) (end_then rest _ _ refl))

pub log_entry_is : (e : Entry) (rest : List ℕ) → IsLogEntry e → log_entry_at (log_line e ++ rest) ≡ Some (e, rest)
unfolding log_entry_at line
log_entry_is (Received e) rest told = received_is e rest told
log_entry_is (Processed j) rest small = processed_is j rest small

-- ---- the switches

of_is : (s : ℕ) (rest : List ℕ) → s < 2 ^ 8 → IsParted rest → of_at s (word (number_text s) ++ rest) ≡ Some rest
unfolding of_at
of_is s rest small parted = again_then number8 s _ _ _ small parted (test_then (s == s) _ _ (eq-eqb s s refl) refl)

pub of_then : {R : Type 0} (s : ℕ) (rest : List ℕ) (more : List ℕ → Option R) (y : Option R) → s < 2 ^ 8 → IsParted rest → more rest ≡ y → (of_at s (word (number_text s) ++ rest) >>= more) ≡ y
of_then s rest more y small parted e = rw (of_is s rest small parted) e

pub event_is : (s : ℕ) (e : Event) (rest : List ℕ) → IsEventOf s e → event_in_text s (event_line e ++ rest) ≡ Some (e, rest)
unfolding event_in_text
event_is s e rest is =
    ap (event_in_text s) (line_is (codes "event") (event_words e) rest)
    ∙ after_then (codes "event") _ _ _ (event_then e rest _ _ is.told (test_then (e.switch == s) _ _ (eq-eqb e.switch s is.of) refl))

pub executed_is : (s : ℕ) (x : Executed) (rest : List ℕ) → s < 2 ^ 8 → IsToldExecuted x → executed_at s (executed_line s x ++ rest) ≡ Some (x, rest)
unfolding executed_at executed_words_at
executed_is s x rest small told =
    ap (executed_at s) (line_is (codes "executed") (number_text s ∷ number_text x.life ∷ number_text x.number ∷ number_text x.generation ∷ actor_word (Controller x.from) ∷ hex (canonical_order x.order) ∷ []) rest)
    ∙ after_then (codes "executed") _ _ _
    (of_then s _ _ _ small (parted (number_text x.life) _)
    (again_then number32 x.life _ _ _ told.life (parted (number_text x.number) _)
    (again_then number64 x.number _ _ _ told.number (parted (number_text x.generation) _)
    (again_then number64 x.generation _ _ _ told.generation (parted (actor_word (Controller x.from)) _)
    (again_then controller x.from _ _ _ told.from (parted (hex (canonical_order x.order)) _)
    (again_then orders x.order _ _ _ told.order (parted_end rest)
    (end_then rest _ _ refl)))))))

pub row_is : (s : ℕ) (r : RowRecord) (rest : List ℕ) → s < 2 ^ 8 → IsShown r → row_at s (row_line s r ++ rest) ≡ Some (r, rest)
unfolding row_at
row_is s r rest small shown =
    ap (row_at s) (line_is (codes "row") (number_text s ∷ number_text r.priority ∷ hex (canonical_bare_match r.matching) ∷ hex (actions_of r.actions) ∷ []) rest)
    ∙ after_then (codes "row") _ _ _
    (of_then s _ _ _ small (parted (number_text r.priority) _)
    (again_then number16 r.priority _ _ _ shown.priority (parted (hex (canonical_bare_match r.matching)) _)
    (again_then matchings r.matching _ _ _ shown.matching (parted (hex (actions_of r.actions)) _)
    (again_then outputs r.actions _ _ _ shown.actions (parted_end rest)
    (end_then rest _ _ refl)))))
