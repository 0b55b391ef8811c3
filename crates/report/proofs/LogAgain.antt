-- The lines of the log are read as they are written.
use Rattle.std.proofs.Common.{◌≡◌, ℕ, ◌+◌, ◌*◌, ◌/◌, ◌%◌, ◌^◌, ◌≤◌, ◌<◌, true, false, ◌==◌, List, [], ◌∷◌, ◌++◌, length, drop, get_or, Ok, refl, ap, ◌∙◌, append_assoc, length-append, arith}
use Rattle.std.specs.Prelude.{Option, Some, codes}
use Rattle.std.specs.List.{AllByRecursion}
use Rattle.std.specs.Fmt.{decimal}
use Rattle.std.proofs.lemmas.Bool.{and_parts, le-leb}
use Rattle.std.proofs.lemmas.Fmt.{decimal_by_steps_wide}
use Rattle.std.proofs.lemmas.List.{get_or_append_left}
use Rattle.std.proofs.lemmas.List.Sums.{sum_by-cons}
use Rattle.numerals.specs.Numerals.{is_digit, are_digits, is_numeral}
use Rattle.of_types.specs.declared.message.Happening.{Happening}
use Rattle.of_types.specs.declared.message.Happening.TheVariants as happening
use Rattle.vr_log.specs.declared.entry.Entry.{Entry}
use Rattle.vr_log.specs.declared.entry.Entry.TheVariants.{Received, Processed}
use Rattle.vr_log.specs.Log.{log_size, entry_size}
use Rattle.vr_log.proofs.Equal.{numbers_same}
use Rattle.of_bytes.proofs.Bytes.{big_from-lt, IsBytes-drop}
use Rattle.of_bytes.specs.Numbers as numbers
use Rattle.of_messages.specs.Canonical.{canonical}
use Rattle.of_messages.proofs.Written.{message_size}
use Rattle.of_types.specs.declared.message.OfMessage.{OfMessage}
use Rattle.of_types.specs.Sizes.{happening_size, plain_size}
use Rattle.of_ravana.specs.Canonical.{happening_message}
use Rattle.report.specs.OneLine.{log_line_at, log_entry_at}
use Rattle.report.specs.Reading.{log_in_text}
use Rattle.report.specs.Records.{IsTellable, IsLogEntry}
use Rattle.report.specs.Report.{word, newline, line, number_text, log_line, log_lines, lines_of}
use Rattle.report.specs.Spelled.{◌>>=◌, word_at}
use Rattle.report.proofs.LinesAgain.{log_entry_is}
use Rattle.report.proofs.ListsAgain.{lines_then, line_then, each_again}
use Rattle.report.proofs.Readers.{after_then, again_then, test_then, end_then, parted, line_is}
use Rattle.report.proofs.WordsAgain.{number64}
use Rattle.report.proofs.Texts.{word_again, digits_word, numeral_digits, not_same}

-- ---- a numeral of many digits

more_digits : (ds : List ℕ) (x : ℕ) → are_digits ds ≡ true → is_digit x ≡ true → are_digits (ds ++ x ∷ []) ≡ true
more_digits [] x digits digit = rw digit refl
more_digits (d ∷ ds) x digits digit =
    let p = and_parts (is_digit d) (are_digits ds) digits in
    rw (p.0, more_digits ds x p.1 digit) refl

no_zero : (d : ℕ) → 48 < d → (d == 48) ≡ false
no_zero d first = not_same d 48 (λ same. absurd (omega (arith, first, same)))

longer : (ds : List ℕ) (x : ℕ) → is_numeral ds ≡ true → 48 < get_or ds 0 0 → is_digit x ≡ true → is_numeral (ds ++ x ∷ []) ≡ true
longer [] x numeral first digit = absurd cc
longer (d ∷ []) x numeral first digit = rw (no_zero d first, numeral, digit) refl
longer (d ∷ e ∷ ds) x numeral first digit = rw (no_zero d first) (more_digits (d ∷ e ∷ ds) x (numeral_digits (d ∷ e ∷ ds) numeral) digit)

last_digit : (m : ℕ) → is_digit (48 + m % 10) ≡ true
last_digit m = rw (le-leb 48 (48 + m % 10) (omega arith), le-leb (48 + m % 10) 57 (omega arith)) refl

-- a numeral, whose first digit is no zero but for the number 0
record IsWritten (n : ℕ) (ds : List ℕ) : Type 0 where
  pub numeral : is_numeral ds ≡ true
  pub first : 0 < n → 48 < get_or ds 0 0
  pub some : 0 < length ds

one_digit : (n : ℕ) → n < 10 → IsWritten n ((48 + n) ∷ [])
one_digit n less = record { numeral = rw (le-leb 48 (48 + n) (omega arith), le-leb (48 + n) 57 (omega (arith, less))) refl; first = λ some. omega (arith, some); some = omega arith }

next_digit : (n : ℕ) (ds : List ℕ) → 10 ≤ n → IsWritten (n / 10) ds → IsWritten n (ds ++ (48 + n % 10) ∷ [])
next_digit n ds high w =
    let first = w.first (omega (arith, high)) in
    let some = w.some in
    record {
      numeral = longer ds (48 + n % 10) w.numeral first (last_digit n);
      first = λ _. omega (arith, first, get_or_append_left ds ((48 + n % 10) ∷ []) 0 0 some);
      some = omega (arith, length-append ds ((48 + n % 10) ∷ []));
    }

written : (n : ℕ) → n < 10 ^ 64 → IsWritten n (decimal n)
written n small = decimal_by_steps_wide IsWritten one_digit next_digit n small

-- ---- the bytes of a log

small_message : (m : OfMessage) → IsTellable m → plain_size m ≤ 65535
small_message m is =
    let bound : numbers.number 2 2 (canonical 0 m) < 65536 = big_from-lt 0 2 (drop 2 (canonical 0 m)) (IsBytes-drop 2 (canonical 0 m) is.bytes) in
    let size = message_size 0 m in
    let told = is.spelled.length_is in
    omega (arith, bound, size, told)

pub small_happening : (what : Happening) → IsTellable (happening_message what) → happening_size what ≤ 65535
small_happening (happening.PacketIn p) is = small_message (happening_message (happening.PacketIn p)) is
small_happening (happening.FlowRemoved r) is = small_message (happening_message (happening.FlowRemoved r)) is
small_happening (happening.PortStatus p) is = small_message (happening_message (happening.PortStatus p)) is

small_entry : (e : Entry) → IsLogEntry e → entry_size e ≤ 65553
small_entry (Received e) is = let small = small_happening e.what is.what in omega (arith, small)
small_entry (Processed j) is = omega arith

small_log : (log : List Entry) → AllByRecursion IsLogEntry log → log_size log ≤ 65553 * length log
small_log [] are = omega arith
small_log (e ∷ log) are = omega (arith, sum_by-cons entry_size e log, small_entry e are.0, small_log log are.1)

size_written : (log : List Entry) → length log < 2 ^ 64 → AllByRecursion IsLogEntry log → IsWritten (log_size log) (decimal (log_size log))
size_written log few are = written (log_size log) (let small = small_log log are in omega (arith, small, few))

is_size : (size : ℕ) → IsWritten size (decimal size) → is_numeral (number_text size) ≡ true
unfolding number_text
is_size size is = is.numeral

size_then : {R : Type 0} (size : ℕ) (rest : List ℕ) (more : List ℕ × List ℕ → Option R) (y : Option R) → IsWritten size (decimal size) → more (number_text size, newline ++ rest) ≡ y → (word_at (word (number_text size) ++ (newline ++ rest)) >>= more) ≡ y
unfolding number_text
size_then size rest more y is e = rw (word_again (decimal size) (newline ++ rest) (digits_word (decimal size) (numeral_digits (decimal size) is.numeral)) refl) e

-- ---- the line of the log, and those that it counts

log_line_is : (count size : ℕ) (rest : List ℕ) → count < 2 ^ 64 → IsWritten size (decimal size) → log_line_at (line (codes "log") (number_text count ∷ number_text size ∷ []) ++ rest) ≡ Some ((count, number_text size), rest)
unfolding log_line_at
log_line_is count size rest few is =
    ap log_line_at (line_is (codes "log") (number_text count ∷ number_text size ∷ []) rest)
    ∙ after_then (codes "log") _ _ _
    (again_then number64 count _ _ _ few (parted (number_text size) _)
    (size_then size rest _ _ is
    (end_then rest _ _ (test_then _ _ _ (is_size size is) refl))))

pub log_again : (log : List Entry) (rest : List ℕ) → length log < 2 ^ 64 → AllByRecursion IsLogEntry log → log_in_text (log_lines log ++ rest) ≡ Ok (log, rest)
unfolding log_in_text log_lines
log_again log rest few are =
    ap log_in_text (append_assoc (line (codes "log") (number_text (length log) ∷ number_text (log_size log) ∷ [])) (lines_of log_line log) rest)
    ∙ line_then _ _ _ _ _ (log_line_is (length log) (log_size log) _ few (size_written log few are))
    (lines_then _ _ _ _ (each_again log_entry_at log_line IsLogEntry log_entry_is log rest are)
    (rw (numbers_same (number_text (log_size log))) refl))
