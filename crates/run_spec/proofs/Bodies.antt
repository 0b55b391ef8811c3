-- What was sealed is read again.
use Rattle.std.proofs.Common.{◌≡◌, ◌≤◌, ℕ, ◌+◌, Bool, true, List, ◌++◌, length, drop, refl, sym, ◌∙◌, ap, arith, length-append}
use Rattle.std.specs.Prelude.{◌&&◌, nat_le, Ok, if◌then◌else◌}
use Rattle.std.proofs.lemmas.Bool.{and_from, le-leb}
use Rattle.std.proofs.Math.Seq.{drop-append_seam}
use Rattle.of_types.specs.declared.message.Extension.{Extension}
use Rattle.of_types.specs.declared.message.OfMessage.{OfMessage}
use Rattle.of_types.specs.declared.message.OfMessage.TheVariants as plain
use Rattle.of_types.specs.declared.message.Spoken.TheVariants as spoken
use Rattle.of_types.specs.declared.numbers.TheConstants.{SHORTEST_FRAME, LONGEST_FRAME}
use Rattle.of_bytes.specs.Numbers.{number, four, big_bytes}
use Rattle.of_bytes.proofs.Bytes.{number_bytes}
use Rattle.of_messages.specs.Canonical as messages
use Rattle.of_messages.specs.Grammar.{Spells}
use Rattle.of_messages.specs.Reading.{message_at, xid_of}
use Rattle.of_messages.proofs.Again.{message_again, xid_again}
use Rattle.of_messages.proofs.Written.{message_spelled}
use Rattle.of_ravana.specs.Canonical.{canonical_spoken, canonical_extension, extension_body}
use Rattle.of_ravana.specs.Reading.{extension_at}
use Rattle.of_ravana.proofs.Again.{extension_again}
use Rattle.of_ravana.proofs.Written.{extension_spelled, extension_has_size}
use Rattle.vr_codec.proofs.Laws.{read_again}
use Rattle.run_spec.specs.declared.messages.Message.TheVariants as message
use Rattle.run_spec.specs.declared.messages.Unsealed.TheVariants as unsealed
use Rattle.run_spec.specs.Bodies.{own_bodies, byte_bodies, spoken_said, extension_said, vr_said, frame_said}
use Rattle.run_spec.specs.Messages.{nothing_said}
use Rattle.run_spec.specs.States.{IsFaithful}

-- a message that is its own body
pub own_again : IsFaithful own_bodies
own_again (message.Of xid said) valid fits = refl
own_again (message.Vr said) valid fits = refl
own_again (message.Frame port bytes) valid fits = refl

-- bytes that spell a message of OpenFlow that is no EXPERIMENTER
plain_again : (bytes : List ℕ) (xid : ℕ) (said : OfMessage) → Spells bytes xid said → spoken_said bytes (Ok said) ≡ unsealed.Message (message.Of (xid_of bytes) (spoken.Plain said)) →
    spoken_said bytes (message_at bytes) ≡ unsealed.Message (message.Of xid (spoken.Plain said))
plain_again bytes xid said spells is =
    ap (λ r. spoken_said bytes r) (message_again bytes xid said spells) ∙ is ∙ ap (λ (n : ℕ). unsealed.Message (message.Of n (spoken.Plain said))) (xid_again bytes xid said spells)

-- and one of the extension
extended_again : (bytes : List ℕ) (xid : ℕ) (said : Extension) → Spells bytes xid (plain.Experimenter (canonical_extension said)) → extension_at (canonical_extension said) ≡ Ok said →
    spoken_said bytes (message_at bytes) ≡ unsealed.Message (message.Of xid (spoken.Ravana said))
extended_again bytes xid said spells inner =
    ap (λ r. spoken_said bytes r) (message_again bytes xid (plain.Experimenter (canonical_extension said)) spells)
    ∙ ap (λ r. extension_said bytes r) inner
    ∙ ap (λ (n : ℕ). unsealed.Message (message.Of n (spoken.Ravana said))) (xid_again bytes xid (plain.Experimenter (canonical_extension said)) spells)

-- behind the header of an EXPERIMENTER stand its number and its type
number_and_type : (said : Extension) → 8 ≤ length (canonical_extension said)
unfolding canonical_extension extension_body four
number_and_type said = omega arith

-- a port and a frame of a length that a link carries
frame_again : (port : ℕ) (head bytes : List ℕ) → length head ≡ 4 → number 4 0 (head ++ bytes) ≡ port → SHORTEST_FRAME ≤ length bytes → length bytes ≤ LONGEST_FRAME →
    frame_said (head ++ bytes) ≡ unsealed.Message (message.Frame port bytes)
frame_again port head bytes four_bytes port_is short long =
    let whole = length-append head bytes in
    let fits : (nat_le (4 + SHORTEST_FRAME) (length (head ++ bytes)) && nat_le (length (head ++ bytes)) (4 + LONGEST_FRAME)) ≡ true =
    and_from (nat_le (4 + SHORTEST_FRAME) (length (head ++ bytes))) (nat_le (length (head ++ bytes)) (4 + LONGEST_FRAME))
    (le-leb (4 + SHORTEST_FRAME) (length (head ++ bytes)) (omega (arith, whole, four_bytes, short))) (le-leb (length (head ++ bytes)) (4 + LONGEST_FRAME) (omega (arith, whole, four_bytes, long))) in
    let rest : drop 4 (head ++ bytes) ≡ bytes = ap (λ (n : ℕ). drop n (head ++ bytes)) (sym four_bytes) ∙ drop-append_seam head bytes in
    ap (λ (b : Bool). if b then unsealed.Message (message.Frame (number 4 0 (head ++ bytes)) (drop 4 (head ++ bytes))) else nothing_said) fits
    ∙ ap (λ (n : ℕ). unsealed.Message (message.Frame n (drop 4 (head ++ bytes)))) port_is
    ∙ ap (λ (l : List ℕ). unsealed.Message (message.Frame port l)) rest

-- the bytes of a message
pub bytes_again : IsFaithful byte_bodies
unfolding canonical_spoken four
bytes_again (message.Of xid (spoken.Ravana said)) valid fits =
    let spells = extension_spelled said valid.0 fits.1 valid.1 in
    let size = extension_has_size said in
    extended_again (messages.canonical xid (plain.Experimenter (canonical_extension said))) xid said
    (message_spelled xid (plain.Experimenter (canonical_extension said)) (number_and_type said) tt (omega (arith, size, valid.1)) fits.0)
    (extension_again (canonical_extension said) said spells)
bytes_again (message.Of xid (spoken.Plain (plain.Experimenter body))) valid fits = absurd valid
bytes_again (message.Of xid (spoken.Plain said)) valid fits =
    plain_again (messages.canonical xid said) xid said (message_spelled xid said valid.0 fits.1 valid.1 fits.0) refl
bytes_again (message.Vr said) valid fits = ap (λ r. vr_said r) (read_again said valid fits)
bytes_again (message.Frame port bytes) valid fits = frame_again port (big_bytes 4 port) bytes refl (number_bytes 4 port bytes fits) valid.0 valid.1
