-- Bytes that spell a message are one message of a stream.
use Rattle.std.proofs.Common.{◌≡◌, ◌≤◌, ℕ, Bool, true, false, not, List, [], ◌∷◌, length, drop, refl, ◌∙◌, ap, arith}
use Rattle.std.specs.Prelude.{◌&&◌, ◌||◌, ◌==◌, nat_le, nat_lt, slice_index, Ok, Err, Some, if◌then◌else◌}
use Rattle.std.proofs.lemmas.Bool.{ltb-false, le-ltb, eqb-true, eq-eqb, le-leb}
use Rattle.std.proofs.lemmas.List.{take_all, drop_all}
use Rattle.of_types.specs.declared.message.OfMessage.{OfMessage}
use Rattle.of_types.specs.declared.numbers.TheConstants.{VERSION}
use Rattle.of_types.specs.declared.refusal.TheConstants.{BAD_VERSION, BAD_LENGTH}
use Rattle.of_bytes.specs.Numbers.{number}
use Rattle.of_bytes.proofs.Steps.{passed, or_false, not_false}
use Rattle.of_frame.specs.Framing.{behind, front_of_message, length_at}
use Rattle.of_messages.specs.Reading.{body_at, message_at}
use Rattle.byte_bodies.specs.Framed.{IsOneFrame}

first_byte : (bytes : List ℕ) → 1 ≤ length bytes → slice_index bytes 0 ≡ number 1 0 bytes
first_byte [] le = absurd (omega (arith, le))
first_byte (b ∷ bytes) le = omega arith

is_one : (there wrong : Bool) → (there && wrong) ≡ false → there ≡ true → wrong ≡ false
is_one true wrong e h = e
is_one false wrong e h = absurd cc

-- a header that is all there, of the version, with the length of the whole
length_is : (bytes : List ℕ) → 8 ≤ length bytes → number 1 0 bytes ≡ VERSION → number 2 2 bytes ≡ length bytes → length_at bytes ≡ Ok (Some (length bytes))
unfolding length_at
length_is bytes long version whole =
    let byte : slice_index bytes 0 ≡ 4 = first_byte bytes (omega (arith, long)) ∙ version in
    rw (le-ltb (length bytes) 8 long, eq-eqb (slice_index bytes 0) 4 byte, whole, le-ltb (length bytes) 8 long, le-ltb (length bytes) (length bytes) (omega arith)) refl

pub one_frame : (bytes : List ℕ) (m : OfMessage) → message_at bytes ≡ Ok m → IsOneFrame bytes
unfolding message_at
one_frame bytes m e =
    let wrong = not (number 1 0 bytes == VERSION) in
    let short = nat_lt (length bytes) 8 in
    let other = not (number 2 2 bytes == length bytes) in
    let rest = body_at (number 1 1 bytes) (drop 8 bytes) in
    let p = passed (nat_le 1 (length bytes) && wrong) BAD_VERSION (if short || other then Err BAD_LENGTH else rest) m e in
    let q = passed (short || other) BAD_LENGTH rest m p.1 in
    let r = or_false short other q.0 in
    let long : 8 ≤ length bytes = ltb-false (length bytes) 8 r.0 in
    let right = is_one (nat_le 1 (length bytes)) wrong p.0 (le-leb 1 (length bytes) (omega (arith, long))) in
    let version : number 1 0 bytes ≡ VERSION = eqb-true (number 1 0 bytes) VERSION (not_false (number 1 0 bytes == VERSION) right) in
    let whole : number 2 2 bytes ≡ length bytes = eqb-true (number 2 2 bytes) (length bytes) (not_false (number 2 2 bytes == length bytes) r.1) in
    let is = length_is bytes long version whole in
    record {
      next = ap (λ o. front_of_message o bytes) is ∙ ap (λ (l : List ℕ). Ok (Some l)) (take_all (length bytes) bytes (omega arith));
      rest = ap (λ o. behind o bytes) is ∙ drop_all (length bytes) bytes (omega arith);
    }
