-- The laws of reading, as the clauses cite them.
use Rattle.std.proofs.Common.{◌≡◌, ℕ, ◌≤◌, List, length, drop, Result, Ok, Err, refl, sym, subst, ◌∙◌}
use Rattle.std.specs.Prelude.{IfOk}
use Rattle.of_bytes.specs.Numbers.{number}
use Rattle.of_bytes.proofs.Bytes.{IsBytes}
use Rattle.of_bytes.proofs.Steps.{ok_is}
use Rattle.of_types.specs.declared.message.OfMessage.{OfMessage}
use Rattle.of_types.specs.declared.message.OfMessage.TheVariants as plain
use Rattle.of_messages.specs.declared.fault.OfFault.{OfFault}
use Rattle.of_messages.specs.declared.fault.OfFault.TheVariants as fault
use Rattle.of_types.specs.declared.refusal.Refusal.{Refusal}
use Rattle.of_messages.specs.Answers.{IsFirstMessage, IsRead}
use Rattle.of_messages.specs.Errors.{refusal}
use Rattle.of_messages.specs.Grammar.{Spells}
use Rattle.of_messages.specs.Reading.{message_at, xid_of}
use Rattle.of_messages.proofs.Again.{message_again, xid_again}
use Rattle.of_types.specs.Sizes.{plain_size}
use Rattle.of_types.specs.Valid.{IsValidPlain}
use Rattle.of_messages.proofs.Forms.{message_valid, message_long, length_fits}
use Rattle.of_messages.proofs.Takes.{message_takes}

pub is_found : (bytes : List ℕ) (r : Result (ℕ × OfMessage) OfFault) → IsBytes bytes → IsFirstMessage bytes r → IfOk r (λ x. Spells bytes x.0 x.1)
is_found bytes (Ok x) fits e = subst (λ (n : ℕ). Spells bytes n x.1) (sym e.0) (message_takes bytes x.1 fits e.1)
is_found bytes (Err d) fits e = tt

-- what is read is valid, and is written in no more bytes
pub is_valid : (bytes : List ℕ) (r : Result (ℕ × OfMessage) OfFault) → IsBytes bytes → IsFirstMessage bytes r → IfOk r (λ x. IsValidPlain x.1)
is_valid bytes (Ok x) fits e = message_valid bytes (xid_of bytes) x.1 (message_takes bytes x.1 fits e.1)
is_valid bytes (Err d) fits e = tt

pub is_short : (bytes : List ℕ) (r : Result (ℕ × OfMessage) OfFault) → IsBytes bytes → IsFirstMessage bytes r → IfOk r (λ x. (plain_size x.1 ≤ length bytes) × (length bytes ≤ 65535))
is_short bytes (Ok x) fits e =
    let s = message_takes bytes x.1 fits e.1 in
    (message_long bytes (xid_of bytes) x.1 s, length_fits bytes (xid_of bytes) x.1 fits s)
is_short bytes (Err d) fits e = tt

abbrev pair : ℕ → OfMessage → ℕ × OfMessage
pair a m = (a, m)

pair_is : (a b : ℕ) (m n : OfMessage) → a ≡ b → m ≡ n → pair a m ≡ pair b n
pair_is a b m n p q = rw (p, q) refl

not_both : (bytes : List ℕ) (m : OfMessage) (e : Refusal) → message_at bytes ≡ Ok m → message_at bytes ≡ Err e → ⊥
not_both bytes m e p q = cc

pub is_read : (bytes : List ℕ) (xid : ℕ) (m : OfMessage) (r : Result (ℕ × OfMessage) OfFault) → Spells bytes xid m → IsFirstMessage bytes r → IsRead (xid, m) r
is_read bytes xid m (Ok x) s e =
    pair_is x.0 xid x.1 m (e.0 ∙ xid_again bytes xid m s) (ok_is Refusal x.1 m (sym e.1 ∙ message_again bytes xid m s))
is_read bytes xid m (Err (fault.Wire kind code n)) s e = not_both bytes m (refusal kind code) (message_again bytes xid m s) e.1
is_read bytes xid m (Err fault.OutOfMemory) s e = tt

pub one_message : (bytes : List ℕ) (xid other : ℕ) (m n : OfMessage) → Spells bytes xid m → Spells bytes other n → (xid ≡ other) × (m ≡ n)
one_message bytes xid other m n s t =
    (sym (xid_again bytes xid m s) ∙ xid_again bytes other n t, ok_is Refusal m n (sym (message_again bytes xid m s) ∙ message_again bytes other n t))

-- the frame of an EXPERIMENTER, whatever the number of its request
pub experimenter_spelled : (bytes body : List ℕ) → IsBytes bytes → message_at bytes ≡ Ok (plain.Experimenter body) →
    Spells bytes (number 4 4 bytes) (plain.Experimenter (drop 8 bytes))
experimenter_spelled bytes body fits e =
    let s = message_takes bytes (plain.Experimenter body) fits e in
    record {
      there = s.there;
      version_is = s.version_is;
      kind_is = s.kind_is;
      length_is = s.length_is;
      xid_is = refl;
      body = record { there = s.body.there; said_is = refl };
    }
