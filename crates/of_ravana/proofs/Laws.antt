-- The laws of reading, as the clauses cite them.
use Rattle.std.proofs.Common.{◌≡◌, ℕ, ◌+◌, ◌≤◌, List, length, Result, Ok, Err, sym, ◌∙◌}
use Rattle.std.specs.Prelude.{IfOk}
use Rattle.of_bytes.proofs.Bytes.{IsBytes}
use Rattle.of_bytes.proofs.Steps.{ok_is}
use Rattle.of_messages.specs.declared.fault.OfFault.{OfFault}
use Rattle.of_messages.specs.declared.fault.OfFault.TheVariants as fault
use Rattle.of_types.specs.declared.refusal.Refusal.{Refusal}
use Rattle.of_messages.specs.Answers.{IsRead}
use Rattle.of_messages.specs.Errors.{refusal}
use Rattle.of_types.specs.declared.message.Extension.{Extension}
use Rattle.of_ravana.specs.Answers.{IsFirstExtension}
use Rattle.of_ravana.specs.Grammar.{SpellsExtension}
use Rattle.of_ravana.specs.Reading.{extension_at}
use Rattle.of_ravana.proofs.Again.{extension_again}
use Rattle.of_types.specs.Sizes.{extension_size}
use Rattle.of_types.specs.Valid.{IsValidExtension}
use Rattle.of_ravana.proofs.Forms.{extension_valid, extension_long}
use Rattle.of_ravana.proofs.Takes.{extension_takes}

pub is_found : (body : List ℕ) (r : Result Extension OfFault) → IsBytes body → IsFirstExtension body r → IfOk r (λ said. SpellsExtension body said)
is_found body (Ok said) fits e = extension_takes body said fits e
is_found body (Err d) fits e = tt

-- what is read is valid, and is written in no more bytes
pub is_valid : (body : List ℕ) (r : Result Extension OfFault) → IsBytes body → IsFirstExtension body r → IfOk r (λ said. IsValidExtension said)
is_valid body (Ok said) fits e = extension_valid body said (extension_takes body said fits e)
is_valid body (Err d) fits e = tt

pub is_short : (body : List ℕ) (r : Result Extension OfFault) → IsBytes body → IsFirstExtension body r → IfOk r (λ said. extension_size said ≤ 8 + length body)
is_short body (Ok said) fits e = extension_long body said (extension_takes body said fits e)
is_short body (Err d) fits e = tt

not_both : (body : List ℕ) (said : Extension) (e : Refusal) → extension_at body ≡ Ok said → extension_at body ≡ Err e → ⊥
not_both body said e p q = cc

pub is_read : (body : List ℕ) (said : Extension) (r : Result Extension OfFault) → SpellsExtension body said → IsFirstExtension body r → IsRead said r
is_read body said (Ok x) s e = ok_is Refusal x said (sym e ∙ extension_again body said s)
is_read body said (Err (fault.Wire kind code n)) s e = not_both body said (refusal kind code) (extension_again body said s) e.1
is_read body said (Err fault.OutOfMemory) s e = tt

pub one_message : (body : List ℕ) (said other : Extension) → SpellsExtension body said → SpellsExtension body other → said ≡ other
one_message body said other s t = ok_is Refusal said other (sym (extension_again body said s) ∙ extension_again body other t)
