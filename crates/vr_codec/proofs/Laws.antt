-- The laws of reading, as the clauses cite them.
use Rattle.std.proofs.Common.{◌≡◌, ℕ, List, Result, Ok, Err, sym, ◌∙◌}
use Rattle.std.specs.Prelude.{IfOk}
use Rattle.of_bytes.proofs.Bytes.{IsBytes}
use Rattle.of_bytes.proofs.Steps.{ok_is}
use Rattle.vr_log.specs.declared.message.VrMessage.{VrMessage}
use Rattle.vr_codec.specs.declared.fault.VrFault.{VrFault}
use Rattle.vr_codec.specs.declared.fault.VrFault.TheVariants as fault
use Rattle.vr_codec.specs.declared.fault.VrRefusal.{VrRefusal}
use Rattle.vr_codec.specs.Answers.{GivesVr, IsVrRead}
use Rattle.vr_codec.specs.Canonical.{canonical_vr}
use Rattle.vr_log.specs.Sizes.{IsValidVr}
use Rattle.vr_codec.specs.Fits.{FitsVr}
use Rattle.vr_codec.specs.Grammar.{SpellsVr}
use Rattle.vr_codec.specs.Reading.{vr_at}
use Rattle.vr_codec.proofs.Again.{vr_again}
use Rattle.vr_codec.proofs.Takes.{vr_takes}
use Rattle.vr_codec.proofs.Valid.{vr_valid}
use Rattle.vr_codec.proofs.Written.{vr_spelled}

pub is_found : (bytes : List ℕ) (r : Result VrMessage VrFault) → IsBytes bytes → GivesVr (λ m. m) r (vr_at bytes) → IfOk r (λ m. SpellsVr bytes m)
is_found bytes (Ok m) fits e = vr_takes bytes m fits e
is_found bytes (Err d) fits e = tt

pub is_valid : (bytes : List ℕ) (r : Result VrMessage VrFault) → IsBytes bytes → GivesVr (λ m. m) r (vr_at bytes) → IfOk r (λ m. IsValidVr m)
is_valid bytes (Ok m) fits e = vr_valid bytes m fits (vr_takes bytes m fits e)
is_valid bytes (Err d) fits e = tt

not_both : (bytes : List ℕ) (m : VrMessage) (e : VrRefusal) → vr_at bytes ≡ Ok m → vr_at bytes ≡ Err e → ⊥
not_both bytes m e p q = cc

pub is_read : (bytes : List ℕ) (m : VrMessage) (r : Result VrMessage VrFault) → SpellsVr bytes m → GivesVr (λ x. x) r (vr_at bytes) → IsVrRead m r
is_read bytes m (Ok x) s e = ok_is VrRefusal x m (sym e ∙ vr_again bytes m s)
is_read bytes m (Err (fault.Refused d)) s e = not_both bytes m d (vr_again bytes m s) e
is_read bytes m (Err fault.OutOfMemory) s e = tt

pub one_message : (bytes : List ℕ) (m other : VrMessage) → SpellsVr bytes m → SpellsVr bytes other → m ≡ other
one_message bytes m other s t = ok_is VrRefusal m other (sym (vr_again bytes m s) ∙ vr_again bytes other t)

pub read_again : (m : VrMessage) → IsValidVr m → FitsVr m → vr_at (canonical_vr m) ≡ Ok m
read_again m v f = vr_again (canonical_vr m) m (vr_spelled m v f)
