-- Reading entries one by one.
use Rattle.std.proofs.Common.{◌≡◌, ℕ, zero, suc, ◌-◌, ◌<◌, false, List, [], ◌∷◌, ◌++◌, length, Result, Ok, refl, sym, ◌∙◌, arith}
use Rattle.std.specs.Prelude.{nat_lt}
use Rattle.vr_log.specs.declared.entry.Entry.{Entry}
use Rattle.vr_log.specs.Log.{log_bytes}
use Rattle.vr_codec.specs.declared.fault.VrFault.{VrFault}
use Rattle.vr_codec.specs.declared.fault.VrFault.TheVariants as fault
use Rattle.vr_codec.specs.declared.fault.VrRefusal.{VrRefusal}
use Rattle.vr_codec.specs.Answers.{FailsVr}
use Rattle.vr_codec.specs.Reading.{entry_at, entries_at}

-- an entry that is refused is the answer
pub stops : (whole count : ℕ) (before : List Entry) (bytes : List ℕ) (e : VrFault) (all : Result (List Entry × List ℕ) VrRefusal)
    → 0 < count → entries_at whole count before bytes ≡ all → FailsVr e (entry_at bytes) → FailsVr e all
unfolding entries_at
stops whole zero before bytes e all lt inv f = absurd (omega arith)
stops whole (suc count) before bytes (fault.Refused e) all lt inv f = sym inv ∙ rw f refl
stops whole (suc count) before bytes fault.OutOfMemory all lt inv f = tt

-- an entry that was read, within the limit, joins those before it
pub goes_on : (whole count : ℕ) (before : List Entry) (bytes rest : List ℕ) (entry : Entry) (all : Result (List Entry × List ℕ) VrRefusal)
    → 0 < count → entries_at whole count before bytes ≡ all → entry_at bytes ≡ Ok (entry, rest) → nat_lt log_bytes (whole - length rest) ≡ false
    → entries_at whole (count - 1) (before ++ entry ∷ []) rest ≡ all
unfolding entries_at
goes_on whole zero before bytes rest entry all lt inv f small = absurd (omega arith)
goes_on whole (suc count) before bytes rest entry all lt inv f small =
    let back : suc count - 1 ≡ count = omega arith in
    rw (back, sym inv, f, small) refl
