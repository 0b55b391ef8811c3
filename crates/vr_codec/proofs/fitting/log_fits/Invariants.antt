use Rattle.std.proofs.Common.{take}
use Rattle.std.specs.Prelude.{All}
use Rattle.vr_codec.specs.Fits.{FitsVrEntry}
use Rattle.vr_codec.proofs.fitting.log_fits.Given as goal

abbrev pub invariant-loop-entry : goal.invariant-loop-entry
invariant-loop-entry l = All (λ entry. FitsVrEntry entry) (take l.entry-index l.log)
