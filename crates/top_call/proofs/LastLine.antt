-- The last line of a report is that of its sums.
use Rattle.std.proofs.Common.{◌≡◌, IfOk, List, ℕ, refl, ◌∙◌, ap}
use Rattle.std.specs.Prelude.{Result, Ok, Err}
use Rattle.report.specs.declared.record.Record.{Record}
use Rattle.report.specs.declared.sums.Sums.{Sums}
use Rattle.report.specs.Report.{end_line, sum_words}
use Rattle.report.specs.Sums.{sums_in, sums_line}
use Rattle.top_call.specs.declared.sim.Output.{Output}
use Rattle.top_call.specs.declared.sim.Output.TheVariants.{LastLine}
use Rattle.top_call.specs.Play.{told_text}

same_line : (r : Record) → sums_line (sums_in r) ≡ end_line r
unfolding sums_line end_line sum_words
same_line r = refl

pub tells_last : {E : Type 0} (result : Result (List ℕ) E) (output : Output) (sums : Sums) (told : Record) → output ≡ LastLine → sums ≡ sums_in told →
    IfOk result (λ bytes. bytes ≡ sums_line sums) → IfOk result (λ bytes. bytes ≡ told_text output told)
tells_last (Ok bytes) output sums told is same told_so = rw is (told_so ∙ ap (λ s. sums_line s) same ∙ same_line told)
tells_last (Err e) output sums told is same told_so = tt
