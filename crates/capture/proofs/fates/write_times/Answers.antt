use Rattle.std.proofs.Common.{append_assoc, ◌∙◌, ◌++◌}
use Rattle.std.specs.Prelude.{codes}
use Rattle.report.specs.Report.{number_text, word}
use Rattle.capture_laws.specs.Fates.{kept_times}
use Rattle.capture.proofs.fates.write_times.Goals as goal

pub returns : goal.returns
unfolding kept_times number_text
returns c =
    let kept = word (codes "drawn and kept") in
    let count = word (number_text c.args.kept) in
    let times = word (codes "times") in
    c.in_ok-write_word-2.ensures ∙ rw (c.in_ok-write_number.ensures, c.in_ok-write_word.ensures) (append_assoc (c.args.out.now ++ kept) count times ∙ append_assoc c.args.out.now kept (count ++ times))
