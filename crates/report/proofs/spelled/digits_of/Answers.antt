use Rattle.std.proofs.Common.{◌/◌, length, sym, ◌∙◌, arith}
use Rattle.report.proofs.Steps.{odd_digits, other_digits}
use Rattle.report.proofs.spelled.digits_of.Goals as goal
use Rattle.report.proofs.spelled.digits_of.Goals.{then-digits-eq1-via-then-digits-eq1, then-digits-eq1-via-else-digits-eq1+then-not-are_digits}

pub returns-then-digits-eq1 : goal.returns-then-digits-eq1
returns-then-digits-eq1 c =
    elim c.then-digits-eq1.branch [
      | then-digits-eq1-via-then-digits-eq1 w ↦ let odd = w.if-digits-eq1.true in odd_digits (length c.args.digits.now / 2) c.args.digits.now (omega (arith, odd))
      | then-digits-eq1-via-else-digits-eq1+then-not-are_digits w ↦ other_digits c.args.digits.now (sym w.are_digits.ensures ∙ w.if-not-are_digits.true)
    ]
