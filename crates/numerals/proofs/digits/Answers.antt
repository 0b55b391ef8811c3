use Rattle.std.proofs.Common.{rules, ◌≡◌, ◌∙◌, ◌+◌, ◌-◌, ◌*◌, min, true, get_or, arith}
use Rattle.numerals.specs.Numerals.{is_digit}
use Rattle.numerals.proofs.Capped.{one_digit}
use Rattle.numerals.proofs.digits.Goals as goal

pub loop-digit-preserved : goal.loop-digit-preserved
loop-digit-preserved c =
    let before = c.loop-digit.invariant in
    let passes : is_digit (get_or c.args.text.now c.loop-digit.digit-index 0) ≡ true = search rules in
    let next : c.min-number.result ≡ min (10 * c.loop-digit.number + (get_or c.args.text.now c.loop-digit.digit-index 0 - 48)) c.args.most = grind arith in
    let one = one_digit c.args.text.now c.loop-digit.digit-index c.args.most c.loop-digit.number c.min-number.result c.loop-digit-test.true passes next in
    record { small = omega (arith, next); digits = before.digits ∙ one.0; value = before.value ∙ one.1 }
