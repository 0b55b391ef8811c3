use Rattle.std.proofs.Common.{◌≡◌, take}
use Rattle.std.specs.List.{list_all}
use Rattle.report.specs.Spelled.{is_text_digit}
use Rattle.report.proofs.spelled.are_digits.Given as goal

abbrev pub invariant-loop-digit : goal.invariant-loop-digit
invariant-loop-digit l = l.all ≡ list_all is_text_digit (take l.digit-index l.digits)
