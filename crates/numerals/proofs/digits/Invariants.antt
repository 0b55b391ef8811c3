use Rattle.std.proofs.Common.{◌≡◌, ◌≤◌, min, drop}
use Rattle.numerals.specs.Numerals.{are_digits, number_behind}
use Rattle.numerals.proofs.digits.Given as goal

abbrev pub invariant-loop-digit : goal.invariant-loop-digit
invariant-loop-digit l = record {
  small : l.number ≤ l.most;
  digits : are_digits l.text ≡ are_digits (drop l.digit-index l.text);
  value : min (number_behind 0 l.text) l.most ≡ min (number_behind l.number (drop l.digit-index l.text)) l.most;
}
