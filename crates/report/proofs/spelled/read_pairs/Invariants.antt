use Rattle.std.proofs.Common.{◌≡◌, ◌+◌, ◌*◌, true, length, take}
use Rattle.std.specs.List.{list_all}
use Rattle.report.specs.Spelled.{digits_of, is_text_digit}
use Rattle.report.proofs.Steps.{behind}
use Rattle.report.proofs.spelled.read_pairs.Given as goal

abbrev pub invariant-loop-byte : goal.invariant-loop-byte
invariant-loop-byte l = record {
  read : behind (take l.byte-index l.room) (digits_of l.rest) ≡ digits_of l.digits;
  left : length l.rest + 2 * l.byte-index ≡ length l.digits;
  digits : list_all is_text_digit l.rest ≡ true;
}
