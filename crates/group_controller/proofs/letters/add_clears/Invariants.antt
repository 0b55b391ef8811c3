use Rattle.std.proofs.Common.{◌≡◌, ◌≤◌, ◌+◌, ◌++◌, length, take, vec_capacity, vec_len, map}
use Rattle.group_controller.specs.Mails.{mailed}
use Rattle.group_controller.specs.Settling.{clear_letter}
use Rattle.group_controller.proofs.letters.add_clears.Given as goal

abbrev pub invariant-more : goal.invariant-more
invariant-more l = record {
  letters : mailed l.mails.items ≡ mailed l.fn.mails.items ++ map clear_letter (take l.told-index l.clears);
  long : vec_len l.mails ≡ vec_len l.fn.mails + l.told-index;
  room : vec_len l.fn.mails + length l.clears ≤ vec_capacity l.mails;
}
