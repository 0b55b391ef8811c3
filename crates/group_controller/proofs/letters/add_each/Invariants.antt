use Rattle.std.proofs.Common.{◌≡◌, ◌≤◌, ◌+◌, ◌++◌, length, vec_capacity, vec_len, map}
use Rattle.group_controller.specs.Mails.{mailed}
use Rattle.group_controller.specs.Settling.{command_letter}
use Rattle.group_controller.proofs.letters.add_each.Given as goal

abbrev pub invariant-more : goal.invariant-more
invariant-more l = record {
  letters : mailed l.mails.items ≡ mailed l.fn.mails.items ++ map (command_letter l.view) l.yielded;
  long : vec_len l.mails ≡ vec_len l.fn.mails + length l.yielded;
  room : vec_len l.fn.mails + length l.fn.commands.items ≤ vec_capacity l.mails;
}
