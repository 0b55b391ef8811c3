use Rattle.std.proofs.Common.{◌≡◌, ◌<◌, ◌≤◌, ℕ, false, take}
use Rattle.dispatcher.specs.Ledger.{is_addressed}
use Rattle.dispatcher.proofs.commands.span_of.Given as goal

abbrev pub invariant-loop-command : goal.invariant-loop-command
invariant-loop-command l = record {
  first : l.first ≤ l.switches;
  end : l.end ≤ l.switches;
  below : (switch : ℕ) → switch < l.first → is_addressed (take l.command-index l.commands) switch ≡ false;
  above : (switch : ℕ) → l.end ≤ switch → switch < l.switches → is_addressed (take l.command-index l.commands) switch ≡ false;
}
