use Rattle.std.proofs.Common.{◌≡◌, ◌<◌, ℕ, false, length, take, get_or}
use Rattle.dispatcher.specs.Ledger.{has_told}
use Rattle.dispatcher.proofs.commands.told_switches.Given as goal

abbrev pub invariant-loop-command : goal.invariant-loop-command
invariant-loop-command l = (length l.told ≡ 256) × ((switch : ℕ) → switch < 256 → get_or l.told switch false ≡ has_told l.ledger (take l.command-index l.commands) switch)
