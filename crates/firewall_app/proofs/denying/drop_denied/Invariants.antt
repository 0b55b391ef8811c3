use Rattle.std.proofs.Common.{◌≡◌, ◌++◌, map}
use Rattle.std.specs.List.{range_with_len}
use Rattle.app_core.specs.Firewall.{dropping_row}
use Rattle.firewall_app.proofs.denying.drop_denied.Given as goal

abbrev pub invariant-loop-switch : goal.invariant-loop-switch
invariant-loop-switch l = l.out ≡ l.initial.out ++ map (dropping_row l.rule) (range_with_len 0 l.switch)
