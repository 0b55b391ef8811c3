use Rattle.std.proofs.Common.{◌≡◌, ◌++◌, drop}
use Rattle.std.specs.Prelude.{filter}
use Rattle.of_switch.specs.State.{is_at}
use Rattle.of_switch.proofs.switch.links_at.Given as goal

abbrev pub invariant-loop-link : goal.invariant-loop-link
invariant-loop-link l = l.own ++ filter (is_at l.number) (drop l.link-index l.links) ≡ filter (is_at l.number) l.links
