use Rattle.std.proofs.Common.{◌≡◌, drop}
use Rattle.std.specs.Prelude.{flat_map}
use Rattle.of_switch.specs.State.{own_number_of}
use Rattle.of_switch.specs.Forwarding.{over_link, over_links}
use Rattle.of_switch.specs.Drafts.{with_letters}
use Rattle.of_switch.proofs.switch.Switch.send_over_links.Given as goal

abbrev pub invariant-loop-link : goal.invariant-loop-link
invariant-loop-link l =
    with_letters l.draft (flat_map (over_link l.frame (own_number_of l.self) l.port) (drop l.link-index l.link-items))
    ≡ with_letters l.fn.draft (over_links l.self l.frame l.port)
