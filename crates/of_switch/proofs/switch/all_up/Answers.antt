use Rattle.of_switch.proofs.Ports.{flags-none}
use Rattle.of_switch.proofs.switch.all_up.Goals as goal

pub returns-clause-up : goal.returns-clause-up
returns-clause-up c = flags-none c.args.count _ _ _ c.in_ok-resize.ensures.items c.new-down.ensures.items c.new-down.ensures.len
