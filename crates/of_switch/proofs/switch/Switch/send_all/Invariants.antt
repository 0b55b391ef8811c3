use Rattle.std.proofs.Common.{◌≡◌, drop}
use Rattle.of_switch.specs.Drafts.{with_outputs, untold}
use Rattle.of_switch.proofs.switch.Switch.send_all.Given as goal

abbrev pub invariant-loop-output : goal.invariant-loop-output
invariant-loop-output l =
    with_outputs l.self untold l.in_port l.frame (drop l.output-index l.outputs) l.draft
    ≡ with_outputs l.self untold l.in_port l.frame l.outputs l.fn.draft
