use Rattle.vr_log.proofs.Valid.{starting_valid}
use Rattle.vr_log.proofs.state.VrState.new.Goals as goal

pub returns-clause-valid : goal.returns-clause-valid
returns-clause-valid c =
    rw (c.new.ensures, c.new-2.ensures, c.new-3.ensures, c.new-5.ensures, c.in_ok-new.ensures)
    (starting_valid c.args.me c.args.controllers c.requires.group c.requires.member)
