use Rattle.std.proofs.Common.{refl}
use Rattle.view_change.proofs.Checks.{entered_did}
use Rattle.view_change.proofs.Sound.{enters_sound}
use Rattle.view_change.proofs.checking.enter_and_check.Goals as goal

pub returns : goal.returns
returns c =
    let s = c.args.state.now in
    entered_did s c.enter.new.state c.enter.new.state c.check.new.state c.args.view (λ x. x) c.args.out.now c.enter.new.out c.check.new.out c.in_ok-enter.ensures refl c.in_ok-check.ensures.step refl refl
    (enters_sound s c.args.view c.requires.log c.requires.commit)
