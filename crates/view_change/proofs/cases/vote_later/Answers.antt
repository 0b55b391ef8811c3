use Rattle.std.proofs.Common.{refl}
use Rattle.view_change.specs.Entering.{voted}
use Rattle.view_change.proofs.Checks.{entered_did}
use Rattle.view_change.proofs.Sound.{vote_sound}
use Rattle.view_change.proofs.cases.vote_later.Goals as goal

pub returns : goal.returns
returns c =
    let s = c.args.state.now in
    entered_did s c.enter.new.state c.take_vote.new.state c.check.new.state c.args.view (λ x. voted x c.args.from) c.args.out.now c.enter.new.out c.check.new.out c.in_ok-enter.ensures c.in_ok-take_vote.ensures.state c.in_ok-check.ensures.step refl refl
    (vote_sound s c.args.view c.args.from c.requires.log c.requires.commit)
