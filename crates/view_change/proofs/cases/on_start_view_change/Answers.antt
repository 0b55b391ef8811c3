use Rattle.vr_log.proofs.Valid.{did_valid, on_ok}
use Rattle.view_change.proofs.Valid.{vote_later_valid, vote_here_valid}
use Rattle.view_change.proofs.cases.on_start_view_change.Goals as goal

pub returns-then-is_later-clause-valid : goal.returns-then-is_later-clause-valid
returns-then-is_later-clause-valid c =
    on_ok c.vote_later.result (did_valid _ c.vote_later.new.state c.args.out.now c.vote_later.new.out (vote_later_valid c.args.state.now c.args.from c.args.view c.requires (rw c.is_other.ensures at c.if-not-is_other.false))) c.vote_later.ensures

pub returns-then-view-state-clause-valid : goal.returns-then-view-state-clause-valid
returns-then-view-state-clause-valid c =
    on_ok c.vote_here.result (did_valid _ c.vote_here.new.state c.args.out.now c.vote_here.new.out (vote_here_valid c.args.state.now c.args.from c.requires (rw c.is_other.ensures at c.if-not-is_other.false))) c.vote_here.ensures
