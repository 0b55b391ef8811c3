use Rattle.vr_log.proofs.Valid.{did_valid, on_ok}
use Rattle.view_change.proofs.Valid.{do_view_change_valid}
use Rattle.view_change.specs.Cases.{do_view_change}
use Rattle.std.proofs.Common.{◌≡◌, true, sym, ◌∙◌}
use Rattle.std.specs.Prelude.{OnOk}
use Rattle.vr_log.specs.Steps.{Did}
use Rattle.vr_log.specs.Members.{is_other, is_primary_of}
use Rattle.view_change.proofs.cases.on_do_view_change.Goals as goal

pub returns-clause-valid : goal.returns-clause-valid
returns-clause-valid c =
    let s = c.args.state.now in
    let other : is_other s c.args.from ≡ true = sym c.is_other.ensures ∙ c.if-not-is_other.false in
    let mine : is_primary_of s s.me c.args.view ≡ true = sym c.is_primary_of.ensures ∙ c.if-not-is_primary_of.false in
    let did : OnOk c.collect_told.result (Did (do_view_change s c.args.from c.args.view c.args.normal c.args.commit c.args.log) c.collect_told.new.state c.args.out.now c.collect_told.new.out) = rw (other, mine) c.collect_told.ensures in
    on_ok c.collect_told.result (did_valid _ c.collect_told.new.state c.args.out.now c.collect_told.new.out (do_view_change_valid s c.args.from c.args.view c.args.normal c.args.commit c.args.log c.requires)) did
