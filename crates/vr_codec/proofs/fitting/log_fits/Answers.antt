use Rattle.std.proofs.Common.{List, take, get_or, subst, sym}
use Rattle.std.specs.Prelude.{All}
use Rattle.std.proofs.lemmas.List.{take_more, take_all}
use Rattle.std.proofs.lemmas.List.Elements.{All-push}
use Rattle.vr_log.specs.declared.entry.Entry.{Entry}
use Rattle.vr_codec.specs.Fits.{FitsVrEntry}
use Rattle.vr_codec.proofs.fitting.log_fits.Goals as goal

pub loop-entry-preserved : goal.loop-entry-preserved
loop-entry-preserved c =
    let log = c.args.log.now in let at = c.loop-entry.entry-index in let item = c.entry-item.result in
    subst (λ (xs : List Entry). All (λ entry. FitsVrEntry entry) xs) (sym (take_more log at item c.loop-entry-test.true))
    (All-push (λ entry. FitsVrEntry entry) (take at log) (get_or log at item) c.loop-entry.invariant (subst (λ (entry : Entry). FitsVrEntry entry) c.entry-item.is c.entry_fits.ensures))

pub returns : goal.returns
returns c =
    subst (λ (xs : List Entry). All (λ entry. FitsVrEntry entry) xs) (take_all c.loop-entry.entry-index c.args.log.now c.loop-entry-test.false) c.loop-entry.invariant
