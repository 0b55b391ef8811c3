use Rattle.std.proofs.Common.{rules, ◌∙◌, ◌≡◌, ◌+◌, ◌++◌, ◌∷◌, [], List, ap, subst, sym, take, append_assoc}
use Rattle.std.proofs.lemmas.List.{take_more}
use Rattle.vr_log.specs.declared.entry.Entry.{Entry}
use Rattle.dispatcher.specs.Ledger.{StandsFor}
use Rattle.dispatcher.proofs.Handling.{fits_at}
use Rattle.dispatcher.proofs.dispatcher.Dispatcher.fold_all.Goals as goal

pub entries-preserved : goal.entries-preserved
entries-preserved g c = (
  c.fold.ensures.marks ∙ c.entries.invariant.0,
  λ kinds setup log stands follow.
      let all = c.args.entries.now in
      let i = c.entries.entry-index in
      let item = c.entry-item.result in
      let before = c.entries.invariant.1 kinds setup log stands follow in
      let more : take (i + 1) all ≡ take i all ++ item ∷ [] = take_more all i item (search rules) ∙ ap (λ (y : Entry). take i all ++ y ∷ []) (sym (search rules)) in
      let folded = c.in_ok-fold.ensures.folds kinds setup (log ++ take i all) before (fits_at kinds setup log all i item follow more) in
      subst (λ (l : List Entry). StandsFor g.A.App.law c.fold.new.self kinds setup l) (append_assoc log (take i all) (item ∷ []) ∙ ap (λ (l : List Entry). log ++ l) (sym more)) folded.1,
)
