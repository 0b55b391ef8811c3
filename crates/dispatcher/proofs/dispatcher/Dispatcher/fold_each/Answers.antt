use Rattle.std.proofs.Common.{rules, ◌∙◌, ◌≡◌, ◌+◌, ◌++◌, ◌∷◌, [], List, ap, subst, sym, take, append_assoc}
use Rattle.std.proofs.lemmas.List.{take_more}
use Rattle.vr_log.specs.declared.entry.Entry.{Entry}
use Rattle.dispatcher.specs.declared.answers.HandledEvent.{HandledEvent}
use Rattle.dispatcher.specs.Folding.{places_processed}
use Rattle.dispatcher.specs.Ledger.{AreHandledAt, StandsFor}
use Rattle.dispatcher.proofs.Handling.{fits_at, goes_on_none, goes_on_some}
use Rattle.dispatcher.proofs.dispatcher.Dispatcher.fold_each.Goals.{in-Some+in_ok-push, in_default}
use Rattle.dispatcher.proofs.dispatcher.Dispatcher.fold_each.Goals as goal

pub entries-preserved : goal.entries-preserved
entries-preserved g c = (
  c.fold.ensures.marks ∙ c.entries.invariant.0,
  λ kinds setup log stands follow.
      let all = c.args.entries.now in
      let i = c.entries.entry-index in
      let item = c.entry-item.result in
      let before = c.entries.invariant.1 kinds setup log stands follow in
      let more : take (i + 1) all ≡ take i all ++ item ∷ [] = take_more all i item (search rules) ∙ ap (λ (y : Entry). take i all ++ y ∷ []) (sym (search rules)) in
      let folded = c.in_ok-handled.ensures.folds kinds setup (log ++ take i all) before.1 (fits_at kinds setup log all i item follow more) in
      let stands' = subst (λ (l : List Entry). StandsFor g.A.App.law c.fold.new.self kinds setup l) (append_assoc log (take i all) (item ∷ []) ∙ ap (λ (l : List Entry). log ++ l) (sym more)) folded.1 in (
        elim c.match-branch-2.branch [
          | in-Some+in_ok-push w ↦ subst (λ (l : List HandledEvent). AreHandledAt kinds setup (log ++ take (i + 1) all) (places_processed (take (i + 1) all)) l) (sym (ap (λ v. v.items) w.processed-is ∙ w.in_ok-push.ensures.items))
              (goes_on_some kinds setup log all i item w.in-Some.handled c.entries.processed.items more (sym w.in-Some.is ∙ folded.0) before.0)
          | in_default w ↦ subst (λ (l : List HandledEvent). AreHandledAt kinds setup (log ++ take (i + 1) all) (places_processed (take (i + 1) all)) l) (sym (ap (λ v. v.items) w.processed-is))
              (goes_on_none kinds setup log all i item c.entries.processed.items follow more (sym w.in_default.is ∙ folded.0) before.0)
        ],
        stands',
      ),
)
