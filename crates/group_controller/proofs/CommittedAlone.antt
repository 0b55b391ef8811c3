-- An entry that is committed alone: what it has as processed.
use Rattle.std.proofs.Common.{◌≡◌, ◌∙◌, ◌≤◌, ◌<◌, ℕ, true, List, [], ◌∷◌, ◌++◌, ap, append-nil, arith, get_or, length, refl, sym}
use Rattle.std.specs.Prelude.{Some, None}
use Rattle.of_types.specs.declared.setup.Setup.{Setup}
use Rattle.vr_log.specs.declared.entry.Entry.{Entry}
use Rattle.vr_log.specs.Log.{follows}
use Rattle.dispatcher.specs.declared.answers.HandledEvent.{HandledEvent}
use Rattle.dispatcher.specs.Folding.{places_processed}
use Rattle.dispatcher.specs.Ledger.{AreHandledAt, handled_by}
use Rattle.dispatcher.proofs.Handling.{goes_on_none, goes_on_some}

-- a list of one element
pub alone_is : (entries : List Entry) (entry : Entry) → 1 ≤ length entries → length entries < 2 → entry ≡ get_or entries 0 entry → entries ≡ entry ∷ []
alone_is [] entry some few is = absurd (omega (arith, some))
alone_is (first ∷ []) entry some few is = ap (λ (e : Entry). e ∷ []) (sym is)
alone_is (first ∷ second ∷ entries) entry some few is = absurd (omega (arith, few))

module _ (kinds : List ℕ) (setup : Setup) (log : List Entry) (entry : Entry) where
  pub alone_some : (event : HandledEvent) → Some event ≡ handled_by kinds setup log entry → AreHandledAt kinds setup (log ++ entry ∷ []) (places_processed (entry ∷ [])) (event ∷ [])
  alone_some event some = goes_on_some kinds setup log (entry ∷ []) 0 entry event [] refl (some ∙ ap (λ (l : List Entry). handled_by kinds setup l entry) (sym (append-nil log))) refl

  pub alone_none : follows log (entry ∷ []) ≡ true → None ≡ handled_by kinds setup log entry → AreHandledAt kinds setup (log ++ entry ∷ []) (places_processed (entry ∷ [])) []
  alone_none follow none = goes_on_none kinds setup log (entry ∷ []) 0 entry [] follow refl (none ∙ ap (λ (l : List Entry). handled_by kinds setup l entry) (sym (append-nil log))) refl
