-- The front of a log, with one entry more.
use Rattle.std.proofs.Common.{◌≡◌, ◌<◌, ℕ, ◌+◌, List, ◌∷◌, [], ◌++◌, length, get_or, take, sym, ap, ◌∙◌, append-nil}
use Rattle.std.proofs.lemmas.List.{take_more}
use Rattle.of_types.specs.declared.message.Event.{Event}
use Rattle.vr_log.specs.declared.entry.Entry.{Entry}
use Rattle.vr_log.specs.declared.entry.Entry.TheVariants.{Received, Processed}
use Rattle.vr_log.specs.Log.{received}
use Rattle.vr_log.proofs.Logs.{received-append}

module _ (log : List Entry) (i : ℕ) (item : Entry) (lt : i < length log) (at : item ≡ get_or log i item) where
  pub front_more : take (i + 1) log ≡ take i log ++ item ∷ []
  front_more = take_more log i item lt ∙ ap (λ (e : Entry). take i log ++ e ∷ []) (sym at)

  pub received_one : (e : Event) → item ≡ Received e → received (take (i + 1) log) ≡ received (take i log) ++ e ∷ []
  received_one e is = ap received front_more ∙ received-append (take i log) (item ∷ []) ∙ ap (λ (x : Entry). received (take i log) ++ received (x ∷ [])) is

  pub received_none : (j : ℕ) → item ≡ Processed j → received (take (i + 1) log) ≡ received (take i log)
  received_none j is = ap received front_more ∙ received-append (take i log) (item ∷ []) ∙ ap (λ (x : Entry). received (take i log) ++ received (x ∷ [])) is ∙ append-nil (received (take i log))
