-- What is true of a log whose beginning is committed: past that at most one event stands as processed, one that is committed.
use Rattle.std.proofs.Common.{◌≡◌, ◌≤◌, ◌<◌, inl, inr, ℕ, ◌+◌, true, List, ◌∷◌, length, take, refl, sym, subst, arith}
use Rattle.std.proofs.lemmas.Bool.{lt-ltb, cases_lt}
use Rattle.list_facts.specs.Lists.{IsIn, IsPrefix}
use Rattle.list_facts.proofs.Elements.{in_right}
use Rattle.list_facts.proofs.Prefixes.{prefix_take}
use Rattle.vr_log.specs.declared.entry.Entry.{Entry}
use Rattle.vr_log.specs.declared.entry.Entry.TheVariants.{Processed}
use Rattle.vr_log.specs.Log.{received, processed, is_log}
use Rattle.two_stage_log.specs.Counts.{has_unprocessed}
use Rattle.controller_moves.proofs.ControllerLaws.Logs.{processed_stands}
use Rattle.run_laws.specs.OnceLaws.Facts.{PastFacts}
use Rattle.run_laws.specs.OnceLaws.Truths.{IsAhead}

-- an event that a log has as processed stands there
stands_in : (log : List Entry) (j : ℕ) → is_log log ≡ true → j < processed log → IsIn (Processed j) log
stands_in log j valid less =
    let r = processed_stands log j valid less in
    subst (λ (l : List Entry). IsIn (Processed j) l) (sym r.is) (in_right (Processed j) r.front (Processed j ∷ r.back) (inl refl))

module _ (f : PastFacts) (log : List Entry) (k : ℕ) (valid : is_log log ≡ true) (begins : IsPrefix f.decided log) (ahead : IsAhead f k log) where
  -- what is committed is the beginning of the log
  pub committed_is : take k f.decided ≡ take k log
  committed_is = prefix_take k begins ahead.bound

  bound : (j : ℕ) → j < processed log → (j ≤ processed (take k log)) × (j < length (received (take k log)))
  bound j less = subst (λ (l : List Entry). (j ≤ processed l) × (j < length (received l))) committed_is (ahead.one j (stands_in log j valid less))

  pub one_ahead : processed log ≤ processed (take k log) + 1
  one_ahead = elim (cases_lt (processed (take k log) + 1) (processed log)) [
    | inl more ↦ let b = (bound (processed (take k log) + 1) more).0 in absurd (omega (arith, b))
    | inr few ↦ few
  ]

  pub last_is : processed (take k log) < processed log → has_unprocessed (take k log) ≡ true
  last_is less = lt-ltb (processed (take k log)) (length (received (take k log))) (bound (processed (take k log)) less).1
