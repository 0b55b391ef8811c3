-- What any two controllers show agrees, in groups of one and of more.
use Rattle.std.proofs.Common.{ℕ, ◌<◌, ◌≤◌, ◌⊎◌, inl, inr, List, [], ◌∷◌, ◌++◌, sym, subst, arith, append-nil}
use Rattle.std.proofs.lemmas.Bool.{cases_lt}
use Rattle.list_facts.specs.Lists.{IsPrefix}
use Rattle.agreement.specs.History.{Group, size}
use Rattle.agreement.specs.Invariant.{Invariant}
use Rattle.agreement.specs.Laws.{Run}
use Rattle.agreement.specs.Journals.{Rules, Entry, history, IsAllowed, Follows, kept_log, JournalsAgree}
use Rattle.agreement.proofs.Consequences.{certified_agree}
use Rattle.agreement.proofs.Runs.{start_good, run_keeps, run_certified}
use Rattle.agreement.proofs.Turns.{shown_certified}
use Rattle.agreement.proofs.Journals.{journal_runs, journal_shows}
use Rattle.agreement.proofs.Alone.{alone_agrees}

pub legal_past : {Own A E : Type 0} (r : Rules Own A E) (g : Group E) (more past : List (Entry Own E)) → IsAllowed r g (more ++ past) → IsAllowed r g past
legal_past r g [] past k = k
legal_past r g (e ∷ more) past k = legal_past r g more past k.1

module _ {Own A E : Type 0} {r : Rules Own A E} {g : Group E} (f : Follows r g) (o : 1 ≤ g.most_failures) where
  -- the invariant, at each time of a journal
  pub journal_good : (past : List (Entry Own E)) → IsAllowed r g past → Invariant g (history r g past)
  journal_good past k =
      let i0 = start_good f.group f.starts in
      let run = journal_runs f o past [] i0 (subst (λ (x : List (Entry Own E)). IsAllowed r g x) (sym (append-nil past)) k) in
      run_keeps f.group i0 (subst (λ (x : List (Entry Own E)). Run g (history r g []) (history r g x)) (append-nil past) run)

  many_agree : (more past : List (Entry Own E)) (c d : ℕ) → IsAllowed r g (more ++ past) → c < size g → d < size g → IsPrefix (kept_log r c past) (kept_log r d (more ++ past)) ⊎ IsPrefix (kept_log r d (more ++ past)) (kept_log r c past)
  many_agree more past c d k b b' =
      let k1 = legal_past r g more past k in
      let i1 = journal_good past k1 in
      let run = journal_runs f o more past i1 k in
      let i2 = run_keeps f.group i1 run in
      certified_agree i2 (run_certified f.group i1 run (shown_certified f.group i1 b (journal_shows f o past c i1 k1 b))) (shown_certified f.group i2 b' (journal_shows f o (more ++ past) d i2 k b'))

pub journals_law : {Own A E : Type 0} → JournalsAgree Own A E
journals_law r g more past c d f k b b' = elim (cases_lt 0 g.most_failures) [
  | inl o ↦ many_agree f (omega arith) more past c d k b b'
  | inr o ↦ alone_agrees f (omega arith) more past c d b b'
]
