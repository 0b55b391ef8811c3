-- Logs that are made entry by entry.
use Rattle.std.specs.Prelude.{◌≡◌, ℕ, Bool, true, ◌&&◌, List, [], ◌∷◌, ◌++◌}
use Rattle.agreement.specs.Invariant.{IsGroup}

-- each of these entries fits behind those before it
abbrev pub log_follows : {E : Type 0} → (List E → E → Bool) → List E → List E → Bool
log_follows fits before [] = true
log_follows fits before (e ∷ es) = fits before e && log_follows fits (before ++ e ∷ []) es

-- whatever test of an entry and of those before it logs are made by, they make a group
abbrev pub FitsMakeGroups : Type 0 → Type 0
FitsMakeGroups E = (most_failures : ℕ) (fits : List E → E → Bool) → IsGroup (record { most_failures = most_failures; is_log = log_follows fits [] })

-- one entry more makes a log just where it fits behind one
abbrev pub FitsTestLast : Type 0 → Type 0
FitsTestLast E = (fits : List E → E → Bool) (log : List E) (e : E) → log_follows fits [] (log ++ e ∷ []) ≡ (log_follows fits [] log && fits log e)
