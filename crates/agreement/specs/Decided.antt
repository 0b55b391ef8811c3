-- What a journal has decided: the longest log that any controller ever showed as committed.
use Rattle.std.specs.Prelude.{◌≡◌, ℕ, zero, suc, ◌<◌, nat_lt, List, [], ◌∷◌, ◌++◌, length, if◌then◌else◌}
use Rattle.list_facts.specs.Lists.{IsPrefix}
use Rattle.agreement.specs.History.{Group, size}
use Rattle.agreement.specs.Journals.{Rules, Entry, IsAllowed, Follows, kept_log}

-- the longest of some lists, the first where several are
abbrev pub longest_log : {E : Type 0} → List E → List (List E) → List E
longest_log best [] = best
longest_log best (xs ∷ rest) = longest_log (if nat_lt (length best) (length xs) then xs else best) rest

-- what the controllers below n show
abbrev pub shown_below : {Own A E : Type 0} → Rules Own A E → ℕ → List (Entry Own E) → List (List E)
shown_below r zero past = []
shown_below r (suc n) past = shown_below r n past ++ kept_log r n past ∷ []

unfoldable pub decided_log : {Own A E : Type 0} → Rules Own A E → Group E → List (Entry Own E) → List E
decided_log r g [] = []
decided_log r g (e ∷ past) = longest_log (decided_log r g past) (shown_below r (size g) (e ∷ past))

-- what was decided stays so, and what any controller shows begins it
pub record StaysDecided {Own A E : Type 0} (r : Rules Own A E) (g : Group E) (more past : List (Entry Own E)) : Type 0 where
  pub stays : IsPrefix (decided_log r g past) (decided_log r g (more ++ past))
  pub holds : (c : ℕ) (e : Entry Own E) (before : List (Entry Own E)) → c < size g → past ≡ e ∷ before → IsPrefix (kept_log r c past) (decided_log r g past)

abbrev pub DecisionsLast : Type 0 → Type 0 → Type 0 → Type 0
DecisionsLast Own A E = (r : Rules Own A E) (g : Group E) (more past : List (Entry Own E)) → Follows r g → IsAllowed r g (more ++ past) → StaysDecided r g more past
