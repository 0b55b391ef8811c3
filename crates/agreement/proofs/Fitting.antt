-- Logs that are made entry by entry make a group.
use Rattle.std.proofs.Common.{◌≡◌, Bool, ◌&&◌, List, [], ◌∷◌, ◌++◌, length, drop, refl, sym, ap, ◌∙◌, append_assoc, append-nil}
use Rattle.std.proofs.lemmas.Bool.{and_parts}
use Rattle.std.proofs.Math.Bool.{and_assoc, and-true}
use Rattle.agreement.specs.Fitting.{log_follows, FitsMakeGroups, FitsTestLast}
use Rattle.list_facts.proofs.Prefixes.{prefix_whole}

-- entries behind others follow, where they follow these
follows_append : {E : Type 0} (fits : List E → E → Bool) (before xs ys : List E) → log_follows fits before (xs ++ ys) ≡ (log_follows fits before xs && log_follows fits (before ++ xs) ys)
follows_append {E = E} fits before [] ys = ap (λ (l : List E). log_follows fits l ys) (sym (append-nil before))
follows_append {E = E} fits before (x ∷ xs) ys =
    ap (λ (t : Bool). fits before x && t) (follows_append fits (before ++ x ∷ []) xs ys ∙ ap (λ (l : List E). log_follows fits (before ++ x ∷ []) xs && log_follows fits l ys) (append_assoc before (x ∷ []) xs))
    ∙ sym (and_assoc (fits before x) (log_follows fits (before ++ x ∷ []) xs) (log_follows fits (before ++ x ∷ xs) ys))

pub last_law : {E : Type 0} → FitsTestLast E
last_law fits log e = follows_append fits [] log (e ∷ []) ∙ ap (λ (t : Bool). log_follows fits [] log && t) (and-true (fits log e))

pub groups_law : {E : Type 0} → FitsMakeGroups E
groups_law {E = E} most_failures fits = record {
  begins = refl;
  closed = λ xs ys p e.
      (and_parts (log_follows fits [] xs) (log_follows fits xs (drop (length xs) ys))
      (sym (follows_append fits [] xs (drop (length xs) ys)) ∙ ap (λ (l : List E). log_follows fits [] l) (prefix_whole p) ∙ e)).0;
}
