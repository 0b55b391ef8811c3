-- Lines of the values of a list, which are written one after another.
use Rattle.std.proofs.Common.{◌≡◌, ◌<◌, ◌≤◌, ℕ, ◌+◌, List, [], ◌∷◌, ◌++◌, length, drop, set, get_or, refl, sym, ap, ◌∙◌, arith}
use Rattle.std.proofs.lemmas.List.{append-nil, append_assoc, drop_more, drop-set-lt, drop_all}
use Rattle.report.specs.Report.{lines_of}

module _ {A : Type 0} (text : A → List ℕ) where
  -- the next one is written, whatever it is left as
  pub next_written : (items : List A) (i : ℕ) (d new : A) (out more all : List ℕ) → i < length items → out ++ lines_of text (drop i items) ≡ all →
      more ≡ out ++ text (get_or items i d) → more ++ lines_of text (drop (i + 1) (set items i new)) ≡ all
  unfolding lines_of
  next_written items i d new out more all less stood wrote =
      ap (λ l. more ++ lines_of text l) (drop-set-lt (i + 1) items i new (omega arith))
      ∙ ap (λ l. l ++ lines_of text (drop (i + 1) items)) wrote
      ∙ append_assoc out (text (get_or items i d)) (lines_of text (drop (i + 1) items))
      ∙ ap (λ l. out ++ lines_of text l) (sym (drop_more items i d less)) ∙ stood

  -- all are written
  pub all_written : (items : List A) (i : ℕ) (out all : List ℕ) → length items ≤ i → out ++ lines_of text (drop i items) ≡ all → out ≡ all
  unfolding lines_of
  all_written items i out all over stood = sym (append-nil out) ∙ ap (λ l. out ++ lines_of text l) (sym (drop_all i items over)) ∙ stood
