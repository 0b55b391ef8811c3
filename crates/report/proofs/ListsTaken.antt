-- Lines one after another are written as they were read.
use Rattle.std.proofs.Common.{◌≡◌, ℕ, zero, suc, ◌≤◌, Bool, List, [], ◌∷◌, ◌++◌, length, Result, Ok, Err, refl, sym, ap, ◌∙◌, append_assoc, arith}
use Rattle.std.proofs.lemmas.List.{append-nil}
use Rattle.std.specs.Prelude.{Option}
use Rattle.std.specs.List.{AllByRecursion}
use Rattle.report.specs.Lines.{line_at, each_at, while_at}
use Rattle.report.specs.Report.{lines_of}
use Rattle.report.proofs.ListsAgain.{more_lines, no_lines}
use Rattle.report.proofs.Takers.{then_lines, branches, read_as, both_are, fits, Takes}

-- lines of these values, as many as were counted
pub record Counted {A : Type 0} (text : A → List ℕ) (IsFit : A → Type 0) (count : ℕ) (bytes : List ℕ) (xs : List A) (rest : List ℕ) : Type 0 where
  pub spelled : bytes ≡ lines_of text xs ++ rest
  pub many : length xs ≡ count
  pub each : AllByRecursion IsFit xs

module _ {A : Type 0} {read : List ℕ → Option (A × List ℕ)} {text : A → List ℕ} {IsFit : A → Type 0} (laws : Takes read text IsFit) where
  pub each_takes : (count : ℕ) (bytes : List ℕ) (xs : List A) (rest : List ℕ) → each_at read count bytes ≡ Ok (xs, rest) → Counted text IsFit count bytes xs rest
  unfolding each_at
  each_takes zero bytes xs rest e = both_are (Counted text IsFit 0 bytes) [] xs bytes rest e (record { spelled = sym (no_lines text bytes); many = refl; each = tt })
  each_takes (suc n) bytes xs rest e =
      then_lines (line_at bytes (read bytes)) _ _ e (λ first here e.
      then_lines (each_at read n first.1) _ _ e (λ others there e.
      let one = laws.takes bytes first.0 first.1 (fits bytes (read bytes) first here) in
      let more = each_takes n first.1 others.0 others.1 there in
      both_are (Counted text IsFit (suc n) bytes) (first.0 ∷ others.0) xs others.1 rest e (record {
        spelled = one.0 ∙ ap (λ l. text first.0 ++ l) more.spelled ∙ sym (more_lines text first.0 others.0 others.1);
        many = ap suc more.many;
        each = (one.1, more.each);
      })))

-- lines of further values, of which what was so before is still so
pub record Kept {A : Type 0} (text : A → List ℕ) (P : List A → Type 0) (count : ℕ) (before : List A) (bytes : List ℕ) (all : List A) (rest : List ℕ) : Type 0 where
  pub further : List A
  pub all_is : all ≡ before ++ further
  pub spelled : bytes ≡ lines_of text further ++ rest
  pub few : length further ≤ count
  pub holds : P all

module _ {A : Type 0} (test : List ℕ → Bool) (read : List A → List ℕ → Result (A × List ℕ) ℕ) (text : A → List ℕ) (P : List A → Type 0)
    (keeps : (before : List A) (bytes : List ℕ) (x : A) (rest : List ℕ) → P before → read before bytes ≡ Ok (x, rest) → (bytes ≡ text x ++ rest) × P (before ++ x ∷ [])) where
  stopped : (count : ℕ) (before : List A) (bytes : List ℕ) (all : List A) (rest : List ℕ) → P before → read_as before bytes ≡ read_as all rest → Kept text P count before bytes all rest
  stopped count before bytes all rest so_far e =
      both_are (Kept text P count before bytes) before all bytes rest e (record { further = []; all_is = sym (append-nil before); spelled = sym (no_lines text bytes); few = omega arith; holds = so_far })

  pub while_takes : (count : ℕ) (before : List A) (bytes : List ℕ) (all : List A) (rest : List ℕ) → P before → while_at test read count before bytes ≡ Ok (all, rest) → Kept text P count before bytes all rest
  unfolding while_at
  while_takes zero before bytes all rest so_far e =
      branches (test bytes) (Err (length bytes)) (Ok (before, bytes)) (Ok (all, rest)) e (λ holds e. absurd cc) (λ fails e. stopped 0 before bytes all rest so_far e)
  while_takes (suc n) before bytes all rest so_far e =
      branches (test bytes) _ _ _ e
      (λ holds e. then_lines (read before bytes) _ _ e (λ next here e.
      let one = keeps before bytes next.0 next.1 so_far here in
      let more = while_takes n (before ++ next.0 ∷ []) next.1 all rest one.1 e in
      let few = more.few in
      record {
        further = next.0 ∷ more.further;
        all_is = more.all_is ∙ append_assoc before (next.0 ∷ []) more.further;
        spelled = one.0 ∙ ap (λ l. text next.0 ++ l) more.spelled ∙ sym (more_lines text next.0 more.further rest);
        few = omega (arith, few);
        holds = more.holds;
      }))
      (λ fails e. stopped (suc n) before bytes all rest so_far e)
