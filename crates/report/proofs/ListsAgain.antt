-- Lines one after another are read as they are written.
use Rattle.std.proofs.Common.{◌≡◌, ℕ, zero, suc, ◌≤◌, Bool, true, false, List, [], ◌∷◌, ◌++◌, length, refl, sym, ap, ◌∙◌, append_assoc, arith}
use Rattle.std.proofs.lemmas.List.{append-nil}
use Rattle.std.specs.Prelude.{Option, Some, Result, Ok}
use Rattle.std.specs.List.{AllByRecursion}
use Rattle.of_bytes.specs.Reading as lines
use Rattle.report.specs.Lines.{line_at, each_at, while_at}
use Rattle.report.specs.Report.{lines_of}

-- a reader of lines, and what is read behind it
pub lines_then : {A R : Type 0} (read : Result (A × List ℕ) ℕ) (x : A × List ℕ) (more : A × List ℕ → Result R ℕ) (y : Result R ℕ) → read ≡ Ok x → more x ≡ y → (lines.◌>>=◌ read more) ≡ y
lines_then read x more y e then = rw e then

-- a line, and what is read behind it
pub line_then : {A R : Type 0} (bytes : List ℕ) (read : Option A) (x : A) (more : A → Result R ℕ) (y : Result R ℕ) → read ≡ Some x → more x ≡ y → (lines.◌>>=◌ (line_at bytes read) more) ≡ y
line_then bytes read x more y e then = rw e then

pub fits_line : {A : Type 0} (bytes : List ℕ) (read : Option A) (x : A) → read ≡ Some x → line_at bytes read ≡ Ok x
fits_line bytes read x e = rw e refl

pub more_lines : {A : Type 0} (text : A → List ℕ) (x : A) (xs : List A) (rest : List ℕ) → lines_of text (x ∷ xs) ++ rest ≡ text x ++ (lines_of text xs ++ rest)
unfolding lines_of
more_lines text x xs rest = append_assoc (text x) (lines_of text xs) rest

pub no_lines : {A : Type 0} (text : A → List ℕ) (rest : List ℕ) → lines_of text [] ++ rest ≡ rest
unfolding lines_of
no_lines text rest = refl

-- so many lines
module _ {A : Type 0} (read : List ℕ → Option (A × List ℕ)) (text : A → List ℕ) (IsFit : A → Type 0) (again : (x : A) (rest : List ℕ) → IsFit x → read (text x ++ rest) ≡ Some (x, rest)) where
  pub each_again : (xs : List A) (rest : List ℕ) → AllByRecursion IsFit xs → each_at read (length xs) (lines_of text xs ++ rest) ≡ Ok (xs, rest)
  unfolding each_at
  each_again [] rest are = ap (λ (l : List ℕ). Ok ([], l)) (no_lines text rest)
  each_again (x ∷ xs) rest are =
      ap (each_at read (suc (length xs))) (more_lines text x xs rest)
      ∙ line_then _ _ _ _ _ (again x (lines_of text xs ++ rest) are.0) (lines_then _ _ _ _ (each_again xs rest are.1) refl)

-- what holds of each value and those before it
abbrev pub AllBehind : {A : Type 0} → (List A → A → Type 0) → List A → List A → Type 0
AllBehind IsFit before [] = Unit {0}
AllBehind IsFit before (x ∷ xs) = IsFit before x × AllBehind IsFit (before ++ x ∷ []) xs

pub all_behind : {A : Type 0} (P : A → Type 0) (before xs : List A) → AllByRecursion P xs → AllBehind (λ before x. P x) before xs
all_behind P before [] are = tt
all_behind P before (x ∷ xs) are = (are.0, all_behind P (before ++ x ∷ []) xs are.1)

-- lines as long as a test holds
module _ {A : Type 0} (test : List ℕ → Bool) (read : List A → List ℕ → Result (A × List ℕ) ℕ) (text : A → List ℕ) (IsFit : List A → A → Type 0)
    (holds : (before : List A) (x : A) (rest : List ℕ) → IsFit before x → test (text x ++ rest) ≡ true)
    (again : (before : List A) (x : A) (rest : List ℕ) → IsFit before x → read before (text x ++ rest) ≡ Ok (x, rest)) where
  done_again : (n : ℕ) (before : List A) (rest : List ℕ) → test rest ≡ false → while_at test read n before rest ≡ Ok (before, rest)
  unfolding while_at
  done_again zero before rest fails = rw fails refl
  done_again (suc n) before rest fails = rw fails refl

  pub while_again : (n : ℕ) (before xs : List A) (rest : List ℕ) → length xs ≤ n → AllBehind IsFit before xs → test rest ≡ false → while_at test read n before (lines_of text xs ++ rest) ≡ Ok (before ++ xs, rest)
  unfolding while_at
  while_again n before [] rest few are fails =
      ap (while_at test read n before) (no_lines text rest) ∙ done_again n before rest fails ∙ ap (λ l. Ok (l, rest)) (sym (append-nil before))
  while_again zero before (x ∷ xs) rest few are fails = absurd (omega (arith, few))
  while_again (suc n) before (x ∷ xs) rest few are fails =
      ap (while_at test read (suc n) before) (more_lines text x xs rest)
      ∙ rw (holds before x (lines_of text xs ++ rest) are.0, again before x (lines_of text xs ++ rest) are.0)
      (while_again n (before ++ x ∷ []) xs rest (omega (arith, few)) are.1 fails)
      ∙ ap (λ l. Ok (l, rest)) (append_assoc before (x ∷ []) xs)
