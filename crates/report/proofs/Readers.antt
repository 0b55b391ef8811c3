-- What is written is read again: readers, one behind the other.
use Rattle.std.proofs.Common.{◌≡◌, ℕ, Bool, true, cond, List, [], ◌∷◌, ◌++◌, refl, ap, ◌∙◌, append_assoc}
use Rattle.std.specs.Prelude.{Option, Some, None}
use Rattle.report.specs.Report.{word, newline, further, line}
use Rattle.report.specs.Spelled.{◌>>=◌, after_at, end_at, known_at}
use Rattle.report.proofs.Texts.{after_again, end_again, known_again, IsParted}

abbrev pub Reader : Type 0 → Type 0
Reader A = List ℕ → Option (A × List ℕ)

-- what is written of a value that fits is read, where this may stand behind it
pub record Again {A : Type 0} (read : Reader A) (text : A → List ℕ) (IsFit : A → Type 0) (MayFollow : List ℕ → Type 0) : Type 0 where
  pub again : (x : A) (rest : List ℕ) → IsFit x → MayFollow rest → read (text x ++ rest) ≡ Some (x, rest)

-- anything
abbrev pub Any : {A : Type 0} → A → Type 0
Any x = Unit {0}

-- a text that is known, and what is read behind it
pub after_then : {R : Type 0} (text rest : List ℕ) (more : List ℕ → Option R) (y : Option R) → more rest ≡ y → (after_at text (text ++ rest) >>= more) ≡ y
after_then text rest more y e = rw (after_again text rest) e

-- a value, and what is read behind it
pub again_then : {A R : Type 0} {read : Reader A} {text : A → List ℕ} {IsFit : A → Type 0} {MayFollow : List ℕ → Type 0} → Again read text IsFit MayFollow →
    (x : A) (rest : List ℕ) (more : A × List ℕ → Option R) (y : Option R) → IsFit x → MayFollow rest → more (x, rest) ≡ y → (read (text x ++ rest) >>= more) ≡ y
again_then laws x rest more y fits follows e = rw (laws.again x rest fits follows) e

-- a word that is known, and what is read behind it
pub known_then : {R : Type 0} (name rest : List ℕ) (more : List ℕ → Option R) (y : Option R) → more rest ≡ y → (known_at name (word name ++ rest) >>= more) ≡ y
known_then name rest more y e = rw (known_again name rest) e

-- a test that passes
pub test_then : {R : Type 0} (test : Bool) (x y : Option R) → test ≡ true → x ≡ y → cond test x None ≡ y
test_then test x y holds e = rw holds e

pub end_then : {R : Type 0} (rest : List ℕ) (more : List ℕ → Option R) (y : Option R) → more rest ≡ y → (end_at (newline ++ rest) >>= more) ≡ y
end_then rest more y e = rw (end_again rest) e

pub parted : (text rest : List ℕ) → IsParted (word text ++ rest)
unfolding word
parted text rest = refl

pub parted_end : (rest : List ℕ) → IsParted (newline ++ rest)
parted_end rest = refl

-- words, the end of their line, and what stands behind it
abbrev pub chain : List (List ℕ) → List ℕ → List ℕ
chain [] rest = newline ++ rest
chain (text ∷ words) rest = word text ++ chain words rest

pub further_is : (words : List (List ℕ)) (rest : List ℕ) → further words ++ rest ≡ chain words rest
further_is [] rest = refl
further_is (text ∷ words) rest = append_assoc (word text) (further words) rest ∙ ap (λ l. word text ++ l) (further_is words rest)

pub line_is : (first : List ℕ) (words : List (List ℕ)) (rest : List ℕ) → line first words ++ rest ≡ first ++ chain words rest
unfolding line
line_is first words rest = append_assoc first (further words) rest ∙ ap (λ l. first ++ l) (further_is words rest)
