-- What is read was written so: readers, one behind the other.
use Rattle.std.proofs.Common.{◌≡◌, ℕ, Bool, true, false, cond, List, ◌++◌, Result, Ok, refl, ap, subst}
use Rattle.std.specs.Prelude.{Option, Some, None}
use Rattle.of_bytes.specs.Reading as lines
use Rattle.of_bytes.proofs.Steps.{bind_ok, ok_is}
use Rattle.report.specs.Lines.{line_at}
use Rattle.report.specs.Report.{word, newline}
use Rattle.report.specs.Spelled.{◌>>=◌, after_at, end_at, known_at}
use Rattle.report.proofs.Readers.{Reader}
use Rattle.report.proofs.Texts.{bind_some, passed, some_is, after_takes, end_takes, known_takes}

-- ---- steps

-- what was read, and what is read behind it
pub then : {A R G : Type 0} (o : Option A) (more : A → Option R) (r : R) → (o >>= more) ≡ Some r → ((x : A) → o ≡ Some x → more x ≡ Some r → G) → G
then o more r e goal = let a = bind_some o more r e in goal a.0 a.1 a.2

pub then_lines : {A R G : Type 0} (o : Result A ℕ) (more : A → Result R ℕ) (r : R) → (lines.◌>>=◌ o more) ≡ Ok r → ((x : A) → o ≡ Ok x → more x ≡ Ok r → G) → G
then_lines o more r e goal = let a = bind_ok o more r e in goal a.0 a.1 a.2

-- a test, and what follows from each of its answers
pub branches : {A G : Type 0} (b : Bool) (x y z : A) → cond b x y ≡ z → (b ≡ true → x ≡ z → G) → (b ≡ false → y ≡ z → G) → G
branches true x y z e one other = one refl e
branches false x y z e one other = other refl e

-- values, and what is left behind them
abbrev pub read_as : {A : Type 0} → A → List ℕ → Result (A × List ℕ) ℕ
read_as x rest = Ok (x, rest)

-- what holds of both of them
pub both_are : {A : Type 0} (P : A → List ℕ → Type 0) (x y : A) (end rest : List ℕ) → read_as x end ≡ read_as y rest → P x end → P y rest
both_are P x y end rest e holds = subst (λ q. P q.0 q.1) (ok_is ℕ (x, end) (y, rest) e) holds

abbrev pub found_as : {A : Type 0} → A → List ℕ → Option (A × List ℕ)
found_as x rest = Some (x, rest)

pub both_found : {A : Type 0} (P : A → List ℕ → Type 0) (x y : A) (end rest : List ℕ) → found_as x end ≡ found_as y rest → P x end → P y rest
both_found P x y end rest e holds = subst (λ q. P q.0 q.1) (some_is (x, end) (y, rest) e) holds

-- a value where a test passed
pub tested : {A : Type 0} (P : A → List ℕ → Type 0) (test : Bool) (made : A) (end : List ℕ) (x : A) (rest : List ℕ) → cond {A = Option (A × List ℕ)} test (Some (made, end)) None ≡ Some (x, rest) →
    (test ≡ true → P made end) → P x rest
tested P test made end x rest e holds =
    let p = passed test (Some (made, end)) (x, rest) e in
    both_found P made x end rest p.1 (holds p.0)

-- a line that fits
pub fits : {A : Type 0} (bytes : List ℕ) (o : Option A) (x : A) → line_at bytes o ≡ Ok x → o ≡ Some x
fits bytes (Some y) x e = let same : y ≡ x = ok_is ℕ y x e in ap Some same
fits bytes None x e = absurd cc

-- ---- words and lines

-- a text, and a value that fits
abbrev pub Spelt : {A : Type 0} → (A → List ℕ) → (A → Type 0) → List ℕ → A → List ℕ → Type 0
Spelt text IsFit bytes x rest = (bytes ≡ text x ++ rest) × IsFit x

-- what is read was written of a value that fits
pub record Takes {A : Type 0} (read : Reader A) (text : A → List ℕ) (IsFit : A → Type 0) : Type 0 where
  pub takes : (bytes : List ℕ) (x : A) (rest : List ℕ) → read bytes ≡ Some (x, rest) → Spelt text IsFit bytes x rest

pub took : {A R G : Type 0} {read : Reader A} {text : A → List ℕ} {IsFit : A → Type 0} → Takes read text IsFit → (bytes : List ℕ) (more : A × List ℕ → Option R) (r : R) → (read bytes >>= more) ≡ Some r →
    ((x : A) (rest : List ℕ) → bytes ≡ text x ++ rest → IsFit x → more (x, rest) ≡ Some r → G) → G
took {read = read} laws bytes more r e goal =
    let a = bind_some (read bytes) more r e in
    let t = laws.takes bytes a.0.0 a.0.1 a.1 in
    goal a.0.0 a.0.1 t.0 t.1 a.2

pub took_text : {R G : Type 0} (text bytes : List ℕ) (more : List ℕ → Option R) (r : R) → (after_at text bytes >>= more) ≡ Some r → ((rest : List ℕ) → bytes ≡ text ++ rest → more rest ≡ Some r → G) → G
took_text text bytes more r e goal = let a = bind_some (after_at text bytes) more r e in goal a.0 (after_takes text bytes a.0 a.1) a.2

pub took_known : {R G : Type 0} (name bytes : List ℕ) (more : List ℕ → Option R) (r : R) → (known_at name bytes >>= more) ≡ Some r → ((rest : List ℕ) → bytes ≡ word name ++ rest → more rest ≡ Some r → G) → G
took_known name bytes more r e goal = let a = bind_some (known_at name bytes) more r e in goal a.0 (known_takes name bytes a.0 a.1) a.2

pub took_end : {R G : Type 0} (bytes : List ℕ) (more : List ℕ → Option R) (r : R) → (end_at bytes >>= more) ≡ Some r → ((rest : List ℕ) → bytes ≡ newline ++ rest → more rest ≡ Some r → G) → G
took_end bytes more r e goal = let a = bind_some (end_at bytes) more r e in goal a.0 (end_takes bytes a.0 a.1) a.2

-- the end of a line, and the value
pub closes : {R : Type 0} (P : R → List ℕ → Type 0) (made : R) (bytes : List ℕ) (r : R) (rest : List ℕ) → (end_at bytes >>= λ more. found_as made more) ≡ found_as r rest →
    ((end : List ℕ) → bytes ≡ newline ++ end → P made end) → P r rest
closes P made bytes r rest e holds = took_end bytes _ _ e (λ end is e. both_found P made r end rest e (holds end is))
