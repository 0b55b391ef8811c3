-- The applications of controllers, life by life.
use Rattle.std.proofs.Common.{◌≡◌, ◌≤◌, ◌<◌, ◌⊎◌, inl, inr, ℕ, ◌+◌, ◌*◌, List, [], ◌∷◌, ◌++◌, length, sym, ◌∙◌, ap, subst, arith, length-append}
use Rattle.std.proofs.lemmas.Bool.{cases_lt}
use Rattle.journal.proofs.All.{all_append}
use Rattle.app_core.specs.Law.{AppLaw}
use Rattle.group_controller.specs.Turns.{AreAlike}
use Rattle.app_core.specs.Chain.{given_by}

-- so many shelves are full, so many applications stand on the next one, and so many are left
pub record IsFilled (controllers shelves shelf rest : ℕ) : Type 0 where
  pub few : controllers ≤ 7
  pub under : shelves ≤ controllers
  pub short : shelf < 16
  pub counted : (shelves ≡ controllers) ⊎ (16 * shelves + shelf + rest ≡ 112)

pub none_filled : (controllers rest : ℕ) → controllers ≤ 7 → rest ≡ 112 → IsFilled controllers 0 0 rest
none_filled controllers rest few all = record { few = few; under = omega arith; short = omega arith; counted = inr (omega (arith, all)) }

-- one application more, that is not needed
pub passed : (controllers shelves shelf rest : ℕ) → IsFilled controllers shelves shelf (rest + 1) → controllers ≤ shelves → IsFilled controllers shelves shelf rest
passed controllers shelves shelf rest f over =
    let under = f.under in
    record { few = f.few; under = under; short = f.short; counted = inl (omega (arith, under, over)) }

-- one that is put on a shelf
by_count : (controllers shelves shelf rest : ℕ) → IsFilled controllers shelves shelf (rest + 1) → shelves < controllers → 16 * shelves + shelf + (rest + 1) ≡ 112
by_count controllers shelves shelf rest f less = elim f.counted [ inl is ↦ absurd (omega (arith, is, less)) | inr is ↦ is ]

pub put : (controllers shelves shelf rest : ℕ) → IsFilled controllers shelves shelf (rest + 1) → shelves < controllers → shelf + 1 < 16 → IsFilled controllers shelves (shelf + 1) rest
put controllers shelves shelf rest f less short =
    let counted = by_count controllers shelves shelf rest f less in
    record { few = f.few; under = f.under; short = short; counted = inr (omega (arith, counted)) }

pub put_last : (controllers shelves shelf rest : ℕ) → IsFilled controllers shelves shelf (rest + 1) → shelves < controllers → shelf + 1 ≡ 16 → IsFilled controllers (shelves + 1) 0 rest
put_last controllers shelves shelf rest f less full =
    let counted = by_count controllers shelves shelf rest f less in
    record { few = f.few; under = omega (arith, less); short = omega arith; counted = inr (omega (arith, counted, full)) }

-- all shelves are full where nothing is left
pub all_full : (controllers shelves shelf rest : ℕ) → IsFilled controllers shelves shelf rest → rest ≡ 0 → shelves ≡ controllers
all_full controllers shelves shelf rest f none =
    elim f.counted [
      | inl is ↦ is
      | inr is ↦ let few = f.few in let under = f.under in let short = f.short in omega (arith, is, few, under, short, none)
    ]

-- one application more on a shelf, and one shelf more
pub alike_push : {A : Type 0} (law : AppLaw A) (kinds : List ℕ) (shelf pushed : List A) (x : A) → pushed ≡ shelf ++ x ∷ [] → AreAlike law kinds shelf →
    (law.kinds x ≡ kinds) × (given_by (law.kinds x) ≤ 128) → AreAlike law kinds pushed
alike_push law kinds shelf pushed x is all one =
    subst (λ l. AreAlike law kinds l) (sym is) (all_append (λ app. (law.kinds app ≡ kinds) × (given_by (law.kinds app) ≤ 128)) shelf (x ∷ []) all (one, tt))

pub long_push : {X : Type 0} (xs pushed : List X) (x : X) → pushed ≡ xs ++ x ∷ [] → length pushed ≡ length xs + 1
long_push xs pushed x is = ap length is ∙ length-append xs (x ∷ [])

-- a shelf that is not full has room for one more
pub not_full : {controllers shelves rest : ℕ} (shelf : ℕ) → (shelf + 1 ≡ 16 → ⊥) → IsFilled controllers shelves shelf rest → shelf + 1 < 16
not_full shelf other f =
    let short = f.short in
    elim (cases_lt (shelf + 1) 16) [
      | inl less ↦ less
      | inr over ↦ absurd (other (omega (arith, over, short)))
    ]
