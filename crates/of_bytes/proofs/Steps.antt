-- Laws of reading step by step, of Bool, and of what an Ok holds.
use Rattle.std.proofs.Common.{◌≡◌, ℕ, ◌<◌, Bool, true, false, cond, not, eqb, List, length, Result, Ok, Err, refl, sym, ◌∙◌, arith}
use Rattle.std.proofs.lemmas.Bool.{eqb-false, eqb-true}
use Rattle.std.specs.Prelude.{◌||◌}
use Rattle.of_bytes.specs.Reading.{◌>>=◌}

-- what a step that did not fail gave
pub bind_ok : {A B E : Type 0} (r : Result A E) (f : A → Result B E) (y : B) → (r >>= f) ≡ Ok y → (x : A) × (r ≡ Ok x) × (f x ≡ Ok y)
bind_ok (Ok x) f y e = (x, refl, e)
bind_ok (Err d) f y e = absurd cc

-- a test that did not refuse
pub passed : {A E : Type 0} (b : Bool) (d : E) (r : Result A E) (y : A) → cond b (Err d) r ≡ Ok y → (b ≡ false) × (r ≡ Ok y)
passed true d r y e = absurd cc
passed false d r y e = (refl, e)

-- a last test that did not refuse
pub ended : {A E : Type 0} (b : Bool) (d : E) (x y : A) → cond b (Ok x) (Err d) ≡ Ok y → (b ≡ true) × (x ≡ y)
ended true d x y e = (refl, cc)
ended false d x y e = absurd cc

abbrev done : {A : Type 0} (E : Type 0) → A → Result A E
done E x = Ok x

pub ok_is : {A : Type 0} (E : Type 0) (x y : A) → done E x ≡ done E y → x ≡ y
ok_is E x y e = cc

pub or_false : (a b : Bool) → (a || b) ≡ false → (a ≡ false) × (b ≡ false)
or_false true b e = absurd cc
or_false false b e = (refl, e)

pub not_false : (b : Bool) → not b ≡ false → b ≡ true
not_false true e = refl
not_false false e = absurd cc

-- a loop's test that there are bytes left
pub some_left : (empty : Bool) (rest : List ℕ) → empty ≡ eqb (length rest) 0 → empty ≡ false → 0 < length rest
some_left empty rest e test = let ne = eqb-false (length rest) 0 (sym e ∙ test) in omega arith

pub none_left : (empty : Bool) (rest : List ℕ) → empty ≡ eqb (length rest) 0 → empty ≡ true → length rest ≡ 0
none_left empty rest e test = eqb-true (length rest) 0 (sym e ∙ test)
