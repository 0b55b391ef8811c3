-- Lists by places, and their fronts.
use Rattle.std.proofs.Common.{◌+◌, ◌≡◌, ℕ, zero, suc, ◌<◌, ◌⊎◌, inl, inr, ⊎_elim, Option, Some, None, List, [], ◌∷◌, ◌++◌, length, refl, sym, ap, ◌∙◌, subst, append_assoc, arith, All, length-append, get_or, map}
use Rattle.std.specs.Prelude.{Contains, reverse}
use Rattle.std.specs.List.{AllByRecursion}
use mathlib.Core.Option.{some, some-injective, some-ne-none}
use lib.ListN.{get_elem?}
use Rattle.atomic_table.proofs.Lists.{at_longer}
use Rattle.std.proofs.lemmas.Option.{same_Some}
use Rattle.std.proofs.lemmas.List.{get_or_append_left, reverse-append}
use Rattle.std.proofs.Math.Seq.{get_or-append_seam}
use Rattle.journal.proofs.All.{all_append}
use Rattle.shared_wire.specs.Rule.{StartsWith}

module _ {A : Type 0} where
  pub not_there : (i : ℕ) (a : A) → get_elem? [] i ≡ some a → ⊥
  not_there i a e = some-ne-none a (sym e)

  pub only : (x : A) (i : ℕ) (a : A) → get_elem? (x ∷ []) i ≡ some a → (i ≡ 0) × (x ≡ a)
  only x zero a e = (refl, some-injective x a e)
  only x (suc i) a e = absurd (not_there i a e)

  pub one_at : (l : List A) (i : ℕ) (a b : A) → get_elem? l i ≡ some a → get_elem? l i ≡ some b → a ≡ b
  one_at l i a b p q = some-injective a b (sym p ∙ q)

  pub below : (l : List A) (i : ℕ) (a : A) → get_elem? l i ≡ some a → i < length l
  below [] i a e = absurd (not_there i a e)
  below (x ∷ xs) zero a e = omega arith
  below (x ∷ xs) (suc i) a e = let h = below xs i a e in omega arith

  pub at_snoc_or : (l : List A) (a b : A) (j : ℕ) → get_elem? (l ++ a ∷ []) j ≡ some b → (get_elem? l j ≡ some b) ⊎ ((j ≡ length l) × (a ≡ b))
  at_snoc_or [] a b zero e = inr (refl, some-injective a b e)
  at_snoc_or [] a b (suc j) e = absurd (not_there j b e)
  at_snoc_or (x ∷ xs) a b zero e = inl e
  at_snoc_or (x ∷ xs) a b (suc j) e = elim (at_snoc_or xs a b j e) [ inl h ↦ inl h | inr h ↦ inr (ap suc h.0, h.1) ]

  pub at_append_or : (xs ys : List A) (p : ℕ) (a : A) → get_elem? (xs ++ ys) p ≡ some a → (get_elem? xs p ≡ some a) ⊎ ((q : ℕ) × (p ≡ length xs + q) × (get_elem? ys q ≡ some a))
  at_append_or [] ys p a e = inr (p, (let h : p ≡ 0 + p = omega arith in h), e)
  at_append_or (x ∷ xs) ys zero a e = inl e
  at_append_or (x ∷ xs) ys (suc p) a e = elim (at_append_or xs ys p a e) [ inl h ↦ inl h | inr h ↦ inr (h.0, (let k : suc p ≡ length (x ∷ xs) + h.0 = let g = h.1 in omega arith in k), h.2) ]

  pub at_plus : (xs ys : List A) (q : ℕ) (a : A) → get_elem? ys q ≡ some a → get_elem? (xs ++ ys) (length xs + q) ≡ some a
  at_plus [] ys q a e = subst (λ (n : ℕ). get_elem? ys n ≡ some a) (let h : q ≡ 0 + q = omega arith in h) e
  at_plus (x ∷ xs) ys q a e = subst (λ (n : ℕ). get_elem? (x ∷ (xs ++ ys)) n ≡ some a) (let h : suc (length xs + q) ≡ length (x ∷ xs) + q = omega arith in h) (at_plus xs ys q a e)

  pub at_length : (xs ys : List A) (a : A) → get_elem? (xs ++ a ∷ ys) (length xs) ≡ some a
  at_length [] ys a = refl
  at_length (x ∷ xs) ys a = at_length xs ys a

  pub starts_trans : (xs ys zs : List A) → StartsWith ys xs → StartsWith zs ys → StartsWith zs xs
  starts_trans xs ys zs p q = (p.0 ++ q.0, q.1 ∙ ap (λ l. l ++ q.0) p.1 ∙ append_assoc xs p.0 q.0)

  pub not_both : (a : A) (o : Option A) → o ≡ Some a → o ≡ None → ⊥
  not_both a o p q = absurd (let e : None ≡ Some a = sym q ∙ p in cc)

  abbrev first_value : List (ℕ × Option A) → Option A
  first_value [] = None
  first_value (x ∷ xs) = x.1

  -- the value that was taken first, told in two ways
  pub one_value : (l : List (ℕ × Option A)) (x y : A) (r : Option A) (xs ys : List (ℕ × Option A)) → l ≡ (0, Some x) ∷ xs → l ≡ (0, r) ∷ ys → r ≡ Some y → x ≡ y
  one_value l x y r xs ys p q e = same_Some x y (ap first_value (sym p) ∙ ap first_value q ∙ e)

  -- an element stands at a place
  pub contains_at : (xs : List A) (a : A) → Contains xs a → (k : ℕ) × (get_elem? xs k ≡ some a)
  contains_at xs a h = at xs h.0 h.1 h.2
    where
      at : (ys : List A) (k : ℕ) → k < length ys → get_or ys k a ≡ a → (k : ℕ) × (get_elem? ys k ≡ some a)
      at [] k lt is = absurd (omega arith)
      at (y ∷ ys) zero lt is = (zero, ap some is)
      at (y ∷ ys) (suc k) lt is = let r = at ys k (omega arith) is in (suc r.0, r.1)

  pub contains_none : (a : A) → Contains [] a → ⊥
  contains_none a h = let lt = h.1 in absurd (omega arith)

  pub all_contains : (P : A → Type 0) (xs : List A) (a : A) → AllByRecursion P xs → Contains xs a → P a
  all_contains P xs a all h = at xs h.0 all h.1 h.2
    where
      at : (ys : List A) (k : ℕ) → AllByRecursion P ys → k < length ys → get_or ys k a ≡ a → P a
      at [] k hold lt is = absurd (omega arith)
      at (y ∷ ys) zero hold lt is = subst P is hold.0
      at (y ∷ ys) (suc k) hold lt is = at ys k hold.1 (omega arith) is

  pub all_reverse : (P : A → Type 0) (xs : List A) → AllByRecursion P xs → AllByRecursion P (reverse xs)
  all_reverse P [] all = tt
  all_reverse P (x ∷ xs) all = subst (AllByRecursion P) (sym (reverse-append (x ∷ []) xs)) (all_append P (reverse xs) (x ∷ []) (all_reverse P xs all.1) (all.0, tt))

pub all_front : {X : Type 0} (P : X → Type 0) (xs ys : List X) → All P (xs ++ ys) → All P xs
all_front P xs ys h = λ k d lt. subst P (get_or_append_left xs ys d k lt) (h k d (omega (arith, length-append xs ys)))

pub there : {X : Type 0} (xs : List X) (k : ℕ) (d : X) → k < length xs → get_elem? xs k ≡ some (get_or xs k d)
there [] k d lt = absurd (omega arith)
there (x ∷ xs) zero d lt = refl
there (x ∷ xs) (suc k) d lt = there xs k d (omega arith)

pub at_unmap : {X Y : Type 0} (f : X → Y) (xs : List X) (k : ℕ) (y : Y) → get_elem? (map f xs) k ≡ some y → (x : X) × (get_elem? xs k ≡ some x) × (f x ≡ y)
at_unmap f [] k y e = absurd (not_there k y e)
at_unmap f (x ∷ xs) zero y e = (x, refl, some-injective (f x) y e)
at_unmap f (x ∷ xs) (suc k) y e = at_unmap f xs k y e

pub all_last : {X : Type 0} (P : X → Type 0) (now later : List X) (x : X) → now ≡ later ++ x ∷ [] → All P now → P x
all_last P now later x is h = subst P (get_or-append_seam later x [] x) (subst (All P) is h (length later) x (omega (arith, length-append later (x ∷ []))))

-- the last of a list was moved to the end of another
pub each_step : {X K : Type 0} (f : X → K) (now later : List X) (x : X) (ks ks' : List K) → now ≡ later ++ x ∷ [] → ks' ≡ ks ++ f x ∷ [] → (i : ℕ) (p : X)
    → (get_elem? now i ≡ some p) ⊎ ((q : ℕ) × (get_elem? ks q ≡ some (f p))) → (get_elem? later i ≡ some p) ⊎ ((q : ℕ) × (get_elem? ks' q ≡ some (f p)))
each_step f now later x ks ks' is is' i p h = ⊎_elim
    (λ t. ⊎_elim
    (λ u. inl u)
    (λ u. inr (length ks, subst (λ l. get_elem? l (length ks) ≡ some (f p)) (sym is') (subst (λ y. get_elem? (ks ++ y ∷ []) (length ks) ≡ some (f p)) (ap f (sym u.1)) (at_length ks [] (f p)))))
    (at_snoc_or later x p i (subst (λ l. get_elem? l i ≡ some p) is t)))
    (λ t. inr (t.0, subst (λ l. get_elem? l t.0 ≡ some (f p)) (sym is') (at_longer ks (f x ∷ []) t.0 (f p) t.1)))
    h

pub at_first : {X : Type 0} (xs ys zs : List X) (x : X) → zs ≡ xs ++ ys → get_elem? xs 0 ≡ some x → (y : X) × (get_elem? zs 0 ≡ some y)
at_first xs ys zs x is e = (x, subst (λ l. get_elem? l 0 ≡ some x) (sym is) (at_longer xs ys 0 x e))

-- where each of some values is that of an element, and there is such a value, there is an element
pub some_element : {X Y : Type 0} (f : X → Y) (d : Y) (ys : List Y) (xs : List X) → 0 < length ys → All (Contains (map f xs)) ys → 0 < length xs
some_element f d ys xs some_y all =
    let h = contains_at (map f xs) (get_or ys 0 d) (all 0 d some_y) in
    let u = at_unmap f xs h.0 (get_or ys 0 d) h.1 in
    let b = below xs h.0 u.0 u.1 in omega arith
