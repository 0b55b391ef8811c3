-- Lists that begin others.
use Rattle.std.proofs.Common.{◌≡◌, ◌≤◌, ◌-◌, ◌+◌, ◌⊎◌, inl, inr, ℕ, Bool, true, false, List, [], ◌∷◌, ◌++◌, length, filter, take, drop, zero, suc, refl, sym, ap, subst, ◌∙◌, arith, append-nil, append_assoc, take-append-drop, length-append, length-take, take_all, take_at}
use Rattle.std.specs.Prelude.{slice_get, Some, if◌then◌else◌}
use Rattle.std.proofs.lemmas.Bool.{cases_lt}
use Rattle.std.proofs.lemmas.List.{drop-drop, take-append-le}
use Rattle.list_facts.specs.Lists.{IsPrefix}

module _ {A : Type 0} where
  -- a list begins itself, and what it is
  pub prefix_refl : (xs : List A) → IsPrefix xs xs
  prefix_refl xs = record { rest = []; joined = sym (append-nil xs) }

  pub prefix_is : (xs ys : List A) → ys ≡ xs → IsPrefix xs ys
  prefix_is xs ys e = record { rest = []; joined = e ∙ sym (append-nil xs) }

  pub prefix_nil : (ys : List A) → IsPrefix [] ys
  prefix_nil ys = record { rest = ys; joined = refl }

  -- a beginning of a beginning
  pub prefix_trans : {xs ys zs : List A} → IsPrefix xs ys → IsPrefix ys zs → IsPrefix xs zs
  prefix_trans {xs} p q = record { rest = p.rest ++ q.rest; joined = q.joined ∙ ap (λ l. l ++ q.rest) p.joined ∙ append_assoc xs p.rest q.rest }

  -- more behind a list
  pub prefix_append : (xs ys : List A) → IsPrefix xs (xs ++ ys)
  prefix_append xs ys = record { rest = ys; joined = refl }

  pub prefix_push : (xs : List A) (y : A) → IsPrefix xs (xs ++ y ∷ [])
  prefix_push xs y = prefix_append xs (y ∷ [])

  -- a beginning is no longer
  pub prefix_length : {xs ys : List A} → IsPrefix xs ys → length xs ≤ length ys
  prefix_length {xs} p = omega (arith, ap length p.joined, length-append xs p.rest)

  -- it is as many of the first elements as it has
  pub prefix_front : {xs ys : List A} → IsPrefix xs ys → xs ≡ take (length xs) ys
  prefix_front {xs} p = sym (ap (λ (l : List A). take (length xs) l) p.joined ∙ take_at xs p.rest (length xs) refl)

  -- and has the same front
  pub prefix_take : {xs ys : List A} (k : ℕ) → IsPrefix xs ys → k ≤ length xs → take k xs ≡ take k ys
  prefix_take {xs} k p h = sym (ap (λ (l : List A). take k l) p.joined ∙ take-append-le k xs p.rest h)

  -- the front of a list begins it
  pub front_prefix : (k : ℕ) (xs : List A) → IsPrefix (take k xs) xs
  front_prefix k xs = record { rest = drop k xs; joined = sym (take-append-drop k xs) }

  pub take_within : (k : ℕ) (xs : List A) → k ≤ length xs → length (take k xs) ≡ k
  take_within k xs h = omega (arith, length-take k xs)

  -- the front of a longer list begins each list that begins that one and has so many elements
  pub take_longer : {xs ys : List A} (k : ℕ) → IsPrefix xs ys → k ≤ length xs → IsPrefix (take k ys) xs
  take_longer {xs} k p h = subst (λ (l : List A). IsPrefix l xs) (prefix_take k p h) (front_prefix k xs)

  -- the first elements begin the first ones of a longer list
  pub take_prefixes : (p q : ℕ) (xs rest : List A) → p ≤ q → IsPrefix (take p xs) (take q (xs ++ rest))
  take_prefixes zero q xs rest h = prefix_nil (take q (xs ++ rest))
  take_prefixes (suc p) zero xs rest h = absurd (omega arith)
  take_prefixes (suc p) (suc q) [] rest h = prefix_nil (take (suc q) rest)
  take_prefixes (suc p) (suc q) (x ∷ xs) rest h = let r = take_prefixes p q xs rest (omega arith) in record { rest = r.rest; joined = ap (λ l. x ∷ l) r.joined }

  -- or of the same list
  pub takes_prefix : (p q : ℕ) (xs : List A) → p ≤ q → IsPrefix (take p xs) (take q xs)
  takes_prefix p q xs h = subst (λ l. IsPrefix (take p xs) (take q l)) (append-nil xs) (take_prefixes p q xs [] h)

  -- or of a list that it begins
  pub take_prefix : (p q : ℕ) {xs ys : List A} → p ≤ q → IsPrefix xs ys → IsPrefix (take p xs) (take q ys)
  take_prefix p q {xs} h f = subst (λ l. IsPrefix (take p xs) (take q l)) (sym f.joined) (take_prefixes p q xs f.rest h)

  -- of two beginnings of one list the shorter begins the longer
  pub prefix_both : {xs ys zs : List A} → IsPrefix xs zs → IsPrefix ys zs → length xs ≤ length ys → IsPrefix xs ys
  prefix_both {xs} {ys} p q h =
      let same : take (length xs) ys ≡ xs = prefix_take (length xs) q h ∙ sym (prefix_front p) in
      subst (λ (l : List A). IsPrefix l ys) same (front_prefix (length xs) ys)

  pub comparable : {xs ys zs : List A} → IsPrefix xs zs → IsPrefix ys zs → IsPrefix xs ys ⊎ IsPrefix ys xs
  comparable {xs} {ys} p q = elim (cases_lt (length ys) (length xs)) [ inl h ↦ inr (prefix_both q p (omega arith)) | inr h ↦ inl (prefix_both p q h) ]

  -- a beginning that is no shorter is the whole
  pub prefix_equal : {xs ys : List A} → IsPrefix xs ys → length ys ≤ length xs → xs ≡ ys
  prefix_equal {xs} {ys} p h = prefix_front p ∙ take_all (length xs) ys h

  -- a list is what begins it and the rest behind that
  pub prefix_whole : {xs ys : List A} → IsPrefix xs ys → xs ++ drop (length xs) ys ≡ ys
  prefix_whole {xs} {ys} p = ap (λ (l : List A). l ++ drop (length xs) ys) (prefix_front p) ∙ take-append-drop (length xs) ys

  -- of what stands behind the first m elements, that which is missing
  pub prefix_lacks : {xs ys : List A} (m : ℕ) → IsPrefix xs ys → m ≤ length xs → xs ++ drop (length xs - m) (drop m ys) ≡ ys
  prefix_lacks {xs} {ys} m p h =
      let n : m + (length xs - m) ≡ length xs = omega arith in
      ap (λ (l : List A). xs ++ l) (drop-drop (length xs - m) m ys ∙ ap (λ (j : ℕ). drop j ys) n) ∙ prefix_whole p

  -- one element more, where both lists have the same length below it
  pub prefix_next : {xs zs : List A} (ys : List A) (e : A) → IsPrefix xs zs → IsPrefix (ys ++ e ∷ []) zs → length xs ≡ length ys → IsPrefix (xs ++ e ∷ []) zs
  prefix_next {xs} {zs} ys e p q h =
      let n = length-append ys (e ∷ []) in
      let r : IsPrefix xs (ys ++ e ∷ []) = prefix_both p q (omega arith) in
      let same : xs ≡ ys = prefix_front r ∙ take_at ys (e ∷ []) (length xs) (sym h) in
      subst (λ (l : List A). IsPrefix (l ++ e ∷ []) zs) (sym same) q

  -- a list that holds what another one holds, at the same places, begins with it
  pub prefix_by_places : (xs ys : List A) → ((i : ℕ) (x : A) → slice_get xs i ≡ Some x → slice_get ys i ≡ Some x) → IsPrefix xs ys
  prefix_by_places [] ys h = prefix_nil ys
  prefix_by_places (x ∷ xs) [] h = let k : slice_get [] 0 ≡ Some x = h 0 x refl in absurd cc
  prefix_by_places (x ∷ xs) (y ∷ ys) h =
      let k : slice_get (y ∷ ys) 0 ≡ Some x = h 0 x refl in
      let r = prefix_by_places xs ys (λ i z e. h (suc i) z e) in
      let same : y ≡ x = cc in
      record { rest = r.rest; joined = ap (λ l. y ∷ l) r.joined ∙ ap (λ (z : A). z ∷ (xs ++ r.rest)) same }

-- the elements of two lists that pass a test, and of a beginning
pub append_filter : {A : Type 0} (p : A → Bool) (xs ys : List A) → filter p (xs ++ ys) ≡ filter p xs ++ filter p ys
append_filter p [] ys = refl
append_filter p (x ∷ xs) ys = ap (λ l. if p x then x ∷ l else l) (append_filter p xs ys) ∙ choice (p x)
  where
    choice : (b : Bool) → (if b then x ∷ (filter p xs ++ filter p ys) else filter p xs ++ filter p ys) ≡ (if b then x ∷ filter p xs else filter p xs) ++ filter p ys
    choice true = refl
    choice false = refl

pub prefix_filter : {A : Type 0} (p : A → Bool) {xs ys : List A} → IsPrefix xs ys → IsPrefix (filter p xs) (filter p ys)
prefix_filter p {xs = xs} h = record { rest = filter p h.rest; joined = ap (λ l. filter p l) h.joined ∙ append_filter p xs h.rest }

-- one more that passes, and one that does not
pub filter_more : {A : Type 0} (p : A → Bool) (xs : List A) (y : A) → p y ≡ true → filter p (xs ++ y ∷ []) ≡ filter p xs ++ y ∷ []
filter_more p xs y h = append_filter p xs (y ∷ []) ∙ ap (λ b. filter p xs ++ (if b then y ∷ [] else [])) h

pub filter_same : {A : Type 0} (p : A → Bool) (xs : List A) (y : A) → p y ≡ false → filter p (xs ++ y ∷ []) ≡ filter p xs
filter_same p xs y h = append_filter p xs (y ∷ []) ∙ ap (λ b. filter p xs ++ (if b then y ∷ [] else [])) h ∙ append-nil (filter p xs)
