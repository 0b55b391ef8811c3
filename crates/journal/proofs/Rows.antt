-- Rows of queues, where one queue changes, and queues at whose end letters come and go.
use Rattle.std.proofs.Common.{◌≡◌, ◌<◌, ◌≤◌, ℕ, zero, suc, ◌+◌, ◌-◌, Bool, true, false, List, [], ◌∷◌, ◌++◌, length, map, take, filter, get_or, set, refl, sym, ap, ◌∙◌, arith, cond, append_assoc}
use Rattle.std.specs.Prelude.{nat_eq, if◌then◌else◌}
use Rattle.std.proofs.lemmas.Bool.{eqb-true, eqb-false}
use Rattle.std.proofs.lemmas.List.{get_or-set_same, get_or-set_other, get_or-map, map-set, length-map, length-append, length-take, append-nil}
use Rattle.std.proofs.lemmas.List.Elements.{filter-append}

module _ {A : Type 0} where
  -- what stands in one queue of a row, and what all others are then
  pub row_read : {Q : Type 0} (f : Q → List A) (qs : List Q) (i : ℕ) (q : Q) → i < length qs → q ≡ get_or qs i q → get_or (map f qs) i [] ≡ f q
  row_read f qs i q within is = get_or-map f qs i q [] within ∙ ap f (sym is)

  pub row_changed : {Q : Type 0} (f : Q → List A) (change : List A → List A) (qs : List Q) (i : ℕ) (before after : Q) → i < length qs → before ≡ get_or qs i before → f after ≡ change (f before) →
      (n : ℕ) → get_or (map f (set qs i after)) n [] ≡ (if nat_eq n i then change (get_or (map f qs) n []) else get_or (map f qs) n [])
  row_changed f change qs i before after within is changed n = ap (λ row. get_or row n []) (map-set f qs i after) ∙ at_number (nat_eq n i) refl
    where
      at_number : (b : Bool) → nat_eq n i ≡ b → get_or (set (map f qs) i (f after)) n [] ≡ (if b then change (get_or (map f qs) n []) else get_or (map f qs) n [])
      at_number true e =
          let same = eqb-true n i e in
          rw same (get_or-set_same (map f qs) i (f after) [] (omega (arith, length-map qs f)) ∙ changed ∙ ap change (sym (row_read f qs i before within is)))
      at_number false e = get_or-set_other (map f qs) i n (f after) [] (eqb-false n i e)

  pub row_same : {Q : Type 0} (f : Q → List A) (qs : List Q) (i : ℕ) (before after : Q) → i < length qs → before ≡ get_or qs i before → f after ≡ f before →
      (n : ℕ) → get_or (map f (set qs i after)) n [] ≡ get_or (map f qs) n []
  row_same f qs i before after within is same n = row_changed f (λ q. q) qs i before after within is same n ∙ either_way (nat_eq n i)
    where
      either_way : (b : Bool) → (if b then get_or (map f qs) n [] else get_or (map f qs) n []) ≡ get_or (map f qs) n []
      either_way true = refl
      either_way false = refl

  -- one more came to the end of a queue, or to another queue
  pub pushed_more : (test : A → Bool) (start sent : List A) (x : A) (before after : List A) → before ≡ start ++ filter test sent → after ≡ (if test x then before ++ x ∷ [] else before) →
      after ≡ start ++ filter test (sent ++ x ∷ [])
  pushed_more test start sent x before after before_is after_is =
      by_test (test x) refl ∙ ap (λ xs. start ++ xs) (sym (filter-append test sent (x ∷ [])))
    where
      by_test : (b : Bool) → test x ≡ b → after ≡ start ++ (filter test sent ++ filter test (x ∷ []))
      by_test true t =
          let now : after ≡ before ++ x ∷ [] = after_is ∙ ap (λ b. if b then before ++ x ∷ [] else before) t in
          now ∙ ap (λ xs. xs ++ x ∷ []) before_is ∙ append_assoc start (filter test sent) (x ∷ []) ∙ ap (λ b. start ++ (filter test sent ++ cond b (x ∷ []) [])) (sym t)
      by_test false t =
          let now : after ≡ before = after_is ∙ ap (λ b. if b then before ++ x ∷ [] else before) t in
          now ∙ before_is ∙ ap (λ xs. start ++ xs) (sym (append-nil (filter test sent))) ∙ ap (λ b. start ++ (filter test sent ++ cond b (x ∷ []) [])) (sym t)

-- fewer of the first ones
pub take_less : {A : Type 0} (m n : ℕ) (xs : List A) → m ≤ n → take m (take n xs) ≡ take m xs
take_less zero n xs low = refl
take_less (suc m) zero xs low = absurd (omega (arith, low))
take_less (suc m) (suc n) [] low = refl
take_less (suc m) (suc n) (x ∷ xs) low = ap (λ ys. x ∷ ys) (take_less m n xs (omega (arith, low)))

-- one less at the end of a queue, or of another queue
pub popped_more : {A B : Type 0} (test : B → Bool) (start : List A) (gone : List B) (l : B) (before after : List A) → before ≡ take (length start - length (filter test gone)) start →
    after ≡ (if test l then take (length before - 1) before else before) → after ≡ take (length start - length (filter test (gone ++ l ∷ []))) start
popped_more test start gone l before after before_is after_is = by_test (test l) refl
  where
    by_test : (b : Bool) → test l ≡ b → after ≡ take (length start - length (filter test (gone ++ l ∷ []))) start
    by_test true t =
        let count = length (filter test gone) in
        let more : filter test (gone ++ l ∷ []) ≡ filter test gone ++ l ∷ [] = filter-append test gone (l ∷ []) ∙ ap (λ b. filter test gone ++ cond b (l ∷ []) []) t in
        let one : length (filter test (gone ++ l ∷ [])) ≡ count + 1 = omega (arith, ap length more, length-append (filter test gone) (l ∷ [])) in
        let long : length before ≡ length start - count = omega (arith, ap length before_is, length-take (length start - count) start) in
        let short : length before - 1 ≡ length start - length (filter test (gone ++ l ∷ [])) = omega (arith, one, long) in
        let low : length start - length (filter test (gone ++ l ∷ [])) ≤ length start - count = omega (arith, one) in
        after_is
        ∙ ap (λ b. if b then take (length before - 1) before else before) t
        ∙ ap (λ n. take n before) short
        ∙ ap (take (length start - length (filter test (gone ++ l ∷ [])))) before_is
        ∙ take_less (length start - length (filter test (gone ++ l ∷ []))) (length start - count) start low
    by_test false t =
        let same : filter test (gone ++ l ∷ []) ≡ filter test gone = filter-append test gone (l ∷ []) ∙ ap (λ b. filter test gone ++ cond b (l ∷ []) []) t ∙ append-nil (filter test gone) in
        after_is ∙ ap (λ b. if b then take (length before - 1) before else before) t ∙ before_is ∙ ap (λ xs. take (length start - length xs) start) (sym same)
