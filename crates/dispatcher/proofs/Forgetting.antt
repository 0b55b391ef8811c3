-- The results of settled commands are forgotten: alike in a list and in a set, and there is room for those that may still come.
use Rattle.std.proofs.Common.{◌≡◌, ◌<◌, ◌≤◌, ℕ, zero, suc, ◌+◌, min, Bool, true, false, not, ◌&&◌, ◌||◌, List, [], ◌∷◌, length, filter, set, get_or, refl, sym, ap, subst, ◌∙◌, arith, IsPermutation}
use Rattle.std.specs.Prelude.{count_by, nat_eq, if◌then◌else◌}
use Rattle.std.specs.List.{AllByRecursion, list_any, swap}
use Rattle.std.proofs.lemmas.Bool.{and_parts, eqb-true}
use Rattle.std.proofs.lemmas.List.Sorted.{IsPermutation-cons, IsPermutation-keeps, IsPermutation-middle, IsPermutation-refl, IsPermutation-sym, IsPermutation-trans, length_permutation}
use Rattle.std.proofs.lemmas.List.Sums.{count_by-le-length, length-filter, sum_by-cons}
use Rattle.of_types.specs.declared.setup.Setup.{Setup}
use Rattle.vr_log.specs.declared.entry.Entry.{Entry}
use Rattle.app_core.specs.declared.issued.Issued.{Issued}
use Rattle.dispatcher.specs.Ledger.{HasRoomForResults, lacks_result}
use Rattle.dispatcher.specs.Marks.{Marks, AreWithin, has_result, is_pending, pending_alone, unsettled}
use Rattle.dispatcher.proofs.Numbering.{all_pend, is_of, one_if, Pends, unsettled_once}

-- lists in another order, of which the same is kept
module _ {A : Type 0} (p : A → Bool) where
  kept_first : (b : Bool) (x : A) (xs ys : List A) → IsPermutation xs ys → IsPermutation (if b then x ∷ xs else xs) (if b then x ∷ ys else ys)
  kept_first true x xs ys same = IsPermutation-cons x xs ys same
  kept_first false x xs ys same = same

  under : (x : A) (xs ys : List A) → IsPermutation (filter p xs) (filter p ys) → IsPermutation (filter p (x ∷ xs)) (filter p (x ∷ ys))
  under x xs ys same = kept_first (p x) x (filter p xs) (filter p ys) same

  kept_two : (a b : Bool) (x y : A) (xs : List A) →
      IsPermutation (if a then x ∷ (if b then y ∷ xs else xs) else (if b then y ∷ xs else xs)) (if b then y ∷ (if a then x ∷ xs else xs) else (if a then x ∷ xs else xs))
  kept_two true true x y xs = IsPermutation-middle (x ∷ []) y xs
  kept_two true false x y xs = IsPermutation-refl (x ∷ xs)
  kept_two false true x y xs = IsPermutation-refl (y ∷ xs)
  kept_two false false x y xs = IsPermutation-refl xs

  turned : (x y : A) (xs : List A) → IsPermutation (filter p (x ∷ y ∷ xs)) (filter p (y ∷ x ∷ xs))
  turned x y xs = kept_two (p x) (p y) x y (filter p xs)

  -- one changes places with the first
  to_front : (xs : List A) (k : ℕ) (x d : A) → k < length xs → IsPermutation (filter p (get_or xs k d ∷ set xs k x)) (filter p (x ∷ xs))
  to_front [] k x d lt = absurd (omega (arith, lt))
  to_front (y ∷ xs) zero x d lt = turned y x xs
  to_front (y ∷ xs) (suc k) x d lt =
      let z = get_or xs k d in
      let rest = set xs k x in
      IsPermutation-trans (filter p (z ∷ y ∷ rest)) (filter p (y ∷ z ∷ rest)) (filter p (x ∷ y ∷ xs)) (turned z y rest)
      (IsPermutation-trans (filter p (y ∷ z ∷ rest)) (filter p (y ∷ x ∷ xs)) (filter p (x ∷ y ∷ xs)) (under y (z ∷ rest) (x ∷ xs) (to_front xs k x d (omega (arith, lt)))) (turned y x xs))

  -- two change places
  exchanged : (xs : List A) (i j : ℕ) (d : A) → i < length xs → j < length xs → IsPermutation (filter p xs) (filter p (set (set xs i (get_or xs j d)) j (get_or xs i d)))
  exchanged [] i j d a b = absurd (omega (arith, a))
  exchanged (x ∷ xs) zero zero d a b = IsPermutation-refl (filter p (x ∷ xs))
  exchanged (x ∷ xs) zero (suc k) d a b = IsPermutation-sym (filter p (get_or xs k d ∷ set xs k x)) (filter p (x ∷ xs)) (to_front xs k x d (omega (arith, b)))
  exchanged (x ∷ xs) (suc k) zero d a b = IsPermutation-sym (filter p (get_or xs k d ∷ set xs k x)) (filter p (x ∷ xs)) (to_front xs k x d (omega (arith, a)))
  exchanged (x ∷ xs) (suc i) (suc j) d a b = under x xs (set (set xs i (get_or xs j d)) j (get_or xs i d)) (exchanged xs i j d (omega (arith, a)) (omega (arith, b)))

  swapped : (xs : List A) (i j : ℕ) → i < length xs → j < length xs → IsPermutation (filter p xs) (filter p (swap xs i j))
  swapped [] i j a b = absurd (omega (arith, a))
  swapped (x ∷ xs) i j a b = exchanged (x ∷ xs) i j x a b

  pub filters_permute : (xs ys : List A) → IsPermutation xs ys → IsPermutation (filter p xs) (filter p ys)
  filters_permute xs ys same =
      IsPermutation-keeps xs (λ (l : List A). IsPermutation (filter p xs) (filter p l)) (IsPermutation-refl (filter p xs))
      (λ l i j a b so. IsPermutation-trans (filter p xs) (filter p l) (filter p (swap l i j)) so (swapped l i j a b)) ys same

  -- as many go from both, and room for as many further ones stays
  pub kept_room : (xs ys xs' ys' : List A) (capacity capacity' spare spare' : ℕ) → IsPermutation xs ys → xs' ≡ filter p xs → ys' ≡ filter p ys → capacity' ≡ capacity → spare ≤ spare' →
      min capacity (length ys + spare) + length xs' ≤ min capacity' (length ys' + spare') + length xs
  kept_room xs ys xs' ys' capacity capacity' spare spare' same listed found as_before more =
      let long = length_permutation xs ys same in
      let kept = length_permutation (filter p xs) (filter p ys) (filters_permute xs ys same) in
      let is = length-filter p xs in
      let few = count_by-le-length p xs in
      let a = ap (λ (l : List A). length l) listed in
      let b = ap (λ (l : List A). length l) found in
      omega (arith, long, kept, is, few, a, b, as_before, more)

-- the marks that pass a test by switch, life and number
abbrev kept_by : (ℕ → ℕ → ℕ → Bool) → List (ℕ × ℕ × ℕ) → List (ℕ × ℕ × ℕ)
kept_by q acked = filter (λ a. q a.0 a.1 a.2) acked

module _ (q : ℕ → ℕ → ℕ → Bool) where
  kept_or : (b : Bool) (p : (ℕ × ℕ × ℕ) → Bool) (a : ℕ × ℕ × ℕ) (acked : List (ℕ × ℕ × ℕ)) → list_any p (if b then a ∷ acked else acked) ≡ ((b && p a) || list_any p acked)
  kept_or true p a acked = refl
  kept_or false p a acked = refl

  both : (passes same wanted rest : Bool) → (same ≡ true → passes ≡ wanted) → ((passes && same) || (wanted && rest)) ≡ (wanted && (same || rest))
  both true true true rest h = refl
  both true true false rest h = absurd cc (h refl)
  both false true true rest h = absurd cc (h refl)
  both false true false rest h = refl
  both true false wanted rest h = refl
  both false false wanted rest h = refl

  -- a result is kept where it came, and its command passes
  pub kept_is : (marks : Marks) (s l n : ℕ) → has_result (record marks { acked = kept_by q marks.acked }) s l n ≡ (q s l n && has_result marks s l n)
  kept_is marks s l n = each marks.acked
    where
      test : (ℕ × ℕ × ℕ) → Bool
      test a = nat_eq a.0 s && nat_eq a.1 l && nat_eq a.2 n

      none : (b : Bool) → false ≡ (b && false)
      none true = refl
      none false = refl

      meant : (a : ℕ × ℕ × ℕ) → test a ≡ true → q a.0 a.1 a.2 ≡ q s l n
      meant a is =
          let p = and_parts (nat_eq a.0 s && nat_eq a.1 l) (nat_eq a.2 n) is in
          let r = and_parts (nat_eq a.0 s) (nat_eq a.1 l) p.0 in
          let x = eqb-true a.0 s r.0 in
          let y = eqb-true a.1 l r.1 in
          let z = eqb-true a.2 n p.1 in
          ap (λ (k : ℕ). q k a.1 a.2) x ∙ ap (λ (k : ℕ). q s k a.2) y ∙ ap (λ (k : ℕ). q s l k) z

      each : (acked : List (ℕ × ℕ × ℕ)) → list_any test (kept_by q acked) ≡ (q s l n && list_any test acked)
      each [] = none (q s l n)
      each (a ∷ acked) =
          kept_or (q a.0 a.1 a.2) test a (kept_by q acked)
          ∙ ap (λ (b : Bool). (q a.0 a.1 a.2 && test a) || b) (each acked)
          ∙ both (q a.0 a.1 a.2) (test a) (q s l n) (list_any test acked) (meant a)

  -- what is kept is no higher than it was
  pub kept_within : (marks : Marks) (highest : List ℕ) → AreWithin marks highest → AreWithin (record marks { acked = kept_by q marks.acked }) highest
  kept_within marks highest within = λ s l n came. within s l n (and_parts (q s l n) (has_result marks s l n) (sym (kept_is marks s l n) ∙ came)).1

-- of commands that differ, and of which those that pass have marks at most once, no more have marks than marks pass
module _ (q : ℕ → ℕ → ℕ → Bool) (xs : List Issued) (once : (s l n : ℕ) → count_by (is_of s l n) xs ≤ one_if (q s l n)) where
  none_marked : (ys : List Issued) → count_by (λ _. false) ys ≤ 0
  none_marked [] = omega arith
  none_marked (y ∷ ys) = let step = sum_by-cons (λ (z : Issued). one_if false) y ys in let rest = none_marked ys in omega (arith, step, rest)

  at_most_both : (a b : Bool) → one_if (a || b) ≤ one_if a + one_if b
  at_most_both true b = omega arith
  at_most_both false b = omega arith

  either : (f g : Issued → Bool) (ys : List Issued) → count_by (λ y. f y || g y) ys ≤ count_by f ys + count_by g ys
  either f g [] = omega arith
  either f g (y ∷ ys) =
      let a = sum_by-cons (λ z. one_if (f z || g z)) y ys in
      let b = sum_by-cons (λ z. one_if (f z)) y ys in
      let c = sum_by-cons (λ z. one_if (g z)) y ys in
      let rest = either f g ys in
      let here = at_most_both (f y) (g y) in
      omega (arith, a, b, c, rest, here)

  longer : (b : Bool) (a : ℕ × ℕ × ℕ) (acked : List (ℕ × ℕ × ℕ)) → length (if b then a ∷ acked else acked) ≡ one_if b + length acked
  longer true a acked = omega arith
  longer false a acked = omega arith

  few_marked : (acked : List (ℕ × ℕ × ℕ)) → count_by (λ x. list_any (λ a. is_of a.0 a.1 a.2 x) acked) xs ≤ length (kept_by q acked)
  few_marked [] = let none = none_marked xs in omega (arith, none)
  few_marked (a ∷ acked) =
      let rest = few_marked acked in
      let here = once a.0 a.1 a.2 in
      let parts = either (is_of a.0 a.1 a.2) (λ x. list_any (λ b. is_of b.0 b.1 b.2 x) acked) xs in
      let long = longer (q a.0 a.1 a.2) a (kept_by q acked) in
      omega (arith, rest, here, parts, long)

split : (p : Issued → Bool) (xs : List Issued) → length xs ≤ count_by (λ x. not (p x)) xs + count_by p xs
split p [] = omega arith
split p (x ∷ xs) =
    let a = sum_by-cons (λ y. one_if (not (p y))) x xs in
    let b = sum_by-cons (λ y. one_if (p y)) x xs in
    let rest = split p xs in
    let here = either_way (p x) in
    omega (arith, a, b, rest, here)
  where
    either_way : (b : Bool) → one_if (not b) + one_if b ≡ 1
    either_way true = refl
    either_way false = refl

module _ (kinds : List ℕ) (setup : Setup) (log : List Entry) (marks : Marks) where
  -- a command that is pending lacks its result as before
  lacks_alike : (x : Issued) → Pends kinds setup log x → lacks_result (pending_alone kinds setup log marks) x ≡ lacks_result marks x
  lacks_alike x pends =
      ap not (kept_is (is_pending kinds setup log) marks x.switch x.life x.number ∙ ap (λ (b : Bool). b && has_result marks x.switch x.life x.number) pends)

  lacking_alike : (xs : List Issued) → AllByRecursion (Pends kinds setup log) xs → count_by (lacks_result (pending_alone kinds setup log marks)) xs ≤ count_by (lacks_result marks) xs
  lacking_alike [] h = omega arith
  lacking_alike (x ∷ xs) h =
      let a = sum_by-cons (λ y. one_if (lacks_result (pending_alone kinds setup log marks) y)) x xs in
      let b = sum_by-cons (λ y. one_if (lacks_result marks y)) x xs in
      let rest = lacking_alike xs h.1 in
      let here = ap one_if (lacks_alike x h.0) in
      omega (arith, a, b, rest, here)

  -- where as many further results fit as before, there is room for those that may still come
  pub forgotten_room : (after : Marks) (room later : ℕ) → HasRoomForResults (unsettled kinds setup log) marks room → after ≡ pending_alone kinds setup log marks →
      room + length after.acked ≤ later + length marks.acked → HasRoomForResults (unsettled kinds setup log) after later
  forgotten_room after room later has is made =
      let pending = pending_alone kinds setup log marks in
      let long = ap (λ (m : Marks). length m.acked) is in
      let now = has.in_view in
      let lacking = lacking_alike (unsettled kinds setup log) (all_pend kinds setup log) in
      let marked = few_marked (is_pending kinds setup log) (unsettled kinds setup log) (unsettled_once kinds setup log) marks.acked in
      let all = split (λ x. has_result marks x.switch x.life x.number) (unsettled kinds setup log) in
      subst (λ (m : Marks). HasRoomForResults (unsettled kinds setup log) m later) (sym is)
      (record { in_view = omega (arith, long, now, lacking, made); in_next = omega (arith, long, now, marked, all, made) })
