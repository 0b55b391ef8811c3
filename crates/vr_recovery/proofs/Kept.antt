-- Where a response joins those that are kept.
use Rattle.std.proofs.Common.{◌≡◌, ◌<◌, ◌≤◌, ℕ, zero, suc, ◌+◌, Bool, true, false, cond, None, Some, List, [], ◌∷◌, ◌++◌, length, get_or, set, refl, ap, sym, ◌∙◌, arith, inl, inr}
use Rattle.std.specs.Prelude.{nat_eq, nat_lt, slice_get, slice_set}
use Rattle.std.specs.List.{position, position_or_len}
use Rattle.std.proofs.lemmas.Bool.{cases_Bool}
use Rattle.std.proofs.lemmas.Bool.Decides.{nat_tests}
use Rattle.std.proofs.lemmas.List.{set-get_or, set-set}
use Rattle.std.proofs.lemmas.List.Quantifiers.{position-Some}
use Rattle.std.proofs.lemmas.List.Recursion.{is_position_or_len}
use Rattle.std.proofs.lemmas.Option.{get_or_from_slice_get, slice_get-get_or}
use Rattle.vr_log.specs.declared.state.Response.{Response}
use Rattle.vr_recovery.specs.Recovering.{newest, with_response}

-- the first place at which a test passes, or the length
abbrev place : {X : Type 0} → (X → Bool) → List X → ℕ
place p [] = 0
place p (x ∷ xs) = cond (p x) 0 (1 + place p xs)

-- no response of that member was kept: it comes last
beyond : (responses : List Response) (r : Response) → length responses ≤ place (λ k. nat_eq k.from r.from) responses → with_response responses r ≡ responses ++ r ∷ []
beyond [] r none = refl
beyond (kept ∷ responses) r none = elim (cases_Bool (nat_eq kept.from r.from)) [
  | inl here ↦ absurd (let z : place (λ k. nat_eq k.from r.from) (kept ∷ responses) ≡ 0 = rw here refl in omega (arith, z, none))
  | inr other ↦
      let z : place (λ k. nat_eq k.from r.from) (kept ∷ responses) ≡ 1 + place (λ k. nat_eq k.from r.from) responses = rw other refl in
      rw other (ap (λ (xs : List Response). kept ∷ xs) (beyond responses r (omega (arith, z, none))))
]

above : (a b : ℕ) → nat_lt a b ≡ false → b ≤ a
above a b e = grind (arith, nat_tests)

far : (b : Bool) (i n : ℕ) → nat_lt i n ≡ b → cond b (Some i) None ≡ None → n ≤ i
far true i n lt f = absurd cc
far false i n ge f = above i n ge

pub pushed_is : (responses : List Response) (r : Response) → position (λ k. nat_eq k.from r.from) responses ≡ None → responses ++ r ∷ [] ≡ with_response responses r
pushed_is responses r none =
    let same = is_position_or_len (place (λ (k : Response). nat_eq k.from r.from)) (λ k. nat_eq k.from r.from) refl (λ x xs. refl) responses in
    let at = position_or_len (λ (k : Response). nat_eq k.from r.from) responses in
    let le = far (nat_lt at (length responses)) at (length responses) refl none in
    sym (beyond responses r (omega (arith, same, le)))

-- one was kept at this place
at_place : (responses : List Response) (r : Response) (i : ℕ) → i < length responses → nat_eq (get_or responses i r).from r.from ≡ true → ((k : ℕ) → k < i → nat_eq (get_or responses k r).from r.from ≡ false) →
    with_response responses r ≡ set responses i (newest (get_or responses i r) r)
at_place [] r i lt here before = absurd (omega arith)
at_place (kept ∷ responses) r zero lt here before = rw here refl
at_place (kept ∷ responses) r (suc i) lt here before =
    let other : nat_eq kept.from r.from ≡ false = before 0 (omega arith) in
    rw other (ap (λ (xs : List Response). kept ∷ xs) (at_place responses r i (omega arith) here (λ k less. before (suc k) (omega arith))))

module _ (responses : List Response) (r : Response) (i : ℕ) (found : position (λ k. nat_eq k.from r.from) responses ≡ Some i) where
  kept_is : with_response responses r ≡ set responses i (newest (get_or responses i r) r)
  kept_is = let p = position-Some (λ k. nat_eq k.from r.from) responses i r found in at_place responses r i p.0 p.1 p.2

  -- it is of a lesser view
  pub replaced_is : (kept : Response) → kept ≡ get_or responses i kept → kept.view < r.view → slice_set responses i r ≡ with_response responses r
  replaced_is kept is less =
      let p = position-Some (λ k. nat_eq k.from r.from) responses i r found in
      let same : get_or responses i r ≡ kept = get_or_from_slice_get responses i kept r (slice_get-get_or responses i kept p.0 ∙ ap (λ (x : Response). Some x) (sym is)) in
      let newer : nat_lt kept.view r.view ≡ true = below kept.view r.view less in
      sym (kept_is ∙ ap (λ (x : Response). set responses i (newest x r)) same ∙ rw newer refl)
    where
      below : (a b : ℕ) → a < b → nat_lt a b ≡ true
      below a b lt = grind (arith, nat_tests)

  pub back_is : (old : Response) → slice_get responses i ≡ Some old → slice_set (slice_set responses i r) i old ≡ responses
  back_is old is = set-set responses i r old ∙ rw (sym (get_or_from_slice_get responses i old r is)) (set-get_or responses i r)

  -- it is of no lesser view
  pub same_is : (kept : Response) → kept ≡ get_or responses i kept → r.view ≤ kept.view → responses ≡ with_response responses r
  same_is kept is le =
      let p = position-Some (λ k. nat_eq k.from r.from) responses i r found in
      let same : get_or responses i r ≡ kept = get_or_from_slice_get responses i kept r (slice_get-get_or responses i kept p.0 ∙ ap (λ (x : Response). Some x) (sym is)) in
      let old : nat_lt kept.view r.view ≡ false = above kept.view r.view le in
      sym (kept_is ∙ ap (λ (x : Response). set responses i (newest x r)) same ∙ rw (old, sym same) (set-get_or responses i r))
    where
      above : (a b : ℕ) → b ≤ a → nat_lt a b ≡ false
      above a b le = grind (arith, nat_tests)
