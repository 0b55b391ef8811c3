-- The commands of which results came, in a list, and in a set that finds them.
use Rattle.std.proofs.Common.{◌≡◌, ◌≤◌, ℕ, Bool, true, false, not, ◌&&◌, ◌||◌, List, get_or, arith, [], ◌∷◌, ◌++◌, refl, sym, ap, ◌∙◌, inl, inr, IsPermutation, MatchBool}
use Rattle.std.specs.Prelude.{IfOk, IsOk, Result, Ok, Err, nat_eq}
use Rattle.std.specs.List.{list_any}
use Rattle.std.proofs.lemmas.Bool.{and_parts, cases_Bool, cases_eq, eq-eqb, eqb-true, ne_eqb}
use Rattle.std.proofs.lemmas.List.Folds.{list_any-append}
use Rattle.std.proofs.lemmas.List.Sorted.{IsPermutation-push_more, list_any-IsPermutation}
use Rattle.dispatcher.specs.Marks.{KeptMarks, Marks, AreWithin, has_result}
use Rattle.dispatcher.proofs.Standing.{any_same}

turned : (a b : ℕ) → nat_eq a b ≡ nat_eq b a
turned a b =
    elim (cases_eq a b) [
      | inl same ↦ rw (eq-eqb a b same, eq-eqb b a (sym same)) refl
      | inr apart ↦ rw (ne_eqb a b apart, ne_eqb b a (λ e. apart (sym e))) refl
    ]

-- the set has a command where its result came
pub found_is : (inside now : KeptMarks) (keys : List (ℕ × ℕ × ℕ)) (s l n : ℕ) → IsPermutation inside.marks.acked keys → inside ≡ now → list_any (λ k. (nat_eq s k.0 && nat_eq l k.1) && nat_eq n k.2) keys ≡ has_result now.marks s l n
found_is inside now keys s l n same is =
    any_same _ _ keys (λ k. rw (turned s k.0, turned l k.1, turned n k.2) refl)
    ∙ sym (list_any-IsPermutation (λ (a : ℕ × ℕ × ℕ). nat_eq a.0 s && nat_eq a.1 l && nat_eq a.2 n) inside.marks.acked keys same)
    ∙ ap (λ (m : KeptMarks). has_result m.marks s l n) is

-- one more is put into both
pub put_in_both : {E : Type 0} (result : Result Bool E) (there : Bool) (xs ys zs : List (ℕ × ℕ × ℕ)) (k : ℕ × ℕ × ℕ) → IsOk result → there ≡ false → IfOk result (λ added. added ≡ not there) →
    IfOk result (λ added. MatchBool added (IsPermutation (k ∷ ys) zs) (zs ≡ ys)) → IsPermutation xs ys → IsPermutation (xs ++ k ∷ []) zs
put_in_both (Ok true) there xs ys zs k ok new added puts same = IsPermutation-push_more xs ys zs k same puts
put_in_both (Ok false) there xs ys zs k ok new added puts same = absurd cc (added, new)
put_in_both (Err e) there xs ys zs k ok new added puts same = absurd cc ok

-- the highest numbers are raised to that of one result more
pub noted_within : (marks : Marks) (s l n : ℕ) (highest raised : List ℕ) → AreWithin marks highest → n ≤ get_or raised s 0 → ((k : ℕ) → get_or highest k 0 ≤ get_or raised k 0) → AreWithin (record marks { acked = marks.acked ++ (s, l, n) ∷ [] }) raised
noted_within marks s l n highest raised within reached kept = λ switch life number came.
    let either : (has_result marks switch life number || ((nat_eq s switch && nat_eq l life && nat_eq n number) || false)) ≡ true =
    sym (list_any-append (λ (a : ℕ × ℕ × ℕ). nat_eq a.0 switch && nat_eq a.1 life && nat_eq a.2 number) marks.acked ((s, l, n) ∷ [])) ∙ came in
    elim (cases_Bool (has_result marks switch life number)) [
      | inl before ↦ let low = within switch life number before in let more = kept switch in omega (arith, low, more)
      | inr new ↦
          let is = is_left _ (ap (λ (b : Bool). b || ((nat_eq s switch && nat_eq l life && nat_eq n number) || false)) (sym new) ∙ either) in
          let p = and_parts (nat_eq s switch && nat_eq l life) (nat_eq n number) is in
          let q = and_parts (nat_eq s switch) (nat_eq l life) p.0 in
          let low = ap (λ (k : ℕ). get_or raised k 0) (eqb-true s switch q.0) in
          let same = eqb-true n number p.1 in
          omega (arith, low, same, reached)
    ]
  where
    is_left : (b : Bool) → (b || false) ≡ true → b ≡ true
    is_left true e = refl
    is_left false e = absurd cc
