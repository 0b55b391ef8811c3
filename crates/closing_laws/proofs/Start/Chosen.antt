-- The members that a closing takes are a quorum.
use Rattle.std.proofs.Common.{◌≡◌, ◌≤◌, ◌<◌, inl, inr, ℕ, zero, suc, ◌/◌, ◌%◌, Bool, true, false, List, [], ◌∷◌, length, take, refl, sym, ◌∙◌, ap, subst, arith}
use Rattle.std.specs.Prelude.{not, nat_eq, ◌&&◌, ◌||◌, filter, if◌then◌else◌}
use Rattle.std.proofs.lemmas.Bool.{eq-eqb, ne_eqb, eqb-true, eqb-false, or_left, or_cases, true≢false, both_ways, false_from_ne_true}
use Rattle.std.proofs.lemmas.List.{length-take-le}
use Rattle.vr_log.specs.Members.{others_below}
use Rattle.run_spec.specs.Closing.{quorum_of}
use Rattle.closing_laws.specs.Quorum.{has, AreAmong}
use Rattle.closing_laws.proofs.Lists.Numbers.{Once, has_here, has_later, filter_has, filter_once, filter_twice, filter_on, others_but_one, below_once, filter_in, filter_no}
use Rattle.closing_laws.proofs.Lists.Picked.{IsPicked}

-- what a list has, of those that pass a test
has_filter : (t : ℕ → Bool) (xs : List ℕ) (j : ℕ) → has xs j ≡ true → has (filter t xs) j ≡ t j
has_filter t xs j h = by_test (t j) refl
  where
    by_test : (b : Bool) → t j ≡ b → has (filter t xs) j ≡ b
    by_test true e = filter_in t xs j h e
    by_test false e = false_from_ne_true (has (filter t xs) j) (λ k. both_ways (t j) e (filter_has t xs j k).1)

-- one number more
one_more : (up ys : List ℕ) (y : ℕ) → Once up → has up y ≡ true → has ys y ≡ false → length (filter (has (y ∷ ys)) up) ≡ suc (length (filter (has ys) up))
one_more [] ys y once there new = absurd (true≢false (sym there))
one_more (x ∷ up) ys y once there new = by_first (nat_eq y x) refl (λ k. one_more up ys y once.1 k new)
  where
    by_first : (b : Bool) → nat_eq y x ≡ b → (has up y ≡ true → length (filter (has (y ∷ ys)) up) ≡ suc (length (filter (has ys) up))) →
        length (if b || has ys x then x ∷ filter (has (y ∷ ys)) up else filter (has (y ∷ ys)) up) ≡ suc (length (if has ys x then x ∷ filter (has ys) up else filter (has ys) up))
    by_first true e rest =
        let same : y ≡ x = eqb-true y x e in
        let none : has ys x ≡ false = ap (has ys) (sym same) ∙ new in
        let rest_same : filter (has (y ∷ ys)) up ≡ filter (has ys) up =
        filter_on (has (y ∷ ys)) (has ys) up (λ j k. ap (λ (d : Bool). d || has ys j) (ne_eqb y j (λ i. both_ways (has up j) (ap (has up) (sym i ∙ same) ∙ once.0) k))) in
        rw none (ap (λ (l : List ℕ). suc (length l)) rest_same)
    by_first false e rest = by_second (has ys x) (rest (elim (or_cases (nat_eq x y) (has up y) there) [
      | inl at ↦ absurd (eqb-false y x e (sym (eqb-true x y at)))
      | inr k ↦ k
    ]))
      where
        by_second : (d : Bool) → length (filter (has (y ∷ ys)) up) ≡ suc (length (filter (has ys) up)) →
            length (if d then x ∷ filter (has (y ∷ ys)) up else filter (has (y ∷ ys)) up) ≡ suc (length (if d then x ∷ filter (has ys) up else filter (has ys) up))
        by_second true k = ap suc k
        by_second false k = k

all_of_them : (up ys : List ℕ) → Once up → Once ys → ((j : ℕ) → has ys j ≡ true → has up j ≡ true) → length (filter (has ys) up) ≡ length ys
all_of_them up [] once each within = ap length (filter_no up)
all_of_them up (y ∷ ys) once each within =
    one_more up ys y once (within y (has_here y ys)) each.0 ∙ ap suc (all_of_them up ys once each.1 (λ j h. within j (has_later y j ys h)))

take_has : (n : ℕ) (xs : List ℕ) (j : ℕ) → has (take n xs) j ≡ true → has xs j ≡ true
take_has zero xs j h = absurd (true≢false (sym h))
take_has (suc n) [] j h = absurd (true≢false (sym h))
take_has (suc n) (x ∷ xs) j h = elim (or_cases (nat_eq x j) (has (take n xs) j) h) [ inl e ↦ or_left (nat_eq x j) (has xs j) e | inr k ↦ has_later x j xs (take_has n xs j k) ]

take_once : (n : ℕ) (xs : List ℕ) → Once xs → Once (take n xs)
take_once zero xs once = tt
take_once (suc n) [] once = tt
take_once (suc n) (x ∷ xs) once = (apart (has (take n xs) x) refl, take_once n xs once.1)
  where
    apart : (b : Bool) → has (take n xs) x ≡ b → b ≡ false
    apart true e = absurd (both_ways (has xs x) once.0 (take_has n xs x e))
    apart false e = refl

-- those that take part, ascending: more than half of a group, and the primary of the view among them
pub quorum_picked : (n view : ℕ) (up : List ℕ) (test : ℕ → Bool) → up ≡ filter test (others_below n n) → has up (view % n) ≡ true → n / 2 < length up →
    IsPicked n view (quorum_of (view % n) (n / 2) up)
quorum_picked n view up test ascending leads most =
    let p = view % n in
    let numbers = others_below n n in
    let once : Once up = subst Once (sym ascending) (filter_once test numbers (below_once n n)) in
    let rest = filter (λ o. not (nat_eq o p)) up in
    let taken = take (n / 2) rest in
    let apart : filter (λ o. not (nat_eq o p)) up ≡ filter (λ o. not (nat_eq p o)) up = filter_on (λ o. not (nat_eq o p)) (λ o. not (nat_eq p o)) up (λ j h. ap not (turned j p)) in
    let count = others_but_one p up once leads in
    let long : n / 2 ≤ length rest = (let same = ap length apart in omega (arith, same, count, most)) in
    let chosen = p ∷ taken in
    let new : has taken p ≡ false = not_taken (has taken p) refl in
    let chosen_once : Once chosen = (new, take_once (n / 2) rest (filter_once (λ o. not (nat_eq o p)) up once)) in
    let within : (j : ℕ) → has chosen j ≡ true → has up j ≡ true = λ j h. elim (or_cases (nat_eq p j) (has taken j) h) [
      | inl e ↦ ap (has up) (sym (eqb-true p j e)) ∙ leads
      | inr k ↦ (filter_has (λ o. not (nat_eq o p)) up j (take_has (n / 2) rest j k)).0
    ] in
    let quorum_same : quorum_of p (n / 2) up ≡ filter (has chosen) up = filter_on (λ c. nat_eq c p || has taken c) (has chosen) up (λ j h. ap (λ (b : Bool). b || has taken j) (turned j p)) in
    let counted : length (quorum_of p (n / 2) up) ≡ suc (n / 2) =
    ap length quorum_same ∙ all_of_them up chosen once chosen_once within ∙ ap suc (length-take-le (n / 2) rest long) in
    let both : quorum_of p (n / 2) up ≡ filter (λ j. test j && has chosen j) numbers =
    quorum_same ∙ ap (filter (has chosen)) ascending ∙ filter_twice (has chosen) test numbers in
    record {
      ascending = both ∙ filter_on (λ j. test j && has chosen j) (has (quorum_of p (n / 2) up)) numbers
          (λ j h. sym (ap (λ (l : List ℕ). has l j) both ∙ has_filter (λ i. test i && has chosen i) numbers j h));
      count = counted;
      primary = ap (λ (l : List ℕ). has l p) quorum_same ∙ has_filter (has chosen) up p leads ∙ has_here p taken;
    }
  where
    turned : (a b : ℕ) → nat_eq a b ≡ nat_eq b a
    turned a b = by_value (nat_eq a b) refl
      where
        by_value : (x : Bool) → nat_eq a b ≡ x → nat_eq a b ≡ nat_eq b a
        by_value true e = e ∙ sym (eq-eqb b a (sym (eqb-true a b e)))
        by_value false e = e ∙ sym (ne_eqb b a (λ i. eqb-false a b e (sym i)))

    not_taken : (b : Bool) → has (take (n / 2) (filter (λ o. not (nat_eq o (view % n))) up)) (view % n) ≡ b → b ≡ false
    not_taken true e =
        let r = filter_has (λ o. not (nat_eq o (view % n))) up (view % n) (take_has (n / 2) (filter (λ o. not (nat_eq o (view % n))) up) (view % n) e) in
        absurd (both_ways (not (nat_eq (view % n) (view % n))) (ap not (eq-eqb (view % n) (view % n) refl)) (r.1))
    not_taken false e = refl

-- each of them takes part
pub quorum_up : (primary others : ℕ) (up : List ℕ) → AreAmong (quorum_of primary others up) up
quorum_up primary others up c h = (filter_has (λ i. nat_eq i primary || has (take others (filter (λ o. not (nat_eq o primary)) up)) i) up c h).0
