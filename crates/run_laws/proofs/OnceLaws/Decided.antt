-- Where all committed logs agree, what is decided grows, and each of them begins it.
use Rattle.std.proofs.Common.{◌≡◌, ◌≤◌, ◌<◌, ◌⊎◌, ℕ, ◌+◌, List, [], ◌∷◌, ◌++◌, length, drop, map, zero, suc, refl, sym, ◌∙◌, ap, subst, append-nil, inl, inr, arith, length-append, drop-drop, add_comm}
use Rattle.std.specs.Prelude.{nat_lt}
use Rattle.std.specs.List.{range_with_len}
use Rattle.std.proofs.lemmas.Bool.{ltb-true, ltb-false, cond_both}
use Rattle.journal.specs.declared.journal.JournalEntry.{JournalEntry}
use Rattle.journal.specs.declared.journal.SaveResult.{SaveResult}
use Rattle.list_facts.proofs.Elements.{in_map}
use Rattle.list_facts.proofs.Prefixes.{prefix_refl, prefix_trans}
use Rattle.list_facts.specs.Lists.{IsIn, IsPrefix}
use Rattle.vr_log.specs.declared.entry.Entry.{Entry}
use Rattle.run_spec.specs.States.{Scene}
use Rattle.run_spec.specs.Legal.{IsPossible}
use Rattle.run_spec.specs.Committed.{kept, longest, decided}
use Rattle.run_spec.specs.Laws.{IsLasting}
use Rattle.list_facts.specs.Lists.{AreOne}
use Rattle.run_laws.specs.OnceLaws.Premises.{AreControllers}
use Rattle.run_laws.specs.OnceLaws.Invariant.{HoldsOfRun}
use Rattle.run_spec.proofs.Pasts.{possible_before, possible_drop}

-- a prefix that is no shorter is the whole
no_more : {A : Type 0} (xs ys : List A) → IsPrefix xs ys → length ys ≤ length xs → IsPrefix ys xs
no_more xs ys p short = by_rest p.rest p.joined
  where
    by_rest : (rest : List _) → ys ≡ xs ++ rest → IsPrefix ys xs
    by_rest [] e = record { rest = []; joined = sym (append-nil xs) ∙ sym e ∙ sym (append-nil ys) }
    by_rest (r ∷ rest) e = absurd (omega (arith, short, ap length e, length-append xs (r ∷ rest)))

-- the longer of two lists that are one begins with the shorter
shorter : {A : Type 0} (xs ys : List A) → AreOne xs ys → length xs ≤ length ys → IsPrefix xs ys
shorter xs ys (inl p) few = p
shorter xs ys (inr p) few = no_more ys xs p few

record IsLongest (best : List Entry) (logs : List (List Entry)) (found : List Entry) : Type 0 where
  pub first : IsPrefix best found
  pub each : (l : List Entry) → IsIn l logs → IsPrefix l found

longest_is : (best : List Entry) (logs : List (List Entry)) → ((l : List Entry) → IsIn l logs → AreOne best l) → ((l m : List Entry) → IsIn l logs → IsIn m logs → AreOne l m) → IsLongest best logs (longest best logs)
longest_is best [] one all = record { first = prefix_refl best; each = λ l k. absurd k }
longest_is best (log ∷ logs) one all =
    cond_both (nat_lt (length best) (length log)) log best (λ (b : List Entry). IsLongest best (log ∷ logs) (longest b logs))
    (λ more.
    let less = ltb-true (length best) (length log) more in
    let r = longest_is log logs (λ l k. all log l (inl refl) (inr k)) (λ l m k n. all l m (inr k) (inr n)) in
    record {
      first = prefix_trans (shorter best log (one log (inl refl)) (omega (arith, less))) r.first;
      each = λ l k. elim k [ inl e ↦ subst (λ (y : List Entry). IsPrefix y (longest log logs)) (sym e) r.first | inr n ↦ r.each l n ];
    })
    (λ less.
    let few = ltb-false (length best) (length log) less in
    let r = longest_is best logs (λ l k. one l (inr k)) (λ l m k n. all l m (inr k) (inr n)) in
    let flip : AreOne log best = elim (one log (inl refl)) [ inl p ↦ inr p | inr p ↦ inl p ] in
    record {
      first = r.first;
      each = λ l k. elim k [ inl e ↦ subst (λ (y : List Entry). IsPrefix y (longest best logs)) (sym e) (prefix_trans (shorter log best flip (omega (arith, few))) r.first) | inr n ↦ r.each l n ];
    })

longest_among : (best : List Entry) (logs : List (List Entry)) → (longest best logs ≡ best) ⊎ IsIn (longest best logs) logs
longest_among best [] = inl refl
longest_among best (log ∷ logs) =
    cond_both (nat_lt (length best) (length log)) log best (λ (b : List Entry). (longest b logs ≡ best) ⊎ IsIn (longest b logs) (log ∷ logs))
    (λ _. elim (longest_among log logs) [ inl e ↦ inr (inl e) | inr k ↦ inr (inr k) ])
    (λ _. elim (longest_among best logs) [ inl e ↦ inl e | inr k ↦ inr (inr k) ])

range_among : (a n c : ℕ) → IsIn c (range_with_len a n) → c < a + n
range_among a zero c h = absurd h
range_among a (suc n) c (inl e) = omega (arith, e)
range_among a (suc n) c (inr h) = let r = range_among (a + 1) n c h in omega (arith, r)

among_range : (a n c : ℕ) → c < n → IsIn (a + c) (range_with_len a n)
among_range a zero c h = absurd (omega (arith, h))
among_range a (suc n) zero h = inl (omega arith)
among_range a (suc n) (suc c) h =
    let e : a + 1 + c ≡ a + suc c = omega arith in
    inr (subst (λ (k : ℕ). IsIn k (range_with_len (a + 1) n)) e (among_range (a + 1) n c (omega (arith, h))))

range_below : (n c : ℕ) → IsIn c (range_with_len 0 n) → c < n
range_below n c h = let r = range_among 0 n c h in omega (arith, r)

below_range : (n c : ℕ) → c < n → IsIn c (range_with_len 0 n)
below_range n c h = let e : 0 + c ≡ c = omega arith in subst (λ (k : ℕ). IsIn k (range_with_len 0 n)) e (among_range 0 n c h)

among_mapped : {A B : Type 0} (f : A → B) (xs : List A) (x : A) → IsIn x xs → IsIn (f x) (map f xs)
among_mapped f [] x h = absurd h
among_mapped f (y ∷ xs) x (inl e) = inl (ap f e)
among_mapped f (y ∷ xs) x (inr h) = inr (among_mapped f xs x h)

module _ {B : Type 0} (scene : Scene B) (results : List (List SaveResult)) (sides : AreControllers scene results) where
  -- where a log comes from that is decided
  data IsDecidedBy (entries : List (JournalEntry B)) : Type 0 where
    Nobody : decided scene results entries ≡ [] → IsDecidedBy entries
    Somebody : (c i : ℕ) → c < scene.setup.controllers → decided scene results entries ≡ kept scene results c (drop i entries) → IsDecidedBy entries

  pub decided_none : decided scene results [] ≡ []
  unfolding decided
  decided_none = refl

  abbrev logs_after : JournalEntry B → List (JournalEntry B) → List (List Entry)
  logs_after e before = map (λ c. kept scene results c (e ∷ before)) (range_with_len 0 scene.setup.controllers)

  decided_after : (e : JournalEntry B) (before : List (JournalEntry B)) → decided scene results (e ∷ before) ≡ longest (decided scene results before) (logs_after e before)
  unfolding decided
  decided_after e before = refl

  -- a further entry changes nothing, or decides what some controller has committed
  pub chosen : (e : JournalEntry B) (before : List (JournalEntry B)) → (decided scene results (e ∷ before) ≡ decided scene results before)
      ⊎ ((c : ℕ) × (c < scene.setup.controllers) × (decided scene results (e ∷ before) ≡ kept scene results c (e ∷ before)))
  chosen e before =
      elim (longest_among (decided scene results before) (logs_after e before)) [
        | inl same ↦ inl (decided_after e before ∙ same)
        | inr k ↦
            let r = in_map (λ c. kept scene results c (e ∷ before)) (range_with_len 0 scene.setup.controllers) _ k in
            inr (r.0, range_below scene.setup.controllers r.0 r.1, decided_after e before ∙ r.2)
      ]

  decided_by : (entries : List (JournalEntry B)) → IsDecidedBy entries
  decided_by [] = Nobody decided_none
  decided_by (e ∷ before) =
      elim (chosen e before) [
        | inl same ↦ elim (decided_by before) [ Nobody none ↦ Nobody (same ∙ none) | Somebody c i there is ↦ Somebody c (suc i) there (same ∙ is) ]
        | inr new ↦ Somebody new.0 0 new.1 new.2
      ]

  module _ (e : JournalEntry B) (before : List (JournalEntry B)) (legal : IsPossible scene results (e ∷ before)) (trust : (i : ℕ) → HoldsOfRun scene results (drop i before)) where
    with_decided : (c : ℕ) → c < scene.setup.controllers → AreOne (decided scene results before) (kept scene results c (e ∷ before))
    with_decided c there =
        elim (decided_by before) [
          | Nobody none ↦ inl (subst (λ (l : List Entry). IsPrefix l (kept scene results c (e ∷ before))) (sym none) (record { rest = kept scene results c (e ∷ before); joined = refl }))
          | Somebody d i here is ↦ subst (λ (l : List Entry). AreOne l (kept scene results c (e ∷ before))) (sym is) (sides.agree e before legal trust d c (suc i) 0 here there)
        ]

    is_longest : IsLongest (decided scene results before) (logs_after e before) (decided scene results (e ∷ before))
    is_longest =
        subst (λ (l : List Entry). IsLongest (decided scene results before) (logs_after e before) l) (sym (decided_after e before))
        (longest_is (decided scene results before) (logs_after e before)
        (λ l k.
        let r = in_map (λ c. kept scene results c (e ∷ before)) (range_with_len 0 scene.setup.controllers) l k in
        subst (λ (y : List Entry). AreOne (decided scene results before) y) (sym r.2) (with_decided r.0 (range_below scene.setup.controllers r.0 r.1)))
        (λ l m k n.
        let r = in_map (λ c. kept scene results c (e ∷ before)) (range_with_len 0 scene.setup.controllers) l k in
        let q = in_map (λ c. kept scene results c (e ∷ before)) (range_with_len 0 scene.setup.controllers) m n in
        subst (λ (y : List Entry). AreOne y m) (sym r.2) (subst (λ (y : List Entry). AreOne (kept scene results r.0 (e ∷ before)) y) (sym q.2)
        (sides.agree e before legal trust r.0 q.0 0 0 (range_below scene.setup.controllers r.0 r.1) (range_below scene.setup.controllers q.0 q.1)))))

    -- what is decided grows
    pub grows : IsPrefix (decided scene results before) (decided scene results (e ∷ before))
    grows = is_longest.first

    -- and what a controller has committed is decided
    pub front : (c : ℕ) → c < scene.setup.controllers → IsPrefix (kept scene results c (e ∷ before)) (decided scene results (e ∷ before))
    front c there = is_longest.each (kept scene results c (e ∷ before)) (among_mapped (λ d. kept scene results d (e ∷ before)) (range_with_len 0 scene.setup.controllers) c (below_range scene.setup.controllers c there))

  module _ (holds : (entries : List (JournalEntry B)) → IsPossible scene results entries → HoldsOfRun scene results entries) where
    -- so it was after each earlier past
    pub trusted : (e : JournalEntry B) (before : List (JournalEntry B)) → IsPossible scene results (e ∷ before) → (i : ℕ) → HoldsOfRun scene results (drop i before)
    trusted e before legal i = holds (drop i before) (possible_drop scene results i before (possible_before scene results e before legal))

    -- and stays so
    decided_drop : (i : ℕ) (entries : List (JournalEntry B)) → IsPossible scene results entries → IsPrefix (decided scene results (drop i entries)) (decided scene results entries)
    decided_drop zero entries legal = prefix_refl _
    decided_drop (suc i) [] legal = prefix_refl _
    decided_drop (suc i) (e ∷ before) legal = prefix_trans (decided_drop i before (possible_before scene results e before legal)) (grows e before legal (trusted e before legal))

    pub lasts : (entries : List (JournalEntry B)) → IsPossible scene results entries → IsLasting scene results entries
    lasts entries legal i j =
        subst (λ (l : List (JournalEntry B)). IsPrefix (decided scene results l) (decided scene results (drop j entries))) (dropped i j entries) (decided_drop i (drop j entries) (possible_drop scene results j entries legal))
      where
        dropped : {A : Type 0} (i j : ℕ) (xs : List A) → drop i (drop j xs) ≡ drop (i + j) xs
        dropped i j xs = drop-drop i j xs ∙ ap (λ (n : ℕ). drop n xs) (add_comm j i)
