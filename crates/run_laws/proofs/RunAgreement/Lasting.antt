-- What is decided after a past is nothing, or what some controller had committed at some time; so it lasts.
use Rattle.std.proofs.Common.{◌≡◌, ℕ, zero, suc, ◌+◌, ◌*◌, ◌<◌, ◌≤◌, ◌⊎◌, inl, inr, nat_lt, List, [], ◌∷◌, length, drop, map, refl, sym, ap, ◌∙◌, subst, subst₂, arith}
use Rattle.std.specs.List.{range_with_len}
use Rattle.std.proofs.lemmas.Bool.{cond_both, ltb-true}
use Rattle.journal.specs.declared.journal.JournalEntry.{JournalEntry}
use Rattle.journal.specs.declared.journal.SaveResult.{SaveResult}
use Rattle.list_facts.proofs.Prefixes.{prefix_equal, prefix_nil, prefix_refl, prefix_trans}
use Rattle.list_facts.specs.Lists.{IsIn, IsPrefix}
use Rattle.vr_log.specs.declared.entry.Entry.{Entry}
use Rattle.run_spec.specs.States.{Scene}
use Rattle.run_spec.specs.Committed.{kept, longest, decided}
use Rattle.run_laws.specs.RunAgreement.Laws.{DecidedLasts}
use Rattle.run_laws.proofs.RunAgreement.Agreeing.{drops, kept_agree}
use Rattle.run_laws.proofs.RunAgreement.Reading.{IsReadPast, read_drop, read_past}

-- the longest is the first, or among the others, and none is longer than it
longest_in : (best : List Entry) (logs : List (List Entry)) → (longest best logs ≡ best) ⊎ IsIn (longest best logs) logs
longest_in best [] = inl refl
longest_in best (log ∷ logs) = cond_both (nat_lt (length best) (length log)) log best (λ (z : List Entry). (longest z logs ≡ best) ⊎ IsIn (longest z logs) (log ∷ logs))
    (λ e. elim (longest_in log logs) [ inl q ↦ inr (inl q) | inr q ↦ inr (inr q) ])
    (λ e. elim (longest_in best logs) [ inl q ↦ inl q | inr q ↦ inr (inr q) ])

longest_long : (best : List Entry) (logs : List (List Entry)) → length best ≤ length (longest best logs)
longest_long best [] = omega arith
longest_long best (log ∷ logs) = cond_both (nat_lt (length best) (length log)) log best (λ (z : List Entry). length best ≤ length (longest z logs))
    (λ e. let l = ltb-true (length best) (length log) e in let m = longest_long log logs in omega arith)
    (λ e. longest_long best logs)

in_range : (f : ℕ → List Entry) (a n : ℕ) (x : List Entry) → IsIn x (map f (range_with_len a n)) → (c : ℕ) × (c < a + n) × (x ≡ f c)
in_range f a zero x i = absurd i
in_range f a (suc n) x i = elim i [
  | inl e ↦ (a, omega arith, e)
  | inr j ↦ let z = in_range f (a + 1) n x j in let l = z.1 in (z.0, omega arith, z.2)
]

-- of two lists that begin one another the longer one is begun
longer_begun : (xs ys : List Entry) → length xs ≤ length ys → IsPrefix xs ys ⊎ IsPrefix ys xs → IsPrefix xs ys
longer_begun xs ys l (inl p) = p
longer_begun xs ys l (inr p) = subst (λ (z : List Entry). IsPrefix xs z) (sym (prefix_equal p l)) (prefix_refl xs)

module _ {B : Type 0} (scene : Scene B) (results : List (List SaveResult)) where
  -- nothing, or what a controller had committed at some time of a past
  abbrev pub WasKept : List (JournalEntry B) → List Entry → Type 0
  WasKept past xs = (xs ≡ []) ⊎ ((i : ℕ) × (c : ℕ) × (c < scene.setup.controllers) × (xs ≡ kept scene results c (drop i past)))

  kept_more : (e : JournalEntry B) (before : List (JournalEntry B)) (xs : List Entry) → WasKept before xs → WasKept (e ∷ before) xs
  kept_more e before xs (inl z) = inl z
  kept_more e before xs (inr z) = inr (suc z.0, z.1, z.2, z.3)

  pub decided_kept : (past : List (JournalEntry B)) → WasKept past (decided scene results past)
  unfolding decided
  decided_kept [] = inl refl
  decided_kept (e ∷ before) = elim (longest_in (decided scene results before) (map (λ c. kept scene results c (e ∷ before)) (range_with_len 0 scene.setup.controllers))) [
    | inl q ↦ subst (λ (z : List Entry). WasKept (e ∷ before) z) (sym q) (kept_more e before (decided scene results before) (decided_kept before))
    | inr q ↦ let z = in_range (λ c. kept scene results c (e ∷ before)) 0 scene.setup.controllers _ q in let l = z.1 in inr (0, z.0, omega arith, z.2)
  ]

  decided_long : (e : JournalEntry B) (before : List (JournalEntry B)) → length (decided scene results before) ≤ length (decided scene results (e ∷ before))
  unfolding decided
  decided_long e before = longest_long (decided scene results before) (map (λ c. kept scene results c (e ∷ before)) (range_with_len 0 scene.setup.controllers))

  module _ (most_failures : ℕ) (n : scene.setup.controllers ≡ 2 * most_failures + 1) where
    were_kept_agree : (past : List (JournalEntry B)) → IsReadPast scene results past → (xs ys : List Entry) → WasKept past xs → WasKept past ys → IsPrefix xs ys ⊎ IsPrefix ys xs
    were_kept_agree past k xs ys (inl e) y = inl (subst (λ (z : List Entry). IsPrefix z ys) (sym e) (prefix_nil ys))
    were_kept_agree past k xs ys (inr x) (inl e) = inr (subst (λ (z : List Entry). IsPrefix z xs) (sym e) (prefix_nil xs))
    were_kept_agree past k xs ys (inr x) (inr y) = subst₂ (λ p q. IsPrefix p q ⊎ IsPrefix q p) (sym x.3) (sym y.3) (kept_agree scene results most_failures n past k x.1 y.1 x.0 y.0 x.2 y.2)

    decided_step : (past : List (JournalEntry B)) → IsReadPast scene results past → IsPrefix (decided scene results (drop 1 past)) (decided scene results past)
    decided_step [] k = prefix_refl (decided scene results [])
    decided_step (e ∷ before) k = longer_begun (decided scene results before) (decided scene results (e ∷ before)) (decided_long e before)
        (were_kept_agree (e ∷ before) k (decided scene results before) (decided scene results (e ∷ before)) (kept_more e before (decided scene results before) (decided_kept before)) (decided_kept (e ∷ before)))

    lasts : (past : List (JournalEntry B)) → IsReadPast scene results past → (i j : ℕ) → IsPrefix (decided scene results (drop (i + j) past)) (decided scene results (drop j past))
    lasts past k zero j = subst (λ (m : ℕ). IsPrefix (decided scene results (drop m past)) (decided scene results (drop j past))) (omega arith) (prefix_refl (decided scene results (drop j past)))
    lasts past k (suc i) j =
        let there : List (JournalEntry B) = drop (i + j) past in
        let back : drop 1 there ≡ drop (suc i + j) past = drops 1 (i + j) past ∙ ap (λ (m : ℕ). drop m past) (omega arith) in
        prefix_trans (subst (λ (es : List (JournalEntry B)). IsPrefix (decided scene results es) (decided scene results there)) back (decided_step there (read_drop scene results (i + j) past k))) (lasts past k i j)

pub lasting_law : {B : Type 0} → DecidedLasts B
lasting_law scene results most_failures past n read legal i j = lasts scene results most_failures n past (read_past scene results past legal read) i j
