-- What was decided stays so.
use Rattle.std.proofs.Common.{◌≡◌, ℕ, zero, suc, ◌<◌, ◌≤◌, ◌⊎◌, inl, inr, cond, ltb, List, [], ◌∷◌, ◌++◌, length, refl, sym, ap, ◌∙◌, subst, arith, append_assoc}
use Rattle.std.proofs.lemmas.Bool.{cases_eq, cond_both, ltb-true, ltb-false}
use Rattle.list_facts.proofs.Elements.{in_append, in_left, in_right}
use Rattle.list_facts.proofs.Prefixes.{prefix_equal, prefix_nil, prefix_refl, prefix_trans}
use Rattle.list_facts.specs.Lists.{IsIn, IsPrefix}
use Rattle.agreement.specs.History.{Group, size}
use Rattle.agreement.specs.Journals.{Rules, Entry, IsAllowed, Follows, kept_log}
use Rattle.agreement.specs.Decided.{longest_log, shown_below, decided_log, DecisionsLast}
use Rattle.agreement.proofs.Agreeing.{legal_past, journals_law}

abbrev longer : {E : Type 0} → List E → List E → List E
longer best xs = cond (ltb (length best) (length xs)) xs best

longer_is : {E : Type 0} (best xs : List E) → (longer best xs ≡ best) ⊎ ((longer best xs ≡ xs) × (length best < length xs))
longer_is {E = E} best xs = cond_both (ltb (length best) (length xs)) xs best (λ (b : List E). (b ≡ best) ⊎ ((b ≡ xs) × (length best < length xs)))
    (λ e. inr (refl, ltb-true (length best) (length xs) e)) (λ e. inl refl)

longer_most : {E : Type 0} (best xs : List E) → (length best ≤ length (longer best xs)) × (length xs ≤ length (longer best xs))
longer_most {E = E} best xs = cond_both (ltb (length best) (length xs)) xs best (λ (b : List E). (length best ≤ length b) × (length xs ≤ length b))
    (λ e. let l = ltb-true (length best) (length xs) e in (omega arith, omega arith)) (λ e. let l = ltb-false (length best) (length xs) e in (omega arith, omega arith))

-- the longest of some lists is the first or a longer one, and none is longer
longest_is : {E : Type 0} (best : List E) (rest : List (List E)) → (longest_log best rest ≡ best) ⊎ (IsIn (longest_log best rest) rest × (length best < length (longest_log best rest)))
longest_is best [] = inl refl
longest_is best (xs ∷ rest) =
    let b = longer best xs in
    elim (longer_is best xs) [
      | inl e ↦ elim (longest_is b rest) [
        | inl z ↦ inl (z ∙ e)
        | inr z ↦ let n = ap length e in inr (inr z.0, omega (arith, z.1))
      ]
      | inr e ↦ elim (longest_is b rest) [
        | inl z ↦ let n = ap length (z ∙ e.0) in inr (inl (z ∙ e.0), omega (arith, e.1))
        | inr z ↦ let n = ap length e.0 in inr (inr z.0, omega (arith, z.1, e.1))
      ]
    ]

longest_most : {E : Type 0} (best : List E) (rest : List (List E)) → (length best ≤ length (longest_log best rest)) × ((xs : List E) → IsIn xs rest → length xs ≤ length (longest_log best rest))
longest_most best [] = (omega arith, (λ xs i. absurd i))
longest_most best (x ∷ rest) =
    let m = longer_most best x in
    let r = longest_most (longer best x) rest in
    (omega (arith, m.0, r.0), (λ xs i. elim i [ inl e ↦ let n = ap length e in omega (arith, m.1, r.0) | inr j ↦ r.1 xs j ]))

shown_is : {Own A E : Type 0} (r : Rules Own A E) (n : ℕ) (past : List (Entry Own E)) (xs : List E) → IsIn xs (shown_below r n past) → (c : ℕ) × (c < n) × (xs ≡ kept_log r c past)
shown_is r zero past xs i = absurd i
shown_is r (suc n) past xs i = elim (in_append xs (shown_below r n past) (kept_log r n past ∷ []) i) [
  | inl j ↦ let x = shown_is r n past xs j in (x.0, omega (arith, x.1), x.2)
  | inr j ↦ elim j [ inl e ↦ (n, omega arith, e) | inr k ↦ absurd k ]
]

shown_at : {Own A E : Type 0} (r : Rules Own A E) (n c : ℕ) (past : List (Entry Own E)) → c < n → IsIn (kept_log r c past) (shown_below r n past)
shown_at r zero c past l = absurd (omega arith)
shown_at {E = E} r (suc n) c past l = elim (cases_eq c n) [
  | inl e ↦ in_right (kept_log r c past) (shown_below r n past) (kept_log r n past ∷ []) (inl (ap (λ (j : ℕ). kept_log r j past) e))
  | inr ne ↦ in_left (kept_log r c past) (shown_below r n past) (kept_log r n past ∷ []) (shown_at r n c past (omega arith))
]

-- of two lists one begins the other, and the second is as long: the first begins the second
begins_longer : {E : Type 0} (xs ys : List E) → IsPrefix xs ys ⊎ IsPrefix ys xs → length xs ≤ length ys → IsPrefix xs ys
begins_longer {E = E} xs ys p l = elim p [
  | inl q ↦ q
  | inr q ↦ subst (λ (z : List E). IsPrefix z ys) (prefix_equal q l) (prefix_refl ys)
]

module _ {Own A E : Type 0} {r : Rules Own A E} {g : Group E} (f : Follows r g) where
  -- what is decided was shown at some time
  pub decided_is : (past : List (Entry Own E)) → (decided_log r g past ≡ []) ⊎ ((more before : List (Entry Own E)) × (c : ℕ) × (past ≡ more ++ before) × (c < size g) × (decided_log r g past ≡ kept_log r c before))
  unfolding decided_log
  decided_is [] = inl refl
  decided_is (e ∷ past) = elim (longest_is (decided_log r g past) (shown_below r (size g) (e ∷ past))) [
    | inr z ↦ let x = shown_is r (size g) (e ∷ past) (longest_log (decided_log r g past) (shown_below r (size g) (e ∷ past))) z.0 in inr ([], e ∷ past, x.0, refl, x.1, x.2)
    | inl z ↦ elim (decided_is past) [
      | inl n ↦ inl (z ∙ n)
      | inr x ↦ inr (e ∷ x.0, x.1, x.2, ap (λ (l : List (Entry Own E)). e ∷ l) x.3, x.4, z ∙ x.5)
    ]
  ]

  -- what is decided agrees with what is shown now
  decided_agrees : (more past : List (Entry Own E)) → IsAllowed r g (more ++ past) → (c : ℕ) → c < size g → IsPrefix (decided_log r g past) (kept_log r c (more ++ past)) ⊎ IsPrefix (kept_log r c (more ++ past)) (decided_log r g past)
  decided_agrees more past k c b = elim (decided_is past) [
    | inl n ↦ inl (subst (λ (l : List E). IsPrefix l (kept_log r c (more ++ past))) (sym n) (prefix_nil (kept_log r c (more ++ past))))
    | inr x ↦
        let whole : more ++ past ≡ (more ++ x.0) ++ x.1 = ap (λ (l : List (Entry Own E)). more ++ l) x.3 ∙ sym (append_assoc more x.0 x.1) in
        let a = journals_law r g (more ++ x.0) x.1 x.2 c f (subst (λ (l : List (Entry Own E)). IsAllowed r g l) whole k) x.4 b in
        subst (λ (l : List E). IsPrefix l (kept_log r c (more ++ past)) ⊎ IsPrefix (kept_log r c (more ++ past)) l) (sym x.5)
        (subst (λ (l : List (Entry Own E)). IsPrefix (kept_log r x.2 x.1) (kept_log r c l) ⊎ IsPrefix (kept_log r c l) (kept_log r x.2 x.1)) (sym whole) a)
  ]

  decided_one : (e : Entry Own E) (past : List (Entry Own E)) → IsAllowed r g (e ∷ past) → IsPrefix (decided_log r g past) (decided_log r g (e ∷ past))
  unfolding decided_log
  decided_one e past k = elim (longest_is (decided_log r g past) (shown_below r (size g) (e ∷ past))) [
    | inl z ↦ subst (λ (l : List E). IsPrefix (decided_log r g past) l) (sym z) (prefix_refl (decided_log r g past))
    | inr z ↦
        let all : List E = longest_log (decided_log r g past) (shown_below r (size g) (e ∷ past)) in
        let x = shown_is r (size g) (e ∷ past) all z.0 in
        let a = decided_agrees (e ∷ []) past k x.0 x.1 in
        begins_longer (decided_log r g past) all (subst (λ (l : List E). IsPrefix (decided_log r g past) l ⊎ IsPrefix l (decided_log r g past)) (sym x.2) a) (omega (arith, z.1))
  ]

  decided_more : (more past : List (Entry Own E)) → IsAllowed r g (more ++ past) → IsPrefix (decided_log r g past) (decided_log r g (more ++ past))
  decided_more [] past k = prefix_refl (decided_log r g past)
  decided_more (e ∷ more) past k = prefix_trans (decided_more more past k.1) (decided_one e (more ++ past) k)

  decided_holds : (past : List (Entry Own E)) → IsAllowed r g past → (c : ℕ) (e : Entry Own E) (before : List (Entry Own E)) → c < size g → past ≡ e ∷ before → IsPrefix (kept_log r c past) (decided_log r g past)
  unfolding decided_log
  decided_holds past k c e before b is =
      let m = (longest_most (decided_log r g before) (shown_below r (size g) (e ∷ before))).1 (kept_log r c (e ∷ before)) (shown_at r (size g) c (e ∷ before) b) in
      let long : length (kept_log r c past) ≤ length (decided_log r g past) = subst (λ (l : List (Entry Own E)). length (kept_log r c l) ≤ length (decided_log r g l)) (sym is) m in
      begins_longer (kept_log r c past) (decided_log r g past) (elim (decided_agrees [] past k c b) [ inl p ↦ inr p | inr p ↦ inl p ]) long

pub lasting_law : {Own A E : Type 0} → DecisionsLast Own A E
lasting_law r g more past f k = record { stays = decided_more f more past k; holds = decided_holds f past (legal_past r g more past k) }
