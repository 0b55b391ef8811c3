-- In a log the events are processed in their order, so how many are tells which.
use Rattle.std.proofs.Common.{◌≡◌, ℕ, ◌+◌, ◌<◌, ◌≤◌, Bool, true, false, not, ◌&&◌, ◌||◌, List, [], ◌∷◌, ◌++◌, length, Some, None, refl, sym, ap, ◌∙◌, arith, cond}
use Rattle.std.specs.Prelude.{nat_eq, nat_le, nat_lt, if◌then◌else◌}
use Rattle.std.specs.List.{list_any}
use Rattle.std.proofs.lemmas.Bool.{and_parts}
use Rattle.std.proofs.lemmas.Bool.Decides.{nat_tests}
use Rattle.std.proofs.lemmas.List.Sums.{sum_by-append, sum_by-cons}
use Rattle.vr_log.specs.declared.entry.Entry.{Entry}
use Rattle.vr_log.specs.declared.entry.Entry.TheVariants.{Received, Processed}
use Rattle.vr_log.specs.Log.{received, processed, is_processed, is_past_limits, may_follow, fits, follows, is_log}
use Rattle.two_stage_log.specs.Counts.{first_unprocessed, tells_processed, AllProcessed}

one_more : (before : List Entry) (entry : Entry) → processed (before ++ entry ∷ []) ≡ processed before + cond (is_processed entry) 1 0
one_more before (Received event) = sum_by-append (λ (e : Entry). cond (is_processed e) 1 0) before (Received event ∷ [])
one_more before (Processed i) = sum_by-append (λ (e : Entry). cond (is_processed e) 1 0) before (Processed i ∷ [])

between_none : (p j : ℕ) → false ≡ (nat_le p j && nat_lt j (p + 0))
between_none p j = grind (arith, nat_tests)

between_one : (p q j i : ℕ) → i ≡ p → (nat_eq i j || (nat_le (p + 1) j && nat_lt j ((p + 1) + q))) ≡ (nat_le p j && nat_lt j (p + (1 + q)))
between_one p q j i e = grind (arith, nat_tests)

same_number : (a b : ℕ) → nat_eq a b ≡ true → a ≡ b
same_number a b e = grind (arith, nat_tests)

placed : (before : List Entry) (i : ℕ) → fits before (Processed i) ≡ true → i ≡ processed before
placed before i h =
    let p = and_parts (not (is_past_limits before (Processed i))) (may_follow before (Processed i)) h in
    let q = and_parts (nat_eq i (processed before)) (nat_lt i (length (received before))) p.1 in
    same_number i (processed before) q.0

-- behind a log those from its count on are processed, one by one
pub tells_between : (before entries : List Entry) (j : ℕ) → follows before entries ≡ true
    → list_any (λ entry. tells_processed j entry) entries ≡ (nat_le (processed before) j && nat_lt j (processed before + processed entries))
tells_between before [] j h = between_none (processed before) j
tells_between before (Received event ∷ entries) j h =
    let entry = Received event in
    let p = and_parts (fits before entry) (follows (before ++ entry ∷ []) entries) h in
    let next = tells_between (before ++ entry ∷ []) entries j p.1 in
    let same : processed (before ++ entry ∷ []) ≡ processed before = one_more before entry ∙ omega arith in
    next ∙ rw (same, sum_by-cons (λ (e : Entry). cond (is_processed e) 1 0) entry entries) refl
tells_between before (Processed i ∷ entries) j h =
    let entry = Processed i in
    let p = and_parts (fits before entry) (follows (before ++ entry ∷ []) entries) h in
    let next = tells_between (before ++ entry ∷ []) entries j p.1 in
    let here : i ≡ processed before = placed before i p.0 in
    ap (λ (b : Bool). nat_eq i j || b) next
    ∙ rw (one_more before entry, sum_by-cons (λ (e : Entry). cond (is_processed e) 1 0) entry entries) (between_one (processed before) (processed entries) j i here)

tells : (log : List Entry) (j : ℕ) → is_log log ≡ true → list_any (λ entry. tells_processed j entry) log ≡ nat_lt j (processed log)
tells log j h = tells_between [] log j h ∙ below j (processed log)
  where
    below : (j n : ℕ) → (nat_le 0 j && nat_lt j (0 + n)) ≡ nat_lt j n
    below j n = grind (arith, nat_tests)

below_is : (j n : ℕ) → j < n → nat_lt j n ≡ true
below_is j n lt = grind (arith, nat_tests)

no_more : (a n : ℕ) → nat_lt a n ≡ false → n ≤ a
no_more a n e = grind (arith, nat_tests)

not_below : (a : ℕ) → nat_lt a a ≡ true → ⊥
not_below a e = grind (arith, nat_tests)

above : (a n : ℕ) → nat_lt a n ≡ true → a < n
above a n e = grind (arith, nat_tests)

pub none_is : (log : List Entry) → is_log log ≡ true → first_unprocessed log ≡ None → AllProcessed log
none_is log h none j lt = chosen (nat_lt (processed log) (length (received log))) refl none
  where
    chosen : (b : Bool) → nat_lt (processed log) (length (received log)) ≡ b → (if b then Some (processed log) else None) ≡ None → list_any (λ entry. tells_processed j entry) log ≡ true
    chosen true e none = absurd cc
    chosen false e none = let le = no_more (processed log) (length (received log)) e in tells log j h ∙ below_is j (processed log) (omega arith)

pub is_none : (log : List Entry) → is_log log ≡ true → AllProcessed log → first_unprocessed log ≡ None
is_none log h all = chosen (nat_lt (processed log) (length (received log))) refl
  where
    chosen : (b : Bool) → nat_lt (processed log) (length (received log)) ≡ b → (if b then Some (processed log) else None) ≡ None
    chosen true e = absurd (not_below (processed log) (sym (tells log (processed log) h) ∙ all (processed log) (above (processed log) (length (received log)) e)))
    chosen false e = refl
