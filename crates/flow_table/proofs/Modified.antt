-- Rows that a MODIFY names get their actions one after the other.
use Rattle.std.proofs.Common.{◌≡◌, ℕ, ◌+◌, ◌-◌, ◌<◌, ◌≤◌, Bool, true, false, List, [], ◌∷◌, ◌++◌, length, map, take, drop, set, get_or, refl, ap, sym, ◌∙◌, subst, arith, replicate}
use Rattle.std.specs.List.{count_by}
use Rattle.std.proofs.lemmas.List.{drop_more, length-take-le, get_or-append_right, replicate-append-replicate, length-map, get_or-drop, get_or_default, length-append, length-drop}
use Rattle.std.proofs.lemmas.List.Edits.{map_over_more}
use Rattle.std.proofs.lemmas.List.Sums.{sum_by-cons}
use Rattle.std.specs.Prelude.{if◌then◌else◌}
use Rattle.of_types.specs.declared.message.FlowMod.{FlowMod}
use Rattle.of_types.specs.declared.message.Row.{Row}
use Rattle.flow_table.specs.Table.{is_named, modified}

-- one more copy
pub one_more : (n : ℕ) (actions : List ℕ) → replicate n actions ++ actions ∷ [] ≡ replicate (n + 1) actions
one_more n actions = replicate-append-replicate n 1 actions

-- what is counted of a list is counted of its first and of the others
pub count_first : {A : Type 0} (p : A → Bool) (x : A) (xs : List A) → count_by p (x ∷ xs) ≡ count_by p (x ∷ []) + count_by p xs
count_first {A} p x xs = omega (arith, sum_by-cons (λ (y : A). if p y then 1 else 0) x xs)

-- a row of a table whose first rows were written is still the one that it was
row_as_before : (f : Row → Row) (old rows : List Row) (i : ℕ) (d : Row) → i < length old → rows ≡ map f (take i old) ++ drop i old → get_or rows i d ≡ get_or old i d
row_as_before f old rows i d lt e =
    let len : length (map f (take i old)) ≡ i = length-map (take i old) f ∙ length-take-le i old (omega (arith, lt)) in
    let here : get_or (map f (take i old) ++ drop i old) i d ≡ get_or (drop i old) (i - i) d = get_or-append_right (map f (take i old)) (drop i old) i i d len (omega arith) in
    ap (λ (xs : List Row). get_or xs i d) e ∙ here ∙ get_or-drop i old (i - i) d ∙ ap (λ (n : ℕ). get_or old n d) (omega arith)

-- a turn writes the next row, and takes a copy where it is named
pub row_written : (change : FlowMod) (old rows : List Row) (copies left : List (List ℕ)) (i : ℕ) (d new : Row)
    → i < length old
    → length rows ≡ length old
    → rows ≡ map (modified change) (take i old) ++ drop i old
    → copies ≡ replicate (count_by (is_named change) (drop i old)) change.actions
    → ((n : ℕ) → copies ≡ replicate (count_by (is_named change) (get_or rows i d ∷ []) + n) change.actions → (new ≡ modified change (get_or rows i d)) × (left ≡ replicate n change.actions))
    → (set rows i new ≡ map (modified change) (take (i + 1) old) ++ drop (i + 1) old) × (left ≡ replicate (count_by (is_named change) (drop (i + 1) old)) change.actions)
row_written change old rows copies left i d new lt long so_far enough wrote =
    let row = get_or rows i d in
    let same = row_as_before (modified change) old rows i d lt so_far in
    let split : drop i old ≡ row ∷ drop (i + 1) old = subst (λ (r : Row). drop i old ≡ r ∷ drop (i + 1) old) (sym same) (drop_more old i d lt) in
    let counted = ap (count_by (is_named change)) split ∙ count_first (is_named change) row (drop (i + 1) old) in
    let turn = wrote (count_by (is_named change) (drop (i + 1) old)) (enough ∙ ap (λ (n : ℕ). replicate n change.actions) counted) in
    (rw turn.0 (map_over_more (modified change) old rows i row lt so_far (get_or_default rows i d row (omega (arith, lt, long)))), turn.1)
