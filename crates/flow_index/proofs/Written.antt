-- Rows of a map that a MODIFY names get their actions one after the other.
use Rattle.std.proofs.Common.{◌≡◌, ℕ, ◌+◌, Bool, true, List, [], ◌∷◌, map, refl, ◌∙◌, ap, replicate}
use Rattle.std.specs.List.{count_by}
use Rattle.std.specs.Map.{values_of}
use Rattle.std.specs.Map.Calls.{RetainsPairs}
use Rattle.of_types.specs.declared.message.FlowMod.{FlowMod}
use Rattle.of_types.specs.declared.message.Row.{Row}
use Rattle.flow_table.specs.Table.{is_named, modified}
use Rattle.flow_table.proofs.Modified.{count_first}

-- what a call does with a row: it stays, and gets the last of the copies where it is named
abbrev pub Writes : {F K : Type 0} → (F → K → Row → Bool → Row → F → Type 0) → (F → Type 0) → (F → List (List ℕ)) → FlowMod → Type 0
Writes {F} {K} T I copies change =
    (f : F) (k : K) (v : Row) (b : Bool) (w : Row) (f' : F) → I f → T f k v b w f'
    → (b ≡ true) × I f' × ((left : ℕ) → copies f ≡ replicate (count_by (is_named change) (v ∷ []) + left) change.actions → (w ≡ modified change v) × (copies f' ≡ replicate left change.actions))

pub written_pairs : {F K : Type 0} (T : F → K → Row → Bool → Row → F → Type 0) (I : F → Type 0) (copies : F → List (List ℕ)) (change : FlowMod) → Writes T I copies change
    → (f : F) (es kept : List (K × Row)) → I f → RetainsPairs T f es kept → copies f ≡ replicate (count_by (is_named change) (values_of es)) change.actions → kept ≡ map (λ e. (e.0, modified change e.1)) es
written_pairs T I copies change writes f [] kept i run enough = run
written_pairs T I copies change writes f (e ∷ es) kept i run enough =
    let b = run.0 in
    let w = run.1 in
    let f' = run.2 in
    let rest = run.3 in
    let turn = writes f e.0 e.1 b w f' i run.4 in
    let wrote = turn.2 (count_by (is_named change) (values_of es)) (enough ∙ ap (λ (n : ℕ). replicate n change.actions) (count_first (is_named change) e.1 (values_of es))) in
    let others = written_pairs T I copies change writes f' es rest turn.1 run.5 wrote.1 in
    run.6 ∙ rw (turn.0, wrote.0, others) refl
