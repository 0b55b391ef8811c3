-- The rows that drop what a rule denies, switch by switch.
use Rattle.std.proofs.Common.{◌≡◌, ◌≤◌, ◌+◌, ◌++◌, ℕ, Bool, true, false, List, [], ◌∷◌, Option, Some, None, length, map, ap, sym, ◌∙◌, append_assoc, arith, length-append}
use Rattle.std.specs.Prelude.{if◌then◌else◌}
use Rattle.std.specs.List.{range_with_len}
use Rattle.std.proofs.lemmas.List.FromFn.{map-range_with_len_more, length-map-range_with_len}
use Rattle.of_types.specs.declared.message.Command.{Command}
use Rattle.of_types.specs.declared.setup.Rule.{Rule}
use Rattle.app_core.specs.Firewall.{dropping_row, dropping_rows}

-- one switch more
pub rows_more : (rule : Rule) (before out now : List Command) (row : Command) (switch : ℕ) → out ≡ before ++ map (dropping_row rule) (range_with_len 0 switch) →
    row ≡ dropping_row rule switch → now ≡ out ++ row ∷ [] → now ≡ before ++ map (dropping_row rule) (range_with_len 0 (switch + 1))
rows_more rule before out now row switch so_far is more =
    more ∙ (ap (λ l. l ++ row ∷ []) so_far
    ∙ (append_assoc before (map (dropping_row rule) (range_with_len 0 switch)) (row ∷ [])
    ∙ ap (λ l. before ++ l) (ap (λ (r : Command). map (dropping_row rule) (range_with_len 0 switch) ++ r ∷ []) is ∙ sym (map-range_with_len_more (dropping_row rule) 0 switch switch (omega arith)))))

rows_few : (switches : ℕ) (rule : Option Rule) → length (dropping_rows switches rule) ≤ switches
rows_few switches None = omega arith
rows_few switches (Some rule) = omega (arith, length-map-range_with_len (dropping_row rule) 0 switches)

asked_few : (b : Bool) (switches : ℕ) (rule : Option Rule) → length (if b then [] else dropping_rows switches rule) ≤ switches
asked_few true switches rule = omega arith
asked_few false switches rule = rows_few switches rule

-- no more rows than switches
pub few_more : (b : Bool) (switches : ℕ) (rule : Option Rule) (before after : List Command) → after ≡ before ++ (if b then [] else dropping_rows switches rule) →
    length after ≤ length before + switches
few_more b switches rule before after asks =
    omega (arith, ap (λ l. length l) asks, length-append before (if b then [] else dropping_rows switches rule), asked_few b switches rule)
