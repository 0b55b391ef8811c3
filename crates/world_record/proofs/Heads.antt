-- Turns counted without letters.
use Rattle.std.proofs.Common.{◌≡◌, ℕ, ◌+◌, zero, suc, Bool, List, [], ◌∷◌, map, drop, cond, refl, ◌∙◌, ap, sym}
use Rattle.std.proofs.lemmas.List.Sums.{sum_by-cons}
use Rattle.journal.specs.declared.entries.Head.{Head}
use Rattle.journal.specs.declared.journal.JournalEntry.{JournalEntry}
use Rattle.journal.specs.declared.journal.JournalEntry.TheVariants.{Post, Draw, Lose, Local, Idle, Refused}
use Rattle.journal.specs.Entries.{head_of}
use Rattle.run_spec.specs.Closing.{count_turns, is_turn}
use Rattle.world_record.specs.Shows.{head_turns, is_turn_head}

same_turn : {B : Type 0} (e : JournalEntry B) → is_turn_head (head_of e) ≡ is_turn e
same_turn (Post actor first letters lost) = refl
same_turn (Draw actor id keep) = refl
same_turn (Lose actor id) = refl
same_turn (Local actor input) = refl
same_turn (Idle actor) = refl
same_turn (Refused actor) = refl

all_heads : {B : Type 0} (entries : List (JournalEntry B)) → head_turns (map head_of entries) ≡ count_turns entries
all_heads [] = refl
all_heads {B = B} (e ∷ entries) =
    sum_by-cons (λ (h : Head). cond (is_turn_head h) 1 0) (head_of e) (map head_of entries)
    ∙ ap (λ (n : ℕ). cond (is_turn_head (head_of e)) 1 0 + n) (all_heads entries)
    ∙ ap (λ (b : Bool). cond b 1 0 + count_turns entries) (same_turn e)
    ∙ sym (sum_by-cons (λ (x : JournalEntry B). cond (is_turn x) 1 0) e entries)

-- the turns behind a script
pub turns_of_heads : {B : Type 0} (script : ℕ) (entries : List (JournalEntry B)) → head_turns (drop script (map head_of entries)) ≡ count_turns (drop script entries)
turns_of_heads zero entries = all_heads entries
turns_of_heads (suc script) [] = refl
turns_of_heads (suc script) (e ∷ entries) = turns_of_heads script entries
