-- How many controllers take part, counted one after another.
use Rattle.std.proofs.Common.{◌≡◌, ◌<◌, ℕ, Bool, true, false, List, ◌∷◌, length, map, take, refl, sym, ◌∙◌, ap, arith, ◌+◌}
use Rattle.std.specs.Prelude.{count_by, get_or, if◌then◌else◌}
use Rattle.std.proofs.lemmas.List.Recursion.{is_count_by}
use Rattle.std.proofs.lemmas.List.Sums.{count_by_more_no, count_by_more_yes}
use Rattle.vr_log.specs.Members.{is_up}
use Rattle.group_controller.specs.Turns.{Controlling, state_of}
use Rattle.run_spec.specs.Committed.{members_up}

abbrev pub takes : {A : Type 0} → Controlling A → Bool
takes c = is_up (state_of c).vr

-- one more
pub one_more_yes : {A : Type 0} (cs : List (Controlling A)) (i : ℕ) (c : Controlling A) (up now : ℕ) → up ≡ count_by takes (take i cs) → i < length cs → c ≡ get_or cs i c → takes c ≡ true → now ≡ up + 1 →
    now ≡ count_by takes (take (i + 1) cs)
one_more_yes cs i c up now counted within is there now_is = now_is ∙ ap (λ n. n + 1) counted ∙ sym (count_by_more_yes takes cs i c within (ap takes (sym is) ∙ there))

pub one_more_no : {A : Type 0} (cs : List (Controlling A)) (i : ℕ) (c : Controlling A) (up now : ℕ) → up ≡ count_by takes (take i cs) → i < length cs → c ≡ get_or cs i c → takes c ≡ false → now ≡ up →
    now ≡ count_by takes (take (i + 1) cs)
one_more_no cs i c up now counted within is off now_is = now_is ∙ counted ∙ sym (count_by_more_no takes cs i c within (ap takes (sym is) ∙ off))

member_one : {A : Type 0} (c : Controlling A) (cs : List (Controlling A)) (b : Bool) → takes c ≡ b →
    length (members_up (map (λ c. state_of c) (c ∷ cs))) ≡ (if takes c then 1 + length (members_up (map (λ c. state_of c) cs)) else length (members_up (map (λ c. state_of c) cs)))
member_one c cs true is = rw is (omega arith)
member_one c cs false is = rw is refl

-- all of them
pub members_counted : {A : Type 0} (cs : List (Controlling A)) → length (members_up (map (λ c. state_of c) cs)) ≡ count_by takes cs
members_counted cs = is_count_by (λ cs. length (members_up (map (λ c. state_of c) cs))) takes refl (λ c cs. member_one c cs (takes c) refl) cs
