-- The search for a view, and who suspects it.
use Rattle.std.proofs.Common.{◌≡◌, ℕ, ◌+◌, Bool, true, false, not, List, suc, refl, ◌∙◌, ap, arith}
use Rattle.std.specs.Prelude.{nat_eq, ◌%◌, ◌||◌, filter, take}
use Rattle.std.specs.List.{list_any}
use Rattle.run_spec.specs.Closing.{first_view, quorum_of}

-- a number is among these
abbrev pub has : List ℕ → ℕ → Bool
has numbers number = list_any (λ m. nat_eq m number) numbers

-- the search for a view, one after another
pub look_found : (n k group view : ℕ) (up : List ℕ) → n ≡ suc k → has up (view % group) ≡ true → first_view n group up view ≡ view
look_found n k group view up is found = rw is (rw found refl)

pub look_on : (n k group view : ℕ) (up : List ℕ) → n ≡ suc k → has up (view % group) ≡ false → first_view n group up view ≡ first_view k group up (view + 1)
look_on n k group view up is found = rw is (rw found (ap (λ v. first_view k group up v) (plus view)))
  where
    plus : (v : ℕ) → suc v ≡ v + 1
    plus v = omega arith

-- the code chooses by two lists
pub quorum_is : (primary others : ℕ) (up first second chosen kept members : List ℕ) → first ≡ up → second ≡ up → kept ≡ filter (λ o. not (nat_eq o primary)) first →
    chosen ≡ take others kept → members ≡ filter (λ d. nat_eq d primary || has chosen d) second → members ≡ quorum_of primary others up
quorum_is primary others up first second chosen kept members first_is second_is kept_is chosen_is members_are =
    members_are ∙ ap (λ l. filter (λ d. nat_eq d primary || has chosen d) l) second_is ∙
    ap (λ k. filter (λ d. nat_eq d primary || has k d) up) (chosen_is ∙ ap (λ k. take others k) (kept_is ∙ ap (λ l. filter (λ o. not (nat_eq o primary)) l) first_is))
