-- Groups are odd.
use Rattle.std.proofs.Common.{◌≡◌, ℕ, zero, suc, ◌+◌, ◌*◌, ◌<◌, [], ◌∷◌, arith}
use Rattle.std.specs.Prelude.{slice_index_or}
use Rattle.run_laws.specs.RunAgreement.Laws.{SetupsAreOdd}

odd_of : (n k : ℕ) → k < 4 → slice_index_or (1 ∷ 3 ∷ 5 ∷ 7 ∷ []) k n ≡ n → (most_failures : ℕ) × (n ≡ 2 * most_failures + 1)
odd_of n zero l e = (0, omega arith)
odd_of n (suc zero) l e = (1, omega arith)
odd_of n (suc (suc zero)) l e = (2, omega arith)
odd_of n (suc (suc (suc zero))) l e = (3, omega arith)
odd_of n (suc (suc (suc (suc k)))) l e = absurd (omega arith)

pub odd_law : SetupsAreOdd
odd_law setup s = let g = s.group in odd_of setup.controllers g.0 g.1 g.2
