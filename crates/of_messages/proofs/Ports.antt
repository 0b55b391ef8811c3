-- Reading actions one after the other, as a loop does.
use Rattle.std.proofs.Common.{◌≡◌, ℕ, zero, suc, ◌≤◌, ◌<◌, List, [], ◌∷◌, ◌++◌, length, drop, Ok, Err, refl, sym, ◌∙◌, arith}
use Rattle.std.proofs.lemmas.List.{length-drop}
use Rattle.of_bytes.specs.Reading.{◌>>=◌}
use Rattle.of_types.specs.declared.refusal.Refusal.{Refusal}
use Rattle.of_messages.specs.Reading.{output_at, outputs_at, actions_at}

-- one action more
pub turn : (count : ℕ) (before rest : List ℕ) → 0 < length rest → length rest ≤ count
    → (left : ℕ) × (count ≡ suc left) × (outputs_at count before rest ≡ (output_at rest >>= λ port. outputs_at left (before ++ port ∷ []) (drop 16 rest)))
unfolding outputs_at
turn count before [] some enough = absurd (omega arith)
turn zero before (b ∷ rest) some enough = absurd (omega arith)
turn (suc left) before (b ∷ rest) some enough = (left, refl, refl)

pub no_more : (count : ℕ) (before rest : List ℕ) → length rest ≡ 0 → outputs_at count before rest ≡ Ok before
unfolding outputs_at
no_more zero before [] none = refl
no_more (suc count) before [] none = refl
no_more count before (b ∷ rest) none = absurd (omega arith)

-- The ports before are read, and the rest is still to be read.
pub record SoFar (bytes rest before : List ℕ) (count : ℕ) : Type 0 where
  pub enough : length rest ≤ count
  pub whole : outputs_at count before rest ≡ actions_at bytes

pub starts : (bytes : List ℕ) → SoFar bytes bytes [] (length bytes)
unfolding actions_at
starts bytes = record { enough = omega arith; whole = refl }

pub goes_on : (bytes rest before : List ℕ) (count port : ℕ) → SoFar bytes rest before count → 0 < length rest → 16 ≤ length rest → output_at rest ≡ Ok port
    → (left : ℕ) × SoFar bytes (drop 16 rest) (before ++ port ∷ []) left
goes_on bytes rest before count port s some there read =
    let t = turn count before rest some s.enough in
    let goes : (output_at rest >>= λ port. outputs_at t.0 (before ++ port ∷ []) (drop 16 rest)) ≡ outputs_at t.0 (before ++ port ∷ []) (drop 16 rest) = rw read refl in
    (t.0, record { enough = (let le = s.enough in omega (arith, t.1, length-drop 16 rest)); whole = sym (t.2 ∙ goes) ∙ s.whole })

pub stops : (bytes rest before : List ℕ) (count : ℕ) (e : Refusal) → SoFar bytes rest before count → 0 < length rest → output_at rest ≡ Err e → actions_at bytes ≡ Err e
stops bytes rest before count e s some read =
    let t = turn count before rest some s.enough in
    let goes : (output_at rest >>= λ port. outputs_at t.0 (before ++ port ∷ []) (drop 16 rest)) ≡ Err e = rw read refl in
    sym s.whole ∙ t.2 ∙ goes

pub ends : (bytes rest before : List ℕ) (count : ℕ) → SoFar bytes rest before count → length rest ≡ 0 → actions_at bytes ≡ Ok before
ends bytes rest before count s none = sym s.whole ∙ no_more count before rest none
