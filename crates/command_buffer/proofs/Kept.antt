-- What results stay as calls leave them.
use Rattle.std.proofs.Common.{◌≡◌, ◌≢◌, ℕ, ◌-◌, ◌<◌, List, [], ◌∷◌, ◌++◌, length, length-append, refl, arith, suc, zero}
use Rattle.std.specs.Prelude.{All}
use Rattle.std.proofs.lemmas.List.Elements.{All-append}
use Rattle.circular_buffer.specs.Buffer.{keep_last}
use Rattle.of_types.specs.declared.message.Outcome.{Outcome}
use Rattle.of_types.specs.declared.message.Outcome.TheVariants.{Cleared}
use Rattle.command_buffer.specs.Results.{Results, AreResults, with_result}

-- a ring with room keeps all
pub keeps_all : (n : ℕ) (items : List Outcome) (outcome : Outcome) → length items < n → keep_last n (items ++ outcome ∷ []) ≡ items ++ outcome ∷ []
keeps_all n items outcome h =
    let none : length (items ++ outcome ∷ []) - n ≡ 0 = rw length-append (omega arith) in rw none refl

-- a list of one result
one_kept : (outcome : Outcome) → outcome ≢ Cleared → All (λ o. o ≢ Cleared) (outcome ∷ [])
one_kept outcome kept zero d h = kept
one_kept outcome kept (suc k) d h = absurd (omega (arith, h))

-- one more result
pub results-push : (r : Results) (outcome : Outcome) → AreResults r → length r.outcomes < 256 → outcome ≢ Cleared → AreResults (with_result r outcome)
results-push r outcome known room kept =
    record {
      room = rw length-append (omega arith);
      counted = rw length-append (omega (arith, known.counted));
      kept = All-append (λ o. o ≢ Cleared) r.outcomes (outcome ∷ []) known.kept (one_kept outcome kept);
    }
