-- The actors of a group are distinct.
use Rattle.std.proofs.Common.{◌≡◌, ◌<◌, ℕ, ◌+◌, zero, suc, false, ◌++◌, length, map, refl, arith, length-append}
use Rattle.std.specs.List.{AllByRecursion, IsDistinct, range_with_len}
use Rattle.std.proofs.lemmas.List.FromFn.{length-map-range_with_len}
use Rattle.journal.specs.declared.journal.Actor.{Actor}
use Rattle.journal.specs.declared.journal.Actor.TheVariants as actor
use Rattle.journal.specs.Actors.{same_actor}
use Rattle.journal.proofs.All.{all_append}
use Rattle.shared_wire.proofs.Parts.{not_same}
use Rattle.running.specs.Runs.{actors_up_to}

later_controllers : (a b n : ℕ) → a < b → AllByRecursion (λ (y : Actor). same_actor (actor.Controller a) y ≡ false) (map (λ (c : ℕ). actor.Controller c) (range_with_len b n))
later_controllers a b zero less = tt
later_controllers a b (suc n) less = (not_same (actor.Controller a) (actor.Controller b) (λ e. let same : a ≡ b = cc in omega (arith, same, less)), later_controllers a (b + 1) n (omega (arith, less)))

later_switches : (a b n : ℕ) → a < b → AllByRecursion (λ (y : Actor). same_actor (actor.Switch a) y ≡ false) (map (λ (s : ℕ). actor.Switch s) (range_with_len b n))
later_switches a b zero less = tt
later_switches a b (suc n) less = (not_same (actor.Switch a) (actor.Switch b) (λ e. let same : a ≡ b = cc in omega (arith, same, less)), later_switches a (b + 1) n (omega (arith, less)))

no_switch : (a b n : ℕ) → AllByRecursion (λ (y : Actor). same_actor (actor.Controller a) y ≡ false) (map (λ (s : ℕ). actor.Switch s) (range_with_len b n))
no_switch a b zero = tt
no_switch a b (suc n) = (refl, no_switch a (b + 1) n)

distinct_switches : (b n : ℕ) → IsDistinct same_actor (map (λ (s : ℕ). actor.Switch s) (range_with_len b n))
unfolding IsDistinct
distinct_switches b zero = tt
distinct_switches b (suc n) = (later_switches b (b + 1) n (omega arith), distinct_switches (b + 1) n)

distinct_from : (b n count : ℕ) → IsDistinct same_actor (map (λ (c : ℕ). actor.Controller c) (range_with_len b n) ++ map (λ (s : ℕ). actor.Switch s) (range_with_len 0 count))
unfolding IsDistinct
distinct_from b zero count = distinct_switches 0 count
distinct_from b (suc n) count = (
  all_append (λ (y : Actor). same_actor (actor.Controller b) y ≡ false) (map (λ (c : ℕ). actor.Controller c) (range_with_len (b + 1) n)) (map (λ (s : ℕ). actor.Switch s) (range_with_len 0 count))
      (later_controllers b (b + 1) n (omega arith)) (no_switch b 0 count),
  distinct_from (b + 1) n count,
)

pub distinct : (group count : ℕ) → IsDistinct same_actor (actors_up_to group count)
distinct group count = distinct_from 0 group count

pub how_many : (group count : ℕ) → length (actors_up_to group count) ≡ group + count
how_many group count =
    let both = length-append (map (λ (c : ℕ). actor.Controller c) (range_with_len 0 group)) (map (λ (s : ℕ). actor.Switch s) (range_with_len 0 count)) in
    let first = length-map-range_with_len (λ (c : ℕ). actor.Controller c) 0 group in
    let second = length-map-range_with_len (λ (s : ℕ). actor.Switch s) 0 count in
    omega (arith, both, first, second)
