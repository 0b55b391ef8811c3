-- The actors of a group, by number, and the entries of a journal that name them.
use Rattle.std.proofs.Common.{◌≡◌, ◌≤◌, ◌<◌, ℕ, ◌+◌, zero, suc, List, [], ◌∷◌, length, map, ◌∙◌, ap, subst, arith}
use Rattle.std.specs.Prelude.{Some, Contains, slice_get, slice_index_or}
use Rattle.std.specs.List.{AllByRecursion, range_with_len}
use Rattle.of_types.specs.declared.setup.Setup.{Setup}
use Rattle.journal.specs.declared.journal.Actor.{Actor}
use Rattle.journal.specs.declared.journal.Actor.TheVariants as actor
use Rattle.journal.specs.declared.journal.JournalEntry.{JournalEntry}
use Rattle.journal.specs.Actors.{actor_of, IsActor}
use Rattle.journal.proofs.Placing.{slice_get-append}
use Rattle.running.specs.Runs.{actors_up_to}
use Rattle.world.proofs.Starts.{mapped_at}

pub plus_none : (n : ℕ) → 0 + n ≡ n
plus_none n = omega arith

-- the actors of a group, by number
pub controller_at : (group count c : ℕ) → c < group → slice_get (actors_up_to group count) c ≡ Some (actor.Controller c)
controller_at group count c less =
    slice_get-append (map (λ (n : ℕ). actor.Controller n) (range_with_len 0 group)) (map (λ (n : ℕ). actor.Switch n) (range_with_len 0 count)) c (actor.Controller c)
    (mapped_at (λ (n : ℕ). actor.Controller n) 0 group c less ∙ ap (λ (n : ℕ). Some (actor.Controller n)) (plus_none c))

pub all_controllers : (first count bound : ℕ) (setup : Setup) → setup.controllers ≡ bound → first + count ≤ bound → AllByRecursion (IsActor setup) (map (λ (n : ℕ). actor.Controller n) (range_with_len first count))
all_controllers first zero bound setup is less = tt
all_controllers first (suc count) bound setup is less = (omega (arith, is, less), all_controllers (first + 1) count bound setup is (omega (arith, less)))

pub all_switches : (first count bound : ℕ) (setup : Setup) → length setup.ports ≡ bound → first + count ≤ bound → AllByRecursion (IsActor setup) (map (λ (n : ℕ). actor.Switch n) (range_with_len first count))
all_switches first zero bound setup is less = tt
all_switches first (suc count) bound setup is less = (omega (arith, is, less), all_switches (first + 1) count bound setup is (omega (arith, less)))

by_recursion : {X : Type 0} (P : X → Type 0) (xs : List X) (i : ℕ) (x : X) → AllByRecursion P xs → i < length xs → slice_index_or xs i x ≡ x → P x
by_recursion P [] i x all less is = absurd (omega (arith, less))
by_recursion P (y ∷ xs) zero x all less is = subst P is all.0
by_recursion P (y ∷ xs) (suc i) x all less is = by_recursion P xs i x all.1 (omega (arith, less)) is

-- each entry names an actor of the setup
pub named_each : {B : Type 0} (setup : Setup) (actors : List Actor) (entries : List (JournalEntry B)) → AllByRecursion (IsActor setup) actors →
    AllByRecursion (λ e. Contains actors (actor_of e)) entries → AllByRecursion (λ e. IsActor setup (actor_of e)) entries
named_each setup actors [] all named = tt
named_each setup actors (e ∷ entries) all named =
    let k = named.0 in (by_recursion (IsActor setup) actors k.0 (actor_of e) all k.1 k.2, named_each setup actors entries all named.1)
