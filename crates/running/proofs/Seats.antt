-- Who sits where, before and after a run.
use Rattle.std.proofs.Common.{◌≡◌, ◌≤◌, ◌<◌, ℕ, ◌+◌, List, [], ◌∷◌, ◌++◌, length, map, take, drop, refl, sym, ◌∙◌, ap, subst, arith}
use Rattle.std.specs.Prelude.{Option, Some, All, slice_get, slice_index_or}
use Rattle.std.proofs.lemmas.List.{map-append}
use Rattle.std.proofs.lemmas.Option.{get_or_from_slice_get, slice_get_within}
use Rattle.of_types.specs.declared.setup.Setup.{Setup}
use Rattle.journal.specs.declared.journal.Actor.{Actor}
use Rattle.journal.specs.declared.journal.JournalEntry.{JournalEntry}
use Rattle.journal.specs.declared.journal.Letter.{Letter}
use Rattle.journal.specs.declared.journal.Packet.{Packet}
use Rattle.journal.specs.declared.journal.Turn.{Turn}
use Rattle.group_controller.specs.Turns.{Controlling}
use Rattle.shared_wire.specs.Places.{fresh, PlaceState, TableId}
use Rattle.running.specs.declared.seated.Served.{Served}
use Rattle.running.specs.declared.task.Task.{Task}
use Rattle.running.specs.Runs.{seat_place_of, seated, served}
use Rattle.running.specs.Tasks.{AllRan, WasRun, MayBegin}
use Rattle.running.proofs.Lists.{behind_none, drop_long, got_map, map_long, same_maps, some_at, take_and_drop, take_whole}

-- controllers beside their stables, at the places of a board
pub members_seated : {B G A W : Type 0} (tasks before : List (Task B (Served A W) G)) (its places : List (PlaceState B)) (beside none : List (Served A W)) (controllers : List (Controlling A)) (all stables : List W) →
    tasks ≡ before ++ seated its beside → before ≡ [] → its ≡ places → beside ≡ none ++ served controllers all → none ≡ [] → all ≡ stables → tasks ≡ seated places (served controllers stables)
members_seated tasks before its places beside none controllers all stables is no_task its_are beside_are no_one all_are =
    behind_none tasks before (seated its beside) is no_task ∙ ap (λ p. seated p beside) its_are ∙
    ap (λ s. seated places s) (behind_none beside none (served controllers all) beside_are no_one ∙ ap (λ l. served controllers l) all_are)

-- switches at those that are left
pub others_seated : {B G P : Type 0} (tasks before : List (Task B P G)) (its all places : List (PlaceState B)) (players : List P) (n group : ℕ) →
    tasks ≡ before ++ seated its players → before ≡ [] → its ≡ drop n all → all ≡ places → n ≡ group → tasks ≡ seated (drop group places) players
others_seated tasks before its all places players n group is no_task its_are all_are same =
    behind_none tasks before (seated its players) is no_task ∙ ap (λ p. seated p players) (its_are ∙ ap (λ l. drop n l) all_are ∙ ap (λ m. drop m places) same)

module _ {B G P : Type 0} (plays : Setup → List ℕ → Actor → P → List (JournalEntry B × Option (Packet B)) → P → List (Letter B) → Type 0) (size : B → ℕ) (steps : List Turn) (id : TableId)
    (old new : List (Task B P G)) (ran : AllRan plays size steps old new) where
  abbrev actor_in : Task B P G → Actor
  actor_in t = t.job.place.actor

  has_run : (k : ℕ) (x y : Task B P G) → k < length old → slice_get old k ≡ Some x → slice_get new k ≡ Some y → WasRun plays size steps x y
  has_run k x y less old_at new_at =
      subst (λ (t : Task B P G). WasRun plays size steps t y) (get_or_from_slice_get old k x y old_at)
      (subst (λ (t : Task B P G). WasRun plays size steps (slice_index_or old k y) t) (get_or_from_slice_get new k y y new_at) (ran.each k y less))

  -- the boards stay
  pub boards_stay : All (MayBegin plays id steps) old → All (λ p. p.board ≡ id) (map seat_place_of new)
  boards_stay ready k d less =
      let long = map_long seat_place_of new in
      let count = ran.count in
      let y = some_at new k (omega (arith, less, long)) in
      let x = some_at old k (omega (arith, less, long, count)) in
      let same = has_run k x.0 y.0 (omega (arith, less, long, count)) x.1 y.1 in
      let its = ready k x.0 (omega (arith, less, long, count)) in
      subst (λ (p : PlaceState B). p.board ≡ id) (sym (get_or_from_slice_get (map seat_place_of new) k (seat_place_of y.0) d (got_map seat_place_of new k y.0 y.1)))
      (same.place.1 ∙ ap (λ (t : Task B P G). t.job.place.board) (sym (get_or_from_slice_get old k x.0 x.0 x.1)) ∙ its.board_is)

  -- the actors stay
  pub actors_stay : map actor_in new ≡ map actor_in old
  actors_stay = same_maps actor_in old new (sym ran.count) (λ k x y old_at new_at. (has_run k x y (slice_get_within old k x old_at) old_at new_at).place.0)

actor_of_place : {B : Type 0} → PlaceState B → Actor
actor_of_place p = p.actor

pub actors_of_seated : {B P : Type 0} (G : Type 0) (places : List (PlaceState B)) (players : List P) → length players ≤ length places → map (λ (t : Task B P G). t.job.place.actor) (seated places players) ≡ map (λ p. p.actor) (take (length players) places)
actors_of_seated G [] [] less = refl
actors_of_seated G [] (x ∷ players) less = absurd (omega (arith, less))
actors_of_seated G (p ∷ places) [] less = refl
actors_of_seated G (p ∷ places) (x ∷ players) less = ap (λ l. p.actor ∷ l) (actors_of_seated G places players (omega (arith, less)))

pub actors_of_places : {B G P : Type 0} (tasks : List (Task B P G)) → map (λ p. p.actor) (map seat_place_of tasks) ≡ map (λ (t : Task B P G). t.job.place.actor) tasks
actors_of_places [] = refl
actors_of_places (t ∷ tasks) = ap (λ l. t.job.place.actor ∷ l) (actors_of_places tasks)

pub actors_of_fresh : (B : Type 0) (id : TableId) (actors : List Actor) → map (λ p. p.actor) (map (fresh {B = B} id) actors) ≡ actors
actors_of_fresh B id [] = refl
actors_of_fresh B id (a ∷ actors) = ap (λ l. a ∷ l) (actors_of_fresh B id actors)

-- the places of all tasks are those of all actors of the board
pub all_seated : {B G P Q : Type 0} (id : TableId) (actors : List Actor) (members : List (Task B P G)) (others : List (Task B Q G)) (first : List P) (second : List Q) →
    map (λ (t : Task B P G). t.job.place.actor) members ≡ map (λ (t : Task B P G). t.job.place.actor) (seated (map (fresh id) actors) first) →
    map (λ (t : Task B Q G). t.job.place.actor) others ≡ map (λ (t : Task B Q G). t.job.place.actor) (seated (drop (length first) (map (fresh id) actors)) second) →
    length first + length second ≡ length actors → map (λ p. p.actor) (map seat_place_of members ++ map seat_place_of others) ≡ actors
all_seated {B = B} {G = G} id actors members others first second members_are others_are long =
    let all = map_long (fresh {B = B} id) actors in
    let rest = drop_long (length first) (map (fresh {B = B} id) actors) (omega (arith, all, long)) in
    map-append (λ p. p.actor) (map seat_place_of members) (map seat_place_of others) ∙
    ap (λ l. l ++ map (λ p. p.actor) (map seat_place_of others)) (actors_of_places members ∙ members_are ∙ actors_of_seated G (map (fresh {B = B} id) actors) first (omega (arith, all, long))) ∙
    ap (λ l. map (λ p. p.actor) (take (length first) (map (fresh {B = B} id) actors)) ++ l) (actors_of_places others ∙ others_are ∙ actors_of_seated G (drop (length first) (map (fresh {B = B} id) actors)) second (omega (arith, all, long, rest)) ∙
    ap (map (λ p. p.actor)) (take_whole (length second) (drop (length first) (map (fresh {B = B} id) actors)) (omega (arith, all, long, rest)))) ∙
    sym (map-append (λ p. p.actor) (take (length first) (map (fresh {B = B} id) actors)) (drop (length first) (map (fresh {B = B} id) actors))) ∙ ap (map (λ p. p.actor)) (take_and_drop (length first) (map (fresh {B = B} id) actors)) ∙ actors_of_fresh B id actors
