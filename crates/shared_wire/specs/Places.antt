-- What callers see of a board and of its places.
use Rattle.std.specs.Prelude.{◌≡◌, ℕ, Option, Some, None, List, [], ◌∷◌, ◌++◌}
use Rattle.std.specs.List.{AllByRecursion}
use mathlib.Core.Option.{some}
use lib.ListN.{get_elem?}
use Rattle.atomic_table.specs.Table.{Me}
pub use Rattle.atomic_table.specs.Seated.{TableId}
use Rattle.journal.specs.declared.journal.Actor.{Actor}
use Rattle.journal.specs.declared.journal.JournalEntry.{JournalEntry}
use Rattle.journal.specs.declared.journal.Packet.{Packet}
use Rattle.journal.specs.Actors.{actor_of}
use Rattle.journal.specs.Part.{part}
use Rattle.journal.specs.Pool.{past}
use Rattle.journal.specs.Orderly.{IsOrderly}
use Rattle.journal.specs.Turns.{IsWithinLimits}
use Rattle.shared_wire.specs.declared.rule.Known.{Known}
use Rattle.shared_wire.specs.declared.rule.View.{View}
use Rattle.shared_wire.specs.Rule.{knowing, StartsWith}

-- a place: its actor, its own entries with the newest first and each draw beside its packet, the front of the journal that it has seen, and which board it is of
pub record PlaceState (B : Type 0) : Type 0 where
  pub actor : Actor
  pub own : List (JournalEntry B × Option (Packet B))
  pub seen : List (JournalEntry B)
  pub board : TableId

-- a board: its actors, and which board it is
pub record BoardState : Type 0 where
  pub actors : List Actor
  pub id : TableId

module _ {B : Type 0} where
  -- a new place
  abbrev pub fresh : TableId → Actor → PlaceState B
  fresh board actor = record { actor = actor; own = []; seen = []; board = board }

  -- the place is the same one
  abbrev pub IsSamePlace : PlaceState B → PlaceState B → Type 0
  IsSamePlace p q = (q.actor ≡ p.actor) × (q.board ≡ p.board)

  -- what a seat knows of its actor
  abbrev pub own_of : List (Known B) → List (JournalEntry B × Option (Packet B))
  own_of [] = []
  own_of (k ∷ known) = k.own

  abbrev pub seen_of : List (Known B) → List (JournalEntry B)
  seen_of [] = []
  seen_of (k ∷ known) = k.seen

  abbrev pub actor_place_of : Actor → TableId → View B → PlaceState B
  actor_place_of actor board v = record { actor = actor; own = own_of v.known; seen = seen_of v.known; board = board }

  abbrev pub known_of : PlaceState B → Known B
  known_of p = knowing p.actor p.own p.seen

  -- the seat knows this alone, and holds nothing
  abbrev pub IsFree : Known B → Me (Option (List (JournalEntry B))) (View B) → Type 0
  IsFree k me = (me.0.known ≡ k ∷ []) × (me.0.held ≡ None) × (me.1 ≡ [])

  -- the view knows what each of the places knew
  abbrev pub KnowsEach : View B → List (PlaceState B) → Type 0
  KnowsEach v places = (i : ℕ) (p : PlaceState B) → get_elem? places i ≡ some p → (j : ℕ) × (get_elem? v.known j ≡ some (known_of p))

-- the seat knows one actor, and the journal is the one that it holds, grown by entries of this actor
pub record Grows {B : Type 0} (me : Me (Option (List (JournalEntry B))) (View B)) (journal : List (JournalEntry B)) : Type 0 where
  pub about : Known B
  pub taken : List (JournalEntry B)
  pub entries : List (JournalEntry B)
  pub knows : me.0.known ≡ about ∷ []
  pub holds : me.0.held ≡ Some taken
  pub joined : journal ≡ taken ++ entries
  pub named : AllByRecursion (λ e. actor_of e ≡ about.actor) entries

-- what a place has seen is orderly and within the limits, and its own entries are its actor's part of it
pub record IsPlace {B : Type 0} (size : B → ℕ) (p : PlaceState B) : Type 0 where
  pub part_is : p.own ≡ part p.actor (past p.seen)
  pub orderly : IsOrderly size (past p.seen)
  pub within : IsWithinLimits size (past p.seen)

-- the own entries of a place are its actor's part of the journal, which begins with what the place has seen
pub record IsPartOf {B : Type 0} (journal : List (JournalEntry B)) (p : PlaceState B) : Type 0 where
  pub part_is : p.own ≡ part p.actor (past journal)
  pub seen : StartsWith journal p.seen
