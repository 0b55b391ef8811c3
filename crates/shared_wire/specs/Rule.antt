-- The rule of the board's table. Word 0 is 0 while the wire lies in slot 0, and 1 while a seat holds it.
use Rattle.std.specs.Prelude.{◌≡◌, ◌≢◌, ◌⊎◌, ℕ, Option, Some, None, List, [], ◌∷◌, ◌++◌, map, take, drop, Contains}
use Rattle.std.specs.List.{AllByRecursion, IsDistinct}
use mathlib.Core.Option.{some, none}
use lib.ListN.{get_elem?}
use Rattle.atomic_table.specs.Table.{State, Me, Step, rest}
use Rattle.journal.specs.declared.journal.Actor.{Actor}
use Rattle.journal.specs.declared.journal.JournalEntry.{JournalEntry}
use Rattle.journal.specs.declared.journal.Packet.{Packet}
use Rattle.journal.specs.Actors.{same_actor, actor_of}
use Rattle.journal.specs.Part.{part}
use Rattle.journal.specs.Pool.{past}
use Rattle.shared_wire.specs.declared.rule.Known.{Known}
use Rattle.shared_wire.specs.declared.rule.View.{View}

-- a list begins with another
abbrev pub StartsWith : {A : Type 0} → List A → List A → Type 0
StartsWith {A} whole front = (rest : List A) × (whole ≡ front ++ rest)

-- each entry names one of these actors
abbrev pub AreNamed : {B : Type 0} → List Actor → List (JournalEntry B) → Type 0
AreNamed actors entries = AllByRecursion (λ e. Contains actors (actor_of e)) entries

module _ {B : Type 0} where
  abbrev pub knowing : Actor → List (JournalEntry B × Option (Packet B)) → List (JournalEntry B) → Known B
  knowing actor own seen = record { actor = actor; own = own; seen = seen }

  abbrev pub seat_view_of : List (Known B) → List Actor → List Actor → Option (List (JournalEntry B)) → View B
  seat_view_of known seated unseated held = record { known = known; seated = seated; unseated = unseated; held = held }

  -- the own entries are the actor's part of the journal, and the journal begins with what was seen
  abbrev pub IsTrueOf : List (JournalEntry B) → Known B → Type 0
  IsTrueOf journal k = (k.own ≡ part k.actor (past journal)) × StartsWith journal k.seen

  -- what the view of a seat knows is true, and each actor is known in one place alone: a seat, and a place in its view
  abbrev pub Fits : List (JournalEntry B) → (Actor → ℕ × ℕ) → ℕ → View B → Type 0
  Fits journal place seat v = (i : ℕ) (k : Known B) → get_elem? v.known i ≡ some k → IsTrueOf journal k × (place k.actor ≡ (seat, i))

  -- the actor is known at this place
  abbrev pub IsKnownAt : List (View B) → Actor → ℕ × ℕ → Type 0
  IsKnownAt views a at = (v : View B) × (k : Known B) × (get_elem? views at.0 ≡ some v) × (get_elem? v.known at.1 ≡ some k) × (k.actor ≡ a)

-- the wire lies in its slot, and no seat holds it
pub record AtHome {B : Type 0} (journal : List (JournalEntry B)) (s : State (Option (List (JournalEntry B))) (View B)) : Type 0 where
  pub word : s.words ≡ 0 ∷ []
  pub slot : s.homes ≡ some (Some journal) ∷ []
  pub free : (i : ℕ) (v : View B) → get_elem? s.views i ≡ some v → v.held ≡ None

-- one seat alone holds the wire, and it knows an actor
pub record Away {B : Type 0} (journal : List (JournalEntry B)) (s : State (Option (List (JournalEntry B))) (View B)) : Type 0 where
  pub holder : ℕ
  pub sees : View B
  pub about : Known B
  pub word : s.words ≡ 1 ∷ []
  pub slot : s.homes ≡ none ∷ []
  pub there : get_elem? s.views holder ≡ some sees
  pub holds : sees.held ≡ Some journal
  pub knows : get_elem? sees.known 0 ≡ some about
  pub free : (i : ℕ) (v : View B) → get_elem? s.views i ≡ some v → i ≢ holder → v.held ≡ None

-- the first seat knows which of the actors have a seat, and nothing of their entries. Just these actors are known somewhere, and the journal names no others
pub record IsFirstSeat {B : Type 0} (actors : List Actor) (journal : List (JournalEntry B)) (place : Actor → ℕ × ℕ) (views : List (View B)) (v : View B) : Type 0 where
  pub order : v.seated ++ v.unseated ≡ actors
  pub nothing : v.known ≡ []
  pub within : (seat : ℕ) (w : View B) → get_elem? views seat ≡ some w → (i : ℕ) (k : Known B) → get_elem? w.known i ≡ some k → Contains v.seated k.actor
  pub placed : (a : Actor) → Contains v.seated a → IsKnownAt views a (place a)
  pub named : AreNamed v.seated journal

-- the rule, for these actors
pub record IsRuled {B : Type 0} (actors : List Actor) (s : State (Option (List (JournalEntry B))) (View B)) : Type 0 where
  pub journal : List (JournalEntry B)
  pub place : Actor → ℕ × ℕ
  pub distinct : IsDistinct same_actor actors
  pub wire : AtHome journal s ⊎ Away journal s
  pub fits : (seat : ℕ) (v : View B) → get_elem? s.views seat ≡ some v → Fits journal place seat v
  pub first : (v : View B) × (get_elem? s.views 0 ≡ some v) × IsFirstSeat actors journal place s.views v

module _ {B : Type 0} where
  -- the first seat at the start: no actor has a seat
  abbrev pub first_view : List Actor → View B
  first_view actors = seat_view_of [] [] actors None

  -- the first seat, once the next actor has a seat
  abbrev pub after_seating : View B → View B
  after_seating v = seat_view_of v.known (v.seated ++ take 1 v.unseated) (drop 1 v.unseated) v.held

  -- the new seat, which knows this actor and no entries
  abbrev pub newly_seated : View B → View B
  newly_seated v = seat_view_of (map (λ a. knowing a [] []) (take 1 v.unseated)) [] [] None

  -- a seat that stays, with what an ended one knew
  abbrev pub joined : View B → View B → View B
  joined v w = seat_view_of (v.known ++ w.known) v.seated v.unseated v.held

  -- an ended seat
  abbrev pub spent : View B
  spent = seat_view_of [] [] [] None

  -- a seat that holds the journal
  abbrev pub holding : View B → List (JournalEntry B) → View B
  holding v journal = seat_view_of v.known v.seated v.unseated (Some journal)

  -- a seat that has given the journal back, and has seen it
  abbrev pub has_given : View B → List (JournalEntry B) → View B
  has_given v journal = seat_view_of (map (λ (k : Known B). knowing k.actor (part k.actor (past journal)) journal) v.known) v.seated v.unseated None

  -- 0 was found and the wire taken, of which all that was known is true; or nothing changed
  abbrev pub took : Step (Option (List (JournalEntry B))) → Me (Option (List (JournalEntry B))) (View B) → ℕ → Me (Option (List (JournalEntry B))) (View B) → Type 0
  took s m n m' =
      (n ≡ 0 → (journal : List (JournalEntry B)) × (m' ≡ (holding m.0 journal, (0, Some journal) ∷ m.1)) × ((i : ℕ) (k : Known B) → get_elem? m.0.known i ≡ some k → IsTrueOf journal k))
      × (n ≢ 0 → m' ≡ m)

  -- the journal that lies in the slot that was taken last
  abbrev pub given_of : List (ℕ × Option (List (JournalEntry B))) → List (JournalEntry B)
  given_of [] = []
  given_of ((slot, None) ∷ held) = []
  given_of ((slot, Some journal) ∷ held) = journal

  -- what lay in the slot has become the journal, and the seat has seen it
  abbrev pub gave : Step (Option (List (JournalEntry B))) → Me (Option (List (JournalEntry B))) (View B) → ℕ → Me (Option (List (JournalEntry B))) (View B) → Type 0
  gave s m n m' = m' ≡ (has_given m.0 (given_of m.1), rest m.1)
