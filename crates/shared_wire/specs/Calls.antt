-- What a call at a place does.
use Rattle.std.specs.Prelude.{◌≡◌, ℕ, Option, List, [], ◌∷◌, ◌++◌}
use Rattle.journal.specs.declared.journal.JournalEntry.{JournalEntry}
use Rattle.journal.specs.declared.journal.Letter.{Letter}
use Rattle.journal.specs.declared.journal.Packet.{Packet}
use Rattle.journal.specs.declared.wire.Stop.{Stop}
use Rattle.journal.specs.Answers.{RefusedBy}
use Rattle.journal.specs.Part.{part, drawn}
use Rattle.journal.specs.Pool.{past}
use Rattle.shared_wire.specs.Rule.{StartsWith}
use Rattle.shared_wire.specs.Places.{PlaceState}

-- entries over a past, all the newest first, each draw beside its packet
abbrev pub beside_seat : {B : Type 0} → List (JournalEntry B) → List (JournalEntry B) → List (JournalEntry B × Option (Packet B))
beside_seat [] before = []
beside_seat (e ∷ entries) before = (e, drawn e (entries ++ before)) ∷ beside_seat entries before

-- The call met a journal that begins with all that the place had seen, and in which the actor has no entries but the place's own. It added what a turn adds over
-- that journal's past, and the place has seen these and counts them as its own
pub record Adds {B : Type 0} (p q : PlaceState B) (turn : List (JournalEntry B) → List (JournalEntry B)) : Type 0 where
  pub met : List (JournalEntry B)
  pub later : StartsWith met p.seen
  pub mine : p.own ≡ part p.actor (past met)
  pub seen : q.seen ≡ met ++ turn (past met)
  pub own : q.own ≡ beside_seat (past (turn (past met))) (past met) ++ p.own

-- Nothing was added. What the place has seen now is the journal that the call met, which begins with all that the place had seen
pub record AddsNothing {B : Type 0} (p q : PlaceState B) : Type 0 where
  pub own : q.own ≡ p.own
  pub later : StartsWith q.seen p.seen

-- Nothing was added. The journal that the call met tells the cause
pub record Refuses {B : Type 0} (size : B → ℕ) (p q : PlaceState B) (post : List (Letter B)) (stop : Stop) : Type 0 where
  pub nothing : AddsNothing p q
  pub cause : RefusedBy size stop post (past q.seen)
