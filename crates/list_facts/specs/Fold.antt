-- What an actor holds behind its own entries, and what it owes. They stand with the newest first.
use Rattle.std.specs.Prelude.{ℕ, Bool, true, false, List, [], ◌∷◌}

-- what an entry is to its actor: it takes an input, it posts what it owes, its last input is refused, or it rests
pub data Step (Input : Type 0) : Type 0 where
  Takes : Input → Step Input
  Posts : Step Input
  Refuses : Step Input
  Rests : Step Input

-- An actor behind its entries: its state, the state before its last input, the letters that it owes, whether that input is its
-- newest entry, so that it may still be refused, how many saves it has made, and how many before that input
pub record ActorStanding (State Letter : Type 0) : Type 0 where
  pub now : State
  pub before : State
  pub owed : List Letter
  pub fresh : Bool
  pub saves : ℕ
  pub saves_before : ℕ

-- the rules of an actor: how it takes an input, and what is left of the state before an input that is refused
pub record ActorRules (State Input Letter : Type 0) : Type 0 where
  pub takes : ActorStanding State Letter → Input → ActorStanding State Letter
  pub refused : State → State

abbrev pub standing_first : {S L : Type 0} → S → ActorStanding S L
standing_first start = record { now = start; before = start; owed = []; fresh = false; saves = 0; saves_before = 0 }

-- after one more entry
abbrev pub standing_on : {S I L : Type 0} → ActorRules S I L → ActorStanding S L → Step I → ActorStanding S L
standing_on rules w (Takes input) = rules.takes w input
standing_on rules w Posts = record w { owed = []; fresh = false }
standing_on rules w Refuses = record { now = rules.refused w.before; before = w.before; owed = []; fresh = false; saves = w.saves_before; saves_before = w.saves_before }
standing_on rules w Rests = record w { fresh = false }

abbrev pub actor_standing : {S I L : Type 0} → ActorRules S I L → S → List (Step I) → ActorStanding S L
actor_standing rules start [] = standing_first start
actor_standing rules start (step ∷ before) = standing_on rules (actor_standing rules start before) step
