-- What is on its way while a closing is drained, and the ways between two actors.
use Rattle.std.specs.Prelude.{Bool, ◌&&◌, List, [], ◌∷◌, if◌then◌else◌}
use Rattle.journal.specs.declared.journal.Actor.{Actor}
use Rattle.journal.specs.declared.journal.Letter.{Letter}
use Rattle.journal.specs.Actors.{same_actor}
use Rattle.run_spec.specs.declared.messages.Message.{Message}

-- a message on its way
pub record Sent : Type 0 where
  pub from : Actor
  pub to : Actor
  pub said : Message

-- a letter of an actor, once it is posted
abbrev pub sent_by : {A : Type 0} → (A → Message) → Actor → Letter A → Sent
sent_by says from l = record { from = from; to = l.to; said = says l.body }

-- it goes this way
abbrev pub goes : Actor → Actor → Sent → Bool
goes from to m = same_actor m.from from && same_actor m.to to

-- what is on its way from one actor to another, in order
abbrev pub between : Actor → Actor → List Sent → List Message
between from to [] = []
between from to (m ∷ waiting) = if goes from to m then m.said ∷ between from to waiting else between from to waiting

-- what letters tell an actor, in order
abbrev pub told_to : {A : Type 0} → (A → Message) → Actor → List (Letter A) → List Message
told_to says to [] = []
told_to says to (l ∷ letters) = if same_actor l.to to then says l.body ∷ told_to says to letters else told_to says to letters
