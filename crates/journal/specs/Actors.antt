-- Who an entry names.
use Rattle.std.specs.Prelude.{Bool, true, false, nat_eq, List, ◌<◌, length}
use Rattle.std.specs.List.{AllByRecursion}
use Rattle.of_types.specs.declared.setup.Setup.{Setup}
use Rattle.journal.specs.declared.journal.Actor.{Actor}
use Rattle.journal.specs.declared.journal.Actor.TheVariants.{Controller, Switch}
use Rattle.journal.specs.declared.journal.JournalEntry.{JournalEntry}
use Rattle.journal.specs.declared.journal.Letter.{Letter}
use Rattle.journal.specs.declared.journal.JournalEntry.TheVariants.{Post, Draw, Lose, Local, Idle, Refused}

-- whether two actors are one
abbrev pub same_actor : Actor → Actor → Bool
same_actor (Controller i) (Controller j) = nat_eq i j
same_actor (Switch i) (Switch j) = nat_eq i j
same_actor (Controller i) (Switch j) = false
same_actor (Switch i) (Controller j) = false

-- the actor of an entry
abbrev pub actor_of : {B : Type 0} → JournalEntry B → Actor
actor_of (Post actor first letters lost) = actor
actor_of (Draw actor id keep) = actor
actor_of (Lose actor id) = actor
actor_of (Local actor input) = actor
actor_of (Idle actor) = actor
actor_of (Refused actor) = actor

-- whether an entry takes an input: one for each turn
abbrev pub is_input : {B : Type 0} → JournalEntry B → Bool
is_input (Post actor first letters lost) = false
is_input (Draw actor id keep) = true
is_input (Lose actor id) = true
is_input (Local actor input) = true
is_input (Idle actor) = true
is_input (Refused actor) = false

-- an actor of a setup
abbrev pub IsActor : Setup → Actor → Type 0
IsActor setup (Controller c) = c < setup.controllers
IsActor setup (Switch s) = s < length setup.ports

-- letters to actors of a setup
abbrev pub AreAddressed : {B : Type 0} → Setup → List (Letter B) → Type 0
AreAddressed setup letters = AllByRecursion (λ l. IsActor setup l.to) letters
