-- What several controllers are told.
use Rattle.std.specs.Prelude.{ℕ, List, map}
use Rattle.journal.specs.declared.journal.Actor.TheVariants as actor
use Rattle.journal.specs.declared.journal.Letter.{Letter}

-- a letter with this body to each of these controllers
abbrev pub copies : {B : Type 0} → B → List ℕ → List (Letter B)
copies body controllers = map (λ to. record { to = actor.Controller to; body = body }) controllers
