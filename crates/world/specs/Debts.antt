-- What an actor has still to post, as its letters are to stand in the journal.
use Rattle.std.specs.Prelude.{Bool, List, Option, Some, None, length, ◌==◌}
use Rattle.journal.specs.declared.journal.Actor.{Actor}
use Rattle.journal.specs.declared.journal.Actor.TheVariants as actor
use Rattle.journal.specs.declared.journal.Letter.{Letter}
use Rattle.run_spec.specs.States.{Sealing, sealed_letters, switch_message, controller_message}
use Rattle.world.specs.declared.outbox.Outbox.{Outbox}
use Rattle.world.specs.declared.outbox.Outbox.TheVariants as outbox

-- the outbox of an actor, sealed
pub record Debt (B : Type 0) : Type 0 where
  pub actor : Actor
  pub letters : List (Letter B)

-- whose an outbox is
abbrev pub sender_of : Outbox → Actor
sender_of (outbox.Controller number letters) = actor.Controller number
sender_of (outbox.Switch number letters) = actor.Switch number

-- its letters, sealed
abbrev pub letters_sealed : {B : Type 0} → Sealing B → Outbox → List (Letter B)
letters_sealed sealing (outbox.Controller number letters) = sealed_letters controller_message sealing letters
letters_sealed sealing (outbox.Switch number letters) = sealed_letters switch_message sealing letters

-- an outbox as its actor said it, once it is sealed
abbrev pub sealed_outbox : {B : Type 0} → Sealing B → Outbox → Debt B
sealed_outbox sealing said = record { actor = sender_of said; letters = letters_sealed sealing said }

-- what is owed, if anything is
abbrev pub owing : {B : Type 0} → Sealing B → Option Outbox → Option (Debt B)
owing sealing None = None
owing sealing (Some said) = Some (sealed_outbox sealing said)

-- an outbox has no letter
abbrev pub has_none : Outbox → Bool
has_none (outbox.Controller number letters) = length letters == 0
has_none (outbox.Switch number letters) = length letters == 0
