-- When what a body says between members is what was sealed in it.
use Rattle.std.specs.Prelude.{◌≡◌, List, [], ◌∷◌, Option, Some, ⊤}
use Rattle.journal.specs.declared.journal.Actor.TheVariants as actor
use Rattle.journal.specs.declared.journal.JournalEntry.{JournalEntry}
use Rattle.journal.specs.declared.journal.JournalEntry.TheVariants.{Draw}
use Rattle.journal.specs.declared.journal.Packet.{Packet}
use Rattle.journal.specs.Part.{drawn}
use Rattle.vr_log.specs.declared.message.VrMessage.{VrMessage}
use Rattle.controller_moves.specs.Spelling.{HasValidEvent}
use Rattle.run_spec.specs.declared.messages.Message.{Message}
use Rattle.run_spec.specs.declared.messages.Message.TheVariants as message
use Rattle.run_spec.specs.declared.messages.Unsealed.TheVariants as unsealed
use Rattle.run_spec.specs.declared.messages.Way.TheVariants as way
use Rattle.run_spec.specs.Messages.{said_on, message_size}
use Rattle.run_spec.specs.States.{Scene, Sealing, IsFaithful, content, controller_hears}

-- a body that says a message between members was sealed from that message, whatever can be spelled
abbrev pub IsTrueToMembers : {B : Type 0} → Sealing B → Type 0
IsTrueToMembers sealing =
    (m : Message) (said : VrMessage) → sealing.spelled way.Vr (sealing.sealed m) ≡ unsealed.Message (message.Vr said) → m ≡ message.Vr said

-- the event that a controller draws, if it draws one, can be spelled in a log
abbrev pub DrawsValidEvent : {B : Type 0} → Scene B → JournalEntry B → Option (Packet B) → Type 0
DrawsValidEvent scene (Draw (actor.Controller c) id keep) (Some p) = HasValidEvent (controller_hears p.from (content scene.sealing p))
DrawsValidEvent scene _ _ = ⊤

-- so it is of each entry of a past
abbrev pub DrawsValidEvents : {B : Type 0} → Scene B → List (JournalEntry B) → Type 0
DrawsValidEvents scene [] = ⊤
DrawsValidEvents scene (e ∷ before) = DrawsValidEvent scene e (drawn e before) × DrawsValidEvents scene before

-- In a past, what a body says between members is what was sealed in it: since no body says another message, or since
-- valid messages are read again as they were, and each event that is drawn is valid, so that every message is.
pub data AreReadAsSealed {B : Type 0} (scene : Scene B) (past : List (JournalEntry B)) : Type 0 where
  Always : IsTrueToMembers scene.sealing → AreReadAsSealed scene past
  WhereValid : IsFaithful scene.sealing → DrawsValidEvents scene past → AreReadAsSealed scene past

-- a message that is its own body is true to members
abbrev pub OwnBodiesAreTrue : Type 0
OwnBodiesAreTrue = IsTrueToMembers (record { sealed = λ m. m; spelled = said_on; size = message_size })
