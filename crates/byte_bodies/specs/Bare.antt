-- Runs over messages, and the same runs over the bytes of their messages.
use Rattle.std.specs.Prelude.{ℕ, List, map}
use Rattle.of_types.specs.declared.setup.Setup.{Setup}
use Rattle.journal.specs.declared.journal.JournalEntry.{JournalEntry}
use Rattle.journal.specs.declared.journal.JournalEntry.TheVariants.{Post, Draw, Lose, Local, Idle, Refused}
use Rattle.journal.specs.declared.journal.Letter.{Letter}
use Rattle.journal.specs.declared.journal.Packet.{Packet}
use Rattle.byte_bodies.specs.Typed.{Typed}
use Rattle.run_spec.specs.Bodies.{byte_bodies, message_bytes}
use Rattle.run_spec.specs.Messages.{message_size, said_on}
use Rattle.run_spec.specs.States.{Scene, Sealing}

-- a body that is its message
abbrev pub typed_bodies : Sealing Typed
typed_bodies = record { sealed = λ m. record { message = m }; spelled = λ way t. said_on way t.message; size = λ t. message_size t.message }

-- the runs of a setup with applications of these kinds, over messages and over bytes
abbrev pub scene_typed : List ℕ → Setup → Scene Typed
scene_typed kinds setup = record { setup = setup; kinds = kinds; sealing = typed_bodies }

abbrev pub scene_bytes : List ℕ → Setup → Scene (List ℕ)
scene_bytes kinds setup = record { setup = setup; kinds = kinds; sealing = byte_bodies }

-- letters, packets and journals with each body as its bytes
abbrev pub bare_letters : List (Letter Typed) → List (Letter (List ℕ))
bare_letters letters = map (λ l. record { to = l.to; body = message_bytes l.body.message }) letters

abbrev pub bare_packet : Packet Typed → Packet (List ℕ)
bare_packet p = record { id = p.id; from = p.from; to = p.to; body = message_bytes p.body.message }

abbrev pub bare_entry : JournalEntry Typed → JournalEntry (List ℕ)
bare_entry (Post actor first letters lost) = Post actor first (bare_letters letters) lost
bare_entry (Draw actor id keep) = Draw actor id keep
bare_entry (Lose actor id) = Lose actor id
bare_entry (Local actor input) = Local actor input
bare_entry (Idle actor) = Idle actor
bare_entry (Refused actor) = Refused actor

abbrev pub bare : List (JournalEntry Typed) → List (JournalEntry (List ℕ))
bare entries = map (λ e. bare_entry e) entries
