-- Runs over messages are runs over bytes, and the other way round.
use Rattle.std.proofs.Common.{◌≡◌, ℕ, List, [], ◌∷◌, map, refl, sym, ◌∙◌, ap, subst}
use Rattle.std.specs.List.{AllByRecursion}
use Rattle.of_types.specs.declared.setup.Setup.{Setup}
use Rattle.of_types.specs.Setups.{IsSetup}
use Rattle.journal.specs.declared.journal.Actor.{Actor}
use Rattle.journal.specs.declared.journal.JournalEntry.{JournalEntry}
use Rattle.journal.specs.declared.journal.JournalEntry.TheVariants.{Post, Draw, Lose, Local, Idle, Refused}
use Rattle.journal.specs.declared.journal.Letter.{Letter}
use Rattle.journal.specs.declared.journal.SaveResult.{SaveResult}
use Rattle.journal.specs.Part.{part}
use Rattle.journal.specs.Pool.{pool}
use Rattle.journal.specs.Turns.{entry_of}
use Rattle.journal.specs.declared.journal.Actor.TheVariants as actor
use Rattle.list_facts.proofs.Elements.{all_in}
use Rattle.byte_bodies.specs.Typed.{Typed}
use Rattle.run_spec.specs.declared.messages.Message.{Message}
use Rattle.run_spec.specs.declared.messages.Message.TheVariants as message
use Rattle.run_spec.specs.declared.messages.Unsealed.{Unsealed}
use Rattle.run_spec.specs.declared.messages.Unsealed.TheVariants as unsealed
use Rattle.run_spec.specs.declared.messages.Way.{Way}
use Rattle.run_spec.specs.Bodies.{byte_bodies, bytes_said, message_bytes}
use Rattle.run_spec.specs.Legal.{IsPossible}
use Rattle.run_spec.specs.Messages.{FitsMessage, IsValidMessage, way_of, way_of_message}
use Rattle.run_spec.specs.Committed.{decided}
use Rattle.run_spec.specs.Legal.{results_of}
use Rattle.run_spec.specs.States.{IsFaithful, controller_at, switch_at}
use Rattle.run_spec.proofs.Bodies.{bytes_again, own_again}
use Rattle.run_spec.proofs.Pasts.{possible_before}
use Rattle.byte_bodies.specs.Bare.{bare, bare_entry, bare_letters, bare_packet, scene_bytes, scene_typed, typed_bodies}
use Rattle.byte_bodies.specs.SameSteps.{AreRunsOverBytes, AreRunsOverMessages, IsAsBytes}
use Rattle.byte_bodies.proofs.Carrying.{carried, carried_entry, carried_letters, pool_carried, turn_carried}
use Rattle.byte_bodies.proofs.Carried.{Says, content_same, controller_same, decided_same, packet_says, possible_same, post_says, switch_same}
use Rattle.byte_bodies.proofs.Sizes.{bytes_sized}

pub typed_again : IsFaithful typed_bodies
typed_again = own_again

-- ---- from messages to their bytes

abbrev spell : Way → Typed → List ℕ
spell way t = message_bytes t.message

spell_made : (m : Message) → IsValidMessage m → FitsMessage m → spell (way_of_message m) (typed_bodies.sealed m) ≡ byte_bodies.sealed m
spell_made m valid fits = refl

-- what is carried is bare
pub entry_bare : (e : JournalEntry Typed) → carried_entry spell e ≡ bare_entry e
entry_bare (Post a first letters lost) = refl
entry_bare (Draw a id keep) = refl
entry_bare (Lose a id) = refl
entry_bare (Local a input) = refl
entry_bare (Idle a) = refl
entry_bare (Refused a) = refl

pub journal_bare : (entries : List (JournalEntry Typed)) → carried spell entries ≡ bare entries
journal_bare [] = refl
journal_bare (e ∷ before) = ap (λ (x : JournalEntry (List ℕ)). x ∷ carried spell before) (entry_bare e) ∙ ap (λ (l : List (JournalEntry (List ℕ))). bare_entry e ∷ l) (journal_bare before)

module _ (kinds : List ℕ) (setup : Setup) (results : List (List SaveResult)) (entries : List (JournalEntry Typed)) (is_setup : IsSetup setup) (possible : IsPossible (scene_typed kinds setup) results entries) where
  -- what is said of the entries that are carried is said of the bare ones
  of_bare : (P : List (JournalEntry (List ℕ)) → Type 0) → P (carried spell entries) → P (bare entries)
  of_bare P h = subst P (journal_bare entries) h

  as_bytes : IsAsBytes kinds setup results entries
  as_bytes = record {
    possible = of_bare (λ l. IsPossible (scene_bytes kinds setup) results l) (possible_same typed_bodies byte_bodies spell typed_again bytes_again spell_made (λ m valid fits. bytes_sized m valid fits) kinds setup is_setup results entries possible);
    switches = λ s. of_bare (λ l. switch_at (scene_bytes kinds setup) s (part (actor.Switch s) l) ≡ switch_at (scene_typed kinds setup) s (part (actor.Switch s) entries))
        (switch_same typed_bodies byte_bodies spell typed_again bytes_again spell_made (λ m valid fits. bytes_sized m valid fits) kinds setup is_setup results s entries possible);
    controllers = λ c. of_bare (λ l. controller_at (scene_bytes kinds setup) (results_of results c) c (part (actor.Controller c) l) ≡ controller_at (scene_typed kinds setup) (results_of results c) c (part (actor.Controller c) entries))
        (controller_same typed_bodies byte_bodies spell typed_again bytes_again spell_made (λ m valid fits. bytes_sized m valid fits) kinds setup is_setup results c entries possible);
    waiting = of_bare (λ l. pool l ≡ map (λ p. bare_packet p) (pool entries)) (pool_carried spell entries);
    said = λ p among. content_same typed_bodies byte_bodies spell typed_again bytes_again spell_made (λ m valid fits. bytes_sized m valid fits) kinds setup is_setup results p (packet_says typed_bodies typed_again kinds setup is_setup results entries possible p among);
    turns = λ t. of_bare (λ l. entry_of t l ≡ bare_entry (entry_of t entries)) (turn_carried spell t entries ∙ entry_bare (entry_of t entries));
    decided_is = of_bare (λ l. decided (scene_bytes kinds setup) results l ≡ decided (scene_typed kinds setup) results entries)
        (decided_same typed_bodies byte_bodies spell typed_again bytes_again spell_made (λ m valid fits. bytes_sized m valid fits) kinds setup is_setup results entries possible);
  }

pub over_bytes : AreRunsOverBytes
over_bytes kinds setup results entries is_setup possible = as_bytes kinds setup results entries is_setup possible

-- ---- from bytes to the messages that they say

-- bytes that say nothing stand for any message
abbrev said_in : Unsealed → Message
said_in (unsealed.Message m) = m
said_in (unsealed.Malformed kind code xid head) = message.Frame 0 []

abbrev read : Way → List ℕ → Typed
read way bytes = record { message = said_in (bytes_said way bytes) }

read_made : (m : Message) → IsValidMessage m → FitsMessage m → read (way_of_message m) (byte_bodies.sealed m) ≡ typed_bodies.sealed m
read_made m valid fits = ap (λ (u : Unsealed). record { message = said_in u }) (bytes_again m valid fits)

-- what a letter says is spelled as it was
letter_spelled : (a : Actor) (l : Letter (List ℕ)) → Says byte_bodies a l.to l.body → message_bytes (said_in (bytes_said (way_of a l.to) l.body)) ≡ l.body
letter_spelled a l s =
    ap (λ (w : Way). message_bytes (said_in (bytes_said w l.body))) s.way
    ∙ ap (λ (b : List ℕ). message_bytes (said_in (bytes_said (way_of_message s.message) b))) s.body_is
    ∙ ap (λ (u : Unsealed). message_bytes (said_in u)) (bytes_again s.message s.valid s.fits)
    ∙ sym s.body_is

letters_spelled : (a : Actor) (letters : List (Letter (List ℕ))) → AllByRecursion (λ l. Says byte_bodies a l.to l.body) letters → letters ≡ bare_letters (carried_letters read a letters)
letters_spelled a [] h = refl
letters_spelled a (l ∷ letters) (here, h) =
    ap (λ (b : List ℕ). record { to = l.to; body = b } ∷ letters) (sym (letter_spelled a l here))
    ∙ ap (λ (ls : List (Letter (List ℕ))). record { to = l.to; body = message_bytes (said_in (bytes_said (way_of a l.to) l.body)) } ∷ ls) (letters_spelled a letters h)

module _ (kinds : List ℕ) (setup : Setup) (results : List (List SaveResult)) (is_setup : IsSetup setup) where
  entry_spelled : (e : JournalEntry (List ℕ)) (before : List (JournalEntry (List ℕ))) → IsPossible (scene_bytes kinds setup) results (e ∷ before) → e ≡ bare_entry (carried_entry read e)
  entry_spelled (Post a first letters lost) before possible =
      ap (λ (ls : List (Letter (List ℕ))). Post a first ls lost)
      (letters_spelled a letters (all_in (λ l. Says byte_bodies a l.to l.body) letters (post_says byte_bodies bytes_again kinds setup is_setup results a first letters lost before possible)))
  entry_spelled (Draw a id keep) before possible = refl
  entry_spelled (Lose a id) before possible = refl
  entry_spelled (Local a input) before possible = refl
  entry_spelled (Idle a) before possible = refl
  entry_spelled (Refused a) before possible = refl

  journal_spelled : (entries : List (JournalEntry (List ℕ))) → IsPossible (scene_bytes kinds setup) results entries → entries ≡ bare (carried read entries)
  journal_spelled [] possible = refl
  journal_spelled (e ∷ before) possible =
      ap (λ (x : JournalEntry (List ℕ)). x ∷ before) (entry_spelled e before possible)
      ∙ ap (λ (l : List (JournalEntry (List ℕ))). bare_entry (carried_entry read e) ∷ l) (journal_spelled before (possible_before (scene_bytes kinds setup) results e before possible))

pub over_messages : AreRunsOverMessages
over_messages kinds setup results entries is_setup possible = (
  carried read entries,
  possible_same byte_bodies typed_bodies read bytes_again typed_again read_made (λ m valid fits. sym (bytes_sized m valid fits)) kinds setup is_setup results entries possible,
  journal_spelled kinds setup results is_setup entries possible,
)
