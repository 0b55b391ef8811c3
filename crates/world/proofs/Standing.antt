-- An actor goes on behind its own entries: it posts what it owes, rests, takes what it hears, or is refused that.
use Rattle.std.proofs.Common.{◌≡◌, ℕ, List, [], ◌∷◌, refl, sym, ◌∙◌, ap, subst}
use Rattle.std.specs.Prelude.{Option}
use Rattle.list_facts.specs.Fold.{ActorRules, ActorStanding, standing_on}
use Rattle.journal.specs.declared.journal.Actor.{Actor}
use Rattle.journal.specs.declared.journal.JournalEntry.{JournalEntry}
use Rattle.journal.specs.declared.journal.JournalEntry.TheVariants.{Post, Draw, Lose, Local, Idle, Refused}
use Rattle.journal.specs.declared.journal.Letter.{Letter}
use Rattle.journal.specs.declared.journal.Packet.{Packet}
use Rattle.run_spec.specs.declared.messages.Message.{Message}
use Rattle.run_spec.specs.Inputs.{IsInput, By_draw, By_local}
use Rattle.run_spec.specs.Legal.{EntryFits}
use Rattle.run_spec.specs.States.{Sealing, Speech, actor_at, sealed_letters, step_of}
use Rattle.world.specs.World.{IsOwed}
use Rattle.world.specs.Standing.{WorldStands}

-- where nothing is sealed, nothing is said
pub none_said : {A B : Type 0} (sealing : Sealing B) (said : A → Message) (says : List (Letter A)) (ls : List (Letter B)) → ls ≡ sealed_letters said sealing says → ls ≡ [] → says ≡ []
none_said sealing said [] ls is none = refl
none_said sealing said (l ∷ says) ls is none = cc

-- an entry at which an actor takes or posts nothing
abbrev pub IsIdle : {B : Type 0} → JournalEntry B → Type 0
IsIdle (Lose a id) = Unit {0}
IsIdle (Idle a) = Unit {0}
IsIdle (Post a first letters lost) = ⊥
IsIdle (Draw a id keep) = ⊥
IsIdle (Local a input) = ⊥
IsIdle (Refused a) = ⊥

module _ {B S I A : Type 0} (rules : ActorRules S I (Letter A)) (speech : Speech I A) (sealing : Sealing B) (start : S) (own : List (JournalEntry B × Option (Packet B))) where
  abbrev was : ActorStanding S (Letter A)
  was = actor_at rules speech sealing start own

  abbrev At : List (JournalEntry B × Option (Packet B)) → S → List (Letter B) → Type 0
  At entries state owed = WorldStands rules speech sealing start entries state owed

  -- it owes nothing that it says
  pub quiet : (state : S) → At own state [] → was.owed ≡ []
  quiet state h = none_said sealing speech.said was.owed [] h.owes.sealed refl

  -- what it owes is posted
  pub posts : (state : S) (l : Letter B) (ls : List (Letter B)) (a : Actor) (first lost : ℕ) (found : Option (Packet B)) →
      At own state (l ∷ ls) → At ((Post a first (l ∷ ls) lost, found) ∷ own) state []
  posts state l ls a first lost found h = record {
    typed = (tt, h.typed);
    finds = h.finds;
    sound = ((h.owes.sealed, (λ e. cc), h.owes.typed), h.sound);
    state_is = h.state_is;
    owes = record { sealed = refl; typed = tt };
  }

  -- it takes and posts nothing
  pub rests : (state : S) (e : JournalEntry B) (found : Option (Packet B)) → IsIdle e → At own state [] → At ((e, found) ∷ own) state []
  rests state (Lose a id) found idle h = record { typed = (tt, h.typed); finds = h.finds; sound = (quiet state h, h.sound); state_is = h.state_is; owes = h.owes }
  rests state (Idle a) found idle h = record { typed = (tt, h.typed); finds = h.finds; sound = (quiet state h, h.sound); state_is = h.state_is; owes = h.owes }
  rests state (Post a first letters lost) found idle h = absurd idle
  rests state (Draw a id keep) found idle h = absurd idle
  rests state (Local a input) found idle h = absurd idle
  rests state (Refused a) found idle h = absurd idle

  -- an input is taken by the rule
  pub input_taken : (e : JournalEntry B) (found : Option (Packet B)) (x : I) → IsInput speech sealing e found x → standing_on rules was (step_of speech sealing e found) ≡ rules.takes was x
  input_taken e found x (By_draw a id keep p is finds says) = rw (is, finds, says) refl
  input_taken e found x (By_local a input is says) = rw (is, says) refl

  -- it takes what it hears
  pub takes : (state : S) (e : JournalEntry B) (found : Option (Packet B)) (x : I) (new : S) (owed : List (Letter B)) → IsInput speech sealing e found x → EntryFits e → At own state [] →
      new ≡ (rules.takes was x).now → IsOwed speech.said sealing (rules.takes was x).owed owed → At ((e, found) ∷ own) new owed
  takes state e found x new owed (By_draw a id keep p is finds says) typed h new_is owes =
      rw (is, finds) (record {
        typed = (tt, h.typed);
        finds = h.finds;
        sound = (quiet state h, h.sound);
        state_is = new_is ∙ ap (λ (i : I). (rules.takes was i).now) says;
        owes = subst (λ (i : I). IsOwed speech.said sealing (rules.takes was i).owed owed) says owes;
      })
  takes state e found x new owed (By_local a input is says) typed h new_is owes =
      rw is (record {
        typed = (rw is at typed, h.typed);
        finds = h.finds;
        sound = (quiet state h, h.sound);
        state_is = new_is ∙ ap (λ (i : I). (rules.takes was i).now) says;
        owes = subst (λ (i : I). IsOwed speech.said sealing (rules.takes was i).owed owed) says owes;
      })

  -- what it hears is refused
  pub refuses : (state : S) (e : JournalEntry B) (found nothing : Option (Packet B)) (x : I) (a : Actor) → IsInput speech sealing e found x → EntryFits e → At own state [] →
      (rules.takes was x).before ≡ was.now → At ((Refused a, nothing) ∷ (e, found) ∷ own) (rules.refused state) []
  refuses state e found nothing x a (By_draw b id keep p is finds says) typed h before =
      rw (is, finds) (record {
        typed = (tt, (tt, h.typed));
        finds = h.finds;
        sound = (tt, (quiet state h, h.sound));
        state_is = ap rules.refused (h.state_is ∙ sym before ∙ ap (λ (i : I). (rules.takes was i).before) says);
        owes = record { sealed = refl; typed = tt };
      })
  refuses state e found nothing x a (By_local b input is says) typed h before =
      rw is (record {
        typed = (tt, (rw is at typed, h.typed));
        finds = h.finds;
        sound = (tt, (quiet state h, h.sound));
        state_is = ap rules.refused (h.state_is ∙ sym before ∙ ap (λ (i : I). (rules.takes was i).before) says);
        owes = record { sealed = refl; typed = tt };
      })
