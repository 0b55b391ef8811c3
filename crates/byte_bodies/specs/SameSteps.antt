-- That a run over bytes takes the steps that the same run over messages takes.
use Rattle.std.specs.Prelude.{◌≡◌, ℕ, List, map}
use Rattle.of_types.specs.declared.setup.Setup.{Setup}
use Rattle.of_types.specs.Setups.{IsSetup}
use Rattle.journal.specs.declared.journal.Actor.{Actor}
use Rattle.journal.specs.declared.journal.Actor.TheVariants as actor
use Rattle.journal.specs.declared.journal.JournalEntry.{JournalEntry}
use Rattle.journal.specs.declared.journal.Packet.{Packet}
use Rattle.journal.specs.declared.journal.SaveResult.{SaveResult}
use Rattle.journal.specs.declared.journal.Turn.{Turn}
use Rattle.journal.specs.Actors.{IsActor}
use Rattle.journal.specs.Part.{part}
use Rattle.journal.specs.Pool.{past, pool}
use Rattle.journal.specs.Turns.{entry_of}
use Rattle.app_core.specs.Law.{AppLaw}
use Rattle.list_facts.specs.Lists.{IsIn}
use Rattle.group_controller.specs.Turns.{state_of}
use Rattle.byte_bodies.specs.Typed.{Typed}
use Rattle.run_spec.specs.Bodies.{byte_bodies}
use Rattle.run_spec.specs.Committed.{decided}
use Rattle.run_spec.specs.Legal.{IsPossible, results_of}
use Rattle.run_spec.specs.States.{content, controller_at, switch_at}
use Rattle.world.specs.World.{Holds, Worlding, debt_of, results_in}
use Rattle.byte_bodies.specs.Bare.{bare, bare_entry, bare_letters, bare_packet, scene_bytes, scene_typed, typed_bodies}

-- after a past over messages, and after it with each body as its bytes, each actor is at the same state and owes the same,
-- the same packets wait and say the same, each turn makes the same entry, and the same is decided
pub record IsAsBytes (kinds : List ℕ) (setup : Setup) (results : List (List SaveResult)) (entries : List (JournalEntry Typed)) : Type 0 where
  pub possible : IsPossible (scene_bytes kinds setup) results (bare entries)
  pub switches : (s : ℕ) → switch_at (scene_bytes kinds setup) s (part (actor.Switch s) (bare entries)) ≡ switch_at (scene_typed kinds setup) s (part (actor.Switch s) entries)
  pub controllers : (c : ℕ) → controller_at (scene_bytes kinds setup) (results_of results c) c (part (actor.Controller c) (bare entries))
      ≡ controller_at (scene_typed kinds setup) (results_of results c) c (part (actor.Controller c) entries)
  pub waiting : pool (bare entries) ≡ map (λ p. bare_packet p) (pool entries)
  pub said : (p : Packet Typed) → IsIn p (pool entries) → content byte_bodies (bare_packet p) ≡ content typed_bodies p
  pub turns : (turn : Turn) → entry_of turn (bare entries) ≡ bare_entry (entry_of turn entries)
  pub decided_is : decided (scene_bytes kinds setup) results (bare entries) ≡ decided (scene_typed kinds setup) results entries

-- each run over messages is one over their bytes
abbrev pub AreRunsOverBytes : Type 0
AreRunsOverBytes = (kinds : List ℕ) (setup : Setup) (results : List (List SaveResult)) (entries : List (JournalEntry Typed)) →
    IsSetup setup → IsPossible (scene_typed kinds setup) results entries → IsAsBytes kinds setup results entries

-- and there is no other over bytes
abbrev pub AreRunsOverMessages : Type 0
AreRunsOverMessages = (kinds : List ℕ) (setup : Setup) (results : List (List SaveResult)) (entries : List (JournalEntry (List ℕ))) →
    IsSetup setup → IsPossible (scene_bytes kinds setup) results entries →
    (said : List (JournalEntry Typed)) × IsPossible (scene_typed kinds setup) results said × (entries ≡ bare said)

-- a world over messages and one over bytes with the same journal, over the same setup and saves with the same results
pub record AreTwins {A : Type 0} (law : AppLaw A) (kinds : List ℕ) (said : Worlding Typed A) (spelled : Worlding (List ℕ) A) : Type 0 where
  pub over_messages : Holds law typed_bodies said kinds
  pub over_bytes : Holds law byte_bodies spelled kinds
  pub setup : spelled.setup ≡ said.setup
  pub journal : spelled.journal ≡ bare said.journal
  pub results : results_in spelled.controllers ≡ results_in said.controllers

-- take the same steps: their actors are at the same states and owe the same letters, and each turn makes the same entry
pub record TakeTheSameSteps {A : Type 0} (said : Worlding Typed A) (spelled : Worlding (List ℕ) A) : Type 0 where
  pub controllers : map (λ c. state_of c) spelled.controllers ≡ map (λ c. state_of c) said.controllers
  pub switches : spelled.switches ≡ said.switches
  pub owed : (a : Actor) → IsActor said.setup a → debt_of spelled.owed a ≡ bare_letters (debt_of said.owed a)
  pub turns : (turn : Turn) → entry_of turn (past spelled.journal) ≡ bare_entry (entry_of turn (past said.journal))

abbrev pub TwinsTakeTheSameSteps : {A : Type 0} → AppLaw A → Type 0
TwinsTakeTheSameSteps {A = A} law = (kinds : List ℕ) (said : Worlding Typed A) (spelled : Worlding (List ℕ) A) →
    AreTwins law kinds said spelled → TakeTheSameSteps said spelled
