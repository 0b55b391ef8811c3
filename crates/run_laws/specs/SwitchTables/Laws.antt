-- The table of a switch, told by what the switch did.
use Rattle.std.specs.Prelude.{◌≡◌, ◌<◌, ℕ, ◌-◌, ◌^◌, true, List, [], slice_index_or}
use Rattle.list_facts.specs.Fold.{ActorRules, ActorStanding}
use Rattle.journal.specs.declared.journal.JournalEntry.{JournalEntry}
use Rattle.journal.specs.declared.journal.Letter.{Letter}
use Rattle.journal.specs.declared.journal.Packet.{Packet}
use Rattle.std.specs.Prelude.{Option}
use Rattle.flow_clock.specs.History.{Act, deeds_of, leaving_after}
use Rattle.flow_clock.specs.Clocked.{clock_told}
use Rattle.flow_clock.specs.Holding.{clocked_of}
use Rattle.of_switch.specs.declared.says.SwitchInput.{SwitchInput}
use Rattle.of_switch.specs.declared.says.SwitchSays.{SwitchSays}
use Rattle.of_switch.specs.State.{SwitchState, starting_switch}
use Rattle.of_switch.specs.Rules.{switch_turn}
use Rattle.run_spec.specs.States.{Scene, actor_at, switch_at, switch_speech}
use Rattle.run_laws.specs.SwitchTables.Acts.{acts_then}
use Rattle.run_laws.specs.SwitchTables.Changes.{latest_commands, ComesOf}

-- a switch beside what it did with its table in its present life, the latest first
pub record Doing : Type 0 where
  pub state : SwitchState
  pub acts : List Act

abbrev pub DoingAt : Type 0
DoingAt = ActorStanding Doing (Letter SwitchSays)

abbrev pub doing_took : DoingAt → SwitchInput → DoingAt
doing_took w input =
    record w {
      now = record { state = (switch_turn w.now.state input).state; acts = acts_then w.now.state input w.now.acts };
      before = w.now;
      owed = (switch_turn w.now.state input).letters;
      fresh = true;
      saves_before = w.saves;
    }

-- an input that is refused was not taken
abbrev pub doing_rules : ActorRules Doing SwitchInput (Letter SwitchSays)
doing_rules = record { takes = λ w input. doing_took w input; refused = λ doing. doing }

-- a switch after its part of a journal, beside what it did
abbrev pub doing_at : {B : Type 0} → Scene B → ℕ → List (JournalEntry B × Option (Packet B)) → DoingAt
doing_at scene s own = actor_at doing_rules switch_speech scene.sealing (record { state = starting_switch s scene.setup; acts = [] }) own

-- what a switch did with its table in its present life, by the end of its part
abbrev pub acts_of : {B : Type 0} → Scene B → ℕ → List (JournalEntry B × Option (Packet B)) → List Act
acts_of scene s own = (doing_at scene s own).now.acts

-- The table of a switch is what it did in its present life makes of the opening one. The rows that leave it at its next tick,
-- each with its reason and counts, are those by what it did, below the end of the clock's numbers. And what it did comes of
-- the commands that it carried out.
pub record IsTableTold {B : Type 0} (scene : Scene B) (s : ℕ) (own : List (JournalEntry B × Option (Packet B))) : Type 0 where
  pub same : (doing_at scene s own).now.state ≡ (switch_at scene s own).now
  pub table : (switch_at scene s own).now.table ≡ clocked_of (acts_of scene s own)
  pub told : (switch_at scene s own).now.table.clock < 2 ^ 64 - 1 → clock_told (switch_at scene s own).now.table ≡ leaving_after (deeds_of (acts_of scene s own))
  pub changes : ComesOf (slice_index_or scene.setup.ports s 0) (latest_commands (switch_at scene s own).now) (acts_of scene s own)
