-- What a switch did, and the commands that it comes of, stand beside what it is after each part of a journal.
use Rattle.std.proofs.Common.{◌≡◌, ℕ, List, [], ◌∷◌, refl, sym, ◌∙◌, ap, subst}
use Rattle.std.specs.Prelude.{slice_index_or, Option, map}
use Rattle.list_facts.specs.Fold.{Step, Takes, Posts, Refuses, Rests, actor_standing, standing_on}
use Rattle.journal.specs.declared.journal.JournalEntry.{JournalEntry}
use Rattle.journal.specs.declared.journal.Packet.{Packet}
use Rattle.flow_clock.specs.History.{deeds_of}
use Rattle.flow_clock.specs.Holding.{clocked_of}
use Rattle.flow_clock.proofs.Held.{told_of}
use Rattle.of_switch.specs.declared.says.SwitchInput.{SwitchInput}
use Rattle.of_switch.specs.State.{SwitchState, starting_switch}
use Rattle.of_switch.specs.Rules.{switch_turn}
use Rattle.run_spec.specs.States.{Scene, SwitchAt, switch_rules, switch_at, step_of, switch_speech}
use Rattle.run_laws.specs.SwitchTables.Acts.{acts_then}
use Rattle.run_laws.specs.SwitchTables.Changes.{latest_commands, ComesOf, Nothing_yet}
use Rattle.run_laws.specs.SwitchTables.Laws.{Doing, DoingAt, doing_rules, acts_of, IsTableTold}
use Rattle.run_laws.proofs.SwitchTables.Tables.{turn_does}
use Rattle.run_laws.proofs.SwitchTables.Commands.{Follows, turn_follows}

-- a switch beside what it did
record IsBeside (ports : ℕ) (doing : Doing) (state : SwitchState) : Type 0 where
  same : doing.state ≡ state
  table : doing.state.table ≡ clocked_of doing.acts
  follows : Follows ports doing.state doing.acts

record AreBeside (ports : ℕ) (w : DoingAt) (x : SwitchAt) : Type 0 where
  now : IsBeside ports w.now x.now
  before : IsBeside ports w.before x.before

module _ (ports : ℕ) where
  took : (doing : Doing) (state : SwitchState) (input : SwitchInput) → IsBeside ports doing state →
      IsBeside ports (record { state = (switch_turn doing.state input).state; acts = acts_then doing.state input doing.acts }) (switch_turn state input).state
  took doing state input is =
      record {
        same = ap (λ (s : SwitchState). (switch_turn s input).state) is.same;
        table = turn_does doing.state doing.acts is.table input;
        follows = turn_follows ports doing.state doing.acts is.table is.follows input;
      }

  on : (w : DoingAt) (x : SwitchAt) (step : Step SwitchInput) → AreBeside ports w x → AreBeside ports (standing_on doing_rules w step) (standing_on switch_rules x step)
  on w x (Takes input) are = record { now = took w.now x.now input are.now; before = are.now }
  on w x Posts are = record { now = are.now; before = are.before }
  on w x Refuses are = record { now = are.before; before = are.before }
  on w x Rests are = record { now = are.now; before = are.before }

  all_on : (doing : Doing) (state : SwitchState) (steps : List (Step SwitchInput)) → IsBeside ports doing state →
      AreBeside ports (actor_standing doing_rules doing steps) (actor_standing switch_rules state steps)
  all_on doing state [] is = record { now = is; before = is }
  all_on doing state (step ∷ steps) is = on _ _ step (all_on doing state steps is)

pub told : {B : Type 0} (scene : Scene B) (s : ℕ) (own : List (JournalEntry B × Option (Packet B))) → IsTableTold scene s own
told scene s own =
    let ports = slice_index_or scene.setup.ports s 0 in
    let start = starting_switch s scene.setup in
    let is =
    (all_on ports (record { state = start; acts = [] }) start (map (λ x. step_of switch_speech scene.sealing x.0 x.1) own)
    (record { same = refl; table = refl; follows = record { ports_are = refl; begun = tt; comes = Nothing_yet } })).now in
    let table = ap (λ (x : SwitchState). x.table) (sym is.same) ∙ is.table in
    record {
      same = is.same;
      table = table;
      told = λ below. told_of (switch_at scene s own).now.table (deeds_of (acts_of scene s own)) table below;
      changes = subst (λ (x : SwitchState). ComesOf ports (latest_commands x) (acts_of scene s own)) is.same is.follows.comes;
    }
