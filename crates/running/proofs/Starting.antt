-- Actors as they start stand behind no entries.
use Rattle.std.proofs.Common.{◌≡◌, ℕ, List, [], length, refl, ap}
use Rattle.std.specs.Prelude.{Option}
use Rattle.of_types.specs.declared.setup.Setup.{Setup}
use Rattle.journal.specs.declared.journal.Actor.{Actor}
use Rattle.journal.specs.declared.journal.Actor.TheVariants as actor
use Rattle.journal.specs.declared.journal.JournalEntry.{JournalEntry}
use Rattle.journal.specs.declared.journal.Letter.{Letter}
use Rattle.journal.specs.declared.journal.Packet.{Packet}
use Rattle.journal.specs.declared.journal.Turn.{Turn}
use Rattle.of_switch.specs.State.{starting_switch}
use Rattle.group_controller.specs.Turns.{Controlling, pair_in, state_of}
use Rattle.run_spec.specs.States.{Sealing}
use Rattle.world.specs.World.{IsNew}
use Rattle.world.proofs.Stables.{unsaved_told}
use Rattle.shared_wire.specs.Places.{fresh, TableId}
use Rattle.running.specs.Jobs.{PlaysOn}
use Rattle.running.specs.Playing.{ServedPlays, SwitchPlays}
use Rattle.app_core.specs.Law.{AppLaw}
use Rattle.journal.specs.Stables.{Saving}

module _ {B : Type 0} (sealing : Sealing B) (setup : Setup) (kinds : List ℕ) where
  pub switch_fresh : (s : ℕ) → SwitchPlays sealing setup kinds (actor.Switch s) (starting_switch s setup) [] (starting_switch s setup) []
  switch_fresh s = record { number = s; is = refl; stands = record { typed = tt; finds = tt; sound = tt; state_is = refl; owes = record { sealed = refl; typed = tt } } }

  pub served_fresh : {A W : Type 0} (law : AppLaw A) (saving : Saving W) (c : ℕ) (x : Controlling A) (stable : W) →
      IsNew law setup kinds c x → saving.pair stable ≡ pair_in (state_of x) →
      ServedPlays law saving sealing setup kinds (actor.Controller c) (record { controller = x; stable = stable }) [] (record { controller = x; stable = stable }) []
  served_fresh law saving c x stable new stands = record {
    number = c;
    is = refl;
    pair_is = stands;
    told = unsaved_told (saving.faults stable) x.results;
    stands = record {
      keeps = new.keeps;
      setup_is = new.setup_is;
      me_is = new.me;
      saves = ap length new.unsaved;
      stands = record { typed = tt; finds = tt; sound = tt; state_is = new.state; owes = record { sealed = refl; typed = tt } };
    };
  }

-- a job at a fresh place has taken no step
pub job_fresh : {B G P : Type 0} (plays : List (JournalEntry B × Option (Packet B)) → P → List (Letter B) → Type 0) (steps : List Turn) (board : TableId) (a : Actor) (player : P) →
    plays [] player [] → PlaysOn {G = G} plays steps 0 (record { place = fresh board a; player = player; owed = [] })
job_fresh plays steps board a player h = record { plays_it = h; takes = tt; count = refl }
