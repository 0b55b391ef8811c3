-- A run that was played elsewhere is taken over.
use Rattle.std.proofs.Common.{◌≡◌, ℕ, List, [], refl}
use Rattle.std.specs.Prelude.{Option, None}
use Rattle.journal.specs.declared.journal.Actor.{Actor}
use Rattle.journal.specs.declared.journal.Actor.TheVariants as actor
use Rattle.journal.specs.declared.journal.Letter.{Letter}
use Rattle.journal.specs.Part.{part}
use Rattle.journal.specs.Pool.{past}
use Rattle.app_core.specs.Law.{AppLaw}
use Rattle.run_spec.specs.declared.messages.Message.{Message}
use Rattle.run_spec.specs.Legal.{results_of}
use Rattle.run_spec.specs.States.{Sealing, controller_at, controller_message, switch_at, switch_message}
use Rattle.world.specs.Debts.{Debt}
use Rattle.world.specs.World.{Holds, IsOwed, IsPlayed, Worlding, debt_of, results_in, scene_in}

-- where nothing is owed, nothing was said
no_debt : {A B : Type 0} (said : A → Message) (sealing : Sealing B) (owed : Option (Debt B)) (a : Actor) (says : List (Letter A)) → owed ≡ None → says ≡ [] →
    IsOwed said sealing says (debt_of owed a)
no_debt said sealing owed a says rests none = rw (rests, none) (record { sealed = refl; typed = tt })

pub played_holds : {B A : Type 0} (law : AppLaw A) (sealing : Sealing B) (w : Worlding B A) (kinds : List ℕ) → w.owed ≡ None →
    IsPlayed law sealing w kinds → Holds law sealing w kinds
played_holds law sealing w kinds rests p = record {
  run = record {
    setup = p.setup;
    legal = p.legal;
    group = p.group;
    count = p.count;
    controllers = p.controllers;
    switches = p.switches;
    controller_debts = λ c within. no_debt controller_message sealing w.owed (actor.Controller c)
        (controller_at (scene_in sealing w kinds) (results_of (results_in w.controllers) c) c (part (actor.Controller c) (past w.journal))).owed rests (p.controllers_rest c within);
    switch_debts = λ s within. no_debt switch_message sealing w.owed (actor.Switch s) (switch_at (scene_in sealing w kinds) s (part (actor.Switch s) (past w.journal))).owed rests (p.switches_rest s within);
    debtor = rw rests tt;
  };
  few = p.few;
}
