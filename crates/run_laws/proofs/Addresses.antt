-- The logs of controllers have events of the setup's switches alone, since they tell the truth.
use Rattle.std.proofs.Common.{◌<◌, ℕ, List}
use Rattle.of_types.specs.declared.setup.Setup.{Setup}
use Rattle.journal.specs.declared.journal.JournalEntry.{JournalEntry}
use Rattle.journal.specs.declared.journal.SaveResult.{SaveResult}
use Rattle.list_facts.proofs.Elements.{all_in}
use Rattle.list_facts.proofs.Places.{in_get}
use Rattle.vr_log.specs.declared.entry.Entry.{Entry}
use Rattle.vr_log.specs.declared.entry.Entry.TheVariants.{Received, Processed}
use Rattle.run_spec.specs.States.{Scene}
use Rattle.run_spec.specs.Committed.{controller_state}
use Rattle.run_laws.specs.AddressLaws.Addresses.{IsOfSwitch, AreOfSwitches}
use Rattle.run_laws.specs.OnceLaws.Facts.{PastFacts}
use Rattle.run_laws.specs.OnceLaws.Truths.{IsTrueEntry}
use Rattle.run_laws.specs.OnceLaws.Invariant.{Logged, HoldsOfRun}

of_switch : (kinds : List ℕ) (setup : Setup) (f : PastFacts) (i : ℕ) (e : Entry) → IsTrueEntry kinds setup f i e → IsOfSwitch setup e
of_switch kinds setup f i (Received event) h = h.there
of_switch kinds setup f i (Processed j) h = tt

pub logs_named : {B : Type 0} (scene : Scene B) (results : List (List SaveResult)) (entries : List (JournalEntry B)) → HoldsOfRun scene results entries →
    (c : ℕ) → c < scene.setup.controllers → AreOfSwitches scene.setup (controller_state scene results c entries).vr.log
logs_named scene results entries holds c there =
    all_in (λ e. IsOfSwitch scene.setup e) (controller_state scene results c entries).vr.log
    (λ e among.
    let at = in_get (controller_state scene results c entries).vr.log e among in
    of_switch scene.kinds scene.setup _ at.0 e ((holds.controllers c there).now.entries at.0 e (Logged at.1)))
