-- The events that controllers draw can be spelled in a log, where what waits tells the truth.
use Rattle.std.proofs.Common.{ℕ, List, [], ◌∷◌, suc, sym, subst, arith, drop}
use Rattle.std.specs.Prelude.{Option}
use Rattle.of_types.specs.declared.message.Extension.TheVariants as extension
use Rattle.of_types.specs.declared.message.Spoken.TheVariants as spoken
use Rattle.of_types.specs.declared.setup.Setup.{Setup}
use Rattle.journal.specs.declared.journal.Actor.TheVariants as actor
use Rattle.journal.specs.declared.journal.JournalEntry.{JournalEntry}
use Rattle.journal.specs.declared.journal.JournalEntry.TheVariants.{Post, Draw, Lose, Local, Idle, Refused}
use Rattle.journal.specs.declared.journal.Packet.{Packet}
use Rattle.journal.specs.declared.journal.SaveResult.{SaveResult}
use Rattle.journal.specs.Part.{drawn}
use Rattle.group_controller.specs.declared.messages.ControllerInput.{ControllerInput}
use Rattle.group_controller.specs.declared.messages.ControllerInput.TheVariants as controller_input
use Rattle.controller_moves.specs.Spelling.{HasValidEvent}
use Rattle.run_spec.specs.States.{Scene, content, controller_hears}
use Rattle.run_spec.specs.Legal.{IsPossible}
use Rattle.run_laws.specs.RunAgreement.Reading.{DrawsValidEvent, DrawsValidEvents}
use Rattle.run_laws.specs.OnceLaws.Facts.{PastFacts, facts_of}
use Rattle.run_laws.specs.OnceLaws.Invariant.{HoldsOfRun, IsHeardByController}
use Rattle.run_spec.proofs.Pasts.{possible_before}
use Rattle.run_spec.proofs.Pools.{drawn_found}
use Rattle.run_laws.proofs.OnceLaws.Packets.{heard_by_controller, happening_short, happening_valid}

heard_valid : (kinds : List ℕ) (setup : Setup) (f : PastFacts) (x : ControllerInput) → IsHeardByController kinds setup f x → HasValidEvent x
heard_valid kinds setup f (controller_input.Local input) h = tt
heard_valid kinds setup f (controller_input.Of s xid (spoken.Plain m)) h = tt
heard_valid kinds setup f (controller_input.Of s xid (spoken.Ravana (extension.Event life number what))) h = let short = happening_short what h.1.1 in (omega (arith, short), happening_valid what h.1.1)
heard_valid kinds setup f (controller_input.Of s xid (spoken.Ravana (extension.EventAck life through))) h = tt
heard_valid kinds setup f (controller_input.Of s xid (spoken.Ravana (extension.Command life generation number settled order))) h = tt
heard_valid kinds setup f (controller_input.Of s xid (spoken.Ravana (extension.CmdAck life number outcome))) h = tt
heard_valid kinds setup f (controller_input.Of s xid (spoken.Ravana (extension.Clear life through))) h = tt
heard_valid kinds setup f (controller_input.Malformed from) h = tt
heard_valid kinds setup f (controller_input.Vr from m) h = tt

module _ {B : Type 0} (scene : Scene B) (results : List (List SaveResult)) where
  draws_valid : (e : JournalEntry B) (before : List (JournalEntry B)) → IsPossible scene results (e ∷ before) → HoldsOfRun scene results before → DrawsValidEvent scene e (drawn e before)
  draws_valid (Draw (actor.Controller c) id keep) before legal holds =
      let r = drawn_found scene.sealing.size (actor.Controller c) id keep before legal.orderly in
      subst (λ (q : Option (Packet B)). DrawsValidEvent scene (Draw (actor.Controller c) id keep) q) (sym r.found)
      (heard_valid scene.kinds scene.setup (facts_of scene results before) (controller_hears r.packet.from (content scene.sealing r.packet))
      (heard_by_controller scene.kinds scene.setup (facts_of scene results before) c r.packet.from r.packet.to (content scene.sealing r.packet) r.goes_to (holds.packets r.packet r.among)))
  draws_valid (Draw (actor.Switch s) id keep) before legal holds = tt
  draws_valid (Post a first letters lost) before legal holds = tt
  draws_valid (Local a input) before legal holds = tt
  draws_valid (Refused a) before legal holds = tt
  draws_valid (Lose a id) before legal holds = tt
  draws_valid (Idle a) before legal holds = tt

  pub events_valid : (entries : List (JournalEntry B)) → IsPossible scene results entries → ((i : ℕ) → HoldsOfRun scene results (drop (suc i) entries)) → DrawsValidEvents scene entries
  events_valid [] legal trust = tt
  events_valid (e ∷ before) legal trust = (draws_valid e before legal (trust 0), events_valid before (possible_before scene results e before legal) (λ i. trust (suc i)))
