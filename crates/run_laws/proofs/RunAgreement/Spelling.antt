-- What controllers hold, and owe to members, can be spelled, after every possible past in which the events that are drawn can.
use Rattle.std.proofs.Common.{◌≡◌, ℕ, refl, List}
use Rattle.journal.specs.declared.journal.Actor.TheVariants as actor
use Rattle.journal.specs.declared.journal.JournalEntry.{JournalEntry}
use Rattle.journal.specs.declared.journal.Local.{Local}
use Rattle.journal.specs.declared.journal.Local.TheVariants as local
use Rattle.journal.specs.declared.journal.SaveResult.{SaveResult}
use Rattle.vr_log.specs.declared.message.VrMessage.{VrMessage}
use Rattle.controller_moves.specs.MemberMoves.Spelling.{CanBeSpelled, IsValidInput}
use Rattle.controller_moves.proofs.MemberMoves.Spelling.{down_spelled, starting_spelled}
use Rattle.group_controller.specs.declared.messages.ControllerInput.{ControllerInput}
use Rattle.group_controller.specs.declared.messages.ControllerInput.TheVariants as controller_input
use Rattle.group_controller.specs.declared.messages.ControllerSays.TheVariants as controller_says
use Rattle.group_controller.specs.State.{ControllerState}
use Rattle.group_controller.specs.Rules.{controller_work}
use Rattle.controller_moves.specs.ControllerLaws.Moves.{member_input}
use Rattle.controller_moves.specs.Spelling.{IsValidTo, CanBeHeard, IsValidWork}
use Rattle.controller_moves.proofs.Spelling as turn
use Rattle.run_spec.specs.States.{Scene, IsFaithful, controller_hears}
use Rattle.run_spec.specs.Legal.{EntryFits, IsPossible}
use Rattle.run_laws.specs.RunAgreement.Reading.{DrawsValidEvents}
use Rattle.run_laws.proofs.RunAgreement.Invariants.{IsInvariant, HoldsAfter, invariant_holds}

abbrev pub IsSpelled : ControllerState → Type 0
IsSpelled c = CanBeSpelled c.vr

heard_valid : (c : ℕ) (x : ControllerInput) → ((from : ℕ) (m : VrMessage) → x ≡ controller_input.Vr from m → IsValidTo (actor.Controller c) (controller_says.Vr m)) → IsValidInput (member_input x)
heard_valid c (controller_input.Vr from m) said = said from m refl
heard_valid c (controller_input.Local (local.Suspect view)) said = tt
heard_valid c (controller_input.Local what) said = tt
heard_valid c (controller_input.Of switch xid m) said = tt
heard_valid c (controller_input.Malformed from) said = tt

local_valid : (what : Local) → CanBeHeard (controller_input.Local what)
local_valid what = record { event = tt; message = heard_valid 0 (controller_input.Local what) (λ from m e. absurd cc) }

pub spelled_invariant : {B : Type 0} (scene : Scene B) → IsInvariant (λ (e : JournalEntry B). EntryFits e) scene.setup.controllers (λ c x. controller_work scene.kinds scene.setup c x) IsSpelled IsValidTo CanBeHeard
spelled_invariant scene = record {
  starts = λ c. starting_spelled c scene.setup.controllers;
  falls = λ c good. down_spelled c.vr.me c.vr.controllers c.vr.promise c.vr.life;
  turns = λ c x good heard.
      let w : IsValidWork (controller_work scene.kinds scene.setup c x) = turn.spelling_law scene.kinds scene.setup c x good heard in
      record { state = w.state; letters = w.letters; saves = λ pair e. down_spelled c.vr.me c.vr.controllers pair.0 pair.1 };
  valid = λ to said p. p;
  local = λ a what fits. local_valid what;
  heard = λ c from u event said. record { event = event; message = heard_valid c (controller_hears from u) said };
}

pub all_spelled : {B : Type 0} (scene : Scene B) (results : List (List SaveResult)) → (faithful : IsFaithful scene.sealing) → (past : List (JournalEntry B)) → IsPossible scene results past → DrawsValidEvents scene past
    → HoldsAfter scene results faithful (λ e. EntryFits e) IsSpelled IsValidTo CanBeHeard (spelled_invariant scene) past
all_spelled scene results faithful past legal valid = invariant_holds scene results faithful (λ e. EntryFits e) IsSpelled IsValidTo CanBeHeard (spelled_invariant scene) past legal valid legal.fits
