-- What a turn leaves, and says to members, can be spelled.
use Rattle.std.proofs.Common.{ℕ, ◌+◌, List, [], ◌∷◌, sym, subst}
use Rattle.of_types.specs.declared.setup.Setup.{Setup}
use Rattle.journal.specs.declared.journal.Actor.{Actor}
use Rattle.journal.specs.declared.journal.Actor.TheVariants.{Controller, Switch}
use Rattle.journal.specs.declared.journal.Letter.{Letter}
use Rattle.journal.proofs.All.{all_append}
use Rattle.vr_log.specs.declared.entry.Entry.{Entry}
use Rattle.vr_log.specs.declared.message.VrLetter.{VrLetter}
use Rattle.vr_log.specs.declared.state.VrState.{VrState}
use Rattle.vr_log.specs.Sizes.{IsValidEntry}
use Rattle.vr_log.specs.Steps.{VrStep}
use Rattle.vr_normal.specs.Proposing.{proposed}
use Rattle.vr_recovery.specs.Recovering.{restarted}
use Rattle.vr_core.specs.Step.{vr_step}
use Rattle.controller_moves.specs.MemberMoves.Spelling.{CanBeSpelled, AreValidLetters, IsValidStep}
use Rattle.controller_moves.proofs.MemberMoves.Spelling as member
use Rattle.group_controller.specs.declared.messages.ControllerInput.{ControllerInput}
use Rattle.group_controller.specs.declared.messages.ControllerSays.{ControllerSays}
use Rattle.group_controller.specs.State.{ControllerState, Work, fresh, resting, stepped, to_members}
use Rattle.group_controller.specs.Rules.{controller_work}
use Rattle.controller_moves.specs.ControllerLaws.Moves.{member_input, IsProposed, Receives, Processes}
use Rattle.controller_moves.specs.Spelling.{IsValidTo, AreValidToMembers, HasValidEvent, CanBeHeard, IsValidWork, TurnsCanBeSpelled}
use Rattle.controller_moves.specs.Works.{IsToSwitch, AreToSwitches, Continues, Begins, Tells, Proposes, IsWorkOf, Rests, Steps, Crashes, Restarts}
use Rattle.controller_moves.proofs.Works.{works_law}
use Rattle.controller_moves.proofs.Turns.{proposal_fits}

abbrev Valid : Letter ControllerSays → Type 0
Valid l = IsValidTo l.to l.body

to_switch_valid : (to : Actor) (said : ControllerSays) → IsToSwitch to → IsValidTo to said
to_switch_valid (Controller j) said p = absurd p
to_switch_valid (Switch s) said p = tt

to_switches_valid : (ls : List (Letter ControllerSays)) → AreToSwitches ls → AreValidToMembers ls
to_switches_valid [] p = tt
to_switches_valid (x ∷ ls) p = (to_switch_valid x.to x.body p.0, to_switches_valid ls p.1)

to_members_valid : (ls : List VrLetter) → AreValidLetters ls → AreValidToMembers (to_members ls)
to_members_valid [] p = tt
to_members_valid (x ∷ ls) p = (p.0, to_members_valid ls p.1)

stepped_valid : (a : ControllerState) (step : VrStep) → IsValidStep step → IsValidWork (stepped a step)
stepped_valid a step p = record { state = p.state; letters = to_members_valid step.letters p.letters }

module _ (kinds : List ℕ) (setup : Setup) (x : ControllerInput) where
  -- what is proposed is an event that is heard, or that one is processed
  proposed_valid : (c : ControllerState) (entry : Entry) → HasValidEvent x → IsProposed kinds setup x c entry → IsValidEntry entry
  proposed_valid c entry valid (Receives s xid life number what asks may is) =
      subst (λ (e : Entry). IsValidEntry e) (sym is) (subst (λ (y : ControllerInput). HasValidEvent y) asks valid)
  proposed_valid c entry valid (Processes ready is) = subst (λ (e : Entry). IsValidEntry e) (sym is) tt

  continues_valid : (w w' : Work) → HasValidEvent x → IsValidWork w → Continues kinds setup x w w' → IsValidWork w'
  continues_valid w w' event p Begins = p
  continues_valid w w' event p (Tells {mid} on t) =
      let k = continues_valid w mid event p on in
      record {
        state = subst (λ (s : VrState). CanBeSpelled s) (sym t.vr) k.state;
        letters = subst (λ (ls : List (Letter ControllerSays)). AreValidToMembers ls) (sym t.letters) (all_append Valid mid.letters t.more k.letters (to_switches_valid t.more t.to_switches));
      }
  continues_valid w w' event p (Proposes {mid} entry on lead may room) =
      let k = continues_valid w mid event p on in
      let s : VrState = mid.state.vr in
      let good = proposed_valid mid.state entry event may in
      record {
        state = member.pushed_spelled s entry (proposed s entry).state.commit k.state good (proposal_fits kinds setup x mid.state entry may room);
        letters = all_append Valid mid.letters (to_members (proposed s entry).letters) k.letters (to_members_valid (proposed s entry).letters (member.others_valid s _ good));
      }

  work_valid : (s : VrState) (w : Work) → CanBeSpelled s → CanBeHeard x → IsWorkOf kinds setup s x w → IsValidWork w
  work_valid s w p heard (Rests a same on) = continues_valid (resting a) w heard.event (record { state = subst (λ (z : VrState). CanBeSpelled z) (sym same) p; letters = tt }) on
  work_valid s w p heard (Steps a on) =
      let step : VrStep = vr_step s (member_input x) in continues_valid (stepped a step) w heard.event (stepped_valid a step (member.spelling_law s (member_input x) p heard.message)) on
  work_valid s w p heard (Crashes asked) = record { state = member.down_spelled s.me s.controllers s.promise s.life; letters = tt }
  work_valid s w p heard (Restarts asked off) =
      let k = stepped_valid (fresh s) (restarted s.me s.controllers s.promise (s.life + 1)) (member.restarted_valid s.me s.controllers s.promise (s.life + 1)) in record { state = k.state; letters = k.letters }

pub spelling_law : TurnsCanBeSpelled
spelling_law kinds setup c x p heard = work_valid kinds setup x c.vr (controller_work kinds setup c x) p heard (works_law kinds setup c x)
