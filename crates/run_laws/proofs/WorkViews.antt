-- No turn of a controller leaves, saves or says to a member a view above those that it had, had promised or is told.
use Rattle.std.proofs.Common.{◌≡◌, ℕ, ◌+◌, ◌≤◌, Option, Some, None, List, [], ◌∷◌, sym, subst, arith}
use Rattle.std.specs.Prelude.{option_map}
use Rattle.std.specs.List.{AllByRecursion}
use Rattle.of_types.specs.declared.setup.Setup.{Setup}
use Rattle.journal.specs.declared.journal.Actor.{Actor}
use Rattle.journal.specs.declared.journal.Actor.TheVariants.{Controller, Switch}
use Rattle.journal.specs.declared.journal.Letter.{Letter}
use Rattle.journal.proofs.All.{all_append}
use Rattle.vr_log.specs.declared.message.VrLetter.{VrLetter}
use Rattle.vr_log.specs.declared.state.VrState.{VrState}
use Rattle.vr_log.specs.Steps.{VrStep}
use Rattle.vr_log.specs.Valid.{down_state}
use Rattle.vr_normal.specs.Proposing.{proposed}
use Rattle.vr_recovery.specs.Recovering.{restarted}
use Rattle.vr_core.specs.Step.{vr_step}
use Rattle.group_controller.specs.declared.messages.ControllerInput.{ControllerInput}
use Rattle.group_controller.specs.declared.messages.ControllerSays.{ControllerSays}
use Rattle.group_controller.specs.declared.messages.ControllerSays.TheVariants as controller_says
use Rattle.group_controller.specs.State.{ControllerState, Work, resting, stepped, to_members}
use Rattle.group_controller.specs.Rules.{controller_work}
use Rattle.controller_moves.specs.ControllerLaws.Moves.{member_input}
use Rattle.controller_moves.specs.ControllerLaws.Views.{view_of}
use Rattle.controller_moves.specs.Works.{IsToSwitch, AreToSwitches, Continues, Begins, Tells, Proposes, IsWorkOf, Rests, Steps, Crashes, Restarts}
use Rattle.controller_moves.proofs.Works.{works_law}
use Rattle.run_laws.proofs.StepViews.{IsStateUpTo, IsPromiseUpTo, AreLettersUpTo, IsStepUpTo, IsInputUpTo, step_up, proposed_up, restarted_up}

module _ (limit : ℕ) where
  -- a letter to a member tells no view above the limit
  abbrev pub IsSaidUpTo : Actor → ControllerSays → Type 0
  IsSaidUpTo (Controller j) (controller_says.Vr said) = view_of said ≤ limit
  IsSaidUpTo (Controller j) (controller_says.Of xid said) = Unit {0}
  IsSaidUpTo (Switch s) said = Unit {0}

  abbrev pub AreSaidUpTo : List (Letter ControllerSays) → Type 0
  AreSaidUpTo letters = AllByRecursion (λ l. IsSaidUpTo l.to l.body) letters

  -- what a turn leaves, saves and says to members
  pub record IsWorkUpTo (w : Work) : Type 0 where
    pub state : IsStateUpTo limit w.state.vr
    pub letters : AreSaidUpTo w.letters
    pub saves : (pair : ℕ × ℕ) → w.save ≡ Some pair → pair.0 ≤ limit

  pub down_up : (me controllers promise life : ℕ) → promise ≤ limit → IsStateUpTo limit (down_state me controllers promise life)
  down_up me controllers promise life h = (omega arith, h, tt)

  to_switch_up : (to : Actor) (said : ControllerSays) → IsToSwitch to → IsSaidUpTo to said
  to_switch_up (Controller j) said p = absurd p
  to_switch_up (Switch s) said p = tt

  to_switches_up : (ls : List (Letter ControllerSays)) → AreToSwitches ls → AreSaidUpTo ls
  to_switches_up [] p = tt
  to_switches_up (l ∷ ls) p = (to_switch_up l.to l.body p.0, to_switches_up ls p.1)

  to_members_up : (ls : List VrLetter) → AreLettersUpTo limit ls → AreSaidUpTo (to_members ls)
  to_members_up [] p = tt
  to_members_up (l ∷ ls) p = (p.0, to_members_up ls p.1)

  saved_up : (promise : Option ℕ) (life : ℕ) (pair : ℕ × ℕ) → IsPromiseUpTo limit promise → option_map (λ view. (view, life)) promise ≡ Some pair → pair.0 ≤ limit
  saved_up None life pair h e = absurd cc
  saved_up (Some view) life pair h e = let same : (view, life) ≡ pair = cc in subst (λ (p : ℕ × ℕ). p.0 ≤ limit) same h

  stepped_up : (a : ControllerState) (step : VrStep) → IsStepUpTo limit step → IsWorkUpTo (stepped a step)
  stepped_up a step p = record { state = p.state; letters = to_members_up step.letters p.letters; saves = λ pair e. saved_up step.promise step.state.life pair p.promise e }

  module _ (kinds : List ℕ) (setup : Setup) (x : ControllerInput) where
    continues_up : (w w' : Work) → IsWorkUpTo w → Continues kinds setup x w w' → IsWorkUpTo w'
    continues_up w w' p Begins = p
    continues_up w w' p (Tells {mid} on t) =
        let k = continues_up w mid p on in
        record {
          state = subst (λ (s : VrState). IsStateUpTo limit s) (sym t.vr) k.state;
          letters =
              subst (λ (ls : List (Letter ControllerSays)). AreSaidUpTo ls) (sym t.letters)
              (all_append (λ (l : Letter ControllerSays). IsSaidUpTo l.to l.body) mid.letters t.more k.letters (to_switches_up t.more t.to_switches));
          saves = λ pair e. k.saves pair (subst (λ (q : Option (ℕ × ℕ)). q ≡ Some pair) t.save e);
        }
    continues_up w w' p (Proposes {mid} entry on lead may room) =
        let k = continues_up w mid p on in
        let s : VrState = mid.state.vr in
        let step = proposed_up limit s k.state entry in
        record {
          state = step.state;
          letters = all_append (λ (l : Letter ControllerSays). IsSaidUpTo l.to l.body) mid.letters (to_members (proposed s entry).letters) k.letters (to_members_up (proposed s entry).letters step.letters);
          saves = k.saves;
        }

    work_up : (s : VrState) (w : Work) → IsStateUpTo limit s → IsInputUpTo limit (member_input x) → IsWorkOf kinds setup s x w → IsWorkUpTo w
    work_up s w u heard (Rests a same on) =
        continues_up (resting a) w (record { state = subst (λ (z : VrState). IsStateUpTo limit z) (sym same) u; letters = tt; saves = λ pair e. absurd cc }) on
    work_up s w u heard (Steps a on) =
        let step : VrStep = vr_step s (member_input x) in continues_up (stepped a step) w (stepped_up a step (step_up limit s u (member_input x) heard)) on
    work_up s w u heard (Crashes asked) = record { state = down_up s.me s.controllers s.promise s.life u.1; letters = tt; saves = λ pair e. absurd cc }
    work_up s w u heard (Restarts asked off) =
        let k = restarted_up limit s.me s.controllers s.promise (s.life + 1) u.1 in
        record {
          state = k.state;
          letters = to_members_up (restarted s.me s.controllers s.promise (s.life + 1)).letters k.letters;
          saves = λ pair e. let same : (s.promise, s.life + 1) ≡ pair = cc in subst (λ (p : ℕ × ℕ). p.0 ≤ limit) same u.1;
        }

  pub turn_up : (kinds : List ℕ) (setup : Setup) (c : ControllerState) (x : ControllerInput) → IsStateUpTo limit c.vr → IsInputUpTo limit (member_input x) → IsWorkUpTo (controller_work kinds setup c x)
  turn_up kinds setup c x u heard = work_up kinds setup x c.vr (controller_work kinds setup c x) u heard (works_law kinds setup c x)
