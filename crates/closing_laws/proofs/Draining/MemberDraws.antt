-- A member of the quorum draws the first packet that waits.
use Rattle.std.proofs.Common.{◌≡◌, ◌≤◌, inl, inr, ℕ, ◌%◌, Bool, true, false, List, ◌∷◌, ◌++◌, map, refl, sym, ◌∙◌, ap, subst, ◌+◌}
use Rattle.std.specs.Prelude.{nat_eq, not, ◌&&◌, Option, None, option_map, if◌then◌else◌}
use Rattle.std.proofs.lemmas.Bool.{and_right, ne_eqb, cases_eq}
use Rattle.of_types.specs.declared.setup.Setup.{Setup}
use Rattle.journal.specs.declared.journal.Actor.{Actor}
use Rattle.journal.specs.declared.journal.Actor.TheVariants as actor
use Rattle.journal.specs.declared.journal.JournalEntry.{JournalEntry}
use Rattle.journal.specs.declared.journal.JournalEntry.TheVariants.{Draw}
use Rattle.journal.specs.declared.journal.Letter.{Letter}
use Rattle.journal.specs.declared.journal.Packet.{Packet}
use Rattle.journal.specs.declared.journal.SaveResult.{SaveResult}
use Rattle.journal.specs.Pool.{pool}
use Rattle.vr_log.specs.declared.message.VrMessage.{VrMessage}
use Rattle.vr_log.specs.declared.state.Status.{Status}
use Rattle.vr_log.specs.declared.state.Status.TheVariants.{Normal, ViewChange, Recovering, Down}
use Rattle.vr_log.specs.declared.state.VrState.{VrState}
use Rattle.vr_log.specs.Members.{is_normal, is_primary, is_up, leads}
use Rattle.vr_log.specs.Steps.{VrStep}
use Rattle.vr_core.specs.declared.input.VrInput.TheVariants as vr_input
use Rattle.vr_core.specs.Step.{vr_step}
use Rattle.of_switch.specs.State.{SwitchState}
use Rattle.group_controller.specs.declared.messages.ControllerInput.TheVariants as controller_input
use Rattle.group_controller.specs.declared.messages.ControllerSays.{ControllerSays}
use Rattle.group_controller.specs.State.{ControllerState, Work, stepped, to_members, with_no_met_limit}
use Rattle.group_controller.specs.Rules.{after_step, controller_work}
use Rattle.run_spec.specs.declared.messages.Message.{Message}
use Rattle.run_spec.specs.declared.messages.Message.TheVariants as message
use Rattle.run_spec.specs.declared.messages.Unsealed.TheVariants as unsealed
use Rattle.run_spec.specs.States.{Scene, ControllerAt, content, controller_hears, controller_message}
use Rattle.run_spec.specs.Legal.{IsPossible}
use Rattle.run_spec.specs.Closing.{Phase, Losing, after_member, is_drawn, met_by}
use Rattle.closing_laws.specs.Measure.{left_to_do}
use Rattle.closing_laws.specs.Quorum.{has}
use Rattle.closing_laws.specs.Ways.{Sent, sent_by}
use Rattle.closing_laws.specs.Following.{KeepsUp, Start}
use Rattle.closing_laws.proofs.Draining.Drained as drained_by
use Rattle.closing_laws.proofs.Draining.Drained.{put, put_other, put_own}
use Rattle.closing_laws.proofs.Draining.FirstWaiting as first
use Rattle.closing_laws.proofs.Draining.Standing as standing
use Rattle.closing_laws.proofs.Draining.Standing.{HoldsThroughout, Owing}
use Rattle.closing_laws.proofs.Journal.Carrying.{AllCarry, HeadOf, controller_draws, controller_rests, sw}
use Rattle.closing_laws.proofs.Journal.Taking.{at, member_work, By_message}
use Rattle.closing_laws.proofs.Measure.DrainingMeasure.{member_turn_lowers}

-- who is no primary doesn't lead
leads_not : (s : VrState) → is_primary s ≡ false → leads s ≡ false
leads_not s e = ap (λ (b : Bool). is_normal s && b) e ∙ and_right (is_normal s) false refl

-- a step of one that doesn't lead is all of its turn
following_work : (kinds : List ℕ) (setup : Setup) (c : ControllerState) (step : VrStep) → leads step.state ≡ false → after_step kinds setup c step ≡ stepped c step
unfolding after_step
following_work kinds setup c step e = rw e refl

module _ {B : Type 0} (scene : Scene B) (results : List (List SaveResult)) (w : ℕ) (quorum : List ℕ) (start : Start)
    (holds : HoldsThroughout scene results w quorum start) (P : List (JournalEntry B)) (m : Sent) (rest : List Sent) (h : HeadOf scene.sealing (pool P) m rest)
    (s : standing.Stands scene results w quorum start P (m ∷ rest)) (possible : IsPossible scene results P) (b : ℕ) (from : m.from ≡ actor.Controller (w % scene.setup.controllers)) (to : m.to ≡ actor.Controller b) (chosen : has quorum b ≡ true) (other : b ≡ w % scene.setup.controllers → ⊥) where
  abbrev p : ℕ
  p = w % scene.setup.controllers

  abbrev Past : Type 0
  Past = List (JournalEntry B)

  abbrev Drains' : ControllerState → (ℕ → VrState) → (ℕ → SwitchState) → List Sent → Type 0
  Drains' = standing.Drains' scene results w quorum start

  abbrev IsRoomy' : ControllerState → (ℕ → VrState) → (ℕ → SwitchState) → List Sent → Type 0
  IsRoomy' = standing.IsRoomy' scene results w quorum start

  abbrev Owes : Past → Type 0
  Owes = standing.Owes scene results w quorum start

  abbrev owes : Actor → Past → List Sent
  owes = standing.owes scene results w quorum start

  abbrev left_after : Past → List Sent → ℕ
  left_after = standing.left_after scene results w quorum start

  abbrev turns_for : ControllerState → ℕ
  turns_for = standing.turns_for scene results w quorum start

  abbrev turns_known : Past → ℕ
  turns_known = standing.turns_known scene results w quorum start

  abbrev c : ControllerState
  c = (at scene results p P).now

  abbrev said : (x : VrMessage) × (m.said ≡ message.Vr x)
  said = drained_by.said_by scene.kinds scene.setup w p quorum start holds.inside c s.members s.switches m rest s.drains b from to chosen other refl holds.small

  abbrev pub step : VrStep
  step = vr_step (s.members b) (vr_input.From p said.0)

  abbrev pub draw : JournalEntry B
  draw = Draw (actor.Controller b) h.packet.id false

  moved : (step.promise ≡ None) × Drains' c (put s.members b step.state) s.switches (rest ++ map (sent_by controller_message (actor.Controller b)) (to_members step.letters))
  moved = drained_by.drains_member scene.kinds scene.setup w p quorum start holds.inside c s.members s.switches m rest s.drains b from to chosen other refl holds.small

  was : (at scene results b P).now.vr ≡ s.members b
  was = s.members_are b chosen other

  heard_b : controller_hears h.packet.from (content scene.sealing h.packet) ≡ controller_input.Vr p said.0
  heard_b = (first.heard_c scene P m rest h) ∙ ap (λ (a : Actor). controller_hears a (unsealed.Message m.said)) from ∙ ap (λ (y : Message). controller_hears (actor.Controller p) (unsealed.Message y)) said.1

  -- before and after, it is up and doesn't lead
  of_follower : (x : VrState) (out in_ : List Message) → KeepsUp start c.vr b x out in_ → (is_up x ≡ true) × (is_primary x ≡ false)
  of_follower x out in_ (inl k) =
      let me = k.is_member.me in
      let size = k.is_member.size in (
        ap is_up k.state_is,
        ap is_primary k.state_is ∙ ne_eqb (c.vr.view % k.had.controllers) k.had.me
            (λ e. other (sym me ∙ sym e ∙ ap (λ (v : ℕ). v % k.had.controllers) s.drains.primary.view ∙ ap (λ (i : ℕ). w % i) (size ∙ s.drains.primary.size))),
      )
  of_follower x out in_ (inr k) = (
    ap (λ (y : Status). elim y [ Normal ↦ true | ViewChange ↦ true | Recovering ↦ false | Down ↦ false ]) k.normal,
    ne_eqb (x.view % x.controllers) x.me (λ e. other (sym k.me ∙ sym e ∙ ap (λ (v : ℕ). v % x.controllers) (k.view ∙ s.drains.primary.view) ∙ ap (λ (i : ℕ). w % i) (k.size ∙ s.drains.primary.size))),
  )

  now_follows : (is_up step.state ≡ true) × (is_primary step.state ≡ false)
  now_follows = subst (λ (x : VrState). (is_up x ≡ true) × (is_primary x ≡ false)) (put_own s.members b step.state) (of_follower (put s.members b step.state b) _ _ (moved.1.keeps_up b chosen other))

  work_is : controller_work scene.kinds scene.setup (at scene results b P).now (controller_input.Vr p said.0) ≡ stepped (with_no_met_limit (at scene results b P).now) step
  work_is =
      member_work scene.kinds scene.setup (at scene results b P).now (controller_input.Vr p said.0) (vr_input.From p said.0) (By_message p said.0)
      (ap is_up was ∙ (of_follower (s.members b) _ _ (s.drains.keeps_up b chosen other)).0)
      ∙ ap (λ (x : VrState). after_step scene.kinds scene.setup (with_no_met_limit (at scene results b P).now) (vr_step x (vr_input.From p said.0))) was
      ∙ following_work scene.kinds scene.setup (with_no_met_limit (at scene results b P).now) step (leads_not step.state now_follows.1)

  unsaved : (controller_work scene.kinds scene.setup (at scene results b P).now (controller_input.Vr p said.0)).save ≡ None
  unsaved = ap (λ (x : Work). x.save) work_is ∙ ap (λ (o : Option ℕ). option_map (λ promise. (promise, step.state.life)) o) moved.0

  turned : ((at scene results b (draw ∷ P)).now ≡ (controller_work scene.kinds scene.setup (at scene results b P).now (controller_input.Vr p said.0)).state)
      × ((at scene results b (draw ∷ P)).owed ≡ (controller_work scene.kinds scene.setup (at scene results b P).now (controller_input.Vr p said.0)).letters)
  turned = controller_draws scene results b h.packet P (controller_input.Vr p said.0) (first.found scene P m rest h) heard_b unsaved

  now_is : (at scene results b (draw ∷ P)).now ≡ (stepped (with_no_met_limit (at scene results b P).now) step).state
  now_is = turned.0 ∙ ap (λ (x : Work). x.state) work_is

  pub member_owes : Owes (draw ∷ P)
  member_owes = record {
    newest = draw;
    older = P;
    is = refl;
    waiting = rest;
    carries = subst (λ (ps : List (Packet B)). AllCarry scene.sealing ps rest) (sym (first.left scene P m rest h results possible)) h.others;
    stands = record {
      members = put s.members b step.state;
      switches = s.switches;
      members_are = λ j member not_p. elim (cases_eq j b) [
        | inl e ↦ subst (λ (k : ℕ). (at scene results k (draw ∷ P)).now.vr ≡ put s.members b step.state k) (sym e) (ap (λ (x : ControllerState). x.vr) now_is ∙ sym (put_own s.members b step.state))
        | inr e ↦ ap (λ (x : ControllerAt). x.now.vr) (controller_rests scene results draw P j (ne_eqb b j (λ i. e (sym i)))) ∙ s.members_are j member not_p ∙ sym (put_other s.members b step.state j e)
      ];
      switches_are = λ k there. s.switches_are k there;
      drains =
          subst (λ (x : ControllerState). Drains' x (put s.members b step.state) s.switches (rest ++ map (sent_by controller_message (actor.Controller b)) (at scene results b (draw ∷ P)).owed))
          (sym (ap (λ (x : ControllerAt). x.now) (controller_rests scene results draw P p (ne_eqb b p other))))
          (subst (λ (ls : List (Letter ControllerSays)). Drains' c (put s.members b step.state) s.switches (rest ++ map (sent_by controller_message (actor.Controller b)) ls))
          (sym (turned.1 ∙ ap (λ (x : Work). x.letters) work_is)) moved.1);
      roomy =
          subst (λ (x : ControllerState). IsRoomy' x (put s.members b step.state) s.switches (rest ++ map (sent_by controller_message (actor.Controller b)) (at scene results b (draw ∷ P)).owed))
          (sym (ap (λ (x : ControllerAt). x.now) (controller_rests scene results draw P p (ne_eqb b p other))))
          (subst (λ (ls : List (Letter ControllerSays)). IsRoomy' c (put s.members b step.state) s.switches (rest ++ map (sent_by controller_message (actor.Controller b)) ls))
          (sym (turned.1 ∙ ap (λ (x : Work). x.letters) work_is)) (holds.keeps_room.member c s.members s.switches m rest b said.0 s.drains from to chosen other said.1 moved.1 tt tt s.roomy));
    };
  }

  pub member_known : turns_known (draw ∷ P) ≡ turns_known P
  member_known = ap (λ (x : ControllerAt). turns_for x.now) (controller_rests scene results draw P p (ne_eqb b p other))

  member_left : left_after (draw ∷ P) (rest ++ owes (actor.Controller b) (draw ∷ P)) + 1 ≤ left_after P (m ∷ rest)
  member_left =
      subst (λ (x : ControllerState). left_to_do scene.kinds scene.setup quorum x (λ k. (sw scene results k P).now) (rest ++ owes (actor.Controller b) (draw ∷ P)) + 1 ≤ left_after P (m ∷ rest))
      (sym (ap (λ (x : ControllerAt). x.now) (controller_rests scene results draw P p (ne_eqb b p other))))
      (subst (λ (ls : List (Letter ControllerSays)). left_to_do scene.kinds scene.setup quorum c (λ k. (sw scene results k P).now) (rest ++ map (sent_by controller_message (actor.Controller b)) ls) + 1 ≤ left_after P (m ∷ rest))
      (sym (turned.1 ∙ ap (λ (x : Work). x.letters) work_is))
      (member_turn_lowers scene.kinds scene.setup quorum c (λ k. (sw scene results k P).now) m rest b (to_members step.letters)
      (ap (λ (a : Actor). is_drawn quorum a m.to) from ∙ ap (λ (a : Actor). is_drawn quorum (actor.Controller p) a) to ∙ chosen)
      (drained_by.answers_less scene.kinds scene.setup w p quorum start holds.inside c s.members s.switches m rest s.drains b from to chosen other refl holds.small)))

  pub member_lowers : standing.left_in scene results w quorum start (draw ∷ P) (Owing member_owes) + 1 ≤ left_after P (m ∷ rest)
  unfolding member_owes
  member_lowers = member_left

  -- it leaves the phase
  pub member_stays : (next : Phase) → after_member w (at scene results b (draw ∷ P)).now next ≡ next
  member_stays next =
      let me : nat_eq (w % step.state.controllers) step.state.me ≡ false = now_me in
      ap (λ (x : ControllerState). after_member w x next) now_is
      ∙ ap (λ (y : Bool). if not y then Losing else if nat_eq (w % step.state.controllers) step.state.me then met_by None next else next) now_follows.0
      ∙ ap (λ (y : Bool). if y then met_by None next else next) me
    where
      of_me : (x : VrState) (out in_ : List Message) → KeepsUp start c.vr b x out in_ → nat_eq (w % x.controllers) x.me ≡ false
      of_me x out in_ (inl k) =
          ap (λ (y : VrState). nat_eq (w % y.controllers) y.me) k.state_is
          ∙ ne_eqb (w % k.had.controllers) k.had.me (λ e. other (sym k.is_member.me ∙ sym e ∙ ap (λ (i : ℕ). w % i) (k.is_member.size ∙ s.drains.primary.size)))
      of_me x out in_ (inr k) = ne_eqb (w % x.controllers) x.me (λ e. other (sym k.me ∙ sym e ∙ ap (λ (i : ℕ). w % i) (k.size ∙ s.drains.primary.size)))

      now_me : nat_eq (w % step.state.controllers) step.state.me ≡ false
      now_me = subst (λ (x : VrState). nat_eq (w % x.controllers) x.me ≡ false) (put_own s.members b step.state) (of_me (put s.members b step.state b) _ _ (moved.1.keeps_up b chosen other))
