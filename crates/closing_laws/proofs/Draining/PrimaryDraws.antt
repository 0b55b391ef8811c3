-- The primary draws the first packet that waits.
use Rattle.std.proofs.Common.{◌≡◌, ◌≤◌, ◌<◌, ◌⊎◌, inl, inr, ℕ, ◌%◌, Bool, true, false, List, ◌∷◌, ◌++◌, map, length, refl, sym, ◌∙◌, ap, subst, arith, ◌+◌}
use Rattle.std.specs.Prelude.{nat_eq, not, Option, None, if◌then◌else◌}
use Rattle.std.proofs.lemmas.Bool.{ne_eqb, and_parts, cases_eq}
use Rattle.journal.specs.declared.journal.Actor.{Actor}
use Rattle.journal.specs.declared.journal.Actor.TheVariants as actor
use Rattle.journal.specs.declared.journal.JournalEntry.{JournalEntry}
use Rattle.journal.specs.declared.journal.JournalEntry.TheVariants.{Draw}
use Rattle.journal.specs.declared.journal.Letter.{Letter}
use Rattle.journal.specs.declared.journal.Packet.{Packet}
use Rattle.journal.specs.declared.journal.SaveResult.{SaveResult}
use Rattle.journal.specs.Pool.{pool}
use Rattle.vr_log.specs.declared.entry.LogFull.{LogFull}
use Rattle.vr_log.specs.declared.state.VrState.{VrState}
use Rattle.vr_log.specs.Members.{is_normal, is_primary, leads}
use Rattle.of_switch.specs.State.{SwitchState}
use Rattle.group_controller.specs.declared.messages.ControllerSays.{ControllerSays}
use Rattle.group_controller.specs.State.{ControllerState, Work}
use Rattle.group_controller.specs.Rules.{controller_work}
use Rattle.run_spec.specs.States.{Scene, ControllerAt, controller_message}
use Rattle.run_spec.specs.Legal.{IsPossible}
use Rattle.run_spec.specs.Closing.{Phase, Losing, Draining, after_member, met_by}
use Rattle.run_laws.proofs.Members.{up_leads}
use Rattle.closing_laws.specs.Measure.{left_to_do}
use Rattle.closing_laws.specs.Quorum.{has}
use Rattle.closing_laws.specs.Ways.{Sent, sent_by}
use Rattle.closing_laws.specs.Following.{Start}
use Rattle.closing_laws.specs.Serving.{IsTrueOf}
use Rattle.closing_laws.proofs.Draining.Drained.{heard_of}
use Rattle.closing_laws.proofs.Draining.FirstWaiting as first
use Rattle.closing_laws.proofs.Draining.Standing as standing
use Rattle.closing_laws.proofs.Draining.Standing.{HoldsThroughout, Owing, promised, true_of}
use Rattle.closing_laws.proofs.Journal.Carrying.{AllCarry, HeadOf, controller_draws, controller_rests, sw}
use Rattle.closing_laws.proofs.Journal.Taking.{at}
use Rattle.closing_laws.proofs.Measure.DrainingMeasure.{left_alike}
use Rattle.closing_laws.proofs.Pool.Rooms as rooms

module _ {B : Type 0} (scene : Scene B) (results : List (List SaveResult)) (w : ℕ) (quorum : List ℕ) (start : Start)
    (holds : HoldsThroughout scene results w quorum start) (P : List (JournalEntry B)) (m : Sent) (rest : List Sent) (h : HeadOf scene.sealing (pool P) m rest)
    (s : standing.Stands scene results w quorum start P (m ∷ rest)) (possible : IsPossible scene results P) (to : m.to ≡ actor.Controller (w % scene.setup.controllers)) (from : ((b : ℕ) × (m.from ≡ actor.Controller b) × (has quorum b ≡ true) × (b ≡ w % scene.setup.controllers → ⊥)) ⊎ ((k : ℕ) × (m.from ≡ actor.Switch k) × (k < length scene.setup.ports))) (after : IsPossible scene results (Draw (actor.Controller (w % scene.setup.controllers)) h.packet.id false ∷ P)) where
  abbrev p : ℕ
  p = w % scene.setup.controllers

  abbrev Past : Type 0
  Past = List (JournalEntry B)

  abbrev Drains' : ControllerState → (ℕ → VrState) → (ℕ → SwitchState) → List Sent → Type 0
  Drains' = standing.Drains' scene results w quorum start

  abbrev IsRoomy' : ControllerState → (ℕ → VrState) → (ℕ → SwitchState) → List Sent → Type 0
  IsRoomy' = standing.IsRoomy' scene results w quorum start

  abbrev Owes : Past → Type 0
  Owes = standing.Owes scene results w quorum start

  abbrev owes : Actor → Past → List Sent
  owes = standing.owes scene results w quorum start

  abbrev left_after : Past → List Sent → ℕ
  left_after = standing.left_after scene results w quorum start

  abbrev turns_for : ControllerState → ℕ
  turns_for = standing.turns_for scene results w quorum start

  abbrev turns_known : Past → ℕ
  turns_known = standing.turns_known scene results w quorum start

  abbrev AreTrue : ControllerState → (ℕ → SwitchState) → Type 0
  AreTrue = rooms.AreTrue scene.kinds scene.setup

  abbrev HavePromised : Past → Type 0
  HavePromised = standing.HavePromised scene results w quorum start

  abbrev pub primary_draw : JournalEntry B
  primary_draw = Draw (actor.Controller p) h.packet.id false

  abbrev old : ControllerState
  old = (at scene results p P).now

  abbrev pub work : Work
  work = controller_work scene.kinds scene.setup old (heard_of m)

  true_before : AreTrue old s.switches
  true_before = true_of scene results w quorum start P (m ∷ rest) s (holds.truths P possible (promised scene results w quorum start P (m ∷ rest) s))

  turn_p : standing.PrimaryTurn scene results w quorum start old s.members s.switches m rest
  turn_p = holds.by_primary old s.members s.switches m rest s.drains to from true_before.each

  primary_turned : ((at scene results p (primary_draw ∷ P)).now ≡ work.state) × ((at scene results p (primary_draw ∷ P)).owed ≡ work.letters)
  primary_turned = controller_draws scene results p h.packet P (heard_of m) (first.found scene P m rest h) (first.heard_c scene P m rest h) turn_p.unsaved

  pub had_promised : HavePromised (primary_draw ∷ P)
  had_promised =
      let had = promised scene results w quorum start P (m ∷ rest) s in
      record {
        leads = ap (λ (x : ControllerState). leads x.vr) primary_turned.0 ∙ turn_p.alike.leads ∙ had.leads;
        view = ap (λ (x : ControllerState). x.vr.view) primary_turned.0 ∙ turn_p.alike.view ∙ had.view;
        promises = λ b chosen. by_one b chosen (cases_eq b p) (had.promises b chosen);
      }
    where
      by_one : (b : ℕ) → has quorum b ≡ true → (b ≡ p) ⊎ (b ≡ p → ⊥) → (at scene results b P).now.vr.promise ≤ w → (at scene results b (primary_draw ∷ P)).now.vr.promise ≤ w
      by_one b chosen (inl e) low =
          let same = ap (λ (x : ControllerState). x.vr.promise) primary_turned.0 ∙ turn_p.alike.promise in
          let low_p = subst (λ (i : ℕ). (at scene results i P).now.vr.promise ≤ w) e low in
          let it : (at scene results p (primary_draw ∷ P)).now.vr.promise ≤ w = omega (arith, same, low_p) in
          subst (λ (i : ℕ). (at scene results i (primary_draw ∷ P)).now.vr.promise ≤ w) (sym e) it
      by_one b chosen (inr e) low =
          let same = ap (λ (x : ControllerAt). x.now.vr.promise) (controller_rests scene results primary_draw P b (ne_eqb p b (λ i. e (sym i)))) in
          omega (arith, same, low)

  true_after : AreTrue work.state s.switches
  true_after =
      let t = holds.truths (primary_draw ∷ P) after had_promised in
      subst (λ (x : ControllerState). AreTrue x s.switches) primary_turned.0
      (record { primary = t.primary; each = λ j small_j. subst (λ (x : SwitchState). IsTrueOf scene.kinds scene.setup (at scene results p (primary_draw ∷ P)).now j x) (s.switches_are j small_j) (t.each j small_j) })

  pub primary_left : left_after (primary_draw ∷ P) (rest ++ owes (actor.Controller p) (primary_draw ∷ P)) + 1 + turns_known P ≤ left_after P (m ∷ rest) + turns_known (primary_draw ∷ P)
  primary_left =
      let now = ap (λ (x : ControllerState). left_to_do scene.kinds scene.setup quorum x (λ k. (sw scene results k P).now) (rest ++ owes (actor.Controller p) (primary_draw ∷ P))) primary_turned.0 in
      let said = ap (λ (ls : List (Letter ControllerSays)). left_to_do scene.kinds scene.setup quorum work.state (λ k. (sw scene results k P).now) (rest ++ map (sent_by controller_message (actor.Controller p)) ls)) primary_turned.1 in
      let alike = left_alike scene.kinds scene.setup quorum work.state (λ k. (sw scene results k P).now) s.switches (rest ++ map (sent_by controller_message (actor.Controller p)) work.letters) s.switches_are in
      let was = left_alike scene.kinds scene.setup quorum old (λ k. (sw scene results k P).now) s.switches (m ∷ rest) s.switches_are in
      let known = ap turns_for primary_turned.0 in
      let less = turn_p.lowers true_before true_after in
      omega (arith, now, said, alike, was, known, less)

  -- where it met no limit
  pub primary_owes : work.state.full ≡ None → Owes (primary_draw ∷ P)
  primary_owes room = record {
    newest = primary_draw;
    older = P;
    is = refl;
    waiting = rest;
    carries = subst (λ (ps : List (Packet B)). AllCarry scene.sealing ps rest) (sym (first.left scene P m rest h results possible)) h.others;
    stands = record {
      members = s.members;
      switches = s.switches;
      members_are = λ b chosen other. ap (λ (x : ControllerAt). x.now.vr) (controller_rests scene results primary_draw P b (ne_eqb p b (λ i. other (sym i)))) ∙ s.members_are b chosen other;
      switches_are = s.switches_are;
      drains =
          subst (λ (x : ControllerState). Drains' x s.members s.switches (rest ++ map (sent_by controller_message (actor.Controller p)) (at scene results p (primary_draw ∷ P)).owed)) (sym primary_turned.0)
          (subst (λ (ls : List (Letter ControllerSays)). Drains' work.state s.members s.switches (rest ++ map (sent_by controller_message (actor.Controller p)) ls)) (sym primary_turned.1)
          (turn_p.keeps true_before true_after room));
      roomy =
          subst (λ (x : ControllerState). IsRoomy' x s.members s.switches (rest ++ map (sent_by controller_message (actor.Controller p)) (at scene results p (primary_draw ∷ P)).owed)) (sym primary_turned.0)
          (subst (λ (ls : List (Letter ControllerSays)). IsRoomy' work.state s.members s.switches (rest ++ map (sent_by controller_message (actor.Controller p)) ls)) (sym primary_turned.1)
          (holds.keeps_room.primary old s.members s.switches m rest s.drains to from true_before true_after room (turn_p.keeps true_before true_after room) tt tt s.roomy));
    };
  }

  pub primary_lowers : (room : work.state.full ≡ None) → standing.left_in scene results w quorum start (primary_draw ∷ P) (Owing (primary_owes room)) + 1 + turns_known P ≤ left_after P (m ∷ rest) + turns_known (primary_draw ∷ P)
  unfolding primary_owes
  primary_lowers room = primary_left

  -- and the phase that it leaves
  abbrev phase_by : Option LogFull → Phase
  phase_by o = met_by o (Draining w quorum)

  pub phase_is : after_member w (at scene results p (primary_draw ∷ P)).now (Draining w quorum) ≡ phase_by work.state.full
  phase_is =
      let lead = (promised scene results w quorum start P (m ∷ rest) s).leads in
      let now = turn_p.alike.leads ∙ lead in
      let same = s.drains.primary in
      ap (λ (x : ControllerState). after_member w x (Draining w quorum)) primary_turned.0
      ∙ ap (λ (b : Bool). if not b then Losing else if nat_eq (w % work.state.vr.controllers) work.state.vr.me then phase_by work.state.full else Draining w quorum) (up_leads work.state.vr now)
      ∙ ap (λ (b : Bool). if b then phase_by work.state.full else Draining w quorum)
      (ap (λ (v : ℕ). nat_eq (v % work.state.vr.controllers) work.state.vr.me) (sym (turn_p.alike.view ∙ same.view)) ∙ (and_parts (is_normal work.state.vr) (is_primary work.state.vr) now).1)
