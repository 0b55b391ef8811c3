-- A switch draws the first packet that waits.
use Rattle.std.proofs.Common.{◌≡◌, ◌≤◌, ◌<◌, inl, inr, ℕ, ◌%◌, false, List, ◌∷◌, ◌++◌, map, length, refl, sym, ◌∙◌, ap, subst, arith, ◌+◌}
use Rattle.std.proofs.lemmas.Bool.{ne_eqb, cases_eq}
use Rattle.journal.specs.declared.journal.Actor.{Actor}
use Rattle.journal.specs.declared.journal.Actor.TheVariants as actor
use Rattle.journal.specs.declared.journal.JournalEntry.{JournalEntry}
use Rattle.journal.specs.declared.journal.JournalEntry.TheVariants.{Draw}
use Rattle.journal.specs.declared.journal.Letter.{Letter}
use Rattle.journal.specs.declared.journal.Packet.{Packet}
use Rattle.journal.specs.declared.journal.SaveResult.{SaveResult}
use Rattle.journal.specs.Pool.{pool}
use Rattle.vr_log.specs.declared.state.VrState.{VrState}
use Rattle.of_switch.specs.declared.says.SwitchSays.{SwitchSays}
use Rattle.of_switch.specs.declared.says.SwitchInput.{SwitchInput}
use Rattle.of_switch.specs.State.{SwitchState, SwitchTurn}
use Rattle.of_switch.specs.Rules.{switch_turn}
use Rattle.group_controller.specs.State.{ControllerState}
use Rattle.run_spec.specs.States.{Scene, SwitchAt, switch_message, switch_took}
use Rattle.run_spec.specs.Legal.{IsPossible}
use Rattle.closing_laws.specs.Measure.{left_to_do}
use Rattle.closing_laws.specs.Ways.{Sent, sent_by}
use Rattle.closing_laws.specs.Following.{Start}
use Rattle.closing_laws.specs.Serving.{IsTrueOf}
use Rattle.closing_laws.proofs.Draining.Drained.{heard_at, put, put_other, put_own}
use Rattle.closing_laws.proofs.Draining.FirstWaiting as first
use Rattle.closing_laws.proofs.Draining.Standing as standing
use Rattle.closing_laws.proofs.Draining.Standing.{HoldsThroughout, Owing, promised, true_of}
use Rattle.closing_laws.proofs.Journal.Carrying.{AllCarry, HeadOf, sw, switch_draws, switch_rests}
use Rattle.closing_laws.proofs.Journal.Taking.{at}
use Rattle.closing_laws.proofs.Measure.DrainingMeasure.{left_alike}
use Rattle.closing_laws.proofs.Pool.Rooms as rooms

module _ {B : Type 0} (scene : Scene B) (results : List (List SaveResult)) (w : ℕ) (quorum : List ℕ) (start : Start)
    (holds : HoldsThroughout scene results w quorum start) (P : List (JournalEntry B)) (m : Sent) (rest : List Sent) (h : HeadOf scene.sealing (pool P) m rest)
    (s : standing.Stands scene results w quorum start P (m ∷ rest)) (possible : IsPossible scene results P) (k : ℕ) (there : k < length scene.setup.ports) (from : m.from ≡ actor.Controller (w % scene.setup.controllers)) (to : m.to ≡ actor.Switch k) (after : IsPossible scene results (Draw (actor.Switch k) h.packet.id false ∷ P)) where
  abbrev p : ℕ
  p = w % scene.setup.controllers

  abbrev Past : Type 0
  Past = List (JournalEntry B)

  abbrev Drains' : ControllerState → (ℕ → VrState) → (ℕ → SwitchState) → List Sent → Type 0
  Drains' = standing.Drains' scene results w quorum start

  abbrev IsRoomy' : ControllerState → (ℕ → VrState) → (ℕ → SwitchState) → List Sent → Type 0
  IsRoomy' = standing.IsRoomy' scene results w quorum start

  abbrev Owes : Past → Type 0
  Owes = standing.Owes scene results w quorum start

  abbrev owes : Actor → Past → List Sent
  owes = standing.owes scene results w quorum start

  abbrev left_after : Past → List Sent → ℕ
  left_after = standing.left_after scene results w quorum start

  abbrev AreTrue : ControllerState → (ℕ → SwitchState) → Type 0
  AreTrue = rooms.AreTrue scene.kinds scene.setup

  abbrev pub switch_draw : JournalEntry B
  switch_draw = Draw (actor.Switch k) h.packet.id false

  abbrev leader : ControllerState
  leader = (at scene results p P).now

  abbrev pub turn : SwitchTurn
  turn = switch_turn (s.switches k) (heard_at m)

  switch_took_it : sw scene results k (switch_draw ∷ P) ≡ switch_took (sw scene results k P) (switch_turn (sw scene results k P).now (heard_at m))
  switch_took_it = switch_draws scene results k h.packet P (first.found scene P m rest h) ∙ ap (λ (x : SwitchInput). switch_took (sw scene results k P) (switch_turn (sw scene results k P).now x)) (first.heard_s scene P m rest h)

  switch_now : (sw scene results k (switch_draw ∷ P)).now ≡ turn.state
  switch_now = ap (λ (x : SwitchAt). x.now) switch_took_it ∙ ap (λ (x : SwitchState). (switch_turn x (heard_at m)).state) (s.switches_are k there)

  switch_owed : (sw scene results k (switch_draw ∷ P)).owed ≡ turn.letters
  switch_owed = ap (λ (x : SwitchAt). x.owed) switch_took_it ∙ ap (λ (x : SwitchState). (switch_turn x (heard_at m)).letters) (s.switches_are k there)

  abbrev switches' : ℕ → SwitchState
  switches' = put s.switches k turn.state

  each_now : (j : ℕ) → j < length scene.setup.ports → (sw scene results j (switch_draw ∷ P)).now ≡ switches' j
  each_now j small_j = elim (cases_eq j k) [
    | inl e ↦ subst (λ (i : ℕ). (sw scene results i (switch_draw ∷ P)).now ≡ switches' i) (sym e) (switch_now ∙ sym (put_own s.switches k turn.state))
    | inr e ↦ ap (λ (x : SwitchAt). x.now) (switch_rests scene results switch_draw P j (ne_eqb k j (λ i. e (sym i)))) ∙ s.switches_are j small_j ∙ sym (put_other s.switches k turn.state j e)
  ]

  truths_before : AreTrue leader s.switches
  truths_before = true_of scene results w quorum start P (m ∷ rest) s (holds.truths P possible (promised scene results w quorum start P (m ∷ rest) s))

  truths_after : AreTrue leader switches'
  truths_after =
      let had = promised scene results w quorum start P (m ∷ rest) s in
      let t = holds.truths (switch_draw ∷ P) after (record { leads = had.leads; view = had.view; promises = had.promises }) in
      record {
        primary = t.primary;
        each = λ j small_j. subst (λ (x : SwitchState). IsTrueOf scene.kinds scene.setup leader j x) (each_now j small_j) (t.each j small_j);
      }

  by_it : Drains' leader s.members switches' (rest ++ map (sent_by switch_message (actor.Switch k)) turn.letters)
      × (left_to_do scene.kinds scene.setup quorum leader switches' (rest ++ map (sent_by switch_message (actor.Switch k)) turn.letters) + 1 ≤ left_to_do scene.kinds scene.setup quorum leader s.switches (m ∷ rest))
  by_it = holds.by_switch leader s.members s.switches m rest k there from to s.drains truths_before truths_after

  switch_left : left_after (switch_draw ∷ P) (rest ++ owes (actor.Switch k) (switch_draw ∷ P)) + 1 ≤ left_after P (m ∷ rest)
  switch_left =
      let now = left_alike scene.kinds scene.setup quorum leader (λ j. (sw scene results j (switch_draw ∷ P)).now) switches' (rest ++ owes (actor.Switch k) (switch_draw ∷ P)) each_now in
      let said = ap (λ (ls : List (Letter SwitchSays)). left_to_do scene.kinds scene.setup quorum leader switches' (rest ++ map (sent_by switch_message (actor.Switch k)) ls)) switch_owed in
      let was = left_alike scene.kinds scene.setup quorum leader (λ j. (sw scene results j P).now) s.switches (m ∷ rest) s.switches_are in
      let less = by_it.1 in
      omega (arith, now, said, was, less)

  pub switch_owes : Owes (switch_draw ∷ P)
  switch_owes = record {
    newest = switch_draw;
    older = P;
    is = refl;
    waiting = rest;
    carries = subst (λ (ps : List (Packet B)). AllCarry scene.sealing ps rest) (sym (first.left scene P m rest h results possible)) h.others;
    stands = record {
      members = s.members;
      switches = switches';
      members_are = λ b chosen other. s.members_are b chosen other;
      switches_are = each_now;
      drains =
          subst (λ (ls : List (Letter SwitchSays)). Drains' leader s.members switches' (rest ++ map (sent_by switch_message (actor.Switch k)) ls)) (sym switch_owed)
          by_it.0;
      roomy =
          subst (λ (ls : List (Letter SwitchSays)). IsRoomy' leader s.members switches' (rest ++ map (sent_by switch_message (actor.Switch k)) ls)) (sym switch_owed)
          (holds.keeps_room.switch leader s.members s.switches m rest k there s.drains from to truths_before truths_after by_it.0 tt tt s.roomy);
    };
  }

  pub switch_lowers : standing.left_in scene results w quorum start (switch_draw ∷ P) (Owing switch_owes) + 1 ≤ left_after P (m ∷ rest)
  unfolding switch_owes
  switch_lowers = switch_left
