-- A closing whose view has started ends only where all is done.
use Rattle.std.proofs.Common.{◌≡◌, ◌≤◌, ◌<◌, ◌⊎◌, inl, inr, ℕ, ◌%◌, true, List, [], ◌∷◌, ◌++◌, map, length, refl, sym, ◌∙◌, ap, subst, ◌+◌, ◌*◌}
use Rattle.std.specs.Prelude.{None}
use Rattle.std.specs.List.{AllByRecursion}
use Rattle.of_types.specs.declared.message.Event.{Event}
use Rattle.of_types.specs.declared.message.Spoken.{Spoken}
use Rattle.of_types.specs.Setups.{IsSetup}
use Rattle.journal.specs.declared.journal.Actor.{Actor}
use Rattle.journal.specs.declared.journal.Actor.TheVariants as actor
use Rattle.journal.specs.declared.journal.JournalEntry.{JournalEntry}
use Rattle.journal.specs.declared.journal.Letter.{Letter}
use Rattle.journal.specs.declared.journal.SaveResult.{SaveResult}
use Rattle.journal.specs.Limits.{pool_packets}
use Rattle.journal.specs.Turns.{IsWithinLimits}
use Rattle.list_facts.specs.Lists.{IsIn, IsPrefix}
use Rattle.vr_log.specs.declared.entry.LogFull.{LogFull}
use Rattle.vr_log.specs.Log.{received}
use Rattle.vr_log.specs.declared.state.VrState.{VrState}
use Rattle.vr_log.specs.Members.{others_below}
use Rattle.of_switch.specs.declared.says.SwitchInput.TheVariants as switch_input
use Rattle.of_switch.specs.declared.says.SwitchSays.{SwitchSays}
use Rattle.of_switch.specs.State.{SwitchState, SwitchTurn, life_of}
use Rattle.of_switch.specs.Rules.{switch_turn}
use Rattle.group_controller.specs.State.{ControllerState}
use Rattle.group_controller.specs.Rules.{controller_work}
use Rattle.run_spec.specs.declared.messages.Message.{Message}
use Rattle.run_spec.specs.declared.messages.Message.TheVariants as message
use Rattle.run_spec.specs.declared.messages.Unsealed.TheVariants as unsealed
use Rattle.run_spec.specs.States.{Scene, IsFaithful, controller_message, switch_hears, switch_message}
use Rattle.run_spec.specs.Legal.{IsPossible}
use Rattle.run_spec.specs.Committed.{controller_state, switch_state, decided}
use Rattle.run_spec.specs.Script.{IsPosted}
use Rattle.run_spec.specs.Closing.{ClosesTo, Met, Done, IsEnd, Phase, next_move, count_turns}
use Rattle.closing_laws.specs.Ends.{HasRested}
use Rattle.closing_laws.specs.Following.{Start}
use Rattle.closing_laws.specs.Measure.{commands_from, left_to_do}
use Rattle.closing_laws.specs.Quorum.{has}
use Rattle.closing_laws.specs.Serving.{AreFew, IsSaidBy, Asks, Acknowledges, Commands, Clears, IsAttended, IsTrueOf}
use Rattle.closing_laws.specs.Starts.{IsDraining, SavesSucceed}
use Rattle.closing_laws.specs.Ways.{Sent, sent_by, between, told_to}
use Rattle.closing_laws.proofs.Draining.Closed as closed_by
use Rattle.closing_laws.proofs.Draining.Drained as drained_by
use Rattle.closing_laws.proofs.Draining.Drained.{heard_at, heard_of, put, put_own}
use Rattle.closing_laws.proofs.Draining.Emptying as emptying
use Rattle.closing_laws.proofs.Draining.PrimaryTurns.{leads_alike}
use Rattle.closing_laws.proofs.Draining.PrimaryTurns as primary_by
use Rattle.closing_laws.proofs.Draining.Standing as standing
use Rattle.closing_laws.proofs.Draining.Standing.{HoldsThroughout}
use Rattle.closing_laws.proofs.Journal.Between.{between_own}
use Rattle.closing_laws.proofs.Journal.Posting.{later}
use Rattle.closing_laws.proofs.Lists.Numbers.{below_has, filter_has}
use Rattle.closing_laws.proofs.Lists.Picked.{IsPicked}
use Rattle.closing_laws.proofs.Measure.DrainingMeasure.{switch_turn_lowers}
use Rattle.closing_laws.proofs.Measure.PrimaryLowers.{heard_lowers, place_of}
use Rattle.closing_laws.proofs.Pool.Rooms as rooms
use Rattle.closing_laws.proofs.Pool.Rooms.{Keeps, NothingBeside}
use Rattle.closing_laws.proofs.Pool.Roomy.{IsRoomy}
use Rattle.closing_laws.proofs.Pool.Roomy as roomy_by
use Rattle.closing_laws.proofs.Primary.ProperTurns.{IsProper}
use Rattle.closing_laws.proofs.Switches.SwitchKeeps.{switch_keeps, switch_says}
use Rattle.closing_laws.proofs.Truths.Facts.{begins, facts, logged, named}

module _ {B : Type 0} (scene : Scene B) (results : List (List SaveResult)) (setup : IsSetup scene.setup) (faithful : IsFaithful scene.sealing) (few : AreFew scene.kinds scene.setup) (w : ℕ) (quorum : List ℕ)
    (picked : IsPicked scene.setup.controllers w quorum) (before : List (JournalEntry B)) (succeed : SavesSucceed scene results before) (start : Start) where
  abbrev n : ℕ
  n = scene.setup.controllers

  abbrev p : ℕ
  p = w % n

  abbrev Past : Type 0
  Past = List (JournalEntry B)

  pub small : (c : ℕ) → has quorum c ≡ true → c < n
  small c chosen = (below_has n n c (filter_has (has quorum) (others_below n n) c (ap (λ (l : List ℕ). has l c) (sym picked.ascending) ∙ chosen)).0).0

  abbrev Drains : ControllerState → (ℕ → VrState) → (ℕ → SwitchState) → List Sent → Type 0
  Drains c members switches waiting = drained_by.Drains scene.kinds scene.setup w p quorum start c members switches waiting

  abbrev AreTrue : ControllerState → (ℕ → SwitchState) → Type 0
  AreTrue c switches = rooms.AreTrue scene.kinds scene.setup c switches

  -- what such a turn leaves to do
  abbrev Less : ControllerState → (ℕ → SwitchState) → Sent → List Sent → Type 0
  Less c switches m rest =
      left_to_do scene.kinds scene.setup quorum (controller_work scene.kinds scene.setup c (heard_of m)).state switches
      (rest ++ map (sent_by controller_message (actor.Controller p)) (controller_work scene.kinds scene.setup c (heard_of m)).letters) + 1 + 3 * commands_from scene.kinds scene.setup c (place_of start) ≤
      left_to_do scene.kinds scene.setup quorum c switches (m ∷ rest) + 3 * commands_from scene.kinds scene.setup (controller_work scene.kinds scene.setup c (heard_of m)).state (place_of start)

  -- a turn of the primary
  by_primary : (c : ControllerState) (members : ℕ → VrState) (switches : ℕ → SwitchState) (m : Sent) (rest : List Sent) → Drains c members switches (m ∷ rest) → m.to ≡ actor.Controller p →
      ((b : ℕ) × (m.from ≡ actor.Controller b) × (has quorum b ≡ true) × (b ≡ p → ⊥)) ⊎ ((s : ℕ) × (m.from ≡ actor.Switch s) × (s < length scene.setup.ports)) →
      ((s : ℕ) → s < length scene.setup.ports → IsTrueOf scene.kinds scene.setup c s (switches s)) → standing.PrimaryTurn scene results w quorum start c members switches m rest
  by_primary c members switches m rest d to from true_of = by_from from
    where
      turn_of : IsProper scene.kinds scene.setup c (controller_work scene.kinds scene.setup c (heard_of m)) →
          (AreTrue c switches → AreTrue (controller_work scene.kinds scene.setup c (heard_of m)).state switches → (controller_work scene.kinds scene.setup c (heard_of m)).state.full ≡ None →
          Drains (controller_work scene.kinds scene.setup c (heard_of m)).state members switches
          (rest ++ map (sent_by controller_message (actor.Controller p)) (controller_work scene.kinds scene.setup c (heard_of m)).letters)) → (AreTrue c switches → AreTrue (controller_work scene.kinds scene.setup c (heard_of m)).state switches → Less c switches m rest) →
          standing.PrimaryTurn scene results w quorum start c members switches m rest
      turn_of right keeps lowers = record {
        unsaved = right.unsaved;
        alike = record { leads = leads_alike c.vr _ right.place; view = right.place.view; promise = right.place.promise };
        keeps = keeps;
        lowers = lowers;
      }

      by_from : ((b : ℕ) × (m.from ≡ actor.Controller b) × (has quorum b ≡ true) × (b ≡ p → ⊥)) ⊎ ((s : ℕ) × (m.from ≡ actor.Switch s) × (s < length scene.setup.ports)) →
          standing.PrimaryTurn scene results w quorum start c members switches m rest
      by_from (inl (b, is, chosen, other)) =
          let h = primary_by.hears_member scene.kinds scene.setup few w p quorum start picked picked.primary refl small c members switches m rest d to true_of b is chosen other in
          turn_of h.0 (λ old now full. h.1 old.primary now.primary now.each full)
          (λ old now. heard_lowers scene.kinds scene.setup few w p quorum start picked picked.primary refl small c members switches m rest d to true_of old.primary (inl (b, is, chosen, other)) now.each)
      by_from (inr (s, is, there)) =
          let h = primary_by.hears_switch scene.kinds scene.setup few w p quorum start picked picked.primary refl small c members switches m rest d to true_of s is there in
          turn_of h.0 (λ old now full. h.1 old.primary now.primary now.each full)
          (λ old now. heard_lowers scene.kinds scene.setup few w p quorum start picked picked.primary refl small c members switches m rest d to true_of old.primary (inr (s, is, there)) now.each)

  -- a turn of a switch
  by_switch : (c : ControllerState) (members : ℕ → VrState) (switches : ℕ → SwitchState) (m : Sent) (rest : List Sent) (s : ℕ) → s < length scene.setup.ports → m.from ≡ actor.Controller p → m.to ≡ actor.Switch s →
      Drains c members switches (m ∷ rest) → AreTrue c switches → AreTrue c (put switches s (switch_turn (switches s) (heard_at m)).state) →
      Drains c members (put switches s (switch_turn (switches s) (heard_at m)).state) (rest ++ map (sent_by switch_message (actor.Switch s)) (switch_turn (switches s) (heard_at m)).letters)
      × (left_to_do scene.kinds scene.setup quorum c (put switches s (switch_turn (switches s) (heard_at m)).state) (rest ++ map (sent_by switch_message (actor.Switch s)) (switch_turn (switches s) (heard_at m)).letters) + 1 ≤
      left_to_do scene.kinds scene.setup quorum c switches (m ∷ rest))
  by_switch c members switches m rest s there from to d old now =
      subst (λ (x : SwitchTurn). Drains c members (put switches s x.state) (rest ++ map (sent_by switch_message (actor.Switch s)) x.letters)
      × (left_to_do scene.kinds scene.setup quorum c (put switches s x.state) (rest ++ map (sent_by switch_message (actor.Switch s)) x.letters) + 1 ≤ left_to_do scene.kinds scene.setup quorum c switches (m ∷ rest))) (sym turn_is) (
        drained_by.drains_switch scene.kinds scene.setup w p quorum start picked.primary c members switches m rest d s said.0 said.1 from to said.2 there kept only,
        switch_turn_lowers scene.kinds scene.setup quorum c switches m rest p s said.0 said.1 _ _ me picked.primary from to said.2 there old.primary.view served (old.each s there),
      )
    where
      by_kind : (x : Message) → IsSaidBy c.vr.view x → (xid : ℕ) × (y : Spoken) × (x ≡ message.Of xid y)
      by_kind _ Asks = (_, _, refl)
      by_kind _ (Acknowledges life through) = (_, _, refl)
      by_kind _ (Commands life number settled what less) = (_, _, refl)
      by_kind _ (Clears life through) = (_, _, refl)

      said : (xid : ℕ) × (y : Spoken) × (m.said ≡ message.Of xid y)
      said =
          by_kind m.said (subst (λ (l : List Message). AllByRecursion (λ x. IsSaidBy c.vr.view x) l) (between_own (actor.Controller p) (actor.Switch s) m rest from to) (d.served s there).said).0

      turn : SwitchTurn
      turn = switch_turn (switches s) (switch_input.Of p said.0 said.1)

      turn_is : switch_turn (switches s) (heard_at m) ≡ turn
      turn_is =
          ap (λ (a : Actor). switch_turn (switches s) (switch_hears a (unsealed.Message m.said))) from
          ∙ ap (λ (y : Message). switch_turn (switches s) (switch_hears (actor.Controller p) (unsealed.Message y))) said.2

      me : c.vr.me ≡ p
      me = d.primary.me

      turn_by : switch_turn (switches s) (switch_input.Of c.vr.me said.0 said.1) ≡ turn
      turn_by = ap (λ (k : ℕ). switch_turn (switches s) (switch_input.Of k said.0 said.1)) me

      now_true : IsTrueOf scene.kinds scene.setup c s turn.state
      now_true =
          subst (λ (x : SwitchState). IsTrueOf scene.kinds scene.setup c s x) (put_own switches s (switch_turn (switches s) (heard_at m)).state ∙ ap (λ (x : SwitchTurn). x.state) turn_is) (now.each s there)

      now_by : IsTrueOf scene.kinds scene.setup c s (switch_turn (switches s) (switch_input.Of c.vr.me said.0 said.1)).state
      now_by = subst (λ (x : SwitchTurn). IsTrueOf scene.kinds scene.setup c s x.state) (sym turn_by) now_true

      served : IsAttended scene.kinds scene.setup c s (switches s) (message.Of said.0 said.1 ∷ between (actor.Controller p) (actor.Switch s) rest) (between (actor.Switch s) (actor.Controller p) rest)
      served = drained_by.served_before scene.kinds scene.setup w p quorum start picked.primary c members switches m rest d s said.0 said.1 from to said.2 there

      kept : IsAttended scene.kinds scene.setup c s turn.state (between (actor.Controller p) (actor.Switch s) rest)
          (between (actor.Switch s) (actor.Controller p) rest ++ told_to switch_message (actor.Controller p) turn.letters)
      kept =
          subst (λ (k : ℕ). IsAttended scene.kinds scene.setup c s turn.state (between (actor.Controller p) (actor.Switch s) rest)
          (between (actor.Switch s) (actor.Controller p) rest ++ told_to switch_message (actor.Controller k) turn.letters)) me
          (subst (λ (x : SwitchTurn). IsAttended scene.kinds scene.setup c s x.state (between (actor.Controller p) (actor.Switch s) rest)
          (between (actor.Switch s) (actor.Controller p) rest ++ told_to switch_message (actor.Controller c.vr.me) x.letters)) turn_by
          (switch_keeps scene.kinds scene.setup c s (switches s) said.0 said.1 _ _ old.primary.view served (old.each s there) now_by))

      only : (l : Letter SwitchSays) → IsIn l turn.letters → (l.to ≡ actor.Controller p) ⊎ ((t : ℕ) × (l.to ≡ actor.Switch t))
      only l among =
          subst (λ (k : ℕ). (l.to ≡ actor.Controller k) ⊎ ((t : ℕ) × (l.to ≡ actor.Switch t))) me
          (switch_says scene.kinds scene.setup c s (switches s) said.0 said.1 _ _ old.primary.view served (old.each s there) now_by l
          (subst (λ (x : SwitchTurn). IsIn l x.letters) (sym turn_by) among))

  -- what is true in each past in which the quorum follows
  pub truths : (P : Past) → IsPossible scene results P → standing.HavePromised scene results w quorum start P →
      AreTrue (controller_state scene results p P) (λ s. switch_state scene s P)
  truths P possible h =
      let f = facts scene results setup faithful P possible p (small p picked.primary) h.leads quorum
      (subst (λ (v : ℕ). IsPicked n v quorum) (sym h.view) picked)
      (λ b chosen. subst (λ (v : ℕ). (controller_state scene results b P).vr.promise ≤ v) (sym h.view) (h.promises b chosen)) in
      record { primary = f.0; each = f.1 }

  -- its primary's log begins with what is decided, and it knows no more as committed
  pub led_by : (P : Past) → IsPossible scene results P → standing.HavePromised scene results w quorum start P →
      IsPrefix (decided scene results P) (controller_state scene results p P).vr.log × ((controller_state scene results p P).vr.commit ≤ length (decided scene results P))
  led_by P possible h =
      begins scene results setup faithful P possible p (small p picked.primary) h.leads quorum (subst (λ (v : ℕ). IsPicked n v quorum) (sym h.view) picked)
      (λ b chosen. subst (λ (v : ℕ). (controller_state scene results b P).vr.promise ≤ v) (sym h.view) (h.promises b chosen))

  -- and of each event there the switch is one of the setup, and its life no later than the present one
  pub logged_by : (P : Past) → IsPossible scene results P → standing.HavePromised scene results w quorum start P →
      (e : Event) → IsIn e (received (controller_state scene results p P).vr.log) → (e.switch < length scene.setup.ports) × (e.life ≤ life_of (switch_state scene e.switch P))
  logged_by P possible h =
      logged scene results setup faithful P possible p (small p picked.primary) h.leads quorum (subst (λ (v : ℕ). IsPicked n v quorum) (sym h.view) picked)
      (λ b chosen. subst (λ (v : ℕ). (controller_state scene results b P).vr.promise ≤ v) (sym h.view) (h.promises b chosen))

  switches_logged : (P : Past) → IsPossible scene results P → standing.HavePromised scene results w quorum start P →
      (e : Event) → IsIn e (received (controller_state scene results p P).vr.log) → e.switch < length scene.setup.ports
  switches_logged P possible h e among = (logged_by P possible h e among).0

  -- what is on its way finds room
  keeps_room : Keeps scene.kinds scene.setup w p quorum start NothingBeside (λ c members switches waiting. IsRoomy scene.kinds scene.setup w p quorum start c members switches waiting)
  keeps_room = roomy_by.roomy_kept scene.kinds scene.setup few w p quorum start picked picked.primary refl small setup

  has_room : (c : ControllerState) (members : ℕ → VrState) (switches : ℕ → SwitchState) (waiting : List Sent) → Drains c members switches waiting → AreTrue c switches →
      ((e : Event) → IsIn e (received c.vr.log) → e.switch < length scene.setup.ports) → IsRoomy scene.kinds scene.setup w p quorum start c members switches waiting → length waiting ≤ pool_packets
  has_room = roomy_by.has_room scene.kinds scene.setup few w p quorum start picked picked.primary refl small setup

  pub holds : HoldsThroughout scene results w quorum start
  holds = record {
    inside = picked.primary;
    small = small p picked.primary;
    by_primary = by_primary;
    by_switch = by_switch;
    truths = truths;
    named = named scene results setup faithful;
    logged = switches_logged;
    keeps_room = keeps_room;
    has_room = has_room;
  }

  -- what comes of the rest of a closing
  pub goes : (entries P : Past) (last : Phase) → IsWithinLimits scene.sealing.size (later P entries) → (phase : Phase) → IsDraining w quorum phase → (mode : standing.Mode scene results w quorum start P) →
      ClosesTo scene results phase P entries last → IsPossible scene results (later P entries) →
      emptying.Goes scene results setup faithful w quorum start holds entries P last (standing.left_in scene results w quorum start P mode)
  goes = emptying.goes scene results setup faithful w quorum start holds

  -- none comes where a limit was met
  pub no_turn : (limit : LogFull) (P entries : Past) (last : Phase) → ClosesTo scene results (Met limit) P entries last → count_turns entries ≡ 0
  no_turn limit P entries last closes =
      (emptying.no_turn scene results setup faithful w quorum start holds limit P entries last closes).0

  -- its end
  pub ends : (entries P : Past) (last : Phase) (primary : ℕ) → IsWithinLimits scene.sealing.size (later P entries) → (phase : Phase) → IsDraining w quorum phase → standing.Mode scene results w quorum start P →
      ClosesTo scene results phase P entries last → IsPossible scene results (later P entries) → IsPosted scene results (later P entries) → IsEnd (next_move scene results last (later P entries)) (Done primary) →
      HasRested scene results primary (later P entries)
  ends entries P last primary room phase draining mode closes possible posted end =
      subst (λ (k : ℕ). HasRested scene results k Q) (sym done.who)
      (closed_by.has_closed scene results setup faithful few Q possible w p quorum start refl (small p picked.primary) done.stands.members done.stands.switches done.stands.drains done.stands.switches_are true_now.primary true_now.each
      led.0 led.1 done.empty)
    where
      Q : Past
      Q = later P entries

      done : emptying.Ended scene results setup faithful w quorum start holds primary Q
      done =
          (goes entries P last room phase draining mode closes possible).ends primary posted end

      promised : standing.HavePromised scene results w quorum start Q
      promised = standing.promised scene results w quorum start Q [] done.stands

      true_now : AreTrue (controller_state scene results p Q) done.stands.switches
      true_now = standing.true_of scene results w quorum start Q [] done.stands (truths Q possible promised)

      led : IsPrefix (decided scene results Q) (controller_state scene results p Q).vr.log × ((controller_state scene results p Q).vr.commit ≤ length (decided scene results Q))
      led = led_by Q possible promised

  -- and where the limit was met it is never done
  pub never_done : (limit : LogFull) (P : Past) (entries : Past) (last : Phase) (primary : ℕ) → ClosesTo scene results (Met limit) P entries last → IsEnd (next_move scene results last (later P entries)) (Done primary) → ⊥
  never_done limit P entries last primary closes end =
      emptying.never_done scene results setup faithful w quorum start holds limit P entries last primary closes end
