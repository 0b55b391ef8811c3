-- Where the view of a closing has started, draining begins.
use Rattle.std.proofs.Common.{◌≡◌, ◌≤◌, ◌<◌, ◌⊎◌, inl, inr, ℕ, ◌%◌, List, ◌++◌, map, length, true, refl, sym, ◌∙◌, ap, subst, arith}
use Rattle.std.specs.Prelude.{reverse, None}
use Rattle.std.proofs.lemmas.Bool.{ne_eqb, cases_eq}
use Rattle.of_types.specs.Setups.{IsSetup}
use Rattle.journal.specs.declared.journal.Actor.TheVariants as actor
use Rattle.journal.specs.declared.journal.JournalEntry.{JournalEntry}
use Rattle.journal.specs.declared.journal.Packet.{Packet}
use Rattle.journal.specs.declared.journal.SaveResult.{SaveResult}
use Rattle.journal.specs.Pool.{pool}
use Rattle.vr_log.specs.declared.state.VrState.{VrState}
use Rattle.vr_log.specs.Members.{leads}
use Rattle.of_switch.specs.State.{SwitchState}
use Rattle.group_controller.specs.State.{ControllerState, Work}
use Rattle.run_spec.specs.States.{Scene, IsFaithful, content, controller_message}
use Rattle.run_spec.specs.Legal.{IsPossible}
use Rattle.run_spec.specs.Committed.{controller_state, switch_state}
use Rattle.run_spec.specs.Closing.{Phase}
use Rattle.closing_laws.specs.Following.{LeadsFrom, Start}
use Rattle.closing_laws.specs.Measure.{left_to_do}
use Rattle.closing_laws.specs.Quorum.{has}
use Rattle.closing_laws.specs.Serving.{AreFew, IsOlder}
use Rattle.closing_laws.specs.Starts.{IsAttempt, Starts, members_at, quorum_after, view_after}
use Rattle.closing_laws.specs.Views.{IsReadyMember}
use Rattle.closing_laws.specs.Ways.{Sent, sent_by}
use Rattle.closing_laws.proofs.Draining.Drained as drained_by
use Rattle.closing_laws.proofs.Draining.Leading.{start_of}
use Rattle.closing_laws.proofs.Draining.OpeningTurn as opens
use Rattle.closing_laws.proofs.Draining.Standing as standing
use Rattle.closing_laws.proofs.Journal.Carrying.{AllCarry, read_carry, sw}
use Rattle.closing_laws.proofs.Journal.Posting.{later, later_is, possible_under}
use Rattle.closing_laws.proofs.Journal.Taking.{at}
use Rattle.closing_laws.proofs.Lists.Picked.{IsPicked, picked_of_quorum}
use Rattle.closing_laws.proofs.Pool.Rooms as rooms
use Rattle.closing_laws.proofs.Pool.Roomy as roomy_by
use Rattle.closing_laws.proofs.Start.Begun as begun
use Rattle.closing_laws.proofs.Start.Begun.{later_append}
use Rattle.closing_laws.proofs.Truths.Wires.{wired_always}

module _ {B : Type 0} (scene : Scene B) (results : List (List SaveResult)) (setup : IsSetup scene.setup) (faithful : IsFaithful scene.sealing) (few : AreFew scene.kinds scene.setup)
    (before entries : List (JournalEntry B)) (last : Phase) (best : ℕ) (a : IsAttempt scene results before entries last) (s : Starts scene results before entries last best)
    (chosen : has (quorum_after scene results before) best ≡ true) (small : (c : ℕ) → has (quorum_after scene results before) c ≡ true → c < scene.setup.controllers)
    (older : (t : ℕ) → t < length scene.setup.ports → IsOlder (switch_state scene t before).fence.generation (view_after scene results before)) where
  abbrev n : ℕ
  n = scene.setup.controllers

  abbrev w : ℕ
  w = view_after scene results before

  abbrev quorum : List ℕ
  quorum = quorum_after scene results before

  abbrev p : ℕ
  p = w % n

  abbrev members : ℕ → VrState
  members = members_at scene results before

  -- with what the view has started
  abbrev pub start : Start
  start = start_of p quorum members best

  -- the past in which it has
  abbrev pub begin : List (JournalEntry B)
  begin = reverse s.first ++ before

  pub picked : IsPicked n w quorum
  picked = picked_of_quorum n w quorum (begun.quorum_is scene results before a.most)

  pub ready : (j : ℕ) → has quorum j ≡ true → IsReadyMember n w j (members j)
  ready = begun.ready scene results before a.most

  abbrev switches : ℕ → SwitchState
  switches t = (sw scene results t begin).now

  pub older_then : (t : ℕ) → t < length scene.setup.ports → IsOlder (switches t).fence.generation w
  older_then t there = subst (λ (x : SwitchState). IsOlder x.fence.generation w) (sym (s.unchanged t)) (older t there)

  pub possible : IsPossible scene results begin
  possible =
      let split : later before entries ≡ later (later before s.first) s.rest = ap (later before) s.joined ∙ later_append before s.first s.rest in
      subst (λ (l : List (JournalEntry B)). IsPossible scene results l) (later_is before s.first)
      (possible_under scene results s.rest (later before s.first)
      (subst (λ (l : List (JournalEntry B)). IsPossible scene results l) (sym (later_is before entries) ∙ split) a.possible))

  -- the turn that starts it
  abbrev pub end : Work
  end = opens.end scene.kinds scene.setup few w quorum members best picked small ready s.covered chosen s.started.voters s.started.promise switches older_then

  pub end_is : s.started.turn ≡ end
  end_is = s.started.turn_is

  pub now_is : (at scene results p begin).now ≡ end.state
  now_is = s.started.primary ∙ ap (λ (x : Work). x.state) end_is

  end_view : end.state.vr.view ≡ w
  end_view = (opens.same scene.kinds scene.setup few w quorum members best picked small ready s.covered chosen s.started.voters s.started.promise switches older_then).view

  end_promise : end.state.vr.promise ≡ w
  end_promise = (opens.same scene.kinds scene.setup few w quorum members best picked small ready s.covered chosen s.started.voters s.started.promise switches older_then).promise

  -- no member of the quorum has promised a later view
  pub promised : standing.HavePromised scene results w quorum start begin
  promised = record {
    leads = ap (λ (c : ControllerState). leads c.vr) now_is
        ∙ opens.leads_now scene.kinds scene.setup few w quorum members best picked small ready s.covered chosen s.started.voters s.started.promise switches older_then;
    view = ap (λ (c : ControllerState). c.vr.view) now_is ∙ end_view;
    promises = λ b member. by_same b member (cases_eq b p);
  }
    where
      by_same : (b : ℕ) → has quorum b ≡ true → (b ≡ p) ⊎ (b ≡ p → ⊥) → (at scene results b begin).now.vr.promise ≤ w
      by_same b member (inl e) =
          let is = ap (λ (c : ControllerState). c.vr.promise) now_is ∙ end_promise in
          let it : (at scene results p begin).now.vr.promise ≤ w = omega (arith, is) in
          subst (λ (k : ℕ). (at scene results k begin).now.vr.promise ≤ w) (sym e) it
      by_same b member (inr e) = let is = ap (λ (v : VrState). v.promise) (s.started.others b member (ne_eqb b p e)) in omega (arith, is)

  abbrev pub waiting : List Sent
  waiting = map (sent_by controller_message (actor.Controller p)) s.started.turn.letters

  -- what waits is what the primary said in that turn
  pub carries : AllCarry scene.sealing (pool begin) waiting
  carries =
      subst (λ (ps : List (Packet B)). AllCarry scene.sealing ps waiting) (sym s.started.waits)
      (read_carry scene.sealing controller_message (actor.Controller p) s.started.number s.started.turn.letters (ap (map (content scene.sealing)) (sym s.started.waits) ∙ s.started.says))

  -- where what is true of a primary that leads is true of it, and its log has met no limit
  module _ (truths : (P : List (JournalEntry B)) → IsPossible scene results P → standing.HavePromised scene results w quorum start P →
      rooms.AreTrue scene.kinds scene.setup (at scene results p P).now (λ k. (sw scene results k P).now))
      (room : (controller_state scene results p begin).full ≡ None) where
    truth : rooms.AreTrue scene.kinds scene.setup end.state switches
    truth =
        subst (λ (c : ControllerState). rooms.AreTrue scene.kinds scene.setup c switches) now_is
        (truths begin possible promised)

    abbrev Drains : ControllerState → List Sent → Type 0
    Drains c ms = drained_by.Drains scene.kinds scene.setup w p quorum start c (λ b. (at scene results b begin).now.vr) switches ms

    abbrev Roomy : ControllerState → List Sent → Type 0
    Roomy c ms = roomy_by.IsRoomy scene.kinds scene.setup w p quorum start c (λ b. (at scene results b begin).now.vr) switches ms

    pub stands : standing.Stands scene results w quorum start begin waiting
    stands = record {
      members = λ b. (at scene results b begin).now.vr;
      switches = switches;
      members_are = λ b member other. refl;
      switches_are = λ t there. refl;
      drains =
          subst (λ (c : ControllerState). Drains c waiting) (sym now_is)
          (subst (λ (x : Work). Drains end.state (map (sent_by controller_message (actor.Controller p)) x.letters)) (sym end_is)
          (opens.drains scene.kinds scene.setup few w quorum members best picked small ready s.covered chosen s.started.voters s.started.promise switches older_then
          truth.primary truth.each (sym (ap (λ (c : ControllerState). c.full) now_is) ∙ room) (λ b. (at scene results b begin).now.vr) (λ b member other. s.started.others b member (ne_eqb b p other))));
      roomy =
          subst (λ (c : ControllerState). Roomy c waiting) (sym now_is)
          (subst (λ (x : Work). Roomy end.state (map (sent_by controller_message (actor.Controller p)) x.letters)) (sym end_is)
          (roomy_by.roomy_starts scene.kinds scene.setup few w quorum members best picked small ready s.covered chosen s.started.voters s.started.promise switches older_then
          truth (λ t there. wired_always scene setup begin t there) (λ b. (at scene results b begin).now.vr)));
    }

    pub opened : standing.Mode scene results w quorum start begin
    opened = standing.Resting (record { waiting = waiting; carries = carries; stands = stands; posted = s.posted })

    -- what is left to do there
    pub opened_left : standing.left_in scene results w quorum start begin opened ≡
        left_to_do scene.kinds scene.setup quorum (at scene results p begin).now (λ k. (sw scene results k begin).now) waiting
    unfolding opened
    opened_left = refl

    pub lead_now : LeadsFrom start (controller_state scene results p begin).vr
    lead_now = stands.drains.primary.lead
