-- What is left to do where a closing's view has started.
use Rattle.std.proofs.Common.{◌≡◌, ◌≤◌, ◌<◌, ◌⊎◌, inl, inr, ℕ, ◌+◌, ◌-◌, ◌*◌, ◌/◌, ◌%◌, true, List, map, length, take, filter, refl, sym, ◌∙◌, ap, subst, arith}
use Rattle.std.specs.Prelude.{sum_by}
use Rattle.std.specs.List.{range_with_len}
use Rattle.of_types.specs.declared.message.Event.{Event}
use Rattle.of_types.specs.Lives.{count_in}
use Rattle.of_types.specs.Setups.{IsSetup}
use Rattle.journal.specs.declared.journal.Actor.TheVariants as actor
use Rattle.journal.specs.declared.journal.JournalEntry.{JournalEntry}
use Rattle.journal.specs.declared.journal.SaveResult.{SaveResult}
use Rattle.vr_log.specs.declared.state.VrState.{VrState}
use Rattle.vr_log.specs.Log.{processed, received}
use Rattle.vr_log.specs.Members.{most_failures, others, others_below}
use Rattle.view_change.specs.Entering.{tells_start, view_start}
use Rattle.event_buffer.specs.Buffer.{next_number}
use Rattle.of_switch.specs.State.{SwitchState, life_of}
use Rattle.group_controller.specs.State.{ControllerState, Work, fresh, stepped}
use Rattle.run_spec.specs.Bound.{waiting_at}
use Rattle.run_spec.specs.States.{Scene, IsFaithful, controller_message}
use Rattle.run_spec.specs.Committed.{controller_state, switch_state}
use Rattle.run_spec.specs.Closing.{Phase}
use Rattle.closing_laws.specs.Following.{LeadsFrom, Start}
use Rattle.closing_laws.specs.Measure.{commands_from, left_at_switches, left_to_do, left_to_process, logged_held}
use Rattle.closing_laws.specs.Quorum.{has}
use Rattle.closing_laws.specs.Serving.{AreFew, IsOlder, logged_of}
use Rattle.closing_laws.specs.Starts.{IsAttempt, Starts, members_at, quorum_after, view_after}
use Rattle.closing_laws.specs.Ways.{sent_by}
use Rattle.closing_laws.proofs.Draining.Agreeing as agreeing
use Rattle.closing_laws.proofs.Draining.Leading as leading
use Rattle.closing_laws.proofs.Draining.Opened as opened_by
use Rattle.closing_laws.proofs.Journal.Carrying.{sw}
use Rattle.closing_laws.proofs.Journal.Taking.{at}
use Rattle.closing_laws.proofs.Lists.Picked.{IsPicked}
use Rattle.closing_laws.proofs.Measure.AnswerWorths.{primary_worths, told_worth}
use Rattle.closing_laws.proofs.Measure.PrimaryLowers.{place_known, place_of}
use Rattle.closing_laws.proofs.Measure.StartMeasure as measure
use Rattle.closing_laws.proofs.Switches.SwitchAsked.{older_other}

module _ {B : Type 0} (scene : Scene B) (results : List (List SaveResult)) (setup : IsSetup scene.setup) (faithful : IsFaithful scene.sealing) (few : AreFew scene.kinds scene.setup)
    (before entries : List (JournalEntry B)) (last : Phase) (best : ℕ) (a : IsAttempt scene results before entries last) (s : Starts scene results before entries last best)
    (chosen : has (quorum_after scene results before) best ≡ true) (small : (c : ℕ) → has (quorum_after scene results before) c ≡ true → c < scene.setup.controllers)
    (older : (t : ℕ) → t < length scene.setup.ports → IsOlder (switch_state scene t before).fence.generation (view_after scene results before)) where
  abbrev n : ℕ
  n = scene.setup.controllers

  abbrev f : ℕ
  f = n / 2

  abbrev w : ℕ
  w = view_after scene results before

  abbrev quorum : List ℕ
  quorum = quorum_after scene results before

  abbrev p : ℕ
  p = w % n

  abbrev members : ℕ → VrState
  members = members_at scene results before

  abbrev start : Start
  start = opened_by.start scene results setup faithful few before entries last best a s chosen small older

  abbrev begin : List (JournalEntry B)
  begin = opened_by.begin scene results setup faithful few before entries last best a s chosen small older

  picked : IsPicked n w quorum
  picked = opened_by.picked scene results setup faithful few before entries last best a s chosen small older

  -- the primary as it starts the view
  abbrev pub leader : VrState
  leader =
      leading.leader n w quorum members best (opened_by.picked scene results setup faithful few before entries last best a s chosen small older) small
      (opened_by.ready scene results setup faithful few before entries last best a s chosen small older) s.covered chosen s.started.voters

  lead : LeadsFrom start leader
  lead =
      leading.leads_with n w quorum members best (opened_by.picked scene results setup faithful few before entries last best a s chosen small older) small
      (opened_by.ready scene results setup faithful few before entries last best a s chosen small older) s.covered chosen s.started.voters

  size : leader.controllers ≡ n
  size =
      leading.size n w quorum members best (opened_by.picked scene results setup faithful few before entries last best a s chosen small older) small
      (opened_by.ready scene results setup faithful few before entries last best a s chosen small older) s.covered chosen s.started.voters

  me : leader.me ≡ p
  me =
      leading.me n w quorum members best (opened_by.picked scene results setup faithful few before entries last best a s chosen small older) small
      (opened_by.ready scene results setup faithful few before entries last best a s chosen small older) s.covered chosen s.started.voters

  commit_is : ((n / 2 ≡ 0) × (leader.commit ≡ length start.log)) ⊎ ((0 < n / 2) × (leader.commit ≡ start.known))
  commit_is =
      leading.commit_is n w quorum members best (opened_by.picked scene results setup faithful few before entries last best a s chosen small older) small
      (opened_by.ready scene results setup faithful few before entries last best a s chosen small older) s.covered chosen s.started.voters

  -- all that the members of the quorum knew is known
  pub knows : (j : ℕ) → has quorum j ≡ true → (members j).commit ≤ start.known
  knows =
      leading.knows n w quorum members best (opened_by.picked scene results setup faithful few before entries last best a s chosen small older) small
      (opened_by.ready scene results setup faithful few before entries last best a s chosen small older) s.covered chosen s.started.voters

  abbrev work : Work
  work = stepped (fresh leader) (record (tells_start leader) { promise = s.started.promise })

  abbrev switches : ℕ → SwitchState
  switches t = (sw scene results t begin).now

  abbrev end : Work
  end = measure.end scene.kinds scene.setup quorum f (place_of start) switches work

  abbrev begun : ControllerState
  begun = measure.begun scene.kinds scene.setup quorum f (place_of start) switches work

  turn_is : s.started.turn ≡ end
  turn_is = s.started.turn_is

  now_is : (at scene results p begin).now ≡ end.state
  now_is = s.started.primary ∙ ap (λ (x : Work). x.state) turn_is

  enough : length (filter (has quorum) (others_below leader.me leader.controllers)) ≡ f
  enough =
      agreeing.enough leader w quorum (subst (λ (k : ℕ). IsPicked k w quorum) (sym size) picked) (ap (has quorum) me ∙ picked.primary)
      ∙ ap (λ (k : ℕ). k / 2) size

  whole : most_failures leader ≡ 0 → leader.commit ≡ length leader.log
  whole none = elim commit_is [
    | inl a ↦ a.1
    | inr b ↦ (let some = b.0 in let half = ap (λ (k : ℕ). k / 2) size in absurd (omega (arith, some, half, none)))
  ]

  -- no event is logged as it starts
  pub events_same : received (controller_state scene results p begin).vr.log ≡ received leader.log
  events_same =
      ap (λ (c : ControllerState). received c.vr.log) now_is
      ∙ measure.events_same scene.kinds scene.setup quorum f (place_of start) switches work enough lead.one lead.commit whole (place_known start leader lead)

  pub known_within : start.known ≤ leader.commit
  known_within = lead.known

  -- what it says first: that the view has started
  said_first : primary_worths quorum leader.me work.letters ≡ 2 * f
  said_first = told_worth quorum leader.me (view_start leader) refl (others leader) ∙ ap (λ (k : ℕ). 2 * k) enough

  all_said : left_to_do scene.kinds scene.setup quorum (at scene results p begin).now switches (opened_by.waiting scene results setup faithful few before entries last best a s chosen small older) ≡
      primary_worths quorum leader.me end.letters + left_at_switches scene.setup f end.state switches + left_to_process scene.kinds scene.setup f end.state
  all_said =
      ap (λ (c : ControllerState). left_to_do scene.kinds scene.setup quorum c switches (map (sent_by controller_message (actor.Controller p)) s.started.turn.letters)) now_is
      ∙ ap (λ (x : Work). left_to_do scene.kinds scene.setup quorum end.state switches (map (sent_by controller_message (actor.Controller p)) x.letters)) turn_is
      ∙ ap (λ (k : ℕ). primary_worths quorum k end.letters + left_at_switches scene.setup f end.state switches + left_to_process scene.kinds scene.setup f end.state) (sym me)

  -- where what left the buffers of the switches was logged
  module _ (cleared : (t : ℕ) → t < length scene.setup.ports → (switches t).buffer.cleared ≤ logged_of (controller_state scene results p begin) t (switches t))
      (logged : (t : ℕ) → t < length scene.setup.ports → logged_of (controller_state scene results p begin) t (switches t) ≤ next_number (switches t).buffer) where
    pub start_left : left_to_do scene.kinds scene.setup quorum (at scene results p begin).now switches (opened_by.waiting scene results setup faithful few before entries last best a s chosen small older)
        + (4 * f + 1) * sum_by (λ t. logged_held leader.log t (switches t)) (range_with_len 0 (length scene.setup.ports)) ≤
        2 * f + 2 * length scene.setup.ports + (2 * f + 1) * (length (received leader.log) - processed leader.log) + (processed leader.log - processed (take leader.commit leader.log))
        + (4 * f + 3) * sum_by (λ t. waiting_at (switches t)) (range_with_len 0 (length scene.setup.ports)) + 3 * commands_from scene.kinds scene.setup (controller_state scene results p begin) (place_of start)
    start_left =
        let value = measure.start_value scene.kinds scene.setup quorum f (place_of start) switches work enough lead.one lead.commit whole (place_known start leader lead) in
        let at_switches = measure.all_left scene.kinds scene.setup quorum f (place_of start) switches work (λ t there. (
          older_other w (switches t).fence.generation (opened_by.older_then scene results setup faithful few before entries last best a s chosen small older t there),
          (let low = cleared t there in let same = ap (λ (es : List Event). count_in t (life_of (switches t)) es) events_same in omega (arith, low, same)),
          (let high = logged t there in let same = ap (λ (es : List Event). count_in t (life_of (switches t)) es) events_same in omega (arith, high, same)),
        )) in
        let all = all_said in
        let first = said_first in
        let now = ap (λ (c : ControllerState). commands_from scene.kinds scene.setup c (place_of start)) now_is in
        omega (arith, value, at_switches, all, first, now)
