-- A proposal meets the limit of a log where an entry more would pass it, and so a closing ends for that alone.
use Rattle.std.proofs.Common.{◌≡◌, ◌<◌, ℕ, ◌%◌, zero, suc, Bool, true, false, List, [], ◌∷◌, ◌++◌, length, refl, sym, ◌∙◌, ap, subst, arith}
use Rattle.std.specs.Prelude.{nat_eq, nat_le, nat_lt, not, ◌&&◌, flat_map, Option, Some, None, IfSome, slice_index_or, if◌then◌else◌}
use Rattle.std.specs.List.{range_with_len}
use Rattle.std.proofs.lemmas.Bool.{and_parts, cond_both, leb-true, ltb-true, not-false, true≢false}
use Rattle.of_types.specs.declared.message.Event.{Event}
use Rattle.of_types.specs.declared.message.Extension.{Extension}
use Rattle.of_types.specs.declared.message.Extension.TheVariants as extension
use Rattle.of_types.specs.declared.message.OfMessage.{OfMessage}
use Rattle.of_types.specs.declared.message.OfMessage.TheVariants as plain
use Rattle.of_types.specs.declared.message.Spoken.{Spoken}
use Rattle.of_types.specs.declared.message.Spoken.TheVariants as spoken
use Rattle.of_types.specs.declared.numbers.TheConstants.{MASTER}
use Rattle.of_types.specs.declared.setup.Setup.{Setup}
use Rattle.of_types.specs.Lives.{last_life}
use Rattle.of_types.specs.Setups.{IsSetup}
use Rattle.list_facts.specs.Lists.{IsIn, IsPrefix}
use Rattle.list_facts.proofs.Elements.{in_filter, in_left}
use Rattle.list_facts.proofs.Places.{get_in}
use Rattle.list_facts.proofs.Prefixes.{front_prefix, prefix_length}
use Rattle.journal.specs.declared.journal.Local.{Local as LocalInput}
use Rattle.journal.specs.declared.journal.Local.TheVariants as local
use Rattle.journal.specs.declared.journal.Actor.{Actor}
use Rattle.journal.specs.declared.journal.Actor.TheVariants as actor
use Rattle.journal.specs.declared.journal.JournalEntry.{JournalEntry}
use Rattle.journal.specs.declared.journal.JournalEntry.TheVariants.{Post, Draw, Lose, Local, Idle, Refused}
use Rattle.journal.specs.declared.journal.Packet.{Packet}
use Rattle.journal.specs.declared.journal.SaveResult.{SaveResult}
use Rattle.journal.specs.declared.journal.SaveResult.TheVariants.{Saved, KeptOld, KeptNew}
use Rattle.journal.specs.declared.journal.Letter.{Letter}
use Rattle.journal.proofs.Leaving.{same_actor-true}
use Rattle.journal.specs.Actors.{actor_of, same_actor}
use Rattle.journal.specs.Part.{part}
use Rattle.journal.specs.Pool.{pool}
use Rattle.vr_log.specs.declared.entry.Entry.{Entry}
use Rattle.vr_log.specs.declared.entry.Entry.TheVariants.{Received}
use Rattle.vr_log.specs.declared.entry.LogFull.{LogFull}
use Rattle.vr_log.specs.declared.state.Status.{Status}
use Rattle.vr_log.specs.declared.state.Status.TheVariants.{Normal, ViewChange, Recovering, Down}
use Rattle.vr_log.specs.declared.state.VrState.{VrState}
use Rattle.vr_log.specs.Log.{full_at, is_past_limits, may_be_received, processed, received}
use Rattle.two_stage_log.specs.Counts.{has_unprocessed, processed_of}
use Rattle.vr_log.specs.Members.{is_up, leads}
use Rattle.vr_log.specs.Steps.{VrStep}
use Rattle.vr_core.specs.declared.input.VrInput.TheVariants as vr_input
use Rattle.vr_core.specs.Step.{vr_step}
use Rattle.dispatcher.specs.declared.answers.EventAction.{EventAction}
use Rattle.dispatcher.specs.declared.answers.EventAction.TheVariants.{Propose, Acknowledge, Nothing}
use Rattle.dispatcher.specs.Folding.{is_done, wish}
use Rattle.group_controller.specs.declared.messages.ControllerInput.{ControllerInput}
use Rattle.group_controller.specs.declared.messages.ControllerInput.TheVariants as controller_input
use Rattle.dispatcher.specs.Marks.{is_finished, is_pending}
use Rattle.group_controller.specs.State.{committed, ControllerState, Work, resting, stepped, with_no_met_limit}
use Rattle.group_controller.specs.Settling.{after_proposal, finishing, goes_on, is_alone, is_settled, is_untold, processing, proposing, settling, with_answers, with_commands, with_proposal}
use Rattle.of_switch.specs.State.{SwitchState}
use Rattle.controller_moves.proofs.ControllerLaws.Logs.{received_prefix}
use Rattle.run_spec.specs.States.{Scene, IsFaithful, ControllerAt, SwitchAt, content, controller_hears, controller_saved, controller_step, controller_took, switch_at}
use Rattle.group_controller.specs.Rules.{after_step, controller_work, has_started, is_down, on_extension, on_input, on_hello, on_local, on_master, on_tick, on_plain, on_result, on_switch, on_wish, when_down}
use Rattle.run_spec.specs.Legal.{IsPossible, results_of}
use Rattle.run_spec.specs.Committed.{controller_state, members_up, states_of, switch_state}
use Rattle.run_spec.specs.Closing.{ClosingAnswer, Overfull, IsEnd, Phase, Losing, Suspecting, Draining, Met, ClosingMove, Takes, Ends, ClosesTo, IsMove, after_member, after_move, after_turn, majority, met_by, next_drained, next_lost, next_move, next_suspicion}
use Rattle.run_spec.proofs.Pasts.{possible_before, self_controller}
use Rattle.run_spec.proofs.Pools.{drawn_found}
use Rattle.run_laws.specs.OnceLaws.Facts.{facts_of}
use Rattle.run_laws.specs.OnceLaws.Invariant.{IsHeardByController, Logged}
use Rattle.run_laws.specs.OnceLaws.Truths.{IsGenuine}
use Rattle.run_laws.proofs.OnceLaws.ControllerTurns.{received_at}
use Rattle.run_laws.proofs.OnceLaws.Journals.{firm_events}
use Rattle.run_laws.proofs.OnceLaws.Packets.{heard_by_controller}
use Rattle.run_laws.proofs.Laws.{always}
use Rattle.run_laws.proofs.Members.{owned_at}
use Rattle.closing_laws.specs.Stops.{ClosingsMeetLimits, FitALog, IsAtLimit}
use Rattle.closing_laws.proofs.Ends.Attempts.{move_on, not_met}
use Rattle.closing_laws.proofs.Ends.FittingLogs.{Comes, IsNext, Is_done, has_room}
use Rattle.closing_laws.proofs.Journal.Carrying.{IsIdle, Posts, controllers_stay, switch_rests, switches_stay}
use Rattle.closing_laws.proofs.Journal.Posting.{later, later_is}
use Rattle.closing_laws.proofs.Journal.Taking.{at, own_steps}
use Rattle.closing_laws.proofs.Primary.Proposing.{commands_vr}

-- of events of which something is known
module _ (IsKnown : Event → Type 0) where
  -- the limit that a controller's last turn met is that of its log, with the entry that comes next
  abbrev MetWith : VrState → LogFull → Type 0
  MetWith vr limit = (leads vr ≡ true) × (entry : Entry) × (is_past_limits vr.log entry ≡ true) × (limit ≡ full_at vr.log entry) × IsNext IsKnown vr.log entry

  abbrev MetsItsLimit : ControllerState → Type 0
  MetsItsLimit c = IfSome c.full (λ limit. MetWith c.vr limit)

  -- what a controller hears, if it is an event
  abbrev IsOfKnown : ControllerInput → Type 0
  IsOfKnown (controller_input.Of s xid (spoken.Ravana (extension.Event life number what))) = IsKnown (record { switch = s; life = life; number = number; what = what })
  IsOfKnown _ = Unit {0}

  none_met : (c : ControllerState) → c.full ≡ None → MetsItsLimit c
  none_met c none = subst (λ (o : Option LogFull). IfSome o (λ limit. MetWith c.vr limit)) (sym none) tt

module _ (IsKnown : Event → Type 0) (kinds : List ℕ) (setup : Setup) where
  commands_clear : (work : Work) → (with_commands kinds setup work).state.full ≡ work.state.full
  commands_clear work = cond_both (is_untold work.state) _ _ (λ (y : Work). y.state.full ≡ work.state.full) (λ _. refl) (λ _. refl)

  proposal_met : (work : Work) (entry : Entry) → leads work.state.vr ≡ true → IsNext IsKnown work.state.vr.log entry → work.state.full ≡ None → MetsItsLimit IsKnown (after_proposal kinds setup work entry).state × (is_past_limits work.state.vr.log entry ≡ false → (after_proposal kinds setup work entry).state.full ≡ None)
  proposal_met work entry lead comes none = by_test (is_past_limits work.state.vr.log entry) refl
    where
      next : Work
      next = after_proposal kinds setup work entry

      alone : Work
      alone = if is_alone work.state then with_commands kinds setup (with_answers kinds setup work.state.vr.commit (with_proposal work entry)) else with_proposal work entry

      alone_clear : alone.state.full ≡ None
      alone_clear = cond_both (is_alone work.state) _ _ (λ (y : Work). y.state.full ≡ None) (λ _. commands_clear (with_answers kinds setup work.state.vr.commit (with_proposal work entry)) ∙ none) (λ _. none)

      by_test : (b : Bool) → is_past_limits work.state.vr.log entry ≡ b → MetsItsLimit IsKnown next.state × (is_past_limits work.state.vr.log entry ≡ false → next.state.full ≡ None)
      by_test true e =
          let is : next ≡ (if true then record work { state = record work.state { full = Some (full_at work.state.vr.log entry) } } else alone) =
          ap (λ (b : Bool). if b then record work { state = record work.state { full = Some (full_at work.state.vr.log entry) } } else alone) e in
          (subst (λ (y : Work). MetsItsLimit IsKnown y.state) (sym is) (lead, entry, e, refl, comes), (λ h. absurd (true≢false (sym e ∙ h))))
      by_test false e =
          let is : next ≡ alone = ap (λ (b : Bool). if b then record work { state = record work.state { full = Some (full_at work.state.vr.log entry) } } else alone) e in
          let clear = ap (λ (y : Work). y.state.full) is ∙ alone_clear in
          (none_met IsKnown next.state clear, (λ h. clear))

  goes_past : (c : ControllerState) (entry : Entry) → goes_on c entry ≡ true → is_past_limits c.vr.log entry ≡ false
  goes_past c entry e = by_test (is_past_limits c.vr.log entry) e
    where
      by_test : (b : Bool) → (not b && is_alone c) ≡ true → b ≡ false
      by_test true h = absurd (true≢false (sym h))
      by_test false h = refl

  -- an event that is finished, and not yet proposed as processed, is the next that is
  done_next : (work : Work) → is_settled kinds setup work.state ≡ true → IsNext IsKnown work.state.vr.log (processing work.state)
  done_next work settled =
      let c = work.state in
      let parts = and_parts (is_finished kinds setup (committed c) c.marks) (nat_le (processed c.vr.log) (processed (committed c))) settled in
      let some = ltb-true (processed (committed c)) (length (received (committed c))) (and_parts (has_unprocessed (committed c)) _ parts.0).0 in
      let low = leb-true (processed c.vr.log) (processed (committed c)) parts.1 in
      let few = prefix_length (received_prefix (front_prefix c.vr.commit c.vr.log)) in
      Is_done (processed (committed c)) (omega (arith, some, low, few))

  -- a proposal leaves it leading
  leads_on : (work : Work) (entry : Entry) → leads work.state.vr ≡ true → leads (after_proposal kinds setup work entry).state.vr ≡ true
  leads_on work entry lead =
      cond_both (is_past_limits work.state.vr.log entry) _ _ (λ (y : Work). leads y.state.vr ≡ true) (λ _. lead)
      (λ _. cond_both (is_alone work.state) _ _ (λ (y : Work). leads y.state.vr ≡ true)
      (λ _. ap leads (commands_vr kinds setup (with_answers kinds setup work.state.vr.commit (with_proposal work entry))) ∙ lead) (λ _. lead))

  finishing_met : (fuel : ℕ) (work : Work) → leads work.state.vr ≡ true → work.state.full ≡ None → MetsItsLimit IsKnown (finishing fuel kinds setup work).state
  unfolding finishing
  finishing_met zero work lead none = none_met IsKnown work.state none
  finishing_met (suc more) work lead none =
      let next = after_proposal kinds setup work (processing work.state) in
      cond_both (not (is_settled kinds setup work.state)) _ _ (λ (y : Work). MetsItsLimit IsKnown y.state) (λ _. none_met IsKnown work.state none)
      (λ some.
      let here = proposal_met work (processing work.state) lead (done_next work (not-false (is_settled kinds setup work.state) some)) none in
      cond_both (goes_on work.state (processing work.state)) _ _ (λ (y : Work). MetsItsLimit IsKnown y.state) (λ e. finishing_met more next (leads_on work (processing work.state) lead) (here.1 (goes_past work.state (processing work.state) e))) (λ _. here.0))

  settling_met : (before : ℕ) (work : Work) → leads work.state.vr ≡ true → work.state.full ≡ None → MetsItsLimit IsKnown (settling kinds setup before work).state
  unfolding settling
  settling_met before work lead none =
      let told = with_commands kinds setup (with_answers kinds setup before work) in
      finishing_met (length (received told.state.vr.log)) told (ap leads (commands_vr kinds setup (with_answers kinds setup before work)) ∙ lead) (commands_clear (with_answers kinds setup before work) ∙ none)

  proposing_met : (c : ControllerState) (entry : Entry) → leads c.vr ≡ true → IsNext IsKnown c.vr.log entry → c.full ≡ None → MetsItsLimit IsKnown (proposing kinds setup c entry).state
  proposing_met c entry lead comes none =
      let next = after_proposal kinds setup (resting c) entry in
      let here = proposal_met (resting c) entry lead comes none in
      cond_both (goes_on c entry) _ _ (λ (y : Work). MetsItsLimit IsKnown y.state) (λ e. finishing_met (length (received next.state.vr.log)) next (leads_on (resting c) entry lead) (here.1 (goes_past c entry e))) (λ _. here.0)

  step_met : (c : ControllerState) (step : VrStep) → c.full ≡ None → MetsItsLimit IsKnown (after_step kinds setup c step).state
  unfolding after_step
  step_met c step none =
      cond_both (has_started c.vr step.state) _ _ (λ (y : Work). MetsItsLimit IsKnown y.state) (λ started. settling_met _ _ (and_parts (leads step.state) _ started).0 none)
      (λ _. cond_both (leads step.state && nat_lt c.vr.commit step.state.commit) _ _ (λ (y : Work). MetsItsLimit IsKnown y.state) (λ more. settling_met c.vr.commit (stepped c step) (and_parts (leads step.state) _ more).0 none) (λ _. none_met IsKnown (stepped c step).state none))

  wish_met : (c : ControllerState) (e : Event) → leads c.vr ≡ true → IsKnown e → c.full ≡ None → MetsItsLimit IsKnown (on_wish kinds setup c e (wish c.vr.log (committed c) e)).state
  wish_met c e lead is none =
      cond_both (may_be_received e (received c.vr.log)) Propose (if is_done c.vr.log (committed c) e then Acknowledge (processed_of (committed c) e.switch e.life) else Nothing)
      (λ (w : EventAction). MetsItsLimit IsKnown (on_wish kinds setup c e w).state) (λ may. proposing_met c (Received e) lead (Comes e is may) none)
      (λ _. cond_both (is_done c.vr.log (committed c) e) (Acknowledge (processed_of (committed c) e.switch e.life)) Nothing (λ (w : EventAction). MetsItsLimit IsKnown (on_wish kinds setup c e w).state)
      (λ _. none_met IsKnown c none) (λ _. none_met IsKnown c none))

  result_met : (c : ControllerState) (s life number : ℕ) → leads c.vr ≡ true → c.full ≡ None → MetsItsLimit IsKnown (on_result kinds setup c s life number).state
  result_met c s life number lead none = cond_both (is_pending kinds setup (committed c) s life number) _ _ (λ (y : Work). MetsItsLimit IsKnown y.state) (λ _. finishing_met _ _ lead none) (λ _. none_met IsKnown c none)

  plain_met : (c : ControllerState) (s : ℕ) (m : OfMessage) → c.full ≡ None → MetsItsLimit IsKnown (on_plain kinds setup c s m).state
  plain_met c s (plain.RoleReply role generation) none = cond_both (nat_eq role MASTER && nat_eq generation c.vr.view) _ _ (λ (y : Work). MetsItsLimit IsKnown y.state) (λ _. none_met IsKnown (on_master kinds setup c s).state none) (λ _. none_met IsKnown c none)
  plain_met c s plain.Hello none = none_met IsKnown (on_hello c s).state none
  plain_met c s m none = none_met IsKnown c none

  extension_met : (c : ControllerState) (s xid : ℕ) (m : Extension) → leads c.vr ≡ true → IsOfKnown IsKnown (controller_input.Of s xid (spoken.Ravana m)) → c.full ≡ None → MetsItsLimit IsKnown (on_extension kinds setup c s m).state
  extension_met c s xid (extension.Event life number what) lead is none = wish_met c (record { switch = s; life = life; number = number; what = what }) lead is none
  extension_met c s xid (extension.CmdAck life number outcome) lead is none = result_met c s life number lead none
  extension_met c s xid m lead is none = none_met IsKnown c none

  switch_met : (c : ControllerState) (s xid : ℕ) (said : Spoken) → IsOfKnown IsKnown (controller_input.Of s xid said) → c.full ≡ None → MetsItsLimit IsKnown (on_switch kinds setup c s xid said).state
  switch_met c s xid (spoken.Plain (plain.EchoRequest body)) is none = cond_both (is_up c.vr) _ _ (λ (y : Work). MetsItsLimit IsKnown y.state) (λ _. none_met IsKnown c none) (λ _. none_met IsKnown c none)
  switch_met c s xid (spoken.Plain m) is none = cond_both (leads c.vr) (on_plain kinds setup c s m) (resting c) (λ (y : Work). MetsItsLimit IsKnown y.state) (λ _. plain_met c s m none) (λ _. none_met IsKnown c none)
  switch_met c s xid (spoken.Ravana m) is none = cond_both (leads c.vr) (on_extension kinds setup c s m) (resting c) (λ (y : Work). MetsItsLimit IsKnown y.state) (λ lead. extension_met c s xid m lead is none) (λ _. none_met IsKnown c none)

  local_met : (c : ControllerState) (x : LocalInput) → c.full ≡ None → MetsItsLimit IsKnown (on_local kinds setup c x).state
  local_met c (local.Frame port bytes) none = none_met IsKnown c none
  local_met c (local.Port port up) none = none_met IsKnown c none
  local_met c local.Tick none = none_met IsKnown (on_tick kinds setup c).state none
  local_met c (local.Suspect view) none = step_met c (vr_step c.vr (vr_input.Suspect view)) none
  local_met c local.Crash none = tt
  local_met c local.Restart none = none_met IsKnown c none

  input_met : (c : ControllerState) (x : ControllerInput) → IsOfKnown IsKnown x → c.full ≡ None → MetsItsLimit IsKnown (on_input kinds setup c x).state
  input_met c (controller_input.Local what) is none = local_met c what none
  input_met c (controller_input.Of s xid said) is none = switch_met c s xid said is none
  input_met c (controller_input.Malformed sender) is none = none_met IsKnown c none
  input_met c (controller_input.Vr from message) is none = step_met c (vr_step c.vr (vr_input.From from message)) none

  abbrev WhereUp : ControllerState → Type 0
  WhereUp c = is_up c.vr ≡ true → MetsItsLimit IsKnown c

  -- one that is down takes no part
  not_up : (c : ControllerState) → is_down c ≡ true → is_up c.vr ≡ true → ⊥
  not_up c down up = by_status c.vr.status down up
    where
      by_status : (x : Status) → (elim x [ Normal ↦ false | ViewChange ↦ false | Recovering ↦ false | Down ↦ true ]) ≡ true → (elim x [ Normal ↦ true | ViewChange ↦ true | Recovering ↦ false | Down ↦ false ]) ≡ true → ⊥
      by_status Normal d u = true≢false (sym d)
      by_status ViewChange d u = true≢false (sym d)
      by_status Recovering d u = true≢false (sym u)
      by_status Down d u = true≢false (sym u)

  -- a turn of a controller that takes part behind it
  work_met : (c : ControllerState) (x : ControllerInput) → IsOfKnown IsKnown x → WhereUp (controller_work kinds setup c x).state
  unfolding controller_work
  work_met c x is = cond_both (is_down c) _ _ (λ (y : Work). WhereUp y.state) (λ down. down_met x down) (λ _ up. input_met (with_no_met_limit c) x is refl)
    where
      down_met : (x : ControllerInput) → is_down c ≡ true → WhereUp (when_down c x).state
      down_met (controller_input.Local local.Restart) down = cond_both (nat_lt c.vr.life last_life) _ _ (λ (y : Work). WhereUp y.state) (λ _ up. absurd (true≢false (sym up))) (λ _ up. absurd (not_up c down up))
      down_met x down = λ up. absurd (not_up c down up)

-- and what the save before it leaves
module _ (IsKnown : Event → Type 0) (rs : List SaveResult) (w : ControllerAt) (work : Work) (met : is_up work.state.vr ≡ true → MetsItsLimit IsKnown work.state) where
  abbrev IsMet : ControllerAt → Type 0
  IsMet t = is_up t.now.vr ≡ true → MetsItsLimit IsKnown t.now

  saved_met : (promise life : ℕ) (r : SaveResult) → IsMet (controller_saved w work promise life r)
  saved_met promise life Saved = met
  saved_met promise life KeptOld = λ up. tt
  saved_met promise life KeptNew = λ up. tt

  took_met : IsMet (controller_took rs w work)
  took_met = by_save work.save
    where
      by_save : (o : Option (ℕ × ℕ)) →
          IsMet (elim o [
            | None ↦ record { now = work.state; before = w.now; owed = work.letters; fresh = true; saves = w.saves; saves_before = w.saves }
            | Some pair ↦ controller_saved w work pair.0 pair.1 (slice_index_or rs w.saves Saved)
          ])
      by_save None = met
      by_save (Some pair) = saved_met pair.0 pair.1 (slice_index_or rs w.saves Saved)

in_longer : {A : Type 0} {xs ys : List A} → IsPrefix xs ys → (x : A) → IsIn x xs → IsIn x ys
in_longer {xs = xs} p x among = subst (λ (l : List _). IsIn x l) (sym p.joined) (in_left x xs p.rest among)

-- a closing that ends at a limit
module _ {B : Type 0} (scene : Scene B) (results : List (List SaveResult)) (setup : IsSetup scene.setup) (faithful : IsFaithful scene.sealing) where
  abbrev Past : Type 0
  Past = List (JournalEntry B)

  abbrev Met_by : Past → LogFull → Type 0
  Met_by P limit = (c : ℕ) × (entry : Entry) × IsAtLimit scene results P limit c entry

  -- an event that its switch has made
  abbrev IsOneOf : Past → Event → Type 0
  IsOneOf P e = (e.switch < length scene.setup.ports) × IsIn e (switch_state scene e.switch P).events

  genuine_one : (P : Past) → IsPossible scene results P → (e : Event) → IsGenuine scene.setup (facts_of scene results P) e → IsOneOf P e
  genuine_one P possible e is =
      let w = switch_at scene e.switch (part (actor.Switch e.switch) P) in
      let sound = (always scene results setup faithful P possible 0).switches e.switch is.there in
      (is.there, in_longer (firm_events w w.fresh sound.events) e (in_filter _ _ e (get_in _ e e.number is.stands)))

  -- a controller whose own turn met a limit
  at_limit : (e : JournalEntry B) (P : Past) → IsPossible scene results (e ∷ P) → (m : ℕ) → m < scene.setup.controllers → same_actor (actor_of e) (actor.Controller m) ≡ true →
      ((x : ControllerInput) × IsOfKnown (IsOneOf P) x × (at scene results m (e ∷ P) ≡ controller_took (results_of results m) (at scene results m P) (controller_work scene.kinds scene.setup (at scene results m P).now x))) →
      (limit : LogFull) → is_up (controller_state scene results m (e ∷ P)).vr ≡ true → (controller_state scene results m (e ∷ P)).full ≡ Some limit → Met_by (e ∷ P) limit
  at_limit e P possible m there mine turned limit up full =
      let x = turned.0 in
      let Q : Past = e ∷ P in
      let c = controller_state scene results m Q in
      let met = subst (λ (t : ControllerAt). is_up t.now.vr ≡ true → MetsItsLimit (IsOneOf P) t.now) (sym turned.2)
      (took_met (IsOneOf P) (results_of results m) (at scene results m P) (controller_work scene.kinds scene.setup (at scene results m P).now x)
      (work_met (IsOneOf P) scene.kinds scene.setup (at scene results m P).now x turned.1)) up in
      let it = subst (λ (o : Option LogFull). IfSome o (λ l. MetWith (IsOneOf P) c.vr l)) full met in
      let own = (owned_at scene (results_of results m) m (part (actor.Controller m) Q)).now in
      let holds = always scene results setup faithful Q possible 0 in
      let honest = (holds.controllers m there).now in
      let made : ℕ → List Event = λ s. (switch_state scene s Q).events in
      let same : (s : ℕ) → switch_state scene s Q ≡ switch_state scene s P = λ s. rests e P m s mine in (
        m,
        it.1,
        record {
          member = there;
          leads = it.0;
          past = it.2;
          limit_is = it.3;
          crowded = λ fit. true≢false (sym it.2
              ∙ has_room made (length scene.setup.ports) c.vr.log it.1 own.consistent.follow
              (λ y among. let place = received_at c.vr.log y among in genuine_one Q possible y (honest.entries place.0 (Received y) (Logged place.1)))
              (next_same P Q same c.vr.log it.1 it.4) fit);
        },
      )
    where
      rests : (e : JournalEntry B) (P : Past) (m s : ℕ) → same_actor (actor_of e) (actor.Controller m) ≡ true → switch_state scene s (e ∷ P) ≡ switch_state scene s P
      rests e P m s mine = ap (λ (t : SwitchAt). t.now) (switch_rests scene results e P s (ap (λ (a : Actor). same_actor a (actor.Switch s)) (same_actor-true (actor_of e) (actor.Controller m) mine)))

      next_same : (P Q : Past) → ((s : ℕ) → switch_state scene s Q ≡ switch_state scene s P) → (log : List Entry) (entry : Entry) → IsNext (IsOneOf P) log entry → IsNext (IsOneOf Q) log entry
      next_same P Q same log _ (Comes e is may) = Comes e (is.0, subst (λ (s : SwitchState). IsIn e s.events) (sym (same e.switch)) is.1) may
      next_same P Q same log _ (Is_done j less) = Is_done j less

  abbrev HasMet : Phase → Past → Type 0
  HasMet Losing P = Unit {0}
  HasMet (Suspecting view quorum members) P = Unit {0}
  HasMet (Draining view quorum) P = Unit {0}
  HasMet (Met limit) P = Met_by P limit

  possible_down : (entries P : Past) → IsPossible scene results (later P entries) → IsPossible scene results P
  possible_down [] P h = h
  possible_down (e ∷ entries) P h = possible_before scene results e P (possible_down entries (e ∷ P) h)

  -- a post leaves it so
  post_met : (a : Actor) (first : ℕ) (letters : List (Letter B)) (lost : ℕ) (P : Past) (phase : Phase) → HasMet phase P → HasMet phase (Post a first letters lost ∷ P)
  post_met a first letters lost P Losing h = tt
  post_met a first letters lost P (Suspecting view quorum members) h = tt
  post_met a first letters lost P (Draining view quorum) h = tt
  post_met a first letters lost P (Met limit) h =
      let e : JournalEntry B = Post a first letters lost in
      let same = controllers_stay scene results e P (Posts a first letters lost) h.0 in
      let it = h.2 in (
        h.0,
        h.1,
        record {
          member = it.member;
          leads = subst (λ (c : ControllerState). leads c.vr ≡ true) (sym same) it.leads;
          past = subst (λ (c : ControllerState). is_past_limits c.vr.log h.1 ≡ true) (sym same) it.past;
          limit_is = subst (λ (c : ControllerState). limit ≡ full_at c.vr.log h.1) (sym same) it.limit_is;
          crowded = λ fit. it.crowded (subst (λ (es : List Event). FitALog es) (made_same (range_with_len 0 (length scene.setup.ports)) e P (Posts a first letters lost)) fit);
        },
      )
    where
      made_same : (ss : List ℕ) (e : JournalEntry B) (P : Past) → IsIdle scene results e → flat_map (λ s. (switch_state scene s (e ∷ P)).events) ss ≡ flat_map (λ s. (switch_state scene s P).events) ss
      made_same [] e P idle = refl
      made_same (s ∷ ss) e P idle =
          ap (λ (t : SwitchState). t.events ++ flat_map (λ s. (switch_state scene s (e ∷ P)).events) ss) (switches_stay scene results e P idle s)
          ∙ ap (λ (es : List Event). (switch_state scene s P).events ++ es) (made_same ss e P idle)

  -- a turn of a controller
  abbrev Turns : JournalEntry B → Past → ℕ → Type 0
  Turns e P m = (limit : LogFull) → is_up (controller_state scene results m (e ∷ P)).vr ≡ true → (controller_state scene results m (e ∷ P)).full ≡ Some limit → Met_by (e ∷ P) limit

  by_limit : (o : Option LogFull) (e : JournalEntry B) (P : Past) (m : ℕ) (next : Phase) → Turns e P m → is_up (controller_state scene results m (e ∷ P)).vr ≡ true → (controller_state scene results m (e ∷ P)).full ≡ o → HasMet next (e ∷ P) → HasMet (met_by o next) (e ∷ P)
  by_limit None e P m next turns up is h = h
  by_limit (Some limit) e P m next turns up is h = turns limit up is

  member_met : (view m : ℕ) (e : JournalEntry B) (P : Past) (next : Phase) → Turns e P m → HasMet next (e ∷ P) → HasMet (after_member view (controller_state scene results m (e ∷ P)) next) (e ∷ P)
  member_met view m e P next turns h =
      let c = controller_state scene results m (e ∷ P) in
      cond_both (not (is_up c.vr)) _ _ (λ (f : Phase). HasMet f (e ∷ P)) (λ _. tt)
      (λ some. cond_both (nat_eq (view % c.vr.controllers) c.vr.me) _ _ (λ (f : Phase). HasMet f (e ∷ P)) (λ _. by_limit c.full e P m next turns (not-false (is_up c.vr) some) refl h) (λ _. h))

  turn_met : (m : ℕ) (e : JournalEntry B) (P : Past) (next : Phase) → Turns e P m → ((limit : LogFull) → next ≡ Met limit → ⊥) → HasMet (after_turn (controller_state scene results m (e ∷ P)) next) (e ∷ P)
  turn_met m e P Losing turns other = tt
  turn_met m e P (Suspecting view quorum members) turns other = member_met view m e P (Suspecting view quorum members) turns tt
  turn_met m e P (Draining view quorum) turns other = member_met view m e P (Draining view quorum) turns tt
  turn_met m e P (Met limit) turns other = absurd (other limit refl)

  -- what it heard
  suspicion_turns : (m : ℕ) (input : LocalInput) (P : Past) → IsPossible scene results (Local (actor.Controller m) input ∷ P) → Turns (Local (actor.Controller m) input) P m
  suspicion_turns m input P possible =
      let e : JournalEntry B = Local (actor.Controller m) input in
      at_limit e P possible m possible.named.0 (self_controller m) (controller_input.Local input, tt, own_steps scene results m e P refl)

  draw_turns : (m id : ℕ) (keep : Bool) (P : Past) → IsPossible scene results (Draw (actor.Controller m) id keep ∷ P) → Turns (Draw (actor.Controller m) id keep) P m
  draw_turns m id keep P possible =
      let e : JournalEntry B = Draw (actor.Controller m) id keep in
      let r = drawn_found scene.sealing.size (actor.Controller m) id keep P possible.orderly in
      let before = possible_before scene results e P possible in
      let truth = (always scene results setup faithful P before 0).packets r.packet r.among in
      let heard = heard_by_controller scene.kinds scene.setup (facts_of scene results P) m r.packet.from r.packet.to (content scene.sealing r.packet) r.goes_to truth in
      at_limit e P possible m possible.named.0 (self_controller m) (
        controller_hears r.packet.from (content scene.sealing r.packet),
        known_of P before (controller_hears r.packet.from (content scene.sealing r.packet)) heard,
        own_steps scene results m e P refl ∙ ap (controller_step scene (results_of results m) (at scene results m P) e) r.found,
      )
    where
      known_of : (P : Past) → IsPossible scene results P → (x : ControllerInput) → IsHeardByController scene.kinds scene.setup (facts_of scene results P) x → IsOfKnown (IsOneOf P) x
      known_of P before (controller_input.Of s xid (spoken.Ravana (extension.Event life number what))) h =
          genuine_one P before (record { switch = s; life = life; number = number; what = what }) (record { there = h.0; stands = h.1.0; good = h.1.1 })
      known_of P before (controller_input.Of s xid (spoken.Ravana (extension.EventAck life through))) h = tt
      known_of P before (controller_input.Of s xid (spoken.Ravana (extension.Command life generation number settled what))) h = tt
      known_of P before (controller_input.Of s xid (spoken.Ravana (extension.CmdAck life number result))) h = tt
      known_of P before (controller_input.Of s xid (spoken.Ravana (extension.Clear life through))) h = tt
      known_of P before (controller_input.Of s xid (spoken.Plain m)) h = tt
      known_of P before (controller_input.Local what) h = tt
      known_of P before (controller_input.Vr from m) h = tt
      known_of P before (controller_input.Malformed from) h = tt

  calm : (phase : Phase) (Q : Past) → ((limit : LogFull) → phase ≡ Met limit → ⊥) → HasMet phase Q
  calm Losing Q other = tt
  calm (Suspecting view quorum members) Q other = tt
  calm (Draining view quorum) Q other = tt
  calm (Met limit) Q other = absurd (other limit refl)

  move_met : (e : JournalEntry B) (P : Past) (next : Phase) → IsPossible scene results (e ∷ P) → ((limit : LogFull) → next ≡ Met limit → ⊥) → HasMet (after_move scene results e P next) (e ∷ P)
  move_met (Local (actor.Controller m) input) P next can other = turn_met m (Local (actor.Controller m) input) P next (suspicion_turns m input P can) other
  move_met (Draw (actor.Controller m) packet keep) P next can other = turn_met m (Draw (actor.Controller m) packet keep) P next (draw_turns m packet keep P can) other
  move_met (Local (actor.Switch s) input) P next can other = calm next (Local (actor.Switch s) input ∷ P) other
  move_met (Draw (actor.Switch s) packet keep) P next can other = calm next (Draw (actor.Switch s) packet keep ∷ P) other
  move_met (Post a first letters lost) P next can other = calm next (Post a first letters lost ∷ P) other
  move_met (Lose a packet) P next can other = calm next (Lose a packet ∷ P) other
  move_met (Idle a) P next can other = calm next (Idle a ∷ P) other
  move_met (Refused a) P next can other = calm next (Refused a ∷ P) other

  -- only at a limit a closing ends so
  abbrev NotOverfull : ClosingMove B → Type 0
  NotOverfull (Ends (Overfull limit)) = ⊥
  NotOverfull _ = Unit {0}

  drained_ends : (view : ℕ) (quorum : List ℕ) (ps : List (Packet B)) → NotOverfull (next_drained scene.setup.controllers view quorum ps)
  drained_ends view quorum [] = tt
  drained_ends view quorum (p ∷ ps) = tt

  suspicion_ends : (view : ℕ) (quorum members : List ℕ) (ps : List (Packet B)) → NotOverfull (next_suspicion scene.setup.controllers view quorum members ps)
  suspicion_ends view quorum [] ps = drained_ends view quorum ps
  suspicion_ends view quorum (m ∷ members) ps = tt

  lost_ends : (states : List ControllerState) (ps : List (Packet B)) → NotOverfull (next_lost scene.setup.controllers states ps)
  lost_ends states [] = cond_both (nat_lt (length (members_up states)) (majority scene.setup.controllers)) _ _ (λ (v : ClosingMove B). NotOverfull v) (λ _. tt) (λ _. suspicion_ends _ _ _ [])
  lost_ends states (p ∷ ps) = tt

  never : (move : ClosingMove B) (limit : LogFull) → NotOverfull move → IsEnd move (Overfull limit) → ⊥
  never (Takes e next) limit on h = h
  never (Ends answer) limit on h = subst (λ (x : ClosingAnswer). NotOverfull (Ends x)) (sym h) on

  end_met : (phase : Phase) (P : Past) (limit : LogFull) → HasMet phase P → IsEnd (next_move scene results phase P) (Overfull limit) → Met_by P limit
  end_met Losing P limit h end = absurd (never (next_move scene results Losing P) limit (lost_ends (states_of scene results P) (pool P)) end)
  end_met (Suspecting view quorum members) P limit h end = absurd (never (next_move scene results (Suspecting view quorum members) P) limit (suspicion_ends view quorum members (pool P)) end)
  end_met (Draining view quorum) P limit h end = absurd (never (next_move scene results (Draining view quorum) P) limit (drained_ends view quorum (pool P)) end)
  end_met (Met other) P limit h end = let same : limit ≡ other = (let e : Overfull limit ≡ Overfull other = end in cc) in subst (λ (l : LogFull). Met_by P l) (sym same) h

  met : (entries P : Past) (phase last : Phase) (limit : LogFull) → ClosesTo scene results phase P entries last → IsPossible scene results (later P entries) → HasMet phase P →
      IsEnd (next_move scene results last (later P entries)) (Overfull limit) → Met_by (later P entries) limit
  met [] P phase last limit closes possible h end = end_met phase P limit h (subst (λ (f : Phase). IsEnd (next_move scene results f P) (Overfull limit)) closes end)
  met (Post a first letters lost ∷ rest) P phase last limit closes possible h end = met rest (Post a first letters lost ∷ P) phase last limit closes.1 possible (post_met a first letters lost P phase h) end
  met (Draw a packet keep ∷ rest) P phase last limit closes possible h end =
      met rest (Draw a packet keep ∷ P) (after_move scene results (Draw a packet keep) P closes.1.0) last limit closes.1.2 possible
      (move_met (Draw a packet keep) P closes.1.0 (possible_down rest (Draw a packet keep ∷ P) possible) (λ l is. not_met scene results (next_move scene results phase P) (Draw a packet keep) l (move_on scene results phase P) (subst (λ (f : Phase). IsMove (next_move scene results phase P) (Draw a packet keep) f) is closes.1.1))) end
  met (Lose a packet ∷ rest) P phase last limit closes possible h end =
      met rest (Lose a packet ∷ P) (after_move scene results (Lose a packet) P closes.1.0) last limit closes.1.2 possible
      (move_met (Lose a packet) P closes.1.0 (possible_down rest (Lose a packet ∷ P) possible) (λ l is. not_met scene results (next_move scene results phase P) (Lose a packet) l (move_on scene results phase P) (subst (λ (f : Phase). IsMove (next_move scene results phase P) (Lose a packet) f) is closes.1.1))) end
  met (Local a input ∷ rest) P phase last limit closes possible h end =
      met rest (Local a input ∷ P) (after_move scene results (Local a input) P closes.1.0) last limit closes.1.2 possible
      (move_met (Local a input) P closes.1.0 (possible_down rest (Local a input ∷ P) possible) (λ l is. not_met scene results (next_move scene results phase P) (Local a input) l (move_on scene results phase P) (subst (λ (f : Phase). IsMove (next_move scene results phase P) (Local a input) f) is closes.1.1))) end
  met (Idle a ∷ rest) P phase last limit closes possible h end =
      met rest (Idle a ∷ P) (after_move scene results (Idle a) P closes.1.0) last limit closes.1.2 possible
      (move_met (Idle a) P closes.1.0 (possible_down rest (Idle a ∷ P) possible) (λ l is. not_met scene results (next_move scene results phase P) (Idle a) l (move_on scene results phase P) (subst (λ (f : Phase). IsMove (next_move scene results phase P) (Idle a) f) is closes.1.1))) end
  met (Refused a ∷ rest) P phase last limit closes possible h end =
      met rest (Refused a ∷ P) (after_move scene results (Refused a) P closes.1.0) last limit closes.1.2 possible
      (move_met (Refused a) P closes.1.0 (possible_down rest (Refused a ∷ P) possible) (λ l is. not_met scene results (next_move scene results phase P) (Refused a) l (move_on scene results phase P) (subst (λ (f : Phase). IsMove (next_move scene results phase P) (Refused a) f) is closes.1.1))) end

pub limits_law : {B : Type 0} → ClosingsMeetLimits B
limits_law {B = B} scene results before entries limit setup faithful possible closes =
    subst (λ (l : List (JournalEntry B)). Met_by scene results setup faithful l limit) (later_is before entries)
    (met scene results setup faithful entries before Losing closes.last limit closes.steps (subst (λ (l : List (JournalEntry B)). IsPossible scene results l) (sym (later_is before entries)) possible) tt
    (subst (λ (l : List (JournalEntry B)). IsEnd (next_move scene results closes.last l) (Overfull limit)) (sym (later_is before entries)) closes.ends))
