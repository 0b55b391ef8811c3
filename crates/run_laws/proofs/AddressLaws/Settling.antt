-- What a primary does once entries are committed: it writes to actors of the setup.
use Rattle.std.proofs.Common.{◌≡◌, ◌<◌, ℕ, not, List, [], ◌∷◌, ◌++◌, drop, map, length, zero, suc, refl, arith}
use Rattle.std.specs.Prelude.{filter, flat_map, slice_get, Option, Some, None}
use Rattle.std.specs.List.{AllByRecursion, range_with_len}
use Rattle.std.proofs.lemmas.Bool.{cond_both}
use Rattle.of_types.specs.declared.message.Event.{Event}
use Rattle.of_types.specs.declared.setup.Setup.{Setup}
use Rattle.of_types.specs.Lives.{has_ended}
use Rattle.journal.specs.declared.journal.Letter.{Letter}
use Rattle.journal.specs.Actors.{IsActor, AreAddressed}
use Rattle.journal.proofs.All.{all_append, all_map, all_filter, all_take, all_get}
use Rattle.vr_log.specs.declared.entry.Entry.{Entry}
use Rattle.vr_log.specs.declared.entry.Entry.TheVariants.{Received, Processed}
use Rattle.vr_log.specs.declared.message.VrLetter.{VrLetter}
use Rattle.vr_log.specs.Log.{received, is_past_limits}
use Rattle.vr_normal.specs.Proposing as member
use Rattle.app_core.specs.declared.issued.Issued.{Issued}
use Rattle.app_core.specs.Issued.{commands_of}
use Rattle.dispatcher.specs.declared.answers.AckThrough.{AckThrough}
use Rattle.dispatcher.specs.Marks.{Marks, is_confirmed, wanted, outstanding}
use Rattle.dispatcher.specs.Folding.{numbered, acknowledges_event, acknowledges_at, is_told, clears, clears_at, places_processed}
use Rattle.group_controller.specs.declared.messages.ControllerSays.{ControllerSays}
use Rattle.group_controller.specs.State.{ControllerState, Work, committed, met_limit, posting_work, leaving, resting, to_member, to_members}
use Rattle.group_controller.specs.Settling.{role_letter, command_letter, command_letters, ack_letter, clear_letter, answers_at, with_answers, is_untold, with_commands, with_proposal, is_settled, is_alone, after_proposal, goes_on, processing, finishing, after_finishing, settling, proposing}
use Rattle.run_laws.specs.AddressLaws.Addresses.{AreSwitches, IsOfSwitch, AreOfSwitches, KnowsSwitches}
use Rattle.run_laws.specs.AddressLaws.Laws.{IsAddressedWork}
use Rattle.run_laws.proofs.AddressLaws.Lists.{all_flat, all_front, all_passing, any_of, range_below}
use Rattle.run_laws.proofs.AddressLaws.Members.{AreToMembers, proposal_stays}

-- work that knows its setup, has events of its switches alone, and writes to actors of it
pub record IsGood (setup : Setup) (work : Work) : Type 0 where
  pub knows : KnowsSwitches setup work.state
  pub sends : AreAddressed setup work.letters
  pub log : AreOfSwitches setup work.state.vr.log

module _ (kinds : List ℕ) (setup : Setup) where
  pub addressed : (work : Work) → IsGood setup work → IsAddressedWork setup work
  addressed work g = record { knows = g.knows; sends = g.sends }

  pub with_names : (work : Work) → IsAddressedWork setup work → AreOfSwitches setup work.state.vr.log → IsGood setup work
  with_names work a names = record { knows = a.knows; sends = a.sends; log = names }

  -- letters
  pub members_go : (letters : List VrLetter) → AreToMembers setup.controllers letters → AreAddressed setup (to_members letters)
  members_go letters h = all_map to_member (λ l. l.to < setup.controllers) (λ l. IsActor setup l.to) (λ l there. there) letters h

  pub roles_go : (view : ℕ) (numbers : List ℕ) → AreSwitches setup numbers → AreAddressed setup (map (role_letter view) numbers)
  roles_go view numbers h = all_map (role_letter view) (λ s. s < length setup.ports) (λ l. IsActor setup l.to) (λ s there. there) numbers h

  pub commands_go : (c : ControllerState) (commands : List Issued) → AllByRecursion (λ x. x.switch < length setup.ports) commands → AreAddressed setup (command_letters kinds setup c commands)
  commands_go c commands h = all_map (λ x. command_letter c.vr.view (numbered kinds setup (committed c) x)) (λ x. x.switch < length setup.ports) (λ l. IsActor setup l.to) (λ x there. there) commands h

  -- only confirmed switches get commands
  pub outstanding_go : (log : List Entry) (marks : Marks) → AreSwitches setup marks.confirmed → AllByRecursion (λ (x : Issued). x.switch < length setup.ports) (outstanding kinds setup log marks)
  outstanding_go log marks h =
      all_passing (λ (x : Issued). x.switch < length setup.ports) (λ x. is_confirmed marks x.switch) (λ x is. any_of (λ s. s < length setup.ports) x.switch marks.confirmed h is) (wanted kinds setup log marks)

  events_of : (log : List Entry) → AreOfSwitches setup log → AllByRecursion (λ e. e.switch < length setup.ports) (received log)
  events_of [] h = tt
  events_of (Received event ∷ log) (here, h) = (here, events_of log h)
  events_of (Processed j ∷ log) (here, h) = events_of log h

  acks_go : (log : List Entry) (o : Option Event) → ((e : Event) → o ≡ Some e → e.switch < length setup.ports) → AreAddressed setup (map ack_letter (acknowledges_event log o))
  acks_go log None there = tt
  acks_go log (Some e) there =
      cond_both (has_ended e.switch e.life (received log)) _ _ (λ (ts : List AckThrough). AreAddressed setup (map ack_letter ts)) (λ _. tt) (λ _. (there e refl, tt))

  clears_go : (log : List Entry) (commands : List Issued) → AreAddressed setup (map clear_letter (clears kinds setup log commands))
  clears_go log commands =
      all_map clear_letter (λ t. t.switch < length setup.ports) (λ l. IsActor setup l.to) (λ t there. there) (clears kinds setup log commands)
      (all_map _ (λ s. s < length setup.ports) (λ t. t.switch < length setup.ports) (λ s there. there) (filter (is_told log commands) (range_with_len 0 (length setup.ports)))
      (all_filter (λ s. s < length setup.ports) (is_told log commands) (range_with_len 0 (length setup.ports)) (range_below 0 (length setup.ports) (length setup.ports) (omega arith))))

  answers_go : (c : ControllerState) (j : ℕ) → AreOfSwitches setup c.vr.log → AreAddressed setup (answers_at kinds setup c j)
  answers_go c j names =
      let events = events_of (committed c) (all_take _ c.vr.commit c.vr.log names) in
      all_append _ (map ack_letter (acknowledges_at (committed c) j)) (map clear_letter (clears_at kinds setup (committed c) j))
      (acks_go (committed c) (slice_get (received (committed c)) j) (λ e found. all_get (λ e. e.switch < length setup.ports) (received (committed c)) j e events found))
      (clears_go (committed c) (commands_of kinds setup (received (committed c)) j))

  -- work goes on
  pub posted : (work : Work) (letters : List (Letter ControllerSays)) → AreAddressed setup letters → IsAddressedWork setup work → IsAddressedWork setup (posting_work work letters)
  posted work letters h a = record { knows = a.knows; sends = all_append _ work.letters letters a.sends h }

  answered : (before : ℕ) (work : Work) → IsGood setup work → IsGood setup (with_answers kinds setup before work)
  answered before work g =
      record {
        knows = g.knows;
        sends = all_append _ work.letters (flat_map (answers_at kinds setup work.state) (places_processed (drop before (committed work.state)))) g.sends
            (all_flat (answers_at kinds setup work.state) _ (λ j. answers_go work.state j g.log) (places_processed (drop before (committed work.state))));
        log = g.log;
      }

  commanded : (work : Work) → IsGood setup work → IsGood setup (with_commands kinds setup work)
  commanded work g =
      cond_both (is_untold work.state) _ _ (IsGood setup)
      (λ _. record {
        knows = record { member = g.knows.member; confirmed = g.knows.confirmed };
        sends = all_append _ work.letters (command_letters kinds setup work.state (outstanding kinds setup (committed work.state) work.state.marks)) g.sends
            (commands_go work.state _ (outstanding_go (committed work.state) work.state.marks g.knows.confirmed));
        log = g.log;
      })
      (λ _. g)

  proposed : (work : Work) (entry : Entry) → IsOfSwitch setup entry → IsGood setup work → IsGood setup (with_proposal work entry)
  proposed work entry here g =
      let k = proposal_stays setup.controllers work.state.vr entry g.knows.member in
      record {
        knows = record { member = k.member; confirmed = g.knows.confirmed };
        sends = all_append _ work.letters (to_members (member.proposed work.state.vr entry).letters) g.sends (members_go (member.proposed work.state.vr entry).letters k.letters);
        log = all_append _ work.state.vr.log (entry ∷ []) g.log (here, tt);
      }

  went_on : (work : Work) (entry : Entry) → IsOfSwitch setup entry → IsGood setup work → IsGood setup (after_proposal kinds setup work entry)
  went_on work entry here g =
      let k = proposed work entry here g in
      cond_both (is_past_limits work.state.vr.log entry) (leaving work (met_limit work.state entry)) _ (IsGood setup)
      (λ _. record { knows = record { member = g.knows.member; confirmed = g.knows.confirmed }; sends = g.sends; log = g.log })
      (λ _. cond_both (is_alone work.state) _ _ (IsGood setup) (λ _. commanded _ (answered work.state.vr.commit (with_proposal work entry) k)) (λ _. k))

  finished : (n : ℕ) (work : Work) → IsGood setup work → IsGood setup (finishing n kinds setup work)
  unfolding finishing
  finished zero work g = g
  finished (suc n) work g =
      let next = after_proposal kinds setup work (processing work.state) in
      let k = went_on work (processing work.state) tt g in
      cond_both (not (is_settled kinds setup work.state)) work _ (IsGood setup) (λ _. g)
      (λ _. cond_both (goes_on work.state (processing work.state)) (finishing n kinds setup next) next (IsGood setup) (λ _. finished n next k) (λ _. k))

  pub all_finished : (work : Work) → IsGood setup work → IsGood setup (after_finishing kinds setup work)
  all_finished work g = finished (length (received work.state.vr.log)) work g

  pub settled : (before : ℕ) (work : Work) → IsGood setup work → IsGood setup (settling kinds setup before work)
  unfolding settling
  settled before work g = all_finished (with_commands kinds setup (with_answers kinds setup before work)) (commanded (with_answers kinds setup before work) (answered before work g))

  pub proposes : (c : ControllerState) (entry : Entry) → IsOfSwitch setup entry → IsGood setup (resting c) → IsGood setup (proposing kinds setup c entry)
  proposes c entry here g =
      let next = after_proposal kinds setup (resting c) entry in
      let k = went_on (resting c) entry here g in
      cond_both (goes_on c entry) (after_finishing kinds setup next) next (IsGood setup) (λ _. all_finished next k) (λ _. k)

  -- a log of events of the setup's switches had no others before
  commands_kept : (work : Work) → AreOfSwitches setup (with_commands kinds setup work).state.vr.log → AreOfSwitches setup work.state.vr.log
  commands_kept work = cond_both (is_untold work.state) _ _ (λ (w : Work). AreOfSwitches setup w.state.vr.log → AreOfSwitches setup work.state.vr.log) (λ _ h. h) (λ _ h. h)

  proposal_kept : (work : Work) (entry : Entry) → AreOfSwitches setup (after_proposal kinds setup work entry).state.vr.log → AreOfSwitches setup work.state.vr.log
  proposal_kept work entry =
      let front = λ (h : AreOfSwitches setup (work.state.vr.log ++ entry ∷ [])). all_front (λ e. IsOfSwitch setup e) work.state.vr.log (entry ∷ []) h in
      cond_both (is_past_limits work.state.vr.log entry) (leaving work (met_limit work.state entry)) _ (λ (w : Work). AreOfSwitches setup w.state.vr.log → AreOfSwitches setup work.state.vr.log)
      (λ _ h. h)
      (λ _. cond_both (is_alone work.state) _ _ (λ (w : Work). AreOfSwitches setup w.state.vr.log → AreOfSwitches setup work.state.vr.log)
      (λ _ h. front (commands_kept (with_answers kinds setup work.state.vr.commit (with_proposal work entry)) h)) (λ _ h. front h))

  finish_kept : (n : ℕ) (work : Work) → AreOfSwitches setup (finishing n kinds setup work).state.vr.log → AreOfSwitches setup work.state.vr.log
  unfolding finishing
  finish_kept zero work h = h
  finish_kept (suc n) work h =
      let next = after_proposal kinds setup work (processing work.state) in
      let more = finish_kept n next in
      cond_both (not (is_settled kinds setup work.state)) work _ (λ (w : Work). AreOfSwitches setup w.state.vr.log → AreOfSwitches setup work.state.vr.log) (λ _ k. k)
      (λ _. cond_both (goes_on work.state (processing work.state)) (finishing n kinds setup next) next (λ (w : Work). AreOfSwitches setup w.state.vr.log → AreOfSwitches setup work.state.vr.log)
      (λ _ k. proposal_kept work (processing work.state) (more k)) (λ _ k. proposal_kept work (processing work.state) k)) h

  pub finishing_kept : (work : Work) → AreOfSwitches setup (after_finishing kinds setup work).state.vr.log → AreOfSwitches setup work.state.vr.log
  finishing_kept work h = finish_kept (length (received work.state.vr.log)) work h

  pub settling_kept : (before : ℕ) (work : Work) → AreOfSwitches setup (settling kinds setup before work).state.vr.log → AreOfSwitches setup work.state.vr.log
  unfolding settling
  settling_kept before work h = commands_kept (with_answers kinds setup before work) (finishing_kept (with_commands kinds setup (with_answers kinds setup before work)) h)

  pub proposing_kept : (c : ControllerState) (entry : Entry) → AreOfSwitches setup (proposing kinds setup c entry).state.vr.log → AreOfSwitches setup c.vr.log
  proposing_kept c entry =
      let next = after_proposal kinds setup (resting c) entry in
      cond_both (goes_on c entry) (after_finishing kinds setup next) next (λ (w : Work). AreOfSwitches setup w.state.vr.log → AreOfSwitches setup c.vr.log)
      (λ _ h. proposal_kept (resting c) entry (finishing_kept next h)) (λ _ h. proposal_kept (resting c) entry h)
