-- What comes in a closing behind the start of its view.
use Rattle.std.proofs.Common.{◌≡◌, ◌<◌, ℕ, ◌%◌, Bool, true, false, List, ◌++◌, map, sym, ◌∙◌, ap, subst}
use Rattle.std.proofs.lemmas.List.{append_assoc, reverse-append}
use Rattle.std.specs.Prelude.{nat_eq, not, reverse, None, if◌then◌else◌}
use Rattle.std.proofs.lemmas.Bool.{eq-eqb}
use Rattle.of_types.specs.Setups.{IsSetup}
use Rattle.journal.specs.declared.journal.JournalEntry.{JournalEntry}
use Rattle.journal.specs.declared.journal.SaveResult.{SaveResult}
use Rattle.vr_log.specs.declared.state.Status.{Status}
use Rattle.vr_log.specs.declared.state.Status.TheVariants.{Normal, ViewChange, Recovering, Down}
use Rattle.vr_log.specs.declared.state.VrState.{VrState}
use Rattle.vr_log.specs.Members.{is_up}
use Rattle.view_change.specs.Entering.{tells_start}
use Rattle.dispatcher.specs.Marks.{no_marks}
use Rattle.group_controller.specs.State.{ControllerState, Work, fresh, leaving, posting_work, stepped}
use Rattle.group_controller.specs.Rules.{switches}
use Rattle.group_controller.specs.Settling.{role_letter}
use Rattle.run_spec.specs.States.{Scene, IsFaithful}
use Rattle.run_spec.specs.Legal.{IsPossible}
use Rattle.run_spec.specs.Committed.{controller_state}
use Rattle.run_spec.specs.Closing.{ClosesTo, Losing, Phase, after_member, met_by}
use Rattle.closing_laws.specs.Following.{Start}
use Rattle.closing_laws.specs.Measure.{left_to_do}
use Rattle.closing_laws.specs.Quorum.{has}
use Rattle.closing_laws.specs.Serving.{AreFew}
use Rattle.closing_laws.specs.Starts.{IsAttempt, Starts, members_at, starting_turn, quorum_after, view_after}
use Rattle.closing_laws.specs.Views.{HasBest, log_of, started_with, tellers}
use Rattle.closing_laws.proofs.Draining.Emptied as emptied
use Rattle.closing_laws.proofs.Draining.Leading.{start_of}
use Rattle.closing_laws.proofs.Draining.Opened as opened_by
use Rattle.closing_laws.proofs.Draining.Standing as standing
use Rattle.closing_laws.proofs.Journal.Carrying.{sw}
use Rattle.closing_laws.proofs.Journal.Posting.{later, later_is, possible_under}
use Rattle.closing_laws.proofs.Journal.Taking.{at}
use Rattle.closing_laws.proofs.Lists.Picked.{IsPicked, picked_of_quorum}
use Rattle.closing_laws.proofs.Primary.ProperTurns.{IsSamePlace, settling_proceeds}
use Rattle.closing_laws.proofs.Start.Begun as begun
use Rattle.closing_laws.proofs.Truths.Generations.{generations_older}

module _ {B : Type 0} (scene : Scene B) (results : List (List SaveResult)) (setup : IsSetup scene.setup) (faithful : IsFaithful scene.sealing) (few : AreFew scene.kinds scene.setup)
    (before entries : List (JournalEntry B)) (last : Phase) (a : IsAttempt scene results before entries last) (best : ℕ) (is_best : HasBest (quorum_after scene results before) (members_at scene results before) best)
    (starts : Starts scene results before entries last best) where
  abbrev n : ℕ
  n = scene.setup.controllers

  abbrev w : ℕ
  w = view_after scene results before

  abbrev p : ℕ
  p = w % n

  abbrev quorum : List ℕ
  quorum = quorum_after scene results before

  pub picked : IsPicked n w quorum
  picked = picked_of_quorum n w quorum (begun.quorum_is scene results before a.most)

  abbrev pub begins : List (JournalEntry B)
  begins = reverse starts.first ++ before

  abbrev pub c : ControllerState
  c = controller_state scene results p begins

  pub whole : reverse entries ++ before ≡ later begins starts.rest
  whole =
      ap (λ (l : List (JournalEntry B)). reverse l ++ before) starts.joined ∙ ap (λ (l : List (JournalEntry B)). l ++ before) (reverse-append starts.first starts.rest)
      ∙ append_assoc (reverse starts.rest) (reverse starts.first) before ∙ sym (later_is begins starts.rest)

  -- the primary has started its view
  abbrev started_as : VrState
  started_as =
      started_with (members_at scene results before p) w (starts.started.voters p) (map (log_of (members_at scene results before)) (tellers p quorum)) (members_at scene results before best).log

  place : IsSamePlace started_as c.vr
  place =
      let s : Work = starting_turn scene.kinds scene.setup starts.started.promise started_as in
      let proceeds = settling_proceeds scene.kinds scene.setup started_as.commit
      (posting_work (leaving (stepped (fresh started_as) (record (tells_start started_as) { promise = starts.started.promise }))
      (record (stepped (fresh started_as) (record (tells_start started_as) { promise = starts.started.promise })).state { marks = no_marks; last_told = None }))
      (map (role_letter w) (switches scene.setup))) in
      subst (λ (x : ControllerState). IsSamePlace started_as x.vr) (sym starts.started.primary)
      (subst (λ (x : Work). IsSamePlace started_as x.state.vr) (sym starts.started.turn_is) proceeds.place)

  own_place : nat_eq (w % c.vr.controllers) c.vr.me ≡ true
  own_place =
      let member = begun.ready scene results before a.most p picked.primary in
      eq-eqb (w % c.vr.controllers) c.vr.me (ap (λ (k : ℕ). w % k) (place.controllers ∙ member.size) ∙ sym (place.me ∙ member.me))

  up_now : is_up c.vr ≡ true
  up_now = ap (λ (x : Status). elim x [ Normal ↦ true | ViewChange ↦ true | Recovering ↦ false | Down ↦ false ]) place.status

  phase_is : (next : Phase) → after_member w c next ≡ met_by c.full next
  phase_is next =
      ap (λ (b : Bool). if not b then Losing else if nat_eq (w % c.vr.controllers) c.vr.me then met_by c.full next else next) up_now
      ∙ ap (λ (b : Bool). if b then met_by c.full next else next) own_place

  pub possible : IsPossible scene results (later begins starts.rest)
  possible = subst (λ (l : List (JournalEntry B)). IsPossible scene results l) whole a.possible

  pub goes_on : ClosesTo scene results (met_by c.full starts.phase) begins starts.rest last
  goes_on = subst (λ (f : Phase). ClosesTo scene results f begins starts.rest last) (phase_is starts.phase) starts.goes_on

  -- with what it has started, and that draining begins there
  abbrev pub start : Start
  start = start_of p quorum (members_at scene results before) best

  abbrev pub small : (k : ℕ) → has quorum k ≡ true → k < n
  small = emptied.small scene results setup faithful few w quorum picked before a.saves start

  pub possible_first : IsPossible scene results before
  possible_first = possible_under scene results entries before (subst (λ (l : List (JournalEntry B)). IsPossible scene results l) (sym (later_is before entries)) a.possible)

  pub opened : c.full ≡ None → standing.Mode scene results w quorum start begins
  opened room =
      opened_by.opened scene results setup faithful few before entries last best a starts is_best.member small
      (generations_older scene results setup faithful before possible_first a.most) (emptied.truths scene results setup faithful few w quorum picked before a.saves start) room

  -- what is left to do there
  pub opened_left : (room : c.full ≡ None) → standing.left_in scene results w quorum start begins (opened room) ≡
      left_to_do scene.kinds scene.setup quorum (at scene results p begins).now (λ k. (sw scene results k begins).now)
      (opened_by.waiting scene results setup faithful few before entries last best a starts is_best.member small (generations_older scene results setup faithful before possible_first a.most))
  unfolding opened
  opened_left room =
      opened_by.opened_left scene results setup faithful few before entries last best a starts is_best.member small
      (generations_older scene results setup faithful before possible_first a.most) (emptied.truths scene results setup faithful few w quorum picked before a.saves start) room
