-- What is left to do as a view starts, by what its primary begins with.
use Rattle.std.proofs.Common.{◌≡◌, ◌≤◌, ◌<◌, ℕ, zero, suc, ◌+◌, ◌*◌, Bool, true, false, List, [], ◌∷◌, length, drop, filter, map, refl, sym, ◌∙◌, ap, arith, append-nil, mul-add, add-mul, length-take-le}
use Rattle.std.specs.Prelude.{sum_by, None, if◌then◌else◌}
use Rattle.std.specs.List.{range_with_len}
use Rattle.std.proofs.lemmas.List.FromFn.{length-range_with_len}
use Rattle.std.proofs.lemmas.Bool.{eqb-true}
use Rattle.list_facts.proofs.Prefixes.{front_prefix, prefix_refl}
use Rattle.of_types.specs.declared.setup.Setup.{Setup}
use Rattle.journal.specs.declared.journal.Actor.TheVariants as actor
use Rattle.journal.specs.declared.journal.Letter.{Letter}
use Rattle.vr_log.specs.declared.state.VrState.{VrState}
use Rattle.vr_log.specs.Log.{is_log, processed, received}
use Rattle.vr_log.specs.Members.{most_failures, others_below}
use Rattle.app_core.specs.Chain.{concat}
use Rattle.app_core.specs.Issued.{issues}
use Rattle.dispatcher.specs.Marks.{no_marks}
use Rattle.event_buffer.specs.Buffer.{next_number}
use Rattle.of_switch.specs.State.{SwitchState}
use Rattle.group_controller.specs.declared.messages.ControllerSays.{ControllerSays}
use Rattle.group_controller.specs.State.{ControllerState, Work, committed, leaving, posting_work}
use Rattle.group_controller.specs.Settling.{is_some_of, role_letter}
use Rattle.group_controller.specs.Rules.{starting_view, switches}
use Rattle.run_spec.specs.Bound.{waiting_at}
use Rattle.run_spec.specs.States.{controller_message}
use Rattle.closing_laws.specs.Measure.{commands_from, left_at, left_at_switches, left_to_process, logged_held, uncommitted, unlogged, unprocessed, unsent}
use Rattle.closing_laws.specs.Quorum.{has}
use Rattle.closing_laws.specs.Serving.{logged_of, sent_of}
use Rattle.closing_laws.proofs.Lists.Sums.{sum_less}
use Rattle.closing_laws.proofs.Measure.AnswerWorths.{letters-append, primary_worths}
use Rattle.closing_laws.proofs.Measure.CommandCounts.{sent_open, split_count}
use Rattle.closing_laws.proofs.Measure.LoggedMeasure.{same_left, whole_falls}
use Rattle.closing_laws.proofs.Measure.WorkMeasure.{Descends, settling_descends}
use Rattle.closing_laws.proofs.Measure.Worths.{worths_two}
use Rattle.closing_laws.proofs.Primary.Growth.{log_prefix}
use Rattle.closing_laws.proofs.Primary.Numbering.{of_range}

-- fewer come from a later place on
pub drop_fewer : {A : Type 0} (xs : List (List A)) (i j : ℕ) → i ≤ j → length (concat (drop j xs)) ≤ length (concat (drop i xs))
drop_fewer xs zero j le = let parts = split_count xs j in omega (arith, parts)
drop_fewer [] (suc i) zero le = absurd (omega (arith, le))
drop_fewer [] (suc i) (suc j) le = omega arith
drop_fewer (x ∷ xs) (suc i) zero le = absurd (omega (arith, le))
drop_fewer (x ∷ xs) (suc i) (suc j) le = drop_fewer xs i j (omega (arith, le))

module _ (kinds : List ℕ) (setup : Setup) (quorum : List ℕ) (f place : ℕ) (sw : ℕ → SwitchState) (work : Work) where
  abbrev v : VrState
  v = work.state.vr

  -- the primary before it settles
  abbrev pub begun : ControllerState
  begun = record work.state { marks = no_marks; last_told = None }

  abbrev pub end : Work
  end = starting_view kinds setup work

  abbrev asking : Work
  asking = posting_work (leaving work begun) (map (role_letter v.view) (switches setup))

  module _ (enough : length (filter (has quorum) (others_below v.me v.controllers)) ≡ f) (one : is_log v.log ≡ true) (within : v.commit ≤ length v.log) (whole : most_failures v ≡ 0 → v.commit ≡ length v.log)
      (early : place ≤ processed (committed begun)) where
    one_committed : is_log (committed begun) ≡ true
    one_committed = log_prefix (front_prefix v.commit v.log) one

    settles : Descends kinds setup quorum v.me f v.controllers enough asking end [] 0
    settles =
        settling_descends kinds setup quorum v.me f v.controllers enough begun asking refl refl refl refl refl refl (prefix_refl (committed begun)) one_committed (omega arith)
        v.commit (sym (length-take-le v.commit v.log within))
        (record { mine = refl; size = refl; within = within; whole = λ h. whole (eqb-true (most_failures v) 0 h) })

    pub events_same : received end.state.vr.log ≡ received v.log
    events_same = settles.events ∙ append-nil (received v.log)

    said : primary_worths quorum v.me end.letters ≡ primary_worths quorum v.me work.letters + 2 * length setup.ports + primary_worths quorum v.me settles.letters
    said =
        let a = ap (λ (ls : List (Letter ControllerSays)). primary_worths quorum v.me ls) settles.joined in
        let b = letters-append quorum v.me asking.letters settles.letters in
        let c = letters-append quorum v.me work.letters (map (role_letter v.view) (switches setup)) in
        let d = worths_two quorum controller_message (actor.Controller v.me) (role_letter v.view) (λ s. refl) (switches setup) in
        let e = length-range_with_len 0 (length setup.ports) in
        omega (arith, a, b, c, d, e)

    falls : primary_worths quorum v.me settles.letters + left_to_process kinds setup f end.state + left_at_switches setup f end.state sw + 1 + 3 * commands_from kinds setup begun place ≤
        1 + left_to_process kinds setup f begun + left_at_switches setup f begun sw + 3 * commands_from kinds setup end.state place
    falls =
        let kept = same_left setup f sw begun end.state settles.view_is events_same in
        whole_falls kinds setup quorum v.me f sw begun end.state settles.letters 0 1 place settles.falls settles.front one early (omega (arith, kept))

    to_process : left_to_process kinds setup f begun ≤ (2 * f + 1) * unprocessed begun + uncommitted begun + 3 * commands_from kinds setup begun place
    to_process =
        let a = sent_open kinds setup begun in
        let b = drop_fewer (issues kinds setup (received (committed begun))) place (processed (committed begun)) early in
        omega (arith, a, b)

    -- the letters of the turn, and what is left behind it
    pub start_value : primary_worths quorum v.me end.letters + left_to_process kinds setup f end.state + left_at_switches setup f end.state sw ≤
        primary_worths quorum v.me work.letters + 2 * length setup.ports + (2 * f + 1) * unprocessed begun + uncommitted begun + left_at_switches setup f begun sw + 3 * commands_from kinds setup end.state place
    start_value = let a = said in let b = falls in let c = to_process in omega (arith, a, b, c)

  -- at switches that were not asked, each event that they hold is left, but what was logged of it, and each port that they remember
  unasked_left : (s : ℕ) → is_some_of v.view (sw s).fence.generation ≡ false → (sw s).buffer.cleared ≤ logged_of begun s (sw s) → logged_of begun s (sw s) ≤ next_number (sw s).buffer →
      left_at f begun s (sw s) + (4 * f + 1) * logged_held v.log s (sw s) ≤ (4 * f + 3) * waiting_at (sw s)
  unasked_left s unasked cleared logged =
      let asked = ap (λ (b : Bool). if b then sent_of (sw s) else (sw s).buffer.cleared) unasked in
      let a : unsent begun (sw s) ≤ waiting_at (sw s) = omega (arith, asked) in
      let b : unlogged begun s (sw s) + logged_held v.log s (sw s) ≡ waiting_at (sw s) = omega (arith, cleared, logged) in
      let c = sym (mul-add (4 * f + 1) (unlogged begun s (sw s)) (logged_held v.log s (sw s))) ∙ ap (λ (k : ℕ). (4 * f + 1) * k) b in
      let three : 4 * f + 3 ≡ 4 * f + 1 + 2 = omega arith in
      let d = ap (λ (k : ℕ). k * waiting_at (sw s)) three ∙ add-mul (4 * f + 1) 2 (waiting_at (sw s)) in
      omega (arith, a, c, d)

  pub all_left : ((s : ℕ) → s < length setup.ports →
      (is_some_of v.view (sw s).fence.generation ≡ false) × ((sw s).buffer.cleared ≤ logged_of begun s (sw s)) × (logged_of begun s (sw s) ≤ next_number (sw s).buffer)) →
      left_at_switches setup f begun sw + (4 * f + 1) * sum_by (λ s. logged_held v.log s (sw s)) (range_with_len 0 (length setup.ports)) ≤
      (4 * f + 3) * sum_by (λ s. waiting_at (sw s)) (range_with_len 0 (length setup.ports))
  all_left each =
      sum_less (4 * f + 3) (4 * f + 1) (λ s. left_at f begun s (sw s)) (λ s. waiting_at (sw s)) (λ s. logged_held v.log s (sw s)) (range_with_len 0 (length setup.ports)) (λ s among.
      let less = (of_range 0 (length setup.ports) s among).1 in
      let own = each s (omega (arith, less)) in
      unasked_left s own.0 own.1 own.2)
