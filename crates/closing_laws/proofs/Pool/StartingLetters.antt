-- The turn that starts a view says few things: no result came yet, so that no command is sent, and no word that results may go.
use Rattle.std.proofs.Common.{◌≡◌, ◌≤◌, ℕ, zero, suc, ◌+◌, ◌*◌, ◌/◌, Bool, true, false, not, ◌&&◌, List, [], ◌∷◌, ◌++◌, map, length, drop, take, refl, sym, ◌∙◌, ap, subst, arith, append-nil, length-take, inl, inr}
use Rattle.std.specs.Prelude.{nat_eq, filter, flat_map, slice_get, Option, Some, if◌then◌else◌}
use Rattle.std.specs.List.{list_any, range_with_len}
use Rattle.std.proofs.lemmas.Bool.{and_parts, and_right, cases_Bool, eqb-true, not_from_false, not_from_true, true≢false}
use Rattle.std.proofs.lemmas.List.{drop_all, length-append, length-map, nil_from_length, take_all}
use Rattle.std.proofs.lemmas.List.FromFn.{length-range_with_len}
use Rattle.of_types.specs.declared.message.Event.{Event}
use Rattle.of_types.specs.declared.setup.Setup.{Setup}
use Rattle.of_types.specs.Lives.{has_ended}
use Rattle.journal.specs.declared.journal.Letter.{Letter}
use Rattle.vr_log.specs.declared.entry.Entry.{Entry}
use Rattle.vr_log.specs.declared.message.VrMessage.TheVariants as vr
use Rattle.vr_log.specs.declared.state.VrState.{VrState}
use Rattle.vr_log.specs.Log.{is_log, is_past_limits, processed, received}
use Rattle.vr_log.specs.Members.{most_failures}
use Rattle.vr_log.specs.Steps.{to_others}
use Rattle.view_change.specs.Entering.{tells_start, view_start}
use Rattle.controller_moves.proofs.MemberMoves.Spelling.{log_short}
use Rattle.vr_log.proofs.Logs.{length_is, received-append}
use Rattle.app_core.specs.declared.issued.Issued.{Issued}
use Rattle.app_core.specs.Issued.{commands_of}
use Rattle.dispatcher.specs.Marks.{Marks, is_finished, no_marks, outstanding, wanted}
use Rattle.dispatcher.specs.declared.answers.AckThrough.{AckThrough}
use Rattle.dispatcher.specs.Folding.{acknowledges_at, clears, clears_at, is_told, places_processed}
use Rattle.group_controller.specs.declared.messages.ControllerSays.{ControllerSays}
use Rattle.group_controller.specs.State.{ControllerState, Work, committed, fresh, leaving, met_limit, posting_work, stepped, to_member, to_members}
use Rattle.group_controller.specs.Settling.{ack_letter, after_proposal, answers_at, clear_letter, command_letters, finishing, goes_on, is_alone, is_settled, is_untold, processing, role_letter, settling, with_answers, with_commands}
use Rattle.group_controller.specs.Rules.{switches}
use Rattle.closing_laws.specs.Starts.{starting_turn}
use Rattle.closing_laws.proofs.Measure.AnswerWorths.{acknowledges_few}
use Rattle.closing_laws.proofs.Pool.FewLetters.{told_few}
use Rattle.closing_laws.proofs.Primary.Proposing.{proposal, proposed_as, pushed, pushed_all, pushed_behind}
use Rattle.list_facts.specs.Lists.{IsIn}
use Rattle.list_facts.proofs.Elements.{filter_has}

-- what a test finds nowhere
none_passes : {A : Type 0} (q : A → Bool) (xs : List A) → ((x : A) → IsIn x xs → q x ≡ false) → list_any q xs ≡ false
none_passes q [] each = refl
none_passes q (x ∷ xs) each = let first = each x (inl refl) in let rest = none_passes q xs (λ y among. each y (inr among)) in rw (first, rest) refl

filter_all_false : {A : Type 0} (p : A → Bool) (xs : List A) → ((x : A) → p x ≡ false) → filter p xs ≡ []
filter_all_false p [] none = refl
filter_all_false p (x ∷ xs) none = ap (λ (b : Bool). if b then x ∷ filter p xs else filter p xs) (none x) ∙ filter_all_false p xs none

-- where commands are of lives that have ended no switch is told that results may go
pub ended_clears : (kinds : List ℕ) (setup : Setup) (log : List Entry) (xs : List Issued) → ((x : Issued) → IsIn x xs → has_ended x.switch x.life (received log) ≡ true) → clears kinds setup log xs ≡ []
ended_clears kinds setup log xs ended =
    ap (map _) (filter_all_false (is_told log xs) (range_with_len 0 (length setup.ports)) (λ s.
    none_passes (λ (x : Issued). nat_eq x.switch s && not (has_ended x.switch x.life (received log))) xs (λ x among.
    and_right (nat_eq x.switch s) (not (has_ended x.switch x.life (received log))) (not_from_true (has_ended x.switch x.life (received log)) (ended x among)))))

-- so it is for an event that is finished with no result
pub no_clears : (kinds : List ℕ) (setup : Setup) (log later : List Entry) (marks : Marks) → marks ≡ no_marks → received later ≡ received log → is_finished kinds setup log marks ≡ true →
    clears kinds setup later (commands_of kinds setup (received later) (processed log)) ≡ []
no_clears kinds setup log later marks none same finished =
    ended_clears kinds setup later (commands_of kinds setup (received later) (processed log)) (λ x among. elim (cases_Bool (has_ended x.switch x.life (received later))) [
      | inl is ↦ is
      | inr lasts ↦ absurd (subst (λ (xs : List Issued). IsIn x xs) all_ended
          (filter_has (λ (y : Issued). not (has_ended y.switch y.life (received later))) (commands_of kinds setup (received later) (processed log)) x among (not_from_false (has_ended x.switch x.life (received later)) lasts)))
    ])
  where
    all_wanted : wanted kinds setup log no_marks ≡ []
    all_wanted =
        nil_from_length (wanted kinds setup log no_marks)
        (eqb-true (length (wanted kinds setup log no_marks)) 0 (subst (λ (ms : Marks). nat_eq (length (wanted kinds setup log ms)) 0 ≡ true) none (and_parts _ (nat_eq (length (wanted kinds setup log marks)) 0) finished).1))

    all_ended : filter (λ (x : Issued). not (has_ended x.switch x.life (received later))) (commands_of kinds setup (received later) (processed log)) ≡ []
    all_ended = subst (λ (es : List Event). filter (λ (x : Issued). not (has_ended x.switch x.life es)) (commands_of kinds setup es (processed log)) ≡ []) (sym same) all_wanted

-- a member of a small group, with a log that is one, all of which is committed where it is alone
pub record IsSized (s : VrState) : Type 0 where
  pub small : s.controllers ≤ 7
  pub one : is_log s.log ≡ true
  pub whole : most_failures s ≡ 0 → s.commit ≡ length s.log

module _ (kinds : List ℕ) (setup : Setup) where
  abbrev said : Work → ℕ
  said work = length work.letters

  -- no command is sent
  commands_silent : (work : Work) → work.state.marks ≡ no_marks →
      (said (with_commands kinds setup work) ≡ said work) × ((with_commands kinds setup work).state.marks ≡ no_marks) × ((with_commands kinds setup work).state.vr ≡ work.state.vr)
  commands_silent work none = by_untold (is_untold work.state)
    where
      c : ControllerState
      c = work.state

      nothing : outstanding kinds setup (committed c) c.marks ≡ []
      nothing = ap (outstanding kinds setup (committed c)) none ∙ filter_all_false (λ x. false) (wanted kinds setup (committed c) no_marks) (λ x. refl)

      by_untold : (b : Bool) →
          let next = if b then record { state = record c { last_told = Some (processed (committed c)) }; save = work.save; letters = work.letters ++ command_letters kinds setup c (outstanding kinds setup (committed c) c.marks) } else work in
          (said next ≡ said work) × (next.state.marks ≡ no_marks) × (next.state.vr ≡ c.vr)
      by_untold true =
          let same = ap (λ (xs : List Issued). length (work.letters ++ command_letters kinds setup c xs)) nothing in
          let all = length-append work.letters [] in
          (omega (arith, same, all), none, refl)
      by_untold false = (refl, none, refl)

  -- what a primary is like that has no marks, and commits at once where it is alone
  record IsNew (c : ControllerState) : Type 0 where
    pub marks : c.marks ≡ no_marks
    pub whole : is_alone c ≡ true → c.vr.commit ≡ length c.vr.log
    pub small : c.vr.controllers ≤ 7

  module _ (work : Work) (new : IsNew work.state) (settled : is_settled kinds setup work.state ≡ true) where
    abbrev c : ControllerState
    c = work.state

    abbrev entry : Entry
    entry = processing c

    abbrev c2 : ControllerState
    c2 = pushed c entry (length c.vr.log + 1)

    proposal_few : length (proposal c entry) ≤ c.vr.controllers
    proposal_few =
        let m = vr.Prepare c.vr.view (length c.vr.log + 1) c.vr.commit entry in
        let same = length-map (to_others c.vr m) to_member in
        let few = told_few c.vr m in
        omega (arith, same, few)

    alone_few : is_alone c ≡ true → length (proposal c entry) ≤ 1
    alone_few is =
        let half = eqb-true (c.vr.controllers / 2) 0 is in
        let few = proposal_few in
        omega (arith, half, few)

    -- alone, the event is committed as processed, and that is answered by one letter at most
    module _ (alone : is_alone c ≡ true) where
      all : committed c ≡ c.vr.log
      all = take_all c.vr.commit c.vr.log (let w = new.whole alone in omega (arith, w))

      same_events : received (committed c2) ≡ received (committed c)
      same_events = ap received (pushed_all c entry) ∙ received-append c.vr.log (entry ∷ []) ∙ append-nil (received c.vr.log) ∙ ap received (sym all)

      finished : is_finished kinds setup (committed c) c.marks ≡ true
      finished = (and_parts (is_finished kinds setup (committed c) c.marks) _ settled).0

      answer_few : length (answers_at kinds setup c2 (processed (committed c))) ≤ 1
      answer_few =
          let none = ap (λ (ts : List AckThrough). length ts) (no_clears kinds setup (committed c) (committed c2) c.marks new.marks same_events finished) in
          let acks = acknowledges_few (committed c2) (slice_get (received (committed c2)) (processed (committed c))) in
          let a = length-map (acknowledges_at (committed c2) (processed (committed c))) ack_letter in
          let b = length-map (clears_at kinds setup (committed c2) (processed (committed c))) clear_letter in
          let both = length-append (map ack_letter (acknowledges_at (committed c2) (processed (committed c)))) (map clear_letter (clears_at kinds setup (committed c2) (processed (committed c)))) in
          omega (arith, none, acks, a, b, both)

      answers_few : length (flat_map (answers_at kinds setup c2) (places_processed (drop c.vr.commit (committed c2)))) ≤ 1
      answers_few =
          subst (λ (l : List Entry). length (flat_map (answers_at kinds setup c2) (places_processed l)) ≤ 1) (sym (pushed_behind c entry (new.whole alone)))
          (let one = ap (λ (l : List (Letter ControllerSays)). length l) (append-nil (answers_at kinds setup c2 (processed (committed c)))) in let few = answer_few in omega (arith, one, few))

      abbrev answered : Work
      answered = with_answers kinds setup c.vr.commit (proposed_as true work entry)

      alone_said : said (with_commands kinds setup answered) ≤ said work + 2
      alone_said =
          let silent = (commands_silent answered new.marks).0 in
          let first = length-append work.letters (proposal c entry) in
          let both = length-append (work.letters ++ proposal c entry) (flat_map (answers_at kinds setup c2) (places_processed (drop c.vr.commit (committed c2)))) in
          let a = alone_few alone in
          let b = answers_few in
          omega (arith, silent, first, both, a, b)

      alone_new : IsNew (with_commands kinds setup answered).state
      alone_new =
          let kept = commands_silent answered new.marks in
          record {
            marks = kept.1;
            whole = λ h. ap (λ (v : VrState). v.commit) kept.2 ∙ sym (length-append c.vr.log (entry ∷ [])) ∙ ap (λ (v : VrState). length v.log) (sym kept.2);
            small = subst (λ (v : VrState). v.controllers ≤ 7) (sym kept.2) new.small;
          }

    abbrev next : Work
    next = after_proposal kinds setup work entry

    next_few : (said next ≤ said work + 7) × (goes_on c entry ≡ true → (said next ≤ said work + 2) × IsNew next.state)
    next_few = by_limits (is_past_limits c.vr.log entry) (is_alone c) refl
      where
        by_limits : (p a : Bool) → is_alone c ≡ a →
            let x = if p then leaving work (met_limit c entry) else if a then with_commands kinds setup (with_answers kinds setup c.vr.commit (proposed_as a work entry)) else proposed_as a work entry in
            (said x ≤ said work + 7) × (not p && a ≡ true → (said x ≤ said work + 2) × IsNew x.state)
        by_limits true a is = (omega arith, λ h. absurd (true≢false (sym h)))
        by_limits false true is = let few = alone_said is in (omega (arith, few), λ h. (few, alone_new is))
        by_limits false false is =
            let first = length-append work.letters (proposal c entry) in
            let few = proposal_few in
            let small = new.small in
            (omega (arith, first, few, small), λ h. absurd (true≢false (sym h)))

  finishing_few : (fuel : ℕ) (work : Work) → IsNew work.state → said (finishing fuel kinds setup work) ≤ said work + 2 * fuel + 7
  unfolding finishing
  finishing_few zero work new = omega arith
  finishing_few (suc fuel) work new = by_settled (is_settled kinds setup work.state) refl (goes_on work.state (processing work.state)) refl (finishing_few fuel (after_proposal kinds setup work (processing work.state)))
    where
      after : Work
      after = after_proposal kinds setup work (processing work.state)

      by_settled : (b : Bool) → is_settled kinds setup work.state ≡ b → (g : Bool) → goes_on work.state (processing work.state) ≡ g → (IsNew after.state → said (finishing fuel kinds setup after) ≤ said after + 2 * fuel + 7) →
          said (if not b then work else if g then finishing fuel kinds setup after else after) ≤ said work + 2 * suc fuel + 7
      by_settled false is g goes again = omega arith
      by_settled true is true goes again = let h = (next_few work new is).1 goes in let few = h.0 in let more = again h.1 in omega (arith, few, more)
      by_settled true is false goes again = let few = (next_few work new is).0 in omega (arith, few)

  pub starting_few : length setup.ports ≤ 64 → (promise : Option ℕ) (s : VrState) → IsSized s → length (starting_turn kinds setup promise s).letters ≤ 16384
  unfolding settling
  starting_few few_ports promise s sized =
      let told = told_few s (view_start s) in
      let members = length-map (to_others s (view_start s)) to_member in
      let roles = length-map (switches setup) (role_letter s.view) in
      let count = length-range_with_len 0 (length setup.ports) in
      let joined = length-append (to_members (to_others s (view_start s))) (map (role_letter s.view) (switches setup)) in
      let silent = commands_silent answered refl in
      let first = silent.0 in
      let none = answers_none in
      let fuel = events_few in
      let small = sized.small in
      let all = finishing_few (length (received mid.state.vr.log)) mid new in
      omega (arith, told, members, roles, count, joined, first, none, fuel, small, all, few_ports)
    where
      asking : Work
      asking = posting_work (leaving (stepped (fresh s) (record (tells_start s) { promise = promise })) (fresh s)) (map (role_letter s.view) (switches setup))

      answered : Work
      answered = with_answers kinds setup s.commit asking

      mid : Work
      mid = with_commands kinds setup answered

      vr_is : mid.state.vr ≡ s
      vr_is = (commands_silent answered refl).2

      answers_none : said answered ≡ said asking
      answers_none =
          let past : drop s.commit (take s.commit s.log) ≡ [] = drop_all s.commit (take s.commit s.log) (let short = length-take s.commit s.log in omega (arith, short)) in
          let same = ap (λ (l : List Entry). length (asking.letters ++ flat_map (answers_at kinds setup asking.state) (places_processed l))) past in
          let all = length-append asking.letters [] in
          omega (arith, same, all)

      events_few : length (received mid.state.vr.log) ≤ 4096
      events_few =
          let same = ap (λ (v : VrState). length (received v.log)) vr_is in
          let few = length_is s.log in
          let short = (log_short s.log sized.one).0 in
          omega (arith, same, few, short)

      new : IsNew mid.state
      new = record {
        marks = (commands_silent answered refl).1;
        whole = λ h. ap (λ (v : VrState). v.commit) vr_is ∙ sized.whole (eqb-true (most_failures s) 0 (ap (λ (v : VrState). nat_eq (most_failures v) 0) (sym vr_is) ∙ h)) ∙ ap (λ (v : VrState). length v.log) (sym vr_is);
        small = subst (λ (v : VrState). v.controllers ≤ 7) (sym vr_is) sized.small;
      }
