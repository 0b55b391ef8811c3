-- What the pieces of a primary's turn leave to do: each of them says no more than it does.
use Rattle.std.proofs.Common.{◌≡◌, ◌≤◌, ◌⊎◌, inl, inr, ℕ, ◌+◌, ◌-◌, ◌*◌, Bool, true, List, [], ◌∷◌, ◌++◌, length, take, filter, refl, sym, ◌∙◌, ap, subst, arith, append-nil, length-append, mul-add, mul-one, mul-le-mul_left}
use Rattle.std.specs.Prelude.{not, ◌||◌, flat_map, Some, if◌then◌else◌}
use Rattle.std.proofs.lemmas.Bool.{and_parts, ltb-true}
use Rattle.std.proofs.lemmas.List.Sums.{sum_by-append}
use Rattle.list_facts.specs.Lists.{IsPrefix}
use Rattle.list_facts.proofs.Prefixes.{front_prefix, prefix_length}
use Rattle.of_types.specs.declared.message.Event.{Event}
use Rattle.of_types.specs.declared.setup.Setup.{Setup}
use Rattle.journal.specs.declared.journal.Letter.{Letter}
use Rattle.vr_log.specs.declared.entry.Entry.{Entry}
use Rattle.vr_log.specs.declared.entry.Entry.TheVariants.{Received, Processed}
use Rattle.vr_log.specs.declared.message.VrMessage.TheVariants as vr
use Rattle.vr_log.specs.Log.{is_processed, processed, received}
use Rattle.vr_log.specs.Members.{others_below}
use Rattle.vr_log.proofs.Logs.{received-append}
use Rattle.two_stage_log.specs.Counts.{has_unprocessed}
use Rattle.controller_moves.proofs.ControllerLaws.Logs.{processed_prefix, received_prefix}
use Rattle.dispatcher.specs.Marks.{is_confirmed, is_wanted, outstanding}
use Rattle.group_controller.specs.declared.messages.ControllerSays.{ControllerSays}
use Rattle.group_controller.specs.State.{ControllerState, committed}
use Rattle.group_controller.specs.Settling.{answers_at, command_letters, is_some_of, is_untold}
use Rattle.closing_laws.specs.Measure.{commands_sent, uncommitted, unprocessed}
use Rattle.closing_laws.specs.Quorum.{has}
use Rattle.closing_laws.proofs.Measure.AnswerWorths.{answers_worth, commands_worth, letters-append, primary_worths, told_worth}
use Rattle.closing_laws.proofs.Measure.CommandCounts.{commands_done, done_grows, done_next, done_same, sent_same, due_of, fewer_twice, sent_now, sent_stays}
use Rattle.closing_laws.proofs.Primary.Commanding.{is_told}
use Rattle.closing_laws.proofs.Primary.Proposing.{committed_same, proposal, pushed}

module _ (kinds : List ℕ) (setup : Setup) (quorum : List ℕ) (me f : ℕ) where
  -- what is left to do with the events of the log, but for their commands
  abbrev pub left_with : ControllerState → ℕ
  left_with c = (2 * f + 1) * unprocessed c + uncommitted c

  -- what a primary says, as it comes from one state to another, is worth no more than what it has done, and this
  abbrev pub Falls : ControllerState → ControllerState → List (Letter ControllerSays) → ℕ → Type 0
  Falls c c' letters extra =
      primary_worths quorum me letters + left_with c' + 3 * commands_done kinds setup c + 2 * commands_sent kinds setup c ≤
      extra + left_with c + 3 * commands_done kinds setup c' + 2 * commands_sent kinds setup c'

  pub falls_then : (a b c : ControllerState) (xs ys : List (Letter ControllerSays)) (m n : ℕ) → Falls a b xs m → Falls b c ys n → Falls a c (xs ++ ys) (m + n)
  falls_then a b c xs ys m n p q = let e = letters-append quorum me xs ys in omega (arith, p, q, e)

  pub falls_none : (c c' : ControllerState) → c'.vr ≡ c.vr → commands_sent kinds setup c' ≡ commands_sent kinds setup c → Falls c c' [] 0
  falls_none c c' same sent =
      let left = ap (λ v. (2 * f + 1) * (length (received v.log) - processed v.log) + (processed v.log - processed (take v.commit v.log))) same in
      let done = ap (λ v. commands_done kinds setup (record c { vr = v })) same in
      omega (arith, left, done, sent)

  -- more is committed, and answered
  module _ (c c' : ControllerState) (log : c'.vr.log ≡ c.vr.log) (marks : c'.marks ≡ c.marks) (last : c'.last_told ≡ c.last_told) (front : IsPrefix (committed c) (committed c')) where
    one_log : unprocessed c' ≡ unprocessed c
    one_log = ap (λ (l : List Entry). length (received l) - processed l) log

    low : processed (committed c') ≤ processed c.vr.log
    low = let a = processed_prefix (front_prefix c'.vr.commit c'.vr.log) in let e = ap processed log in omega (arith, a, e)

    committed_now : uncommitted c' ≡ processed c.vr.log - processed (committed c')
    committed_now = ap (λ (l : List Entry). processed l - processed (committed c')) log

    -- none of it tells that an event is processed
    pub none_answered : processed (committed c') ≡ processed (committed c) → Falls c c' [] 0
    none_answered same =
        let left = ap (λ (n : ℕ). (2 * f + 1) * n) one_log in
        let now = committed_now in
        let done = done_grows kinds setup c c' front same in
        let sent = sent_stays kinds setup c c' front marks last same in
        omega (arith, left, now, done, sent, same)

    -- one entry does
    pub one_answered : processed (committed c') ≡ processed (committed c) + 1 → Falls c c' (answers_at kinds setup c' (processed (committed c))) 0
    one_answered one =
        let left = ap (λ (n : ℕ). (2 * f + 1) * n) one_log in
        let now = committed_now in
        let high = low in
        let done = done_next kinds setup c c' front one in
        let sent = sent_now kinds setup c c' front in
        let said = answers_worth quorum me kinds setup c' (processed (committed c)) in
        omega (arith, left, now, high, done, sent, said, one)

    -- the places that are answered
    abbrev pub IsAnswer : List ℕ → Type 0
    IsAnswer places = ((places ≡ []) × (processed (committed c') ≡ processed (committed c))) ⊎ ((places ≡ processed (committed c) ∷ []) × (processed (committed c') ≡ processed (committed c) + 1))

    pub answered_falls : (places : List ℕ) → IsAnswer places → Falls c c' (flat_map (answers_at kinds setup c') places) 0
    answered_falls places (inl h) = subst (λ (ps : List ℕ). Falls c c' (flat_map (answers_at kinds setup c') ps) 0) (sym h.0) (none_answered h.1)
    answered_falls places (inr h) =
        subst (λ (ps : List ℕ). Falls c c' (flat_map (answers_at kinds setup c') ps) 0) (sym h.0)
        (subst (λ (ls : List (Letter ControllerSays)). Falls c c' ls 0) (sym (append-nil (answers_at kinds setup c' (processed (committed c))))) (one_answered h.1))

  -- commands are sent
  module _ (c : ControllerState) (untold : is_untold c ≡ true) where
    abbrev now_told : ControllerState
    now_told = record c { last_told = Some (processed (committed c)) }

    pub commands_fall : Falls c now_told (command_letters kinds setup c (outstanding kinds setup (committed c) c.marks)) 0
    commands_fall =
        let before = ap (λ (b : Bool). if b || not (has_unprocessed (committed c)) then 0 else length (filter (λ x. is_confirmed c.marks x.switch) (due_of kinds setup c))) untold in
        let there = (and_parts (has_unprocessed (committed c)) (not (is_some_of (processed (committed c)) c.last_told)) untold).0 in
        let after = ap (λ (b : Bool). if b || not (has_unprocessed (committed c)) then 0 else length (filter (λ x. is_confirmed c.marks x.switch) (due_of kinds setup c))) (is_told kinds setup c)
        ∙ ap (λ (b : Bool). if not b then 0 else length (filter (λ x. is_confirmed c.marks x.switch) (due_of kinds setup c))) there in
        let said = commands_worth quorum me kinds setup c (outstanding kinds setup (committed c) c.marks) in
        let few = fewer_twice (λ x. is_confirmed c.marks x.switch) (is_wanted (committed c) c.marks) (due_of kinds setup c) in
        omega (arith, before, after, said, few)

  -- an entry is proposed
  module _ (n : ℕ) (enough : length (filter (has quorum) (others_below me n)) ≡ f) (c : ControllerState) (mine : c.vr.me ≡ me) (size : c.vr.controllers ≡ n) (within : c.vr.commit ≤ length c.vr.log) (entry : Entry) where
    abbrev next : ControllerState
    next = pushed c entry c.vr.commit

    said : primary_worths quorum me (proposal c entry) ≡ 2 * f
    said =
        told_worth quorum me (vr.Prepare c.vr.view (length c.vr.log + 1) c.vr.commit entry) refl (others_below c.vr.me c.vr.controllers)
        ∙ ap (λ (i : ℕ). 2 * length (filter (has quorum) (others_below i c.vr.controllers))) mine ∙ ap (λ (k : ℕ). 2 * length (filter (has quorum) (others_below me k))) size
        ∙ ap (λ (k : ℕ). 2 * k) enough

    done : commands_done kinds setup next ≡ commands_done kinds setup c
    done = done_same kinds setup c next (committed_same c entry within)

    sent : commands_sent kinds setup next ≡ commands_sent kinds setup c
    sent = sent_same kinds setup c next (committed_same c entry within) refl refl

    told : processed (committed next) ≡ processed (committed c)
    told = ap processed (committed_same c entry within)

    counted : processed (c.vr.log ++ entry ∷ []) ≡ processed c.vr.log + (if is_processed entry then 1 else 0)
    counted = let h = sum_by-append (λ (x : Entry). if is_processed x then 1 else 0) c.vr.log (entry ∷ []) in omega (arith, h)

    least_told : processed (committed c) ≤ processed c.vr.log
    least_told = processed_prefix (front_prefix c.vr.commit c.vr.log)

  -- that an event is processed
  module _ (n : ℕ) (enough : length (filter (has quorum) (others_below me n)) ≡ f) (c : ControllerState) (mine : c.vr.me ≡ me) (size : c.vr.controllers ≡ n) (within : c.vr.commit ≤ length c.vr.log) where
    pub processed_falls : (j : ℕ) → has_unprocessed (committed c) ≡ true → processed c.vr.log ≤ processed (committed c) → Falls c (pushed c (Processed j) c.vr.commit) (proposal c (Processed j)) 0
    processed_falls j there proposed =
        let said_is = said n enough c mine size within (Processed j) in
        let done_is = done n enough c mine size within (Processed j) in
        let sent_is = sent n enough c mine size within (Processed j) in
        let told_is = told n enough c mine size within (Processed j) in
        let count = counted n enough c mine size within (Processed j) in
        let least = least_told n enough c mine size within (Processed j) in
        let less = ltb-true (processed (committed c)) (length (received (committed c))) there in
        let long = prefix_length (received_prefix (front_prefix c.vr.commit c.vr.log)) in
        let events = ap (λ (l : List Event). length l) (received-append c.vr.log (Processed j ∷ []) ∙ append-nil (received c.vr.log)) in
        let one : unprocessed c ≡ unprocessed (pushed c (Processed j) c.vr.commit) + 1 = omega (arith, count, events, less, long, proposed) in
        let times = ap (λ (k : ℕ). (2 * f + 1) * k) one ∙ mul-add (2 * f + 1) (unprocessed (pushed c (Processed j) c.vr.commit)) 1 in
        let unit = mul-one (2 * f + 1) in
        omega (arith, said_is, done_is, sent_is, told_is, count, least, times, unit)

    -- that one is received
    pub received_falls : (e : Event) → Falls c (pushed c (Received e) c.vr.commit) (proposal c (Received e)) (4 * f + 1)
    received_falls e =
        let said_is = said n enough c mine size within (Received e) in
        let done_is = done n enough c mine size within (Received e) in
        let sent_is = sent n enough c mine size within (Received e) in
        let told_is = told n enough c mine size within (Received e) in
        let count = counted n enough c mine size within (Received e) in
        let events = ap (λ (l : List Event). length l) (received-append c.vr.log (Received e ∷ [])) ∙ length-append (received c.vr.log) (e ∷ []) in
        let one : unprocessed (pushed c (Received e) c.vr.commit) ≤ unprocessed c + 1 = omega (arith, count, events) in
        let times = mul-le-mul_left (2 * f + 1) one in
        let parts = mul-add (2 * f + 1) (unprocessed c) 1 in
        let unit = mul-one (2 * f + 1) in
        omega (arith, said_is, done_is, sent_is, told_is, count, times, parts, unit)
