-- No step of a member leaves, saves or says a view above those that it had, had promised or is told.
use Rattle.std.proofs.Common.{ℕ, ◌+◌, ◌≤◌, cond, not, nat_eq, nat_lt, nat_le, ◌&&◌, Option, Some, None, List, [], ◌∷◌, ◌++◌, length, take, drop, arith}
use Rattle.std.specs.Prelude.{flat_map}
use Rattle.std.specs.List.{AllByRecursion}
use Rattle.std.proofs.lemmas.Bool.{cond_both}
use Rattle.journal.proofs.All.{all_append, all_made}
use Rattle.vr_log.specs.declared.entry.Entry.{Entry}
use Rattle.vr_log.specs.declared.message.Filled.{Filled}
use Rattle.vr_log.specs.declared.message.VrLetter.{VrLetter}
use Rattle.vr_log.specs.declared.message.VrMessage.{VrMessage}
use Rattle.vr_log.specs.declared.message.VrMessage.TheVariants as message
use Rattle.vr_log.specs.declared.state.Collected.{Collected}
use Rattle.vr_log.specs.declared.state.Response.{Response}
use Rattle.vr_log.specs.declared.state.Status.{Status}
use Rattle.vr_log.specs.declared.state.Status.TheVariants as status
use Rattle.vr_log.specs.declared.state.VrState.{VrState}
use Rattle.vr_log.specs.Log.{fits, follows}
use Rattle.vr_log.specs.Members as member
use Rattle.vr_log.specs.Choosing as choosing
use Rattle.vr_log.specs.Steps as steps
use Rattle.vr_log.specs.Steps.{VrStep}
use Rattle.vr_normal.specs.Cases as normal_case
use Rattle.vr_normal.specs.Ticks as tick
use Rattle.vr_normal.specs.Proposing.{proposed}
use Rattle.view_change.specs.Adopting as adopting
use Rattle.view_change.specs.Entering as entering
use Rattle.view_change.specs.Cases as change
use Rattle.vr_recovery.specs.Cases as transfer
use Rattle.vr_recovery.specs.Recovering as recovering
use Rattle.vr_core.specs.declared.input.VrInput.{VrInput}
use Rattle.vr_core.specs.declared.input.VrInput.TheVariants as vr_input
use Rattle.vr_core.specs.Step.{on_vr, vr_step}
use Rattle.controller_moves.specs.ControllerLaws.Views.{view_of, MemberInputViews}

module _ (limit : ℕ) where
  -- no view that a member has, has promised or was told in a response is above the limit
  abbrev pub IsStateUpTo : VrState → Type 0
  IsStateUpTo s = (s.view ≤ limit) × (s.promise ≤ limit) × AllByRecursion (λ r. r.view ≤ limit) s.responses

  abbrev pub IsPromiseUpTo : Option ℕ → Type 0
  IsPromiseUpTo None = Unit {0}
  IsPromiseUpTo (Some view) = view ≤ limit

  abbrev pub AreLettersUpTo : List VrLetter → Type 0
  AreLettersUpTo letters = AllByRecursion (λ l. view_of l.message ≤ limit) letters

  -- nor is any that a step leaves, saves or says
  pub record IsStepUpTo (step : VrStep) : Type 0 where
    pub state : IsStateUpTo step.state
    pub promise : IsPromiseUpTo step.promise
    pub letters : AreLettersUpTo step.letters

  abbrev pub IsInputUpTo : VrInput → Type 0
  IsInputUpTo x = MemberInputViews (λ view. view ≤ limit) x

  pub others_up : (s : VrState) (m : VrMessage) → view_of m ≤ limit → AreLettersUpTo (steps.to_others s m)
  others_up s m h = all_made (steps.letter m) (λ (l : VrLetter). view_of l.message ≤ limit) (λ j. h) (member.others s)

  quiet_up : (s : VrState) → IsStateUpTo s → IsStepUpTo (steps.quiet s)
  quiet_up s u = record { state = u; promise = tt; letters = tt }

  tells_up : (s : VrState) (to : ℕ) (m : VrMessage) → IsStateUpTo s → view_of m ≤ limit → IsStepUpTo (steps.tells s to m)
  tells_up s to m u h = record { state = u; promise = tt; letters = (h, tt) }

  later_up : (first next : Option ℕ) → IsPromiseUpTo first → IsPromiseUpTo next → IsPromiseUpTo (steps.later_of first next)
  later_up first None a b = a
  later_up first (Some view) a b = b

  then_up : (first : VrStep) (next : VrState → VrStep) → IsStepUpTo first → IsStepUpTo (next first.state) → IsStepUpTo (steps.then_step first next)
  then_up first next a b = record {
    state = b.state;
    promise = later_up first.promise (next first.state).promise a.promise b.promise;
    letters = all_append (λ (l : VrLetter). view_of l.message ≤ limit) first.letters (next first.state).letters a.letters b.letters;
  }

  guarded_up : (s : VrState) (st : VrStep) → IsStateUpTo s → IsStepUpTo st → IsStepUpTo (steps.guarded s st)
  guarded_up s st u h = cond_both (steps.is_sound s st.state) _ _ IsStepUpTo (λ _. h) (λ _. quiet_up s u)

  -- Check
  module _ (s : VrState) (u : IsStateUpTo s) where
    collects_up : (c : Collected) → IsStateUpTo (entering.collects s c)
    collects_up c = cond_both (choosing.has_collected s c.from) _ _ IsStateUpTo (λ _. u) (λ _. u)

    votes_up : IsStepUpTo (entering.votes s)
    votes_up = cond_both (nat_le (member.most_failures s) (length s.votes) && not s.sent) _ _ IsStepUpTo
        (λ _. cond_both (member.is_primary s) _ _ IsStepUpTo
        (λ own. let k = collects_up (entering.own_log s) in record { state = k; promise = tt; letters = tt })
        (λ other. record { state = u; promise = tt; letters = (u.0, tt) }))
        (λ _. quiet_up s u)

    chooses_from_up : (all : List Collected) → IsStepUpTo (entering.chooses_from s all)
    chooses_from_up [] = quiet_up s u
    chooses_from_up (c ∷ cs) = cond_both (choosing.reaches s (choosing.best_of c cs)) _ _ IsStepUpTo
        (λ _. record { state = u; promise = tt; letters = all_made (steps.letter _) (λ (l : VrLetter). view_of l.message ≤ limit) (λ j. u.0) (member.others s) })
        (λ _. record { state = u; promise = tt; letters = (u.0, tt) })

    chooses_up : IsStepUpTo (entering.chooses s)
    chooses_up = cond_both (choosing.may_choose s) _ _ IsStepUpTo (λ _. chooses_from_up s.collected) (λ _. quiet_up s u)

  check_up : (s : VrState) → IsStateUpTo s → IsStepUpTo (entering.check s)
  check_up s u = let a = votes_up s u in then_up (entering.votes s) entering.chooses a (chooses_up (entering.votes s).state a.state)

  module _ (s : VrState) (u : IsStateUpTo s) where
    enter_up : (view : ℕ) → view ≤ limit → IsStepUpTo (entering.enter s view)
    enter_up view h = record { state = (h, h, u.2); promise = h; letters = others_up s (message.StartViewChange view) h }

    -- a view is entered, something is noted, and Check is done
    noted_up : (view : ℕ) (note : VrState → VrState) → view ≤ limit → IsStateUpTo (note (entering.entered_view s view)) → IsStepUpTo (steps.guarded s (steps.then_step (entering.enter s view) (λ next. entering.check (note next))))
    noted_up view note h k =
        guarded_up s (steps.then_step (entering.enter s view) (λ next. entering.check (note next))) u
        (then_up (entering.enter s view) (λ next. entering.check (note next)) (enter_up view h) (check_up (note (entering.entered_view s view)) k))

    enters_up : (view : ℕ) → view ≤ limit → IsStepUpTo (steps.guarded s (change.enters s view))
    enters_up view h = noted_up view (λ next. next) h (h, h, u.2)

    suspect_up : (view : ℕ) → view ≤ limit → IsStepUpTo (change.suspect s view)
    suspect_up view h = cond_both (member.is_later s view) _ _ IsStepUpTo (λ _. enters_up view h) (λ _. quiet_up s u)

    -- a message of another member
    other_up : (from : ℕ) (st : VrStep) → IsStepUpTo st → IsStepUpTo (cond (member.is_other s from) st (steps.quiet s))
    other_up from st h = cond_both (member.is_other s from) _ _ IsStepUpTo (λ _. h) (λ _. quiet_up s u)

    primary_up : (from view : ℕ) (st : VrStep) → view ≤ limit → IsStepUpTo st → IsStepUpTo (normal_case.from_primary s from view st)
    primary_up from view st h k = other_up from _ (cond_both (member.is_primary_of s from view) _ _ IsStepUpTo
        (λ _. cond_both (member.is_here s view) _ _ IsStepUpTo (λ _. k)
        (λ _. cond_both (member.is_later s view) _ _ IsStepUpTo (λ _. tells_up s (member.primary_of s view) (message.GetState view s.commit) u h) (λ _. quiet_up s u)))
        (λ _. quiet_up s u))

    acknowledges_up : (log : List Entry) (commit : ℕ) → IsStepUpTo (steps.acknowledges (record s { log = log }) commit)
    acknowledges_up log commit = record { state = u; promise = tt; letters = (u.0, tt) }

    prepare_up : (from view op commit : ℕ) (entry : Entry) → view ≤ limit → IsStepUpTo (normal_case.prepare s from view op commit entry)
    prepare_up from view op commit entry h = primary_up from view (normal_case.prepares s op commit entry) h
        (cond_both (nat_le op (length s.log)) _ _ IsStepUpTo (λ _. acknowledges_up s.log commit)
        (λ _. cond_both (nat_eq op (length s.log + 1)) _ _ IsStepUpTo
        (λ _. cond_both (fits s.log entry) _ _ IsStepUpTo (λ _. acknowledges_up (s.log ++ entry ∷ []) commit) (λ _. quiet_up s u))
        (λ _. tells_up s (member.primary_of s s.view) (message.GetState s.view (length s.log)) u u.0)))

    commit_up : (from view commit : ℕ) → view ≤ limit → IsStepUpTo (normal_case.commit_told s from view commit)
    commit_up from view commit h = primary_up from view (normal_case.commits s commit) h
        (cond_both (nat_le commit (length s.log)) _ _ IsStepUpTo (λ _. record { state = u; promise = tt; letters = tt })
        (λ _. tells_up s (member.primary_of s s.view) (message.GetState s.view (length s.log)) u u.0))

    prepare_ok_up : (from view op : ℕ) → IsStepUpTo (normal_case.prepare_ok s from view op)
    prepare_ok_up from view op = other_up from _ (cond_both (normal_case.is_counted s view op) _ _ IsStepUpTo (λ _. record { state = u; promise = tt; letters = tt }) (λ _. quiet_up s u))

    adopt_up : (view first commit : ℕ) (log : List Entry) → view ≤ limit → IsStepUpTo (adopting.adopt s view first commit log)
    adopt_up view first commit log h = cond_both (nat_lt s.commit first) _ _ IsStepUpTo
        (λ _. tells_up s (member.primary_of s view) (message.GetState view s.commit) u h)
        (λ _. record {
          state = (h, let p = u.1 in omega (arith, h, p), u.2);
          promise = cond_both (nat_lt s.promise view) (Some view) None IsPromiseUpTo (λ _. h) (λ _. tt);
          letters = cond_both (nat_lt commit (length (take first s.log ++ log))) _ _ AreLettersUpTo (λ _. (h, tt)) (λ _. tt);
        })

    start_view_up : (from view first commit : ℕ) (log : List Entry) → view ≤ limit → IsStepUpTo (change.start_view s from view first commit log)
    start_view_up from view first commit log h = other_up from _ (cond_both (member.is_primary_of s from view && member.is_newer s view) _ _ IsStepUpTo
        (λ _. guarded_up s (adopting.adopt s view first commit log) u (adopt_up view first commit log h)) (λ _. quiet_up s u))

    get_up : (from view op : ℕ) → IsStepUpTo (transfer.get_state s from view op)
    get_up from view op = other_up from _ (cond_both (transfer.is_answered s view op) _ _ IsStepUpTo (λ _. tells_up s from (message.NewState s.view op s.commit (drop op s.log)) u u.0) (λ _. quiet_up s u))

    new_state_up : (from view first commit : ℕ) (log : List Entry) → view ≤ limit → IsStepUpTo (transfer.new_state s from view first commit log)
    new_state_up from view first commit log h = other_up from _ (cond_both (transfer.is_longer s view first log) _ _ IsStepUpTo
        (λ _. cond_both (follows s.log (transfer.lacking s first log)) _ _ IsStepUpTo (λ _. acknowledges_up (s.log ++ transfer.lacking s first log) commit) (λ _. quiet_up s u))
        (λ _. cond_both (transfer.is_adopted s view first) _ _ IsStepUpTo (λ _. guarded_up s (adopting.adopt s view first commit log) u (adopt_up view first commit log h)) (λ _. quiet_up s u)))

    fetch_up : (from view op : ℕ) → IsStepUpTo (change.fetch s from view op)
    fetch_up from view op = other_up from _ (cond_both (change.is_change s view && nat_le op s.commit) _ _ IsStepUpTo
        (λ _. tells_up s from (message.Supply s.view op (drop op (take s.commit s.log))) u u.0) (λ _. quiet_up s u))

    supply_up : (from view first : ℕ) (log : List Entry) → IsStepUpTo (change.supply s from view first log)
    supply_up from view first log =
        let t : VrState = change.supplied s first log in
        other_up from _ (cond_both (change.is_message_wanted s view first log) _ _ IsStepUpTo (λ _. guarded_up s (entering.check t) u (check_up t u)) (λ _. quiet_up s u))

    start_view_change_up : (from view : ℕ) → view ≤ limit → IsStepUpTo (change.start_view_change s from view)
    start_view_change_up from view h = other_up from _ (cond_both (member.is_later s view) _ _ IsStepUpTo
        (λ _. noted_up view (λ next. entering.voted next from) h (h, h, u.2))
        (λ _. cond_both (nat_eq view s.view) _ _ IsStepUpTo
        (λ _. cond_both (member.is_changing s) _ _ IsStepUpTo (λ _. guarded_up s (entering.check (entering.voted s from)) u (check_up (entering.voted s from) u))
        (λ _. cond_both (member.leads s) _ _ IsStepUpTo (λ _. tells_up s from (entering.view_start s) u u.0) (λ _. quiet_up s u)))
        (λ _. quiet_up s u)))

    do_view_change_up : (from view normal commit : ℕ) (log : List Entry) → view ≤ limit → IsStepUpTo (change.do_view_change s from view normal commit log)
    do_view_change_up from view normal commit log h =
        let c : Collected = record { from = from; normal = normal; commit = commit; log = log } in
        other_up from _ (cond_both (member.is_primary_of s s.me view) _ _ IsStepUpTo
        (λ _. cond_both (member.is_later s view) _ _ IsStepUpTo
        (λ _. noted_up view (λ next. entering.collects next c) h (collects_up (entering.entered_view s view) (h, h, u.2) c))
        (λ _. cond_both (nat_eq view s.view && member.is_changing s) _ _ IsStepUpTo
        (λ _. guarded_up s (entering.check (entering.collects s c)) u (check_up (entering.collects s c) (collects_up s u c))) (λ _. quiet_up s u)))
        (λ _. quiet_up s u))

    recovery_up : (from nonce promise : ℕ) → promise ≤ limit → IsStepUpTo (recovering.recovery s from nonce promise)
    recovery_up from nonce promise h = other_up from _ (cond_both (member.is_normal s) _ _ IsStepUpTo
        (λ _. cond_both (nat_lt s.view promise) _ _ IsStepUpTo (λ _. enters_up promise h) (λ _. tells_up s from (message.RecoveryResponse s.view nonce (recovering.filled s)) u u.0))
        (λ _. quiet_up s u))

    with_up : (r : Response) → r.view ≤ limit → (rs : List Response) → AllByRecursion (λ r. r.view ≤ limit) rs → AllByRecursion (λ r. r.view ≤ limit) (recovering.with_response rs r)
    with_up r h [] a = (h, tt)
    with_up r h (x ∷ rs) a = cond_both (nat_eq x.from r.from) (recovering.newest x r ∷ rs) (x ∷ recovering.with_response rs r) (λ rs. AllByRecursion (λ r. r.view ≤ limit) rs)
        (λ _. (cond_both (nat_lt x.view r.view) r x (λ y. y.view ≤ limit) (λ _. h) (λ _. a.0), a.1)) (λ _. (a.0, with_up r h rs a.1))

    greatest_up : (rs : List Response) → AllByRecursion (λ r. r.view ≤ limit) rs → recovering.greatest_view_told rs ≤ limit
    greatest_up [] a = omega arith
    greatest_up (x ∷ rs) a = let here = a.0 in let rest = greatest_up rs a.1 in omega (arith, here, rest)

  ends_up : (t : VrState) → IsStateUpTo t → (view : ℕ) → view ≤ limit → (q : Option Filled) → IsStepUpTo (recovering.ends_with t view q)
  ends_up t u view h None = quiet_up t u
  ends_up t u view h (Some f) = adopt_up (record t { responses = [] }) (u.0, u.1, tt) view 0 f.commit f.log h

  module _ (s : VrState) (u : IsStateUpTo s) where
    response_up : (from view nonce : ℕ) (filled : Option Filled) → view ≤ limit → IsStepUpTo (recovering.response s from view nonce filled)
    response_up from view nonce filled h =
        let r : Response = record { from = from; view = view; filled = filled } in
        let t : VrState = recovering.responded s r in
        let k : IsStateUpTo t = (u.0, u.1, with_up s u r h s.responses u.2) in
        other_up s u from _ (cond_both (member.is_recovering s && nat_eq nonce s.life) _ _ IsStepUpTo
        (λ _. guarded_up s (recovering.recovers t) u (ends_up t k (recovering.greatest_view_told t.responses) (greatest_up s u t.responses k.2) (recovering.ending t)))
        (λ _. quiet_up s u))

    on_vr_up : (from : ℕ) (m : VrMessage) → view_of m ≤ limit → IsStepUpTo (on_vr s from m)
    unfolding on_vr
    on_vr_up from (message.Prepare view op commit entry) h = prepare_up s u from view op commit entry h
    on_vr_up from (message.PrepareOk view op) h = prepare_ok_up s u from view op
    on_vr_up from (message.Commit view commit) h = commit_up s u from view commit h
    on_vr_up from (message.StartViewChange view) h = start_view_change_up s u from view h
    on_vr_up from (message.DoViewChange view normal commit log) h = do_view_change_up s u from view normal commit log h
    on_vr_up from (message.StartView view first commit log) h = start_view_up s u from view first commit log h
    on_vr_up from (message.Recovery nonce promise) h = recovery_up s u from nonce promise h
    on_vr_up from (message.RecoveryResponse view nonce filled) h = response_up from view nonce filled h
    on_vr_up from (message.GetState view op) h = get_up s u from view op
    on_vr_up from (message.NewState view first commit log) h = new_state_up s u from view first commit log h
    on_vr_up from (message.Fetch view op) h = fetch_up s u from view op
    on_vr_up from (message.Supply view first log) h = supply_up s u from view first log

    -- a tick
    prepares_up : (view commit op : ℕ) (es : List Entry) (to : ℕ) → view ≤ limit → AreLettersUpTo (tick.prepares_from view commit op es to)
    prepares_up view commit op [] to h = tt
    prepares_up view commit op (e ∷ es) to h = (h, prepares_up view commit (op + 1) es to h)

    repeats_up : (to : List ℕ) → AreLettersUpTo (flat_map (tick.repeats_to s) to)
    repeats_up [] = tt
    repeats_up (j ∷ js) = all_append (λ (l : VrLetter). view_of l.message ≤ limit) (tick.repeats_to s j) (flat_map (tick.repeats_to s) js)
        (cond_both (nat_eq s.commit (length s.log)) _ _ AreLettersUpTo (λ _. (u.0, tt)) (λ _. prepares_up s.view s.commit (s.commit + 1) (tick.repeated s) j u.0))
        (repeats_up js)

    fetch_from_up : (all : List Collected) → AreLettersUpTo (choosing.fetch_from s all)
    fetch_from_up [] = tt
    fetch_from_up (c ∷ cs) = cond_both (choosing.reaches s (choosing.best_of c cs)) _ _ AreLettersUpTo (λ _. tt) (λ _. (u.0, tt))

    changing_up : AreLettersUpTo (steps.to_others s (message.StartViewChange s.view) ++ tick.sent_log s ++ choosing.fetches s)
    changing_up =
        all_append (λ (l : VrLetter). view_of l.message ≤ limit) (steps.to_others s (message.StartViewChange s.view) ++ tick.sent_log s) (choosing.fetches s)
        (all_append (λ (l : VrLetter). view_of l.message ≤ limit) (steps.to_others s (message.StartViewChange s.view)) (tick.sent_log s) (others_up s (message.StartViewChange s.view) u.0)
        (cond_both (s.sent && not (member.is_primary s)) _ _ AreLettersUpTo (λ _. (u.0, tt)) (λ _. tt)))
        (cond_both (choosing.may_choose s) _ _ AreLettersUpTo (λ _. fetch_from_up s.collected) (λ _. tt))

    ticked_up : IsStepUpTo (tick.ticked s)
    ticked_up = by s.status
      where
        by : (x : Status) → IsStepUpTo (elim x [
          | status.Normal ↦ cond (member.is_primary s) (tick.tick_primary s) (steps.quiet s)
          | status.ViewChange ↦ tick.tick_changing s
          | status.Recovering ↦ tick.tick_recovering s
          | status.Down ↦ steps.quiet s
        ])
        by status.Normal = cond_both (member.is_primary s) _ _ IsStepUpTo (λ _. record { state = u; promise = tt; letters = repeats_up (member.others s) }) (λ _. quiet_up s u)
        by status.ViewChange = record { state = u; promise = tt; letters = changing_up }
        by status.Recovering = record { state = u; promise = tt; letters = others_up s (message.Recovery s.life s.promise) u.1 }
        by status.Down = quiet_up s u

    pub step_up : (x : VrInput) → IsInputUpTo x → IsStepUpTo (vr_step s x)
    step_up (vr_input.From from m) h = on_vr_up from m h
    step_up (vr_input.Suspect view) h = suspect_up s u view h
    step_up vr_input.Tick h = ticked_up

    pub proposed_up : (entry : Entry) → IsStepUpTo (proposed s entry)
    proposed_up entry = record { state = u; promise = tt; letters = others_up s (message.Prepare s.view (length s.log + 1) s.commit entry) u.0 }

  pub restarted_up : (me controllers promise life : ℕ) → promise ≤ limit → IsStepUpTo (recovering.restarted me controllers promise life)
  restarted_up me controllers promise life h =
      record { state = (omega arith, h, tt); promise = tt; letters = others_up (recovering.recovering_state me controllers promise life) (message.Recovery life promise) h }
