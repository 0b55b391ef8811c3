-- A member writes to members of its group alone.
use Rattle.std.proofs.Common.{◌≡◌, ◌<◌, ◌≤◌, ℕ, ◌+◌, ◌%◌, zero, suc, Bool, true, false, not, ◌&&◌, List, [], ◌∷◌, ◌++◌, take, length, sym, subst, arith}
use Rattle.std.specs.Prelude.{nat_eq, nat_lt, nat_le, Option, Some, None, if◌then◌else◌}
use Rattle.std.specs.List.{AllByRecursion}
use Rattle.std.proofs.lemmas.Bool.{cond_both, and_parts, ltb-true}
use Rattle.std.proofs.lemmas.Nat.{mod_below}
use Rattle.journal.proofs.All.{all_append, all_map}
use Rattle.vr_log.specs.declared.entry.Entry.{Entry}
use Rattle.vr_log.specs.declared.message.Filled.{Filled}
use Rattle.vr_log.specs.declared.message.VrLetter.{VrLetter}
use Rattle.vr_log.specs.declared.message.VrMessage.{VrMessage}
use Rattle.vr_log.specs.declared.message.VrMessage.TheVariants as message
use Rattle.vr_log.specs.declared.state.Collected.{Collected}
use Rattle.vr_log.specs.declared.state.Status.{Status}
use Rattle.vr_log.specs.declared.state.Status.TheVariants.{Normal, ViewChange, Recovering, Down}
use Rattle.vr_log.specs.declared.state.VrState.{VrState}
use Rattle.vr_log.specs.Log.{fits, follows}
use Rattle.vr_log.specs.Members.{is_normal, is_changing, is_recovering, primary_of, is_primary, is_other, is_primary_of, is_here, is_later, is_newer, leads, most_failures, others_below, others}
use Rattle.vr_log.specs.Steps.{VrStep, quiet, letter, tells, to_others, then_step, is_sound, guarded, asks, appended, acknowledges}
use Rattle.vr_log.specs.Choosing.{has_collected, may_choose, is_better, best_of, reaches, fetch_from, fetches, least_commit, greatest_commit, front}
use Rattle.vr_normal.specs.Cases.{asks_later, from_primary, commits, prepares, is_counted, prepare_ok}
use Rattle.vr_normal.specs.Proposing.{proposed}
use Rattle.vr_normal.specs.Ticks.{prepares_from, repeated, repeats_to, sent_log, tick_primary, tick_changing, tick_recovering, ticked}
use Rattle.view_change.specs.Entering.{entered_view, enter, voted, collects, own_log, votes, view_start, started_view, starts, chooses_from, chooses, check}
use Rattle.view_change.specs.Adopting.{adopted_log, adopts, adopt}
use Rattle.view_change.specs.Cases.{enters, suspect, vote_later, vote_here, start_view_change, collect_later, collect, do_view_change, start_view, is_change, fetch, is_message_wanted, supplied, supply}
use Rattle.vr_recovery.specs.Cases.{is_answered, get_state, is_longer, lacking, completes, is_adopted, new_state}
use Rattle.vr_recovery.specs.Recovering.{restarted, recovering_state, recovery, responded, greatest_view_told, ending, ends_with, recovers, response}
use Rattle.vr_core.specs.declared.input.VrInput.{VrInput}
use Rattle.vr_core.specs.declared.input.VrInput.TheVariants as vr_input
use Rattle.vr_core.specs.Step.{on_vr, vr_step}
use Rattle.run_laws.specs.AddressLaws.Addresses.{IsOfGroup}
use Rattle.run_laws.proofs.AddressLaws.Lists.{all_flat_of}

-- letters to members
abbrev pub AreToMembers : ℕ → List VrLetter → Type 0
AreToMembers n letters = AllByRecursion (λ l. l.to < n) letters

-- a step leaves a member of the group, and writes to members
pub record StaysIn (n : ℕ) (step : VrStep) : Type 0 where
  pub member : IsOfGroup n step.state
  pub letters : AreToMembers n step.letters

others_are : (me n : ℕ) (most : ℕ) → n ≤ most → AllByRecursion (λ j. j < most) (others_below me n)
others_are me zero most le = tt
others_are me (suc j) most le =
    let rest = others_are me j most (omega arith) in
    cond_both (nat_eq j me) (others_below me j) (others_below me j ++ j ∷ []) (λ js. AllByRecursion (λ k. k < most) js) (λ _. rest) (λ _. all_append _ (others_below me j) (j ∷ []) rest (omega arith, tt))

module _ (n : ℕ) where
  both : (b : Bool) (x y : VrStep) → (b ≡ true → StaysIn n x) → (b ≡ false → StaysIn n y) → StaysIn n (if b then x else y)
  both b x y f g = cond_both b x y (StaysIn n) f g

  rests : (s : VrState) → IsOfGroup n s → StaysIn n (quiet s)
  rests s h = record { member = h; letters = tt }

  told : (s : VrState) (to : ℕ) (m : VrMessage) → IsOfGroup n s → to < n → StaysIn n (tells s to m)
  told s to m h there = record { member = h; letters = (there, tt) }

  pub others_below_size : (s : VrState) → IsOfGroup n s → AllByRecursion (λ j. j < n) (others s)
  others_below_size s h = subst (λ (k : ℕ). AllByRecursion (λ j. j < n) (others_below s.me k)) (sym h.all) (others_are s.me n n (omega arith))

  pub all_told : (s : VrState) (m : VrMessage) → IsOfGroup n s → AreToMembers n (to_others s m)
  all_told s m h = all_map (letter m) (λ j. j < n) (λ l. l.to < n) (λ j there. there) (others s) (others_below_size s h)

  primary_below : (s : VrState) (view : ℕ) → IsOfGroup n s → primary_of s view < n
  primary_below s view h = let me = h.me in subst (λ (k : ℕ). view % k < n) (sym h.all) (mod_below view n (omega (arith, me)))

  other_below : (s : VrState) (from : ℕ) → IsOfGroup n s → is_other s from ≡ true → from < n
  other_below s from h other = subst (λ (k : ℕ). from < k) h.all (ltb-true from s.controllers (and_parts (nat_lt from s.controllers) (not (nat_eq from s.me)) other).0)

  then_both : (first : VrStep) (next : VrState → VrStep) → StaysIn n first → StaysIn n (next first.state) → StaysIn n (then_step first next)
  then_both first next f g = record { member = g.member; letters = all_append _ first.letters (next first.state).letters f.letters g.letters }

  checked : (s : VrState) (step : VrStep) → IsOfGroup n s → StaysIn n step → StaysIn n (guarded s step)
  checked s step h k = both (is_sound s step.state) step (quiet s) (λ _. k) (λ _. rests s h)

  asked : (s : VrState) (view op : ℕ) → IsOfGroup n s → StaysIn n (asks s view op)
  asked s view op h = told s (primary_of s view) (message.GetState view op) h (primary_below s view h)

  -- the log, the commit number and what is counted say nothing of the group
  acknowledged : (s : VrState) (commit : ℕ) → IsOfGroup n s → StaysIn n (acknowledges s commit)
  acknowledged s commit h = record { member = record { all = h.all; me = h.me; collected = h.collected }; letters = (primary_below s s.view h, tt) }

  -- the normal case
  later_asked : (s : VrState) (view : ℕ) → IsOfGroup n s → StaysIn n (asks_later s view)
  later_asked s view h = both (is_later s view) _ _ (λ _. asked s view s.commit h) (λ _. rests s h)

  by_primary : (s : VrState) (from view : ℕ) (here : VrStep) → IsOfGroup n s → StaysIn n here → StaysIn n (from_primary s from view here)
  by_primary s from view here h k =
      both (is_other s from) _ _ (λ _. both (is_primary_of s from view) _ _ (λ _. both (is_here s view) here _ (λ _. k) (λ _. later_asked s view h)) (λ _. rests s h)) (λ _. rests s h)

  grown : (s : VrState) (entries : List Entry) → IsOfGroup n s → IsOfGroup n (record s { log = s.log ++ entries })
  grown s entries h = record { all = h.all; me = h.me; collected = h.collected }

  prepared : (s : VrState) (op commit : ℕ) (entry : Entry) → IsOfGroup n s → StaysIn n (prepares s op commit entry)
  prepared s op commit entry h =
      both (nat_le op (length s.log)) _ _ (λ _. acknowledged s commit h)
      (λ _. both (nat_eq op (length s.log + 1)) _ _
      (λ _. both (fits s.log entry) _ _ (λ _. acknowledged (appended s entry) commit (grown s (entry ∷ []) h)) (λ _. rests s h))
      (λ _. asked s s.view (length s.log) h))

  committed : (s : VrState) (commit : ℕ) → IsOfGroup n s → StaysIn n (commits s commit)
  committed s commit h =
      both (nat_le commit (length s.log)) _ _ (λ _. rests _ (record { all = h.all; me = h.me; collected = h.collected })) (λ _. asked s s.view (length s.log) h)

  counts : (s : VrState) (from view op : ℕ) → IsOfGroup n s → StaysIn n (prepare_ok s from view op)
  counts s from view op h =
      both (is_other s from) _ _
      (λ _. both (is_counted s view op) _ _ (λ _. rests _ (record { all = h.all; me = h.me; collected = h.collected })) (λ _. rests s h)) (λ _. rests s h)

  pub proposal_stays : (s : VrState) (entry : Entry) → IsOfGroup n s → StaysIn n (proposed s entry)
  proposal_stays s entry h = record { member = record { all = h.all; me = h.me; collected = h.collected }; letters = all_told s _ h }

  -- a view change
  best_from : (best : Collected) (cs : List Collected) → best.from < n → AllByRecursion (λ c. c.from < n) cs → (best_of best cs).from < n
  best_from best [] here h = here
  best_from best (c ∷ cs) here (first, h) = best_from (if is_better c best then c else best) cs (cond_both (is_better c best) c best (λ (d : Collected). d.from < n) (λ _. first) (λ _. here)) h

  entered_in : (s : VrState) (view : ℕ) → IsOfGroup n s → IsOfGroup n (entered_view s view)
  entered_in s view h = record { all = h.all; me = h.me; collected = tt }

  enter_stays : (s : VrState) (view : ℕ) → IsOfGroup n s → StaysIn n (enter s view)
  enter_stays s view h = record { member = entered_in s view h; letters = all_told s _ h }

  voted_in : (s : VrState) (from : ℕ) → IsOfGroup n s → IsOfGroup n (voted s from)
  voted_in s from h = record { all = h.all; me = h.me; collected = h.collected }

  collected_in : (s : VrState) (c : Collected) → IsOfGroup n s → c.from < n → IsOfGroup n (collects s c)
  collected_in s c h there =
      cond_both (has_collected s c.from) s (record s { collected = s.collected ++ c ∷ [] }) (IsOfGroup n) (λ _. h)
      (λ _. record { all = h.all; me = h.me; collected = all_append _ s.collected (c ∷ []) h.collected (there, tt) })

  sent_in : (s : VrState) → IsOfGroup n s → IsOfGroup n (record s { sent = true })
  sent_in s h = record { all = h.all; me = h.me; collected = h.collected }

  votes_stay : (s : VrState) → IsOfGroup n s → StaysIn n (votes s)
  votes_stay s h =
      both (nat_le (most_failures s) (length s.votes) && not s.sent) _ _
      (λ _. both (is_primary s) _ _ (λ _. rests _ (sent_in (collects s (own_log s)) (collected_in s (own_log s) h h.me)))
      (λ _. told (record s { sent = true }) (primary_of s s.view) _ (sent_in s h) (primary_below s s.view h)))
      (λ _. rests s h)

  started_in : (s : VrState) (log : List Entry) (least most : ℕ) → IsOfGroup n s → IsOfGroup n (started_view s log least most)
  started_in s log least most h = record { all = h.all; me = h.me; collected = h.collected }

  start_stays : (s : VrState) (c : Collected) (cs : List Collected) → IsOfGroup n s → StaysIn n (starts s c cs)
  start_stays s c cs h =
      let k = started_in s (take (best_of c cs).commit (front s) ++ (best_of c cs).log) (least_commit c.commit cs) (greatest_commit c.commit cs) h in
      record { member = k; letters = all_told (started_view s _ _ _) _ k }

  choice_stays : (s : VrState) (cs : List Collected) → IsOfGroup n s → AllByRecursion (λ c. c.from < n) cs → StaysIn n (chooses_from s cs)
  choice_stays s [] h all = rests s h
  choice_stays s (c ∷ cs) h (first, all) =
      both (reaches s (best_of c cs)) _ _ (λ _. start_stays s c cs h) (λ _. record { member = h; letters = (best_from c cs first all, tt) })

  chooses_stay : (s : VrState) → IsOfGroup n s → StaysIn n (chooses s)
  chooses_stay s h = both (may_choose s) _ _ (λ _. choice_stays s s.collected h h.collected) (λ _. rests s h)

  check_stays : (s : VrState) → IsOfGroup n s → StaysIn n (check s)
  check_stays s h = let v = votes_stay s h in then_both (votes s) chooses v (chooses_stay (votes s).state v.member)

  enters_stay : (s : VrState) (view : ℕ) → IsOfGroup n s → StaysIn n (enters s view)
  enters_stay s view h = then_both (enter s view) check (enter_stays s view h) (check_stays (entered_view s view) (entered_in s view h))

  suspect_stays : (s : VrState) (view : ℕ) → IsOfGroup n s → StaysIn n (suspect s view)
  suspect_stays s view h = both (is_later s view) _ _ (λ _. checked s (enters s view) h (enters_stay s view h)) (λ _. rests s h)

  vote_stays : (s : VrState) (from view : ℕ) → IsOfGroup n s → StaysIn n (start_view_change s from view)
  vote_stays s from view h =
      both (is_other s from) _ _
      (λ other. both (is_later s view) (vote_later s from view) _
      (λ _. checked s _ h (then_both (enter s view) (λ next. check (voted next from)) (enter_stays s view h) (check_stays (voted (entered_view s view) from) (voted_in (entered_view s view) from (entered_in s view h)))))
      (λ _. both (nat_eq view s.view) (vote_here s from) _
      (λ _. both (is_changing s) _ _ (λ _. checked s _ h (check_stays (voted s from) (voted_in s from h)))
      (λ _. both (leads s) _ _ (λ _. told s from (view_start s) h (other_below s from h other)) (λ _. rests s h)))
      (λ _. rests s h)))
      (λ _. rests s h)

  collect_stays : (s : VrState) (view : ℕ) (c : Collected) → c.from < n → IsOfGroup n s → StaysIn n (collect s view c)
  collect_stays s view c there h =
      both (is_later s view) (collect_later s view c) _
      (λ _. checked s _ h (then_both (enter s view) (λ next. check (collects next c)) (enter_stays s view h) (check_stays (collects (entered_view s view) c) (collected_in (entered_view s view) c (entered_in s view h) there))))
      (λ _. both (nat_eq view s.view && is_changing s) _ _ (λ _. checked s _ h (check_stays (collects s c) (collected_in s c h there))) (λ _. rests s h))

  collects_stay : (s : VrState) (from view normal commit : ℕ) (log : List Entry) → IsOfGroup n s → StaysIn n (do_view_change s from view normal commit log)
  collects_stay s from view normal commit log h =
      both (is_other s from) _ _
      (λ other. both (is_primary_of s s.me view) _ _ (λ _. collect_stays s view (record { from = from; normal = normal; commit = commit; log = log }) (other_below s from h other) h) (λ _. rests s h))
      (λ _. rests s h)

  adopted_in : (s : VrState) (view first commit : ℕ) (log : List Entry) → IsOfGroup n s → IsOfGroup n (adopted_log s view first commit log)
  adopted_in s view first commit log h = record { all = h.all; me = h.me; collected = h.collected }

  adopt_stays : (s : VrState) (view first commit : ℕ) (log : List Entry) → IsOfGroup n s → StaysIn n (adopt s view first commit log)
  adopt_stays s view first commit log h =
      let k = adopted_in s view first commit log h in
      both (nat_lt s.commit first) _ (adopts s view first commit log) (λ _. asked s view s.commit h)
      (λ _. record {
        member = k;
        letters = cond_both (nat_lt commit (length (adopted_log s view first commit log).log)) _ _ (AreToMembers n) (λ _. (primary_below (adopted_log s view first commit log) view k, tt)) (λ _. tt);
      })

  start_view_stays : (s : VrState) (from view first commit : ℕ) (log : List Entry) → IsOfGroup n s → StaysIn n (start_view s from view first commit log)
  start_view_stays s from view first commit log h =
      both (is_other s from) _ _
      (λ _. both (is_primary_of s from view && is_newer s view) _ _ (λ _. checked s _ h (adopt_stays s view first commit log h)) (λ _. rests s h)) (λ _. rests s h)

  fetch_stays : (s : VrState) (from view op : ℕ) → IsOfGroup n s → StaysIn n (fetch s from view op)
  fetch_stays s from view op h =
      both (is_other s from) _ _
      (λ other. both (is_change s view && nat_le op s.commit) _ _ (λ _. told s from _ h (other_below s from h other)) (λ _. rests s h)) (λ _. rests s h)

  supply_stays : (s : VrState) (from view first : ℕ) (log : List Entry) → IsOfGroup n s → StaysIn n (supply s from view first log)
  supply_stays s from view first log h =
      both (is_other s from) _ _
      (λ _. both (is_message_wanted s view first log) _ _ (λ _. checked s _ h (check_stays (supplied s first log) (record { all = h.all; me = h.me; collected = h.collected }))) (λ _. rests s h)) (λ _. rests s h)

  -- a transfer, and a recovery
  get_stays : (s : VrState) (from view op : ℕ) → IsOfGroup n s → StaysIn n (get_state s from view op)
  get_stays s from view op h =
      both (is_other s from) _ _ (λ other. both (is_answered s view op) _ _ (λ _. told s from _ h (other_below s from h other)) (λ _. rests s h)) (λ _. rests s h)

  new_stays : (s : VrState) (from view first commit : ℕ) (log : List Entry) → IsOfGroup n s → StaysIn n (new_state s from view first commit log)
  new_stays s from view first commit log h =
      both (is_other s from) _ _
      (λ _. both (is_longer s view first log) (completes s first commit log) _
      (λ _. both (follows s.log (lacking s first log)) _ _ (λ _. acknowledged (record s { log = s.log ++ lacking s first log }) commit (grown s (lacking s first log) h)) (λ _. rests s h))
      (λ _. both (is_adopted s view first) _ _ (λ _. checked s _ h (adopt_stays s view first commit log h)) (λ _. rests s h)))
      (λ _. rests s h)

  recovery_stays : (s : VrState) (from nonce promise : ℕ) → IsOfGroup n s → StaysIn n (recovery s from nonce promise)
  recovery_stays s from nonce promise h =
      both (is_other s from) _ _
      (λ other. both (is_normal s) _ _
      (λ _. both (nat_lt s.view promise) _ _ (λ _. checked s _ h (enters_stay s promise h)) (λ _. told s from _ h (other_below s from h other)))
      (λ _. rests s h))
      (λ _. rests s h)

  end_stays : (s : VrState) (view : ℕ) (o : Option Filled) → IsOfGroup n s → StaysIn n (ends_with s view o)
  end_stays s view None h = rests s h
  end_stays s view (Some told) h = adopt_stays (record s { responses = [] }) view 0 told.commit told.log (record { all = h.all; me = h.me; collected = h.collected })

  response_stays : (s : VrState) (from view nonce : ℕ) (filled : Option Filled) → IsOfGroup n s → StaysIn n (response s from view nonce filled)
  response_stays s from view nonce filled h =
      let r = responded s (record { from = from; view = view; filled = filled }) in
      both (is_other s from) _ _
      (λ _. both (is_recovering s && nat_eq nonce s.life) _ _
      (λ _. checked s (recovers r) h (end_stays r (greatest_view_told r.responses) (ending r) (record { all = h.all; me = h.me; collected = h.collected }))) (λ _. rests s h)) (λ _. rests s h)

  -- what is sent again
  prepares_go : (view commit op : ℕ) (entries : List Entry) (to : ℕ) → to < n → AreToMembers n (prepares_from view commit op entries to)
  prepares_go view commit op [] to there = tt
  prepares_go view commit op (entry ∷ entries) to there = (there, prepares_go view commit (op + 1) entries to there)

  repeats_go : (s : VrState) (to : ℕ) → to < n → AreToMembers n (repeats_to s to)
  repeats_go s to there =
      cond_both (nat_eq s.commit (length s.log)) _ _ (AreToMembers n) (λ _. (there, tt)) (λ _. prepares_go s.view s.commit (s.commit + 1) (repeated s) to there)

  log_goes : (s : VrState) → IsOfGroup n s → AreToMembers n (sent_log s)
  log_goes s h = cond_both (s.sent && not (is_primary s)) _ _ (AreToMembers n) (λ _. (primary_below s s.view h, tt)) (λ _. tt)

  fetch_goes : (s : VrState) (cs : List Collected) → AllByRecursion (λ c. c.from < n) cs → AreToMembers n (fetch_from s cs)
  fetch_goes s [] all = tt
  fetch_goes s (c ∷ cs) (first, all) = cond_both (reaches s (best_of c cs)) _ _ (AreToMembers n) (λ _. tt) (λ _. (best_from c cs first all, tt))

  fetches_go : (s : VrState) → IsOfGroup n s → AreToMembers n (fetches s)
  fetches_go s h = cond_both (may_choose s) _ _ (AreToMembers n) (λ _. fetch_goes s s.collected h.collected) (λ _. tt)

  tick_stays : (s : VrState) → IsOfGroup n s → StaysIn n (ticked s)
  tick_stays s h = by_status s.status
    where
      by_status : (status : Status) → StaysIn n (elim status [
        | Normal ↦ (if is_primary s then tick_primary s else quiet s)
        | ViewChange ↦ tick_changing s
        | Recovering ↦ tick_recovering s
        | Down ↦ quiet s
      ])
      by_status Normal =
          both (is_primary s) _ _
          (λ _. record { member = h; letters = all_flat_of (repeats_to s) (λ j. j < n) (λ l. l.to < n) (λ j there. repeats_go s j there) (others s) (others_below_size s h) })
          (λ _. rests s h)
      by_status ViewChange = record {
        member = h;
        letters = all_append _ (to_others s (message.StartViewChange s.view) ++ sent_log s) (fetches s) (all_append _ (to_others s (message.StartViewChange s.view)) (sent_log s) (all_told s _ h) (log_goes s h)) (fetches_go s h);
      }
      by_status Recovering = record { member = h; letters = all_told s _ h }
      by_status Down = rests s h

  message_stays : (s : VrState) (from : ℕ) (m : VrMessage) → IsOfGroup n s → StaysIn n (on_vr s from m)
  unfolding on_vr
  message_stays s from (message.Prepare view op commit entry) h = by_primary s from view (prepares s op commit entry) h (prepared s op commit entry h)
  message_stays s from (message.PrepareOk view op) h = counts s from view op h
  message_stays s from (message.Commit view commit) h = by_primary s from view (commits s commit) h (committed s commit h)
  message_stays s from (message.StartViewChange view) h = vote_stays s from view h
  message_stays s from (message.DoViewChange view normal commit log) h = collects_stay s from view normal commit log h
  message_stays s from (message.StartView view first commit log) h = start_view_stays s from view first commit log h
  message_stays s from (message.Recovery nonce promise) h = recovery_stays s from nonce promise h
  message_stays s from (message.RecoveryResponse view nonce filled) h = response_stays s from view nonce filled h
  message_stays s from (message.GetState view op) h = get_stays s from view op h
  message_stays s from (message.NewState view first commit log) h = new_stays s from view first commit log h
  message_stays s from (message.Fetch view op) h = fetch_stays s from view op h
  message_stays s from (message.Supply view first log) h = supply_stays s from view first log h

  -- a step of a member of the group
  pub step_stays : (s : VrState) (x : VrInput) → IsOfGroup n s → StaysIn n (vr_step s x)
  step_stays s (vr_input.From from what) h = message_stays s from what h
  step_stays s (vr_input.Suspect view) h = suspect_stays s view h
  step_stays s vr_input.Tick h = tick_stays s h

  -- a life begins
  pub restart_stays : (me controllers promise life : ℕ) → controllers ≡ n → me < n → StaysIn n (restarted me controllers promise life)
  restart_stays me controllers promise life all there =
      let h : IsOfGroup n (recovering_state me controllers promise life) = record { all = all; me = there; collected = tt } in
      record { member = h; letters = all_told (recovering_state me controllers promise life) _ h }
