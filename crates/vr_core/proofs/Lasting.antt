-- What is committed stays: by the case of each input.
use Rattle.std.proofs.Common.{◌≡◌, ◌≤◌, ℕ, ◌+◌, Bool, true, false, not, ◌&&◌, List, [], ◌∷◌, ◌++◌, length, take, refl, sym, ap, subst, ◌∙◌, arith, length-append}
use Rattle.std.specs.Prelude.{nat_eq, nat_lt, nat_le, Option, Some, None, max, if◌then◌else◌}
use Rattle.std.specs.List.{AllByRecursion, list_any}
use Rattle.std.proofs.lemmas.Bool.{ltb-true, ltb-false, leb-true, and_parts, eq-eqb}
use Rattle.std.proofs.lemmas.List.{length-take}
use Rattle.vr_log.specs.declared.entry.Entry.{Entry}
use Rattle.vr_log.specs.declared.message.Filled.{Filled}
use Rattle.vr_log.specs.declared.message.VrLetter.{VrLetter}
use Rattle.vr_log.specs.declared.message.VrMessage.{VrMessage}
use Rattle.vr_log.specs.declared.message.VrMessage.TheVariants as message
use Rattle.vr_log.specs.declared.state.Collected.{Collected}
use Rattle.vr_log.specs.declared.state.Response.{Response}
use Rattle.vr_log.specs.declared.state.Status.{Status}
use Rattle.vr_log.specs.declared.state.Status.TheVariants.{Normal, ViewChange, Recovering, Down}
use Rattle.vr_log.specs.declared.state.VrState.{VrState}
use Rattle.vr_log.specs.Log.{fits, follows, is_log}
use Rattle.vr_log.specs.Members.{is_normal, is_changing, is_recovering, is_primary, is_primary_of, is_other, is_here, is_later, is_newer, leads, most_failures}
use Rattle.vr_log.specs.Same.{same_entries}
use Rattle.vr_log.specs.Steps.{VrStep, quiet, sends, asks, then_step, is_sound, guarded, later_of}
use Rattle.vr_log.specs.Valid.{IsValidState}
use Rattle.vr_log.specs.Choosing.{has_collected, may_choose, best_of, reaches, fetch_letter, greatest_commit}
use Rattle.vr_log.proofs.Equal.{entries_equal}
use Rattle.vr_normal.specs.Cases.{asks_later, from_primary, prepares, commits, agreed, is_agreed, acked_by, counted, is_counted, prepare_ok}
use Rattle.vr_normal.specs.Proposing.{proposed}
use Rattle.vr_normal.specs.Ticks.{tick_primary, tick_changing, tick_recovering}
use Rattle.view_change.specs.Entering.{entered_view, enter, voted, collects, own_log, sends_log, votes, starts, chooses_from, chooses, check}
use Rattle.view_change.specs.Adopting.{adopted_log, adopts, adopt}
use Rattle.view_change.specs.Cases.{enters, suspect, vote_here, start_view_change, collect, do_view_change, start_view, is_change, fetch, is_message_wanted, supplied, supply}
use Rattle.vr_recovery.specs.Cases.{is_answered, get_state, is_longer, lacking, completes, is_adopted, new_state}
use Rattle.vr_recovery.specs.Recovering.{recovery, ending, ends_with, recovers, responded, response, greatest_view_told}
use Rattle.vr_core.specs.declared.input.VrInput.{VrInput}
use Rattle.vr_core.specs.declared.input.VrInput.TheVariants as vr_input
use Rattle.vr_core.specs.Lasting.{CollectsItsOwn, Lasts, promised}
use Rattle.vr_core.specs.Step.{on_vr, vr_step}
use Rattle.vr_core.proofs.Keeping.{either, Holds, Does, kept_on, unchanged, normal_collects, not_changing, own_greatest, all_push, ops_within, rests, after, chained, checked, grown, risen, acknowledged, acknowledged_same}

-- the normal case
here_normal : (s : VrState) (view : ℕ) → is_here s view ≡ true → is_normal s ≡ true
here_normal s view h = (and_parts (is_normal s) (nat_eq view s.view) h).0

later_does : (s : VrState) (view : ℕ) → Does s (asks_later s view)
later_does s view = either (Does s) (is_later s view) _ _ (λ _. rests s []) (λ _. rests s [])

primary_does : (s : VrState) (from view : ℕ) (step : VrStep) → (is_normal s ≡ true → Does s step) → Does s (from_primary s from view step)
primary_does s from view step go =
    either (Does s) (is_other s from) _ _
    (λ _. either (Does s) (is_primary_of s from view) _ _
    (λ _. either (Does s) (is_here s view) _ _ (λ here. go (here_normal s view here)) (λ _. later_does s view))
    (λ _. rests s []))
    (λ _. rests s [])

prepares_does : (s : VrState) (op commit : ℕ) (entry : Entry) → is_normal s ≡ true → Does s (prepares s op commit entry)
prepares_does s op commit entry normal =
    either (Does s) (nat_le op (length s.log)) _ _
    (λ _. acknowledged_same s commit normal)
    (λ _. either (Does s) (nat_eq op (length s.log + 1)) _ _
    (λ _. either (Does s) (fits s.log entry) _ _ (λ _. acknowledged s (entry ∷ []) commit normal) (λ _. rests s []))
    (λ _. rests s []))

commits_does : (s : VrState) (commit : ℕ) → is_normal s ≡ true → Does s (commits s commit)
commits_does s commit normal =
    either (Does s) (nat_le commit (length s.log)) _ _
    (λ low h. let l = leb-true commit (length s.log) low in let reach = h.reach in risen s (max s.commit commit) normal (omega arith) (omega (arith, l, reach)) [] h)
    (λ _. rests s [])

ok_does : (s : VrState) (from op : ℕ) → is_normal s ≡ true → Does s (quiet (counted (acked_by s from op)))
ok_does s from op normal h =
    let next = acked_by s from op in
    let w = ops_within s.commit (length s.log) (length s.log) (is_agreed next) (omega arith) h.reach in
    after s next (quiet (counted next)) (λ k. record { lasts = unchanged s next refl refl refl refl refl refl refl; holds = record { reach = k.reach; own = not_changing next normal } })
    (risen next (agreed next) normal w.0 w.1 []) h

counts_does : (s : VrState) (from view op : ℕ) → Does s (prepare_ok s from view op)
counts_does s from view op =
    either (Does s) (is_other s from) _ _
    (λ _. either (Does s) (is_counted s view op) _ _
    (λ ok. ok_does s from op (here_normal s view (and_parts (is_here s view) (is_primary s) (and_parts (is_here s view && is_primary s) (nat_le op (length s.log)) ok).0).0))
    (λ _. rests s []))
    (λ _. rests s [])

-- a log that the guard let through
module _ (s s' : VrState) (sound : is_sound s s' ≡ true) where
  sound_commit : s'.commit ≤ length s'.log
  sound_commit = leb-true s'.commit (length s'.log) (and_parts (is_log s'.log) (nat_le s'.commit (length s'.log)) (and_parts (is_log s'.log && nat_le s'.commit (length s'.log)) _ sound).0).1

  sound_front : take s.commit s'.log ≡ take s.commit s.log
  sound_front = sym (entries_equal (take s.commit s.log) (take s.commit s'.log) (and_parts (is_log s'.log && nat_le s'.commit (length s'.log)) (same_entries (take s.commit s.log) (take s.commit s'.log)) sound).1)

  sound_reach : s.commit ≤ length s.log → s.commit ≤ length s'.log
  sound_reach reach = let n = ap (λ (l : List Entry). length l) sound_front in omega (arith, reach, n, length-take s.commit s.log, length-take s.commit s'.log)

-- a view starts
started_low : (b : Bool) (c n most : ℕ) → c ≤ n → c ≤ most → c ≤ (if b then n else most)
started_low true c n most a b = a
started_low false c n most a b = b

starts_does : (s : VrState) (c : Collected) (cs : List Collected) → s.collected ≡ c ∷ cs → may_choose s ≡ true → is_sound s (starts s c cs).state ≡ true → Does s (starts s c cs)
starts_does s c cs is may sound h =
    let new = (starts s c cs).state in
    let a = and_parts (is_changing s && is_primary s && has_collected s s.me) (nat_lt (most_failures s) (length s.collected)) may in
    let b = and_parts (is_changing s && is_primary s) (has_collected s s.me) a.0 in
    let changing = (and_parts (is_changing s) (is_primary s) b.0).0 in
    let own = subst (λ (l : List Collected). AllByRecursion (λ d. d.from ≡ s.me → d.commit ≡ s.commit) l) is (h.own changing) in
    let has = subst (λ (l : List Collected). list_any (λ d. nat_eq d.from s.me) l ≡ true) is b.1 in
    record {
      lasts = record {
        rises = started_low (nat_eq (most_failures s) 0) s.commit (length new.log) (greatest_commit c.commit cs) (sound_reach s new sound h.reach) (own_greatest s.me s.commit c cs own has);
        stays = sound_front s new sound;
        me = refl;
        controllers = refl;
        life = refl;
        promise_is = refl;
        awake = λ h e. cc;
      };
      holds = record { reach = sound_commit s new sound; own = normal_collects new refl };
    }

chosen_does : (s : VrState) (all : List Collected) → s.collected ≡ all → may_choose s ≡ true → is_sound s (chooses_from s all).state ≡ true → Does s (chooses_from s all)
chosen_does s [] is may sound = rests s []
chosen_does s (c ∷ cs) is may sound =
    either (λ (t : VrStep). is_sound s t.state ≡ true → Does s t) (reaches s (best_of c cs)) (starts s c cs) (sends s (fetch_letter s (best_of c cs) ∷ []))
    (λ _ ok. starts_does s c cs is may ok) (λ _ ok. rests s []) sound

chooses_does : (s : VrState) → is_sound s (chooses s).state ≡ true → Does s (chooses s)
chooses_does s =
    either (λ (t : VrStep). is_sound s t.state ≡ true → Does s t) (may_choose s) (chooses_from s s.collected) (quiet s) (λ may. chosen_does s s.collected refl may) (λ _ _. rests s [])

-- Check
collects_holds : (s : VrState) (c : Collected) → (c.from ≡ s.me → c.commit ≡ s.commit) → Holds s → Holds (record s { collected = s.collected ++ c ∷ [] })
collects_holds s c mine h = record { reach = h.reach; own = λ changing. all_push _ s.collected c (h.own changing) mine }

collects_kept : (s : VrState) (c : Collected) → (c.from ≡ s.me → c.commit ≡ s.commit) → Does s (quiet (collects s c))
collects_kept s c mine =
    either (λ (t : VrState). Does s (quiet t)) (has_collected s c.from) s (record s { collected = s.collected ++ c ∷ [] })
    (λ _. rests s [])
    (λ _ h. record { lasts = unchanged s (record s { collected = s.collected ++ c ∷ [] }) refl refl refl refl refl refl refl; holds = collects_holds s c mine h })

sent_does : (s : VrState) (letters : List VrLetter) → Does s (sends (record s { sent = true }) letters)
sent_does s letters h = record { lasts = unchanged s (record s { sent = true }) refl refl refl refl refl refl refl; holds = record { reach = h.reach; own = h.own } }

sends_log_does : (s : VrState) → Does s (sends_log s)
sends_log_does s =
    either (Does s) (is_primary s) _ _
    (λ _ h. let k = collects_kept s (own_log s) (λ _. refl) h in kept_on s (collects s (own_log s)) (record (collects s (own_log s)) { sent = true }) None None k.lasts (sent_does (collects s (own_log s)) [] k.holds))
    (λ _. sent_does s [])

votes_does : (s : VrState) → Does s (votes s)
votes_does s = either (Does s) (nat_le (most_failures s) (length s.votes) && not s.sent) _ _ (λ _. sends_log_does s) (λ _. rests s [])

votes_same : (s : VrState) → ((votes s).state.log ≡ s.log) × ((votes s).state.commit ≡ s.commit)
votes_same s =
    either (λ (t : VrStep). (t.state.log ≡ s.log) × (t.state.commit ≡ s.commit)) (nat_le (most_failures s) (length s.votes) && not s.sent) (sends_log s) (quiet s)
    (λ _. either (λ (t : VrStep). (t.state.log ≡ s.log) × (t.state.commit ≡ s.commit)) (is_primary s) _ _
    (λ _. collects_same s (own_log s))
    (λ _. (refl, refl)))
    (λ _. (refl, refl))
  where
    collects_same : (s : VrState) (c : Collected) → ((collects s c).log ≡ s.log) × ((collects s c).commit ≡ s.commit)
    collects_same s c = either (λ (t : VrState). (t.log ≡ s.log) × (t.commit ≡ s.commit)) (has_collected s c.from) _ _ (λ _. (refl, refl)) (λ _. (refl, refl))

-- the guard asks of a state its log and its commit number
sound_at : (s t x : VrState) → t.log ≡ s.log → t.commit ≡ s.commit → is_sound s x ≡ true → is_sound t x ≡ true
sound_at s t x log commit sound = rw (log, commit) sound

check_does : (s t : VrState) → t.log ≡ s.log → t.commit ≡ s.commit → is_sound s (check t).state ≡ true → Does t (check t)
check_does s t log commit sound =
    let v = votes_same t in
    chained t (votes t) chooses (votes_does t) (chooses_does (votes t).state (sound_at s (votes t).state (check t).state (v.0 ∙ log) (v.1 ∙ commit) sound))

-- a view is entered
enter_does : (s : VrState) (view : ℕ) → Does s (enter s view)
enter_does s view h =
    record {
      lasts = record { rises = omega arith; stays = refl; me = refl; controllers = refl; life = refl; promise_is = refl; awake = λ h e. cc };
      holds = record { reach = h.reach; own = λ _. tt };
    }

enters_does : (s : VrState) (view : ℕ) → is_sound s (enters s view).state ≡ true → Does s (enters s view)
enters_does s view sound = chained s (enter s view) check (enter_does s view) (check_does s (entered_view s view) refl refl sound)

suspect_does : (s : VrState) (view : ℕ) → Does s (suspect s view)
suspect_does s view = either (Does s) (is_later s view) _ _ (λ _. checked s (enters s view) (enters_does s view)) (λ _. rests s [])

voted_does : (s t : VrState) (from : ℕ) → t.log ≡ s.log → t.commit ≡ s.commit → is_sound s (check (voted t from)).state ≡ true → Does t (check (voted t from))
voted_does s t from log commit sound =
    after t (voted t from) (check (voted t from)) (λ h. record { lasts = unchanged t (voted t from) refl refl refl refl refl refl refl; holds = record { reach = h.reach; own = h.own } })
    (check_does s (voted t from) log commit sound)

change_does : (s : VrState) (from view : ℕ) → Does s (start_view_change s from view)
change_does s from view =
    either (Does s) (is_other s from) _ _
    (λ _. either (Does s) (is_later s view) _ _
    (λ _. checked s (then_step (enter s view) (λ next. check (voted next from)))
    (λ sound. chained s (enter s view) (λ next. check (voted next from)) (enter_does s view) (voted_does s (entered_view s view) from refl refl sound)))
    (λ _. either (Does s) (nat_eq view s.view) (vote_here s from) (quiet s)
    (λ _. either (Does s) (is_changing s) _ _
    (λ _. checked s (check (voted s from)) (voted_does s s from refl refl))
    (λ _. either (Does s) (leads s) _ _ (λ _. rests s []) (λ _. rests s [])))
    (λ _. rests s [])))
    (λ _. rests s [])

not_me : (b : Bool) (n m : ℕ) → (b && not (nat_eq n m)) ≡ true → n ≡ m → ⊥
not_me b n m k e = let same : nat_eq n m ≡ true = eq-eqb n m e in let off = (and_parts b (not (nat_eq n m)) k).1 in let z : not (nat_eq n m) ≡ false = ap not same in cc

collects_does : (s t : VrState) (c : Collected) → is_other t c.from ≡ true → t.log ≡ s.log → t.commit ≡ s.commit → is_sound s (check (collects t c)).state ≡ true → Does t (check (collects t c))
collects_does s t c other log commit sound =
    let same = either (λ (u : VrState). (u.log ≡ t.log) × (u.commit ≡ t.commit)) (has_collected t c.from) t (record t { collected = t.collected ++ c ∷ [] }) (λ _. (refl, refl)) (λ _. (refl, refl)) in
    after t (collects t c) (check (collects t c)) (collects_kept t c (λ e. absurd (not_me (nat_lt c.from t.controllers) c.from t.me other e)))
    (check_does s (collects t c) (same.0 ∙ log) (same.1 ∙ commit) sound)

collect_does : (s : VrState) (view : ℕ) (c : Collected) → is_other s c.from ≡ true → Does s (collect s view c)
collect_does s view c other =
    either (Does s) (is_later s view) _ _
    (λ _. checked s (then_step (enter s view) (λ next. check (collects next c)))
    (λ sound. chained s (enter s view) (λ next. check (collects next c)) (enter_does s view) (collects_does s (entered_view s view) c other refl refl sound)))
    (λ _. either (Does s) (nat_eq view s.view && is_changing s) _ _
    (λ _. checked s (check (collects s c)) (collects_does s s c other refl refl))
    (λ _. rests s []))

log_does : (s : VrState) (from view normal commit : ℕ) (log : List Entry) → Does s (do_view_change s from view normal commit log)
log_does s from view normal commit log =
    either (Does s) (is_other s from) _ _
    (λ other. either (Does s) (is_primary_of s s.me view) _ _
    (λ _. collect_does s view (record { from = from; normal = normal; commit = commit; log = log }) other)
    (λ _. rests s []))
    (λ _. rests s [])

-- a log of a view that has started
adopts_promise : (old view : ℕ) (b : Bool) → nat_lt old view ≡ b → max old view ≡ promised old (if b then Some view else None)
adopts_promise old view true is = let l = ltb-true old view is in omega arith
adopts_promise old view false is = let l = ltb-false old view is in omega arith

adopts_does : (s : VrState) (view first commit : ℕ) (log : List Entry) → is_sound s (adopted_log s view first commit log) ≡ true → Does s (adopts s view first commit log)
adopts_does s view first commit log sound h =
    let new = adopted_log s view first commit log in
    record {
      lasts = record { rises = omega arith; stays = sound_front s new sound; me = refl; controllers = refl; life = refl; promise_is = adopts_promise s.promise view (nat_lt s.promise view) refl; awake = λ h e. cc };
      holds = record { reach = sound_commit s new sound; own = normal_collects new refl };
    }

adopt_does : (s : VrState) (view first commit : ℕ) (log : List Entry) → is_sound s (adopt s view first commit log).state ≡ true → Does s (adopt s view first commit log)
adopt_does s view first commit log =
    either (λ (t : VrStep). is_sound s t.state ≡ true → Does s t) (nat_lt s.commit first) (asks s view s.commit) (adopts s view first commit log)
    (λ _ _. rests s []) (λ _ sound. adopts_does s view first commit log sound)

view_does : (s : VrState) (from view first commit : ℕ) (log : List Entry) → Does s (start_view s from view first commit log)
view_does s from view first commit log =
    either (Does s) (is_other s from) _ _
    (λ _. either (Does s) (is_primary_of s from view && is_newer s view) _ _
    (λ _. checked s (adopt s view first commit log) (adopt_does s view first commit log))
    (λ _. rests s []))
    (λ _. rests s [])

fetch_does : (s : VrState) (from view op : ℕ) → Does s (fetch s from view op)
fetch_does s from view op =
    either (Does s) (is_other s from) _ _
    (λ _. either (Does s) (is_change s view && nat_le op s.commit) _ _ (λ _. rests s []) (λ _. rests s []))
    (λ _. rests s [])

supply_does : (s : VrState) (from view first : ℕ) (log : List Entry) → Does s (supply s from view first log)
supply_does s from view first log =
    either (Does s) (is_other s from) _ _
    (λ _. either (Does s) (is_message_wanted s view first log) _ _
    (λ _. checked s (check (supplied s first log)) (λ sound.
    after s (supplied s first log) (check (supplied s first log)) (λ h. record { lasts = unchanged s (supplied s first log) refl refl refl refl refl refl refl; holds = record { reach = h.reach; own = h.own } })
    (check_does s (supplied s first log) refl refl sound)))
    (λ _. rests s []))
    (λ _. rests s [])

-- state transfer and recovery
get_does : (s : VrState) (from view op : ℕ) → Does s (get_state s from view op)
get_does s from view op =
    either (Does s) (is_other s from) _ _
    (λ _. either (Does s) (is_answered s view op) _ _ (λ _. rests s []) (λ _. rests s []))
    (λ _. rests s [])

longer_normal : (s : VrState) (view first : ℕ) (log : List Entry) → is_longer s view first log ≡ true → is_normal s ≡ true
longer_normal s view first log ok =
    let a = and_parts (is_here s view && not (is_primary s) && nat_le first (length s.log)) (nat_lt (length s.log) (first + length log)) ok in
    let b = and_parts (is_here s view && not (is_primary s)) (nat_le first (length s.log)) a.0 in
    here_normal s view (and_parts (is_here s view) (not (is_primary s)) b.0).0

completes_does : (s : VrState) (first commit : ℕ) (log : List Entry) → is_normal s ≡ true → Does s (completes s first commit log)
completes_does s first commit log normal =
    either (Does s) (follows s.log (lacking s first log)) _ _ (λ _. acknowledged s (lacking s first log) commit normal) (λ _. rests s [])

new_does : (s : VrState) (from view first commit : ℕ) (log : List Entry) → Does s (new_state s from view first commit log)
new_does s from view first commit log =
    either (Does s) (is_other s from) _ _
    (λ _. either (Does s) (is_longer s view first log) (completes s first commit log) (if is_adopted s view first then guarded s (adopt s view first commit log) else quiet s)
    (λ ok. completes_does s first commit log (longer_normal s view first log ok))
    (λ _. either (Does s) (is_adopted s view first) _ _ (λ _. checked s (adopt s view first commit log) (adopt_does s view first commit log)) (λ _. rests s [])))
    (λ _. rests s [])

recovery_does : (s : VrState) (from nonce promise : ℕ) → Does s (recovery s from nonce promise)
recovery_does s from nonce promise =
    either (Does s) (is_other s from) _ _
    (λ _. either (Does s) (is_normal s) _ _
    (λ _. either (Does s) (nat_lt s.view promise) _ _ (λ _. checked s (enters s promise) (enters_does s promise)) (λ _. rests s []))
    (λ _. rests s []))
    (λ _. rests s [])

cleared_does : (s : VrState) (responses : List Response) → Does s (quiet (record s { responses = responses }))
cleared_does s responses h = record { lasts = unchanged s (record s { responses = responses }) refl refl refl refl refl refl refl; holds = record { reach = h.reach; own = h.own } }

ends_does : (s : VrState) (view : ℕ) (o : Option Filled) → is_sound s (ends_with s view o).state ≡ true → Does s (ends_with s view o)
ends_does s view None sound = rests s []
ends_does s view (Some told) sound =
    let now = record s { responses = [] } in
    after s now (adopt now view 0 told.commit told.log) (cleared_does s []) (adopt_does now view 0 told.commit told.log sound)

response_does : (s : VrState) (from view nonce : ℕ) (f : Option Filled) → Does s (response s from view nonce f)
response_does s from view nonce f =
    let r : Response = record { from = from; view = view; filled = f } in
    let now = responded s r in
    either (Does s) (is_other s from) _ _
    (λ _. either (Does s) (is_recovering s && nat_eq nonce s.life) _ _
    (λ _. checked s (recovers now) (λ sound. after s now (recovers now) (cleared_does s now.responses) (ends_does now (greatest_view_told now.responses) (ending now) sound)))
    (λ _. rests s []))
    (λ _. rests s [])

ticked_by : (s : VrState) (status : Status) → Does s (elim status [ Normal ↦ (if is_primary s then tick_primary s else quiet s) | ViewChange ↦ tick_changing s | Recovering ↦ tick_recovering s | Down ↦ quiet s ])
ticked_by s Normal = either (Does s) (is_primary s) _ _ (λ _. rests s []) (λ _. rests s [])
ticked_by s ViewChange = rests s []
ticked_by s Recovering = rests s []
ticked_by s Down = rests s []

on_does : (s : VrState) (from : ℕ) (m : VrMessage) → Does s (on_vr s from m)
unfolding on_vr
on_does s from (message.Prepare view op commit entry) = primary_does s from view (prepares s op commit entry) (prepares_does s op commit entry)
on_does s from (message.PrepareOk view op) = counts_does s from view op
on_does s from (message.Commit view commit) = primary_does s from view (commits s commit) (commits_does s commit)
on_does s from (message.StartViewChange view) = change_does s from view
on_does s from (message.DoViewChange view normal commit log) = log_does s from view normal commit log
on_does s from (message.StartView view first commit log) = view_does s from view first commit log
on_does s from (message.Recovery nonce promise) = recovery_does s from nonce promise
on_does s from (message.RecoveryResponse view nonce f) = response_does s from view nonce f
on_does s from (message.GetState view op) = get_does s from view op
on_does s from (message.NewState view first commit log) = new_does s from view first commit log
on_does s from (message.Fetch view op) = fetch_does s from view op
on_does s from (message.Supply view first log) = supply_does s from view first log

vr_does : (s : VrState) (x : VrInput) → Does s (vr_step s x)
vr_does s (vr_input.From from m) = on_does s from m
vr_does s (vr_input.Suspect view) = suspect_does s view
vr_does s vr_input.Tick = ticked_by s s.status

proposed_does : (s : VrState) (entry : Entry) → is_normal s ≡ true → Does s (proposed s entry)
proposed_does s entry normal h =
    let reach = h.reach in
    let long = length-append s.log (entry ∷ []) in
    let k = either (λ (k : ℕ). (s.commit ≤ k) × (k ≤ length (s.log ++ entry ∷ []))) (nat_eq (most_failures s) 0) (length s.log + 1) s.commit (λ _. (omega (arith, reach), omega (arith, long))) (λ _. (omega arith, omega (arith, reach, long))) in
    grown s (entry ∷ []) (if nat_eq (most_failures s) 0 then length s.log + 1 else s.commit) normal k.0 k.1 [] h

-- what stays over a step of a valid member, and over a proposal
pub record Stays (s : VrState) (step : VrStep) : Type 0 where
  pub lasts : Lasts s step.promise step.state
  pub own : CollectsItsOwn step.state

pub step_stays : (s : VrState) (x : VrInput) → IsValidState s → CollectsItsOwn s → Stays s (vr_step s x)
step_stays s x valid own = let k = vr_does s x (record { reach = valid.commit; own = own }) in record { lasts = k.lasts; own = k.holds.own }

pub proposal_stays : (s : VrState) (entry : Entry) → IsValidState s → CollectsItsOwn s → is_normal s ≡ true → Stays s (proposed s entry)
proposal_stays s entry valid own normal = let k = proposed_does s entry normal (record { reach = valid.commit; own = own }) in record { lasts = k.lasts; own = k.holds.own }

-- the promises of three steps
pub later_of_three : (a b c : Option ℕ) → later_of (later_of a b) c ≡ later_of a (later_of b c)
later_of_three a b None = refl
later_of_three a b (Some view) = refl

pub tick_same : (s : VrState) → (vr_step s vr_input.Tick).state ≡ s
tick_same s = by_status s.status
  where
    by_status : (status : Status) → (elim status as (λ _. VrStep) [ Normal ↦ (if is_primary s then tick_primary s else quiet s) | ViewChange ↦ tick_changing s | Recovering ↦ tick_recovering s | Down ↦ quiet s ]).state ≡ s
    by_status Normal = either (λ (t : VrStep). t.state ≡ s) (is_primary s) _ _ (λ _. refl) (λ _. refl)
    by_status ViewChange = refl
    by_status Recovering = refl
    by_status Down = refl
