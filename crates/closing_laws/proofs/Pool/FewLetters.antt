-- A step of a member says few things: at most two words to each other member, and two more.
use Rattle.std.proofs.Common.{◌≡◌, ◌≤◌, ℕ, zero, suc, ◌+◌, ◌*◌, Bool, true, false, not, ◌&&◌, List, [], ◌∷◌, ◌++◌, length, drop, take, refl, arith}
use Rattle.std.specs.Prelude.{nat_eq, nat_le, nat_lt, max, if◌then◌else◌, Option, Some, None}
use Rattle.std.proofs.lemmas.List.{length-append, length-map}
use Rattle.vr_log.specs.declared.entry.Entry.{Entry}
use Rattle.vr_log.specs.declared.message.VrMessage.{VrMessage}
use Rattle.vr_log.specs.declared.message.VrMessage.TheVariants as message
use Rattle.vr_log.specs.declared.state.Collected.{Collected}
use Rattle.vr_log.specs.declared.message.Filled.{Filled}
use Rattle.vr_log.specs.declared.state.VrState.{VrState}
use Rattle.vr_log.specs.Choosing.{best_of, fetch_letter, has_collected, may_choose, reaches}
use Rattle.vr_log.specs.Log.{fits, follows}
use Rattle.vr_log.specs.Members.{is_changing, is_here, is_later, is_newer, is_normal, is_other, is_primary, is_primary_of, is_recovering, leads, most_failures, others, others_below, primary_of}
use Rattle.vr_log.specs.Steps.{VrStep, acknowledges, appended, asks, guarded, is_sound, letter, quiet, sends, tells, then_step, to_others}
use Rattle.vr_normal.specs.Cases.{acked_by, asks_later, commits, counted, from_primary, is_counted, prepare_ok, prepares}
use Rattle.view_change.specs.Adopting.{adopt, adopted_log, adopts}
use Rattle.view_change.specs.Cases.{collect, collect_later, enters, fetch, is_change, is_message_wanted, start_view, supplied, vote_here, vote_later}
use Rattle.view_change.specs.Entering.{check, chooses, chooses_from, collects, enter, entered_view, own_log, sends_log, starts, view_start, voted, votes}
use Rattle.vr_recovery.specs.Cases.{completes, get_state, is_adopted, is_answered, is_longer, lacking, new_state}
use Rattle.vr_recovery.specs.Recovering.{ending, ends_with, greatest_view_told, recovers, responded, responds, response}
use Rattle.vr_core.specs.declared.input.VrInput.TheVariants as vr_input
use Rattle.vr_core.specs.Step.{on_vr, vr_step}

-- of a group of this size
abbrev pub IsFew : ℕ → VrStep → Type 0
IsFew n step = length step.letters ≤ 2 * n + 2

either : (n : ℕ) (b : Bool) (x y : VrStep) → IsFew n x → IsFew n y → IsFew n (if b then x else y)
either n true x y few_x few_y = few_x
either n false x y few_x few_y = few_y

others_few : (me k : ℕ) → length (others_below me k) ≤ k
others_few me zero = omega arith
others_few me (suc j) = by_test (nat_eq j me) (others_few me j)
  where
    by_test : (b : Bool) → length (others_below me j) ≤ j → length (if b then others_below me j else others_below me j ++ j ∷ []) ≤ suc j
    by_test true less = omega (arith, less)
    by_test false less = let long = length-append (others_below me j) (j ∷ []) in omega (arith, less, long)

pub told_few : (s : VrState) (m : VrMessage) → length (to_others s m) ≤ s.controllers
told_few s m = let same = length-map (others s) (λ (k : ℕ). letter m k) in let few = others_few s.me s.controllers in omega (arith, same, few)

-- Check: a log is told, and a view is started
votes_say : (s : VrState) → (length (votes s).letters ≤ 1) × ((votes s).state.controllers ≡ s.controllers)
votes_say s = by_test (nat_le (most_failures s) (length s.votes) && not s.sent)
  where
    by_log : (b : Bool) → (if b then s else record s { collected = s.collected ++ own_log s ∷ [] }).controllers ≡ s.controllers
    by_log true = refl
    by_log false = refl

    by_primary : (b : Bool) (other : VrStep) → length other.letters ≡ 1 → other.state.controllers ≡ s.controllers →
        (length (if b then quiet (record (collects s (own_log s)) { sent = true }) else other).letters ≤ 1) × ((if b then quiet (record (collects s (own_log s)) { sent = true }) else other).state.controllers ≡ s.controllers)
    by_primary true other one same = (omega arith, by_log (has_collected s (own_log s).from))
    by_primary false other one same = (omega (arith, one), same)

    by_test : (b : Bool) → (length (if b then sends_log s else quiet s).letters ≤ 1) × ((if b then sends_log s else quiet s).state.controllers ≡ s.controllers)
    by_test true = by_primary (is_primary s) _ refl refl
    by_test false = (omega arith, refl)

starts_few : (s : VrState) (c : Collected) (collected : List Collected) → length (starts s c collected).letters ≤ s.controllers + 1
starts_few s c collected = let few = told_few (starts s c collected).state (view_start (starts s c collected).state) in omega (arith, few)

chooses_few : (s : VrState) → length (chooses s).letters ≤ s.controllers + 1
chooses_few s = by_choice (may_choose s) (by_collected s.collected)
  where
    by_reach : (b : Bool) (x y : VrStep) → length x.letters ≤ s.controllers + 1 → length y.letters ≡ 1 → length (if b then x else y).letters ≤ s.controllers + 1
    by_reach true x y few one = few
    by_reach false x y few one = omega (arith, one)

    by_collected : (cs : List Collected) → length (chooses_from s cs).letters ≤ s.controllers + 1
    by_collected [] = omega arith
    by_collected (c ∷ cs) = by_reach (reaches s (best_of c cs)) (starts s c cs) (sends s (fetch_letter s (best_of c cs) ∷ [])) (starts_few s c cs) refl

    by_choice : (b : Bool) → length (chooses_from s s.collected).letters ≤ s.controllers + 1 → length (if b then chooses_from s s.collected else quiet s).letters ≤ s.controllers + 1
    by_choice true few = few
    by_choice false few = omega arith

check_few : (s : VrState) → length (check s).letters ≤ s.controllers + 2
check_few s =
    let first = votes_say s in
    let one = first.0 in
    let same = first.1 in
    let more = chooses_few (votes s).state in
    let all = length-append (votes s).letters (chooses (votes s).state).letters in
    omega (arith, one, same, more, all)

-- a view is entered, and more is done
entering_few : (s : VrState) (view : ℕ) (next : VrState → VrStep) → length (next (entered_view s view)).letters ≤ s.controllers + 2 → IsFew s.controllers (then_step (enter s view) next)
entering_few s view next more =
    let first = told_few s (message.StartViewChange view) in
    let others_same = length-map (others s) (λ (k : ℕ). letter (message.StartViewChange view) k) in
    let all = length-append (to_others s (message.StartViewChange view)) (next (entered_view s view)).letters in
    omega (arith, more, first, all)

guarded_few : (n : ℕ) (s : VrState) (step : VrStep) → IsFew n step → IsFew n (guarded s step)
guarded_few n s step few = either n (is_sound s step.state) step (quiet s) few (omega arith)

-- where it says one thing, or nothing
abbrev SaysOne : VrStep → Type 0
SaysOne step = length step.letters ≤ 1

one_of : (b : Bool) (x y : VrStep) → SaysOne x → SaysOne y → SaysOne (if b then x else y)
one_of true x y one_x one_y = one_x
one_of false x y one_x one_y = one_y

few_of_one : (n : ℕ) (step : VrStep) → SaysOne step → IsFew n step
few_of_one n step one = omega (arith, one)

adopt_one : (s : VrState) (view first commit : ℕ) (log : List Entry) → SaysOne (adopt s view first commit log)
adopt_one s view first commit log = one_of (nat_lt s.commit first) (asks s view s.commit) (adopts s view first commit log) (omega arith) (by_test (nat_lt commit (length (adopted_log s view first commit log).log)))
  where
    by_test : (b : Bool) → length (if b then letter (message.PrepareOk view (length (adopted_log s view first commit log).log)) (primary_of (adopted_log s view first commit log) view) ∷ [] else []) ≤ 1
    by_test true = omega arith
    by_test false = omega arith

guarded_one : (s : VrState) (step : VrStep) → SaysOne step → SaysOne (guarded s step)
guarded_one s step one = one_of (is_sound s step.state) step (quiet s) one (omega arith)

from_primary_one : (s : VrState) (from view : ℕ) (here : VrStep) → SaysOne here → SaysOne (from_primary s from view here)
from_primary_one s from view here one =
    one_of (is_other s from) (if is_primary_of s from view then if is_here s view then here else asks_later s view else quiet s) (quiet s)
    (one_of (is_primary_of s from view) (if is_here s view then here else asks_later s view) (quiet s) (one_of (is_here s view) here (asks_later s view) one (one_of (is_later s view) (asks s view s.commit) (quiet s) (omega arith) (omega arith))) (omega arith)) (omega arith)

prepares_one : (s : VrState) (op commit : ℕ) (entry : Entry) → SaysOne (prepares s op commit entry)
prepares_one s op commit entry =
    one_of (nat_le op (length s.log)) (acknowledges s commit)
    (if nat_eq op (length s.log + 1) then if fits s.log entry then acknowledges (appended s entry) commit else quiet s else asks s s.view (length s.log)) (omega arith)
    (one_of (nat_eq op (length s.log + 1)) (if fits s.log entry then acknowledges (appended s entry) commit else quiet s) (asks s s.view (length s.log)) (one_of (fits s.log entry) (acknowledges (appended s entry) commit) (quiet s) (omega arith) (omega arith)) (omega arith))

recovers_one : (s : VrState) → SaysOne (recovers s)
recovers_one s = by_log (ending s)
  where
    by_log : (o : Option Filled) → SaysOne (ends_with s (greatest_view_told s.responses) o)
    by_log None = omega arith
    by_log (Some told) = adopt_one (record s { responses = [] }) (greatest_view_told s.responses) 0 told.commit told.log

-- a message
from_few : (s : VrState) (from : ℕ) (m : VrMessage) → IsFew s.controllers (on_vr s from m)
unfolding on_vr
from_few s from (message.Prepare view op commit entry) = few_of_one s.controllers (from_primary s from view (prepares s op commit entry)) (from_primary_one s from view (prepares s op commit entry) (prepares_one s op commit entry))
from_few s from (message.PrepareOk view op) =
    few_of_one s.controllers (prepare_ok s from view op)
    (one_of (is_other s from) (if is_counted s view op then quiet (counted (acked_by s from op)) else quiet s) (quiet s) (one_of (is_counted s view op) (quiet (counted (acked_by s from op))) (quiet s) (omega arith) (omega arith)) (omega arith))
from_few s from (message.Commit view commit) =
    few_of_one s.controllers (from_primary s from view (commits s commit)) (from_primary_one s from view (commits s commit) (one_of (nat_le commit (length s.log)) (quiet (record s { commit = max s.commit commit })) (asks s s.view (length s.log)) (omega arith) (omega arith)))
from_few s from (message.StartViewChange view) =
    either s.controllers (is_other s from) (if is_later s view then vote_later s from view else if nat_eq view s.view then vote_here s from else quiet s) (quiet s)
    (either s.controllers (is_later s view) (vote_later s from view) (if nat_eq view s.view then vote_here s from else quiet s)
    (guarded_few s.controllers s (then_step (enter s view) (λ next. check (voted next from))) (entering_few s view (λ next. check (voted next from)) (check_few (voted (entered_view s view) from))))
    (either s.controllers (nat_eq view s.view) (vote_here s from) (quiet s)
    (either s.controllers (is_changing s) (guarded s (check (voted s from))) (if leads s then tells s from (view_start s) else quiet s)
    (guarded_few s.controllers s (check (voted s from)) (let few = check_few (voted s from) in omega (arith, few)))
    (either s.controllers (leads s) (tells s from (view_start s)) (quiet s) (omega arith) (omega arith)))
    (omega arith)))
    (omega arith)
from_few s from (message.DoViewChange view normal commit log) =
    either s.controllers (is_other s from) (if is_primary_of s s.me view then collect s view c else quiet s) (quiet s)
    (either s.controllers (is_primary_of s s.me view) (collect s view c) (quiet s)
    (either s.controllers (is_later s view) (collect_later s view c) (if nat_eq view s.view && is_changing s then guarded s (check (collects s c)) else quiet s)
    (guarded_few s.controllers s (then_step (enter s view) (λ next. check (collects next c))) (entering_few s view (λ next. check (collects next c)) (collects_few (entered_view s view) s.controllers refl)))
    (either s.controllers (nat_eq view s.view && is_changing s) (guarded s (check (collects s c))) (quiet s)
    (guarded_few s.controllers s (check (collects s c)) (let few = collects_few s s.controllers refl in omega (arith, few))) (omega arith)))
    (omega arith))
    (omega arith)
  where
    c : Collected
    c = record { from = from; normal = normal; commit = commit; log = log }

    collects_few : (t : VrState) (n : ℕ) → t.controllers ≡ n → length (check (collects t c)).letters ≤ n + 2
    collects_few t n size = by_test (has_collected t c.from)
      where
        by_test : (b : Bool) → length (check (if b then t else record t { collected = t.collected ++ c ∷ [] })).letters ≤ n + 2
        by_test true = let few = check_few t in omega (arith, few, size)
        by_test false = let few = check_few (record t { collected = t.collected ++ c ∷ [] }) in omega (arith, few, size)
from_few s from (message.StartView view first commit log) =
    few_of_one s.controllers (start_view s from view first commit log)
    (one_of (is_other s from) (if is_primary_of s from view && is_newer s view then guarded s (adopt s view first commit log) else quiet s) (quiet s)
    (one_of (is_primary_of s from view && is_newer s view) (guarded s (adopt s view first commit log)) (quiet s) (guarded_one s (adopt s view first commit log) (adopt_one s view first commit log)) (omega arith)) (omega arith))
from_few s from (message.Recovery nonce promise) =
    either s.controllers (is_other s from) (if is_normal s then if nat_lt s.view promise then guarded s (enters s promise) else responds s from nonce else quiet s) (quiet s)
    (either s.controllers (is_normal s) (if nat_lt s.view promise then guarded s (enters s promise) else responds s from nonce) (quiet s)
    (either s.controllers (nat_lt s.view promise) (guarded s (enters s promise)) (responds s from nonce)
    (guarded_few s.controllers s (enters s promise) (entering_few s promise check (check_few (entered_view s promise)))) (omega arith))
    (omega arith))
    (omega arith)
from_few s from (message.RecoveryResponse view nonce filled) =
    few_of_one s.controllers (response s from view nonce filled)
    (one_of (is_other s from) (if is_recovering s && nat_eq nonce s.life then guarded s (recovers (responded s (record { from = from; view = view; filled = filled }))) else quiet s) (quiet s)
    (one_of (is_recovering s && nat_eq nonce s.life) (guarded s (recovers (responded s (record { from = from; view = view; filled = filled })))) (quiet s)
    (guarded_one s (recovers (responded s (record { from = from; view = view; filled = filled }))) (recovers_one (responded s (record { from = from; view = view; filled = filled })))) (omega arith)) (omega arith))
from_few s from (message.GetState view op) =
    few_of_one s.controllers (get_state s from view op)
    (one_of (is_other s from) (if is_answered s view op then tells s from (message.NewState s.view op s.commit (drop op s.log)) else quiet s) (quiet s) (one_of (is_answered s view op) (tells s from (message.NewState s.view op s.commit (drop op s.log))) (quiet s) (omega arith) (omega arith)) (omega arith))
from_few s from (message.NewState view first commit log) =
    few_of_one s.controllers (new_state s from view first commit log)
    (one_of (is_other s from) (if is_longer s view first log then completes s first commit log else if is_adopted s view first then guarded s (adopt s view first commit log) else quiet s) (quiet s)
    (one_of (is_longer s view first log) (completes s first commit log) (if is_adopted s view first then guarded s (adopt s view first commit log) else quiet s)
    (one_of (follows s.log (lacking s first log)) (acknowledges (record s { log = s.log ++ lacking s first log }) commit) (quiet s) (omega arith) (omega arith))
    (one_of (is_adopted s view first) (guarded s (adopt s view first commit log)) (quiet s) (guarded_one s (adopt s view first commit log) (adopt_one s view first commit log)) (omega arith)))
    (omega arith))
from_few s from (message.Fetch view op) =
    few_of_one s.controllers (fetch s from view op)
    (one_of (is_other s from) (if is_change s view && nat_le op s.commit then tells s from (message.Supply s.view op (drop op (take s.commit s.log))) else quiet s) (quiet s)
    (one_of (is_change s view && nat_le op s.commit) (tells s from (message.Supply s.view op (drop op (take s.commit s.log)))) (quiet s) (omega arith) (omega arith)) (omega arith))
from_few s from (message.Supply view first log) =
    either s.controllers (is_other s from) (if is_message_wanted s view first log then guarded s (check (supplied s first log)) else quiet s) (quiet s)
    (either s.controllers (is_message_wanted s view first log) (guarded s (check (supplied s first log))) (quiet s) (guarded_few s.controllers s (check (supplied s first log)) (let few = check_few (supplied s first log) in omega (arith, few))) (omega arith))
    (omega arith)

pub hears_few : (s : VrState) (from : ℕ) (m : VrMessage) → IsFew s.controllers (vr_step s (vr_input.From from m))
hears_few s from m = from_few s from m

pub suspects_few : (s : VrState) (view : ℕ) → IsFew s.controllers (vr_step s (vr_input.Suspect view))
suspects_few s view =
    either s.controllers (is_later s view) (guarded s (enters s view)) (quiet s) (guarded_few s.controllers s (enters s view) (entering_few s view check (check_few (entered_view s view)))) (omega arith)
