-- What a member holds and says can be spelled, where what it hears could be.
use Rattle.std.proofs.Common.{◌≡◌, ℕ, zero, suc, ◌+◌, ◌≤◌, true, cond, not, nat_eq, nat_lt, nat_le, ◌&&◌, Option, Some, None, List, [], ◌∷◌, ◌++◌, length, take, drop, map, sym, subst, arith, length-append, length-drop, length-take, append_assoc, append-nil}
use Rattle.std.specs.Prelude.{flat_map, find}
use Rattle.std.specs.List.{AllByRecursion}
use Rattle.std.proofs.lemmas.Bool.{and_parts, cond_both, leb-true, not-true, not-false}
use Rattle.std.proofs.lemmas.List.Sums.{sum_by-append, sum_by-take-drop}
use Rattle.vr_log.specs.declared.entry.Entry.{Entry}
use Rattle.vr_log.specs.declared.message.Filled.{Filled}
use Rattle.vr_log.specs.declared.message.VrMessage.{VrMessage}
use Rattle.vr_log.specs.declared.message.VrMessage.TheVariants as message
use Rattle.vr_log.specs.declared.state.Collected.{Collected}
use Rattle.vr_log.specs.declared.state.Response.{Response}
use Rattle.vr_log.specs.declared.state.Status.{Status}
use Rattle.vr_log.specs.declared.state.Status.TheVariants as status
use Rattle.vr_log.specs.declared.state.Supplied.{Supplied}
use Rattle.vr_log.specs.declared.state.VrState.{VrState}
use Rattle.vr_log.specs.Log.{log_entries, log_bytes, entry_size, log_size, is_past_limits, may_follow, fits, follows, is_log}
use Rattle.vr_log.specs.Sizes.{IsValidEntry, IsValidLog, IsValidFilled, IsValidVr}
use Rattle.vr_log.specs.Members as member
use Rattle.vr_log.specs.Choosing as choosing
use Rattle.vr_log.specs.Steps as steps
use Rattle.vr_log.specs.Steps.{VrStep}
use Rattle.vr_log.specs.Valid.{down_state, starting_state}
use Rattle.vr_normal.specs.Cases as normal_case
use Rattle.vr_normal.specs.Ticks as tick
use Rattle.view_change.specs.Adopting as adopting
use Rattle.view_change.specs.Entering as entering
use Rattle.view_change.specs.Cases as change
use Rattle.vr_recovery.specs.Cases as transfer
use Rattle.vr_recovery.specs.Recovering as recovering
use Rattle.vr_core.specs.declared.input.VrInput.TheVariants as vr_input
use Rattle.vr_core.specs.Step.{on_vr}
use Rattle.controller_moves.specs.MemberMoves.Spelling.{IsValidSupply, CanBeSpelled, AreValidLetters, IsValidStep, StepsCanBeSpelled}

-- entries of two lists, of a front and of a rest
all_join : {A : Type 0} (P : A → Type 0) (xs ys : List A) → AllByRecursion P xs → AllByRecursion P ys → AllByRecursion P (xs ++ ys)
all_join P [] ys p q = q
all_join P (x ∷ xs) ys p q = (p.0, all_join P xs ys p.1 q)

all_front : {A : Type 0} (P : A → Type 0) (n : ℕ) (xs : List A) → AllByRecursion P xs → AllByRecursion P (take n xs)
all_front P zero xs p = tt
all_front P (suc n) [] p = tt
all_front P (suc n) (x ∷ xs) p = (p.0, all_front P n xs p.1)

all_rest : {A : Type 0} (P : A → Type 0) (n : ℕ) (xs : List A) → AllByRecursion P xs → AllByRecursion P (drop n xs)
all_rest P zero xs p = p
all_rest P (suc n) [] p = tt
all_rest P (suc n) (x ∷ xs) p = all_rest P n xs p.1

-- a log is within the limits
abbrev pub IsShort : List Entry → Type 0
IsShort log = (length log ≤ log_entries) × (log_size log ≤ log_bytes)

fits_short : (log : List Entry) (x : Entry) → fits log x ≡ true → IsShort (log ++ x ∷ [])
fits_short log x z =
    let y = and_parts (not (is_past_limits log x)) (may_follow log x) z in
    let room = not-false (nat_le (length log + 1) log_entries && nat_le (log_size log + entry_size x) log_bytes) (not-true (is_past_limits log x) y.0) in
    let w = and_parts (nat_le (length log + 1) log_entries) (nat_le (log_size log + entry_size x) log_bytes) room in
    let a = leb-true (length log + 1) log_entries w.0 in
    let b = leb-true (log_size log + entry_size x) log_bytes w.1 in
    let c = length-append log (x ∷ []) in
    let d = sum_by-append entry_size log (x ∷ []) in
    (omega arith, omega arith)

follows_short : (before es : List Entry) → follows before es ≡ true → IsShort before → IsShort (before ++ es)
follows_short before [] z l = subst (λ (q : List Entry). IsShort q) (sym (append-nil before)) l
follows_short before (x ∷ es) z l =
    let y = and_parts (fits before x) (follows (before ++ x ∷ []) es) z in
    subst (λ (q : List Entry). IsShort q) (append_assoc before (x ∷ []) es) (follows_short (before ++ x ∷ []) es y.1 (fits_short before x y.0))

pub log_short : (log : List Entry) → is_log log ≡ true → IsShort log
log_short log z = follows_short [] log z (omega arith, omega arith)

valid_none : IsValidLog []
valid_none = record { few = omega arith; small = omega arith; entries = tt }

valid_of : (log : List Entry) → IsShort log → AllByRecursion (λ x. IsValidEntry x) log → IsValidLog log
valid_of log l p = record { few = l.0; small = l.1; entries = p }

short_of : (log : List Entry) → IsValidLog log → IsShort log
short_of log x = (x.few, x.small)

valid_rest : (n : ℕ) (log : List Entry) → IsValidLog log → IsValidLog (drop n log)
valid_rest n log x =
    let a = length-drop n log in let b = sum_by-take-drop entry_size log n in let c = x.few in let d = x.small in
    record { few = omega arith; small = omega arith; entries = all_rest (λ q. IsValidEntry q) n log x.entries }

valid_front : (n : ℕ) (log : List Entry) → IsValidLog log → IsValidLog (take n log)
valid_front n log x =
    let a = length-take n log in let b = sum_by-take-drop entry_size log n in let c = x.few in let d = x.small in
    record { few = omega arith; small = omega arith; entries = all_front (λ q. IsValidEntry q) n log x.entries }

pub down_spelled : (me controllers promise life : ℕ) → CanBeSpelled (down_state me controllers promise life)
down_spelled me controllers promise life = record { log = valid_none; collected = tt; supply = tt; responses = tt }

pub starting_spelled : (me controllers : ℕ) → CanBeSpelled (starting_state me controllers)
starting_spelled me controllers = record { log = valid_none; collected = tt; supply = tt; responses = tt }

to_all : (x : VrMessage) → IsValidVr x → (js : List ℕ) → AreValidLetters (map (steps.letter x) js)
to_all x p [] = tt
to_all x p (j ∷ js) = (p, to_all x p js)

pub others_valid : (s : VrState) (x : VrMessage) → IsValidVr x → AreValidLetters (steps.to_others s x)
others_valid s x p = to_all x p (member.others s)

quiet_valid : (s : VrState) → CanBeSpelled s → IsValidStep (steps.quiet s)
quiet_valid s p = record { state = p; letters = tt }

tells_valid : (s : VrState) (to : ℕ) (x : VrMessage) → CanBeSpelled s → IsValidVr x → IsValidStep (steps.tells s to x)
tells_valid s to x p q = record { state = p; letters = (q, tt) }

then_valid : (first : VrStep) (next : VrState → VrStep) → IsValidStep first → IsValidStep (next first.state) → IsValidStep (steps.then_step first next)
then_valid first next p q = record { state = q.state; letters = all_join (λ l. IsValidVr l.message) first.letters (next first.state).letters p.letters q.letters }

-- the step is valid, if it leaves a log within the limits
abbrev IsValidWhereShort : VrStep → Type 0
IsValidWhereShort st = IsShort st.state.log → IsValidStep st

guarded_valid : (s : VrState) (st : VrStep) → CanBeSpelled s → IsValidWhereShort st → IsValidStep (steps.guarded s st)
guarded_valid s st p g = cond_both (steps.is_sound s st.state) _ _ IsValidStep
    (λ z. g (log_short st.state.log (and_parts (is_log st.state.log) (nat_le st.state.commit (length st.state.log)) (and_parts (is_log st.state.log && nat_le st.state.commit (length st.state.log)) _ z).0).0))
    (λ z. quiet_valid s p)

best_valid : (x : Collected) (xs : List Collected) → IsValidLog x.log → AllByRecursion (λ c. IsValidLog c.log) xs → IsValidLog (choosing.best_of x xs).log
best_valid x [] p q = p
best_valid x (y ∷ ys) p q = cond_both (choosing.is_better y x) y x (λ z. IsValidLog (choosing.best_of z ys).log) (λ t. best_valid y ys q.0 q.1) (λ t. best_valid x ys p q.1)

front_valid : (s : VrState) (q : Option Supplied) → CanBeSpelled s → IsValidSupply q → AllByRecursion (λ x. IsValidEntry x) (choosing.front_with s q)
front_valid s None p u = all_front (λ x. IsValidEntry x) s.commit s.log p.log.entries
front_valid s (Some x) p u = all_join (λ x. IsValidEntry x) (take x.first s.log) x.log (all_front (λ x. IsValidEntry x) x.first s.log p.log.entries) u.entries

module _ (s : VrState) (p : CanBeSpelled s) where
  collects_spelled : (c : Collected) → IsValidLog c.log → CanBeSpelled (entering.collects s c)
  collects_spelled c q = cond_both (choosing.has_collected s c.from) _ _ CanBeSpelled (λ a. p)
      (λ a. record { log = p.log; collected = all_join (λ c. IsValidLog c.log) s.collected (c ∷ []) p.collected (q, tt); supply = p.supply; responses = p.responses })

  votes_valid : IsValidStep (entering.votes s)
  votes_valid = cond_both (nat_le (member.most_failures s) (length s.votes) && not s.sent) _ _ IsValidStep
      (λ a. cond_both (member.is_primary s) _ _ IsValidStep
      (λ own. let c = collects_spelled (entering.own_log s) (valid_rest s.commit s.log p.log) in record { state = record { log = c.log; collected = c.collected; supply = c.supply; responses = c.responses }; letters = tt })
      (λ own. record { state = record { log = p.log; collected = p.collected; supply = p.supply; responses = p.responses }; letters = (valid_rest s.commit s.log p.log, tt) }))
      (λ a. quiet_valid s p)

  chooses_from_valid : (all : List Collected) → AllByRecursion (λ c. IsValidLog c.log) all → IsValidWhereShort (entering.chooses_from s all)
  chooses_from_valid [] q = λ l. quiet_valid s p
  chooses_from_valid (x ∷ xs) q = cond_both (choosing.reaches s (choosing.best_of x xs)) _ _ IsValidWhereShort
      (λ a l.
      let best : Collected = choosing.best_of x xs in
      let log : List Entry = take best.commit (choosing.front s) ++ best.log in
      let good = valid_of log l (all_join (λ x. IsValidEntry x) (take best.commit (choosing.front s)) best.log (all_front (λ x. IsValidEntry x) best.commit (choosing.front s) (front_valid s s.supply p p.supply)) (best_valid x xs q.0 q.1).entries) in
      record {
        state = record { log = good; collected = p.collected; supply = tt; responses = p.responses };
        letters = to_all _ (valid_rest (choosing.least_commit x.commit xs) log good) (member.others s);
      })
      (λ a l. record { state = p; letters = (tt, tt) })

  chooses_valid : IsValidWhereShort (entering.chooses s)
  chooses_valid = cond_both (choosing.may_choose s) _ _ IsValidWhereShort (λ a. chooses_from_valid s.collected p.collected) (λ a l. quiet_valid s p)

check_valid : (s : VrState) → CanBeSpelled s → IsValidWhereShort (entering.check s)
check_valid s p l = let a = votes_valid s p in then_valid (entering.votes s) entering.chooses a (chooses_valid (entering.votes s).state a.state l)

module _ (s : VrState) (p : CanBeSpelled s) where
  entered_spelled : (view : ℕ) → CanBeSpelled (entering.entered_view s view)
  entered_spelled view = record { log = p.log; collected = tt; supply = tt; responses = p.responses }

  enter_valid : (view : ℕ) → IsValidStep (entering.enter s view)
  enter_valid view = record { state = entered_spelled view; letters = others_valid s (message.StartViewChange view) tt }

  enters_valid : (view : ℕ) → IsValidStep (steps.guarded s (change.enters s view))
  enters_valid view = guarded_valid s (change.enters s view) p (λ l. then_valid (entering.enter s view) entering.check (enter_valid view) (check_valid (entering.entered_view s view) (entered_spelled view) l))

  pub suspect_valid : (view : ℕ) → IsValidStep (change.suspect s view)
  suspect_valid view = cond_both (member.is_later s view) _ _ IsValidStep (λ a. enters_valid view) (λ a. quiet_valid s p)

  -- a message of another member
  other_valid : (from : ℕ) (st : VrStep) → IsValidStep st → IsValidStep (cond (member.is_other s from) st (steps.quiet s))
  other_valid from st w = cond_both (member.is_other s from) _ _ IsValidStep (λ other. w) (λ own. quiet_valid s p)

  asks_valid : (view : ℕ) → IsValidStep (normal_case.asks_later s view)
  asks_valid view = cond_both (member.is_later s view) _ _ IsValidStep (λ a. tells_valid s (member.primary_of s view) (message.GetState view s.commit) p tt) (λ a. quiet_valid s p)

  log_spelled : (log : List Entry) (commit : ℕ) → IsValidLog log → CanBeSpelled (record s { log = log; commit = commit })
  log_spelled log commit q = record { log = q; collected = p.collected; supply = p.supply; responses = p.responses }

  primary_valid : (from view : ℕ) (st : VrStep) → IsValidStep st → IsValidStep (normal_case.from_primary s from view st)
  primary_valid from view st w = other_valid from _ (cond_both (member.is_primary_of s from view) _ _ IsValidStep (λ a. cond_both (member.is_here s view) _ _ IsValidStep (λ b. w) (λ b. asks_valid view)) (λ a. quiet_valid s p))

  prepare_valid : (from view op commit : ℕ) (entry : Entry) → IsValidEntry entry → IsValidStep (normal_case.prepare s from view op commit entry)
  prepare_valid from view op commit entry q = primary_valid from view (normal_case.prepares s op commit entry)
      (cond_both (nat_le op (length s.log)) _ _ IsValidStep (λ x. record { state = log_spelled s.log _ p.log; letters = (tt, tt) })
      (λ x. cond_both (nat_eq op (length s.log + 1)) _ _ IsValidStep
      (λ y. cond_both (fits s.log entry) _ _ IsValidStep
      (λ f. record { state = log_spelled (s.log ++ entry ∷ []) _ (valid_of (s.log ++ entry ∷ []) (fits_short s.log entry f) (all_join (λ x. IsValidEntry x) s.log (entry ∷ []) p.log.entries (q, tt))); letters = (tt, tt) })
      (λ f. quiet_valid s p))
      (λ y. tells_valid s (member.primary_of s s.view) (message.GetState s.view (length s.log)) p tt)))

  commit_valid : (from view commit : ℕ) → IsValidStep (normal_case.commit_told s from view commit)
  commit_valid from view commit = primary_valid from view (normal_case.commits s commit)
      (cond_both (nat_le commit (length s.log)) _ _ IsValidStep (λ x. record { state = log_spelled s.log _ p.log; letters = tt }) (λ x. tells_valid s (member.primary_of s s.view) (message.GetState s.view (length s.log)) p tt))

  prepare_ok_valid : (from view op : ℕ) → IsValidStep (normal_case.prepare_ok s from view op)
  prepare_ok_valid from view op = other_valid from _ (cond_both (normal_case.is_counted s view op) _ _ IsValidStep
      (λ a. record { state = record { log = p.log; collected = p.collected; supply = p.supply; responses = p.responses }; letters = tt }) (λ a. quiet_valid s p))

  adopt_valid : (view first commit : ℕ) (log : List Entry) → IsValidLog log → IsValidWhereShort (adopting.adopt s view first commit log)
  adopt_valid view first commit log q = cond_both (nat_lt s.commit first) _ _ IsValidWhereShort
      (λ a l. tells_valid s (member.primary_of s view) (message.GetState view s.commit) p tt)
      (λ a l. record {
        state = record { log = valid_of (take first s.log ++ log) l (all_join (λ x. IsValidEntry x) (take first s.log) log (all_front (λ x. IsValidEntry x) first s.log p.log.entries) q.entries); collected = p.collected; supply = tt; responses = p.responses };
        letters = cond_both (nat_lt commit (length (take first s.log ++ log))) _ _ AreValidLetters (λ z. (tt, tt)) (λ z. tt);
      })

  start_view_valid : (from view first commit : ℕ) (log : List Entry) → IsValidLog log → IsValidStep (change.start_view s from view first commit log)
  start_view_valid from view first commit log q = other_valid from _ (cond_both (member.is_primary_of s from view && member.is_newer s view) _ _ IsValidStep
      (λ a. guarded_valid s (adopting.adopt s view first commit log) p (adopt_valid view first commit log q)) (λ a. quiet_valid s p))

  get_valid : (from view op : ℕ) → IsValidStep (transfer.get_state s from view op)
  get_valid from view op = other_valid from _ (cond_both (transfer.is_answered s view op) _ _ IsValidStep
      (λ a. tells_valid s from (message.NewState s.view op s.commit (drop op s.log)) p (valid_rest op s.log p.log)) (λ a. quiet_valid s p))

  new_state_valid : (from view first commit : ℕ) (log : List Entry) → IsValidLog log → IsValidStep (transfer.new_state s from view first commit log)
  new_state_valid from view first commit log q = other_valid from _ (cond_both (transfer.is_longer s view first log) _ _ IsValidStep
      (λ a. cond_both (follows s.log (transfer.lacking s first log)) _ _ IsValidStep
      (λ f.
      let lacks : List Entry = transfer.lacking s first log in
      record { state = log_spelled (s.log ++ lacks) _ (valid_of (s.log ++ lacks) (follows_short s.log lacks f (short_of s.log p.log)) (all_join (λ x. IsValidEntry x) s.log lacks p.log.entries (all_rest (λ x. IsValidEntry x) _ log q.entries))); letters = (tt, tt) })
      (λ f. quiet_valid s p))
      (λ a. cond_both (transfer.is_adopted s view first) _ _ IsValidStep (λ b. guarded_valid s (adopting.adopt s view first commit log) p (adopt_valid view first commit log q)) (λ b. quiet_valid s p)))

  fetch_valid : (from view op : ℕ) → IsValidStep (change.fetch s from view op)
  fetch_valid from view op = other_valid from _ (cond_both (change.is_change s view && nat_le op s.commit) _ _ IsValidStep
      (λ a. tells_valid s from (message.Supply s.view op (drop op (take s.commit s.log))) p (valid_rest op (take s.commit s.log) (valid_front s.commit s.log p.log))) (λ a. quiet_valid s p))

  voted_spelled : (from : ℕ) → CanBeSpelled (entering.voted s from)
  voted_spelled from = record { log = p.log; collected = p.collected; supply = p.supply; responses = p.responses }

later_granted : (first : VrStep) (next : VrState → VrStep) → IsValidStep first → IsValidWhereShort (next first.state) → IsValidWhereShort (steps.then_step first next)
later_granted first next a b l = then_valid first next a (b l)

module _ (s : VrState) (p : CanBeSpelled s) where
  start_view_change_valid : (from view : ℕ) → IsValidStep (change.start_view_change s from view)
  start_view_change_valid from view = other_valid s p from _ (cond_both (member.is_later s view) _ _ IsValidStep
      (λ b.
      let t : VrState = entering.entered_view s view in
      guarded_valid s (steps.then_step (entering.enter s view) (λ next. entering.check (entering.voted next from))) p
      (later_granted (entering.enter s view) (λ next. entering.check (entering.voted next from)) (enter_valid s p view) (check_valid (entering.voted t from) (voted_spelled t (entered_spelled s p view) from))))
      (λ b. cond_both (nat_eq view s.view) _ _ IsValidStep
      (λ same. cond_both (member.is_changing s) _ _ IsValidStep (λ x. guarded_valid s (entering.check (entering.voted s from)) p (check_valid (entering.voted s from) (voted_spelled s p from)))
      (λ x. cond_both (member.leads s) _ _ IsValidStep (λ y. tells_valid s from (message.StartView s.view s.base s.commit (drop s.base s.log)) p (valid_rest s.base s.log p.log)) (λ y. quiet_valid s p)))
      (λ same. quiet_valid s p)))

  do_view_change_valid : (from view normal commit : ℕ) (log : List Entry) → IsValidLog log → IsValidStep (change.do_view_change s from view normal commit log)
  do_view_change_valid from view normal commit log q =
      let c : Collected = record { from = from; normal = normal; commit = commit; log = log } in
      let t : VrState = entering.entered_view s view in
      other_valid s p from _ (cond_both (member.is_primary_of s s.me view) _ _ IsValidStep
      (λ a. cond_both (member.is_later s view) _ _ IsValidStep
      (λ b. guarded_valid s (steps.then_step (entering.enter s view) (λ next. entering.check (entering.collects next c))) p
      (later_granted (entering.enter s view) (λ next. entering.check (entering.collects next c)) (enter_valid s p view) (check_valid (entering.collects t c) (collects_spelled t (entered_spelled s p view) c q))))
      (λ b. cond_both (nat_eq view s.view && member.is_changing s) _ _ IsValidStep (λ x. guarded_valid s (entering.check (entering.collects s c)) p (check_valid (entering.collects s c) (collects_spelled s p c q))) (λ x. quiet_valid s p)))
      (λ a. quiet_valid s p))

  supply_valid : (from view first : ℕ) (log : List Entry) → IsValidLog log → IsValidStep (change.supply s from view first log)
  supply_valid from view first log q =
      let t : VrState = change.supplied s first log in
      other_valid s p from _ (cond_both (change.is_message_wanted s view first log) _ _ IsValidStep
      (λ a. guarded_valid s (entering.check t) p (check_valid t (record { log = p.log; collected = p.collected; supply = q; responses = p.responses }))) (λ a. quiet_valid s p))

  filled_valid : IsValidFilled (recovering.filled s)
  filled_valid = cond_both (member.is_primary s) _ _ IsValidFilled (λ a. p.log) (λ a. tt)

  recovery_valid : (from nonce promise : ℕ) → IsValidStep (recovering.recovery s from nonce promise)
  recovery_valid from nonce promise = other_valid s p from _ (cond_both (member.is_normal s) _ _ IsValidStep
      (λ a. cond_both (nat_lt s.view promise) _ _ IsValidStep (λ b. enters_valid s p promise) (λ b. tells_valid s from (message.RecoveryResponse s.view nonce (recovering.filled s)) p filled_valid)) (λ a. quiet_valid s p))

  with_valid : (r : Response) → IsValidFilled r.filled → (rs : List Response) → AllByRecursion (λ r. IsValidFilled r.filled) rs → AllByRecursion (λ r. IsValidFilled r.filled) (recovering.with_response rs r)
  with_valid r q [] a = (q, tt)
  with_valid r q (x ∷ rs) a = cond_both (nat_eq x.from r.from) (recovering.newest x r ∷ rs) (x ∷ recovering.with_response rs r) (λ rs. AllByRecursion (λ r. IsValidFilled r.filled) rs)
      (λ t. (cond_both (nat_lt x.view r.view) r x (λ y. IsValidFilled y.filled) (λ z. q) (λ z. a.0), a.1)) (λ t. (a.0, with_valid r q rs a.1))

  found_valid : (view j : ℕ) (rs : List Response) → AllByRecursion (λ r. IsValidFilled r.filled) rs → IsValidFilled (recovering.told_log view (find (λ r. nat_eq r.from j) rs))
  found_valid view j [] a = tt
  found_valid view j (x ∷ rs) a = cond_both (nat_eq x.from j) (Some x) (find (λ r. nat_eq r.from j) rs) (λ q. IsValidFilled (recovering.told_log view q))
      (λ t. cond_both (nat_eq x.view view) x.filled None IsValidFilled (λ z. a.0) (λ z. tt)) (λ t. found_valid view j rs a.1)

  ends_valid : (t : VrState) → CanBeSpelled t → (view : ℕ) (q : Option Filled) → IsValidFilled q → IsValidWhereShort (recovering.ends_with t view q)
  ends_valid t u view None w = λ l. quiet_valid t u
  ends_valid t u view (Some f) w = adopt_valid (record t { responses = [] }) (record { log = u.log; collected = u.collected; supply = u.supply; responses = tt }) view 0 f.commit f.log w

  ending_valid : (t : VrState) → CanBeSpelled t → IsValidFilled (recovering.ending t)
  ending_valid t u = cond_both (recovering.are_responses_enough t) _ _ IsValidFilled
      (λ b. found_valid (recovering.greatest_view_told t.responses) (member.primary_of t (recovering.greatest_view_told t.responses)) t.responses u.responses) (λ b. tt)

  response_valid : (from view nonce : ℕ) (filled : Option Filled) → IsValidFilled filled → IsValidStep (recovering.response s from view nonce filled)
  response_valid from view nonce filled q =
      let r : Response = record { from = from; view = view; filled = filled } in
      let t : VrState = recovering.responded s r in
      let u : CanBeSpelled t = record { log = p.log; collected = p.collected; supply = p.supply; responses = with_valid r q s.responses p.responses } in
      other_valid s p from _ (cond_both (member.is_recovering s && nat_eq nonce s.life) _ _ IsValidStep
      (λ a. guarded_valid s (recovering.recovers t) p (ends_valid t u (recovering.greatest_view_told t.responses) (recovering.ending t) (ending_valid t u)))
      (λ a. quiet_valid s p))

  pub on_vr_valid : (from : ℕ) (x : VrMessage) → IsValidVr x → IsValidStep (on_vr s from x)
  unfolding on_vr
  on_vr_valid from (message.Prepare view op commit entry) q = prepare_valid s p from view op commit entry q
  on_vr_valid from (message.PrepareOk view op) q = prepare_ok_valid s p from view op
  on_vr_valid from (message.Commit view commit) q = commit_valid s p from view commit
  on_vr_valid from (message.StartViewChange view) q = start_view_change_valid from view
  on_vr_valid from (message.DoViewChange view normal commit log) q = do_view_change_valid from view normal commit log q
  on_vr_valid from (message.StartView view first commit log) q = start_view_valid s p from view first commit log q
  on_vr_valid from (message.Recovery nonce promise) q = recovery_valid from nonce promise
  on_vr_valid from (message.RecoveryResponse view nonce filled) q = response_valid from view nonce filled q
  on_vr_valid from (message.GetState view op) q = get_valid s p from view op
  on_vr_valid from (message.NewState view first commit log) q = new_state_valid s p from view first commit log q
  on_vr_valid from (message.Fetch view op) q = fetch_valid s p from view op
  on_vr_valid from (message.Supply view first log) q = supply_valid from view first log q

  prepares_valid : (view commit op : ℕ) (es : List Entry) → AllByRecursion (λ x. IsValidEntry x) es → (to : ℕ) → AreValidLetters (tick.prepares_from view commit op es to)
  prepares_valid view commit op [] a to = tt
  prepares_valid view commit op (x ∷ es) a to = (a.0, prepares_valid view commit (op + 1) es a.1 to)

  repeats_valid : (to : List ℕ) → AreValidLetters (flat_map (tick.repeats_to s) to)
  repeats_valid [] = tt
  repeats_valid (j ∷ js) = all_join (λ l. IsValidVr l.message) (tick.repeats_to s j) (flat_map (tick.repeats_to s) js)
      (cond_both (nat_eq s.commit (length s.log)) _ _ AreValidLetters (λ a. (tt, tt))
      (λ a. prepares_valid s.view s.commit (s.commit + 1) (tick.repeated s) (all_front (λ x. IsValidEntry x) tick.most_repeated (drop s.commit s.log) (all_rest (λ x. IsValidEntry x) s.commit s.log p.log.entries)) j))
      (repeats_valid js)

  fetch_letters : (all : List Collected) → AreValidLetters (choosing.fetch_from s all)
  fetch_letters [] = tt
  fetch_letters (x ∷ xs) = cond_both (choosing.reaches s (choosing.best_of x xs)) _ _ AreValidLetters (λ a. tt) (λ a. (tt, tt))

  changing_valid : AreValidLetters (steps.to_others s (message.StartViewChange s.view) ++ tick.sent_log s ++ choosing.fetches s)
  changing_valid = all_join (λ l. IsValidVr l.message) (steps.to_others s (message.StartViewChange s.view) ++ tick.sent_log s) (choosing.fetches s)
      (all_join (λ l. IsValidVr l.message) (steps.to_others s (message.StartViewChange s.view)) (tick.sent_log s) (others_valid s (message.StartViewChange s.view) tt)
      (cond_both (s.sent && not (member.is_primary s)) _ _ AreValidLetters (λ a. (valid_rest s.commit s.log p.log, tt)) (λ a. tt)))
      (cond_both (choosing.may_choose s) _ _ AreValidLetters (λ a. fetch_letters s.collected) (λ a. tt))

  pub ticked_valid : IsValidStep (tick.ticked s)
  ticked_valid = by s.status
    where
      by : (x : Status) → IsValidStep (elim x [
        | status.Normal ↦ cond (member.is_primary s) (tick.tick_primary s) (steps.quiet s)
        | status.ViewChange ↦ tick.tick_changing s
        | status.Recovering ↦ tick.tick_recovering s
        | status.Down ↦ steps.quiet s
      ])
      by status.Normal = cond_both (member.is_primary s) _ _ IsValidStep (λ a. record { state = p; letters = repeats_valid (member.others s) }) (λ a. quiet_valid s p)
      by status.ViewChange = record { state = p; letters = changing_valid }
      by status.Recovering = record { state = p; letters = others_valid s (message.Recovery s.life s.promise) tt }
      by status.Down = quiet_valid s p

pub restarted_valid : (me controllers promise life : ℕ) → IsValidStep (recovering.restarted me controllers promise life)
restarted_valid me controllers promise life =
    let s : VrState = recovering.recovering_state me controllers promise life in
    record { state = record { log = valid_none; collected = tt; supply = tt; responses = tt }; letters = others_valid s (message.Recovery life promise) tt }

-- a proposal
pub pushed_spelled : (s : VrState) (x : Entry) (commit : ℕ) → CanBeSpelled s → IsValidEntry x → fits s.log x ≡ true → CanBeSpelled (record s { log = s.log ++ x ∷ []; commit = commit })
pushed_spelled s x commit p q f = log_spelled s p (s.log ++ x ∷ []) commit (valid_of (s.log ++ x ∷ []) (fits_short s.log x f) (all_join (λ z. IsValidEntry z) s.log (x ∷ []) p.log.entries (q, tt)))

pub spelling_law : StepsCanBeSpelled
spelling_law s (vr_input.From from what) p q = on_vr_valid s p from what q
spelling_law s (vr_input.Suspect view) p q = suspect_valid s p view
spelling_law s vr_input.Tick p q = ticked_valid s p
