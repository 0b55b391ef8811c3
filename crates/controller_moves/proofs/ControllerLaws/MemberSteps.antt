-- A step of a member is a chain of moves. What each move and each letter keeps, each step keeps.
use Rattle.std.proofs.Common.{inl, inr, ◌≡◌, ◌≤◌, ◌<◌, ℕ, ◌+◌, Bool, true, false, not, ◌&&◌, List, [], ◌∷◌, ◌++◌, length, drop, map, suc, refl, sym, ap, subst, ◌∙◌, arith, append-nil, append_assoc}
use Rattle.std.specs.Prelude.{nat_eq, nat_lt, nat_le, Option, Some, None, slice_get, max, min, find, if◌then◌else◌}
use Rattle.std.proofs.lemmas.Bool.{cond_both, ltb-true, ltb-false, leb-true, eqb-true, and_parts}
use Rattle.vr_log.specs.declared.entry.Entry.{Entry}
use Rattle.vr_log.specs.declared.message.Filled.{Filled}
use Rattle.vr_log.specs.declared.message.VrLetter.{VrLetter}
use Rattle.vr_log.specs.declared.message.VrMessage.{VrMessage}
use Rattle.vr_log.specs.declared.message.VrMessage.TheVariants as message
use Rattle.vr_log.specs.declared.state.Collected.{Collected}
use Rattle.vr_log.specs.declared.state.Response.{Response}
use Rattle.vr_log.specs.declared.state.Status.{Status}
use Rattle.vr_log.specs.declared.state.Status.TheVariants.{Normal, ViewChange, Recovering, Down}
use Rattle.vr_log.specs.declared.state.VrState.{VrState}
use Rattle.vr_log.specs.Log.{fits, follows}
use Rattle.vr_log.specs.Members.{is_normal, is_changing, is_up, is_recovering, primary_of, is_primary, is_other, is_primary_of, is_here, is_later, is_newer, leads, most_failures, others}
use Rattle.vr_log.specs.Steps.{VrStep, quiet, sends, letter, tells, to_others, then_step, is_sound, guarded, acknowledges}
use Rattle.vr_log.specs.Choosing.{has_collected, may_choose, best_of, front, reaches, fetch_from, fetches}
use Rattle.vr_normal.specs.Cases.{asks_later, from_primary, commits, prepares, prepare, commit_told, ops, agreed, is_agreed, acked_by, counted, is_counted, prepare_ok}
use Rattle.vr_normal.specs.Ticks.{prepares_from, repeated, repeats_to, sent_log, tick_primary, tick_changing, tick_recovering}
use Rattle.view_change.specs.Entering.{sends_log, entered_view, enter, voted, collects, own_log, starts, chooses_from, chooses, check}
use Rattle.view_change.specs.Adopting.{adopted_log, adopt_letters, adopt}
use Rattle.view_change.specs.Cases.{enters, suspect, vote_here, start_view_change, collect, do_view_change, start_view, is_change, fetch, is_message_wanted, supplied, supply}
use Rattle.vr_recovery.specs.Cases.{is_answered, get_state, is_longer, lacking, is_adopted, new_state}
use Rattle.vr_recovery.specs.Recovering.{recovery, responded, greatest_view_told, told_log, primary_log, are_responses_enough, ending, ends_with, recovers, response}
use Rattle.vr_core.specs.declared.input.VrInput.{VrInput}
use Rattle.vr_core.specs.declared.input.VrInput.TheVariants as vr_input
use Rattle.vr_core.specs.Step.{on_vr, vr_step}
use Rattle.vr_normal.proofs.Agreed.{greatest_least, greatest_most}
use Rattle.std.specs.Prelude.{filter}
use Rattle.list_facts.proofs.Elements.{in_append, in_flat_map, in_map}
use Rattle.list_facts.proofs.Places.{get_dropped}
use Rattle.list_facts.specs.Lists.{IsIn}
use Rattle.controller_moves.specs.ControllerLaws.Views.{TellsView, Suspected, Told}
use Rattle.controller_moves.specs.ControllerLaws.MemberMoves.{One, Several, ShowsMember, Starting, Standing, MemberMove, Enters, Tallies, Collects, Stocks, Starts, Adopts, Recovers, Appends, Commits, Keeps, IsSaidByMember, AsksVote, SendsLog, TellsStart, Repeats, TellsCommit, Acknowledges, AsksLog, AsksAll, Answers, TellsLog, AsksFront, TellsFront}

-- letters to several are one each
mapped_said : (s : VrState) (m : VrMessage) (to : List ℕ) (says : (j : ℕ) (l : VrLetter) → l ≡ letter m j → IsSaidByMember s l) (l : VrLetter) → IsIn l (map (letter m) to) → IsSaidByMember s l
mapped_said s m to says l h = let r = in_map (letter m) to l h in says r.0 l r.2

-- one letter
one_said : (s : VrState) (m : VrLetter) → ((l : VrLetter) → l ≡ m → IsSaidByMember s l) → (l : VrLetter) → IsIn l (m ∷ []) → IsSaidByMember s l
one_said s m says l (inl e) = says l e
one_said s m says l (inr h) = absurd h

-- letters behind others
both_said : (s : VrState) (a b : List VrLetter) → ((l : VrLetter) → IsIn l a → IsSaidByMember s l) → ((l : VrLetter) → IsIn l b → IsSaidByMember s l) → (l : VrLetter) → IsIn l (a ++ b) → IsSaidByMember s l
both_said s a b f g l h = elim (in_append l a b h) [ inl k ↦ f l k | inr k ↦ g l k ]

-- entries of the log that are sent again
prepares_said : (s : VrState) (n : ℕ) (entries : List Entry) (to : ℕ) → ((i : ℕ) (e : Entry) → slice_get entries i ≡ Some e → slice_get s.log (n + i) ≡ Some e) → s.commit ≤ n →
    (l : VrLetter) → IsIn l (prepares_from s.view s.commit (n + 1) entries to) → IsSaidByMember s l
prepares_said s n [] to at low l h = absurd h
prepares_said s n (e ∷ entries) to at low l (inl is) =
    let z : n + 0 ≡ n = omega arith in Repeats to n e (subst (λ (k : ℕ). slice_get s.log k ≡ Some e) z (at 0 e refl)) low is
prepares_said s n (e ∷ entries) to at low l (inr h) =
    prepares_said s (n + 1) entries to
    (λ i f k. let z : n + suc i ≡ n + 1 + i = omega arith in subst (λ (j : ℕ). slice_get s.log j ≡ Some f) z (at (suc i) f k))
    (omega arith) l h

-- what is found stands there
found_among : (p : Response → Bool) (all : List Response) (r : Response) → find p all ≡ Some r → IsIn r all
found_among p [] r h = cc
found_among p (y ∷ all) r h = by_test (p y) h (λ k. found_among p all r k)
  where
    by_test : (b : Bool) → (if b then Some y else find p all) ≡ Some r → (find p all ≡ Some r → IsIn r all) → IsIn r (y ∷ all)
    by_test true k go = inl (cc)
    by_test false k go = inr (go k)

-- the log of the primary that was told is one of the responses
record IsOfResponse (s : VrState) (view : ℕ) (told : Filled) : Type 0 where
  pub r : Response
  pub among : IsIn r s.responses
  pub view_is : r.view ≡ view
  pub filled_is : r.filled ≡ Some told

of_response : (s : VrState) (view : ℕ) (told : Filled) (o : Option Response) → find (λ r. nat_eq r.from (primary_of s view)) s.responses ≡ o → told_log view o ≡ Some told → IsOfResponse s view told
of_response s view told None is h = absurd cc
of_response s view told (Some r) is h = by_view (nat_eq r.view view) refl h
  where
    by_view : (b : Bool) → nat_eq r.view view ≡ b → (if b then r.filled else None) ≡ Some told → IsOfResponse s view told
    by_view true same k = record { r = r; among = found_among (λ r. nat_eq r.from (primary_of s view)) s.responses r is; view_is = eqb-true r.view view same; filled_is = k }
    by_view false other k = absurd cc

-- a step from a state, behind letters that were said before
module _ (x : VrInput) (P : VrState → List VrLetter → Type 0)
    (moves : (s s' : VrState) (ls : List VrLetter) → MemberMove x s s' → P s ls → P s' ls)
    (says : (s : VrState) (ls more : List VrLetter) → ((l : VrLetter) → IsIn l more → IsSaidByMember s l) → P s ls → P s (ls ++ more)) where
  abbrev Does : VrState → VrStep → Type 0
  Does s step = (ls : List VrLetter) → P s ls → P step.state (ls ++ step.letters)

  rests : (s : VrState) → Does s (quiet s)
  rests s ls h = subst (λ (l : List VrLetter). P s l) (sym (append-nil ls)) h

  said : (s : VrState) (more : List VrLetter) → ((l : VrLetter) → IsIn l more → IsSaidByMember s l) → Does s (sends s more)
  said s more all ls h = says s ls more all h

  moved : (s s' : VrState) (step : VrStep) → MemberMove x s s' → Does s' step → Does s step
  moved s s' step move go ls h = go ls (moves s s' ls move h)

  lands : (s s' : VrState) → MemberMove x s s' → Does s (quiet s')
  lands s s' move = moved s s' (quiet s') move (rests s')

  lands_said : (s s' : VrState) (more : List VrLetter) → MemberMove x s s' → ((l : VrLetter) → IsIn l more → IsSaidByMember s' l) → Does s (sends s' more)
  lands_said s s' more move all = moved s s' (sends s' more) move (said s' more all)

  chained : (s : VrState) (first : VrStep) (next : VrState → VrStep) → Does s first → Does first.state (next first.state) → Does s (then_step first next)
  chained s first next f g ls h =
      subst (λ (l : List VrLetter). P (next first.state).state l) (append_assoc ls first.letters (next first.state).letters) (g (ls ++ first.letters) (f ls h))

  checked : (s : VrState) (step : VrStep) → (is_sound s step.state ≡ true → Does s step) → Does s (guarded s step)
  checked s step go = cond_both (is_sound s step.state) step (quiet s) (Does s) go (λ _. rests s)

  acknowledged : (s s' : VrState) (k : ℕ) → MemberMove x s (record s' { commit = max s'.commit (min k (length s'.log)) }) → Does s (acknowledges s' k)
  acknowledged s s' k move = moved s _ (acknowledges s' k) move (said _ _ (one_said _ _ (λ l e. Acknowledges _ e)))

  asked : (s : VrState) (to view op : ℕ) → Does s (tells s to (message.GetState view op))
  asked s to view op = said s _ (one_said s _ (λ l e. AsksLog to view op e))

  -- the normal case
  here_normal : (s : VrState) (view : ℕ) → is_here s view ≡ true → is_normal s ≡ true
  here_normal s view h = (and_parts (is_normal s) (nat_eq view s.view) h).0

  prepares_does : (s : VrState) (from view op commit : ℕ) (entry : Entry) → is_normal s ≡ true → x ≡ vr_input.From from (message.Prepare view op commit entry) → Does s (prepares s op commit entry)
  prepares_does s from view op commit entry normal is =
      cond_both (nat_le op (length s.log)) _ _ (Does s)
      (λ old. acknowledged s s commit (Commits _ normal (omega arith) (omega arith) refl))
      (λ _. cond_both (nat_eq op (length s.log + 1)) _ _ (Does s)
      (λ next. cond_both (fits s.log entry) _ _ (Does s)
      (λ fit. acknowledged s (record s { log = s.log ++ entry ∷ [] }) commit
      (Appends commit (entry ∷ []) normal (rw fit refl) (One from view entry (is ∙ ap (λ (n : ℕ). vr_input.From from (message.Prepare view n commit entry)) (eqb-true op (length s.log + 1) next)) refl) refl))
      (λ _. rests s))
      (λ _. asked s _ _ _))

  later_does : (s : VrState) (view : ℕ) → Does s (asks_later s view)
  later_does s view = cond_both (is_later s view) _ _ (Does s) (λ _. asked s _ _ _) (λ _. rests s)

  -- a message of another member
  of_other : (s : VrState) (from : ℕ) (step : VrStep) → (is_other s from ≡ true → Does s step) → Does s (if is_other s from then step else quiet s)
  of_other s from step go = cond_both (is_other s from) step (quiet s) (Does s) go (λ _. rests s)

  -- one of the primary of a view
  of_primary : (s : VrState) (from view : ℕ) (step : VrStep) → (is_normal s ≡ true → Does s step) → Does s (from_primary s from view step)
  of_primary s from view step go =
      of_other s from _ (λ _. cond_both (is_primary_of s from view) _ _ (Does s)
      (λ _. cond_both (is_here s view) _ _ (Does s) (λ here. go (here_normal s view here)) (λ _. later_does s view))
      (λ _. rests s))

  prepare_does : (s : VrState) (from view op commit : ℕ) (entry : Entry) → x ≡ vr_input.From from (message.Prepare view op commit entry) → Does s (prepare s from view op commit entry)
  prepare_does s from view op commit entry is = of_primary s from view (prepares s op commit entry) (λ normal. prepares_does s from view op commit entry normal is)

  commit_does : (s : VrState) (from view commit : ℕ) → Does s (commit_told s from view commit)
  commit_does s from view commit =
      of_primary s from view (commits s commit) (λ normal. cond_both (nat_le commit (length s.log)) _ _ (Does s)
      (λ low. let l = leb-true commit (length s.log) low in lands s _ (Commits (max s.commit commit) normal (omega arith) (omega arith) refl))
      (λ _. asked s _ _ _))

  agreed_within : (s : VrState) → (s.commit ≤ agreed s) × (agreed s ≤ max s.commit (length s.log))
  agreed_within s = (greatest_least s.commit (filter (is_agreed s) (ops (length s.log))), greatest_most (is_agreed s) s.commit (length s.log))

  ok_does : (s : VrState) (from view op : ℕ) → Does s (prepare_ok s from view op)
  ok_does s from view op =
      of_other s from _ (λ _. cond_both (is_counted s view op) _ _ (Does s)
      (λ ok.
      let here = (and_parts (is_here s view) (is_primary s) (and_parts (is_here s view && is_primary s) (nat_le op (length s.log)) ok).0).0 in
      let w = agreed_within (acked_by s from op) in
      moved s (acked_by s from op) (quiet (counted (acked_by s from op))) (Tallies s.votes s.sent _ refl) (lands (acked_by s from op) _ (Commits _ (here_normal s view here) w.0 w.1 refl)))
      (λ _. rests s))

  -- entering a view, and its start
  chosen_does : (s : VrState) (all : List Collected) → s.collected ≡ all → may_choose s ≡ true → is_sound s (chooses_from s all).state ≡ true → Does s (chooses_from s all)
  chosen_does s [] is may = λ _. rests s
  chosen_does s (c ∷ cs) is may =
      cond_both (reaches s (best_of c cs)) _ _ (λ t. is_sound s t.state ≡ true → Does s t)
      (λ long sound. lands_said s (starts s c cs).state (starts s c cs).letters
      (Starts c cs is may (leb-true (best_of c cs).commit (length (front s)) long) sound refl)
      (mapped_said (starts s c cs).state _ _ (λ j l e. TellsStart j e)))
      (λ _ _. said s _ (one_said s _ (λ l e. AsksFront _ e)))

  chooses_does : (s : VrState) → is_sound s (chooses s).state ≡ true → Does s (chooses s)
  chooses_does s = cond_both (may_choose s) _ _ (λ t. is_sound s t.state ≡ true → Does s t) (λ may. chosen_does s s.collected refl may) (λ _ _. rests s)

  -- a step that a start may follow
  abbrev GoesOn : VrState → VrStep → Type 0
  GoesOn s step = is_sound s (then_step step chooses).state ≡ true → Does s (then_step step chooses)

  sends_log_goes_on : (s : VrState) → GoesOn s (sends_log s)
  sends_log_goes_on s =
      let sent : VrState = record s { sent = true } in
      let own : VrState = record s { collected = s.collected ++ own_log s ∷ [] } in
      let both : VrState = record s { collected = s.collected ++ own_log s ∷ []; sent = true } in
      let told : VrStep = tells sent (primary_of s s.view) (message.DoViewChange s.view s.normal s.commit (drop s.commit s.log)) in
      cond_both (is_primary s) (quiet (record (collects s (own_log s)) { sent = true })) told (GoesOn s)
      (λ _. cond_both (has_collected s s.me) s own (λ (u : VrState). GoesOn s (quiet (record u { sent = true })))
      (λ _ sound. chained s (quiet sent) chooses (lands s sent (Tallies s.votes true s.acked refl)) (chooses_does sent sound))
      (λ _ sound. chained s (quiet both) chooses
      (moved s own (quiet both) (Collects (own_log s) (inl refl) refl) (lands own both (Tallies s.votes true s.acked refl)))
      (chooses_does both sound)))
      (λ _ sound. chained s told chooses
      (lands_said s sent told.letters (Tallies s.votes true s.acked refl) (one_said sent _ (λ l e. SendsLog _ e)))
      (chooses_does sent sound))

  check_does : (s : VrState) → is_sound s (check s).state ≡ true → Does s (check s)
  check_does s =
      cond_both (nat_le (most_failures s) (length s.votes) && not s.sent) (sends_log s) (quiet s) (GoesOn s)
      (λ _. sends_log_goes_on s) (λ _ sound. chained s (quiet s) chooses (rests s) (chooses_does s sound))

  enter_does : (s : VrState) (view : ℕ) → s.view < view → TellsView x view → Does s (enter s view)
  enter_does s view less has = lands_said s (entered_view s view) (to_others s (message.StartViewChange view)) (Enters view less has refl) (mapped_said (entered_view s view) _ _ (λ j l e. AsksVote j e))

  enters_does : (s : VrState) (view : ℕ) → s.view < view → TellsView x view → Does s (guarded s (enters s view))
  enters_does s view less has = checked s (enters s view) (λ sound. chained s (enter s view) check (enter_does s view less has) (check_does (entered_view s view) sound))

  later_is : (s : VrState) (view : ℕ) → is_later s view ≡ true → s.view < view
  later_is s view h = ltb-true s.view view (and_parts (is_up s) (nat_lt s.view view) h).1

  suspect_does : (s : VrState) (view : ℕ) → x ≡ vr_input.Suspect view → Does s (suspect s view)
  suspect_does s view is = cond_both (is_later s view) _ _ (Does s) (λ later. enters_does s view (later_is s view later) (Suspected is)) (λ _. rests s)

  vote_does : (s : VrState) (from : ℕ) → Does s (vote_here s from)
  vote_does s from =
      cond_both (is_changing s) _ _ (Does s)
      (λ _. checked s (check (voted s from)) (λ sound. moved s (voted s from) (check (voted s from)) (Tallies _ s.sent s.acked refl) (check_does (voted s from) sound)))
      (λ _. cond_both (leads s) _ _ (Does s) (λ _. said s _ (one_said s _ (λ l e. TellsStart from e))) (λ _. rests s))

  change_does : (s : VrState) (from view : ℕ) → x ≡ vr_input.From from (message.StartViewChange view) → Does s (start_view_change s from view)
  change_does s from view is =
      of_other s from _ (λ _. cond_both (is_later s view) _ _ (Does s)
      (λ later. checked s (then_step (enter s view) (λ next. check (voted next from))) (λ sound.
      chained s (enter s view) (λ next. check (voted next from)) (enter_does s view (later_is s view later) (Told from (message.StartViewChange view) is refl))
      (moved (entered_view s view) (voted (entered_view s view) from) (check (voted (entered_view s view) from)) (Tallies _ false s.acked refl) (check_does (voted (entered_view s view) from) sound))))
      (λ _. cond_both (nat_eq view s.view) _ _ (Does s) (λ _. vote_does s from) (λ _. rests s)))

  collects_does : (s : VrState) (view : ℕ) (c : Collected) → is_other s c.from ≡ true → x ≡ vr_input.From c.from (message.DoViewChange view c.normal c.commit c.log) → is_sound s (check (collects s c)).state ≡ true → Does s (check (collects s c))
  collects_does s view c other is =
      cond_both (has_collected s c.from) _ _ (λ u. is_sound s (check u).state ≡ true → Does s (check u))
      (λ _ sound. check_does s sound)
      (λ _ sound. moved s (record s { collected = s.collected ++ c ∷ [] }) (check (record s { collected = s.collected ++ c ∷ [] })) (Collects c (inr (view, other, is)) refl) (check_does (record s { collected = s.collected ++ c ∷ [] }) sound))

  collect_does : (s : VrState) (view : ℕ) (c : Collected) → is_other s c.from ≡ true → x ≡ vr_input.From c.from (message.DoViewChange view c.normal c.commit c.log) → Does s (collect s view c)
  collect_does s view c other is =
      cond_both (is_later s view) _ _ (Does s)
      (λ later. checked s (then_step (enter s view) (λ next. check (collects next c))) (λ sound.
      chained s (enter s view) (λ next. check (collects next c)) (enter_does s view (later_is s view later) (Told c.from (message.DoViewChange view c.normal c.commit c.log) is refl))
      (collects_does (entered_view s view) view c other is sound)))
      (λ _. cond_both (nat_eq view s.view && is_changing s) _ _ (Does s)
      (λ _. checked s (check (collects s c)) (collects_does s view c other is))
      (λ _. rests s))

  log_does : (s : VrState) (from view normal commit : ℕ) (log : List Entry) → x ≡ vr_input.From from (message.DoViewChange view normal commit log) → Does s (do_view_change s from view normal commit log)
  log_does s from view normal commit log is =
      of_other s from _ (λ other. cond_both (is_primary_of s s.me view) _ _ (Does s) (λ _. collect_does s view _ other is) (λ _. rests s))

  -- a log of a view that has started
  adopt_said : (s : VrState) (commit : ℕ) (l : VrLetter) → IsIn l (adopt_letters s commit) → IsSaidByMember s l
  adopt_said s commit = cond_both (nat_lt commit (length s.log)) _ _ (λ ls. (l : VrLetter) → IsIn l ls → IsSaidByMember s l) (λ _. one_said s _ (λ l e. Acknowledges _ e)) (λ _ l h. absurd h)

  adopt_does : (s : VrState) (view first commit : ℕ) (log : List Entry) → ShowsMember x view first commit log → is_newer s view ≡ true →
      is_sound s (adopt s view first commit log).state ≡ true → Does s (adopt s view first commit log)
  adopt_does s view first commit log shows newer =
      cond_both (nat_lt s.commit first) _ _ (λ t. is_sound s t.state ≡ true → Does s t)
      (λ _ sound. asked s _ _ _)
      (λ low sound. let l = ltb-false s.commit first low in
      lands_said s (adopted_log s view first commit log) (adopt_letters (adopted_log s view first commit log) commit) (Adopts view first commit log shows newer (omega arith) sound refl) (adopt_said (adopted_log s view first commit log) commit))

  view_does : (s : VrState) (from view first commit : ℕ) (log : List Entry) → x ≡ vr_input.From from (message.StartView view first commit log) → Does s (start_view s from view first commit log)
  view_does s from view first commit log is =
      of_other s from _ (λ _. cond_both (is_primary_of s from view && is_newer s view) _ _ (Does s)
      (λ ok. checked s (adopt s view first commit log) (adopt_does s view first commit log (Starting from is) (and_parts (is_primary_of s from view) (is_newer s view) ok).1))
      (λ _. rests s))

  fetch_does : (s : VrState) (from view op : ℕ) → Does s (fetch s from view op)
  fetch_does s from view op =
      of_other s from _ (λ _. cond_both (is_change s view && nat_le op s.commit) _ _ (Does s)
      (λ ok. said s _ (one_said s _ (λ l e. TellsFront from op (leb-true op s.commit (and_parts (is_change s view) (nat_le op s.commit) ok).1) e)))
      (λ _. rests s))

  supply_does : (s : VrState) (from view first : ℕ) (log : List Entry) → x ≡ vr_input.From from (message.Supply view first log) → Does s (supply s from view first log)
  supply_does s from view first log is =
      of_other s from _ (λ _. cond_both (is_message_wanted s view first log) _ _ (Does s)
      (λ ok.
      let low = (and_parts (is_change s view && is_primary s) (nat_le first s.commit) (and_parts (is_change s view && is_primary s && nat_le first s.commit) (nat_lt (length (front s)) (first + length log)) ok).0).1 in
      checked s (check (supplied s first log)) (λ sound.
      moved s (supplied s first log) (check (supplied s first log)) (Stocks from view first log is (leb-true first s.commit low) refl) (check_does (supplied s first log) sound)))
      (λ _. rests s))

  -- state transfer and recovery
  get_does : (s : VrState) (from view op : ℕ) → Does s (get_state s from view op)
  get_does s from view op =
      of_other s from _ (λ _. cond_both (is_answered s view op) _ _ (Does s)
      (λ ok. said s _ (one_said s _ (λ l e. TellsLog from op (leb-true op (length s.log) (and_parts (is_here s view) (nat_le op (length s.log)) ok).1) e)))
      (λ _. rests s))

  new_does : (s : VrState) (from view first commit : ℕ) (log : List Entry) → x ≡ vr_input.From from (message.NewState view first commit log) → Does s (new_state s from view first commit log)
  new_does s from view first commit log is =
      of_other s from _ (λ _. cond_both (is_longer s view first log) _ _ (Does s)
      (λ ok.
      let a = and_parts (is_here s view && not (is_primary s)) (nat_le first (length s.log)) (and_parts (is_here s view && not (is_primary s) && nat_le first (length s.log)) (nat_lt (length s.log) (first + length log)) ok).0 in
      let normal = here_normal s view (and_parts (is_here s view) (not (is_primary s)) a.0).0 in
      cond_both (follows s.log (lacking s first log)) _ _ (Does s)
      (λ fit. acknowledged s (record s { log = s.log ++ lacking s first log }) commit (Appends commit (lacking s first log) normal fit (Several from view first log is (leb-true first (length s.log) a.1) refl) refl))
      (λ _. rests s))
      (λ _. cond_both (is_adopted s view first) _ _ (Does s)
      (λ ok.
      let newer = (and_parts (not (is_primary_of s s.me view) && nat_le first s.commit) (is_newer s view) ok).1 in
      checked s (adopt s view first commit log) (adopt_does s view first commit log (Standing from is) newer))
      (λ _. rests s)))

  recovery_does : (s : VrState) (from nonce promise : ℕ) → x ≡ vr_input.From from (message.Recovery nonce promise) → Does s (recovery s from nonce promise)
  recovery_does s from nonce promise is =
      of_other s from _ (λ _. cond_both (is_normal s) _ _ (Does s)
      (λ _. cond_both (nat_lt s.view promise) _ _ (Does s)
      (λ less. enters_does s promise (ltb-true s.view promise less) (Told from (message.Recovery nonce promise) is refl))
      (λ _. said s _ (one_said s _ (λ l e. Answers from nonce e))))
      (λ _. rests s))

  ends_does : (s : VrState) (o : Option Filled) → ending s ≡ o → is_recovering s ≡ true → is_sound s (ends_with s (greatest_view_told s.responses) o).state ≡ true → Does s (ends_with s (greatest_view_told s.responses) o)
  ends_does s None is off = λ _. rests s
  ends_does s (Some told) is off =
      let view = greatest_view_told s.responses in
      let bare : VrState = record s { responses = [] } in
      let known : primary_log s view ≡ Some told = cond_both (are_responses_enough s) (primary_log s view) None (λ (o : Option Filled). o ≡ Some told → primary_log s view ≡ Some told) (λ _ e. e) (λ _ e. absurd cc) is in
      let r = of_response s view told (find (λ r. nat_eq r.from (primary_of s view)) s.responses) refl known in
      cond_both (nat_lt s.commit 0) _ _ (λ t. is_sound s t.state ≡ true → Does s t)
      (λ less sound. let l = ltb-true s.commit 0 less in absurd (omega arith))
      (λ _ sound.
      lands_said s (adopted_log bare view 0 told.commit told.log) (adopt_letters (adopted_log bare view 0 told.commit told.log) told.commit) (Recovers view r.r told r.among r.view_is r.filled_is off sound refl)
      (adopt_said (adopted_log bare view 0 told.commit told.log) told.commit))

  response_does : (s : VrState) (from view nonce : ℕ) (f : Option Filled) → x ≡ vr_input.From from (message.RecoveryResponse view nonce f) → Does s (response s from view nonce f)
  response_does s from view nonce f is =
      of_other s from _ (λ _. cond_both (is_recovering s && nat_eq nonce s.life) _ _ (Does s)
      (λ ok.
      let off = (and_parts (is_recovering s) (nat_eq nonce s.life) ok).0 in
      let r : Response = record { from = from; view = view; filled = f } in
      let now : VrState = responded s r in
      checked s (recovers now) (λ sound. moved s now (recovers now) (Keeps r nonce is refl) (ends_does now (ending now) refl off sound)))
      (λ _. rests s))

  -- what is sent again
  repeats_said : (s : VrState) (to : ℕ) (l : VrLetter) → IsIn l (repeats_to s to) → IsSaidByMember s l
  repeats_said s to =
      cond_both (nat_eq s.commit (length s.log)) _ _ (λ ls. (l : VrLetter) → IsIn l ls → IsSaidByMember s l)
      (λ _. one_said s _ (λ l e. TellsCommit to e))
      (λ _. prepares_said s s.commit (repeated s) to (λ i e h. get_dropped s.commit 8 s.log i e h) (omega arith))

  fetches_said : (s : VrState) (all : List Collected) (l : VrLetter) → IsIn l (fetch_from s all) → IsSaidByMember s l
  fetches_said s [] = λ l h. absurd h
  fetches_said s (c ∷ cs) = cond_both (reaches s (best_of c cs)) _ _ (λ ls. (l : VrLetter) → IsIn l ls → IsSaidByMember s l) (λ _ l h. absurd h) (λ _. one_said s _ (λ l e. AsksFront _ e))

  changing_said : (s : VrState) (l : VrLetter) → IsIn l (to_others s (message.StartViewChange s.view) ++ sent_log s ++ fetches s) → IsSaidByMember s l
  changing_said s =
      both_said s (to_others s (message.StartViewChange s.view) ++ sent_log s) (fetches s)
      (both_said s (to_others s (message.StartViewChange s.view)) (sent_log s) (mapped_said s _ _ (λ j l e. AsksVote j e))
      (cond_both (s.sent && not (is_primary s)) _ _ (λ ls. (l : VrLetter) → IsIn l ls → IsSaidByMember s l) (λ _. one_said s _ (λ l e. SendsLog _ e)) (λ _ l h. absurd h)))
      (cond_both (may_choose s) _ _ (λ ls. (l : VrLetter) → IsIn l ls → IsSaidByMember s l) (λ _. fetches_said s s.collected) (λ _ l h. absurd h))

  ticked_by : (s : VrState) (status : Status) → Does s (elim status [ Normal ↦ (if is_primary s then tick_primary s else quiet s) | ViewChange ↦ tick_changing s | Recovering ↦ tick_recovering s | Down ↦ quiet s ])
  ticked_by s Normal =
      cond_both (is_primary s) _ _ (Does s) (λ _. said s _ (λ l h. let r = in_flat_map (repeats_to s) (others s) l h in repeats_said s r.0 l r.2)) (λ _. rests s)
  ticked_by s ViewChange = said s _ (changing_said s)
  ticked_by s Recovering = said s _ (mapped_said s _ _ (λ j l e. AsksAll j e))
  ticked_by s Down = rests s

  on_does : (s : VrState) (from : ℕ) (m : VrMessage) → x ≡ vr_input.From from m → Does s (on_vr s from m)
  unfolding on_vr
  on_does s from (message.Prepare view op commit entry) is = prepare_does s from view op commit entry is
  on_does s from (message.PrepareOk view op) is = ok_does s from view op
  on_does s from (message.Commit view commit) is = commit_does s from view commit
  on_does s from (message.StartViewChange view) is = change_does s from view is
  on_does s from (message.DoViewChange view normal commit log) is = log_does s from view normal commit log is
  on_does s from (message.StartView view first commit log) is = view_does s from view first commit log is
  on_does s from (message.Recovery nonce promise) is = recovery_does s from nonce promise is
  on_does s from (message.RecoveryResponse view nonce f) is = response_does s from view nonce f is
  on_does s from (message.GetState view op) is = get_does s from view op
  on_does s from (message.NewState view first commit log) is = new_does s from view first commit log is
  on_does s from (message.Fetch view op) is = fetch_does s from view op
  on_does s from (message.Supply view first log) is = supply_does s from view first log is

  member_does : (s : VrState) (y : VrInput) → x ≡ y → Does s (vr_step s y)
  member_does s (vr_input.From from m) is = on_does s from m is
  member_does s (vr_input.Suspect view) is = suspect_does s view is
  member_does s vr_input.Tick is = ticked_by s s.status

  -- what each move and each letter keeps, a step keeps
  pub step_keeps : (s : VrState) → P s [] → P (vr_step s x).state (vr_step s x).letters
  step_keeps s h = member_does s x refl [] h
