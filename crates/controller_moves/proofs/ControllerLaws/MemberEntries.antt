-- Entries come from where they stood: what is true of each, at its place, is true of all that a member has and
-- says behind a move.
use Rattle.std.proofs.Common.{inl, inr, ◌⊎◌, ◌≡◌, ◌≤◌, ℕ, ◌+◌, ◌-◌, Bool, true, false, List, [], ◌∷◌, ◌++◌, length, take, drop, zero, suc, refl, sym, ap, subst, ◌∙◌, arith, length-append}
use Rattle.std.specs.Prelude.{nat_eq, nat_lt, min, max, Option, Some, None, if◌then◌else◌}
use Rattle.std.proofs.lemmas.Bool.{cond_both}
use Rattle.std.proofs.lemmas.List.{length-take-le}
use Rattle.vr_log.specs.declared.entry.Entry.{Entry}
use Rattle.vr_log.specs.declared.message.Filled.{Filled}
use Rattle.vr_log.specs.declared.message.VrLetter.{VrLetter}
use Rattle.vr_log.specs.declared.message.VrMessage.TheVariants as message
use Rattle.vr_log.specs.declared.state.Collected.{Collected}
use Rattle.vr_log.specs.declared.state.Response.{Response}
use Rattle.vr_log.specs.declared.state.Supplied.{Supplied}
use Rattle.vr_log.specs.declared.state.VrState.{VrState}
use Rattle.vr_log.specs.Members.{most_failures, is_primary}
use Rattle.vr_log.specs.Choosing.{best_of, least_commit, greatest_commit, front_with, front}
use Rattle.view_change.specs.Entering.{started_view}
use Rattle.view_change.specs.Adopting.{adopted_log}
use Rattle.vr_recovery.specs.Cases.{lacking}
use Rattle.vr_recovery.specs.Recovering.{filled, newest, with_response}
use Rattle.vr_core.specs.declared.input.VrInput.{VrInput}
use Rattle.list_facts.proofs.Elements.{in_append}
use Rattle.list_facts.specs.Lists.{IsIn}
use Rattle.controller_moves.specs.ControllerLaws.Entries.{EachFrom, IsGoodBeside, StateHolds, FilledHolds, MessageHolds, MemberInputHolds, BoundRises, IsConsistent}
use Rattle.controller_moves.specs.ControllerLaws.MemberMoves.{Brings, One, Several, ShowsMember, Starting, Standing, MemberMove, Enters, Tallies, Collects, Stocks, Starts, Adopts, Recovers, Appends, Commits, Keeps, IsSaidByMember, AsksVote, SendsLog, TellsStart, Repeats, TellsCommit, Acknowledges, AsksLog, AsksAll, Answers, TellsLog, AsksFront, TellsFront}
use Rattle.controller_moves.proofs.ControllerLaws.MemberLogs.{best_among, most_of_all}
use Rattle.controller_moves.proofs.ControllerLaws.Places.{stands_append, stands_take, stands_drop, stands_get, raised, covered, bare}

-- a response that is kept
newest_choice : (b : Bool) (kept r y : Response) → y ≡ (if b then r else kept) → (y ≡ r) ⊎ (y ≡ kept)
newest_choice true kept r y e = inl e
newest_choice false kept r y e = inr e

-- of responses, with one more
response_choice : (b : Bool) (kept r y : Response) (rest others : List Response) → (IsIn y others → (y ≡ r) ⊎ IsIn y rest) → IsIn y (if b then newest kept r ∷ rest else kept ∷ others) → (y ≡ r) ⊎ IsIn y (kept ∷ rest)
response_choice true kept r y rest others go (inl e) = elim (newest_choice (nat_lt kept.view r.view) kept r y e) [ inl a ↦ inl a | inr b ↦ inr (inl b) ]
response_choice true kept r y rest others go (inr k) = inr (inr k)
response_choice false kept r y rest others go (inl e) = inr (inl e)
response_choice false kept r y rest others go (inr k) = elim (go k) [ inl a ↦ inl a | inr b ↦ inr (inr b) ]

-- a response that is kept came, or was there
pub response_among : (all : List Response) (r y : Response) → IsIn y (with_response all r) → (y ≡ r) ⊎ IsIn y all
response_among [] r y h = h
response_among (kept ∷ all) r y h = response_choice (nat_eq kept.from r.from) kept r y all (with_response all r) (response_among all r y) h

module _ (IsGood : ℕ → Entry → Type 0) (IsBound : ℕ → ℕ → Entry → Type 0) (grows : BoundRises IsBound) where
  front_of_log : (s : VrState) (k : ℕ) → k ≤ length s.log → StateHolds IsGood IsBound s → EachFrom IsGood 0 (take k s.log)
  front_of_log s k within h = stands_take IsGood 0 k s.log (bare IsGood IsBound grows s.commit 0 s.log h.log)

  front_of : (s : VrState) (q : Option Supplied) → s.supply ≡ q → IsConsistent s → StateHolds IsGood IsBound s → EachFrom IsGood 0 (front_with s q)
  front_of s None is k h = front_of_log s s.commit k.commit h
  front_of s (Some p) is k h =
      let low = k.supply p is in
      let within = k.commit in
      let short : length (take p.first s.log) ≡ p.first = length-take-le p.first s.log (omega (arith, low, within)) in
      let place : p.first ≡ 0 + length (take p.first s.log) = omega (arith, short) in
      stands_append IsGood 0 (take p.first s.log) p.log (front_of_log s p.first (omega (arith, low, within)) h) (subst (λ (n : ℕ). EachFrom IsGood n p.log) place (h.supply p is))

  raised_log : (s : VrState) (k : ℕ) → s.commit ≤ k → StateHolds IsGood IsBound s → EachFrom (IsGoodBeside IsGood IsBound k) 0 s.log
  raised_log s k low h = raised IsGood IsBound grows s.commit k 0 s.log (inl low) h.log

  -- two parts, each at its place
  joined : (k n : ℕ) (xs ys : List Entry) → length xs ≡ n → EachFrom (IsGoodBeside IsGood IsBound k) 0 xs → EachFrom (IsGoodBeside IsGood IsBound k) n ys → EachFrom (IsGoodBeside IsGood IsBound k) 0 (xs ++ ys)
  joined k n xs ys is h g = let place : n ≡ 0 + length xs = omega (arith, is) in stands_append (IsGoodBeside IsGood IsBound k) 0 xs ys h (subst (λ (m : ℕ). EachFrom (IsGoodBeside IsGood IsBound k) m ys) place g)

  -- a view that starts
  start_choice : (b : Bool) (log : List Entry) (k : ℕ) → EachFrom IsGood 0 log → EachFrom (IsGoodBeside IsGood IsBound k) 0 log → EachFrom (IsGoodBeside IsGood IsBound (if b then length log else k)) 0 log
  start_choice true log k all most = covered IsGood IsBound grows (length log) 0 log (omega arith) all
  start_choice false log k all most = most

  starts_holds : (s : VrState) (c : Collected) (cs : List Collected) → IsConsistent s → StateHolds IsGood IsBound s → s.collected ≡ c ∷ cs → (best_of c cs).commit ≤ length (front s) →
      StateHolds IsGood IsBound (started_view s (take (best_of c cs).commit (front s) ++ (best_of c cs).log) (least_commit c.commit cs) (greatest_commit c.commit cs))
  starts_holds s c cs kept h is long =
      let best = best_of c cs in
      let most = greatest_commit c.commit cs in
      let low : best.commit ≤ most = most_of_all c cs best (best_among c cs) in
      let among : IsIn best s.collected = subst (λ (l : List Collected). IsIn best l) (sym is) (best_among c cs) in
      let short : length (take best.commit (front s)) ≡ best.commit = length-take-le best.commit (front s) long in
      let fronts = stands_take IsGood 0 best.commit (front s) (front_of s s.supply refl kept h) in
      let first = covered IsGood IsBound grows most 0 (take best.commit (front s)) (omega (arith, short, low)) fronts in
      let rest = raised IsGood IsBound grows best.commit most best.commit best.log (inl low) (h.collected best among) in
      let whole = joined most best.commit (take best.commit (front s)) best.log short first rest in
      record {
        log = start_choice (nat_eq (most_failures s) 0) (take best.commit (front s) ++ best.log) most (bare IsGood IsBound grows most 0 _ whole) whole;
        collected = h.collected;
        responses = h.responses;
        supply = λ p e. absurd cc;
      }

  -- a log that is adopted
  adopts_holds : (s : VrState) (view first commit : ℕ) (log : List Entry) → IsConsistent s → StateHolds IsGood IsBound s → first ≤ s.commit → EachFrom (IsGoodBeside IsGood IsBound commit) first log →
      StateHolds IsGood IsBound (adopted_log s view first commit log)
  adopts_holds s view first commit log kept h low came =
      let within = kept.commit in
      let k = max s.commit commit in
      let short : length (take first s.log) ≡ first = length-take-le first s.log (omega (arith, low, within)) in
      record {
        log = joined k first (take first s.log) log short (stands_take (IsGoodBeside IsGood IsBound k) 0 first s.log (raised_log s k (omega arith) h)) (raised IsGood IsBound grows commit k first log (inl (omega arith)) came);
        collected = h.collected;
        responses = h.responses;
        supply = λ p e. absurd cc;
      }

  with_commit : (s : VrState) (k : ℕ) → s.commit ≤ k → StateHolds IsGood IsBound s → StateHolds IsGood IsBound (record s { commit = k })
  with_commit s k low h = record { log = raised_log s k low h; collected = h.collected; responses = h.responses; supply = h.supply }

  within_or : (a b : ℕ) → (a ≤ b) ⊎ (b ≤ a)
  within_or zero b = inl (omega arith)
  within_or (suc a) zero = inr (omega arith)
  within_or (suc a) (suc b) = elim (within_or a b) [ inl l ↦ inl (omega (arith, l)) | inr l ↦ inr (omega (arith, l)) ]

  -- entries that join the log
  appends_holds : (s : VrState) (commit : ℕ) (more : List Entry) → IsConsistent s → StateHolds IsGood IsBound s → EachFrom (IsGoodBeside IsGood IsBound commit) (length s.log) more →
      StateHolds IsGood IsBound (record s { log = s.log ++ more; commit = max s.commit (min commit (length (s.log ++ more))) })
  appends_holds s commit more kept h came =
      let size = length-append s.log more in
      let k = max s.commit (min commit (length (s.log ++ more))) in
      let over : (commit ≤ k) ⊎ (length s.log + length more ≤ k) = elim (within_or commit (length (s.log ++ more))) [ inl l ↦ inl (omega (arith, l)) | inr l ↦ inr (omega (arith, l, size)) ] in
      record {
        log = joined k (length s.log) s.log more refl (raised_log s k (omega arith) h) (raised IsGood IsBound grows commit k (length s.log) more over came);
        collected = h.collected;
        responses = h.responses;
        supply = h.supply;
      }

  brings_holds : (x : VrInput) (s : VrState) (commit : ℕ) (more : List Entry) → MemberInputHolds IsGood IsBound x → Brings x s commit more → EachFrom (IsGoodBeside IsGood IsBound commit) (length s.log) more
  brings_holds x s commit more input (One from view entry asks is) =
      let m : MessageHolds IsGood IsBound (message.Prepare view (length s.log + 1) commit entry) = subst (λ (y : VrInput). MemberInputHolds IsGood IsBound y) asks input in
      subst (λ (l : List Entry). EachFrom (IsGoodBeside IsGood IsBound commit) (length s.log) l) (sym is) (m (length s.log) refl, tt)
  brings_holds x s commit more input (Several from view first log asks low is) =
      let m : EachFrom (IsGoodBeside IsGood IsBound commit) first log = subst (λ (y : VrInput). MemberInputHolds IsGood IsBound y) asks input in
      let place : first + (length s.log - first) ≡ length s.log = omega (arith, low) in
      subst (λ (l : List Entry). EachFrom (IsGoodBeside IsGood IsBound commit) (length s.log) l) (sym is)
      (subst (λ (n : ℕ). EachFrom (IsGoodBeside IsGood IsBound commit) n (lacking s first log)) place (stands_drop (IsGoodBeside IsGood IsBound commit) first (length s.log - first) log m))

  shows_holds : (x : VrInput) (view first commit : ℕ) (log : List Entry) → MemberInputHolds IsGood IsBound x → ShowsMember x view first commit log → EachFrom (IsGoodBeside IsGood IsBound commit) first log
  shows_holds x view first commit log input (Starting from asks) = subst (λ (y : VrInput). MemberInputHolds IsGood IsBound y) asks input
  shows_holds x view first commit log input (Standing from asks) = subst (λ (y : VrInput). MemberInputHolds IsGood IsBound y) asks input

  collects_holds : (s : VrState) (c : Collected) → StateHolds IsGood IsBound s → EachFrom (IsGoodBeside IsGood IsBound c.commit) c.commit c.log → StateHolds IsGood IsBound (record s { collected = s.collected ++ c ∷ [] })
  collects_holds s c h came =
      record {
        log = h.log;
        collected = λ d k. elim (in_append d s.collected (c ∷ []) k) [
          | inl old ↦ h.collected d old
          | inr new ↦ elim new [
            | inl same ↦ subst (λ (y : Collected). EachFrom (IsGoodBeside IsGood IsBound y.commit) y.commit y.log) (sym same) came
            | inr none ↦ absurd none
          ]
        ];
        responses = h.responses;
        supply = h.supply;
      }

  own_holds : (s : VrState) → StateHolds IsGood IsBound s → EachFrom (IsGoodBeside IsGood IsBound s.commit) s.commit (drop s.commit s.log)
  own_holds s h = let place : 0 + s.commit ≡ s.commit = omega arith in subst (λ (n : ℕ). EachFrom (IsGoodBeside IsGood IsBound s.commit) n (drop s.commit s.log)) place (stands_drop (IsGoodBeside IsGood IsBound s.commit) 0 s.commit s.log h.log)

  dropped_holds : (s : VrState) (n : ℕ) → StateHolds IsGood IsBound s → EachFrom (IsGoodBeside IsGood IsBound s.commit) n (drop n s.log)
  dropped_holds s n h = let place : 0 + n ≡ n = omega arith in subst (λ (m : ℕ). EachFrom (IsGoodBeside IsGood IsBound s.commit) m (drop n s.log)) place (stands_drop (IsGoodBeside IsGood IsBound s.commit) 0 n s.log h.log)

  told_holds : (view nonce : ℕ) (o : Option Filled) → MessageHolds IsGood IsBound (message.RecoveryResponse view nonce o) → (told : Filled) → o ≡ Some told → EachFrom (IsGoodBeside IsGood IsBound told.commit) 0 told.log
  told_holds view nonce o h told is = subst (λ (q : Option Filled). FilledHolds IsGood IsBound q) is h

  pub move_holds : (x : VrInput) (s s' : VrState) → MemberInputHolds IsGood IsBound x → IsConsistent s → MemberMove x s s' → StateHolds IsGood IsBound s → StateHolds IsGood IsBound s'
  move_holds x s s' input kept (Enters view less has is) h =
      subst (λ (t : VrState). StateHolds IsGood IsBound t) (sym is) (record { log = h.log; collected = λ c k. absurd k; responses = h.responses; supply = λ p e. absurd cc })
  move_holds x s s' input kept (Tallies votes sent acked is) h =
      subst (λ (t : VrState). StateHolds IsGood IsBound t) (sym is) (record { log = h.log; collected = h.collected; responses = h.responses; supply = h.supply })
  move_holds x s s' input kept (Collects c (inl own) is) h =
      subst (λ (t : VrState). StateHolds IsGood IsBound t) (sym is) (collects_holds s c h (subst (λ (y : Collected). EachFrom (IsGoodBeside IsGood IsBound y.commit) y.commit y.log) (sym own) (own_holds s h)))
  move_holds x s s' input kept (Collects c (inr k) is) h =
      subst (λ (t : VrState). StateHolds IsGood IsBound t) (sym is) (collects_holds s c h (subst (λ (y : VrInput). MemberInputHolds IsGood IsBound y) k.2 input))
  move_holds x s s' input kept (Stocks from view first log asks low is) h =
      subst (λ (t : VrState). StateHolds IsGood IsBound t) (sym is)
      (record {
        log = h.log;
        collected = h.collected;
        responses = h.responses;
        supply = λ p e. let z : record { first = first; log = log } ≡ p = cc in
            subst (λ (q : Supplied). EachFrom IsGood q.first q.log) z (subst (λ (y : VrInput). MemberInputHolds IsGood IsBound y) asks input);
      })
  move_holds x s s' input kept (Starts c cs collected may long right is) h = subst (λ (t : VrState). StateHolds IsGood IsBound t) (sym is) (starts_holds s c cs kept h collected long)
  move_holds x s s' input kept (Adopts view first commit log shows newer low sound is) h =
      subst (λ (t : VrState). StateHolds IsGood IsBound t) (sym is) (adopts_holds s view first commit log kept h low (shows_holds x view first commit log input shows))
  move_holds x s s' input kept (Recovers view r told among view_is filled_is off sound is) h =
      let bared : StateHolds IsGood IsBound (record s { responses = [] }) = record { log = h.log; collected = h.collected; responses = λ y k. absurd k; supply = h.supply } in
      let same : IsConsistent (record s { responses = [] }) = record { follow = kept.follow; commit = kept.commit; supply = kept.supply; own = kept.own } in
      subst (λ (t : VrState). StateHolds IsGood IsBound t) (sym is)
      (adopts_holds (record s { responses = [] }) view 0 told.commit told.log same bared (omega arith) (h.responses r among told filled_is))
  move_holds x s s' input kept (Appends commit more normal fit brings is) h =
      subst (λ (t : VrState). StateHolds IsGood IsBound t) (sym is) (appends_holds s commit more kept h (brings_holds x s commit more input brings))
  move_holds x s s' input kept (Commits k normal low high is) h = subst (λ (t : VrState). StateHolds IsGood IsBound t) (sym is) (with_commit s k low h)
  move_holds x s s' input kept (Keeps r nonce asks is) h =
      subst (λ (t : VrState). StateHolds IsGood IsBound t) (sym is)
      (record {
        log = h.log;
        collected = h.collected;
        responses = λ y k told e. elim (response_among s.responses r y k) [
          | inl same ↦ told_holds r.view nonce r.filled (subst (λ (z : VrInput). MemberInputHolds IsGood IsBound z) asks input) told (ap (λ (z : Response). z.filled) (sym same) ∙ e)
          | inr old ↦ h.responses y old told e
        ];
        supply = h.supply;
      })

  filled_holds : (s : VrState) (nonce : ℕ) → StateHolds IsGood IsBound s → MessageHolds IsGood IsBound (message.RecoveryResponse s.view nonce (filled s))
  filled_holds s nonce h =
      cond_both (is_primary s) (Some (record { commit = s.commit; log = s.log })) None (λ (o : Option Filled). FilledHolds IsGood IsBound o) (λ _. h.log) (λ _. tt)

  -- what a member says holds entries that stood in its log
  pub said_holds : (s : VrState) (l : VrLetter) → IsConsistent s → StateHolds IsGood IsBound s → IsSaidByMember s l → MessageHolds IsGood IsBound l.message
  said_holds s l kept h (AsksVote to is) = subst (λ (m : VrLetter). MessageHolds IsGood IsBound m.message) (sym is) tt
  said_holds s l kept h (SendsLog to is) = subst (λ (m : VrLetter). MessageHolds IsGood IsBound m.message) (sym is) (own_holds s h)
  said_holds s l kept h (TellsStart to is) = subst (λ (m : VrLetter). MessageHolds IsGood IsBound m.message) (sym is) (dropped_holds s s.base h)
  said_holds s l kept h (Repeats to n entry at low is) =
      subst (λ (m : VrLetter). MessageHolds IsGood IsBound m.message) (sym is)
      (λ m e. let same : n ≡ m = omega (arith, e) in let z : 0 + n ≡ n = omega arith in
      subst (λ (i : ℕ). IsGoodBeside IsGood IsBound s.commit i entry) same (subst (λ (i : ℕ). IsGoodBeside IsGood IsBound s.commit i entry) z (stands_get (IsGoodBeside IsGood IsBound s.commit) 0 n s.log entry h.log at)))
  said_holds s l kept h (TellsCommit to is) = subst (λ (m : VrLetter). MessageHolds IsGood IsBound m.message) (sym is) tt
  said_holds s l kept h (Acknowledges to is) = subst (λ (m : VrLetter). MessageHolds IsGood IsBound m.message) (sym is) tt
  said_holds s l kept h (AsksLog to view op is) = subst (λ (m : VrLetter). MessageHolds IsGood IsBound m.message) (sym is) tt
  said_holds s l kept h (AsksAll to is) = subst (λ (m : VrLetter). MessageHolds IsGood IsBound m.message) (sym is) tt
  said_holds s l kept h (Answers to nonce is) = subst (λ (m : VrLetter). MessageHolds IsGood IsBound m.message) (sym is) (filled_holds s nonce h)
  said_holds s l kept h (TellsLog to op low is) = subst (λ (m : VrLetter). MessageHolds IsGood IsBound m.message) (sym is) (dropped_holds s op h)
  said_holds s l kept h (AsksFront to is) = subst (λ (m : VrLetter). MessageHolds IsGood IsBound m.message) (sym is) tt
  said_holds s l kept h (TellsFront to op low is) =
      let place : 0 + op ≡ op = omega arith in
      subst (λ (m : VrLetter). MessageHolds IsGood IsBound m.message) (sym is)
      (subst (λ (n : ℕ). EachFrom IsGood n (drop op (take s.commit s.log))) place (stands_drop IsGood 0 op (take s.commit s.log) (front_of_log s s.commit kept.commit h)))
