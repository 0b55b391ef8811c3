-- The cases of view changes and of recovery.
use Rattle.std.proofs.Common.{◌≡◌, ◌≢◌, ℕ, ◌+◌, ◌<◌, ◌≤◌, max, ◌⊎◌, inl, inr, Bool, true, false, cond, nat_eq, nat_lt, nat_le, ◌&&◌, Option, Some, None, List, [], ◌∷◌, length, drop, map, find, refl, sym, ap, ◌∙◌, subst, subst₂, arith, append-nil}
use Rattle.std.proofs.lemmas.Bool.{and_parts, cond_both, eqb-true, leb-true, ltb-true, false≢true}
use Rattle.std.proofs.lemmas.List.{map-append}
use Rattle.agreement.specs.Effects.{ack_if}
use Rattle.agreement.specs.History.{Group, size, primary_in, State, Message, Letter, History, Vote, abstract_letter}
use Rattle.agreement.specs.Invariant.{IsGoodMessage, IsGoodResponse, Invariant, IsGroup}
use Rattle.list_facts.specs.Lists.{IsIn}
use Rattle.agreement.specs.Moves.{Moved, Resembles, entered, adopted, fallen, StandsAt}
use Rattle.agreement.specs.Quorums.{is_prepare_ok}
use Rattle.agreement.proofs.Cases.{walk_enter, walk_collect, walk_stock, walk_keep, turn_keep, turn_recover, turn_fall, turn_rise}
use Rattle.agreement.proofs.Conditions.{own_news, own_response}
use Rattle.agreement.proofs.Starting.{walk_says}
use Rattle.agreement.proofs.Walks.{Walk, good_at, walk_at, resembles_self}
use Rattle.agreement.specs.History as core
use Rattle.vr_log.specs.declared.entry.Entry.{Entry}
use Rattle.vr_log.specs.declared.message.Filled.{Filled}
use Rattle.vr_log.specs.declared.message.VrMessage.{VrMessage}
use Rattle.vr_log.specs.declared.message.VrMessage.TheVariants as message
use Rattle.vr_log.specs.declared.state.Collected.{Collected}
use Rattle.vr_log.specs.declared.state.Response.{Response}
use Rattle.vr_log.specs.declared.state.Status.{Status}
use Rattle.vr_log.specs.declared.state.Status.TheVariants as status
use Rattle.vr_log.specs.declared.state.VrState.{VrState}
use Rattle.vr_log.specs.Members as member
use Rattle.vr_log.specs.Choosing as choosing
use Rattle.vr_log.specs.Steps as steps
use Rattle.vr_log.specs.Steps.{VrStep}
use Rattle.vr_log.specs.Valid.{down_state}
use Rattle.view_change.specs.Adopting as adopting
use Rattle.view_change.specs.Entering as entering
use Rattle.view_change.specs.Cases as change
use Rattle.vr_recovery.specs.Recovering as recovering
use Rattle.controller_moves.specs.MemberMoves.Projection.{member_status_of, vote_of, answer_of, response_of, message_of, letters_of, member_state_of}
use Rattle.controller_moves.specs.MemberMoves.Laws.{IsMemberTurn}
use Rattle.controller_moves.proofs.MemberMoves.Members.{IsMemberOf, normal_of, changing_of, later_of, other_not_me, other_below, own_of, normal_like, primary_is, goes_quiet, goes_guarded, goes_tells, goes_other}
use Rattle.controller_moves.proofs.MemberMoves.Messages.{acks_are}
use Rattle.controller_moves.proofs.MemberMoves.Checking.{IsWalk, has_not, goes_check}

says_mapped : (c : ℕ) (x : VrMessage) (to : List ℕ) (y : Letter Entry) → IsIn y (letters_of c (map (steps.letter x) to)) → (y.sender ≡ c) × (y.message ≡ message_of x)
says_mapped c x [] y i = absurd i
says_mapped c x (j ∷ js) y i = elim i [ inl z ↦ (ap (λ (q : Letter Entry). q.sender) z, ap (λ (q : Letter Entry). q.message) z) | inr q ↦ says_mapped c x js y q ]

module _ {g : Group Entry} {h : History Entry} {c : ℕ} {s : VrState} (gr : IsGroup g) (i : Invariant g h) (b : c < size g) (at : StandsAt h c (member_state_of s) s.promise s.life) (fine : IsMemberOf g c s) where
  -- a later view is entered
  walked_enter : (view : ℕ) → member.is_later s view ≡ true → IsWalk g c h (entering.enter s view)
  walked_enter view z =
      let x = later_of s view z in
      let out : List (Letter Entry) = letters_of c (steps.to_others s (message.StartViewChange view)) in
      let say = says_mapped c (message.StartViewChange view) (member.others s) in
      let w1 = walk_enter gr i b at view x.0 x.1 in
      let w2 = walk_says gr b w1 out (λ y j. (say y j).0) (λ y j a n. ap (λ (q : Message Entry). is_prepare_ok q a n) (say y j).1) (λ y j. subst (λ (q : Message Entry). IsGoodMessage g w1.at y.sender y.receiver q) (sym (say y j).1) tt) in
      record { walk = subst (λ (ls : List (Letter Entry)). Walk g c h (entered (member_state_of s) view) view s.life ls) (append-nil out) w2; status = refl; me = fine.me; controllers = fine.controllers }

  -- a vote is collected, where it is the first of its sender
  walked_collect : (st : VrStep) → IsWalk g c h st → (from normal commit : ℕ) (log : List Entry) → c ≡ primary_in g st.state.view → from < size g
      → IsIn (abstract_letter from c (core.DoViewChange st.state.view normal commit log)) h.sent
      → IsWalk g c h (record st { state = entering.collects st.state (record { from = from; normal = normal; commit = commit; log = log }) })
  walked_collect st w from normal commit log is small sent =
      let t : VrState = st.state in
      let one : Collected = record { from = from; normal = normal; commit = commit; log = log } in
      cond_both (choosing.has_collected t from) _ _ (λ z. IsWalk g c h (record st { state = z }))
      (λ old. record { walk = w.walk; status = w.status; me = w.me; controllers = w.controllers })
      (λ fresh.
      let w1 = walk_collect gr i b w.walk from normal commit log w.status is sent small (has_not from t.collected fresh) in
      record {
        walk = subst (λ (cs : List (Vote Entry)). Walk g c h (record (member_state_of t) { collected = cs }) t.promise t.life (letters_of c st.letters)) (sym (map-append (λ (x : Collected). vote_of x) t.collected (one ∷ []))) w1;
        status = w.status;
        me = w.me;
        controllers = w.controllers;
      })

  -- a vote counts nothing here
  walked_voted : (st : VrStep) (from : ℕ) → IsWalk g c h st → IsWalk g c h (record st { state = entering.voted st.state from })
  walked_voted st from w = record { walk = w.walk; status = w.status; me = w.me; controllers = w.controllers }

  walked_here : (member_state_of s).status ≡ core.ViewChange → IsWalk g c h (steps.quiet s)
  walked_here n = record { walk = walk_at i at; status = n; me = fine.me; controllers = fine.controllers }

pub up_normal : (x : Status) → (elim x [ status.Normal ↦ true | status.ViewChange ↦ false | status.Recovering ↦ false | status.Down ↦ false ]) ≡ true
    → (elim x [ status.Normal ↦ true | status.ViewChange ↦ true | status.Recovering ↦ false | status.Down ↦ false ]) ≡ true
up_normal status.Normal z = refl
up_normal status.ViewChange z = refl
up_normal status.Recovering z = z
up_normal status.Down z = z

recovering_of : (x : Status) → (elim x [ status.Normal ↦ false | status.ViewChange ↦ false | status.Recovering ↦ true | status.Down ↦ false ]) ≡ true → member_status_of x ≡ core.Recovering
recovering_of status.Recovering z = refl
recovering_of status.Normal z = absurd (false≢true z)
recovering_of status.ViewChange z = absurd (false≢true z)
recovering_of status.Down z = absurd (false≢true z)

-- of a state that is down nothing counts but that
pub fallen_like : (s s' : State Entry) → s'.status ≡ core.Down → Resembles (fallen s) s'
fallen_like s s' z = record {
  status = z;
  view = λ u. absurd (false≢true u);
  normal = λ u. absurd (false≢true u);
  log = λ d. absurd (d refl);
  commit = λ d. absurd (d refl);
  acked = λ n. absurd cc;
  collected = λ n. absurd cc;
  supply = λ n. absurd cc;
  responses = λ n. absurd cc;
}

keeping_by : (x y z : Response) (zs ks : List Response) (t u : Bool) → (IsIn y ks → (y ≡ x) ⊎ IsIn y zs) → IsIn y (cond t (cond u x z ∷ zs) (z ∷ ks)) → (y ≡ x) ⊎ IsIn y (z ∷ zs)
keeping_by x y z zs ks true true f i = elim i [ inl q ↦ inl q | inr q ↦ inr (inr q) ]
keeping_by x y z zs ks true false f i = inr i
keeping_by x y z zs ks false u f i = elim i [
  | inl q ↦ inr (inl q)
  | inr q ↦ elim (f q) [ inl p ↦ inl p | inr j ↦ inr (inr j) ]
]

keeping_in : (x : Response) (ys : List Response) (y : Response) → IsIn y (recovering.with_response ys x) → (y ≡ x) ⊎ IsIn y ys
keeping_in x [] y i = elim i [ inl q ↦ inl q | inr q ↦ absurd q ]
keeping_in x (z ∷ zs) y i = keeping_by x y z zs (recovering.with_response zs x) (nat_eq z.from x.from) (nat_lt z.view x.view) (λ q. keeping_in x zs y q) i

found_in : (j : ℕ) (ys : List Response) (x : Response) → find (λ r. nat_eq r.from j) ys ≡ Some x → IsIn x ys
found_in j [] x z = absurd cc
found_in j (y ∷ ys) x z = cond_both (nat_eq y.from j) (Some y) (find (λ r. nat_eq r.from j) ys) (λ (q : Option Response). q ≡ Some x → IsIn x (y ∷ ys))
    (λ t z. let same : y ≡ x = cc in inl (sym same)) (λ t z. inr (found_in j ys x z)) z

mapped : (x : Response) (xs : List Response) → IsIn x xs → IsIn (response_of x) (map response_of xs)
mapped x [] i = i
mapped x (y ∷ ys) i = elim i [ inl z ↦ inl (ap (λ (q : Response). response_of q) z) | inr j ↦ inr (mapped x ys j) ]

unmapped : (y : core.Response Entry) (xs : List Response) → IsIn y (map response_of xs) → (x : Response) × IsIn x xs × (y ≡ response_of x)
unmapped y [] i = absurd i
unmapped y (x ∷ xs) i = elim i [ inl z ↦ (x, inl refl, z) | inr j ↦ let q = unmapped y xs j in (q.0, inr q.1, q.2) ]

-- the log that ends a recovery was told by one of those kept
told_by : (view : ℕ) (q : Option Response) (f : Filled) → recovering.told_log view q ≡ Some f → (x : Response) × (q ≡ Some x) × (x.view ≡ view) × (x.filled ≡ Some f)
told_by view None f z = absurd cc
told_by view (Some r) f z = cond_both (nat_eq r.view view) r.filled None (λ (p : Option Filled). p ≡ Some f → (x : Response) × (Some r ≡ Some x) × (x.view ≡ view) × (x.filled ≡ Some f))
    (λ t y. (r, refl, eqb-true r.view view t, y)) (λ t y. absurd cc) z

module _ {g : Group Entry} {h h' : History Entry} {c : ℕ} {s : VrState} (gr : IsGroup g) (o : 1 ≤ g.most_failures) (i : Invariant g h) (b : c < size g) (at : StandsAt h c (member_state_of s) s.promise s.life) (fine : IsMemberOf g c s) where
  goes_enters : (view : ℕ) → member.is_later s view ≡ true → IsMemberTurn g h h' c (steps.guarded s (change.enters s view))
  goes_enters view ok = goes_guarded gr i b at fine (change.enters s view) (goes_check gr o i b (walked_enter gr i b at fine view ok))

  pub goes_suspect : (view : ℕ) → IsMemberTurn g h h' c (change.suspect s view)
  goes_suspect view = cond_both (member.is_later s view) _ _ (IsMemberTurn g h h' c) (λ ok. goes_enters view ok) (λ ok. goes_quiet gr i b at fine)

  goes_vote_here : (from : ℕ) → IsMemberTurn g h h' c (change.vote_here s from)
  goes_vote_here from = cond_both (member.is_changing s) _ _ (IsMemberTurn g h h' c)
      (λ ok. goes_guarded gr i b at fine (entering.check (entering.voted s from)) (goes_check gr o i b (walked_voted gr i b at fine (steps.quiet s) from (walked_here gr i b at fine (changing_of s.status ok)))))
      (λ no. cond_both (member.leads s) _ _ (IsMemberTurn g h h' c)
      (λ ok. goes_tells gr i b at fine from (message.StartView s.view s.base s.commit (drop s.base s.log)) (λ a q. refl) (own_news (good_at i b at) s.base (normal_of s.status (and_parts (member.is_normal s) (member.is_primary s) ok).0)))
      (λ ok. goes_quiet gr i b at fine))

  pub goes_start_view_change : (from view : ℕ) → IsMemberTurn g h h' c (change.start_view_change s from view)
  goes_start_view_change from view = goes_other gr i b at fine from _ (λ other. cond_both (member.is_later s view) _ _ (IsMemberTurn g h h' c)
      (λ ok. goes_guarded gr i b at fine (steps.then_step (entering.enter s view) (λ next. entering.check (entering.voted next from))) (goes_check gr o i b (walked_voted gr i b at fine (entering.enter s view) from (walked_enter gr i b at fine view ok))))
      (λ ok. cond_both (nat_eq view s.view) _ _ (IsMemberTurn g h h' c) (λ same. goes_vote_here from) (λ same. goes_quiet gr i b at fine)))

  goes_collect : (from view normal commit : ℕ) (log : List Entry) → c ≡ primary_in g view → from < size g → IsIn (abstract_letter from c (core.DoViewChange view normal commit log)) h.sent
      → IsMemberTurn g h h' c (change.collect s view (record { from = from; normal = normal; commit = commit; log = log }))
  goes_collect from view normal commit log is small sent =
      let one : Collected = record { from = from; normal = normal; commit = commit; log = log } in
      cond_both (member.is_later s view) _ _ (IsMemberTurn g h h' c)
      (λ later. goes_guarded gr i b at fine (steps.then_step (entering.enter s view) (λ next. entering.check (entering.collects next one)))
      (goes_check gr o i b (walked_collect gr i b at fine (entering.enter s view) (walked_enter gr i b at fine view later) from normal commit log is small sent)))
      (λ later. cond_both (nat_eq view s.view && member.is_changing s) _ _ (IsMemberTurn g h h' c)
      (λ ok.
      let y = and_parts (nat_eq view s.view) (member.is_changing s) ok in
      let same = eqb-true view s.view y.0 in
      goes_guarded gr i b at fine (entering.check (entering.collects s one)) (goes_check gr o i b (walked_collect gr i b at fine (steps.quiet s) (walked_here gr i b at fine (changing_of s.status y.1)) from normal commit log (is ∙ ap (primary_in g) same) small
      (subst (λ (q : ℕ). IsIn (abstract_letter from c (core.DoViewChange q normal commit log)) h.sent) same sent))))
      (λ ok. goes_quiet gr i b at fine))

  pub goes_do_view_change : (from view normal commit : ℕ) (log : List Entry) → IsIn (abstract_letter from c (core.DoViewChange view normal commit log)) h.sent
      → IsMemberTurn g h h' c (change.do_view_change s from view normal commit log)
  goes_do_view_change from view normal commit log sent = goes_other gr i b at fine from _ (λ other.
      let l = other_below s from other in
      let small : from < size g = omega (arith, fine.controllers) in
      cond_both (member.is_primary_of s s.me view) _ _ (IsMemberTurn g h h' c)
      (λ primary. goes_collect from view normal commit log (primary_is fine view primary) small sent)
      (λ primary. goes_quiet gr i b at fine))

  pub goes_supply : (from view first : ℕ) (log : List Entry) → IsIn (abstract_letter from c (core.Supply view first log)) h.sent → IsMemberTurn g h h' c (change.supply s from view first log)
  goes_supply from view first log sent = goes_other gr i b at fine from _ (λ other. cond_both (change.is_message_wanted s view first log) _ _ (IsMemberTurn g h h' c)
      (λ ok.
      let x = and_parts (change.is_change s view && member.is_primary s && nat_le first s.commit) (nat_lt (length (choosing.front s)) (first + length log)) ok in
      let y = and_parts (change.is_change s view && member.is_primary s) (nat_le first s.commit) x.0 in
      let z = and_parts (change.is_change s view) (member.is_primary s) y.0 in
      let n = changing_of s.status (and_parts (member.is_changing s) (nat_eq view s.view) z.0).0 in
      let l = leb-true first s.commit y.1 in
      let kept : VrState = change.supplied s first log in
      goes_guarded gr i b at fine (entering.check kept) (goes_check gr o i b {st = steps.quiet kept} (record { walk = walk_stock gr i b (walk_at i at) from view first log n l sent; status = n; me = fine.me; controllers = fine.controllers })))
      (λ ok. goes_quiet gr i b at fine))

  pub goes_recovery : (from nonce promise : ℕ) → IsIn (abstract_letter from c (core.Recovery nonce promise)) h.sent → IsMemberTurn g h h' c (recovering.recovery s from nonce promise)
  goes_recovery from nonce promise sent = goes_other gr i b at fine from _ (λ other. cond_both (member.is_normal s) _ _ (IsMemberTurn g h h' c)
      (λ ok.
      let n = normal_of s.status ok in
      let l = other_below s from other in
      let small : from < size g = omega (arith, fine.controllers) in
      cond_both (nat_lt s.view promise) _ _ (IsMemberTurn g h h' c)
      (λ later. goes_enters promise (ap (λ (t : Bool). t && nat_lt s.view promise) (up_normal s.status ok) ∙ later))
      (λ no_later.
      let known : nonce ≤ h.life from = i.letters _ sent in
      let good : IsGoodResponse g h c from s.view nonce (answer_of (recovering.filled s)) = cond_both (member.is_primary s) _ _ (λ q. IsGoodResponse g h c from s.view nonce (answer_of q))
      (λ own. own_response (good_at i b at) from nonce n (own_of fine s.view own) small i known) (λ own. known) in
      goes_tells gr i b at fine from (message.RecoveryResponse s.view nonce (recovering.filled s)) (λ a q. refl) good))
      (λ ok. goes_quiet gr i b at fine))

  -- RECOVERYRESPONSE that may end a recovery
  goes_ends : (rs : List Response) → Walk g c h (member_state_of (record s { responses = rs })) s.promise s.life [] → (member_state_of s).status ≡ core.Recovering → (view j : ℕ) → s.promise ≤ view → (q : Option Filled) → recovering.told_log view (find (λ r. nat_eq r.from j) rs) ≡ q
      → IsMemberTurn g h h' c (recovering.ends_with (record s { responses = rs }) view q)
  goes_ends rs w n view j above None z = λ u tr. turn_keep gr i b w n (resembles_self (member_state_of (record s { responses = rs }))) u tr
  goes_ends rs w n view j above (Some f) z =
      let t : VrState = record s { responses = rs } in
      let t0 : VrState = record s { responses = [] } in
      let blank = (good_at i b at).blank n in
      let x = told_by view (find (λ r. nat_eq r.from j) rs) f z in
      let x_view : x.0.view ≡ view = x.2 in
      let in' = found_in j rs x.0 x.1 in
      let a : State Entry = adopted (member_state_of t) x.0.view f.log f.commit in
      let new : VrState = adopting.adopted_log t0 view 0 f.commit f.log in
      let like : Resembles a (member_state_of new) = normal_like a (member_state_of new) refl refl (sym x_view) (sym x_view) refl (omega (arith, blank.1)) (λ q. refl) in
      let promised : max s.promise view ≡ x.0.view = omega (arith, x_view) in
      cond_both (nat_lt s.commit 0) _ _ (IsMemberTurn g h h' c)
      (λ gap. absurd (let l = ltb-true s.commit 0 gap in omega arith))
      (λ ok u tr.
      turn_recover gr i b at w (response_of x.0) f.commit (member.primary_of t x.0.view) f.log (nat_lt f.commit (length f.log)) n (mapped x.0 rs in') (ap answer_of x.3) (omega (arith, x_view)) like
      (subst₂ (λ p ls. Moved h h' c (member_state_of new) p s.life ls) promised (acks_are c new f.commit ∙ ap (λ (q : ℕ). ack_if (nat_lt f.commit (length f.log)) c (member.primary_of s q) q (length f.log)) (sym x_view)) u) tr)

  goes_recovers : (rs : List Response) → Walk g c h (member_state_of (record s { responses = rs })) s.promise s.life [] → (member_state_of s).status ≡ core.Recovering → IsMemberTurn g h h' c (recovering.recovers (record s { responses = rs }))
  goes_recovers rs w n =
      let t : VrState = record s { responses = rs } in
      let top : ℕ = recovering.greatest_view_told rs in
      cond_both (recovering.are_responses_enough t) _ _ (λ q. IsMemberTurn g h h' c (recovering.ends_with t top q))
      (λ many. goes_ends rs w n top (member.primary_of t top) (leb-true s.promise top (and_parts (nat_lt (member.most_failures t) (length rs)) (nat_le s.promise top) many).1) (recovering.primary_log t top) refl)
      (λ few u tr. turn_keep gr i b w n (resembles_self (member_state_of t)) u tr)

  pub goes_response : (from view nonce : ℕ) (filled : Option Filled) → IsIn (abstract_letter from c (core.RecoveryResponse view nonce (answer_of filled))) h.sent → IsMemberTurn g h h' c (recovering.response s from view nonce filled)
  goes_response from view nonce filled sent = goes_other gr i b at fine from _ (λ other. cond_both (member.is_recovering s && nat_eq nonce s.life) _ _ (IsMemberTurn g h h' c)
      (λ ok.
      let x = and_parts (member.is_recovering s) (nat_eq nonce s.life) ok in
      let n = recovering_of s.status x.0 in
      let ne : from ≢ c = λ z. other_not_me s from other (z ∙ sym fine.me) in
      let one : Response = record { from = from; view = view; filled = filled } in
      let rs : List Response = recovering.with_response s.responses one in
      let w = walk_keep gr i b at (response_of one) (map response_of rs) n ne (subst (λ (q : ℕ). IsIn (abstract_letter from c (core.RecoveryResponse view q (answer_of filled))) h.sent) (eqb-true nonce s.life x.1) sent)
      (λ q j. let z = unmapped q rs j in elim (keeping_in one s.responses z.0 z.1) [
        | inl p ↦ inl (z.2 ∙ ap (λ (r : Response). response_of r) p)
        | inr d ↦ inr (subst (λ (p : core.Response Entry). IsIn p (map response_of s.responses)) (sym z.2) (mapped z.0 s.responses d))
      ]) in
      goes_guarded gr i b at fine (recovering.recovers (recovering.responded s one)) (goes_recovers rs w n))
      (λ ok. goes_quiet gr i b at fine))

module _ {g : Group Entry} {h h' : History Entry} {c : ℕ} (s : VrState) (gr : IsGroup g) (i : Invariant g h) (b : c < size g) (at : StandsAt h c (member_state_of s) s.promise s.life) where
  -- a crash, and a save that failed
  pub goes_down : (promise life : ℕ) → s.promise ≤ promise → s.life ≤ life → IsMemberTurn g h h' c (steps.quiet (down_state s.me s.controllers promise life))
  goes_down promise life up older t tr = turn_fall gr i b at promise life up older (fallen_like (member_state_of s) (member_state_of (down_state s.me s.controllers promise life)) refl) t tr

  -- a restart
  pub goes_restart : (member_state_of s).status ≡ core.Down → IsMemberTurn g h h' c (recovering.restarted s.me s.controllers s.promise (s.life + 1))
  goes_restart down t tr =
      let new : VrState = recovering.recovering_state s.me s.controllers s.promise (s.life + 1) in
      turn_rise gr i b at (letters_of c (steps.to_others new (message.Recovery (s.life + 1) s.promise))) down (says_mapped c (message.Recovery (s.life + 1) s.promise) (member.others new))
      (record { status = refl; view = λ u. absurd (false≢true u); normal = λ u. absurd (false≢true u); log = λ d. refl; commit = λ d. refl; acked = λ n. absurd cc; collected = λ n. absurd cc; supply = λ n. absurd cc; responses = λ n. refl }) t tr
