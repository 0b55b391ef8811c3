-- More cases of a member: COMMIT, GETSTATE, STARTVIEW, NEWSTATE and PREPAREOK.
use Rattle.std.proofs.Common.{◌≡◌, ◌≢◌, ℕ, ◌+◌, ◌<◌, ◌≤◌, min, max, inl, inr, Bool, true, false, cond, not, nat_lt, nat_le, ◌&&◌, eqb, leb, List, [], ◌∷◌, ◌++◌, length, take, drop, filter, slice_index, refl, sym, ap, ◌∙◌, subst, subst₂, arith, append-nil}
use Rattle.std.proofs.lemmas.Bool.{cases_lt, and_parts, cond_both, leb-true, ltb-true, ltb-false, not-true, cond-false, ne_eqb}
use Rattle.agreement.specs.Effects.{prepares_entry, ack_if}
use Rattle.agreement.specs.History.{Group, size, primary_in, State, Message, Letter, History, abstract_letter}
use Rattle.agreement.specs.Invariant.{IsGoodNews, Invariant, IsGroup}
use Rattle.agreement.specs.Lists.{count_below, without_controller}
use Rattle.list_facts.specs.Lists.{IsIn}
use Rattle.agreement.specs.Moves.{Moved, Resembles, adopted, appended_to_history, committing, counting, StandsAt}
use Rattle.agreement.specs.Quorums.{IsCommitted}
use Rattle.agreement.proofs.Cases.{turn_commit, turn_adopt, turn_new_state, turn_prepare_ok, turn_count, turn_propose}
use Rattle.agreement.proofs.Conditions.{own_news}
use Rattle.agreement.proofs.Consequences.{up_view, own_of_view}
use Rattle.agreement.proofs.Counts.{count_more}
use Rattle.agreement.proofs.Quorums.{committed_max}
use Rattle.agreement.proofs.Walks.{good_at, resembles_self}
use Rattle.agreement.specs.History as core
use Rattle.vr_log.specs.declared.entry.Entry.{Entry}
use Rattle.vr_log.specs.declared.message.VrMessage.{VrMessage}
use Rattle.vr_log.specs.declared.message.VrMessage.TheVariants as message
use Rattle.vr_log.specs.declared.state.VrState.{VrState}
use Rattle.vr_log.specs.Log.{follows}
use Rattle.vr_log.specs.Members as member
use Rattle.vr_log.specs.Steps as steps
use Rattle.vr_normal.specs.Cases as normal_case
use Rattle.vr_normal.specs.Proposing as proposing
use Rattle.view_change.specs.Adopting as adopting
use Rattle.view_change.specs.Cases as change
use Rattle.vr_recovery.specs.Cases as transfer
use Rattle.vr_normal.proofs.Agreed.{greatest_least}
use Rattle.controller_moves.specs.MemberMoves.Projection.{letters_of, member_state_of}
use Rattle.controller_moves.specs.MemberMoves.Laws.{IsMemberTurn}
use Rattle.controller_moves.proofs.MemberMoves.Checking.{each_same}
use Rattle.controller_moves.proofs.MemberMoves.Members.{IsMemberOf, normal_of, here_of, newer_of, own_of, not_own_of, same_half, same_others, normal_like, greatest_good, acked_is, other_not_me, other_below, not_own, primary_is_not, goes_quiet, goes_guarded, goes_tells, goes_other, goes_from_primary}

-- what is agreed has a majority behind it
agreed_many : {g : Group Entry} {c : ℕ} {s : VrState} → IsMemberOf g c s → (from op kk : ℕ) → from < length s.acked → normal_case.is_agreed (normal_case.acked_by s from op) kk ≡ true
    → g.most_failures ≤ count_below (without_controller c (λ q. leb kk ((counting (member_state_of s) from op).acked q))) (size g)
agreed_many {g = g} {c = c} {s = s} fine from op kk small e =
    let t : VrState = normal_case.acked_by s from op in
    let p : ℕ → Bool = λ j. nat_le kk (slice_index t.acked j) in
    let p' : ℕ → Bool = λ j. leb kk ((counting (member_state_of s) from op).acked j) in
    let l = leb-true (member.most_failures t) (normal_case.acks t kk) e in
    let half : member.most_failures t ≡ g.most_failures = same_half g t fine.controllers in
    let those : normal_case.acks t kk ≡ count_below (without_controller s.me p) s.controllers = same_others p s.me s.controllers in
    let these : count_below (without_controller s.me p) s.controllers ≡ count_below (without_controller c p) (size g) = ap (λ (j : ℕ). count_below (without_controller j p) s.controllers) fine.me ∙ ap (λ (n : ℕ). count_below (without_controller c p) n) fine.controllers in
    let more = count_more (without_controller c p) (without_controller c p') (size g) (λ j b z. ap (λ (q : ℕ). leb kk q && not (eqb j c)) (sym (acked_is s.acked from op j small)) ∙ z) in
    omega arith

-- what is more than was committed before is agreed
agreed_passes : (t : VrState) → t.commit < normal_case.agreed t → normal_case.is_agreed t (normal_case.agreed t) ≡ true
agreed_passes t more = elim (greatest_good (normal_case.is_agreed t) t.commit (normal_case.ops (length t.log))) [ inl e ↦ absurd (omega (arith, e, more)) | inr e ↦ e ]

-- an acknowledgement or none, as letters
pub acks_are : (c : ℕ) (t : VrState) (commit : ℕ) → letters_of c (adopting.adopt_letters t commit) ≡ ack_if (nat_lt commit (length t.log)) c (member.primary_of t t.view) t.view (length t.log)
acks_are c t commit = by (nat_lt commit (length t.log))
  where
    by : (x : Bool) → letters_of c (cond x (steps.letter (message.PrepareOk t.view (length t.log)) (member.primary_of t t.view) ∷ []) []) ≡ ack_if x c (member.primary_of t t.view) t.view (length t.log)
    by true = refl
    by false = refl

module _ {g : Group Entry} {h h' : History Entry} {c : ℕ} {s : VrState} (gr : IsGroup g) (i : Invariant g h) (b : c < size g) (at : StandsAt h c (member_state_of s) s.promise s.life) (fine : IsMemberOf g c s) where
  pub goes_commit : (from view commit : ℕ) → IsCommitted g h view commit → IsMemberTurn g h h' c (normal_case.commit_told s from view commit)
  goes_commit from view commit known = goes_from_primary gr i b at fine from view (normal_case.commits s commit) (λ n same ne.
      let own = own_of_view (good_at i b at) n in
      let within = own.within in
      cond_both (nat_le commit (length s.log)) _ _ (IsMemberTurn g h h' c)
      (λ few t tr.
      let l = leb-true commit (length s.log) few in
      turn_commit gr i b at (max s.commit commit) 0 false n (λ z. absurd cc) (omega arith) (omega arith)
      (committed_max own.committed (subst (λ (w : ℕ). IsCommitted g h w commit) same known)) (resembles_self (committing (member_state_of s) (max s.commit commit))) t tr)
      (λ more. goes_tells gr i b at fine (member.primary_of s s.view) (message.GetState s.view (length s.log)) (λ w q. refl) tt))

  pub goes_get_state : (from view op : ℕ) → IsMemberTurn g h h' c (transfer.get_state s from view op)
  goes_get_state from view op = goes_other gr i b at fine from _ (λ other. cond_both (transfer.is_answered s view op) _ _ (IsMemberTurn g h h' c)
      (λ ok.
      let x = and_parts (member.is_here s view) (nat_le op (length s.log)) ok in
      goes_tells gr i b at fine from (message.NewState s.view op s.commit (drop op s.log)) (λ w q. refl) (own_news (good_at i b at) op (here_of s view x.0).0))
      (λ ok. goes_quiet gr i b at fine))

  -- a log of a newer view
  goes_adopts : (view first commit : ℕ) (log : List Entry) → member.is_newer s view ≡ true → c ≢ primary_in g view → IsGoodNews g h view first commit log → IsMemberTurn g h h' c (adopting.adopt s view first commit log)
  goes_adopts view first commit log newer ne news =
      let x = newer_of s view newer in
      let whole : List Entry = take first s.log ++ log in
      let a : State Entry = adopted (member_state_of s) view whole (max s.commit commit) in
      let new : VrState = adopting.adopted_log s view first commit log in
      let like : Resembles a (member_state_of new) = normal_like a (member_state_of new) refl refl refl refl refl refl (λ j. refl) in
      let stable = up_view (good_at i b at) x.0 in
      let promised : max s.promise view ≡ view = elim x.1 [ inl z ↦ omega (arith, stable.0, at.promise_is) | inr z ↦ omega (arith, stable.0, at.promise_is, z.0) ] in
      cond_both (nat_lt s.commit first) _ _ (IsMemberTurn g h h' c)
      (λ gap. goes_tells gr i b at fine (member.primary_of s view) (message.GetState view s.commit) (λ w q. refl) tt)
      (λ ok t tr. turn_adopt gr i b at view first commit (member.primary_of s view) log (nat_lt commit (length whole)) x.0 ne news (ltb-false s.commit first ok) x.1
      (like, subst₂ (λ p ls. Moved h h' c (member_state_of new) p s.life ls) promised (acks_are c new commit) t) tr)

  pub goes_start_view : (from view first commit : ℕ) (log : List Entry) → IsGoodNews g h view first commit log → IsMemberTurn g h h' c (change.start_view s from view first commit log)
  goes_start_view from view first commit log news = goes_other gr i b at fine from _ (λ other. cond_both (member.is_primary_of s from view && member.is_newer s view) _ _ (IsMemberTurn g h h' c)
      (λ ok.
      let x = and_parts (member.is_primary_of s from view) (member.is_newer s view) ok in
      goes_guarded gr i b at fine (adopting.adopt s view first commit log) (goes_adopts view first commit log x.1 (not_own fine from view other x.0) news))
      (λ ok. goes_quiet gr i b at fine))

  pub goes_new_state : (from view first commit : ℕ) (log : List Entry) → IsGoodNews g h view first commit log → IsMemberTurn g h h' c (transfer.new_state s from view first commit log)
  goes_new_state from view first commit log news = goes_other gr i b at fine from _ (λ other. cond_both (transfer.is_longer s view first log) _ _ (IsMemberTurn g h h' c)
      (λ ok.
      let x = and_parts (member.is_here s view && not (member.is_primary s) && nat_le first (length s.log)) (nat_lt (length s.log) (first + length log)) ok in
      let y = and_parts (member.is_here s view && not (member.is_primary s)) (nat_le first (length s.log)) x.0 in
      let z = and_parts (member.is_here s view) (not (member.is_primary s)) y.0 in
      let w = here_of s view z.0 in
      let whole : List Entry = s.log ++ transfer.lacking s first log in
      cond_both (follows s.log (transfer.lacking s first log)) _ _ (IsMemberTurn g h h' c)
      (λ good t tr.
      turn_new_state gr i b at first commit (member.primary_of s s.view) log w.0 (not_own_of fine s.view (not-true (member.is_primary s) z.1)) (subst (λ (q : ℕ). IsGoodNews g h q first commit log) w.1 news)
      (leb-true first (length s.log) y.1) (ltb-true (length s.log) (first + length log) x.1) (resembles_self (committing (appended_to_history (member_state_of s) whole) (max s.commit (min commit (length whole)))), t) tr)
      (λ bad. goes_quiet gr i b at fine))
      (λ short. cond_both (transfer.is_adopted s view first) _ _ (IsMemberTurn g h h' c)
      (λ ok.
      let x = and_parts (not (member.is_primary_of s s.me view) && nat_le first s.commit) (member.is_newer s view) ok in
      let y = and_parts (not (member.is_primary_of s s.me view)) (nat_le first s.commit) x.0 in
      goes_guarded gr i b at fine (adopting.adopt s view first commit log) (goes_adopts view first commit log x.1 (primary_is_not fine view (not-true (member.is_primary_of s s.me view) y.0)) news))
      (λ ok. goes_quiet gr i b at fine)))

  -- PREPAREOK
  pub goes_prepare_ok : 1 ≤ g.most_failures → (from view op : ℕ) → IsIn (abstract_letter from c (core.PrepareOk view op)) h.sent → IsMemberTurn g h h' c (normal_case.prepare_ok s from view op)
  goes_prepare_ok o from view op sent = goes_other gr i b at fine from _ (λ other. cond_both (normal_case.is_counted s view op) _ _ (IsMemberTurn g h h' c)
      (λ ok t tr.
      let x = and_parts (member.is_here s view && member.is_primary s) (nat_le op (length s.log)) ok in
      let y = and_parts (member.is_here s view) (member.is_primary s) x.0 in
      let w = here_of s view y.0 in
      let n = w.0 in
      let is : c ≡ primary_in g s.view = own_of fine s.view y.1 in
      let ne : from ≢ c = λ e. other_not_me s from other (e ∙ sym fine.me) in
      let sent' = subst (λ (q : ℕ). IsIn (abstract_letter from c (core.PrepareOk q op)) h.sent) w.1 sent in
      let t1 : VrState = normal_case.acked_by s from op in
      let kk : ℕ = normal_case.agreed t1 in
      let t2 : VrState = normal_case.counted t1 in
      let below = other_below s from other in
      let small : from < length s.acked = omega (arith, fine.controllers, fine.acked) in
      let a1 : State Entry = counting (member_state_of s) from op in
      let least = greatest_least s.commit (filter (normal_case.is_agreed t1) (normal_case.ops (length s.log))) in
      elim (cases_lt s.commit kk) [
        | inl more ↦
            let a2 : State Entry = committing a1 kk in
            let like : Resembles a2 (member_state_of t2) = normal_like a2 (member_state_of t2) n refl refl refl refl refl (λ j. acked_is s.acked from op j small) in
            let many : g.most_failures ≤ count_below (without_controller c (λ q. leb kk (a1.acked q))) (size g) = agreed_many fine from op kk small (agreed_passes t1 more) in
            turn_prepare_ok gr i b at from op kk [] [] n is ne sent' o more many tt like t (λ q j. j) (λ q j. j) tr
        | inr few ↦
            let same : kk ≡ s.commit = omega arith in
            let like : Resembles a1 (member_state_of t2) = normal_like a1 (member_state_of t2) n refl refl refl refl same (λ j. acked_is s.acked from op j small) in
            turn_count gr i b at from op n is ne sent' like t tr
      ])
      (λ ok. goes_quiet gr i b at fine))

  -- a proposal
  pub goes_proposal : 1 ≤ g.most_failures → (entry : Entry) → member.leads s ≡ true → g.is_log (s.log ++ entry ∷ []) ≡ true → IsMemberTurn g h h' c (proposing.proposed s entry)
  goes_proposal o entry may fits t tr =
      let x = and_parts (member.is_normal s) (member.is_primary s) may in
      let n = normal_of s.status x.0 in
      let to : List ℕ = member.others s in
      let what : VrMessage = message.Prepare s.view (length s.log + 1) s.commit entry in
      let new : VrState = (proposing.proposed s entry).state in
      let half : member.most_failures s ≡ g.most_failures = same_half g s fine.controllers in
      let commit_is : new.commit ≡ s.commit = cond-false (eqb (member.most_failures s) 0) (length s.log + 1) s.commit (ne_eqb (member.most_failures s) 0 (λ q. absurd (omega arith))) in
      let a : State Entry = appended_to_history (member_state_of s) (s.log ++ entry ∷ []) in
      let like : Resembles a (member_state_of new) = normal_like a (member_state_of new) n refl refl refl refl commit_is (λ j. refl) in
      let said : letters_of c (steps.to_others s what) ≡ prepares_entry c to (member_state_of s) entry ++ [] = each_same c what to ∙ sym (append-nil (prepares_entry c to (member_state_of s) entry)) in
      turn_propose gr i b at to (entry ∷ []) n (own_of fine s.view x.1) (fits, tt) like t
      (λ q j. subst (λ (ls : List (Letter Entry)). IsIn q ls) (sym said) j) (λ q j. subst (λ (ls : List (Letter Entry)). IsIn q ls) said j) tr
