-- A tick posts letters that are good.
use Rattle.std.proofs.Common.{◌≡◌, ℕ, ◌+◌, ◌<◌, ◌≤◌, inl, inr, false, cond, not, nat_eq, ◌&&◌, List, [], ◌∷◌, ◌++◌, length, take, drop, map, refl, sym, ap, ◌∙◌, subst, le_refl, take-append-drop, length-append, append_assoc}
use Rattle.std.specs.Prelude.{flat_map}
use Rattle.std.proofs.lemmas.Bool.{cond_both}
use Rattle.agreement.specs.History.{Group, size, State, Message, Letter, History, abstract_letter}
use Rattle.agreement.specs.Invariant.{IsGoodPrepare, IsGoodMessage, IsGoodLetter, Invariant, IsGroup}
use Rattle.list_facts.proofs.Elements.{in_append}
use Rattle.list_facts.proofs.Prefixes.{take_within}
use Rattle.list_facts.specs.Lists.{IsIn}
use Rattle.agreement.specs.Moves.{AcknowledgeNothing, AreFrom, StandsAt}
use Rattle.agreement.specs.Quorums.{is_prepare_ok}
use Rattle.agreement.proofs.Cases.{quiet_by, turn_speak}
use Rattle.agreement.proofs.Conditions.{own_good_vote, own_prepare}
use Rattle.agreement.proofs.Consequences.{own_log, own_of_view}
use Rattle.agreement.proofs.Walks.{good_at, resembles_self}
use Rattle.agreement.specs.History as core
use Rattle.vr_log.specs.declared.entry.Entry.{Entry}
use Rattle.vr_log.specs.declared.message.VrLetter.{VrLetter}
use Rattle.vr_log.specs.declared.message.VrMessage.{VrMessage}
use Rattle.vr_log.specs.declared.message.VrMessage.TheVariants as message
use Rattle.vr_log.specs.declared.state.Collected.{Collected}
use Rattle.vr_log.specs.declared.state.Status.{Status}
use Rattle.vr_log.specs.declared.state.Status.TheVariants as status
use Rattle.vr_log.specs.declared.state.VrState.{VrState}
use Rattle.vr_log.specs.Members as member
use Rattle.vr_log.specs.Choosing as choosing
use Rattle.vr_log.specs.Steps as steps
use Rattle.vr_log.specs.Steps.{VrStep}
use Rattle.vr_normal.specs.Ticks as tick
use Rattle.controller_moves.specs.MemberMoves.Projection.{member_status_of, message_of, letters_of, member_state_of}
use Rattle.controller_moves.specs.MemberMoves.Laws.{IsMemberTurn}
use Rattle.controller_moves.proofs.MemberMoves.Members.{IsMemberOf, goes_quiet}
use Rattle.controller_moves.proofs.MemberMoves.Checking.{letters_append}

-- letters of c that acknowledge nothing, and are good
pub record AreGood (g : Group Entry) (h : History Entry) (c : ℕ) (ls : List VrLetter) : Type 0 where
  pub from_c : AreFrom c (letters_of c ls)
  pub unlike : AcknowledgeNothing (letters_of c ls)
  pub good : (x : Letter Entry) → IsIn x (letters_of c ls) → IsGoodLetter g h x

module _ {g : Group Entry} {h : History Entry} {c : ℕ} where
  good_none : AreGood g h c []
  good_none = record { from_c = λ x q. absurd q; unlike = λ x q. absurd q; good = λ x q. absurd q }

  good_one : (x : VrMessage) (to : ℕ) → ((a q : ℕ) → is_prepare_ok (message_of x) a q ≡ false) → ((j : ℕ) → IsGoodMessage g h c j (message_of x)) → AreGood g h c (steps.letter x to ∷ [])
  good_one x to unlike good = record {
    from_c = λ z j. elim j [ inl e ↦ ap (λ (l : Letter Entry). l.sender) e | inr q ↦ absurd q ];
    unlike = λ z j a n. elim j [ inl e ↦ ap (λ (l : Letter Entry). is_prepare_ok l.message a n) e ∙ unlike a n | inr q ↦ absurd q ];
    good = λ z j. elim j [ inl e ↦ subst (λ (l : Letter Entry). IsGoodLetter g h l) (sym e) (good to) | inr q ↦ absurd q ];
  }

  good_both : (xs ys : List VrLetter) → AreGood g h c xs → AreGood g h c ys → AreGood g h c (xs ++ ys)
  good_both xs ys p q =
      let split = λ (x : Letter Entry) (j : IsIn x (letters_of c (xs ++ ys))). in_append x (letters_of c xs) (letters_of c ys) (subst (λ (ls : List (Letter Entry)). IsIn x ls) (letters_append c xs ys) j) in
      record {
        from_c = λ x j. elim (split x j) [ inl z ↦ p.from_c x z | inr z ↦ q.from_c x z ];
        unlike = λ x j. elim (split x j) [ inl z ↦ p.unlike x z | inr z ↦ q.unlike x z ];
        good = λ x j. elim (split x j) [ inl z ↦ p.good x z | inr z ↦ q.good x z ];
      }

  good_each : (x : VrMessage) (to : List ℕ) → ((a q : ℕ) → is_prepare_ok (message_of x) a q ≡ false) → ((j : ℕ) → IsGoodMessage g h c j (message_of x)) → AreGood g h c (map (steps.letter x) to)
  good_each x [] unlike good = good_none
  good_each x (j ∷ js) unlike good = good_both (steps.letter x j ∷ []) (map (steps.letter x) js) (good_one x j unlike good) (good_each x js unlike good)

  good_front : (s : VrState) (all : List Collected) → AreGood g h c (choosing.fetch_from s all)
  good_front s [] = good_none
  good_front s (x ∷ xs) = cond_both (choosing.reaches s (choosing.best_of x xs)) _ _ (λ ls. AreGood g h c ls) (λ a. good_none) (λ a. good_one (message.Fetch s.view s.commit) (choosing.best_of x xs).from (λ p q. refl) (λ j. tt))

module _ {g : Group Entry} {h : History Entry} {c : ℕ} (s : VrState) (i : Invariant g h) (b : c < size g) (at : StandsAt h c (member_state_of s) s.promise s.life) where
  good_prepares : (member_state_of s).status ≡ core.Normal → (to : ℕ) (before es rest : List Entry) (place : ℕ) → place ≡ length before + 1 → s.log ≡ before ++ (es ++ rest) → AreGood g h c (tick.prepares_from s.view s.commit place es to)
  good_prepares n to before [] rest place e is = good_none
  good_prepares n to before (x ∷ es) rest place e is =
      let good : IsGoodPrepare g h s.view place s.commit x = subst (λ (q : ℕ). IsGoodPrepare g h s.view q s.commit x) (sym e) (own_prepare (good_at i b at) before x (es ++ rest) n is) in
      good_both (steps.letter (message.Prepare s.view place s.commit x) to ∷ []) (tick.prepares_from s.view s.commit (place + 1) es to) (good_one (message.Prepare s.view place s.commit x) to (λ p q. refl) (λ j. good))
      (good_prepares n to (before ++ x ∷ []) es rest (place + 1) (ap (λ (q : ℕ). q + 1) (e ∙ sym (length-append before (x ∷ [])))) (is ∙ sym (append_assoc before (x ∷ []) (es ++ rest))))

  good_repeats : (member_state_of s).status ≡ core.Normal → (to : List ℕ) → AreGood g h c (flat_map (tick.repeats_to s) to)
  good_repeats n [] = good_none
  good_repeats n (j ∷ js) =
      let own = own_of_view (good_at i b at) n in
      let rest : List Entry = drop s.commit s.log in
      good_both (tick.repeats_to s j) (flat_map (tick.repeats_to s) js)
      (cond_both (nat_eq s.commit (length s.log)) _ _ (λ ls. AreGood g h c ls) (λ a. good_one (message.Commit s.view s.commit) j (λ p q. refl) (λ z. own.committed))
      (λ a. good_prepares n j (take s.commit s.log) (take tick.most_repeated rest) (drop tick.most_repeated rest) (s.commit + 1) (ap (λ (q : ℕ). q + 1) (sym (take_within s.commit s.log own.within)))
      (sym (take-append-drop s.commit s.log) ∙ ap (λ (l : List Entry). take s.commit s.log ++ l) (sym (take-append-drop tick.most_repeated rest)))))
      (good_repeats n js)

module _ {g : Group Entry} {h h' : History Entry} {c : ℕ} {s : VrState} (gr : IsGroup g) (i : Invariant g h) (b : c < size g) (at : StandsAt h c (member_state_of s) s.promise s.life) (fine : IsMemberOf g c s) where
  goes_sends : (ls : List VrLetter) → AreGood g h c ls → IsMemberTurn g h h' c (steps.sends s ls)
  goes_sends ls f t tr = turn_speak gr i b at (letters_of c ls) f.from_c f.unlike f.good (resembles_self (member_state_of s)) t (quiet_by t tr (λ n is. sym (own_log (good_at i b at) n is)))

  goes_changing : (member_state_of s).status ≡ core.ViewChange → IsMemberTurn g h h' c (tick.tick_changing s)
  goes_changing n =
      let told = own_good_vote (good_at i b at) n in
      let ask : AreGood g h c (steps.to_others s (message.StartViewChange s.view)) = good_each (message.StartViewChange s.view) (member.others s) (λ p q. refl) (λ j. tt) in
      let log : AreGood g h c (tick.sent_log s) = cond_both (s.sent && not (member.is_primary s)) _ _ (λ ls. AreGood g h c ls)
      (λ z. good_one (message.DoViewChange s.view s.normal s.commit (drop s.commit s.log)) (member.primary_of s s.view) (λ p q. refl) (λ j. told)) (λ z. good_none) in
      let front : AreGood g h c (choosing.fetches s) = cond_both (choosing.may_choose s) _ _ (λ ls. AreGood g h c ls) (λ z. good_front s s.collected) (λ z. good_none) in
      goes_sends (steps.to_others s (message.StartViewChange s.view) ++ tick.sent_log s ++ choosing.fetches s) (good_both (steps.to_others s (message.StartViewChange s.view) ++ tick.sent_log s) (choosing.fetches s) (good_both (steps.to_others s (message.StartViewChange s.view)) (tick.sent_log s) ask log) front)

  goes_recovering : IsMemberTurn g h h' c (tick.tick_recovering s)
  goes_recovering = goes_sends (steps.to_others s (message.Recovery s.life s.promise)) (good_each (message.Recovery s.life s.promise) (member.others s) (λ p q. refl) (λ j. subst (λ (q : ℕ). s.life ≤ q) (sym at.life_is) (le_refl s.life)))

  goes_primary : (member_state_of s).status ≡ core.Normal → IsMemberTurn g h h' c (tick.tick_primary s)
  goes_primary n = goes_sends (flat_map (tick.repeats_to s) (member.others s)) (good_repeats s i b at n (member.others s))

  pub goes_tick : IsMemberTurn g h h' c (tick.ticked s)
  goes_tick = by s.status refl
    where
      by : (x : Status) → s.status ≡ x → IsMemberTurn g h h' c (elim x [
        | status.Normal ↦ cond (member.is_primary s) (tick.tick_primary s) (steps.quiet s)
        | status.ViewChange ↦ tick.tick_changing s
        | status.Recovering ↦ tick.tick_recovering s
        | status.Down ↦ steps.quiet s
      ])
      by status.Normal e = cond_both (member.is_primary s) _ _ (IsMemberTurn g h h' c) (λ own. goes_primary (ap member_status_of e)) (λ own. goes_quiet gr i b at fine)
      by status.ViewChange e = goes_changing (ap member_status_of e)
      by status.Recovering e = goes_recovering
      by status.Down e = goes_quiet gr i b at fine
