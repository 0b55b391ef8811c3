-- The result of a command comes to the primary: it is marked where its command waits for one, and Settle goes on.
use Rattle.std.proofs.Common.{◌≡◌, ◌≤◌, ◌<◌, ◌⊎◌, inl, inr, ℕ, ◌+◌, Bool, true, false, List, [], ◌∷◌, ◌++◌, length, refl, sym, ◌∙◌, ap, subst, arith, append-nil}
use Rattle.std.specs.Prelude.{nat_eq, nat_lt, nat_le, ◌&&◌, ◌||◌, count_by, None, if◌then◌else◌}
use Rattle.std.proofs.lemmas.Bool.{and_from, and_parts, cases_eq, eq-eqb, eqb-true, le-leb, lt-ltb, or_cases, or_left, or_right, true≢false}
use Rattle.std.proofs.lemmas.List.Folds.{list_any-append}
use Rattle.std.proofs.lemmas.List.Sums.{sum_by-cons}
use Rattle.list_facts.proofs.Prefixes.{front_prefix}
use Rattle.of_types.specs.declared.message.Extension.TheVariants as extension
use Rattle.of_types.specs.declared.message.Outcome.{Outcome}
use Rattle.of_types.specs.declared.message.Spoken.TheVariants as spoken
use Rattle.of_types.specs.declared.setup.Setup.{Setup}
use Rattle.vr_log.specs.Log.{received}
use Rattle.vr_log.specs.Members.{most_failures}
use Rattle.app_core.specs.Chain.{concat}
use Rattle.app_core.specs.Issued.{count_issued, issues}
use Rattle.dispatcher.specs.Marks.{Marks, has_result, is_confirmed, is_pending, with_mark, with_marked_result}
use Rattle.of_switch.specs.State.{SwitchState, life_of}
use Rattle.group_controller.specs.declared.messages.ControllerInput.TheVariants as controller_input
use Rattle.group_controller.specs.State.{ControllerState, Work, committed, resting, with_no_met_limit}
use Rattle.group_controller.specs.Rules.{controller_work}
use Rattle.group_controller.specs.Settling.{after_finishing}
use Rattle.run_spec.specs.declared.messages.Message.{Message}
use Rattle.run_spec.specs.declared.messages.Message.TheVariants as message
use Rattle.closing_laws.specs.Serving.{AreCommanded, AreFew, AreEventsTold, IsMastered, IsAttended, IsSettled, IsTrueOf, IsTruePrimary, events_told, is_reply, results_said, settled_by}
use Rattle.closing_laws.proofs.Primary.Committing.{told_is}
use Rattle.closing_laws.proofs.Primary.Extending.{extends_none}
use Rattle.closing_laws.proofs.Primary.Finishing.{AreBoundedTo}
use Rattle.closing_laws.proofs.Primary.Growth.{counted_grows}
use Rattle.closing_laws.proofs.Primary.Hearing.{leader_input}
use Rattle.closing_laws.proofs.Primary.Holding.{answered}
use Rattle.closing_laws.proofs.Primary.Proposing.{Standing}
use Rattle.closing_laws.proofs.Primary.Settled.{AreServed}
use Rattle.closing_laws.proofs.Primary.Telling.{quiet_nil}
use Rattle.closing_laws.proofs.Primary.Turned.{HasTurned, after_finished, bounded_to, sound_of, stands, turned}

-- a mark more
module _ (marks : Marks) (s life number : ℕ) where
  pub mark_there : has_result (with_mark marks s life number) s life number ≡ true
  mark_there = by_old (has_result marks s life number) refl
    where
      by_old : (b : Bool) → has_result marks s life number ≡ b → has_result (if b then marks else record marks { acked = marks.acked ++ (s, life, number) ∷ [] }) s life number ≡ true
      by_old true is = is
      by_old false is =
          let a : nat_eq s s ≡ true = eq-eqb s s refl in
          let b : nat_eq life life ≡ true = eq-eqb life life refl in
          let d : nat_eq number number ≡ true = eq-eqb number number refl in
          list_any-append (λ x. nat_eq x.0 s && nat_eq x.1 life && nat_eq x.2 number) marks.acked ((s, life, number) ∷ [])
          ∙ or_right (has_result marks s life number) ((nat_eq s s && nat_eq life life && nat_eq number number) || false) (rw (a, b, d) refl)

  pub mark_kept : (t l i : ℕ) → has_result marks t l i ≡ true → has_result (with_mark marks s life number) t l i ≡ true
  mark_kept t l i h = by_old (has_result marks s life number)
    where
      by_old : (b : Bool) → has_result (if b then marks else record marks { acked = marks.acked ++ (s, life, number) ∷ [] }) t l i ≡ true
      by_old true = h
      by_old false =
          list_any-append (λ x. nat_eq x.0 t && nat_eq x.1 l && nat_eq x.2 i) marks.acked ((s, life, number) ∷ [])
          ∙ or_left (has_result marks t l i) ((nat_eq s t && nat_eq life l && nat_eq number i) || false) h

  pub mark_new : (t l i : ℕ) → has_result (with_mark marks s life number) t l i ≡ true → (has_result marks t l i ≡ true) ⊎ ((s ≡ t) × (life ≡ l) × (number ≡ i))
  mark_new t l i h = by_old (has_result marks s life number) h
    where
      by_old : (b : Bool) → has_result (if b then marks else record marks { acked = marks.acked ++ (s, life, number) ∷ [] }) t l i ≡ true → (has_result marks t l i ≡ true) ⊎ ((s ≡ t) × (life ≡ l) × (number ≡ i))
      by_old true k = inl k
      by_old false k = elim (or_cases (has_result marks t l i) ((nat_eq s t && nat_eq life l && nat_eq number i) || false) (sym (list_any-append (λ x. nat_eq x.0 t && nat_eq x.1 l && nat_eq x.2 i) marks.acked ((s, life, number) ∷ [])) ∙ k)) [
        | inl old ↦ inl old
        | inr new ↦ elim (or_cases (nat_eq s t && nat_eq life l && nat_eq number i) false new) [
          | inl is ↦
              let a = and_parts (nat_eq s t && nat_eq life l) (nat_eq number i) is in
              let b = and_parts (nat_eq s t) (nat_eq life l) a.0 in
              inr (eqb-true s t b.0, eqb-true life l b.1, eqb-true number i a.1)
          | inr none ↦ absurd (true≢false (sym none))
        ]
      ]

  pub mark_confirmed : (t : ℕ) → is_confirmed (with_mark marks s life number) t ≡ is_confirmed marks t
  mark_confirmed t = by_old (has_result marks s life number)
    where
      by_old : (b : Bool) → is_confirmed (if b then marks else record marks { acked = marks.acked ++ (s, life, number) ∷ [] }) t ≡ is_confirmed marks t
      by_old true = refl
      by_old false = refl

  -- those of other switches are as they were
  pub mark_others : (t l i : ℕ) → (t ≡ s → ⊥) → has_result (with_mark marks s life number) t l i ≡ has_result marks t l i
  mark_others t l i other = by_new (has_result (with_mark marks s life number) t l i) refl (has_result marks t l i) refl
    where
      by_new : (a : Bool) → has_result (with_mark marks s life number) t l i ≡ a → (b : Bool) → has_result marks t l i ≡ b → a ≡ b
      by_new true new true old = refl
      by_new false new false old = refl
      by_new false new true old = absurd (true≢false (sym (mark_kept t l i old) ∙ new))
      by_new true new false old = elim (mark_new t l i new) [
        | inl h ↦ absurd (true≢false (sym h ∙ old))
        | inr w ↦ absurd (other (sym w.0))
      ]

abbrev pub tells_result : ℕ → ℕ → ℕ → Outcome → Message
tells_result xid life number result = message.Of xid (spoken.Ravana (extension.CmdAck life number result))

-- the state with these marks
abbrev pub with_marks : ControllerState → Marks → ControllerState
with_marks c marks = record (with_no_met_limit c) { marks = marks }

module _ (kinds : List ℕ) (setup : Setup) (c : ControllerState) (s : ℕ) (sw : SwitchState) (xid number : ℕ) (result : Outcome) (out rest : List Message)
    (was : IsAttended kinds setup c s sw out (tells_result xid (life_of sw) number result ∷ rest)) (marks : Marks) (confirmed : is_confirmed marks s ≡ is_confirmed c.marks s)
    (kept : (i : ℕ) → has_result c.marks s (life_of sw) i ≡ true → has_result marks s (life_of sw) i ≡ true)
    (only : (i : ℕ) → has_result marks s (life_of sw) i ≡ true → (has_result c.marks s (life_of sw) i ≡ true) ⊎ (number ≡ i))
    (marked : settled_by kinds setup c s sw ≤ number → has_result marks s (life_of sw) number ≡ true) where
  asked : IsMastered c s sw out (tells_result xid (life_of sw) number result ∷ rest) × AreEventsTold c s sw out (tells_result xid (life_of sw) number result ∷ rest)
  asked = elim was.role [ inl u ↦ absurd (some u.silent) | inr a ↦ a ]
    where
      some : (tells_result xid (life_of sw) number result ∷ rest) ≡ [] → ⊥
      some x = absurd cc

  pub result_taken : IsAttended kinds setup (with_marks c marks) s sw out rest
  result_taken = record {
    said = was.said;
    heard = was.heard.1;
    role = inr (
      record {
        generation = asked.0.generation;
        master = asked.0.master;
        no_more = asked.0.no_more;
        replies =
            let parts = sum_by-cons (λ (m : Message). if is_reply m then 1 else 0) (tells_result xid (life_of sw) number result) rest in
            subst (λ (b : Bool). count_by is_reply rest + (if b then 1 else 0) ≡ 1) (sym confirmed) (let all = asked.0.replies in omega (arith, parts, all));
      },
      record { coming = asked.1.coming; stands = asked.1.stands; acknowledged = asked.1.acknowledged },
    );
    confirmed = λ h. commanded (was.confirmed (sym confirmed ∙ h));
    unconfirmed = λ h. absurd (none (was.unconfirmed (sym confirmed ∙ h)).no_results);
    marks = λ i h. elim (only i h) [ inl old ↦ was.marks i old | inr e ↦ was.results i (inl (sym e)) ];
    results = λ i h. was.results i (inr h);
  }
    where
      none : (number ∷ results_said rest) ≡ [] → ⊥
      none x = absurd cc

      commanded : AreCommanded kinds setup c s sw out (tells_result xid (life_of sw) number result ∷ rest) → AreCommanded kinds setup (with_marks c marks) s sw out rest
      commanded q = record {
        next = q.next;
        waits = q.waits;
        in_order = q.in_order;
        accounted = λ i low high. elim (q.accounted i low high) [
          | inl m ↦ inl (kept i m)
          | inr (inl h) ↦ inr (inl h)
          | inr (inr (inl e)) ↦ inl (subst (λ (k : ℕ). has_result marks s (life_of sw) k ≡ true) (sym e) (marked (omega (arith, e, low))))
          | inr (inr (inr h)) ↦ inr (inr h)
        ];
      }

module _ (kinds : List ℕ) (setup : Setup) (few : AreFew kinds setup) (sw : ℕ → SwitchState) (in_ in' out : ℕ → List Message) (c : ControllerState) (p : IsTruePrimary c)
    (whole : most_failures c.vr ≡ 0 → c.vr.commit ≡ length c.vr.log) (settled : IsSettled kinds setup c) (served : AreServed kinds setup sw in_ c out) (s xid number : ℕ) (result : Outcome)
    (there : s < length setup.ports) (own : in_ s ≡ tells_result xid (life_of (sw s)) number result ∷ in' s) (others : (t : ℕ) → (t ≡ s → ⊥) → in' t ≡ in_ t) where
  was : IsAttended kinds setup c s (sw s) (out s) (tells_result xid (life_of (sw s)) number result ∷ in' s)
  was = subst (λ (z : List Message). IsAttended kinds setup c s (sw s) (out s) z) own (served s there)

  each_by : (marks : Marks) → IsAttended kinds setup (with_marks c marks) s (sw s) (out s) (in' s) → ((t : ℕ) → is_confirmed marks t ≡ is_confirmed c.marks t) →
      ((t i : ℕ) → (t ≡ s → ⊥) → has_result marks t (life_of (sw t)) i ≡ has_result c.marks t (life_of (sw t)) i) → AreServed kinds setup sw in' (with_marks c marks) out
  each_by marks own_one confirmed rest t less = elim (cases_eq t s) [
    | inl same ↦ subst (λ (k : ℕ). IsAttended kinds setup (with_marks c marks) k (sw k) (out k) (in' k)) (sym same) own_one
    | inr other ↦
        subst (λ (z : List Message). IsAttended kinds setup (with_marks c marks) t (sw t) (out t) z) (sym (others t other))
        (subst (λ (z : List Message). IsAttended kinds setup (with_marks c marks) t (sw t) z (in_ t)) (append-nil (out t))
        (answered kinds setup c (with_marks c marks) t (sw t) (record { view = refl; me = refl; confirmed = confirmed t; marks = λ i. rest t i other; logged = refl }) (out t) (in_ t) [] (served t less)
        (inl refl) (omega arith) (quiet_nil c.vr.view) refl))
  ]

  standing : (marks : Marks) → Standing (with_marks c marks)
  standing marks =
      stands (with_marks c marks) (let a = sound_of c p whole in record { one = a.one; commit = a.commit; ahead = a.ahead; unfinished = a.unfinished; whole = a.whole; me = a.me }) settled.told settled.last

  abbrev now : Marks
  now = with_mark c.marks s (life_of (sw s)) number

  abbrev end : Work
  end = controller_work kinds setup c (controller_input.Of s xid (spoken.Ravana (extension.CmdAck (life_of (sw s)) number result)))

  abbrev pending : Bool
  pending = is_pending kinds setup (committed c) s (life_of (sw s)) number

  end_is : end ≡ (if pending then after_finishing kinds setup (resting (with_marks c (if pending then now else c.marks))) else resting (with_no_met_limit c))
  end_is =
      let leading = p.leads in
      leader_input kinds setup c (controller_input.Of s xid (spoken.Ravana (extension.CmdAck (life_of (sw s)) number result))) leading ∙ rw leading refl

  -- its command waits for it
  marked_served : AreServed kinds setup sw in' (with_marks c now) out
  marked_served =
      each_by now
      (result_taken kinds setup c s (sw s) xid number result (out s) (in' s) was now (mark_confirmed c.marks s (life_of (sw s)) number s) (λ i h. mark_kept c.marks s (life_of (sw s)) number s (life_of (sw s)) i h)
      (λ i h. elim (mark_new c.marks s (life_of (sw s)) number s (life_of (sw s)) i h) [ inl k ↦ inl k | inr w ↦ inr w.2 ]) (λ low. mark_there c.marks s (life_of (sw s)) number))
      (λ t. mark_confirmed c.marks s (life_of (sw s)) number t) (λ t i other. mark_others c.marks s (life_of (sw s)) number t (life_of (sw t)) i other)

  -- it does not
  past_served : pending ≡ false → AreServed kinds setup sw in' (with_marks c c.marks) out
  past_served past =
      each_by c.marks
      (result_taken kinds setup c s (sw s) xid number result (out s) (in' s) was c.marks refl (λ i h. h) (λ i h. inl h) (λ low. absurd (true≢false (sym (waits low) ∙ past))))
      (λ t. refl) (λ t i other. refl)
    where
      waits : settled_by kinds setup c s (sw s) ≤ number → pending ≡ true
      waits low =
          let most = was.results number (inl refl) in
          let some = told_is kinds setup c s (sw s) in
          let all = counted_grows kinds setup s (life_of (sw s)) (front_prefix (events_told c) (received (committed c))) in
          and_from (nat_le (settled_by kinds setup c s (sw s)) number) (nat_lt number (count_issued s (life_of (sw s)) (concat (issues kinds setup (received (committed c))))))
          (le-leb (settled_by kinds setup c s (sw s)) number low) (lt-ltb number (count_issued s (life_of (sw s)) (concat (issues kinds setup (received (committed c))))) (omega (arith, most, some, all)))

  pub result_comes : end.state.full ≡ None → IsTruePrimary end.state → ((t : ℕ) → t < length setup.ports → IsTrueOf kinds setup end.state t (sw t)) → HasTurned kinds setup sw in' c out (with_marked_result kinds setup (committed c) c.marks s (life_of (sw s)) number) end
  result_comes full p_end true_end = by_pending pending refl
    where
      by_pending : (b : Bool) → pending ≡ b → HasTurned kinds setup sw in' c out (if b then now else c.marks) end
      by_pending true waits =
          let is = end_is ∙ ap (λ (b : Bool). if b then after_finishing kinds setup (resting (with_marks c (if b then now else c.marks))) else resting (with_no_met_limit c)) waits in
          subst (λ (x : Work). HasTurned kinds setup sw in' c out now x) (sym is)
          (turned kinds setup sw in' c out (resting (with_marks c now)) (after_finishing kinds setup (resting (with_marks c now))) refl refl refl
          (after_finished kinds setup sw in' few (resting (with_marks c now)) out (standing now) marked_served
          (subst (λ (x : Work). AreBoundedTo kinds setup sw in' (committed x.state)) is (bounded_to kinds setup sw in' end.state p_end true_end)) (ap (λ (x : Work). x.state.full) (sym is) ∙ full)))
      by_pending false past =
          let is = end_is ∙ ap (λ (b : Bool). if b then after_finishing kinds setup (resting (with_marks c (if b then now else c.marks))) else resting (with_no_met_limit c)) past in
          subst (λ (x : Work). HasTurned kinds setup sw in' c out c.marks x) (sym is) (record {
            save = refl;
            more = [];
            extends = extends_none c (with_no_met_limit c) [] refl (λ b. refl);
            to_others_only = λ b h. refl;
            marks_are = refl;
            settled = record { told = settled.told; proposed = settled.proposed; last = settled.last };
            standing = standing c.marks;
            served = λ t less. subst (λ (z : List Message). IsAttended kinds setup (with_no_met_limit c) t (sw t) z (in' t)) (sym (append-nil (out t))) (past_served past t less);
          })
