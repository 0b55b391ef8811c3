-- A switch has taken the primary as its master: it is told the commands of the first unprocessed event.
use Rattle.std.proofs.Common.{◌≡◌, ◌≤◌, ◌<◌, ◌⊎◌, inl, inr, ℕ, ◌+◌, ◌-◌, Bool, true, false, List, [], ◌∷◌, ◌++◌, length, take, filter, refl, sym, ◌∙◌, ap, subst, arith, take_all}
use Rattle.std.specs.Prelude.{nat_eq, count_by, if◌then◌else◌}
use Rattle.std.specs.List.{AllByRecursion, range_with_len}
use Rattle.std.proofs.lemmas.Bool.{cases_eq, eq-eqb, ltb-false, ltb-true, ne_eqb, true≢false}
use Rattle.std.proofs.lemmas.List.Sums.{sum_by-append, sum_by-cons}
use Rattle.list_facts.specs.Lists.{IsIn}
use Rattle.list_facts.proofs.Elements.{in_filter, in_left, in_right}
use Rattle.list_facts.proofs.Prefixes.{prefix_refl}
use Rattle.of_types.specs.declared.message.OfMessage.TheVariants as plain
use Rattle.of_types.specs.declared.message.Spoken.TheVariants as spoken
use Rattle.of_types.specs.declared.numbers.TheConstants.{MASTER}
use Rattle.of_types.specs.declared.setup.Setup.{Setup}
use Rattle.of_types.specs.Lives.{life_in}
use Rattle.journal.proofs.All.{all_append}
use Rattle.vr_log.specs.Log.{received}
use Rattle.vr_log.specs.Members.{most_failures}
use Rattle.two_stage_log.specs.Counts.{has_unprocessed}
use Rattle.app_core.specs.declared.issued.Issued.{Issued}
use Rattle.app_core.specs.Issued.{count_issued}
use Rattle.dispatcher.specs.Marks.{confirmed_by, is_confirmed, is_wanted}
use Rattle.of_switch.specs.State.{SwitchState, life_of}
use Rattle.group_controller.specs.declared.messages.ControllerInput.TheVariants as controller_input
use Rattle.group_controller.specs.State.{ControllerState, Work, committed, posting_work, resting, with_no_met_limit}
use Rattle.group_controller.specs.Rules.{commands_for, controller_work}
use Rattle.group_controller.specs.Settling.{is_untold}
use Rattle.run_spec.specs.declared.messages.Message.{Message}
use Rattle.run_spec.specs.declared.messages.Message.TheVariants as message
use Rattle.closing_laws.specs.Serving.{AreFew, AreEventsTold, AreUntold, IsMastered, IsSaidBy, IsAttended, IsSettled, IsTrueOf, IsTruePrimary, acknowledges_events, commands_said, is_reply, is_request, processed_by, settled_by, letters_told_by}
use Rattle.closing_laws.proofs.Primary.Commanding.{among_due, due, few_beyond, first, numbers_due, wanting}
use Rattle.closing_laws.proofs.Primary.Committing.{settled_is, told_is}
use Rattle.closing_laws.proofs.Primary.Extending.{extends_none}
use Rattle.closing_laws.proofs.Primary.Hearing.{joins, joins_others, leader_input}
use Rattle.closing_laws.proofs.Primary.Holding.{answered}
use Rattle.closing_laws.proofs.Primary.Numbering.{counted, counted_next, in_range}
use Rattle.closing_laws.proofs.Primary.Settled.{AreServed, bounded_by, commands_to_switches}
use Rattle.closing_laws.proofs.Primary.Telling.{AreQuiet, commands_are_said, commands_said-append, commands_told, no_requests_told, numbers_all, numbers_in, numbers_none, told}
use Rattle.closing_laws.proofs.Primary.Turned.{HasTurned, sound_of, stands}
use Rattle.closing_laws.proofs.Primary.WantedCommands.{due_past}

abbrev pub reply_of : ℕ → ℕ → Message
reply_of xid view = message.Of xid (spoken.Plain (plain.RoleReply MASTER view))

module _ (kinds : List ℕ) (setup : Setup) (c : ControllerState) where
  -- how many commands are told, where none is left to tell
  pub told_first : is_untold c ≡ false → has_unprocessed (committed c) ≡ true → (s : ℕ) (sw : SwitchState) →
      letters_told_by kinds setup c s sw ≡ settled_by kinds setup c s sw + count_issued s (life_of sw) (due kinds setup c)
  told_first untold there s sw =
      told_is kinds setup c s sw ∙ ap (λ (b : Bool). counted kinds setup s (life_of sw) (take (first kinds setup c + (if b then 0 else 1)) (received (committed c)))) untold
      ∙ counted_next kinds setup s (life_of sw) (first kinds setup c) (received (committed c)) (ltb-true (first kinds setup c) (length (received (committed c))) there)
      ∙ ap (λ (n : ℕ). n + count_issued s (life_of sw) (due kinds setup c)) (sym (settled_is kinds setup c s sw))

  pub told_all : is_untold c ≡ false → has_unprocessed (committed c) ≡ false → (s : ℕ) (sw : SwitchState) → letters_told_by kinds setup c s sw ≡ settled_by kinds setup c s sw
  told_all untold none s sw =
      let past = ltb-false (first kinds setup c) (length (received (committed c))) none in
      told_is kinds setup c s sw ∙ ap (λ (b : Bool). counted kinds setup s (life_of sw) (take (first kinds setup c + (if b then 0 else 1)) (received (committed c)))) untold
      ∙ ap (counted kinds setup s (life_of sw))
      (take_all (first kinds setup c + 1) (received (committed c)) (omega (arith, past)) ∙ sym (take_all (first kinds setup c) (received (committed c)) past))
      ∙ sym (settled_is kinds setup c s sw)

  pub due_none : has_unprocessed (committed c) ≡ false → due kinds setup c ≡ []
  due_none none = due_past kinds setup (committed c) none

module _ (kinds : List ℕ) (setup : Setup) (few : AreFew kinds setup) (c : ControllerState) (s : ℕ) where
  abbrev pub now : ControllerState
  now = record (with_no_met_limit c) { marks = confirmed_by c.marks s }

  abbrev pub its : List Issued
  its = filter (λ x. nat_eq x.switch s) (wanting kinds setup now)

  its_due : (x : Issued) → IsIn x its → IsIn x (due kinds setup c)
  its_due x h = among_due kinds setup now x (in_filter (λ y. nat_eq y.switch s) (wanting kinds setup now) x h)

  its_said : (t : ℕ) → AllByRecursion (λ m. IsSaidBy c.vr.view m) (told t (commands_for kinds setup now s))
  its_said t = commands_are_said kinds setup (committed c) c.vr.view t its (λ x h. few_beyond kinds setup c few x (its_due x h))

  -- another switch is told nothing of it
  quiet_others : (t : ℕ) → (t ≡ s → ⊥) → AreQuiet c.vr.view (told t (commands_for kinds setup now s))
  quiet_others t other = record {
    said = its_said t;
    no_commands = λ life.
        commands_told kinds setup (committed c) c.vr.view t life its
        ∙ numbers_none t life (λ y. nat_eq y.switch s) (wanting kinds setup now) (λ x h switch_is life_is. ne_eqb x.switch s (λ e. other (sym switch_is ∙ e)));
    no_requests = no_requests_told kinds setup (committed c) c.vr.view t its;
  }

  pub others_served : (t : ℕ) (sw : SwitchState) (out in_ : List Message) → (t ≡ s → ⊥) → IsAttended kinds setup c t sw out in_ → IsAttended kinds setup now t sw (out ++ told t (commands_for kinds setup now s)) in_
  others_served t sw out in_ other was =
      answered kinds setup c now t sw (record { view = refl; me = refl; confirmed = joins_others s t c.marks.confirmed other; marks = λ i. refl; logged = refl }) out in_ (told t (commands_for kinds setup now s)) was (inl refl) (omega arith)
      (quiet_others t other) refl

  module _ (sw : SwitchState) (xid : ℕ) (out rest : List Message) (untold : is_untold c ≡ false) (young : life_in s (received (committed c)) ≤ life_of sw)
      (done : settled_by kinds setup c s sw ≤ sw.results.executed) (was : IsAttended kinds setup c s sw out (reply_of xid c.vr.view ∷ rest)) where
    abbrev it : List Message
    it = told s (commands_for kinds setup now s)

    asked : IsMastered c s sw out (reply_of xid c.vr.view ∷ rest) × AreEventsTold c s sw out (reply_of xid c.vr.view ∷ rest)
    asked = elim was.role [ inl u ↦ absurd (some u.silent) | inr a ↦ a ]
      where
        some : (reply_of xid c.vr.view ∷ rest) ≡ [] → ⊥
        some e = absurd cc

    replies : (1 + count_by is_reply rest) + (if is_confirmed c.marks s then 1 else 0) ≡ 1
    replies = let parts = sum_by-cons (λ (m : Message). if is_reply m then 1 else 0) (reply_of xid c.vr.view) rest in let all = asked.0.replies in omega (arith, parts, all)

    unconfirmed : is_confirmed c.marks s ≡ false
    unconfirmed = by_value (is_confirmed c.marks s) refl
      where
        by_value : (b : Bool) → is_confirmed c.marks s ≡ b → b ≡ false
        by_value false is = refl
        by_value true is = absurd (let all = replies ∙ refl in let two = ap (λ (b : Bool). (1 + count_by is_reply rest) + (if b then 1 else 0)) is in omega (arith, all, two))

    confirmed : is_confirmed now.marks s ≡ true
    confirmed = joins s c.marks.confirmed

    free : AreUntold c s sw out (reply_of xid c.vr.view ∷ rest)
    free = was.unconfirmed unconfirmed

    numbers : commands_said (life_of sw) it ≡ range_with_len (settled_by kinds setup c s sw) (letters_told_by kinds setup c s sw - settled_by kinds setup c s sw)
    numbers =
        commands_told kinds setup (committed c) c.vr.view s (life_of sw) its
        ∙ numbers_all s (life_of sw) (λ y. nat_eq y.switch s) (wanting kinds setup now) (λ x h switch_is life_is. eq-eqb x.switch s switch_is)
        ∙ by_place (has_unprocessed (committed c)) refl
      where
        by_place : (b : Bool) → has_unprocessed (committed c) ≡ b → numbers_in s (life_of sw) (wanting kinds setup now) ≡ range_with_len (settled_by kinds setup c s sw) (letters_told_by kinds setup c s sw - settled_by kinds setup c s sw)
        by_place true there =
            let all = told_first kinds setup c untold there s sw in
            numbers_due kinds setup now s sw young (λ i h. absurd (true≢false (sym h ∙ free.no_marks i))) there confirmed
            ∙ ap (range_with_len (settled_by kinds setup c s sw)) (omega (arith, all))
        by_place false none =
            let all = told_all kinds setup c untold none s sw in
            let zero_left : letters_told_by kinds setup c s sw - settled_by kinds setup c s sw ≡ 0 = omega (arith, all) in
            ap (λ (xs : List Issued). numbers_in s (life_of sw) (filter (λ x. is_confirmed now.marks x.switch) (filter (is_wanted (committed c) now.marks) xs))) (due_none kinds setup c none)
            ∙ sym (ap (range_with_len (settled_by kinds setup c s sw)) zero_left)

    pub own_served : IsAttended kinds setup now s sw (out ++ it) rest
    own_served = record {
      said = all_append (λ m. IsSaidBy c.vr.view m) out it was.said (its_said s);
      heard = was.heard.1;
      role = inr (
        record {
          generation = asked.0.generation;
          master = asked.0.master;
          no_more = let parts = sum_by-append (λ (m : Message). if is_request m then 1 else 0) out it in let a = asked.0.no_more in let b = no_requests_told kinds setup (committed c) c.vr.view s its in omega (arith, parts, a, b);
          replies = subst (λ (b : Bool). count_by is_reply rest + (if b then 1 else 0) ≡ 1) (sym confirmed) (let all = replies in omega (arith, all));
        },
        record {
          coming = asked.1.coming;
          stands = asked.1.stands;
          acknowledged = λ less. elim (asked.1.acknowledged less) [
            | inl h ↦ inl (in_left (acknowledges_events (life_of sw) (processed_by c s sw)) out it h)
            | inr w ↦ inr w
          ];
        },
      );
      confirmed = λ h. record {
        next = settled_by kinds setup c s sw;
        waits = commands_said-append (life_of sw) out it ∙ ap (λ (z : List ℕ). z ++ commands_said (life_of sw) it) free.no_commands ∙ numbers;
        in_order = λ less. done;
        accounted = λ i low high. inr (inl (subst (λ (z : List ℕ). IsIn i z) (sym (commands_said-append (life_of sw) out it))
            (in_right i (commands_said (life_of sw) out) (commands_said (life_of sw) it)
            (subst (λ (z : List ℕ). IsIn i z) (sym numbers) (in_range (settled_by kinds setup c s sw) (letters_told_by kinds setup c s sw - settled_by kinds setup c s sw) i low (omega (arith, low, high)))))));
      };
      unconfirmed = λ h. absurd (true≢false (sym confirmed ∙ h));
      marks = was.marks;
      results = was.results;
    }

-- the turn in which a switch's reply comes
module _ (kinds : List ℕ) (setup : Setup) (few : AreFew kinds setup) (sw : ℕ → SwitchState) (in_ in' out : ℕ → List Message) (c : ControllerState) (p : IsTruePrimary c)
    (whole : most_failures c.vr ≡ 0 → c.vr.commit ≡ length c.vr.log) (settled : IsSettled kinds setup c) (true_of : (t : ℕ) → t < length setup.ports → IsTrueOf kinds setup c t (sw t))
    (served : AreServed kinds setup sw in_ c out) (s xid : ℕ) (own : in_ s ≡ reply_of xid c.vr.view ∷ in' s) (others : (t : ℕ) → (t ≡ s → ⊥) → in' t ≡ in_ t) where
  abbrev work : Work
  work = posting_work (resting (now kinds setup few c s)) (commands_for kinds setup (now kinds setup few c s) s)

  work_is : controller_work kinds setup c (controller_input.Of s xid (spoken.Plain (plain.RoleReply MASTER c.vr.view))) ≡ work
  work_is =
      let same : nat_eq c.vr.view c.vr.view ≡ true = eq-eqb c.vr.view c.vr.view refl in
      let leading = p.leads in
      leader_input kinds setup c (controller_input.Of s xid (spoken.Plain (plain.RoleReply MASTER c.vr.view))) leading ∙ rw (leading, same) refl

  own_at : s < length setup.ports → IsAttended kinds setup work.state s (sw s) (out s ++ told s work.letters) (in' s)
  own_at less =
      let b = bounded_by kinds setup c s (sw s) (committed c) (true_of s less) p.one (prefix_refl (committed c)) in
      own_served kinds setup few c s (sw s) xid (out s) (in' s) settled.told b.young b.done (subst (λ (z : List Message). IsAttended kinds setup c s (sw s) (out s) z) own (served s less))

  each_served : AreServed kinds setup sw in' work.state (λ t. out t ++ told t work.letters)
  each_served t less = by_switch (cases_eq t s)
    where
      by_switch : (t ≡ s) ⊎ (t ≡ s → ⊥) → IsAttended kinds setup work.state t (sw t) (out t ++ told t work.letters) (in' t)
      by_switch (inr other) =
          subst (λ (z : List Message). IsAttended kinds setup work.state t (sw t) (out t ++ told t work.letters) z) (sym (others t other))
          (others_served kinds setup few c s t (sw t) (out t) (in_ t) other (served t less))
      by_switch (inl e) = subst (λ (k : ℕ). IsAttended kinds setup work.state k (sw k) (out k ++ told k work.letters) (in' k)) (sym e) (own_at (subst (λ (k : ℕ). k < length setup.ports) e less))

  pub role_comes : HasTurned kinds setup sw in' c out (confirmed_by c.marks s) (controller_work kinds setup c (controller_input.Of s xid (spoken.Plain (plain.RoleReply MASTER c.vr.view))))
  role_comes = subst (λ (x : Work). HasTurned kinds setup sw in' c out (confirmed_by c.marks s) x) (sym work_is) (record {
    save = refl;
    more = [];
    extends = extends_none c work.state work.letters refl (commands_to_switches kinds setup (committed c) c.vr.view (its kinds setup few c s));
    to_others_only = λ b h. commands_to_switches kinds setup (committed c) c.vr.view (its kinds setup few c s) b;
    marks_are = refl;
    settled = record { told = settled.told; proposed = settled.proposed; last = settled.last };
    standing = stands work.state (let a = sound_of c p whole in record { one = a.one; commit = a.commit; ahead = a.ahead; unfinished = a.unfinished; whole = a.whole; me = a.me }) settled.told settled.last;
    served = each_served;
  })
