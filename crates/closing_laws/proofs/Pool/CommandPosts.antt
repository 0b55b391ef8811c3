-- What the primary posts in a turn of letters that pass a test, beside the commands that were sent and wait for their results.
use Rattle.std.proofs.Common.{◌≡◌, ◌≤◌, inl, inr, ℕ, zero, suc, ◌+◌, Bool, true, false, List, [], ◌∷◌, ◌++◌, length, map, filter, take, drop, flat_map, refl, sym, ◌∙◌, ap, arith, append-nil, append_assoc, take_all}
use Rattle.std.specs.Prelude.{count_by, nat_eq, not, ◌&&◌, Option, Some, if◌then◌else◌}
use Rattle.std.proofs.lemmas.Bool.{and_from, and_parts, cases_eq, eqb-true, true≢false}
use Rattle.of_types.specs.declared.message.Event.{Event}
use Rattle.of_types.specs.declared.message.Extension.TheVariants as extension
use Rattle.of_types.specs.declared.message.OfMessage.TheVariants as plain
use Rattle.of_types.specs.declared.message.Spoken.TheVariants as spoken
use Rattle.of_types.specs.declared.numbers.TheConstants.{MASTER}
use Rattle.of_types.specs.declared.setup.Setup.{Setup}
use Rattle.journal.specs.declared.journal.Actor.{Actor}
use Rattle.journal.specs.declared.journal.Actor.TheVariants as actor
use Rattle.journal.specs.declared.journal.Letter.{Letter}
use Rattle.vr_log.specs.declared.entry.Entry.{Entry}
use Rattle.vr_log.specs.declared.entry.Entry.TheVariants.{Received}
use Rattle.vr_log.specs.declared.message.VrLetter.{VrLetter}
use Rattle.vr_log.specs.declared.message.VrMessage.{VrMessage}
use Rattle.vr_log.specs.declared.message.VrMessage.TheVariants as vr
use Rattle.vr_log.specs.declared.state.VrState.{VrState}
use Rattle.vr_log.specs.Log.{is_past_limits, processed, received}
use Rattle.vr_log.specs.Members.{most_failures}
use Rattle.vr_log.specs.Steps.{to_others}
use Rattle.vr_log.proofs.Logs.{received-append}
use Rattle.app_core.specs.declared.issued.Issued.{Issued}
use Rattle.dispatcher.specs.declared.answers.AckThrough.{AckThrough}
use Rattle.dispatcher.specs.Folding.{acknowledges_at, clears_at, numbered, places_processed}
use Rattle.dispatcher.specs.Marks.{Marks, confirmed_by, is_confirmed, is_wanted, outstanding, settled_commands}
use Rattle.group_controller.specs.declared.messages.ControllerSays.{ControllerSays}
use Rattle.group_controller.specs.State.{ControllerState, Work, committed, leaving, met_limit, resting, to_member, to_members}
use Rattle.group_controller.specs.Settling.{ack_letter, after_finishing, after_proposal, answers_at, clear_letter, command_letter, command_letters, finishing, goes_on, is_alone, is_settled, is_untold, processing, proposing, role_letter, settling, with_answers, with_commands}
use Rattle.group_controller.specs.Rules.{commands_for, on_master}
use Rattle.run_spec.specs.declared.messages.Message.{Message}
use Rattle.run_spec.specs.declared.messages.Message.TheVariants as message
use Rattle.run_spec.specs.States.{controller_message}
use Rattle.closing_laws.specs.Following.{Start}
use Rattle.closing_laws.proofs.Pool.FinishedEvents.{Finishes, WorkFinishes, commands_finishes, none_due, proposal_finishes, received_finishes}
use Rattle.closing_laws.proofs.Pool.SentCommands.{outstanding_count, sent_by_now, sent_in, sent_none, stands, due_in}
use Rattle.closing_laws.proofs.Pool.TestCounts.{count_filter, count_two}
use Rattle.closing_laws.proofs.Pool.Waiting.{posted, posted_append, posted_cons, posted_never}
use Rattle.closing_laws.proofs.Primary.Commanding.{is_told}
use Rattle.closing_laws.proofs.Primary.Hearing.{joins, joins_others}
use Rattle.closing_laws.proofs.Primary.Proposing.{committed_same, proposal, proposed_as, pushed, pushed_all}
use Rattle.closing_laws.proofs.Switches.Saying.{count_cons}

-- of what the primary says commands alone may pass, those whose command passes another
pub record IsOfCommands (is : Actor → Message → Bool) (sel : Issued → Bool) : Type 0 where
  pub command : (x : Issued) (view settled : ℕ) → is (actor.Switch x.switch) (message.Of 0 (spoken.Ravana (extension.Command x.life view x.number settled x.order))) ≡ sel x
  pub member : (a : Actor) (x : VrMessage) → is a (message.Vr x) ≡ false
  pub ack : (a : Actor) (life through : ℕ) → is a (message.Of 0 (spoken.Ravana (extension.EventAck life through))) ≡ false
  pub clear : (a : Actor) (life through : ℕ) → is a (message.Of 0 (spoken.Ravana (extension.Clear life through))) ≡ false
  pub asks : (a : Actor) (role generation : ℕ) → is a (message.Of 0 (spoken.Plain (plain.RoleRequest role generation))) ≡ false

module _ (is : Actor → Message → Bool) (sel : Issued → Bool) (of : IsOfCommands is sel) (from : Actor) where
  abbrev pub primary_posts : List (Letter ControllerSays) → ℕ
  primary_posts letters = posted is controller_message from letters

  pub members_post : (letters : List VrLetter) → primary_posts (to_members letters) ≡ 0
  members_post letters = posted_never is controller_message from to_member (λ l. of.member (actor.Controller l.to) l.message) letters

  pub acks_post : (xs : List AckThrough) → primary_posts (map ack_letter xs) ≡ 0
  acks_post xs = posted_never is controller_message from ack_letter (λ x. of.ack (actor.Switch x.switch) x.life x.through) xs

  clears_post : (xs : List AckThrough) → primary_posts (map clear_letter xs) ≡ 0
  clears_post xs = posted_never is controller_message from clear_letter (λ x. of.clear (actor.Switch x.switch) x.life x.through) xs

  pub roles_post : (view : ℕ) (xs : List ℕ) → primary_posts (map (role_letter view) xs) ≡ 0
  roles_post view xs = posted_never is controller_message from (role_letter view) (λ s. of.asks (actor.Switch s) MASTER view) xs

  module _ (kinds : List ℕ) (setup : Setup) where
    answers_post : (c : ControllerState) (places : List ℕ) → primary_posts (flat_map (answers_at kinds setup c) places) ≡ 0
    answers_post c [] = refl
    answers_post c (j ∷ places) =
        let all = posted_append is controller_message from (answers_at kinds setup c j) (flat_map (answers_at kinds setup c) places) in
        let here = posted_append is controller_message from (map ack_letter (acknowledges_at (committed c) j)) (map clear_letter (clears_at kinds setup (committed c) j)) in
        let a = acks_post (acknowledges_at (committed c) j) in
        let b = clears_post (clears_at kinds setup (committed c) j) in
        let rest = answers_post c places in
        omega (arith, all, here, a, b, rest)

    pub commands_post : (c : ControllerState) (xs : List Issued) → primary_posts (command_letters kinds setup c xs) ≡ count_by sel xs
    commands_post c [] = refl
    commands_post c (x ∷ xs) =
        let first = ap {B = ℕ} (λ (b : Bool). if b then 1 else 0) (of.command x c.vr.view (settled_commands kinds setup (committed c) x.switch x.life)) in
        let parts = posted_cons is controller_message from (command_letter c.vr.view (numbered kinds setup (committed c) x)) (command_letters kinds setup c xs) in
        let more = count_cons sel x xs in
        let rest = commands_post c xs in
        omega (arith, first, parts, more, rest)

    -- ---- pieces of a turn

    module _ (start : Start) (life : ℕ → ℕ) (pay : ℕ → List Event → ℕ) (grows : (n m : ℕ) (events : List Event) → n ≤ m → pay n events ≤ pay m events) where
      abbrev pub pay_of : VrState → ℕ
      pay_of v = pay v.commit (received (take v.commit v.log))

      -- what is posted is among what was sent
      pub record Pays (old new : Work) : Type 0 where
        pub letters : List (Letter ControllerSays)
        pub joined : new.letters ≡ old.letters ++ letters
        pub pays : primary_posts letters + sent_by_now kinds setup sel old.state + pay_of old.state.vr ≤ sent_by_now kinds setup sel new.state + pay_of new.state.vr

      pub pays_none : (old new : Work) → new.letters ≡ old.letters → sent_by_now kinds setup sel old.state + pay_of old.state.vr ≤ sent_by_now kinds setup sel new.state + pay_of new.state.vr → Pays old new
      pays_none old new same le = record { letters = []; joined = same ∙ sym (append-nil old.letters); pays = omega (arith, le) }

      pub pays_then : (a b c : Work) → Pays a b → Pays b c → Pays a c
      pays_then a b c p q = record {
        letters = p.letters ++ q.letters;
        joined = q.joined ∙ ap (λ (z : List (Letter ControllerSays)). z ++ q.letters) p.joined ∙ append_assoc a.letters p.letters q.letters;
        pays = let parts = posted_append is controller_message from p.letters q.letters in let x = p.pays in let y = q.pays in omega (arith, parts, x, y);
      }

      pub answers_pay : (before : ℕ) (work : Work) → Pays work (with_answers kinds setup before work)
      answers_pay before work = record {
        letters = flat_map (answers_at kinds setup work.state) (places_processed (drop before (committed work.state)));
        joined = refl;
        pays = let none = answers_post work.state (places_processed (drop before (committed work.state))) in omega (arith, none);
      }

      pub commands_pay : (work : Work) → Pays work (with_commands kinds setup work)
      commands_pay work = by_untold (is_untold work.state) refl
        where
          c : ControllerState
          c = work.state

          by_untold : (b : Bool) → is_untold work.state ≡ b → Pays work (if b then record {
            state = record work.state { last_told = Some (processed (committed work.state)) };
            save = work.save;
            letters = work.letters ++ command_letters kinds setup work.state (outstanding kinds setup (committed work.state) work.state.marks);
          } else work)
          by_untold true untold = record {
            letters = command_letters kinds setup work.state (outstanding kinds setup (committed work.state) work.state.marks);
            joined = refl;
            pays =
                let said = commands_post work.state (outstanding kinds setup (committed work.state) work.state.marks) in
                let all = outstanding_count kinds setup sel (committed work.state) work.state.marks in
                let before = ap (λ (b : Bool). if b then 0 else count_by (stands kinds setup sel (committed work.state) work.state.marks) (due_in kinds setup (committed work.state))) untold in
                let after = ap (λ (b : Bool). if b then 0 else count_by (stands kinds setup sel (committed work.state) work.state.marks) (due_in kinds setup (committed work.state))) (is_told kinds setup work.state) in
                omega (arith, said, all, before, after);
          }
          by_untold false told = pays_none work work refl (omega arith)

      -- what was sent and waits, and what bounds the rest
      abbrev pub level : ControllerState → ℕ
      level c = sent_by_now kinds setup sel c + pay_of c.vr

      level_same : (c c' : ControllerState) → committed c' ≡ committed c → c'.vr.commit ≡ c.vr.commit → c'.marks ≡ c.marks → c'.last_told ≡ c.last_told → level c' ≡ level c
      level_same c c' same commit marks last =
          ap (λ (K : List Entry). sent_in kinds setup sel K c'.marks c'.last_told + pay c'.vr.commit (received K)) same
          ∙ ap (λ (m : Marks). sent_in kinds setup sel (committed c) m c'.last_told + pay c'.vr.commit (received (committed c))) marks
          ∙ ap (λ (o : Option ℕ). sent_in kinds setup sel (committed c) c.marks o + pay c'.vr.commit (received (committed c))) last
          ∙ ap (λ (n : ℕ). sent_in kinds setup sel (committed c) c.marks c.last_told + pay n (received (committed c))) commit

      -- an entry is proposed, where alone it may be committed at once
      module _ (work : Work) (entry : Entry) (f : WorkFinishes kinds setup start life work)
          (step : is_alone work.state ≡ true → level work.state ≤ level (pushed work.state entry (length work.state.vr.log + 1))) where
        told_pays : Pays work (proposed_as false work entry)
        told_pays = record {
          letters = proposal work.state entry;
          joined = refl;
          pays =
              let none = members_post (to_others work.state.vr (vr.Prepare work.state.vr.view (length work.state.vr.log + 1) work.state.vr.commit entry)) in
              let same = level_same work.state (pushed work.state entry work.state.vr.commit) (committed_same work.state entry f.within) refl refl refl in
              omega (arith, none, same);
        }

        alone_pays : is_alone work.state ≡ true → Pays work (proposed_as true work entry)
        alone_pays alone = record {
          letters = proposal work.state entry;
          joined = refl;
          pays = let none = members_post (to_others work.state.vr (vr.Prepare work.state.vr.view (length work.state.vr.log + 1) work.state.vr.commit entry)) in let up = step alone in omega (arith, none, up);
        }

        pub proposal_pays : Pays work (after_proposal kinds setup work entry)
        proposal_pays = by_limits (is_past_limits work.state.vr.log entry) (is_alone work.state) refl
          where
            by_limits : (p a : Bool) → is_alone work.state ≡ a →
                Pays work (if p then leaving work (met_limit work.state entry)
                else if a then with_commands kinds setup (with_answers kinds setup work.state.vr.commit (proposed_as a work entry)) else proposed_as a work entry)
            by_limits true a is = pays_none work (leaving work (met_limit work.state entry)) refl (omega arith)
            by_limits false true is =
                let next = proposed_as true work entry in
                let answered = with_answers kinds setup work.state.vr.commit next in
                pays_then work answered (with_commands kinds setup answered) (pays_then work next answered (alone_pays is) (answers_pay work.state.vr.commit next)) (commands_pay answered)
            by_limits false false is = told_pays

      -- that an event is processed, none of whose commands is wanted
      processing_step : (work : Work) → WorkFinishes kinds setup start life work → is_settled kinds setup work.state ≡ true → is_alone work.state ≡ true →
          level work.state ≤ level (pushed work.state (processing work.state) (length work.state.vr.log + 1))
      processing_step work f is alone =
          let c = work.state in
          let none = sent_none kinds setup sel (committed c) c.marks c.last_told (none_due kinds setup start life c is) in
          let whole = f.whole (eqb-true (most_failures c.vr) 0 alone) in
          let before = ap received (take_all c.vr.commit c.vr.log (omega (arith, whole))) in
          let after = ap received (pushed_all c (processing c)) ∙ received-append c.vr.log (processing c ∷ []) ∙ append-nil (received c.vr.log) in
          let a = ap (λ (es : List Event). pay c.vr.commit es) before in
          let b = ap (λ (es : List Event). pay (length c.vr.log + 1) es) after in
          let up = grows c.vr.commit (length c.vr.log + 1) (received c.vr.log) (omega (arith, whole)) in
          omega (arith, none, a, b, up)

      finishing_pays : (m : ℕ) (work : Work) → WorkFinishes kinds setup start life work → Pays work (finishing m kinds setup work)
      unfolding finishing
      finishing_pays zero work f = pays_none work work refl (omega arith)
      finishing_pays (suc m) work f = by_cases (finishing_pays m next) (is_settled kinds setup work.state) refl (not (is_past_limits work.state.vr.log (processing work.state)) && is_alone work.state)
        where
          next : Work
          next = after_proposal kinds setup work (processing work.state)

          first : is_settled kinds setup work.state ≡ true → Pays work next
          first is = proposal_pays work (processing work.state) f (processing_step work f is)

          by_cases : (WorkFinishes kinds setup start life next → Pays next (finishing m kinds setup next)) → (x : Bool) → is_settled kinds setup work.state ≡ x → (g : Bool) →
              Pays work (if not x then work else if g then finishing m kinds setup next else next)
          by_cases deeper false is g = pays_none work work refl (omega arith)
          by_cases deeper true is true =
              pays_then work next (finishing m kinds setup next) (first is)
              (deeper (proposal_finishes kinds setup start life work (processing work.state) f (λ e none. absurd none) (λ _. none_due kinds setup start life work.state is)))
          by_cases deeper true is false = first is

      pub after_pays : (work : Work) → WorkFinishes kinds setup start life work → Pays work (after_finishing kinds setup work)
      after_pays work f = finishing_pays (length (received work.state.vr.log)) work f

      pub settling_pays : (before : ℕ) (work : Work) → WorkFinishes kinds setup start life work → Pays work (settling kinds setup before work)
      unfolding settling
      settling_pays before work f =
          let answered = with_answers kinds setup before work in
          let told = with_commands kinds setup answered in
          pays_then work told (after_finishing kinds setup told) (pays_then work answered told (answers_pay before work)
          (commands_pay answered)) (after_pays told (commands_finishes kinds setup start life answered f))

      pub proposing_pays : (c : ControllerState) (e : Event) → e.life ≡ life e.switch → Finishes kinds setup start life c.vr c.marks →
          (is_alone c ≡ true → level c ≤ level (pushed c (Received e) (length c.vr.log + 1))) → Pays (resting c) (proposing kinds setup c (Received e))
      proposing_pays c e own f step = by_alone (goes_on c (Received e))
        where
          next : Work
          next = after_proposal kinds setup (resting c) (Received e)

          first : Pays (resting c) next
          first = proposal_pays (resting c) (Received e) f step

          by_alone : (b : Bool) → Pays (resting c) (if b then after_finishing kinds setup next else next)
          by_alone true = pays_then (resting c) next (after_finishing kinds setup next) first (after_pays next (received_finishes kinds setup start life c e own f))
          by_alone false = first

      -- a switch replies: its commands are sent
      module _ (c : ControllerState) (k : ℕ) (told : is_untold c ≡ false) (unconfirmed : is_confirmed c.marks k ≡ false) where
        abbrev now : ControllerState
        now = record c { marks = confirmed_by c.marks k }

        abbrev its : List Issued
        its = filter (λ x. nat_eq x.switch k) (outstanding kinds setup (committed now) now.marks)

        abbrev own : Issued → Bool
        own x = nat_eq x.switch k && sel x

        its_count : count_by sel its ≡ count_by (stands kinds setup own (committed c) now.marks) (due_in kinds setup (committed c))
        its_count = count_filter sel (λ x. nat_eq x.switch k) (outstanding kinds setup (committed now) now.marks) ∙ outstanding_count kinds setup own (committed c) now.marks

        still_confirmed : (x : Issued) → is_confirmed c.marks x.switch ≡ true → is_confirmed now.marks x.switch ≡ true
        still_confirmed x is = elim (cases_eq x.switch k) [
          | inl same ↦ ap (λ (s : ℕ). is_confirmed now.marks s) same ∙ joins k c.marks.confirmed
          | inr other ↦ joins_others k x.switch c.marks.confirmed other ∙ is
        ]

        both : count_by (stands kinds setup own (committed c) now.marks) (due_in kinds setup (committed c)) + count_by (stands kinds setup sel (committed c) c.marks) (due_in kinds setup (committed c)) ≤
            count_by (stands kinds setup sel (committed c) now.marks) (due_in kinds setup (committed c))
        both =
            count_two (stands kinds setup own (committed c) now.marks) (stands kinds setup sel (committed c) c.marks) (stands kinds setup sel (committed c) now.marks) (due_in kinds setup (committed c))
            (λ x among h.
            let a = and_parts (is_wanted (committed c) now.marks x) (is_confirmed now.marks x.switch && own x) h in
            let b = and_parts (is_confirmed now.marks x.switch) (own x) a.1 in
            let d = and_parts (nat_eq x.switch k) (sel x) b.1 in
            and_from (is_wanted (committed c) now.marks x) (is_confirmed now.marks x.switch && sel x) a.0 (and_from (is_confirmed now.marks x.switch) (sel x) b.0 d.1))
            (λ x among h.
            let a = and_parts (is_wanted (committed c) c.marks x) (is_confirmed c.marks x.switch && sel x) h in
            let b = and_parts (is_confirmed c.marks x.switch) (sel x) a.1 in
            and_from (is_wanted (committed c) now.marks x) (is_confirmed now.marks x.switch && sel x) a.0 (and_from (is_confirmed now.marks x.switch) (sel x) (still_confirmed x b.0) b.1))
            (λ x among h g.
            let a = and_parts (is_wanted (committed c) now.marks x) (is_confirmed now.marks x.switch && own x) h in
            let b = and_parts (is_confirmed now.marks x.switch) (own x) a.1 in
            let d = and_parts (nat_eq x.switch k) (sel x) b.1 in
            let e = and_parts (is_wanted (committed c) c.marks x) (is_confirmed c.marks x.switch && sel x) g in
            let i = and_parts (is_confirmed c.marks x.switch) (sel x) e.1 in
            true≢false (sym i.0 ∙ ap (λ (s : ℕ). is_confirmed c.marks s) (eqb-true x.switch k d.0) ∙ unconfirmed))

        pub master_pays : Pays (resting c) (on_master kinds setup c k)
        master_pays = record {
          letters = commands_for kinds setup now k;
          joined = refl;
          pays =
              let said = commands_post now its in
              let all = its_count in
              let some = both in
              let before = ap (λ (b : Bool). if b then 0 else count_by (stands kinds setup sel (committed c) c.marks) (due_in kinds setup (committed c))) told in
              let after = ap (λ (b : Bool). if b then 0 else count_by (stands kinds setup sel (committed c) now.marks) (due_in kinds setup (committed c))) told in
              omega (arith, said, all, some, before, after);
        }
