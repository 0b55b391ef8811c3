-- While a closing is drained the commands and results on their way stay few: those of present lives are no more than the commands that
-- the primary has sent and that wait for their results, and those of past lives no more than that and what switches left behind as they
-- began their present lives.
use Rattle.std.proofs.Common.{◌≡◌, ◌≤◌, ◌<◌, ◌⊎◌, inl, inr, ℕ, ◌+◌, ◌/◌, ◌%◌, Bool, true, false, List, [], ◌∷◌, ◌++◌, length, map, take, drop, refl, sym, ◌∙◌, ap, subst, arith, length-append, take_all, take-append-drop}
use Rattle.std.specs.Prelude.{nat_eq, not, ◌&&◌, ◌||◌, Option, if◌then◌else◌}
use Rattle.std.proofs.Math.Path.{fun_ext}
use Rattle.std.proofs.lemmas.Bool.{cond_both, eq-eqb, eqb-true, ne_eqb, true≢false}
use Rattle.std.proofs.lemmas.List.{drop-append-le, length-take-le}
use Rattle.list_facts.specs.Lists.{IsIn, IsPrefix}
use Rattle.list_facts.proofs.Elements.{in_left, in_right}
use Rattle.list_facts.proofs.Prefixes.{front_prefix, prefix_push, take_prefix, takes_prefix}
use Rattle.of_types.specs.declared.message.Event.{Event}
use Rattle.of_types.specs.declared.message.Extension.TheVariants as extension
use Rattle.of_types.specs.declared.message.Happening.{Happening}
use Rattle.of_types.specs.declared.message.Outcome.{Outcome}
use Rattle.of_types.specs.declared.message.Spoken.TheVariants as spoken
use Rattle.of_types.specs.declared.setup.Setup.{Setup}
use Rattle.of_types.specs.Lives.{life_after, life_in}
use Rattle.of_types.proofs.Counts.{life_after-append, life_in-append}
use Rattle.journal.specs.declared.journal.Actor.{Actor}
use Rattle.journal.specs.declared.journal.Actor.TheVariants as actor
use Rattle.journal.specs.declared.journal.Letter.{Letter}
use Rattle.vr_log.specs.declared.entry.Entry.{Entry}
use Rattle.vr_log.specs.declared.entry.Entry.TheVariants.{Received}
use Rattle.vr_log.specs.declared.message.VrLetter.{VrLetter}
use Rattle.vr_log.specs.declared.state.VrState.{VrState}
use Rattle.vr_log.specs.Log.{is_log, processed, received}
use Rattle.vr_log.specs.Members.{most_failures}
use Rattle.vr_log.specs.Steps.{quiet}
use Rattle.vr_log.proofs.Logs.{received-append}
use Rattle.vr_core.specs.declared.input.VrInput.TheVariants as vr_input
use Rattle.vr_core.specs.Step.{vr_step}
use Rattle.app_core.specs.declared.issued.Issued.{Issued}
use Rattle.controller_moves.proofs.ControllerLaws.Logs.{processed-append, processed_prefix}
use Rattle.dispatcher.specs.declared.answers.EventAction.{EventAction}
use Rattle.dispatcher.specs.declared.answers.EventAction.TheVariants.{Propose, Acknowledge, Nothing}
use Rattle.dispatcher.specs.Marks.{Marks, is_pending, with_mark, with_marked_result}
use Rattle.of_switch.specs.State.{SwitchState, SwitchTurn, life_of}
use Rattle.group_controller.specs.declared.messages.ControllerSays.{ControllerSays}
use Rattle.group_controller.specs.State.{ControllerState, Work, committed, resting, stepped, to_members, with_no_met_limit}
use Rattle.group_controller.specs.Settling.{after_finishing, is_alone, settling, with_answers, with_commands}
use Rattle.group_controller.specs.Rules.{controller_work, on_wish}
use Rattle.run_spec.specs.declared.messages.Message.{Message}
use Rattle.run_spec.specs.declared.messages.Message.TheVariants as message
use Rattle.run_spec.specs.States.{controller_message, switch_message}
use Rattle.closing_laws.specs.Following.{Start}
use Rattle.closing_laws.specs.Quorum.{has}
use Rattle.closing_laws.specs.Serving.{AreFew}
use Rattle.closing_laws.specs.Ways.{Sent, sent_by}
use Rattle.closing_laws.proofs.Draining.Drained.{heard_of}
use Rattle.closing_laws.proofs.Draining.OpeningTurn.{several_commit}
use Rattle.closing_laws.proofs.Draining.TurnCases as turn_cases
use Rattle.closing_laws.proofs.Draining.TurnCases.{OfTurns}
use Rattle.closing_laws.proofs.Lists.Picked.{IsPicked}
use Rattle.closing_laws.proofs.Pool.CommandPosts.{IsOfCommands, Pays, acks_post, after_pays, master_pays, members_post, proposing_pays, settling_pays}
use Rattle.closing_laws.proofs.Pool.FinishedEvents.{Finishes, agreed_finishes, finishes_now, marked_finishes, result_kept}
use Rattle.closing_laws.proofs.Pool.Rooms.{AreTrue, Drains, HasBegun, HasCommitted, HasFinished, IsHeard, Keeps, Standing, is_command, is_result, turn_on}
use Rattle.closing_laws.proofs.Pool.SentCommands.{Grown, marked_less, of_past, of_present, past_grows, pay_past, pay_present, present_grows, sent_by_now, sent_in, slack_grows}
use Rattle.closing_laws.proofs.Pool.SwitchPosts.{IsOfResults, IsTurn, turn_answers, turn_lives}
use Rattle.closing_laws.proofs.Pool.TurnPosts.{switch_turns}
use Rattle.closing_laws.proofs.Pool.Waiting.{passing, posted}
use Rattle.closing_laws.proofs.Primary.Agreed.{agreed_no_less, agreed_within, marked}
use Rattle.closing_laws.proofs.Primary.Growth.{life_grows, log_prefix}
use Rattle.closing_laws.proofs.Primary.Proposing.{commands_vr, pushed, pushed_all}
use Rattle.closing_laws.proofs.Switches.Saying.{count_append, count_cons}

-- the life that a command is for
abbrev pub life_said : Message → ℕ
life_said (message.Of xid (spoken.Ravana (extension.Command life generation number settled what))) = life
life_said _ = 0

-- it is the present life of a switch
abbrev pub lives_at : (ℕ → ℕ) → Actor → ℕ → Bool
lives_at life (actor.Switch s) l = nat_eq l (life s)
lives_at life (actor.Controller c) l = false

-- a result, or a command for the present life of its switch
abbrev pub is_present : (ℕ → ℕ) → Actor → Message → Bool
is_present life to said = is_result said || (is_command said && lives_at life to (life_said said))

-- any other command
abbrev pub is_past : (ℕ → ℕ) → Actor → Message → Bool
is_past life to said = is_command said && not (lives_at life to (life_said said))

module _ (life : ℕ → ℕ) where
  pub present_commands : IsOfCommands (is_present life) (of_present life)
  present_commands = record {
    command = λ x view settled. refl;
    member = λ a x. refl;
    ack = λ a l through. refl;
    clear = λ a l through. refl;
    asks = λ a role generation. refl;
  }

  pub past_commands : IsOfCommands (is_past life) (of_past life)
  past_commands = record {
    command = λ x view settled. refl;
    member = λ a x. refl;
    ack = λ a l through. refl;
    clear = λ a l through. refl;
    asks = λ a role generation. refl;
  }

  present_results : (s : ℕ) → IsOfResults s (life s) (is_present life)
  present_results s = record {
    reply = λ a xid role generation. refl;
    event = λ a e. refl;
    frame = λ a port bytes. refl;
    result = λ a number view i through result what _. eq-eqb (life s) (life s) refl;
  }

  past_results : (s : ℕ) → IsOfResults s (life s) (is_past life)
  past_results s = record {
    reply = λ a xid role generation. refl;
    event = λ a e. refl;
    frame = λ a port bytes. refl;
    result = λ a number view i through result what passes. absurd (true≢false (sym passes));
  }

-- ---- events that are newly committed

-- the life of a switch is that of the last of new events, or as before
life_from : (s life : ℕ) (events : List Event) → (life_after life s events ≡ life) ⊎ ((e : Event) × IsIn e events × (e.switch ≡ s) × (e.life ≡ life_after life s events))
life_from s life [] = inl refl
life_from s life (e ∷ events) = by_switch (nat_eq e.switch s) refl (life_from s (if nat_eq e.switch s then e.life else life) events)
  where
    by_switch : (b : Bool) → nat_eq e.switch s ≡ b →
        (life_after (if b then e.life else life) s events ≡ (if b then e.life else life)) ⊎ ((x : Event) × IsIn x events × (x.switch ≡ s) × (x.life ≡ life_after (if b then e.life else life) s events)) →
        (life_after (if b then e.life else life) s events ≡ life) ⊎ ((x : Event) × IsIn x (e ∷ events) × (x.switch ≡ s) × (x.life ≡ life_after (if b then e.life else life) s events))
    by_switch b is (inr later) = inr (later.0, inr later.1, later.2, later.3)
    by_switch true is (inl same) = inr (e, inl refl, eqb-true e.switch s is, sym same)
    by_switch false is (inl same) = inl same

-- what is committed behind some of a log is of the rest of that log
behind_first : (log : List Entry) (a m : ℕ) (front rest : List Entry) (e : Event) → a ≤ length front → take m log ≡ front ++ rest → IsIn e (received rest) → IsIn e (received (drop a log))
behind_first log a m front rest e low joined among =
    let some = ap length joined ∙ length-append front rest in
    let whole = ap (drop a) (sym (take-append-drop m log)) ∙ drop-append-le a (take m log) (drop m log) (omega (arith, some, low)) in
    let first = ap (drop a) joined ∙ drop-append-le a front rest low in
    subst (λ (l : List Event). IsIn e l) (sym (ap received whole ∙ received-append (drop a (take m log)) (drop m log)))
    (in_left e (received (drop a (take m log))) (received (drop m log))
    (subst (λ (l : List Event). IsIn e l) (sym (ap received first ∙ received-append (drop a front) rest)) (in_right e (received (drop a front)) (received rest) among)))

-- in a group of several Settle commits nothing more
settling_commit : (kinds : List ℕ) (setup : Setup) (before : ℕ) (work : Work) → is_alone work.state ≡ false → (settling kinds setup before work).state.vr.commit ≡ work.state.vr.commit
unfolding settling
settling_commit kinds setup before work several =
    let answered = with_answers kinds setup before work in
    let told = with_commands kinds setup answered in
    let kept = commands_vr kinds setup answered in
    several_commit kinds setup (length (received told.state.vr.log)) told (ap (λ (v : VrState). nat_eq (v.controllers / 2) 0) kept ∙ several) ∙ ap (λ (v : VrState). v.commit) kept

-- ---- the rooms

-- the commands and results on their way have room
pub record CommandRoom (kinds : List ℕ) (setup : Setup) (start : Start) (life : ℕ → ℕ) (c : ControllerState) (waiting : List Sent) : Type 0 where
  pub present : passing (is_present life) waiting ≤ sent_by_now kinds setup (of_present life) c + pay_present start c.vr.commit (received (committed c))
  pub past : passing (is_past life) waiting ≤ sent_by_now kinds setup (of_past life) c + pay_past setup start life c.vr.commit (received (committed c))

abbrev pub CommandRooms : List ℕ → Setup → Start → Standing
CommandRooms kinds setup start c members switches waiting = CommandRoom kinds setup start (λ s. life_of (switches s)) c waiting

module _ (kinds : List ℕ) (setup : Setup) (few : AreFew kinds setup) (w p : ℕ) (quorum : List ℕ) (start : Start) (picked : IsPicked setup.controllers w quorum) (inside : has quorum p ≡ true)
    (leader : p ≡ w % setup.controllers) (small : (b : ℕ) → has quorum b ≡ true → b < setup.controllers) where
  -- a turn of the primary
  module _ (c : ControllerState) (members : ℕ → VrState) (switches : ℕ → SwitchState) (m : Sent) (rest : List Sent) (d : Drains kinds setup w p quorum start c members switches (m ∷ rest))
      (to : m.to ≡ actor.Controller p) (truths : AreTrue kinds setup c switches) (before : HasFinished kinds setup w p quorum start c switches) where
    abbrev life : ℕ → ℕ
    life s = life_of (switches s)

    abbrev begun : ControllerState
    begun = with_no_met_limit c

    finishes : Finishes kinds setup start life c.vr c.marks
    finishes = finishes_now kinds setup few w p quorum start picked inside leader small c members switches m rest d to truths before

    -- more is agreed
    module _ (v : VrState) (log : v.log ≡ c.vr.log) (more : c.vr.commit < v.commit) (high : v.commit ≤ length v.log) (after : (v.commit ≡ start.known) ⊎ (length start.log ≤ v.commit)) where
      agreed_grown : Grown kinds setup few start life (committed c) (take v.commit v.log) c.vr.commit v.commit c.marks
      agreed_grown = record {
        prefix = front;
        grows = λ s. life_grows s front one;
        up = omega (arith, more);
        most = (let low = processed_prefix (front_prefix v.commit v.log) in let same = ap processed log in let ahead = truths.primary.ahead in omega (arith, low, same, ahead));
        early = λ less. elim after [ inl known ↦ absurd (let low = d.primary.lead.known in omega (arith, low, known, more)) | inr all ↦ all ];
        done = λ late rises.
            let low = processed_prefix (front_prefix v.commit v.log) in
            let same = ap processed log in
            elim (before.finished (omega (arith, low, same, rises))) [
              | inl early ↦ absurd (
                  let first = processed_prefix (takes_prefix (length start.log) c.vr.commit c.vr.log late) in
                  let is = ap processed d.primary.lead.begins in
                  omega (arith, early, first, is))
              | inr none ↦ none
            ];
        present = λ late s rises. elim (life_from s (life_in s (received (committed c))) (received front.rest)) [
          | inl same ↦ absurd (let all = lives s in omega (arith, same, all, rises))
          | inr x ↦
              lives s ∙ sym x.3
              ∙ before.present x.0 (behind_first c.vr.log (length start.log) v.commit (committed c) front.rest x.0 (let long = length-take-le c.vr.commit c.vr.log truths.primary.commit in omega (arith, long, late))
              (ap (take v.commit) (sym log) ∙ front.joined) x.1)
              ∙ ap life x.2
        ];
        young = λ s there.
            let low = life_grows s (front_prefix v.commit v.log) one_log in
            let same = ap (λ (l : List Entry). life_in s (received l)) log in
            let young = (truths.each s there).life in
            omega (arith, low, same, young);
      }
        where
          front : IsPrefix (committed c) (take v.commit v.log)
          front = subst (λ (l : List Entry). IsPrefix (committed c) (take v.commit l)) (sym log) (takes_prefix c.vr.commit v.commit c.vr.log (omega (arith, more)))

          one_log : is_log v.log ≡ true
          one_log = ap is_log log ∙ truths.primary.one

          one : is_log (take v.commit v.log) ≡ true
          one = log_prefix (front_prefix v.commit v.log) one_log

          lives : (s : ℕ) → life_in s (received (take v.commit v.log)) ≡ life_after (life_in s (received (committed c))) s (received front.rest)
          lives s = ap (λ (l : List Entry). life_in s (received l)) front.joined ∙ ap (life_in s) (received-append (committed c) front.rest) ∙ life_after-append 0 s (received (committed c)) (received front.rest)

    -- alone an event is committed at once
    module _ (e : Event) (there : e.switch < length setup.ports) (own : e.life ≡ life e.switch) (alone : is_alone c ≡ true) where
      received_grown : Grown kinds setup few start life (committed c) (committed (pushed begun (Received e) (length c.vr.log + 1))) c.vr.commit (length c.vr.log + 1) c.marks
      received_grown = record {
        prefix = take_prefix c.vr.commit (length c.vr.log + 1) (omega (arith, whole)) (prefix_push c.vr.log (Received e));
        grows = λ s. (let all = lives s in let low = by_switch s (nat_eq e.switch s) refl in omega (arith, all, low));
        up = omega (arith, whole);
        most = (let n = count in omega (arith, n));
        early = λ less. absurd (let far = finishes.long in omega (arith, less, far, whole));
        done = λ late rises. absurd (let n = count in omega (arith, n, rises));
        present = λ late s rises. lives s ∙ is_present_life s (nat_eq e.switch s) refl (let all = lives s in omega (arith, all, rises));
        young = λ s there'. (let all = lives s in let young = young_now s there' (nat_eq e.switch s) refl in omega (arith, all, young));
      }
        where
          whole : c.vr.commit ≡ length c.vr.log
          whole = finishes.whole (eqb-true (most_failures c.vr) 0 alone)

          all_before : committed c ≡ c.vr.log
          all_before = take_all c.vr.commit c.vr.log (omega (arith, whole))

          count : processed (committed (pushed begun (Received e) (length c.vr.log + 1))) ≡ processed (committed c)
          count =
              let parts : processed (c.vr.log ++ Received e ∷ []) ≡ processed c.vr.log + 0 = processed-append c.vr.log (Received e ∷ []) in
              let a = ap processed (pushed_all c (Received e)) in
              let b = ap processed all_before in
              omega (arith, parts, a, b)

          lives : (s : ℕ) → life_in s (received (committed (pushed begun (Received e) (length c.vr.log + 1)))) ≡ (if nat_eq e.switch s then e.life else life_in s (received (committed c)))
          lives s =
              ap (λ (l : List Entry). life_in s (received l)) (pushed_all c (Received e)) ∙ ap (λ (l : List Event). life_in s l) (received-append c.vr.log (Received e ∷ [])) ∙ life_in-append s (received c.vr.log) e
              ∙ ap (λ (l : List Entry). if nat_eq e.switch s then e.life else life_in s (received l)) (sym all_before)

          young_before : (s : ℕ) → s < length setup.ports → life_in s (received (committed c)) ≤ life s
          young_before s there' = let same = ap (λ (l : List Entry). life_in s (received l)) all_before in let young = (truths.each s there').life in omega (arith, same, young)

          -- the event is of the present life of its switch
          of_switch : (s : ℕ) → nat_eq e.switch s ≡ true → (e.life ≡ life s) × (s < length setup.ports)
          of_switch s mine = let same = eqb-true e.switch s mine in (own ∙ ap life same, omega (arith, same, there))

          by_switch : (s : ℕ) (b : Bool) → nat_eq e.switch s ≡ b → life_in s (received (committed c)) ≤ (if b then e.life else life_in s (received (committed c)))
          by_switch s true mine = let is = of_switch s mine in let young = young_before s is.1 in omega (arith, is, young)
          by_switch s false other = omega arith

          is_present_life : (s : ℕ) (b : Bool) → nat_eq e.switch s ≡ b → life_in s (received (committed c)) < (if nat_eq e.switch s then e.life else life_in s (received (committed c))) →
              (if b then e.life else life_in s (received (committed c))) ≡ life s
          is_present_life s true mine rises = (of_switch s mine).0
          is_present_life s false other rises = absurd (let same = ap (λ (b : Bool). if b then e.life else life_in s (received (committed c))) other in omega (arith, same, rises))

          young_now : (s : ℕ) → s < length setup.ports → (b : Bool) → nat_eq e.switch s ≡ b → (if b then e.life else life_in s (received (committed c))) ≤ life s
          young_now s there' true mine = let is = of_switch s mine in omega (arith, is)
          young_now s there' false other = young_before s there'

    -- of messages that pass a test
    module _ (is : Actor → Message → Bool) (sel : Issued → Bool) (of : IsOfCommands is sel) (pay : ℕ → List Event → ℕ) (up : (i j : ℕ) (events : List Event) → i ≤ j → pay i events ≤ pay j events)
        (gained : (front log : List Entry) (i j : ℕ) (marks : Marks) (last : Option ℕ) → Grown kinds setup few start life front log i j marks →
        sent_in kinds setup sel front marks last + pay i (received front) ≤ sent_in kinds setup sel log marks last + pay j (received log))
        (hits : (k xid number : ℕ) (result : Outcome) (x : Issued) → x.switch ≡ k → x.life ≡ life k → sel x ≡ true →
        is (actor.Controller p) (message.Of xid (spoken.Ravana (extension.CmdAck (life k) number result))) ≡ true) where
      abbrev posts : Work → ℕ
      posts work = posted is controller_message (actor.Controller p) work.letters

      abbrev heard : ℕ
      heard = if is m.to m.said then 1 else 0

      abbrev level_of : ControllerState → ℕ
      level_of x = sent_by_now kinds setup sel x + pay x.vr.commit (received (committed x))

      -- what is posted was sent, or what was heard is gone
      abbrev Fits : Work → Type 0
      Fits work = HasCommitted kinds setup w p quorum start work.state → posts work + level_of c ≤ heard + level_of work.state

      abbrev Pays' : Work → Work → Type 0
      Pays' old new = Pays is sel of (actor.Controller p) kinds setup start life pay up old new

      from_pays : (old new : Work) → old.letters ≡ [] → level_of c ≤ heard + level_of old.state → Pays' old new → Fits new
      from_pays old new none less pays committed_now =
          let all = ap (λ (ls : List (Letter ControllerSays)). posted is controller_message (actor.Controller p) ls) (pays.joined ∙ ap (λ (ls : List (Letter ControllerSays)). ls ++ pays.letters) none) in
          let some = pays.pays in
          omega (arith, all, some, less)

      of_turns : OfTurns kinds setup few w p quorum start picked inside leader small c members switches m rest d to truths.each truths.primary Fits
      of_turns = record {
        reply = λ k xid there from says none.
            from_pays (resting begun) _ refl (omega arith) (master_pays is sel of (actor.Controller p) kinds setup start life pay up begun k d.primary.settled.told none);
        event = λ k xid number what there from says. by_wish k number what _ there;
        result = λ k xid number result there from says.
            cond_both (is_pending kinds setup (committed c) k (life k) number) (after_finishing kinds setup (resting (with_number k number))) (resting begun) (λ (y : Work). Fits y)
            (λ _. from_pays (resting (with_number k number)) _ refl (result_less k xid number result says)
            (after_pays is sel of (actor.Controller p) kinds setup start life pay up (resting (with_number k number))
            (marked_finishes kinds setup start life c.vr c.marks (with_marked_result kinds setup (committed c) c.marks k (life k) number) truths.primary.one truths.primary.unfinished
            (result_kept kinds setup (committed c) c.marks k (life k) number) finishes)))
            (λ _ _. omega arith);
        agreed = λ b op from chosen apart says several more. agreed_fits b op several more;
        counted = λ b op from chosen apart says same _.
            (let is = ap (λ (n : ℕ). sent_in kinds setup sel (take n c.vr.log) c.marks c.last_told + pay n (received (take n c.vr.log))) same in omega (arith, is));
      }
        where
          by_wish : (k number : ℕ) (what : Happening) (wish : EventAction) → k < length setup.ports → Fits (on_wish kinds setup begun (record { switch = k; life = life k; number = number; what = what }) wish)
          by_wish k number what Propose there committed_now =
              let e : Event = record { switch = k; life = life k; number = number; what = what } in
              from_pays (resting begun) _ refl (omega arith) (proposing_pays is sel of (actor.Controller p) kinds setup start life pay up begun e refl finishes
              (λ alone. gained (committed c) (committed (pushed begun (Received e) (length c.vr.log + 1))) c.vr.commit (length c.vr.log + 1) c.marks c.last_told (received_grown e there refl alone))) committed_now
          by_wish k number what (Acknowledge through) there _ =
              let none = acks_post is sel of (actor.Controller p) (record { switch = k; life = life k; through = through } ∷ []) in omega (arith, none)
          by_wish k number what Nothing there _ = omega arith

          with_number : ℕ → ℕ → ControllerState
          with_number k number = record begun { marks = with_marked_result kinds setup (committed c) c.marks k (life k) number }

          result_less : (k xid number : ℕ) (result : Outcome) → m.said ≡ message.Of xid (spoken.Ravana (extension.CmdAck (life k) number result)) → level_of c ≤ heard + level_of (with_number k number)
          result_less k xid number result says =
              cond_both (is_pending kinds setup (committed c) k (life k) number) (with_mark c.marks k (life k) number) c.marks (λ (x : Marks). level_of c ≤ heard + level_of (record begun { marks = x }))
              (λ _.
              let said : Message = message.Of xid (spoken.Ravana (extension.CmdAck (life k) number result)) in
              let less = marked_less kinds setup sel (committed c) c.marks c.last_told k (life k) number (is (actor.Controller p) said) (hits k xid number result) in
              let same : heard ≡ (if is (actor.Controller p) said then 1 else 0) = ap (λ (a : Actor). if is a m.said then 1 else 0) to ∙ ap (λ (y : Message). if is (actor.Controller p) y then 1 else 0) says in
              omega (arith, less, same))
              (λ _. omega arith)

          agreed_fits : (b op : ℕ) → 0 < most_failures c.vr → c.vr.commit < (marked c.vr b op).commit → Fits (settling kinds setup c.vr.commit (stepped begun (quiet (marked c.vr b op))))
          agreed_fits b op several more committed_now =
              let v = marked c.vr b op in
              let mid = stepped begun (quiet v) in
              let within = agreed_within c.vr b op truths.primary.commit in
              let now = subst (λ (n : ℕ). (n ≡ start.known) ⊎ (length start.log ≤ n)) (settling_commit kinds setup c.vr.commit mid (ne_eqb (most_failures c.vr) 0 (λ none. omega (arith, none, several)))) committed_now in
              let less = gained (committed c) (take v.commit v.log) c.vr.commit v.commit c.marks c.last_told (agreed_grown v refl more within now) in
              from_pays mid (settling kinds setup c.vr.commit mid) refl (omega (arith, less))
              (settling_pays is sel of (actor.Controller p) kinds setup start life pay up c.vr.commit mid
              (agreed_finishes kinds setup start life c.vr v c.marks finishes refl (agreed_no_less c.vr b op) within truths.primary.one truths.primary.ahead truths.primary.unfinished
              (λ none. absurd (omega (arith, several, none))))) committed_now

      abbrev work : Work
      work = controller_work kinds setup c (heard_of m)

      -- so it fits behind the turn
      pub turn_fits : IsHeard setup p quorum m → HasCommitted kinds setup w p quorum start work.state → passing is (m ∷ rest) ≤ level_of c →
          passing is (rest ++ map (sent_by controller_message (actor.Controller p)) work.letters) ≤ level_of work.state
      turn_fits heard_from now room =
          let fits = turn_cases.each_turn kinds setup few w p quorum start picked inside leader small c members switches m rest d to truths.each truths.primary Fits of_turns heard_from now in
          let all = count_append (λ (x : Sent). is x.to x.said) rest (map (sent_by controller_message (actor.Controller p)) work.letters) in
          let first = count_cons (λ (x : Sent). is x.to x.said) m rest in
          omega (arith, fits, all, first, room)

  -- a message of the primary that a switch hears, what a member answers, and one that is lost
  module _ (is : Actor → Message → Bool) where
    fewer_rest : (m : Sent) (rest : List Sent) → passing is rest ≤ passing is (m ∷ rest)
    fewer_rest m rest = let first = count_cons (λ (x : Sent). is x.to x.said) m rest in omega (arith, first)

    member_fits : (sel : Issued → Bool) → IsOfCommands is sel → (m : Sent) (rest : List Sent) (b : ℕ) (letters : List VrLetter) →
        passing is (rest ++ map (sent_by controller_message (actor.Controller b)) (to_members letters)) ≤ passing is (m ∷ rest)
    member_fits sel of m rest b letters =
        let none = members_post is sel of (actor.Controller b) letters in
        let all = count_append (λ (x : Sent). is x.to x.said) rest (map (sent_by controller_message (actor.Controller b)) (to_members letters)) in
        let less = fewer_rest m rest in
        omega (arith, none, all, less)

    switch_fits : (me view : ℕ) (sw : SwitchState) (s : ℕ) (m : Sent) (rest : List Sent) (turn : SwitchTurn) → m.to ≡ actor.Switch s → IsOfResults s (life_of sw) is → IsTurn me view sw m.said turn →
        passing is (rest ++ map (sent_by switch_message (actor.Switch s)) turn.letters) ≤ passing is (m ∷ rest)
    switch_fits me view sw s m rest turn to of h =
        let some = turn_answers me view sw s is of m.said turn h in
        let same = ap {B = ℕ} (λ (a : Actor). if is a m.said then 1 else 0) to in
        let all = count_append (λ (x : Sent). is x.to x.said) rest (map (sent_by switch_message (actor.Switch s)) turn.letters) in
        let first = count_cons (λ (x : Sent). is x.to x.said) m rest in
        omega (arith, some, same, all, first)

  pays_past_grow : (life : ℕ → ℕ) (i j : ℕ) (events : List Event) → i ≤ j → pay_past setup start life i events ≤ pay_past setup start life j events
  pays_past_grow life i j events le = let up = slack_grows kinds setup few start life i j le in omega (arith, up)

  -- it is kept
  pub command_rooms_keep : Keeps kinds setup w p quorum start (HasBegun kinds setup w p quorum start) (CommandRooms kinds setup start)
  command_rooms_keep = record {
    lost = λ c members switches m rest d lost _ _ room.
        let life : ℕ → ℕ = λ s. life_of (switches s) in
        let a = fewer_rest (is_present life) m rest in
        let b = fewer_rest (is_past life) m rest in
        let x = room.present in
        let y = room.past in
        record { present = omega (arith, a, x); past = omega (arith, b, y) };
    member = λ c members switches m rest b x d from to chosen other says d' _ _ room.
        let life : ℕ → ℕ = λ s. life_of (switches s) in
        let letters = (vr_step (members b) (vr_input.From p x)).letters in
        let a = member_fits (is_present life) (of_present life) (present_commands life) m rest b letters in
        let e = member_fits (is_past life) (of_past life) (past_commands life) m rest b letters in
        let x = room.present in
        let y = room.past in
        record { present = omega (arith, a, x); past = omega (arith, e, y) };
    primary = λ c members switches m rest d to heard truths now_truths full d' begun now_begun room.
        let life : ℕ → ℕ = λ s. life_of (switches s) in
        record {
          present = turn_fits c members switches m rest d to truths begun.1 (is_present life) (of_present life) (present_commands life)
              (pay_present start) (λ i j events le. slack_grows kinds setup few start life i j le)
              (λ front log i j marks last g. present_grows kinds setup few start life front log i j marks last g) (λ k xid number result x _ _ _. refl) heard now_begun.0 room.present;
          past = turn_fits c members switches m rest d to truths begun.1 (is_past life) (of_past life) (past_commands life) (pay_past setup start life) (pays_past_grow life)
              (λ front log i j marks last g. past_grows kinds setup few start life front log i j marks last g)
              (λ k xid number result x same own past. absurd (true≢false (sym past ∙ ap not (eq-eqb x.life (life x.switch) (own ∙ sym (ap life same)))))) heard now_begun.0 room.past;
        };
    switch = λ c members switches m rest s there d from to truths now_truths d' _ _ room.
        let life : ℕ → ℕ = λ t. life_of (switches t) in
        let turn = turn_on (switches s) m in
        let h = switch_turns kinds setup few w p quorum start picked inside leader small c members switches m rest d s there from to truths in
        let same = fun_ext (turn_lives c.vr.me c.vr.view switches s m.said turn h) in
        let a = switch_fits (is_present life) c.vr.me c.vr.view (switches s) s m rest turn to (present_results life s) h in
        let b = switch_fits (is_past life) c.vr.me c.vr.view (switches s) s m rest turn to (past_results life s) h in
        let x = room.present in
        let y = room.past in
        subst (λ (l : ℕ → ℕ). CommandRoom kinds setup start l c (rest ++ map (sent_by switch_message (actor.Switch s)) (turn_on (switches s) m).letters)) (sym same)
        (record { present = omega (arith, a, x); past = omega (arith, b, y) });
  }
