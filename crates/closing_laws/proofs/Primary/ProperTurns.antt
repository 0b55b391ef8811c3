-- What every turn of a leading primary keeps: its place, its view and its promise, and that it saves nothing and writes to no
-- controller but others.
use Rattle.std.proofs.Common.{◌≡◌, inl, inr, ℕ, zero, suc, ◌+◌, Bool, true, List, [], ◌∷◌, ◌++◌, map, length, drop, refl, sym, ◌∙◌, ap, subst}
use Rattle.std.specs.Prelude.{nat_eq, nat_lt, not, ◌&&◌, filter, flat_map, Option, None, option_map, if◌then◌else◌}
use Rattle.std.proofs.lemmas.Bool.{cond_both, eq-eqb, eqb-false}
use Rattle.std.proofs.lemmas.List.{append-nil, append_assoc}
use Rattle.std.proofs.Math.Bool.{and-false}
use Rattle.of_types.specs.declared.message.Event.{Event}
use Rattle.of_types.specs.declared.message.Extension.TheVariants as extension
use Rattle.of_types.specs.declared.message.Happening.{Happening}
use Rattle.of_types.specs.declared.message.OfMessage.TheVariants as plain
use Rattle.of_types.specs.declared.message.Outcome.{Outcome}
use Rattle.of_types.specs.declared.message.Spoken.TheVariants as spoken
use Rattle.of_types.specs.declared.numbers.TheConstants.{MASTER}
use Rattle.of_types.specs.declared.setup.Setup.{Setup}
use Rattle.journal.specs.declared.journal.Actor.TheVariants as actor
use Rattle.journal.specs.declared.journal.Letter.{Letter}
use Rattle.list_facts.specs.Lists.{IsIn}
use Rattle.list_facts.proofs.Elements.{in_append, in_flat_map, in_map}
use Rattle.vr_log.specs.declared.entry.Entry.{Entry}
use Rattle.vr_log.specs.declared.entry.Entry.TheVariants.{Received}
use Rattle.vr_log.specs.declared.message.VrLetter.{VrLetter}
use Rattle.vr_log.specs.declared.message.VrMessage.{VrMessage}
use Rattle.vr_log.specs.declared.message.VrMessage.TheVariants as vr
use Rattle.vr_log.specs.declared.state.VrState.{VrState}
use Rattle.vr_log.specs.Log.{is_past_limits}
use Rattle.vr_log.specs.Members.{is_other, leads, others_below}
use Rattle.vr_log.specs.Steps.{VrStep, letter, quiet, to_others}
use Rattle.vr_normal.specs.Cases.{acked_by, counted, is_counted}
use Rattle.vr_core.specs.Step.{on_vr, vr_step}
use Rattle.vr_core.specs.declared.input.VrInput.TheVariants as vr_input
use Rattle.dispatcher.specs.declared.answers.EventAction.{EventAction}
use Rattle.dispatcher.specs.declared.answers.EventAction.TheVariants.{Propose, Acknowledge, Nothing}
use Rattle.dispatcher.specs.Folding.{acknowledges_at, clears_at, numbered, places_processed, wish}
use Rattle.dispatcher.specs.Marks.{confirmed_by, is_pending, outstanding, with_marked_result}
use Rattle.app_core.specs.declared.issued.Issued.{Issued}
use Rattle.group_controller.specs.declared.messages.ControllerInput.{ControllerInput}
use Rattle.group_controller.specs.declared.messages.ControllerInput.TheVariants as controller_input
use Rattle.group_controller.specs.declared.messages.ControllerSays.{ControllerSays}
use Rattle.group_controller.specs.State.{ControllerState, Work, committed, leaving, met_limit, posting_work, resting, stepped, to_member, to_members, with_no_met_limit}
use Rattle.group_controller.specs.Settling.{ack_letter, after_finishing, after_proposal, answers_at, clear_letter, command_letter, command_letters, finishing, goes_on, is_alone, is_settled, is_untold, processing, proposing, settling, with_answers, with_commands, with_proposal}
use Rattle.group_controller.specs.Rules.{after_step, commands_for, controller_work, on_input, on_master, on_result, on_role_reply, on_spoken, on_wish, starting_view}
use Rattle.run_laws.proofs.Members.{up_leads}
use Rattle.closing_laws.proofs.Journal.Taking.{member_work, By_message}
use Rattle.closing_laws.proofs.Lists.Numbers.{below_has, in_has}
use Rattle.closing_laws.proofs.Primary.Hearing.{leader_up}

-- no letter goes to the sender
abbrev pub AreForOthers : ℕ → List (Letter ControllerSays) → Type 0
AreForOthers me letters = (l : Letter ControllerSays) → IsIn l letters → (b : ℕ) → l.to ≡ actor.Controller b → b ≡ me → ⊥

-- a member with the same place, view and promise
pub record IsSamePlace (s s' : VrState) : Type 0 where
  pub me : s'.me ≡ s.me
  pub controllers : s'.controllers ≡ s.controllers
  pub status : s'.status ≡ s.status
  pub view : s'.view ≡ s.view
  pub promise : s'.promise ≡ s.promise

pub same_place : (s : VrState) → IsSamePlace s s
same_place s = record { me = refl; controllers = refl; status = refl; view = refl; promise = refl }

pub place_then : (r s t : VrState) → IsSamePlace r s → IsSamePlace s t → IsSamePlace r t
place_then r s t a b =
    record { me = b.me ∙ a.me; controllers = b.controllers ∙ a.controllers; status = b.status ∙ a.status; view = b.view ∙ a.view; promise = b.promise ∙ a.promise }

-- a work that goes on from another: it saves no more, and its further letters are for others
pub record Proceeds (old new : Work) : Type 0 where
  pub place : IsSamePlace old.state.vr new.state.vr
  pub save : new.save ≡ old.save
  pub letters : List (Letter ControllerSays)
  pub joined : new.letters ≡ old.letters ++ letters
  pub others : AreForOthers old.state.vr.me letters

stays : (work : Work) → Proceeds work work
stays work = record { place = same_place work.state.vr; save = refl; letters = []; joined = sym (append-nil work.letters); others = λ l h. absurd h }

and_then : (a b c : Work) → Proceeds a b → Proceeds b c → Proceeds a c
and_then a b c p q =
    record {
      place = place_then a.state.vr b.state.vr c.state.vr p.place q.place;
      save = q.save ∙ p.save;
      letters = p.letters ++ q.letters;
      joined = q.joined ∙ ap (λ (l : List (Letter ControllerSays)). l ++ q.letters) p.joined ∙ append_assoc a.letters p.letters q.letters;
      others = λ l h k to is. elim (in_append l p.letters q.letters h) [
        | inl m ↦ p.others l m k to is
        | inr m ↦ q.others l m k to (is ∙ sym p.place.me)
      ];
    }

-- letters to switches, and to others
pub to_switches : (me : ℕ) (letters : List (Letter ControllerSays)) → ((l : Letter ControllerSays) → IsIn l letters → (t : ℕ) × (l.to ≡ actor.Switch t)) → AreForOthers me letters
to_switches me letters all l h b to is = let r = all l h in absurd (let e : actor.Switch r.0 ≡ actor.Controller b = sym r.1 ∙ to in cc)

answers_for : (kinds : List ℕ) (setup : Setup) (c : ControllerState) (places : List ℕ) (me : ℕ) → AreForOthers me (flat_map (answers_at kinds setup c) places)
answers_for kinds setup c places me = to_switches me (flat_map (answers_at kinds setup c) places) (λ l h.
    let r = in_flat_map (answers_at kinds setup c) places l h in
    elim (in_append l (map ack_letter (acknowledges_at (committed c) r.0)) (map clear_letter (clears_at kinds setup (committed c) r.0)) r.2) [
      | inl m ↦ let y = in_map ack_letter (acknowledges_at (committed c) r.0) l m in (y.0.switch, ap (λ (x : Letter ControllerSays). x.to) y.2)
      | inr m ↦ let y = in_map clear_letter (clears_at kinds setup (committed c) r.0) l m in (y.0.switch, ap (λ (x : Letter ControllerSays). x.to) y.2)
    ])

commands_go : (kinds : List ℕ) (setup : Setup) (c : ControllerState) (xs : List Issued) (me : ℕ) → AreForOthers me (command_letters kinds setup c xs)
commands_go kinds setup c xs me = to_switches me (command_letters kinds setup c xs) (λ l h.
    let y = in_map (λ x. command_letter c.vr.view (numbered kinds setup (committed c) x)) xs l h in (y.0.switch, ap (λ (x : Letter ControllerSays). x.to) y.2))

pub others_get : (s : VrState) (m : VrMessage) → AreForOthers s.me (to_members (to_others s m))
others_get s m l h b to is =
    let y = in_map to_member (to_others s m) l h in
    let z = in_map (letter m) (others_below s.me s.controllers) y.0 y.1 in
    let same : z.0 ≡ b = (let e : actor.Controller z.0 ≡ actor.Controller b = sym (ap (λ (x : Letter ControllerSays). x.to) y.2 ∙ ap (λ (x : VrLetter). actor.Controller x.to) z.2) ∙ to in cc) in
    let apart = (below_has s.me s.controllers z.0 (in_has (others_below s.me s.controllers) z.0 z.1)).1 in
    eqb-false s.me z.0 apart (sym (same ∙ is))

-- one that led before has not started its view by a step that leaves it there
pub not_started : (kinds : List ℕ) (setup : Setup) (c : ControllerState) → leads c.vr ≡ true → (step : VrStep) → IsSamePlace c.vr step.state →
    after_step kinds setup (with_no_met_limit c) step ≡
    (if leads step.state && nat_lt c.vr.commit step.state.commit then settling kinds setup c.vr.commit (stepped (with_no_met_limit c) step) else stepped (with_no_met_limit c) step)
unfolding after_step
not_started kinds setup c lead step same =
    let view : nat_eq c.vr.view step.state.view ≡ true = eq-eqb c.vr.view step.state.view (sym same.view) in
    ap (λ (b : Bool). if b then starting_view kinds setup (stepped (with_no_met_limit c) step)
    else if leads step.state && nat_lt c.vr.commit step.state.commit then settling kinds setup c.vr.commit (stepped (with_no_met_limit c) step) else stepped (with_no_met_limit c) step)
    (ap (λ (b : Bool). leads step.state && not (b && nat_eq c.vr.view step.state.view)) lead ∙ ap (λ (b : Bool). leads step.state && not b) view ∙ and-false (leads step.state))

module _ (kinds : List ℕ) (setup : Setup) where
  answers_proceed : (before : ℕ) (work : Work) → Proceeds work (with_answers kinds setup before work)
  answers_proceed before work = record {
    place = same_place work.state.vr;
    save = refl;
    letters = flat_map (answers_at kinds setup work.state) (places_processed (drop before (committed work.state)));
    joined = refl;
    others = answers_for kinds setup work.state (places_processed (drop before (committed work.state))) work.state.vr.me;
  }

  commands_proceed : (work : Work) → Proceeds work (with_commands kinds setup work)
  commands_proceed work =
      cond_both (is_untold work.state) _ _ (λ (y : Work). Proceeds work y)
      (λ _. record {
        place = same_place work.state.vr;
        save = refl;
        letters = command_letters kinds setup work.state (outstanding kinds setup (committed work.state) work.state.marks);
        joined = refl;
        others = commands_go kinds setup work.state (outstanding kinds setup (committed work.state) work.state.marks) work.state.vr.me;
      })
      (λ _. stays work)

  proposal_proceeds : (work : Work) (entry : Entry) → Proceeds work (with_proposal work entry)
  proposal_proceeds work entry = record {
    place = record { me = refl; controllers = refl; status = refl; view = refl; promise = refl };
    save = refl;
    letters = to_members (to_others work.state.vr (vr.Prepare work.state.vr.view (length work.state.vr.log + 1) work.state.vr.commit entry));
    joined = refl;
    others = others_get work.state.vr (vr.Prepare work.state.vr.view (length work.state.vr.log + 1) work.state.vr.commit entry);
  }

  limit_proceeds : (work : Work) (entry : Entry) → Proceeds work (leaving work (met_limit work.state entry))
  limit_proceeds work entry = record { place = same_place work.state.vr; save = refl; letters = []; joined = sym (append-nil work.letters); others = λ l h. absurd h }

  pub after_proceeds : (work : Work) (entry : Entry) → Proceeds work (after_proposal kinds setup work entry)
  after_proceeds work entry =
      let next = with_proposal work entry in
      let answered = with_answers kinds setup work.state.vr.commit next in
      cond_both (is_past_limits work.state.vr.log entry) _ _ (λ (y : Work). Proceeds work y) (λ _. limit_proceeds work entry)
      (λ _. cond_both (is_alone work.state) _ _ (λ (y : Work). Proceeds work y)
      (λ _. and_then work answered (with_commands kinds setup answered) (and_then work next answered (proposal_proceeds work entry) (answers_proceed work.state.vr.commit next)) (commands_proceed answered))
      (λ _. proposal_proceeds work entry))

  finishing_proceeds : (fuel : ℕ) (work : Work) → Proceeds work (finishing fuel kinds setup work)
  unfolding finishing
  finishing_proceeds zero work = stays work
  finishing_proceeds (suc more) work =
      let next = after_proposal kinds setup work (processing work.state) in
      let here = after_proceeds work (processing work.state) in
      let rest = finishing_proceeds more next in
      cond_both (not (is_settled kinds setup work.state)) _ _ (λ (y : Work). Proceeds work y) (λ _. stays work)
      (λ _. cond_both (goes_on work.state (processing work.state)) _ _ (λ (y : Work). Proceeds work y) (λ _. and_then work next (finishing more kinds setup next) here rest) (λ _. here))

  pub finished_proceeds : (work : Work) → Proceeds work (after_finishing kinds setup work)
  finished_proceeds work = finishing_proceeds _ work

  pub settling_proceeds : (before : ℕ) (work : Work) → Proceeds work (settling kinds setup before work)
  unfolding settling
  settling_proceeds before work =
      let answered = with_answers kinds setup before work in
      let told = with_commands kinds setup answered in
      and_then work told (after_finishing kinds setup told) (and_then work answered told (answers_proceed before work) (commands_proceed answered)) (finished_proceeds told)

  proposing_proceeds : (c : ControllerState) (entry : Entry) → Proceeds (resting c) (proposing kinds setup c entry)
  proposing_proceeds c entry =
      let next = after_proposal kinds setup (resting c) entry in
      cond_both (goes_on c entry) _ _ (λ (y : Work). Proceeds (resting c) y)
      (λ _. and_then (resting c) next (after_finishing kinds setup next) (after_proceeds (resting c) entry) (finished_proceeds next)) (λ _. after_proceeds (resting c) entry)

  -- a turn of one that leads
  pub record IsProper (c : ControllerState) (work : Work) : Type 0 where
    pub place : IsSamePlace c.vr work.state.vr
    pub unsaved : work.save ≡ None
    pub others : AreForOthers c.vr.me work.letters

  of_rest : (c d : ControllerState) (work : Work) → d.vr ≡ c.vr → Proceeds (resting d) work → IsProper c work
  of_rest c d work same p = record {
    place = subst (λ (s : VrState). IsSamePlace s work.state.vr) same p.place;
    unsaved = p.save;
    others = subst (λ (ls : List (Letter ControllerSays)). AreForOthers c.vr.me ls) (sym p.joined) (subst (λ (s : VrState). AreForOthers s.me p.letters) same p.others);
  }

  posts_to_switch : (d : ControllerState) (letters : List (Letter ControllerSays)) → AreForOthers d.vr.me letters → Proceeds (resting d) (posting_work (resting d) letters)
  posts_to_switch d letters apart = record { place = same_place d.vr; save = refl; letters = letters; joined = refl; others = apart }

  module _ (c : ControllerState) where
    abbrev d : ControllerState
    d = with_no_met_limit c

    master_proper : (s : ℕ) → IsProper c (on_master kinds setup d s)
    master_proper s =
        let now : ControllerState = record d { marks = confirmed_by d.marks s } in
        of_rest c now (on_master kinds setup d s) refl
        (posts_to_switch now (commands_for kinds setup now s) (commands_go kinds setup now (filter (λ x. nat_eq x.switch s) (outstanding kinds setup (committed now) now.marks)) c.vr.me))

    pub reply_proper : (s role generation : ℕ) → IsProper c (on_role_reply kinds setup d s role generation)
    reply_proper s role generation =
        cond_both (nat_eq role MASTER && nat_eq generation c.vr.view) _ _ (λ (y : Work). IsProper c y)
        (λ _. master_proper s) (λ _. of_rest c d (resting d) refl (stays (resting d)))

    abbrev ack : Event → ℕ → Letter ControllerSays
    ack e through = ack_letter (record { switch = e.switch; life = e.life; through = through })

    ack_for : (e : Event) (through : ℕ) → AreForOthers c.vr.me (ack e through ∷ [])
    ack_for e through = to_switches c.vr.me (ack e through ∷ []) (λ l h. one l h)
      where
        one : (l : Letter ControllerSays) → IsIn l (ack e through ∷ []) → (t : ℕ) × (l.to ≡ actor.Switch t)
        one l (inl k) = (e.switch, ap (λ (x : Letter ControllerSays). x.to) k)
        one l (inr k) = absurd k

    wish_proper : (e : Event) (w : EventAction) → IsProper c (on_wish kinds setup d e w)
    wish_proper e Propose = of_rest c d (proposing kinds setup d (Received e)) refl (proposing_proceeds d (Received e))
    wish_proper e (Acknowledge through) = of_rest c d (posting_work (resting d) (ack e through ∷ [])) refl (posts_to_switch d (ack e through ∷ []) (ack_for e through))
    wish_proper e Nothing = of_rest c d (resting d) refl (stays (resting d))

    result_proper : (s life number : ℕ) → IsProper c (on_result kinds setup d s life number)
    result_proper s life number =
        let now : ControllerState = record d { marks = with_marked_result kinds setup (committed d) d.marks s life number } in
        cond_both (is_pending kinds setup (committed d) s life number) _ _ (λ (y : Work). IsProper c y)
        (λ _. of_rest c now (after_finishing kinds setup (resting now)) refl (finished_proceeds (resting now)))
        (λ _. of_rest c d (resting d) refl (stays (resting d)))

    -- a message of a switch
    module _ (lead : leads c.vr ≡ true) where
      work_is : (x : ControllerInput) → controller_work kinds setup c x ≡ on_input kinds setup d x
      unfolding controller_work
      work_is x = rw (leader_up c lead) refl

      pub replies : (s xid role generation : ℕ) → IsProper c (controller_work kinds setup c (controller_input.Of s xid (spoken.Plain (plain.RoleReply role generation))))
      replies s xid role generation =
          subst (λ (y : Work). IsProper c y) (sym (work_is (controller_input.Of s xid (spoken.Plain (plain.RoleReply role generation)))
          ∙ ap (λ (b : Bool). if b then on_spoken kinds setup d s (spoken.Plain (plain.RoleReply role generation)) else resting d) lead)) (reply_proper s role generation)

      pub events : (s xid life number : ℕ) (what : Happening) → IsProper c (controller_work kinds setup c (controller_input.Of s xid (spoken.Ravana (extension.Event life number what))))
      events s xid life number what =
          subst (λ (y : Work). IsProper c y) (sym (work_is (controller_input.Of s xid (spoken.Ravana (extension.Event life number what)))
          ∙ ap (λ (b : Bool). if b then on_spoken kinds setup d s (spoken.Ravana (extension.Event life number what)) else resting d) lead))
          (wish_proper (record { switch = s; life = life; number = number; what = what }) (wish d.vr.log (committed d) (record { switch = s; life = life; number = number; what = what })))

      pub results : (s xid life number : ℕ) (result : Outcome) → IsProper c (controller_work kinds setup c (controller_input.Of s xid (spoken.Ravana (extension.CmdAck life number result))))
      results s xid life number result =
          subst (λ (y : Work). IsProper c y) (sym (work_is (controller_input.Of s xid (spoken.Ravana (extension.CmdAck life number result)))
          ∙ ap (λ (b : Bool). if b then on_spoken kinds setup d s (spoken.Ravana (extension.CmdAck life number result)) else resting d) lead)) (result_proper s life number)

      -- an acknowledgement of a member
      ok_step : (from view op : ℕ) → let step = vr_step c.vr (vr_input.From from (vr.PrepareOk view op)) in
          IsSamePlace c.vr step.state × (step.promise ≡ None) × (step.letters ≡ [])
      unfolding on_vr
      ok_step from view op =
          cond_both (is_other c.vr from) _ _ (λ (y : VrStep). IsSamePlace c.vr y.state × (y.promise ≡ None) × (y.letters ≡ []))
          (λ _. cond_both (is_counted c.vr view op) (quiet (counted (acked_by c.vr from op))) (quiet c.vr) (λ (y : VrStep). IsSamePlace c.vr y.state × (y.promise ≡ None) × (y.letters ≡ []))
          (λ _. (record { me = refl; controllers = refl; status = refl; view = refl; promise = refl }, refl, refl)) (λ _. (same_place c.vr, refl, refl)))
          (λ _. (same_place c.vr, refl, refl))

      pub acks : (from view op : ℕ) → IsProper c (controller_work kinds setup c (controller_input.Vr from (vr.PrepareOk view op)))
      acks from view op =
          subst (λ (y : Work). IsProper c y) (sym (member_work kinds setup c (controller_input.Vr from (vr.PrepareOk view op)) (vr_input.From from (vr.PrepareOk view op)) (By_message from (vr.PrepareOk view op)) (up_leads c.vr lead)))
          (stepped_proper (vr_step c.vr (vr_input.From from (vr.PrepareOk view op))) (ok_step from view op))
        where
          stepped_proper : (step : VrStep) → IsSamePlace c.vr step.state × (step.promise ≡ None) × (step.letters ≡ []) → IsProper c (after_step kinds setup d step)
          stepped_proper step h =
              subst (λ (y : Work). IsProper c y) (sym (not_started kinds setup c lead step h.0))
              (cond_both (leads step.state && nat_lt c.vr.commit step.state.commit) _ _ (λ (y : Work). IsProper c y)
              (λ _. of_step step h (settling kinds setup c.vr.commit (stepped d step)) (settling_proceeds c.vr.commit (stepped d step)))
              (λ _. of_step step h (stepped d step) (stays (stepped d step))))
            where
              of_step : (step : VrStep) → IsSamePlace c.vr step.state × (step.promise ≡ None) × (step.letters ≡ []) → (work : Work) → Proceeds (stepped d step) work → IsProper c work
              of_step step h work p = record {
                place = place_then c.vr step.state work.state.vr h.0 p.place;
                unsaved = p.save ∙ ap (λ (o : Option ℕ). option_map (λ promise. (promise, step.state.life)) o) h.1;
                others = λ l k b to is. p.others l
                    (subst (λ (ls : List (Letter ControllerSays)). IsIn l ls) (p.joined ∙ ap (λ (ls : List VrLetter). to_members ls ++ p.letters) h.2) k) b to (is ∙ sym h.0.me);
              }
