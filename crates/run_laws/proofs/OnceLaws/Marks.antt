-- No mark comes from nowhere: a turn of a controller adds at most the mark of the result that it hears.
use Rattle.std.proofs.Common.{◌≡◌, ◌⊎◌, ℕ, Bool, true, false, ◌&&◌, List, [], ◌∷◌, ◌++◌, length, zero, suc, refl, sym, ◌∙◌, ap, subst, inl, inr}
use Rattle.std.specs.Prelude.{nat_eq, nat_lt, ◌+◌, not, map, Some, None, if◌then◌else◌}
use Rattle.std.proofs.lemmas.Bool.{cond_both}
use Rattle.of_types.specs.declared.message.Event.{Event}
use Rattle.of_types.specs.declared.message.Extension.{Extension}
use Rattle.of_types.specs.declared.message.Extension.TheVariants as extension
use Rattle.of_types.specs.declared.message.OfMessage.{OfMessage}
use Rattle.of_types.specs.declared.message.OfMessage.TheVariants as plain
use Rattle.of_types.specs.declared.message.Outcome.{Outcome}
use Rattle.of_types.specs.declared.message.Spoken.{Spoken}
use Rattle.of_types.specs.declared.message.Spoken.TheVariants as spoken
use Rattle.of_types.specs.declared.numbers.TheConstants.{MASTER}
use Rattle.of_types.specs.declared.setup.Setup.{Setup}
use Rattle.of_types.specs.Lives.{last_life}
use Rattle.journal.specs.declared.journal.Local.{Local}
use Rattle.journal.specs.declared.journal.Local.TheVariants as local
use Rattle.list_facts.proofs.Elements.{in_append}
use Rattle.list_facts.specs.Lists.{IsIn}
use Rattle.vr_log.specs.declared.entry.Entry.{Entry}
use Rattle.vr_log.specs.declared.entry.Entry.TheVariants.{Received}
use Rattle.vr_log.specs.Log.{received, processed, is_past_limits}
use Rattle.vr_log.specs.Members.{is_up, leads}
use Rattle.vr_log.specs.Steps.{VrStep}
use Rattle.vr_recovery.specs.Recovering.{restarted}
use Rattle.dispatcher.specs.declared.answers.EventAction.{EventAction}
use Rattle.dispatcher.specs.declared.answers.EventAction.TheVariants.{Propose, Acknowledge, Nothing}
use Rattle.dispatcher.specs.Folding.{wish}
use Rattle.dispatcher.specs.Marks.{Marks, no_marks, outstanding, has_result, is_pending, with_mark, with_marked_result}
use Rattle.group_controller.specs.declared.messages.ControllerInput.{ControllerInput}
use Rattle.group_controller.specs.declared.messages.ControllerInput.TheVariants as controller_input
use Rattle.group_controller.specs.State.{ControllerState, Work, committed, fresh, met_limit, with_no_met_limit, resting, posting_work, leaving, to_switch, stepped}
use Rattle.group_controller.specs.Settling.{role_letter, command_letters, with_answers, is_untold, with_commands, with_proposal, is_settled, is_alone, finishing, settling, after_finishing, after_proposal, goes_on, processing, proposing}
use Rattle.group_controller.specs.Rules.{has_started, switches, starting_view, after_step, on_master, on_wish, on_event, on_result, on_plain, on_extension, on_spoken, on_switch, on_local, on_input, when_down, is_down, controller_work}
use Rattle.run_laws.specs.OnceLaws.Premises.{IsMarked}

module _ (kinds : List ℕ) (setup : Setup) where
  commands_marks : (w : Work) → (with_commands kinds setup w).state.marks ≡ w.state.marks
  commands_marks w = cond_both (is_untold w.state) (leaving (posting_work w (command_letters kinds setup w.state (outstanding kinds setup (committed w.state) w.state.marks))) (record w.state { last_told = Some (processed (committed w.state)) })) w (λ (y : Work). y.state.marks ≡ w.state.marks) (λ _. refl) (λ _. refl)

  proposal_marks : (w : Work) (entry : Entry) → (after_proposal kinds setup w entry).state.marks ≡ w.state.marks
  proposal_marks w entry =
      let c = w.state in
      let joined = with_proposal w entry in
      let again = with_commands kinds setup (with_answers kinds setup c.vr.commit joined) in
      cond_both (is_past_limits c.vr.log entry) (leaving w (met_limit c entry)) (if is_alone c then again else joined) (λ (y : Work). y.state.marks ≡ w.state.marks) (λ _. refl)
      (λ _. cond_both (is_alone c) again joined (λ (y : Work). y.state.marks ≡ w.state.marks) (λ _. commands_marks (with_answers kinds setup c.vr.commit joined)) (λ _. refl))

  finish_marks : (n : ℕ) (w : Work) → (finishing n kinds setup w).state.marks ≡ w.state.marks
  unfolding finishing
  finish_marks zero w = refl
  finish_marks (suc n) w =
      let entry : Entry = processing w.state in
      let next = after_proposal kinds setup w entry in
      cond_both (not (is_settled kinds setup w.state)) w (if goes_on w.state entry then finishing n kinds setup next else next) (λ (y : Work). y.state.marks ≡ w.state.marks) (λ _. refl)
      (λ _. cond_both (goes_on w.state entry) (finishing n kinds setup next) next (λ (y : Work). y.state.marks ≡ w.state.marks)
      (λ _. finish_marks n next ∙ proposal_marks w entry) (λ _. proposal_marks w entry))

  settling_marks : (before : ℕ) (w : Work) → (settling kinds setup before w).state.marks ≡ w.state.marks
  unfolding settling
  settling_marks before w =
      let told = with_commands kinds setup (with_answers kinds setup before w) in
      finish_marks (length (received told.state.vr.log)) told ∙ commands_marks (with_answers kinds setup before w)

  proposing_marks : (c : ControllerState) (entry : Entry) → (proposing kinds setup c entry).state.marks ≡ c.marks
  proposing_marks c entry =
      let next = after_proposal kinds setup (resting c) entry in
      cond_both (goes_on c entry) (after_finishing kinds setup next) next (λ (y : Work). y.state.marks ≡ c.marks)
      (λ _. finish_marks (length (received next.state.vr.log)) next ∙ proposal_marks (resting c) entry) (λ _. proposal_marks (resting c) entry)

  -- results that were there, or none
  abbrev NoneNew : ControllerState → Work → Type 0
  NoneNew c w = (w.state.marks.acked ≡ c.marks.acked) ⊎ (w.state.marks.acked ≡ [])

  step_marks : (c : ControllerState) (step : VrStep) → NoneNew c (after_step kinds setup c step)
  unfolding after_step
  step_marks c step =
      let work = stepped c step in
      let fresh_one = record work.state { marks = no_marks; last_told = None } in
      let asked = posting_work (leaving work fresh_one) (map (role_letter fresh_one.vr.view) (switches setup)) in
      let more = settling kinds setup c.vr.commit work in
      cond_both (has_started c.vr step.state) (starting_view kinds setup work) (if leads step.state && nat_lt c.vr.commit step.state.commit then more else work) (λ (y : Work). NoneNew c y)
      (λ _. inr (ap (λ (m : Marks). m.acked) (settling_marks fresh_one.vr.commit asked)))
      (λ _. cond_both (leads step.state && nat_lt c.vr.commit step.state.commit) more work (λ (y : Work). NoneNew c y) (λ _. inl (ap (λ (m : Marks). m.acked) (settling_marks c.vr.commit work))) (λ _. inl refl))

  wish_marks : (c : ControllerState) (event : Event) (w : EventAction) → NoneNew c (on_wish kinds setup c event w)
  wish_marks c event Propose = inl (ap (λ (m : Marks). m.acked) (proposing_marks c (Received event)))
  wish_marks c event (Acknowledge through) = inl refl
  wish_marks c event Nothing = inl refl

  plain_marks : (c : ControllerState) (switch : ℕ) (m : OfMessage) → NoneNew c (on_plain kinds setup c switch m)
  plain_marks c switch (plain.RoleReply role generation) =
      cond_both (nat_eq role MASTER && nat_eq generation c.vr.view) (on_master kinds setup c switch) (resting c) (λ (y : Work). NoneNew c y) (λ _. inl refl) (λ _. inl refl)
  plain_marks c switch plain.Hello = inl refl
  plain_marks c switch _ = inl refl

  module _ (c : ControllerState) (x : ControllerInput) where
    abbrev Comes : Work → Type 0
    Comes w = (s life i : ℕ) → IsIn (s, life, i) w.state.marks.acked → IsMarked c x s life i

    old : (w : Work) → NoneNew c w → Comes w
    old w (inl same) s life i h = inl (subst (λ (l : List (ℕ × ℕ × ℕ)). IsIn (s, life, i) l) same h)
    old w (inr none) s life i h = absurd (subst (λ (l : List (ℕ × ℕ × ℕ)). IsIn (s, life, i) l) none h)

    pair_is : (p q : ℕ × ℕ × ℕ) → p ≡ q → (p.0 ≡ q.0) × (p.1 ≡ q.1) × (p.2 ≡ q.2)
    pair_is p q e = (ap (λ (r : ℕ × ℕ × ℕ). r.0) e, ap (λ (r : ℕ × ℕ × ℕ). r.1) e, ap (λ (r : ℕ × ℕ × ℕ). r.2) e)

    result_marks : (switch xid life number : ℕ) (outcome : Outcome) → x ≡ controller_input.Of switch xid (spoken.Ravana (extension.CmdAck life number outcome)) → Comes (on_result kinds setup c switch life number)
    result_marks switch xid life number outcome is =
        cond_both (is_pending kinds setup (committed c) switch life number) (after_finishing kinds setup (resting (record c { marks = with_marked_result kinds setup (committed c) c.marks switch life number }))) (resting c) Comes
        (λ _ s l i h. by_pending (is_pending kinds setup (committed c) switch life number) s l i
        (subst (λ (m : Marks). IsIn (s, l, i) m.acked) (finish_marks (length (received c.vr.log)) (resting (record c { marks = with_marked_result kinds setup (committed c) c.marks switch life number }))) h))
        (λ _. (λ s l i h. inl h))
      where
        by_new : (b : Bool) (s l i : ℕ) → IsIn (s, l, i) (if b then c.marks else record c.marks { acked = c.marks.acked ++ (switch, life, number) ∷ [] }).acked → IsMarked c x s l i
        by_new true s l i h = inl h
        by_new false s l i h =
            elim (in_append (s, l, i) c.marks.acked ((switch, life, number) ∷ []) h) [
              | inl k ↦ inl k
              | inr k ↦ elim k [
                | inl e ↦
                    let p = pair_is (s, l, i) (switch, life, number) e in
                    inr (
                      xid,
                      outcome,
                      is
                          ∙ ap (λ (n : ℕ). controller_input.Of n xid (spoken.Ravana (extension.CmdAck life number outcome))) (sym p.0)
                          ∙ ap (λ (n : ℕ). controller_input.Of s xid (spoken.Ravana (extension.CmdAck n number outcome))) (sym p.1)
                          ∙ ap (λ (n : ℕ). controller_input.Of s xid (spoken.Ravana (extension.CmdAck l n outcome))) (sym p.2),
                    )
                | inr none ↦ absurd none
              ]
            ]

        by_pending : (b : Bool) (s l i : ℕ) → IsIn (s, l, i) (if b then with_mark c.marks switch life number else c.marks).acked → IsMarked c x s l i
        by_pending false s l i h = inl h
        by_pending true s l i h = by_new (has_result c.marks switch life number) s l i h

    extension_marks : (switch xid : ℕ) (m : Extension) → x ≡ controller_input.Of switch xid (spoken.Ravana m) → Comes (on_extension kinds setup c switch m)
    extension_marks switch xid (extension.Event life number what) is =
        let event : Event = record { switch = switch; life = life; number = number; what = what } in old (on_event kinds setup c event) (wish_marks c event (wish c.vr.log (committed c) event))
    extension_marks switch xid (extension.CmdAck life number outcome) is = result_marks switch xid life number outcome is
    extension_marks switch xid _ is = (λ s l i h. inl h)

    spoken_marks : (switch xid : ℕ) (m : Spoken) → x ≡ controller_input.Of switch xid m → Comes (on_spoken kinds setup c switch m)
    spoken_marks switch xid (spoken.Plain m) is = old (on_plain kinds setup c switch m) (plain_marks c switch m)
    spoken_marks switch xid (spoken.Ravana m) is = extension_marks switch xid m is

    leads_marks : (switch xid : ℕ) (m : Spoken) → x ≡ controller_input.Of switch xid m → Comes (if leads c.vr then on_spoken kinds setup c switch m else record { state = c; save = None; letters = [] })
    leads_marks switch xid m is = cond_both (leads c.vr) (on_spoken kinds setup c switch m) (resting c) Comes (λ _. spoken_marks switch xid m is) (λ _. (λ s l i h. inl h))

    switch_marks : (switch xid : ℕ) (m : Spoken) → x ≡ controller_input.Of switch xid m → Comes (on_switch kinds setup c switch xid m)
    switch_marks switch xid (spoken.Plain (plain.EchoRequest body)) is = cond_both (is_up c.vr) (posting_work (resting c) (to_switch switch xid (spoken.Plain (plain.EchoReply body)) ∷ [])) (resting c) Comes (λ _. (λ s l i h. inl h)) (λ _. (λ s l i h. inl h))
    switch_marks switch xid (spoken.Plain m) is = leads_marks switch xid (spoken.Plain m) is
    switch_marks switch xid (spoken.Ravana m) is = leads_marks switch xid (spoken.Ravana m) is

    local_marks : (input : Local) → Comes (on_local kinds setup c input)
    local_marks (local.Frame port bytes) = (λ s l i h. inl h)
    local_marks (local.Port port up) = (λ s l i h. inl h)
    local_marks local.Tick = (λ s l i h. inl h)
    local_marks (local.Suspect view) = old (on_local kinds setup c (local.Suspect view)) (step_marks c _)
    local_marks local.Crash = (λ s l i h. absurd h)
    local_marks local.Restart = (λ s l i h. inl h)

    input_marks : (y : ControllerInput) → x ≡ y → Comes (on_input kinds setup c y)
    input_marks (controller_input.Local input) is = local_marks input
    input_marks (controller_input.Of switch xid m) is = switch_marks switch xid m is
    input_marks (controller_input.Malformed sender) is = (λ s l i h. inl h)
    input_marks (controller_input.Vr from m) is = old (on_input kinds setup c (controller_input.Vr from m)) (step_marks c _)

    down_marks : (y : ControllerInput) → Comes (when_down c y)
    down_marks (controller_input.Local local.Restart) = cond_both (nat_lt c.vr.life last_life) (record (stepped (fresh c.vr) (restarted c.vr.me c.vr.controllers c.vr.promise (c.vr.life + 1))) { save = Some (c.vr.promise, c.vr.life + 1) }) (resting c) Comes (λ _. (λ s l i h. absurd h)) (λ _. (λ s l i h. inl h))
    down_marks (controller_input.Local _) = (λ s l i h. inl h)
    down_marks (controller_input.Of switch xid m) = (λ s l i h. inl h)
    down_marks (controller_input.Malformed sender) = (λ s l i h. inl h)
    down_marks (controller_input.Vr from m) = (λ s l i h. inl h)

  -- each mark after a turn was there before, or is of the result that came
  pub marks_come : (c : ControllerState) (x : ControllerInput) (s life i : ℕ) → IsIn (s, life, i) (controller_work kinds setup c x).state.marks.acked → IsMarked c x s life i
  unfolding controller_work
  marks_come c x s life i h =
      cond_both (is_down c) (when_down c x) (on_input kinds setup (with_no_met_limit c) x) (λ (w : Work). IsIn (s, life, i) w.state.marks.acked → IsMarked c x s life i)
      (λ _ k. down_marks c x x s life i k)
      (λ _ k. input_marks (with_no_met_limit c) x x refl s life i k)
      h
