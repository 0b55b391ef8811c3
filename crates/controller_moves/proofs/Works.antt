-- The work of a turn comes from at most one step of the member: one lemma for each case of the rules.
use Rattle.std.proofs.Common.{◌≡◌, ℕ, zero, suc, true, false, not, nat_eq, nat_lt, ◌&&◌, List, [], drop, map, refl, sym, ap, ◌∙◌, append-nil}
use Rattle.std.specs.Prelude.{None, if◌then◌else◌}
use Rattle.std.proofs.lemmas.Bool.{and_parts, cond_both, not-false, false≢true}
use Rattle.of_types.specs.declared.message.Event.{Event}
use Rattle.of_types.specs.declared.message.Extension.{Extension}
use Rattle.of_types.specs.declared.message.Extension.TheVariants as extension
use Rattle.of_types.specs.declared.message.Happening.{Happening}
use Rattle.of_types.specs.declared.message.OfMessage.{OfMessage}
use Rattle.of_types.specs.declared.message.OfMessage.TheVariants as plain
use Rattle.of_types.specs.declared.message.Spoken.{Spoken}
use Rattle.of_types.specs.declared.message.Spoken.TheVariants as spoken
use Rattle.of_types.specs.declared.numbers.TheConstants.{MASTER}
use Rattle.of_types.specs.declared.setup.Setup.{Setup}
use Rattle.of_types.specs.Lives.{last_life}
use Rattle.journal.specs.declared.journal.Letter.{Letter}
use Rattle.journal.specs.declared.journal.Local.{Local}
use Rattle.journal.specs.declared.journal.Local.TheVariants as local
use Rattle.journal.proofs.All.{all_append, all_made}
use Rattle.vr_log.specs.declared.entry.Entry.{Entry}
use Rattle.vr_log.specs.declared.entry.Entry.TheVariants.{Received}
use Rattle.vr_log.specs.declared.state.Status.{Status}
use Rattle.vr_log.specs.declared.state.Status.TheVariants as status
use Rattle.vr_log.specs.declared.state.VrState.{VrState}
use Rattle.vr_log.specs.Log.{received, is_past_limits, may_be_received}
use Rattle.vr_log.specs.Members.{is_up, leads}
use Rattle.vr_log.specs.Steps.{VrStep}
use Rattle.vr_core.specs.declared.input.VrInput.TheVariants as vr_input
use Rattle.vr_core.specs.Step.{vr_step}
use Rattle.app_core.specs.declared.issued.Issued.{Issued}
use Rattle.dispatcher.specs.Marks.{no_marks, confirmed_by, off_role, is_pending, with_marked_result, outstanding}
use Rattle.dispatcher.specs.Folding.{numbered, acknowledges_at, clears_at, places_processed, is_done}
use Rattle.group_controller.specs.declared.messages.ControllerInput.{ControllerInput}
use Rattle.group_controller.specs.declared.messages.ControllerInput.TheVariants as controller_input
use Rattle.group_controller.specs.declared.messages.ControllerSays.{ControllerSays}
use Rattle.group_controller.specs.State.{ControllerState, Work, committed, with_no_met_limit, met_limit, resting, posting_work, leaving, stepped}
use Rattle.group_controller.specs.Settling.{role_letter, command_letter, command_letters, ack_letter, clear_letter, answers_at, with_answers, is_untold, with_commands, with_proposal, is_settled, is_alone, after_proposal, goes_on, processing, finishing, settling, proposing}
use Rattle.group_controller.specs.Rules.{switches, has_started, after_step, unconfirmed, tick_letters, on_tick, on_wish, on_event, on_result, on_role_reply, commands_for, on_plain, on_extension, on_spoken, on_switch, on_local, on_input, when_down, is_down, controller_work}
use Rattle.controller_moves.specs.ControllerLaws.Moves.{IsProposed, Receives, Processes}
use Rattle.controller_moves.specs.Works.{IsToSwitch, AreToSwitches, TellsSwitches, Continues, Begins, Tells, Proposes, IsWorkOf, Rests, Steps, Crashes, Restarts}
use Rattle.controller_moves.specs.Laws.{WorksStandOnSteps}
use Rattle.controller_moves.proofs.Letters.{to_switches_flat}

-- letters go to switches, or nothing is told
telling : (w : Work) (ls : List (Letter ControllerSays)) → AreToSwitches ls → TellsSwitches w (posting_work w ls)
telling w ls to = record { vr = refl; save = refl; more = ls; letters = refl; to_switches = to }

noting : (w : Work) (c : ControllerState) → c.vr ≡ w.state.vr → TellsSwitches w (leaving w c)
noting w c same = record { vr = same; save = refl; more = []; letters = sym (append-nil w.letters); to_switches = tt }

still_leads : {w w' : Work} → TellsSwitches w w' → leads w.state.vr ≡ true → leads w'.state.vr ≡ true
still_leads t lead = ap (λ (s : VrState). leads s) t.vr ∙ lead

module _ (kinds : List ℕ) (setup : Setup) where
  commands_go : (c : ControllerState) (xs : List Issued) → AreToSwitches (command_letters kinds setup c xs)
  commands_go c xs = all_made (λ (n : Issued). command_letter c.vr.view (numbered kinds setup (committed c) n)) (λ (l : Letter ControllerSays). IsToSwitch l.to) (λ n. tt) xs

  roles_go : (view : ℕ) (xs : List ℕ) → AreToSwitches (map (role_letter view) xs)
  roles_go view xs = all_made (role_letter view) (λ (l : Letter ControllerSays). IsToSwitch l.to) (λ s. tt) xs

  answers_go : (c : ControllerState) (j : ℕ) → AreToSwitches (answers_at kinds setup c j)
  answers_go c j =
      all_append (λ (l : Letter ControllerSays). IsToSwitch l.to) (map ack_letter (acknowledges_at (committed c) j)) (map clear_letter (clears_at kinds setup (committed c) j))
      (all_made ack_letter (λ (l : Letter ControllerSays). IsToSwitch l.to) (λ t. tt) (acknowledges_at (committed c) j))
      (all_made clear_letter (λ (l : Letter ControllerSays). IsToSwitch l.to) (λ t. tt) (clears_at kinds setup (committed c) j))

  answers_tell : (before : ℕ) (w : Work) → TellsSwitches w (with_answers kinds setup before w)
  answers_tell before w = telling w _ (to_switches_flat (answers_at kinds setup w.state) (answers_go w.state) (places_processed (drop before (committed w.state))))

  commands_tell : (w : Work) → TellsSwitches w (with_commands kinds setup w)
  commands_tell w =
      let ns = outstanding kinds setup (committed w.state) w.state.marks in
      cond_both (is_untold w.state) _ _ (TellsSwitches w)
      (λ _. record { vr = refl; save = refl; more = command_letters kinds setup w.state ns; letters = refl; to_switches = commands_go w.state ns })
      (λ _. noting w w.state refl)

  module _ (x : ControllerInput) where
    module _ (first : Work) where
      -- a primary's work goes on
      abbrev Leads : Work → Type 0
      Leads w = Continues kinds setup x first w × (leads w.state.vr ≡ true)

      told : (w w' : Work) → TellsSwitches w w' → Leads w → Leads w'
      told w w' t l = (Tells l.0 t, still_leads t l.1)

      settled : (before : ℕ) (w : Work) → Leads w → Leads (with_commands kinds setup (with_answers kinds setup before w))
      settled before w l = let answered = with_answers kinds setup before w in told answered (with_commands kinds setup answered) (commands_tell answered) (told w answered (answers_tell before w) l)

      proposed : (w : Work) (entry : Entry) → Leads w → IsProposed kinds setup x w.state entry → Leads (after_proposal kinds setup w entry)
      proposed w entry l may =
          cond_both (is_past_limits w.state.vr.log entry) _ _ Leads
          (λ _. told w _ (noting w (met_limit w.state entry) refl) l)
          (λ room.
          let p : Leads (with_proposal w entry) = (Proposes entry l.0 l.1 may room, l.1) in
          cond_both (is_alone w.state) _ _ Leads (λ _. settled w.state.vr.commit (with_proposal w entry) p) (λ _. p))

      finished : (n : ℕ) (w : Work) → Leads w → Leads (finishing n kinds setup w)
      unfolding finishing
      finished zero w l = l
      finished (suc n) w l =
          let entry : Entry = processing w.state in
          cond_both (not (is_settled kinds setup w.state)) _ _ Leads
          (λ _. l)
          (λ ready.
          let p = proposed w entry l (Processes (not-false _ ready) refl) in
          cond_both (goes_on w.state entry) _ _ Leads (λ _. finished n (after_proposal kinds setup w entry) p) (λ _. p))

      settles : (before : ℕ) (w : Work) → Leads w → Leads (settling kinds setup before w)
      unfolding settling
      settles before w l = finished _ _ (settled before w l)

    proposes : (c : ControllerState) (entry : Entry) → leads c.vr ≡ true → IsProposed kinds setup x c entry → Continues kinds setup x (resting c) (proposing kinds setup c entry)
    proposes c entry lead may =
        let p = proposed (resting c) (resting c) entry (Begins, lead) may in
        cond_both (goes_on c entry) _ _ (Continues kinds setup x (resting c)) (λ _. (finished (resting c) _ (after_proposal kinds setup (resting c) entry) p).0) (λ _. p.0)

    -- behind a step of the member
    steps : (c : ControllerState) (step : VrStep) → Continues kinds setup x (stepped c step) (after_step kinds setup c step)
    unfolding after_step
    steps c step =
        let w = stepped c step in
        let anew : ControllerState = record w.state { marks = no_marks; last_told = None } in
        cond_both (has_started c.vr step.state) _ _ (Continues kinds setup x w)
        (λ starts.
        let lead = (and_parts (leads step.state) (not (leads c.vr && nat_eq c.vr.view step.state.view)) starts).0 in
        let asked = posting_work (leaving w anew) (map (role_letter anew.vr.view) (switches setup)) in
        let p = told w (leaving w anew) asked (telling (leaving w anew) _ (roles_go anew.vr.view (switches setup))) (told w w (leaving w anew) (noting w anew refl) (Begins, lead)) in
        (settles w anew.vr.commit asked p).0)
        (λ _. cond_both (leads step.state && nat_lt c.vr.commit step.state.commit) _ _ (Continues kinds setup x w)
        (λ more. (settles w c.vr.commit w (Begins, (and_parts (leads step.state) (nat_lt c.vr.commit step.state.commit) more).0)).0)
        (λ _. Begins))

    -- what comes from a switch: the member rests
    module _ (c : ControllerState) where
      abbrev Works : Work → Type 0
      Works w = IsWorkOf kinds setup c.vr x w

      rests : (d : ControllerState) → d.vr ≡ c.vr → Works (resting d)
      rests d same = Rests d same Begins

      tells : (d : ControllerState) → d.vr ≡ c.vr → (ls : List (Letter ControllerSays)) → AreToSwitches ls → Works (posting_work (resting d) ls)
      tells d same ls to = Rests d same (Tells Begins (telling (resting d) ls to))

      module _ (lead : leads c.vr ≡ true) where
        event_works : (switch xid life number : ℕ) (what : Happening) → x ≡ controller_input.Of switch xid (spoken.Ravana (extension.Event life number what))
            → Works (on_event kinds setup c (record { switch = switch; life = life; number = number; what = what }))
        event_works switch xid life number what is =
            let e : Event = record { switch = switch; life = life; number = number; what = what } in
            cond_both (may_be_received e (received c.vr.log)) _ _ (λ wish. Works (on_wish kinds setup c e wish))
            (λ may. Rests c refl (proposes c (Received e) lead (Receives switch xid life number what is may refl)))
            (λ _. cond_both (is_done c.vr.log (committed c) e) _ _ (λ wish. Works (on_wish kinds setup c e wish)) (λ _. tells c refl _ (tt, tt)) (λ _. rests c refl))

        result_works : (switch life number : ℕ) → Works (on_result kinds setup c switch life number)
        result_works switch life number =
            let d : ControllerState = record c { marks = with_marked_result kinds setup (committed c) c.marks switch life number } in
            cond_both (is_pending kinds setup (committed c) switch life number) _ _ Works
            (λ _. Rests d refl (finished (resting d) _ (resting d) (Begins, lead)).0)
            (λ _. rests c refl)

        reply_works : (switch role generation : ℕ) → Works (on_role_reply kinds setup c switch role generation)
        reply_works switch role generation =
            let d : ControllerState = record c { marks = confirmed_by c.marks switch } in
            cond_both (nat_eq role MASTER && nat_eq generation c.vr.view) _ _ Works
            (λ _. tells d refl (commands_for kinds setup d switch) (commands_go d _))
            (λ _. rests c refl)

        plain_works : (switch : ℕ) (m : OfMessage) → Works (on_plain kinds setup c switch m)
        plain_works switch (plain.RoleReply role generation) = reply_works switch role generation
        plain_works switch plain.Hello = tells (record c { marks = off_role c.marks switch }) refl _ (tt, tt)
        plain_works switch _ = rests c refl

        extension_works : (switch xid : ℕ) (m : Extension) → x ≡ controller_input.Of switch xid (spoken.Ravana m) → Works (on_extension kinds setup c switch m)
        extension_works switch xid (extension.Event life number what) is = event_works switch xid life number what is
        extension_works switch xid (extension.CmdAck life number outcome) is = result_works switch life number
        extension_works switch xid _ is = rests c refl

        spoken_works : (switch xid : ℕ) (m : Spoken) → x ≡ controller_input.Of switch xid m → Works (on_spoken kinds setup c switch m)
        spoken_works switch xid (spoken.Plain m) is = plain_works switch m
        spoken_works switch xid (spoken.Ravana m) is = extension_works switch xid m is

      primary_works : (switch xid : ℕ) (m : Spoken) → x ≡ controller_input.Of switch xid m → Works (if leads c.vr then on_spoken kinds setup c switch m else resting c)
      primary_works switch xid m is = cond_both (leads c.vr) _ _ Works (λ lead. spoken_works lead switch xid m is) (λ _. rests c refl)

      switch_works : (switch xid : ℕ) (m : Spoken) → x ≡ controller_input.Of switch xid m → Works (on_switch kinds setup c switch xid m)
      switch_works switch xid (spoken.Plain (plain.EchoRequest body)) is = cond_both (is_up c.vr) _ _ Works (λ _. tells c refl _ (tt, tt)) (λ _. rests c refl)
      switch_works switch xid (spoken.Plain m) is = primary_works switch xid (spoken.Plain m) is
      switch_works switch xid (spoken.Ravana m) is = primary_works switch xid (spoken.Ravana m) is

  tick_works : (c : ControllerState) → IsWorkOf kinds setup c.vr (controller_input.Local local.Tick) (on_tick kinds setup c)
  tick_works c =
      let w = stepped c (vr_step c.vr vr_input.Tick) in
      let ns = outstanding kinds setup (committed c) c.marks in
      Steps c (Tells Begins (telling w (if leads c.vr then tick_letters kinds setup c else [])
      (cond_both (leads c.vr) (tick_letters kinds setup c) [] AreToSwitches
      (λ _. all_append (λ (l : Letter ControllerSays). IsToSwitch l.to) (map (role_letter c.vr.view) (unconfirmed setup c)) (command_letters kinds setup c ns) (roles_go c.vr.view (unconfirmed setup c)) (commands_go c ns))
      (λ _. tt))))

  local_works : (c : ControllerState) (what : Local) → IsWorkOf kinds setup c.vr (controller_input.Local what) (on_local kinds setup c what)
  local_works c (local.Frame port bytes) = rests _ c c refl
  local_works c (local.Port port up) = rests _ c c refl
  local_works c local.Tick = tick_works c
  local_works c (local.Suspect view) = Steps c (steps (controller_input.Local (local.Suspect view)) c (vr_step c.vr (vr_input.Suspect view)))
  local_works c local.Crash = Crashes refl
  local_works c local.Restart = rests _ c c refl

  input_works : (c : ControllerState) (x : ControllerInput) → IsWorkOf kinds setup c.vr x (on_input kinds setup c x)
  input_works c (controller_input.Local what) = local_works c what
  input_works c (controller_input.Of switch xid m) = switch_works (controller_input.Of switch xid m) c switch xid m refl
  input_works c (controller_input.Malformed from) = rests _ c c refl
  input_works c (controller_input.Vr from m) = Steps c (steps (controller_input.Vr from m) c (vr_step c.vr (vr_input.From from m)))

  down_works : (c : ControllerState) (x : ControllerInput) → c.vr.status ≡ status.Down → IsWorkOf kinds setup c.vr x (when_down c x)
  down_works c (controller_input.Local local.Restart) off = cond_both (nat_lt c.vr.life last_life) _ _ (IsWorkOf kinds setup c.vr (controller_input.Local local.Restart)) (λ _. Restarts refl off) (λ _. rests _ c c refl)
  down_works c (controller_input.Local what) off = rests _ c c refl
  down_works c (controller_input.Of switch xid m) off = rests _ c c refl
  down_works c (controller_input.Malformed from) off = rests _ c c refl
  down_works c (controller_input.Vr from m) off = rests _ c c refl

down_of : (x : Status) → (elim x [ status.Normal ↦ false | status.ViewChange ↦ false | status.Recovering ↦ false | status.Down ↦ true ]) ≡ true → x ≡ status.Down
down_of status.Down off = refl
down_of status.Normal off = absurd (false≢true off)
down_of status.ViewChange off = absurd (false≢true off)
down_of status.Recovering off = absurd (false≢true off)

pub works_law : WorksStandOnSteps
unfolding controller_work
works_law kinds setup c x =
    cond_both (is_down c) _ _ (IsWorkOf kinds setup c.vr x) (λ off. down_works kinds setup c x (down_of c.vr.status off)) (λ _. input_works kinds setup (with_no_met_limit c) x)
