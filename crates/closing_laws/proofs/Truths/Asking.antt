-- Who asks a switch for its role: a controller that leads, with its view as generation.
use Rattle.std.proofs.Common.{◌≡◌, ℕ, ◌+◌, zero, suc, true, not, ◌&&◌, nat_eq, nat_lt, List, [], map, drop, refl, sym, ◌∙◌, ap, subst}
use Rattle.std.specs.Prelude.{None, if◌then◌else◌}
use Rattle.std.specs.List.{AllByRecursion}
use Rattle.std.proofs.lemmas.Bool.{and_parts, cond_both}
use Rattle.of_types.specs.declared.message.Event.{Event}
use Rattle.of_types.specs.declared.message.Extension.{Extension}
use Rattle.of_types.specs.declared.message.Extension.TheVariants as extension
use Rattle.of_types.specs.declared.message.OfMessage.{OfMessage}
use Rattle.of_types.specs.declared.message.OfMessage.TheVariants as plain
use Rattle.of_types.specs.declared.message.Spoken.{Spoken}
use Rattle.of_types.specs.declared.message.Spoken.TheVariants as spoken
use Rattle.of_types.specs.declared.numbers.TheConstants.{MASTER}
use Rattle.of_types.specs.declared.setup.Setup.{Setup}
use Rattle.of_types.specs.Lives.{last_life}
use Rattle.journal.specs.declared.journal.Letter.{Letter}
use Rattle.journal.specs.declared.journal.Local.{Local}
use Rattle.journal.specs.declared.journal.Local.TheVariants as local
use Rattle.journal.proofs.All.{all_append, all_made, all_weaker}
use Rattle.list_facts.proofs.Elements.{all_in, all_of, in_flat_map}
use Rattle.vr_log.specs.declared.entry.Entry.{Entry}
use Rattle.vr_log.specs.declared.entry.Entry.TheVariants.{Received}
use Rattle.vr_log.specs.declared.message.VrLetter.{VrLetter}
use Rattle.vr_log.specs.declared.state.Status.{Status}
use Rattle.vr_log.specs.declared.state.Status.TheVariants as status
use Rattle.vr_log.specs.declared.state.VrState.{VrState}
use Rattle.vr_log.specs.Log.{received, is_past_limits, may_be_received}
use Rattle.vr_log.specs.Members.{is_up, is_primary, leads}
use Rattle.vr_log.specs.Steps.{VrStep, quiet}
use Rattle.vr_normal.specs.Proposing.{proposed}
use Rattle.vr_normal.specs.Ticks.{tick_primary, tick_changing, tick_recovering, ticked}
use Rattle.vr_recovery.specs.Recovering.{restarted}
use Rattle.vr_core.specs.declared.input.VrInput.TheVariants as vr_input
use Rattle.vr_core.specs.Step.{vr_step}
use Rattle.app_core.specs.declared.issued.Issued.{Issued}
use Rattle.dispatcher.specs.Marks.{no_marks, confirmed_by, is_pending, with_marked_result, outstanding}
use Rattle.dispatcher.specs.Folding.{numbered, acknowledges_at, clears_at, places_processed, is_done}
use Rattle.group_controller.specs.declared.messages.ControllerInput.{ControllerInput}
use Rattle.group_controller.specs.declared.messages.ControllerInput.TheVariants as controller_input
use Rattle.group_controller.specs.declared.messages.ControllerSays.{ControllerSays}
use Rattle.group_controller.specs.declared.messages.ControllerSays.TheVariants as controller_says
use Rattle.group_controller.specs.State.{ControllerState, Work, committed, with_no_met_limit, met_limit, resting, posting_work, leaving, stepped, to_member, to_members}
use Rattle.group_controller.specs.Settling.{role_letter, command_letter, command_letters, ack_letter, clear_letter, answers_at, with_answers, is_untold, with_commands, with_proposal, is_settled, is_alone, after_proposal, goes_on, processing, finishing, settling, proposing}
use Rattle.group_controller.specs.Rules.{switches, has_started, after_step, unconfirmed, tick_letters, on_tick, on_wish, on_event, on_result, on_role_reply, on_plain, on_extension, on_spoken, on_switch, on_local, on_input, when_down, is_down, controller_work}

-- a letter that asks for a role has this generation
abbrev AsksAt : ℕ → ControllerSays → Type 0
AsksAt view (controller_says.Of xid (spoken.Plain (plain.RoleRequest role generation))) = view ≡ generation
AsksAt view said = Unit {0}

-- and is of a member that leads, in that view
abbrev pub AsksBy : VrState → ControllerSays → Type 0
AsksBy s (controller_says.Of xid (spoken.Plain (plain.RoleRequest role generation))) = (leads s ≡ true) × (s.view ≡ generation)
AsksBy s said = Unit {0}

abbrev pub AskBy : VrState → List (Letter ControllerSays) → Type 0
AskBy s letters = AllByRecursion (λ l. AsksBy s l.body) letters

asked_by : (s : VrState) (said : ControllerSays) → leads s ≡ true → AsksAt s.view said → AsksBy s said
asked_by s (controller_says.Of xid (spoken.Plain (plain.RoleRequest role generation))) lead at = (lead, at)
asked_by s said lead at = tt

abbrev AreAt : ℕ → List (Letter ControllerSays) → Type 0
AreAt view letters = AllByRecursion (λ l. AsksAt view l.body) letters

-- the work of a member that leads in a view
record Leading (view : ℕ) (w : Work) : Type 0 where
  pub lead : leads w.state.vr ≡ true
  pub view_is : w.state.vr.view ≡ view
  pub letters : AreAt view w.letters

-- the letters of work are of one that leads
abbrev pub AsksWell : Work → Type 0
AsksWell w = AskBy w.state.vr w.letters

well : (view : ℕ) (w : Work) → Leading view w → AsksWell w
well view w h =
    all_weaker (λ (l : Letter ControllerSays). AsksAt view l.body) (λ (l : Letter ControllerSays). AsksBy w.state.vr l.body)
    (λ l at. asked_by w.state.vr l.body h.lead (subst (λ (v : ℕ). AsksAt v l.body) (sym h.view_is) at)) w.letters h.letters

posts : (view : ℕ) (w : Work) (ls : List (Letter ControllerSays)) → AreAt view ls → Leading view w → Leading view (posting_work w ls)
posts view w ls more h =
    record { lead = h.lead; view_is = h.view_is; letters = all_append (λ (l : Letter ControllerSays). AsksAt view l.body) w.letters ls h.letters more }

leaves : (view : ℕ) (w : Work) (c : ControllerState) → c.vr ≡ w.state.vr → Leading view w → Leading view (leaving w c)
leaves view w c same h = record { lead = ap (λ (s : VrState). leads s) same ∙ h.lead; view_is = ap (λ (s : VrState). s.view) same ∙ h.view_is; letters = h.letters }

members_at : (view : ℕ) (ls : List VrLetter) → AreAt view (to_members ls)
members_at view ls = all_made to_member (λ (l : Letter ControllerSays). AsksAt view l.body) (λ l. tt) ls

members_by : (s : VrState) (ls : List VrLetter) → AskBy s (to_members ls)
members_by s ls = all_made to_member (λ (l : Letter ControllerSays). AsksBy s l.body) (λ l. tt) ls

module _ (kinds : List ℕ) (setup : Setup) (view : ℕ) where
  commands_at : (c : ControllerState) (xs : List Issued) → AreAt view (command_letters kinds setup c xs)
  commands_at c xs = all_made (λ (n : Issued). command_letter c.vr.view (numbered kinds setup (committed c) n)) (λ (l : Letter ControllerSays). AsksAt view l.body) (λ n. tt) xs

  roles_at : (xs : List ℕ) → AreAt view (map (role_letter view) xs)
  roles_at xs = all_made (role_letter view) (λ (l : Letter ControllerSays). AsksAt view l.body) (λ s. refl) xs

  answers_are : (c : ControllerState) (j : ℕ) → AreAt view (answers_at kinds setup c j)
  answers_are c j =
      all_append (λ (l : Letter ControllerSays). AsksAt view l.body) (map ack_letter (acknowledges_at (committed c) j)) (map clear_letter (clears_at kinds setup (committed c) j))
      (all_made ack_letter (λ (l : Letter ControllerSays). AsksAt view l.body) (λ t. tt) (acknowledges_at (committed c) j))
      (all_made clear_letter (λ (l : Letter ControllerSays). AsksAt view l.body) (λ t. tt) (clears_at kinds setup (committed c) j))

  answers_lead : (before : ℕ) (w : Work) → Leading view w → Leading view (with_answers kinds setup before w)
  answers_lead before w h =
      let places = places_processed (drop before (committed w.state)) in
      posts view w _ (all_in (λ (l : Letter ControllerSays). AsksAt view l.body) _ (λ l among.
      let r = in_flat_map (answers_at kinds setup w.state) places l among in
      all_of (λ (l : Letter ControllerSays). AsksAt view l.body) (answers_at kinds setup w.state r.0) l (answers_are w.state r.0) r.2)) h

  commands_lead : (w : Work) → Leading view w → Leading view (with_commands kinds setup w)
  commands_lead w h =
      let ls = command_letters kinds setup w.state (outstanding kinds setup (committed w.state) w.state.marks) in
      cond_both (is_untold w.state) _ _ (Leading view)
      (λ _. leaves view (posting_work w ls) _ refl (posts view w ls (commands_at w.state _) h))
      (λ _. h)

  settled : (before : ℕ) (w : Work) → Leading view w → Leading view (with_commands kinds setup (with_answers kinds setup before w))
  settled before w h = commands_lead (with_answers kinds setup before w) (answers_lead before w h)

  proposal_leads : (w : Work) (entry : Entry) → Leading view w → Leading view (with_proposal w entry)
  proposal_leads w entry h =
      record {
        lead = h.lead;
        view_is = h.view_is;
        letters = all_append (λ (l : Letter ControllerSays). AsksAt view l.body) w.letters _ h.letters (members_at view (proposed w.state.vr entry).letters);
      }

  after_leads : (w : Work) (entry : Entry) → Leading view w → Leading view (after_proposal kinds setup w entry)
  after_leads w entry h =
      cond_both (is_past_limits w.state.vr.log entry) _ _ (Leading view)
      (λ _. leaves view w (met_limit w.state entry) refl h)
      (λ room. cond_both (is_alone w.state) _ _ (Leading view) (λ _. settled w.state.vr.commit (with_proposal w entry) (proposal_leads w entry h)) (λ _. proposal_leads w entry h))

  finished : (n : ℕ) (w : Work) → Leading view w → Leading view (finishing n kinds setup w)
  unfolding finishing
  finished zero w h = h
  finished (suc n) w h =
      let p = after_leads w (processing w.state) h in
      cond_both (not (is_settled kinds setup w.state)) _ _ (Leading view)
      (λ _. h)
      (λ _. cond_both (goes_on w.state (processing w.state)) _ _ (Leading view) (λ _. finished n (after_proposal kinds setup w (processing w.state)) p) (λ _. p))

  settles : (before : ℕ) (w : Work) → Leading view w → Leading view (settling kinds setup before w)
  unfolding settling
  settles before w h = finished _ _ (settled before w h)

  proposes : (c : ControllerState) (entry : Entry) → Leading view (resting c) → Leading view (proposing kinds setup c entry)
  proposes c entry h =
      let p = after_leads (resting c) entry h in
      cond_both (goes_on c entry) _ _ (Leading view) (λ _. finished _ (after_proposal kinds setup (resting c) entry) p) (λ _. p)

-- a tick of the member leaves it was
abbrev tick_of : VrState → Status → VrStep
tick_of s x = elim x [ status.Normal ↦ (if is_primary s then tick_primary s else quiet s) | status.ViewChange ↦ tick_changing s | status.Recovering ↦ tick_recovering s | status.Down ↦ quiet s ]

ticked_same : (s : VrState) → (ticked s).state ≡ s
ticked_same s = by_status s.status
  where
    by_status : (x : Status) → (tick_of s x).state ≡ s
    by_status status.Normal = cond_both (is_primary s) (tick_primary s) (quiet s) (λ (t : VrStep). t.state ≡ s) (λ _. refl) (λ _. refl)
    by_status status.ViewChange = refl
    by_status status.Recovering = refl
    by_status status.Down = refl

module _ (kinds : List ℕ) (setup : Setup) where
  started_leads : (c : ControllerState) (step : VrStep) → leads step.state ≡ true → Leading step.state.view (stepped c step)
  started_leads c step lead = record { lead = lead; view_is = refl; letters = members_at step.state.view step.letters }

  rests_leads : (c : ControllerState) → leads c.vr ≡ true → Leading c.vr.view (resting c)
  rests_leads c lead = record { lead = lead; view_is = refl; letters = tt }

  steps_well : (c : ControllerState) (step : VrStep) → AsksWell (after_step kinds setup c step)
  unfolding after_step
  steps_well c step =
      let w = stepped c step in
      let view : ℕ = step.state.view in
      let anew : ControllerState = record w.state { marks = no_marks; last_told = None } in
      cond_both (has_started c.vr step.state) _ _ AsksWell
      (λ starts.
      let lead = (and_parts (leads step.state) (not (leads c.vr && nat_eq c.vr.view step.state.view)) starts).0 in
      let asked = posting_work (leaving w anew) (map (role_letter view) (switches setup)) in
      well view _ (settles kinds setup view anew.vr.commit asked (posts view (leaving w anew) _ (roles_at kinds setup view (switches setup)) (leaves view w anew refl (started_leads c step lead)))))
      (λ _. cond_both (leads step.state && nat_lt c.vr.commit step.state.commit) _ _ AsksWell
      (λ more. well view _ (settles kinds setup view c.vr.commit w (started_leads c step (and_parts (leads step.state) (nat_lt c.vr.commit step.state.commit) more).0)))
      (λ _. members_by step.state step.letters))

  tick_well : (c : ControllerState) → AsksWell (on_tick kinds setup c)
  tick_well c =
      let step = vr_step c.vr vr_input.Tick in
      all_append (λ (l : Letter ControllerSays). AsksBy step.state l.body) (to_members step.letters) _ (members_by step.state step.letters)
      (cond_both (leads c.vr) (tick_letters kinds setup c) [] (AskBy step.state)
      (λ lead.
      let letters : AreAt c.vr.view (tick_letters kinds setup c) =
      all_append (λ (l : Letter ControllerSays). AsksAt c.vr.view l.body) (map (role_letter c.vr.view) (unconfirmed setup c)) _ (roles_at kinds setup c.vr.view (unconfirmed setup c)) (commands_at kinds setup c.vr.view c _) in
      subst (λ (s : VrState). AskBy s (tick_letters kinds setup c)) (sym (ticked_same c.vr))
      (all_weaker (λ (l : Letter ControllerSays). AsksAt c.vr.view l.body) (λ (l : Letter ControllerSays). AsksBy c.vr l.body) (λ l at. asked_by c.vr l.body lead at) (tick_letters kinds setup c) letters))
      (λ _. tt))

  -- what comes from a switch
  module _ (c : ControllerState) (lead : leads c.vr ≡ true) where
    event_well : (e : Event) → AsksWell (on_event kinds setup c e)
    event_well e =
        cond_both (may_be_received e (received c.vr.log)) _ _ (λ wish. AsksWell (on_wish kinds setup c e wish))
        (λ may. well c.vr.view _ (proposes kinds setup c.vr.view c (Received e) (rests_leads c lead)))
        (λ _. cond_both (is_done c.vr.log (committed c) e) _ _ (λ wish. AsksWell (on_wish kinds setup c e wish)) (λ _. (tt, tt)) (λ _. tt))

    result_well : (switch life number : ℕ) → AsksWell (on_result kinds setup c switch life number)
    result_well switch life number =
        let d : ControllerState = record c { marks = with_marked_result kinds setup (committed c) c.marks switch life number } in
        cond_both (is_pending kinds setup (committed c) switch life number) _ _ AsksWell
        (λ _. well c.vr.view _ (finished kinds setup c.vr.view _ (resting d) (rests_leads d lead)))
        (λ _. tt)

    reply_well : (switch role generation : ℕ) → AsksWell (on_role_reply kinds setup c switch role generation)
    reply_well switch role generation =
        let d : ControllerState = record c { marks = confirmed_by c.marks switch } in
        cond_both (nat_eq role MASTER && nat_eq generation c.vr.view) _ _ AsksWell
        (λ _. well c.vr.view _ (posts c.vr.view (resting d) _ (commands_at kinds setup c.vr.view d _) (rests_leads d lead)))
        (λ _. tt)

    plain_well : (switch : ℕ) (m : OfMessage) → AsksWell (on_plain kinds setup c switch m)
    plain_well switch (plain.RoleReply role generation) = reply_well switch role generation
    plain_well switch plain.Hello = ((lead, refl), tt)
    plain_well switch _ = tt

    extension_well : (switch : ℕ) (m : Extension) → AsksWell (on_extension kinds setup c switch m)
    extension_well switch (extension.Event life number what) = event_well (record { switch = switch; life = life; number = number; what = what })
    extension_well switch (extension.CmdAck life number outcome) = result_well switch life number
    extension_well switch _ = tt

    spoken_well : (switch : ℕ) (m : Spoken) → AsksWell (on_spoken kinds setup c switch m)
    spoken_well switch (spoken.Plain m) = plain_well switch m
    spoken_well switch (spoken.Ravana m) = extension_well switch m

  primary_well : (c : ControllerState) (switch : ℕ) (m : Spoken) → AsksWell (if leads c.vr then on_spoken kinds setup c switch m else resting c)
  primary_well c switch m = cond_both (leads c.vr) _ _ AsksWell (λ lead. spoken_well c lead switch m) (λ _. tt)

  switch_well : (c : ControllerState) (switch xid : ℕ) (m : Spoken) → AsksWell (on_switch kinds setup c switch xid m)
  switch_well c switch xid (spoken.Plain (plain.EchoRequest body)) = cond_both (is_up c.vr) _ _ AsksWell (λ _. (tt, tt)) (λ _. tt)
  switch_well c switch xid (spoken.Plain m) = primary_well c switch (spoken.Plain m)
  switch_well c switch xid (spoken.Ravana m) = primary_well c switch (spoken.Ravana m)

  local_well : (c : ControllerState) (what : Local) → AsksWell (on_local kinds setup c what)
  local_well c (local.Frame port bytes) = tt
  local_well c (local.Port port up) = tt
  local_well c local.Tick = tick_well c
  local_well c (local.Suspect view) = steps_well c (vr_step c.vr (vr_input.Suspect view))
  local_well c local.Crash = tt
  local_well c local.Restart = tt

  input_well : (c : ControllerState) (x : ControllerInput) → AsksWell (on_input kinds setup c x)
  input_well c (controller_input.Local what) = local_well c what
  input_well c (controller_input.Of switch xid m) = switch_well c switch xid m
  input_well c (controller_input.Malformed from) = tt
  input_well c (controller_input.Vr from m) = steps_well c (vr_step c.vr (vr_input.From from m))

  down_well : (c : ControllerState) (x : ControllerInput) → AsksWell (when_down c x)
  down_well c (controller_input.Local local.Restart) = cond_both (nat_lt c.vr.life last_life) _ _ AsksWell (λ _. members_by (restarted c.vr.me c.vr.controllers c.vr.promise (c.vr.life + 1)).state (restarted c.vr.me c.vr.controllers c.vr.promise (c.vr.life + 1)).letters) (λ _. tt)
  down_well c (controller_input.Local what) = tt
  down_well c (controller_input.Of switch xid m) = tt
  down_well c (controller_input.Malformed from) = tt
  down_well c (controller_input.Vr from m) = tt

  -- every turn asks for roles only where it leads, and with its view
  pub turn_asks : (c : ControllerState) (x : ControllerInput) → AsksWell (controller_work kinds setup c x)
  unfolding controller_work
  turn_asks c x = cond_both (is_down c) _ _ AsksWell (λ _. down_well c x) (λ _. input_well (with_no_met_limit c) x)
