-- The work of a turn is a turn of moves, in a group of more than one.
use Rattle.std.proofs.Common.{◌≡◌, ◌≢◌, ℕ, ◌+◌, ◌<◌, ◌≤◌, inl, inr, true, false, cond, eqb, List, [], ◌∷◌, ◌++◌, length, refl, sym, ap, ◌∙◌, subst, subst₂, arith, le_refl}
use Rattle.std.proofs.lemmas.Bool.{cases_eq, and_parts, cond-true, cond-false, eqb-true, eq-eqb, ne_eqb}
use Rattle.of_types.specs.declared.setup.Setup.{Setup}
use Rattle.journal.specs.declared.journal.Local.TheVariants as local
use Rattle.list_facts.proofs.Prefixes.{prefix_append, prefix_refl, prefix_trans}
use Rattle.list_facts.specs.Lists.{IsIn, IsPrefix}
use Rattle.agreement.specs.History as core
use Rattle.agreement.specs.History.{Group, size, primary_in, State, History, abstract_letter}
use Rattle.agreement.specs.Invariant.{is_up_status, Invariant, IsGroup}
use Rattle.agreement.specs.Moves.{Moved, Resembles, StandsAt, appended_to_history}
use Rattle.agreement.specs.Turns.{Turn}
use Rattle.agreement.specs.Journals.{tracked, Tracks}
use Rattle.agreement.specs.Effects.{prepares_entry}
use Rattle.agreement.proofs.Runs.{run_keeps}
use Rattle.agreement.proofs.Turns.{turn_run}
use Rattle.agreement.proofs.Conditions.{own_valid}
use Rattle.agreement.proofs.Chains.{moved_after}
use Rattle.agreement.proofs.Walks.{Tail, good_at, tail_end}
use Rattle.agreement.proofs.Starting.{tail_proposes}
use Rattle.agreement.proofs.Cases.{grown_by}
use Rattle.vr_log.specs.declared.entry.Entry.{Entry}
use Rattle.vr_log.specs.declared.message.VrMessage.{VrMessage}
use Rattle.vr_log.specs.declared.message.VrMessage.TheVariants as message
use Rattle.vr_log.specs.declared.state.VrState.{VrState}
use Rattle.vr_log.specs.Log.{fits, is_past_limits}
use Rattle.vr_log.specs.Members as member
use Rattle.vr_log.specs.Members.{leads}
use Rattle.vr_log.specs.Steps.{VrStep, to_others}
use Rattle.vr_normal.specs.Proposing.{proposed}
use Rattle.vr_recovery.specs.Recovering.{restarted}
use Rattle.vr_core.specs.Step.{vr_step}
use Rattle.controller_moves.specs.MemberMoves.Laws.{IsMemberAt, IsMemberTurn}
use Rattle.controller_moves.specs.MemberMoves.Projection.{group_of, message_of, member_state_of}
use Rattle.controller_moves.proofs.MemberMoves.Members.{member_of, normal_of, same_primary, same_half, normal_like, goes_quiet}
use Rattle.controller_moves.proofs.MemberMoves.Checking.{each_same, swapped}
use Rattle.controller_moves.proofs.MemberMoves.Logs.{log_next, logs_law}
use Rattle.controller_moves.proofs.MemberMoves.Keeping.{step_keeps}
use Rattle.controller_moves.proofs.MemberMoves.Turns.{messages_law, suspicions_law, ticks_law, falls_law, restarts_law}
use Rattle.group_controller.specs.declared.messages.ControllerInput.{ControllerInput}
use Rattle.group_controller.specs.declared.messages.ControllerInput.TheVariants as controller_input
use Rattle.group_controller.specs.State.{ControllerState, Work, fresh, resting, stepped, to_members}
use Rattle.group_controller.specs.Settling.{with_proposal}
use Rattle.controller_moves.specs.ControllerLaws.Moves.{member_input, IsProposed}
use Rattle.controller_moves.proofs.ControllerLaws.Finished.{proposal_follows}
use Rattle.controller_moves.specs.Projection.{letters_to_members}
use Rattle.controller_moves.specs.Works.{Continues, Begins, Tells, Proposes, IsWorkOf, Rests, Steps, Crashes, Restarts}
use Rattle.controller_moves.proofs.Letters.{letters_append, letters_members, same_letters}

-- what work leaves and says makes a turn of c
abbrev pub IsWorkTurn : Group Entry → History Entry → History Entry → ℕ → Work → Type 0
IsWorkTurn g h h' c w =
    Moved h h' c (member_state_of w.state.vr) w.state.vr.promise w.state.vr.life (letters_to_members c w.letters) → Tracks g h h' c → Turn g c h h'

-- what no proposal changes, and that the log only goes on
pub record IsLonger (w w' : Work) : Type 0 where
  pub me : w'.state.vr.me ≡ w.state.vr.me
  pub controllers : w'.state.vr.controllers ≡ w.state.vr.controllers
  pub acked : w'.state.vr.acked ≡ w.state.vr.acked
  pub status : w'.state.vr.status ≡ w.state.vr.status
  pub save : w'.save ≡ w.save
  pub log : IsPrefix w.state.vr.log w'.state.vr.log

module _ (kinds : List ℕ) (setup : Setup) (x : ControllerInput) where
  pub continues_longer : (w w' : Work) → Continues kinds setup x w w' → IsLonger w w'
  continues_longer w w' Begins = record { me = refl; controllers = refl; acked = refl; status = refl; save = refl; log = prefix_refl w.state.vr.log }
  continues_longer w w' (Tells {mid} on t) = let k = continues_longer w mid on in record {
    me = ap (λ (s : VrState). s.me) t.vr ∙ k.me;
    controllers = ap (λ (s : VrState). s.controllers) t.vr ∙ k.controllers;
    acked = ap (λ (s : VrState). s.acked) t.vr ∙ k.acked;
    status = ap (λ (s : VrState). s.status) t.vr ∙ k.status;
    save = t.save ∙ k.save;
    log = subst (λ (s : VrState). IsPrefix w.state.vr.log s.log) (sym t.vr) k.log;
  }
  continues_longer w w' (Proposes {mid} entry on lead may room) = let k = continues_longer w mid on in record {
    me = k.me;
    controllers = k.controllers;
    acked = k.acked;
    status = k.status;
    save = k.save;
    log = prefix_trans k.log (prefix_append mid.state.vr.log (entry ∷ []));
  }

  -- what is proposed fits
  pub proposal_fits : (c : ControllerState) (entry : Entry) → IsProposed kinds setup x c entry → is_past_limits c.vr.log entry ≡ false → fits c.vr.log entry ≡ true
  proposal_fits c entry may room = rw (room, proposal_follows kinds setup x c entry may) refl

-- the logs of views, where they are the same but for one view, and equal there
same_logs : (a b old one : ℕ → List Entry) (view : ℕ) (log : List Entry) → a view ≡ log → b view ≡ log → ((v : ℕ) → v ≢ view → a v ≡ old v) → ((v : ℕ) → v ≢ view → one v ≡ old v) → ((v : ℕ) → v ≢ view → b v ≡ one v) → (v : ℕ) → a v ≡ b v
same_logs a b old one view log here here' others others1 others' v = elim (cases_eq v view) [
  | inl e ↦ ap a e ∙ here ∙ sym here' ∙ ap b (sym e)
  | inr ne ↦ others v ne ∙ sym (others1 v ne) ∙ sym (others' v ne)
]

-- a proposal adds its PREPAREs
proposal_letters : (c : ℕ) (w : Work) (entry : Entry)
    → letters_to_members c (with_proposal w entry).letters ≡ letters_to_members c w.letters ++ prepares_entry c (member.others w.state.vr) (member_state_of w.state.vr) entry
proposal_letters c w entry =
    let s : VrState = w.state.vr in
    let what : VrMessage = message.Prepare s.view (length s.log + 1) s.commit entry in
    letters_append c w.letters (to_members (to_others s what))
    ∙ ap (λ (ls : List (core.Letter Entry)). letters_to_members c w.letters ++ ls) (letters_members c (to_others s what) ∙ each_same c what (member.others s))

module _ {most_failures : ℕ} {h : History Entry} {c : ℕ} (o : 1 ≤ most_failures) (i : Invariant (group_of most_failures) h) (b : c < size (group_of most_failures)) where
  abbrev g : Group Entry
  g = group_of most_failures

  -- one more proposal, behind work that makes a turn
  proposal_turns : (w : Work) → ((h' : History Entry) → IsWorkTurn g h h' c w) → w.state.vr.me ≡ c → w.state.vr.controllers ≡ size g → (entry : Entry) → leads w.state.vr ≡ true → fits w.state.vr.log entry ≡ true
      → (h' : History Entry) → IsWorkTurn g h h' c (with_proposal w entry)
  proposal_turns w turns me controllers entry leading fit h' t tr =
      let gr : IsGroup g = logs_law most_failures in
      let s : VrState = w.state.vr in
      let s1 : State Entry = member_state_of s in
      let new : List (core.Letter Entry) = letters_to_members c w.letters in
      let x = and_parts (member.is_normal s) (member.is_primary s) leading in
      let n : s1.status ≡ core.Normal = normal_of s.status x.0 in
      let is : c ≡ primary_in g s.view = sym (sym (same_primary g s controllers s.view) ∙ eqb-true (member.primary_of s s.view) s.me x.1 ∙ me) in
      let after = moved_after h c s1 s.promise s.life new in
      let h1 : History Entry = record {
        state = λ j. cond (eqb j c) s1 (h.state j);
        promise = λ j. cond (eqb j c) s.promise (h.promise j);
        life = λ j. cond (eqb j c) s.life (h.life j);
        sent = new ++ h.sent;
        logs = λ q. cond (eqb c (primary_in g q)) (tracked q s1 (h.logs q)) (h.logs q);
      } in
      let t1 : Moved h h1 c s1 s.promise s.life new = record {
        state_own = after.state_own;
        promise_own = after.promise_own;
        life_own = after.life_own;
        state_other = after.state_other;
        promise_other = after.promise_other;
        life_other = after.life_other;
        sent_more = after.sent_more;
        sent_new = after.sent_new;
        sent_split = after.sent_split;
      } in
      let tr1 : Tracks g h h1 c = record {
        own = λ q e. cond-true (eqb c (primary_in g q)) (tracked q s1 (h.logs q)) (h.logs q) (eq-eqb c (primary_in g q) e) ∙ ap (λ (a : State Entry). tracked q a (h.logs q)) (sym after.state_own);
        others = λ q ne. cond-false (eqb c (primary_in g q)) (tracked q s1 (h.logs q)) (h.logs q) (ne_eqb c (primary_in g q) ne);
      } in
      let turn1 = turns h1 t1 tr1 in
      let inv1 = run_keeps gr i (turn_run b turn1) in
      let at1 : StandsAt h1 c s1 s.promise s.life = record { state_is = after.state_own; promise_is = after.promise_own; life_is = after.life_own } in
      let good = own_valid (good_at inv1 b at1) gr inv1 (ap is_up_status n) in
      let tail : Tail g c h s1 s.promise s.life new h1.logs = record { at = h1; turn = turn1; moved = t1; logs_are = λ q. refl; inv = inv1 } in
      let grown1 = grown_by t1 tr1 n is in
      let out = tail_proposes gr b (member.others s) (entry ∷ []) tail n is (log_next s.log entry good.0 fit, tt) grown1.here in
      let s2 : VrState = (proposed s entry).state in
      let a : State Entry = appended_to_history s1 (s.log ++ entry ∷ []) in
      let half_is : member.most_failures s ≡ most_failures = same_half g s controllers in
      let commit_is : s2.commit ≡ s.commit = cond-false (eqb (member.most_failures s) 0) (length s.log + 1) s.commit (ne_eqb (member.most_failures s) 0 (λ q. absurd (omega arith))) in
      let like : Resembles a (member_state_of s2) = normal_like a (member_state_of s2) n refl refl refl refl commit_is (λ j. refl) in
      let whole = proposal_letters c w entry in
      let grown = grown_by t tr n is in
      tail_end {logs = out.0} gr b out.1 t like
      (λ q j. subst (λ (ls : List (core.Letter Entry)). IsIn q ls) (sym whole) (swapped new (prepares_entry c (member.others s) s1 entry) q j))
      (λ q j. swapped (prepares_entry c (member.others s) s1 entry) new q (subst (λ (ls : List (core.Letter Entry)). IsIn q ls) whole j))
      (same_logs h'.logs out.0 h.logs h1.logs s.view (s.log ++ entry ∷ []) grown.here out.2 grown.others grown1.others out.3)

  module _ (kinds : List ℕ) (setup : Setup) (x : ControllerInput) where
    -- what goes on from work that makes a turn makes one
    continues_turns : (w w' : Work) → ((h' : History Entry) → IsWorkTurn g h h' c w) → w.state.vr.me ≡ c → w.state.vr.controllers ≡ size g → Continues kinds setup x w w' → (h' : History Entry) → IsWorkTurn g h h' c w'
    continues_turns w w' turns me controllers Begins = turns
    continues_turns w w' turns me controllers (Tells {mid} on told) = λ h' t tr.
        continues_turns w mid turns me controllers on h'
        (subst₂ (λ (s : VrState) (ls : List (core.Letter Entry)). Moved h h' c (member_state_of s) s.promise s.life ls) told.vr (same_letters c mid w' told) t) tr
    continues_turns w w' turns me controllers (Proposes {mid} entry on lead may room) =
        let k = continues_longer kinds setup x w mid on in
        proposal_turns mid (continues_turns w mid turns me controllers on) (k.me ∙ me) (k.controllers ∙ controllers) entry lead (proposal_fits kinds setup x mid.state entry may room)

    -- a step of the member alone
    stepped_turns : (a : ControllerState) (step : VrStep) → ((h' : History Entry) → IsMemberTurn g h h' c step) → (h' : History Entry) → IsWorkTurn g h h' c (stepped a step)
    stepped_turns a step turns h' t tr = turns h' (subst (λ (ls : List (core.Letter Entry)). Moved h h' c (member_state_of step.state) step.state.promise step.state.life ls) (letters_members c step.letters) t) tr

    -- the step of an input: a message of a member that was posted, a suspicion, or a tick
    step_turns : (s : VrState) (at : IsMemberAt g h c s) (y : ControllerInput) → ((from : ℕ) (m : VrMessage) → y ≡ controller_input.Vr from m → IsIn (abstract_letter from c (message_of m)) h.sent)
        → (h' : History Entry) → IsMemberTurn g h h' c (vr_step s (member_input y))
    step_turns s at (controller_input.Vr from m) sent = λ h'. messages_law g h h' c from s m (logs_law most_failures) o i b at (sent from m refl)
    step_turns s at (controller_input.Local (local.Suspect view)) sent = λ h'. suspicions_law g h h' c s view (logs_law most_failures) o i b at
    step_turns s at (controller_input.Local what) sent = λ h'. ticks_law g h h' c s (logs_law most_failures) i b at
    step_turns s at (controller_input.Of switch xid m) sent = λ h'. ticks_law g h h' c s (logs_law most_failures) i b at
    step_turns s at (controller_input.Malformed from) sent = λ h'. ticks_law g h h' c s (logs_law most_failures) i b at

    pub work_turns : (s : VrState) (w : Work) → IsMemberAt g h c s → ((from : ℕ) (m : VrMessage) → x ≡ controller_input.Vr from m → IsIn (abstract_letter from c (message_of m)) h.sent) → IsWorkOf kinds setup s x w
        → (h' : History Entry) → IsWorkTurn g h h' c w
    work_turns s w at sent (Rests a same on) =
        let of = member_of g c s at.member in
        continues_turns (resting a) w
        (λ h' t tr. goes_quiet (logs_law most_failures) i b at.stands of (subst (λ (z : VrState). Moved h h' c (member_state_of z) z.promise z.life []) same t) tr)
        (ap (λ (z : VrState). z.me) same ∙ of.me) (ap (λ (z : VrState). z.controllers) same ∙ of.controllers) on
    work_turns s w at sent (Steps a on) =
        let of = member_of g c s at.member in
        let step : VrStep = vr_step s (member_input x) in
        let k = step_keeps s (member_input x) in
        continues_turns (stepped a step) w (stepped_turns a step (step_turns s at x sent)) (k.me ∙ of.me) (k.controllers ∙ of.controllers) on
    work_turns s w at sent (Crashes asked) = λ h'. falls_law g h h' c s s.promise s.life (logs_law most_failures) i b at (le_refl s.promise) (le_refl s.life)
    work_turns s w at sent (Restarts asked off) = stepped_turns (fresh s) (restarted s.me s.controllers s.promise (s.life + 1)) (λ h'. restarts_law g h h' c s (logs_law most_failures) i b at off)
