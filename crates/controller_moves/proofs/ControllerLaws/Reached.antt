-- What every state in the midst of a turn of a controller has, by the moves that led there.
use Rattle.std.proofs.Common.{inl, inr, ◌⊎◌, ◌≡◌, ◌≤◌, ℕ, ◌+◌, Bool, true, false, List, [], ◌∷◌, ◌++◌, length, take, refl, sym, ap, subst, ◌∙◌, arith, append-nil, length-append}
use Rattle.std.specs.Prelude.{nat_eq, Option, if◌then◌else◌}
use Rattle.std.proofs.lemmas.Bool.{cond_both, and_parts}
use Rattle.of_types.specs.declared.setup.Setup.{Setup}
use Rattle.journal.specs.declared.journal.Letter.{Letter}
use Rattle.journal.specs.declared.journal.Local.TheVariants as local
use Rattle.vr_log.specs.declared.entry.Entry.{Entry}
use Rattle.vr_log.specs.declared.message.VrLetter.{VrLetter}
use Rattle.vr_log.specs.declared.message.VrMessage.TheVariants as message
use Rattle.vr_log.specs.declared.state.VrState.{VrState}
use Rattle.vr_log.specs.Log.{is_past_limits}
use Rattle.vr_log.specs.Members.{is_normal, is_primary, leads, most_failures, others}
use Rattle.vr_log.specs.Steps.{letter, to_others}
use Rattle.dispatcher.specs.Marks.{Marks, has_result, is_pending, with_mark, with_marked_result}
use Rattle.group_controller.specs.declared.messages.ControllerInput.{ControllerInput}
use Rattle.group_controller.specs.declared.messages.ControllerInput.TheVariants as controller_input
use Rattle.group_controller.specs.declared.messages.ControllerSays.{ControllerSays}
use Rattle.group_controller.specs.State.{ControllerState, Work, committed, down, resting, leaving, to_member, to_members}
use Rattle.group_controller.specs.Settling.{with_proposal}
use Rattle.group_controller.specs.Rules.{is_down, controller_work}
use Rattle.vr_log.proofs.Logs.{IsLog_is, IsLog_push}
use Rattle.list_facts.proofs.Elements.{in_append, in_map}
use Rattle.list_facts.proofs.Prefixes.{prefix_refl, prefix_trans, take_prefixes}
use Rattle.list_facts.specs.Lists.{IsIn, IsPrefix}
use Rattle.controller_moves.specs.ControllerLaws.Moves.{member_input, IsSaid, Prepares, ControllerMove, Steps, Says, Saves, Begins, Proposes, Results, Notes, IsProposed, Chain, Start, Then}
use Rattle.controller_moves.specs.ControllerLaws.Entries.{IsConsistent}
use Rattle.controller_moves.specs.ControllerLaws.Turns.{beginning, IsSaidWithin, HoldsMark, Stood, Came, IsReached}
use Rattle.controller_moves.proofs.ControllerLaws.MemberLogs.{move_lasts, normal_not_changing}
use Rattle.controller_moves.proofs.ControllerLaws.ControllerTurns.{turn_keeps}
use Rattle.controller_moves.proofs.ControllerLaws.Finished.{proposal_follows}

-- the commit number behind a proposal
pub commit_choice : (b : Bool) (n k : ℕ) → k ≤ n → (k ≤ (if b then n + 1 else k)) × ((if b then n + 1 else k) ≤ n + 1)
commit_choice true n k h = (omega arith, omega arith)
commit_choice false n k h = (omega arith, omega arith)

module _ (kinds : List ℕ) (setup : Setup) (x : ControllerInput) (c : ControllerState) where
  -- the letters, of a state whose committed log goes on
  said_on : (w w' : Work) (l : Letter ControllerSays) → IsPrefix (committed w.state) (committed w'.state) → IsSaidWithin kinds setup x c w.state l → IsSaidWithin kinds setup x c w'.state l
  said_on w w' l more h = record { mid = h.mid; chain = h.chain; consistent = h.consistent; grows = prefix_trans h.grows more; said = h.said }

  goes_on : (w w' : Work) → IsReached kinds setup x c w → ControllerMove kinds setup x w w' → IsConsistent w'.state.vr → IsPrefix (committed w.state) (committed w'.state) → w'.state.vr.me ≡ w.state.vr.me →
      w'.state.vr.controllers ≡ w.state.vr.controllers → ((s l i : ℕ) → IsIn (s, l, i) w'.state.marks.acked → HoldsMark x c s l i) → (more : List (Letter ControllerSays)) → w'.letters ≡ w.letters ++ more →
      ((l : Letter ControllerSays) → IsIn l more → IsSaid kinds setup x w.state l) → IsReached kinds setup x c w'
  goes_on w w' r move kept grows me controllers marks more letters says =
      record {
        chain = Then w w' r.chain move;
        consistent = kept;
        grows = prefix_trans r.grows grows;
        me = me ∙ r.me;
        controllers = controllers ∙ r.controllers;
        marks = marks;
        said = λ l k. elim (in_append l w.letters more (subst (λ (ls : List (Letter ControllerSays)). IsIn l ls) letters k)) [
          | inl old ↦ said_on w w' l grows (r.said l old)
          | inr new ↦ record { mid = w; chain = r.chain; consistent = r.consistent; grows = grows; said = says l new }
        ];
      }

  -- the member stays
  notes_on : (w : Work) (s : ControllerState) (save : Option (ℕ × ℕ)) (more : List (Letter ControllerSays)) → s.vr ≡ w.state.vr → IsReached kinds setup x c w →
      ControllerMove kinds setup x w (record { state = s; save = save; letters = w.letters ++ more }) → ((s' l i : ℕ) → IsIn (s', l, i) s.marks.acked → HoldsMark x c s' l i) →
      ((l : Letter ControllerSays) → IsIn l more → IsSaid kinds setup x w.state l) → IsReached kinds setup x c (record { state = s; save = save; letters = w.letters ++ more })
  notes_on w s save more same r move marks says =
      goes_on w (record { state = s; save = save; letters = w.letters ++ more }) r move (subst (λ (v : VrState). IsConsistent v) (sym same) r.consistent)
      (subst (λ (v : VrState). IsPrefix (committed w.state) (take v.commit v.log)) (sym same) (prefix_refl (committed w.state)))
      (ap (λ (v : VrState). v.me) same) (ap (λ (v : VrState). v.controllers) same) marks more refl says

  quietly : (w : Work) (s : ControllerState) (save : Option (ℕ × ℕ)) → s.vr ≡ w.state.vr → IsReached kinds setup x c w → ControllerMove kinds setup x w (record { state = s; save = save; letters = w.letters }) →
      ((s' l i : ℕ) → IsIn (s', l, i) s.marks.acked → HoldsMark x c s' l i) → IsReached kinds setup x c (record { state = s; save = save; letters = w.letters })
  quietly w s save same r move marks =
      goes_on w (record { state = s; save = save; letters = w.letters }) r move (subst (λ (v : VrState). IsConsistent v) (sym same) r.consistent)
      (subst (λ (v : VrState). IsPrefix (committed w.state) (take v.commit v.log)) (sym same) (prefix_refl (committed w.state)))
      (ap (λ (v : VrState). v.me) same) (ap (λ (v : VrState). v.controllers) same) marks [] (sym (append-nil w.letters)) (λ l k. absurd k)

  -- a result that counts is marked
  result_marked : (log : List Entry) (m : Marks) (s l i s' l' i' : ℕ) → (IsIn (s', l', i') m.acked → HoldsMark x c s' l' i') → HoldsMark x c s l i →
      IsIn (s', l', i') (with_marked_result kinds setup log m s l i).acked → HoldsMark x c s' l' i'
  result_marked log m s l i s' l' i' old new =
      cond_both (is_pending kinds setup log s l i) (with_mark m s l i) m (λ (n : Marks). IsIn (s', l', i') n.acked → HoldsMark x c s' l' i')
      (λ _. cond_both (has_result m s l i) m (record m { acked = m.acked ++ (s, l, i) ∷ [] }) (λ (n : Marks). IsIn (s', l', i') n.acked → HoldsMark x c s' l' i')
      (λ _. old)
      (λ _ k. elim (in_append (s', l', i') m.acked ((s, l, i) ∷ []) k) [
        | inl a ↦ old a
        | inr b ↦ elim b [
          | inl e ↦ subst (λ (t : ℕ × ℕ × ℕ). HoldsMark x c t.0 t.1 t.2) (sym e) new
          | inr none ↦ absurd none
        ]
      ]))
      (λ _. old)

  -- an entry that is proposed
  proposes_on : (w : Work) (entry : Entry) → IsReached kinds setup x c w → leads w.state.vr ≡ true → IsProposed kinds setup x w.state entry → is_past_limits w.state.vr.log entry ≡ false →
      ControllerMove kinds setup x w (with_proposal w entry) → IsReached kinds setup x c (with_proposal w entry)
  proposes_on w entry r lead proposed room move =
      let s = w.state.vr in
      let within = r.consistent.commit in
      let choice = commit_choice (nat_eq (most_failures s) 0) (length s.log) s.commit within in
      let size = length-append s.log (entry ∷ []) in
      let high = choice.1 in
      goes_on w (with_proposal w entry) r move
      (record {
        follow = (IsLog_push s.log entry (IsLog_is s.log r.consistent.follow) (rw (room, proposal_follows kinds setup x w.state entry proposed) refl)).follow;
        commit = omega (arith, high, size);
        supply = λ p e. let a = r.consistent.supply p e in let b = choice.0 in omega (arith, a, b);
        own = λ changing. absurd (normal_not_changing s (and_parts (is_normal s) (is_primary s) lead).0 changing);
      })
      (take_prefixes s.commit _ s.log (entry ∷ []) choice.0) refl refl r.marks (to_members (to_others s (message.Prepare s.view (length s.log + 1) s.commit entry))) refl
      (λ l k.
      let a = in_map to_member (to_others s (message.Prepare s.view (length s.log + 1) s.commit entry)) l k in
      let b = in_map (letter (message.Prepare s.view (length s.log + 1) s.commit entry)) (others s) a.0 a.1 in
      Prepares b.0 entry lead proposed (a.2 ∙ ap (λ (m : VrLetter). to_member m) b.2))

  pub move_reaches : (w w' : Work) → ControllerMove kinds setup x w w' → IsReached kinds setup x c w → IsReached kinds setup x c w'
  move_reaches w w' (Steps s move is) r =
      let lasts = move_lasts (member_input x) w.state.vr r.consistent s move in
      subst (λ (v : Work). IsReached kinds setup x c v) (sym is)
      (goes_on w (leaving w (record w.state { vr = s })) r (Steps s move refl) lasts.consistent lasts.grows lasts.me lasts.controllers r.marks [] (sym (append-nil w.letters)) (λ l k. absurd k))
  move_reaches w w' (Says ls all is) r =
      subst (λ (v : Work). IsReached kinds setup x c v) (sym is) (notes_on w w.state w.save ls refl r (Says ls all refl) r.marks all)
  move_reaches w w' (Saves save is) r =
      subst (λ (v : Work). IsReached kinds setup x c v) (sym is) (quietly w w.state save refl r (Saves save refl) r.marks)
  move_reaches w w' (Begins lead is) r =
      subst (λ (v : Work). IsReached kinds setup x c v) (sym is) (quietly w _ w.save refl r (Begins lead refl) (λ s l i k. absurd k))
  move_reaches w w' (Proposes entry lead proposed room is) r =
      subst (λ (v : Work). IsReached kinds setup x c v) (sym is) (proposes_on w entry r lead proposed room (Proposes entry lead proposed room refl))
  move_reaches w w' (Results s xid life number outcome asks lead waits is) r =
      subst (λ (v : Work). IsReached kinds setup x c v) (sym is)
      (quietly w _ w.save refl r (Results s xid life number outcome asks lead waits refl)
      (λ s' l' i' k. result_marked (committed w.state) w.state.marks s life number s' l' i' (r.marks s' l' i') (Came xid outcome asks) k))
  move_reaches w w' (Notes confirmed told full is) r =
      subst (λ (v : Work). IsReached kinds setup x c v) (sym is) (quietly w _ w.save refl r (Notes confirmed told full refl) r.marks)

  -- what is committed stays
  pub move_grows : (w w' : Work) → ControllerMove kinds setup x w w' → IsConsistent w.state.vr → IsPrefix (committed w.state) (committed w'.state)
  move_grows w w' (Steps s move is) kept = subst (λ (v : Work). IsPrefix (committed w.state) (committed v.state)) (sym is) (move_lasts (member_input x) w.state.vr kept s move).grows
  move_grows w w' (Says ls all is) kept = subst (λ (v : Work). IsPrefix (committed w.state) (committed v.state)) (sym is) (prefix_refl (committed w.state))
  move_grows w w' (Saves save is) kept = subst (λ (v : Work). IsPrefix (committed w.state) (committed v.state)) (sym is) (prefix_refl (committed w.state))
  move_grows w w' (Begins lead is) kept = subst (λ (v : Work). IsPrefix (committed w.state) (committed v.state)) (sym is) (prefix_refl (committed w.state))
  move_grows w w' (Proposes entry lead proposed room is) kept =
      subst (λ (v : Work). IsPrefix (committed w.state) (committed v.state)) (sym is)
      (take_prefixes w.state.vr.commit _ w.state.vr.log (entry ∷ []) (commit_choice (nat_eq (most_failures w.state.vr) 0) (length w.state.vr.log) w.state.vr.commit kept.commit).0)
  move_grows w w' (Results s xid life number outcome asks lead waits is) kept = subst (λ (v : Work). IsPrefix (committed w.state) (committed v.state)) (sym is) (prefix_refl (committed w.state))
  move_grows w w' (Notes confirmed told full is) kept = subst (λ (v : Work). IsPrefix (committed w.state) (committed v.state)) (sym is) (prefix_refl (committed w.state))

  begins : IsConsistent c.vr → IsReached kinds setup x c (beginning c)
  begins kept = record { chain = Start; consistent = kept; grows = prefix_refl (committed c); me = refl; controllers = refl; marks = λ s l i k. Stood k; said = λ l k. absurd k }

  pub chain_reaches : IsConsistent c.vr → (w : Work) → Chain kinds setup x (beginning c) w → IsReached kinds setup x c w
  chain_reaches kept w Start = begins kept
  chain_reaches kept w (Then v v' chain move) = move_reaches v w move (chain_reaches kept v chain)

  -- a turn of a controller that is not down is a chain of moves, or a crash
  crash_or : (y : ControllerInput) → (y ≡ controller_input.Local local.Crash) ⊎ (y ≡ controller_input.Local local.Crash → ⊥)
  crash_or (controller_input.Local local.Crash) = inl refl
  crash_or (controller_input.Local (local.Frame port bytes)) = inr (λ h. absurd cc)
  crash_or (controller_input.Local (local.Port port up)) = inr (λ h. absurd cc)
  crash_or (controller_input.Local local.Tick) = inr (λ h. absurd cc)
  crash_or (controller_input.Local (local.Suspect view)) = inr (λ h. absurd cc)
  crash_or (controller_input.Local local.Restart) = inr (λ h. absurd cc)
  crash_or (controller_input.Of s xid m) = inr (λ h. absurd cc)
  crash_or (controller_input.Malformed from) = inr (λ h. absurd cc)
  crash_or (controller_input.Vr from m) = inr (λ h. absurd cc)

  crashes : is_down c ≡ false → controller_work kinds setup c (controller_input.Local local.Crash) ≡ resting (down c c.vr.promise c.vr.life)
  unfolding controller_work
  crashes up = rw up refl

  pub turn_chain : is_down c ≡ false → Chain kinds setup x (beginning c) (controller_work kinds setup c x) ⊎ ((x ≡ controller_input.Local local.Crash) × (controller_work kinds setup c x ≡ resting (down c c.vr.promise c.vr.life)))
  turn_chain up =
      elim (crash_or x) [
        | inl crash ↦ inr (crash, ap (λ (y : ControllerInput). controller_work kinds setup c y) crash ∙ crashes up)
        | inr other ↦ inl (turn_keeps kinds setup x (λ w. Chain kinds setup x (beginning c) w) (λ w w' move chain. Then w w' chain move) c up Start (λ crash. absurd (other crash)))
      ]
