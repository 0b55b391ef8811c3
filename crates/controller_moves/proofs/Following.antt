-- Controllers follow the rules of agreement.
use Rattle.std.proofs.Common.{◌≡◌, ℕ, ◌<◌, ◌≤◌, true, nat_eq, ◌&&◌, Option, Some, None, List, length, refl, sym, ap, ◌∙◌, subst, arith, le_refl}
use Rattle.std.specs.Prelude.{option_map, slice_index_or, ⊤}
use Rattle.std.proofs.lemmas.Bool.{and_from, eq-eqb, false≢true}
use Rattle.std.proofs.lemmas.List.{length-replicate}
use Rattle.of_types.specs.declared.setup.Setup.{Setup}
use Rattle.journal.specs.declared.journal.SaveResult.{SaveResult}
use Rattle.journal.specs.declared.journal.SaveResult.TheVariants.{Saved, KeptOld, KeptNew}
use Rattle.list_facts.proofs.Prefixes.{prefix_refl, prefix_trans}
use Rattle.list_facts.specs.Lists.{IsIn, IsPrefix}
use Rattle.agreement.specs.History as core
use Rattle.agreement.specs.History.{Group, size, Message, Answer, State, History, abstract_letter}
use Rattle.agreement.specs.Invariant.{is_up_status, Invariant}
use Rattle.agreement.specs.Moves.{Moved}
use Rattle.agreement.specs.Turns.{Turn}
use Rattle.agreement.specs.Journals as journal
use Rattle.agreement.specs.Journals.{Input, Comes, Tracks, GoesOn}
use Rattle.agreement.proofs.Consequences.{up_view}
use Rattle.agreement.proofs.Walks.{good_at}
use Rattle.vr_log.specs.declared.entry.Entry.{Entry}
use Rattle.vr_log.specs.declared.message.VrMessage.{VrMessage}
use Rattle.vr_log.specs.declared.state.Status.{Status}
use Rattle.vr_log.specs.declared.state.VrState.{VrState}
use Rattle.vr_log.specs.Members as member
use Rattle.vr_log.specs.Steps.{VrStep}
use Rattle.vr_log.specs.Valid.{starting_state, down_state}
use Rattle.vr_core.specs.Step.{vr_step}
use Rattle.controller_moves.specs.MemberMoves.Laws.{IsMemberAt}
use Rattle.controller_moves.specs.MemberMoves.Projection.{group_of, message_of, answer_of, member_state_of, member_status_of, is_member}
use Rattle.controller_moves.proofs.MemberMoves.Alone.{step_on}
use Rattle.controller_moves.proofs.MemberMoves.Changing.{fallen_like}
use Rattle.controller_moves.proofs.MemberMoves.Checking.{zeros}
use Rattle.controller_moves.proofs.MemberMoves.Keeping.{PromiseRises, step_keeps}
use Rattle.controller_moves.proofs.MemberMoves.Logs.{logs_law}
use Rattle.controller_moves.proofs.MemberMoves.Members.{IsMemberOf, member_of, up_of}
use Rattle.controller_moves.proofs.MemberMoves.Turns.{falls_law}
use Rattle.group_controller.specs.declared.messages.ControllerInput.{ControllerInput}
use Rattle.group_controller.specs.declared.messages.ControllerInput.TheVariants as controller_input
use Rattle.group_controller.specs.State.{Work, resting, stepped}
use Rattle.group_controller.specs.Rules.{controller_work}
use Rattle.controller_moves.specs.ControllerLaws.Moves.{member_input}
use Rattle.controller_moves.specs.Projection.{OwnInput, Happens, FromSwitch, Unread, filled_of, vr_message_of, input_of, letters_to_members}
use Rattle.controller_moves.specs.Rules.{SavingController, saved, done}
use Rattle.controller_moves.specs.Works.{Continues, IsWorkOf, Rests, Steps, Crashes, Restarts}
use Rattle.controller_moves.specs.Laws.{ControllersFollow}
use Rattle.controller_moves.proofs.Works.{works_law}
use Rattle.controller_moves.proofs.Turns.{IsWorkTurn, continues_longer, work_turns}

same_answer : (a : Answer Entry) → answer_of (filled_of a) ≡ a
same_answer core.Bare = refl
same_answer (core.Filled commit log) = refl

-- a message of the moves is the one that the code has, and back
pub same_message : (x : Message Entry) → message_of (vr_message_of x) ≡ x
same_message (core.Prepare view op commit entry) = refl
same_message (core.PrepareOk view op) = refl
same_message (core.Commit view commit) = refl
same_message (core.StartViewChange view) = refl
same_message (core.DoViewChange view normal commit log) = refl
same_message (core.StartView view first commit log) = refl
same_message (core.GetState view op) = refl
same_message (core.NewState view first commit log) = refl
same_message (core.Fetch view op) = refl
same_message (core.Supply view first log) = refl
same_message (core.Recovery nonce promise) = refl
same_message (core.RecoveryResponse view nonce answer) = ap (λ (a : Answer Entry). core.RecoveryResponse view nonce a) (same_answer answer)

-- the state is that of member c
is_of : (g : Group Entry) (c : ℕ) (s : VrState) → IsMemberOf g c s → is_member g c s ≡ true
is_of g c s of =
    and_from (nat_eq s.me c) (nat_eq s.controllers (size g) && nat_eq (length s.acked) (size g)) (eq-eqb s.me c of.me)
    (and_from (nat_eq s.controllers (size g)) (nat_eq (length s.acked) (size g)) (eq-eqb s.controllers (size g) of.controllers) (eq-eqb (length s.acked) (size g) of.acked))

down_of : (g : Group Entry) (c : ℕ) (s : VrState) (promise life : ℕ) → IsMemberOf g c s → IsMemberOf g c (down_state s.me s.controllers promise life)
down_of g c s promise life of = record { me = of.me; controllers = of.controllers; acked = length-replicate s.controllers 0 ∙ of.controllers }

-- the pair that is to be saved is not below the stable one
abbrev PairRises : VrState → Option (ℕ × ℕ) → Type 0
PairRises s None = ⊤
PairRises s (Some pair) = (s.promise ≤ pair.0) × (s.life ≤ pair.1)

pair_rises : (s : VrState) (life : ℕ) (promise : Option ℕ) → life ≡ s.life → PromiseRises s promise → PairRises s (option_map (λ p. (p, life)) promise)
pair_rises s life None same up = tt
pair_rises s life (Some promise) same up = (up, omega arith)

-- what each work keeps
record KeepsMember (g : Group Entry) (c : ℕ) (s : VrState) (w : Work) : Type 0 where
  pub of : IsMemberOf g c w.state.vr
  pub rises : (member.is_up s ≡ true → s.promise ≤ s.view) → PairRises s w.save

module _ (kinds : List ℕ) (setup : Setup) (x : ControllerInput) {g : Group Entry} {c : ℕ} {s : VrState} (of : IsMemberOf g c s) where
  continues_keeps : (w w' : Work) → IsMemberOf g c w.state.vr → ((member.is_up s ≡ true → s.promise ≤ s.view) → PairRises s w.save) → Continues kinds setup x w w' → KeepsMember g c s w'
  continues_keeps w w' is up on = let k = continues_longer kinds setup x w w' on in record {
    of = record { me = k.me ∙ is.me; controllers = k.controllers ∙ is.controllers; acked = ap length k.acked ∙ is.acked };
    rises = λ u. subst (λ (z : Option (ℕ × ℕ)). PairRises s z) (sym k.save) (up u);
  }

  work_keeps : (w : Work) → IsWorkOf kinds setup s x w → KeepsMember g c s w
  work_keeps w (Rests a same on) = continues_keeps (resting a) w (subst (λ (z : VrState). IsMemberOf g c z) (sym same) of) (λ u. tt) on
  work_keeps w (Steps a on) =
      let step : VrStep = vr_step s (member_input x) in
      let k = step_keeps s (member_input x) in
      continues_keeps (stepped a step) w (record { me = k.me ∙ of.me; controllers = k.controllers ∙ of.controllers; acked = k.acked (of.acked ∙ sym of.controllers) ∙ of.controllers })
      (λ u. pair_rises s step.state.life step.promise k.life (k.rises u)) on
  work_keeps w (Crashes asked) = record { of = down_of g c s s.promise s.life of; rises = λ u. tt }
  work_keeps w (Restarts asked off) = record { of = record { me = of.me; controllers = of.controllers; acked = length-replicate s.controllers 0 ∙ of.controllers }; rises = λ u. (le_refl s.promise, omega arith) }

  -- in a group of one the log only goes on
  abbrev WorkGoesOn : Work → Type 0
  WorkGoesOn w = is_up_status (member_state_of w.state.vr).status ≡ true → GoesOn (member_state_of s) (member_state_of w.state.vr)

  continues_on : (w w' : Work) → WorkGoesOn w → Continues kinds setup x w w' → WorkGoesOn w'
  continues_on w w' goes on u =
      let k = continues_longer kinds setup x w w' on in
      let z = goes (ap (λ (y : Status). is_up_status (member_status_of y)) (sym k.status) ∙ u) in
      record { up = z.up; longer = prefix_trans z.longer k.log }

  work_on : g.most_failures ≡ 0 → c < size g → (w : Work) → IsWorkOf kinds setup s x w → WorkGoesOn w
  work_on o b w (Rests a same on) =
      continues_on (resting a) w (λ u. record { up = ap (λ (z : VrState). is_up_status (member_status_of z.status)) (sym same) ∙ u; longer = subst (λ (z : VrState). IsPrefix s.log z.log) (sym same) (prefix_refl s.log) }) on
  work_on o b w (Steps a on) = continues_on (stepped a (vr_step s (member_input x))) w (step_on of o b (member_input x)) on
  work_on o b w (Crashes asked) = λ u. absurd (false≢true u)
  work_on o b w (Restarts asked off) = λ u. absurd (false≢true u)

-- what becomes of the save
module _ (results : List SaveResult) (a : SavingController) (w : Work) where
  done_member : (g : Group Entry) (c : ℕ) → IsMemberOf g c a.state.vr → IsMemberOf g c w.state.vr → (save : Option (ℕ × ℕ)) → IsMemberOf g c (done results a w save).0.state.vr
  done_member g c of is None = is
  done_member g c of is (Some pair) = by_result (slice_index_or results a.saves Saved)
    where
      by_result : (result : SaveResult) → IsMemberOf g c (saved a w pair result).0.state.vr
      by_result Saved = is
      by_result KeptOld = down_of g c a.state.vr a.state.vr.promise a.state.vr.life of
      by_result KeptNew = down_of g c a.state.vr pair.0 pair.1 of

  abbrev OutGoesOn : SavingController → Type 0
  OutGoesOn z = is_up_status (member_state_of z.state.vr).status ≡ true → GoesOn (member_state_of a.state.vr) (member_state_of z.state.vr)

  done_on : (is_up_status (member_state_of w.state.vr).status ≡ true → GoesOn (member_state_of a.state.vr) (member_state_of w.state.vr)) → (save : Option (ℕ × ℕ)) → OutGoesOn (done results a w save).0
  done_on on None = on
  done_on on (Some pair) = by_result (slice_index_or results a.saves Saved)
    where
      by_result : (result : SaveResult) → OutGoesOn (saved a w pair result).0
      by_result Saved = on
      by_result KeptOld = λ u. absurd (false≢true u)
      by_result KeptNew = λ u. absurd (false≢true u)

module _ {most_failures : ℕ} {h h' : History Entry} {c : ℕ} (i : Invariant (group_of most_failures) h) (b : c < size (group_of most_failures)) (results : List SaveResult) (a : SavingController)
    (at : IsMemberAt (group_of most_failures) h c a.state.vr) (w : Work) where
  done_turns : IsWorkTurn (group_of most_failures) h h' c w → (save : Option (ℕ × ℕ)) → PairRises a.state.vr save
      → (let out = done results a w save in Moved h h' c (member_state_of out.0.state.vr) out.0.state.vr.promise out.0.state.vr.life (letters_to_members c out.1) → Tracks (group_of most_failures) h h' c → Turn (group_of most_failures) c h h')
  done_turns turns None up = turns
  done_turns turns (Some pair) up = by_result (slice_index_or results a.saves Saved)
    where
      by_result : (result : SaveResult)
          → (let out = saved a w pair result in Moved h h' c (member_state_of out.0.state.vr) out.0.state.vr.promise out.0.state.vr.life (letters_to_members c out.1) → Tracks (group_of most_failures) h h' c → Turn (group_of most_failures) c h h')
      by_result Saved = turns
      by_result KeptOld = falls_law (group_of most_failures) h h' c a.state.vr a.state.vr.promise a.state.vr.life (logs_law most_failures) i b at (le_refl a.state.vr.promise) (le_refl a.state.vr.life)
      by_result KeptNew = falls_law (group_of most_failures) h h' c a.state.vr pair.0 pair.1 (logs_law most_failures) i b at up.0 up.1

-- a message that is heard was sent
heard_sent : (h : History Entry) (c : ℕ) (x : Input OwnInput Entry) → Comes c x h.sent → (from : ℕ) (m : VrMessage) → input_of x ≡ controller_input.Vr from m → IsIn (abstract_letter from c (message_of m)) h.sent
heard_sent h c (journal.Local (Happens what)) come from m e = absurd cc
heard_sent h c (journal.Local (FromSwitch switch xid said)) come from m e = absurd cc
heard_sent h c (journal.Local (Unread sender)) come from m e = absurd cc
heard_sent h c (journal.Heard l) come from m e =
    let sender : l.sender ≡ from = cc in
    let what : vr_message_of l.message ≡ m = cc in
    let same : message_of m ≡ l.message = ap (λ (z : VrMessage). message_of z) (sym what) ∙ same_message l.message in
    subst (λ (z : Message Entry). IsIn (abstract_letter from c z) h.sent) (sym same)
    (subst (λ (z : ℕ). IsIn (abstract_letter z c l.message) h.sent) sender (subst (λ (z : ℕ). IsIn (abstract_letter l.sender z l.message) h.sent) come.0 come.1))

pub follow_law : ControllersFollow
follow_law kinds setup most_failures results = record {
  group = logs_law most_failures;
  starts = record { status = λ c. refl; view = λ c. refl; normal = λ c. refl; log = λ c. refl; commit = λ c. refl; acked = λ c j. zeros (size (group_of most_failures)) j; promise = λ c. refl; sent = refl; logs = λ w. refl };
  turns = λ o h h' c a x i b valid stands come.
      let g : Group Entry = group_of most_failures in
      let s : VrState = a.state.vr in
      let y : ControllerInput = input_of x in
      let at : IsMemberAt g h c s = record { stands = stands; member = valid } in
      let w : Work = controller_work kinds setup a.state y in
      let is = works_law kinds setup a.state y in
      let kept = work_keeps kinds setup y (member_of g c s valid) w is in
      done_turns {h' = h'} i b (results c) a at w (work_turns o i b kinds setup y s w at (heard_sent h c x come) is h') w.save
      (kept.rises (λ u. let z = up_view (good_at i b stands) (up_of s.status u) in omega (arith, z.0, stands.promise_is)));
  alone = λ o c a x b valid.
      let y : ControllerInput = input_of x in
      let w : Work = controller_work kinds setup a.state y in
      done_on (results c) a w (work_on kinds setup y (member_of (group_of most_failures) c a.state.vr valid) o b w (works_law kinds setup a.state y)) w.save;
  starts_valid = λ c b. is_of (group_of most_failures) c (starting_state c (size (group_of most_failures))) (record { me = refl; controllers = refl; acked = length-replicate (size (group_of most_failures)) 0 });
  turns_valid = λ c a x b valid.
      let g : Group Entry = group_of most_failures in
      let y : ControllerInput = input_of x in
      let of = member_of g c a.state.vr valid in
      let w : Work = controller_work kinds setup a.state y in
      is_of g c (done (results c) a w w.save).0.state.vr (done_member (results c) a w g c of (work_keeps kinds setup y of w (works_law kinds setup a.state y)).of w.save);
  refuses_valid = λ c a b valid.
      let g : Group Entry = group_of most_failures in
      is_of g c (down_state a.state.vr.me a.state.vr.controllers a.state.vr.promise a.state.vr.life) (down_of g c a.state.vr a.state.vr.promise a.state.vr.life (member_of g c a.state.vr valid));
  refuses = λ c a. (fallen_like (member_state_of a.state.vr) (member_state_of (down_state a.state.vr.me a.state.vr.controllers a.state.vr.promise a.state.vr.life)) refl, refl, refl);
}
