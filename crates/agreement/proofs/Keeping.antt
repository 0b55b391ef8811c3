-- Every move keeps the invariant, and what was certified stays so.
use Rattle.std.proofs.Common.{◌≡◌, ◌≢◌, ℕ, ◌+◌, ◌<◌, ◌≤◌, inl, inr, true, List, [], ◌∷◌, ◌++◌, length, refl, sym, ap, ◌∙◌, subst, arith, length-append}
use Rattle.std.proofs.lemmas.Bool.{cases_eq}
use Rattle.agreement.specs.Lists.{IsAtMost}
use Rattle.list_facts.proofs.Prefixes.{prefix_append, prefix_nil, prefix_refl}
use Rattle.list_facts.specs.Lists.{IsIn, IsPrefix}
use Rattle.agreement.specs.History.{Group, size, primary_in, Normal, ViewChange, Vote, Message, Prepare, PrepareOk, Recovery, Letter, State, History, abstract_letter}
use Rattle.agreement.specs.Quorums.{is_prepare_ok, IsSafe, IsLogOf}
use Rattle.agreement.specs.Invariant.{is_up_status, IsGoodVote, IsGoodState, IsGoodMessage, IsGoodLetter, IsGoodView, Invariant, IsGroup}
use Rattle.agreement.specs.Moves.{Moved, LogsStay, LogBecomes, AcknowledgeNothing, AreFrom, started, appended_to_history, risen, Move, Enters, Collects, Stocks, Starts, Adopts, Appends, Commits, Acknowledges, Counts, Proposes, Keeps, Recovers, Falls, Rises, Speaks, Notes, IsBest}
use Rattle.agreement.proofs.Quorums.{safe_longer, best_is_safe, best_has_room}
use Rattle.agreement.proofs.Frame.{Step, Fresh, new_life, log_of_more, safe_more, committed_more, accepted_more, message_more, invariant_kept, fresh_unless}
use Rattle.agreement.proofs.Consequences.{not_begun, own_log, up_view, own_of_view}
use Rattle.agreement.proofs.AcceptingNothing.{Owed, quiet_step, quiet_kept, fresh_still}
use Rattle.agreement.proofs.OwedStates.{no_letters, no_letters_from, owed_enter, owed_collect, owed_stock, owed_adopt, owed_append, owed_commit, owed_count, owed_keep, owed_recover, owed_fall, owed_rise, owed_same, owed_note}
use Rattle.agreement.proofs.AcceptingMore.{Louder, loud_state, ack_new, ack_step, grown_new, grown_step}

pub record Kept {E : Type 0} (g : Group E) (h h' : History E) (c : ℕ) : Type 0 where
  pub new : List (Letter E)
  pub step : Step g h h' c new
  pub inv : Invariant g h'

module _ {E : Type 0} {g : Group E} {h h' : History E} {c : ℕ} where
  -- a quiet move without letters
  without_letters : {s : State E} {p l : ℕ} → Moved h h' c s p l [] → LogsStay h h' → Invariant g h → c < size g → h.promise c ≤ p → h.life c ≤ l → Fresh g h h' c → Owed g h c s p l → Kept g h h' c
  without_letters t q i b up older f o = record {
    new = [];
    step = quiet_step g t q no_letters (no_letters_from c) up older;
    inv = quiet_kept g t q no_letters i b (no_letters_from c) up older f (λ x j. absurd j) o;
  }

  -- a quiet move that leaves the pair
  with_same_pair : {s : State E} → Moved h h' c s (h.promise c) (h.life c) [] → LogsStay h h' → Invariant g h → c < size g → s.status ≡ (h.state c).status → Owed g h c s (h.promise c) (h.life c) → Kept g h h' c
  with_same_pair t q i b e o = without_letters t q i b (omega arith) (omega arith) (fresh_still g t q no_letters e refl) o

  start_keeps : IsGroup g → (star most : Vote E) (good : IsGoodVote g h star.from (h.state c).view star.normal star.commit star.rest) → (h.state c).status ≡ ViewChange → c ≡ primary_in g (h.state c).view → g.most_failures < length (h.state c).collected
      → IsBest (h.state c).collected star → IsIn most (h.state c).collected
      → Moved h h' c (started (h.state c) good.whole most.commit) (h.promise c) (h.life c) [] → LogBecomes h h' (h.state c).view good.whole → Invariant g h → c < size g → Kept g h h' c
  start_keeps gr star most good n is many best in'' t q i b =
      let log : List E = good.whole in
      let r = i.states c b in
      let w : ℕ = (h.state c).view in
      let before : h.logs w ≡ [] = not_begun r n is in
      let at = r.changing n in
      let votes = r.ballot n is in
      let safe = best_is_safe star good votes many best in
      let fits = best_has_room star good votes many best most in'' in
      let step : Step g h h' c [] = grown_step g t q no_letters (no_letters_from c) is (subst (λ (x : List E). IsPrefix x log) (sym before) (prefix_nil log)) (omega arith) (omega arith) at.1 in
      let of_view : IsLogOf g h' w log most.commit = record {
        front = subst (λ (x : List E). IsPrefix log x) (sym q.here) (prefix_refl log);
        within = fits.0;
        safe = safe_more step safe;
        committed = committed_more step fits.2;
      } in
      let louder : Louder g h h' c (started (h.state c) log most.commit) = record {
        is_normal = refl;
        normal = refl;
        promised = at.1 ∙ sym t.promise_own;
        newly = grown_new g t q no_letters is;
        covers = λ v m o a. let x : IsAtMost v m (h.state c).normal (length (h.state c).log) = r.covers (ap is_up_status n) v m o a in inl (omega (arith, at.0));
        of_view = of_view;
        counted = λ e z m ne o l. absurd (omega arith);
      } in
      record {
        new = [];
        step = step;
        inv = invariant_kept step i (fresh_unless t (λ e. absurd cc))
            (λ b'. subst (λ (x : State E). IsGoodState g h' c x) (sym t.state_own) (loud_state step r louder))
            (λ x j. absurd j)
            (λ v. elim (cases_eq v w) [
              | inr z ↦ inl (q.others v z)
              | inl z ↦ inr (subst (λ (y : ℕ). IsGoodView g h' y) (sym z) record {
                valid = ap g.is_log q.here ∙ gr.closed log (h.logs star.normal) good.vote.of_view.front (i.views star.normal).valid;
                safe = inr (subst (λ (x : List E). IsSafe g h' w x) (sym q.here) of_view.safe);
              })
            ]);
      }

  propose_keeps : (e : E) (new : List (Letter E)) → (h.state c).status ≡ Normal → c ≡ primary_in g (h.state c).view → g.is_log ((h.state c).log ++ e ∷ []) ≡ true
      → ((l : Letter E) → IsIn l new → (l.sender ≡ c) × (l.message ≡ Prepare (h.state c).view (length (h.state c).log + 1) (h.state c).commit e))
      → Moved h h' c (appended_to_history (h.state c) ((h.state c).log ++ e ∷ [])) (h.promise c) (h.life c) new → LogBecomes h h' (h.state c).view ((h.state c).log ++ e ∷ []) → Invariant g h → c < size g → Kept g h h' c
  propose_keeps e new n is valid letters t q i b =
      let r = i.states c b in
      let w : ℕ = (h.state c).view in
      let old : List E = (h.state c).log in
      let log : List E = old ++ e ∷ [] in
      let at = r.normal n in
      let long : length log ≡ length old + 1 = length-append old (e ∷ []) in
      let now : h.logs w ≡ old = own_log r n is in
      let own : IsLogOf g h w old (h.state c).commit = own_of_view r n in
      let k = own.within in
      let from' : AreFrom c new = λ l j. (letters l j).0 in
      let no : AcknowledgeNothing new = λ l j v m. ap (λ (x : Message E). is_prepare_ok x v m) (letters l j).1 in
      let step : Step g h h' c new = grown_step g t q no from' is (subst (λ (x : List E). IsPrefix x log) (sym now) (prefix_append old (e ∷ []))) (omega arith) (omega arith) at.1 in
      let front : IsPrefix log (h'.logs w) = subst (λ (x : List E). IsPrefix log x) (sym q.here) (prefix_refl log) in
      let of_view : IsLogOf g h' w log (h.state c).commit = record {
        front = front;
        within = omega arith;
        safe = safe_more step (safe_longer own.safe (prefix_append old (e ∷ [])));
        committed = committed_more step own.committed;
      } in
      let louder : Louder g h h' c (appended_to_history (h.state c) log) = record {
        is_normal = n;
        normal = at.0;
        promised = at.1 ∙ sym t.promise_own;
        newly = grown_new g t q no is;
        covers = λ v m o a. elim (r.covers (ap is_up_status n) v m o a) [
          | inl x ↦ inl (omega (arith, at.0))
          | inr x ↦ inr (x.0 ∙ at.0, omega (arith, x.1))
        ];
        of_view = of_view;
        counted = λ z j m ne o l. accepted_more step w m j (r.counted n is j m ne o l);
      } in
      record {
        new = new;
        step = step;
        inv = invariant_kept step i (fresh_unless t (λ z. absurd cc))
            (λ b'. subst (λ (x : State E). IsGoodState g h' c x) (sym t.state_own) (loud_state step r louder))
            (λ l j. subst (λ (x : Message E). IsGoodMessage g h' l.sender l.receiver x) (sym (letters l j).1) record { before = old; at = refl; front = front; committed = committed_more step own.committed })
            (λ v. elim (cases_eq v w) [
              | inr z ↦ inl (q.others v z)
              | inl z ↦ inr (subst (λ (y : ℕ). IsGoodView g h' y) (sym z) record {
                valid = ap g.is_log q.here ∙ valid;
                safe = inr (subst (λ (x : List E). IsSafe g h' w x) (sym q.here) of_view.safe);
              })
            ]);
      }

  ack_keeps : (to : ℕ) → (h.state c).status ≡ Normal → c ≢ primary_in g (h.state c).view
      → Moved h h' c (h.state c) (h.promise c) (h.life c) ((abstract_letter c to (PrepareOk (h.state c).view (length (h.state c).log))) ∷ []) → LogsStay h h' → Invariant g h → c < size g → Kept g h h' c
  ack_keeps to n ne t q i b =
      let r = i.states c b in
      let at = r.normal n in
      let step = ack_step g t q (omega arith) (omega arith) at.1 in
      let own : IsLogOf g h (h.state c).view (h.state c).log (h.state c).commit = own_of_view r n in
      let louder : Louder g h h' c (h.state c) = record {
        is_normal = n;
        normal = at.0;
        promised = at.1 ∙ sym t.promise_own;
        newly = ack_new g t q;
        covers = λ v m o a. subst (λ (y : ℕ). IsAtMost v m y (length (h.state c).log)) at.0 (r.covers (ap is_up_status n) v m o a);
        of_view = log_of_more step own;
        counted = λ z. absurd (ne z);
      } in
      record {
        new = _;
        step = step;
        inv = invariant_kept step i (fresh_unless t (λ z. absurd cc))
            (λ b'. subst (λ (x : State E). IsGoodState g h' c x) (sym t.state_own) (loud_state step r louder))
            (λ l j. elim j [ inl z ↦ subst (λ (x : Letter E). IsGoodLetter g h' x) (sym z) tt | inr k ↦ absurd k ])
            (λ v. inl (q.same v));
      }

  speak_keeps : (new : List (Letter E)) → AreFrom c new → AcknowledgeNothing new → ((l : Letter E) → IsIn l new → IsGoodLetter g h l) → Moved h h' c (h.state c) (h.promise c) (h.life c) new → LogsStay h h' → Invariant g h → c < size g → Kept g h h' c
  speak_keeps new from' unlike good t q i b =
      let step = quiet_step g t q unlike from' (omega arith) (omega arith) in
      let fresh : Fresh g h h' c = fresh_still g t q unlike refl refl in
      record {
        new = new;
        step = step;
        inv = quiet_kept g t q unlike i b from' (omega arith) (omega arith) fresh (λ x j. message_more step x.sender x.receiver x.message fresh (good x j)) (owed_same (i.states c b));
      }

  rise_keeps : (new : List (Letter E)) → ((l : Letter E) → IsIn l new → (l.sender ≡ c) × (l.message ≡ Recovery (h.life c + 1) (h.promise c)))
      → Moved h h' c (risen (h.state c)) (h.promise c) (h.life c + 1) new → LogsStay h h' → Invariant g h → c < size g → Kept g h h' c
  rise_keeps new letters t q i b =
      let from' : AreFrom c new = λ l j. (letters l j).0 in
      let no : AcknowledgeNothing new = λ l j v m. ap (λ (x : Message E). is_prepare_ok x v m) (letters l j).1 in
      record {
        new = new;
        step = quiet_step g t q no from' (omega arith) (omega arith);
        inv = quiet_kept g t q no i b from' (omega arith) (omega arith) (new_life (omega (arith, t.life_own)))
            (λ l j. subst (λ (x : Message E). IsGoodMessage g h' l.sender l.receiver x) (sym (letters l j).1)
            (subst (λ (y : ℕ). h.life c + 1 ≤ h'.life y) (sym (letters l j).0) (omega (arith, t.life_own))))
            (owed_rise g h c (h.state c) (h.promise c) (h.life c + 1));
      }

  -- each of the sixteen moves
  pub move_keeps : IsGroup g → Invariant g h → c < size g → Move g h h' c → Kept g h h' c
  move_keeps gr i b (Enters w up later t q) =
      let r = i.states c b in let at = up_view r up in
      without_letters t q i b (omega (arith, at.0)) (omega arith) (fresh_unless t (λ e. absurd cc)) (owed_enter w (h.life c) r up later)
  move_keeps gr i b (Collects vote n is new named v t q) = with_same_pair t q i b refl (owed_collect vote (i.states c b) n new named v)
  move_keeps gr i b (Starts star most good n is many best in'' t q) = start_keeps gr star most good n is many best in'' t q i b
  move_keeps gr i b (Stocks x n small good t q) = with_same_pair t q i b refl (owed_stock x (i.states c b) n small good)
  move_keeps gr i b (Adopts w k log up ne x later t q) =
      let r = i.states c b in let at = up_view r up in
      let above : h.promise c ≤ w = elim later [ inl z ↦ omega (arith, at.0) | inr z ↦ omega (arith, at.0, z.0) ] in
      without_letters t q i b above (omega arith) (fresh_unless t (λ e. absurd cc)) (owed_adopt w k (h.life c) log r up ne x later)
  move_keeps gr i b (Appends log n ne p x t q) = with_same_pair t q i b refl (owed_append log (i.states c b) n ne p x)
  move_keeps gr i b (Commits k n more fits by t q) = with_same_pair t q i b refl (owed_commit k (i.states c b) n fits by)
  move_keeps gr i b (Acknowledges to n ne t q) = ack_keeps to n ne t q i b
  move_keeps gr i b (Counts j place n is ne a t q) = with_same_pair t q i b refl (owed_count j place (i.states c b) n a)
  move_keeps gr i b (Proposes e new n is valid letters t q) = propose_keeps e new n is valid letters t q i b
  move_keeps gr i b (Keeps x responses n apart at these t q) = with_same_pair t q i b refl (owed_keep x responses (i.states c b) n apart at these)
  move_keeps gr i b (Recovers w k log n above ne x fresh t q) = without_letters t q i b above (omega arith) (fresh_unless t (λ e. absurd cc)) (owed_recover w k (h.life c) log (i.states c b) above ne x fresh)
  move_keeps gr i b (Falls p l up older t q) = without_letters t q i b up older (fresh_unless t (λ e. absurd cc)) (owed_fall g h c (h.state c) p l)
  move_keeps gr i b (Rises new n letters t q) = rise_keeps new letters t q i b
  move_keeps gr i b (Speaks new from' unlike good t q) = speak_keeps new from' unlike good t q i b
  move_keeps gr i b (Notes s' same t q) = with_same_pair t q i b same.status (owed_note s' (i.states c b) same)
