-- Turns, built a move at a time. A walk has made quiet moves alone; a tail may have accepted more.
use Rattle.std.proofs.Common.{◌≡◌, ℕ, ◌<◌, inl, inr, cond, eqb, List, [], ◌++◌, refl, sym, ap, ◌∙◌, subst}
use Rattle.list_facts.specs.Lists.{IsIn}
use Rattle.agreement.specs.History.{Group, size, Letter, State, History}
use Rattle.agreement.specs.Quorums.{IsCommitted}
use Rattle.agreement.specs.Invariant.{IsGoodState, Invariant, IsGroup}
use Rattle.agreement.specs.Moves.{Moved, LogsStay, AcknowledgeNothing, Resembles, MoveOf, Move, StandsAt}
use Rattle.agreement.specs.Turns.{KeepsCommitted, StartsView, FirstMoves, first_none, first_then, last_none, last_then, Turn, plainly, starting}
use Rattle.agreement.proofs.Frame.{committed_more}
use Rattle.agreement.proofs.Keeping.{move_keeps}
use Rattle.agreement.proofs.Turns.{alike_of, same_state, like_state}
use Rattle.agreement.proofs.Chains.{after, after_growth, moved_after, quiet_after, moved_growth, moved_trans, behind, same_but_notes}

pub record Walk {E : Type 0} (g : Group E) (c : ℕ) (h : History E) (s : State E) (p l : ℕ) (new : List (Letter E)) : Type 0 where
  pub at : History E
  pub quietly : FirstMoves g c h at
  pub moved : Moved h at c s p l new
  pub quiet : LogsStay h at
  pub inv : Invariant g at
  pub committed : (v k : ℕ) → IsCommitted g h v k → IsCommitted g at v k

pub record Tail {E : Type 0} (g : Group E) (c : ℕ) (h : History E) (s : State E) (p l : ℕ) (new : List (Letter E)) (logs : ℕ → List E) : Type 0 where
  pub at : History E
  pub turn : Turn g c h at
  pub moved : Moved h at c s p l new
  pub logs_are : (v : ℕ) → at.logs v ≡ logs v
  pub inv : Invariant g at

-- the logs of views, where that of view w changes
abbrev pub with_log : {E : Type 0} → (ℕ → List E) → ℕ → List E → ℕ → List E
with_log logs w log v = cond (eqb v w) log (logs v)

pub turn_then : {E : Type 0} {g : Group E} {c : ℕ} {h h1 h2 : History E} → Turn g c h h1 → Move g h1 h2 c → KeepsCommitted (h1.state c) (h2.state c) → Turn g c h h2
turn_then (plainly h3 q l) m e = plainly h3 q (last_then l m e)
turn_then (starting h3 h4 q n b l) m e = starting h3 h4 q n b (last_then l m e)

-- a controller stands where it stands
abbrev pub at_self : {E : Type 0} (h : History E) (c : ℕ) → StandsAt h c (h.state c) (h.promise c) (h.life c)
at_self h c = record { state_is = refl; promise_is = refl; life_is = refl }

module _ {E : Type 0} {g : Group E} {c : ℕ} {h : History E} {s : State E} {p l : ℕ} where
  pub good_at : Invariant g h → c < size g → StandsAt h c s p l → IsGoodState g h c s
  good_at i b k = subst (λ (x : State E). IsGoodState g h c x) k.state_is (i.states c b)

  abbrev pub walk_at : Invariant g h → StandsAt h c s p l → Walk g c h s p l []
  walk_at i k = record {
    at = h;
    quietly = first_none;
    moved = record {
      state_own = k.state_is;
      promise_own = k.promise_is;
      life_own = k.life_is;
      state_other = λ j ne. refl;
      promise_other = λ j ne. refl;
      life_other = λ j ne. refl;
      sent_more = λ x i. i;
      sent_new = λ x i. absurd i;
      sent_split = λ x i. inr i;
    };
    quiet = record { same = λ v. refl };
    inv = i;
    committed = λ v k x. x;
  }

module _ {E : Type 0} {g : Group E} {c : ℕ} {h : History E} {s : State E} {p l : ℕ} {new : List (Letter E)} (gr : IsGroup g) (b : c < size g) where
  -- one quiet move more
  pub walk_on : (w : Walk g c h s p l new) (s' : State E) (p' l' : ℕ) (new' : List (Letter E)) → AcknowledgeNothing new' → MoveOf g w.at (after w.at c s' p' l' new') c s p l → Walk g c h s' p' l' (new' ++ new)
  walk_on w s' p' l' new' unlike m =
      let t = moved_after w.at c s' p' l' new' in
      let q = quiet_after w.at c s' p' l' new' in
      let move : Move g w.at (after w.at c s' p' l' new') c = behind w.moved m in
      let k = move_keeps gr w.inv b move in
      record {
        at = after w.at c s' p' l' new';
        quietly = first_then w.quietly move (alike_of t q unlike);
        moved = moved_trans w.moved t;
        quiet = record { same = λ v. w.quiet.same v };
        inv = k.inv;
        committed = λ v j x. committed_more k.step (w.committed v j x);
      }

  -- the same letters in another order
  pub walk_same : {new' : List (Letter E)} → Walk g c h s p l new → ((x : Letter E) → IsIn x new → IsIn x new') → ((x : Letter E) → IsIn x new' → IsIn x new) → Walk g c h s p l new'
  walk_same w there back = let t = w.moved in record {
    at = w.at;
    quietly = w.quietly;
    moved = record {
      state_own = t.state_own;
      promise_own = t.promise_own;
      life_own = t.life_own;
      state_other = t.state_other;
      promise_other = t.promise_other;
      life_other = t.life_other;
      sent_more = t.sent_more;
      sent_new = λ x i. t.sent_new x (back x i);
      sent_split = λ x i. elim (t.sent_split x i) [ inl z ↦ inl (there x z) | inr z ↦ inr z ];
    };
    quiet = w.quiet;
    inv = w.inv;
    committed = w.committed;
  }

  -- the state of a walk
  pub walk_good : (w : Walk g c h s p l new) → IsGoodState g w.at c s
  walk_good w = subst (λ (x : State E). IsGoodState g w.at c x) w.moved.state_own (w.inv.states c b)

  pub tail_of : Walk g c h s p l new → Tail g c h s p l new h.logs
  tail_of w = record { at = w.at; turn = plainly w.at w.quietly last_none; moved = w.moved; logs_are = w.quiet.same; inv = w.inv }

  -- the start of view v
  pub tail_start : (w : Walk g c h s p l new) (s' : State E) (p' l' v : ℕ) (log : List E) → MoveOf g w.at (after_growth w.at c s' p' l' [] v log) c s p l → ((h' : History E) → h'.state c ≡ s' → StartsView g w.at h' c)
      → Tail g c h s' p' l' new (with_log h.logs v log)
  tail_start w s' p' l' v log m begins =
      let t = moved_growth w.at c s' p' l' [] v log in
      let h' : History E = after_growth w.at c s' p' l' [] v log in
      let move : Move g w.at h' c = behind w.moved m in
      record {
        at = h';
        turn = starting w.at h' w.quietly move (begins h' t.state_own) last_none;
        moved = moved_trans w.moved t;
        logs_are = λ x. ap (λ (z : List E). cond (eqb x v) log z) (w.quiet.same x);
        inv = (move_keeps gr w.inv b move).inv;
      }

module _ {E : Type 0} {g : Group E} {c : ℕ} {h : History E} {s : State E} {p l : ℕ} {new : List (Letter E)} {logs : ℕ → List E} (gr : IsGroup g) (b : c < size g) where
  pub tail_good : (w : Tail g c h s p l new logs) → IsGoodState g w.at c s
  tail_good w = subst (λ (x : State E). IsGoodState g w.at c x) w.moved.state_own (w.inv.states c b)

  -- a letter or an acknowledgement more
  pub tail_says : (w : Tail g c h s p l new logs) (new' : List (Letter E)) → MoveOf g w.at (after w.at c s p l new') c s p l → Tail g c h s p l (new' ++ new) logs
  tail_says w new' m =
      let t = moved_after w.at c s p l new' in
      let move : Move g w.at (after w.at c s p l new') c = behind w.moved m in
      record {
        at = after w.at c s p l new';
        turn = turn_then w.turn move (same_state (t.state_own ∙ sym w.moved.state_own));
        moved = moved_trans w.moved t;
        logs_are = w.logs_are;
        inv = (move_keeps gr w.inv b move).inv;
      }

  -- a proposal more
  pub tail_grows : (w : Tail g c h s p l new logs) (s' : State E) (new' : List (Letter E)) (v : ℕ) (log : List E) → KeepsCommitted s s' → MoveOf g w.at (after_growth w.at c s' p l new' v log) c s p l
      → Tail g c h s' p l (new' ++ new) (with_log logs v log)
  tail_grows w s' new' v log leaves m =
      let t = moved_growth w.at c s' p l new' v log in
      let h' : History E = after_growth w.at c s' p l new' v log in
      let move : Move g w.at h' c = behind w.moved m in
      record {
        at = h';
        turn = turn_then w.turn move (subst (λ (x : State E). KeepsCommitted x (h'.state c)) (sym w.moved.state_own) (subst (λ (x : State E). KeepsCommitted s x) (sym t.state_own) leaves));
        moved = moved_trans w.moved t;
        logs_are = λ x. ap (λ (z : List E). cond (eqb x v) log z) (w.logs_are x);
        inv = (move_keeps gr w.inv b move).inv;
      }

  -- the turn ends at the history that is given
  pub tail_end : (w : Tail g c h s p l new logs) {h' : History E} {s' : State E} {new' : List (Letter E)} → Moved h h' c s' p l new' → Resembles s s' → ((x : Letter E) → IsIn x new → IsIn x new') → ((x : Letter E) → IsIn x new' → IsIn x new)
      → ((v : ℕ) → h'.logs v ≡ logs v) → Turn g c h h'
  tail_end w {h'} {s'} t alike f k same =
      turn_then w.turn (same_but_notes w.moved t alike f k (λ v. same v ∙ sym (w.logs_are v)))
      (subst (λ (x : State E). KeepsCommitted x (h'.state c)) (sym w.moved.state_own) (subst (λ (x : State E). KeepsCommitted s x) (sym t.state_own) (like_state alike)))

-- a state resembles itself
pub resembles_self : {E : Type 0} (s : State E) → Resembles s s
resembles_self s = record { status = refl; view = λ u. refl; normal = λ u. refl; log = λ d. refl; commit = λ d. refl; acked = λ n i. refl; collected = λ n. refl; supply = λ n. refl; responses = λ n. refl }
