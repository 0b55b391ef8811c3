-- Histories that a move makes, and how moves go one after another.
use Rattle.std.proofs.Common.{◌≡◌, ℕ, inl, inr, cond, eqb, List, ◌++◌, refl, sym, ◌∙◌, subst}
use Rattle.std.proofs.lemmas.Bool.{eq-eqb, ne_eqb, cond-true, cond-false}
use Rattle.list_facts.proofs.Elements.{in_append, in_left, in_right}
use Rattle.list_facts.specs.Lists.{IsIn}
use Rattle.agreement.specs.History.{Group, Letter, State, History}
use Rattle.agreement.specs.Moves.{Moved, LogsStay, LogBecomes, Resembles, MoveOf, Move, Notes}

-- a history after a move of c
abbrev pub after : {E : Type 0} → History E → ℕ → State E → ℕ → ℕ → List (Letter E) → History E
after h c s promise life new =
    record {
      state = λ j. cond (eqb j c) s (h.state j);
      promise = λ j. cond (eqb j c) promise (h.promise j);
      life = λ j. cond (eqb j c) life (h.life j);
      sent = new ++ h.sent;
      logs = h.logs;
    }

-- the same, where the log of view w changes
abbrev pub after_growth : {E : Type 0} → History E → ℕ → State E → ℕ → ℕ → List (Letter E) → ℕ → List E → History E
after_growth h c s promise life new w log = record (after h c s promise life new) { logs = λ v. cond (eqb v w) log (h.logs v) }

module _ {E : Type 0} (h : History E) (c : ℕ) (s : State E) (promise life : ℕ) (new : List (Letter E)) where
  pub moved_after : Moved h (after h c s promise life new) c s promise life new
  moved_after = record {
    state_own = cond-true (eqb c c) _ _ (eq-eqb c c refl);
    promise_own = cond-true (eqb c c) _ _ (eq-eqb c c refl);
    life_own = cond-true (eqb c c) _ _ (eq-eqb c c refl);
    state_other = λ j ne. cond-false (eqb j c) _ _ (ne_eqb j c ne);
    promise_other = λ j ne. cond-false (eqb j c) _ _ (ne_eqb j c ne);
    life_other = λ j ne. cond-false (eqb j c) _ _ (ne_eqb j c ne);
    sent_more = λ l i. in_right l new h.sent i;
    sent_new = λ l i. in_left l new h.sent i;
    sent_split = λ l i. in_append l new h.sent i;
  }

  pub quiet_after : LogsStay h (after h c s promise life new)
  quiet_after = record { same = λ v. refl }

  pub moved_growth : (w : ℕ) (log : List E) → Moved h (after_growth h c s promise life new w log) c s promise life new
  moved_growth w log = record {
    state_own = cond-true (eqb c c) _ _ (eq-eqb c c refl);
    promise_own = cond-true (eqb c c) _ _ (eq-eqb c c refl);
    life_own = cond-true (eqb c c) _ _ (eq-eqb c c refl);
    state_other = λ j ne. cond-false (eqb j c) _ _ (ne_eqb j c ne);
    promise_other = λ j ne. cond-false (eqb j c) _ _ (ne_eqb j c ne);
    life_other = λ j ne. cond-false (eqb j c) _ _ (ne_eqb j c ne);
    sent_more = λ l i. in_right l new h.sent i;
    sent_new = λ l i. in_left l new h.sent i;
    sent_split = λ l i. in_append l new h.sent i;
  }

  pub grown_growth : (w : ℕ) (log : List E) → LogBecomes h (after_growth h c s promise life new w log) w log
  grown_growth w log = record {
    here = cond-true (eqb w w) _ _ (eq-eqb w w refl);
    others = λ v ne. cond-false (eqb v w) _ _ (ne_eqb v w ne);
  }

-- two moves after one another
pub moved_trans : {E : Type 0} {h h1 h2 : History E} {c : ℕ} {s1 s2 : State E} {p1 p2 l1 l2 : ℕ} {new1 new2 : List (Letter E)}
    → Moved h h1 c s1 p1 l1 new1 → Moved h1 h2 c s2 p2 l2 new2 → Moved h h2 c s2 p2 l2 (new2 ++ new1)
moved_trans {new1 = new1} {new2 = new2} a b = record {
  state_own = b.state_own;
  promise_own = b.promise_own;
  life_own = b.life_own;
  state_other = λ j ne. b.state_other j ne ∙ a.state_other j ne;
  promise_other = λ j ne. b.promise_other j ne ∙ a.promise_other j ne;
  life_other = λ j ne. b.life_other j ne ∙ a.life_other j ne;
  sent_more = λ l i. b.sent_more l (a.sent_more l i);
  sent_new = λ l i. elim (in_append l new2 new1 i) [ inl k ↦ b.sent_new l k | inr k ↦ b.sent_more l (a.sent_new l k) ];
  sent_split = λ l i. elim (b.sent_split l i) [
    | inl k ↦ inl (in_left l new2 new1 k)
    | inr k ↦ elim (a.sent_split l k) [ inl j ↦ inl (in_right l new2 new1 j) | inr j ↦ inr j ]
  ];
}

module _ {E : Type 0} {g : Group E} {h h' : History E} {c : ℕ} {s : State E} {p l : ℕ} where
  -- a move from a state and a pair that are known
  pub known_move : h.state c ≡ s → h.promise c ≡ p → h.life c ≡ l → MoveOf g h h' c s p l → Move g h h' c
  known_move a b d m =
      subst (λ (x : State E). MoveOf g h h' c x (h.promise c) (h.life c)) (sym a)
      (subst (λ (y : ℕ). MoveOf g h h' c s y (h.life c)) (sym b) (subst (λ (z : ℕ). MoveOf g h h' c s p z) (sym d) m))

  -- a move behind another
  pub behind : {h0 : History E} {new : List (Letter E)} → Moved h0 h c s p l new → MoveOf g h h' c s p l → Move g h h' c
  behind t m = known_move t.state_own t.promise_own t.life_own m

-- of two histories that one move gives, the second follows the first by a note
pub same_but_notes : {E : Type 0} {g : Group E} {h h1 h2 : History E} {c : ℕ} {s s' : State E} {p l : ℕ} {new new' : List (Letter E)}
    → Moved h h1 c s p l new → Moved h h2 c s' p l new' → Resembles s s' → ((x : Letter E) → IsIn x new → IsIn x new') → ((x : Letter E) → IsIn x new' → IsIn x new) → ((v : ℕ) → h2.logs v ≡ h1.logs v) → Move g h1 h2 c
same_but_notes {E = E} {g = g} {h = h} {h1 = h1} {h2 = h2} {c = c} {s = s} {s' = s'} {p = p} {l = l} {new = new} {new' = new'} a b same f k logs =
    behind a (Notes s' same record {
      state_own = b.state_own;
      promise_own = b.promise_own;
      life_own = b.life_own;
      state_other = λ j ne. b.state_other j ne ∙ sym (a.state_other j ne);
      promise_other = λ j ne. b.promise_other j ne ∙ sym (a.promise_other j ne);
      life_other = λ j ne. b.life_other j ne ∙ sym (a.life_other j ne);
      sent_more = λ x i. elim (a.sent_split x i) [ inl j ↦ b.sent_new x (f x j) | inr j ↦ b.sent_more x j ];
      sent_new = λ x i. absurd i;
      sent_split = λ x i. elim (b.sent_split x i) [ inl j ↦ inr (a.sent_new x (k x j)) | inr j ↦ inr (a.sent_more x j) ];
    } record { same = logs })
