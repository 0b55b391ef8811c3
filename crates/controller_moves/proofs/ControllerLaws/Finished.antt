-- An event that is proposed as processed is finished, and what is proposed may follow.
use Rattle.std.proofs.Common.{inl, inr, ◌⊎◌, ◌≡◌, ℕ, Bool, true, false, not, ◌&&◌, List, [], ◌∷◌, length, filter, refl, sym, ap, subst, ◌∙◌, arith}
use Rattle.std.specs.Prelude.{nat_eq, nat_le, if◌then◌else◌}
use Rattle.std.specs.List.{list_any}
use Rattle.std.proofs.lemmas.Bool.{eqb-true, ltb-true, leb-true, and_parts, or_cases}
use Rattle.of_types.specs.declared.setup.Setup.{Setup}
use Rattle.of_types.specs.Lives.{has_ended}
use Rattle.vr_log.specs.declared.entry.Entry.{Entry}
use Rattle.vr_log.specs.Log.{received, processed, may_follow}
use Rattle.two_stage_log.specs.Counts.{has_unprocessed}
use Rattle.app_core.specs.declared.issued.Issued.{Issued}
use Rattle.app_core.specs.Issued.{commands_of}
use Rattle.dispatcher.specs.Marks.{has_result, is_wanted, wanted, is_finished}
use Rattle.group_controller.specs.declared.messages.ControllerInput.{ControllerInput}
use Rattle.group_controller.specs.State.{ControllerState, committed}
use Rattle.group_controller.specs.Settling.{is_settled}
use Rattle.group_controller.proofs.Finishing.{settled_follows}
use Rattle.list_facts.proofs.Prefixes.{front_prefix}
use Rattle.list_facts.specs.Lists.{IsIn}
use Rattle.controller_moves.specs.ControllerLaws.Moves.{IsProposed, Receives, Processes}
use Rattle.controller_moves.specs.ControllerLaws.Entries.{IsConsistent}
use Rattle.controller_moves.specs.ControllerLaws.Events.{IsEndedBy}
use Rattle.controller_moves.specs.ControllerLaws.Finished.{IsFinished}
use Rattle.controller_moves.proofs.ControllerLaws.Logs.{processed_prefix, ended_by}

-- a mark of a result
any_among : (acked : List (ℕ × ℕ × ℕ)) (s l i : ℕ) → list_any (λ (a : ℕ × ℕ × ℕ). nat_eq a.0 s && nat_eq a.1 l && nat_eq a.2 i) acked ≡ true → IsIn (s, l, i) acked
any_among [] s l i h = absurd cc
any_among (a ∷ acked) s l i h =
    elim (or_cases (nat_eq a.0 s && nat_eq a.1 l && nat_eq a.2 i) _ h) [
      | inl here ↦
          let p = and_parts (nat_eq a.0 s && nat_eq a.1 l) (nat_eq a.2 i) here in
          let q = and_parts (nat_eq a.0 s) (nat_eq a.1 l) p.0 in
          let e0 : a.0 ≡ s = eqb-true a.0 s q.0 in
          let e1 : a.1 ≡ l = eqb-true a.1 l q.1 in
          let e2 : a.2 ≡ i = eqb-true a.2 i p.1 in
          inl (ap (λ (k : ℕ). (k, l, i)) (sym e0) ∙ (ap (λ (k : ℕ). (a.0, k, i)) (sym e1) ∙ ap (λ (k : ℕ). (a.0, a.1, k)) (sym e2)))
      | inr there ↦ inr (any_among acked s l i there)
    ]

-- one element more, of a list in which none passes
none_choice : {A : Type 0} (b : Bool) (y x : A) (xs zs : List A) (p : A → Bool) → p y ≡ b → length (if b then y ∷ zs else zs) ≡ 0 → (length zs ≡ 0 → IsIn x xs → p x ≡ false) → (x ≡ y) ⊎ IsIn x xs → p x ≡ false
none_choice false y x xs zs p is none rest (inl e) = ap (λ z. p z) e ∙ is
none_choice false y x xs zs p is none rest (inr h) = rest none h
none_choice true y x xs zs p is none rest h = absurd (omega arith)

-- where no element passes a test
none_left : {A : Type 0} (p : A → Bool) (xs : List A) (x : A) → length (filter p xs) ≡ 0 → IsIn x xs → p x ≡ false
none_left p [] x none h = absurd h
none_left p (y ∷ xs) x none h = none_choice (p y) y x xs (filter p xs) p refl none (λ k m. none_left p xs x k m) h

module _ (kinds : List ℕ) (setup : Setup) where
  -- where an event may be told as processed, each of its commands of a life that goes on is marked
  pub finished_marks : (c : ControllerState) → is_settled kinds setup c ≡ true → (n : Issued) → IsIn n (commands_of kinds setup (received (committed c)) (processed (committed c))) →
      has_ended n.switch n.life (received (committed c)) ≡ false → IsIn (n.switch, n.life, n.number) c.marks.acked
  finished_marks c ready n k goes_on =
      let a = and_parts (is_finished kinds setup (committed c) c.marks) (nat_le (processed c.vr.log) (processed (committed c))) ready in
      let b = and_parts (has_unprocessed (committed c)) (nat_eq (length (wanted kinds setup (committed c) c.marks)) 0) a.0 in
      let free = none_left (is_wanted (committed c) c.marks) (commands_of kinds setup (received (committed c)) (processed (committed c))) n (eqb-true (length (wanted kinds setup (committed c) c.marks)) 0 b.1) k in
      any_among c.marks.acked n.switch n.life n.number (is_marked (has_result c.marks n.switch n.life n.number) (has_ended n.switch n.life (received (committed c))) free goes_on)
    where
      is_marked : (r e : Bool) → (not r && not e) ≡ false → e ≡ false → r ≡ true
      is_marked true e h off = refl
      is_marked false true h off = absurd cc
      is_marked false false h off = absurd cc

  -- the guard of an event that is told as processed
  pub settled_finished : (c : ControllerState) → IsConsistent c.vr → is_settled kinds setup c ≡ true → IsFinished kinds setup c
  settled_finished c kept ready =
      let a = and_parts (is_finished kinds setup (committed c) c.marks) (nat_le (processed c.vr.log) (processed (committed c))) ready in
      let b = and_parts (has_unprocessed (committed c)) (nat_eq (length (wanted kinds setup (committed c) c.marks)) 0) a.0 in
      let least = processed_prefix (front_prefix c.vr.commit c.vr.log) in
      let most = leb-true (processed c.vr.log) (processed (committed c)) a.1 in
      record {
        there = ltb-true (processed (committed c)) (length (received (committed c))) b.0;
        next = omega (arith, least, most);
        all = λ s l. by_life s l (has_ended s l (received (committed c))) refl;
      }
    where
      by_life : (s l : ℕ) (b : Bool) → has_ended s l (received (committed c)) ≡ b →
          IsEndedBy s l (received (committed c)) ⊎ ((n : Issued) → IsIn n (commands_of kinds setup (received (committed c)) (processed (committed c))) → n.switch ≡ s → n.life ≡ l → IsIn (s, l, n.number) c.marks.acked)
      by_life s l true ended = inl (ended_by s l (received (committed c)) ended)
      by_life s l false on =
          inr (λ n k of_switch of_life.
          let goes_on : has_ended n.switch n.life (received (committed c)) ≡ false = ap (λ (a : ℕ). has_ended a n.life (received (committed c))) of_switch ∙ ap (λ (a : ℕ). has_ended s a (received (committed c))) of_life ∙ on in
          subst (λ (a : ℕ). IsIn (s, a, n.number) c.marks.acked) of_life (subst (λ (a : ℕ). IsIn (a, n.life, n.number) c.marks.acked) of_switch (finished_marks c ready n k goes_on)))

  -- a proposal may follow
  pub proposal_follows : (x : ControllerInput) (c : ControllerState) (entry : Entry) → IsProposed kinds setup x c entry → may_follow c.vr.log entry ≡ true
  proposal_follows x c entry (Receives s xid life number what asks may is) = subst (λ (e : Entry). may_follow c.vr.log e ≡ true) (sym is) may
  proposal_follows x c entry (Processes ready is) =
      subst (λ (e : Entry). may_follow c.vr.log e ≡ true) (sym is) (settled_follows kinds setup c (processed (committed c)) refl ready)
