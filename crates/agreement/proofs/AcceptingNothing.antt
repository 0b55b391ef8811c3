-- Quiet moves: after one each controller has accepted what it had, and each view has the log that it had.
use Rattle.std.proofs.Common.{◌≡◌, ◌≢◌, ℕ, ◌<◌, ◌≤◌, ◌⊎◌, inl, inr, true, leb, Some, List, [], length, refl, sym, ap, ◌∙◌, subst, arith}
use Rattle.std.proofs.lemmas.Bool.{cases_eq, both_ways}
use Rattle.agreement.specs.Lists.{IsAtMost}
use Rattle.list_facts.proofs.Prefixes.{prefix_refl}
use Rattle.list_facts.specs.Lists.{IsIn, IsPrefix}
use Rattle.agreement.specs.History.{Group, size, primary_in, Status, Normal, ViewChange, Recovering, Down, Supplied, RecoveryResponse, Letter, Response, State, History, abstract_letter}
use Rattle.agreement.specs.Quorums.{is_prepare_ok, has_accepted, IsLogOf}
use Rattle.agreement.specs.Invariant.{is_up_status, IsBallot, IsGoodSupply, IsGoodState, IsGoodLetter, Invariant}
use Rattle.agreement.specs.Moves.{Moved, LogsStay, AcknowledgeNothing, AreFrom}
use Rattle.agreement.proofs.Frame.{Step, Fresh, same_life, accepted_own, accepted_posted, log_of_more, ballot_more, supply_more, accepted_more, invariant_kept, acknowledged_same, step_of, fresh_unless}

recovering_or_not : (s : Status) → (s ≡ Recovering) ⊎ (s ≢ Recovering)
recovering_or_not Normal = inr (λ e. cc)
recovering_or_not ViewChange = inr (λ e. cc)
recovering_or_not Recovering = inl refl
recovering_or_not Down = inr (λ e. cc)

-- what a quiet move owes of its state, over the history before
pub record Owed {E : Type 0} (g : Group E) (h : History E) (c : ℕ) (s : State E) (p l : ℕ) : Type 0 where
  pub normal : s.status ≡ Normal → (s.normal ≡ s.view) × (s.view ≡ p)
  pub changing : s.status ≡ ViewChange → (s.normal < s.view) × (s.view ≡ p)
  pub blank : s.status ≡ Recovering → (s.log ≡ []) × (s.commit ≡ 0)
  pub covers : is_up_status s.status ≡ true → (v m : ℕ) → 1 ≤ m → has_accepted g h v m c ≡ true → IsAtMost v m s.normal (length s.log)
  pub of_view : is_up_status s.status ≡ true → IsLogOf g h s.normal s.log s.commit
  pub counted : s.status ≡ Normal → c ≡ primary_in g s.view → (i m : ℕ) → i ≢ c → 1 ≤ m → m ≤ s.acked i → has_accepted g h s.view m i ≡ true
  pub ballot : s.status ≡ ViewChange → c ≡ primary_in g s.view → IsBallot g h s.view s.collected
  pub supplied : s.status ≡ ViewChange → (x : Supplied E) → s.supply ≡ Some x → (x.first ≤ s.commit) × IsGoodSupply g h x.first x.rest
  pub heard : s.status ≡ Recovering → (r : Response E) → IsIn r s.responses → (r.from ≢ c) × IsIn (abstract_letter r.from c (RecoveryResponse r.view l r.answer)) h.sent

module _ {E : Type 0} (g : Group E) {h h' : History E} {c : ℕ} {s : State E} {p l : ℕ} {new : List (Letter E)} (t : Moved h h' c s p l new) (q : LogsStay h h') (silent : AcknowledgeNothing new) where
  pub same_accepted : (v m j : ℕ) → has_accepted g h' v m j ≡ has_accepted g h v m j
  same_accepted v m j = elim (cases_eq j (primary_in g v)) [
    | inl e ↦ accepted_own g h' v m j e ∙ ap (λ (x : List E). leb m (length x)) (q.same v) ∙ sym (accepted_own g h v m j e)
    | inr e ↦ accepted_posted g h' v m j e ∙ acknowledged_same h.sent h'.sent new j v m t.sent_more t.sent_split (λ x k is ok. both_ways (is_prepare_ok x.message v m) (silent x k v m) ok) ∙ sym (accepted_posted g h v m j e)
  ]

  pub quiet_step : AreFrom c new → h.promise c ≤ p → h.life c ≤ l → Step g h h' c new
  quiet_step from' up older =
      step_of g t up older from' (λ v. subst (λ (x : List E). IsPrefix (h.logs v) x) (sym (q.same v)) (prefix_refl (h.logs v))) (λ v ne. q.same v)
      (λ v m a b. absurd (both_ways (has_accepted g h v m c) b (sym (same_accepted v m c) ∙ a)))

  quiet_state : AreFrom c new → h.promise c ≤ p → h.life c ≤ l → IsGoodState g h c (h.state c) → Owed g h c s p l → IsGoodState g h' c s
  quiet_state from' up older r o =
      let st = quiet_step from' up older in
      let back : (v m : ℕ) → has_accepted g h' v m c ≡ true → has_accepted g h v m c ≡ true = λ v m a. sym (same_accepted v m c) ∙ a in
      let po = t.promise_own in
      record {
        normal = λ e. let x = o.normal e in (x.0, x.1 ∙ sym po);
        changing = λ e. let x = o.changing e in (x.0, x.1 ∙ sym po);
        blank = o.blank;
        promised = λ v m a b. let x = r.promised v m a (back v m b) in omega arith;
        held = λ v m a b. let x = r.held v m a (back v m b) in omega (arith, ap length (q.same v));
        covers = λ u v m a b. o.covers u v m a (back v m b);
        of_view = λ u. log_of_more st (o.of_view u);
        counted = λ e z i m a b d. accepted_more st s.view m i (o.counted e z i m a b d);
        ballot = λ e z. ballot_more st (o.ballot e z);
        supplied = λ e x i. let z = o.supplied e x i in (z.0, supply_more st z.1);
        heard = λ e x i. let z = o.heard e x i in (z.0, t.sent_more _ (subst (λ (y : ℕ). IsIn (abstract_letter x.from c (RecoveryResponse x.view y x.answer)) h.sent) (sym t.life_own) z.1));
      }

  -- a quiet move keeps the invariant
  pub quiet_kept : Invariant g h → c < size g → AreFrom c new → h.promise c ≤ p → h.life c ≤ l → Fresh g h h' c → ((x : Letter E) → IsIn x new → IsGoodLetter g h' x) → Owed g h c s p l → Invariant g h'
  quiet_kept i b from' up older f letters o =
      invariant_kept (quiet_step from' up older) i f
      (λ b'. subst (λ (x : State E). IsGoodState g h' c x) (sym t.state_own) (quiet_state from' up older (i.states c b) o))
      letters (λ v. inl (q.same v))

  -- responses to the mover stay fresh
  pub fresh_still : s.status ≡ (h.state c).status → l ≡ h.life c → Fresh g h h' c
  fresh_still e z = elim (recovering_or_not (h.state c).status) [
    | inl r ↦ same_life r (t.life_own ∙ z) (λ v m. same_accepted v m c)
    | inr ne ↦ fresh_unless t (λ r. ne (sym e ∙ r))
  ]
