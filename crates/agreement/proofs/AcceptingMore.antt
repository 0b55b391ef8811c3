-- The three moves by which more is accepted: Acknowledges, Starts and Proposes.
use Rattle.std.proofs.Common.{◌≡◌, ◌≢◌, ℕ, ◌≤◌, ◌⊎◌, inl, inr, true, ◌&&◌, eqb, leb, List, [], ◌∷◌, length, sym, ap, ◌∙◌, subst, arith}
use Rattle.std.proofs.lemmas.Bool.{cases_eq, both_ways, and_parts, leb-true, eqb-true}
use Rattle.agreement.specs.Lists.{IsAtMost}
use Rattle.list_facts.proofs.Prefixes.{prefix_length, prefix_refl}
use Rattle.list_facts.specs.Lists.{IsPrefix}
use Rattle.agreement.specs.History.{Group, primary_in, Normal, PrepareOk, Letter, State, History, abstract_letter}
use Rattle.agreement.specs.Quorums.{has_acknowledged, is_prepare_ok, has_accepted, IsLogOf}
use Rattle.agreement.specs.Invariant.{IsGoodState}
use Rattle.agreement.specs.Moves.{Moved, LogsStay, LogBecomes, AcknowledgeNothing, AreFrom}
use Rattle.agreement.proofs.Frame.{Step, accepted_own, accepted_posted, acknowledged_by, acknowledged_from, acknowledged_same, step_of}

-- what such a move owes of its state s, which is normal: what c has accepted now it had accepted, or it stands in the state's log
pub record Louder {E : Type 0} (g : Group E) (h h' : History E) (c : ℕ) (s : State E) : Type 0 where
  pub is_normal : s.status ≡ Normal
  pub normal : s.normal ≡ s.view
  pub promised : s.view ≡ h'.promise c
  pub newly : (v m : ℕ) → has_accepted g h' v m c ≡ true → (has_accepted g h v m c ≡ true) ⊎ ((v ≡ s.view) × (m ≤ length s.log))
  pub covers : (v m : ℕ) → 1 ≤ m → has_accepted g h v m c ≡ true → IsAtMost v m s.view (length s.log)
  pub of_view : IsLogOf g h' s.view s.log s.commit
  pub counted : c ≡ primary_in g s.view → (i m : ℕ) → i ≢ c → 1 ≤ m → m ≤ s.acked i → has_accepted g h' s.view m i ≡ true

module _ {E : Type 0} {g : Group E} {h h' : History E} {c : ℕ} {s : State E} {new : List (Letter E)} (t : Step g h h' c new) where
  pub loud_state : IsGoodState g h c (h.state c) → Louder g h h' c s → IsGoodState g h' c s
  loud_state r o =
      let n = o.is_normal in
      let up = t.promise_up in
      let p = o.promised in
      let len = prefix_length o.of_view.front in
      record {
        normal = λ e. (o.normal, o.promised);
        changing = λ e. absurd cc;
        blank = λ e. absurd cc;
        promised = λ v m a b. elim (o.newly v m b) [
          | inl old ↦ let x = r.promised v m a old in omega arith
          | inr x ↦ omega (arith, x.0)
        ];
        held = λ v m a b. elim (o.newly v m b) [
          | inl old ↦ let x = r.held v m a old in let y = prefix_length (t.logs_longer v) in omega arith
          | inr x ↦ subst (λ (y : ℕ). m ≤ length (h'.logs y)) (sym x.0) (omega (arith, x.1))
        ];
        covers = λ u v m a b. elim (o.newly v m b) [
          | inl old ↦ subst (λ (y : ℕ). IsAtMost v m y (length s.log)) (sym o.normal) (o.covers v m a old)
          | inr x ↦ inr (x.0 ∙ sym o.normal, x.1)
        ];
        of_view = λ u. subst (λ (y : ℕ). IsLogOf g h' y s.log s.commit) (sym o.normal) o.of_view;
        counted = λ e. o.counted;
        ballot = λ e. absurd cc;
        supplied = λ e. absurd cc;
        heard = λ e. absurd cc;
      }

-- an acknowledgement
module _ {E : Type 0} (g : Group E) {h h' : History E} {c : ℕ} {s : State E} {p l to view place : ℕ}
    (t : Moved h h' c s p l (abstract_letter c to (PrepareOk view place) ∷ [])) (q : LogsStay h h') where
  pub ack_new : (v m : ℕ) → has_accepted g h' v m c ≡ true → (has_accepted g h v m c ≡ true) ⊎ ((v ≡ view) × (m ≤ place))
  ack_new v m a = elim (cases_eq c (primary_in g v)) [
    | inl e ↦ inl (accepted_own g h v m c e ∙ ap (λ (x : List E). leb m (length x)) (sym (q.same v)) ∙ sym (accepted_own g h' v m c e) ∙ a)
    | inr e ↦
        let r = acknowledged_by h'.sent c v m (sym (accepted_posted g h' v m c e) ∙ a) in
        elim (t.sent_split r.0 r.1) [
          | inl k ↦ elim k [
            | inl z ↦
                let x : (eqb view v && leb m place) ≡ true = ap (λ (y : Letter E). is_prepare_ok y.message v m) (sym z) ∙ r.3 in
                let y = and_parts (eqb view v) (leb m place) x in
                inr (sym (eqb-true view v y.0), leb-true m place y.1)
            | inr z ↦ absurd z
          ]
          | inr k ↦ inl (accepted_posted g h v m c e ∙ acknowledged_from h.sent c v m r.0 k r.2 r.3)
        ]
  ]

  pub ack_step : h.promise c ≤ p → h.life c ≤ l → view ≡ p → Step g h h' c (abstract_letter c to (PrepareOk view place) ∷ [])
  ack_step up older vp =
      step_of g t up older (λ x i. elim i [ inl e ↦ ap (λ (y : Letter E). y.sender) e | inr k ↦ absurd k ])
      (λ v. subst (λ (x : List E). IsPrefix (h.logs v) x) (sym (q.same v)) (prefix_refl (h.logs v))) (λ v ne. q.same v)
      (λ v m a b. elim (ack_new v m a) [
        | inl x ↦ absurd (both_ways (has_accepted g h v m c) b x)
        | inr x ↦ x.0 ∙ vp ∙ sym t.promise_own
      ])

-- the start of a view, and a proposal
module _ {E : Type 0} (g : Group E) {h h' : History E} {c : ℕ} {s : State E} {p l w : ℕ} {new : List (Letter E)} {log : List E}
    (t : Moved h h' c s p l new) (q : LogBecomes h h' w log) where
  pub grown_new : AcknowledgeNothing new → c ≡ primary_in g w → (v m : ℕ) → has_accepted g h' v m c ≡ true → (has_accepted g h v m c ≡ true) ⊎ ((v ≡ w) × (m ≤ length log))
  grown_new silent is v m a = elim (cases_eq v w) [
    | inl z ↦
        let e : c ≡ primary_in g v = is ∙ ap (primary_in g) (sym z) in
        let b : leb m (length (h'.logs v)) ≡ true = sym (accepted_own g h' v m c e) ∙ a in
        let k = leb-true m (length (h'.logs v)) b in
        let n : length (h'.logs v) ≡ length log = ap length (ap h'.logs z ∙ q.here) in
        inr (z, omega arith)
    | inr z ↦ inl (elim (cases_eq c (primary_in g v)) [
      | inl e ↦ accepted_own g h v m c e ∙ ap (λ (x : List E). leb m (length x)) (sym (q.others v z)) ∙ sym (accepted_own g h' v m c e) ∙ a
      | inr e ↦
          let b : has_acknowledged h'.sent c v m ≡ true = sym (accepted_posted g h' v m c e) ∙ a in
          accepted_posted g h v m c e ∙ sym (acknowledged_same h.sent h'.sent new c v m t.sent_more t.sent_split (λ x k from' ok. both_ways (is_prepare_ok x.message v m) (silent x k v m) ok)) ∙ b
    ])
  ]

  pub grown_step : AcknowledgeNothing new → AreFrom c new → c ≡ primary_in g w → IsPrefix (h.logs w) log → h.promise c ≤ p → h.life c ≤ l → w ≡ p → Step g h h' c new
  grown_step silent from' is longer up older vp =
      step_of g t up older from'
      (λ v. elim (cases_eq v w) [
        | inl z ↦ subst (λ (y : ℕ). IsPrefix (h.logs y) (h'.logs y)) (sym z) (subst (λ (x : List E). IsPrefix (h.logs w) x) (sym q.here) longer)
        | inr z ↦ subst (λ (x : List E). IsPrefix (h.logs v) x) (sym (q.others v z)) (prefix_refl (h.logs v))
      ])
      (λ v ne. q.others v (λ z. ne (ap (primary_in g) z ∙ sym is)))
      (λ v m a b. elim (grown_new silent is v m a) [
        | inl x ↦ absurd (both_ways (has_accepted g h v m c) b x)
        | inr x ↦ x.0 ∙ vp ∙ sym t.promise_own
      ])
