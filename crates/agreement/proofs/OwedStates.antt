-- What each quiet move owes: the state that it leaves is good.
use Rattle.std.proofs.Common.{◌≡◌, ◌≢◌, ℕ, ◌<◌, ◌≤◌, max, ◌⊎◌, inl, inr, true, cond, eqb, leb, List, [], ◌∷◌, ◌++◌, length, map, refl, sym, ap, ◌∙◌, subst, arith}
use Rattle.std.proofs.lemmas.Bool.{cases_lt, cases_eq, and_parts, and_from, leb-true, le-leb, false≢true, ne_eqb, eq-eqb, cond-true, cond-false}
use Rattle.std.proofs.lemmas.List.{map-append}
use Rattle.agreement.specs.Lists.{IsAtMost, AreDistinct}
use Rattle.list_facts.proofs.Elements.{in_append}
use Rattle.list_facts.proofs.Prefixes.{prefix_length}
use Rattle.list_facts.specs.Lists.{IsIn, IsPrefix}
use Rattle.agreement.specs.History.{Group, size, primary_in, Status, Normal, ViewChange, Recovering, Down, Vote, Supplied, Message, PrepareOk, RecoveryResponse, Response, State, History, abstract_letter}
use Rattle.agreement.specs.Quorums.{is_prepare_ok, has_accepted, IsCommitted, IsLogOf}
use Rattle.agreement.specs.Invariant.{is_up_status, IsGoodVote, IsGoodSupply, IsBallot, IsGoodState}
use Rattle.agreement.specs.Moves.{AcknowledgeNothing, AreFrom, entered, collecting, adopted, supplying, appended_to_history, committing, counting, hearing, fallen, risen, Resembles}
use Rattle.agreement.proofs.Quorums.{safe_longer, committed_less, committed_max, committed_has_room}
use Rattle.agreement.proofs.Frame.{accepted_own, accepted_posted, acknowledged_by, acknowledged_from}
use Rattle.agreement.proofs.AcceptingNothing.{Owed}
use Rattle.agreement.proofs.Consequences.{up_view, up_not_down, adopted_above}

prepare_ok_down : {E : Type 0} (x : Message E) (v m n : ℕ) → m ≤ n → is_prepare_ok x v n ≡ true → is_prepare_ok x v m ≡ true
prepare_ok_down (PrepareOk w place) v m n l s = let z = and_parts (eqb w v) (leb n place) s in let k = leb-true n place z.1 in and_from (eqb w v) (leb m place) z.0 (le-leb m place (omega arith))
prepare_ok_down _ v m n l s = absurd (false≢true s)

not_both : (x : Status) → x ≡ Recovering → x ≡ Down → ⊥
not_both x a b = let z : Recovering ≡ Down = sym a ∙ b in cc

-- who has accepted a place has accepted those below it
pub accepted_down : {E : Type 0} (g : Group E) (h : History E) (v m n c : ℕ) → m ≤ n → has_accepted g h v n c ≡ true → has_accepted g h v m c ≡ true
accepted_down g h v m n c l a = elim (cases_eq c (primary_in g v)) [
  | inl e ↦ let k = leb-true n (length (h.logs v)) (sym (accepted_own g h v n c e) ∙ a) in accepted_own g h v m c e ∙ le-leb m (length (h.logs v)) (omega arith)
  | inr e ↦ let r = acknowledged_by h.sent c v n (sym (accepted_posted g h v n c e) ∙ a) in accepted_posted g h v m c e ∙ acknowledged_from h.sent c v m r.0 r.1 r.2 (prepare_ok_down r.0.message v m n l r.3)
]

distinct_push : (xs : List ℕ) (x : ℕ) → AreDistinct xs → ¬ IsIn x xs → AreDistinct (xs ++ x ∷ [])
distinct_push [] x d n = ((λ y i. absurd i), tt)
distinct_push (z ∷ xs) x d n = (
  (λ y i. elim (in_append y xs (x ∷ []) i) [
    | inl j ↦ d.0 y j
    | inr j ↦ elim j [ inl e ↦ (λ q. n (inl (sym (q ∙ e)))) | inr k ↦ absurd k ]
  ]),
  distinct_push xs x d.1 (λ j. n (inr j)),
)

pub no_letters : {E : Type 0} → AcknowledgeNothing {E = E} []
no_letters l i = absurd i

pub no_letters_from : {E : Type 0} (c : ℕ) → AreFrom {E = E} c []
no_letters_from c l i = absurd i

module _ {E : Type 0} {g : Group E} {h : History E} {c : ℕ} {s : State E} where
  pub owed_enter : (w l : ℕ) → IsGoodState g h c s → is_up_status s.status ≡ true → s.view < w → Owed g h c (entered s w) w l
  owed_enter w l r u o =
      let x = up_view r u in
      record {
        normal = λ e. absurd cc;
        changing = λ e. (omega (arith, x.1), refl);
        blank = λ e. absurd cc;
        covers = λ e. r.covers u;
        of_view = λ e. r.of_view u;
        counted = λ e. absurd cc;
        ballot = λ e z. record { distinct = tt; named = λ v i. absurd i; each = λ v i. absurd i };
        supplied = λ e x i. absurd cc;
        heard = λ e. absurd cc;
      }

  pub owed_collect : (vote : Vote E) → IsGoodState g h c s → s.status ≡ ViewChange → (¬ IsIn vote.from (map (λ x. x.from) s.collected)) → vote.from < size g
      → IsGoodVote g h vote.from s.view vote.normal vote.commit vote.rest → Owed g h c (collecting s vote) (h.promise c) (h.life c)
  owed_collect vote r n new' b v = record {
    normal = r.normal;
    changing = r.changing;
    blank = r.blank;
    covers = r.covers;
    of_view = r.of_view;
    counted = r.counted;
    ballot = λ e z. let old = r.ballot e z in record {
      distinct = subst (λ (xs : List ℕ). AreDistinct xs) (sym (map-append (λ (x : Vote E). x.from) s.collected (vote ∷ []))) (distinct_push (map (λ (x : Vote E). x.from) s.collected) vote.from old.distinct new');
      named = λ x i. elim (in_append x s.collected (vote ∷ []) i) [
        | inl j ↦ old.named x j
        | inr j ↦ elim j [ inl q ↦ subst (λ (y : Vote E). y.from < size g) (sym q) b | inr k ↦ absurd k ]
      ];
      each = λ x i. elim (in_append x s.collected (vote ∷ []) i) [
        | inl j ↦ old.each x j
        | inr j ↦ elim j [ inl q ↦ subst (λ (y : Vote E). IsGoodVote g h y.from s.view y.normal y.commit y.rest) (sym q) v | inr k ↦ absurd k ]
      ];
    };
    supplied = r.supplied;
    heard = r.heard;
  }

  pub owed_stock : (x : Supplied E) → IsGoodState g h c s → s.status ≡ ViewChange → x.first ≤ s.commit → IsGoodSupply g h x.first x.rest → Owed g h c (supplying s x) (h.promise c) (h.life c)
  owed_stock x r n small good = record {
    normal = r.normal;
    changing = r.changing;
    blank = λ e. let z : ViewChange ≡ Recovering = sym n ∙ e in absurd cc;
    covers = r.covers;
    of_view = r.of_view;
    counted = r.counted;
    ballot = r.ballot;
    supplied = λ e y i. let same : x ≡ y = cc in subst (λ (z : Supplied E). (z.first ≤ s.commit) × IsGoodSupply g h z.first z.rest) same (small, good);
    heard = r.heard;
  }

  pub owed_adopt : (w k l : ℕ) (log : List E) → IsGoodState g h c s → is_up_status s.status ≡ true → c ≢ primary_in g w → IsLogOf g h w log k → (s.view < w) ⊎ ((s.view ≡ w) × (s.status ≡ ViewChange))
      → Owed g h c (adopted s w log (max s.commit k)) w l
  owed_adopt w k l log r u ne x later =
      let above : s.normal < w = adopted_above r u later in
      let own = r.of_view u in
      let fits = (committed_has_room own.committed above x.safe).0 in
      let n = x.within in
      record {
        normal = λ e. (refl, refl);
        changing = λ e. absurd cc;
        blank = λ e. absurd cc;
        covers = λ e v m o a. let b : IsAtMost v m s.normal (length s.log) = r.covers u v m o a in inl (omega arith);
        of_view = λ e. record { front = x.front; within = omega arith; safe = x.safe; committed = committed_max (committed_less own.committed (omega arith) (omega arith)) x.committed };
        counted = λ e z. absurd (ne z);
        ballot = λ e. absurd cc;
        supplied = λ e. absurd cc;
        heard = λ e. absurd cc;
      }

  pub owed_append : (log : List E) → IsGoodState g h c s → s.status ≡ Normal → c ≢ primary_in g s.view → IsPrefix s.log log → IsPrefix log (h.logs s.view) → Owed g h c (appended_to_history s log) (h.promise c) (h.life c)
  owed_append log r n ne p q =
      let u : is_up_status s.status ≡ true = ap is_up_status n in
      let own = r.of_view u in
      let len = prefix_length p in
      let w = own.within in
      record {
        normal = r.normal;
        changing = r.changing;
        blank = λ e. absurd cc;
        covers = λ e v m o a. elim (r.covers u v m o a) [ inl b ↦ inl b | inr b ↦ inr (b.0, omega (arith, b.1)) ];
        of_view = λ e. record {
          front = subst (λ (v : ℕ). IsPrefix log (h.logs v)) (sym (r.normal n).0) q;
          within = omega arith;
          safe = safe_longer own.safe p;
          committed = own.committed;
        };
        counted = λ e z. absurd (ne z);
        ballot = λ e. absurd cc;
        supplied = r.supplied;
        heard = λ e. absurd cc;
      }

  pub owed_commit : (k : ℕ) → IsGoodState g h c s → s.status ≡ Normal → k ≤ length s.log → IsCommitted g h s.view k → Owed g h c (committing s k) (h.promise c) (h.life c)
  owed_commit k r n fits shown_by =
      let own = r.of_view (ap is_up_status n) in
      record {
        normal = r.normal;
        changing = r.changing;
        blank = λ e. absurd cc;
        covers = r.covers;
        of_view = λ e. record { front = own.front; within = fits; safe = own.safe; committed = subst (λ (v : ℕ). IsCommitted g h v k) (sym (r.normal n).0) shown_by };
        counted = r.counted;
        ballot = r.ballot;
        supplied = λ e. let z : Normal ≡ ViewChange = sym n ∙ e in absurd cc;
        heard = λ e. absurd cc;
      }

  pub owed_count : (j place : ℕ) → IsGoodState g h c s → s.status ≡ Normal → has_accepted g h s.view place j ≡ true → Owed g h c (counting s j place) (h.promise c) (h.life c)
  owed_count j place r n a = record {
    normal = r.normal;
    changing = r.changing;
    blank = r.blank;
    covers = r.covers;
    of_view = r.of_view;
    counted = λ e z i m ne o l. elim (cases_eq i j) [
      | inl q ↦
          let is : cond (eqb i j) (max (s.acked j) place) (s.acked i) ≡ max (s.acked j) place = cond-true (eqb i j) _ _ (eq-eqb i j q) in
          elim (cases_lt place m) [
            | inl big ↦ r.counted e z i m ne o (subst (λ (y : ℕ). m ≤ s.acked y) (sym q) (omega arith))
            | inr small ↦ subst (λ (y : ℕ). has_accepted g h s.view m y ≡ true) (sym q) (accepted_down g h s.view m place j small a)
          ]
      | inr q ↦
          let is : cond (eqb i j) (max (s.acked j) place) (s.acked i) ≡ s.acked i = cond-false (eqb i j) _ _ (ne_eqb i j q) in
          r.counted e z i m ne o (omega arith)
    ];
    ballot = r.ballot;
    supplied = r.supplied;
    heard = r.heard;
  }

  pub owed_keep : (x : Response E) (responses : List (Response E)) → IsGoodState g h c s → s.status ≡ Recovering → x.from ≢ c → IsIn (abstract_letter x.from c (RecoveryResponse x.view (h.life c) x.answer)) h.sent
      → ((y : Response E) → IsIn y responses → (y ≡ x) ⊎ IsIn y s.responses) → Owed g h c (hearing s responses) (h.promise c) (h.life c)
  owed_keep x responses r n apart at these = record {
    normal = r.normal;
    changing = r.changing;
    blank = r.blank;
    covers = r.covers;
    of_view = r.of_view;
    counted = r.counted;
    ballot = r.ballot;
    supplied = r.supplied;
    heard = λ e y i. elim (these y i) [
      | inl q ↦ subst (λ (z : Response E). (z.from ≢ c) × IsIn (abstract_letter z.from c (RecoveryResponse z.view (h.life c) z.answer)) h.sent) (sym q) (apart, at)
      | inr j ↦ r.heard e y j
    ];
  }

  pub owed_recover : (w k l : ℕ) (log : List E) → IsGoodState g h c s → h.promise c ≤ w → c ≢ primary_in g w → IsLogOf g h w log k → ((m : ℕ) → 1 ≤ m → has_accepted g h w m c ≡ true → m ≤ length log)
      → Owed g h c (adopted s w log k) w l
  owed_recover w k l log r above ne x fresh = record {
    normal = λ e. (refl, refl);
    changing = λ e. absurd cc;
    blank = λ e. absurd cc;
    covers = λ e v m o a. let p = r.promised v m o a in elim (cases_eq v w) [
      | inl q ↦ inr (q, fresh m o (subst (λ (y : ℕ). has_accepted g h y m c ≡ true) q a))
      | inr q ↦ inl (omega arith)
    ];
    of_view = λ e. x;
    counted = λ e z. absurd (ne z);
    ballot = λ e. absurd cc;
    supplied = λ e. absurd cc;
    heard = λ e. absurd cc;
  }

  pub owed_note : (s' : State E) → IsGoodState g h c s → Resembles s s' → Owed g h c s' (h.promise c) (h.life c)
  owed_note s' r m = record {
    normal = λ e. let n : s.status ≡ Normal = sym m.status ∙ e in let x = r.normal n in let u : is_up_status s.status ≡ true = ap is_up_status n in (m.normal u ∙ x.0 ∙ sym (m.view u), m.view u ∙ x.1);
    changing = λ e. let n : s.status ≡ ViewChange = sym m.status ∙ e in let x = r.changing n in let u : is_up_status s.status ≡ true = ap is_up_status n in (omega (arith, x.0, m.normal u, m.view u), m.view u ∙ x.1);
    blank = λ e. let n : s.status ≡ Recovering = sym m.status ∙ e in let x = r.blank n in let d : s.status ≢ Down = λ z. not_both s.status n z in (m.log d ∙ x.0, m.commit d ∙ x.1);
    covers = λ e v k o a. let u : is_up_status s.status ≡ true = ap is_up_status (sym m.status) ∙ e in let d : s.status ≢ Down = up_not_down s.status u in
        subst (λ (y : ℕ). IsAtMost v k y (length s'.log)) (sym (m.normal u)) (subst (λ (y : List E). IsAtMost v k s.normal (length y)) (sym (m.log d)) (r.covers u v k o a));
    of_view = λ e. let u : is_up_status s.status ≡ true = ap is_up_status (sym m.status) ∙ e in let d : s.status ≢ Down = up_not_down s.status u in
        subst (λ (y : ℕ). IsLogOf g h y s'.log s'.commit) (sym (m.normal u)) (subst (λ (y : List E). IsLogOf g h s.normal y s'.commit) (sym (m.log d)) (subst (λ (y : ℕ). IsLogOf g h s.normal s.log y) (sym (m.commit d)) (r.of_view u)));
    counted = λ e z i k ne o l. let n : s.status ≡ Normal = sym m.status ∙ e in let v = m.view (ap is_up_status n) in
        subst (λ (y : ℕ). has_accepted g h y k i ≡ true) (sym v) (r.counted n (z ∙ ap (primary_in g) v) i k ne o (omega (arith, m.acked n i)));
    ballot = λ e z. let n : s.status ≡ ViewChange = sym m.status ∙ e in let v = m.view (ap is_up_status n) in
        subst (λ (y : ℕ). IsBallot g h y s'.collected) (sym v) (subst (λ (y : List (Vote E)). IsBallot g h s.view y) (sym (m.collected n)) (r.ballot n (z ∙ ap (primary_in g) v)));
    supplied = λ e x i. let n : s.status ≡ ViewChange = sym m.status ∙ e in let z = r.supplied n x (sym (m.supply n) ∙ i) in (omega (arith, z.0, m.commit (up_not_down s.status (ap is_up_status n))), z.1);
    heard = λ e x i. let n : s.status ≡ Recovering = sym m.status ∙ e in r.heard n x (subst (λ (y : List (Response E)). IsIn x y) (m.responses n) i);
  }

  pub owed_same : IsGoodState g h c s → Owed g h c s (h.promise c) (h.life c)
  owed_same r = record { normal = r.normal; changing = r.changing; blank = r.blank; covers = r.covers; of_view = r.of_view; counted = r.counted; ballot = r.ballot; supplied = r.supplied; heard = r.heard }

module _ {E : Type 0} (g : Group E) (h : History E) (c : ℕ) where
  pub owed_fall : (s : State E) (p l : ℕ) → Owed g h c (fallen s) p l
  owed_fall s p l = record {
    normal = λ e. absurd cc;
    changing = λ e. absurd cc;
    blank = λ e. absurd cc;
    covers = λ e. absurd (false≢true e);
    of_view = λ e. absurd (false≢true e);
    counted = λ e. absurd cc;
    ballot = λ e. absurd cc;
    supplied = λ e. absurd cc;
    heard = λ e. absurd cc;
  }

  pub owed_rise : (s : State E) (p l : ℕ) → Owed g h c (risen s) p l
  owed_rise s p l = record {
    normal = λ e. absurd cc;
    changing = λ e. absurd cc;
    blank = λ e. (refl, refl);
    covers = λ e. absurd (false≢true e);
    of_view = λ e. absurd (false≢true e);
    counted = λ e. absurd cc;
    ballot = λ e. absurd cc;
    supplied = λ e. absurd cc;
    heard = λ e x i. absurd i;
  }
