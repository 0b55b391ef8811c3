-- What the steps of a member have in common, and its cases of FETCH and PREPARE: they are turns of moves.
use Rattle.std.proofs.Common.{◌≡◌, ◌≢◌, ℕ, zero, suc, ◌+◌, ◌%◌, ◌<◌, min, max, ◌⊎◌, inl, inr, Bool, true, false, cond, not, nat_eq, nat_lt, nat_le, ◌&&◌, eqb, List, [], ◌∷◌, ◌++◌, length, take, drop, filter, count_by, slice_index, slice_set, refl, sym, ap, ◌∙◌, subst, arith}
use Rattle.std.proofs.lemmas.Bool.{cases_lt, cases_eq, and_parts, or_cases, cond_both, cond-true, cond-false, eqb-true, eqb-false, leb-true, ltb-true, ne_eqb, eq-eqb, false≢true, not-true}
use Rattle.std.proofs.Math.Bool.{and-true, and-false}
use Rattle.std.proofs.lemmas.List.{get_or-set_same, get_or-set_other}
use Rattle.std.proofs.lemmas.List.Sums.{sum_by-append}
use Rattle.agreement.specs.History.{Group, size, primary_in, State, Message, Letter, History, abstract_letter}
use Rattle.agreement.specs.Invariant.{is_up_status, IsGoodPrepare, IsGoodMessage, IsGoodLetter, Invariant, IsGroup}
use Rattle.agreement.specs.Lists.{count_below, without_controller}
use Rattle.agreement.specs.Moves.{Resembles, appended_to_history, committing, StandsAt}
use Rattle.agreement.specs.Quorums.{is_prepare_ok}
use Rattle.agreement.proofs.Cases.{quiet_by, turn_note, turn_speak, turn_prepare, turn_commit}
use Rattle.agreement.proofs.Conditions.{own_supply}
use Rattle.agreement.proofs.Consequences.{own_log, own_of_view}
use Rattle.agreement.proofs.Quorums.{committed_less, committed_max}
use Rattle.agreement.proofs.Walks.{good_at, resembles_self}
use Rattle.agreement.specs.History as core
use Rattle.vr_log.specs.declared.entry.Entry.{Entry}
use Rattle.vr_log.specs.declared.message.VrMessage.{VrMessage}
use Rattle.vr_log.specs.declared.message.VrMessage.TheVariants as message
use Rattle.vr_log.specs.declared.state.Status.{Status}
use Rattle.vr_log.specs.declared.state.Status.TheVariants as status
use Rattle.vr_log.specs.declared.state.VrState.{VrState}
use Rattle.vr_log.specs.Log.{fits}
use Rattle.vr_log.specs.Members as member
use Rattle.vr_log.specs.Steps as steps
use Rattle.vr_log.specs.Steps.{VrStep}
use Rattle.vr_normal.specs.Cases as normal_case
use Rattle.view_change.specs.Cases as change
use Rattle.controller_moves.specs.MemberMoves.Projection.{member_status_of, message_of, member_state_of, is_member}
use Rattle.controller_moves.specs.MemberMoves.Laws.{IsMemberTurn}

pub normal_of : (x : Status) → (elim x [ status.Normal ↦ true | status.ViewChange ↦ false | status.Recovering ↦ false | status.Down ↦ false ]) ≡ true → member_status_of x ≡ core.Normal
normal_of status.Normal e = refl
normal_of status.ViewChange e = absurd (false≢true e)
normal_of status.Recovering e = absurd (false≢true e)
normal_of status.Down e = absurd (false≢true e)

pub changing_of : (x : Status) → (elim x [ status.Normal ↦ false | status.ViewChange ↦ true | status.Recovering ↦ false | status.Down ↦ false ]) ≡ true → member_status_of x ≡ core.ViewChange
changing_of status.ViewChange e = refl
changing_of status.Normal e = absurd (false≢true e)
changing_of status.Recovering e = absurd (false≢true e)
changing_of status.Down e = absurd (false≢true e)

pub up_of : (x : Status) → (elim x [ status.Normal ↦ true | status.ViewChange ↦ true | status.Recovering ↦ false | status.Down ↦ false ]) ≡ true → is_up_status (member_status_of x) ≡ true
up_of status.Normal e = refl
up_of status.ViewChange e = refl
up_of status.Recovering e = absurd (false≢true e)
up_of status.Down e = absurd (false≢true e)

-- the state is that of member c
pub record IsMemberOf (g : Group Entry) (c : ℕ) (s : VrState) : Type 0 where
  pub me : s.me ≡ c
  pub controllers : s.controllers ≡ size g
  pub acked : length s.acked ≡ size g

pub member_of : (g : Group Entry) (c : ℕ) (s : VrState) → is_member g c s ≡ true → IsMemberOf g c s
member_of g c s e =
    let x = and_parts (nat_eq s.me c) (nat_eq s.controllers (size g) && nat_eq (length s.acked) (size g)) e in
    let y = and_parts (nat_eq s.controllers (size g)) (nat_eq (length s.acked) (size g)) x.1 in
    record { me = eqb-true s.me c x.0; controllers = eqb-true s.controllers (size g) y.0; acked = eqb-true (length s.acked) (size g) y.1 }

module _ (g : Group Entry) (s : VrState) where
  pub same_primary : s.controllers ≡ size g → (view : ℕ) → member.primary_of s view ≡ primary_in g view
  unfolding size primary_in
  same_primary e view = ap (λ (n : ℕ). view % n) e

  pub same_half : s.controllers ≡ size g → member.most_failures s ≡ g.most_failures
  unfolding size
  same_half e = omega arith

abbrev one_of : Bool → ℕ
one_of b = cond b 1 0

-- how many others pass
others_append : (p : ℕ → Bool) (xs : List ℕ) (j : ℕ) → count_by p (xs ++ j ∷ []) ≡ count_by p xs + cond (p j) 1 0
others_append p xs j = let e = sum_by-append (λ (x : ℕ). cond (p x) 1 0) xs (j ∷ []) in e ∙ omega arith

pub same_others : (p : ℕ → Bool) (me n : ℕ) → count_by p (member.others_below me n) ≡ count_below (without_controller me p) n
same_others p me zero = refl
same_others p me (suc n) = cond_both (eqb n me) (member.others_below me n) (member.others_below me n ++ n ∷ []) (λ (xs : List ℕ). count_by p xs ≡ count_below (without_controller me p) n + cond (without_controller me p n) 1 0)
    (λ e.
    let z : without_controller me p n ≡ false = ap (λ (b : Bool). p n && not b) e ∙ and-false (p n) in
    let last : one_of (without_controller me p n) ≡ 0 = ap one_of z in
    let before = same_others p me n in
    omega arith)
    (λ e.
    let z : without_controller me p n ≡ p n = ap (λ (b : Bool). p n && not b) e ∙ and-true (p n) in
    let same : one_of (without_controller me p n) ≡ one_of (p n) = ap one_of z in
    let before = same_others p me n in
    let last = others_append p (member.others_below me n) n in
    omega arith)

-- of a normal state less counts
pub normal_like : (s s' : State Entry) → s.status ≡ core.Normal → s'.status ≡ s.status → s'.view ≡ s.view → s'.normal ≡ s.normal → s'.log ≡ s.log → s'.commit ≡ s.commit → ((i : ℕ) → s'.acked i ≡ s.acked i) → Resembles s s'
normal_like s s' n st vw nm lg cm ac = record {
  status = st;
  view = λ u. vw;
  normal = λ u. nm;
  log = λ d. lg;
  commit = λ d. cm;
  acked = λ e i. ac i;
  collected = λ e. absurd (let z : core.Normal ≡ core.ViewChange = sym n ∙ e in cc);
  supply = λ e. absurd (let z : core.Normal ≡ core.ViewChange = sym n ∙ e in cc);
  responses = λ e. absurd (let z : core.Normal ≡ core.Recovering = sym n ∙ e in cc);
}

-- the greatest of those that pass is the least one, or passes
pub greatest_good : (p : ℕ → Bool) (least : ℕ) (xs : List ℕ) → (normal_case.greatest least (filter p xs) ≡ least) ⊎ (p (normal_case.greatest least (filter p xs)) ≡ true)
greatest_good p least [] = inl refl
greatest_good p least (x ∷ xs) = cond_both (p x) (x ∷ filter p xs) (filter p xs) (λ (ys : List ℕ). (normal_case.greatest least ys ≡ least) ⊎ (p (normal_case.greatest least ys) ≡ true))
    (λ ok. elim (cases_lt x (normal_case.greatest least (filter p xs))) [
      | inl l ↦
          let same : max x (normal_case.greatest least (filter p xs)) ≡ normal_case.greatest least (filter p xs) = omega arith in
          elim (greatest_good p least xs) [ inl e ↦ inl (same ∙ e) | inr e ↦ inr (ap p same ∙ e) ]
      | inr l ↦ let same : max x (normal_case.greatest least (filter p xs)) ≡ x = omega arith in inr (ap p same ∙ ok)
    ])
    (λ no. greatest_good p least xs)

-- a place of the list that counts what is acknowledged
pub acked_is : (xs : List ℕ) (j x i : ℕ) → j < length xs → slice_index (slice_set xs j (max x (slice_index xs j))) i ≡ cond (eqb i j) (max (slice_index xs j) x) (slice_index xs i)
acked_is xs j x i l = elim (cases_eq i j) [
  | inl e ↦
      let here : slice_index (slice_set xs j (max x (slice_index xs j))) j ≡ max x (slice_index xs j) = get_or-set_same xs j (max x (slice_index xs j)) 0 l in
      let there : cond (eqb i j) (max (slice_index xs j) x) (slice_index xs i) ≡ max (slice_index xs j) x = cond-true (eqb i j) _ _ (eq-eqb i j e) in
      ap (λ (q : ℕ). slice_index (slice_set xs j (max x (slice_index xs j))) q) e ∙ omega arith
  | inr ne ↦ get_or-set_other xs j i (max x (slice_index xs j)) 0 ne ∙ sym (cond-false (eqb i j) (max (slice_index xs j) x) (slice_index xs i) (ne_eqb i j ne))
]

-- the sender of what comes from a primary is another
pub other_not_me : (s : VrState) (from : ℕ) → member.is_other s from ≡ true → from ≢ s.me
other_not_me s from e = eqb-false from s.me (not-true (nat_eq from s.me) (and_parts (nat_lt from s.controllers) (not (nat_eq from s.me)) e).1)

pub other_below : (s : VrState) (from : ℕ) → member.is_other s from ≡ true → from < s.controllers
other_below s from e = ltb-true from s.controllers (and_parts (nat_lt from s.controllers) (not (nat_eq from s.me)) e).0

pub here_of : (s : VrState) (view : ℕ) → member.is_here s view ≡ true → ((member_state_of s).status ≡ core.Normal) × (view ≡ s.view)
here_of s view e = let x = and_parts (member.is_normal s) (nat_eq view s.view) e in (normal_of s.status x.0, eqb-true view s.view x.1)

pub later_of : (s : VrState) (view : ℕ) → member.is_later s view ≡ true → (is_up_status (member_state_of s).status ≡ true) × (s.view < view)
later_of s view e = let x = and_parts (member.is_up s) (nat_lt s.view view) e in (up_of s.status x.0, ltb-true s.view view x.1)

up_changing : (x : core.Status) → x ≡ core.ViewChange → is_up_status x ≡ true
up_changing x e = ap is_up_status e

pub newer_of : (s : VrState) (view : ℕ) → member.is_newer s view ≡ true → (is_up_status (member_state_of s).status ≡ true) × ((s.view < view) ⊎ ((s.view ≡ view) × ((member_state_of s).status ≡ core.ViewChange)))
newer_of s view e = elim (or_cases (member.is_later s view) (member.is_changing s && nat_eq view s.view) e) [
  | inl z ↦ let x = later_of s view z in (x.0, inl x.1)
  | inr z ↦
      let x = and_parts (member.is_changing s) (nat_eq view s.view) z in
      let n = changing_of s.status x.0 in
      (up_changing (member_state_of s).status n, inr (sym (eqb-true view s.view x.1), n))
]

module _ {g : Group Entry} {c : ℕ} {s : VrState} (fine : IsMemberOf g c s) where
  pub not_own : (from view : ℕ) → member.is_other s from ≡ true → member.is_primary_of s from view ≡ true → c ≢ primary_in g view
  not_own from view other e = λ z. other_not_me s from other (eqb-true from (member.primary_of s view) e ∙ same_primary g s fine.controllers view ∙ sym z ∙ sym fine.me)

  pub own_of : (view : ℕ) → nat_eq (member.primary_of s view) s.me ≡ true → c ≡ primary_in g view
  own_of view e = sym (sym (same_primary g s fine.controllers view) ∙ eqb-true (member.primary_of s view) s.me e ∙ fine.me)

  pub not_own_of : (view : ℕ) → nat_eq (member.primary_of s view) s.me ≡ false → c ≢ primary_in g view
  not_own_of view e = λ z. eqb-false (member.primary_of s view) s.me e (same_primary g s fine.controllers view ∙ sym z ∙ sym fine.me)

  pub primary_is : (view : ℕ) → member.is_primary_of s s.me view ≡ true → c ≡ primary_in g view
  primary_is view e = sym fine.me ∙ eqb-true s.me (member.primary_of s view) e ∙ same_primary g s fine.controllers view

  pub primary_is_not : (view : ℕ) → member.is_primary_of s s.me view ≡ false → c ≢ primary_in g view
  primary_is_not view e = λ z. eqb-false s.me (member.primary_of s view) e (fine.me ∙ z ∙ sym (same_primary g s fine.controllers view))

module _ {g : Group Entry} {h h' : History Entry} {c : ℕ} {s : VrState} (gr : IsGroup g) (i : Invariant g h) (b : c < size g) (at : StandsAt h c (member_state_of s) s.promise s.life) (fine : IsMemberOf g c s) where
  pub goes_quiet : IsMemberTurn g h h' c (steps.quiet s)
  goes_quiet t tr = turn_note gr i b at (resembles_self (member_state_of s)) t tr

  pub goes_guarded : (st : VrStep) → IsMemberTurn g h h' c st → IsMemberTurn g h h' c (steps.guarded s st)
  goes_guarded st go = cond_both (steps.is_sound s st.state) _ _ (IsMemberTurn g h h' c) (λ ok. go) (λ ok. goes_quiet)

  pub goes_tells : (to : ℕ) (x : VrMessage) → ((v q : ℕ) → is_prepare_ok (message_of x) v q ≡ false) → IsGoodMessage g h c to (message_of x) → IsMemberTurn g h h' c (steps.tells s to x)
  goes_tells to x unlike good t tr =
      let ls : List (Letter Entry) = abstract_letter c to (message_of x) ∷ [] in
      turn_speak gr i b at ls (λ z k. elim k [ inl e ↦ ap (λ (l : Letter Entry). l.sender) e | inr k ↦ absurd k ]) (λ z k w q. elim k [ inl e ↦ ap (λ (l : Letter Entry). is_prepare_ok l.message w q) e ∙ unlike w q | inr k ↦ absurd k ])
      (λ z k. elim k [ inl e ↦ subst (λ (l : Letter Entry). IsGoodLetter g h l) (sym e) good | inr k ↦ absurd k ]) (resembles_self (member_state_of s)) t (quiet_by t tr (λ n is. sym (own_log (good_at i b at) n is)))

  -- a message of another member
  pub goes_other : (from : ℕ) (st : VrStep) → (member.is_other s from ≡ true → IsMemberTurn g h h' c st) → IsMemberTurn g h h' c (cond (member.is_other s from) st (steps.quiet s))
  goes_other from st go = cond_both (member.is_other s from) _ _ (IsMemberTurn g h h' c) go (λ own. goes_quiet)

  -- FETCH
  pub goes_fetch : (from view op : ℕ) → IsMemberTurn g h h' c (change.fetch s from view op)
  goes_fetch from view op = goes_other from _ (λ other. cond_both (change.is_change s view && nat_le op s.commit) _ _ (IsMemberTurn g h h' c)
      (λ ok.
      let x = and_parts (change.is_change s view) (nat_le op s.commit) ok in
      let n = changing_of s.status (and_parts (member.is_changing s) (nat_eq view s.view) x.0).0 in
      goes_tells from (message.Supply s.view op (drop op (take s.commit s.log))) (λ w q. refl) (own_supply (good_at i b at) i op (ap is_up_status n) (leb-true op s.commit x.1)))
      (λ ok. goes_quiet))

  -- a message of a later view
  pub goes_asks_later : (view : ℕ) → IsMemberTurn g h h' c (normal_case.asks_later s view)
  goes_asks_later view = cond_both (member.is_later s view) _ _ (IsMemberTurn g h h' c) (λ ok. goes_tells (member.primary_of s view) (message.GetState view s.commit) (λ w q. refl) tt) (λ ok. goes_quiet)

  -- what comes from the primary of a view
  pub goes_from_primary : (from view : ℕ) (st : VrStep) → ((member_state_of s).status ≡ core.Normal → view ≡ s.view → c ≢ primary_in g s.view → IsMemberTurn g h h' c st) → IsMemberTurn g h h' c (normal_case.from_primary s from view st)
  goes_from_primary from view st go = goes_other from _ (λ other. cond_both (member.is_primary_of s from view) _ _ (IsMemberTurn g h h' c)
      (λ primary. cond_both (member.is_here s view) _ _ (IsMemberTurn g h h' c)
      (λ here. let x = here_of s view here in go x.0 x.1 (subst (λ (w : ℕ). c ≢ primary_in g w) x.1 (not_own fine from view other primary)))
      (λ here. goes_asks_later view))
      (λ primary. goes_quiet))

  -- PREPARE
  pub goes_prepare : (from view op commit : ℕ) (entry : Entry) → IsGoodPrepare g h view op commit entry → IsMemberTurn g h h' c (normal_case.prepare s from view op commit entry)
  goes_prepare from view op commit entry good = goes_from_primary from view (normal_case.prepares s op commit entry) (λ n same ne.
      let good' = subst (λ (w : ℕ). IsGoodPrepare g h w op commit entry) same good in
      let own = own_of_view (good_at i b at) n in
      let within = own.within in
      cond_both (nat_le op (length s.log)) _ _ (IsMemberTurn g h h' c)
      (λ old t tr.
      let most : ℕ = max s.commit (min commit (length s.log)) in
      turn_commit gr i b at most (member.primary_of s s.view) true n (λ z. ne) (omega arith) (omega arith) (committed_max own.committed (committed_less good'.committed (omega arith) (omega arith)))
      (resembles_self (committing (member_state_of s) most)) t tr)
      (λ new. cond_both (nat_eq op (length s.log + 1)) _ _ (IsMemberTurn g h h' c)
      (λ next. cond_both (fits s.log entry) _ _ (IsMemberTurn g h h' c)
      (λ takes t tr. turn_prepare gr i b at (member.primary_of s s.view) op commit entry n ne good' (eqb-true op (length s.log + 1) next)
      (resembles_self (committing (appended_to_history (member_state_of s) (s.log ++ entry ∷ [])) (max s.commit (min commit (length (s.log ++ entry ∷ []))))), t) tr)
      (λ drops. goes_quiet))
      (λ gap. goes_tells (member.primary_of s s.view) (message.GetState s.view (length s.log)) (λ w q. refl) tt)))
