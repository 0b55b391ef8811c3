-- What each move of a member leaves is consistent, and what is committed stays.
use Rattle.std.proofs.Common.{inl, inr, ◌≡◌, ◌≤◌, ℕ, Bool, true, false, not, ◌&&◌, List, [], ◌∷◌, ◌++◌, length, take, refl, sym, ap, subst, ◌∙◌, arith, append-nil, length-append}
use Rattle.std.specs.Prelude.{nat_eq, nat_le, nat_lt, min, max, Some, None, if◌then◌else◌}
use Rattle.std.specs.List.{list_any}
use Rattle.std.proofs.lemmas.Bool.{cond_both, eqb-true, eq-eqb, leb-true, and_parts, or_cases}
use Rattle.std.proofs.lemmas.List.{length-take}
use Rattle.vr_log.specs.declared.entry.Entry.{Entry}
use Rattle.vr_log.specs.declared.state.Collected.{Collected}
use Rattle.vr_log.specs.declared.state.Status.{Status}
use Rattle.vr_log.specs.declared.state.Status.TheVariants as status
use Rattle.vr_log.specs.declared.state.Supplied.{Supplied}
use Rattle.vr_log.specs.declared.state.VrState.{VrState}
use Rattle.vr_log.specs.Log.{follows, is_log}
use Rattle.vr_log.specs.Members.{is_normal, is_changing, most_failures, is_primary}
use Rattle.vr_log.specs.Same.{same_entries}
use Rattle.vr_log.specs.Steps.{is_sound}
use Rattle.vr_log.specs.Choosing.{has_collected, may_choose, best_of, least_commit, greatest_commit, front, is_better}
use Rattle.view_change.specs.Entering.{entered_view, started_view}
use Rattle.view_change.specs.Adopting.{adopted_log}
use Rattle.vr_core.specs.declared.input.VrInput.{VrInput}
use Rattle.vr_log.proofs.Equal.{entries_equal}
use Rattle.vr_log.proofs.Logs.{IsLog_is, IsLog_append}
use Rattle.list_facts.proofs.Elements.{in_append}
use Rattle.list_facts.proofs.Prefixes.{prefix_refl, take_prefixes, takes_prefix}
use Rattle.list_facts.specs.Lists.{IsIn, IsPrefix}
use Rattle.controller_moves.specs.ControllerLaws.Entries.{IsConsistent}
use Rattle.controller_moves.specs.ControllerLaws.MemberMoves.{MemberMove, Enters, Tallies, Collects, Stocks, Starts, Adopts, Recovers, Appends, Commits, Keeps}

-- the best of collected logs is one of them, and none has a greater commit number than the greatest
pub best_among : (c : Collected) (cs : List Collected) → IsIn (best_of c cs) (c ∷ cs)
best_among c [] = inl refl
best_among c (d ∷ cs) =
    elim (best_among (if is_better d c then d else c) cs) [
      | inl e ↦ cond_both (is_better d c) d c (λ (z : Collected). best_of (if is_better d c then d else c) cs ≡ z → IsIn (best_of (if is_better d c then d else c) cs) (c ∷ d ∷ cs)) (λ _ k. inr (inl k)) (λ _ k. inl k) e
      | inr k ↦ inr (inr k)
    ]

-- the greatest commit number is at least the first
pub most_low : (most : ℕ) (cs : List Collected) → most ≤ greatest_commit most cs
most_low most [] = omega arith
most_low most (c ∷ cs) = let r = most_low (max most c.commit) cs in omega arith

-- at least each of the others
pub most_all : (most : ℕ) (cs : List Collected) (c : Collected) → IsIn c cs → c.commit ≤ greatest_commit most cs
most_all most [] c h = absurd h
most_all most (d ∷ cs) c (inl e) = let r = most_low (max most d.commit) cs in let z : c.commit ≡ d.commit = ap (λ (x : Collected). x.commit) e in omega arith
most_all most (d ∷ cs) c (inr h) = most_all (max most d.commit) cs c h

-- so at least each
pub most_of_all : (c : Collected) (cs : List Collected) (d : Collected) → IsIn d (c ∷ cs) → d.commit ≤ greatest_commit c.commit cs
most_of_all c cs d (inl e) = let r = most_low c.commit cs in let z : d.commit ≡ c.commit = ap (λ (x : Collected). x.commit) e in omega arith
most_of_all c cs d (inr h) = most_all c.commit cs d h

-- the log of a member that was collected
has_one : (all : List Collected) (me : ℕ) → list_any (λ c. nat_eq c.from me) all ≡ true → (c : Collected) × IsIn c all × (c.from ≡ me)
has_one [] me h = absurd cc
has_one (c ∷ all) me h = elim (or_cases (nat_eq c.from me) (list_any (λ d. nat_eq d.from me) all) h) [
  | inl here ↦ (c, inl refl, eqb-true c.from me here)
  | inr there ↦ let r = has_one all me there in (r.0, inr r.1, r.2)
]

module _ (s s' : VrState) (sound : is_sound s s' ≡ true) where
  pub sound_log : is_log s'.log ≡ true
  sound_log = (and_parts (is_log s'.log) (nat_le s'.commit (length s'.log)) (and_parts (is_log s'.log && nat_le s'.commit (length s'.log)) _ sound).0).0

  pub sound_commit : s'.commit ≤ length s'.log
  sound_commit = leb-true s'.commit (length s'.log) (and_parts (is_log s'.log) (nat_le s'.commit (length s'.log)) (and_parts (is_log s'.log && nat_le s'.commit (length s'.log)) _ sound).0).1

  pub sound_front : s.commit ≤ s'.commit → IsPrefix (take s.commit s.log) (take s'.commit s'.log)
  sound_front low =
      let e = entries_equal (take s.commit s.log) (take s.commit s'.log) (and_parts (is_log s'.log && nat_le s'.commit (length s'.log)) (same_entries (take s.commit s.log) (take s.commit s'.log)) sound).1 in
      subst (λ (l : List Entry). IsPrefix l (take s'.commit s'.log)) (sym e) (takes_prefix s.commit s'.commit s'.log low)

-- a member that is normal changes no view
pub normal_not_changing : (s' : VrState) → is_normal s' ≡ true → is_changing s' ≡ true → ⊥
normal_not_changing s' = by_status s'.status
  where
    by_status : (st : Status) → (elim st as (λ _. Bool) [ status.Normal ↦ true | status.ViewChange ↦ false | status.Recovering ↦ false | status.Down ↦ false ]) ≡ true →
        (elim st as (λ _. Bool) [ status.Normal ↦ false | status.ViewChange ↦ true | status.Recovering ↦ false | status.Down ↦ false ]) ≡ true → ⊥
    by_status status.Normal a b = cc
    by_status status.ViewChange a b = cc
    by_status status.Recovering a b = cc
    by_status status.Down a b = cc

-- what a move leaves
pub record Lasts (s s' : VrState) : Type 0 where
  pub consistent : IsConsistent s'
  pub grows : IsPrefix (take s.commit s.log) (take s'.commit s'.log)
  pub me : s'.me ≡ s.me
  pub controllers : s'.controllers ≡ s.controllers

module _ (x : VrInput) (s : VrState) (h : IsConsistent s) where
  -- the log and the commit number stay
  stays : (s' : VrState) → s'.log ≡ s.log → s'.commit ≡ s.commit → ((p : Supplied) → s'.supply ≡ Some p → p.first ≤ s'.commit) →
      (is_changing s' ≡ true → (c : Collected) → IsIn c s'.collected → c.from ≡ s'.me → c.commit ≡ s'.commit) → s'.me ≡ s.me → s'.controllers ≡ s.controllers → Lasts s s'
  stays s' log commit supply own me controllers =
      record {
        consistent = record { follow = rw log h.follow; commit = let a = h.commit in let b = ap length log in omega (arith, a, b, commit); supply = supply; own = own };
        grows = rw (log, commit) (prefix_refl (take s.commit s.log));
        me = me;
        controllers = controllers;
      }

  start_most : (c : Collected) (cs : List Collected) → s.collected ≡ c ∷ cs → may_choose s ≡ true → s.commit ≤ greatest_commit c.commit cs
  start_most c cs is may =
      let a = and_parts (is_changing s && is_primary s && has_collected s s.me) (nat_lt (most_failures s) (length s.collected)) may in
      let b = and_parts (is_changing s && is_primary s) (has_collected s s.me) a.0 in
      let changing = (and_parts (is_changing s) (is_primary s) b.0).0 in
      let one = has_one s.collected s.me b.1 in
      let e : one.0.commit ≡ s.commit = h.own changing one.0 one.1 one.2 in
      let most = most_of_all c cs one.0 (subst (λ (l : List Collected). IsIn one.0 l) is one.1) in
      omega arith

  not_other : (b : Bool) (n m : ℕ) → n ≡ m → (b && not (nat_eq n m)) ≡ true → ⊥
  not_other b n m e k = let same : nat_eq n m ≡ true = eq-eqb n m e in let off = (and_parts b (not (nat_eq n m)) k).1 in let z : not (nat_eq n m) ≡ false = ap not same in cc

  enters_lasts : (view : ℕ) → Lasts s (entered_view s view)
  enters_lasts view = stays (entered_view s view) refl refl (λ p e. absurd cc) (λ _ c k. absurd k) refl refl

  collects_lasts : (c : Collected) → (c.from ≡ s.me → c.commit ≡ s.commit) → Lasts s (record s { collected = s.collected ++ c ∷ [] })
  collects_lasts c mine =
      stays (record s { collected = s.collected ++ c ∷ [] }) refl refl h.supply
      (λ changing d k e. elim (in_append d s.collected (c ∷ []) k) [
        | inl old ↦ h.own changing d old e
        | inr new ↦ elim new [
          | inl same ↦ ap (λ (y : Collected). y.commit) same ∙ mine (ap (λ (y : Collected). y.from) (sym same) ∙ e)
          | inr none ↦ absurd none
        ]
      ]) refl refl

  -- a start by the guard
  sound_reach : (s' : VrState) → is_sound s s' ≡ true → s.commit ≤ length s'.log
  sound_reach s' sound =
      let e = entries_equal (take s.commit s.log) (take s.commit s'.log) (and_parts (is_log s'.log && nat_le s'.commit (length s'.log)) (same_entries (take s.commit s.log) (take s.commit s'.log)) sound).1 in
      let k = h.commit in
      let n = ap length e in
      omega (arith, k, n, length-take s.commit s.log, length-take s.commit s'.log)

  sound_lasts : (s' : VrState) → is_sound s s' ≡ true → s.commit ≤ s'.commit → s'.supply ≡ None → is_normal s' ≡ true → s'.me ≡ s.me → s'.controllers ≡ s.controllers → Lasts s s'
  sound_lasts s' sound low none normal me controllers =
      record {
        consistent = record { follow = sound_log s s' sound; commit = sound_commit s s' sound; supply = λ p e. let z : None ≡ Some p = sym none ∙ e in absurd cc; own = λ changing. absurd (normal_not_changing s' normal changing) };
        grows = sound_front s s' sound low;
        me = me;
        controllers = controllers;
      }

  started_low : (b : Bool) (n most : ℕ) → s.commit ≤ n → s.commit ≤ most → s.commit ≤ (if b then n else most)
  started_low true n most a b = a
  started_low false n most a b = b

  grown_log : (more : List Entry) (k : ℕ) → follows s.log more ≡ true → is_normal s ≡ true → s.commit ≤ k → k ≤ length (s.log ++ more) → Lasts s (record s { log = s.log ++ more; commit = k })
  grown_log more k fit normal low high =
      record {
        consistent = record {
          follow = (IsLog_append s.log more (IsLog_is s.log h.follow) fit).follow;
          commit = high;
          supply = λ p e. let z = h.supply p e in omega (arith, z, low);
          own = λ changing. absurd (normal_not_changing s normal changing);
        };
        grows = take_prefixes s.commit k s.log more low;
        me = refl;
        controllers = refl;
      }

  pub move_lasts : (s' : VrState) → MemberMove x s s' → Lasts s s'
  move_lasts s' (Enters view less has is) = subst (λ (t : VrState). Lasts s t) (sym is) (enters_lasts view)
  move_lasts s' (Tallies votes sent acked is) = subst (λ (t : VrState). Lasts s t) (sym is) (stays (record s { votes = votes; sent = sent; acked = acked }) refl refl h.supply h.own refl refl)
  move_lasts s' (Collects c (inl own) is) = subst (λ (t : VrState). Lasts s t) (sym is) (collects_lasts c (λ _. ap (λ (y : Collected). y.commit) own))
  move_lasts s' (Collects c (inr k) is) = subst (λ (t : VrState). Lasts s t) (sym is) (collects_lasts c (λ e. absurd (not_other _ c.from s.me e k.1)))
  move_lasts s' (Stocks from view first log asks low is) =
      subst (λ (t : VrState). Lasts s t) (sym is) (stays (record s { supply = Some (record { first = first; log = log }) }) refl refl
      (λ p e. let z : record { first = first; log = log } ≡ p = cc in subst (λ (q : Supplied). q.first ≤ s.commit) z low) h.own refl refl)
  move_lasts s' (Starts c cs collected may long sound is) =
      let new = started_view s (take (best_of c cs).commit (front s) ++ (best_of c cs).log) (least_commit c.commit cs) (greatest_commit c.commit cs) in
      let sound' : is_sound s new ≡ true = ap (λ (t : VrState). is_sound s t) (sym is) ∙ sound in
      subst (λ (t : VrState). Lasts s t) (sym is)
      (sound_lasts new sound' (started_low (nat_eq (most_failures s) 0) (length new.log) (greatest_commit c.commit cs) (sound_reach new sound') (start_most c cs collected may)) refl refl refl refl)
  move_lasts s' (Adopts view first commit log shows newer low sound is) =
      let new = adopted_log s view first commit log in
      subst (λ (t : VrState). Lasts s t) (sym is) (sound_lasts new (ap (λ (t : VrState). is_sound s t) (sym is) ∙ sound) (omega arith) refl refl refl refl)
  move_lasts s' (Recovers view r told among view_is filled_is off sound is) =
      let new = adopted_log (record s { responses = [] }) view 0 told.commit told.log in
      subst (λ (t : VrState). Lasts s t) (sym is) (sound_lasts new (ap (λ (t : VrState). is_sound s t) (sym is) ∙ sound) (omega arith) refl refl refl refl)
  move_lasts s' (Appends commit more normal fit brings is) =
      let low = h.commit in let long = length-append s.log more in
      subst (λ (t : VrState). Lasts s t) (sym is) (grown_log more (max s.commit (min commit (length (s.log ++ more)))) fit normal (omega arith) (omega (arith, low, long)))
  move_lasts s' (Commits k normal low high is) =
      let within = h.commit in let long = ap length (append-nil s.log) in
      subst (λ (t : VrState). Lasts s t) (sym is) (subst (λ (l : List Entry). Lasts s (record s { log = l; commit = k })) (append-nil s.log) (grown_log [] k refl normal low (omega (arith, within, high, long))))
  move_lasts s' (Keeps r nonce asks is) = subst (λ (t : VrState). Lasts s t) (sym is) (stays _ refl refl h.supply h.own refl refl)
