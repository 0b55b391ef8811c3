-- Lines are judged as the audit has it.
use Rattle.std.proofs.Common.{inl, inr, ◌≡◌, ◌<◌, ℕ, zero, suc, ◌+◌, Bool, true, false, not, ◌&&◌, ◌||◌, List, ◌∷◌, [], ◌++◌, length, get_or, map, Option, Some, None, refl, sym, ap, subst, ◌∙◌, arith}
use Rattle.std.specs.Prelude.{nat_eq, nat_lt, option_map, slice_index_or, if◌then◌else◌}
use Rattle.std.specs.List.{list_any, list_all}
use Rattle.std.proofs.lemmas.Bool.{eq-eqb, ne_eqb, cases_eq}
use Rattle.of_types.specs.declared.message.Command.{Command}
use Rattle.of_types.specs.declared.message.Event.{Event}
use Rattle.of_types.specs.declared.message.Order.{Order}
use Rattle.of_types.specs.declared.setup.Setup.{Setup}
use Rattle.vr_log.specs.declared.entry.Entry.{Entry}
use Rattle.vr_log.specs.declared.entry.Entry.TheVariants.{Received, Processed}
use Rattle.vr_log.specs.Log.{received, may_follow}
use Rattle.vr_log.specs.Same.{same_event, same_happening}
use Rattle.vr_log.proofs.Logs.{received-append}
use Rattle.app_core.specs.declared.issued.Issued.{Issued}
use Rattle.app_core.specs.Chain.{concat, reactions}
use Rattle.app_core.specs.Issued.{issue_all, issues, commands_of}
use Rattle.report.specs.declared.record.Record.{Record}
use Rattle.report.specs.declared.record.SwitchRecord.{SwitchRecord}
use Rattle.audit.specs.declared.evidence.Evidence.{Evidence}
use Rattle.audit.specs.declared.following.Following.{Following}
use Rattle.audit.specs.Audit.{has_event_line, has_executed_line, is_settled_line, entry_fails}
use Rattle.audit.specs.Issuing.{HoldsOrders}
use Rattle.audit.specs.Judging.{is_place, tells_event, is_told_as_executed, executed_as_told, is_executed, IsEvidence, is_settled_by, entry_fails_by}
use Rattle.audit.specs.Names.{Name, same_name, name_of, issued_name}
use Rattle.audit.specs.Received.{equal_at}
use Rattle.audit.proofs.Naming.{name_equal, name_same}
use Rattle.audit.proofs.Standing.{IsStanding, may_is, is_fresh}

module _ (kinds : List ℕ) (setup : Setup) (events given : List Event) (lists : List (List Command)) where
  pub gathered_names : (names : List (List Name)) → given ≡ events → lists ≡ reactions kinds setup events → names ≡ map (λ list. map issued_name list) (issue_all [] [] given lists) →
      names ≡ map (λ list. map issued_name list) (issues kinds setup events)
  unfolding issues
  gathered_names names is all n =
      n ∙ ap (λ (l : List Event). map (λ list. map issued_name list) (issue_all [] [] l lists)) is ∙ ap (λ (l : List (List Command)). map (λ list. map issued_name list) (issue_all [] [] events l)) all

  pub gathered_orders : (orders : List (Name × Order)) → given ≡ events → lists ≡ reactions kinds setup events → HoldsOrders (concat (issue_all [] [] given lists)) orders →
      HoldsOrders (concat (issues kinds setup events)) orders
  unfolding issues
  gathered_orders orders is all holds =
      subst (λ (l : List (List Command)). HoldsOrders (concat (issue_all [] [] events l)) orders) all (subst (λ (l : List Event). HoldsOrders (concat (issue_all [] [] l lists)) orders) is holds)

pub any_same : {A : Type 0} (p q : A → Bool) (xs : List A) → ((x : A) → p x ≡ q x) → list_any p xs ≡ list_any q xs
any_same p q [] e = refl
any_same p q (x ∷ xs) e = ap (λ b. b || list_any p xs) (e x) ∙ ap (λ b. q x || b) (any_same p q xs e)

all_same : {A : Type 0} (p q : A → Bool) (xs : List A) → ((x : A) → p x ≡ q x) → list_all p xs ≡ list_all q xs
all_same p q [] e = refl
all_same p q (x ∷ xs) e = ap (λ b. b && list_all p xs) (e x) ∙ ap (λ b. q x && b) (all_same p q xs e)

-- ---- event lines

suc_eq : (m n : ℕ) → nat_eq (suc m) (suc n) ≡ nat_eq m n
suc_eq m n = elim (cases_eq m n) [ inl same ↦ eq-eqb (suc m) (suc n) (ap suc same) ∙ sym (eq-eqb m n same) | inr other ↦ ne_eqb (suc m) (suc n) (λ e. other (omega (arith, e))) ∙ sym (ne_eqb m n other) ]

place_suc : (n : ℕ) (o : Option ℕ) → is_place (suc n) (option_map suc o) ≡ is_place n o
place_suc n None = refl
place_suc n (Some m) = suc_eq m n

place_zero : (o : Option ℕ) → is_place 0 (option_map suc o) ≡ false
place_zero None = refl
place_zero (Some m) = ne_eqb (suc m) 0 (λ e. absurd (omega (arith, e)))

module _ (e line : Event) where
  first_tells : (rest : Option ℕ) (b : Bool) → is_place 0 (if b then (if b && same_happening e.what line.what then Some 0 else None) else option_map suc rest) ≡ (b && same_happening e.what line.what)
  first_tells rest true = by (same_happening e.what line.what)
    where
      by : (t : Bool) → is_place 0 (if t then Some 0 else None) ≡ t
      by true = eq-eqb 0 0 refl
      by false = refl
  first_tells rest false = place_zero rest

  -- one that stands before has another name
  other_tells : (d : Event) (n : ℕ) (rest : Option ℕ) → same_name (name_of d) (name_of e) ≡ false → (b : Bool) → same_name (name_of d) (name_of line) ≡ b →
      is_place n rest ≡ same_event e line → is_place (suc n) (if b then (if same_event d line then Some 0 else None) else option_map suc rest) ≡ same_event e line
  other_tells d n rest apart false is next = place_suc n rest ∙ next
  other_tells d n rest apart true is next = none (same_event d line) ∙ sym (not_same (same_name (name_of e) (name_of line)) refl)
    where
      none : (t : Bool) → is_place (suc n) (if t then Some 0 else None) ≡ false
      none true = ne_eqb 0 (suc n) (λ z. absurd (omega (arith, z)))
      none false = refl

      not_same : (t : Bool) → same_name (name_of e) (name_of line) ≡ t → (t && same_happening e.what line.what) ≡ false
      not_same false t = refl
      not_same true t =
          let x = name_equal (name_of d) (name_of line) is in
          let y = name_equal (name_of e) (name_of line) t in
          absurd cc (apart, ap (λ (q : Name). same_name (name_of d) q) (y ∙ sym x), name_same (name_of d))

  pub tells_is : (front rest : List Event) → list_any (λ f. same_name (name_of f) (name_of e)) front ≡ false → tells_event (front ++ e ∷ rest) (length front) line ≡ same_event e line
  tells_is [] rest fresh = first_tells (equal_at rest line) (same_name (name_of e) (name_of line))
  tells_is (d ∷ front) rest fresh =
      let p = or_parts (same_name (name_of d) (name_of e)) (list_any (λ f. same_name (name_of f) (name_of e)) front) fresh in
      other_tells d (length front) (equal_at (front ++ e ∷ rest) line) p.0 (same_name (name_of d) (name_of line)) refl (tells_is front rest p.1)
    where
      or_parts : (a b : Bool) → (a || b) ≡ false → (a ≡ false) × (b ≡ false)
      or_parts false b h = (refl, h)
      or_parts true b h = absurd cc

pub told_is : (e : Event) (front rest : List Event) (switches : List SwitchRecord) → list_any (λ f. same_name (name_of f) (name_of e)) front ≡ false → is_told_as_executed (front ++ e ∷ rest) switches (length front) ≡ has_event_line switches e
told_is e front rest switches fresh =
    any_same (λ t. list_any (tells_event (front ++ e ∷ rest) (length front)) t.events) (λ t. list_any (same_event e) t.events) switches
    (λ t. any_same (tells_event (front ++ e ∷ rest) (length front)) (same_event e) t.events (λ line. tells_is e line front rest fresh))

-- ---- executed lines

none_any : {A : Type 0} (p : A → Bool) (xs : List A) → ((x : A) → p x ≡ false) → list_any p xs ≡ false
none_any p [] e = refl
none_any p (x ∷ xs) e = ap (λ b. b || list_any p xs) (e x) ∙ none_any p xs e

module _ (life number : ℕ) where
  none_below : (k s : ℕ) (switches : List SwitchRecord) → s < k → is_executed k switches (s, life, number) ≡ false
  none_below k s [] lt = refl
  none_below k s (t ∷ switches) lt =
      ap (λ b. b || is_executed (k + 1) switches (s, life, number))
      (none_any (executed_as_told k (s, life, number)) t.executed (λ y. ap (λ b. b && nat_eq y.life life && nat_eq y.number number) (ne_eqb k s (λ e. absurd (omega (arith, e, lt))))))
      ∙ none_below (k + 1) s switches (omega (arith, lt))

  pub executed_at : (k s : ℕ) (switches : List SwitchRecord) → is_executed k switches (k + s, life, number) ≡ has_executed_line switches s life number
  executed_at k s [] = refl
  executed_at k zero (t ∷ switches) =
      ap (λ b. b || is_executed (k + 1) switches (k + 0, life, number))
      (any_same (executed_as_told k (k + 0, life, number)) (λ y. nat_eq y.life life && nat_eq y.number number) t.executed (λ y. ap (λ b. b && nat_eq y.life life && nat_eq y.number number) (eq-eqb k (k + 0) (omega arith))))
      ∙ ap (λ b. list_any (λ y. nat_eq y.life life && nat_eq y.number number) t.executed || b) (none_below (k + 1) (k + 0) switches (omega arith))
      ∙ or_none (list_any (λ y. nat_eq y.life life && nat_eq y.number number) t.executed)
    where
      or_none : (b : Bool) → (b || false) ≡ b
      or_none true = refl
      or_none false = refl
  executed_at k (suc s) (t ∷ switches) =
      ap (λ b. b || is_executed (k + 1) switches (k + suc s, life, number))
      (none_any (executed_as_told k (k + suc s, life, number)) t.executed (λ y. ap (λ b. b && nat_eq y.life life && nat_eq y.number number) (ne_eqb k (k + suc s) (λ e. absurd (omega (arith, e))))))
      ∙ ap (λ (n : ℕ). is_executed (k + 1) switches (n, life, number)) (omega arith) ∙ executed_at (k + 1) s switches

-- ---- a line of the log

both : (m a b : Bool) → (m ≡ true → a ≡ b) → not (m && a) ≡ not (m && b)
both true a b h = ap (λ x. not x) (h refl)
both false a b h = refl

index_map : {A B : Type 0} (f : List A → List B) (xs : List (List A)) (j : ℕ) → f [] ≡ [] → slice_index_or (map f xs) j [] ≡ f (slice_index_or xs j [])
index_map f [] j none = sym none
index_map f (x ∷ xs) zero none = refl
index_map f (x ∷ xs) (suc j) none = index_map f xs j none

all_map : {A B : Type 0} (p : B → Bool) (f : A → B) (xs : List A) → list_all p (map f xs) ≡ list_all (λ x. p (f x)) xs
all_map p f [] = refl
all_map p f (x ∷ xs) = ap (λ b. p (f x) && b) (all_map p f xs)

module _ (kinds : List ℕ) (r : Record) (ev : Evidence) (evident : IsEvidence kinds r ev) (before rest : List Entry) (f : Following) (standing : IsStanding before f) where
  settled_is : (x : Issued) → is_settled_by ev f (issued_name x) ≡ is_settled_line r.switches before x
  settled_is x =
      ap (λ b. b || nat_lt x.life (get_or f.lives x.switch 0)) (evident.executed (issued_name x) ∙ ap (λ (n : ℕ). is_executed 0 r.switches (n, x.life, x.number)) (omega arith) ∙ executed_at x.life x.number 0 x.switch r.switches)
      ∙ ap (λ (l : ℕ). has_executed_line r.switches x.switch x.life x.number || nat_lt x.life l) (standing.followed.lives x.switch)

  pub entry_is : (entry : Entry) → r.log ≡ before ++ entry ∷ rest → entry_fails_by ev f entry ≡ entry_fails kinds r before entry
  entry_is (Received e) is =
      ap (λ m. not (m && get_or ev.told.items f.received false)) (may_is before f (Received e) standing.followed)
      ∙ both (may_follow before (Received e)) (get_or ev.told.items f.received false) (has_event_line r.switches e)
      (λ may. ap (λ (n : ℕ). get_or ev.told.items n false) standing.followed.events ∙ evident.told (length (received before))
      ∙ ap (λ (l : List Event). is_told_as_executed l r.switches (length (received before))) (ap received is ∙ received-append before (Received e ∷ rest))
      ∙ told_is e (received before) (received rest) r.switches (is_fresh e (received before) standing.sound may))
  entry_is (Processed j) is =
      ap (λ m. not (m && list_all (is_settled_by ev f) (slice_index_or ev.names j []))) (may_is before f (Processed j) standing.followed)
      ∙ ap (λ b. not (may_follow before (Processed j) && b))
      (ap (λ (l : List (List Name)). list_all (is_settled_by ev f) (slice_index_or l j [])) evident.names
      ∙ ap (λ (l : List Name). list_all (is_settled_by ev f) l) (index_map (λ list. map issued_name list) (issues kinds r.setup (received r.log)) j refl)
      ∙ all_map (is_settled_by ev f) issued_name (commands_of kinds r.setup (received r.log) j)
      ∙ all_same (λ x. is_settled_by ev f (issued_name x)) (is_settled_line r.switches before) (commands_of kinds r.setup (received r.log) j) settled_is)
