-- The lines of the switches are judged as the audit has it, where no line of the log fails.
use Rattle.std.proofs.Common.{◌≡◌, ℕ, zero, suc, ◌+◌, Bool, true, false, not, ◌&&◌, ◌||◌, List, ◌∷◌, [], ◌++◌, length, map, take, replicate, Option, Some, None, cond, refl, sym, ap, subst, ◌∙◌, arith, Ok}
use Rattle.std.specs.Prelude.{nat_eq, nat_lt, nat_le, count_by, option_map, if◌then◌else◌}
use Rattle.std.specs.List.{list_any, find}
use Rattle.std.proofs.lemmas.Bool.Decides.{nat_tests}
use Rattle.std.proofs.lemmas.List.{length-replicate}
use Rattle.of_types.specs.declared.message.Event.{Event}
use Rattle.of_types.specs.declared.message.Executed.{Executed}
use Rattle.of_types.specs.declared.message.Order.{Order}
use Rattle.of_types.specs.Setups.{IsSetup}
use Rattle.vr_log.specs.declared.entry.Entry.{Entry}
use Rattle.vr_log.specs.declared.entry.Entry.TheVariants.{Received, Processed}
use Rattle.vr_log.specs.Log.{received, processed}
use Rattle.vr_log.specs.Same.{same_event, same_happening}
use Rattle.app_core.specs.declared.issued.Issued.{Issued}
use Rattle.app_core.specs.Chain.{concat}
use Rattle.app_core.specs.Issued.{issues}
use Rattle.report.specs.declared.outline.Outline.{Outline}
use Rattle.report.specs.declared.record.Record.{Record}
use Rattle.report.specs.declared.record.SwitchRecord.{SwitchRecord}
use Rattle.report.specs.Outline.{bare, outline_of}
use Rattle.report.specs.Reading.{report_at}
use Rattle.report.proofs.RecordTaken.{report_takes}
use Rattle.audit.specs.declared.switch_lines.Committed.{Committed}
use Rattle.audit.specs.Audit.{entry_fails, is_processed_line, events_fail, differs_from, executed_fails, told_fails, switches_fail, log_fails, lines_before, lines_fail, first_failing, differs}
use Rattle.audit.specs.Issuing.{order_in}
use Rattle.audit.specs.Judging.{is_below, is_processed_in, events_fail_by, order_fails, executed_fails_by, told_fails_by, switches_fail_by, IsCommittedLog, outline_before, outline_fails}
use Rattle.audit.specs.Names.{Name, same_name, name_of, issued_name}
use Rattle.audit.specs.Received.{equal_at}
use Rattle.audit.proofs.Failing.{first_here, first_behind, none_fails}
use Rattle.audit.proofs.Followed.{sound_all}
use Rattle.audit.proofs.Naming.{name_equal}
use Rattle.audit.proofs.Standing.{AreApart, IsSound, nothing_sound}

below_suc : (n : ℕ) (o : Option ℕ) → is_below (suc n) (option_map suc o) ≡ is_below n o
below_suc n None = refl
below_suc n (Some i) = grind (arith, nat_tests)

below_zero : (o : Option ℕ) → is_below 0 o ≡ false
below_zero None = refl
below_zero (Some i) = grind (arith, nat_tests)

first_below : (n : ℕ) → nat_lt 0 (suc n) ≡ true
first_below n = grind (arith, nat_tests)

take_none : {A : Type 0} (p : A → Bool) (n : ℕ) → list_any p (take n []) ≡ false
take_none p zero = refl
take_none p (suc n) = refl

module _ (line : Event) where
  -- no event of another name is equal
  none_equal : (e : Event) (n : ℕ) (events : List Event) → same_name (name_of e) (name_of line) ≡ true → list_any (λ f. same_name (name_of f) (name_of e)) events ≡ false → list_any (λ f. same_event f line) (take n events) ≡ false
  none_equal e n [] is apart = take_none (λ f. same_event f line) n
  none_equal e zero (f ∷ events) is apart = refl
  none_equal e (suc n) (f ∷ events) is apart = by (same_name (name_of f) (name_of e)) refl apart (none_equal e n events is)
    where
      other : (t : Bool) → same_name (name_of f) (name_of line) ≡ t → same_name (name_of f) (name_of e) ≡ false → (t && same_happening f.what line.what) ≡ false
      other false t h = refl
      other true t h = absurd cc (h, ap (λ (q : Name). same_name (name_of f) q) (name_equal (name_of e) (name_of line) is), t)

      by : (b : Bool) → same_name (name_of f) (name_of e) ≡ b → (b || list_any (λ g. same_name (name_of g) (name_of e)) events) ≡ false →
          (list_any (λ g. same_name (name_of g) (name_of e)) events ≡ false → list_any (λ g. same_event g line) (take n events) ≡ false) →
          (same_event f line || list_any (λ g. same_event g line) (take n events)) ≡ false
      by true is h rest = absurd cc
      by false apart h rest = ap (λ b. b || list_any (λ g. same_event g line) (take n events)) (other (same_name (name_of f) (name_of line)) refl apart) ∙ rest h

  one_is : (e : Event) (n : ℕ) (o : Option ℕ) (rest : Bool) (b : Bool) → (b ≡ true → rest ≡ false) → is_below n o ≡ rest →
      is_below (suc n) (if b then (if b && same_happening e.what line.what then Some 0 else None) else option_map suc o) ≡ ((b && same_happening e.what line.what) || rest)
  one_is e n o rest true none h = by (same_happening e.what line.what) (none refl)
    where
      by : (t : Bool) → rest ≡ false → is_below (suc n) (if t then Some 0 else None) ≡ (t || rest)
      by true z = first_below n
      by false z = sym z
  one_is e n o rest false none h = below_suc n o ∙ h

  pub below_is : (n : ℕ) (events : List Event) → AreApart events → is_below n (equal_at events line) ≡ list_any (λ e. same_event e line) (take n events)
  below_is n [] apart = sym (take_none (λ e. same_event e line) n)
  below_is zero (e ∷ events) apart = below_zero (equal_at (e ∷ events) line)
  below_is (suc n) (e ∷ events) apart =
      one_is e n (equal_at events line) (list_any (λ f. same_event f line) (take n events)) (same_name (name_of e) (name_of line)) (λ is. none_equal e n events is apart.0) (below_is n events apart.1)

order_is : (all : List Issued) (switch : ℕ) (y : Executed) → order_fails (order_in all (switch, y.life, y.number)) y.order ≡ executed_fails all switch y
order_is [] switch y = refl
order_is (x ∷ all) switch y = by (same_name (issued_name x) (switch, y.life, y.number)) (order_in all (switch, y.life, y.number)) (find (λ z. nat_eq z.switch switch && nat_eq z.life y.life && nat_eq z.number y.number) all) (order_is all switch y)
  where
    by : (b : Bool) (o : Option Order) (f : Option Issued) → order_fails o y.order ≡ differs_from f y.order → order_fails (if b then Some x.order else o) y.order ≡ differs_from (cond b (Some x) f) y.order
    by true o f h = refl
    by false o f h = h

module _ (kinds : List ℕ) (r : Record) (c : Committed) (committed : IsCommittedLog kinds r c) (sound : IsSound (received r.log)) where
  processed_is : (line : Event) → is_processed_in c line ≡ is_processed_line r.log line
  processed_is line =
      ap (λ (n : ℕ). is_below n (equal_at c.received line)) committed.finished
      ∙ ap (λ (l : List Event). is_below (processed r.log) (equal_at l line)) committed.events
      ∙ below_is line (processed r.log) (received r.log) sound.apart

  events_are : (t : SwitchRecord) (events : List Event) → events_fail_by c t.life t.held events ≡ events_fail r.log t events
  events_are t [] = refl
  events_are t (e ∷ events) =
      ap (λ (b : Bool). (nat_eq e.life t.life && nat_le t.held (count_by (λ f. nat_eq f.life t.life) events) && not b) ∷ events_fail_by c t.life t.held events) (processed_is e)
      ∙ ap (λ (l : List Bool). (nat_eq e.life t.life && nat_le t.held (count_by (λ f. nat_eq f.life t.life) events) && not (is_processed_line r.log e)) ∷ l) (events_are t events)

  executed_is : (switch : ℕ) (y : Executed) → executed_fails_by c switch y ≡ executed_fails (concat (issues kinds r.setup (received r.log))) switch y
  executed_is switch y = ap (λ o. order_fails o y.order) (committed.orders (switch, y.life, y.number)) ∙ order_is (concat (issues kinds r.setup (received r.log))) switch y

  map_same : (f g : Executed → Bool) (xs : List Executed) → ((y : Executed) → f y ≡ g y) → map f xs ≡ map g xs
  map_same f g [] e = refl
  map_same f g (x ∷ xs) e = ap (λ b. b ∷ map f xs) (e x) ∙ ap (λ l. g x ∷ l) (map_same f g xs e)

  told_are : (switch : ℕ) (t : SwitchRecord) → told_fails_by c switch t ≡ told_fails kinds r switch t
  told_are switch t =
      ap (λ (l : List Bool). false ∷ (l ++ (map (executed_fails_by c switch) t.executed ++ replicate (length t.rows) false))) (events_are t t.events)
      ∙ ap (λ (l : List Bool). false ∷ (events_fail r.log t t.events ++ (l ++ replicate (length t.rows) false)))
      (map_same (executed_fails_by c switch) (executed_fails (concat (issues kinds r.setup (received r.log))) switch) t.executed (executed_is switch))

  pub switches_are : (switch : ℕ) (switches : List SwitchRecord) → switches_fail_by c switch switches ≡ switches_fail kinds r switch switches
  switches_are switch [] = refl
  switches_are switch (t ∷ switches) =
      ap (λ (l : List Bool). l ++ switches_fail_by c (switch + 1) switches) (told_are switch t) ∙ ap (λ (l : List Bool). told_fails kinds r switch t ++ l) (switches_are (switch + 1) switches)

-- ---- the whole report

length-log_fails : (kinds : List ℕ) (r : Record) (before log : List Entry) → length (log_fails kinds r before log) ≡ length log
length-log_fails kinds r before [] = refl
length-log_fails kinds r before (e ∷ log) = ap suc (length-log_fails kinds r (before ++ e ∷ []) log)

module _ (kinds : List ℕ) (o : Outline) where
  pub first_is : first_failing 1 (outline_fails kinds o) ≡ first_failing (outline_before o + 1) (log_fails kinds o.bare [] o.bare.log ++ switches_fail kinds o.bare 0 o.bare.switches)
  first_is =
      first_behind 1 (replicate (outline_before o) false) (log_fails kinds o.bare [] o.bare.log ++ switches_fail kinds o.bare 0 o.bare.switches) (none_fails 1 (outline_before o))
      ∙ ap (λ (n : ℕ). first_failing n (log_fails kinds o.bare [] o.bare.log ++ switches_fail kinds o.bare 0 o.bare.switches)) (let e = length-replicate {A = Bool} (outline_before o) false in omega (arith, e))

  pub log_first : (line n : ℕ) (found : Option ℕ) → line ≡ outline_before o + 1 → found ≡ first_failing line (log_fails kinds o.bare [] o.bare.log) → found ≡ Some n → Some n ≡ first_failing 1 (outline_fails kinds o)
  log_first line n found from is some =
      sym (first_is ∙ ap (λ (m : ℕ). first_failing m (log_fails kinds o.bare [] o.bare.log ++ switches_fail kinds o.bare 0 o.bare.switches)) (sym from)
      ∙ first_here line n (log_fails kinds o.bare [] o.bare.log) (switches_fail kinds o.bare 0 o.bare.switches) (sym is ∙ some))

  pub switches_first : (line switches : ℕ) (found : Option ℕ) (c : Committed) → line ≡ outline_before o + 1 → found ≡ first_failing line (log_fails kinds o.bare [] o.bare.log) → found ≡ None →
      switches ≡ line + length o.bare.log → IsCommittedLog kinds o.bare c → first_failing switches (switches_fail_by c 0 o.bare.switches) ≡ first_failing 1 (outline_fails kinds o)
  switches_first line switches found c from is none next committed =
      let sound = sound_all kinds o.bare line [] o.bare.log (sym is ∙ none) nothing_sound in
      ap (λ (l : List Bool). first_failing switches l) (switches_are kinds o.bare c committed sound 0 o.bare.switches)
      ∙ ap (λ (n : ℕ). first_failing n (switches_fail kinds o.bare 0 o.bare.switches)) (next ∙ ap (λ (n : ℕ). line + n) (sym (length-log_fails kinds o.bare [] o.bare.log)))
      ∙ sym (first_is ∙ ap (λ (m : ℕ). first_failing m (log_fails kinds o.bare [] o.bare.log ++ switches_fail kinds o.bare 0 o.bare.switches)) (sym from)
      ∙ first_behind line (log_fails kinds o.bare [] o.bare.log) (switches_fail kinds o.bare 0 o.bare.switches) (sym is ∙ none))

-- ---- a report by its outline

log_same : (kinds : List ℕ) (r : Record) (before log : List Entry) → log_fails kinds (bare r) before log ≡ log_fails kinds r before log
log_same kinds r before [] = refl
log_same kinds r before (Received e ∷ log) = ap (λ (l : List Bool). entry_fails kinds r before (Received e) ∷ l) (log_same kinds r (before ++ Received e ∷ []) log)
log_same kinds r before (Processed j ∷ log) = ap (λ (l : List Bool). entry_fails kinds r before (Processed j) ∷ l) (log_same kinds r (before ++ Processed j ∷ []) log)

switches_same : (kinds : List ℕ) (r : Record) (switch : ℕ) (switches : List SwitchRecord) → switches_fail kinds (bare r) switch switches ≡ switches_fail kinds r switch switches
switches_same kinds r switch [] = refl
switches_same kinds r switch (t ∷ switches) = ap (λ (l : List Bool). told_fails kinds r switch t ++ l) (switches_same kinds r (switch + 1) switches)

pub outline_same : (kinds : List ℕ) (r : Record) → outline_fails kinds (outline_of r) ≡ lines_fail kinds r
unfolding lines_fail
outline_same kinds r =
    ap (λ (l : List Bool). replicate (lines_before r) false ++ (l ++ switches_fail kinds (bare r) 0 r.switches)) (log_same kinds r [] r.log)
    ∙ ap (λ (l : List Bool). replicate (lines_before r) false ++ (log_fails kinds r [] r.log ++ l)) (switches_same kinds r 0 r.switches)

module _ (bytes : List ℕ) (o : Outline) (r : Record) (read : report_at bytes ≡ Ok r) (is : o ≡ outline_of r) where
  pub outline_setup : IsSetup o.bare.setup
  outline_setup = subst (λ (o : Outline). IsSetup o.bare.setup) (sym is) (report_takes bytes r read).0.setup

  pub outline_differs : (kinds : List ℕ) → first_failing 1 (outline_fails kinds o) ≡ differs kinds bytes
  unfolding differs
  outline_differs kinds =
      let same : first_failing 1 (lines_fail kinds r) ≡ differs kinds bytes = rw (differs, read) refl in
      ap (λ (o : Outline). first_failing 1 (outline_fails kinds o)) is ∙ ap (λ (l : List Bool). first_failing 1 l) (outline_same kinds r) ∙ same
