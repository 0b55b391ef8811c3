-- The commands of the first unprocessed event are told to the switches that have confirmed their role.
use Rattle.std.proofs.Common.{◌≡◌, ◌≤◌, ◌<◌, inl, ℕ, ◌+◌, Bool, true, false, List, [], ◌++◌, length, take, refl, sym, ◌∙◌, ap, subst, arith}
use Rattle.std.specs.Prelude.{nat_eq, not, Some, if◌then◌else◌}
use Rattle.std.specs.List.{range_with_len}
use Rattle.std.proofs.lemmas.Bool.{and_from, and_parts, and_right, eq-eqb, le-ltb, ltb-true, not_from_false, not_from_true, false_from_ne_true}
use Rattle.list_facts.specs.Lists.{IsIn}
use Rattle.list_facts.proofs.Elements.{in_filter}
use Rattle.of_types.specs.declared.setup.Setup.{Setup}
use Rattle.of_types.specs.Lives.{has_ended, life_in}
use Rattle.vr_log.specs.Log.{processed, received}
use Rattle.two_stage_log.specs.Counts.{has_unprocessed}
use Rattle.app_core.specs.declared.issued.Issued.{Issued}
use Rattle.app_core.specs.Chain.{concat}
use Rattle.app_core.specs.Issued.{commands_of, count_issued}
use Rattle.dispatcher.specs.Ledger.{most_commands}
use Rattle.dispatcher.specs.Marks.{has_result, is_confirmed, is_wanted, outstanding, settled_commands, wanted}
use Rattle.of_switch.specs.State.{SwitchState, life_of}
use Rattle.controller_moves.proofs.ControllerLaws.Issued.{issues-take}
use Rattle.group_controller.specs.declared.messages.ControllerSays.{ControllerSays}
use Rattle.group_controller.specs.State.{ControllerState, committed}
use Rattle.group_controller.specs.Settling.{command_letters, is_some_of, is_untold}
use Rattle.journal.specs.declared.journal.Letter.{Letter}
use Rattle.run_spec.specs.declared.messages.Message.{Message}
use Rattle.closing_laws.specs.Serving.{AreFew, IsAttended, IsToldLast, settled_by, letters_told_by}
use Rattle.closing_laws.proofs.Primary.Committing.{settled_is, told_is}
use Rattle.closing_laws.proofs.Primary.Holding.{commanded}
use Rattle.closing_laws.proofs.Primary.Numbering.{command_within, commands_numbered, counted, counted_next}
use Rattle.closing_laws.proofs.Primary.Telling.{commands_are_said, commands_told, no_requests_told, numbers_all, numbers_in, numbers_none, told}

module _ (kinds : List ℕ) (setup : Setup) (c : ControllerState) where
  abbrev pub first : ℕ
  first = processed (committed c)

  abbrev pub due : List Issued
  due = commands_of kinds setup (received (committed c)) first

  abbrev pub wanting : List Issued
  wanting = outstanding kinds setup (committed c) c.marks

  pub among_due : (x : Issued) → IsIn x wanting → IsIn x due
  among_due x h =
      in_filter (is_wanted (committed c) c.marks) due x (in_filter (λ (y : Issued). is_confirmed c.marks y.switch) (wanted kinds setup (committed c) c.marks) x h)

  -- each may be said
  pub few_beyond : AreFew kinds setup → (x : Issued) → IsIn x due → x.number < settled_commands kinds setup (committed c) x.switch x.life + most_commands
  few_beyond few x h =
      let high = (command_within kinds setup first (received (committed c)) x h).1 in
      let small = few.few (received (committed c)) first in
      let same = ap (λ (z : List (List Issued)). count_issued x.switch x.life (concat z)) (issues-take kinds setup first (received (committed c))) in
      omega (arith, high, small, same)

  module _ (s : ℕ) (sw : SwitchState) (young : life_in s (received (committed c)) ≤ life_of sw) (unmarked : (i : ℕ) → has_result c.marks s (life_of sw) i ≡ true → i < settled_by kinds setup c s sw) where
    -- those for a switch that has confirmed its role all want a result
    pub due_wanted : is_confirmed c.marks s ≡ true → numbers_in s (life_of sw) wanting ≡ numbers_in s (life_of sw) due
    due_wanted confirmed =
        numbers_all s (life_of sw) (λ y. is_confirmed c.marks y.switch) (wanted kinds setup (committed c) c.marks) (λ x h switch_is life_is. ap (is_confirmed c.marks) switch_is ∙ confirmed)
        ∙ numbers_all s (life_of sw) (is_wanted (committed c) c.marks) due wants
      where
        wants : (x : Issued) → IsIn x due → x.switch ≡ s → x.life ≡ life_of sw → is_wanted (committed c) c.marks x ≡ true
        wants x h switch_is life_is = and_from (not (has_result c.marks x.switch x.life x.number)) (not (has_ended x.switch x.life (received (committed c))))
            (not_from_false (has_result c.marks x.switch x.life x.number) (false_from_ne_true (has_result c.marks x.switch x.life x.number) open_still))
            (not_from_false (has_ended x.switch x.life (received (committed c))) lasts)
          where
            open_still : has_result c.marks x.switch x.life x.number ≡ true → ⊥
            open_still k =
                let here : has_result c.marks s (life_of sw) x.number ≡ true =
                ap (λ (a : ℕ). has_result c.marks a (life_of sw) x.number) (sym switch_is) ∙ ap (λ (l : ℕ). has_result c.marks x.switch l x.number) (sym life_is) ∙ k in
                let low = (command_within kinds setup first (received (committed c)) x h).0 in
                let same : counted kinds setup x.switch x.life (take first (received (committed c))) ≡ counted kinds setup s (life_of sw) (take first (received (committed c))) =
                ap (λ (a : ℕ). counted kinds setup a x.life (take first (received (committed c)))) switch_is ∙ ap (λ (l : ℕ). counted kinds setup s l (take first (received (committed c)))) life_is in
                let least = settled_is kinds setup c s sw in
                let most = unmarked x.number here in
                omega (arith, low, same, least, most)

            lasts : has_ended x.switch x.life (received (committed c)) ≡ false
            lasts = le-ltb x.life (life_in x.switch (received (committed c)))
                (subst (λ (l : ℕ). life_in x.switch (received (committed c)) ≤ l) (sym life_is) (subst (λ (a : ℕ). life_in a (received (committed c)) ≤ life_of sw) (sym switch_is) young))

    pub numbers_due : has_unprocessed (committed c) ≡ true → is_confirmed c.marks s ≡ true →
        numbers_in s (life_of sw) wanting ≡ range_with_len (settled_by kinds setup c s sw) (count_issued s (life_of sw) due)
    numbers_due there confirmed =
        due_wanted confirmed ∙ commands_numbered kinds setup s (life_of sw) first (received (committed c)) (ltb-true first (length (received (committed c))) there)
        ∙ ap (λ (n : ℕ). range_with_len n (count_issued s (life_of sw) due)) (sym (settled_is kinds setup c s sw))

  -- one that has not is told none
  pub numbers_none_due : (s life : ℕ) → is_confirmed c.marks s ≡ false → numbers_in s life wanting ≡ []
  numbers_none_due s life none =
      numbers_none s life (λ y. is_confirmed c.marks y.switch) (wanted kinds setup (committed c) c.marks) (λ x h switch_is life_is. ap (is_confirmed c.marks) switch_is ∙ none)

  -- the state once they are told
  abbrev pub now_told : ControllerState
  now_told = record c { last_told = Some first }

  pub is_told : is_untold now_told ≡ false
  is_told = let own : nat_eq first first ≡ true = eq-eqb first first refl in and_right (has_unprocessed (committed c)) (not (nat_eq first first)) (not_from_true (nat_eq first first) own)

  pub told_now_last : is_untold c ≡ true → IsToldLast now_told
  told_now_last untold = (omega arith, λ e. (and_parts (has_unprocessed (committed c)) (not (is_some_of first c.last_told)) untold).0)

  pub told_before : is_untold c ≡ true → (s : ℕ) (sw : SwitchState) → letters_told_by kinds setup c s sw ≡ settled_by kinds setup c s sw
  told_before untold s sw =
      let none : first + 0 ≡ first = omega arith in
      told_is kinds setup c s sw ∙ ap (λ (b : Bool). counted kinds setup s (life_of sw) (take (first + (if b then 0 else 1)) (received (committed c)))) untold
      ∙ ap (λ (n : ℕ). counted kinds setup s (life_of sw) (take n (received (committed c)))) none ∙ sym (settled_is kinds setup c s sw)

  pub told_now : has_unprocessed (committed c) ≡ true → (s : ℕ) (sw : SwitchState) → letters_told_by kinds setup now_told s sw ≡ settled_by kinds setup c s sw + count_issued s (life_of sw) due
  told_now there s sw =
      told_is kinds setup now_told s sw ∙ ap (λ (b : Bool). counted kinds setup s (life_of sw) (take (first + (if b then 0 else 1)) (received (committed c)))) is_told
      ∙ counted_next kinds setup s (life_of sw) first (received (committed c)) (ltb-true first (length (received (committed c))) there)
      ∙ ap (λ (n : ℕ). n + count_issued s (life_of sw) due) (sym (settled_is kinds setup c s sw))

  module _ (few : AreFew kinds setup) (untold : is_untold c ≡ true) (s : ℕ) (sw : SwitchState) (young : life_in s (received (committed c)) ≤ life_of sw)
      (done : settled_by kinds setup c s sw ≤ sw.results.executed) where
    abbrev letters : List (Letter ControllerSays)
    letters = command_letters kinds setup c wanting

    pub now_served : (out in_ : List Message) → IsAttended kinds setup c s sw out in_ → IsAttended kinds setup now_told s sw (out ++ told s letters) in_
    now_served out in_ was =
        let there = (and_parts (has_unprocessed (committed c)) (not (is_some_of first c.last_told)) untold).0 in
        let before = told_before untold s sw in
        let after = told_now there s sw in
        commanded kinds setup c now_told s sw (record { view = refl; me = refl; confirmed = refl; marks = λ i. refl; logged = refl }) out in_ (told s letters) was (inl refl) (omega arith)
        (commands_are_said kinds setup (committed c) c.vr.view s wanting (λ x h. few_beyond few x (among_due x h))) (no_requests_told kinds setup (committed c) c.vr.view s wanting) before (omega (arith, after)) done
        (λ h. commands_told kinds setup (committed c) c.vr.view s (life_of sw) wanting
        ∙ numbers_due s sw young (λ i k. let less = was.marks i k in omega (arith, less, before)) there h
        ∙ ap (range_with_len (settled_by kinds setup c s sw)) (omega (arith, after)))
        (λ h. commands_told kinds setup (committed c) c.vr.view s (life_of sw) wanting ∙ numbers_none_due s (life_of sw) h)
