-- The commands of the first unprocessed event that want a result: they stay the same while more is committed, but for those that are
-- done with.
use Rattle.std.proofs.Common.{◌≡◌, ◌<◌, ℕ, Bool, true, false, List, [], ◌∷◌, length, filter, refl, sym, ◌∙◌, ap, arith, inl, subst}
use Rattle.std.specs.Prelude.{not, ◌&&◌, slice_index_or}
use Rattle.std.proofs.lemmas.Bool.{lt-ltb, ltb-false, ltb-true, true≢false}
use Rattle.std.proofs.lemmas.List.{get_or_append_left}
use Rattle.list_facts.specs.Lists.{IsPrefix, IsIn}
use Rattle.of_types.specs.declared.message.Event.{Event}
use Rattle.of_types.specs.declared.setup.Setup.{Setup}
use Rattle.of_types.specs.Lives.{has_ended, life_in}
use Rattle.vr_log.specs.declared.entry.Entry.{Entry}
use Rattle.vr_log.specs.Log.{is_log, processed, received}
use Rattle.two_stage_log.specs.Counts.{has_unprocessed}
use Rattle.app_core.specs.declared.issued.Issued.{Issued}
use Rattle.app_core.specs.Issued.{commands_of, issues}
use Rattle.app_core.proofs.Issuing.{length-issues}
use Rattle.controller_moves.proofs.ControllerLaws.Issued.{issues_prefix, none_past}
use Rattle.controller_moves.proofs.ControllerLaws.Logs.{received_prefix}
use Rattle.dispatcher.specs.Marks.{Marks, has_result, is_wanted, wanted}
use Rattle.closing_laws.proofs.Primary.Growth.{life_grows}
use Rattle.list_facts.proofs.Elements.{filter_has, filter_passes, in_filter}

module _ {A : Type 0} where
  none_there : (xs : List A) → ((x : A) → IsIn x xs → ⊥) → xs ≡ []
  none_there [] none = refl
  none_there (x ∷ xs) none = absurd (none x (inl refl))

  -- none passes a stronger test
  none_left : (p q : A → Bool) (xs : List A) → ((x : A) → q x ≡ true → p x ≡ true) → filter p xs ≡ [] → filter q xs ≡ []
  none_left p q xs fewer none = none_there (filter q xs) (λ x among.
      subst (λ (ys : List A). IsIn x ys) none (filter_has p xs x (in_filter q xs x among) (fewer x (filter_passes q xs x among))))

-- what is done with stays so
fewer_tests : (a b e f : Bool) → (a ≡ true → e ≡ true) → (b ≡ true → f ≡ true) → (not e && not f) ≡ true → (not a && not b) ≡ true
fewer_tests true b e f first second h = absurd (true≢false (sym h ∙ ap (λ (x : Bool). not x && not f) (first refl)))
fewer_tests false true true f first second h = absurd (true≢false (sym h))
fewer_tests false true false f first second h = absurd (true≢false (sym h ∙ ap not (second refl)))
fewer_tests false false e f first second h = refl

pub ended_stays : (s life : ℕ) {front log : List Entry} → IsPrefix front log → is_log log ≡ true → has_ended s life (received front) ≡ true → has_ended s life (received log) ≡ true
ended_stays s life {front} {log} p one h =
    let before = ltb-true life (life_in s (received front)) h in
    let grows = life_grows s p one in
    lt-ltb life (life_in s (received log)) (omega (arith, before, grows))

pub wanted_before : {front log : List Entry} (marks now : Marks) (x : Issued) → IsPrefix front log → is_log log ≡ true →
    (has_result marks x.switch x.life x.number ≡ true → has_result now x.switch x.life x.number ≡ true) → is_wanted log now x ≡ true → is_wanted front marks x ≡ true
wanted_before {front} {log} marks now x p one kept h =
    fewer_tests (has_result marks x.switch x.life x.number) (has_ended x.switch x.life (received front)) (has_result now x.switch x.life x.number) (has_ended x.switch x.life (received log))
    kept (ended_stays x.switch x.life p one) h

module _ (kinds : List ℕ) (setup : Setup) where
  -- where all events are processed there are none
  pub due_past : (log : List Entry) → has_unprocessed log ≡ false → commands_of kinds setup (received log) (processed log) ≡ []
  due_past log none =
      let past = ltb-false (processed log) (length (received log)) none in
      let long = length-issues kinds setup (received log) in
      none_past (issues kinds setup (received log)) (processed log) (omega (arith, past, long))

  -- the commands of an event stay the same
  pub commands_stay : (es fs : List Event) (j : ℕ) → IsPrefix es fs → j < length es → commands_of kinds setup fs j ≡ commands_of kinds setup es j
  commands_stay es fs j front less =
      let p = issues_prefix kinds setup es fs front in
      let long = length-issues kinds setup es in
      ap (λ (l : List (List Issued)). slice_index_or l j []) p.joined ∙ get_or_append_left (issues kinds setup es) p.rest [] j (omega (arith, long, less))

  pub due_stays : {front log : List Entry} → IsPrefix front log → processed log ≡ processed front → processed front < length (received front) →
      commands_of kinds setup (received log) (processed log) ≡ commands_of kinds setup (received front) (processed front)
  due_stays {front} {log} p same less = ap (λ (n : ℕ). commands_of kinds setup (received log) n) same ∙ commands_stay (received front) (received log) (processed front) (received_prefix p) less

  -- where none was wanted, none is
  pub none_wanted : {front log : List Entry} (marks now : Marks) → IsPrefix front log → is_log log ≡ true → processed log ≡ processed front → processed front < length (received front) →
      ((s l i : ℕ) → has_result marks s l i ≡ true → has_result now s l i ≡ true) → wanted kinds setup front marks ≡ [] → wanted kinds setup log now ≡ []
  none_wanted {front} {log} marks now p one same less kept none =
      ap (λ (xs : List Issued). filter (is_wanted log now) xs) (due_stays p same less)
      ∙ none_left (is_wanted front marks) (is_wanted log now) (commands_of kinds setup (received front) (processed front))
      (λ x h. wanted_before marks now x p one (kept x.switch x.life x.number) h) none
