-- More of the primary's log is committed, with at most one event more as processed: what was told of commands stays as it is, and
-- the switch of that event is told so.
use Rattle.std.proofs.Common.{◌≡◌, ◌≤◌, ◌<◌, ◌⊎◌, inl, inr, ℕ, ◌+◌, Bool, true, false, List, [], ◌∷◌, ◌++◌, length, map, take, flat_map, refl, sym, ◌∙◌, ap, subst, arith}
use Rattle.std.specs.Prelude.{nat_eq, not, ◌&&◌, slice_get, Option, Some, IfSome, if◌then◌else◌}
use Rattle.std.specs.List.{range_with_len}
use Rattle.std.proofs.lemmas.Bool.{and_parts, cases_lt, eq-eqb, eqb-true, le-ltb, lt-ltb, ltb-true}
use Rattle.std.proofs.lemmas.List.Sums.{sum_by-append}
use Rattle.std.proofs.lemmas.Option.{IfSome_then, slice_get_cases}
use Rattle.list_facts.specs.Lists.{IsIn, IsPrefix}
use Rattle.list_facts.proofs.Elements.{in_left}
use Rattle.list_facts.proofs.Prefixes.{prefix_length, prefix_take, take_prefix}
use Rattle.of_types.specs.declared.message.Event.{Event}
use Rattle.of_types.specs.declared.setup.Setup.{Setup}
use Rattle.of_types.specs.Lives.{count_in, has_ended, life_in}
use Rattle.vr_log.specs.declared.entry.Entry.{Entry}
use Rattle.vr_log.specs.Log.{is_log, is_processed, processed, received}
use Rattle.two_stage_log.specs.Counts.{has_unprocessed}
use Rattle.app_core.specs.declared.issued.Issued.{Issued}
use Rattle.app_core.specs.Chain.{concat}
use Rattle.app_core.specs.Issued.{count_issued}
use Rattle.dispatcher.specs.Folding.{acknowledgement, acknowledges_event, acknowledges_at, clears_at, places_processed}
use Rattle.dispatcher.specs.Marks.{Marks, has_result, is_confirmed}
use Rattle.of_switch.specs.State.{SwitchState, life_of}
use Rattle.controller_moves.proofs.ControllerLaws.Issued.{issues-take}
use Rattle.controller_moves.proofs.ControllerLaws.Logs.{processed_prefix, received_prefix, take_next}
use Rattle.group_controller.specs.declared.messages.ControllerSays.{ControllerSays}
use Rattle.group_controller.specs.State.{ControllerState, committed}
use Rattle.group_controller.specs.Settling.{ack_letter, answers_at, clear_letter, is_some_of, is_untold}
use Rattle.journal.specs.declared.journal.Letter.{Letter}
use Rattle.run_spec.specs.declared.messages.Message.{Message}
use Rattle.closing_laws.specs.Serving.{IsAttended, IsToldLast, acknowledges_events, events_told, processed_by, settled_by, letters_told_by}
use Rattle.closing_laws.proofs.Primary.Growth.{counted_grows, log_front, places_are, processed_within, same_told}
use Rattle.closing_laws.proofs.Primary.Holding.{IsAcknowledged, answered}
use Rattle.closing_laws.proofs.Primary.Numbering.{counted}
use Rattle.closing_laws.proofs.Primary.Telling.{AreQuiet, quiet_acks, quiet_append, quiet_clears, quiet_nil, told, told-append}

-- the commands that were told, by the events that they are for
pub told_is : (kinds : List ℕ) (setup : Setup) (c : ControllerState) (s : ℕ) (sw : SwitchState) →
    letters_told_by kinds setup c s sw ≡ counted kinds setup s (life_of sw) (take (events_told c) (received (committed c)))
told_is kinds setup c s sw = ap (λ (z : List (List Issued)). count_issued s (life_of sw) (concat z)) (sym (issues-take kinds setup (events_told c) (received (committed c))))

pub settled_is : (kinds : List ℕ) (setup : Setup) (c : ControllerState) (s : ℕ) (sw : SwitchState) →
    settled_by kinds setup c s sw ≡ counted kinds setup s (life_of sw) (take (processed (committed c)) (received (committed c)))
settled_is kinds setup c s sw = ap (λ (z : List (List Issued)). count_issued s (life_of sw) (concat z)) (sym (issues-take kinds setup (processed (committed c)) (received (committed c))))

-- so much more is committed
pub record CommitsMore (c c' : ControllerState) : Type 0 where
  pub view : c'.vr.view ≡ c.vr.view
  pub me : c'.vr.me ≡ c.vr.me
  pub marks : c'.marks ≡ c.marks
  pub last_told : c'.last_told ≡ c.last_told
  pub events : received c'.vr.log ≡ received c.vr.log
  pub more : List Entry
  pub committed_is : committed c' ≡ committed c ++ more
  pub one : is_log (committed c') ≡ true
  pub most : processed (committed c') ≤ processed (committed c) + 1
  pub unfinished : processed (committed c) < processed (committed c') → has_unprocessed (committed c) ≡ true

-- the letters about events that entries have as processed are answers
pub quiet_answers : (kinds : List ℕ) (setup : Setup) (c : ControllerState) (view t : ℕ) (places : List ℕ) → AreQuiet view (told t (flat_map (answers_at kinds setup c) places))
quiet_answers kinds setup c view t [] = quiet_nil view
quiet_answers kinds setup c view t (j ∷ places) =
    let acks = map ack_letter (acknowledges_at (committed c) j) in
    let clears = map clear_letter (clears_at kinds setup (committed c) j) in
    subst (λ (z : List Message). AreQuiet view z) (sym (told-append t (acks ++ clears) (flat_map (answers_at kinds setup c) places)))
    (quiet_append view (told t (acks ++ clears)) (told t (flat_map (answers_at kinds setup c) places))
    (subst (λ (z : List Message). AreQuiet view z) (sym (told-append t acks clears))
    (quiet_append view (told t acks) (told t clears) (quiet_acks view t (acknowledges_at (committed c) j)) (quiet_clears view t (clears_at kinds setup (committed c) j))))
    (quiet_answers kinds setup c view t places))

module _ (kinds : List ℕ) (setup : Setup) (c c' : ControllerState) (m : CommitsMore c c') where
  abbrev K : List Entry
  K = committed c

  abbrev K' : List Entry
  K' = committed c'

  front : IsPrefix K K'
  front = record { rest = m.more; joined = m.committed_is }

  events_front : IsPrefix (received K) (received K')
  events_front = received_prefix front

  one_before : is_log K ≡ true
  one_before = log_front K m.more (sym (ap is_log m.committed_is) ∙ m.one)

  within : processed K ≤ length (received K)
  within = processed_within K one_before

  abbrev pub answers : List (Letter ControllerSays)
  answers = flat_map (answers_at kinds setup c') (places_processed m.more)

  pub settled_grows : (s : ℕ) (sw : SwitchState) → settled_by kinds setup c s sw ≤ settled_by kinds setup c' s sw
  settled_grows s sw =
      let more = counted_grows kinds setup s (life_of sw) (take_prefix (processed K) (processed K') (processed_prefix front) events_front) in
      let a = settled_is kinds setup c s sw in
      let b = settled_is kinds setup c' s sw in
      omega (arith, more, a, b)

  pub told_last : IsToldLast c → IsToldLast c'
  told_last last = subst (λ (o : Option ℕ). IfSome o (λ t. (t ≤ processed K') × (t ≡ processed K' → has_unprocessed K' ≡ true))) (sym m.last_told) (IfSome_then c.last_told last each)
    where
      each : (t : ℕ) → (t ≤ processed K) × (t ≡ processed K → has_unprocessed K ≡ true) → (t ≤ processed K') × (t ≡ processed K' → has_unprocessed K' ≡ true)
      each t h =
          let grows = processed_prefix front in
          let long = prefix_length events_front in
          (omega (arith, grows, h.0), λ e. (let less = ltb-true (processed K) (length (received K)) (h.1 (omega (arith, e, grows, h.0))) in lt-ltb (processed K') (length (received K')) (omega (arith, less, long, e, h.0, grows))))

  pub told_stays : is_untold c ≡ false → IsToldLast c → (s : ℕ) (sw : SwitchState) → letters_told_by kinds setup c' s sw ≡ letters_told_by kinds setup c s sw
  told_stays untold last s sw =
      let same = same_told (received K) (received K') (processed K) (processed K') c.last_told events_front within (processed_within K' m.one) (processed_prefix front) m.most
      (λ h. ltb-true (processed K) (length (received K)) (m.unfinished h)) untold last in
      told_is kinds setup c' s sw
      ∙ ap (λ (o : Option ℕ). counted kinds setup s (life_of sw) (take (processed K' + (if has_unprocessed K' && not (is_some_of (processed K') o) then 0 else 1)) (received K'))) m.last_told
      ∙ ap (λ (es : List Event). counted kinds setup s (life_of sw) es) same
      ∙ ap (λ (b : Bool). counted kinds setup s (life_of sw) (take (processed K + (if b then 0 else 1)) (received K))) (sym untold)
      ∙ sym (told_is kinds setup c s sw)

  module _ (s : ℕ) (sw : SwitchState) where
    -- what is told of the event at a place
    abbrev here : Message
    here = acknowledges_events (life_of sw) (processed_by c' s sw)

    is_answered : (j : ℕ) (e : Event) → slice_get (received K') j ≡ Some e → e.switch ≡ s → e.life ≡ life_of sw → life_in s (received K') ≤ life_of sw → IsIn here (told s (answers_at kinds setup c' j))
    is_answered j e is switch_is life_is young =
        subst (λ (z : List Message). IsIn here z) (sym (told-append s (map ack_letter (acknowledges_at K' j)) (map clear_letter (clears_at kinds setup K' j))))
        (in_left here (told s (map ack_letter (acknowledges_at K' j))) (told s (map clear_letter (clears_at kinds setup K' j)))
        (subst (λ (o : Option Event). IsIn here (told s (map ack_letter (acknowledges_event K' o)))) (sym is)
        (subst (λ (a : ℕ). IsIn here (told s (map ack_letter (if has_ended a e.life (received K') then [] else acknowledgement K' a e.life ∷ [])))) (sym switch_is)
        (subst (λ (l : ℕ). IsIn here (told s (map ack_letter (if has_ended s l (received K') then [] else acknowledgement K' s l ∷ [])))) (sym life_is)
        base))))
      where
        base : IsIn here (told s (map ack_letter (if has_ended s (life_of sw) (received K') then [] else acknowledgement K' s (life_of sw) ∷ [])))
        base =
            let goes_on : has_ended s (life_of sw) (received K') ≡ false = le-ltb (life_of sw) (life_in s (received K')) young in
            let own : nat_eq s s ≡ true = eq-eqb s s refl in
            rw (goes_on, own) (inl refl)

    pub acknowledged : life_in s (received K') ≤ life_of sw → IsAcknowledged kinds setup c c' s sw (told s answers)
    acknowledged young = by_place (cases_lt (processed K) (processed K'))
      where
        by_place : (processed K < processed K') ⊎ (processed K' ≤ processed K) → IsAcknowledged kinds setup c c' s sw (told s answers)
        by_place (inr still) =
            let same : processed K' ≡ processed K = (let g = processed_prefix front in omega (arith, still, g)) in
            inl (ap (λ (n : ℕ). count_in s (life_of sw) (take n (received K'))) same ∙ ap (count_in s (life_of sw)) (sym (prefix_take (processed K) events_front within)))
        by_place (inl rise) = elim (slice_get_cases (received K') (processed K)).1 [
          | inl x ↦ at x.0 x.2 (nat_eq x.0.switch s && nat_eq x.0.life (life_of sw)) refl
          | inr none ↦ absurd (let long = prefix_length events_front in let less = ltb-true (processed K) (length (received K)) (m.unfinished rise) in omega (arith, none.0, long, less))
        ]
          where
            at : (e : Event) → slice_get (received K') (processed K) ≡ Some e → (b : Bool) → (nat_eq e.switch s && nat_eq e.life (life_of sw)) ≡ b → IsAcknowledged kinds setup c c' s sw (told s answers)
            at e is b own = by_own b own
              where
                rises : processed K' ≡ processed K + 1
                rises = let most = m.most in omega (arith, rise, most)

                count : processed_by c' s sw ≡ processed_by c s sw + (if nat_eq e.switch s && nat_eq e.life (life_of sw) then 1 else 0)
                count =
                    let front_is = sym (prefix_take (processed K) events_front within) in
                    let all = ap (λ (n : ℕ). count_in s (life_of sw) (take n (received K'))) rises ∙ ap (count_in s (life_of sw)) (take_next (received K') (processed K) e is ∙ ap (λ (l : List Event). l ++ e ∷ []) front_is) in
                    let parts = sum_by-append (λ (x : Event). if nat_eq x.switch s && nat_eq x.life (life_of sw) then 1 else 0) (take (processed K) (received K)) (e ∷ []) in
                    omega (arith, all, parts)

                places : places_processed m.more ≡ processed K ∷ []
                places =
                    let one = ap processed m.committed_is ∙ sum_by-append (λ (x : Entry). if is_processed x then 1 else 0) K m.more in
                    let n : processed m.more ≡ 1 = omega (arith, one, rises) in
                    places_are K m.more (sym (ap is_log m.committed_is) ∙ m.one) ∙ ap (range_with_len (processed K)) n

                by_own : (b : Bool) → (nat_eq e.switch s && nat_eq e.life (life_of sw)) ≡ b → IsAcknowledged kinds setup c c' s sw (told s answers)
                by_own false other =
                    let none : processed_by c s sw + 0 ≡ processed_by c s sw = omega arith in
                    inl (count ∙ ap (λ (b : Bool). processed_by c s sw + (if b then 1 else 0)) other ∙ none)
                by_own true mine =
                    let both = and_parts (nat_eq e.switch s) (nat_eq e.life (life_of sw)) mine in
                    inr (subst (λ (l : List ℕ). IsIn here (told s (flat_map (answers_at kinds setup c') l))) (sym places)
                    (subst (λ (z : List Message). IsIn here z) (sym (told-append s (answers_at kinds setup c' (processed K)) []))
                    (in_left here (told s (answers_at kinds setup c' (processed K))) [] (is_answered (processed K) e is (eqb-true e.switch s both.0) (eqb-true e.life (life_of sw) both.1) young))))

    pub more_committed : is_untold c ≡ false → IsToldLast c → life_in s (received K') ≤ life_of sw → (out in_ : List Message) → IsAttended kinds setup c s sw out in_ →
        IsAttended kinds setup c' s sw (out ++ told s answers) in_
    more_committed untold last young out in_ was =
        answered kinds setup c c' s sw
        (record {
          view = m.view;
          me = m.me;
          confirmed = ap (λ (x : Marks). is_confirmed x s) m.marks;
          marks = λ i. ap (λ (x : Marks). has_result x s (life_of sw) i) m.marks;
          logged = ap (count_in s (life_of sw)) m.events;
        })
        out in_ (told s answers) was (acknowledged young) (settled_grows s sw) (quiet_answers kinds setup c' c.vr.view s (places_processed m.more)) (told_stays untold last s sw)
