-- A turn of a switch that hears the truth keeps it sound, and it says the truth.
use Rattle.std.proofs.Common.{◌≡◌, ◌≤◌, ◌⊎◌, ℕ, ◌+◌, true, List, [], ◌∷◌, ◌++◌, length, refl, sym, ◌∙◌, ap, subst, inl, inr, arith, length-append, get_or}
use Rattle.std.specs.Prelude.{nat_eq, slice_get, ◌-◌, Some}
use Rattle.std.specs.List.{AllByRecursion}
use Rattle.std.proofs.lemmas.Bool.{cases_Bool, eqb-true, eq-eqb}
use Rattle.std.proofs.lemmas.List.{length-drop}
use Rattle.of_types.specs.declared.message.Event.{Event}
use Rattle.of_types.specs.declared.message.Executed.{Executed}
use Rattle.of_types.specs.declared.message.Extension.TheVariants as extension
use Rattle.of_types.specs.declared.message.Happening.{Happening}
use Rattle.of_types.specs.declared.message.OfMessage.{OfMessage}
use Rattle.of_types.specs.declared.message.OfMessage.TheVariants as plain
use Rattle.of_types.specs.declared.message.Order.{Order}
use Rattle.of_types.specs.declared.message.Order.TheVariants as order
use Rattle.of_types.specs.declared.message.Outcome.{Outcome}
use Rattle.of_types.specs.declared.message.Row.{Row}
use Rattle.of_types.specs.declared.message.Spoken.TheVariants as spoken
use Rattle.of_types.specs.declared.setup.Setup.{Setup}
use Rattle.of_types.specs.Valid.{IsValidMatch}
use Rattle.journal.specs.declared.journal.Letter.{Letter}
use Rattle.journal.specs.declared.journal.Local.TheVariants as local
use Rattle.list_facts.proofs.Elements.{all_in, all_of, filter_has, in_append, in_drop, in_left, in_right}
use Rattle.list_facts.proofs.Places.{get_last, get_push, get_zero, in_get, none_of}
use Rattle.list_facts.proofs.Prefixes.{filter_more, filter_same, prefix_push, prefix_refl, prefix_trans}
use Rattle.list_facts.specs.Lists.{IsIn, IsPrefix}
use Rattle.two_stage_log.specs.Counts.{processed_of}
use Rattle.flow_clock.specs.Clocked.{rows_in}
use Rattle.flow_clock.proofs.Remaining.{changed_rows}
use Rattle.event_buffer.specs.Buffer.{next_event, cleared_to}
use Rattle.of_switch.specs.declared.says.SwitchInput.{SwitchInput}
use Rattle.of_switch.specs.declared.says.SwitchInput.TheVariants as switch_input
use Rattle.of_switch.specs.declared.says.SwitchSays.{SwitchSays}
use Rattle.of_switch.specs.State.{SwitchState, SwitchTurn, rows_of, life_of}
use Rattle.of_switch.specs.Events.{with_event, cleared, next_life}
use Rattle.of_switch.specs.Commands.{counted_command}
use Rattle.of_switch.specs.Rules.{switch_turn}
use Rattle.run_laws.specs.OnceLaws.SwitchTurns.{BringsFrame, Wire, Peer, Output}
use Rattle.run_laws.proofs.OnceLaws.TableRows.{all_changed, opening_valid}
use Rattle.run_laws.proofs.OnceLaws.SwitchMoves.{is_question, IsRaised, Ports, Packets, Removed, IsSaid, Tells, Reports, Roles, Refuses, Answers, Explains, Greets, Forwards, Move, Raises, Says, Notes, Changes, Ages, Clears, Executes, Masters, Fences, Restarts, turn_keeps}
use Rattle.run_laws.specs.OnceLaws.Facts.{PastFacts, events_of, executed_of}
use Rattle.app_core.specs.Orders.{AreBytes}
use Rattle.run_laws.specs.OnceLaws.Truths.{IsGoodHappening, IsMade, IsNumbered, MayTell}
use Rattle.run_laws.specs.OnceLaws.Invariant.{IsWell, SwitchIsSound, IsReport, Reported, Forwarded, IsHeardBySwitch}
use Rattle.run_laws.proofs.OnceLaws.Growing.{report_more}

-- a switch in the midst of a turn
pub record SwitchKeeps (kinds : List ℕ) (setup : Setup) (f : PastFacts) (s : ℕ) (start : SwitchState) (t : SwitchTurn) : Type 0 where
  pub sound : SwitchIsSound kinds setup f s t.state
  pub events : IsPrefix start.events t.state.events
  pub executed : IsPrefix start.executed t.state.executed
  pub said : (l : Letter SwitchSays) → IsIn l t.letters → IsReport s t.state.events t.state.executed l

-- a controller asks no question
not_asked : (kinds : List ℕ) (setup : Setup) (f : PastFacts) (c s : ℕ) (m : OfMessage) → is_question m ≡ true → MayTell kinds setup f c s (spoken.Plain m) → ⊥
not_asked kinds setup f c s (plain.EchoRequest body) h k = k
not_asked kinds setup f c s plain.FeaturesRequest h k = k
not_asked kinds setup f c s plain.BarrierRequest h k = k
not_asked kinds setup f c s (plain.RoleRequest role generation) h k = absurd cc
not_asked kinds setup f c s _ h k = k

-- the events of a life, with one more
more_events : (xs : List Event) (y : Event) (life : ℕ) → ((life ≡ y.life) × (events_of life (xs ++ y ∷ []) ≡ events_of life xs ++ y ∷ [])) ⊎ (events_of life (xs ++ y ∷ []) ≡ events_of life xs)
more_events xs y life = elim (cases_Bool (nat_eq y.life life)) [
  | inl own ↦ inl (sym (eqb-true y.life life own), filter_more (λ (e : Event). nat_eq e.life life) xs y own)
  | inr other ↦ inr (filter_same (λ (e : Event). nat_eq e.life life) xs y other)
]

own_events : (xs : List Event) (y : Event) → events_of y.life (xs ++ y ∷ []) ≡ events_of y.life xs ++ y ∷ []
own_events xs y = filter_more (λ (e : Event). nat_eq e.life y.life) xs y (eq-eqb y.life y.life refl)

more_executed : (xs : List Executed) (y : Executed) (life : ℕ) → ((life ≡ y.life) × (executed_of life (xs ++ y ∷ []) ≡ executed_of life xs ++ y ∷ [])) ⊎ (executed_of life (xs ++ y ∷ []) ≡ executed_of life xs)
more_executed xs y life = elim (cases_Bool (nat_eq y.life life)) [
  | inl own ↦ inl (sym (eqb-true y.life life own), filter_more (λ (e : Executed). nat_eq e.life life) xs y own)
  | inr other ↦ inr (filter_same (λ (e : Executed). nat_eq e.life life) xs y other)
]

own_executed : (xs : List Executed) (y : Executed) → executed_of y.life (xs ++ y ∷ []) ≡ executed_of y.life xs ++ y ∷ []
own_executed xs y = filter_more (λ (e : Executed). nat_eq e.life y.life) xs y (eq-eqb y.life y.life refl)

-- where an event stands among those of its life
pub event_at : (xs : List Event) (e : Event) → IsIn e xs → (i : ℕ) × (slice_get (events_of e.life xs) i ≡ Some e)
event_at xs e h = in_get (events_of e.life xs) e (filter_has (λ (y : Event). nat_eq y.life e.life) xs e h (eq-eqb e.life e.life refl))

at_seam : (xs : List ℕ) (y i : ℕ) → i ≡ length xs → get_or (xs ++ y ∷ []) i 0 ≡ y
at_seam xs y i e = ap (λ (n : ℕ). get_or (xs ++ y ∷ []) n 0) e ∙ seam xs y
  where
    seam : (xs : List ℕ) (y : ℕ) → get_or (xs ++ y ∷ []) (length xs) 0 ≡ y
    seam [] y = refl
    seam (z ∷ xs) y = seam xs y

module _ (s : ℕ) where
  -- one more event
  well_raises : (state : SwitchState) (what : Happening) → IsWell s state → IsWell s (with_event state what)
  well_raises state what h =
      let e : Event = next_event state.buffer what in
      let seam : events_of (life_of state) (state.events ++ e ∷ []) ≡ events_of (life_of state) state.events ++ e ∷ [] = own_events state.events e in
      let next = h.next in
      record {
        number_is = h.number_is;
        lives = h.lives;
        made = λ life i y at. elim (more_events state.events e life) [
          | inl own ↦
              elim (get_push (events_of life state.events) e y i (ap (λ (l : List Event). slice_get l i) (sym own.1) ∙ at)) [
                | inl old ↦ h.made life i y old
                | inr new ↦
                    let place : e.number ≡ i = next ∙ ap (λ (n : ℕ). length (events_of n state.events)) (sym own.0) ∙ sym new.0 in
                    let same = own.0 in
                    (omega (arith, same), subst (λ (z : Event). IsMade s life i z) (sym new.1) (record { switch_is = h.number_is; life_is = sym own.0; number_is = place }))
              ]
          | inr other ↦ h.made life i y (ap (λ (l : List Event). slice_get l i) (sym other) ∙ at)
        ];
        held = λ y k. elim (in_append y state.buffer.held (e ∷ []) k) [
          | inl old ↦ in_left y state.events (e ∷ []) (h.held y old)
          | inr new ↦ in_right y state.events (e ∷ []) new
        ];
        next = omega (arith, next, ap (λ (l : List Event). length l) seam, length-append (events_of (life_of state) state.events) (e ∷ []), length-append state.buffer.held (e ∷ []));
        done = h.done;
        count = h.count;
      }

  -- events leave
  well_clears : (state : SwitchState) (through : ℕ) → IsWell s state → IsWell s (cleared state through)
  well_clears state through h =
      let next = h.next in
      let gone = cleared_to state.buffer through - state.buffer.cleared in
      record {
        number_is = h.number_is;
        lives = h.lives;
        made = h.made;
        held = λ y k. h.held y (in_drop gone state.buffer.held y k);
        next = omega (arith, next, length-drop gone state.buffer.held);
        done = h.done;
        count = h.count;
      }

  -- a command is carried out
  well_executes : (state : SwitchState) (c generation number : ℕ) (what : Order) (result : Outcome) → number ≡ state.results.executed → IsWell s state → IsWell s (counted_command c generation number what result state)
  well_executes state c generation number what result place h =
      let new : Executed = record { life = life_of state; number = number; generation = generation; from = c; order = what } in
      let count = h.count in
      let seam : executed_of (life_of state) (state.executed ++ new ∷ []) ≡ executed_of (life_of state) state.executed ++ new ∷ [] = own_executed state.executed new in
      record {
        number_is = h.number_is;
        lives = h.lives;
        made = h.made;
        held = h.held;
        next = h.next;
        done = λ l i y at. elim (more_executed state.executed new l) [
          | inl own ↦
              elim (get_push (executed_of l state.executed) new y i (ap (λ (k : List Executed). slice_get k i) (sym own.1) ∙ at)) [
                | inl old ↦ h.done l i y old
                | inr e ↦
                    let here : number ≡ i = place ∙ count ∙ ap (λ (n : ℕ). length (executed_of n state.executed)) (sym own.0) ∙ sym e.0 in
                    let at_most = own.0 in
                    (omega (arith, at_most), ap (λ (z : Executed). z.number) e.1 ∙ here)
              ]
          | inr other ↦ h.done l i y (ap (λ (k : List Executed). slice_get k i) (sym other) ∙ at)
        ];
        count = omega (arith, count, ap (λ (l : List Executed). length l) seam, length-append (executed_of (life_of state) state.executed) (new ∷ []));
      }

  -- a life begins
  well_restarts : (state : SwitchState) → IsWell s state → IsWell s (next_life state)
  well_restarts state h =
      let lives = h.lives in
      let no_events : events_of (life_of state + 1) state.events ≡ [] = none_of _ (λ i e at. let r = h.made (life_of state + 1) i e at in let k = r.0 in omega (arith, k)) in
      let no_executed : executed_of (life_of state + 1) state.executed ≡ [] = none_of _ (λ i e at. let r = h.done (life_of state + 1) i e at in let k = r.0 in omega (arith, k)) in
      record {
        number_is = h.number_is;
        lives = omega (arith, lives, length-append state.ended (state.buffer.cleared ∷ []));
        made = λ life i e at. let r = h.made life i e at in let k = r.0 in (omega (arith, k), r.1);
        held = λ y k. absurd k;
        next = ap (λ (l : List Event). length l) (sym no_events);
        done = λ life i e at. let r = h.done life i e at in let k = r.0 in (omega (arith, k), r.1);
        count = ap (λ (l : List Executed). length l) (sym no_executed);
      }

  -- a switch in the midst of a turn stays well
  pub well_move : (x : SwitchInput) (t t' : SwitchTurn) → Move x t t' → IsWell s t.state → IsWell s t'.state
  well_move x t t' (Raises what raised is) h = subst (λ (y : SwitchTurn). IsWell s y.state) (sym is) (well_raises t.state what h)
  well_move x t t' (Says ls all is) h = subst (λ (y : SwitchTurn). IsWell s y.state) (sym is) h
  well_move x t t' (Notes down sent outcomes dirty is) h =
      subst (λ (y : SwitchTurn). IsWell s y.state) (sym is) (record { number_is = h.number_is; lives = h.lives; made = h.made; held = h.held; next = h.next; done = h.done; count = h.count })
  well_move x t t' (Changes c xid life generation number through change asks is) h =
      subst (λ (y : SwitchTurn). IsWell s y.state) (sym is) (record { number_is = h.number_is; lives = h.lives; made = h.made; held = h.held; next = h.next; done = h.done; count = h.count })
  well_move x t t' (Ages table stay is) h =
      subst (λ (y : SwitchTurn). IsWell s y.state) (sym is) (record { number_is = h.number_is; lives = h.lives; made = h.made; held = h.held; next = h.next; done = h.done; count = h.count })
  well_move x t t' (Clears c xid life through asks own is) h = subst (λ (y : SwitchTurn). IsWell s y.state) (sym is) (well_clears t.state through h)
  well_move x t t' (Executes c xid life generation number through what result asks own may next is) h =
      subst (λ (y : SwitchTurn). IsWell s y.state) (sym is) (well_executes t.state c generation number what result (eqb-true number t.state.results.executed next) h)
  well_move x t t' (Masters c xid role generation asks master fresh first is) h =
      subst (λ (y : SwitchTurn). IsWell s y.state) (sym is) (record { number_is = h.number_is; lives = h.lives; made = h.made; held = h.held; next = h.next; done = h.done; count = h.count })
  well_move x t t' (Fences c xid role generation fence asks other first is) h =
      subst (λ (y : SwitchTurn). IsWell s y.state) (sym is) (record { number_is = h.number_is; lives = h.lives; made = h.made; held = h.held; next = h.next; done = h.done; count = h.count })
  well_move x t t' (Restarts asks further first is) h = subst (λ (y : SwitchTurn). IsWell s y.state) (sym is) (well_restarts t.state h)

module _ (kinds : List ℕ) (setup : Setup) (f : PastFacts) (s : ℕ) (x : SwitchInput) (heard : IsHeardBySwitch kinds setup f s x) where
  hears : (y : SwitchInput) → x ≡ y → IsHeardBySwitch kinds setup f s y
  hears y is = subst (λ (z : SwitchInput). IsHeardBySwitch kinds setup f s z) is heard

  -- a frame that is brought is of bytes
  brought : (frame : List ℕ) → BringsFrame x frame → AreBytes frame
  brought frame (Wire port is) = hears (switch_input.Local (local.Frame port frame)) is
  brought frame (Peer from port is) = (hears (switch_input.Frame from port frame) is).1
  brought frame (Output c xid life generation number through out is same) =
      let told : MayTell kinds setup f c s (spoken.Ravana (extension.Command life generation number through (order.PacketOut out))) =
      hears (switch_input.Of c xid (spoken.Ravana (extension.Command life generation number through (order.PacketOut out)))) is in
      subst (λ (l : List ℕ). AreBytes l) (sym same) told.1

  raised_good : (state : SwitchState) (what : Happening) → SwitchIsSound kinds setup f s state → IsRaised x state what → IsGoodHappening what
  raised_good state what sound (Ports p is) = subst (λ (w : Happening). IsGoodHappening w) (sym is) tt
  raised_good state what sound (Packets p is brings fits) = subst (λ (w : Happening). IsGoodHappening w) (sym is) (fits, brought p.payload brings)
  raised_good state what sound (Removed e is known among) =
      subst (λ (w : Happening). IsGoodHappening w) (sym is) (known, all_of (λ r. IsValidMatch r.matching) (rows_of state) e.row sound.rows among)

  -- what it says is true
  report : (state : SwitchState) (l : Letter SwitchSays) → SwitchIsSound kinds setup f s state → IsSaid x state l → IsReport s state.events state.executed l
  report state l sound (Tells c e among master is) =
      let there_is = sound.well.held e among in
      let at = event_at state.events e there_is in
      let made = (sound.well.made e.life at.0 e at.1).1 in
      let same : e ≡ record { switch = s; life = e.life; number = e.number; what = e.what } = ap (λ (n : ℕ). record { switch = n; life = e.life; number = e.number; what = e.what }) made.switch_is in
      let there : slice_get (events_of e.life state.events) e.number ≡ Some (record { switch = s; life = e.life; number = e.number; what = e.what }) =
      ap (λ (n : ℕ). slice_get (events_of e.life state.events) n) made.number_is ∙ at.1 ∙ ap (λ (y : Event). Some y) same in
      Reported c 0 (spoken.Ravana (extension.Event e.life e.number e.what)) is (there, sound.good e there_is)
  report state l sound (Reports c xid life generation number through what result asks lt is) =
      let count = sound.well.count in Reported c 0 (spoken.Ravana (extension.CmdAck (life_of state) number result)) is (omega (arith, lt, count))
  report state l sound (Roles c xid asked offered role generation asks is) = Reported c xid (spoken.Plain (plain.RoleReply role generation)) is tt
  report state l sound (Refuses c xid kind code asked asks is) = Reported c xid (spoken.Plain (plain.Error kind code [])) is refl
  report state l sound (Answers c xid asked answer asks question is) =
      absurd (not_asked kinds setup f c s asked question (hears (switch_input.Of c xid (spoken.Plain asked)) asks))
  report state l sound (Explains c kind code xid head malformed is) = absurd (subst (λ (y : SwitchInput). IsHeardBySwitch kinds setup f s y) malformed heard)
  report state l sound (Greets c is) = Reported c 0 (spoken.Plain plain.Hello) is tt
  report state l sound (Forwards peer port frame brings fits is) = Forwarded peer port frame is (fits, brought frame brings)

  module _ (start : SwitchState) where
    -- to another turn with the same letters, from lists that grew
    to_state : (t t' : SwitchTurn) (state : SwitchState) → t' ≡ record t { state = state } → SwitchIsSound kinds setup f s state → IsPrefix t.state.events state.events →
        IsPrefix t.state.executed state.executed → SwitchKeeps kinds setup f s start t → SwitchKeeps kinds setup f s start t'
    to_state t t' state is sound p q h =
        subst (λ (y : SwitchTurn). SwitchKeeps kinds setup f s start y) (sym is)
        (record { sound = sound; events = prefix_trans h.events p; executed = prefix_trans h.executed q; said = λ l k. report_more s p q l (h.said l k) })

    -- one more event
    sound_raises : (state : SwitchState) (what : Happening) → IsGoodHappening what → SwitchIsSound kinds setup f s state → SwitchIsSound kinds setup f s (with_event state what)
    sound_raises state what good h =
        record {
          well = well_raises s state what h.well;
          good = λ y k. elim (in_append y state.events (next_event state.buffer what ∷ []) k) [
            | inl old ↦ h.good y old
            | inr new ↦ elim new [ inl is ↦ subst (λ (z : Event). IsGoodHappening z.what) (sym is) good | inr none ↦ absurd none ]
          ];
          issued = h.issued;
          dropped = h.dropped;
          rows = h.rows;
        }

    -- events leave
    sound_clears : (state : SwitchState) (life through : ℕ) → life ≡ life_of state → through ≤ processed_of f.decided s life → SwitchIsSound kinds setup f s state → SwitchIsSound kinds setup f s (cleared state through)
    sound_clears state life through same few h =
        record {
          well = well_clears s state through h.well;
          good = h.good;
          issued = h.issued;
          dropped = λ l. elim (get_last state.ended (cleared_to state.buffer through) state.buffer.cleared l) [
            | inl here ↦
                let now : get_or (state.ended ++ state.buffer.cleared ∷ []) l 0 ≡ state.buffer.cleared = at_seam state.ended state.buffer.cleared l here.0 in
                let old = h.dropped l in
                let its : life ≡ l = same ∙ sym h.well.lives ∙ sym here.0 in
                let most = subst (λ (k : ℕ). through ≤ processed_of f.decided s k) its few in
                let is = here.1 in
                omega (arith, is, now, old, most)
            | inr other ↦ let old = h.dropped l in omega (arith, other, old)
          ];
          rows = h.rows;
        }

    -- a command is carried out
    sound_executes : (state : SwitchState) (c life generation number : ℕ) (what : Order) (result : Outcome) → life ≡ life_of state → number ≡ state.results.executed →
        IsNumbered kinds setup f s life number what → SwitchIsSound kinds setup f s state → SwitchIsSound kinds setup f s (counted_command c generation number what result state)
    sound_executes state c life generation number what result same place numbered h =
        let new : Executed = record { life = life_of state; number = number; generation = generation; from = c; order = what } in
        record {
          well = well_executes s state c generation number what result place h.well;
          good = h.good;
          issued = λ l i y at. elim (more_executed state.executed new l) [
            | inl own ↦
                elim (get_push (executed_of l state.executed) new y i (ap (λ (k : List Executed). slice_get k i) (sym own.1) ∙ at)) [
                  | inl old ↦ h.issued l i y old
                  | inr e ↦
                      let here : number ≡ i = place ∙ h.well.count ∙ ap (λ (n : ℕ). length (executed_of n state.executed)) (sym own.0) ∙ sym e.0 in
                      subst (λ (z : Executed). IsNumbered kinds setup f s l i z.order) (sym e.1)
                      (subst (λ (k : ℕ). IsNumbered kinds setup f s l k what) here (subst (λ (k : ℕ). IsNumbered kinds setup f s k number what) (same ∙ sym own.0) numbered))
                ]
            | inr other ↦ h.issued l i y (ap (λ (k : List Executed). slice_get k i) (sym other) ∙ at)
          ];
          dropped = h.dropped;
          rows = h.rows;
        }

    -- a life begins
    sound_restarts : (state : SwitchState) → SwitchIsSound kinds setup f s state → SwitchIsSound kinds setup f s (next_life state)
    sound_restarts state h =
        record {
          well = well_restarts s state h.well;
          good = h.good;
          issued = h.issued;
          dropped = λ l. let same = get_zero (state.ended ++ state.buffer.cleared ∷ []) l in let old = h.dropped l in omega (arith, same, old);
          rows = opening_valid;
        }

    kept_by : (t t' : SwitchTurn) → Move x t t' → SwitchKeeps kinds setup f s start t → SwitchKeeps kinds setup f s start t'
    kept_by t t' (Raises what raised is) h =
        to_state t t' _ is (sound_raises t.state what (raised_good t.state what h.sound raised) h.sound) (prefix_push t.state.events (next_event t.state.buffer what)) (prefix_refl t.state.executed) h
    kept_by t t' (Says ls all is) h =
        subst (λ (y : SwitchTurn). SwitchKeeps kinds setup f s start y) (sym is)
        (record {
          sound = h.sound;
          events = h.events;
          executed = h.executed;
          said = λ l k. elim (in_append l t.letters ls k) [ inl m ↦ h.said l m | inr m ↦ report t.state l h.sound (all l m) ];
        })
    kept_by t t' (Notes down sent outcomes dirty is) h =
        to_state t t' _ is
        (record { well = well_move s x t _ (Notes down sent outcomes dirty refl) h.sound.well; good = h.sound.good; issued = h.sound.issued; dropped = h.sound.dropped; rows = h.sound.rows })
        (prefix_refl t.state.events) (prefix_refl t.state.executed) h
    kept_by t t' (Changes c xid life generation number through change asks is) h =
        let told : MayTell kinds setup f c s (spoken.Ravana (extension.Command life generation number through (order.FlowMod change))) =
        hears (switch_input.Of c xid (spoken.Ravana (extension.Command life generation number through (order.FlowMod change)))) asks in
        to_state t t' _ is
        (record {
          well = well_move s x t _ (Changes c xid life generation number through change asks refl) h.sound.well;
          good = h.sound.good;
          issued = h.sound.issued;
          dropped = h.sound.dropped;
          rows =
              subst (λ (rows : List Row). AllByRecursion (λ r. IsValidMatch r.matching) rows) (sym (changed_rows t.state.table change))
              (all_changed (λ r. IsValidMatch r.matching) (rows_of t.state) change h.sound.rows told.2.0 (λ r valid. valid));
        })
        (prefix_refl t.state.events) (prefix_refl t.state.executed) h
    kept_by t t' (Ages table stay is) h =
        to_state t t' _ is
        (record {
          well = well_move s x t _ (Ages table stay refl) h.sound.well;
          good = h.sound.good;
          issued = h.sound.issued;
          dropped = h.sound.dropped;
          rows = all_in (λ r. IsValidMatch r.matching) (rows_in table) (λ r k. all_of (λ r. IsValidMatch r.matching) (rows_of t.state) r h.sound.rows (stay r k));
        })
        (prefix_refl t.state.events) (prefix_refl t.state.executed) h
    kept_by t t' (Clears c xid life through asks own is) h =
        let told : MayTell kinds setup f c s (spoken.Ravana (extension.EventAck life through)) = hears (switch_input.Of c xid (spoken.Ravana (extension.EventAck life through))) asks in
        to_state t t' _ is (sound_clears t.state life through (eqb-true life (life_of t.state) own) told h.sound) (prefix_refl t.state.events) (prefix_refl t.state.executed) h
    kept_by t t' (Executes c xid life generation number through what result asks own may next is) h =
        let told : MayTell kinds setup f c s (spoken.Ravana (extension.Command life generation number through what)) = hears (switch_input.Of c xid (spoken.Ravana (extension.Command life generation number through what))) asks in
        let new : Executed = record { life = life_of t.state; number = number; generation = generation; from = c; order = what } in
        to_state t t' _ is
        (sound_executes t.state c life generation number what result (eqb-true life (life_of t.state) own) (eqb-true number t.state.results.executed next) told.0.stands h.sound)
        (prefix_refl t.state.events) (prefix_push t.state.executed new) h
    kept_by t t' (Masters c xid role generation asks master fresh first is) h =
        to_state t t' _ is
        (record { well = well_move s x t _ (Masters c xid role generation asks master fresh first refl) h.sound.well; good = h.sound.good; issued = h.sound.issued; dropped = h.sound.dropped; rows = h.sound.rows })
        (prefix_refl t.state.events) (prefix_refl t.state.executed) h
    kept_by t t' (Fences c xid role generation fence asks other first is) h =
        to_state t t' _ is
        (record { well = well_move s x t _ (Fences c xid role generation fence asks other first refl) h.sound.well; good = h.sound.good; issued = h.sound.issued; dropped = h.sound.dropped; rows = h.sound.rows })
        (prefix_refl t.state.events) (prefix_refl t.state.executed) h
    kept_by t t' (Restarts asks further first is) h =
        to_state t t' _ is (sound_restarts t.state h.sound) (prefix_refl t.state.events) (prefix_refl t.state.executed) h

    pub switch_keeps : SwitchIsSound kinds setup f s start → SwitchKeeps kinds setup f s start (switch_turn start x)
    switch_keeps sound = turn_keeps x (SwitchKeeps kinds setup f s start) kept_by start
        (record { sound = sound; events = prefix_refl start.events; executed = prefix_refl start.executed; said = λ l k. absurd k })
