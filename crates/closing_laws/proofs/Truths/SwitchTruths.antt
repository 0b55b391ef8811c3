-- What a primary's log tells of a switch, where what is decided begins the log: events of the switch stand there in their order,
-- none of a later life, what left its buffer is among them, and what is settled it has carried out.
use Rattle.std.proofs.Common.{◌≡◌, ◌≤◌, ◌<◌, inl, inr, ℕ, zero, suc, ◌+◌, true, List, [], ◌∷◌, length, take, drop, refl, sym, ◌∙◌, ap, subst, arith, take-append-drop}
use Rattle.std.specs.Prelude.{slice_get, Some}
use Rattle.std.proofs.lemmas.Bool.{cases_lt}
use Rattle.std.proofs.lemmas.List.{length-take, get_or_push}
use Rattle.std.proofs.lemmas.List.Sums.{length-filter}
use Rattle.of_types.specs.declared.message.Event.{Event}
use Rattle.of_types.specs.declared.setup.Setup.{Setup}
use Rattle.of_types.specs.Lives.{count_in, life_in}
use Rattle.list_facts.specs.Lists.{IsIn, IsPrefix}
use Rattle.list_facts.proofs.Places.{get_prefix}
use Rattle.list_facts.proofs.Prefixes.{front_prefix, prefix_length}
use Rattle.vr_log.specs.declared.entry.Entry.{Entry}
use Rattle.vr_log.specs.declared.entry.Entry.TheVariants.{Received, Processed}
use Rattle.vr_log.specs.Log.{received, processed, is_log}
use Rattle.vr_log.proofs.Logs.{follows_front, none_after}
use Rattle.two_stage_log.specs.Counts.{processed_of}
use Rattle.app_core.specs.Chain.{concat}
use Rattle.app_core.specs.Issued.{issues, issued}
use Rattle.event_buffer.specs.Buffer.{next_number}
use Rattle.of_switch.specs.State.{SwitchState, events_in, life_of}
use Rattle.dispatcher.specs.Marks.{settled_commands}
use Rattle.controller_moves.specs.ControllerLaws.Events.{is_event_of}
use Rattle.controller_moves.proofs.ControllerLaws.Issued.{count-orders, issued-take, issued_none}
use Rattle.controller_moves.proofs.ControllerLaws.Logs.{count_prefix, processed_at, processed_count, processed_stands, received_in_order, received_prefix}
use Rattle.run_laws.specs.OnceLaws.Facts.{PastFacts, events_of, executed_of}
use Rattle.run_laws.specs.OnceLaws.Truths.{IsDoneThrough, IsGenuine, IsTrueEntry}
use Rattle.run_laws.specs.OnceLaws.Invariant.{SwitchIsSound}
use Rattle.run_laws.proofs.OnceLaws.ControllerTurns.{life_comes, received_at}
use Rattle.run_laws.proofs.OnceLaws.Growing.{take_same}
use Rattle.run_laws.proofs.OnceLaws.Executed.{seam_at}

-- no more are processed of a life than are received
pub processed_received : (log : List Entry) (s l : ℕ) → processed_of log s l ≤ count_in s l (received log)
processed_received log s l = count_prefix s l (front_prefix (processed log) (received log))

-- what left the buffer of a switch was decided as processed
pub cleared_decided : (kinds : List ℕ) (setup : Setup) (f : PastFacts) (s : ℕ) (state : SwitchState) → SwitchIsSound kinds setup f s state → state.buffer.cleared ≤ processed_of f.decided s (life_of state)
cleared_decided kinds setup f s state sound =
    let at = get_or_push state.ended state.buffer.cleared 0 (life_of state) sound.well.lives in
    let few = sound.dropped (life_of state) in
    omega (arith, at, few)

module _ (kinds : List ℕ) (setup : Setup) (f : PastFacts) (log : List Entry) (k s : ℕ) (state : SwitchState)
    (valid : is_log log ≡ true)
    (begins : IsPrefix f.decided log)
    (committed_is : take k f.decided ≡ take k log)
    (entries : (i : ℕ) (e : Entry) → slice_get log i ≡ Some e → IsTrueEntry kinds setup f i e)
    (sound : SwitchIsSound kinds setup f s state)
    (events : (life : ℕ) → IsPrefix (events_of life (f.events s)) (events_in state life))
    (executed : (life : ℕ) → IsPrefix (executed_of life (f.executed s)) (executed_of life state.executed))
  where
    genuine : (e : Event) → IsIn e (received log) → IsGenuine setup f e
    genuine e h = let at = received_at log e h in entries at.0 (Received e) at.1

    -- no event of a later life is genuine
    not_later : (e : Event) → IsGenuine setup f e → e.switch ≡ s → life_of state < e.life → ⊥
    not_later e g own later =
        let stands = subst (λ (j : ℕ). slice_get (events_of e.life (f.events j)) e.number ≡ Some e) own g.stands in
        let w = (sound.well.made e.life e.number e (get_prefix e.number e (events e.life) stands)).0 in
        omega (arith, w, later)

    -- so a logged one is of the switch's present life, or an earlier one
    pub event_within : (e : Event) → IsIn e (received log) → e.switch ≡ s → e.life ≤ life_of state
    event_within e h own = elim (cases_lt (life_of state) e.life) [ inl later ↦ absurd (not_later e (genuine e h) own later) | inr few ↦ few ]

    pub life_within : life_in s (received log) ≤ life_of state
    life_within = elim (cases_lt (life_of state) (life_in s (received log))) [
      | inl more ↦ elim (life_comes s (life_of state) 0 (received log) more) [
        | inl none ↦ absurd (omega (arith, none))
        | inr r ↦ absurd (not_later r.0 (genuine r.0 r.1) r.2 r.3)
      ]
      | inr few ↦ few
    ]

    -- no more events of a life are logged than were made
    count_within : (l : ℕ) → count_in s l (received log) ≤ length (events_in state l)
    count_within l =
        let in_order = received_in_order (λ t m. events_of m (f.events t)) log valid (λ e h. (genuine e h).stands) s l in
        let same = ap length in_order in
        let counted = length-filter (is_event_of s l) (received log) in
        let taken = length-take (count_in s l (received log)) (events_of l (f.events s)) in
        let long = prefix_length (events l) in
        omega (arith, same, counted, taken, long)

    pub logged_within : count_in s (life_of state) (received log) ≤ next_number state.buffer
    logged_within = let next = sound.well.next in let few = count_within (life_of state) in omega (arith, next, few)

    pub none_logged : life_in s (received log) < life_of state → count_in s (life_of state) (received log) ≡ 0
    none_logged less = none_after log valid s (life_of state) less

    pub cleared_within : state.buffer.cleared ≤ count_in s (life_of state) (received log)
    cleared_within =
        let few = cleared_decided kinds setup f s state sound in
        let more = processed_count s (life_of state) begins in
        let all = processed_received log s (life_of state) in
        omega (arith, few, more, all)

    -- what is committed is a log, and begins what is decided
    front_valid : is_log (take k log) ≡ true
    front_valid = follows_front [] (take k log) (drop k log) (subst (λ (l : List Entry). is_log l ≡ true) (sym (take-append-drop k log)) valid)

    front_begins : IsPrefix (take k log) f.decided
    front_begins = subst (λ (l : List Entry). IsPrefix l f.decided) committed_is (front_prefix k f.decided)

    -- an event that stands there as processed was carried out
    carried_out : (j : ℕ) → j < processed (take k log) → length (issued kinds setup s (life_of state) (take (j + 1) (received (take k log)))) ≤ state.results.executed
    carried_out j less =
        let r = processed_stands (take k log) j front_valid less in
        let within = (processed_at r.front j r.back (subst (λ (l : List Entry). is_log l ≡ true) r.is front_valid)).1 in
        let parts : IsPrefix r.front (take k log) = record { rest = Processed j ∷ r.back; joined = r.is } in
        let long = prefix_length (received_prefix parts) in
        let at : slice_get (take k log) (length r.front) ≡ Some (Processed j) = subst (λ (l : List Entry). slice_get l (length r.front) ≡ Some (Processed j)) (sym r.is) (seam_at r.front r.back (Processed j)) in
        let done : IsDoneThrough kinds setup f (length r.front) j = entries (length r.front) (Processed j) (get_prefix (length r.front) (Processed j) (front_prefix k log) at) in
        let same : take (j + 1) (received f.decided) ≡ take (j + 1) (received (take k log)) = take_same (j + 1) (omega (arith, within, long)) (received_prefix front_begins) in
        elim (done.all s (life_of state)) [
          | inl few ↦
              let here = subst (λ (es : List Event). length (issued kinds setup s (life_of state) es) ≤ length (executed_of (life_of state) (f.executed s))) same few in
              let more = prefix_length (executed (life_of state)) in
              let count = sound.well.count in
              omega (arith, here, more, count)
          | inr over ↦ absurd (not_later over.event (entries over.place (Received over.event) (get_prefix over.place (Received over.event) begins over.stands)) over.switch_is over.later)
        ]

    -- so what is settled was
    pub settled_within : settled_commands kinds setup (take k log) s (life_of state) ≤ state.results.executed
    settled_within =
        subst (λ (n : ℕ). n ≤ state.results.executed)
        (sym (count-orders s (life_of state) (concat (take (processed (take k log)) (issues kinds setup (received (take k log)))))
        ∙ ap length (sym (issued-take kinds setup s (life_of state) (processed (take k log)) (received (take k log))))))
        (by_count (processed (take k log)) refl)
      where
        by_count : (m : ℕ) → processed (take k log) ≡ m → length (issued kinds setup s (life_of state) (take m (received (take k log)))) ≤ state.results.executed
        by_count zero e = let none = ap length (issued_none kinds setup s (life_of state)) in omega (arith, none)
        by_count (suc j) e =
            let next : j + 1 ≡ suc j = omega arith in
            subst (λ (m : ℕ). length (issued kinds setup s (life_of state) (take m (received (take k log)))) ≤ state.results.executed) next (carried_out j (omega (arith, e)))
