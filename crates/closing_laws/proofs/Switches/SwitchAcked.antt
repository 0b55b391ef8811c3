-- A switch draws an acknowledgement of events of its life.
use Rattle.std.proofs.Common.{◌≡◌, ◌≤◌, ◌<◌, ◌⊎◌, ℕ, ◌+◌, ◌-◌, max, List, ◌∷◌, ◌++◌, length, map, filter, take, drop, refl, sym, ◌∙◌, ap, subst, arith, inl, inr}
use Rattle.std.specs.Prelude.{nat_le, slice_get, count_by, Some}
use Rattle.std.specs.List.{AllByRecursion}
use Rattle.std.proofs.lemmas.List.{drop-drop}
use Rattle.of_types.specs.declared.message.Event.{Event}
use Rattle.of_types.specs.declared.setup.Setup.{Setup}
use Rattle.of_types.specs.Lives.{count_in}
use Rattle.journal.specs.declared.journal.Letter.{Letter}
use Rattle.journal.specs.declared.journal.Actor.TheVariants as actor
use Rattle.list_facts.specs.Lists.{IsIn}
use Rattle.list_facts.proofs.Elements.{all_in, in_append, in_left}
use Rattle.list_facts.proofs.Places.{get_front}
use Rattle.vr_log.specs.Log.{received}
use Rattle.run_laws.specs.OnceLaws.Truths.{IsMade}
use Rattle.event_buffer.specs.Buffer.{cleared_to}
use Rattle.command_buffer.specs.Results.{Results}
use Rattle.role_fence.specs.Fence.{Fence}
use Rattle.two_stage_log.specs.Counts.{processed_of}
use Rattle.group_controller.specs.State.{ControllerState, committed}
use Rattle.of_switch.specs.declared.says.SwitchSays.{SwitchSays}
use Rattle.of_switch.specs.State.{SwitchState, SwitchTurn, events_in, life_of}
use Rattle.of_switch.specs.Events.{event_letter, window}
use Rattle.run_spec.specs.declared.messages.Message.{Message}
use Rattle.run_spec.specs.States.{switch_message}
use Rattle.closing_laws.specs.Serving.{AreEventsTold, IsSaidIn, IsAttended, IsTrueOf, acknowledges_events, events_said, is_reply, is_request, logged_of, processed_by, results_said, sent_of}
use Rattle.closing_laws.specs.Ways.{told_to}
use Rattle.closing_laws.proofs.Switches.AckTurns.{AfterAck}
use Rattle.closing_laws.proofs.Switches.Saying.{count_append, count_cons, event_message, events_append, events_of_messages, heard_of_events, replies_of_events, results_of_events, told_events}
use Rattle.closing_laws.proofs.Switches.Sending.{StandFrom, coming_anew, sent_anew, sent_to, window_at}
use Rattle.closing_laws.proofs.Switches.Served.{draws_keep}

module _ (kinds : List ℕ) (setup : Setup) (c : ControllerState) (s : ℕ) (sw : SwitchState) (through : ℕ) (turn : SwitchTurn)
    (after : AfterAck sw c.vr.me through turn) (true_before : IsTrueOf kinds setup c s sw) (true_after : IsTrueOf kinds setup c s turn.state) where
  abbrev events : List Event
  events = events_in sw (life_of sw)

  abbrev gone : ℕ
  gone = cleared_to sw.buffer through

  -- all events of the life, after the turn
  abbrev all : List Event
  all = events ++ after.more

  -- what is sent
  abbrev new : List Event
  new = drop (max (sent_to sw.buffer.cleared events) gone) (take (gone + window) all)

  abbrev told : List Message
  told = told_to switch_message (actor.Controller c.vr.me) turn.letters

  now : events_in turn.state (life_of turn.state) ≡ all
  now = ap (λ (l : ℕ). events_in turn.state l) after.life ∙ after.events

  made : (i : ℕ) (e : Event) → slice_get all i ≡ Some e → IsMade s (life_of sw) i e
  made i e at = subst (λ (l : ℕ). IsMade s l i e) after.life (true_after.made i e (ap (λ (l : List Event). slice_get l i) now ∙ at))

  stand : StandFrom 0 all
  stand i e at = let m = made i e at in let so = m.number_is in omega (arith, so)

  up : sw.buffer.cleared ≤ gone
  up = omega arith

  within : gone ≤ length events
  within = let n = true_before.next in omega (arith, n)

  low : gone ≤ logged_of c s sw
  low = let l = subst (λ (l : ℕ). turn.state.buffer.cleared ≤ count_in s l (received c.vr.log)) after.life true_after.cleared in let g = after.gone in omega (arith, l, g)

  held : drop (gone - sw.buffer.cleared) sw.buffer.held ≡ drop gone events
  held =
      let whole : sw.buffer.cleared + (gone - sw.buffer.cleared) ≡ gone = omega (arith, up) in
      ap (λ (l : List Event). drop (gone - sw.buffer.cleared) l) true_before.held ∙ drop-drop (gone - sw.buffer.cleared) sw.buffer.cleared events ∙ ap (λ (n : ℕ). drop n events) whole

  letters : turn.letters ≡ map (event_letter c.vr.me) new
  letters = after.letters
      ∙ ap (λ (l : List Event). map (event_letter c.vr.me) (drop (window - (gone - sw.buffer.cleared)) (take window l) ++ take (window - length l) after.more)) held
      ∙ ap (λ (l : List Event). map (event_letter c.vr.me) l) (sent_anew sw.buffer.cleared gone events after.more up within)

  told_is : told ≡ map event_message new
  told_is = ap (λ (l : List (Letter SwitchSays)). told_to switch_message (actor.Controller c.vr.me) l) letters ∙ told_events c.vr.me new

  -- they are of the switch and its life
  new_made : (e : Event) → IsIn e new → IsMade s (life_of sw) e.number e
  new_made e among = made e.number e (window_at (max (sent_to sw.buffer.cleared events) gone) (gone + window) all stand e among)

  events_are : events_said s told ≡ new
  events_are = ap (λ (ms : List Message). events_said s ms) told_is ∙ events_of_messages s new (all_in (λ (e : Event). e.switch ≡ s) new (λ e among. (new_made e among).switch_is))

  heard : AllByRecursion (λ m. IsSaidIn c.vr.view (life_of sw) m) told
  heard = subst (λ (ms : List Message). AllByRecursion (λ m. IsSaidIn c.vr.view (life_of sw) m) ms) (sym told_is)
      (heard_of_events c.vr.view (life_of sw) new (all_in (λ (e : Event). e.life ≡ life_of sw) new (λ e among. (new_made e among).life_is)))

  sent_now : sent_of turn.state ≡ sent_to gone all
  sent_now =
      let n = true_after.next ∙ ap (λ (l : List Event). length l) now in
      let g = after.gone in omega (arith, n, g)

  sent_before : sent_of sw ≡ sent_to sw.buffer.cleared events
  sent_before = let n = true_before.next in omega (arith, n)

  -- what is on its way
  are_told : (out in_ : List Message) → AreEventsTold c s sw (acknowledges_events (life_of sw) through ∷ out) in_ → AreEventsTold c s turn.state out (in_ ++ told)
  are_told out in_ a =
      record {
        coming =
            ap (λ (l : ℕ). filter (λ e. nat_le (count_in s l (received c.vr.log)) e.number) (events_said s (in_ ++ told))) after.life
            ∙ ap (λ (l : List Event). filter (λ e. nat_le (logged_of c s sw) e.number) l) said_now
            ∙ coming_anew (logged_of c s sw) sw.buffer.cleared gone events after.more (events_said s in_) new stand up within low
            (a.coming ∙ ap (λ (n : ℕ). take (n - logged_of c s sw) (drop (logged_of c s sw) events)) sent_before) refl
            ∙ ap (λ (n : ℕ). take (n - logged_of c s sw) (drop (logged_of c s sw) all)) (sym sent_now)
            ∙ ap (λ (l : ℕ). take (sent_of turn.state - count_in s l (received c.vr.log)) (drop (count_in s l (received c.vr.log)) all)) (sym after.life)
            ∙ ap (λ (l : List Event). take (sent_of turn.state - logged_of c s turn.state) (drop (logged_of c s turn.state) l)) (sym now);
        stands = λ e among. ap (λ (l : List Event). slice_get l e.number) now ∙ stands e (in_append e (events_said s in_) new (subst (λ (l : List Event). IsIn e l) said_now among));
        acknowledged = λ less. acknowledged less;
      }
    where
      said_now : events_said s (in_ ++ told) ≡ events_said s in_ ++ new
      said_now = events_append s in_ told ∙ ap (λ (l : List Event). events_said s in_ ++ l) events_are

      stands : (e : Event) → IsIn e (events_said s in_) ⊎ IsIn e new → slice_get all e.number ≡ Some e
      stands e (inl old) = get_front events after.more e.number e (a.stands e old)
      stands e (inr fresh) = window_at (max (sent_to sw.buffer.cleared events) gone) (gone + window) all stand e fresh

      acknowledged : turn.state.buffer.cleared < processed_by c s turn.state →
          IsIn (acknowledges_events (life_of turn.state) (processed_by c s turn.state)) out ⊎ ((e : Event) × IsIn e (events_said s (in_ ++ told)) × (e.number < processed_by c s turn.state))
      acknowledged less =
          let processed : processed_by c s turn.state ≡ processed_by c s sw = ap (λ (l : ℕ). processed_of (committed c) s l) after.life in
          let g = after.gone in
          let few = true_before.processed in
          let fewer = true_before.logged in
          let fresh : gone < processed_by c s sw = omega (arith, less, g, processed) in
          elim (a.acknowledged (omega (arith, fresh, up))) [
            | inl (inl drawn) ↦ let same : processed_by c s sw ≡ through = cc in absurd (omega (arith, same, few, fewer, fresh))
            | inl (inr waits) ↦ inl (subst (λ (l : ℕ). IsIn (acknowledges_events l (processed_of (committed c) s l)) out) (sym after.life) waits)
            | inr w ↦ let below = w.2 in inr (w.0, subst (λ (l : List Event). IsIn w.0 l) (sym said_now) (in_left w.0 (events_said s in_) new w.1), omega (arith, below, processed))
          ]

  -- it is served as before
  pub acked_keeps : (out in_ : List Message) → IsAttended kinds setup c s sw (acknowledges_events (life_of sw) through ∷ out) in_ → IsAttended kinds setup c s turn.state out (in_ ++ told)
  acked_keeps out in_ served =
      draws_keep kinds setup c s sw turn.state (acknowledges_events (life_of sw) through) out in_ told served
      (record { life = after.life; executed = ap (λ (r : Results). r.executed) after.results; heard = heard; commands = refl; results = ap results_said told_is ∙ results_of_events new })
      (elim served.role [
        | inl unasked ↦ absurd (let first = unasked.first in cc)
        | inr asked ↦
            let more = asked.0.no_more in
            let replies = asked.0.replies in
            let no_reply : count_by is_reply told ≡ 0 = ap (λ (ms : List Message). count_by is_reply ms) told_is ∙ replies_of_events new in
            inr (
              record {
                generation = ap (λ (f : Fence). f.generation) after.fence ∙ asked.0.generation;
                master = ap (λ (f : Fence). f.master) after.fence ∙ asked.0.master;
                no_more = omega (arith, more, count_cons is_request (acknowledges_events (life_of sw) through) out);
                replies = omega (arith, replies, count_append is_reply in_ told, no_reply);
              },
              are_told out in_ asked.1,
            )
      ])
