-- A switch is asked for its role.
use Rattle.std.proofs.Common.{◌≡◌, ◌<◌, ℕ, ◌+◌, ◌-◌, ◌^◌, ◌%◌, Bool, false, List, ◌∷◌, ◌++◌, map, filter, take, drop, refl, sym, ◌∙◌, ap, subst, arith, inr}
use Rattle.std.specs.Prelude.{nat_le, slice_get, count_by, Option, Some, None, if◌then◌else◌}
use Rattle.std.specs.List.{AllByRecursion}
use Rattle.std.proofs.lemmas.Bool.{eq-eqb, lt-leb, ne_eqb}
use Rattle.std.proofs.lemmas.List.{drop-take}
use Rattle.of_types.specs.declared.message.Event.{Event}
use Rattle.of_types.specs.declared.message.OfMessage.TheVariants as plain
use Rattle.of_types.specs.declared.message.Spoken.TheVariants as spoken
use Rattle.of_types.specs.declared.numbers.TheConstants.{MASTER}
use Rattle.of_types.specs.declared.setup.Setup.{Setup}
use Rattle.journal.specs.declared.journal.Actor.TheVariants as actor
use Rattle.journal.specs.declared.journal.Letter.{Letter}
use Rattle.list_facts.specs.Lists.{IsIn}
use Rattle.list_facts.proofs.Elements.{all_in}
use Rattle.run_laws.specs.OnceLaws.Truths.{IsMade}
use Rattle.role_fence.specs.Fence.{as_master, is_stale}
use Rattle.dispatcher.specs.Marks.{is_confirmed}
use Rattle.group_controller.specs.State.{ControllerState}
use Rattle.group_controller.specs.Settling.{is_some_of}
use Rattle.of_switch.specs.declared.says.SwitchSays.{SwitchSays}
use Rattle.of_switch.specs.State.{SwitchState, events_in, life_of, to_controller}
use Rattle.of_switch.specs.Events.{event_letter, first_held, window}
use Rattle.of_switch.specs.Rules.{on_role_request}
use Rattle.run_spec.specs.declared.messages.Message.{Message}
use Rattle.run_spec.specs.declared.messages.Message.TheVariants as message
use Rattle.run_spec.specs.States.{switch_message}
use Rattle.closing_laws.specs.Serving.{AreEventsTold, IsOlder, IsSaidIn, IsAttended, IsTrueOf, IsUnasked, Replies, asks_role, events_said, is_reply, is_request, logged_of, results_said, sent_of}
use Rattle.closing_laws.specs.Ways.{told_to}
use Rattle.closing_laws.proofs.Switches.Saying.{count_cons, event_message, events_of_messages, heard_of_events, replies_of_events, results_of_events, told_events}
use Rattle.closing_laws.proofs.Switches.Sending.{StandFrom, coming_first, first_held_is, sent_to, window_at}
use Rattle.closing_laws.proofs.Switches.Served.{draws_keep}

-- an older generation is not stale
-- a generation that is older is not this one
pub older_other : (view : ℕ) (o : Option ℕ) → IsOlder o view → is_some_of view o ≡ false
older_other view None h = refl
older_other view (Some g) h = ne_eqb g view (λ e. omega (arith, e, h))

fresh : (view : ℕ) (generation : Option ℕ) → view < 2 ^ 32 → IsOlder generation view → is_stale generation view ≡ false
fresh view None small older = refl
fresh view (Some seen) small older = lt-leb (2 ^ 63) ((view + 2 ^ 64 - seen) % 2 ^ 64) (omega (arith, small, older))

-- what it leaves and says
asked_turn : (sw : SwitchState) (c view : ℕ) → is_stale sw.fence.generation view ≡ false →
    on_role_request sw c 0 MASTER view ≡
    record { state = record sw { fence = as_master sw.fence c view }; letters = to_controller c 0 (spoken.Plain (plain.RoleReply MASTER view)) ∷ map (event_letter c) (first_held sw) }
asked_turn sw c view accepted = rw (accepted, eq-eqb c c refl) refl

module _ (kinds : List ℕ) (setup : Setup) (c : ControllerState) (s : ℕ) (sw : SwitchState) (small : c.vr.view < 2 ^ 32) (is_true : IsTrueOf kinds setup c s sw) where
  abbrev events : List Event
  events = events_in sw (life_of sw)

  abbrev new : List Event
  new = first_held sw

  abbrev after : SwitchState
  after = record sw { fence = as_master sw.fence c.vr.me c.vr.view }

  abbrev letters : List (Letter SwitchSays)
  letters = to_controller c.vr.me 0 (spoken.Plain (plain.RoleReply MASTER c.vr.view)) ∷ map (event_letter c.vr.me) new

  abbrev told : List Message
  told = told_to switch_message (actor.Controller c.vr.me) letters

  new_is : new ≡ take window (drop sw.buffer.cleared events)
  new_is = ap (λ (l : List Event). take window l) is_true.held

  stand : StandFrom 0 events
  stand i e at = let m = is_true.made i e at in let so = m.number_is in omega (arith, so)

  new_at : (e : Event) → IsIn e new → slice_get events e.number ≡ Some e
  new_at e among = window_at sw.buffer.cleared (sw.buffer.cleared + window) events stand e (subst (λ (l : List Event). IsIn e l) (new_is ∙ sym (drop-take sw.buffer.cleared window events)) among)

  new_made : (e : Event) → IsIn e new → IsMade s (life_of sw) e.number e
  new_made e among = is_true.made e.number e (new_at e among)

  told_is : told ≡ message.Of 0 (spoken.Plain (plain.RoleReply MASTER c.vr.view)) ∷ map event_message new
  told_is = rw (eq-eqb c.vr.me c.vr.me refl) (ap (λ (ms : List Message). message.Of 0 (spoken.Plain (plain.RoleReply MASTER c.vr.view)) ∷ ms) (told_events c.vr.me new))

  events_are : events_said s told ≡ new
  events_are = ap (λ (ms : List Message). events_said s ms) told_is ∙ events_of_messages s new (all_in (λ (e : Event). e.switch ≡ s) new (λ e among. (new_made e among).switch_is))

  heard : AllByRecursion (λ m. IsSaidIn c.vr.view (life_of sw) m) told
  heard = subst (λ (ms : List Message). AllByRecursion (λ m. IsSaidIn c.vr.view (life_of sw) m) ms) (sym told_is)
      (Replies 0, heard_of_events c.vr.view (life_of sw) new (all_in (λ (e : Event). e.life ≡ life_of sw) new (λ e among. (new_made e among).life_is)))

  replies : count_by is_reply told ≡ 1
  replies = ap (λ (ms : List Message). count_by is_reply ms) told_is
      ∙ omega (arith, count_cons is_reply (message.Of 0 (spoken.Plain (plain.RoleReply MASTER c.vr.view))) (map event_message new), replies_of_events new)

  sent_is : sent_of sw ≡ sent_to sw.buffer.cleared events
  sent_is = let n = is_true.next in omega (arith, n)

  are_told : (out : List Message) → AreEventsTold c s after out told
  are_told out =
      record {
        coming =
            ap (λ (l : List Event). filter (λ e. nat_le (logged_of c s sw) e.number) l) (events_are ∙ new_is)
            ∙ coming_first (logged_of c s sw) sw.buffer.cleared events stand is_true.cleared
            ∙ ap (λ (n : ℕ). take (n - logged_of c s sw) (drop (logged_of c s sw) events)) (sym sent_is);
        stands = λ e among. new_at e (subst (λ (l : List Event). IsIn e l) events_are among);
        acknowledged = λ less.
            let n = is_true.next in
            let few = is_true.processed in
            let fewer = is_true.logged in
            let first = first_held_is sw.buffer.cleared events (omega (arith, less, n, few, fewer)) in
            let m = is_true.made sw.buffer.cleared first.0 first.2 in
            let number = m.number_is in
            inr (first.0, subst (λ (l : List Event). IsIn first.0 l) (sym (events_are ∙ new_is)) first.1, omega (arith, number, less));
      }

  -- it is served as before
  pub asked_keeps : (out in_ : List Message) → IsAttended kinds setup c s sw (asks_role c.vr.view ∷ out) in_ → IsUnasked c s sw (asks_role c.vr.view ∷ out) in_ → IsAttended kinds setup c s after out (in_ ++ told)
  asked_keeps out in_ served unasked =
      let same : out ≡ unasked.rest = let first = unasked.first in cc in
      draws_keep kinds setup c s sw after (asks_role c.vr.view) out in_ told served
      (record { life = refl; executed = refl; heard = heard; commands = refl; results = ap results_said told_is ∙ results_of_events new })
      (inr (
        record {
          generation = refl;
          master = refl;
          no_more = ap (λ (ms : List Message). count_by is_request ms) same ∙ unasked.once;
          replies =
              ap (λ (ms : List Message). count_by is_reply (ms ++ told) + (if is_confirmed c.marks s then 1 else 0)) unasked.silent
              ∙ ap (λ (b : Bool). count_by is_reply told + (if b then 1 else 0)) unasked.unconfirmed
              ∙ omega (arith, replies);
        },
        subst (λ (ms : List Message). AreEventsTold c s after out (ms ++ told)) (sym unasked.silent) (are_told out),
      ))

  pub asked_is : IsOlder sw.fence.generation c.vr.view → on_role_request sw c.vr.me 0 MASTER c.vr.view ≡ record { state = after; letters = letters }
  asked_is older = asked_turn sw c.vr.me c.vr.view (fresh c.vr.view sw.fence.generation small older)
