-- How many events and acknowledgements of events are on their way while a closing is drained: those that switches have sent since they
-- were asked for their roles, each of which is answered once at most, and one for each event that is processed.
use Rattle.std.proofs.Common.{◌≡◌, ◌≤◌, ◌<◌, inl, inr, ℕ, zero, suc, ◌+◌, ◌*◌, ◌%◌, Bool, true, List, [], ◌∷◌, length, map, refl, sym, ap, arith}
use Rattle.std.specs.Prelude.{nat_eq, ◌&&◌, sum_by, Option, if◌then◌else◌}
use Rattle.std.specs.List.{range_with_len}
use Rattle.std.proofs.lemmas.Bool.{and_parts, cases_Bool, eq-eqb, eqb-true}
use Rattle.std.proofs.lemmas.List.FromFn.{length-range_with_len}
use Rattle.std.proofs.lemmas.List.Sums.{sum_by-cons}
use Rattle.list_facts.proofs.Prefixes.{front_prefix}
use Rattle.of_types.specs.declared.message.Event.{Event}
use Rattle.of_types.specs.declared.setup.Setup.{Setup}
use Rattle.of_types.specs.Lives.{count_in}
use Rattle.journal.specs.declared.journal.Actor.TheVariants as actor
use Rattle.vr_log.specs.declared.state.VrState.{VrState}
use Rattle.vr_log.specs.Log.{processed, received}
use Rattle.vr_log.proofs.Logs.{IsLog_is, length_is}
use Rattle.vr_core.specs.declared.input.VrInput.TheVariants as vr_input
use Rattle.vr_core.specs.Step.{vr_step}
use Rattle.controller_moves.proofs.ControllerLaws.Logs.{processed_prefix}
use Rattle.of_switch.specs.State.{SwitchState, life_of}
use Rattle.group_controller.specs.State.{ControllerState, Work, committed, to_members}
use Rattle.group_controller.specs.Rules.{controller_work, switches}
use Rattle.group_controller.specs.Settling.{is_some_of, role_letter}
use Rattle.run_spec.specs.States.{controller_message, switch_message}
use Rattle.closing_laws.specs.Quorum.{has}
use Rattle.closing_laws.specs.Following.{Start}
use Rattle.closing_laws.specs.Serving.{AreFew, IsOlder, logged_of, sent_of}
use Rattle.closing_laws.specs.Views.{IsCovered, IsReadyMember}
use Rattle.closing_laws.specs.Ways.{Sent, sent_by}
use Rattle.closing_laws.proofs.Draining.Drained.{heard_of}
use Rattle.closing_laws.proofs.Draining.OpeningTurn as opens
use Rattle.closing_laws.proofs.Lists.Picked.{IsPicked}
use Rattle.closing_laws.proofs.Lists.Sums.{sum_most}
use Rattle.closing_laws.proofs.Measure.DrainingMeasure.{sum_changes}
use Rattle.closing_laws.proofs.Pool.RoleRooms as opening
use Rattle.closing_laws.proofs.Pool.Rooms.{AreTrue, Keeps, NothingBeside, Standing, is_event, turn_on, waits}
use Rattle.closing_laws.proofs.Pool.SwitchPosts.{event_posts, sent_in}
use Rattle.closing_laws.proofs.Pool.TestCounts.{count_less, once_in_range}
use Rattle.closing_laws.proofs.Pool.TurnPosts.{primary_posts, switch_turns}
use Rattle.closing_laws.proofs.Pool.Waiting.{members_none, posts_never, waits_append, waits_cons}
use Rattle.closing_laws.proofs.Primary.Numbering.{of_range}

-- the events that the switches have sent since they were asked
abbrev pub sent_by_switches : Setup → ControllerState → (ℕ → SwitchState) → ℕ
sent_by_switches setup c switches = sum_by (λ s. sent_in c.vr.view (switches s)) (range_with_len 0 (length setup.ports))

abbrev pub EventRoom : Setup → Standing
EventRoom setup c members switches waiting = waits is_event waiting ≤ sent_by_switches setup c switches + processed (committed c)

module _ (kinds : List ℕ) (setup : Setup) (few : AreFew kinds setup) (w p : ℕ) (quorum : List ℕ) (start : Start) (picked : IsPicked setup.controllers w quorum) (inside : has quorum p ≡ true)
    (leader : p ≡ w % setup.controllers) (small : (b : ℕ) → has quorum b ≡ true → b < setup.controllers) where
  pub keeps_events : Keeps kinds setup w p quorum start NothingBeside (EventRoom setup)
  keeps_events = record {
    lost = λ c members switches m rest d lost beside beside' room. let parts = waits_cons is_event m rest in omega (arith, parts, room);
    member = λ c members switches m rest b x d from to chosen other says d' beside beside' room.
        let letters = (vr_step (members b) (vr_input.From p x)).letters in
        let parts = waits_cons is_event m rest in
        let joined = waits_append is_event rest (map (sent_by controller_message (actor.Controller b)) (to_members letters)) in
        let none = members_none is_event (λ y. refl) (actor.Controller b) letters in
        omega (arith, parts, joined, none, room);
    primary = λ c members switches m rest d to heard t t' full d' beside beside' room.
        let h = primary_posts kinds setup few w p quorum start picked inside leader small c members switches m rest d to t heard in
        let work = controller_work kinds setup c (heard_of m) in
        let parts = waits_cons is_event m rest in
        let joined = waits_append is_event rest (map (sent_by controller_message (actor.Controller p)) work.letters) in
        let events = h.events in
        let same = ap (λ (v : ℕ). sum_by (λ s. sent_in v (switches s)) (range_with_len 0 (length setup.ports))) h.view in
        omega (arith, parts, joined, events, same, room);
    switch = λ c members switches m rest s there d from to t t' d' beside beside' room.
        let turn = turn_on (switches s) m in
        let parts = waits_cons is_event m rest in
        let joined = waits_append is_event rest (map (sent_by switch_message (actor.Switch s)) turn.letters) in
        let events = event_posts c.vr.me c.vr.view (switches s) s m.said turn (switch_turns kinds setup few w p quorum start picked inside leader small c members switches m rest d s there from to t) in
        let sums = sum_changes (λ (j : ℕ) (x : SwitchState). sent_in c.vr.view x) switches s turn.state 0 (length setup.ports) (omega arith) (omega (arith, there)) in
        omega (arith, parts, joined, events, sums, room);
  }

-- ---- how many they are at most

-- each event of a log is of one switch
module _ (present : ℕ → ℕ) where
  abbrev counted : List Event → ℕ → ℕ → ℕ
  counted es a n = sum_by (λ s. count_in s (present s) es) (range_with_len a n)

  abbrev here_counted : Event → ℕ → ℕ → ℕ
  here_counted e a n = sum_by (λ s. if nat_eq e.switch s && nat_eq e.life (present s) then 1 else 0) (range_with_len a n)

  one_at_most : (e : Event) (a n : ℕ) → here_counted e a n ≤ 1
  one_at_most e a n =
      let less = count_less (λ s. nat_eq e.switch s && nat_eq e.life (present s)) (λ s. nat_eq s e.switch) (range_with_len a n) (λ s among h.
      eq-eqb s e.switch (sym (eqb-true e.switch s (and_parts (nat_eq e.switch s) (nat_eq e.life (present s)) h).0))) in
      let one = once_in_range a n e.switch in
      omega (arith, less, one)

  counted_cons : (e : Event) (es : List Event) (a n : ℕ) → counted (e ∷ es) a n ≡ here_counted e a n + counted es a n
  counted_cons e es a zero = refl
  counted_cons e es a (suc n) =
      let p = sum_by-cons (λ s. count_in s (present s) (e ∷ es)) a (range_with_len (a + 1) n) in
      let q = sum_by-cons (λ s. if nat_eq e.switch s && nat_eq e.life (present s) then 1 else 0) a (range_with_len (a + 1) n) in
      let r = sum_by-cons (λ s. count_in s (present s) es) a (range_with_len (a + 1) n) in
      let first = sum_by-cons (λ (x : Event). if nat_eq x.switch a && nat_eq x.life (present a) then 1 else 0) e es in
      let rest = counted_cons e es (a + 1) n in
      omega (arith, p, q, r, first, rest)

  pub counted_few : (es : List Event) (a n : ℕ) → counted es a n ≤ length es
  counted_few [] a n = let none = sum_most 0 0 (λ s. count_in s (present s) []) (λ s. 0) (range_with_len a n) (λ s among. omega arith) in omega (arith, none)
  counted_few (e ∷ es) a n =
      let parts = counted_cons e es a n in
      let one = one_at_most e a n in
      let rest = counted_few es a n in
      omega (arith, parts, one, rest)

-- so they are as many as a log has entries, and eight for each switch
pub events_bounded : (kinds : List ℕ) (setup : Setup) (c : ControllerState) (members : ℕ → VrState) (switches : ℕ → SwitchState) (waiting : List Sent) → EventRoom setup c members switches waiting →
    AreTrue kinds setup c switches → waits is_event waiting ≤ 4096 + 8 * length setup.ports
events_bounded kinds setup c members switches waiting room t =
    let sums = sum_most 1 8 (λ s. sent_in c.vr.view (switches s)) (λ s. logged_of c s (switches s)) (range_with_len 0 (length setup.ports)) (λ s among.
    let less = (of_range 0 (length setup.ports) s among).1 in
    let few = each s (omega (arith, less)) in
    omega (arith, few)) in
    let count = length-range_with_len 0 (length setup.ports) in
    let logged = counted_few (λ s. life_of (switches s)) (received c.vr.log) 0 (length setup.ports) in
    let parts = length_is c.vr.log in
    let done = processed_prefix (front_prefix c.vr.commit c.vr.log) in
    let short = (IsLog_is c.vr.log t.primary.one).short in
    omega (arith, room, sums, count, logged, parts, done, short)
  where
    each : (s : ℕ) → s < length setup.ports → sent_in c.vr.view (switches s) ≤ logged_of c s (switches s) + 8
    each s there =
        let low = (t.each s there).cleared in
        elim (cases_Bool (is_some_of c.vr.view (switches s).fence.generation)) [
          | inl asked ↦ let is = ap {B = ℕ} (λ (b : Bool). if b then sent_of (switches s) else 0) asked in omega (arith, is, low)
          | inr not_asked ↦ let is = ap {B = ℕ} (λ (b : Bool). if b then sent_of (switches s) else 0) not_asked in omega (arith, is)
        ]

-- ---- where the view starts

module _ (kinds : List ℕ) (setup : Setup) (few : AreFew kinds setup) (w : ℕ) (quorum : List ℕ) (at : ℕ → VrState) (best : ℕ) (picked : IsPicked setup.controllers w quorum)
    (small : (b : ℕ) → has quorum b ≡ true → b < setup.controllers) (ready : (j : ℕ) → has quorum j ≡ true → IsReadyMember setup.controllers w j (at j)) (covered : IsCovered quorum at best) (chosen : has quorum best ≡ true)
    (voters : ℕ → List ℕ) (promise : Option ℕ) (sw : ℕ → SwitchState) (older : (t : ℕ) → t < length setup.ports → IsOlder (sw t).fence.generation w) where
  abbrev p : ℕ
  p = opens.p kinds setup few w quorum at best picked small ready covered chosen voters promise sw older

  abbrev end : Work
  end = opens.end kinds setup few w quorum at best picked small ready covered chosen voters promise sw older

  pub events_start : (members : ℕ → VrState) → EventRoom setup end.state members sw (map (sent_by controller_message (actor.Controller p)) end.letters)
  events_start members =
      let all = opening.all_counted kinds setup few w quorum at best picked small ready covered chosen voters promise sw older is_event in
      let first = members_none is_event (λ x. refl) (actor.Controller p) (opens.words kinds setup few w quorum at best picked small ready covered chosen voters promise sw older) in
      let asked = posts_never is_event controller_message (actor.Controller p) (role_letter w) (λ x. refl) (switches setup) in
      let more = (opening.opening_posts kinds setup few w quorum at best picked small ready covered chosen voters promise sw older).events in
      omega (arith, all, first, asked, more)
