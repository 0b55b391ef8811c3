-- A turn of a switch in a closing lowers what is left to do.
use Rattle.std.proofs.Common.{◌≡◌, ◌≤◌, ◌<◌, ℕ, ◌+◌, ◌-◌, ◌*◌, ◌^◌, min, Bool, true, false, List, [], ◌∷◌, ◌++◌, length, map, filter, take, drop, refl, sym, ◌∙◌, ap, subst, arith, inl, inr, length-append, length-take, length-drop, take-append-drop, mul-le-mul_left}
use Rattle.std.specs.Prelude.{nat_eq, not, Option, Some, None, ◌&&◌, if◌then◌else◌}
use Rattle.std.proofs.lemmas.Bool.{cond_both, eq-eqb, eqb-true, ne_eqb}
use Rattle.std.proofs.lemmas.List.Sums.{count_by-le-length, length-filter}
use Rattle.of_types.specs.declared.message.Event.{Event}
use Rattle.of_types.specs.declared.message.Extension.TheVariants as extension
use Rattle.of_types.specs.declared.message.OfMessage.TheVariants as plain
use Rattle.of_types.specs.declared.message.Order.{Order}
use Rattle.of_types.specs.declared.message.Spoken.{Spoken}
use Rattle.of_types.specs.declared.message.Spoken.TheVariants as spoken
use Rattle.of_types.specs.declared.numbers.TheConstants.{MASTER}
use Rattle.of_types.specs.declared.setup.Setup.{Setup}
use Rattle.journal.specs.declared.journal.Actor.{Actor}
use Rattle.journal.specs.declared.journal.Actor.TheVariants as actor
use Rattle.journal.specs.declared.journal.Letter.{Letter}
use Rattle.list_facts.specs.Lists.{IsIn}
use Rattle.dispatcher.specs.Ledger.{most_commands}
use Rattle.event_buffer.specs.Buffer.{Buffer, cleared_to, most_held, next_number, without_dirty}
use Rattle.of_types.specs.Lives.{count_in}
use Rattle.vr_log.specs.Log.{received}
use Rattle.role_fence.specs.Fence.{Fence}
use Rattle.group_controller.specs.State.{ControllerState}
use Rattle.group_controller.specs.Settling.{is_some_of}
use Rattle.of_switch.specs.declared.says.SwitchInput.TheVariants as switch_input
use Rattle.of_switch.specs.declared.says.SwitchSays.{SwitchSays}
use Rattle.of_switch.specs.State.{SwitchState, SwitchTurn, life_of, quiet_switch, to_controller}
use Rattle.of_switch.specs.Events.{cleared, coming, event_letter, first_held, on_event_ack, port_status, window}
use Rattle.of_switch.specs.Commands.{letter_of_result, on_command, settled}
use Rattle.of_switch.specs.Drafts.{Draft, draft_of, drafted_event, forgets, with_ports, with_raised, with_told}
use Rattle.of_switch.specs.Rules.{on_role_request, switch_turn}
use Rattle.of_switch.proofs.Turns.{ack-drafted, forgets-same}
use Rattle.run_spec.specs.declared.messages.Message.{Message}
use Rattle.run_spec.specs.declared.messages.Message.TheVariants as message
use Rattle.run_spec.specs.declared.messages.Unsealed.TheVariants as unsealed
use Rattle.run_spec.specs.Closing.{is_drawn}
use Rattle.run_spec.specs.States.{switch_hears, switch_message}
use Rattle.closing_laws.specs.Quorum.{has}
use Rattle.closing_laws.specs.Measure.{left_at, message_worth, unlogged, unsent}
use Rattle.closing_laws.specs.Serving.{Acknowledges, Asks, Clears, Commands, IsOlder, IsSaidBy, IsAttended, IsTrueOf, acknowledges_events, asks_role, is_request, sent_of}
use Rattle.closing_laws.proofs.Lists.Numbers.{filter_all}
use Rattle.closing_laws.proofs.Measure.Worths.{worths-append, worths-cons, worths_none, worths_of, worths_two}
use Rattle.closing_laws.proofs.Switches.AckTurns.{AfterAck, acked}
use Rattle.closing_laws.proofs.Switches.CommandTurns.{commanded}
use Rattle.closing_laws.proofs.Switches.Saying.{count_cons}
use Rattle.closing_laws.proofs.Switches.SwitchAsked.{asked_is}
use Rattle.closing_laws.proofs.Switches.SwitchCommanded.{is_commanded, late}

-- ---- ports that become events are remembered no more

-- ports that are no longer remembered
abbrev without_all : List ℕ → List ℕ → List ℕ
without_all [] dirty = dirty
without_all (port ∷ ports) dirty = without_all ports (filter (λ m. not (nat_eq m port)) dirty)

forgets_dirty : (ports : List ℕ) (b : Buffer) → (forgets ports b).dirty ≡ without_all ports b.dirty
forgets_dirty [] b = refl
forgets_dirty (port ∷ ports) b = forgets_dirty ports (without_dirty b port)

both_filter : {A : Type 0} (p q : A → Bool) (xs ys : List A) → filter q (filter p xs ++ ys) ≡ filter (λ x. p x && q x) xs ++ filter q ys
both_filter p q [] ys = refl
both_filter {A} p q (x ∷ xs) ys = by_tests (p x) (q x) refl (both_filter p q xs ys)
  where
    by_tests : (a b : Bool) → q x ≡ b → filter q (filter p xs ++ ys) ≡ filter (λ x. p x && q x) xs ++ filter q ys →
        filter q ((if a then x ∷ filter p xs else filter p xs) ++ ys) ≡ (if a && b then x ∷ filter (λ x. p x && q x) xs else filter (λ x. p x && q x) xs) ++ filter q ys
    by_tests true true is h = rw is (ap (λ (l : List A). x ∷ l) h)
    by_tests true false is h = rw is h
    by_tests false b is h = h

-- of some ports and others behind them, none of the first are left
others_left : (p : ℕ → Bool) (ports rest : List ℕ) → length (without_all ports (filter p ports ++ rest)) ≤ length rest
others_left p [] rest = omega arith
others_left p (port ∷ ports) rest =
    let q : ℕ → Bool = λ m. not (nat_eq m port) in
    let same : filter q (filter p (port ∷ ports) ++ rest) ≡ filter (λ x. p x && q x) ports ++ filter q rest =
    both_filter p q (port ∷ ports) rest ∙ ap (λ (l : List ℕ). l ++ filter q rest) (first (p port) (nat_eq port port) (eq-eqb port port refl)) in
    let deeper = others_left (λ x. p x && q x) ports (filter q rest) in
    let fewer = length-filter q rest in
    let within = count_by-le-length q rest in
    let here = ap (λ (l : List ℕ). length (without_all ports l)) same in
    omega (arith, here, deeper, fewer, within)
  where
    first : (a b : Bool) → b ≡ true →
        (if a && not b then port ∷ filter (λ x. p x && not (nat_eq x port)) ports else filter (λ x. p x && not (nat_eq x port)) ports) ≡ filter (λ x. p x && not (nat_eq x port)) ports
    first true true is = refl
    first false true is = refl
    first a false is = absurd cc

ports_raised : (s : SwitchState) (ports : List ℕ) (d : Draft) → length (with_ports s ports d).raised ≡ length d.raised + length ports
ports_raised s [] d = omega arith
ports_raised s (port ∷ ports) d =
    let rest = ports_raised s ports (with_raised (port_status s port) d) in
    let one = length-append d.raised (drafted_event d (port_status s port) ∷ []) in
    omega (arith, rest, one)

-- each event that is made of one leaves one less
dirty_less : (sw : SwitchState) (through : ℕ) →
    length (on_event_ack sw through).state.buffer.held + length (on_event_ack sw through).state.buffer.dirty ≤
    length (drop (cleared_to sw.buffer through - sw.buffer.cleared) sw.buffer.held) + length sw.buffer.dirty
dirty_less sw through =
    subst (λ (t : SwitchTurn). length t.state.buffer.held + length t.state.buffer.dirty ≤ length left.buffer.held + length sw.buffer.dirty)
    (sym (ack-drafted sw through (most_held - d.held) ports d refl refl refl)) whole
  where
    left : SwitchState
    left = cleared sw through

    d : Draft
    d = with_told (coming left (cleared_to sw.buffer through - sw.buffer.cleared)) (draft_of left)

    ports : List ℕ
    ports = take (most_held - d.held) sw.buffer.dirty

    whole : length ((forgets ports left.buffer).held ++ (with_ports sw ports d).raised) + length (forgets ports left.buffer).dirty ≤ length left.buffer.held + length sw.buffer.dirty
    whole =
        let held = ap (λ (b : Buffer). length b.held) (forgets-same ports left.buffer) in
        let made = ports_raised sw ports d in
        let all = length-append (forgets ports left.buffer).held (with_ports sw ports d).raised in
        let parts : filter (λ x. true) ports ++ drop (most_held - d.held) sw.buffer.dirty ≡ sw.buffer.dirty =
        ap (λ (l : List ℕ). l ++ drop (most_held - d.held) sw.buffer.dirty) (filter_all ports) ∙ take-append-drop (most_held - d.held) sw.buffer.dirty in
        let forgotten = ap (λ (l : List ℕ). length l) (forgets_dirty ports left.buffer) in
        let same = ap (λ (l : List ℕ). length (without_all ports l)) parts in
        let few = others_left (λ x. true) ports (drop (most_held - d.held) sw.buffer.dirty) in
        let count = ap (λ (l : List ℕ). length l) (take-append-drop (most_held - d.held) sw.buffer.dirty) in
        let sum = length-append ports (drop (most_held - d.held) sw.buffer.dirty) in
        omega (arith, held, made, all, forgotten, same, few, count, sum)

-- ---- what the letters of a switch are worth

module _ (quorum : List ℕ) (me : ℕ) (drawn : has quorum me ≡ true) (s : ℕ) where
  abbrev says_worth : List (Letter SwitchSays) → ℕ
  says_worth letters = worths_of quorum switch_message (actor.Switch s) letters

  events_worth : (events : List Event) → says_worth (map (event_letter me) events) ≡ 2 * length events
  events_worth events = worths_two quorum switch_message (actor.Switch s) (event_letter me) (λ e. rw drawn refl) events

  one_worth : (said : Spoken) → says_worth (to_controller me 0 said ∷ []) ≡ message_worth (message.Of 0 said)
  one_worth said =
      let h = worths-cons quorum switch_message (actor.Switch s) (to_controller me 0 said) [] in
      let one = ap (λ (b : Bool). if b then message_worth (message.Of 0 said) else 0) drawn in
      omega (arith, h, one)

  frames_worth : (letters : List (Letter SwitchSays)) → ((l : Letter SwitchSays) → IsIn l letters → (t : ℕ) × (l.to ≡ actor.Switch t)) → says_worth letters ≡ 0
  frames_worth letters frames = worths_none quorum switch_message (actor.Switch s) letters (λ l h.
      let to = frames l h in ap (λ (a : Actor). if is_drawn quorum (actor.Switch s) a then message_worth (switch_message l.body) else 0) to.1)

  -- ---- the turn

  module _ (kinds : List ℕ) (setup : Setup) (c : ControllerState) (own : c.vr.me ≡ me) (sw : SwitchState) where
    -- what a turn leaves, where it draws a message of this worth
    record Lowers (drawn_worth : ℕ) (turn : SwitchTurn) : Type 0 where
      pub unsent_less : says_worth turn.letters + 2 * unsent c turn.state + 1 ≤ drawn_worth + 2 * unsent c sw
      pub unlogged_less : unlogged c s turn.state ≤ unlogged c s sw

    lowered : (f drawn_worth : ℕ) (turn : SwitchTurn) → Lowers drawn_worth turn → says_worth turn.letters + left_at f c s turn.state + 1 ≤ drawn_worth + left_at f c s sw
    lowered f drawn_worth turn l =
        let less = l.unsent_less in
        let more = mul-le-mul_left (4 * f + 1) l.unlogged_less in
        omega (arith, less, more)

    -- the buffer and the fence stay
    same_unsent : (sw' : SwitchState) → sw'.buffer ≡ sw.buffer → sw'.fence ≡ sw.fence → unsent c sw' ≡ unsent c sw
    same_unsent sw' buffer fence =
        ap (λ (b : Buffer). next_number b - (if is_some_of c.vr.view sw'.fence.generation then min (next_number b) (b.cleared + window) else b.cleared) + length b.dirty) buffer
        ∙ ap (λ (f : Fence). next_number sw.buffer - (if is_some_of c.vr.view f.generation then sent_of sw else sw.buffer.cleared) + length sw.buffer.dirty) fence

    same_unlogged : (sw' : SwitchState) → sw'.buffer ≡ sw.buffer → unlogged c s sw' ≡ unlogged c s sw
    same_unlogged sw' buffer = ap (λ (b : Buffer). next_number b - count_in s b.life (received c.vr.log) + length b.dirty) buffer

    stays : (drawn_worth : ℕ) (turn : SwitchTurn) → turn.state.buffer ≡ sw.buffer → turn.state.fence ≡ sw.fence → says_worth turn.letters + 1 ≤ drawn_worth → Lowers drawn_worth turn
    stays drawn_worth turn buffer fence less =
        let a = same_unsent turn.state buffer fence in
        let b = same_unlogged turn.state buffer in
        record { unsent_less = omega (arith, a, less); unlogged_less = omega (arith, b) }

    -- it is asked for its role
    older_not : (g : Option ℕ) → IsOlder g c.vr.view → is_some_of c.vr.view g ≡ false
    older_not None older = refl
    older_not (Some n) older = ne_eqb n c.vr.view (λ e. omega (arith, e, older))

    asked_lowers : c.vr.view < 2 ^ 32 → IsTrueOf kinds setup c s sw → IsOlder sw.fence.generation c.vr.view → Lowers 2 (on_role_request sw c.vr.me 0 MASTER c.vr.view)
    asked_lowers small is_true older =
        subst (λ (t : SwitchTurn). Lowers 2 t) (sym (asked_is kinds setup c s sw small is_true older))
        (record {
          unsent_less =
              let before = ap (λ (b : Bool). next_number sw.buffer - (if b then sent_of sw else sw.buffer.cleared) + length sw.buffer.dirty) (older_not sw.fence.generation older) in
              let after = ap (λ (b : Bool). next_number sw.buffer - (if b then sent_of sw else sw.buffer.cleared) + length sw.buffer.dirty) (eq-eqb c.vr.view c.vr.view refl) in
              let reply = one_worth (spoken.Plain (plain.RoleReply MASTER c.vr.view)) in
              let events = events_worth (first_held sw) in
              let all = worths-append quorum switch_message (actor.Switch s) (to_controller me 0 (spoken.Plain (plain.RoleReply MASTER c.vr.view)) ∷ []) (map (event_letter me) (first_held sw)) in
              let count = length-take window sw.buffer.held in
              let same = ap (λ (n : ℕ). says_worth (to_controller n 0 (spoken.Plain (plain.RoleReply MASTER c.vr.view)) ∷ map (event_letter n) (first_held sw))) own in
              omega (arith, before, after, reply, events, all, count, same);
          unlogged_less = omega arith;
        })

    -- events are acknowledged
    module _ (through : ℕ) (turn : SwitchTurn) (after : AfterAck sw me through turn) (generation : sw.fence.generation ≡ Some c.vr.view)
        (less : length turn.state.buffer.held + length turn.state.buffer.dirty ≤ length (drop (cleared_to sw.buffer through - sw.buffer.cleared) sw.buffer.held) + length sw.buffer.dirty) where
      abbrev left_now : List Event
      left_now = drop (cleared_to sw.buffer through - sw.buffer.cleared) sw.buffer.held

      is_asked : (g : Option ℕ) → g ≡ Some c.vr.view → is_some_of c.vr.view g ≡ true
      is_asked g e = ap (is_some_of c.vr.view) e ∙ eq-eqb c.vr.view c.vr.view refl

      before : unsent c sw ≡ next_number sw.buffer - sent_of sw + length sw.buffer.dirty
      before = ap (λ (b : Bool). next_number sw.buffer - (if b then sent_of sw else sw.buffer.cleared) + length sw.buffer.dirty) (is_asked sw.fence.generation generation)

      now : unsent c turn.state ≡ next_number turn.state.buffer - sent_of turn.state + length turn.state.buffer.dirty
      now = ap (λ (b : Bool). next_number turn.state.buffer - (if b then sent_of turn.state else turn.state.buffer.cleared) + length turn.state.buffer.dirty)
          (is_asked turn.state.fence.generation (ap (λ (f : Fence). f.generation) after.fence ∙ generation))

      gone : turn.state.buffer.cleared ≡ cleared_to sw.buffer through
      gone = after.gone

      held : length turn.state.buffer.held ≡ length left_now + length after.more
      held = ap (λ (l : List Event). length l) after.held ∙ length-append left_now after.more

      left : length left_now ≡ length sw.buffer.held - (cleared_to sw.buffer through - sw.buffer.cleared)
      left = length-drop (cleared_to sw.buffer through - sw.buffer.cleared) sw.buffer.held

      abbrev coming_now : List Event
      coming_now = coming (cleared sw through) (cleared_to sw.buffer through - sw.buffer.cleared)

      abbrev others_now : List Event
      others_now = take (window - length left_now) after.more

      letters : says_worth turn.letters ≡ 2 * length (coming_now ++ others_now)
      letters = ap (λ (ls : List (Letter SwitchSays)). says_worth ls) after.letters ∙ events_worth (coming_now ++ others_now)

      events : length (coming_now ++ others_now) ≡ length coming_now + length others_now
      events = length-append coming_now others_now

      first : length coming_now ≡ length (take window left_now) - (window - (cleared_to sw.buffer through - sw.buffer.cleared))
      first = length-drop (window - (cleared_to sw.buffer through - sw.buffer.cleared)) (take window left_now)

      window_here : length (take window left_now) ≡ min window (length left_now)
      window_here = length-take window left_now

      others : length others_now ≡ min (window - length left_now) (length after.more)
      others = length-take (window - length left_now) after.more

      same_count : unlogged c s turn.state ≡ next_number turn.state.buffer - count_in s (life_of sw) (received c.vr.log) + length turn.state.buffer.dirty
      same_count = ap (λ (l : ℕ). next_number turn.state.buffer - count_in s l (received c.vr.log) + length turn.state.buffer.dirty) after.life

      after_ack : Lowers 1 turn
      after_ack =
          record {
            unsent_less = omega (arith, before, now, gone, held, left, less, letters, events, first, window_here, others);
            unlogged_less = omega (arith, same_count, gone, held, left, less);
          }

    acked_lowers : (through : ℕ) → sw.fence.master ≡ Some c.vr.me → sw.fence.generation ≡ Some c.vr.view → Lowers 1 (on_event_ack sw through)
    acked_lowers through master generation = after_ack through (on_event_ack sw through) (acked sw me through (master ∙ ap (λ (n : ℕ). Some n) own)) generation (dirty_less sw through)

    -- a command
    commanded_lowers : (number through : ℕ) (what : Order) → sw.fence.master ≡ Some c.vr.me → sw.fence.generation ≡ Some c.vr.view → number ≤ sw.results.executed →
        number < through + most_commands → length sw.results.outcomes ≤ sw.results.executed → Lowers 2 (on_command sw c.vr.me 0 c.vr.view number through what)
    commanded_lowers number through what master generation late near few =
        let after = commanded sw c.vr.me c.vr.view number through what master generation late near few in
        let said : Spoken = spoken.Ravana (extension.CmdAck (life_of sw) number after.result) in
        let all = ap (λ (ls : List (Letter SwitchSays)). says_worth ls) after.letters in
        let parts = worths-append quorum switch_message (actor.Switch s) after.before (letter_of_result c.vr.me (life_of sw) number after.result ∷ []) in
        let frames = frames_worth after.before (λ l among. let to = after.frames l among in (to.0, to.1)) in
        let same = ap (λ (n : ℕ). says_worth (letter_of_result n (life_of sw) number after.result ∷ [])) own in
        let one = one_worth said in
        stays 2 (on_command sw c.vr.me 0 c.vr.view number through what) after.buffer after.fence (omega (arith, all, parts, frames, same, one))

module _ (kinds : List ℕ) (setup : Setup) (c : ControllerState) (s : ℕ) (sw : SwitchState) (out in_ : List Message) (small : c.vr.view < 2 ^ 32)
    (is_true : IsTrueOf kinds setup c s sw) (quorum : List ℕ) (drawn : has quorum c.vr.me ≡ true) (f : ℕ) where
  abbrev turn_on : Message → SwitchTurn
  turn_on m = switch_turn sw (switch_hears (actor.Controller c.vr.me) (unsealed.Message m))

  abbrev Goes : Message → SwitchTurn → Type 0
  Goes m turn = worths_of quorum switch_message (actor.Switch s) turn.letters + left_at f c s turn.state + 1 ≤ message_worth m + left_at f c s sw

  silent : (m : Message) (state : SwitchState) → state.buffer ≡ sw.buffer → state.fence ≡ sw.fence → 1 ≤ message_worth m → Goes m (quiet_switch state)
  silent m state buffer fence some = lowered quorum c.vr.me drawn s kinds setup c refl sw f (message_worth m) (quiet_switch state) (stays quorum c.vr.me drawn s kinds setup c refl sw (message_worth m) (quiet_switch state) buffer fence (omega (arith, some)))

  asks : IsAttended kinds setup c s sw (asks_role c.vr.view ∷ out) in_ → Goes (asks_role c.vr.view) (turn_on (asks_role c.vr.view))
  unfolding switch_turn
  asks h = elim h.role [
    | inl unasked ↦ lowered quorum c.vr.me drawn s kinds setup c refl sw f 2 (on_role_request sw c.vr.me 0 MASTER c.vr.view) (asked_lowers quorum c.vr.me drawn s kinds setup c refl sw small is_true unasked.older)
    | inr asked ↦ let none = asked.0.no_more in let one = count_cons is_request (asks_role c.vr.view) out in absurd (omega (arith, none, one))
  ]

  acknowledges : (life through : ℕ) → IsAttended kinds setup c s sw (acknowledges_events life through ∷ out) in_ → Goes (acknowledges_events life through) (turn_on (acknowledges_events life through))
  unfolding switch_turn
  acknowledges life through h =
      cond_both (nat_eq life (life_of sw)) (on_event_ack sw through) (quiet_switch sw) (λ (t : SwitchTurn). Goes (acknowledges_events life through) t)
      (λ own. elim h.role [
        | inl unasked ↦ absurd (let first = unasked.first in cc)
        | inr asked ↦ lowered quorum c.vr.me drawn s kinds setup c refl sw f 1 (on_event_ack sw through) (acked_lowers quorum c.vr.me drawn s kinds setup c refl sw through asked.0.master asked.0.generation)
      ])
      (λ other. silent (acknowledges_events life through) sw refl refl (omega arith))

  commands : (life number through : ℕ) (what : Order) → number < through + most_commands →
      IsAttended kinds setup c s sw (message.Of 0 (spoken.Ravana (extension.Command life c.vr.view number through what)) ∷ out) in_ →
      Goes (message.Of 0 (spoken.Ravana (extension.Command life c.vr.view number through what))) (turn_on (message.Of 0 (spoken.Ravana (extension.Command life c.vr.view number through what))))
  unfolding switch_turn
  commands life number through what near h =
      cond_both (nat_eq life (life_of sw)) (on_command sw c.vr.me 0 c.vr.view number through what) (quiet_switch sw)
      (λ (t : SwitchTurn). Goes (message.Of 0 (spoken.Ravana (extension.Command life c.vr.view number through what))) t)
      (λ own. elim h.role [
        | inl unasked ↦ absurd (let first = unasked.first in cc)
        | inr asked ↦
            let here = subst (λ (l : ℕ). IsAttended kinds setup c s sw (message.Of 0 (spoken.Ravana (extension.Command l c.vr.view number through what)) ∷ out) in_) (eqb-true life (life_of sw) own) h in
            let waits = is_commanded kinds setup c s sw number through what out in_ here in
            lowered quorum c.vr.me drawn s kinds setup c refl sw f 2 (on_command sw c.vr.me 0 c.vr.view number through what)
            (commanded_lowers quorum c.vr.me drawn s kinds setup c refl sw number through what asked.0.master asked.0.generation (late kinds setup c s sw number through what out in_ waits) near is_true.results)
      ])
      (λ other. silent (message.Of 0 (spoken.Ravana (extension.Command life c.vr.view number through what))) sw refl refl (omega arith))

  clears : (life through : ℕ) → Goes (message.Of 0 (spoken.Ravana (extension.Clear life through))) (turn_on (message.Of 0 (spoken.Ravana (extension.Clear life through))))
  unfolding switch_turn
  clears life through =
      cond_both (nat_eq life (life_of sw)) (quiet_switch (settled sw through)) (quiet_switch sw) (λ (t : SwitchTurn). Goes (message.Of 0 (spoken.Ravana (extension.Clear life through))) t)
      (λ own. silent (message.Of 0 (spoken.Ravana (extension.Clear life through))) (settled sw through) refl refl (omega arith))
      (λ other. silent (message.Of 0 (spoken.Ravana (extension.Clear life through))) sw refl refl (omega arith))

  by_said : (m : Message) → IsSaidBy c.vr.view m → IsAttended kinds setup c s sw (m ∷ out) in_ → Goes m (turn_on m)
  by_said _ Asks h = asks h
  by_said _ (Acknowledges life through) h = acknowledges life through h
  by_said _ (Commands life number through what near) h = commands life number through what near h
  by_said _ (Clears life through) h = clears life through

-- each message of the primary that a switch draws lowers what is left to do
pub switch_lowers : (kinds : List ℕ) (setup : Setup) (c : ControllerState) (s : ℕ) (sw : SwitchState) (xid : ℕ) (said : Spoken) (out in_ : List Message) →
    c.vr.view < 2 ^ 32 →
    IsAttended kinds setup c s sw (message.Of xid said ∷ out) in_ →
    IsTrueOf kinds setup c s sw → (quorum : List ℕ) → has quorum c.vr.me ≡ true → (f : ℕ) →
    worths_of quorum switch_message (actor.Switch s) (switch_turn sw (switch_input.Of c.vr.me xid said)).letters
    + left_at f c s (switch_turn sw (switch_input.Of c.vr.me xid said)).state + 1 ≤ message_worth (message.Of xid said) + left_at f c s sw
switch_lowers kinds setup c s sw xid said out in_ small served is_true quorum drawn f = by_said kinds setup c s sw out in_ small is_true quorum drawn f (message.Of xid said) served.said.0 served
