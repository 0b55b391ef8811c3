-- What a switch posts where it draws what its primary said next, while a closing is drained.
use Rattle.std.proofs.Common.{◌≡◌, ◌≤◌, ◌<◌, ◌⊎◌, inl, inr, ℕ, ◌+◌, ◌-◌, ◌^◌, max, min, Bool, true, false, List, [], ◌∷◌, ◌++◌, length, map, drop, take, refl, sym, ◌∙◌, ap, subst, arith, length-append, length-take, length-drop}
use Rattle.std.specs.Prelude.{nat_eq, Option, Some, if◌then◌else◌}
use Rattle.std.proofs.lemmas.Bool.{cases_eq, cond_both, eq-eqb, eqb-true}
use Rattle.of_types.specs.declared.message.Event.{Event}
use Rattle.of_types.specs.declared.message.Extension.TheVariants as extension
use Rattle.of_types.specs.declared.message.OfMessage.TheVariants as plain
use Rattle.of_types.specs.declared.message.Order.{Order}
use Rattle.of_types.specs.declared.message.Outcome.{Outcome}
use Rattle.of_types.specs.declared.message.Spoken.TheVariants as spoken
use Rattle.of_types.specs.declared.numbers.TheConstants.{MASTER}
use Rattle.of_types.specs.declared.setup.Setup.{Setup}
use Rattle.journal.specs.declared.journal.Actor.{Actor}
use Rattle.journal.specs.declared.journal.Actor.TheVariants as actor
use Rattle.journal.specs.declared.journal.Letter.{Letter}
use Rattle.dispatcher.specs.Ledger.{most_commands}
use Rattle.event_buffer.specs.Buffer.{Buffer, cleared_to, next_number}
use Rattle.group_controller.specs.State.{ControllerState}
use Rattle.group_controller.specs.Settling.{is_some_of}
use Rattle.of_switch.specs.declared.says.SwitchSays.{SwitchSays}
use Rattle.of_switch.specs.State.{SwitchState, SwitchTurn, life_of, quiet_switch, to_controller}
use Rattle.of_switch.specs.Events.{cleared, coming, event_letter, first_held, on_event_ack, window}
use Rattle.of_switch.specs.Commands.{letter_of_result, on_command, settled}
use Rattle.of_switch.specs.Rules.{switch_turn}
use Rattle.role_fence.specs.Fence.{Fence, as_master}
use Rattle.run_spec.specs.declared.messages.Message.{Message}
use Rattle.run_spec.specs.declared.messages.Message.TheVariants as message
use Rattle.run_spec.specs.declared.messages.Unsealed.TheVariants as unsealed
use Rattle.run_spec.specs.States.{switch_hears, switch_message}
use Rattle.closing_laws.specs.Serving.{Acknowledges, Asks, Clears, Commands, IsOlder, IsSaidBy, IsAttended, IsTrueOf, acknowledges_events, asks_role, is_request, sent_of}
use Rattle.closing_laws.proofs.Draining.Drained.{put, put_other, put_own}
use Rattle.closing_laws.proofs.Pool.Rooms.{is_clear, is_else, is_event, is_role}
use Rattle.closing_laws.proofs.Pool.TestCounts.{less_if}
use Rattle.closing_laws.proofs.Pool.Waiting.{posted, posted_append, posted_cons, posted_never, posted_none, posts_always, posts_cons, posts_never, posts_of}
use Rattle.closing_laws.proofs.Switches.AckTurns.{AfterAck, acked}
use Rattle.closing_laws.proofs.Switches.CommandTurns.{AfterCommand, commanded}
use Rattle.closing_laws.proofs.Switches.Saying.{count_cons}
use Rattle.closing_laws.proofs.Switches.SwitchAsked.{asked_is, older_other}
use Rattle.closing_laws.proofs.Switches.SwitchCommanded.{is_commanded, late}

-- the events that a switch has sent since it was asked for its role in a view
abbrev pub sent_in : ℕ → SwitchState → ℕ
sent_in view sw = if is_some_of view sw.fence.generation then sent_of sw else 0

-- what it says as it is asked for its role
abbrev pub reply_of : ℕ → ℕ → SwitchState → List (Letter SwitchSays)
reply_of me view sw = to_controller me 0 (spoken.Plain (plain.RoleReply MASTER view)) ∷ map (event_letter me) (first_held sw)

-- a turn of a switch, by what it draws
pub data IsTurn (me view : ℕ) (sw : SwitchState) : Message → SwitchTurn → Type 0 where
  Replies : IsOlder sw.fence.generation view → IsTurn me view sw (asks_role view) (record { state = record sw { fence = as_master sw.fence me view }; letters = reply_of me view sw })
  Tells : (through : ℕ) (turn : SwitchTurn) → sw.fence.generation ≡ Some view → AfterAck sw me through turn → IsTurn me view sw (acknowledges_events (life_of sw) through) turn
  Results : (number settled : ℕ) (what : Order) (turn : SwitchTurn) → AfterCommand sw me number turn →
      IsTurn me view sw (message.Of 0 (spoken.Ravana (extension.Command (life_of sw) view number settled what))) turn
  Rests : (m : Message) (state : SwitchState) → state.buffer ≡ sw.buffer → state.fence ≡ sw.fence → IsTurn me view sw m (quiet_switch state)

module _ (kinds : List ℕ) (setup : Setup) (c : ControllerState) (s : ℕ) (sw : SwitchState) (small : c.vr.view < 2 ^ 32) (is_true : IsTrueOf kinds setup c s sw) (out in_ : List Message) where
  abbrev turn_on : Message → SwitchTurn
  turn_on m = switch_turn sw (switch_hears (actor.Controller c.vr.me) (unsealed.Message m))

  abbrev Turns : Message → SwitchTurn → Type 0
  Turns m turn = IsTurn c.vr.me c.vr.view sw m turn

  asks : IsAttended kinds setup c s sw (asks_role c.vr.view ∷ out) in_ → Turns (asks_role c.vr.view) (turn_on (asks_role c.vr.view))
  unfolding switch_turn
  asks served = elim served.role [
    | inl unasked ↦ subst (λ (t : SwitchTurn). Turns (asks_role c.vr.view) t) (sym (asked_is kinds setup c s sw small is_true unasked.older)) (Replies unasked.older)
    | inr asked ↦ let none = asked.0.no_more in let one = count_cons is_request (asks_role c.vr.view) out in absurd (omega (arith, none, one))
  ]

  acknowledges : (life through : ℕ) → IsAttended kinds setup c s sw (acknowledges_events life through ∷ out) in_ → Turns (acknowledges_events life through) (turn_on (acknowledges_events life through))
  unfolding switch_turn
  acknowledges life through served =
      cond_both (nat_eq life (life_of sw)) (on_event_ack sw through) (quiet_switch sw) (λ (t : SwitchTurn). Turns (acknowledges_events life through) t)
      (λ own. elim served.role [
        | inl unasked ↦ absurd (let first = unasked.first in cc)
        | inr asked ↦
            subst (λ (l : ℕ). Turns (acknowledges_events l through) (on_event_ack sw through)) (sym (eqb-true life (life_of sw) own))
            (Tells through (on_event_ack sw through) asked.0.generation (acked sw c.vr.me through asked.0.master))
      ])
      (λ other. Rests (acknowledges_events life through) sw refl refl)

  commands : (life number through : ℕ) (what : Order) → number < through + most_commands →
      IsAttended kinds setup c s sw (message.Of 0 (spoken.Ravana (extension.Command life c.vr.view number through what)) ∷ out) in_ →
      Turns (message.Of 0 (spoken.Ravana (extension.Command life c.vr.view number through what))) (turn_on (message.Of 0 (spoken.Ravana (extension.Command life c.vr.view number through what))))
  unfolding switch_turn
  commands life number through what near served =
      cond_both (nat_eq life (life_of sw)) (on_command sw c.vr.me 0 c.vr.view number through what) (quiet_switch sw)
      (λ (t : SwitchTurn). Turns (message.Of 0 (spoken.Ravana (extension.Command life c.vr.view number through what))) t)
      (λ own. elim served.role [
        | inl unasked ↦ absurd (let first = unasked.first in cc)
        | inr asked ↦
            let here = subst (λ (l : ℕ). IsAttended kinds setup c s sw (message.Of 0 (spoken.Ravana (extension.Command l c.vr.view number through what)) ∷ out) in_) (eqb-true life (life_of sw) own) served in
            let waits = is_commanded kinds setup c s sw number through what out in_ here in
            subst (λ (l : ℕ). Turns (message.Of 0 (spoken.Ravana (extension.Command l c.vr.view number through what))) (on_command sw c.vr.me 0 c.vr.view number through what)) (sym (eqb-true life (life_of sw) own))
            (Results number through what (on_command sw c.vr.me 0 c.vr.view number through what)
            (commanded sw c.vr.me c.vr.view number through what asked.0.master asked.0.generation (late kinds setup c s sw number through what out in_ waits) near is_true.results))
      ])
      (λ other. Rests (message.Of 0 (spoken.Ravana (extension.Command life c.vr.view number through what))) sw refl refl)

  clears : (life through : ℕ) → Turns (message.Of 0 (spoken.Ravana (extension.Clear life through))) (turn_on (message.Of 0 (spoken.Ravana (extension.Clear life through))))
  unfolding switch_turn
  clears life through =
      cond_both (nat_eq life (life_of sw)) (quiet_switch (settled sw through)) (quiet_switch sw) (λ (t : SwitchTurn). Turns (message.Of 0 (spoken.Ravana (extension.Clear life through))) t)
      (λ own. Rests (message.Of 0 (spoken.Ravana (extension.Clear life through))) (settled sw through) refl refl)
      (λ other. Rests (message.Of 0 (spoken.Ravana (extension.Clear life through))) sw refl refl)

  -- each kind of what the primary says
  pub turn_is : (m : Message) → IsSaidBy c.vr.view m → IsAttended kinds setup c s sw (m ∷ out) in_ → Turns m (turn_on m)
  turn_is _ Asks served = asks served
  turn_is _ (Acknowledges life through) served = acknowledges life through served
  turn_is _ (Commands life number through what near) served = commands life number through what near served
  turn_is _ (Clears life through) served = clears life through

-- A test of what a switch says: none but results may pass it, and one of this life only where the command does that it is for.
pub record IsOfResults (s life : ℕ) (is : Actor → Message → Bool) : Type 0 where
  pub reply : (a : Actor) (xid role generation : ℕ) → is a (message.Of xid (spoken.Plain (plain.RoleReply role generation))) ≡ false
  pub event : (a : Actor) (e : Event) → is a (message.Of 0 (spoken.Ravana (extension.Event e.life e.number e.what))) ≡ false
  pub frame : (a : Actor) (port : ℕ) (bytes : List ℕ) → is a (message.Frame port bytes) ≡ false
  pub result : (a : Actor) (number view i through : ℕ) (result : Outcome) (what : Order) → is a (message.Of 0 (spoken.Ravana (extension.CmdAck life number result))) ≡ true →
      is (actor.Switch s) (message.Of 0 (spoken.Ravana (extension.Command life view i through what))) ≡ true

module _ (me view : ℕ) (sw : SwitchState) where
  -- its life goes on
  pub turn_life : (m : Message) (turn : SwitchTurn) → IsTurn me view sw m turn → life_of turn.state ≡ life_of sw
  turn_life _ _ (Replies older) = refl
  turn_life _ _ (Tells through turn generation after) = after.life
  turn_life _ _ (Results number through what turn after) = ap (λ (b : Buffer). b.life) after.buffer
  turn_life _ _ (Rests m state buffer fence) = ap (λ (b : Buffer). b.life) buffer

  -- what leaves its buffer was acknowledged
  pub turn_clears : (m : Message) (turn : SwitchTurn) → IsTurn me view sw m turn →
      (turn.state.buffer.cleared ≡ sw.buffer.cleared) ⊎ ((through : ℕ) × (m ≡ acknowledges_events (life_of sw) through) × (turn.state.buffer.cleared ≤ max sw.buffer.cleared through))
  turn_clears _ _ (Replies older) = inl refl
  turn_clears _ _ (Tells through turn generation after) = let gone = after.gone in inr (through, refl, omega (arith, gone))
  turn_clears _ _ (Results number through what turn after) = inl (ap (λ (b : Buffer). b.cleared) after.buffer)
  turn_clears _ _ (Rests m state buffer fence) = inl (ap (λ (b : Buffer). b.cleared) buffer)

  module _ (s : ℕ) where
    -- how many it posts of a kind
    abbrev pub switch_posts : (Message → Bool) → List (Letter SwitchSays) → ℕ
    switch_posts is letters = posts_of is switch_message (actor.Switch s) letters

    -- letters of events, of which none passes
    pub events_never : (is : Actor → Message → Bool) → ((e : Event) → is (actor.Controller me) (message.Of 0 (spoken.Ravana (extension.Event e.life e.number e.what))) ≡ false) →
        (letters : List (Letter SwitchSays)) (events : List Event) → letters ≡ map (event_letter me) events → posted is switch_message (actor.Switch s) letters ≡ 0
    events_never is never letters events all =
        ap (λ (ls : List (Letter SwitchSays)). posted is switch_message (actor.Switch s) ls) all ∙ posted_never is switch_message (actor.Switch s) (event_letter me) never events

    -- letters of a command: frames, and its result
    result_counted : (is : Actor → Message → Bool) (number : ℕ) (turn : SwitchTurn) (after : AfterCommand sw me number turn) → ((a : Actor) (port : ℕ) (bytes : List ℕ) → is a (message.Frame port bytes) ≡ false) →
        posted is switch_message (actor.Switch s) turn.letters ≡ (if is (actor.Controller me) (message.Of 0 (spoken.Ravana (extension.CmdAck (life_of sw) number after.result))) then 1 else 0)
    result_counted is number turn after never =
        let all = ap (λ (ls : List (Letter SwitchSays)). posted is switch_message (actor.Switch s) ls) after.letters in
        let parts = posted_append is switch_message (actor.Switch s) after.before (letter_of_result me (life_of sw) number after.result ∷ []) in
        let frames = posted_none is switch_message (actor.Switch s) after.before (λ l among.
        let f = after.frames l among in ap (λ (b : SwitchSays). is l.to (switch_message b)) f.4 ∙ never l.to f.2 f.3) in
        let one = posted_cons is switch_message (actor.Switch s) (letter_of_result me (life_of sw) number after.result) [] in
        omega (arith, all, parts, frames, one)

    result_posts : (is : Message → Bool) (number : ℕ) (turn : SwitchTurn) (after : AfterCommand sw me number turn) → ((port : ℕ) (bytes : List ℕ) → is (message.Frame port bytes) ≡ false) →
        is (message.Of 0 (spoken.Ravana (extension.CmdAck (life_of sw) number after.result))) ≡ false → switch_posts is turn.letters ≡ 0
    result_posts is number turn after never other =
        result_counted (λ (a : Actor). is) number turn after (λ a port bytes. never port bytes) ∙ ap {B = ℕ} (λ (b : Bool). if b then 1 else 0) other

    -- one result at most, and only to a command that passes
    pub turn_answers : (is : Actor → Message → Bool) → IsOfResults s (life_of sw) is → (m : Message) (turn : SwitchTurn) → IsTurn me view sw m turn →
        posted is switch_message (actor.Switch s) turn.letters ≤ (if is (actor.Switch s) m then 1 else 0)
    turn_answers is of _ _ (Replies older) =
        let parts = posted_cons is switch_message (actor.Switch s) (to_controller me 0 (spoken.Plain (plain.RoleReply MASTER view))) (map (event_letter me) (first_held sw)) in
        let first = ap {B = ℕ} (λ (b : Bool). if b then 1 else 0) (of.reply (actor.Controller me) 0 MASTER view) in
        let none = posted_never is switch_message (actor.Switch s) (event_letter me) (of.event (actor.Controller me)) (first_held sw) in
        omega (arith, parts, first, none)
    turn_answers is of _ _ (Tells through turn generation after) =
        let none = events_never is (of.event (actor.Controller me)) turn.letters _ after.letters in
        omega (arith, none)
    turn_answers is of _ _ (Results number settled what turn after) =
        let one = result_counted is number turn after of.frame in
        let less = less_if (is (actor.Controller me) (message.Of 0 (spoken.Ravana (extension.CmdAck (life_of sw) number after.result))))
        (is (actor.Switch s) (message.Of 0 (spoken.Ravana (extension.Command (life_of sw) view number settled what)))) (of.result (actor.Controller me) number view number settled after.result what) in
        omega (arith, one, less)
    turn_answers is of _ _ (Rests m state buffer fence) = omega arith

    -- a request is answered by one reply
    pub role_posts : (m : Message) (turn : SwitchTurn) → IsTurn me view sw m turn → switch_posts is_role turn.letters ≤ (if is_role m then 1 else 0)
    role_posts _ _ (Replies older) =
        let parts = posts_cons is_role switch_message (actor.Switch s) (to_controller me 0 (spoken.Plain (plain.RoleReply MASTER view))) (map (event_letter me) (first_held sw)) in
        let rest = posts_never is_role switch_message (actor.Switch s) (event_letter me) (λ e. refl) (first_held sw) in
        omega (arith, parts, rest)
    role_posts _ _ (Tells through turn generation after) =
        let none = events_never (λ (a : Actor). is_role) (λ e. refl) turn.letters _ after.letters in
        omega (arith, none)
    role_posts _ _ (Results number through what turn after) = let none = result_posts is_role number turn after (λ port bytes. refl) refl in omega (arith, none)
    role_posts _ _ (Rests m state buffer fence) = omega arith

    -- nothing of a kind that switches never say
    module _ (is : Message → Bool) (reply : is (message.Of 0 (spoken.Plain (plain.RoleReply MASTER view))) ≡ false)
        (event : (e : Event) → is (message.Of 0 (spoken.Ravana (extension.Event e.life e.number e.what))) ≡ false) (frame : (port : ℕ) (bytes : List ℕ) → is (message.Frame port bytes) ≡ false)
        (result : (number : ℕ) (result : Outcome) → is (message.Of 0 (spoken.Ravana (extension.CmdAck (life_of sw) number result))) ≡ false) where
      pub never_posts : (m : Message) (turn : SwitchTurn) → IsTurn me view sw m turn → switch_posts is turn.letters ≡ 0
      never_posts _ _ (Replies older) =
          let parts = posts_cons is switch_message (actor.Switch s) (to_controller me 0 (spoken.Plain (plain.RoleReply MASTER view))) (map (event_letter me) (first_held sw)) in
          let first = ap {B = ℕ} (λ (b : Bool). if b then 1 else 0) reply in
          let rest = posts_never is switch_message (actor.Switch s) (event_letter me) event (first_held sw) in
          omega (arith, parts, first, rest)
      never_posts _ _ (Tells through turn generation after) = events_never (λ (a : Actor). is) event turn.letters _ after.letters
      never_posts _ _ (Results number through what turn after) = result_posts is number turn after frame (result number after.result)
      never_posts _ _ (Rests m state buffer fence) = refl

    pub else_posts : (m : Message) (turn : SwitchTurn) → IsTurn me view sw m turn → switch_posts is_else turn.letters ≡ 0
    else_posts = never_posts is_else refl (λ e. refl) (λ port bytes. refl) (λ number result. refl)

    pub clear_posts : (m : Message) (turn : SwitchTurn) → IsTurn me view sw m turn → switch_posts is_clear turn.letters ≡ 0
    clear_posts = never_posts is_clear refl (λ e. refl) (λ port bytes. refl) (λ number result. refl)

    is_asked : (g : Option ℕ) → g ≡ Some view → is_some_of view g ≡ true
    is_asked g e = ap (is_some_of view) e ∙ eq-eqb view view refl

    same_sent : (state : SwitchState) → state.buffer ≡ sw.buffer → state.fence ≡ sw.fence → sent_in view state ≡ sent_in view sw
    same_sent state buffer fence =
        ap (λ (b : Buffer). if is_some_of view state.fence.generation then min (next_number b) (b.cleared + window) else 0) buffer
        ∙ ap (λ (f : Fence). if is_some_of view f.generation then sent_of sw else 0) fence

    -- each event that it posts it has sent
    pub event_posts : (m : Message) (turn : SwitchTurn) → IsTurn me view sw m turn → switch_posts is_event turn.letters + sent_in view sw ≤ (if is_event m then 1 else 0) + sent_in view turn.state
    event_posts _ _ (Replies older) =
        let parts = posts_cons is_event switch_message (actor.Switch s) (to_controller me 0 (spoken.Plain (plain.RoleReply MASTER view))) (map (event_letter me) (first_held sw)) in
        let rest = posts_always is_event switch_message (actor.Switch s) (event_letter me) (λ e. refl) (first_held sw) in
        let few = length-take window sw.buffer.held in
        let before = ap {B = ℕ} (λ (b : Bool). if b then sent_of sw else 0) (older_other view sw.fence.generation older) in
        let now = ap {B = ℕ} (λ (b : Bool). if b then sent_of sw else 0) (eq-eqb view view refl) in
        omega (arith, parts, rest, few, before, now)
    event_posts _ _ (Tells through turn generation after) =
        let left = drop (cleared_to sw.buffer through - sw.buffer.cleared) sw.buffer.held in
        let here = coming (cleared sw through) (cleared_to sw.buffer through - sw.buffer.cleared) in
        let others = take (window - length left) after.more in
        let all = ap (λ (ls : List (Letter SwitchSays)). switch_posts is_event ls) after.letters ∙ posts_always is_event switch_message (actor.Switch s) (event_letter me) (λ e. refl) (here ++ others) in
        let parts = length-append here others in
        let first = length-drop (window - (cleared_to sw.buffer through - sw.buffer.cleared)) (take window left) in
        let opened = length-take window left in
        let rest = length-take (window - length left) after.more in
        let few = length-drop (cleared_to sw.buffer through - sw.buffer.cleared) sw.buffer.held in
        let held = ap (λ (l : List Event). length l) after.held ∙ length-append left after.more in
        let gone = after.gone in
        let before = ap {B = ℕ} (λ (b : Bool). if b then sent_of sw else 0) (is_asked sw.fence.generation generation) in
        let now = ap {B = ℕ} (λ (b : Bool). if b then sent_of turn.state else 0) (is_asked turn.state.fence.generation (ap (λ (f : Fence). f.generation) after.fence ∙ generation)) in
        omega (arith, all, parts, first, opened, rest, few, held, gone, before, now)
    event_posts _ _ (Results number through what turn after) =
        let none = result_posts is_event number turn after (λ port bytes. refl) refl in
        let same = same_sent turn.state after.buffer after.fence in
        omega (arith, none, same)
    event_posts _ _ (Rests m state buffer fence) = let same = same_sent state buffer fence in omega (arith, same)

-- the lives of all switches go on
pub turn_lives : (me view : ℕ) (switches : ℕ → SwitchState) (s : ℕ) (m : Message) (turn : SwitchTurn) → IsTurn me view (switches s) m turn → (t : ℕ) → life_of (put switches s turn.state t) ≡ life_of (switches t)
turn_lives me view switches s m turn is t = elim (cases_eq t s) [
  | inl e ↦ subst (λ (k : ℕ). life_of (put switches s turn.state k) ≡ life_of (switches k)) (sym e) (ap life_of (put_own switches s turn.state) ∙ turn_life me view (switches s) m turn is)
  | inr e ↦ ap life_of (put_other switches s turn.state t e)
]
