-- What a draft comes to is what the rules say.
use Rattle.std.proofs.Common.{◌≡◌, ℕ, ◌+◌, ◌-◌, Bool, true, false, List, [], ◌∷◌, ◌++◌, length, length-append, length-drop, take, refl, sym, ◌∙◌, ap, subst, arith, append_assoc, append-nil, suc, zero}
use Rattle.std.proofs.lemmas.Bool.{le-leb, lt-leb}
use Rattle.std.specs.Prelude.{nat_eq, nat_le, nat_lt, Option, Some, None, if◌then◌else◌}
use Rattle.of_types.specs.declared.message.Event.{Event}
use Rattle.of_types.specs.declared.message.Happening.{Happening}
use Rattle.of_types.specs.declared.message.Executed.{Executed}
use Rattle.of_types.specs.declared.message.Order.{Order}
use Rattle.of_types.specs.declared.message.Order.TheVariants as order
use Rattle.of_types.specs.declared.message.Outcome.{Outcome}
use Rattle.of_types.specs.declared.message.Outcome.TheVariants as outcome
use Rattle.of_types.specs.declared.message.PacketOut.{PacketOut}
use Rattle.of_types.specs.declared.message.Row.{Row}
use Rattle.of_types.specs.declared.numbers.TheConstants.{TO_CONTROLLER}
use Rattle.of_types.specs.Lives.{last_life, switch_up}
use Rattle.journal.specs.declared.journal.Letter.{Letter}
use Rattle.event_buffer.specs.Buffer.{Buffer, most_held, is_full, next_event, next_number, without_dirty, without_events_below, cleared_to}
use Rattle.command_buffer.specs.Results.{Results, with_result, without_results_below}
use Rattle.of_switch.specs.declared.says.SwitchSays.{SwitchSays}
use Rattle.of_switch.specs.State.{SwitchState, IsSwitch, SwitchTurn, quiet_switch, posts, then_turn, greetings, life_of}
use Rattle.of_switch.specs.Events.{event_letters, raised, packet_raised, port_status, with_port, coming, cleared, remembers, tells_ports, next_life, on_event_ack, switch_on_restart}
use Rattle.of_switch.specs.Commands.{result_of, done_as, counted_command, result_letter, executes, settled}
use Rattle.of_switch.specs.Forwarding.{targets, sends_to, puts_out, puts_all, packet_in_of, through_row}
use Rattle.of_switch.proofs.Ports.{down-then}
use Rattle.of_switch.specs.Drafts.{Draft, IsDraft, draft_of, drafted, drafted_event, with_raised, with_packet, with_sent, with_output, with_outputs, untold, with_draft_row, with_ports, forgets, forgetting, changed_to, with_told, life_begun, sent_as}

-- a draft with nothing new leaves all as it is
pub starts : (s : SwitchState) → quiet_switch s ≡ drafted s (draft_of s)
starts s = rw (append-nil s.buffer.held, append-nil s.events) refl

pub start-is : (s : SwitchState) → IsDraft s (draft_of s)
start-is s = record { switch_is = refl; life_is = refl; master_is = refl; cleared_is = refl; held_is = omega arith }

-- how many events the buffer holds by then
pub held-then : (s : SwitchState) (d : Draft) → IsDraft s d → length (s.buffer.held ++ d.raised) ≡ d.held
held-then s d is = length-append s.buffer.held d.raised ∙ sym is.held_is

-- the next event
next-then : (s : SwitchState) (d : Draft) (what : Happening) → IsDraft s d → next_event (drafted s d).state.buffer what ≡ drafted_event d what
next-then s d what is =
    rw (held-then s d is, is.switch_is, is.life_is, is.cleared_is) refl

-- something happens
pub raised-is : (s : SwitchState) (d : Draft) (what : Happening) → IsDraft s d → IsDraft s (with_raised what d)
raised-is s d what is =
    record {
      switch_is = is.switch_is;
      life_is = is.life_is;
      master_is = is.master_is;
      cleared_is = is.cleared_is;
      held_is = let more = length-append d.raised (drafted_event d what ∷ []) in omega (arith, more, is.held_is);
    }

pub raised-drafted : (s : SwitchState) (d : Draft) (what : Happening) → IsDraft s d → then_turn (drafted s d) (raised what) ≡ drafted s (with_raised what d)
raised-drafted s d what is =
    rw (
      held-then s d is,
      is.switch_is,
      is.life_is,
      is.cleared_is,
      is.master_is,
      append_assoc s.buffer.held d.raised (record { switch = s.buffer.switch; life = s.buffer.life; number = s.buffer.cleared + d.held; what = what } ∷ []),
      append_assoc s.events d.raised (record { switch = s.buffer.switch; life = s.buffer.life; number = s.buffer.cleared + d.held; what = what } ∷ []),
    ) refl

pub sent-drafted : (s : SwitchState) (d : Draft) (frame ports : List ℕ) → then_turn (drafted s d) (sends_to frame ports) ≡ drafted s (with_sent s frame ports d)
sent-drafted s d frame ports = refl

-- a packet-in that finds the buffer full is dropped
pub packet-is : (s : SwitchState) (d : Draft) (what : Happening) → IsDraft s d → IsDraft s (with_packet what d)
packet-is s d what is = by_test (nat_le most_held d.held)
  where
    by_test : (b : Bool) → IsDraft s (if b then d else with_raised what d)
    by_test true = is
    by_test false = raised-is s d what is

pub packet-drafted : (s : SwitchState) (d : Draft) (what : Happening) → IsDraft s d → then_turn (drafted s d) (packet_raised what) ≡ drafted s (with_packet what d)
packet-drafted s d what is = by_test (nat_le most_held d.held) (ap (λ (n : ℕ). nat_le most_held n) (held-then s d is))
  where
    by_test : (b : Bool) → is_full (drafted s d).state.buffer ≡ b → then_turn (drafted s d) (packet_raised what) ≡ drafted s (if b then d else with_raised what d)
    by_test true full = rw (full, append-nil d.letters) refl
    by_test false room = rw room (raised-drafted s d what is)

-- outputs, by what becomes of one to the controller
pub record Tells (s : SwitchState) (tells : SwitchState → SwitchTurn) (told : Draft → Draft) : Type 0 where
  pub is : (d : Draft) → IsDraft s d → IsDraft s (told d)
  pub turn : (d : Draft) → IsDraft s d → then_turn (drafted s d) tells ≡ drafted s (told d)

output-is : (s : SwitchState) (tells : SwitchState → SwitchTurn) (told : Draft → Draft) (port : ℕ) (frame : List ℕ) (output : ℕ) (d : Draft) → Tells s tells told → IsDraft s d → IsDraft s (with_output s told port frame output d)
output-is s tells told port frame output d tell is = by_test (nat_eq output TO_CONTROLLER)
  where
    by_test : (b : Bool) → IsDraft s (if b then told d else with_sent s frame (targets s port output) d)
    by_test true = tell.is d is
    by_test false = record { switch_is = is.switch_is; life_is = is.life_is; master_is = is.master_is; cleared_is = is.cleared_is; held_is = is.held_is }

output-drafted : (s : SwitchState) (tells : SwitchState → SwitchTurn) (told : Draft → Draft) (port : ℕ) (frame : List ℕ) (output : ℕ) (d : Draft) → Tells s tells told → IsDraft s d →
    then_turn (drafted s d) (puts_out tells port frame output) ≡ drafted s (with_output s told port frame output d)
output-drafted s tells told port frame output d tell is = by_test (nat_eq output TO_CONTROLLER)
  where
    by_test : (b : Bool) → then_turn (drafted s d) (λ now. if b then tells now else sends_to frame (targets now port output) now) ≡ drafted s (if b then told d else with_sent s frame (targets s port output) d)
    by_test true = tell.turn d is
    by_test false = sent-drafted s d frame (targets s port output)

pub outputs-is : (s : SwitchState) (tells : SwitchState → SwitchTurn) (told : Draft → Draft) (port : ℕ) (frame : List ℕ) (outputs : List ℕ) (d : Draft) → Tells s tells told → IsDraft s d →
    IsDraft s (with_outputs s told port frame outputs d)
outputs-is s tells told port frame [] d tell is = is
outputs-is s tells told port frame (output ∷ outputs) d tell is =
    outputs-is s tells told port frame outputs (with_output s told port frame output d) tell (output-is s tells told port frame output d tell is)

pub outputs-drafted : (s : SwitchState) (tells : SwitchState → SwitchTurn) (told : Draft → Draft) (port : ℕ) (frame : List ℕ) (outputs : List ℕ) (d : Draft) → Tells s tells told → IsDraft s d →
    puts_all tells port frame outputs (drafted s d) ≡ drafted s (with_outputs s told port frame outputs d)
outputs-drafted s tells told port frame [] d tell is = refl
outputs-drafted s tells told port frame (output ∷ outputs) d tell is =
    ap (λ (t : SwitchTurn). puts_all tells port frame outputs t) (output-drafted s tells told port frame output d tell is)
    ∙ outputs-drafted s tells told port frame outputs (with_output s told port frame output d) tell (output-is s tells told port frame output d tell is)

-- a row raises packet-ins
packets-told : (s : SwitchState) (what : Happening) → Tells s (packet_raised what) (with_packet what)
packets-told s what = record { is = λ d is. packet-is s d what is; turn = λ d is. packet-drafted s d what is }

-- and a PACKET_OUT none
pub nothing-told : (s : SwitchState) → Tells s quiet_switch untold
nothing-told s = record { is = λ d is. is; turn = λ d is. rw (append-nil d.letters) refl }

-- a frame meets a row, or none
pub row-is : (s : SwitchState) (port : ℕ) (frame : List ℕ) (found : Option Row) → IsDraft s (with_draft_row s port frame found (draft_of s))
row-is s port frame None = start-is s
row-is s port frame (Some row) = outputs-is s _ _ port frame row.actions (draft_of s) (packets-told s (packet_in_of row port frame)) (start-is s)

pub row-drafted : (s : SwitchState) (port : ℕ) (frame : List ℕ) (found : Option Row) → drafted s (with_draft_row s port frame found (draft_of s)) ≡ through_row s port frame found
row-drafted s port frame None = sym (starts s)
row-drafted s port frame (Some row) =
    sym (ap (λ (t : SwitchTurn). puts_all (packet_raised (packet_in_of row port frame)) port frame row.actions t) (starts s)
    ∙ outputs-drafted s _ _ port frame row.actions (draft_of s) (packets-told s (packet_in_of row port frame)) (start-is s))

-- ports are told as they are
pub ports-is : (s b : SwitchState) (ports : List ℕ) (d : Draft) → IsDraft b d → IsDraft b (with_ports s ports d)
ports-is s b [] d is = is
ports-is s b (port ∷ ports) d is = ports-is s b ports (with_raised (port_status s port) d) (raised-is b d (port_status s port) is)

pub ports-drafted : (s b : SwitchState) (ports : List ℕ) (d : Draft) → s.down ≡ b.down → IsDraft b d → tells_ports ports (drafted b d) ≡ drafted b (with_ports s ports d)
ports-drafted s b [] d down is = refl
ports-drafted s b (port ∷ ports) d down is =
    ap (λ (t : SwitchTurn). tells_ports ports t)
    (raised-drafted b d (port_status b port) is ∙ ap (λ (what : Happening). drafted b (with_raised what d)) (status-same s b port down))
    ∙ ports-drafted s b ports (with_raised (port_status s port) d) down (raised-is b d (port_status s port) is)
  where
    status-same : (s b : SwitchState) (port : ℕ) → s.down ≡ b.down → port_status b port ≡ port_status s port
    status-same s b port down = rw down refl

-- ports that were remembered are told while there is room, and forgotten
pub remembers-drafted : (s b : SwitchState) (ports : List ℕ) (room : ℕ) (d : Draft) → s.down ≡ b.down → IsDraft b d → room ≡ most_held - d.held →
    remembers ports (drafted b d) ≡ drafted (forgetting (take room ports) b) (with_ports s (take room ports) d)
remembers-drafted s b [] zero d down is e = refl
remembers-drafted s b [] (suc room) d down is e = refl
remembers-drafted s b (port ∷ ports) zero d down is e =
    let full : is_full (drafted b d).state.buffer ≡ true = ap (λ (n : ℕ). nat_le most_held n) (held-then b d is) ∙ le-leb most_held d.held (omega (arith, e)) in
    rw full refl
remembers-drafted s b (port ∷ ports) (suc room) d down is e =
    let free : is_full (drafted b d).state.buffer ≡ false = ap (λ (n : ℕ). nat_le most_held n) (held-then b d is) ∙ lt-leb most_held d.held (omega (arith, e)) in
    let b' : SwitchState = (record b { buffer = without_dirty b.buffer port }) in
    let is' : IsDraft b' d = record { switch_is = is.switch_is; life_is = is.life_is; master_is = is.master_is; cleared_is = is.cleared_is; held_is = is.held_is } in
    rw free
    (ap (λ (t : SwitchTurn). remembers ports t) (raised-drafted b' d (port_status b' port) is' ∙ ap (λ (what : Happening). drafted b' (with_raised what d)) (status-same s b' port down))
    ∙ remembers-drafted s b' ports room (with_raised (port_status s port) d) down (raised-is b' d (port_status s port) is') (omega (arith, e)))
  where
    status-same : (s b : SwitchState) (port : ℕ) → s.down ≡ b.down → port_status b port ≡ port_status s port
    status-same s b port down = rw down refl

-- ---- what a switch takes of a draft

-- the switch stays one
pub drafted-switch : (s : SwitchState) (d : Draft) → IsSwitch s → IsSwitch (drafted s d).state
drafted-switch s d known =
    record {
      ports = known.ports;
      events =
          let held = length-append s.buffer.held d.raised in
          let events = length-append s.events d.raised in omega (arith, held, events, known.events);
      executed = known.executed;
      countable = known.countable;
    }

-- a port changes, and the change is told
pub change-drafted : (s : SwitchState) (port : ℕ) (up : Bool) →
    raised (port_status (with_port s port up) port) (with_port s port up) ≡ drafted (with_port s port up) (with_raised (changed_to port up) (draft_of s))
change-drafted s port up =
    let s' : SwitchState = with_port s port up in
    let status : port_status s' port ≡ changed_to port up = rw (down-then s port up) refl in
    ap (λ (what : Happening). raised what s') status
    ∙ ap (λ (t : SwitchTurn). then_turn t (raised (changed_to port up))) (starts s')
    ∙ raised-drafted s' (draft_of s') (changed_to port up) (start-is s')

pub change-is : (s : SwitchState) (port : ℕ) (up : Bool) → IsDraft s (with_raised (changed_to port up) (draft_of s))
change-is s port up = raised-is s (draft_of s) (changed_to port up) (start-is s)

-- ---- an acknowledgement

-- letters of a turn, as a draft
posts-start : (s : SwitchState) (letters : List (Letter SwitchSays)) → posts s letters ≡ drafted s (record (draft_of s) { letters = letters })
posts-start s letters = ap (λ (t : SwitchTurn). record t { letters = letters }) (starts s)

pub ack-drafted : (s : SwitchState) (through room : ℕ) (ports : List ℕ) (d : Draft) →
    d ≡ with_told (coming (cleared s through) (cleared_to s.buffer through - s.buffer.cleared)) (draft_of (cleared s through)) → room ≡ most_held - d.held → ports ≡ take room s.buffer.dirty →
    on_event_ack s through ≡ drafted (forgetting ports (cleared s through)) (with_ports s ports d)
ack-drafted s through room ports d is free those =
    let b : SwitchState = cleared s through in
    let letters : List (Letter SwitchSays) = event_letters s.fence.master (coming b (cleared_to s.buffer through - s.buffer.cleared)) in
    let same : drafted b (record (draft_of b) { letters = letters }) ≡ drafted b d = ap (λ (x : Draft). drafted b x) (sym is) in
    ap (λ (t : SwitchTurn). remembers s.buffer.dirty t) (posts-start b letters ∙ same)
    ∙ remembers-drafted s b s.buffer.dirty room d refl (ack-is s through d is) free
    ∙ ap (λ (ps : List ℕ). drafted (forgetting ps b) (with_ports s ps d)) (sym those)
  where
    ack-is : (s : SwitchState) (through : ℕ) (d : Draft) → d ≡ with_told (coming (cleared s through) (cleared_to s.buffer through - s.buffer.cleared)) (draft_of (cleared s through)) → IsDraft (cleared s through) d
    ack-is s through d is =
        subst (λ (x : Draft). IsDraft (cleared s through) x) (sym is) (record { switch_is = refl; life_is = refl; master_is = refl; cleared_is = refl; held_is = omega arith })

pub ack-is : (s : SwitchState) (through : ℕ) (ports : List ℕ) (d : Draft) →
    d ≡ with_told (coming (cleared s through) (cleared_to s.buffer through - s.buffer.cleared)) (draft_of (cleared s through)) → IsDraft (cleared s through) (with_ports s ports d)
ack-is s through ports d is =
    ports-is s (cleared s through) ports d
    (subst (λ (x : Draft). IsDraft (cleared s through) x) (sym is) (record { switch_is = refl; life_is = refl; master_is = refl; cleared_is = refl; held_is = omega arith }))

-- forgetting ports changes nothing else of a buffer
pub forgets-same : (ports : List ℕ) (b : Buffer) → forgets ports b ≡ record b { dirty = (forgets ports b).dirty }
forgets-same [] b = refl
forgets-same (port ∷ ports) b = forgets-same ports (without_dirty b port)

-- nor does it matter which events it holds
pub forgets-joined : (ports : List ℕ) (b : Buffer) (events : List Event) → forgets ports (record b { held = b.held ++ events }) ≡ record (forgets ports b) { held = (forgets ports b).held ++ events }
forgets-joined [] b events = refl
forgets-joined (port ∷ ports) b events = forgets-joined ports (without_dirty b port) events

-- events that leave take no number with them
cleared-next : (b : Buffer) (through : ℕ) → next_number (without_events_below b through) ≡ next_number b
cleared-next b through = let rest = length-drop (cleared_to b through - b.cleared) b.held in omega (arith, rest)

pub forgotten-switch : (ports : List ℕ) (s : SwitchState) (through : ℕ) → IsSwitch s → IsSwitch (forgetting ports (cleared s through))
forgotten-switch ports s through known =
    let left : Buffer = without_events_below s.buffer through in
    let same : next_number (forgets ports left) ≡ next_number s.buffer = ap next_number (forgets-same ports left) ∙ cleared-next s.buffer through in
    record { ports = known.ports; events = omega (arith, same, known.events); executed = known.executed; countable = known.countable }

-- ---- a restart

pub life-switch : (s : SwitchState) → IsSwitch s → IsSwitch (next_life s)
life-switch s known = record { ports = known.ports; events = omega arith; executed = omega arith; countable = known.countable }

pub restart-drafted : (s : SwitchState) → nat_lt (life_of s) last_life ≡ true → switch_on_restart s ≡ drafted (next_life s) (life_begun s)
restart-drafted s more =
    let b : SwitchState = next_life s in
    let first : raised switch_up b ≡ drafted b (with_raised switch_up (draft_of b)) =
    ap (λ (t : SwitchTurn). then_turn t (raised switch_up)) (starts b) ∙ raised-drafted b (draft_of b) switch_up (start-is b) in
    let told = ports-drafted s b s.down (with_raised switch_up (draft_of b)) refl (raised-is b (draft_of b) switch_up (start-is b)) in
    rw more
    (ap (λ (t : SwitchTurn). then_turn (tells_ports s.down t) (λ now. posts now (greetings now))) first
    ∙ ap (λ (t : SwitchTurn). then_turn t (λ now. posts now (greetings now))) told)

pub restart-is : (s : SwitchState) → IsDraft (next_life s) (life_begun s)
restart-is s =
    let is = ports-is s (next_life s) s.down (with_raised switch_up (draft_of (next_life s))) (raised-is (next_life s) (draft_of (next_life s)) switch_up (start-is (next_life s))) in
    record { switch_is = is.switch_is; life_is = is.life_is; master_is = is.master_is; cleared_is = is.cleared_is; held_is = is.held_is }

-- ---- a PACKET_OUT

-- what it sends doesn't ask for the results that are kept
outputs-same : (s : SwitchState) (results : Results) (port : ℕ) (frame outputs : List ℕ) (d : Draft) →
    with_outputs (record s { results = results }) untold port frame outputs d ≡ with_outputs s untold port frame outputs d
outputs-same s results port frame [] d = refl
outputs-same s results port frame (output ∷ outputs) d = outputs-same s results port frame outputs (with_output s untold port frame output d)

-- it raises nothing
untold-raised : (s : SwitchState) (port : ℕ) (frame outputs : List ℕ) (d : Draft) → (with_outputs s untold port frame outputs d).raised ≡ d.raised
untold-raised s port frame [] d = refl
untold-raised s port frame (output ∷ outputs) d =
    untold-raised s port frame outputs (with_output s untold port frame output d) ∙ by_test (nat_eq output TO_CONTROLLER)
  where
    by_test : (b : Bool) → (if b then d else with_sent s frame (targets s port output) d).raised ≡ d.raised
    by_test true = refl
    by_test false = refl

-- a draft that raises nothing
drafted-quietly : (s : SwitchState) (d : Draft) → d.raised ≡ [] → drafted s d ≡ posts (record s { sent = d.sent }) d.letters
drafted-quietly s d none = rw (none, append-nil s.buffer.held, append-nil s.events) refl

-- what a PACKET_OUT with this result does
packet-does : (s : SwitchState) (results : Results) (out : PacketOut) (result : Outcome) →
    done_as result (order.PacketOut out) (record s { results = results })
    ≡ posts (record s { results = results; sent = (sent_as s result out (draft_of s)).sent }) (sent_as s result out (draft_of s)).letters
packet-does s results out outcome.Done =
    let s' : SwitchState = (record s { results = results }) in
    let same = outputs-same s results out.in_port out.payload out.actions (draft_of s) in
    ap (λ (t : SwitchTurn). puts_all quiet_switch out.in_port out.payload out.actions t) (starts s')
    ∙ outputs-drafted s' quiet_switch untold out.in_port out.payload out.actions (draft_of s') (nothing-told s') (start-is s')
    ∙ ap (λ (d : Draft). drafted s' d) same
    ∙ drafted-quietly s' (with_outputs s untold out.in_port out.payload out.actions (draft_of s)) (untold-raised s out.in_port out.payload out.actions (draft_of s))
packet-does s results out (outcome.Failed kind code) = refl
packet-does s results out outcome.Cleared = refl

-- a switch that counted it
pub packet-executed : (s : SwitchState) (through from generation number : ℕ) (out : PacketOut) (result : Outcome) (sent : ℕ) (results : Results) (executed : List Executed) (letters : List (Letter SwitchSays)) →
    result ≡ result_of s (order.PacketOut out) → sent ≡ (sent_as s result out (draft_of s)).sent → results ≡ with_result (without_results_below s.results through) result →
    executed ≡ s.executed ++ record { life = life_of s; number = number; generation = generation; from = from; order = order.PacketOut out } ∷ [] →
    letters ≡ (sent_as s result out (draft_of s)).letters ++ result_letter s from number result ∷ [] →
    posts (record s { sent = sent; results = results; executed = executed }) letters ≡ executes (settled s through) from generation number (order.PacketOut out)
packet-executed s through from generation number out result sent results executed letters is e r x l =
    let what : Order = order.PacketOut out in
    rw (e, r, x, l)
    (sym (ap (λ (t : SwitchTurn). then_turn t (λ now. posts (counted_command from generation number what result now) (result_letter s from number result ∷ []))) (packet-does s (without_results_below s.results through) out result))
    ∙ ap (λ (o : Outcome). then_turn (done_as o what (settled s through)) (λ now. posts (counted_command from generation number what o now) (result_letter s from number o ∷ []))) is)
