-- What a command leaves of a switch, and what it says.
use Rattle.std.proofs.Common.{◌≡◌, ◌≤◌, ◌<◌, ℕ, ◌+◌, ◌-◌, min, Bool, true, false, ◌&&◌, List, [], ◌∷◌, ◌++◌, length, refl, ◌∙◌, ap, subst, arith, inl, inr, append-nil}
use Rattle.std.specs.Prelude.{nat_eq, nat_lt, flat_map, Some, if◌then◌else◌}
use Rattle.std.proofs.lemmas.Bool.{cond_both, eq-eqb, eqb-true, eqb-false, lt-ltb}
use Rattle.std.proofs.lemmas.List.{length-drop}
use Rattle.of_types.specs.declared.message.Order.{Order}
use Rattle.of_types.specs.declared.message.Order.TheVariants as order
use Rattle.of_types.specs.declared.message.Outcome.{Outcome}
use Rattle.of_types.specs.declared.message.Outcome.TheVariants as outcome
use Rattle.of_types.specs.declared.numbers.TheConstants.{TO_CONTROLLER}
use Rattle.of_types.specs.declared.setup.Link.{Link}
use Rattle.journal.specs.declared.journal.Actor.TheVariants as actor
use Rattle.journal.specs.declared.journal.Letter.{Letter}
use Rattle.list_facts.specs.Lists.{IsIn}
use Rattle.list_facts.proofs.Elements.{in_append, in_flat_map}
use Rattle.role_fence.specs.Fence.{may_execute}
use Rattle.command_buffer.specs.declared.buffer.Offer.TheVariants.{Repeat}
use Rattle.command_buffer.specs.Results.{Results, first_kept, kept_result, most_kept, offer_of}
use Rattle.event_buffer.specs.Buffer.{Buffer}
use Rattle.dispatcher.specs.Ledger.{most_commands}
use Rattle.of_switch.specs.declared.says.SwitchSays.{SwitchSays}
use Rattle.of_switch.specs.declared.says.SwitchSays.TheVariants as switch_says
use Rattle.of_switch.specs.State.{SwitchState, SwitchTurn, life_of, own_number_of, quiet_switch, then_turn}
use Rattle.of_switch.specs.Commands.{done_as, executes, letter_of_result, on_command, on_offer, result_of, settled}
use Rattle.of_switch.specs.Forwarding.{over_link, over_links, puts_all, puts_out, sends_to, targets}

-- a frame that goes to a port of a switch
abbrev pub IsFrame : Letter SwitchSays → Type 0
IsFrame l = (t : ℕ) × (l.to ≡ actor.Switch t) × (port : ℕ) × (bytes : List ℕ) × (l.body ≡ switch_says.Frame port bytes)

-- letters to other switches
abbrev pub AreFrames : List (Letter SwitchSays) → Type 0
AreFrames letters = (l : Letter SwitchSays) → IsIn l letters → IsFrame l

-- a turn that only sends frames, and changes what it may change
record Frames (s : SwitchState) (t : SwitchTurn) : Type 0 where
  pub buffer : t.state.buffer ≡ s.buffer
  pub events : t.state.events ≡ s.events
  pub fence : t.state.fence ≡ s.fence
  pub results : t.state.results ≡ s.results
  pub frames : AreFrames t.letters

one_link : (frame : List ℕ) (switch port : ℕ) (k : Link) (l : Letter SwitchSays) → IsIn l (over_link frame switch port k) → IsFrame l
one_link frame switch port k l = by_tests (nat_eq k.switch switch && nat_eq k.port port) (nat_eq k.peer switch && nat_eq k.peer_port port)
  where
    by_tests : (a b : Bool) → IsIn l (if a then record { to = actor.Switch k.peer; body = switch_says.Frame k.peer_port frame } ∷ [] else if b then record { to = actor.Switch k.switch; body = switch_says.Frame k.port frame } ∷ [] else []) → IsFrame l
    by_tests true b (inl is) = (k.peer, ap (λ (x : Letter SwitchSays). x.to) is, k.peer_port, frame, ap (λ (x : Letter SwitchSays). x.body) is)
    by_tests true b (inr none) = absurd none
    by_tests false true (inl is) = (k.switch, ap (λ (x : Letter SwitchSays). x.to) is, k.port, frame, ap (λ (x : Letter SwitchSays). x.body) is)
    by_tests false true (inr none) = absurd none
    by_tests false false none = absurd none

sent_frames : (s : SwitchState) (frame ports : List ℕ) → AreFrames (flat_map (over_links s frame) ports)
sent_frames s frame ports l among =
    let by_port = in_flat_map (over_links s frame) ports l among in
    let by_link = in_flat_map (over_link frame (own_number_of s) by_port.0) s.links l by_port.2 in
    one_link frame (own_number_of s) by_port.0 by_link.0 l by_link.2

-- outputs, one after another
frames_more : (s : SwitchState) (t : SwitchTurn) (port : ℕ) (frame : List ℕ) (output : ℕ) → Frames s t → Frames s (then_turn t (puts_out quiet_switch port frame output))
frames_more s t port frame output h =
    cond_both (nat_eq output TO_CONTROLLER) (quiet_switch t.state) (sends_to frame (targets t.state port output) t.state) (λ (x : SwitchTurn). Frames s (record { state = x.state; letters = t.letters ++ x.letters }))
    (λ _. record { buffer = h.buffer; events = h.events; fence = h.fence; results = h.results; frames = λ l among. h.frames l (subst (λ (ls : List (Letter SwitchSays)). IsIn l ls) (append-nil t.letters) among) })
    (λ _. record {
      buffer = h.buffer;
      events = h.events;
      fence = h.fence;
      results = h.results;
      frames = λ l among. elim (in_append l t.letters (flat_map (over_links t.state frame) (targets t.state port output)) among) [
        | inl old ↦ h.frames l old
        | inr new ↦ sent_frames t.state frame (targets t.state port output) l new
      ];
    })

frames_all : (s : SwitchState) (port : ℕ) (frame outputs : List ℕ) (t : SwitchTurn) → Frames s t → Frames s (puts_all quiet_switch port frame outputs t)
frames_all s port frame [] t h = h
frames_all s port frame (output ∷ outputs) t h = frames_all s port frame outputs (then_turn t (puts_out quiet_switch port frame output)) (frames_more s t port frame output h)

done_frames : (s : SwitchState) (result : Outcome) (what : Order) → Frames s (done_as result what s)
done_frames s outcome.Done (order.PacketOut out) = frames_all s out.in_port out.payload out.actions (quiet_switch s) (record { buffer = refl; events = refl; fence = refl; results = refl; frames = λ l none. absurd none })
done_frames s outcome.Done (order.FlowMod change) = record { buffer = refl; events = refl; fence = refl; results = refl; frames = λ l none. absurd none }
done_frames s (outcome.Failed kind code) what = record { buffer = refl; events = refl; fence = refl; results = refl; frames = λ l none. absurd none }
done_frames s outcome.Cleared what = record { buffer = refl; events = refl; fence = refl; results = refl; frames = λ l none. absurd none }

-- what a command leaves that is carried out, or was before: its result is told behind the frames
pub record AfterCommand (sw : SwitchState) (me number : ℕ) (t : SwitchTurn) : Type 0 where
  pub buffer : t.state.buffer ≡ sw.buffer
  pub events : t.state.events ≡ sw.events
  pub fence : t.state.fence ≡ sw.fence
  pub executed : number < t.state.results.executed
  pub before : List (Letter SwitchSays)
  pub frames : AreFrames before
  pub result : Outcome
  pub letters : t.letters ≡ before ++ letter_of_result me (life_of sw) number result ∷ []

executed_after : (sw s : SwitchState) (me generation number : ℕ) (what : Order) → s.buffer ≡ sw.buffer → s.events ≡ sw.events → s.fence ≡ sw.fence → number ≡ s.results.executed →
    AfterCommand sw me number (executes s me generation number what)
executed_after sw s me generation number what buffer events fence next =
    let done = done_frames s (result_of s what) what in
    let count = ap (λ (r : Results). r.executed) done.results in
    record {
      buffer = done.buffer ∙ buffer;
      events = done.events ∙ events;
      fence = done.fence ∙ fence;
      executed = omega (arith, count, next);
      before = (done_as (result_of s what) what s).letters;
      frames = done.frames;
      result = result_of s what;
      letters = ap (λ (b : Buffer). (done_as (result_of s what) what s).letters ++ letter_of_result me b.life number (result_of s what) ∷ []) buffer;
    }

-- a command of the master and its generation, whose number is the next one at the latest, and not far beyond what is settled
pub commanded : (sw : SwitchState) (me view number through : ℕ) (what : Order) → sw.fence.master ≡ Some me → sw.fence.generation ≡ Some view → number ≤ sw.results.executed →
    number < through + most_commands → length sw.results.outcomes ≤ sw.results.executed → AfterCommand sw me number (on_command sw me 0 view number through what)
commanded sw me view number through what master generation late near few =
    rw may (by_next (nat_eq number sw.results.executed) refl)
  where
    may : may_execute sw.fence me view ≡ true
    may = rw (master, generation, eq-eqb me me refl, eq-eqb view view refl) refl

    by_next : (b : Bool) → nat_eq number sw.results.executed ≡ b → AfterCommand sw me number (on_offer (settled sw through) me view number what (offer_of (settled sw through).results number))
    by_next true next =
        let same = eqb-true number sw.results.executed next in
        let less = length-drop (min through sw.results.executed - first_kept sw.results) sw.results.outcomes in
        let room : nat_lt (length (settled sw through).results.outcomes) most_kept ≡ true = lt-ltb (length (settled sw through).results.outcomes) most_kept (omega (arith, same, less, near, few)) in
        rw (next, room) (executed_after sw (settled sw through) me view number what refl refl refl same)
    by_next false other =
        let apart = eqb-false number sw.results.executed other in
        let below : number < sw.results.executed = omega (arith, apart, late) in
        let repeats : nat_lt number sw.results.executed ≡ true = lt-ltb number sw.results.executed below in
        rw (other, repeats) (repeated below)
      where
        repeated : number < sw.results.executed → AfterCommand sw me number (on_offer (settled sw through) me view number what (Repeat (kept_result (settled sw through).results number)))
        repeated below =
            record {
              buffer = refl;
              events = refl;
              fence = refl;
              executed = below;
              before = [];
              frames = λ l none. absurd none;
              result = kept_result (settled sw through).results number;
              letters = refl;
            }
