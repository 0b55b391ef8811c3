-- What an acknowledgement of events leaves of a switch, and which events it sends.
use Rattle.std.proofs.Common.{◌≡◌, ℕ, ◌+◌, ◌-◌, suc, List, [], ◌∷◌, ◌++◌, length, map, filter, take, drop, refl, sym, ◌∙◌, ap, subst, arith, inl, inr, append-nil, append_assoc, take_all}
use Rattle.std.specs.Prelude.{nat_eq, nat_lt, Option, Some, if◌then◌else◌}
use Rattle.std.specs.List.{AllByRecursion}
use Rattle.std.proofs.lemmas.Bool.{cases_lt, eq-eqb, le-ltb, lt-ltb}
use Rattle.std.proofs.lemmas.List.{map-append}
use Rattle.of_types.specs.declared.message.Event.{Event}
use Rattle.journal.specs.declared.journal.Letter.{Letter}
use Rattle.list_facts.proofs.Prefixes.{append_filter}
use Rattle.event_buffer.specs.Buffer.{Buffer, cleared_to, most_held}
use Rattle.of_switch.specs.declared.says.SwitchSays.{SwitchSays}
use Rattle.of_switch.specs.State.{SwitchState, SwitchTurn, events_in, life_of, own_number_of}
use Rattle.of_switch.specs.Events.{cleared, coming, event_letter, event_letters, on_event_ack, port_status, window}
use Rattle.of_switch.specs.Drafts.{Draft, draft_of, drafted_event, forgets, with_ports, with_raised, with_told}
use Rattle.of_switch.proofs.Turns.{ack-drafted, forgets-same}

-- events of a switch and its life
abbrev pub AreOwn : ℕ → ℕ → List Event → Type 0
AreOwn switch life events = AllByRecursion (λ e. (e.switch ≡ switch) × (e.life ≡ life)) events

-- ports that are told become events, of which those are sent that come among the first
record Told (c : ℕ) (d d' : Draft) : Type 0 where
  pub more : List Event
  pub raised : d'.raised ≡ d.raised ++ more
  pub letters : d'.letters ≡ d.letters ++ map (event_letter c) (take (window - d.held) more)
  pub own : AreOwn d.switch d.life more

one_told : (c held : ℕ) (master : Option ℕ) (letters : List (Letter SwitchSays)) (e : Event) (more : List Event) → master ≡ Some c →
    (letters ++ (if nat_lt held window then event_letters master (e ∷ []) else [])) ++ map (event_letter c) (take (window - (held + 1)) more) ≡ letters ++ map (event_letter c) (take (window - held) (e ∷ more))
one_told c held master letters e more is = elim (cases_lt held window) [
  | inl below ↦
      let one : window - held ≡ suc (window - (held + 1)) = omega (arith, below) in
      rw (lt-ltb held window below, is, one) (append_assoc letters (event_letter c e ∷ []) (map (event_letter c) (take (window - (held + 1)) more)))
  | inr above ↦
      let none : window - held ≡ 0 = omega (arith, above) in
      let no_more : window - (held + 1) ≡ 0 = omega (arith, above) in
      rw (le-ltb held window above, none, no_more) (append-nil (letters ++ []))
]

ports_told : (s : SwitchState) (c : ℕ) (ports : List ℕ) (d : Draft) → d.master ≡ Some c → Told c d (with_ports s ports d)
ports_told s c [] d is =
    record { more = []; raised = sym (append-nil d.raised); letters = rw (take_all {A = Event} (window - d.held) [] (omega arith)) (sym (append-nil d.letters)); own = tt }
ports_told s c (port ∷ ports) d is =
    let e : Event = drafted_event d (port_status s port) in
    let rest = ports_told s c ports (with_raised (port_status s port) d) is in
    record {
      more = e ∷ rest.more;
      raised = rest.raised ∙ append_assoc d.raised (e ∷ []) rest.more;
      letters = rest.letters ∙ one_told c d.held d.master d.letters e rest.more is;
      own = ((refl, refl), rest.own);
    }

-- events of a life are all in it
pub own_life : (switch life : ℕ) (events : List Event) → AreOwn switch life events → filter (λ e. nat_eq e.life life) events ≡ events
own_life switch life [] own = refl
own_life switch life (e ∷ events) own = rw (eq-eqb e.life life own.0.1) (ap (λ (l : List Event). e ∷ l) (own_life switch life events own.1))

-- what is left, and told to the master
pub record AfterAck (sw : SwitchState) (me through : ℕ) (turn : SwitchTurn) : Type 0 where
  pub more : List Event
  pub own : AreOwn (own_number_of sw) (life_of sw) more
  pub life : life_of turn.state ≡ life_of sw
  pub number : own_number_of turn.state ≡ own_number_of sw
  pub gone : turn.state.buffer.cleared ≡ cleared_to sw.buffer through
  pub held : turn.state.buffer.held ≡ drop (cleared_to sw.buffer through - sw.buffer.cleared) sw.buffer.held ++ more
  pub events : events_in turn.state (life_of sw) ≡ events_in sw (life_of sw) ++ more
  pub fence : turn.state.fence ≡ sw.fence
  pub results : turn.state.results ≡ sw.results
  pub letters : turn.letters ≡ map (event_letter me) (coming (cleared sw through) (cleared_to sw.buffer through - sw.buffer.cleared) ++
      take (window - length (drop (cleared_to sw.buffer through - sw.buffer.cleared) sw.buffer.held)) more)

pub acked : (sw : SwitchState) (me through : ℕ) → sw.fence.master ≡ Some me → AfterAck sw me through (on_event_ack sw through)
acked sw me through is =
    subst (λ (t : SwitchTurn). AfterAck sw me through t) (sym (ack-drafted sw through (most_held - d.held) ports d refl refl refl))
    (record {
      more = told.more;
      own = told.own;
      life = ap (λ (b : Buffer). b.life) same;
      number = ap (λ (b : Buffer). b.switch) same;
      gone = ap (λ (b : Buffer). b.cleared) same;
      held = ap (λ (b : Buffer). b.held ++ raised) same ∙ ap (λ (l : List Event). left.buffer.held ++ l) told.raised;
      events = ap (λ (l : List Event). filter (λ e. nat_eq e.life (life_of sw)) (sw.events ++ l)) told.raised
          ∙ append_filter (λ (e : Event). nat_eq e.life (life_of sw)) sw.events told.more
          ∙ ap (λ (l : List Event). events_in sw (life_of sw) ++ l) (own_life (own_number_of sw) (life_of sw) told.more told.own);
      fence = refl;
      results = refl;
      letters = told.letters
          ∙ ap (λ (o : Option ℕ). event_letters o here ++ map (event_letter me) (take (window - length left.buffer.held) told.more)) is
          ∙ sym (map-append (event_letter me) here (take (window - length left.buffer.held) told.more));
    })
  where
    left : SwitchState
    left = cleared sw through

    here : List Event
    here = coming left (cleared_to sw.buffer through - sw.buffer.cleared)

    d : Draft
    d = with_told here (draft_of left)

    ports : List ℕ
    ports = take (most_held - d.held) sw.buffer.dirty

    told : Told me d (with_ports sw ports d)
    told = ports_told sw me ports d is

    raised : List Event
    raised = (with_ports sw ports d).raised

    same : forgets ports left.buffer ≡ record left.buffer { dirty = (forgets ports left.buffer).dirty }
    same = forgets-same ports left.buffer
