-- A turn of a switch is a chain of moves. What each move keeps, each turn keeps.
use Rattle.std.proofs.Common.{◌≡◌, inl, inr, ◌<◌, ◌≤◌, ℕ, Bool, true, false, ◌&&◌, List, [], ◌∷◌, ◌++◌, length, refl, sym, ◌∙◌, ap, subst, arith}
use Rattle.std.specs.Prelude.{not, nat_eq, nat_lt, ◌-◌, flat_map, Option, Some, None, if◌then◌else◌}
use Rattle.std.specs.List.{AllByRecursion, list_any, range_with_len}
use Rattle.std.proofs.lemmas.Bool.{and_parts, cond_both, ltb-true, eqb-true}
use Rattle.of_types.specs.declared.message.Event.{Event}
use Rattle.of_types.specs.declared.message.Extension.{Extension}
use Rattle.of_types.specs.declared.message.Extension.TheVariants as extension
use Rattle.of_types.specs.declared.message.FlowMod.{FlowMod}
use Rattle.of_types.specs.declared.message.Happening.{Happening}
use Rattle.of_types.specs.declared.message.Happening.TheVariants as happening
use Rattle.of_types.specs.declared.message.OfMessage.{OfMessage}
use Rattle.of_types.specs.declared.message.OfMessage.TheVariants as plain
use Rattle.of_types.specs.declared.message.Order.{Order}
use Rattle.of_types.specs.declared.message.Order.TheVariants as order
use Rattle.of_types.specs.declared.message.PacketIn.{PacketIn}
use Rattle.of_types.specs.declared.message.PortStatus.{PortStatus}
use Rattle.of_types.specs.declared.message.Outcome.{Outcome}
use Rattle.of_types.specs.declared.message.Outcome.TheVariants as outcome
use Rattle.of_types.specs.declared.message.Row.{Row}
use Rattle.of_types.specs.declared.message.Spoken.{Spoken}
use Rattle.of_types.specs.declared.message.Spoken.TheVariants as spoken
use Rattle.of_types.specs.declared.numbers.TheConstants.{NO_CHANGE, EQUAL, MASTER, SLAVE, TO_CONTROLLER, NO_BUFFER}
use Rattle.of_types.specs.declared.refusal.Refusal.{Refusal}
use Rattle.of_types.specs.declared.refusal.TheConstants.{BAD_ROLE, BAD_TYPE, NOT_MASTER, NOT_PERMITTED, STALE_ROLE}
use Rattle.of_types.specs.declared.setup.Link.{Link}
use Rattle.of_types.specs.Lives.{last_life, switch_up}
use Rattle.journal.specs.declared.journal.Actor.{Actor}
use Rattle.journal.specs.declared.journal.Actor.TheVariants as actor
use Rattle.journal.specs.declared.journal.Letter.{Letter}
use Rattle.journal.specs.declared.journal.Local.{Local}
use Rattle.journal.specs.declared.journal.Local.TheVariants as local
use Rattle.list_facts.proofs.Elements.{all_in, all_of, in_append, in_drop, in_map, in_right, in_take}
use Rattle.list_facts.specs.Lists.{IsIn}
use Rattle.role_fence.specs.Fence.{Fence, RoleStep, is_stale, may_execute, as_equal, as_master, as_slave, role_of, told_generation, replies}
use Rattle.event_buffer.specs.Buffer.{is_full, next_event, cleared_to, without_dirty, with_dirty}
use Rattle.command_buffer.specs.declared.buffer.Offer.{Offer}
use Rattle.command_buffer.specs.Results.{most_kept, without_results_below, offer_of}
use Rattle.of_switch.specs.declared.says.SwitchInput.{SwitchInput}
use Rattle.of_switch.specs.declared.says.SwitchInput.TheVariants as switch_input
use Rattle.of_switch.specs.declared.says.SwitchSays.{SwitchSays}
use Rattle.of_switch.specs.State.{SwitchState, SwitchTurn, quiet_switch, posts, then_turn, to_controller, error_letter, switch_refuses, answers, greetings, rows_of, life_of, own_number_of, ports_up}
use Rattle.of_switch.specs.Events.{window, first_held, event_letter, event_letters, with_event, raised, packet_raised, is_port_down, port_status, with_port, is_port, on_port, remembers, coming, cleared, on_event_ack, tells_ports, next_life, switch_on_restart, switch_tick_letters, flow_removed, tells_left, aged, switch_on_tick}
use Rattle.of_switch.specs.Forwarding.{is_frame, targets, frame_letter, over_link, over_links, sends_to, puts_all, packet_in_of, through_row, frame_fields_at, on_frame}
use Rattle.of_switch.specs.Commands.{is_output, result_of, does, done_as, counted_command, result_letter, executes, on_offer, settled, on_command}
use Rattle.of_switch.specs.Rules.{switch_on_local, on_role, on_role_request, switch_on_plain, on_own_life, life_said, switch_on_extension, on_malformed, switch_turn}
use Rattle.of_switch.proofs.Leaving.{left_told}
use Rattle.flow_table.specs.Table.{chosen_row}
use Rattle.flow_clock.specs.declared.times.Expired.{Expired}
use Rattle.flow_clock.specs.Clocked.{Clocked, rows_in, clock_change, clock_hit, clock_tick, clock_told}
use Rattle.flow_clock.proofs.Remaining.{hit_rows, tick_rows, told_rows}
use Rattle.run_laws.specs.OnceLaws.SwitchTurns.{BringsFrame, Wire, Peer, Output}

-- a message that only asks
abbrev pub is_question : OfMessage → Bool
is_question (plain.EchoRequest body) = true
is_question plain.FeaturesRequest = true
is_question plain.BarrierRequest = true
is_question _ = false

-- what a switch in this state may raise on an input: a change of a port, a frame that the input brings, or that a row of its
-- table left
pub data IsRaised (x : SwitchInput) (s : SwitchState) (what : Happening) : Type 0 where
  Ports : (p : PortStatus) → what ≡ happening.PortStatus p → IsRaised x s what
  Packets : (p : PacketIn) → what ≡ happening.PacketIn p → BringsFrame x p.payload → is_frame p.payload ≡ true → IsRaised x s what
  Removed : (e : Expired) → what ≡ flow_removed e → e.reason ≤ 3 → IsIn e.row (rows_of s) → IsRaised x s what

-- what a switch in this state may say on an input
pub data IsSaid (x : SwitchInput) (s : SwitchState) (l : Letter SwitchSays) : Type 0 where
  Tells : (c : ℕ) (e : Event) → IsIn e s.buffer.held → s.fence.master ≡ Some c → l ≡ event_letter c e → IsSaid x s l
  Reports : (c xid life generation number through : ℕ) (what : Order) (result : Outcome) → x ≡ switch_input.Of c xid (spoken.Ravana (extension.Command life generation number through what)) →
      number < s.results.executed → l ≡ result_letter s c number result → IsSaid x s l
  Roles : (c xid asked offered role generation : ℕ) → x ≡ switch_input.Of c xid (spoken.Plain (plain.RoleRequest asked offered)) → l ≡ to_controller c xid (spoken.Plain (plain.RoleReply role generation)) → IsSaid x s l
  Refuses : (c xid kind code : ℕ) (asked : Spoken) → x ≡ switch_input.Of c xid asked → l ≡ error_letter c xid kind code [] → IsSaid x s l
  Answers : (c xid : ℕ) (asked answer : OfMessage) → x ≡ switch_input.Of c xid (spoken.Plain asked) → is_question asked ≡ true →
      l ≡ to_controller c xid (spoken.Plain answer) → IsSaid x s l
  Explains : (c kind code xid : ℕ) (head : List ℕ) → x ≡ switch_input.Malformed (actor.Controller c) kind code xid head → l ≡ error_letter c xid kind code head → IsSaid x s l
  Greets : (c : ℕ) → l ≡ to_controller c 0 (spoken.Plain plain.Hello) → IsSaid x s l
  Forwards : (peer port : ℕ) (frame : List ℕ) → BringsFrame x frame → is_frame frame ≡ true → l ≡ frame_letter frame peer port → IsSaid x s l

-- a switch with other ports down, count of frames, kept results and ports remembered
abbrev pub with_notes : SwitchState → List ℕ → ℕ → List Outcome → List ℕ → SwitchState
with_notes s down sent outcomes dirty =
    record s { down = down; sent = sent; results = record s.results { outcomes = outcomes }; buffer = record s.buffer { dirty = dirty } }

-- and one whose table a FLOW_MOD has changed
abbrev pub changed : SwitchState → FlowMod → SwitchState
changed s change = record s { table = clock_change s.table change }

-- and one with this table
abbrev pub with_table : SwitchState → Clocked → SwitchState
with_table s table = record s { table = table }

abbrev pub fenced : SwitchState → Fence → SwitchState
fenced s fence = record s { fence = fence }

-- one move within the turn of an input
pub data Move (x : SwitchInput) (t t' : SwitchTurn) : Type 0 where
  Raises : (what : Happening) → IsRaised x t.state what → t' ≡ record t { state = with_event t.state what } → Move x t t'
  Says : (ls : List (Letter SwitchSays)) → ((l : Letter SwitchSays) → IsIn l ls → IsSaid x t.state l) → t' ≡ record t { letters = t.letters ++ ls } → Move x t t'
  Notes : (down : List ℕ) (sent : ℕ) (outcomes : List Outcome) (dirty : List ℕ) → t' ≡ record t { state = with_notes t.state down sent outcomes dirty } → Move x t t'
  Changes : (c xid life generation number through : ℕ) (change : FlowMod) → x ≡ switch_input.Of c xid (spoken.Ravana (extension.Command life generation number through (order.FlowMod change))) →
      t' ≡ record t { state = changed t.state change } → Move x t t'
  Ages : (table : Clocked) → ((r : Row) → IsIn r (rows_in table) → IsIn r (rows_of t.state)) → t' ≡ record t { state = with_table t.state table } → Move x t t'
  Clears : (c xid life through : ℕ) → x ≡ switch_input.Of c xid (spoken.Ravana (extension.EventAck life through)) → nat_eq life (life_of t.state) ≡ true →
      t' ≡ record t { state = cleared t.state through } → Move x t t'
  Executes : (c xid life generation number through : ℕ) (what : Order) (result : Outcome) → x ≡ switch_input.Of c xid (spoken.Ravana (extension.Command life generation number through what)) →
      nat_eq life (life_of t.state) ≡ true → may_execute t.state.fence c generation ≡ true → nat_eq number t.state.results.executed ≡ true →
      t' ≡ record t { state = counted_command c generation number what result t.state } → Move x t t'
  Masters : (c xid role generation : ℕ) → x ≡ switch_input.Of c xid (spoken.Plain (plain.RoleRequest role generation)) → nat_eq role MASTER ≡ true →
      is_stale t.state.fence.generation generation ≡ false → t.letters ≡ [] → t' ≡ record t { state = fenced t.state (as_master t.state.fence c generation) } → Move x t t'
  Fences : (c xid role generation : ℕ) (fence : Fence) → x ≡ switch_input.Of c xid (spoken.Plain (plain.RoleRequest role generation)) → nat_eq role MASTER ≡ false → t.letters ≡ [] →
      t' ≡ record t { state = fenced t.state fence } → Move x t t'
  Restarts : x ≡ switch_input.Local local.Restart → nat_lt (life_of t.state) last_life ≡ true → t.letters ≡ [] → t' ≡ record t { state = next_life t.state } → Move x t t'

-- a choice keeps what both sides keep
either : {A : Type 0} (P : A → Type 0) (b : Bool) (x y : A) → (b ≡ true → P x) → (b ≡ false → P y) → P (if b then x else y)
either P b x y f g = cond_both b x y P f g

among_flat : {A B : Type 0} (f : A → List B) (xs : List A) (y : B) → IsIn y (flat_map f xs) → (x : A) × IsIn y (f x)
among_flat f [] y h = absurd h
among_flat f (x ∷ xs) y h = elim (in_append y (f x) (flat_map f xs) h) [ inl k ↦ (x, k) | inr k ↦ among_flat f xs y k ]

-- letters of events tell events
told : (x : SwitchInput) (s : SwitchState) (master : Option ℕ) → s.fence.master ≡ master → (es : List Event) → ((e : Event) → IsIn e es → IsIn e s.buffer.held) →
    (l : Letter SwitchSays) → IsIn l (event_letters master es) → IsSaid x s l
told x s None is es all l h = absurd h
told x s (Some c) is es all l h = let r = in_map (event_letter c) es l h in Tells c r.0 (all r.0 r.1) is r.2

first_among : (s : SwitchState) (e : Event) → IsIn e (first_held s) → IsIn e s.buffer.held
first_among s e h = in_take 8 s.buffer.held e h

over_is : (frame : List ℕ) (switch port : ℕ) (w : Link) (l : Letter SwitchSays) → IsIn l (over_link frame switch port w) → (peer : ℕ) × (peer_port : ℕ) × (l ≡ frame_letter frame peer peer_port)
over_is frame switch port w l =
    either (λ (ls : List (Letter SwitchSays)). IsIn l ls → (peer : ℕ) × (peer_port : ℕ) × (l ≡ frame_letter frame peer peer_port)) (nat_eq w.switch switch && nat_eq w.port port) _ _
    (λ _ k. elim k [ inl e ↦ (w.peer, w.peer_port, e) | inr n ↦ absurd n ])
    (λ _. either (λ (ls : List (Letter SwitchSays)). IsIn l ls → (peer : ℕ) × (peer_port : ℕ) × (l ≡ frame_letter frame peer peer_port)) (nat_eq w.peer switch && nat_eq w.peer_port port) _ _
    (λ _ k. elim k [ inl e ↦ (w.switch, w.port, e) | inr n ↦ absurd n ])
    (λ _ k. absurd k))

-- a switch as the fence, the lives and the counts see it
record Same (s : SwitchState) (t : SwitchTurn) : Type 0 where
  pub life : life_of t.state ≡ life_of s
  pub fence : t.state.fence ≡ s.fence
  pub count : t.state.results.executed ≡ s.results.executed

module _ (x : SwitchInput) (P : SwitchTurn → Type 0) (step : (t t' : SwitchTurn) → Move x t t' → P t → P t') where
  said : (t : SwitchTurn) (ls : List (Letter SwitchSays)) → ((l : Letter SwitchSays) → IsIn l ls → IsSaid x t.state l) → P t → P (record t { letters = t.letters ++ ls })
  said t ls all h = step t _ (Says ls all refl) h

  one_said : (t : SwitchTurn) (l : Letter SwitchSays) → IsSaid x t.state l → P t → P (record t { letters = t.letters ++ l ∷ [] })
  one_said t l is h = said t (l ∷ []) (λ k m. elim m [ inl e ↦ subst (λ (y : Letter SwitchSays). IsSaid x t.state y) (sym e) is | inr e ↦ absurd e ]) h

  silent : (t : SwitchTurn) → P t → P (record t { letters = t.letters ++ [] })
  silent t h = said t [] (λ l m. absurd m) h

  notes : (t : SwitchTurn) (down : List ℕ) (sent : ℕ) (outcomes : List Outcome) (dirty : List ℕ) → P t → P (record t { state = with_notes t.state down sent outcomes dirty })
  notes t down sent outcomes dirty h = step t _ (Notes down sent outcomes dirty refl) h

  -- an event is raised
  raised_keeps : (what : Happening) (t : SwitchTurn) → IsRaised x t.state what → P t → P (then_turn t (raised what))
  raised_keeps what t is h =
      either (λ (ls : List (Letter SwitchSays)). P (record after { letters = t.letters ++ ls })) (nat_lt (length t.state.buffer.held) window) _ _
      (λ _. said after _ (told x after.state t.state.fence.master refl (next_event t.state.buffer what ∷ []) (λ e k. in_right e t.state.buffer.held _ k)) there)
      (λ _. said after [] (λ l m. absurd m) there)
    where
      after : SwitchTurn
      after = record t { state = with_event t.state what }

      there : P after
      there = step t after (Raises what is refl) h

  packet_keeps : (what : Happening) (t : SwitchTurn) → IsRaised x t.state what → P t → P (then_turn t (packet_raised what))
  packet_keeps what t is h = either (λ (y : SwitchTurn). P (then_turn t (λ _. y))) (is_full t.state.buffer) _ _ (λ _. silent t h) (λ _. raised_keeps what t is h)

  -- a frame goes over wires
  sends_keeps : (frame : List ℕ) → BringsFrame x frame → is_frame frame ≡ true → (ports : List ℕ) (t : SwitchTurn) → P t → P (then_turn t (sends_to frame ports))
  sends_keeps frame brings fits ports t h =
      let after : SwitchTurn = (then_turn t (sends_to frame ports)) in
      said (record t { state = after.state }) (flat_map (over_links t.state frame) ports)
      (λ l m.
      let a = among_flat (over_links t.state frame) ports l m in
      let b = among_flat (over_link frame (own_number_of t.state) a.0) t.state.links l a.1 in
      let c = over_is frame (own_number_of t.state) a.0 b.0 l b.1 in
      Forwards c.0 c.1 frame brings fits c.2)
      (notes t t.state.down after.state.sent t.state.results.outcomes t.state.buffer.dirty h)

  -- each output in order
  outputs_keep : (Q : SwitchTurn → Type 0) (tells : SwitchState → SwitchTurn) (port : ℕ) (frame : List ℕ) → ((t : SwitchTurn) → Q t → Q (then_turn t tells)) →
      ((ports : List ℕ) (t : SwitchTurn) → Q t → Q (then_turn t (sends_to frame ports))) → (outputs : List ℕ) (t : SwitchTurn) → Q t → Q (puts_all tells port frame outputs t)
  outputs_keep Q tells port frame by_telling by_sending [] t h = h
  outputs_keep Q tells port frame by_telling by_sending (output ∷ outputs) t h =
      outputs_keep Q tells port frame by_telling by_sending outputs _
      (either (λ (y : SwitchTurn). Q (then_turn t (λ _. y))) (nat_eq output TO_CONTROLLER) _ _ (λ _. by_telling t h) (λ _. by_sending (targets t.state port output) t h))

  row_keeps : (port : ℕ) (frame : List ℕ) → BringsFrame x frame → is_frame frame ≡ true → (s : SwitchState) (found : Option Row) → P (quiet_switch s) → P (through_row s port frame found)
  row_keeps port frame brings fits s None h = h
  row_keeps port frame brings fits s (Some row) h =
      outputs_keep P (packet_raised (packet_in_of row port frame)) port frame (λ t. packet_keeps (packet_in_of row port frame) t (Packets _ refl brings fits)) (sends_keeps frame brings fits) row.actions (quiet_switch s) h

  -- ports are told
  ports_keep : (ports : List ℕ) (t : SwitchTurn) → P t → P (tells_ports ports t)
  ports_keep [] t h = h
  ports_keep (port ∷ ports) t h = ports_keep ports _ (raised_keeps (port_status t.state port) t (Ports _ refl) h)

  remembered_keep : (ports : List ℕ) (t : SwitchTurn) → P t → P (remembers ports t)
  remembered_keep [] t h = h
  remembered_keep (port ∷ ports) t h =
      either P (is_full t.state.buffer) _ _ (λ _. h)
      (λ _. remembered_keep ports _
      (raised_keeps (port_status t.state port) (record t { state = record t.state { buffer = without_dirty t.state.buffer port } }) (Ports _ refl)
      (notes t t.state.down t.state.sent t.state.results.outcomes (without_dirty t.state.buffer port).dirty h)))

  module _ (s : SwitchState) (h : P (quiet_switch s)) where
    frame_keeps : (port : ℕ) (frame : List ℕ) → BringsFrame x frame → P (on_frame s port frame)
    frame_keeps port frame brings =
        either P (list_any (λ p. nat_eq p port) (ports_up s) && is_frame frame) _ _
        (λ fits.
        let met = through_row s port frame (chosen_row (rows_of s) (frame_fields_at port frame)) in
        let same = hit_rows met.state.table (frame_fields_at port frame) (length frame) in
        step met _ (Ages (clock_hit met.state.table (frame_fields_at port frame) (length frame)) (λ r k. subst (λ (rows : List Row). IsIn r rows) same k) refl)
        (row_keeps port frame brings (and_parts (list_any (λ p. nat_eq p port) (ports_up s)) (is_frame frame) fits).1 s (chosen_row (rows_of s) (frame_fields_at port frame)) h))
        (λ _. h)

    port_keeps : (port : ℕ) (up : Bool) → P (on_port s port up)
    port_keeps port up =
        either P (is_port s port && (if up then is_port_down s port else not (is_port_down s port))) _ _
        (λ _. either P (is_full (with_port s port up).buffer) _ _
        (λ _. notes (quiet_switch s) (with_port s port up).down s.sent s.results.outcomes (with_dirty s.buffer port).dirty h)
        (λ _. raised_keeps (port_status (with_port s port up) port) (quiet_switch (with_port s port up)) (Ports _ refl) (notes (quiet_switch s) (with_port s port up).down s.sent s.results.outcomes s.buffer.dirty h)))
        (λ _. h)

    greets : (t : SwitchTurn) → P t → P (record t { letters = t.letters ++ greetings t.state })
    greets t k = said t (greetings t.state) (λ l m. let r = in_map (λ c. to_controller c 0 (spoken.Plain plain.Hello)) (range_with_len 0 t.state.controllers) l m in Greets r.0 r.2) k

    restart_keeps : x ≡ switch_input.Local local.Restart → P (switch_on_restart s)
    restart_keeps is =
        either P (nat_lt (life_of s) last_life) _ _
        (λ more. greets _ (ports_keep s.down _ (raised_keeps switch_up (quiet_switch (next_life s)) (Ports _ refl) (step (quiet_switch s) _ (Restarts is more refl refl) h))))
        (λ _. h)

    there : AllByRecursion (λ r. IsIn r (rows_of s)) (rows_of s)
    there = all_in (λ r. IsIn r (rows_of s)) (rows_of s) (λ r k. k)

    -- a switch that has told of some of the rows that left
    record HasTold (now : SwitchState) : Type 0 where
      pub kept : P (quiet_switch now)
      pub table : now.table ≡ s.table
      pub fence : now.fence ≡ s.fence

    left : HasTold (tells_left (clock_told s.table) s)
    left =
        left_told (λ (e : Expired). (e.reason ≤ 3) × IsIn e.row (rows_of s)) HasTold
        (λ e now told room k. record {
          kept = step (quiet_switch now) _ (Raises (flow_removed e) (Removed e refl told.0 (subst (λ (a : Clocked). IsIn e.row (rows_in a)) (sym k.table) told.1)) refl) k.kept;
          table = k.table;
          fence = k.fence;
        })
        (clock_told s.table) (told_rows (λ r. IsIn r (rows_of s)) s.table there) s
        (record { kept = h; table = refl; fence = refl })

    aged_keeps : P (quiet_switch (aged s))
    aged_keeps =
        step (quiet_switch (tells_left (clock_told s.table) s)) _
        (Ages (clock_tick s.table)
        (λ r k. subst (λ (a : Clocked). IsIn r (rows_in a)) (sym left.table)
        (all_of (λ r. IsIn r (rows_of s)) (rows_in (clock_tick s.table)) r (tick_rows (λ r. IsIn r (rows_of s)) s.table there) k)) refl)
        left.kept

    ticks : (m : Option ℕ) → s.fence.master ≡ m → P (posts (aged s) (switch_tick_letters (aged s) m))
    ticks None is = either (λ (ls : List (Letter SwitchSays)). P (posts (aged s) ls)) (nat_lt 0 (life_of (aged s))) _ _ (λ _. greets (quiet_switch (aged s)) aged_keeps) (λ _. aged_keeps)
    ticks (Some c) is =
        said (quiet_switch (aged s)) _
        (λ l m. let r = in_map (event_letter c) (first_held (aged s)) l m in Tells c r.0 (first_among (aged s) r.0 r.1) (ap (λ (f : Fence). f.master) left.fence ∙ is) r.2) aged_keeps

    tick_keeps : P (switch_on_tick s)
    tick_keeps = ticks s.fence.master refl

    local_keeps : (input : Local) → x ≡ switch_input.Local input → P (switch_on_local s input)
    local_keeps (local.Frame port frame) is = frame_keeps port frame (Wire port is)
    local_keeps local.Tick is = tick_keeps
    local_keeps (local.Port port up) is = port_keeps port up
    local_keeps (local.Suspect view) is = h
    local_keeps local.Crash is = h
    local_keeps local.Restart is = restart_keeps is

    refuses_keeps : (c xid : ℕ) (why : Refusal) (asked : Spoken) → x ≡ switch_input.Of c xid asked → P (switch_refuses s c xid why)
    refuses_keeps c xid why asked is = one_said (quiet_switch s) _ (Refuses c xid why.kind why.code asked is refl) h

    answers_keeps : (c xid : ℕ) (asked answer : OfMessage) → x ≡ switch_input.Of c xid (spoken.Plain asked) → is_question asked ≡ true → P (answers s c xid (spoken.Plain answer))
    answers_keeps c xid asked answer is question = one_said (quiet_switch s) _ (Answers c xid asked answer is question refl) h

    -- a role that is taken: the reply, and the first events where it is master
    takes_keeps : (c xid role generation : ℕ) (fence : Fence) → x ≡ switch_input.Of c xid (spoken.Plain (plain.RoleRequest role generation)) → (nat_eq role MASTER ≡ true → fence.master ≡ Some c) →
        P (quiet_switch (fenced s fence)) → P (on_role s c xid role (replies fence c) (replies fence c).answer)
    takes_keeps c xid role generation fence is own k =
        either (λ (ls : List (Letter SwitchSays)). P (posts (fenced s fence) (to_controller c xid (spoken.Plain (plain.RoleReply (role_of fence c) (told_generation fence))) ∷ ls))) (nat_eq role MASTER) _ _
        (λ master. said _ _ (λ l m. let r = in_map (event_letter c) (first_held s) l m in Tells c r.0 (first_among s r.0 r.1) (own master) r.2) replied)
        (λ _. replied)
      where
        replied : P (posts (fenced s fence) (to_controller c xid (spoken.Plain (plain.RoleReply (role_of fence c) (told_generation fence))) ∷ []))
        replied = one_said (quiet_switch (fenced s fence)) _ (Roles c xid role generation _ _ is refl) k

    unlike : (role other : ℕ) → nat_eq role other ≡ true → nat_eq other MASTER ≡ false → nat_eq role MASTER ≡ false
    unlike role other same differs = subst (λ (k : ℕ). nat_eq k MASTER ≡ false) (sym (eqb-true role other same)) differs

    abbrev ByRole : ℕ → ℕ → ℕ → RoleStep → Type 0
    ByRole c xid role r = P (on_role s c xid role r r.answer)

    roles_keep : (c xid role generation : ℕ) → x ≡ switch_input.Of c xid (spoken.Plain (plain.RoleRequest role generation)) → P (on_role_request s c xid role generation)
    roles_keep c xid role generation is =
        either (ByRole c xid role) (nat_lt SLAVE role) _ _ (λ _. refuses_keeps c xid BAD_ROLE _ is)
        (λ _. either (ByRole c xid role) (nat_eq role NO_CHANGE) _ _ (λ e. other s.fence (unlike role NO_CHANGE e refl))
        (λ _. either (ByRole c xid role) (nat_eq role EQUAL) _ _ (λ e. other (as_equal s.fence c) (unlike role EQUAL e refl))
        (λ _. either (ByRole c xid role) (is_stale s.fence.generation generation) _ _ (λ _. refuses_keeps c xid STALE_ROLE _ is)
        (λ fresh. either (ByRole c xid role) (nat_eq role MASTER) _ _
        (λ e. takes_keeps c xid role generation (as_master s.fence c generation) is (λ _. refl) (step (quiet_switch s) _ (Masters c xid role generation is e fresh refl refl) h))
        (λ e. other (as_slave s.fence c generation) e)))))
      where
        other : (fence : Fence) → nat_eq role MASTER ≡ false → P (on_role s c xid role (replies fence c) (replies fence c).answer)
        other fence differs = takes_keeps c xid role generation fence is (λ m. let no_way : false ≡ true = sym differs ∙ m in absurd cc) (step (quiet_switch s) _ (Fences c xid role generation fence is differs refl refl) h)

    plain_keeps : (c xid : ℕ) (asked : OfMessage) → x ≡ switch_input.Of c xid (spoken.Plain asked) → P (switch_on_plain s c xid asked)
    plain_keeps c xid plain.Hello is = h
    plain_keeps c xid (plain.Error kind code head) is = h
    plain_keeps c xid (plain.EchoRequest body) is = answers_keeps c xid _ _ is refl
    plain_keeps c xid (plain.EchoReply body) is = h
    plain_keeps c xid plain.FeaturesRequest is = answers_keeps c xid _ _ is refl
    plain_keeps c xid plain.BarrierRequest is = answers_keeps c xid _ _ is refl
    plain_keeps c xid (plain.RoleRequest role generation) is = roles_keep c xid role generation is
    plain_keeps c xid (plain.PacketOut out) is = refuses_keeps c xid NOT_PERMITTED _ is
    plain_keeps c xid (plain.FlowMod change) is = refuses_keeps c xid NOT_PERMITTED _ is
    plain_keeps c xid (plain.Experimenter body) is = refuses_keeps c xid BAD_TYPE _ is
    plain_keeps c xid (plain.FeaturesReply datapath) is = refuses_keeps c xid BAD_TYPE _ is
    plain_keeps c xid (plain.PacketIn p) is = refuses_keeps c xid BAD_TYPE _ is
    plain_keeps c xid (plain.FlowRemoved r) is = refuses_keeps c xid BAD_TYPE _ is
    plain_keeps c xid (plain.PortStatus p) is = refuses_keeps c xid BAD_TYPE _ is
    plain_keeps c xid plain.BarrierReply is = refuses_keeps c xid BAD_TYPE _ is
    plain_keeps c xid (plain.RoleReply role generation) is = refuses_keeps c xid BAD_TYPE _ is

    -- results are dropped at the front
    settled_keeps : (through : ℕ) → P (quiet_switch (settled s through))
    settled_keeps through = notes (quiet_switch s) s.down s.sent (without_results_below s.results through).outcomes s.buffer.dirty h

    acked_keeps : (c xid life through : ℕ) → x ≡ switch_input.Of c xid (spoken.Ravana (extension.EventAck life through)) → nat_eq life (life_of s) ≡ true → P (on_event_ack s through)
    acked_keeps c xid life through is own =
        remembered_keep s.buffer.dirty _
        (said _ (event_letters s.fence.master (coming (cleared s through) (cleared_to s.buffer through - s.buffer.cleared)))
        (told x (cleared s through) s.fence.master refl _ (λ e m. in_take 8 (cleared s through).buffer.held e (in_drop _ _ e m)))
        (step (quiet_switch s) _ (Clears c xid life through is own refl) h))

  -- a command of the present life
  module _ (c xid life generation number through : ℕ) (what : Order) (is : x ≡ switch_input.Of c xid (spoken.Ravana (extension.Command life generation number through what))) where
    abbrev Kept : SwitchState → SwitchTurn → Type 0
    Kept s t = P t × Same s t

    kept_silent : (s : SwitchState) (t : SwitchTurn) → Kept s t → Kept s (then_turn t quiet_switch)
    kept_silent s t k = (silent t k.0, record { life = k.1.life; fence = k.1.fence; count = k.1.count })

    does_keeps : (s : SwitchState) (o : Order) → o ≡ what → P (quiet_switch s) → result_of s o ≡ outcome.Done → Kept s (does o s)
    does_keeps s (order.FlowMod change) same h done = (
      step (quiet_switch s) _ (Changes c xid life generation number through change (is ∙ ap (λ (o : Order). switch_input.Of c xid (spoken.Ravana (extension.Command life generation number through o))) (sym same)) refl) h,
      record { life = refl; fence = refl; count = refl },
    )
    does_keeps s (order.PacketOut out) same h done =
        outputs_keep (Kept s) quiet_switch out.in_port out.payload (kept_silent s)
        (λ ports t k. (sends_keeps out.payload brings fits ports t k.0, record { life = k.1.life; fence = k.1.fence; count = k.1.count }))
        out.actions (quiet_switch s) (h, record { life = refl; fence = refl; count = refl })
      where
        brings : BringsFrame x out.payload
        brings = Output c xid life generation number through out (is ∙ ap (λ (o : Order). switch_input.Of c xid (spoken.Ravana (extension.Command life generation number through o))) (sym same)) refl

        fits : is_frame out.payload ≡ true
        fits = by_tests (nat_eq out.buffer NO_BUFFER) (list_any (λ output. not (is_output s output)) out.actions) (is_frame out.payload) done
          where
            by_tests : (a b d : Bool) → (if not a then outcome.Failed 1 8 else if b then outcome.Failed 2 4 else if not d then outcome.Failed 1 12 else outcome.Done) ≡ outcome.Done → d ≡ true
            by_tests false b d e = absurd cc
            by_tests true true d e = absurd cc
            by_tests true false false e = absurd cc
            by_tests true false true e = refl

    done_keeps : (s : SwitchState) → P (quiet_switch s) → (r : Outcome) → result_of s what ≡ r → Kept s (done_as r what s)
    done_keeps s h outcome.Done e = does_keeps s what refl h e
    done_keeps s h (outcome.Failed kind code) e = (h, record { life = refl; fence = refl; count = refl })
    done_keeps s h outcome.Cleared e = (h, record { life = refl; fence = refl; count = refl })

    module _ (s : SwitchState) (own : nat_eq life (life_of s) ≡ true) (may : may_execute s.fence c generation ≡ true) (h : P (quiet_switch s)) where
      executes_keeps : nat_eq number s.results.executed ≡ true → P (executes s c generation number what)
      executes_keeps next =
          let r : Outcome = result_of s what in
          let d : SwitchTurn = done_as r what s in
          let k = done_keeps s h r refl in
          let count : number ≡ s.results.executed = eqb-true number s.results.executed next in
          let same = k.1.count in
          one_said (record d { state = counted_command c generation number what r d.state }) (result_letter s c number r)
          (Reports c xid life generation number through what r is (omega (arith, count, same)) (ap (λ (n : ℕ). to_controller c 0 (spoken.Ravana (extension.CmdAck n number r))) (sym k.1.life)))
          (step d _ (Executes c xid life generation number through what r is (ap (λ (n : ℕ). nat_eq life n) k.1.life ∙ own)
          (ap (λ (f : Fence). may_execute f c generation) k.1.fence ∙ may) (ap (λ (n : ℕ). nat_eq number n) k.1.count ∙ next) refl) k.0)

      offer_keeps : P (on_offer s c generation number what (offer_of s.results number))
      offer_keeps =
          either (λ (o : Offer). P (on_offer s c generation number what o)) (nat_eq number s.results.executed) _ _
          (λ next. either (λ (o : Offer). P (on_offer s c generation number what o)) (nat_lt (length s.results.outcomes) most_kept) _ _ (λ _. executes_keeps next) (λ _. h))
          (λ _. either (λ (o : Offer). P (on_offer s c generation number what o)) (nat_lt number s.results.executed) _ _
          (λ old. one_said (quiet_switch s) _ (Reports c xid life generation number through what _ is (ltb-true _ _ old) refl) h)
          (λ _. h))

    command_keeps : (s : SwitchState) → nat_eq life (life_of s) ≡ true → P (quiet_switch s) → P (on_command s c xid generation number through what)
    command_keeps s own h =
        either P (may_execute s.fence c generation) _ _
        (λ may. offer_keeps (settled s through) own may (settled_keeps s h through))
        (λ _. refuses_keeps s h c xid NOT_MASTER _ is)

  module _ (s : SwitchState) (h : P (quiet_switch s)) where
    own_keeps : (c xid : ℕ) (message : Extension) → x ≡ switch_input.Of c xid (spoken.Ravana message) → nat_eq (life_said message) (life_of s) ≡ true → P (on_own_life s c xid message)
    own_keeps c xid (extension.Event life number what) is own = refuses_keeps s h c xid BAD_TYPE _ is
    own_keeps c xid (extension.EventAck life through) is own = acked_keeps s h c xid life through is own
    own_keeps c xid (extension.Command life generation number through what) is own = command_keeps c xid life generation number through what is s own h
    own_keeps c xid (extension.CmdAck life number result) is own = refuses_keeps s h c xid BAD_TYPE _ is
    own_keeps c xid (extension.Clear life through) is own = settled_keeps s h through

    extension_keeps : (c xid : ℕ) (message : Extension) → x ≡ switch_input.Of c xid (spoken.Ravana message) → P (switch_on_extension s c xid message)
    extension_keeps c xid message is = either P (nat_eq (life_said message) (life_of s)) _ _ (λ own. own_keeps c xid message is own) (λ _. h)

    malformed_keeps : (from : Actor) (kind code xid : ℕ) (head : List ℕ) → x ≡ switch_input.Malformed from kind code xid head → P (on_malformed s from kind code xid head)
    malformed_keeps (actor.Controller c) kind code xid head is = one_said (quiet_switch s) _ (Explains c kind code xid head is refl) h
    malformed_keeps (actor.Switch other) kind code xid head is = h

    input_keeps : (y : SwitchInput) → x ≡ y → P (switch_turn s y)
    unfolding switch_turn
    input_keeps (switch_input.Local what) is = local_keeps s h what is
    input_keeps (switch_input.Of c xid (spoken.Plain message)) is = plain_keeps s h c xid message is
    input_keeps (switch_input.Of c xid (spoken.Ravana message)) is = extension_keeps c xid message is
    input_keeps (switch_input.Malformed from kind code xid head) is = malformed_keeps from kind code xid head is
    input_keeps (switch_input.Frame from port frame) is = frame_keeps s h port frame (Peer from port is)

    -- what holds at the start of a turn, and is kept by each move, holds at its end
    pub turn_keeps : P (switch_turn s x)
    turn_keeps = input_keeps x refl
