-- A turn of a switch writes to actors of the setup.
use Rattle.std.proofs.Common.{◌≡◌, ◌<◌, ℕ, ◌-◌, Bool, true, false, not, ◌&&◌, List, [], ◌∷◌, length, refl, sym, subst, ◌∙◌, arith}
use Rattle.std.specs.Prelude.{nat_eq, nat_lt, Option, Some, None, IfSome, if◌then◌else◌}
use Rattle.std.specs.List.{AllByRecursion, range_with_len}
use Rattle.std.proofs.lemmas.Bool.{cond_both}
use Rattle.of_types.specs.declared.message.Event.{Event}
use Rattle.of_types.specs.declared.message.Extension.{Extension}
use Rattle.of_types.specs.declared.message.Extension.TheVariants as extension
use Rattle.of_types.specs.declared.message.Happening.{Happening}
use Rattle.of_types.specs.declared.message.OfMessage.{OfMessage}
use Rattle.of_types.specs.declared.message.OfMessage.TheVariants as plain
use Rattle.of_types.specs.declared.message.Order.{Order}
use Rattle.of_types.specs.declared.message.Order.TheVariants as order
use Rattle.of_types.specs.declared.message.Outcome.{Outcome}
use Rattle.of_types.specs.declared.message.Outcome.TheVariants as outcome
use Rattle.of_types.specs.declared.message.Row.{Row}
use Rattle.of_types.specs.declared.message.Spoken.TheVariants as spoken
use Rattle.of_types.specs.declared.numbers.TheConstants.{NO_CHANGE, EQUAL, MASTER, SLAVE, TO_CONTROLLER}
use Rattle.of_types.specs.declared.setup.Link.{Link}
use Rattle.of_types.specs.declared.setup.Setup.{Setup}
use Rattle.of_types.specs.Lives.{last_life, switch_up}
use Rattle.journal.specs.declared.journal.Actor.{Actor}
use Rattle.journal.specs.declared.journal.Actor.TheVariants as actor
use Rattle.journal.specs.declared.journal.Letter.{Letter}
use Rattle.journal.specs.declared.journal.Local.{Local}
use Rattle.journal.specs.declared.journal.Local.TheVariants as local
use Rattle.journal.specs.Actors.{IsActor, AreAddressed}
use Rattle.journal.proofs.All.{all_append, all_map, all_made}
use Rattle.role_fence.specs.declared.fence.RoleAnswer.{RoleAnswer}
use Rattle.role_fence.specs.declared.fence.RoleAnswer.TheVariants.{Reply, Stale, BadRole}
use Rattle.role_fence.specs.Fence.{Fence, is_some_of, is_stale, may_execute, other_master, RoleStep, role_step}
use Rattle.command_buffer.specs.declared.buffer.Offer.{Offer}
use Rattle.command_buffer.specs.declared.buffer.Offer.TheVariants.{Execute, Repeat, Ahead, Full}
use Rattle.command_buffer.specs.Results.{offer_of}
use Rattle.event_buffer.specs.Buffer.{is_full, next_event, without_dirty, with_dirty, cleared_to}
use Rattle.flow_table.specs.Table.{chosen_row}
use Rattle.flow_clock.specs.Clocked.{clock_told}
use Rattle.of_switch.specs.declared.says.SwitchInput.{SwitchInput}
use Rattle.of_switch.specs.declared.says.SwitchInput.TheVariants as switch_input
use Rattle.of_switch.specs.declared.says.SwitchSays.{SwitchSays}
use Rattle.of_switch.specs.State.{SwitchState, SwitchTurn, quiet_switch, posts, then_turn, answers, greetings, rows_of, own_number_of, life_of}
use Rattle.of_switch.specs.Events.{window, first_held, event_letter, event_letters, with_event, raised, packet_raised, is_port_down, port_status, with_port, port_raised, is_port, on_port, remembers, coming, cleared, on_event_ack, tells_ports, next_life, switch_on_restart, switch_tick_letters, flow_removed, tells_left, aged}
use Rattle.of_switch.specs.Forwarding.{is_frame, is_port_up, targets, over_link, over_links, sends_to, puts_out, puts_all, packet_in_of, through_row, frame_fields_at, counting_ports, on_frame}
use Rattle.of_switch.specs.Commands.{result_of, does, done_as, counted_command, result_letter, executes, on_offer, settled, on_command}
use Rattle.of_switch.specs.Rules.{switch_on_local, told_master, on_role, on_role_request, switch_on_plain, on_own_life, life_said, switch_on_extension, on_malformed, switch_turn}
use Rattle.of_switch.proofs.Leaving.{any_left_told}
use Rattle.run_laws.specs.AddressLaws.Addresses.{KnowsControllers, WritesToSwitch}
use Rattle.run_laws.specs.AddressLaws.Laws.{IsAddressedTurn, SwitchesWriteToActors}
use Rattle.run_laws.proofs.AddressLaws.Lists.{all_flat, all_flat_of, range_below}

module _ (setup : Setup) where
  abbrev Good : SwitchTurn → Type 0
  Good turn = IsAddressedTurn setup turn

  abbrev Knows : SwitchState → Type 0
  Knows s = KnowsControllers setup s

  -- the controllers, the wires and the fence are known as before
  same_known : (s t : SwitchState) → t.controllers ≡ s.controllers → t.links ≡ s.links → t.fence ≡ s.fence → Knows s → Knows t
  same_known s t a b c k =
      record {
        all = a ∙ k.all;
        links = subst (λ (links : List Link). AllByRecursion (λ l. (l.switch < length setup.ports) × (l.peer < length setup.ports)) links) (sym b) k.links;
        master = subst (λ (f : Fence). IfSome f.master (λ m. m < setup.controllers)) (sym c) k.master;
      }

  choice : (b : Bool) (x y : SwitchTurn) → (b ≡ true → Good x) → (b ≡ false → Good y) → Good (if b then x else y)
  choice b x y f g = cond_both b x y Good f g

  rests : (s : SwitchState) → Knows s → Good (quiet_switch s)
  rests s k = record { knows = k; sends = tt }

  then_both : (first : SwitchTurn) (next : SwitchState → SwitchTurn) → Good first → ((s : SwitchState) → Knows s → Good (next s)) → Good (then_turn first next)
  then_both first next g f = let h = f first.state g.knows in record { knows = h.knows; sends = all_append _ first.letters (next first.state).letters g.sends h.sends }

  answered : (s : SwitchState) (c : ℕ) (l : Letter SwitchSays) → IsActor setup l.to → Knows s → Good (posts s (l ∷ []))
  answered s c l there k = record { knows = k; sends = (there, tt) }

  -- events go to the master
  events_go : (o : Option ℕ) (events : List Event) → IfSome o (λ c. c < setup.controllers) → AreAddressed setup (event_letters o events)
  events_go None events h = tt
  events_go (Some c) events h = all_made (event_letter c) (λ l. IsActor setup l.to) (λ e. h) events

  raises : (what : Happening) (s : SwitchState) → Knows s → Good (raised what s)
  raises what s k =
      record {
        knows = same_known s (with_event s what) refl refl refl k;
        sends = cond_both (nat_lt (length s.buffer.held) window) _ _ (AreAddressed setup) (λ _. events_go s.fence.master (next_event s.buffer what ∷ []) k.master) (λ _. tt);
      }

  packet_raises : (what : Happening) (s : SwitchState) → Knows s → Good (packet_raised what s)
  packet_raises what s k = choice (is_full s.buffer) _ _ (λ _. rests s k) (λ _. raises what s k)

  port_raises : (port : ℕ) (s : SwitchState) → Knows s → Good (port_raised port s)
  port_raises port s k = choice (is_full s.buffer) _ _ (λ _. rests _ (same_known s (record s { buffer = with_dirty s.buffer port }) refl refl refl k)) (λ _. raises (port_status s port) s k)

  ports_change : (s : SwitchState) (port : ℕ) (up : Bool) → Knows s → Good (on_port s port up)
  ports_change s port up k =
      choice (is_port s port && (if up then is_port_down s port else not (is_port_down s port))) _ _ (λ _. port_raises port (with_port s port up) (same_known s (with_port s port up) refl refl refl k)) (λ _. rests s k)

  remembered : (ports : List ℕ) (turn : SwitchTurn) → Good turn → Good (remembers ports turn)
  remembered [] turn g = g
  remembered (port ∷ ports) turn g =
      choice (is_full turn.state.buffer) turn _ (λ _. g)
      (λ _. remembered ports _ (then_both turn (λ s. raised (port_status s port) (record s { buffer = without_dirty s.buffer port })) g
      (λ s k. raises (port_status s port) (record s { buffer = without_dirty s.buffer port }) (same_known s (record s { buffer = without_dirty s.buffer port }) refl refl refl k))))

  acked : (s : SwitchState) (through : ℕ) → Knows s → Good (on_event_ack s through)
  acked s through k =
      remembered s.buffer.dirty (posts (cleared s through) (event_letters s.fence.master (coming (cleared s through) (cleared_to s.buffer through - s.buffer.cleared))))
      (record { knows = same_known s (cleared s through) refl refl refl k; sends = events_go s.fence.master _ k.master })

  ports_told : (ports : List ℕ) (turn : SwitchTurn) → Good turn → Good (tells_ports ports turn)
  ports_told [] turn g = g
  ports_told (port ∷ ports) turn g = ports_told ports _ (then_both turn (λ s. raised (port_status s port) s) g (λ s k. raises (port_status s port) s k))

  greetings_go : (s : SwitchState) → Knows s → AreAddressed setup (greetings s)
  greetings_go s k =
      all_map _ (λ c. c < setup.controllers) (λ l. IsActor setup l.to) (λ c there. there) (range_with_len 0 s.controllers)
      (subst (λ (n : ℕ). AllByRecursion (λ c. c < setup.controllers) (range_with_len 0 n)) (sym k.all) (range_below 0 setup.controllers setup.controllers (omega arith)))

  restarts : (s : SwitchState) → Knows s → Good (switch_on_restart s)
  restarts s k =
      choice (nat_lt (life_of s) last_life) _ _
      (λ _. then_both (tells_ports s.down (raised switch_up (next_life s))) (λ now. posts now (greetings now))
      (ports_told s.down (raised switch_up (next_life s)) (raises switch_up (next_life s) (record { all = k.all; links = k.links; master = tt })))
      (λ now h. record { knows = h; sends = greetings_go now h }))
      (λ _. rests s k)

  ticks_go : (s : SwitchState) (o : Option ℕ) → IfSome o (λ c. c < setup.controllers) → Knows s → AreAddressed setup (switch_tick_letters s o)
  ticks_go s None h k = cond_both (nat_lt 0 (life_of s)) _ _ (AreAddressed setup) (λ _. greetings_go s k) (λ _. tt)
  ticks_go s (Some c) h k = all_made (event_letter c) (λ l. IsActor setup l.to) (λ e. h) (first_held s)

  -- rows leave
  aged_known : (s : SwitchState) → Knows s → Knows (aged s)
  aged_known s k =
      same_known (tells_left (clock_told s.table) s) (aged s) refl refl refl
      (any_left_told Knows (λ e now room h. same_known now (with_event now (flow_removed e)) refl refl refl h) (clock_told s.table) s k)

  -- frames go over wires
  link_goes : (frame : List ℕ) (switch port : ℕ) (l : Link) → (l.switch < length setup.ports) × (l.peer < length setup.ports) → AreAddressed setup (over_link frame switch port l)
  link_goes frame switch port l h =
      cond_both (nat_eq l.switch switch && nat_eq l.port port) _ _ (AreAddressed setup) (λ _. (h.1, tt))
      (λ _. cond_both (nat_eq l.peer switch && nat_eq l.peer_port port) _ _ (AreAddressed setup) (λ _. (h.0, tt)) (λ _. tt))

  links_go : (s : SwitchState) (frame : List ℕ) (port : ℕ) → Knows s → AreAddressed setup (over_links s frame port)
  links_go s frame port k =
      all_flat_of (over_link frame (own_number_of s) port) (λ l. (l.switch < length setup.ports) × (l.peer < length setup.ports)) (λ l. IsActor setup l.to) (link_goes frame (own_number_of s) port) s.links k.links

  frames_go : (frame : List ℕ) (ports : List ℕ) (s : SwitchState) → Knows s → Good (sends_to frame ports s)
  frames_go frame ports s k =
      record { knows = same_known s (sends_to frame ports s).state refl refl refl k; sends = all_flat (over_links s frame) (λ l. IsActor setup l.to) (λ port. links_go s frame port k) ports }

  module _ (tells : SwitchState → SwitchTurn) (told : (s : SwitchState) → Knows s → Good (tells s)) (port : ℕ) (frame : List ℕ) where
    output_goes : (output : ℕ) (s : SwitchState) → Knows s → Good (puts_out tells port frame output s)
    output_goes output s k = choice (nat_eq output TO_CONTROLLER) _ _ (λ _. told s k) (λ _. frames_go frame (targets s port output) s k)

    outputs_go : (outputs : List ℕ) (turn : SwitchTurn) → Good turn → Good (puts_all tells port frame outputs turn)
    outputs_go [] turn g = g
    outputs_go (output ∷ outputs) turn g = outputs_go outputs (then_turn turn (puts_out tells port frame output)) (then_both turn (puts_out tells port frame output) g (output_goes output))

  row_goes : (s : SwitchState) (port : ℕ) (frame : List ℕ) (o : Option Row) → Knows s → Good (through_row s port frame o)
  row_goes s port frame None k = rests s k
  row_goes s port frame (Some row) k = outputs_go (packet_raised (packet_in_of row port frame)) (packet_raises (packet_in_of row port frame)) port frame row.actions (quiet_switch s) (rests s k)

  frame_goes : (s : SwitchState) (port : ℕ) (frame : List ℕ) → Knows s → Good (on_frame s port frame)
  frame_goes s port frame k =
      choice (is_port_up s port && is_frame frame) _ _
      (λ _.
      let met = row_goes s port frame (chosen_row (rows_of s) (frame_fields_at port frame)) k in
      let turn = through_row s port frame (chosen_row (rows_of s) (frame_fields_at port frame)) in
      record { knows = same_known turn.state (counting_ports port frame turn).state refl refl refl met.knows; sends = met.sends })
      (λ _. rests s k)

  local_goes : (s : SwitchState) (what : Local) → Knows s → Good (switch_on_local s what)
  local_goes s (local.Frame port bytes) k = frame_goes s port bytes k
  local_goes s (local.Port port up) k = ports_change s port up k
  local_goes s local.Tick k = record { knows = aged_known s k; sends = ticks_go (aged s) s.fence.master k.master (aged_known s k) }
  local_goes s (local.Suspect view) k = rests s k
  local_goes s local.Crash k = rests s k
  local_goes s local.Restart k = restarts s k

  -- commands
  done : (what : Order) (s : SwitchState) → Knows s → Good (does what s)
  done (order.PacketOut out) s k = outputs_go quiet_switch rests out.in_port out.payload out.actions (quiet_switch s) (rests s k)
  done (order.FlowMod change) s k = rests _ (same_known s (does (order.FlowMod change) s).state refl refl refl k)

  done_so : (result : Outcome) (what : Order) (s : SwitchState) → Knows s → Good (done_as result what s)
  done_so outcome.Done what s k = done what s k
  done_so (outcome.Failed kind code) what s k = rests s k
  done_so outcome.Cleared what s k = rests s k

  module _ (from : ℕ) (there : from < setup.controllers) where
    executed : (s : SwitchState) (generation number : ℕ) (what : Order) → Knows s → Good (executes s from generation number what)
    executed s generation number what k =
        then_both (done_as (result_of s what) what s) (λ now. posts (counted_command from generation number what (result_of s what) now) (result_letter s from number (result_of s what) ∷ []))
        (done_so (result_of s what) what s k)
        (λ now h. record { knows = same_known now (counted_command from generation number what (result_of s what) now) refl refl refl h; sends = (there, tt) })

    offered : (s : SwitchState) (generation number : ℕ) (what : Order) (o : Offer) → Knows s → Good (on_offer s from generation number what o)
    offered s generation number what Execute k = executed s generation number what k
    offered s generation number what (Repeat result) k = record { knows = k; sends = (there, tt) }
    offered s generation number what Ahead k = rests s k
    offered s generation number what Full k = rests s k

    commanded : (s : SwitchState) (xid generation number through : ℕ) (what : Order) → Knows s → Good (on_command s from xid generation number through what)
    commanded s xid generation number through what k =
        choice (may_execute s.fence from generation) _ _
        (λ _. offered (settled s through) generation number what (offer_of (settled s through).results number) (same_known s (settled s through) refl refl refl k))
        (λ _. record { knows = k; sends = (there, tt) })

    -- roles
    other_known : (o : Option ℕ) → IfSome o (λ c. c < setup.controllers) → IfSome (other_master from o) (λ c. c < setup.controllers)
    other_known o h = cond_both (is_some_of from o) None o (λ (m : Option ℕ). IfSome m (λ c. c < setup.controllers)) (λ _. tt) (λ _. h)

    abbrev Fenced : RoleStep → Type 0
    Fenced step = IfSome step.fence.master (λ c. c < setup.controllers)

    role_known : (f : Fence) (role generation : ℕ) → IfSome f.master (λ c. c < setup.controllers) → Fenced (role_step f from role generation)
    role_known f role generation h =
        cond_both (nat_lt SLAVE role) _ _ Fenced (λ _. h)
        (λ _. cond_both (nat_eq role NO_CHANGE) _ _ Fenced (λ _. h)
        (λ _. cond_both (nat_eq role EQUAL) _ _ Fenced (λ _. other_known f.master h)
        (λ _. cond_both (is_stale f.generation generation) _ _ Fenced (λ _. h)
        (λ _. cond_both (nat_eq role MASTER) _ _ Fenced (λ _. there) (λ _. other_known f.master h)))))

    answer_goes : (s : SwitchState) (xid asked : ℕ) (step : RoleStep) (answer : RoleAnswer) → Fenced step → Knows s → Good (on_role s from xid asked step answer)
    answer_goes s xid asked step (Reply role generation) h k =
        then_both (answers (record s { fence = step.fence }) from xid (spoken.Plain (plain.RoleReply role generation))) (told_master from asked) (record { knows = record { all = k.all; links = k.links; master = h }; sends = (there, tt) })
        (λ now n. record { knows = n; sends = cond_both (nat_eq asked MASTER) _ _ (AreAddressed setup) (λ _. all_made (event_letter from) (λ l. IsActor setup l.to) (λ e. there) (first_held now)) (λ _. tt) })
    answer_goes s xid asked step (Stale seen generation) h k = record { knows = k; sends = (there, tt) }
    answer_goes s xid asked step BadRole h k = record { knows = k; sends = (there, tt) }

    role_goes : (s : SwitchState) (xid role generation : ℕ) → Knows s → Good (on_role_request s from xid role generation)
    role_goes s xid role generation k =
        let step = role_step s.fence from role generation in answer_goes s xid role step step.answer (role_known s.fence role generation k.master) k

    plain_goes : (s : SwitchState) (xid : ℕ) (what : OfMessage) → Knows s → Good (switch_on_plain s from xid what)
    plain_goes s xid plain.Hello k = rests s k
    plain_goes s xid (plain.Error kind code head) k = rests s k
    plain_goes s xid (plain.EchoReply body) k = rests s k
    plain_goes s xid (plain.RoleRequest role generation) k = role_goes s xid role generation k
    plain_goes s xid (plain.EchoRequest body) k = record { knows = k; sends = (there, tt) }
    plain_goes s xid plain.FeaturesRequest k = record { knows = k; sends = (there, tt) }
    plain_goes s xid plain.BarrierRequest k = record { knows = k; sends = (there, tt) }
    plain_goes s xid (plain.PacketOut out) k = record { knows = k; sends = (there, tt) }
    plain_goes s xid (plain.FlowMod change) k = record { knows = k; sends = (there, tt) }
    plain_goes s xid (plain.Experimenter body) k = record { knows = k; sends = (there, tt) }
    plain_goes s xid (plain.FeaturesReply datapath) k = record { knows = k; sends = (there, tt) }
    plain_goes s xid (plain.PacketIn p) k = record { knows = k; sends = (there, tt) }
    plain_goes s xid (plain.FlowRemoved r) k = record { knows = k; sends = (there, tt) }
    plain_goes s xid (plain.PortStatus p) k = record { knows = k; sends = (there, tt) }
    plain_goes s xid plain.BarrierReply k = record { knows = k; sends = (there, tt) }
    plain_goes s xid (plain.RoleReply role generation) k = record { knows = k; sends = (there, tt) }

    life_goes : (s : SwitchState) (xid : ℕ) (what : Extension) → Knows s → Good (on_own_life s from xid what)
    life_goes s xid (extension.Event life number what) k = record { knows = k; sends = (there, tt) }
    life_goes s xid (extension.EventAck life through) k = acked s through k
    life_goes s xid (extension.Command life generation number through what) k = commanded s xid generation number through what k
    life_goes s xid (extension.CmdAck life number result) k = record { knows = k; sends = (there, tt) }
    life_goes s xid (extension.Clear life through) k = rests _ (same_known s (settled s through) refl refl refl k)

    extension_goes : (s : SwitchState) (xid : ℕ) (what : Extension) → Knows s → Good (switch_on_extension s from xid what)
    extension_goes s xid what k = choice (nat_eq (life_said what) (life_of s)) _ _ (λ _. life_goes s xid what k) (λ _. rests s k)

  fault_goes : (s : SwitchState) (from : Actor) (kind code xid : ℕ) (head : List ℕ) → IsActor setup from → Knows s → Good (on_malformed s from kind code xid head)
  fault_goes s (actor.Controller from) kind code xid head there k = record { knows = k; sends = (there, tt) }
  fault_goes s (actor.Switch from) kind code xid head there k = rests s k

  turn_goes : (s : SwitchState) (x : SwitchInput) → Knows s → WritesToSwitch setup x → Good (switch_turn s x)
  unfolding switch_turn
  turn_goes s (switch_input.Local what) k there = local_goes s what k
  turn_goes s (switch_input.Of from xid (spoken.Plain what)) k there = plain_goes from there s xid what k
  turn_goes s (switch_input.Of from xid (spoken.Ravana what)) k there = extension_goes from there s xid what k
  turn_goes s (switch_input.Malformed from kind code xid head) k there = fault_goes s from kind code xid head there k
  turn_goes s (switch_input.Frame from port bytes) k there = frame_goes s port bytes k

pub switches_write : SwitchesWriteToActors
switches_write setup s x knows there = turn_goes setup s x knows there
