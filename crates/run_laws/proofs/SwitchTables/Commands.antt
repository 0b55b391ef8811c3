-- What a switch did with its table comes of the commands that it carried out, and each turn keeps it so.
use Rattle.std.proofs.Common.{◌≡◌, ◌≤◌, ℕ, ◌+◌, Bool, true, false, ◌&&◌, List, [], ◌∷◌, ◌++◌, refl, sym, ◌∙◌, ap, subst, inl, inr, arith}
use Rattle.std.specs.Prelude.{nat_eq, nat_lt, not, length, reverse, Option, Some, None, if◌then◌else◌}
use Rattle.std.specs.List.{AllByRecursion, list_any}
use Rattle.std.proofs.lemmas.Bool.{eq-eqb, ne_eqb}
use Rattle.std.proofs.lemmas.List.{reverse-append}
use Rattle.of_types.specs.declared.message.Executed.{Executed}
use Rattle.of_types.specs.declared.message.Extension.{Extension}
use Rattle.of_types.specs.declared.message.Extension.TheVariants as extension
use Rattle.of_types.specs.declared.message.Fields.{Fields}
use Rattle.of_types.specs.declared.message.FlowMod.{FlowMod}
use Rattle.of_types.specs.declared.message.Order.{Order}
use Rattle.of_types.specs.declared.message.Order.TheVariants as order
use Rattle.of_types.specs.declared.message.Outcome.{Outcome}
use Rattle.of_types.specs.declared.message.Outcome.TheVariants as outcome
use Rattle.of_types.specs.declared.message.PacketOut.{PacketOut}
use Rattle.of_types.specs.declared.message.Spoken.{Spoken}
use Rattle.of_types.specs.declared.message.Spoken.TheVariants as spoken
use Rattle.of_types.specs.declared.numbers.TheConstants.{NO_BUFFER, SEND_REMOVED}
use Rattle.of_types.specs.Lives.{last_life, switch_up}
use Rattle.journal.specs.declared.journal.Local.{Local}
use Rattle.journal.specs.declared.journal.Local.TheVariants as local
use Rattle.journal.proofs.All.{all_append}
use Rattle.list_facts.proofs.Prefixes.{filter_more}
use Rattle.role_fence.specs.Fence.{may_execute}
use Rattle.command_buffer.specs.declared.buffer.Offer.{Offer}
use Rattle.command_buffer.specs.declared.buffer.Offer.TheVariants.{Execute, Repeat, Ahead, Full}
use Rattle.command_buffer.specs.Results.{offer_of}
use Rattle.flow_table.specs.declared.rows.TableFault.{TableFault}
use Rattle.flow_table.specs.declared.rows.TableFault.TheVariants as fault
use Rattle.flow_table.specs.Table.{table_fault, first_fault, lacks_room, is_known_table, is_delete, is_row_output}
use Rattle.flow_clock.specs.History.{Act, Change, Tick, Frame, deeds_of, table_of}
use Rattle.flow_clock.specs.Clocked.{Clocked, rows_in, is_last}
use Rattle.flow_clock.specs.Holding.{clocked_of}
use Rattle.flow_clock.proofs.Held.{rows_kept}
use Rattle.of_switch.specs.declared.says.SwitchInput.{SwitchInput}
use Rattle.of_switch.specs.declared.says.SwitchInput.TheVariants as switch_input
use Rattle.of_switch.specs.State.{SwitchState, SwitchTurn, quiet_switch, then_turn, posts, greetings, rows_of, life_of}
use Rattle.of_switch.specs.Events.{raised, port_status, tells_ports, next_life}
use Rattle.of_switch.specs.Forwarding.{is_frame, is_port_up, frame_fields_at}
use Rattle.of_switch.specs.Commands.{table_result, done_as, counted_command, result_letter, result_of, on_offer, settled, on_command}
use Rattle.of_switch.specs.Rules.{switch_turn}
use Rattle.run_laws.specs.OnceLaws.Facts.{executed_of}
use Rattle.run_laws.specs.SwitchTables.Acts.{order_acts, offer_acts, command_acts, acts_in, acts_then}
use Rattle.run_laws.specs.SwitchTables.Changes.{latest_commands, ComesOf, Nothing_yet, Changed_by, Refused_by, Sent_by, At_tick, At_frame}
use Rattle.run_laws.proofs.OnceLaws.SwitchMoves.{Move, Raises, Says, Notes, Changes, Ages, Clears, Executes, Masters, Fences, Restarts, turn_keeps}
use Rattle.run_laws.proofs.OnceLaws.Generations.{IsGrown, life_stays, turn_carries}

-- each command was carried out in a life that had begun by then
abbrev AreBegun : ℕ → List Executed → Type 0
AreBegun life executed = AllByRecursion (λ (x : Executed). x.life ≤ life) executed

-- what a switch did comes of its commands
pub record Follows (ports : ℕ) (s : SwitchState) (acts : List Act) : Type 0 where
  pub ports_are : s.ports ≡ ports
  pub begun : AreBegun (life_of s) s.executed
  pub comes : ComesOf ports (latest_commands s) acts

-- a switch keeps its ports
ports_stay : (x : SwitchInput) (start : SwitchState) → (switch_turn start x).state.ports ≡ start.ports
ports_stay x start = turn_keeps x (λ (t : SwitchTurn). t.state.ports ≡ start.ports) stays start refl
  where
    stays : (t t' : SwitchTurn) → Move x t t' → t.state.ports ≡ start.ports → t'.state.ports ≡ start.ports
    stays t t' (Raises what raised is) h = ap (λ (y : SwitchTurn). y.state.ports) is ∙ h
    stays t t' (Says ls all is) h = ap (λ (y : SwitchTurn). y.state.ports) is ∙ h
    stays t t' (Notes down sent outcomes dirty is) h = ap (λ (y : SwitchTurn). y.state.ports) is ∙ h
    stays t t' (Changes c xid life generation number through change asks is) h = ap (λ (y : SwitchTurn). y.state.ports) is ∙ h
    stays t t' (Ages table stay is) h = ap (λ (y : SwitchTurn). y.state.ports) is ∙ h
    stays t t' (Clears c xid life through asks own is) h = ap (λ (y : SwitchTurn). y.state.ports) is ∙ h
    stays t t' (Executes c xid life generation number through what result asks own may next is) h = ap (λ (y : SwitchTurn). y.state.ports) is ∙ h
    stays t t' (Masters c xid role generation asks master fresh first is) h = ap (λ (y : SwitchTurn). y.state.ports) is ∙ h
    stays t t' (Fences c xid role generation fence asks otherwise first is) h = ap (λ (y : SwitchTurn). y.state.ports) is ∙ h
    stays t t' (Restarts asks further first is) h = ap (λ (y : SwitchTurn). y.state.ports) is ∙ h

-- want of memory is no fault
never_memory : (lacks : Bool) (ports : ℕ) (change : FlowMod) → first_fault lacks ports change ≡ Some fault.OutOfMemory → ⊥
never_memory lacks ports change =
    choice (not (is_known_table change)) _ _ (λ is. absurd cc)
    (choice (nat_lt SEND_REMOVED change.flags) _ _ (λ is. absurd cc)
    (choice (is_delete change.command) _ _ (λ is. absurd cc)
    (choice (not (nat_eq change.buffer NO_BUFFER)) _ _ (λ is. absurd cc)
    (choice (list_any (λ output. not (is_row_output ports output)) change.actions) _ _ (λ is. absurd cc)
    (choice lacks _ _ (λ is. absurd cc) (λ is. absurd cc))))))
  where
    choice : (b : Bool) (x y : Option TableFault) → (x ≡ Some fault.OutOfMemory → ⊥) → (y ≡ Some fault.OutOfMemory → ⊥) → (if b then x else y) ≡ Some fault.OutOfMemory → ⊥
    choice true x y h k = h
    choice false x y h k = k

-- a command of a life joins those of that life
joined : (life : ℕ) (xs : List Executed) (new : Executed) → new.life ≡ life → reverse (executed_of life (xs ++ new ∷ [])) ≡ new ∷ reverse (executed_of life xs)
joined life xs new own =
    ap (λ l. reverse l) (filter_more (λ x. nat_eq x.life life) xs new (ap (λ n. nat_eq n life) own ∙ eq-eqb life life refl))
    ∙ reverse-append (executed_of life xs) (new ∷ [])

-- a life that has not begun has none
none_later : (life : ℕ) (xs : List Executed) → AreBegun life xs → executed_of (life + 1) xs ≡ []
none_later life [] all = refl
none_later life (x ∷ xs) all =
    let early = all.0 in
    ap (λ b. if b then x ∷ executed_of (life + 1) xs else executed_of (life + 1) xs) (ne_eqb x.life (life + 1) (λ same. absurd (omega (arith, early, same))))
    ∙ none_later life xs all.1

-- and one more life is no earlier
begun_later : (life : ℕ) (xs : List Executed) → AreBegun life xs → AreBegun (life + 1) xs
begun_later life [] all = tt
begun_later life (x ∷ xs) all = let early = all.0 in (omega (arith, early), begun_later life xs all.1)

-- one input brings one order
same_order : {c d xid yid life other generation its number place through settling : ℕ} {asked what : Order} →
    switch_input.Of c xid (spoken.Ravana (extension.Command life generation number through asked)) ≡ switch_input.Of d yid (spoken.Ravana (extension.Command other its place settling what)) → what ≡ asked
same_order is = cc

-- ---- a turn within a life

module _ (ports : ℕ) (s : SwitchState) (acts : List Act) (is : s.table ≡ clocked_of acts) (before : Follows ports s acts) where
  -- a turn in this life, and what was done in it
  record Comes (t : SwitchTurn) (more : List Act) : Type 0 where
    begun : AreBegun (life_of s) t.state.executed
    comes : ComesOf ports (reverse (executed_of (life_of s) t.state.executed)) (more ++ acts)

  either : (b : Bool) (x y : SwitchTurn) (more none : List Act) → Comes x more → Comes y none → Comes (if b then x else y) (if b then more else none)
  either true x y more none h k = h
  either false x y more none h k = k

  -- no command is carried out
  stays : (t : SwitchTurn) (more : List Act) → t.state.executed ≡ s.executed → ComesOf ports (latest_commands s) (more ++ acts) → Comes t more
  stays t more same comes =
      record {
        begun = subst (λ l. AreBegun (life_of s) l) (sym same) before.begun;
        comes = subst (λ l. ComesOf ports (reverse (executed_of (life_of s) l)) (more ++ acts)) (sym same) comes;
      }

  -- one is
  grows : (t : SwitchTurn) (more : List Act) (new : Executed) → t.state.executed ≡ s.executed ++ new ∷ [] → new.life ≡ life_of s → ComesOf ports (new ∷ latest_commands s) (more ++ acts) → Comes t more
  grows t more new longer own comes =
      record {
        begun = subst (λ l. AreBegun (life_of s) l) (sym longer) (all_append (λ (x : Executed). x.life ≤ life_of s) s.executed (new ∷ []) before.begun (omega (arith, own), tt));
        comes = subst (λ l. ComesOf ports l (more ++ acts)) (sym (ap (λ l. reverse (executed_of (life_of s) l)) longer ∙ joined (life_of s) s.executed new own)) comes;
      }

  -- the fault of a FLOW_MOD is that over the table of what was done
  fault_is : (change : FlowMod) (found : Option TableFault) → table_fault (rows_of s) s.ports change ≡ found → table_fault (table_of acts) ports change ≡ found
  fault_is change found at =
      ap (λ rows. table_fault rows ports change) (sym (ap (λ (t : Clocked). rows_in t) is ∙ rows_kept (deeds_of acts)))
      ∙ ap (λ n. table_fault (rows_of s) n change) (sym before.ports_are) ∙ at

  module _ (from generation number through : ℕ) where
    abbrev executing : Order → Outcome → SwitchTurn
    executing what result =
        then_turn (done_as result what (settled s through)) (λ n. posts (counted_command from generation number what result n) (result_letter (settled s through) from number result ∷ []))

    abbrev command_of : Order → Executed
    command_of what = record { life = life_of s; number = number; generation = generation; from = from; order = what }

    failed_does : (change : FlowMod) (kind code : ℕ) (why : TableFault) → table_fault (rows_of s) s.ports change ≡ Some why →
        Comes (executing (order.FlowMod change) (outcome.Failed kind code)) []
    failed_does change kind code why at =
        let new = command_of (order.FlowMod change) in
        grows _ [] new refl refl (Refused_by new change why refl (fault_is change (Some why) at) before.comes)

    change_does : (change : FlowMod) (found : Option TableFault) → table_fault (rows_of s) s.ports change ≡ found →
        Comes (executing (order.FlowMod change) (table_result found)) (order_acts (table_result found) (order.FlowMod change))
    change_does change None at =
        let new = command_of (order.FlowMod change) in
        grows _ (Change change ∷ []) new refl refl (Changed_by new change refl (fault_is change None at) before.comes)
    change_does change (Some fault.BadTable) at = failed_does change _ _ fault.BadTable at
    change_does change (Some fault.BadFlags) at = failed_does change _ _ fault.BadFlags at
    change_does change (Some fault.BadBuffer) at = failed_does change _ _ fault.BadBuffer at
    change_does change (Some fault.BadPort) at = failed_does change _ _ fault.BadPort at
    change_does change (Some fault.TableFull) at = failed_does change _ _ fault.TableFull at
    change_does change (Some fault.OutOfMemory) at = absurd (never_memory (lacks_room (rows_of s) change) s.ports change at)

    offer_does : (change : FlowMod) (o : Offer) → Comes (on_offer (settled s through) from generation number (order.FlowMod change) o) (offer_acts (settled s through) (order.FlowMod change) o)
    offer_does change Execute = change_does change (table_fault (rows_of s) s.ports change) refl
    offer_does change (Repeat result) = stays _ [] refl before.comes
    offer_does change Ahead = stays _ [] refl before.comes
    offer_does change Full = stays _ [] refl before.comes

    command_does : (xid : ℕ) (change : FlowMod) → Comes (on_command s from xid generation number through (order.FlowMod change)) (command_acts s from generation number through (order.FlowMod change))
    command_does xid change =
        either (may_execute s.fence from generation) _ _ _ [] (offer_does change (offer_of (settled s through).results number)) (stays _ [] refl before.comes)

    change_comes : (xid life : ℕ) (change : FlowMod) → let x = switch_input.Of from xid (spoken.Ravana (extension.Command life generation number through (order.FlowMod change))) in Comes (switch_turn s x) (acts_in s x)
    unfolding switch_turn
    change_comes xid life change = either (nat_eq life (life_of s)) _ _ _ [] (command_does xid change) (stays _ [] refl before.comes)

    -- a PACKET_OUT is no change
    packet_acts : (out : PacketOut) (result : Outcome) → order_acts result (order.PacketOut out) ≡ []
    packet_acts out outcome.Done = refl
    packet_acts out (outcome.Failed kind code) = refl
    packet_acts out outcome.Cleared = refl

    packet_offered : (out : PacketOut) (o : Offer) → offer_acts (settled s through) (order.PacketOut out) o ≡ []
    packet_offered out Execute = packet_acts out (result_of (settled s through) (order.PacketOut out))
    packet_offered out (Repeat result) = refl
    packet_offered out Ahead = refl
    packet_offered out Full = refl

  no_acts : (b : Bool) (more : List Act) → more ≡ [] → (if b then more else []) ≡ []
  no_acts true more none = none
  no_acts false more none = refl

  -- a turn that does nothing with the table
  idle : (x : SwitchInput) → acts_in s x ≡ [] → ((g : IsGrown x s (switch_turn s x)) → ComesOf ports (g.new ∷ latest_commands s) acts) → Comes (switch_turn s x) (acts_in s x)
  idle x none sent =
      elim (turn_carries x s).grown [
        | inl same ↦ stays _ (acts_in s x) same.is (subst (λ (more : List Act). ComesOf ports (latest_commands s) (more ++ acts)) (sym none) before.comes)
        | inr g ↦
            grows _ (acts_in s x) g.new g.is (ap (λ (y : Executed). y.life) g.new_is)
            (subst (λ (more : List Act). ComesOf ports (g.new ∷ latest_commands s) (more ++ acts)) (sym none) (sent g))
      ]

  packet_comes : (from xid life generation number through : ℕ) (out : PacketOut) → let x = switch_input.Of from xid (spoken.Ravana (extension.Command life generation number through (order.PacketOut out))) in
      Comes (switch_turn s x) (acts_in s x)
  packet_comes from xid life generation number through out =
      let x = switch_input.Of from xid (spoken.Ravana (extension.Command life generation number through (order.PacketOut out))) in
      idle x
      (no_acts (nat_eq life (life_of s)) _ (no_acts (may_execute s.fence from generation) _ (packet_offered from generation number through out (offer_of (settled s through).results number))))
      (λ g. Sent_by g.new out (ap (λ (y : Executed). y.order) g.new_is ∙ same_order g.asks) before.comes)

  -- a turn of no command
  quiet : (x : SwitchInput) → ((g : IsGrown x s (switch_turn s x)) → ⊥) → ComesOf ports (latest_commands s) (acts_in s x ++ acts) → Comes (switch_turn s x) (acts_in s x)
  quiet x none comes =
      elim (turn_carries x s).grown [
        | inl same ↦ stays _ (acts_in s x) same.is comes
        | inr g ↦ absurd (none g)
      ]

  met : (b : Bool) (fields : Fields) (octets : ℕ) → ComesOf ports (latest_commands s) ((if b then Frame fields octets ∷ [] else []) ++ acts)
  met true fields octets = At_frame fields octets before.comes
  met false fields octets = before.comes

  ticked : (b : Bool) → ComesOf ports (latest_commands s) ((if b then [] else Tick ∷ []) ++ acts)
  ticked true = before.comes
  ticked false = At_tick before.comes

  neither : (b : Bool) → ComesOf ports (latest_commands s) ((if b then [] else []) ++ acts)
  neither true = before.comes
  neither false = before.comes

  -- without a restart the life goes on
  goes : (x : SwitchInput) (more : List Act) → (x ≡ switch_input.Local local.Restart → ⊥) → Comes (switch_turn s x) more → Follows ports (switch_turn s x).state (more ++ acts)
  goes x more other c =
      record {
        ports_are = ports_stay x s ∙ before.ports_are;
        begun = subst (λ n. AreBegun n (switch_turn s x).state.executed) (sym (life_stays x s other)) c.begun;
        comes = subst (λ n. ComesOf ports (reverse (executed_of n (switch_turn s x).state.executed)) (more ++ acts)) (sym (life_stays x s other)) c.comes;
      }

  -- a message of the extension that is no command
  said_follows : (from xid : ℕ) (said : Extension) → ((g : IsGrown (switch_input.Of from xid (spoken.Ravana said)) s (switch_turn s (switch_input.Of from xid (spoken.Ravana said)))) → ⊥) →
      ComesOf ports (latest_commands s) (acts_in s (switch_input.Of from xid (spoken.Ravana said)) ++ acts) →
      Follows ports (switch_turn s (switch_input.Of from xid (spoken.Ravana said))).state (acts_in s (switch_input.Of from xid (spoken.Ravana said)) ++ acts)
  said_follows from xid said none comes = goes _ _ (λ is. absurd cc) (quiet (switch_input.Of from xid (spoken.Ravana said)) none comes)

  -- a turn that begins a life
  record Opens (t : SwitchTurn) : Type 0 where
    ports_are : t.state.ports ≡ s.ports
    executed_is : t.state.executed ≡ s.executed
    life_is : life_of t.state ≡ life_of s + 1

  told : (down : List ℕ) (t : SwitchTurn) → Opens t → Opens (tells_ports down t)
  told [] t h = h
  told (port ∷ down) t h =
      told down (then_turn t (λ n. raised (port_status n port) n)) (record { ports_are = h.ports_are; executed_is = h.executed_is; life_is = h.life_is })

  restart_does : (b : Bool) → Follows ports (if b then then_turn (tells_ports s.down (raised switch_up (next_life s))) (λ now. posts now (greetings now)) else quiet_switch s).state (if b then [] else acts)
  restart_does false = before
  restart_does true =
      let t : SwitchTurn = tells_ports s.down (raised switch_up (next_life s)) in
      let o : Opens t = told s.down (raised switch_up (next_life s)) (record { ports_are = refl; executed_is = refl; life_is = refl }) in
      let none : executed_of (life_of t.state) t.state.executed ≡ [] =
      ap (λ n. executed_of n t.state.executed) o.life_is ∙ ap (λ l. executed_of (life_of s + 1) l) o.executed_is ∙ none_later (life_of s) s.executed before.begun in
      record {
        ports_are = o.ports_are ∙ before.ports_are;
        begun = subst (λ n. AreBegun n t.state.executed) (sym o.life_is) (subst (λ l. AreBegun (life_of s + 1) l) (sym o.executed_is) (begun_later (life_of s) s.executed before.begun));
        comes = subst (λ l. ComesOf ports (reverse l) []) (sym none) Nothing_yet;
      }

  restarted : Follows ports (switch_turn s (switch_input.Local local.Restart)).state (acts_then s (switch_input.Local local.Restart) acts)
  unfolding switch_turn
  restarted = restart_does (nat_lt (life_of s) last_life)

  -- a local input but a restart, and a message of no command
  locally : (what : Local) → (switch_input.Local what ≡ switch_input.Local local.Restart → ⊥) → ComesOf ports (latest_commands s) (acts_in s (switch_input.Local what) ++ acts) →
      Follows ports (switch_turn s (switch_input.Local what)).state (acts_in s (switch_input.Local what) ++ acts)
  locally what other comes = goes (switch_input.Local what) _ other (quiet (switch_input.Local what) (λ g. no_command g.asks) comes)
    where
      no_command : {c xid : ℕ} {said : Spoken} → switch_input.Local what ≡ switch_input.Of c xid said → ⊥
      no_command is = absurd cc

  pub turn_follows : (input : SwitchInput) → Follows ports (switch_turn s input).state (acts_then s input acts)
  turn_follows (switch_input.Local (local.Frame port frame)) = locally (local.Frame port frame) (λ is. absurd cc) (met (is_port_up s port && is_frame frame) (frame_fields_at port frame) (length frame))
  turn_follows (switch_input.Local (local.Port port up)) = locally (local.Port port up) (λ is. absurd cc) before.comes
  turn_follows (switch_input.Local local.Tick) = locally local.Tick (λ is. absurd cc) (ticked (is_last s.table))
  turn_follows (switch_input.Local local.Restart) = restarted
  turn_follows (switch_input.Local (local.Suspect view)) = locally (local.Suspect view) (λ is. absurd cc) before.comes
  turn_follows (switch_input.Local local.Crash) = locally local.Crash (λ is. absurd cc) before.comes
  turn_follows (switch_input.Of from xid (spoken.Plain m)) = goes (switch_input.Of from xid (spoken.Plain m)) [] (λ is. absurd cc) (quiet (switch_input.Of from xid (spoken.Plain m)) (λ g. let is = g.asks in absurd cc) before.comes)
  turn_follows (switch_input.Of from xid (spoken.Ravana (extension.Event life number what))) = said_follows from xid (extension.Event life number what) (λ g. let is = g.asks in absurd cc) (neither (nat_eq life (life_of s)))
  turn_follows (switch_input.Of from xid (spoken.Ravana (extension.EventAck life through))) = said_follows from xid (extension.EventAck life through) (λ g. let is = g.asks in absurd cc) (neither (nat_eq life (life_of s)))
  turn_follows (switch_input.Of from xid (spoken.Ravana (extension.CmdAck life number result))) = said_follows from xid (extension.CmdAck life number result) (λ g. let is = g.asks in absurd cc) (neither (nat_eq life (life_of s)))
  turn_follows (switch_input.Of from xid (spoken.Ravana (extension.Clear life through))) = said_follows from xid (extension.Clear life through) (λ g. let is = g.asks in absurd cc) (neither (nat_eq life (life_of s)))
  turn_follows (switch_input.Of from xid (spoken.Ravana (extension.Command life generation number through (order.FlowMod change)))) =
      goes _ _ (λ is. absurd cc) (change_comes from generation number through xid life change)
  turn_follows (switch_input.Of from xid (spoken.Ravana (extension.Command life generation number through (order.PacketOut out)))) =
      goes _ _ (λ is. absurd cc) (packet_comes from xid life generation number through out)
  turn_follows (switch_input.Malformed from kind code xid head) = goes (switch_input.Malformed from kind code xid head) [] (λ is. absurd cc) (quiet (switch_input.Malformed from kind code xid head) (λ g. let is = g.asks in absurd cc) before.comes)
  turn_follows (switch_input.Frame from port frame) = goes (switch_input.Frame from port frame) _ (λ is. absurd cc)
      (quiet (switch_input.Frame from port frame) (λ g. let is = g.asks in absurd cc) (met (is_port_up s port && is_frame frame) (frame_fields_at port frame) (length frame)))
