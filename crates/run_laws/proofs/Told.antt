-- What is told of a run can be spelled: events have good frames, what is carried out is issued for such events, and each row
-- is of what is carried out.
use Rattle.std.proofs.Common.{◌≡◌, ◌<◌, ◌≤◌, ℕ, ◌+◌, ◌&&◌, List, [], ◌∷◌, length, suc, refl, sym, subst, inl, inr, arith, le_trans}
use Rattle.std.specs.Prelude.{nat_eq, slice_get, slice_index_or, Option, Some, None}
use Rattle.std.specs.List.{AllByRecursion}
use Rattle.std.proofs.lemmas.Bool.{cond_both, eq-eqb}
use Rattle.of_types.specs.declared.message.Event.{Event}
use Rattle.of_types.specs.declared.message.Executed.{Executed}
use Rattle.of_types.specs.declared.message.FlowMod.{FlowMod}
use Rattle.of_types.specs.declared.message.Happening.{Happening}
use Rattle.of_types.specs.declared.message.Happening.TheVariants as happening
use Rattle.of_types.specs.declared.message.OfMessage.TheVariants as plain
use Rattle.of_types.specs.declared.message.Order.{Order}
use Rattle.of_types.specs.declared.message.Order.TheVariants as order
use Rattle.of_types.specs.declared.message.Row.{Row}
use Rattle.of_types.specs.declared.setup.Setup.{Setup}
use Rattle.of_types.specs.Setups.{IsSetup}
use Rattle.of_types.specs.Sizes.{match_size, instruction_size}
use Rattle.of_ravana.specs.Canonical.{happening_message, order_message}
use Rattle.journal.specs.declared.journal.Actor.TheVariants as actor
use Rattle.journal.specs.declared.journal.JournalEntry.{JournalEntry}
use Rattle.journal.specs.declared.journal.JournalEntry.TheVariants.{Post, Draw, Lose, Local, Idle, Refused}
use Rattle.journal.specs.declared.journal.Packet.{Packet}
use Rattle.journal.specs.declared.journal.SaveResult.{SaveResult}
use Rattle.journal.specs.Part.{part, drawn}
use Rattle.list_facts.proofs.Elements.{all_in, filter_has, in_append}
use Rattle.list_facts.proofs.Places.{get_in, in_get}
use Rattle.list_facts.specs.Lists.{IsIn}
use Rattle.vr_log.specs.declared.entry.Entry.{Entry}
use Rattle.vr_log.specs.declared.entry.Entry.TheVariants.{Received, Processed}
use Rattle.vr_log.specs.Log.{received}
use Rattle.app_core.specs.declared.issued.Issued.{Issued}
use Rattle.app_core.specs.Chain.{concat}
use Rattle.app_core.specs.Issued.{issues, orders_in}
use Rattle.flow_table.specs.Table.{opening_rows, row_of}
use Rattle.of_switch.specs.declared.says.SwitchInput.{SwitchInput}
use Rattle.of_switch.specs.declared.says.SwitchInput.TheVariants as switch_input
use Rattle.flow_clock.proofs.Remaining.{tick_rows}
use Rattle.of_switch.specs.State.{SwitchState, rows_of}
use Rattle.of_switch.specs.Rules.{switch_turn}
use Rattle.run_spec.specs.States.{Scene, SwitchAt, switch_at, switch_step, IsFaithful}
use Rattle.run_spec.specs.Legal.{IsPossible}
use Rattle.run_spec.specs.Committed.{switch_state, decided}
use Rattle.run_spec.proofs.Entries.{Mine, Another, switch_after}
use Rattle.run_spec.proofs.Pasts.{possible_before}
use Rattle.run_laws.specs.OnceLaws.Facts.{PastFacts, facts_of, executed_of}
use Rattle.run_laws.specs.OnceLaws.Truths.{IsGoodHappening, IsTrueEntry}
use Rattle.run_laws.specs.OnceLaws.Invariant.{SwitchIsSound}
use Rattle.run_laws.specs.OnceLaws.Premises.{AreControllers}
use Rattle.run_laws.proofs.OnceLaws.ControllerTurns.{received_at}
use Rattle.run_laws.proofs.OnceLaws.Executed.{holds_always, decided_true}
use Rattle.run_laws.proofs.OnceLaws.Packets.{happening_short}
use Rattle.app_core.specs.Orders.{IsSendable}
use Rattle.run_laws.proofs.OnceLaws.Spelling.{commands_of_sendable}
use Rattle.run_laws.proofs.OnceLaws.Switches.{event_at}
use Rattle.run_laws.specs.Laws.{InEveryRun}
use Rattle.run_laws.specs.Told.{IsSpellable, IsSpellableEvent, IsSpellableOrder, IsSpellableRow, IsSpellableEntry, IsSpellableRun}
use Rattle.run_laws.proofs.Laws.{sides_law}
use Rattle.run_laws.proofs.OnceLaws.TableRows.{all_changed}
use Rattle.run_laws.proofs.Rows.{Same, Aged, Opening, Changed, rows_after}

-- what happened with a good frame, and an order that fits a command
happening_spellable : (what : Happening) → IsGoodHappening what → IsSpellable (happening_message what)
happening_spellable (happening.PacketIn p) good = (tt, le_trans (happening_short (happening.PacketIn p) good) (omega arith))
happening_spellable (happening.PortStatus p) good = (tt, omega arith)
happening_spellable (happening.FlowRemoved r) good = (good, le_trans (happening_short (happening.FlowRemoved r) good) (omega arith))

order_spellable : (what : Order) → IsSendable what → IsSpellable (order_message what)
order_spellable (order.PacketOut out) h = (tt, le_trans h.1 (omega arith))
order_spellable (order.FlowMod change) h = (h.0, le_trans h.1 (omega arith))

-- an order that is issued is one of those issued for the event at some place
orders_among : (s life : ℕ) (all : List Issued) (what : Order) → IsIn what (orders_in s life all) → (y : Issued) × IsIn y all × (what ≡ y.order)
orders_among s life [] what h = absurd h
orders_among s life (y ∷ all) what h =
    cond_both (nat_eq y.switch s && nat_eq y.life life) (y.order ∷ orders_in s life all) (orders_in s life all) (λ (os : List Order). IsIn what os → (z : Issued) × IsIn z (y ∷ all) × (what ≡ z.order))
    (λ _ k. elim k [ inl e ↦ (y, inl refl, e) | inr m ↦ let r = orders_among s life all what m in (r.0, inr r.1, r.2) ])
    (λ _ k. let r = orders_among s life all what k in (r.0, inr r.1, r.2))
    h

place_among : {A : Type 0} (lists : List (List A)) (x : A) → IsIn x (concat lists) → (j : ℕ) × IsIn x (slice_index_or lists j [])
place_among [] x h = absurd h
place_among (xs ∷ lists) x h = elim (in_append x xs (concat lists) h) [ inl k ↦ (0, k) | inr k ↦ let r = place_among lists x k in (suc r.0, r.1) ]

-- where a command stands among those of its life
executed_at : (xs : List Executed) (x : Executed) → IsIn x xs → (i : ℕ) × (slice_get (executed_of x.life xs) i ≡ Some x)
executed_at xs x h = in_get (executed_of x.life xs) x (filter_has (λ (y : Executed). nat_eq y.life x.life) xs x h (eq-eqb x.life x.life refl))

-- what is carried out can be spelled, where the decided log has good events
order_issued : (kinds : List ℕ) (setup : Setup) → IsSetup setup → (f : PastFacts) (s : ℕ) (state : SwitchState) → ((e : Event) → IsIn e (received f.decided) → IsGoodHappening e.what) → SwitchIsSound kinds setup f s state →
    (x : Executed) → IsIn x state.executed → IsSpellableOrder x
order_issued kinds setup within f s state good sound x h =
    let at = executed_at state.executed x h in
    let all = issues kinds setup (received f.decided) in
    let y = orders_among s x.life (concat all) x.order (get_in (orders_in s x.life (concat all)) x.order at.0 (sound.issued x.life at.0 x at.1)) in
    let j = place_among all y.0 y.1 in
    subst (λ (what : Order). IsSpellable (order_message what)) (sym y.2) (order_spellable y.0.order (commands_of_sendable kinds setup within (received f.decided) good j.0 y.0 j.1))

-- events are of their switch
event_made : (kinds : List ℕ) (setup : Setup) (f : PastFacts) (s : ℕ) (state : SwitchState) → SwitchIsSound kinds setup f s state → (e : Event) → IsIn e state.events → IsSpellableEvent s e
event_made kinds setup f s state sound e h =
    let at = event_at state.events e h in
    record { switch_is = (sound.well.made e.life at.0 e at.1).1.switch_is; message = happening_spellable e.what (sound.good e h) }

entry_told : (kinds : List ℕ) (setup : Setup) (f : PastFacts) (i : ℕ) (e : Entry) → IsTrueEntry kinds setup f i e → IsSpellableEntry setup e
entry_told kinds setup f i (Received e) h = (h.there, happening_spellable e.what h.good)
entry_told kinds setup f i (Processed j) h = tt

-- ---- rows

abbrev AreSpellableRows : List Row → Type 0
AreSpellableRows rows = AllByRecursion (λ r. IsSpellableRow r) rows

few_actions : (actions : List ℕ) (size : ℕ) → 48 + size + instruction_size actions ≤ 65535 → length actions ≤ 4095
few_actions [] size h = omega arith
few_actions (output ∷ outputs) size h = omega (arith, h)

row_told : (change : FlowMod) → IsSpellable (plain.FlowMod change) → IsSpellableRow (row_of change)
row_told change h = record { matching = h.0; few = few_actions change.actions (match_size change.matching) h.1 }

opening_told : AreSpellableRows opening_rows
opening_told = (
  record {
    matching = record {
      eth_dst = tt;
      eth_src = tt;
      ipv4_src = tt;
      ipv4_dst = tt;
      proto = λ h. absurd (h refl);
      source = λ h. absurd (h refl);
      destination = λ h. absurd (h refl);
      tcp_source = λ h. absurd (h refl);
      tcp_destination = λ h. absurd (h refl);
      udp_source = λ h. absurd (h refl);
      udp_destination = λ h. absurd (h refl);
    };
    few = omega arith;
  },
  tt,
)

-- a turn after which each command that was carried out can be spelled
turn_rows : (s : SwitchState) (x : SwitchInput) → AreSpellableRows (rows_of s) → ((y : Executed) → IsIn y (switch_turn s x).state.executed → IsSpellableOrder y) → AreSpellableRows (rows_of (switch_turn s x).state)
turn_rows s x h orders =
    elim (rows_after s x) [
      | Same is ↦ subst (λ (l : List Row). AreSpellableRows l) (sym is) h
      | Aged is ↦ subst (λ (l : List Row). AreSpellableRows l) (sym is) (tick_rows (λ r. IsSpellableRow r) s.table h)
      | Opening is ↦ subst (λ (l : List Row). AreSpellableRows l) (sym is) opening_told
      | Changed change y among what is ↦
          let new = row_told change (subst (λ (o : Order). IsSpellable (order_message o)) what (orders y among)) in
          subst (λ (l : List Row). AreSpellableRows l) (sym is)
          (all_changed (λ r. IsSpellableRow r) (rows_of s) change h new (λ r k. record { matching = k.matching; few = new.few }))
    ]

-- a switch, before and after what may be its open input
abbrev HasSpellableRows : SwitchAt → Type 0
HasSpellableRows w = AreSpellableRows (rows_of w.now) × AreSpellableRows (rows_of w.before)

step_rows : {B : Type 0} (scene : Scene B) (w : SwitchAt) (e : JournalEntry B) (found : Option (Packet B)) → HasSpellableRows w →
    ((y : Executed) → IsIn y (switch_step scene w e found).now.executed → IsSpellableOrder y) → HasSpellableRows (switch_step scene w e found)
step_rows scene w (Draw a id keep) (Some p) h orders = (turn_rows w.now _ h.0 orders, h.0)
step_rows scene w (Draw a id keep) None h orders = h
step_rows scene w (Local a input) found h orders = (turn_rows w.now (switch_input.Local input) h.0 orders, h.0)
step_rows scene w (Post a first letters lost) found h orders = h
step_rows scene w (Refused a) found h orders = (h.1, h.1)
step_rows scene w (Lose a id) found h orders = h
step_rows scene w (Idle a) found h orders = h

module _ {B : Type 0} (scene : Scene B) (results : List (List SaveResult)) (faithful : IsFaithful scene.sealing) (sides : AreControllers scene results) where
  sound_now : (entries : List (JournalEntry B)) → IsPossible scene results entries → (s : ℕ) → s < length scene.setup.ports →
      SwitchIsSound scene.kinds scene.setup (facts_of scene results entries) s (switch_state scene s entries)
  sound_now entries possible s there = ((holds_always scene results faithful sides entries possible).switches s there).now

  orders_told : (entries : List (JournalEntry B)) → IsPossible scene results entries → (s : ℕ) → s < length scene.setup.ports →
      (x : Executed) → IsIn x (switch_state scene s entries).executed → IsSpellableOrder x
  orders_told entries possible s there =
      order_issued scene.kinds scene.setup sides.setup (facts_of scene results entries) s (switch_state scene s entries)
      (λ e k. let at = received_at (decided scene results entries) e k in ((decided_true scene results faithful sides entries possible).entries_true at.0 (Received e) at.1).good)
      (sound_now entries possible s there)

  rows_told : (entries : List (JournalEntry B)) → IsPossible scene results entries → (s : ℕ) → s < length scene.setup.ports → HasSpellableRows (switch_at scene s (part (actor.Switch s) entries))
  rows_told [] possible s there = (opening_told, opening_told)
  rows_told (e ∷ before) possible s there =
      let old = rows_told before (possible_before scene results e before possible) s there in
      elim (switch_after scene s e before) [
        | Mine same is ↦
            let orders = subst (λ (p : List (JournalEntry B × Option (Packet B))). (x : Executed) → IsIn x (switch_at scene s p).now.executed → IsSpellableOrder x) is (orders_told (e ∷ before) possible s there) in
            subst (λ (p : List (JournalEntry B × Option (Packet B))). HasSpellableRows (switch_at scene s p)) (sym is)
            (step_rows scene (switch_at scene s (part (actor.Switch s) before)) e (drawn e before) old orders)
        | Another other is ↦ subst (λ (p : List (JournalEntry B × Option (Packet B))). HasSpellableRows (switch_at scene s p)) (sym is) old
      ]

  all_told : (entries : List (JournalEntry B)) → IsPossible scene results entries → IsSpellableRun scene results entries
  all_told entries possible =
      record {
        switches = λ s there. record {
          events = all_in (λ e. IsSpellableEvent s e) (switch_state scene s entries).events
              (event_made scene.kinds scene.setup (facts_of scene results entries) s (switch_state scene s entries) (sound_now entries possible s there));
          executed = all_in (λ x. IsSpellableOrder x) (switch_state scene s entries).executed (orders_told entries possible s there);
          rows = (rows_told entries possible s there).0;
        };
        log = all_in (λ e. IsSpellableEntry scene.setup e) (decided scene results entries) (λ e k.
            let at = in_get (decided scene results entries) e k in
            entry_told scene.kinds scene.setup (facts_of scene results entries) at.0 e ((decided_true scene results faithful sides entries possible).entries_true at.0 e at.1));
      }

pub told_law : {B : Type 0} → InEveryRun B (λ scene results entries. IsSpellableRun scene results entries)
told_law scene results entries setup faithful possible = all_told scene results faithful (sides_law scene results setup faithful) entries possible
