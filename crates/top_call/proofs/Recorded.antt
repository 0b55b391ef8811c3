-- What is told of a run is a record, and no other record has its text.
use Rattle.std.proofs.Common.{◌≡◌, ◌≤◌, ◌<◌, ℕ, suc, ◌+◌, Bool, true, false, List, [], ◌∷◌, ◌++◌, length, map, reverse, refl, sym, ◌∙◌, ap, subst, arith}
use Rattle.std.specs.Prelude.{◌/◌, ◌%◌, nat_lt, slice_get, Some, if◌then◌else◌}
use Rattle.std.specs.List.{AllByRecursion}
use Rattle.std.proofs.lemmas.List.{length-map, reverse-append, reverse-reverse}
use Rattle.std.proofs.lemmas.Option.{slice_get_within}
use Rattle.of_types.specs.declared.message.Event.{Event}
use Rattle.of_types.specs.declared.message.Executed.{Executed}
use Rattle.of_types.specs.declared.message.Happening.{Happening}
use Rattle.of_types.specs.declared.message.Happening.TheVariants as happening
use Rattle.of_types.specs.declared.message.Order.{Order}
use Rattle.of_types.specs.declared.message.Order.TheVariants as order
use Rattle.of_types.specs.declared.message.Row.{Row}
use Rattle.of_types.specs.declared.setup.Setup.{Setup}
use Rattle.of_types.specs.Setups.{IsSetup}
use Rattle.of_types.specs.Sizes.{happening_size, order_size, plain_size}
use Rattle.of_types.specs.Valid.{IsValidHappening, IsValidOrder}
use Rattle.of_ravana.specs.Canonical.{happening_message, order_message}
use Rattle.journal.specs.declared.journal.JournalEntry.{JournalEntry}
use Rattle.journal.specs.declared.journal.JournalEntry.TheVariants.{Post, Draw, Lose, Local, Idle, Refused}
use Rattle.journal.specs.declared.journal.Packet.{Packet}
use Rattle.journal.specs.declared.journal.SaveResult.{SaveResult}
use Rattle.journal.specs.declared.journal.Turn.{Turn}
use Rattle.journal.specs.Pool.{past, pool}
use Rattle.journal.proofs.All.{all_append, all_map, all_weaker}
use Rattle.vr_log.specs.declared.entry.Entry.{Entry}
use Rattle.vr_log.specs.declared.entry.Entry.TheVariants.{Received, Processed}
use Rattle.vr_log.specs.Sizes.{IsValidEntry}
use Rattle.of_switch.specs.State.{SwitchState, rows_of}
use Rattle.group_controller.specs.State.{ControllerState}
use Rattle.run_spec.specs.Committed.{decided, members_up, states_of, switch_state}
use Rattle.run_spec.specs.Script.{TakesInOrder}
use Rattle.run_spec.specs.Closing.{ClosingAnswer, Closes, ClosesTo, Draining, Ends, IsMove, Losing, Met, ClosingMove, Phase, Suspecting, NoQuorum, Takes, after_move, closing_view, drained, is_drawn, majority, next_drained, next_lost, next_move, next_suspicion, next_view, quorum_of}
use Rattle.run_spec.specs.States.{Scene}
use Rattle.journal.specs.declared.journal.Actor.{Actor}
use Rattle.journal.specs.Actors.{actor_of, IsActor}
use Rattle.running.specs.Apart.{IsStepAt, TakesOwn, inputs_of, steps_of}
use Rattle.playing.specs.Manners.{Manner, In_order, Apart, FollowsManner}
use Rattle.playing.proofs.Stopping.{same_self}
use Rattle.run_spec.proofs.Pasts.{from_some}
use Rattle.run_laws.specs.Told.{IsSpellable, IsSpellableEntry, IsSpellableEvent, IsSpellableOrder, IsSpellableRow, IsSpellableRun, IsSpellableSwitch}
use Rattle.world.specs.World.{Worlding}
use Rattle.report.specs.declared.record.Record.{Record}
use Rattle.report.specs.Fits.{FitsEntry, FitsRecord}
use Rattle.report.specs.Writable.{AreWritable, HasLine, IsWritable, IsWritableEvent, IsWritableExecuted, IsWritableRow, IsWritableTold}
use Rattle.report.proofs.Writable.{is_record}
use Rattle.report.proofs.RecordAgain.{one_record as one_text}
use Rattle.world_record.specs.Shows.{committed_at, shown_row, told_by, told_of}
use Rattle.top_call.specs.declared.sim.Output.{Output}
use Rattle.top_call.specs.declared.sim.Output.TheVariants.{Report, LastLine}
use Rattle.top_call.specs.Play.{IfReport, told_text}
use Rattle.top_call.specs.Runs.{IsOneRecord}

-- a record whose journal stands apart
pub whole_fits : (bare : Record) (journal : List (JournalEntry (List ℕ))) → FitsRecord bare → AllByRecursion FitsEntry journal → FitsRecord (record bare { journal = journal })
whole_fits bare journal f j =
    record { rules = f.rules; journal_is = j; few_entries = f.few_entries; log = f.log; told = f.told; script = f.script; closing_is = f.closing_is }

-- ---- each entry has a line

all_reversed : {X : Type 0} (P : X → Type 0) (xs : List X) → AllByRecursion P xs → AllByRecursion P (reverse xs)
all_reversed P [] all = tt
all_reversed {X = X} P (x ∷ xs) all = subst (λ (l : List X). AllByRecursion P l) (sym (reverse-append (x ∷ []) xs)) (all_append P (reverse xs) (x ∷ []) (all_reversed P xs all.1) (all.0, tt))

-- the entries of a script
script_lines : (scene : Scene (List ℕ)) (results : List (List SaveResult)) (steps : List Turn) (entries : List (JournalEntry (List ℕ))) → TakesInOrder scene results steps entries → AllByRecursion HasLine entries
script_lines scene results steps [] takes = tt
script_lines scene results steps (Post a first letters lost ∷ before) takes = (tt, script_lines scene results steps before takes.2)
script_lines scene results steps (Draw a id keep ∷ before) takes = (tt, script_lines scene results steps before takes.2)
script_lines scene results steps (Lose a id ∷ before) takes = (tt, script_lines scene results steps before takes.2)
script_lines scene results steps (Local a input ∷ before) takes = (tt, script_lines scene results steps before takes.2)
script_lines scene results steps (Idle a ∷ before) takes = (tt, script_lines scene results steps before takes.2)
script_lines scene results steps (Refused a ∷ before) takes = absurd takes.0

-- and those of a script whose actors played apart: each is a step of its actor, or a post
step_line : (a : Actor) (steps : List Turn) (e : JournalEntry (List ℕ)) (before : List (JournalEntry (List ℕ))) → IsStepAt (steps_of a steps) (inputs_of a before) e before → HasLine e
step_line a steps (Post b first letters lost) before is = tt
step_line a steps (Draw b id keep) before is = tt
step_line a steps (Lose b id) before is = tt
step_line a steps (Local b input) before is = tt
step_line a steps (Idle b) before is = tt
step_line a steps (Refused b) before is = absurd is

apart_lines : (setup : Setup) (steps : List Turn) (entries : List (JournalEntry (List ℕ))) → AllByRecursion (λ e. IsActor setup (actor_of e)) entries → ((a : Actor) → IsActor setup a → TakesOwn a steps entries) →
    AllByRecursion HasLine entries
apart_lines setup steps [] named takes = tt
apart_lines setup steps (e ∷ before) named takes =
    (step_line (actor_of e) steps e before ((takes (actor_of e) named.0).0 (same_self (actor_of e))), apart_lines setup steps before named.1 (λ a there. (takes a there).1))

all_behind : {X : Type 0} (P : X → Type 0) (xs ys : List X) → AllByRecursion P (xs ++ ys) → AllByRecursion P ys
all_behind P [] ys all = all
all_behind P (x ∷ xs) ys all = all_behind P xs ys all.1

-- of a script that was done in either manner, before what came later
pub follow_lines : (manner : Manner) (scene : Scene (List ℕ)) (results : List (List SaveResult)) (steps : List Turn) (later entries : List (JournalEntry (List ℕ))) → AllByRecursion (λ e. IsActor scene.setup (actor_of e)) (later ++ entries) →
    FollowsManner manner scene results steps entries → AllByRecursion HasLine entries
follow_lines In_order scene results steps later entries named follows = script_lines scene results steps entries follows.takes
follow_lines Apart scene results steps later entries named follows =
    apart_lines scene.setup steps entries (all_behind (λ e. IsActor scene.setup (actor_of e)) later entries named) (λ a there. (follows a there).takes)

-- what comes next in a closing has a line
abbrev HasMoveLine : ClosingMove (List ℕ) → Type 0
HasMoveLine (Takes e next) = HasLine e
HasMoveLine (Ends answer) = Unit {0}

drain_line : (quorum : List ℕ) (p : Packet (List ℕ)) → HasLine (drained quorum p)
drain_line quorum p = by_choice (is_drawn quorum p.from p.to)
  where
    by_choice : (b : Bool) → HasLine (if b then Draw p.to p.id false else Lose p.to p.id)
    by_choice true = tt
    by_choice false = tt

drained_line : (group view : ℕ) (quorum : List ℕ) (ps : List (Packet (List ℕ))) → HasMoveLine (next_drained group view quorum ps)
drained_line group view quorum [] = tt
drained_line group view quorum (p ∷ ps) = drain_line quorum p

suspicion_line : (group view : ℕ) (quorum members : List ℕ) (ps : List (Packet (List ℕ))) → HasMoveLine (next_suspicion group view quorum members ps)
suspicion_line group view quorum (m ∷ members) ps = tt
suspicion_line group view quorum [] ps = drained_line group view quorum ps

sized_line : (few : Bool) (up group view : ℕ) (quorum : List ℕ) → HasMoveLine (if few then Ends (NoQuorum up (majority group)) else next_suspicion group view quorum quorum [])
sized_line true up group view quorum = tt
sized_line false up group view quorum = suspicion_line group view quorum quorum []

view_line : (group : ℕ) (states : List ControllerState) → HasMoveLine (next_view group states)
view_line group states =
    sized_line (nat_lt (length (members_up states)) (majority group)) (length (members_up states)) group (closing_view states group)
    (quorum_of (closing_view states group % group) (group / 2) (members_up states))

lost_line : (group : ℕ) (states : List ControllerState) (ps : List (Packet (List ℕ))) → HasMoveLine (next_lost group states ps)
lost_line group states [] = view_line group states
lost_line group states (p ∷ ps) = tt

move_line : (scene : Scene (List ℕ)) (results : List (List SaveResult)) (phase : Phase) (entries : List (JournalEntry (List ℕ))) → HasMoveLine (next_move scene results phase entries)
move_line scene results Losing entries = lost_line scene.setup.controllers (states_of scene results entries) (pool entries)
move_line scene results (Suspecting view quorum members) entries = suspicion_line scene.setup.controllers view quorum members (pool entries)
move_line scene results (Draining view quorum) entries = drained_line scene.setup.controllers view quorum (pool entries)
move_line scene results (Met limit) entries = tt

taken_line : (move : ClosingMove (List ℕ)) (e : JournalEntry (List ℕ)) (next : Phase) → HasMoveLine move → IsMove move e next → HasLine e
taken_line (Takes f phase) e next line is = subst (λ (x : JournalEntry (List ℕ)). HasLine x) (sym is.0) line
taken_line (Ends answer) e next line is = absurd is

closing_lines : (scene : Scene (List ℕ)) (results : List (List SaveResult)) (phase : Phase) (before rest : List (JournalEntry (List ℕ))) (last : Phase) → ClosesTo scene results phase before rest last → AllByRecursion HasLine rest
closing_lines scene results phase before [] last closes = tt
closing_lines scene results phase before (Post a first letters lost ∷ rest) last closes = (tt, closing_lines scene results phase (Post a first letters lost ∷ before) rest last closes.1)
closing_lines scene results phase before (Draw a id keep ∷ rest) last closes = (tt, closing_lines scene results (after_move scene results (Draw a id keep) before closes.1.0) (Draw a id keep ∷ before) rest last closes.1.2)
closing_lines scene results phase before (Lose a id ∷ rest) last closes = (tt, closing_lines scene results (after_move scene results (Lose a id) before closes.1.0) (Lose a id ∷ before) rest last closes.1.2)
closing_lines scene results phase before (Local a input ∷ rest) last closes = (tt, closing_lines scene results (after_move scene results (Local a input) before closes.1.0) (Local a input ∷ before) rest last closes.1.2)
closing_lines scene results phase before (Idle a ∷ rest) last closes = (tt, closing_lines scene results (after_move scene results (Idle a) before closes.1.0) (Idle a ∷ before) rest last closes.1.2)
closing_lines scene results phase before (Refused a ∷ rest) last closes = absurd (taken_line (next_move scene results phase before) (Refused a) closes.1.0 (move_line scene results phase before) closes.1.1)

-- ---- each message can be spelled

happening_fits : (what : Happening) → plain_size (happening_message what) ≤ 65535 → happening_size what ≤ 65535
happening_fits (happening.PacketIn p) small = small
happening_fits (happening.FlowRemoved r) small = small
happening_fits (happening.PortStatus p) small = small

happening_valid : (what : Happening) → IsSpellable (happening_message what) → IsValidHappening what
happening_valid (happening.PacketIn p) h = tt
happening_valid (happening.FlowRemoved r) h = h.0
happening_valid (happening.PortStatus p) h = tt

event_writable : (s : ℕ) (e : Event) → IsSpellableEvent s e → IsWritableEvent s e
event_writable s e h = record { of = h.switch_is; valid = happening_valid e.what h.message; small = happening_fits e.what h.message.1 }

order_writable : (what : Order) → plain_size (order_message what) ≤ 65535 → order_size what ≤ 65535
order_writable (order.FlowMod change) small = small
order_writable (order.PacketOut out) small = small

valid_order : (x : Executed) → IsSpellableOrder x → IsValidOrder x.order
valid_order x h = by_order x.order h
  where
    by_order : (what : Order) → IsSpellable (order_message what) → IsValidOrder what
    by_order (order.FlowMod change) k = k.0
    by_order (order.PacketOut out) k = tt

executed_writable : (x : Executed) → IsSpellableOrder x → IsWritableExecuted x
executed_writable x h = record { valid = valid_order x h; small = order_writable x.order h.1 }

row_writable : (r : Row) → IsSpellableRow r → IsWritableRow (shown_row r)
row_writable r h = record { matching = h.matching; few = h.few }

switch_writable : (s : ℕ) (state : SwitchState) → IsSpellableSwitch s state → IsWritableTold s (told_of state)
switch_writable s state h = record {
  events = all_weaker (λ e. IsSpellableEvent s e) (λ e. IsWritableEvent s e) (λ e k. event_writable s e k) state.events h.events;
  executed = all_weaker (λ x. IsSpellableOrder x) (λ x. IsWritableExecuted x) (λ x k. executed_writable x k) state.executed h.executed;
  rows = all_map (λ r. shown_row r) (λ r. IsSpellableRow r) (λ r. IsWritableRow r) (λ r k. row_writable r k) (rows_of state) h.rows;
}

-- by number, from one on
switches_writable : (states : List SwitchState) (from : ℕ) → ((i : ℕ) (x : SwitchState) → slice_get states i ≡ Some x → IsWritableTold (from + i) (told_of x)) → AreWritable from (map told_of states)
switches_writable [] from each = tt
switches_writable (x ∷ states) from each =
    let here : from + 0 ≡ from = omega arith in (
      subst (λ (n : ℕ). IsWritableTold n (told_of x)) here (each 0 x refl),
      switches_writable states (from + 1) (λ i y found. let next : from + suc i ≡ from + 1 + i = omega arith in subst (λ (n : ℕ). IsWritableTold n (told_of y)) next (each (suc i) y found)),
    )

entry_valid : (setup : Setup) (e : Entry) → IsSpellableEntry setup e → IsValidEntry e
entry_valid setup (Received e) h = (happening_fits e.what h.1.1, happening_valid e.what h.1)
entry_valid setup (Processed j) h = tt

module _ {A : Type 0} (scene : Scene (List ℕ)) (results : List (List SaveResult)) (front rest : List (JournalEntry (List ℕ))) (answer : ClosingAnswer) (w : Worlding (List ℕ) A) (primary : ℕ) where
  pub told_writable : IsSetup w.setup → w.setup ≡ scene.setup → w.journal ≡ front ++ rest → AllByRecursion HasLine (past front) → Closes scene results (past front) rest answer →
      length w.switches ≡ length scene.setup.ports → ((s : ℕ) → s < length scene.setup.ports → slice_get w.switches s ≡ Some (switch_state scene s (past w.journal))) →
      decided scene results (past w.journal) ≡ committed_at w.controllers primary → IsSpellableRun scene results (past w.journal) → (count closing : ℕ) → IsWritable (told_by w primary count closing)
  told_writable is_setup setup_is joined lines closes count_is switches decided_is law count closing = record {
    setup = is_setup;
    journal_is = subst (λ (l : List (JournalEntry (List ℕ))). AllByRecursion HasLine l) (sym joined)
        (all_append HasLine front rest
        (subst (λ (l : List (JournalEntry (List ℕ))). AllByRecursion HasLine l) (reverse-reverse front) (all_reversed HasLine (past front) lines))
        (closing_lines scene results Losing (past front) rest closes.last closes.steps));
    log = all_weaker (λ e. IsSpellableEntry scene.setup e) (λ e. IsValidEntry e) (λ e h. entry_valid scene.setup e h) (committed_at w.controllers primary) (subst (λ (l : List Entry). AllByRecursion (λ e. IsSpellableEntry scene.setup e) l) decided_is law.log);
    switches = length-map w.switches told_of ∙ count_is ∙ ap (λ (s : Setup). length s.ports) (sym setup_is);
    told = switches_writable w.switches 0 told_at;
  }
    where
      told_at : (i : ℕ) (x : SwitchState) → slice_get w.switches i ≡ Some x → IsWritableTold (0 + i) (told_of x)
      told_at i x found =
          let within = slice_get_within w.switches i x found in
          let there : i < length scene.setup.ports = omega (arith, within, count_is) in
          let same : switch_state scene i (past w.journal) ≡ x = from_some (switch_state scene i (past w.journal)) x (sym (switches i there) ∙ found) in
          let number : i ≡ 0 + i = omega arith in
          subst (λ (n : ℕ). IsWritableTold n (told_of x)) number (switch_writable i x (subst (λ (s : SwitchState). IsSpellableSwitch i s) same (law.switches i there)))

-- ---- the one record

pub one_record : (output : Output) (told : Record) (written : List ℕ) → written ≡ told_text output told → IfReport output (FitsRecord told) → IsWritable told → IsOneRecord output told written
one_record Report told written wrote fits writable =
    let is = is_record told fits writable in
    (is, λ other record_is same. one_text other told record_is is (same ∙ wrote))
one_record LastLine told written wrote fits writable = tt
