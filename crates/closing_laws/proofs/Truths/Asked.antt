-- Each generation that a switch has accepted, and each that a packet on its way to it asks for, is the view in which a
-- controller led as it posted the request.
use Rattle.std.proofs.Common.{◌≡◌, ◌⊎◌, ◌<◌, ℕ, inl, inr, true, false, List, [], ◌∷◌, ◌++◌, refl, sym, ◌∙◌, ap, subst}
use Rattle.std.specs.Prelude.{Option, Some, None, slice_index_or}
use Rattle.std.proofs.lemmas.Bool.{eq-eqb}
use Rattle.of_types.specs.Setups.{IsSetup}
use Rattle.of_types.specs.declared.message.OfMessage.TheVariants as plain
use Rattle.of_types.specs.declared.message.Spoken.{Spoken}
use Rattle.of_types.specs.declared.message.Spoken.TheVariants as spoken
use Rattle.of_types.specs.declared.numbers.TheConstants.{MASTER}
use Rattle.journal.specs.Actors.{same_actor, actor_of}
use Rattle.journal.specs.Orderly.{IsOrderly}
use Rattle.journal.specs.Part.{part, drawn}
use Rattle.journal.specs.Pool.{pool}
use Rattle.journal.specs.declared.journal.Actor.{Actor}
use Rattle.journal.specs.declared.journal.Actor.TheVariants as actor
use Rattle.journal.specs.declared.journal.JournalEntry.{JournalEntry}
use Rattle.journal.specs.declared.journal.JournalEntry.TheVariants.{Post, Draw, Lose, Local, Idle, Refused}
use Rattle.journal.specs.declared.journal.Letter.{Letter}
use Rattle.journal.specs.declared.journal.Packet.{Packet}
use Rattle.journal.specs.declared.journal.SaveResult.{SaveResult}
use Rattle.journal.specs.declared.journal.SaveResult.TheVariants.{Saved, KeptOld, KeptNew}
use Rattle.list_facts.specs.Lists.{IsIn}
use Rattle.list_facts.proofs.Elements.{all_of}
use Rattle.vr_log.specs.Members.{leads}
use Rattle.role_fence.specs.Fence.{Fence}
use Rattle.of_switch.specs.declared.says.SwitchInput.{SwitchInput}
use Rattle.of_switch.specs.declared.says.SwitchInput.TheVariants as switch_input
use Rattle.of_switch.specs.State.{SwitchState, SwitchTurn}
use Rattle.of_switch.specs.Rules.{switch_turn}
use Rattle.group_controller.specs.declared.messages.ControllerInput.{ControllerInput}
use Rattle.group_controller.specs.declared.messages.ControllerInput.TheVariants as controller_input
use Rattle.group_controller.specs.declared.messages.ControllerSays.{ControllerSays}
use Rattle.group_controller.specs.declared.messages.ControllerSays.TheVariants as controller_says
use Rattle.group_controller.specs.State.{Work}
use Rattle.group_controller.specs.Rules.{controller_work}
use Rattle.run_spec.specs.declared.messages.Message.{Message}
use Rattle.run_spec.specs.declared.messages.Message.TheVariants as message
use Rattle.run_spec.specs.declared.messages.Unsealed.{Unsealed}
use Rattle.run_spec.specs.declared.messages.Unsealed.TheVariants as unsealed
use Rattle.run_spec.specs.declared.messages.Way.{Way}
use Rattle.run_spec.specs.Messages.{IsValidMessage, FitsMessage, way_of, way_of_message}
use Rattle.run_spec.specs.States.{Scene, Sealing, ControllerAt, SwitchAt, IsFaithful, content, switch_hears, controller_hears, controller_message, controller_saved, controller_took, controller_at, switch_at, switch_step}
use Rattle.run_spec.specs.Legal.{IsPossible, results_of}
use Rattle.run_spec.specs.Committed.{controller_state}
use Rattle.run_spec.specs.Inputs.{IsHeardAt, By_draw, By_local}
use Rattle.run_spec.proofs.Entries.{Mine, Another, switch_after, SwitchGoes, Takes, Rests, Posts, Refuses, switch_goes}
use Rattle.run_spec.proofs.Pasts.{possible_before, from_some, self_controller}
use Rattle.run_spec.proofs.Pools.{one_actor, drawn_found, IsPosted, Was, New, pool_after}
use Rattle.run_laws.specs.OnceLaws.Facts.{facts_of}
use Rattle.run_laws.specs.OnceLaws.Invariant.{HoldsOfRun, ToSwitch, ToMember, IsHeardBySwitch}
use Rattle.run_laws.proofs.OnceLaws.Packets.{heard_by_switch, told_valid}
use Rattle.run_laws.proofs.OnceLaws.SwitchMoves.{Move, Raises, Says, Notes, Changes, Ages, Clears, Executes, Masters, Fences, Restarts, turn_keeps}
use Rattle.run_laws.proofs.RunAgreement.Pasts.{named, was_owed}
use Rattle.run_laws.proofs.Laws.{always}
use Rattle.closing_laws.proofs.Truths.Asking.{AsksBy, AskBy, turn_asks}

-- a request for a role
abbrev pub asks_for : ℕ → ℕ → Spoken
asks_for role generation = spoken.Plain (plain.RoleRequest role generation)

-- what a controller owes asks only where it leads
module _ {B : Type 0} (scene : Scene B) (results : List SaveResult) (c : ℕ) where
  abbrev OwesWell : ControllerAt → Type 0
  OwesWell w = AskBy w.now.vr w.owed

  took_asks : (w : ControllerAt) (work : Work) → AskBy work.state.vr work.letters → (q : Option (ℕ × ℕ)) → OwesWell (elim q [
    | None ↦ record { now = work.state; before = w.now; owed = work.letters; fresh = true; saves = w.saves; saves_before = w.saves }
    | Some pair ↦ controller_saved w work pair.0 pair.1 (slice_index_or results w.saves Saved)
  ])
  took_asks w work h None = h
  took_asks w work h (Some pair) = by (slice_index_or results w.saves Saved)
    where
      by : (x : SaveResult) → OwesWell (controller_saved w work pair.0 pair.1 x)
      by Saved = h
      by KeptOld = tt
      by KeptNew = tt

  takes : (w : ControllerAt) (x : ControllerInput) → OwesWell (controller_took results w (controller_work scene.kinds scene.setup w.now x))
  takes w x = took_asks w (controller_work scene.kinds scene.setup w.now x) (turn_asks scene.kinds scene.setup w.now x) (controller_work scene.kinds scene.setup w.now x).save

  pub owed_asks : (ps : List (JournalEntry B × Option (Packet B))) → OwesWell (controller_at scene results c ps)
  owed_asks [] = tt
  owed_asks ((Draw a id keep, Some p) ∷ ps) = takes (controller_at scene results c ps) (controller_hears p.from (content scene.sealing p))
  owed_asks ((Draw a id keep, None) ∷ ps) = owed_asks ps
  owed_asks ((Local a input, p) ∷ ps) = takes (controller_at scene results c ps) (controller_input.Local input)
  owed_asks ((Post a first letters lost, p) ∷ ps) = tt
  owed_asks ((Refused a, p) ∷ ps) = tt
  owed_asks ((Lose a id, p) ∷ ps) = owed_asks ps
  owed_asks ((Idle a, p) ∷ ps) = owed_asks ps

-- a switch accepts what it had accepted, or what it is asked
module _ (x : SwitchInput) (start : SwitchState) (master : (c xid role generation : ℕ) → x ≡ switch_input.Of c xid (asks_for role generation) → role ≡ MASTER) where
  abbrev Accepts : ℕ → Type 0
  Accepts generation = (start.fence.generation ≡ Some generation) ⊎ ((c : ℕ) × (xid : ℕ) × (role : ℕ) × (x ≡ switch_input.Of c xid (asks_for role generation)))

  abbrev AllAccepted : SwitchTurn → Type 0
  AllAccepted t = (generation : ℕ) → t.state.fence.generation ≡ Some generation → Accepts generation

  same_fence : (t t' : SwitchTurn) → t'.state.fence ≡ t.state.fence → AllAccepted t → AllAccepted t'
  same_fence t t' same h generation e = h generation (ap (λ (f : Fence). f.generation) (sym same) ∙ e)

  accepts_move : (t t' : SwitchTurn) → Move x t t' → AllAccepted t → AllAccepted t'
  accepts_move t t' (Raises what raised is) h = same_fence t t' (ap (λ (y : SwitchTurn). y.state.fence) is) h
  accepts_move t t' (Says ls all is) h = same_fence t t' (ap (λ (y : SwitchTurn). y.state.fence) is) h
  accepts_move t t' (Notes down sent outcomes dirty is) h = same_fence t t' (ap (λ (y : SwitchTurn). y.state.fence) is) h
  accepts_move t t' (Changes c xid life generation number through change asks is) h = same_fence t t' (ap (λ (y : SwitchTurn). y.state.fence) is) h
  accepts_move t t' (Ages table stay is) h = same_fence t t' (ap (λ (y : SwitchTurn). y.state.fence) is) h
  accepts_move t t' (Clears c xid life through asks own is) h = same_fence t t' (ap (λ (y : SwitchTurn). y.state.fence) is) h
  accepts_move t t' (Executes c xid life generation number through what result asks own may next is) h = same_fence t t' (ap (λ (y : SwitchTurn). y.state.fence) is) h
  accepts_move t t' (Masters c xid role generation asks is_master fresh first is) h = λ g e.
      let same : generation ≡ g = from_some generation g (sym (ap (λ (y : SwitchTurn). y.state.fence.generation) is) ∙ e) in
      inr (c, xid, role, asks ∙ ap (λ (k : ℕ). switch_input.Of c xid (asks_for role k)) same)
  accepts_move t t' (Fences c xid role generation fence asks otherwise first is) h =
      let no : true ≡ false = sym (eq-eqb role MASTER (master c xid role generation asks)) ∙ otherwise in absurd cc
  accepts_move t t' (Restarts asks further first is) h = λ g e. let no : None ≡ Some g = sym (ap (λ (y : SwitchTurn). y.state.fence.generation) is) ∙ e in absurd cc

  pub turn_accepts : AllAccepted (switch_turn start x)
  turn_accepts = turn_keeps x AllAccepted accepts_move start (λ g e. inl e)

-- what a switch hears from a controller
from_controller : (from : Actor) (u : Unsealed) (c xid : ℕ) (said : Spoken) → switch_hears from u ≡ switch_input.Of c xid said → (from ≡ actor.Controller c) × (u ≡ unsealed.Message (message.Of xid said))
from_controller (actor.Controller d) (unsealed.Message (message.Of yid m)) c xid said e =
    let who : d ≡ c = cc in
    let number : yid ≡ xid = cc in
    let what : m ≡ said = cc in
    (ap (λ (k : ℕ). actor.Controller k) who, ap (λ (k : ℕ). unsealed.Message (message.Of k m)) number ∙ ap (λ (k : Spoken). unsealed.Message (message.Of xid k)) what)
from_controller (actor.Controller d) (unsealed.Message (message.Vr m)) c xid said e = absurd cc
from_controller (actor.Controller d) (unsealed.Message (message.Frame port bytes)) c xid said e = absurd cc
from_controller (actor.Controller d) (unsealed.Malformed kind code yid head) c xid said e = absurd cc
from_controller (actor.Switch s) (unsealed.Message (message.Of yid m)) c xid said e = absurd cc
from_controller (actor.Switch s) (unsealed.Message (message.Vr m)) c xid said e = absurd cc
from_controller (actor.Switch s) (unsealed.Message (message.Frame port bytes)) c xid said e = absurd cc
from_controller (actor.Switch s) (unsealed.Malformed kind code yid head) c xid said e = absurd cc

-- a packet says what was sealed in it
read_as : {B : Type 0} (sealing : Sealing B) → IsFaithful sealing → (p : Packet B) (from to : Actor) (m : Message) → p.from ≡ from → p.to ≡ to → p.body ≡ sealing.sealed m → IsValidMessage m → FitsMessage m → way_of from to ≡ way_of_message m →
    content sealing p ≡ unsealed.Message m
read_as {B} sealing faithful p from to m f_is t_is b_is valid typed ways =
    ap (λ (a : Actor). sealing.spelled (way_of a p.to) p.body) f_is ∙ ap (λ (a : Actor). sealing.spelled (way_of from a) p.body) t_is ∙ ap (λ (b : B). sealing.spelled (way_of from to) b) b_is
    ∙ ap (λ (w : Way). sealing.spelled w (sealing.sealed m)) ways ∙ faithful m valid typed

-- a controller that led in this view has posted before
pub record WasLed {B : Type 0} (scene : Scene B) (results : List (List SaveResult)) (past : List (JournalEntry B)) (view : ℕ) : Type 0 where
  pub more : List (JournalEntry B)
  pub before : List (JournalEntry B)
  pub from : ℕ
  pub first : ℕ
  pub letters : List (Letter B)
  pub lost : ℕ
  pub past_is : past ≡ more ++ Post (actor.Controller from) first letters lost ∷ before
  pub there : from < scene.setup.controllers
  pub led : leads (controller_state scene results from before).vr ≡ true
  pub view_is : (controller_state scene results from before).vr.view ≡ view

module _ {B : Type 0} (scene : Scene B) (results : List (List SaveResult)) (setup : IsSetup scene.setup) (faithful : IsFaithful scene.sealing) where
  abbrev Led : List (JournalEntry B) → ℕ → Type 0
  Led past view = WasLed scene results past view

  led_more : (e : JournalEntry B) (past : List (JournalEntry B)) (view : ℕ) → Led past view → Led (e ∷ past) view
  led_more e past view w =
      record { more = e ∷ w.more; before = w.before; from = w.from; first = w.first; letters = w.letters; lost = w.lost; past_is = ap (λ (es : List (JournalEntry B)). e ∷ es) w.past_is; there = w.there; led = w.led; view_is = w.view_is }

  -- what stands in the pool, and what a switch has accepted
  abbrev AskedOf : List (JournalEntry B) → SwitchState → Type 0
  AskedOf past s = (generation : ℕ) → s.fence.generation ≡ Some generation → Led past generation

  pub record AreAsked (past : List (JournalEntry B)) : Type 0 where
    pub packets : (p : Packet B) → IsIn p (pool past) → (c xid role generation : ℕ) → p.from ≡ actor.Controller c → content scene.sealing p ≡ unsealed.Message (message.Of xid (asks_for role generation)) → Led past generation
    pub now : (s : ℕ) → AskedOf past (switch_at scene s (part (actor.Switch s) past)).now
    pub before : (s : ℕ) → AskedOf past (switch_at scene s (part (actor.Switch s) past)).before

  module _ (e : JournalEntry B) (before : List (JournalEntry B)) (legal : IsPossible scene results (e ∷ before)) (old : AreAsked before) where
    holds : HoldsOfRun scene results before
    holds = always scene results setup faithful before (possible_before scene results e before legal) 0

    -- a request that is new was owed by one that led
    new_asks : (c first lost : ℕ) (letters : List (Letter B)) (p : Packet B) → e ≡ Post (actor.Controller c) first letters lost → IsPosted (actor.Controller c) letters p →
        (xid role generation : ℕ) → content scene.sealing p ≡ unsealed.Message (message.Of xid (asks_for role generation)) → Led (e ∷ before) generation
    new_asks c first lost letters p is posted xid role generation says =
        let w = was_owed scene results e before legal c first letters lost p is posted in
        let there = named scene results e before legal c (ap (λ (y : JournalEntry B). same_actor (actor_of y) (actor.Controller c)) is ∙ self_controller c) in
        let at : ControllerAt = controller_at scene (results_of results c) c (part (actor.Controller c) before) in
        let asks : AsksBy at.now.vr w.letter.body = all_of (λ (l : Letter ControllerSays). AsksBy at.now.vr l.body) at.owed w.letter (owed_asks scene (results_of results c) c (part (actor.Controller c) before)) w.among in
        elim ((holds.controllers c there).owed w.letter w.among) [
          | ToSwitch s yid said l_is told ↦
              let reads = read_as scene.sealing faithful p (actor.Controller c) (actor.Switch s) (message.Of yid said) posted.from_is (w.to_is ∙ ap (λ (l : Letter ControllerSays). l.to) l_is)
              (w.body_is ∙ ap (λ (l : Letter ControllerSays). scene.sealing.sealed (controller_message l.body)) l_is) (told_valid scene.kinds scene.setup (facts_of scene results before) c s yid said told)
              (subst (λ (l : Letter ControllerSays). FitsMessage (controller_message l.body)) l_is w.typed) refl in
              let both : unsealed.Message (message.Of yid said) ≡ unsealed.Message (message.Of xid (asks_for role generation)) = sym reads ∙ says in
              let same : said ≡ asks_for role generation = cc in
              let mine : AsksBy at.now.vr (controller_says.Of yid (asks_for role generation)) =
              subst (λ (m : Spoken). AsksBy at.now.vr (controller_says.Of yid m)) same (subst (λ (l : Letter ControllerSays). AsksBy at.now.vr l.body) l_is asks) in
              record { more = []; before = before; from = c; first = first; letters = letters; lost = lost; past_is = ap (λ (y : JournalEntry B). y ∷ before) is; there = there; led = mine.0; view_is = mine.1 }
          | ToMember d m l_is true_m ↦
              let reads = read_as scene.sealing faithful p (actor.Controller c) (actor.Controller d) (message.Vr m) posted.from_is (w.to_is ∙ ap (λ (l : Letter ControllerSays). l.to) l_is)
              (w.body_is ∙ ap (λ (l : Letter ControllerSays). scene.sealing.sealed (controller_message l.body)) l_is) true_m.spelled
              (subst (λ (l : Letter ControllerSays). FitsMessage (controller_message l.body)) l_is w.typed) refl in
              let both : unsealed.Message (message.Vr m) ≡ unsealed.Message (message.Of xid (asks_for role generation)) = sym reads ∙ says in absurd cc
        ]

    packets_after : (p : Packet B) → IsIn p (pool (e ∷ before)) → (c xid role generation : ℕ) → p.from ≡ actor.Controller c → content scene.sealing p ≡ unsealed.Message (message.Of xid (asks_for role generation)) → Led (e ∷ before) generation
    packets_after p among c xid role generation from says = elim (pool_after e before p among) [
      | Was was ↦ led_more e before generation (old.packets p was c xid role generation from says)
      | New a first letters lost is posted ↦
          let who : a ≡ actor.Controller c = sym posted.from_is ∙ from in
          new_asks c first lost letters p (subst (λ (b : Actor). e ≡ Post b first letters lost) who is) (subst (λ (b : Actor). IsPosted b letters p) who posted) xid role generation says
    ]

    -- a request that a switch hears is for a master, and stood in the pool
    hears_asked : (s : ℕ) (x : SwitchInput) → same_actor (actor_of e) (actor.Switch s) ≡ true → IsHeardAt scene e (drawn e before) x → (c xid role generation : ℕ) → x ≡ switch_input.Of c xid (asks_for role generation) →
        (role ≡ MASTER) × Led before generation
    hears_asked s x same (By_draw a id keep p is found hears) c xid role generation asks =
        let r = drawn_found scene.sealing.size a id keep before (subst (λ (y : JournalEntry B). IsOrderly scene.sealing.size (y ∷ before)) is legal.orderly) in
        let it : r.packet ≡ p = from_some r.packet p (sym r.found ∙ ap (λ (y : JournalEntry B). drawn y before) (sym is) ∙ found) in
        let mine : a ≡ actor.Switch s = one_actor a (actor.Switch s) (ap (λ (y : JournalEntry B). same_actor (actor_of y) (actor.Switch s)) (sym is) ∙ same) in
        let goes : p.to ≡ actor.Switch s = ap (λ (y : Packet B). y.to) (sym it) ∙ r.goes_to ∙ mine in
        let among : IsIn p (pool before) = subst (λ (y : Packet B). IsIn y (pool before)) it r.among in
        let says = from_controller p.from (content scene.sealing p) c xid (asks_for role generation) (sym hears ∙ asks) in
        let told = heard_by_switch scene.kinds scene.setup (facts_of scene results before) s p.from p.to (content scene.sealing p) goes (holds.packets p among) in
        let heard = subst (λ (y : SwitchInput). IsHeardBySwitch scene.kinds scene.setup (facts_of scene results before) s y) (sym hears ∙ asks) told in
        (heard.0, old.packets p among c xid role generation says.0 says.1)
    hears_asked s x same (By_local a input is hears) c xid role generation asks =
        let no : switch_input.Local input ≡ switch_input.Of c xid (asks_for role generation) = sym hears ∙ asks in absurd cc

    abbrev BothAsked : List (JournalEntry B) → SwitchAt → Type 0
    BothAsked past w = AskedOf past w.now × AskedOf past w.before

    both_more : (w : SwitchAt) → BothAsked before w → BothAsked (e ∷ before) w
    both_more w h = ((λ g is. led_more e before g (h.0 g is)), (λ g is. led_more e before g (h.1 g is)))

    switch_goes_asked : (s : ℕ) (w w' : SwitchAt) → same_actor (actor_of e) (actor.Switch s) ≡ true → SwitchGoes scene e (drawn e before) w w' → BothAsked before w → BothAsked (e ∷ before) w'
    switch_goes_asked s w w' same (Takes x heard step) h =
        subst (λ (v : SwitchAt). BothAsked (e ∷ before) v) (sym step) (
          λ g is. elim (turn_accepts x w.now (λ c xid role generation asks. (hears_asked s x same heard c xid role generation asks).0) g is) [
            | inl had ↦ led_more e before g (h.0 g had)
            | inr new ↦ led_more e before g (hears_asked s x same heard new.0 new.1 new.2 g new.3).1
          ],
          λ g is. led_more e before g (h.0 g is),
        )
    switch_goes_asked s w w' same (Rests step) h = subst (λ (v : SwitchAt). BothAsked (e ∷ before) v) (sym step) (both_more w h)
    switch_goes_asked s w w' same (Posts step) h = subst (λ (v : SwitchAt). BothAsked (e ∷ before) v) (sym step) (both_more w h)
    switch_goes_asked s w w' same (Refuses a refuses step) h = let m = both_more w h in subst (λ (v : SwitchAt). BothAsked (e ∷ before) v) (sym step) (m.1, m.1)

    both_after : (s : ℕ) → BothAsked (e ∷ before) (switch_at scene s (part (actor.Switch s) (e ∷ before)))
    both_after s =
        let w : SwitchAt = switch_at scene s (part (actor.Switch s) before) in
        let h : BothAsked before w = (old.now s, old.before s) in
        elim (switch_after scene s e before) [
          | Mine same is ↦
              subst (λ (ps : List (JournalEntry B × Option (Packet B))). BothAsked (e ∷ before) (switch_at scene s ps)) (sym is)
              (switch_goes_asked s w (switch_step scene w e (drawn e before)) same (switch_goes scene w e (drawn e before)) h)
          | Another other is ↦ subst (λ (ps : List (JournalEntry B × Option (Packet B))). BothAsked (e ∷ before) (switch_at scene s ps)) (sym is) (both_more w h)
        ]

    asked_after : AreAsked (e ∷ before)
    asked_after = record { packets = packets_after; now = λ s. (both_after s).0; before = λ s. (both_after s).1 }

  pub all_asked : (past : List (JournalEntry B)) → IsPossible scene results past → AreAsked past
  all_asked [] legal = record { packets = λ p among. absurd among; now = λ s g is. absurd cc; before = λ s g is. absurd cc }
  all_asked (e ∷ before) legal = asked_after e before legal (all_asked before (possible_before scene results e before legal))
