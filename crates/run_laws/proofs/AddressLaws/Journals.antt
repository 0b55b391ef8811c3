-- After every possible past, what waits goes between actors of the setup, where the logs of the controllers had events of
-- its switches alone.
use Rattle.std.proofs.Common.{◌≡◌, ◌<◌, ℕ, ◌+◌, ◌-◌, Bool, true, false, List, [], ◌∷◌, length, drop, suc, refl, sym, subst}
use Rattle.std.specs.Prelude.{nat_eq, Option, Some, None, slice_index_or, if◌then◌else◌}
use Rattle.std.specs.List.{AllByRecursion}
use Rattle.std.proofs.lemmas.Bool.{eq-eqb}
use Rattle.std.proofs.lemmas.Option.{slice_get_within}
use Rattle.of_types.specs.declared.setup.Link.{Link}
use Rattle.of_types.specs.declared.setup.Setup.{Setup}
use Rattle.of_types.specs.Setups.{IsPort, IsSetup}
use Rattle.journal.specs.declared.journal.Actor.{Actor}
use Rattle.journal.specs.declared.journal.Actor.TheVariants as actor
use Rattle.journal.specs.declared.journal.JournalEntry.{JournalEntry}
use Rattle.journal.specs.declared.journal.JournalEntry.TheVariants.{Post, Draw, Lose, Local, Idle, Refused}
use Rattle.journal.specs.declared.journal.Letter.{Letter}
use Rattle.journal.specs.declared.journal.Packet.{Packet}
use Rattle.journal.specs.declared.journal.SaveResult.{SaveResult}
use Rattle.journal.specs.declared.journal.SaveResult.TheVariants.{Saved, KeptOld, KeptNew}
use Rattle.journal.specs.Actors.{same_actor, actor_of, IsActor, AreAddressed}
use Rattle.journal.specs.Part.{part, drawn}
use Rattle.journal.specs.Pool.{pool, numbered_letters, fitting}
use Rattle.journal.proofs.All.{all_append, all_map, all_filter, all_take, all_weaker, all_found}
use Rattle.of_switch.specs.State.{starting_switch, is_at}
use Rattle.of_switch.specs.Rules.{switch_turn}
use Rattle.of_switch.specs.declared.says.SwitchInput.{SwitchInput}
use Rattle.of_switch.specs.declared.says.SwitchInput.TheVariants as switch_input
use Rattle.group_controller.specs.declared.messages.ControllerInput.{ControllerInput}
use Rattle.group_controller.specs.declared.messages.ControllerInput.TheVariants as controller_input
use Rattle.group_controller.specs.State.{Work}
use Rattle.group_controller.specs.Rules.{controller_work}
use Rattle.run_spec.specs.declared.messages.Message.{Message}
use Rattle.run_spec.specs.declared.messages.Message.TheVariants as message
use Rattle.run_spec.specs.declared.messages.Unsealed.{Unsealed}
use Rattle.run_spec.specs.declared.messages.Unsealed.TheVariants as unsealed
use Rattle.run_spec.specs.States.{Scene, Sealing, content, switch_hears, controller_hears, SwitchAt, ControllerAt, switch_at, switch_step, switch_took, controller_at, controller_step, controller_took, controller_saved, sealed_letters, switch_message, controller_message}
use Rattle.run_spec.specs.Legal.{IsSoundSwitch, IsSoundController, IsPossible, results_of}
use Rattle.run_spec.specs.Committed.{controller_state}
use Rattle.run_spec.proofs.Pasts.{possible_before}
use Rattle.run_laws.specs.AddressLaws.Addresses.{AreOfSwitches, KnowsSwitches, KnowsControllers, IsToController, WritesToSwitch}
use Rattle.run_laws.specs.AddressLaws.Laws.{IsAddressedWork, JournalsAreAddressed}
use Rattle.run_laws.proofs.AddressLaws.Controllers.{down_knows, controllers_write}
use Rattle.run_laws.proofs.AddressLaws.Switches.{switches_write}

-- a packet goes between actors of a setup
abbrev pub GoesBetween : {B : Type 0} → Setup → Packet B → Type 0
GoesBetween setup p = IsActor setup p.from × IsActor setup p.to

-- a switch knows its setup, before and after what may be its open input, and owes letters to actors of it
pub record SwitchWrites (setup : Setup) (w : SwitchAt) : Type 0 where
  pub now : KnowsControllers setup w.now
  pub before : KnowsControllers setup w.before
  pub owed : AreAddressed setup w.owed

-- and so a controller
pub record ControllerWrites (setup : Setup) (w : ControllerAt) : Type 0 where
  pub now : KnowsSwitches setup w.now
  pub before : KnowsSwitches setup w.before
  pub owed : AreAddressed setup w.owed

pub record IsAddressed {B : Type 0} (scene : Scene B) (results : List (List SaveResult)) (entries : List (JournalEntry B)) : Type 0 where
  pub packets : AllByRecursion (λ p. GoesBetween scene.setup p) (pool entries)
  pub switches : (s : ℕ) → s < length scene.setup.ports → SwitchWrites scene.setup (switch_at scene s (part (actor.Switch s) entries))
  pub controllers : (c : ℕ) → c < scene.setup.controllers → ControllerWrites scene.setup (controller_at scene (results_of results c) c (part (actor.Controller c) entries))

-- what an actor hears comes from who sent it
heard_by_switch : (setup : Setup) (sender : Actor) (said : Unsealed) → IsActor setup sender → WritesToSwitch setup (switch_hears sender said)
heard_by_switch setup (actor.Controller c) (unsealed.Message (message.Of xid said)) there = there
heard_by_switch setup (actor.Switch s) (unsealed.Message (message.Frame port bytes)) there = tt
heard_by_switch setup (actor.Controller c) (unsealed.Malformed kind code xid head) there = there
heard_by_switch setup (actor.Switch s) (unsealed.Malformed kind code xid head) there = there
heard_by_switch setup (actor.Controller c) (unsealed.Message (message.Vr said)) there = there
heard_by_switch setup (actor.Controller c) (unsealed.Message (message.Frame port bytes)) there = there
heard_by_switch setup (actor.Switch s) (unsealed.Message (message.Of xid said)) there = there
heard_by_switch setup (actor.Switch s) (unsealed.Message (message.Vr said)) there = there

heard_by_controller : (setup : Setup) (sender : Actor) (said : Unsealed) → IsActor setup sender → IsToController setup (controller_hears sender said)
heard_by_controller setup (actor.Switch s) (unsealed.Message (message.Of xid said)) there = there
heard_by_controller setup (actor.Controller c) (unsealed.Message (message.Vr said)) there = tt
heard_by_controller setup (actor.Controller c) (unsealed.Malformed kind code xid head) there = tt
heard_by_controller setup (actor.Switch s) (unsealed.Malformed kind code xid head) there = tt
heard_by_controller setup (actor.Controller c) (unsealed.Message (message.Of xid said)) there = tt
heard_by_controller setup (actor.Controller c) (unsealed.Message (message.Frame port bytes)) there = tt
heard_by_controller setup (actor.Switch s) (unsealed.Message (message.Vr said)) there = tt
heard_by_controller setup (actor.Switch s) (unsealed.Message (message.Frame port bytes)) there = tt

-- sealing keeps to whom letters go
sealed_to : {A B : Type 0} (setup : Setup) (said : B → Message) (sealing : Sealing A) (letters : List (Letter B)) → AreAddressed setup letters → AreAddressed setup (sealed_letters said sealing letters)
sealed_to setup said sealing letters h = all_map _ (λ l. IsActor setup l.to) (λ l. IsActor setup l.to) (λ l there. there) letters h

numbered_go : {B : Type 0} (setup : Setup) (first : ℕ) (a : Actor) (letters : List (Letter B)) → IsActor setup a → AreAddressed setup letters → AllByRecursion (λ p. GoesBetween setup p) (numbered_letters first a letters)
numbered_go setup first a [] there h = tt
numbered_go setup first a (l ∷ letters) there (here, h) = ((there, here), numbered_go setup (first + 1) a letters there h)

-- a switch starts with the wires of its setup
port_of : (setup : Setup) (switch port : ℕ) → IsPort setup switch port → switch < length setup.ports
port_of setup switch port h = slice_get_within setup.ports switch h.1.0 h.1.1

starting_knows : (setup : Setup) (s : ℕ) → IsSetup setup → KnowsControllers setup (starting_switch s setup)
starting_knows setup s is =
    record {
      all = refl;
      links = all_filter (λ l. (l.switch < length setup.ports) × (l.peer < length setup.ports)) (is_at s) setup.links
          (all_weaker _ _ (λ (l : Link) h. (port_of setup l.switch l.port h.0, port_of setup l.peer l.peer_port h.1)) setup.links is.links);
      master = tt;
    }

module _ {B : Type 0} (scene : Scene B) where
  switch_takes : (w : SwitchAt) (x : SwitchInput) → SwitchWrites scene.setup w → WritesToSwitch scene.setup x → SwitchWrites scene.setup (switch_took w (switch_turn w.now x))
  switch_takes w x k there = let t = switches_write scene.setup w.now x k.now there in record { now = t.knows; before = k.now; owed = t.sends }

  switch_steps : (w : SwitchAt) (e : JournalEntry B) (found : Option (Packet B)) → SwitchWrites scene.setup w → ((p : Packet B) → found ≡ Some p → GoesBetween scene.setup p) →
      SwitchWrites scene.setup (switch_step scene w e found)
  switch_steps w (Draw a id keep) (Some p) k goes = switch_takes w _ k (heard_by_switch scene.setup p.from (content scene.sealing p) (goes p refl).0)
  switch_steps w (Draw a id keep) None k goes = record { now = k.now; before = k.before; owed = k.owed }
  switch_steps w (Local a input) p k goes = switch_takes w (switch_input.Local input) k tt
  switch_steps w (Post a first letters lost) p k goes = record { now = k.now; before = k.before; owed = tt }
  switch_steps w (Refused a) p k goes = record { now = k.before; before = k.before; owed = tt }
  switch_steps w (Lose a id) p k goes = record { now = k.now; before = k.before; owed = k.owed }
  switch_steps w (Idle a) p k goes = record { now = k.now; before = k.before; owed = k.owed }

  -- a controller whose log has events of the setup's switches alone
  abbrev WritesThen : ControllerAt → Type 0
  WritesThen w = AreOfSwitches scene.setup w.now.vr.log → ControllerWrites scene.setup w

  controller_saves : (w : ControllerAt) (work : Work) (promise life : ℕ) (result : SaveResult) → ControllerWrites scene.setup w →
      (AreOfSwitches scene.setup work.state.vr.log → IsAddressedWork scene.setup work) → WritesThen (controller_saved w work promise life result)
  controller_saves w work promise life Saved k good names = let t = good names in record { now = t.knows; before = k.now; owed = t.sends }
  controller_saves w work promise life KeptOld k good names = record { now = down_knows scene.kinds scene.setup w.now w.now.vr.promise w.now.vr.life k.now; before = k.now; owed = tt }
  controller_saves w work promise life KeptNew k good names = record { now = down_knows scene.kinds scene.setup w.now promise life k.now; before = k.now; owed = tt }

  took_by : (results : List SaveResult) (w : ControllerAt) (work : Work) → ControllerWrites scene.setup w → (AreOfSwitches scene.setup work.state.vr.log → IsAddressedWork scene.setup work) →
      (o : Option (ℕ × ℕ)) → WritesThen (elim o [
        | None ↦ record { now = work.state; before = w.now; owed = work.letters; fresh = true; saves = w.saves; saves_before = w.saves }
        | Some pair ↦ controller_saved w work pair.0 pair.1 (slice_index_or results w.saves Saved)
      ])
  took_by results w work k good None names = let t = good names in record { now = t.knows; before = k.now; owed = t.sends }
  took_by results w work k good (Some pair) names = controller_saves w work pair.0 pair.1 (slice_index_or results w.saves Saved) k good names

  controller_takes : (results : List SaveResult) (w : ControllerAt) (x : ControllerInput) → ControllerWrites scene.setup w → IsToController scene.setup x →
      WritesThen (controller_took results w (controller_work scene.kinds scene.setup w.now x))
  controller_takes results w x k there =
      let work = controller_work scene.kinds scene.setup w.now x in
      took_by results w work k (controllers_write scene.kinds scene.setup w.now x k.now there) work.save

  controller_steps : (results : List SaveResult) (w : ControllerAt) (e : JournalEntry B) (found : Option (Packet B)) → ControllerWrites scene.setup w →
      ((p : Packet B) → found ≡ Some p → GoesBetween scene.setup p) → WritesThen (controller_step scene results w e found)
  controller_steps results w (Draw a id keep) (Some p) k goes names =
      controller_takes results w (controller_hears p.from (content scene.sealing p)) k (heard_by_controller scene.setup p.from (content scene.sealing p) (goes p refl).0) names
  controller_steps results w (Draw a id keep) None k goes names = record { now = k.now; before = k.before; owed = k.owed }
  controller_steps results w (Local a input) p k goes names = controller_takes results w (controller_input.Local input) k tt names
  controller_steps results w (Post a first letters lost) p k goes names = record { now = k.now; before = k.before; owed = tt }
  controller_steps results w (Refused a) p k goes names =
      record { now = down_knows scene.kinds scene.setup w.before w.before.vr.promise w.before.vr.life k.before; before = k.before; owed = tt }
  controller_steps results w (Lose a id) p k goes names = record { now = k.now; before = k.before; owed = k.owed }
  controller_steps results w (Idle a) p k goes names = record { now = k.now; before = k.before; owed = k.owed }

  at_switch : (P : SwitchAt → Type 0) (s : ℕ) (b : Bool) (e : JournalEntry B) (before : List (JournalEntry B)) →
      P (switch_step scene (switch_at scene s (part (actor.Switch s) before)) e (drawn e before)) → P (switch_at scene s (part (actor.Switch s) before)) →
      P (switch_at scene s (if b then (e, drawn e before) ∷ part (actor.Switch s) before else part (actor.Switch s) before))
  at_switch P s true e before h k = h
  at_switch P s false e before h k = k

  at_controller : (P : ControllerAt → Type 0) (results : List SaveResult) (c : ℕ) (b : Bool) (e : JournalEntry B) (before : List (JournalEntry B)) →
      P (controller_step scene results (controller_at scene results c (part (actor.Controller c) before)) e (drawn e before)) → P (controller_at scene results c (part (actor.Controller c) before)) →
      P (controller_at scene results c (if b then (e, drawn e before) ∷ part (actor.Controller c) before else part (actor.Controller c) before))
  at_controller P results c true e before h k = h
  at_controller P results c false e before h k = k

  -- a draw finds a packet of the pool
  drawn_goes : (e : JournalEntry B) (before : List (JournalEntry B)) → AllByRecursion (λ p. GoesBetween scene.setup p) (pool before) → (p : Packet B) → drawn e before ≡ Some p → GoesBetween scene.setup p
  drawn_goes (Draw a id keep) before h p found = all_found (λ q. GoesBetween scene.setup q) (λ q. nat_eq q.id id) (pool before) p h found
  drawn_goes (Post a first letters lost) before h p found = absurd cc
  drawn_goes (Lose a id) before h p found = absurd cc
  drawn_goes (Local a input) before h p found = absurd cc
  drawn_goes (Idle a) before h p found = absurd cc
  drawn_goes (Refused a) before h p found = absurd cc

  module _ (results : List (List SaveResult)) where
    -- a post has what its actor owed
    posted_by_switch : (s first lost : ℕ) (letters : List (Letter B)) (before : List (JournalEntry B)) (b : Bool) → nat_eq s s ≡ b →
        IsSoundSwitch scene s (if b then (Post (actor.Switch s) first letters lost, None) ∷ part (actor.Switch s) before else part (actor.Switch s) before) →
        letters ≡ sealed_letters switch_message scene.sealing (switch_at scene s (part (actor.Switch s) before)).owed
    posted_by_switch s first lost letters before true same h = h.0.0
    posted_by_switch s first lost letters before false same h = let self = eq-eqb s s refl in absurd cc

    posted_by_controller : (c first lost : ℕ) (letters : List (Letter B)) (before : List (JournalEntry B)) (b : Bool) → nat_eq c c ≡ b →
        IsSoundController scene (results_of results c) c (if b then (Post (actor.Controller c) first letters lost, None) ∷ part (actor.Controller c) before else part (actor.Controller c) before) →
        letters ≡ sealed_letters controller_message scene.sealing (controller_at scene (results_of results c) c (part (actor.Controller c) before)).owed
    posted_by_controller c first lost letters before true same h = h.0.0
    posted_by_controller c first lost letters before false same h = let self = eq-eqb c c refl in absurd cc

    posted_to : (a : Actor) (first lost : ℕ) (letters : List (Letter B)) (before : List (JournalEntry B)) → IsActor scene.setup a →
        IsPossible scene results (Post a first letters lost ∷ before) → IsAddressed scene results before → AreAddressed scene.setup letters
    posted_to (actor.Switch s) first lost letters before there l k =
        let is = posted_by_switch s first lost letters before (nat_eq s s) refl (l.switches s there) in
        subst (λ (x : List (Letter B)). AreAddressed scene.setup x) (sym is) (sealed_to scene.setup switch_message scene.sealing _ (k.switches s there).owed)
    posted_to (actor.Controller c) first lost letters before there l k =
        let is = posted_by_controller c first lost letters before (nat_eq c c) refl (l.controllers c there) in
        subst (λ (x : List (Letter B)). AreAddressed scene.setup x) (sym is) (sealed_to scene.setup controller_message scene.sealing _ (k.controllers c there).owed)

    packets_go : (e : JournalEntry B) (before : List (JournalEntry B)) → IsPossible scene results (e ∷ before) → IsAddressed scene results before →
        AllByRecursion (λ p. GoesBetween scene.setup p) (pool (e ∷ before))
    packets_go (Post a first letters lost) before l k =
        all_append _ (pool before) (fitting first a letters lost) k.packets
        (all_take _ (length letters - lost) (numbered_letters first a letters) (numbered_go scene.setup first a letters l.named.0 (posted_to a first lost letters before l.named.0 l k)))
    packets_go (Draw a id true) before l k = k.packets
    packets_go (Draw a id false) before l k = all_filter _ _ (pool before) k.packets
    packets_go (Lose a id) before l k = all_filter _ _ (pool before) k.packets
    packets_go (Local a input) before l k = k.packets
    packets_go (Idle a) before l k = k.packets
    packets_go (Refused a) before l k = k.packets

    module _ (setup : IsSetup scene.setup) where
      pub all_addressed : (entries : List (JournalEntry B)) → IsPossible scene results entries →
          ((i c : ℕ) → c < scene.setup.controllers → AreOfSwitches scene.setup (controller_state scene results c (drop i entries)).vr.log) → IsAddressed scene results entries
      all_addressed [] l names =
          record {
            packets = tt;
            switches = λ s lt. let k = starting_knows scene.setup s setup in record { now = k; before = k; owed = tt };
            controllers = λ c lt. record {
              now = record { member = record { all = refl; me = lt; collected = tt }; confirmed = tt };
              before = record { member = record { all = refl; me = lt; collected = tt }; confirmed = tt };
              owed = tt;
            };
          }
      all_addressed (e ∷ before) l names =
          let k = all_addressed before (possible_before scene results e before l) (λ i. names (suc i)) in
          record {
            packets = packets_go e before l k;
            switches = λ s lt. at_switch (SwitchWrites scene.setup) s (same_actor (actor_of e) (actor.Switch s)) e before
                (switch_steps _ e (drawn e before) (k.switches s lt) (drawn_goes e before k.packets)) (k.switches s lt);
            controllers = λ c lt. at_controller WritesThen (results_of results c) c (same_actor (actor_of e) (actor.Controller c)) e before
                (controller_steps (results_of results c) _ e (drawn e before) (k.controllers c lt) (drawn_goes e before k.packets)) (λ h. k.controllers c lt) (names 0 c lt);
          }

pub journals_addressed : {B : Type 0} → JournalsAreAddressed B
journals_addressed scene results entries setup possible names =
    all_weaker _ (λ p. IsActor scene.setup p.to) (λ p h. h.1) (pool entries) (all_addressed scene results setup entries possible names).packets
