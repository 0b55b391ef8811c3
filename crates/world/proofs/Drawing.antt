-- What a step of a world comes to: a draw, a loss and a local input.
use Rattle.std.proofs.Common.{◌≡◌, ◌<◌, ℕ, Bool, List, ◌∷◌, length, refl, sym, ◌∙◌, ap, subst}
use Rattle.std.specs.Prelude.{Option, Some, None, IfSome, IsSome, Result, Ok, Err, OnErr}
use Rattle.journal.specs.declared.journal.Actor.{Actor}
use Rattle.journal.specs.declared.journal.Actor.TheVariants as actor
use Rattle.journal.specs.declared.journal.JournalEntry.{JournalEntry}
use Rattle.journal.specs.declared.journal.JournalEntry.TheVariants.{Draw, Local}
use Rattle.journal.specs.declared.journal.Local.{Local as LocalInput}
use Rattle.journal.specs.declared.journal.Packet.{Packet}
use Rattle.journal.specs.declared.journal.Turn.{Turn}
use Rattle.journal.specs.declared.journal.Turn.TheVariants as turn
use Rattle.journal.specs.declared.place.PacketPlace.{PacketPlace}
use Rattle.journal.specs.Actors.{actor_of, IsActor}
use Rattle.journal.specs.Orderly.{IsOrderly}
use Rattle.journal.specs.Part.{drawn}
use Rattle.journal.specs.Places.{IsFound, packet_at}
use Rattle.journal.specs.Pool.{past, pick}
use Rattle.journal.specs.Stables.{Saving}
use Rattle.journal.specs.Refusals.{MayBeRefused}
use Rattle.journal.specs.Turns.{entry_of, lost_entry, turn_actor}
use Rattle.journal.proofs.Found.{IsPicked, none_picked, picked, picked_packet}
use Rattle.journal.proofs.Lists.{past-push}
use Rattle.of_switch.specs.declared.says.SwitchInput.{SwitchInput}
use Rattle.of_switch.specs.declared.says.SwitchInput.TheVariants as switch_input
use Rattle.app_core.specs.Law.{AppLaw}
use Rattle.group_controller.specs.declared.messages.ControllerInput.{ControllerInput}
use Rattle.group_controller.specs.declared.messages.ControllerInput.TheVariants as controller_input
use Rattle.run_spec.specs.declared.messages.Unsealed.{Unsealed}
use Rattle.run_spec.specs.Inputs.{IsHeard, IsHeardAt, By_draw, By_local}
use Rattle.run_spec.specs.Legal.{EntryFits, FitsTypes}
use Rattle.run_spec.specs.Messages.{way_of}
use Rattle.run_spec.specs.States.{IsFaithful, Sealing, content, controller_hears, switch_hears}
use Rattle.world.specs.Actors.{ControllerOwes, ControllerRefused, SwitchOwes, SwitchRefused}
use Rattle.world.specs.Refusals.{Not_taken, StepStops}
use Rattle.world.specs.World.{Holds, PairsStand, Steps, Worlding, scene_in, taken}
use Rattle.world.proofs.Refusing.{controller_stops, switch_stops}
use Rattle.world.proofs.Standing.{IsIdle}
use Rattle.world.proofs.Turning.{controller_steps, idle_steps, switch_steps}

-- what two facts of an error say together
pub on_errs : {T E : Type 0} (result : Result T E) (P Q R : Type 0) → (P → Q → R) → OnErr result P → OnErr result Q → OnErr result R
on_errs (Ok x) P Q R both p q = tt
on_errs (Err e) P Q R both p q = both p q

pub on_err : {T E : Type 0} (result : Result T E) (P Q : Type 0) → (P → Q) → OnErr result P → OnErr result Q
on_err (Ok x) P Q next p = tt
on_err (Err e) P Q next p = next p

-- a packet stands at the place that was found
pub found_there : {B : Type 0} (journal : List (JournalEntry B)) (place : PacketPlace) (o : Option (Packet B)) → IsFound journal (Some place) o → IsSome (packet_at place journal)
found_there journal place o found = rw (picked journal place o found).stands refl

-- the entry of a loss
lost_idle : {B : Type 0} (a : Actor) (o : Option (Packet B)) → IsIdle (lost_entry a o) × (actor_of (lost_entry a o) ≡ a)
lost_idle a None = (tt, refl)
lost_idle a (Some p) = (tt, refl)

module _ {B A W : Type 0} (law : AppLaw A) (saving : Saving W) (sealing : Sealing B) (faithful : IsFaithful sealing) (w : Worlding B A) (stables : List W)
    (rests : w.owed ≡ None) (some : (kinds : List ℕ) × Holds law sealing w kinds) (stand : PairsStand saving stables w.controllers) where
  abbrev entry : Turn → JournalEntry B
  entry t = entry_of t (past w.journal)

  -- its entry is written
  abbrev pub entered : Turn → Worlding B A
  entered t = record w { journal = taken t w.journal }

  -- its actor takes nothing
  module _ (t : Turn) (idle : IsIdle (entry t)) (mine : actor_of (entry t) ≡ turn_actor t) (named : IsActor w.setup (turn_actor t)) (v : Worlding B A) (is : v ≡ entered t) (orderly : IsOrderly sealing.size (past v.journal)) where
    idle_step : Steps law saving sealing t w stables v stables
    idle_step =
        idle_steps law saving sealing faithful w stables rests some stand (entry t) t refl idle (subst (λ a. IsActor w.setup a) (sym mine) named)
        (subst (λ (z : Worlding B A). IsOrderly sealing.size (past z.journal)) is orderly) v is

  pub loss_steps : (a : Actor) (choice : ℕ) → IsActor w.setup a → (v : Worlding B A) → v ≡ entered (turn.Lose a choice) → IsOrderly sealing.size (past v.journal) → Steps law saving sealing (turn.Lose a choice) w stables v stables
  loss_steps a choice named = let l = lost_idle a (pick a choice (past w.journal)) in idle_step (turn.Lose a choice) l.0 l.1 named

  pub nothing_steps : (a : Actor) (choice : ℕ) (keep : Bool) → IsFound w.journal None (pick a choice (past w.journal)) → IsActor w.setup a → (v : Worlding B A) → v ≡ entered (turn.Draw a choice keep) →
      IsOrderly sealing.size (past v.journal) → Steps law saving sealing (turn.Draw a choice keep) w stables v stables
  nothing_steps a choice keep found named = let nothing = none_picked w.journal (pick a choice (past w.journal)) found in idle_step (turn.Draw a choice keep) (rw nothing tt) (rw nothing refl) named

  -- nothing is written
  pub none_taken : (t : Turn) (v : Worlding B A) → v ≡ w → StepStops law saving sealing t w stables v stables
  none_taken t v is = Not_taken is refl

  -- its actor takes an input
  module _ (t : Turn) (mine : actor_of (entry t) ≡ turn_actor t) (fits : EntryFits (entry t)) (may : MayBeRefused (past (taken t w.journal))) (z : Worlding B A) (z_is : z ≡ entered t) (orderly : IsOrderly sealing.size (past z.journal)) where
    in_order : IsOrderly sealing.size (past (taken t w.journal))
    in_order = subst (λ (y : Worlding B A). IsOrderly sealing.size (past y.journal)) z_is orderly

    module _ (c : ℕ) (takes : turn_actor t ≡ actor.Controller c) (there : c < w.setup.controllers) (x : ControllerInput) (heard : (kinds : List ℕ) → IsHeard (scene_in sealing w kinds) (entry t) (drawn (entry t) (past w.journal)) x)
        (v : Worlding B A) (stables_after : List W) where
      controller_goes : ControllerOwes law saving sealing x z stables c v stables_after → Steps law saving sealing t w stables v stables_after
      controller_goes o =
          controller_steps law saving sealing faithful w stables rests some stand (entry t) t refl c there (mine ∙ takes) takes x stables_after v heard fits in_order
          (subst (λ (y : Worlding B A). ControllerOwes law saving sealing x y stables c v stables_after) z_is o)

      controller_ends : IsOrderly sealing.size (past v.journal) → ControllerRefused law saving z stables c v stables_after → StepStops law saving sealing t w stables v stables_after
      controller_ends behind r =
          controller_stops law saving sealing w stables rests stand (entry t) c there (mine ∙ takes) x stables_after v heard fits behind
          (subst (λ (y : Worlding B A). ControllerRefused law saving y stables c v stables_after) z_is r) t refl takes may

    module _ (s : ℕ) (takes : turn_actor t ≡ actor.Switch s) (there : s < length w.setup.ports) (x : SwitchInput) (heard : (kinds : List ℕ) → IsHeardAt (scene_in sealing w kinds) (entry t) (drawn (entry t) (past w.journal)) x)
        (v : Worlding B A) where
      switch_goes : SwitchOwes sealing x z s v → Steps law saving sealing t w stables v stables
      switch_goes o =
          switch_steps law saving sealing faithful w stables rests some stand (entry t) t refl s there (mine ∙ takes) takes x v heard fits in_order
          (subst (λ (y : Worlding B A). SwitchOwes sealing x y s v) z_is o)

      switch_ends : IsOrderly sealing.size (past v.journal) → SwitchRefused z s v → StepStops law saving sealing t w stables v stables
      switch_ends behind r =
          switch_stops law saving sealing w stables rests stand (entry t) s there (mine ∙ takes) x v heard fits behind
          (subst (λ (y : Worlding B A). SwitchRefused y s v) z_is r) t refl takes may

  -- the packet at a place is drawn
  module _ (a : Actor) (choice : ℕ) (keep : Bool) (place : PacketPlace) (found : IsFound w.journal (Some place) (pick a choice (past w.journal))) where
    p : IsPicked w.journal place (pick a choice (past w.journal))
    p = picked w.journal place (pick a choice (past w.journal)) found

    abbrev draws : Turn
    draws = turn.Draw a choice keep

    is_draw : entry draws ≡ Draw a p.packet.id keep
    is_draw = rw p.is refl

    mine : actor_of (entry draws) ≡ a
    mine = ap actor_of is_draw

    drawn_is : drawn (entry draws) (past w.journal) ≡ Some p.packet
    drawn_is = ap (λ (x : JournalEntry B). drawn x (past w.journal)) is_draw ∙ picked_packet sealing.size a choice (past w.journal) p.packet some.1.run.legal.possible.orderly p.is

    fits : EntryFits (entry draws)
    fits = subst (λ (x : JournalEntry B). EntryFits x) (sym is_draw) tt

    pub may_be_refused : MayBeRefused (past (taken draws w.journal))
    may_be_refused =
        subst (λ (l : List (JournalEntry B)). MayBeRefused l) (sym (past-push w.journal (entry draws)))
        (subst (λ (x : JournalEntry B). MayBeRefused (x ∷ past w.journal)) (sym is_draw) tt)

    -- what it says at its place
    abbrev pub Says : {I : Type 0} → (Actor → Unsealed → I) → I → Type 0
    Says hears x = IfSome (packet_at place w.journal) (λ q. x ≡ hears place.from (sealing.spelled (way_of place.from place.to) q.body))

    says : {I : Type 0} (hears : Actor → Unsealed → I) (x : I) → Says hears x → x ≡ hears p.packet.from (content sealing p.packet)
    says {I = I} hears x is =
        subst (λ (o : Option (Packet B)). IfSome o (λ q. x ≡ hears place.from (sealing.spelled (way_of place.from place.to) q.body))) p.stands is ∙
        ap (λ f. hears f (sealing.spelled (way_of f place.to) p.packet.body)) p.from_is ∙
        ap (λ to. hears p.packet.from (sealing.spelled (way_of p.packet.from to) p.packet.body)) p.to_is

    module _ (z : Worlding B A) (z_is : z ≡ entered draws) (orderly : IsOrderly sealing.size (past z.journal)) where
      module _ (c : ℕ) (takes : a ≡ actor.Controller c) (there : c < w.setup.controllers) (x : ControllerInput) (is : Says controller_hears x) (v : Worlding B A) (stables_after : List W) where
        controller_heard : (kinds : List ℕ) → IsHeard (scene_in sealing w kinds) (entry draws) (drawn (entry draws) (past w.journal)) x
        controller_heard kinds = By_draw a p.packet.id keep p.packet is_draw drawn_is (says controller_hears x is)

        pub controller_draws : ControllerOwes law saving sealing x z stables c v stables_after → Steps law saving sealing draws w stables v stables_after
        controller_draws = controller_goes draws mine fits may_be_refused z z_is orderly c takes there x controller_heard v stables_after

        pub controller_draw_ends : IsOrderly sealing.size (past v.journal) → ControllerRefused law saving z stables c v stables_after → StepStops law saving sealing draws w stables v stables_after
        controller_draw_ends = controller_ends draws mine fits may_be_refused z z_is orderly c takes there x controller_heard v stables_after

      module _ (s : ℕ) (takes : a ≡ actor.Switch s) (there : s < length w.setup.ports) (x : SwitchInput) (is : Says switch_hears x) (v : Worlding B A) where
        switch_heard : (kinds : List ℕ) → IsHeardAt (scene_in sealing w kinds) (entry draws) (drawn (entry draws) (past w.journal)) x
        switch_heard kinds = By_draw a p.packet.id keep p.packet is_draw drawn_is (says switch_hears x is)

        pub switch_draws : SwitchOwes sealing x z s v → Steps law saving sealing draws w stables v stables
        switch_draws = switch_goes draws mine fits may_be_refused z z_is orderly s takes there x switch_heard v

        pub switch_draw_ends : IsOrderly sealing.size (past v.journal) → SwitchRefused z s v → StepStops law saving sealing draws w stables v stables
        switch_draw_ends = switch_ends draws mine fits may_be_refused z z_is orderly s takes there x switch_heard v

  -- a local input is taken
  module _ (a : Actor) (input : LocalInput) (fits : FitsTypes input) where
    abbrev hears_it : Turn
    hears_it = turn.Local a input

    pub may_refuse_local : MayBeRefused (past (taken hears_it w.journal))
    may_refuse_local = subst (λ (l : List (JournalEntry B)). MayBeRefused l) (sym (past-push w.journal (Local a input))) tt

    module _ (z : Worlding B A) (z_is : z ≡ entered hears_it) (orderly : IsOrderly sealing.size (past z.journal)) where
      module _ (c : ℕ) (takes : a ≡ actor.Controller c) (there : c < w.setup.controllers) (x : ControllerInput) (is : x ≡ controller_input.Local input) (v : Worlding B A) (stables_after : List W) where
        pub controller_takes_local : ControllerOwes law saving sealing x z stables c v stables_after → Steps law saving sealing hears_it w stables v stables_after
        controller_takes_local = controller_goes hears_it refl fits may_refuse_local z z_is orderly c takes there x (λ kinds. By_local a input refl is) v stables_after

        pub controller_local_ends : IsOrderly sealing.size (past v.journal) → ControllerRefused law saving z stables c v stables_after → StepStops law saving sealing hears_it w stables v stables_after
        controller_local_ends = controller_ends hears_it refl fits may_refuse_local z z_is orderly c takes there x (λ kinds. By_local a input refl is) v stables_after

      module _ (s : ℕ) (takes : a ≡ actor.Switch s) (there : s < length w.setup.ports) (x : SwitchInput) (is : x ≡ switch_input.Local input) (v : Worlding B A) where
        pub switch_takes_local : SwitchOwes sealing x z s v → Steps law saving sealing hears_it w stables v stables
        switch_takes_local = switch_goes hears_it refl fits may_refuse_local z z_is orderly s takes there x (λ kinds. By_local a input refl is) v

        pub switch_local_ends : IsOrderly sealing.size (past v.journal) → SwitchRefused z s v → StepStops law saving sealing hears_it w stables v stables
        switch_local_ends = switch_ends hears_it refl fits may_refuse_local z z_is orderly s takes there x (λ kinds. By_local a input refl is) v
