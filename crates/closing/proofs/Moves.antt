-- The turns of a closing, one kind after another: where it stands behind them.
use Rattle.std.proofs.Common.{◌≡◌, ◌<◌, ℕ, Bool, true, false, List, [], ◌∷◌, length, refl, sym, ◌∙◌, ap, subst}
use Rattle.std.specs.Prelude.{nat_eq, ◌%◌, slice_get, Option, Some, None, if◌then◌else◌}
use Rattle.std.specs.List.{AllByRecursion}
use Rattle.std.proofs.Math.Nat.{zero-mod}
use Rattle.std.proofs.lemmas.Bool.{eq-eqb}
use Rattle.journal.specs.declared.journal.Actor.{Actor}
use Rattle.journal.specs.declared.journal.Actor.TheVariants as actor
use Rattle.journal.specs.declared.journal.JournalEntry.{JournalEntry}
use Rattle.journal.specs.declared.journal.JournalEntry.TheVariants.{Draw, Lose, Local}
use Rattle.journal.specs.declared.journal.Local.{Local as LocalInput}
use Rattle.journal.specs.declared.journal.Local.TheVariants as local
use Rattle.journal.specs.declared.journal.Packet.{Packet}
use Rattle.journal.specs.declared.journal.Turn.TheVariants as turn
use Rattle.journal.specs.declared.place.PacketPlace.{PacketPlace}
use Rattle.journal.specs.Actors.{same_actor, actor_of}
use Rattle.journal.specs.Places.{IsFound}
use Rattle.journal.specs.Pool.{past, pool, pick, waiting, chosen}
use Rattle.journal.specs.Turns.{entry_of, drawn_entry, lost_entry}
use Rattle.vr_log.specs.declared.entry.LogFull.{LogFull}
use Rattle.vr_log.specs.Members.{is_up}
use Rattle.app_core.specs.Law.{AppLaw}
use Rattle.group_controller.specs.State.{ControllerState}
use Rattle.group_controller.specs.Turns.{Controlling, state_of, Controls}
use Rattle.run_spec.specs.States.{Scene}
use Rattle.run_spec.specs.Committed.{controller_state, states_of}
use Rattle.run_spec.specs.Closing.{Phase, Losing, Suspecting, Draining, Met, IsMove, is_drawn, drained, next_lost, next_drained, after_move, after_turn, after_member, met_by}
use Rattle.world.specs.World.{AreMore, Worlding, results_in}
use Rattle.world.proofs.Growing.{no_more}
use Rattle.closing.specs.declared.closed.TurnOutcome.{TurnOutcome}
use Rattle.closing.specs.declared.closed.TurnOutcome.TheVariants as came
use Rattle.closing_laws.specs.Quorum.{has}
use Rattle.closing.specs.Closing.{CameTo, came_met, came_of, ClosesIn, Drains, IsFirst, Stage, Suspects, UpBy, up_in}
use Rattle.closing.proofs.Worlds.{Runs, KnowsItself, member_of}
use Rattle.closing.proofs.Turned.{Turned, lost_state, other_state, more_before, state_behind, turned_state, closes_turn, same_ups, was_up, Others, still_up, one_down}

-- the first packet, and its place
pub record First {B : Type 0} (place : PacketPlace) (entries : List (JournalEntry B)) : Type 0 where
  pub packet : Packet B
  pub others : List (Packet B)
  pub pool_is : pool entries ≡ packet ∷ others
  pub id_is : place.id ≡ packet.id
  pub from_is : place.from ≡ packet.from
  pub to_is : place.to ≡ packet.to

pub first_packet : {B : Type 0} (place : PacketPlace) (journal : List (JournalEntry B)) → IsFirst place journal → First place (past journal)
first_packet {B = B} place journal first = by_pool (pool (past journal)) refl
  where
    by_pool : (packets : List (Packet B)) → pool (past journal) ≡ packets → First place (past journal)
    by_pool [] is = absurd (subst (λ l. IsFound journal (Some place) (slice_get l 0)) is first)
    by_pool (p ∷ others) is =
        let found = subst (λ l. IsFound journal (Some place) (slice_get l 0)) is first in
        record { packet = p; others = others; pool_is = is; id_is = found.id_is; from_is = found.from_is; to_is = found.to_is }

pub first_named : {B : Type 0} (P : Actor → Type 0) (place : PacketPlace) (entries : List (JournalEntry B)) → First place entries → AllByRecursion (λ p. P p.to) (pool entries) → P place.to
first_named P place entries f all = subst (λ a. P a) (sym f.to_is) (subst (λ l. AllByRecursion (λ p. P p.to) l) f.pool_is all).0

same_self : (a : Actor) → same_actor a a ≡ true
same_self (actor.Controller c) = eq-eqb c c refl
same_self (actor.Switch s) = eq-eqb s s refl

-- the first packet of all is the first for its receiver
picked_first : {B : Type 0} (p : Packet B) (others : List (Packet B)) → chosen 0 (waiting p.to (p ∷ others)) ≡ Some p
picked_first p others = rw (same_self p.to, zero-mod (length (p ∷ waiting p.to others))) refl

-- and so the one of its first choice
pub first_is_picked : {B : Type 0} (place : PacketPlace) (journal : List (JournalEntry B)) → IsFirst place journal → IsFound journal (Some place) (pick place.to 0 (past journal))
first_is_picked {B = B} place journal first = by_pool (pool (past journal)) refl
  where
    by_pool : (packets : List (Packet B)) → pool (past journal) ≡ packets → IsFound journal (Some place) (pick place.to 0 (past journal))
    by_pool [] is = absurd (subst (λ l. IsFound journal (Some place) (slice_get l 0)) is first)
    by_pool (p ∷ others) is =
        let found = subst (λ l. IsFound journal (Some place) (slice_get l 0)) is first in
        let picked : pick place.to 0 (past journal) ≡ Some p =
        ap (λ (l : List (Packet B)). chosen 0 (waiting place.to l)) is ∙ ap (λ (a : Actor). chosen 0 (waiting a (p ∷ others))) found.to_is ∙ picked_first p others in
        subst (λ (o : Option (Packet B)). IsFound journal (Some place) o) (sym picked) found

module _ {B : Type 0} (place : PacketPlace) (entries : List (JournalEntry B)) (f : First place entries) where
  picked : pick place.to 0 entries ≡ Some f.packet
  picked = ap (λ l. chosen 0 (waiting place.to l)) f.pool_is ∙ ap (λ a. chosen 0 (waiting a (f.packet ∷ f.others))) f.to_is ∙ picked_first f.packet f.others

  pub took_lose : entry_of (turn.Lose place.to 0) entries ≡ Lose place.to place.id
  took_lose = ap (λ o. lost_entry place.to o) picked ∙ ap (λ i. Lose place.to i) (sym f.id_is)

  pub took_draw : entry_of (turn.Draw place.to 0 false) entries ≡ Draw place.to place.id false
  took_draw = ap (λ o. drawn_entry place.to false o) picked ∙ ap (λ i. Draw place.to i false) (sym f.id_is)

  lose_is : ◌≡◌ {A = JournalEntry B} (Lose place.to place.id) (Lose f.packet.to f.packet.id)
  lose_is = ap (λ a. Lose a place.id) f.to_is ∙ ap (λ i. Lose f.packet.to i) f.id_is

  draw_is : ◌≡◌ {A = JournalEntry B} (Draw place.to place.id false) (Draw f.packet.to f.packet.id false)
  draw_is = ap (λ a. Draw a place.id false) f.to_is ∙ ap (λ i. Draw f.packet.to i false) f.id_is

  drawn_is : (quorum : List ℕ) (b : Bool) → is_drawn quorum place.from place.to ≡ b → is_drawn quorum f.packet.from f.packet.to ≡ b
  drawn_is quorum b is = subst (λ a. is_drawn quorum a f.packet.to ≡ b) f.from_is (subst (λ a. is_drawn quorum place.from a ≡ b) f.to_is is)

  pub lost_move : (group : ℕ) (states : List ControllerState) → IsMove (next_lost group states (pool entries)) (Lose place.to place.id) Losing
  lost_move group states = subst (λ l. IsMove (next_lost group states l) (Lose place.to place.id) Losing) (sym f.pool_is) (lose_is, refl)

  drained_by : (quorum : List ℕ) (b : Bool) → is_drawn quorum place.from place.to ≡ b → drained quorum f.packet ≡ (if b then Draw f.packet.to f.packet.id false else Lose f.packet.to f.packet.id)
  drained_by quorum b is = ap (λ d. if d then Draw f.packet.to f.packet.id false else Lose f.packet.to f.packet.id) (drawn_is quorum b is)

  pub drained_move : (group view : ℕ) (quorum : List ℕ) (e : JournalEntry B) → drained quorum f.packet ≡ e → IsMove (next_drained group view quorum (pool entries)) e (Draining view quorum)
  drained_move group view quorum e is = subst (λ l. IsMove (next_drained group view quorum l) e (Draining view quorum)) (sym f.pool_is) (sym is, refl)

  pub drained_lost : (group view : ℕ) (quorum : List ℕ) → is_drawn quorum place.from place.to ≡ false → IsMove (next_drained group view quorum (pool entries)) (Lose place.to place.id) (Draining view quorum)
  drained_lost group view quorum is = drained_move group view quorum (Lose place.to place.id) (drained_by quorum false is ∙ sym lose_is)

  pub drained_drawn : (group view : ℕ) (quorum : List ℕ) → is_drawn quorum place.from place.to ≡ true → IsMove (next_drained group view quorum (pool entries)) (Draw place.to place.id false) (Draining view quorum)
  drained_drawn group view quorum is = drained_move group view quorum (Draw place.to place.id false) (drained_by quorum true is ∙ sym draw_is)

-- where a closing stands by what a turn came to
abbrev pub phase_of : TurnOutcome → Phase → Phase
phase_of came.ToRest next = next
phase_of came.ToAFailedSave next = Losing
phase_of (came.ToTheLimit limit) next = Met limit

pub member_phase : (view n c : ℕ) (s : ControllerState) (next : Phase) → s.vr.controllers ≡ n → s.vr.me ≡ c → after_member view s next ≡ phase_of (came_of view n c s) next
member_phase view n c s next group me =
    subst (λ m. after_member view s next ≡ phase_of (came_of view m c s) next) group
    (subst (λ d. after_member view s next ≡ phase_of (came_of view s.vr.controllers d s) next) me (by_up (is_up s.vr) refl))
  where
    by_full : (o : Option LogFull) → met_by o next ≡ phase_of (came_met o) next
    by_full None = refl
    by_full (Some limit) = refl

    by_primary : is_up s.vr ≡ true → (b : Bool) → nat_eq (view % s.vr.controllers) s.vr.me ≡ b → after_member view s next ≡ phase_of (came_of view s.vr.controllers s.vr.me s) next
    by_primary up true is = rw (up, is) (by_full s.full)
    by_primary up false is = rw (up, is) refl

    by_up : (b : Bool) → is_up s.vr ≡ b → after_member view s next ≡ phase_of (came_of view s.vr.controllers s.vr.me s) next
    by_up true up = by_primary up (nat_eq (view % s.vr.controllers) s.vr.me) refl
    by_up false up = rw up refl

pub came_stands : {B A : Type 0} (stage : Stage B A) (scene : Scene B) (start now : Worlding B A) (next : Phase) (cause : TurnOutcome) → ClosesIn (phase_of cause next) scene start now →
    (ClosesIn next scene start now → stage scene start now) → CameTo stage cause scene start now
came_stands stage scene start now next came.ToRest c goes = goes c
came_stands stage scene start now next came.ToAFailedSave c goes = c
came_stands stage scene start now next (came.ToTheLimit limit) c goes = c

-- who takes part by what a turn came to
up_or_met : (cause : TurnOutcome) (before after : List ℕ) → (cause ≡ came.ToAFailedSave → ⊥) → after ≡ before → UpBy cause before after
up_or_met came.ToRest before after other same = same
up_or_met came.ToAFailedSave before after other same = absurd (other refl)
up_or_met (came.ToTheLimit limit) before after other same = same

pub ups_by : (view n c : ℕ) (s : ControllerState) (before after : List ℕ) → (is_up s.vr ≡ true → after ≡ before) → (is_up s.vr ≡ false → length after < length before) →
    UpBy (came_of view n c s) before after
ups_by view n c s before after same less = by_up (is_up s.vr) refl
  where
    not_met : (o : Option LogFull) → came_met o ≡ came.ToAFailedSave → ⊥
    not_met None h = cc
    not_met (Some limit) h = cc

    by_primary : is_up s.vr ≡ true → (b : Bool) → nat_eq (view % n) c ≡ b → UpBy (came_of view n c s) before after
    by_primary up true is = rw (up, is) (up_or_met (came_met s.full) before after (not_met s.full) (same up))
    by_primary up false is = rw (up, is) (same up)

    by_up : (b : Bool) → is_up s.vr ≡ b → UpBy (came_of view n c s) before after
    by_up true up = by_primary up (nat_eq (view % n) c) refl
    by_up false up = rw up (less up)

module _ {B A : Type 0} (law : AppLaw A) (scene : Scene B) (old new : Worlding B A) where
  -- the first packet is lost
  module _ (place : PacketPlace) (f : First place (past old.journal)) (t : Turned law scene (Lose place.to place.id) old new) where
    pub loses : (start : Worlding B A) → ClosesIn Losing scene start old → ClosesIn Losing scene start new
    loses start c =
        closes_turn law scene (Lose place.to place.id) old new t Losing Losing Losing start c
        (λ later more. lost_move place (past old.journal) f scene.setup.controllers (states_of scene later (past old.journal))) (λ later more. refl)

    pub loses_drained : (view : ℕ) (quorum : List ℕ) → is_drawn quorum place.from place.to ≡ false → (start : Worlding B A) → Drains view quorum scene start old → Drains view quorum scene start new
    loses_drained view quorum drawn start c = record {
      phase = Draining view quorum;
      closes = closes_turn law scene (Lose place.to place.id) old new t c.phase (Draining view quorum) (Draining view quorum) start c.closes
          (λ later more. subst (λ m. IsMove m (Lose place.to place.id) (Draining view quorum)) (sym (c.next later (more_before law scene (Lose place.to place.id) old new t later more)))
          (drained_lost place (past old.journal) f scene.setup.controllers view quorum drawn))
          (λ later more. refl);
      next = λ later more. refl;
    }

    pub lost_ups : (knows : (x : Controlling A) → Controls law x scene.kinds → KnowsItself x) → up_in new ≡ up_in old
    lost_ups knows = same_ups law scene (Lose place.to place.id) old new t (λ i within. (ap (λ s. is_up s.vr) (sym (same i)), ap (λ s. s.vr.me) (sym (same i))))
      where
        same : (i : ℕ) → controller_state scene (results_in new.controllers) i (past new.journal) ≡ controller_state scene (results_in new.controllers) i (past old.journal)
        same i = state_behind law scene (Lose place.to place.id) old new t (results_in new.controllers) i ∙ lost_state scene (results_in new.controllers) i place.to place.id (past old.journal)

  -- a controller took a turn
  module _ (knows : (x : Controlling A) → Controls law x scene.kinds → KnowsItself x) (view c : ℕ) (x : Controlling A) (found : slice_get new.controllers c ≡ Some x) (is_new : Runs law scene new) where
    turned_phase : (next : Phase) → after_member view (state_of x) next ≡ phase_of (came_of view scene.setup.controllers c (state_of x)) next
    turned_phase next =
        let m = member_of law scene new is_new c x found in
        let k = knows x m.0 in
        member_phase view scene.setup.controllers c (state_of x) next (k.group ∙ ap (λ s. s.controllers) m.2) (k.me ∙ m.1)

    -- its member suspected
    pub suspects_turn : (input : LocalInput) (quorum members : List ℕ) → input ≡ local.Suspect view → Turned law scene (Local (actor.Controller c) input) old new → (start : Worlding B A) →
        Suspects view quorum (c ∷ members) scene start old → CameTo (Suspects view quorum members) (came_of view scene.setup.controllers c (state_of x)) scene start new
    suspects_turn input quorum members is t start s =
        let e = Local (actor.Controller c) input in
        let next = Suspecting view quorum members in
        came_stands (Suspects view quorum members) scene start new next (came_of view scene.setup.controllers c (state_of x))
        (closes_turn law scene e old new t s.phase next (phase_of (came_of view scene.setup.controllers c (state_of x)) next) start s.closes
        (λ later more. subst (λ m. IsMove m e next) (sym (s.next later (more_before law scene e old new t later more))) (ap (λ i. Local (actor.Controller c) i) is, refl))
        (λ later more. ap (λ y. after_turn y next) (turned_state law scene e old new t later more c x found) ∙ turned_phase next))
        (λ done. record { phase = next; closes = done; next = λ later more. refl })

    -- it drew the first packet
    pub draws_turn : (place : PacketPlace) (quorum : List ℕ) → place.to ≡ actor.Controller c → First place (past old.journal) → is_drawn quorum place.from place.to ≡ true →
        Turned law scene (Draw place.to place.id false) old new → (start : Worlding B A) →
        Drains view quorum scene start old → CameTo (Drains view quorum) (came_of view scene.setup.controllers c (state_of x)) scene start new
    draws_turn place quorum mine f drawn t start s =
        let e = Draw place.to place.id false in
        let next = Draining view quorum in
        came_stands (Drains view quorum) scene start new next (came_of view scene.setup.controllers c (state_of x))
        (closes_turn law scene e old new t s.phase next (phase_of (came_of view scene.setup.controllers c (state_of x)) next) start s.closes
        (λ later more. subst (λ m. IsMove m e next) (sym (s.next later (more_before law scene e old new t later more))) (drained_drawn place (past old.journal) f scene.setup.controllers view quorum drawn))
        (λ later more. ap (λ a. after_move scene later (Draw a place.id false) (past old.journal) next) mine ∙
        ap (λ a. after_turn (controller_state scene later c (Draw a place.id false ∷ past old.journal)) next) (sym mine) ∙
        ap (λ y. after_turn y next) (turned_state law scene e old new t later more c x found) ∙ turned_phase next))
        (λ done. record { phase = next; closes = done; next = λ later more. refl })

    -- who takes part then
    pub turn_ups : (e : JournalEntry B) (t : Turned law scene e old new) → same_actor (actor_of e) (actor.Controller c) ≡ true → ((i : ℕ) → (i ≡ c → ⊥) → same_actor (actor_of e) (actor.Controller i) ≡ false) →
        has (up_in old) c ≡ true → UpBy (came_of view scene.setup.controllers c (state_of x)) (up_in old) (up_in new)
    turn_ups e t mine others up =
        let was = was_up law scene e old new t knows c up in
        let results = results_in new.controllers in
        let after : controller_state scene results c (past new.journal) ≡ state_of x = state_behind law scene e old new t results c ∙ turned_state law scene e old new t results (newest_more t) c x found in
        let rest : Others law scene e old new t knows c = λ i within other. state_behind law scene e old new t results i ∙ other_state scene results i e (past old.journal) (others i other) in
        ups_by view scene.setup.controllers c (state_of x) (up_in old) (up_in new)
        (λ h. still_up law scene e old new t knows c rest was.1 (ap (λ s. is_up s.vr) after ∙ h))
        (λ h. one_down law scene e old new t knows c was.0 rest was.1 (ap (λ s. is_up s.vr) after ∙ h))
      where
        newest_more : Turned law scene e old new → AreMore scene.setup.controllers (results_in new.controllers) (results_in new.controllers)
        newest_more t = no_more scene.setup.controllers (results_in new.controllers)

  -- a switch drew the first packet
  pub draws_switch : (view s : ℕ) (place : PacketPlace) (quorum : List ℕ) → place.to ≡ actor.Switch s → First place (past old.journal) → is_drawn quorum place.from place.to ≡ true →
      Turned law scene (Draw place.to place.id false) old new → (start : Worlding B A) → Drains view quorum scene start old → Drains view quorum scene start new
  draws_switch view s place quorum mine f drawn t start c = record {
    phase = Draining view quorum;
    closes = closes_turn law scene (Draw place.to place.id false) old new t c.phase (Draining view quorum) (Draining view quorum) start c.closes
        (λ later more. subst (λ m. IsMove m (Draw place.to place.id false) (Draining view quorum)) (sym (c.next later (more_before law scene (Draw place.to place.id false) old new t later more)))
        (drained_drawn place (past old.journal) f scene.setup.controllers view quorum drawn))
        (λ later more. ap (λ a. after_move scene later (Draw a place.id false) (past old.journal) (Draining view quorum)) mine);
    next = λ later more. refl;
  }

  pub switch_ups : (s : ℕ) (place : PacketPlace) → place.to ≡ actor.Switch s → Turned law scene (Draw place.to place.id false) old new → up_in new ≡ up_in old
  switch_ups s place mine t = same_ups law scene (Draw place.to place.id false) old new t (λ i within. (ap (λ y. is_up y.vr) (sym (same i)), ap (λ y. y.vr.me) (sym (same i))))
    where
      same : (i : ℕ) → controller_state scene (results_in new.controllers) i (past new.journal) ≡ controller_state scene (results_in new.controllers) i (past old.journal)
      same i = state_behind law scene (Draw place.to place.id false) old new t (results_in new.controllers) i ∙
          other_state scene (results_in new.controllers) i (Draw place.to place.id false) (past old.journal) (ap (λ a. same_actor a (actor.Controller i)) mine)
