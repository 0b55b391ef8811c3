-- One turn of a closing of a world.
use Rattle.std.proofs.Common.{◌≡◌, ◌<◌, ℕ, Bool, true, false, List, ◌∷◌, ◌++◌, refl, sym, ◌∙◌, ap, subst}
use Rattle.std.specs.Prelude.{nat_eq, None, OnOk, IfErr, Result, Ok, Err}
use Rattle.std.specs.List.{AllByRecursion}
use Rattle.std.proofs.lemmas.Bool.{eq-eqb, eqb-true}
use Rattle.journal.specs.declared.journal.Actor.{Actor}
use Rattle.journal.specs.declared.journal.Actor.TheVariants as actor
use Rattle.journal.specs.declared.journal.JournalEntry.{JournalEntry}
use Rattle.journal.specs.declared.journal.JournalEntry.TheVariants.{Draw, Lose, Local}
use Rattle.journal.specs.declared.journal.Local.TheVariants as local
use Rattle.journal.specs.declared.journal.Turn.TheVariants as turn
use Rattle.journal.specs.declared.place.PacketPlace.{PacketPlace}
use Rattle.journal.specs.declared.wire.Stop.{Stop}
use Rattle.journal.specs.Actors.{same_actor, IsActor}
use Rattle.journal.specs.Pool.{past, pool}
use Rattle.journal.specs.Turns.{IsWithinLimits}
use Rattle.journal.specs.Stables.{Saving}
use Rattle.app_core.specs.Law.{AppLaw}
use Rattle.group_controller.specs.Turns.{Controlling, state_of, Controls}
use Rattle.run_spec.specs.States.{Sealing}
use Rattle.run_spec.specs.Committed.{states_of}
use Rattle.run_spec.specs.Closing.{Losing, Suspecting, Draining, IsMove, is_drawn}
use Rattle.world.specs.Refusals.{TurnStops}
use Rattle.world.specs.World.{Applies, Holds, Keeps, PairsStand, Worlding, scene_in}
use Rattle.closing.specs.declared.closed.TurnOutcome.{TurnOutcome}
use Rattle.closing_laws.specs.Quorum.{has}
use Rattle.closing.specs.Closing.{CameAt, CameTo, came_of, ClosesIn, Drains, IsFirst, LeadsTo, Stage, ClosingStandsAt, Suspects, UpBy, up_in, work_left}
use Rattle.closing.proofs.Worlds.{KnowsItself}
use Rattle.closing.proofs.Turned.{Turned, added}
use Rattle.closing.proofs.Moves.{First, first_packet, first_named, took_lose, took_draw, lost_move, drained_lost, drained_drawn, loses, loses_drained, lost_ups, suspects_turn, draws_turn, turn_ups, draws_switch, switch_ups}
use Rattle.closing.proofs.Leading.{turned, turn_leads, stop_leads, takes_less}

-- a controller takes part, by what it is drawn for
pub drawn_has : (quorum : List ℕ) (sender : Actor) (c : ℕ) → is_drawn quorum sender (actor.Controller c) ≡ true → has quorum c ≡ true
drawn_has quorum (actor.Controller d) c drawn = drawn
drawn_has quorum (actor.Switch s) c drawn = drawn

other_number : (c i : ℕ) (b : Bool) → nat_eq c i ≡ b → (i ≡ c → ⊥) → nat_eq c i ≡ false
other_number c i true is other = absurd (other (sym (eqb-true c i is)))
other_number c i false is other = is

module _ {B A W : Type 0} (law : AppLaw A) (knows : (x : Controlling A) (kinds : List ℕ) → Controls law x kinds → KnowsItself x)
    (saving : Saving W) (sealing : Sealing B) (old : Worlding B A) (stables : List W) (new : Worlding B A) (stables_after : List W)
    (rested : old.owed ≡ None) (pairs : PairsStand saving stables old.controllers) where
  abbrev pub Kept : Type 0
  Kept = Keeps law saving sealing old stables new stables_after

  -- the first packet is lost
  module _ (place : PacketPlace) (first : IsFirst place old.journal) (addressed : AllByRecursion (λ p. IsActor old.setup p.to) (pool (past old.journal))) where
    abbrev pub Lost : JournalEntry B
    Lost = Lose place.to place.id

    found : First place (past old.journal)
    found = first_packet place old.journal first

    pub named : IsActor old.setup place.to
    named = first_named (λ a. IsActor old.setup a) place (past old.journal) found addressed

    pub lose_closes : {T : Type 0} (result : Result T Stop) → OnOk result (Applies sealing.size (turn.Lose place.to 0) old new) → Kept → IfErr result (λ stop. TurnStops sealing.size (turn.Lose place.to 0) old new stop) →
        LeadsTo law sealing (ClosesIn Losing) (ClosingStandsAt (λ _. ClosesIn Losing) result) old new
    lose_closes result t k stops =
        turn_leads law saving sealing old stables new stables_after (turn.Lose place.to 0) Lost rested pairs (took_lose place (past old.journal) found) refl named refl (ClosesIn Losing) (λ _. ClosesIn Losing)
        (λ kinds holds start c.
        let scene = scene_in sealing old kinds in
        record { phase = Losing; next = Losing; closes = c; move = λ later more. lost_move place (past old.journal) found scene.setup.controllers (states_of scene later (past old.journal)) })
        (λ x kinds turn start c. loses law (scene_in sealing old kinds) old new place found turn start c)
        result t k stops

    pub lose_drains : (view : ℕ) (quorum : List ℕ) → is_drawn quorum place.from place.to ≡ false →
        {T : Type 0} (result : Result T Stop) → OnOk result (Applies sealing.size (turn.Lose place.to 0) old new) → Kept → IfErr result (λ stop. TurnStops sealing.size (turn.Lose place.to 0) old new stop) →
        LeadsTo law sealing (Drains view quorum) (ClosingStandsAt (λ _. Drains view quorum) result) old new
    lose_drains view quorum drawn result t k stops =
        turn_leads law saving sealing old stables new stables_after (turn.Lose place.to 0) Lost rested pairs (took_lose place (past old.journal) found) refl named refl (Drains view quorum) (λ _. Drains view quorum)
        (λ kinds holds start c. record {
          phase = c.phase;
          next = Draining view quorum;
          closes = c.closes;
          move = λ later more. subst (λ m. IsMove m Lost (Draining view quorum)) (sym (c.next later more)) (drained_lost place (past old.journal) found old.setup.controllers view quorum drawn);
        })
        (λ x kinds turn start c. loses_drained law (scene_in sealing old kinds) old new place found turn view quorum drawn start c)
        result t k stops

    pub lose_up : (kinds : List ℕ) → Holds law sealing old kinds → {T : Type 0} (result : Result T Stop) → OnOk result (Applies sealing.size (turn.Lose place.to 0) old new) → Kept →
        OnOk result (up_in new ≡ up_in old)
    lose_up kinds holds (Ok x) t k =
        lost_ups law (scene_in sealing old kinds) old new place found
        (turned law saving sealing old stables new stables_after (turn.Lose place.to 0) Lost rested pairs (took_lose place (past old.journal) found) refl named refl kinds holds k t) (λ y h. knows y kinds h)
    lose_up kinds holds (Err stop) t k = tt

    pub lose_less : {T : Type 0} (result : Result T Stop) → OnOk result (Applies sealing.size (turn.Lose place.to 0) old new) → IsWithinLimits sealing.size (past new.journal) →
        OnOk result (work_left (past new.journal) < work_left (past old.journal))
    lose_less (Ok x) t within =
        let a = added sealing.size (turn.Lose place.to 0) old new rested t in
        takes_less place Lost old.journal new.journal a.posts place.to found a.of (a.grown ∙ ap (λ e. old.journal ++ e ∷ a.posts) (took_lose place (past old.journal) found)) refl refl within.letters
    lose_less (Err stop) t within = tt

    -- and drawn
    abbrev pub Drawn : JournalEntry B
    Drawn = Draw place.to place.id false

    pub draw_less : Applies sealing.size (turn.Draw place.to 0 false) old new → IsWithinLimits sealing.size (past new.journal) → work_left (past new.journal) < work_left (past old.journal)
    draw_less t within =
        let a = added sealing.size (turn.Draw place.to 0 false) old new rested t in
        takes_less place Drawn old.journal new.journal a.posts place.to found a.of (a.grown ∙ ap (λ e. old.journal ++ e ∷ a.posts) (took_draw place (past old.journal) found)) refl refl within.letters

    module _ (view : ℕ) (quorum : List ℕ) (drawn : is_drawn quorum place.from place.to ≡ true) where
      pub draw_cut : {T : Type 0} (next : T → Stage B A) (stop : Stop) → Kept → TurnStops sealing.size (turn.Draw place.to 0 false) old new stop →
          LeadsTo law sealing (Drains view quorum) (ClosingStandsAt next (Err stop)) old new
      draw_cut next stop k stops =
          stop_leads law saving sealing old stables new stables_after (turn.Draw place.to 0 false) Drawn rested pairs (took_draw place (past old.journal) found) refl named refl (Drains view quorum) next
          (λ kinds holds start c. record {
            phase = c.phase;
            next = Draining view quorum;
            closes = c.closes;
            move = λ later more. subst (λ m. IsMove m Drawn (Draining view quorum)) (sym (c.next later more)) (drained_drawn place (past old.journal) found old.setup.controllers view quorum drawn);
          })
          stop k stops

      module _ (t : Applies sealing.size (turn.Draw place.to 0 false) old new) (k : Kept) where
        took : (kinds : List ℕ) → Holds law sealing old kinds → Turned law (scene_in sealing old kinds) Drawn old new
        took kinds holds = turned law saving sealing old stables new stables_after (turn.Draw place.to 0 false) Drawn rested pairs (took_draw place (past old.journal) found) refl named refl kinds holds k t

        pub draw_leads : (a : Actor) → place.to ≡ a → (cause : TurnOutcome) → CameAt view new a cause → LeadsTo law sealing (Drains view quorum) (CameTo (Drains view quorum) cause) old new
        draw_leads (actor.Controller c) mine cause at kinds holds start s =
            let scene = scene_in sealing old kinds in
            let turn = took kinds holds in
            let m = turn.is.controllers c (subst (λ a. IsActor old.setup a) mine named) in
            let came_is = at m.member m.stands ∙ ap (λ (n : ℕ). came_of view n c (state_of m.member)) (ap (λ y. y.controllers) k.setup) in
            subst (λ x. CameTo (Drains view quorum) x scene start new) (sym came_is)
            (draws_turn law scene old new (λ y h. knows y kinds h) view c m.member m.stands turn.is place quorum mine found drawn turn start s)
        draw_leads (actor.Switch n) mine cause at kinds holds start s =
            let scene = scene_in sealing old kinds in
            subst (λ x. CameTo (Drains view quorum) x scene start new) (sym at) (draws_switch law scene old new view n place quorum mine found drawn (took kinds holds) start s)

        pub draw_up : (kinds : List ℕ) → Holds law sealing old kinds → ((n : ℕ) → has quorum n ≡ true → has (up_in old) n ≡ true) →
            (a : Actor) → place.to ≡ a → (cause : TurnOutcome) → CameAt view new a cause → UpBy cause (up_in old) (up_in new)
        draw_up kinds holds up (actor.Controller c) mine cause at =
            let scene = scene_in sealing old kinds in
            let turn = took kinds holds in
            let m = turn.is.controllers c (subst (λ a. IsActor old.setup a) mine named) in
            let came_is = at m.member m.stands ∙ ap (λ (n : ℕ). came_of view n c (state_of m.member)) (ap (λ y. y.controllers) k.setup) in
            subst (λ x. UpBy x (up_in old) (up_in new)) (sym came_is)
            (turn_ups law scene old new (λ y h. knows y kinds h) view c m.member m.stands turn.is Drawn turn
            (ap (λ a. same_actor a (actor.Controller c)) mine ∙ eq-eqb c c refl)
            (λ i other. ap (λ a. same_actor a (actor.Controller i)) mine ∙ other_number c i (nat_eq c i) refl other)
            (up c (drawn_has quorum place.from c (subst (λ a. is_drawn quorum place.from a ≡ true) mine drawn))))
        draw_up kinds holds up (actor.Switch n) mine cause at =
            subst (λ x. UpBy x (up_in old) (up_in new)) (sym at) (switch_ups law (scene_in sealing old kinds) old new n place mine (took kinds holds))

  -- a member suspects a view
  module _ (view c : ℕ) (there : c < old.setup.controllers) where
    abbrev pub Suspicion : JournalEntry B
    Suspicion = Local (actor.Controller c) (local.Suspect view)

    pub suspect_cut : (quorum members : List ℕ) {T : Type 0} (next : T → Stage B A) (stop : Stop) → Kept → TurnStops sealing.size (turn.Local (actor.Controller c) (local.Suspect view)) old new stop →
        LeadsTo law sealing (Suspects view quorum (c ∷ members)) (ClosingStandsAt next (Err stop)) old new
    suspect_cut quorum members next stop k stops =
        stop_leads law saving sealing old stables new stables_after (turn.Local (actor.Controller c) (local.Suspect view)) Suspicion rested pairs refl refl there refl (Suspects view quorum (c ∷ members)) next
        (λ kinds holds start s. record {
          phase = s.phase;
          next = Suspecting view quorum members;
          closes = s.closes;
          move = λ later more. subst (λ m. IsMove m Suspicion (Suspecting view quorum members)) (sym (s.next later more)) (refl, refl);
        })
        stop k stops

    module _ (t : Applies sealing.size (turn.Local (actor.Controller c) (local.Suspect view)) old new) (k : Kept) (cause : TurnOutcome) (at : CameAt view new (actor.Controller c) cause) where
      suspected : (kinds : List ℕ) → Holds law sealing old kinds → Turned law (scene_in sealing old kinds) Suspicion old new
      suspected kinds holds = turned law saving sealing old stables new stables_after (turn.Local (actor.Controller c) (local.Suspect view)) Suspicion rested pairs refl refl there refl kinds holds k t

      pub suspect_leads : (quorum members : List ℕ) → LeadsTo law sealing (Suspects view quorum (c ∷ members)) (CameTo (Suspects view quorum members) cause) old new
      suspect_leads quorum members kinds holds start s =
          let scene = scene_in sealing old kinds in
          let turn = suspected kinds holds in
          let m = turn.is.controllers c there in
          let came_is = at m.member m.stands ∙ ap (λ (n : ℕ). came_of view n c (state_of m.member)) (ap (λ y. y.controllers) k.setup) in
          subst (λ x. CameTo (Suspects view quorum members) x scene start new) (sym came_is)
          (suspects_turn law scene old new (λ y h. knows y kinds h) view c m.member m.stands turn.is (local.Suspect view) quorum members refl turn start s)

      pub suspect_up : (kinds : List ℕ) → Holds law sealing old kinds → has (up_in old) c ≡ true → UpBy cause (up_in old) (up_in new)
      suspect_up kinds holds up =
          let scene = scene_in sealing old kinds in
          let turn = suspected kinds holds in
          let m = turn.is.controllers c there in
          let came_is = at m.member m.stands ∙ ap (λ (n : ℕ). came_of view n c (state_of m.member)) (ap (λ y. y.controllers) k.setup) in
          subst (λ x. UpBy x (up_in old) (up_in new)) (sym came_is)
          (turn_ups law scene old new (λ y h. knows y kinds h) view c m.member m.stands turn.is Suspicion turn
          (eq-eqb c c refl) (λ i other. other_number c i (nat_eq c i) refl other) up)
