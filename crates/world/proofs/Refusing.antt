-- A world keeps its invariant through an input that found no memory, and the entry that refuses it.
use Rattle.std.proofs.Common.{◌≡◌, ◌<◌, ℕ, List, [], ◌∷◌, ◌++◌, length, refl, sym, ◌∙◌, ap, subst, arith}
use Rattle.std.specs.Prelude.{slice_get, None}
use Rattle.journal.specs.declared.journal.Actor.{Actor}
use Rattle.journal.specs.declared.journal.Actor.TheVariants as actor
use Rattle.journal.specs.declared.journal.JournalEntry.{JournalEntry}
use Rattle.journal.specs.declared.journal.JournalEntry.TheVariants.{Refused}
use Rattle.journal.specs.declared.journal.Turn.{Turn}
use Rattle.journal.specs.Actors.{actor_of}
use Rattle.journal.specs.Orderly.{IsOrderly}
use Rattle.journal.specs.Part.{drawn}
use Rattle.journal.specs.Pool.{past}
use Rattle.journal.specs.Stables.{Saving}
use Rattle.journal.specs.Refusals.{MayBeRefused}
use Rattle.journal.specs.Turns.{entry_of, turn_actor}
use Rattle.journal.proofs.Lists.{past-push}
use Rattle.of_switch.specs.declared.says.SwitchInput.{SwitchInput}
use Rattle.app_core.specs.Law.{AppLaw}
use Rattle.group_controller.specs.declared.messages.ControllerInput.{ControllerInput}
use Rattle.run_spec.specs.Inputs.{IsHeard, IsHeardAt}
use Rattle.run_spec.specs.Legal.{EntryFits}
use Rattle.run_spec.specs.States.{Sealing}
use Rattle.world.specs.Actors.{ControllerRefused, SwitchRefused}
use Rattle.world.specs.Refusals.{IsLeftOut, StepStops, Turned_down}
use Rattle.world.specs.World.{Holds, HoldsAt, Keeps, PairsStand, Worlding, results_in, scene_in, taken}
use Rattle.world.proofs.Entering.{controller_left_out, switch_left_out}
use Rattle.world.proofs.Places.{got_other}
use Rattle.world.proofs.Stables.{pairs_wanted, told_wanted}
use Rattle.world.proofs.Turning.{none_told}

module _ {B A W : Type 0} (law : AppLaw A) (saving : Saving W) (sealing : Sealing B) (w : Worlding B A) (stables : List W)
    (rests : w.owed ≡ None) (stand : PairsStand saving stables w.controllers) (e : JournalEntry B) where
  abbrev entered : Worlding B A
  entered = record w { journal = w.journal ++ e ∷ [] }

  -- the past behind the refusal
  past_refused : (a : Actor) → past ((w.journal ++ e ∷ []) ++ Refused a ∷ []) ≡ Refused a ∷ e ∷ past w.journal
  past_refused a = past-push (w.journal ++ e ∷ []) (Refused a) ∙ ap (λ (es : List (JournalEntry B)). Refused a ∷ es) (past-push w.journal e)

  -- a controller is down, with the pair from before
  module _ (c : ℕ) (there : c < w.setup.controllers) (mine : actor_of e ≡ actor.Controller c) (x : ControllerInput) (stables_after : List W) (v : Worlding B A)
      (heard : (kinds : List ℕ) → IsHeard (scene_in sealing w kinds) e (drawn e (past w.journal)) x) (typed : EntryFits e) (orderly : IsOrderly sealing.size (past v.journal))
      (t : ControllerRefused law saving entered stables c v stables_after) where
    abbrev u : Worlding B A
    u = record entered { journal = (w.journal ++ e ∷ []) ++ Refused (actor.Controller c) ∷ []; controllers = v.controllers }

    controller_holds : (kinds : List ℕ) → Holds law sealing w kinds → Holds law sealing u kinds
    controller_holds kinds h = record {
      run = subst (λ (l : List (JournalEntry B)). HoldsAt law (scene_in sealing w kinds) (results_in v.controllers) l u) (sym (past_refused (actor.Controller c)))
          (controller_left_out law (scene_in sealing w kinds) (past w.journal) w h.run saving u rests e c there mine x (heard kinds) typed
          (subst (λ l. IsOrderly sealing.size l) (ap (λ (z : Worlding B A). past z.journal) t.left ∙ past_refused (actor.Controller c)) orderly) stables stables_after t.wants refl rests);
      few = h.few;
    }

    pub controller_keeps : Keeps law saving sealing w stables v stables_after
    controller_keeps = record {
      setup = ap (λ (z : Worlding B A). z.setup) t.left;
      holds = λ kinds h. subst (λ (z : Worlding B A). Holds law sealing z kinds) (sym t.left) (controller_holds kinds h);
      pairs = pairs_wanted law saving w.controllers v.controllers stables stables_after c t.wants stand;
      told = told_wanted law saving w.controllers v.controllers stables stables_after c t.wants;
      beyond = λ i past. ap (λ (l : List W). slice_get l i) t.wants.stables_are ∙ got_other stables c i t.wants.stable_after (λ same. omega (arith, there, past, same));
    }

    pub controller_stops : (turn : Turn) → e ≡ entry_of turn (past w.journal) → turn_actor turn ≡ actor.Controller c → MayBeRefused (past (taken turn w.journal)) → StepStops law saving sealing turn w stables v stables_after
    controller_stops turn entry takes may =
        Turned_down controller_keeps (record {
          input = may;
          journal = ap (λ (z : Worlding B A). z.journal) t.left ∙ ap (λ (y : JournalEntry B). (w.journal ++ y ∷ []) ++ Refused (actor.Controller c) ∷ []) entry ∙
              ap (λ (a : Actor). taken turn w.journal ++ Refused a ∷ []) (sym takes);
          rests = ap (λ (z : Worlding B A). z.owed) t.left ∙ rests;
          left = subst (λ (a : Actor). IsLeftOut a w v) (sym takes) (
            ap (λ (z : Worlding B A). z.switches) t.left,
            record {
              old = t.wants.old;
              new = t.wants.new;
              stood = t.wants.stood;
              state = t.wants.state;
              down = t.wants.wanted.wants.state_is;
              unsaved = t.wants.wanted.wants.kept;
            },
          );
        })

  -- a switch is as it was
  module _ (s : ℕ) (there : s < length w.setup.ports) (mine : actor_of e ≡ actor.Switch s) (x : SwitchInput) (v : Worlding B A)
      (heard : (kinds : List ℕ) → IsHeardAt (scene_in sealing w kinds) e (drawn e (past w.journal)) x) (typed : EntryFits e) (orderly : IsOrderly sealing.size (past v.journal))
      (t : SwitchRefused entered s v) where
    abbrev as_was : Worlding B A
    as_was = record entered { journal = (w.journal ++ e ∷ []) ++ Refused (actor.Switch s) ∷ [] }

    switch_holds : (kinds : List ℕ) → Holds law sealing w kinds → Holds law sealing as_was kinds
    switch_holds kinds h = record {
      run = subst (λ (l : List (JournalEntry B)). HoldsAt law (scene_in sealing w kinds) (results_in w.controllers) l as_was) (sym (past_refused (actor.Switch s)))
          (switch_left_out law (scene_in sealing w kinds) (past w.journal) w h.run as_was rests e s there mine x (heard kinds) typed
          (subst (λ l. IsOrderly sealing.size l) (ap (λ (z : Worlding B A). past z.journal) t ∙ past_refused (actor.Switch s)) orderly) refl refl rests);
      few = h.few;
    }

    pub switch_keeps : Keeps law saving sealing w stables v stables
    switch_keeps = subst (λ (z : Worlding B A). Keeps law saving sealing w stables z stables) (sym t) (record {
      setup = refl;
      holds = switch_holds;
      pairs = stand;
      told = none_told saving stables w.controllers;
      beyond = λ i past. refl;
    })

    pub switch_stops : (turn : Turn) → e ≡ entry_of turn (past w.journal) → turn_actor turn ≡ actor.Switch s → MayBeRefused (past (taken turn w.journal)) → StepStops law saving sealing turn w stables v stables
    switch_stops turn entry takes may =
        Turned_down switch_keeps (record {
          input = may;
          journal = ap (λ (z : Worlding B A). z.journal) t ∙ ap (λ (y : JournalEntry B). (w.journal ++ y ∷ []) ++ Refused (actor.Switch s) ∷ []) entry ∙
              ap (λ (a : Actor). taken turn w.journal ++ Refused a ∷ []) (sym takes);
          rests = ap (λ (z : Worlding B A). z.owed) t ∙ rests;
          left = subst (λ (a : Actor). IsLeftOut a w v) (sym takes) (ap (λ (z : Worlding B A). z.switches) t, ap (λ (z : Worlding B A). z.controllers) t);
        })
