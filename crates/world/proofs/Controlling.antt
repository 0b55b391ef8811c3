-- A controller goes on behind its own entries.
use Rattle.std.proofs.Common.{◌≡◌, ◌≤◌, ℕ, List, [], ◌∷◌, length, refl, sym, ◌∙◌, ap, subst, arith}
use Rattle.std.specs.Prelude.{Option, Some, None, slice_index_or}
use Rattle.app_core.specs.Law.{AppLaw}
use Rattle.journal.specs.declared.journal.Actor.{Actor}
use Rattle.journal.specs.declared.journal.JournalEntry.{JournalEntry}
use Rattle.journal.specs.declared.journal.JournalEntry.TheVariants.{Post, Draw, Lose, Local, Idle, Refused}
use Rattle.journal.specs.declared.journal.Letter.{Letter}
use Rattle.journal.specs.declared.journal.Packet.{Packet}
use Rattle.journal.specs.declared.journal.SaveResult.{SaveResult}
use Rattle.journal.specs.declared.journal.SaveResult.TheVariants.{Saved, KeptOld, KeptNew}
use Rattle.group_controller.specs.declared.messages.ControllerInput.{ControllerInput}
use Rattle.group_controller.specs.declared.messages.ControllerSays.{ControllerSays}
use Rattle.group_controller.specs.Rules.{controller_work}
use Rattle.group_controller.specs.State.{ControllerState, Work, starting_controller}
use Rattle.group_controller.specs.Turns.{Controlling, Controls, Done, Turns, state_of}
use Rattle.run_spec.specs.Inputs.{IsHeard}
use Rattle.run_spec.specs.Legal.{EntryFits, IsSoundController}
use Rattle.run_spec.specs.States.{Scene, ControllerAt, controller_at, controller_message, controller_rules, controller_saved, controller_speech, controller_took, crashed}
use Rattle.run_spec.proofs.Saves.{same_results, sound_with_more}
use Rattle.world.specs.World.{IsOwed}
use Rattle.world.specs.Standing.{ControllerStands, WorldStands}
use Rattle.world.proofs.Standing.{IsIdle, input_taken, posts, refuses, rests, takes}
use Rattle.world.proofs.Taking.{IsTaken, took_is}

-- a controller that takes an input knows what it was before it
abbrev Knows : ControllerAt → ControllerAt → Type 0
Knows w v = (v.before ≡ w.now) × (v.saves_before ≡ w.saves)

saved_knows : (w : ControllerAt) (work : Work) (promise life : ℕ) (r : SaveResult) → Knows w (controller_saved w work promise life r)
saved_knows w work promise life Saved = (refl, refl)
saved_knows w work promise life KeptOld = (refl, refl)
saved_knows w work promise life KeptNew = (refl, refl)

took_knows : (results : List SaveResult) (w : ControllerAt) (work : Work) → Knows w (controller_took results w work)
took_knows results w work = by_save work.save refl
  where
    by_save : (o : Option (ℕ × ℕ)) → work.save ≡ o → Knows w (controller_took results w work)
    by_save None is = rw is (refl, refl)
    by_save (Some pair) is = rw is (saved_knows w work pair.0 pair.1 (slice_index_or results w.saves Saved))

module _ {B A : Type 0} (law : AppLaw A) (scene : Scene B) (c : ℕ) (own : List (JournalEntry B × Option (Packet B))) where
  abbrev start : ControllerState
  start = starting_controller c scene.setup.controllers

  -- what it owes is posted
  pub controller_posts : (x : Controlling A) (l : Letter B) (ls : List (Letter B)) (a : Actor) (first lost : ℕ) (found : Option (Packet B)) →
      ControllerStands law scene c own x (l ∷ ls) → ControllerStands law scene c ((Post a first (l ∷ ls) lost, found) ∷ own) x []
  controller_posts x l ls a first lost found h = record {
    keeps = h.keeps;
    setup_is = h.setup_is;
    me_is = h.me_is;
    saves = h.saves;
    stands = posts (controller_rules scene x.results) controller_speech scene.sealing start own (state_of x) l ls a first lost found h.stands;
  }

  idle_saves : (x : Controlling A) (e : JournalEntry B) (found : Option (Packet B)) → IsIdle e → (controller_at scene x.results c ((e, found) ∷ own)).saves ≡ (controller_at scene x.results c own).saves
  idle_saves x (Lose a id) found idle = refl
  idle_saves x (Idle a) found idle = refl
  idle_saves x (Post a first letters lost) found idle = absurd idle
  idle_saves x (Draw a id keep) found idle = absurd idle
  idle_saves x (Local a input) found idle = absurd idle
  idle_saves x (Refused a) found idle = absurd idle

  -- it takes and posts nothing
  pub controller_rests : (x : Controlling A) (e : JournalEntry B) (found : Option (Packet B)) → IsIdle e → ControllerStands law scene c own x [] → ControllerStands law scene c ((e, found) ∷ own) x []
  controller_rests x e found idle h = record {
    keeps = h.keeps;
    setup_is = h.setup_is;
    me_is = h.me_is;
    saves = h.saves ∙ sym (idle_saves x e found idle);
    stands = rests (controller_rules scene x.results) controller_speech scene.sealing start own (state_of x) e found idle h.stands;
  }

  -- what it hears is refused: it is down with the pair from before, and has made no save
  pub controller_refuses : (old new : Controlling A) (x : ControllerInput) (e : JournalEntry B) (found nothing : Option (Packet B)) (a : Actor) → IsHeard scene e found x → EntryFits e →
      ControllerStands law scene c own old [] → state_of new ≡ crashed (state_of old) → new.results ≡ old.results → new.setup ≡ old.setup → new.me ≡ old.me → Controls law new scene.kinds →
      ControllerStands law scene c ((Refused a, nothing) ∷ (e, found) ∷ own) new []
  controller_refuses old new x e found nothing a heard typed h down unsaved setup_is me_is keeps = record {
    keeps = keeps;
    setup_is = setup_is ∙ h.setup_is;
    me_is = me_is ∙ h.me_is;
    saves = subst (λ (rs : List SaveResult). length rs ≡ (controller_at scene rs c ((Refused a, nothing) ∷ (e, found) ∷ own)).saves) (sym unsaved)
        (h.saves ∙ sym (ap (λ w. w.saves_before) on ∙ (knows).1));
    stands = subst (λ (rs : List SaveResult). WorldStands (controller_rules scene rs) controller_speech scene.sealing start ((Refused a, nothing) ∷ (e, found) ∷ own) (state_of new) []) (sym unsaved)
        (subst (λ (s : ControllerState). WorldStands (controller_rules scene old.results) controller_speech scene.sealing start ((Refused a, nothing) ∷ (e, found) ∷ own) s []) (sym down)
        (refuses (controller_rules scene old.results) controller_speech scene.sealing start own (state_of old) e found nothing x a heard typed h.stands (knows).0));
  }
    where
      knows : Knows (controller_at scene old.results c own) ((controller_rules scene old.results).takes (controller_at scene old.results c own) x)
      knows = let before = controller_at scene old.results c own in took_knows old.results before (controller_work scene.kinds scene.setup before.now x)

      on : controller_at scene old.results c ((e, found) ∷ own) ≡ (controller_rules scene old.results).takes (controller_at scene old.results c own) x
      on = input_taken (controller_rules scene old.results) controller_speech scene.sealing start own e found x heard

  -- a turn over its own entries
  module _ (old new : Controlling A) (input : ControllerInput) (letters : List (Letter ControllerSays)) (sealed : List (Letter B)) (pair_before pair_after : ℕ × ℕ) (before after : ℕ)
      (h : ControllerStands law scene c own old []) (turn : Turns scene.kinds old input letters new pair_before pair_after before after) where
    abbrev was : ControllerAt
    was = controller_at scene old.results c own

    abbrev is : ControllerAt
    is = controller_at scene new.results c own

    abbrev took : ControllerAt → ControllerAt
    took w = controller_took new.results w (controller_work scene.kinds scene.setup w.now input)

    done : let work = controller_work scene.kinds scene.setup was.now input in
        Done was.now work work.save (state_of new) letters old.results new.results pair_before pair_after before after
    done = rw (← h.stands.state_is, ← h.setup_is) turn

    taken : IsTaken old.results new.results was (took was) (state_of new) letters
    taken = took_is old.results new.results was (controller_work scene.kinds scene.setup was.now input) (sym h.saves) (state_of new) letters pair_before pair_after before after done

    few : was.saves ≤ length old.results
    few = let same = h.saves in omega (arith, same)

    -- with the results of now it was the same
    same_then : was ≡ is
    same_then = same_results scene old.results taken.more c own few ∙ ap (λ (rs : List SaveResult). controller_at scene rs c own) (sym taken.joined)

    stood : WorldStands (controller_rules scene new.results) controller_speech scene.sealing start own (state_of old) []
    stood = record {
      typed = h.stands.typed;
      finds = h.stands.finds;
      sound = subst (λ (rs : List SaveResult). IsSoundController scene rs c own) (sym taken.joined) (sound_with_more scene old.results taken.more c own h.stands.finds few h.stands.sound);
      state_is = h.stands.state_is ∙ ap (λ w. w.now) same_then;
      owes = subst (λ (w : ControllerAt). IsOwed controller_message scene.sealing w.owed []) same_then h.stands.owes;
    }

    -- it takes what it hears
    pub controller_takes : (e : JournalEntry B) (found : Option (Packet B)) → IsHeard scene e found input → EntryFits e → new.setup ≡ old.setup → new.me ≡ old.me → Controls law new scene.kinds →
        IsOwed controller_message scene.sealing letters sealed → ControllerStands law scene c ((e, found) ∷ own) new sealed
    controller_takes e found heard typed setup_is me_is keeps owes =
        let rules = controller_rules scene new.results in
        let same : took was ≡ took is = ap took same_then in
        let on : controller_at scene new.results c ((e, found) ∷ own) ≡ took is = input_taken rules controller_speech scene.sealing start own e found input heard in
        record {
          keeps = keeps;
          setup_is = setup_is ∙ h.setup_is;
          me_is = me_is ∙ h.me_is;
          saves = sym taken.saves ∙ ap (λ w. w.saves) same ∙ sym (ap (λ w. w.saves) on);
          stands = takes rules controller_speech scene.sealing start own (state_of old) e found input (state_of new) sealed heard typed stood
              (sym taken.now ∙ ap (λ w. w.now) same)
              (subst (λ (ls : List (Letter ControllerSays)). IsOwed controller_message scene.sealing ls sealed) (sym taken.owed ∙ ap (λ w. w.owed) same) owes);
        }
