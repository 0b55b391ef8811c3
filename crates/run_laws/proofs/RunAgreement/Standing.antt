-- A controller after its part of a past stands where agreement has it.
use Rattle.std.proofs.Common.{◌≡◌, ℕ, ◌+◌, ◌*◌, Bool, true, false, cond, nat_eq, Option, Some, None, List, [], ◌∷◌, ◌++◌, map, filter, refl, sym, ap, ◌∙◌}
use Rattle.std.specs.Prelude.{slice_index_or}
use Rattle.journal.specs.declared.journal.Actor.TheVariants as actor
use Rattle.journal.specs.declared.journal.JournalEntry.{JournalEntry}
use Rattle.journal.specs.declared.journal.JournalEntry.TheVariants.{Post, Draw, Lose, Local, Idle, Refused}
use Rattle.journal.specs.declared.journal.Letter.{Letter}
use Rattle.journal.specs.declared.journal.Packet.{Packet}
use Rattle.journal.specs.declared.journal.SaveResult.{SaveResult}
use Rattle.journal.specs.declared.journal.SaveResult.TheVariants.{Saved, KeptOld, KeptNew}
use Rattle.journal.specs.Orderly.{IsOrderly}
use Rattle.journal.specs.Part.{part, packet_of}
use Rattle.journal.specs.Pool.{pool}
use Rattle.list_facts.specs.Fold.{ActorStanding, actor_standing}
use Rattle.agreement.specs.History as core
use Rattle.agreement.specs.History.{size}
use Rattle.agreement.specs.Journals as journal
use Rattle.agreement.specs.Journals.{Input, Rules, controller_of, own_step, actor_rules, stands}
use Rattle.vr_log.specs.declared.entry.Entry.{Entry}
use Rattle.group_controller.specs.declared.messages.ControllerInput.{ControllerInput}
use Rattle.group_controller.specs.declared.messages.ControllerInput.TheVariants as controller_input
use Rattle.group_controller.specs.declared.messages.ControllerSays.{ControllerSays}
use Rattle.group_controller.specs.State.{ControllerState, Work, starting_controller, down}
use Rattle.group_controller.specs.Rules.{controller_work}
use Rattle.controller_moves.specs.Projection.{OwnInput, Happens, input_of, letters_to_members}
use Rattle.controller_moves.specs.Rules.{SavingController, saved, done}
use Rattle.run_spec.specs.States.{Scene, ControllerAt, content, controller_hears, controller_saved, controller_took, controller_at}
use Rattle.run_spec.specs.Legal.{IsTurn, results_of}
use Rattle.run_spec.proofs.Pools.{drawn_found}
use Rattle.run_laws.specs.RunAgreement.Projection.{taken_by, journal_entries_of, past_of, rules_of}
use Rattle.run_laws.proofs.RunAgreement.Inputs.{same_input}

abbrev pub saving : ControllerAt → SavingController
saving w = record { state = w.now; saves = w.saves }

abbrev pub saving_before : ControllerAt → SavingController
saving_before w = record { state = w.before; saves = w.saves_before }

-- a turn with its save, here and there
record TookAlike (w : ControllerAt) (out : SavingController × List (Letter ControllerSays)) (w' : ControllerAt) : Type 0 where
  pub now : out.0 ≡ saving w'
  pub owed : out.1 ≡ w'.owed
  pub before : w'.before ≡ w.now
  pub saves_before : w'.saves_before ≡ w.saves

took_by : (results : List SaveResult) (w : ControllerAt) (work : Work) (save : Option (ℕ × ℕ)) → TookAlike w (done results (saving w) work save) (elim save [
  | None ↦ record { now = work.state; before = w.now; owed = work.letters; fresh = true; saves = w.saves; saves_before = w.saves }
  | Some pair ↦ controller_saved w work pair.0 pair.1 (slice_index_or results w.saves Saved)
])
took_by results w work None = record { now = refl; owed = refl; before = refl; saves_before = refl }
took_by results w work (Some pair) = by_result (slice_index_or results w.saves Saved)
  where
    by_result : (result : SaveResult) → TookAlike w (saved (saving w) work pair result) (controller_saved w work pair.0 pair.1 result)
    by_result Saved = record { now = refl; owed = refl; before = refl; saves_before = refl }
    by_result KeptOld = record { now = refl; owed = refl; before = refl; saves_before = refl }
    by_result KeptNew = record { now = refl; owed = refl; before = refl; saves_before = refl }

took : (results : List SaveResult) (w : ControllerAt) (work : Work) → TookAlike w (done results (saving w) work work.save) (controller_took results w work)
took results w work = took_by results w work work.save

module _ {B : Type 0} (scene : Scene B) (results : List (List SaveResult)) (most_failures : ℕ) (c : ℕ) where
  abbrev at : List (JournalEntry B × Option (Packet B)) → ControllerAt
  at ps = controller_at scene (results_of results c) c ps

  abbrev r : Rules OwnInput SavingController Entry
  r = rules_of scene most_failures results

  abbrev turn : SavingController → Input OwnInput Entry → SavingController × List (core.Letter Entry)
  turn a x = r.turn c a x

  -- where agreement has this controller, and where its part of a past has it
  pub record StandsAlike (v : ActorStanding SavingController (core.Letter Entry)) (ps : List (JournalEntry B × Option (Packet B))) : Type 0 where
    pub now : v.now ≡ saving (at ps)
    pub before : v.before ≡ saving_before (at ps)
    pub owed : v.owed ≡ letters_to_members c (at ps).owed
    pub fresh : IsTurn ps → v.fresh ≡ true

  -- after a turn
  taking : (v : ActorStanding SavingController (core.Letter Entry)) (ps : List (JournalEntry B × Option (Packet B))) (s : JournalEntry B × Option (Packet B))
      → (y : ControllerInput) (x : Input OwnInput Entry) → input_of x ≡ y
      → at (s ∷ ps) ≡ controller_took (results_of results c) (at ps) (controller_work scene.kinds scene.setup (at ps).now y) → StandsAlike v ps
      → StandsAlike (journal.took r c v x) (s ∷ ps)
  taking v ps s y x e k same =
      let w : ControllerAt = at ps in
      let work : ControllerInput → Work = λ i. controller_work scene.kinds scene.setup w.now i in
      let z = took (results_of results c) w (work y) in
      record {
        now = ap (λ (a : SavingController). (turn a x).0) same.now ∙ ap (λ (i : ControllerInput). (done (results_of results c) (saving w) (work i) (work i).save).0) e ∙ z.now ∙ ap (λ (u : ControllerAt). saving u) (sym k);
        before = same.now ∙ ap (λ (n : ℕ). record { state = w.now; saves = n }) (sym z.saves_before)
            ∙ ap (λ (n : ControllerState). record { state = n; saves = (controller_took (results_of results c) w (work y)).saves_before }) (sym z.before) ∙ ap (λ (u : ControllerAt). saving_before u) (sym k);
        owed = ap (λ (a : SavingController). (turn a x).1) same.now ∙ ap (λ (i : ControllerInput). letters_to_members c (done (results_of results c) (saving w) (work i) (work i).save).1) e
            ∙ ap (λ (ls : List (Letter ControllerSays)). letters_to_members c ls) z.owed ∙ ap (λ (u : ControllerAt). letters_to_members c u.owed) (sym k);
        fresh = λ i. refl;
      }

  -- where this controller stands after these entries, its own ones of a past
  abbrev after : List (journal.Entry OwnInput Entry) → ActorStanding SavingController (core.Letter Entry)
  after own = actor_standing (actor_rules r c) (r.start c) (map own_step own)

  abbrev own_of : List (JournalEntry B) → List (journal.Entry OwnInput Entry)
  own_of entries = filter (λ e. nat_eq (controller_of e) c) (past_of scene entries)

  -- an entry of this controller, or of another
  choose : (t : Bool) (e : journal.Entry OwnInput Entry) (own : List (journal.Entry OwnInput Entry))
      → (ps : List (JournalEntry B × Option (Packet B))) (s : JournalEntry B × Option (Packet B))
      → StandsAlike (after (e ∷ own)) (s ∷ ps) → StandsAlike (after own) ps → StandsAlike (after (cond t (e ∷ own) own)) (cond t (s ∷ ps) ps)
  choose true e own ps s new old = new
  choose false e own ps s new old = old

  -- one that the moves do not see
  skip : (t : Bool) (v : ActorStanding SavingController (core.Letter Entry)) (ps : List (JournalEntry B × Option (Packet B))) (s : JournalEntry B × Option (Packet B))
      → StandsAlike v (s ∷ ps) → StandsAlike v ps → StandsAlike v (cond t (s ∷ ps) ps)
  skip true v ps s new old = new
  skip false v ps s new old = old

  abbrev stand : List (JournalEntry B) → ActorStanding SavingController (core.Letter Entry)
  stand entries = stands r c (past_of scene entries)

  drawing : (d id : ℕ) (keep : Bool) (before : List (JournalEntry B)) (p : Packet B) (q : Option (Packet B)) → q ≡ Some p → StandsAlike (stand before) (part (actor.Controller c) before)
      → StandsAlike (stands r c (journal_entries_of scene (Draw (actor.Controller d) id keep) q ++ past_of scene before))
      (cond (nat_eq d c) ((Draw (actor.Controller d) id keep, q) ∷ part (actor.Controller c) before) (part (actor.Controller c) before))
  drawing d id keep before p None e same = absurd cc
  drawing d id keep before p (Some q) e same =
      let y : ControllerInput = controller_hears q.from (content scene.sealing q) in
      choose (nat_eq d c) _ (own_of before) (part (actor.Controller c) before) (Draw (actor.Controller d) id keep, Some q)
      (taking (stand before) (part (actor.Controller c) before) (Draw (actor.Controller d) id keep, Some q) y (taken_by d y) (same_input d y) refl same) same

  pub stands_alike : scene.setup.controllers ≡ 2 * most_failures + 1 → (entries : List (JournalEntry B)) → IsOrderly scene.sealing.size entries → StandsAlike (stand entries) (part (actor.Controller c) entries)
  unfolding size
  stands_alike n [] k =
      let start : ℕ → SavingController = λ m. record { state = starting_controller c m; saves = 0 } in
      record { now = ap start (sym n); before = ap start (sym n); owed = refl; fresh = λ i. absurd i }
  stands_alike n (Post (actor.Controller d) first letters lost ∷ before) k =
      let old = stands_alike n before k.2 in
      choose (nat_eq d c) _ (own_of before) (part (actor.Controller c) before) (Post (actor.Controller d) first letters lost, None)
      (record { now = old.now; before = old.before; owed = refl; fresh = λ i. absurd i }) old
  stands_alike n (Draw (actor.Controller d) id keep ∷ before) k =
      let found = drawn_found scene.sealing.size (actor.Controller d) id keep before k in
      drawing d id keep before found.packet (packet_of id (pool before)) found.found (stands_alike n before k.1)
  stands_alike n (Local (actor.Controller d) what ∷ before) k =
      let old = stands_alike n before k in
      choose (nat_eq d c) _ (own_of before) (part (actor.Controller c) before) (Local (actor.Controller d) what, None)
      (taking (stand before) (part (actor.Controller c) before) (Local (actor.Controller d) what, None) (controller_input.Local what) (journal.Local (Happens what)) refl refl old) old
  stands_alike n (Refused (actor.Controller d) ∷ before) k =
      let old = stands_alike n before k in
      choose (nat_eq d c) _ (own_of before) (part (actor.Controller c) before) (Refused (actor.Controller d), None)
      (record {
        now = ap (λ (a : SavingController). record a { state = down a.state a.state.vr.promise a.state.vr.life }) old.before;
        before = old.before;
        owed = refl;
        fresh = λ i. absurd i;
      })
      old
  stands_alike n (Lose (actor.Controller d) id ∷ before) k =
      let old = stands_alike n before k.1 in
      skip (nat_eq d c) (stand before) (part (actor.Controller c) before) (Lose (actor.Controller d) id, None) (record { now = old.now; before = old.before; owed = old.owed; fresh = λ i. absurd i }) old
  stands_alike n (Idle (actor.Controller d) ∷ before) k =
      let old = stands_alike n before k.1 in
      skip (nat_eq d c) (stand before) (part (actor.Controller c) before) (Idle (actor.Controller d), None) (record { now = old.now; before = old.before; owed = old.owed; fresh = λ i. absurd i }) old
  stands_alike n (Post (actor.Switch s) first letters lost ∷ before) k = stands_alike n before k.2
  stands_alike n (Draw (actor.Switch s) id keep ∷ before) k = stands_alike n before k.1
  stands_alike n (Local (actor.Switch s) what ∷ before) k = stands_alike n before k
  stands_alike n (Refused (actor.Switch s) ∷ before) k = stands_alike n before k
  stands_alike n (Lose (actor.Switch s) id ∷ before) k = stands_alike n before k.1
  stands_alike n (Idle (actor.Switch s) ∷ before) k = stands_alike n before k.1
