-- What the journal of a world gives, whatever becomes of later saves.
use Rattle.std.proofs.Common.{◌≡◌, ◌≤◌, ◌<◌, ℕ, ◌+◌, true, List, [], ◌∷◌, ◌++◌, map, drop, refl, sym, ◌∙◌, ap, subst, arith}
use Rattle.std.specs.Prelude.{max, option_map, slice_get, Option, Some, None, IfSome}
use Rattle.std.specs.List.{range_with_len}
use Rattle.std.proofs.lemmas.Option.{slice_get_within, slice_get-map}
use Rattle.journal.specs.declared.journal.Actor.{Actor}
use Rattle.journal.specs.declared.journal.Actor.TheVariants as actor
use Rattle.journal.specs.declared.journal.JournalEntry.{JournalEntry}
use Rattle.journal.specs.declared.journal.SaveResult.{SaveResult}
use Rattle.journal.specs.Actors.{actor_of, IsActor}
use Rattle.journal.specs.Pool.{past}
use Rattle.group_controller.specs.State.{ControllerState, fresh}
use Rattle.group_controller.specs.Turns.{Controlling, Controls, Stands, state_of, state_or}
use Rattle.group_controller.specs.Acting.{Acting}
use Rattle.vr_log.specs.Valid.{down_state}
use Rattle.app_core.specs.Law.{AppLaw}
use Rattle.run_laws.specs.Laws.{IsSuspectedUpTo}
use Rattle.run_laws.proofs.Views.{views_up_to}
use Rattle.run_spec.specs.States.{IsFaithful, Scene, Sealing}
use Rattle.run_spec.specs.Legal.{IsLegalPast}
use Rattle.run_spec.specs.Committed.{controller_state, members_up, states_of}
use Rattle.run_spec.specs.Script.{IsPosted, owed_of}
use Rattle.run_spec.specs.Closing.{bound_of}
use Rattle.run_spec.proofs.Pasts.{from_some}
use Rattle.world.specs.World.{AreMore, Holds, HoldsAt, Worlding, debt_of, results_in, scene_in}
use Rattle.world.proofs.Growing.{same_at, no_more}
use Rattle.closing_laws.specs.Quorum.{has}
use Rattle.closing.specs.Closing.{HaveViewsUpTo, states_in, up_in, member_in, bound_with}
use Rattle.closing.proofs.Lists.{bound_limit, map_range, member_there, members_next, bound_next}

-- the state of a controller, by its number
pub state_at : {A : Type 0} (controllers : List (Controlling A)) (i : ℕ) (x : Controlling A) → slice_get controllers i ≡ Some x → slice_get (states_in controllers) i ≡ Some (state_of x)
state_at controllers i x found = slice_get-map (λ c. state_of c) controllers i ∙ ap (λ o. option_map (λ c. state_of c) o) found

-- one more controller was counted
pub counted : {A : Type 0} (up more : List ℕ) (i : ℕ) (controllers : List (Controlling A)) (x : Controlling A) → slice_get controllers i ≡ Some x → more ≡ up ++ member_in (state_of x) →
    up ++ members_up (drop i (states_in controllers)) ≡ members_up (states_in controllers) → more ++ members_up (drop (i + 1) (states_in controllers)) ≡ members_up (states_in controllers)
counted up more i controllers x found is before =
    ap (λ l. l ++ members_up (drop (i + 1) (states_in controllers))) is ∙ members_next up i (states_in controllers) (state_of x) (state_at controllers i x found) ∙ before

-- and its view and promise
pub bounded : {A : Type 0} (bound next : ℕ) (i : ℕ) (controllers : List (Controlling A)) (x : Controlling A) → slice_get controllers i ≡ Some x → next ≡ bound_with bound (state_of x) →
    max bound (bound_of (drop i (states_in controllers))) ≡ bound_of (states_in controllers) → max next (bound_of (drop (i + 1) (states_in controllers))) ≡ bound_of (states_in controllers)
bounded bound next i controllers x found is before =
    ap (λ b. max b (bound_of (drop (i + 1) (states_in controllers)))) is ∙ bound_next bound i (states_in controllers) (state_of x) (state_at controllers i x found) ∙ before

-- the bound of a world whose views are not above a limit
pub bound_near : {A : Type 0} (limit : ℕ) (controllers : List (Controlling A)) → HaveViewsUpTo limit controllers → bound_of (states_in controllers) ≤ limit + 1
bound_near {A = A} limit controllers views = bound_limit limit (states_in controllers) each
  where
    by_found : (i : ℕ) (s : ControllerState) (o : Option (Controlling A)) → slice_get controllers i ≡ o → option_map (λ c. state_of c) o ≡ Some s → (s.vr.view ≤ limit) × (s.vr.promise ≤ limit)
    by_found i s None is h = cc
    by_found i s (Some x) is h = subst (λ y. (y.vr.view ≤ limit) × (y.vr.promise ≤ limit)) (from_some (state_of x) s h) (views i x is)

    each : (i : ℕ) (s : ControllerState) → slice_get (states_in controllers) i ≡ Some s → (s.vr.view ≤ limit) × (s.vr.promise ≤ limit)
    each i s found = by_found i s (slice_get controllers i) refl (sym (slice_get-map (λ c. state_of c) controllers i) ∙ found)

-- the world of a run
abbrev pub Runs : {B A : Type 0} → AppLaw A → Scene B → Worlding B A → Type 0
Runs law scene w = HoldsAt law scene (results_in w.controllers) (past w.journal) w

-- what a controller knows of itself
pub record KnowsItself {A : Type 0} (x : Controlling A) : Type 0 where
  pub me : (state_of x).vr.me ≡ x.me
  pub group : (state_of x).vr.controllers ≡ x.setup.controllers
  pub promise : (state_of x).vr.promise ≡ x.promise

module _ {A : Type 0} (law : AppLaw A) where
  pub knows_itself : (x : Controlling A) (kinds : List ℕ) → Controls law x kinds → KnowsItself x
  knows_itself x kinds controls = by_acting x.acting refl
    where
      below : ControllerState
      below = fresh (down_state x.me x.setup.controllers x.promise x.life)

      by_acting : (o : Option (Acting A)) → x.acting ≡ o → KnowsItself x
      by_acting None is = record {
        me = ap (λ o. (state_or below o).vr.me) is;
        group = ap (λ o. (state_or below o).vr.controllers) is;
        promise = ap (λ o. (state_or below o).vr.promise) is;
      }
      by_acting (Some a) is =
          let stands = subst (λ o. IfSome o (Stands law x kinds)) is controls.acting in
          record {
            me = ap (λ o. (state_or below o).vr.me) is ∙ stands.me;
            group = ap (λ o. (state_or below o).vr.controllers) is ∙ stands.controllers;
            promise = ap (λ o. (state_or below o).vr.promise) is ∙ stands.promise;
          }

module _ {B A : Type 0} (law : AppLaw A) (scene : Scene B) (w : Worlding B A) (runs : Runs law scene w) where
  -- each controller is one that the run has
  pub there : (c : ℕ) (x : Controlling A) → slice_get w.controllers c ≡ Some x → c < scene.setup.controllers
  there c x found = let within = slice_get_within w.controllers c x found in let group = runs.group in omega (arith, within, group)

  module _ (later : List (List SaveResult)) (more : AreMore scene.setup.controllers (results_in w.controllers) later) where
    -- and in the state that the run gives
    pub state_is : (c : ℕ) (x : Controlling A) → slice_get w.controllers c ≡ Some x → controller_state scene later c (past w.journal) ≡ state_of x
    state_is c x found =
        let m = runs.controllers c (there c x found) in
        let one : m.member ≡ x = from_some m.member x (sym m.stands ∙ found) in
        sym (ap (λ v. v.now) (same_at scene (results_in w.controllers) later (past w.journal) runs.legal more c (there c x found))) ∙ sym m.state ∙ ap (λ y. state_of y) one

    pub states_are : states_of scene later (past w.journal) ≡ states_in w.controllers
    states_are =
        ap (λ n. map (λ c. controller_state scene later c (past w.journal)) (range_with_len 0 n)) (sym runs.group) ∙
        map_range (λ c. controller_state scene later c (past w.journal)) (λ x. state_of x) w.controllers 0 (λ i x found. ap (λ n. controller_state scene later n (past w.journal)) (plus_zero i) ∙ state_is i x found)
      where
        plus_zero : (n : ℕ) → 0 + n ≡ n
        plus_zero n = omega arith

    owes_none : w.owed ≡ None → (a : Actor) → IsActor scene.setup a → owed_of scene later a (past w.journal) ≡ []
    owes_none rests (actor.Controller c) within =
        let same = same_at scene (results_in w.controllers) later (past w.journal) runs.legal more c within in
        rw (sym same) (sym (runs.controller_debts c within).sealed ∙ ap (λ o. debt_of o (actor.Controller c)) rests)
    owes_none rests (actor.Switch s) within = sym (runs.switch_debts s within).sealed ∙ ap (λ o. debt_of o (actor.Switch s)) rests

    posted_by : w.owed ≡ None → (entries : List (JournalEntry B)) → past w.journal ≡ entries → IsPosted scene later entries
    posted_by rests [] is = tt
    posted_by rests (e ∷ before) is =
        let legal = subst (λ l. IsLegalPast scene (results_in w.controllers) l) is runs.legal in
        subst (λ l. owed_of scene later (actor_of e) l ≡ []) is (owes_none rests (actor_of e) legal.possible.named.0)

    -- nothing is owed, so all is posted
    pub posted_is : w.owed ≡ None → IsPosted scene later (past w.journal)
    posted_is rests = posted_by rests (past w.journal) refl

  -- who each controller is
  pub member_of : (c : ℕ) (x : Controlling A) → slice_get w.controllers c ≡ Some x → Controls law x scene.kinds × (x.me ≡ c) × (x.setup ≡ scene.setup)
  member_of c x found =
      let m = runs.controllers c (there c x found) in
      let one : m.member ≡ x = from_some m.member x (sym m.stands ∙ found) in
      (subst (λ y. Controls law y scene.kinds) one m.keeps, ap (λ y. y.me) (sym one) ∙ m.me, ap (λ y. y.setup) (sym one) ∙ m.setup)

  -- those that take part are of the group
  pub up_within : ((x : Controlling A) → Controls law x scene.kinds → KnowsItself x) → (c : ℕ) → has (up_in w) c ≡ true → c < scene.setup.controllers
  up_within knows c found =
      let results = results_in w.controllers in
      let more = no_more scene.setup.controllers results in
      let r = member_there (λ i. controller_state scene results i (past w.journal)) 0 scene.setup.controllers c
      (λ i low high. let m = runs.controllers i (omega (arith, high)) in ap (λ s. s.vr.me) (state_is results more i m.member m.stands) ∙ (knows m.member m.keeps).me ∙ m.me)
      (ap (λ l. has (members_up l) c) (states_are results more) ∙ found) in
      let within = r.0 in omega (arith, within)

-- no controller of a world has, or has promised, a view above the greatest that was suspected
pub views_known : {B A : Type 0} (law : AppLaw A) (sealing : Sealing B) → IsFaithful sealing → (w : Worlding B A) (kinds : List ℕ) → Holds law sealing w kinds →
    (limit : ℕ) → IsSuspectedUpTo limit (past w.journal) → HaveViewsUpTo limit w.controllers
views_known law sealing faithful w kinds h limit suspected c x found =
    let run = h.run in
    let within = slice_get_within w.controllers c x found in
    let group = run.group in
    let there : c < w.setup.controllers = omega (arith, within, group) in
    let m = run.controllers c there in
    let views = views_up_to (scene_in sealing w kinds) (results_in w.controllers) (past w.journal) run.setup faithful run.legal.possible limit suspected c there in
    subst (λ (s : ControllerState). (s.vr.view ≤ limit) × (s.vr.promise ≤ limit)) (sym m.state ∙ ap state_of (from_some m.member x (sym m.stands ∙ found))) views
