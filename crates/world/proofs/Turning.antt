-- What a world keeps through the step of an actor, and through the post of what it owes.
use Rattle.std.proofs.Common.{◌≡◌, ◌<◌, ◌≤◌, ℕ, true, false, Bool, List, [], ◌∷◌, ◌++◌, length, refl, sym, ◌∙◌, ap, subst, arith, append-nil}
use Rattle.std.specs.Prelude.{slice_get, Option, Some, None, IfSome, Result, Ok, Err, OnOk, IfErr, if◌then◌else◌}
use Rattle.std.specs.List.{AllByRecursion}
use Rattle.std.proofs.lemmas.Bool.{eqb-true}
use Rattle.of_types.specs.declared.setup.Setup.{Setup}
use Rattle.journal.specs.declared.journal.Actor.{Actor}
use Rattle.journal.specs.declared.journal.Actor.TheVariants as actor
use Rattle.journal.specs.declared.journal.JournalEntry.{JournalEntry}
use Rattle.journal.specs.declared.journal.JournalEntry.TheVariants.{Post}
use Rattle.journal.specs.declared.journal.Letter.{Letter}
use Rattle.journal.specs.Actors.{actor_of, same_actor, IsActor}
use Rattle.journal.specs.Orderly.{IsOrderly, lost_of}
use Rattle.journal.specs.Part.{part, drawn}
use Rattle.journal.specs.declared.journal.Turn.{Turn}
use Rattle.journal.specs.Pool.{past, pool, letters_posted}
use Rattle.journal.specs.Turns.{entry_of, posting, turn_actor}
use Rattle.journal.proofs.Lists.{past-push}
use Rattle.of_switch.specs.State.{SwitchState}
use Rattle.of_switch.specs.declared.says.SwitchInput.{SwitchInput}
use Rattle.journal.specs.Stables.{Saving}
use Rattle.app_core.specs.Law.{AppLaw}
use Rattle.group_controller.specs.declared.messages.ControllerInput.{ControllerInput}
use Rattle.group_controller.specs.declared.messages.ControllerSays.{ControllerSays}
use Rattle.group_controller.specs.Turns.{Controlling, Controls}
use Rattle.run_spec.specs.Inputs.{IsHeard, IsHeardAt}
use Rattle.run_spec.specs.Legal.{EntryFits, results_of}
use Rattle.run_spec.specs.Script.{IsInputOf}
use Rattle.run_spec.specs.States.{IsFaithful, Scene, Sealing, controller_at, switch_at, controller_message, switch_message}
use Rattle.run_spec.proofs.Pasts.{from_some}
use Rattle.world.specs.Debts.{Debt}
use Rattle.world.specs.Actors.{ControllerOwes, ControllerTakes, SwitchOwes}
use Rattle.world.specs.World.{AreTold, Holds, HoldsAt, IsOwed, Keeps, PairsStand, Steps, Worlding, debt_of, posts_of, results_in, scene_in}
use Rattle.world.proofs.Entering.{controller_enters, idle_enters, post_enters, switch_enters}
use Rattle.world.proofs.Places.{got_other, got_set}
use Rattle.world.proofs.Standing.{IsIdle}
use Rattle.world.proofs.Stables.{each_told, each_told_then, pairs_stand, unsaved_told}

-- nothing is saved
pub none_told : {A W : Type 0} (saving : Saving W) (stables : List W) (controllers : List (Controlling A)) → AreTold saving stables stables controllers controllers
none_told saving stables controllers c x stable found stands = (x, stable, found, stands, unsaved_told (saving.faults stable) x.results)

-- one that owes is an actor of the setup
named_debtor : {B : Type 0} (scene : Scene B) (entries : List (JournalEntry B)) (a : Actor) → AllByRecursion (λ e. IsActor scene.setup (actor_of e)) entries → IsInputOf a entries → IsActor scene.setup a
named_debtor scene [] a named h = absurd h
named_debtor scene (e ∷ before) a named h = same_named (actor_of e) a h.1 named.0
  where
    same_named : (x y : Actor) → same_actor x y ≡ true → IsActor scene.setup x → IsActor scene.setup y
    same_named (actor.Controller i) (actor.Controller j) same is = subst (λ (n : ℕ). n < scene.setup.controllers) (eqb-true i j same) is
    same_named (actor.Switch i) (actor.Switch j) same is = subst (λ (n : ℕ). n < length scene.setup.ports) (eqb-true i j same) is
    same_named (actor.Controller i) (actor.Switch j) same is = cc
    same_named (actor.Switch i) (actor.Controller j) same is = cc

-- the controller of a number behind its turn
pub new_found : {A W : Type 0} {law : AppLaw A} {saving : Saving W} {x : ControllerInput} {before after : List (Controlling A)} {stables stables_after : List W} {c : ℕ}
    {letters : List (Letter ControllerSays)} (t : ControllerTakes law saving x before stables c after stables_after letters) → slice_get after c ≡ Some t.new
new_found {before = before} {c = c} t = ap (λ l. slice_get l c) t.state ∙ got_set before c t.old t.new t.stood

module _ {B A W : Type 0} (law : AppLaw A) (saving : Saving W) (sealing : Sealing B) (faithful : IsFaithful sealing) (w : Worlding B A) (stables : List W)
    (rests : w.owed ≡ None) (some : (kinds : List ℕ) × Holds law sealing w kinds) (stand : PairsStand saving stables w.controllers) (e : JournalEntry B) where
  -- the world with one more entry
  abbrev pub entered : Worlding B A
  entered = record w { journal = w.journal ++ e ∷ [] }

  -- all of what is kept, where no controller has changed
  known_after : (kinds : List ℕ) → Holds law sealing w kinds → (switches : List SwitchState) (owed : Option (Debt B)) →
      HoldsAt law (scene_in sealing w kinds) (results_in w.controllers) (e ∷ past w.journal) (record entered { switches = switches; owed = owed }) →
      Holds law sealing (record entered { switches = switches; owed = owed }) kinds
  known_after kinds h switches owed held = record {
    run = subst (λ (l : List (JournalEntry B)). HoldsAt law (scene_in sealing w kinds) (results_in w.controllers) l (record entered { switches = switches; owed = owed })) (sym (past-push w.journal e)) held;
    few = h.few;
  }

  -- a controller takes its input
  pub controller_keeps : (c : ℕ) → c < w.setup.controllers → actor_of e ≡ actor.Controller c → (x : ControllerInput) (stables_after : List W) (v : Worlding B A) →
      ((kinds : List ℕ) → IsHeard (scene_in sealing w kinds) e (drawn e (past w.journal)) x) → EntryFits e → IsOrderly sealing.size (e ∷ past w.journal) →
      ControllerOwes law saving sealing x entered stables c v stables_after → Keeps law saving sealing w stables v stables_after
  controller_keeps c there mine x stables_after v heard typed orderly t =
      let u : Worlding B A = record entered {
        controllers = v.controllers;
        owed = Some (record { actor = actor.Controller c; letters = t.sealed });
      } in
      let m = some.1.run.controllers c there in
      let keeps : Controls law t.takes.old some.0 = subst (λ y. Controls law y some.0) (from_some m.member t.takes.old (sym m.stands ∙ t.takes.stood)) m.keeps in
      let told : AreTold saving stables stables_after w.controllers v.controllers = each_told law saving x w.controllers v.controllers stables stables_after c t.letters t.takes some.0 keeps in
      record {
        setup = ap (λ (z : Worlding B A). z.setup) t.left;
        holds = λ kinds h.
            let held : HoldsAt law (scene_in sealing w kinds) (results_in v.controllers) (e ∷ past w.journal) u =
            controller_enters law (scene_in sealing w kinds) (past w.journal) w h.run saving u rests e c there mine x (heard kinds) typed orderly stables stables_after t.letters t.sealed
            t.takes refl refl t.owes in
            subst (λ (z : Worlding B A). Holds law sealing z kinds) (sym t.left)
            (record {
              run = subst (λ (l : List (JournalEntry B)). HoldsAt law (scene_in sealing w kinds) (results_in v.controllers) l u) (sym (past-push w.journal e)) held;
              few = h.few;
            });
        pairs = pairs_stand law saving x w.controllers v.controllers stables stables_after c t.letters t.takes stand;
        told = told;
        beyond = λ i past. ap (λ (l : List W). slice_get l i) t.takes.stables_are ∙ got_other stables c i t.takes.stable_after (λ same. omega (arith, there, past, same));
      }

  -- a switch takes its input
  pub switch_keeps : (s : ℕ) → s < length w.setup.ports → actor_of e ≡ actor.Switch s → (x : SwitchInput) (v : Worlding B A) →
      ((kinds : List ℕ) → IsHeardAt (scene_in sealing w kinds) e (drawn e (past w.journal)) x) → EntryFits e → IsOrderly sealing.size (e ∷ past w.journal) →
      SwitchOwes sealing x entered s v → Keeps law saving sealing w stables v stables
  switch_keeps s there mine x v heard typed orderly t =
      let u : Worlding B A = record entered { switches = v.switches; owed = Some (record { actor = actor.Switch s; letters = t.sealed }) } in
      let same : v.controllers ≡ w.controllers = ap (λ (z : Worlding B A). z.controllers) t.left in
      record {
        setup = ap (λ (z : Worlding B A). z.setup) t.left;
        holds = λ kinds h.
            let held : HoldsAt law (scene_in sealing w kinds) (results_in w.controllers) (e ∷ past w.journal) u =
            switch_enters law (scene_in sealing w kinds) (past w.journal) w h.run u rests e s there mine x (heard kinds) typed orderly t.letters t.sealed t.takes refl refl t.owes in
            subst (λ (z : Worlding B A). Holds law sealing z kinds) (sym t.left)
            (known_after kinds h v.switches (Some (record { actor = actor.Switch s; letters = t.sealed })) held);
        pairs = λ c x found. stand c x (ap (λ (l : List (Controlling A)). slice_get l c) (sym same) ∙ found);
        told = subst (λ (l : List (Controlling A)). AreTold saving stables stables w.controllers l) (sym same) (none_told saving stables w.controllers);
        beyond = λ i past. refl;
      }

  -- no actor takes anything
  pub idle_keeps : IsIdle e → IsActor w.setup (actor_of e) → IsOrderly sealing.size (e ∷ past w.journal) → (v : Worlding B A) → v ≡ entered → Keeps law saving sealing w stables v stables
  idle_keeps idle named orderly v is = subst (λ (z : Worlding B A). Keeps law saving sealing w stables z stables) (sym is) (record {
    setup = refl;
    holds = λ kinds h.
        let held : HoldsAt law (scene_in sealing w kinds) (results_in w.controllers) (e ∷ past w.journal) entered =
        idle_enters law (scene_in sealing w kinds) (past w.journal) w h.run entered rests e idle named orderly refl refl rests in
        known_after kinds h w.switches w.owed held;
    pairs = stand;
    told = none_told saving stables w.controllers;
    beyond = λ i past. refl;
  })

  -- the entry of a loss, and of a draw that finds nothing
  pub idle_steps : (turn : Turn) → e ≡ entry_of turn (past w.journal) → IsIdle e → IsActor w.setup (actor_of e) → IsOrderly sealing.size (past (w.journal ++ e ∷ [])) → (v : Worlding B A) → v ≡ entered →
      Steps law saving sealing turn w stables v stables
  idle_steps turn entry idle named orderly v is = record {
    keeps = idle_keeps idle named (rw past-push at orderly) v is;
    journal = ap (λ (z : Worlding B A). z.journal) is ∙ ap (λ (x : JournalEntry B). w.journal ++ x ∷ []) entry;
    owed = subst (λ (o : Option (Debt B)). IfSome o (λ d. d.actor ≡ turn_actor turn)) (sym (ap (λ (z : Worlding B A). z.owed) is ∙ rests)) tt;
  }

  -- the entry of an input of a controller
  pub controller_steps : (turn : Turn) → e ≡ entry_of turn (past w.journal) → (c : ℕ) → c < w.setup.controllers → actor_of e ≡ actor.Controller c → turn_actor turn ≡ actor.Controller c → (x : ControllerInput) →
      (stables_after : List W) (v : Worlding B A) → ((kinds : List ℕ) → IsHeard (scene_in sealing w kinds) e (drawn e (past w.journal)) x) → EntryFits e → IsOrderly sealing.size (past (w.journal ++ e ∷ [])) →
      ControllerOwes law saving sealing x entered stables c v stables_after → Steps law saving sealing turn w stables v stables_after
  controller_steps turn entry c there mine takes x stables_after v heard typed orderly t = record {
    keeps = controller_keeps c there mine x stables_after v heard typed (rw past-push at orderly) t;
    journal = ap (λ (z : Worlding B A). z.journal) t.left ∙ ap (λ (y : JournalEntry B). w.journal ++ y ∷ []) entry;
    owed = subst (λ (o : Option (Debt B)). IfSome o (λ d. d.actor ≡ turn_actor turn)) (sym (ap (λ (z : Worlding B A). z.owed) t.left)) (sym takes);
  }

  -- and of a switch
  pub switch_steps : (turn : Turn) → e ≡ entry_of turn (past w.journal) → (s : ℕ) → s < length w.setup.ports → actor_of e ≡ actor.Switch s → turn_actor turn ≡ actor.Switch s → (x : SwitchInput) →
      (v : Worlding B A) → ((kinds : List ℕ) → IsHeardAt (scene_in sealing w kinds) e (drawn e (past w.journal)) x) → EntryFits e → IsOrderly sealing.size (past (w.journal ++ e ∷ [])) →
      SwitchOwes sealing x entered s v → Steps law saving sealing turn w stables v stables
  switch_steps turn entry s there mine takes x v heard typed orderly t = record {
    keeps = switch_keeps s there mine x v heard typed (rw past-push at orderly) t;
    journal = ap (λ (z : Worlding B A). z.journal) t.left ∙ ap (λ (y : JournalEntry B). w.journal ++ y ∷ []) entry;
    owed = subst (λ (o : Option (Debt B)). IfSome o (λ d. d.actor ≡ turn_actor turn)) (sym (ap (λ (z : Worlding B A). z.owed) t.left)) (sym takes);
  }

-- the post of what is owed
module _ {B A : Type 0} (law : AppLaw A) (sealing : Sealing B) (faithful : IsFaithful sealing) (w : Worlding B A) where
  -- the world once it was posted
  abbrev pub rested : Worlding B A
  rested = record w { journal = w.journal ++ posts_of sealing.size w.owed w.journal; owed = None }

  no_post : (d : Option (Debt B)) → w.owed ≡ d → posts_of sealing.size d w.journal ≡ [] → ((a : Actor) → debt_of d a ≡ []) → (kinds : List ℕ) → Holds law sealing w kinds →
      Holds law sealing (record w { journal = w.journal ++ posts_of sealing.size d w.journal; owed = None }) kinds
  no_post d is none nothing kinds h = rw (none, append-nil) (record {
    run = record {
      setup = h.run.setup;
      legal = h.run.legal;
      group = h.run.group;
      count = h.run.count;
      controllers = h.run.controllers;
      switches = h.run.switches;
      controller_debts = λ c within. subst (λ (l : List (Letter B)). IsOwed controller_message sealing (controller_at (scene_in sealing w kinds) (results_of (results_in w.controllers) c) c (part (actor.Controller c) (past w.journal))).owed l) (nothing (actor.Controller c)) (rw is at (h.run.controller_debts c within));
      switch_debts = λ s within. subst (λ (l : List (Letter B)). IsOwed switch_message sealing (switch_at (scene_in sealing w kinds) s (part (actor.Switch s) (past w.journal))).owed l) (nothing (actor.Switch s)) (rw is at (h.run.switch_debts s within));
      debtor = tt;
    };
    few = h.few;
  })

  one_post : (a : Actor) (l : Letter B) (ls : List (Letter B)) → w.owed ≡ Some (record { actor = a; letters = l ∷ ls }) →
      let e : JournalEntry B = Post a (letters_posted (past w.journal)) (l ∷ ls) (lost_of sealing.size (pool (past w.journal)) (l ∷ ls)) in
      IsOrderly sealing.size (e ∷ past w.journal) → (kinds : List ℕ) → Holds law sealing w kinds →
      Holds law sealing (record w { journal = w.journal ++ e ∷ []; owed = None }) kinds
  one_post a l ls is orderly kinds h =
      let e : JournalEntry B = Post a (letters_posted (past w.journal)) (l ∷ ls) (lost_of sealing.size (pool (past w.journal)) (l ∷ ls)) in
      let v : Worlding B A = record w { journal = w.journal ++ e ∷ []; owed = None } in
      let scene = scene_in sealing w kinds in
      let held : HoldsAt law scene (results_in w.controllers) (e ∷ past w.journal) v =
      post_enters law scene (past w.journal) w h.run v a l ls (letters_posted (past w.journal)) (lost_of sealing.size (pool (past w.journal)) (l ∷ ls)) is
      (named_debtor scene (past w.journal) a h.run.legal.possible.named (rw is at h.run.debtor)) orderly refl refl refl in
      record {
        run = subst (λ (p : List (JournalEntry B)). HoldsAt law scene (results_in w.controllers) p v) (sym (past-push w.journal e)) held;
        few = h.few;
      }

  -- the world keeps its invariant
  pub posts_hold : IsOrderly sealing.size (past (w.journal ++ posts_of sealing.size w.owed w.journal)) → (kinds : List ℕ) → Holds law sealing w kinds → Holds law sealing rested kinds
  posts_hold orderly kinds h = by_debt w.owed refl orderly
    where
      by_letters : (a : Actor) (ls : List (Letter B)) → w.owed ≡ Some (record { actor = a; letters = ls }) →
          IsOrderly sealing.size (past (w.journal ++ posts_of sealing.size (Some (record { actor = a; letters = ls })) w.journal)) →
          Holds law sealing (record w { journal = w.journal ++ posts_of sealing.size (Some (record { actor = a; letters = ls })) w.journal; owed = None }) kinds
      by_letters a [] is o = no_post (Some (record { actor = a; letters = [] })) is refl (λ b. if_same (same_actor a b)) kinds h
        where
          if_same : (b : Bool) → ◌≡◌ {A = List (Letter B)} (if b then [] else []) []
          if_same true = refl
          if_same false = refl
      by_letters a (l ∷ ls) is o = one_post a l ls is (rw past-push at o) kinds h

      by_debt : (d : Option (Debt B)) → w.owed ≡ d → IsOrderly sealing.size (past (w.journal ++ posts_of sealing.size d w.journal)) →
          Holds law sealing (record w { journal = w.journal ++ posts_of sealing.size d w.journal; owed = None }) kinds
      by_debt None is o = no_post None is refl (λ b. refl) kinds h
      by_debt (Some d) is o = by_letters d.actor d.letters is o

-- what two calls keep, one after the other
pub keeps_then : {B A W : Type 0} (law : AppLaw A) (saving : Saving W) (sealing : Sealing B) (a b c : Worlding B A) (s0 s1 s2 : List W) →
    Keeps law saving sealing a s0 b s1 → Keeps law saving sealing b s1 c s2 → Keeps law saving sealing a s0 c s2
keeps_then law saving sealing a b c s0 s1 s2 first next = record {
  setup = next.setup ∙ first.setup;
  holds = λ kinds h. next.holds kinds (first.holds kinds h);
  pairs = next.pairs;
  told = each_told_then saving s0 s1 s2 a.controllers b.controllers c.controllers first.told next.told;
  beyond = λ i past. next.beyond i (subst (λ (s : Setup). s.controllers ≤ i) (sym first.setup) past) ∙ first.beyond i past;
}

-- of a world once what it owes was posted
pub post_holds : {B A : Type 0} (law : AppLaw A) (sealing : Sealing B) → IsFaithful sealing → (w : Worlding B A) (d : Debt B) → w.owed ≡ Some d → (journal : List (JournalEntry B)) →
    journal ≡ w.journal ++ posting sealing.size d.actor d.letters (past w.journal) → IsOrderly sealing.size (past journal) → (owed : Option (Debt B)) → owed ≡ None →
    (kinds : List ℕ) → Holds law sealing w kinds → Holds law sealing (record w { journal = journal; owed = owed }) kinds
post_holds law sealing faithful w d is journal journal_is orderly owed none kinds h =
    let posted : journal ≡ w.journal ++ posts_of sealing.size w.owed w.journal = journal_is ∙ ap (λ o. w.journal ++ posts_of sealing.size o w.journal) (sym is) in
    subst (λ o. Holds law sealing (record w { journal = journal; owed = o }) kinds) (sym none)
    (subst (λ l. Holds law sealing (record w { journal = l; owed = None }) kinds) (sym posted)
    (posts_hold law sealing faithful w (subst (λ l. IsOrderly sealing.size (past l)) posted orderly) kinds h))

-- of a world whose parts are put back
pub same_holds : {B A : Type 0} (law : AppLaw A) (sealing : Sealing B) (w : Worlding B A) (journal : List (JournalEntry B)) (owed : Option (Debt B)) → journal ≡ w.journal → owed ≡ w.owed →
    (kinds : List ℕ) → Holds law sealing w kinds → Holds law sealing (record w { journal = journal; owed = owed }) kinds
same_holds law sealing w journal owed journal_is owed_is kinds h =
    subst (λ l. Holds law sealing (record w { journal = l; owed = owed }) kinds) (sym journal_is) (subst (λ o. Holds law sealing (record w { owed = o }) kinds) (sym owed_is) h)

-- a call in which no actor takes a turn keeps a world that it keeps holding
pub rests_keeps : {B A W : Type 0} (law : AppLaw A) (saving : Saving W) (sealing : Sealing B) (w v : Worlding B A) (stables : List W) → v.setup ≡ w.setup → v.controllers ≡ w.controllers →
    ((kinds : List ℕ) → Holds law sealing w kinds → Holds law sealing v kinds) → PairsStand saving stables w.controllers → Keeps law saving sealing w stables v stables
rests_keeps law saving sealing w v stables setup same holds stand = record {
  setup = setup;
  holds = holds;
  pairs = λ c x found. stand c x (ap (λ (l : List (Controlling _)). slice_get l c) (sym same) ∙ found);
  told = subst (λ (l : List (Controlling _)). AreTold saving stables stables w.controllers l) (sym same) (none_told saving stables w.controllers);
  beyond = λ i past. refl;
}

-- the setup and the controllers behind a post, however it ended
pub post_same : {B A E : Type 0} (size : B → ℕ) (w v : Worlding B A) (result : Result (Unit {0}) E) (P : E → Type 0) →
    OnOk result (v ≡ record w { journal = w.journal ++ posts_of size w.owed w.journal; owed = None }) → IfErr result (λ stop. (v ≡ w) × P stop) → (v.setup ≡ w.setup) × (v.controllers ≡ w.controllers)
post_same size w v (Ok x) P ok err = (ap (λ z. z.setup) ok, ap (λ z. z.controllers) ok)
post_same size w v (Err e) P ok err = (ap (λ z. z.setup) err.0, ap (λ z. z.controllers) err.0)

pub on_ok : {T E : Type 0} (result : Result T E) (P Q : Type 0) → (P → Q) → OnOk result P → OnOk result Q
on_ok (Ok x) P Q next h = next h
on_ok (Err e) P Q next h = tt
