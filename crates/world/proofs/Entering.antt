-- A world goes on with an entry of one of its actors, which stands behind it.
use Rattle.std.proofs.Common.{◌≡◌, ◌<◌, ℕ, Bool, true, false, List, [], ◌∷◌, length, refl, sym, ◌∙◌, ap, subst}
use Rattle.std.specs.Prelude.{slice_get, Option, Some, None}
use Rattle.std.specs.List.{AllByRecursion}
use Rattle.std.proofs.lemmas.Bool.{eqb-true, eqb-false}
use Rattle.app_core.specs.Law.{AppLaw}
use Rattle.journal.specs.declared.journal.Actor.{Actor}
use Rattle.journal.specs.declared.journal.Actor.TheVariants as actor
use Rattle.journal.specs.declared.journal.JournalEntry.{JournalEntry}
use Rattle.journal.specs.declared.journal.JournalEntry.TheVariants.{Post, Refused}
use Rattle.journal.specs.declared.journal.Letter.{Letter}
use Rattle.journal.specs.declared.journal.Packet.{Packet}
use Rattle.journal.specs.declared.journal.SaveResult.{SaveResult}
use Rattle.journal.specs.Actors.{same_actor, actor_of, is_input, IsActor}
use Rattle.journal.specs.Orderly.{IsOrderly}
use Rattle.journal.specs.Part.{part, drawn}
use Rattle.journal.specs.Stables.{Saving}
use Rattle.of_switch.specs.declared.says.SwitchInput.{SwitchInput}
use Rattle.of_switch.specs.declared.says.SwitchSays.{SwitchSays}
use Rattle.of_switch.specs.State.{SwitchState, starting_switch}
use Rattle.of_switch.specs.Rules.{switch_turn}
use Rattle.group_controller.specs.declared.messages.ControllerInput.{ControllerInput}
use Rattle.group_controller.specs.declared.messages.ControllerSays.{ControllerSays}
use Rattle.group_controller.specs.Turns.{Controlling}
use Rattle.run_spec.specs.Inputs.{IsHeard, IsHeardAt, IsInput, By_draw, By_local}
use Rattle.run_spec.specs.Legal.{EntryFits, IsSoundController}
use Rattle.run_spec.specs.States.{Scene, Speech, Sealing, controller_at, controller_message, switch_message, switch_rules, switch_speech}
use Rattle.run_spec.proofs.Pasts.{from_some, self_controller, self_switch}
use Rattle.world.specs.Actors.{ControllerTakes, ControllerWants, SwitchTakes}
use Rattle.world.specs.Standing.{AllStand, ControllerStands, SwitchStands}
use Rattle.world.specs.World.{HoldsAt, IsDebtor, IsOwed, Worlding, debt_of, results_in}
use Rattle.world.proofs.Controlling.{controller_posts, controller_refuses, controller_rests, controller_takes}
use Rattle.world.proofs.Finding.{each_finds}
use Rattle.world.proofs.Joining.{joined, other_part, own_part}
use Rattle.world.proofs.Places.{got_other, got_set, results_at, set_length}
use Rattle.world.proofs.Standing as standing
use Rattle.world.proofs.Standing.{IsIdle}

-- what holds of all entries holds of those of an actor
typed_part : {B : Type 0} (a : Actor) (entries : List (JournalEntry B)) → AllByRecursion (λ e. EntryFits e) entries → AllByRecursion (λ (x : JournalEntry B × Option (Packet B)). EntryFits x.0) (part a entries)
typed_part a [] typed = tt
typed_part {B = B} a (e ∷ before) typed = by_actor (same_actor (actor_of e) a) refl (typed_part a before typed.1)
  where
    by_actor : (b : Bool) → same_actor (actor_of e) a ≡ b → AllByRecursion (λ (x : JournalEntry B × Option (Packet B)). EntryFits x.0) (part a before) →
        AllByRecursion (λ (x : JournalEntry B × Option (Packet B)). EntryFits x.0) (part a (e ∷ before))
    by_actor true is rest = rw is (typed.0, rest)
    by_actor false is rest = rw is rest

-- an input is one
is_an_input : {B I A : Type 0} (speech : Speech I A) (sealing : Sealing B) (e : JournalEntry B) (found : Option (Packet B)) (x : I) → IsInput speech sealing e found x → is_input e ≡ true
is_an_input speech sealing e found x (By_draw a id keep p is finds says) = rw is refl
is_an_input speech sealing e found x (By_local a input is says) = rw is refl

module _ {B A : Type 0} (law : AppLaw A) (scene : Scene B) (entries : List (JournalEntry B)) (w : Worlding B A) (holds : HoldsAt law scene (results_in w.controllers) entries w) where
  -- each actor of a world that holds stands behind its part
  pub stand : AllStand law scene entries w.controllers w.switches (debt_of w.owed)
  stand = record {
    group = holds.group;
    count = holds.count;
    controllers_stand = λ c there.
        let m = holds.controllers c there in
        let same = results_at w.controllers c m.member m.stands in
        let own = part (actor.Controller c) entries in (
          m.member,
          m.stands,
          record {
            keeps = m.keeps;
            setup_is = m.setup;
            me_is = m.me;
            saves = subst (λ (rs : List SaveResult). length rs ≡ (controller_at scene rs c own).saves) same (holds.legal.saves c there);
            stands = record {
              typed = typed_part (actor.Controller c) entries holds.legal.possible.fits;
              finds = each_finds scene [] [] (actor.Controller c) entries holds.legal.possible.orderly;
              sound = subst (λ (rs : List SaveResult). IsSoundController scene rs c own) same (holds.legal.possible.controllers c there);
              state_is = m.state ∙ ap (λ (rs : List SaveResult). (controller_at scene rs c own).now) same;
              owes = subst (λ (rs : List SaveResult). IsOwed controller_message scene.sealing (controller_at scene rs c own).owed (debt_of w.owed (actor.Controller c))) same (holds.controller_debts c there);
            };
          },
        );
    switches_stand = λ s there. (
      _,
      holds.switches s there,
      record {
        typed = typed_part (actor.Switch s) entries holds.legal.possible.fits;
        finds = each_finds scene [] [] (actor.Switch s) entries holds.legal.possible.orderly;
        sound = holds.legal.possible.switches s there;
        state_is = refl;
        owes = holds.switch_debts s there;
      },
    );
  }

  -- where nothing is owed, none owes anything
  controller_quiet : w.owed ≡ None → (c : ℕ) (there : c < scene.setup.controllers) → ControllerStands law scene c (part (actor.Controller c) entries) (stand.controllers_stand c there).0 []
  controller_quiet rests c there =
      let m = stand.controllers_stand c there in
      subst (λ (o : List (Letter B)). ControllerStands law scene c (part (actor.Controller c) entries) m.0 o) (ap (λ o. debt_of o (actor.Controller c)) rests) m.2

  switch_quiet : w.owed ≡ None → (s : ℕ) (there : s < length scene.setup.ports) → SwitchStands scene s (part (actor.Switch s) entries) (stand.switches_stand s there).0 []
  switch_quiet rests s there =
      let m = stand.switches_stand s there in
      subst (λ (o : List (Letter B)). SwitchStands scene s (part (actor.Switch s) entries) m.0 o) (ap (λ o. debt_of o (actor.Switch s)) rests) m.2

  -- the debtor owes what is owed
  its_debt : (a : Actor) (letters : List (Letter B)) (b : Actor) → w.owed ≡ Some (record { actor = a; letters = letters }) → same_actor a b ≡ true → debt_of w.owed b ≡ letters
  its_debt a letters b owes own = ap (λ o. debt_of o b) owes ∙ rw own refl

  controller_owing : (a : Actor) (letters : List (Letter B)) → w.owed ≡ Some (record { actor = a; letters = letters }) → (c : ℕ) (there : c < scene.setup.controllers) → same_actor a (actor.Controller c) ≡ true →
      ControllerStands law scene c (part (actor.Controller c) entries) (stand.controllers_stand c there).0 letters
  controller_owing a letters owes c there own =
      let m = stand.controllers_stand c there in
      subst (λ (o : List (Letter B)). ControllerStands law scene c (part (actor.Controller c) entries) m.0 o) (its_debt a letters (actor.Controller c) owes own) m.2

  switch_owing : (a : Actor) (letters : List (Letter B)) → w.owed ≡ Some (record { actor = a; letters = letters }) → (s : ℕ) (there : s < length scene.setup.ports) → same_actor a (actor.Switch s) ≡ true →
      SwitchStands scene s (part (actor.Switch s) entries) (stand.switches_stand s there).0 letters
  switch_owing a letters owes s there own =
      let m = stand.switches_stand s there in
      subst (λ (o : List (Letter B)). SwitchStands scene s (part (actor.Switch s) entries) m.0 o) (its_debt a letters (actor.Switch s) owes own) m.2

  -- an actor of a world stands behind its part of a past
  abbrev ControllerAfter : Worlding B A → List (JournalEntry B) → ℕ → Type 0
  ControllerAfter v after c = (x : Controlling A) × (slice_get v.controllers c ≡ Some x) × ControllerStands law scene c (part (actor.Controller c) after) x (debt_of v.owed (actor.Controller c))

  abbrev SwitchAfter : Worlding B A → List (JournalEntry B) → ℕ → Type 0
  SwitchAfter v after s = (state : SwitchState) × (slice_get v.switches s ≡ Some state) × SwitchStands scene s (part (actor.Switch s) after) state (debt_of v.owed (actor.Switch s))

  -- the world goes on with entries of one actor, which stands behind them. All others stay
  module _ (v : Worlding B A) (a : Actor) (after : List (JournalEntry B)) (other_parts : (b : Actor) → same_actor a b ≡ false → part b after ≡ part b entries)
      (named : AllByRecursion (λ e. IsActor scene.setup (actor_of e)) after) (orderly : IsOrderly scene.sealing.size after)
      (group : length v.controllers ≡ length w.controllers) (count : length v.switches ≡ length w.switches)
      (others : (c : ℕ) → same_actor a (actor.Controller c) ≡ false → slice_get v.controllers c ≡ slice_get w.controllers c)
      (other_switches : (s : ℕ) → same_actor a (actor.Switch s) ≡ false → slice_get v.switches s ≡ slice_get w.switches s)
      (debts : (b : Actor) → same_actor a b ≡ false → debt_of v.owed b ≡ debt_of w.owed b)
      (its : (c : ℕ) → c < scene.setup.controllers → same_actor a (actor.Controller c) ≡ true → ControllerAfter v after c)
      (its_switch : (s : ℕ) → s < length scene.setup.ports → same_actor a (actor.Switch s) ≡ true → SwitchAfter v after s)
      (debtor : IsDebtor v.owed after) where
    controller_after : (c : ℕ) → c < scene.setup.controllers → (b : Bool) → same_actor a (actor.Controller c) ≡ b → ControllerAfter v after c
    controller_after c there true is = its c there is
    controller_after c there false is = let x = stand.controllers_stand c there in (x.0, others c is ∙ x.1, rw (other_parts (actor.Controller c) is, debts (actor.Controller c) is) x.2)

    switch_after : (s : ℕ) → s < length scene.setup.ports → (b : Bool) → same_actor a (actor.Switch s) ≡ b → SwitchAfter v after s
    switch_after s there true is = its_switch s there is
    switch_after s there false is = let x = stand.switches_stand s there in (x.0, other_switches s is ∙ x.1, rw (other_parts (actor.Switch s) is, debts (actor.Switch s) is) x.2)

    pub goes_on : HoldsAt law scene (results_in v.controllers) after v
    goes_on = joined law scene after v (record {
      group = group ∙ holds.group;
      count = count ∙ holds.count;
      controllers_stand = λ c there. controller_after c there (same_actor a (actor.Controller c)) refl;
      switches_stand = λ s there. switch_after s there (same_actor a (actor.Switch s)) refl;
    }) holds.setup named orderly debtor

  -- the actor of an entry stands behind it
  abbrev ControllerBehind : Worlding B A → JournalEntry B → ℕ → Type 0
  ControllerBehind v e c = (x : Controlling A) × (slice_get v.controllers c ≡ Some x) × ControllerStands law scene c ((e, drawn e entries) ∷ part (actor.Controller c) entries) x (debt_of v.owed (actor.Controller c))

  abbrev SwitchBehind : Worlding B A → JournalEntry B → ℕ → Type 0
  SwitchBehind v e s = (state : SwitchState) × (slice_get v.switches s ≡ Some state) × SwitchStands scene s ((e, drawn e entries) ∷ part (actor.Switch s) entries) state (debt_of v.owed (actor.Switch s))

  -- the world goes on, where it does and all others are what they were
  module _ (v : Worlding B A) (e : JournalEntry B) (named : IsActor scene.setup (actor_of e)) (orderly : IsOrderly scene.sealing.size (e ∷ entries))
      (group : length v.controllers ≡ length w.controllers) (count : length v.switches ≡ length w.switches)
      (others : (c : ℕ) → same_actor (actor_of e) (actor.Controller c) ≡ false → slice_get v.controllers c ≡ slice_get w.controllers c)
      (other_switches : (s : ℕ) → same_actor (actor_of e) (actor.Switch s) ≡ false → slice_get v.switches s ≡ slice_get w.switches s)
      (debts : (a : Actor) → same_actor (actor_of e) a ≡ false → debt_of v.owed a ≡ debt_of w.owed a)
      (its : (c : ℕ) → c < scene.setup.controllers → same_actor (actor_of e) (actor.Controller c) ≡ true → ControllerBehind v e c)
      (its_switch : (s : ℕ) → s < length scene.setup.ports → same_actor (actor_of e) (actor.Switch s) ≡ true → SwitchBehind v e s)
      (debtor : IsDebtor v.owed (e ∷ entries)) where
    pub enters : HoldsAt law scene (results_in v.controllers) (e ∷ entries) v
    enters =
        goes_on v (actor_of e) (e ∷ entries) (λ b other. other_part b e entries other) (named, holds.legal.possible.named) orderly group count others other_switches debts
        (λ c there own. let x = its c there own in (x.0, x.1, rw (own_part (actor.Controller c) e entries own) x.2))
        (λ s there own. let x = its_switch s there own in (x.0, x.1, rw (own_part (actor.Switch s) e entries own) x.2))
        debtor

  -- an actor's input is refused: its part ends with the input and the refusal, and those of the others stay
  module _ (e : JournalEntry B) (a : Actor) (mine : actor_of e ≡ a) where
    abbrev refused : List (JournalEntry B)
    refused = Refused a ∷ e ∷ entries

    refused_part : (b : Actor) → same_actor a b ≡ true → part b refused ≡ (Refused a, None) ∷ (e, drawn e entries) ∷ part b entries
    refused_part b own =
        own_part b (Refused a) (e ∷ entries) own ∙
        ap (λ (p : List (JournalEntry B × Option (Packet B))). (Refused a, None) ∷ p) (own_part b e entries (subst (λ x. same_actor x b ≡ true) (sym mine) own))

    other_refused : (b : Actor) → same_actor a b ≡ false → part b refused ≡ part b entries
    other_refused b other = other_part b (Refused a) (e ∷ entries) other ∙ other_part b e entries (subst (λ x. same_actor x b ≡ false) (sym mine) other)

    refused_named : IsActor scene.setup a → AllByRecursion (λ x. IsActor scene.setup (actor_of x)) refused
    refused_named named = (named, (subst (λ x. IsActor scene.setup x) (sym mine) named, holds.legal.possible.named))

  -- a controller takes an input
  pub controller_enters : {W : Type 0} (saving : Saving W) (v : Worlding B A) → w.owed ≡ None → (e : JournalEntry B) (c : ℕ) → c < scene.setup.controllers → actor_of e ≡ actor.Controller c → (x : ControllerInput) →
      IsHeard scene e (drawn e entries) x → EntryFits e → IsOrderly scene.sealing.size (e ∷ entries) → (stables stables_after : List W) (letters : List (Letter ControllerSays)) (sealed : List (Letter B)) →
      ControllerTakes law saving x w.controllers stables c v.controllers stables_after letters → v.switches ≡ w.switches → v.owed ≡ Some (record { actor = actor.Controller c; letters = sealed }) →
      IsOwed controller_message scene.sealing letters sealed → HoldsAt law scene (results_in v.controllers) (e ∷ entries) v
  controller_enters saving v rests e c there mine x heard typed orderly stables stables_after letters sealed t switches_same owed is_owed =
      enters v e (subst (λ (a : Actor). IsActor scene.setup a) (sym mine) there) orderly
      (ap length t.state ∙ set_length w.controllers c t.new) (ap length switches_same)
      (λ d other. ap (λ l. slice_get l d) t.state ∙ got_other w.controllers c d t.new (eqb-false c d (rw mine at other)))
      (λ s other. ap (λ l. slice_get l s) switches_same)
      (λ a other. rw (owed, rests, (rw mine at other)) refl)
      (λ d within own. subst (ControllerBehind v e) (eqb-true c d (rw mine at own)) (t.new, ap (λ l. slice_get l c) t.state ∙ got_set w.controllers c t.old t.new t.stood, rw (owed, self_controller c) now))
      (λ s within own. absurd (let no = rw mine at own in cc))
      (rw owed (is_an_input _ scene.sealing e (drawn e entries) x heard, rw mine (self_controller c)))
    where
      stood : ControllerStands law scene c (part (actor.Controller c) entries) t.old []
      stood =
          let m = stand.controllers_stand c there in
          subst (λ y. ControllerStands law scene c (part (actor.Controller c) entries) y []) (from_some m.0 t.old (sym m.1 ∙ t.stood)) (controller_quiet rests c there)

      now : ControllerStands law scene c ((e, drawn e entries) ∷ part (actor.Controller c) entries) t.new sealed
      now = controller_takes law scene c (part (actor.Controller c) entries) t.old t.new x letters sealed (saving.pair t.stable) (saving.pair t.stable_after) (saving.faults t.stable) (saving.faults t.stable_after)
          stood (t.turned.turn scene.kinds stood.keeps) e (drawn e entries) heard typed t.turned.setup t.turned.me (t.turned.kept scene.kinds stood.keeps) is_owed

  -- a switch takes an input
  pub switch_enters : (v : Worlding B A) → w.owed ≡ None → (e : JournalEntry B) (s : ℕ) → s < length scene.setup.ports → actor_of e ≡ actor.Switch s → (x : SwitchInput) →
      IsHeardAt scene e (drawn e entries) x → EntryFits e → IsOrderly scene.sealing.size (e ∷ entries) → (letters : List (Letter SwitchSays)) (sealed : List (Letter B)) →
      SwitchTakes x w.switches s v.switches letters → v.controllers ≡ w.controllers → v.owed ≡ Some (record { actor = actor.Switch s; letters = sealed }) →
      IsOwed switch_message scene.sealing letters sealed → HoldsAt law scene (results_in v.controllers) (e ∷ entries) v
  switch_enters v rests e s there mine x heard typed orderly letters sealed t controllers_same owed is_owed =
      enters v e (subst (λ (a : Actor). IsActor scene.setup a) (sym mine) there) orderly
      (ap length controllers_same) (ap length t.state ∙ set_length w.switches s t.new)
      (λ c other. ap (λ l. slice_get l c) controllers_same)
      (λ r other. ap (λ l. slice_get l r) t.state ∙ got_other w.switches s r t.new (eqb-false s r (rw mine at other)))
      (λ a other. rw (owed, rests, (rw mine at other)) refl)
      (λ c within own. absurd (let no = rw mine at own in cc))
      (λ r within own. subst (SwitchBehind v e) (eqb-true s r (rw mine at own)) (t.new, ap (λ l. slice_get l s) t.state ∙ got_set w.switches s t.old t.new t.stood, rw (owed, self_switch s) now))
      (rw owed (is_an_input _ scene.sealing e (drawn e entries) x heard, rw mine (self_switch s)))
    where
      stood : SwitchStands scene s (part (actor.Switch s) entries) t.old []
      stood =
          let m = stand.switches_stand s there in
          subst (λ y. SwitchStands scene s (part (actor.Switch s) entries) y []) (from_some m.0 t.old (sym m.1 ∙ t.stood)) (switch_quiet rests s there)

      now : SwitchStands scene s ((e, drawn e entries) ∷ part (actor.Switch s) entries) t.new sealed
      now = standing.takes switch_rules switch_speech scene.sealing (starting_switch s scene.setup) (part (actor.Switch s) entries) t.old e (drawn e entries) x t.new sealed heard typed stood
          (t.turned.state ∙ ap (λ (y : SwitchState). (switch_turn y x).state) stood.state_is)
          (subst (λ (ls : List (Letter SwitchSays)). IsOwed switch_message scene.sealing ls sealed) (t.turned.says ∙ ap (λ (y : SwitchState). (switch_turn y x).letters) stood.state_is) is_owed)

  -- a controller finds no memory for an input
  pub controller_left_out : {W : Type 0} (saving : Saving W) (v : Worlding B A) → w.owed ≡ None → (e : JournalEntry B) (c : ℕ) → c < scene.setup.controllers → (mine : actor_of e ≡ actor.Controller c) →
      (x : ControllerInput) → IsHeard scene e (drawn e entries) x → EntryFits e → IsOrderly scene.sealing.size (Refused (actor.Controller c) ∷ e ∷ entries) → (stables stables_after : List W) →
      ControllerWants law saving w.controllers stables c v.controllers stables_after → v.switches ≡ w.switches → v.owed ≡ None →
      HoldsAt law scene (results_in v.controllers) (Refused (actor.Controller c) ∷ e ∷ entries) v
  controller_left_out saving v rests e c there mine x heard typed orderly stables stables_after t switches_same owed =
      goes_on v (actor.Controller c) (refused e (actor.Controller c) mine) (other_refused e (actor.Controller c) mine) (refused_named e (actor.Controller c) mine there) orderly
      (ap length t.state ∙ set_length w.controllers c t.new) (ap length switches_same)
      (λ d other. ap (λ l. slice_get l d) t.state ∙ got_other w.controllers c d t.new (eqb-false c d other))
      (λ s other. ap (λ l. slice_get l s) switches_same)
      (λ b other. rw (owed, rests) refl)
      (λ d within own. subst (ControllerAfter v (refused e (actor.Controller c) mine)) (eqb-true c d own)
      (t.new, ap (λ l. slice_get l c) t.state ∙ got_set w.controllers c t.old t.new t.stood, rw (owed, refused_part e (actor.Controller c) mine (actor.Controller c) (self_controller c)) now))
      (λ s within own. absurd (let no = own in cc))
      (rw owed tt)
    where
      stood : ControllerStands law scene c (part (actor.Controller c) entries) t.old []
      stood =
          let m = stand.controllers_stand c there in
          subst (λ y. ControllerStands law scene c (part (actor.Controller c) entries) y []) (from_some m.0 t.old (sym m.1 ∙ t.stood)) (controller_quiet rests c there)

      now : ControllerStands law scene c ((Refused (actor.Controller c), None) ∷ (e, drawn e entries) ∷ part (actor.Controller c) entries) t.new []
      now = controller_refuses law scene c (part (actor.Controller c) entries) t.old t.new x e (drawn e entries) None (actor.Controller c) heard typed stood
          t.wanted.wants.state_is t.wanted.wants.kept t.wanted.setup t.wanted.me (t.wanted.kept scene.kinds stood.keeps)

  -- and a switch
  pub switch_left_out : (v : Worlding B A) → w.owed ≡ None → (e : JournalEntry B) (s : ℕ) → s < length scene.setup.ports → (mine : actor_of e ≡ actor.Switch s) → (x : SwitchInput) →
      IsHeardAt scene e (drawn e entries) x → EntryFits e → IsOrderly scene.sealing.size (Refused (actor.Switch s) ∷ e ∷ entries) → v.controllers ≡ w.controllers → v.switches ≡ w.switches → v.owed ≡ None →
      HoldsAt law scene (results_in v.controllers) (Refused (actor.Switch s) ∷ e ∷ entries) v
  switch_left_out v rests e s there mine x heard typed orderly controllers_same switches_same owed =
      goes_on v (actor.Switch s) (refused e (actor.Switch s) mine) (other_refused e (actor.Switch s) mine) (refused_named e (actor.Switch s) mine there) orderly
      (ap length controllers_same) (ap length switches_same)
      (λ c other. ap (λ l. slice_get l c) controllers_same)
      (λ r other. ap (λ l. slice_get l r) switches_same)
      (λ b other. rw (owed, rests) refl)
      (λ c within own. absurd (let no = own in cc))
      (λ r within own. subst (SwitchAfter v (refused e (actor.Switch s) mine)) (eqb-true s r own)
      (m.0, ap (λ l. slice_get l s) switches_same ∙ m.1, rw (owed, refused_part e (actor.Switch s) mine (actor.Switch s) (self_switch s)) now))
      (rw owed tt)
    where
      m : (state : SwitchState) × (slice_get w.switches s ≡ Some state) × SwitchStands scene s (part (actor.Switch s) entries) state (debt_of w.owed (actor.Switch s))
      m = stand.switches_stand s there

      now : SwitchStands scene s ((Refused (actor.Switch s), None) ∷ (e, drawn e entries) ∷ part (actor.Switch s) entries) m.0 []
      now = standing.refuses switch_rules switch_speech scene.sealing (starting_switch s scene.setup) (part (actor.Switch s) entries) m.0 e (drawn e entries) None x (actor.Switch s) heard typed
          (switch_quiet rests s there) refl

  -- its actor takes and posts nothing
  pub idle_enters : (v : Worlding B A) → w.owed ≡ None → (e : JournalEntry B) → IsIdle e → IsActor scene.setup (actor_of e) → IsOrderly scene.sealing.size (e ∷ entries) →
      v.controllers ≡ w.controllers → v.switches ≡ w.switches → v.owed ≡ None → HoldsAt law scene (results_in v.controllers) (e ∷ entries) v
  idle_enters v rests e idle named orderly controllers_same switches_same owed =
      enters v e named orderly (ap length controllers_same) (ap length switches_same)
      (λ c other. ap (λ l. slice_get l c) controllers_same) (λ s other. ap (λ l. slice_get l s) switches_same) (λ a other. rw (owed, rests) refl)
      (λ c there own.
      let m = stand.controllers_stand c there in
      (m.0, ap (λ l. slice_get l c) controllers_same ∙ m.1, rw owed (controller_rests law scene c (part (actor.Controller c) entries) m.0 e (drawn e entries) idle (controller_quiet rests c there))))
      (λ s there own.
      let m = stand.switches_stand s there in (
        m.0,
        ap (λ l. slice_get l s) switches_same ∙ m.1,
        rw owed (standing.rests switch_rules switch_speech scene.sealing (starting_switch s scene.setup) (part (actor.Switch s) entries) m.0 e (drawn e entries) idle (switch_quiet rests s there)),
      ))
      (rw owed tt)

  -- what is owed is posted
  pub post_enters : (v : Worlding B A) (a : Actor) (l : Letter B) (ls : List (Letter B)) (first lost : ℕ) → w.owed ≡ Some (record { actor = a; letters = l ∷ ls }) → IsActor scene.setup a →
      IsOrderly scene.sealing.size (Post a first (l ∷ ls) lost ∷ entries) → v.controllers ≡ w.controllers → v.switches ≡ w.switches → v.owed ≡ None →
      HoldsAt law scene (results_in v.controllers) (Post a first (l ∷ ls) lost ∷ entries) v
  post_enters v a l ls first lost owes named orderly controllers_same switches_same owed =
      enters v (Post a first (l ∷ ls) lost) named orderly (ap length controllers_same) (ap length switches_same)
      (λ c other. ap (λ l. slice_get l c) controllers_same) (λ s other. ap (λ l. slice_get l s) switches_same) (λ b other. rw (owed, owes, other) refl)
      (λ c there own.
      let m = stand.controllers_stand c there in
      (m.0, ap (λ l. slice_get l c) controllers_same ∙ m.1, rw owed (controller_posts law scene c (part (actor.Controller c) entries) m.0 l ls a first lost None (controller_owing a (l ∷ ls) owes c there own))))
      (λ s there own.
      let m = stand.switches_stand s there in (
        m.0,
        ap (λ l. slice_get l s) switches_same ∙ m.1,
        rw owed (standing.posts switch_rules switch_speech scene.sealing (starting_switch s scene.setup) (part (actor.Switch s) entries) m.0 l ls a first lost None (switch_owing a (l ∷ ls) owes s there own)),
      ))
      (rw owed tt)
