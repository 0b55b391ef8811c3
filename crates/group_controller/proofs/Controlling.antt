-- Turns of a controller: what its rule is, and what stands after it.
use Rattle.std.proofs.Common.{◌≡◌, ◌≤◌, ◌<◌, ℕ, ◌+◌, Bool, true, false, List, [], ◌∷◌, ◌++◌, refl, sym, ap, subst, ◌∙◌}
use Rattle.std.specs.Prelude.{Result, Ok, Err, IfOk, OnErr, OnOk, IfSome, IsSome, Option, Some, None, nat_lt, take, option_to_list, if◌then◌else◌}
use Rattle.std.specs.List.{AllByRecursion}
use Rattle.journal.specs.declared.journal.Letter.{Letter}
use Rattle.journal.specs.declared.journal.SaveResult.{SaveResult}
use Rattle.journal.specs.declared.journal.SaveResult.TheVariants.{Saved, KeptOld, KeptNew}
use Rattle.journal.specs.Stables.{standing}
use Rattle.vr_log.specs.declared.message.VrLetter.{VrLetter}
use Rattle.vr_log.specs.declared.state.VrOut.{VrOut}
use Rattle.vr_recovery.specs.Recovering.{restarted}
use Rattle.vr_core.specs.Step.{Stepped}
use Rattle.app_core.specs.Chain.{chain_after, given_by, starting_chain}
use Rattle.dispatcher.specs.Ledger.{most_commands}
use Rattle.group_controller.specs.declared.messages.ControllerSays.{ControllerSays}
use Rattle.of_types.specs.declared.setup.Setup.{Setup}
use Rattle.of_types.specs.Lives.{last_life}
use Rattle.of_types.specs.Setups.{IsSetup}
use Rattle.std.proofs.lemmas.Bool.{lt-ltb}
use Rattle.std.proofs.lemmas.List.{append-nil}
use Rattle.journal.specs.declared.journal.Local.{Local}
use Rattle.journal.specs.declared.journal.Local.TheVariants as local
use Rattle.vr_log.specs.declared.state.Status.{Status}
use Rattle.vr_log.specs.declared.state.Status.TheVariants.{Normal, ViewChange, Recovering, Down}
use Rattle.vr_log.specs.declared.state.VrState.{VrState}
use Rattle.vr_log.specs.Log.{received}
use Rattle.vr_log.specs.Steps.{later_of}
use Rattle.vr_log.specs.Valid.{down_state, starting_state}
use Rattle.vr_core.specs.Lasting.{Lasts, promised}
use Rattle.app_core.specs.Law.{AppLaw}
use Rattle.group_controller.specs.declared.messages.ControllerInput.{ControllerInput}
use Rattle.group_controller.specs.declared.messages.ControllerInput.TheVariants as controller_input
use Rattle.group_controller.specs.Acting.{Acting, Acts, BeginsTurn, begun, pair_with, with_out, Works}
use Rattle.group_controller.specs.Rules.{controller_work, is_crash_input, is_down, is_restart_input, on_crash, on_input, on_local, on_restart, when_down}
use Rattle.group_controller.specs.State.{ControllerState, Work, down, with_settled_forgotten, fresh, resting, stepped, to_members, with_no_met_limit}
use Rattle.group_controller.specs.Turns.{acting_by, Done, SavesAndKeeps, KnowsPair, left_by, letters_left, letters_posted_by, MayTake, pair_in, PutsBack, released, Restarts, Saves, LeavesShelf, Turns, AreAlike, Born, Controlling, Controls, Stands, state_of, state_or, TakesBy, TakesInput, TakesOne, TakesOneAtMost, Wants}
use Rattle.vr_core.proofs.Keeping.{later_than_none}

-- one that is awake does what the rule of its input says
awake_is : (c : ControllerState) → (c.vr.status ≡ Down → ⊥) → is_down c ≡ false
awake_is c awake = by_status c.vr.status awake
  where
    by_status : (status : Status) → (status ≡ Down → ⊥) → (elim status as (λ _. Bool) [ Normal ↦ false | ViewChange ↦ false | Recovering ↦ false | Down ↦ true ]) ≡ false
    by_status Normal h = refl
    by_status ViewChange h = refl
    by_status Recovering h = refl
    by_status Down h = absurd (h refl)

module _ (kinds : List ℕ) (setup : Setup) where
  pub awake_work : (c : ControllerState) (input : ControllerInput) → (c.vr.status ≡ Down → ⊥) → controller_work kinds setup c input ≡ on_input kinds setup (with_no_met_limit c) input
  unfolding controller_work
  awake_work c input awake = ap (λ (b : Bool). if b then when_down c input else on_input kinds setup (with_no_met_limit c) input) (awake_is c awake)

  crash_is : (c : ControllerState) (what : Local) → is_crash_input (controller_input.Local what) ≡ true → on_local kinds setup c what ≡ on_crash c
  crash_is c (local.Frame port bytes) h = absurd cc h
  crash_is c (local.Port port up) h = absurd cc h
  crash_is c local.Tick h = absurd cc h
  crash_is c (local.Suspect view) h = absurd cc h
  crash_is c local.Crash h = refl
  crash_is c local.Restart h = absurd cc h

  pub crash_work : (c : ControllerState) (input : ControllerInput) → is_crash_input input ≡ true → on_input kinds setup c input ≡ on_crash c
  crash_work c (controller_input.Local what) h = crash_is c what h
  crash_work c (controller_input.Of switch xid said) h = absurd cc h
  crash_work c (controller_input.Malformed sender) h = absurd cc h
  crash_work c (controller_input.Vr from message) h = absurd cc h

restart_local : (c : ControllerState) (what : Local) → is_restart_input (controller_input.Local what) ≡ true → when_down c (controller_input.Local what) ≡ on_restart c
restart_local c (local.Frame port bytes) h = absurd cc h
restart_local c (local.Port port up) h = absurd cc h
restart_local c local.Tick h = absurd cc h
restart_local c (local.Suspect view) h = absurd cc h
restart_local c local.Crash h = absurd cc h
restart_local c local.Restart h = refl

-- one that is down and is told to restart does so
restart_rule : (c : ControllerState) (input : ControllerInput) → is_restart_input input ≡ true → when_down c input ≡ on_restart c
restart_rule c (controller_input.Local what) h = restart_local c what h
restart_rule c (controller_input.Of switch xid said) h = absurd cc h
restart_rule c (controller_input.Malformed sender) h = absurd cc h
restart_rule c (controller_input.Vr from message) h = absurd cc h

drop_local : (c : ControllerState) (what : Local) → is_restart_input (controller_input.Local what) ≡ false → when_down c (controller_input.Local what) ≡ resting c
drop_local c (local.Frame port bytes) h = refl
drop_local c (local.Port port up) h = refl
drop_local c local.Tick h = refl
drop_local c (local.Suspect view) h = refl
drop_local c local.Crash h = refl
drop_local c local.Restart h = absurd cc h

-- one that is down and is told all else does nothing
drop_rule : (c : ControllerState) (input : ControllerInput) → is_restart_input input ≡ false → when_down c input ≡ resting c
drop_rule c (controller_input.Local what) h = drop_local c what h
drop_rule c (controller_input.Of switch xid said) h = refl
drop_rule c (controller_input.Malformed sender) h = refl
drop_rule c (controller_input.Vr from message) h = refl

module _ {A : Type 0} (law : AppLaw A) (kinds : List ℕ) where
  -- what a turn left stands again, beside the pair that is stable then
  pub stands_again : (c new : Controlling A) (a began left : Acting A) (work : Work) → Stands law c kinds a →
      began.work.state.vr ≡ a.work.state.vr → began.promise ≡ None → Works law kinds c.setup began work left →
      new.setup ≡ c.setup → new.me ≡ c.me → new.promise ≡ promised c.promise left.promise → new.life ≡ c.life →
      Stands law new kinds (record left { work = resting left.work.state; promise = None })
  stands_again c new a began left work h same unsaved w setup me promise life =
      let l = subst (λ (s : VrState). Lasts s w.saved left.work.state.vr) same w.lasts in
      let saved : left.promise ≡ w.saved = w.promise_is ∙ ap (λ (p : Option ℕ). later_of p w.saved) unsaved ∙ later_than_none w.saved in
      record {
        begins = record {
          acts = subst (λ (s : Setup). Acts law (record left { work = resting left.work.state; promise = None }) kinds s) (sym setup)
              (record { valid = w.acts.valid; own = w.acts.own; reach = w.acts.reach; stands = w.acts.stands; marks = w.acts.marks; saves = refl });
          rests = refl;
          unsaved = refl;
        };
        me = l.me ∙ h.me ∙ sym me;
        controllers = l.controllers ∙ h.controllers ∙ ap (λ (s : Setup). s.controllers) (sym setup);
        promise = l.promise_is ∙ ap (λ (n : ℕ). promised n w.saved) h.promise ∙ ap (λ (p : Option ℕ). promised c.promise p) (sym saved) ∙ sym promise;
        life = l.life ∙ h.life ∙ sym life;
        awake = l.awake h.awake;
      }

  -- one that goes down knows its stable pair alone
  pub down_is : (c : Controlling A) (a : Acting A) (promise life : ℕ) → Stands law c kinds a → fresh (down_state c.me c.setup.controllers promise life) ≡ down a.work.state promise life
  down_is c a promise life h = ap (λ (n : ℕ). fresh (down_state n c.setup.controllers promise life)) (sym h.me) ∙ ap (λ (n : ℕ). fresh (down_state a.work.state.vr.me n promise life)) (sym h.controllers)

  last_of : {X : Type 0} (P : X → Type 0) (xs : List X) (x : X) → AllByRecursion P (xs ++ x ∷ []) → P x
  last_of P [] x h = h.0
  last_of P (y ∷ xs) x h = last_of P xs x h.1

  pub last_alike : (all rest : List A) (last : Option A) (app : A) → AreAlike law kinds all → all ≡ rest ++ option_to_list last → last ≡ Some app → (law.kinds app ≡ kinds) × (given_by (law.kinds app) ≤ most_commands)
  last_alike all rest last app h items is =
      last_of (λ x. (law.kinds x ≡ kinds) × (given_by (law.kinds x) ≤ most_commands)) rest app
      (subst (λ (l : List A). AreAlike law kinds l) (items ∙ ap (λ (o : Option A). rest ++ option_to_list o) is) h)

  front_of : {X : Type 0} (P : X → Type 0) (xs ys : List X) → AllByRecursion P (xs ++ ys) → AllByRecursion P xs
  front_of P [] ys h = tt
  front_of P (x ∷ xs) ys h = (h.0, front_of P xs ys h.1)

  pub rest_alike : (all rest : List A) (last : Option A) → AreAlike law kinds all → all ≡ rest ++ option_to_list last → AreAlike law kinds rest
  rest_alike all rest last h items =
      front_of (λ x. (law.kinds x ≡ kinds) × (given_by (law.kinds x) ≤ most_commands)) rest (option_to_list last) (subst (λ (l : List A). AreAlike law kinds l) items h)

  -- the member of a life that begins
  pub born_is : (c : Controlling A) (life : ℕ) (a b : Acting A) (r : VrState) (out : VrOut) → BeginsTurn law a kinds c.setup → a.work.state ≡ fresh r →
      Stepped (restarted c.me c.setup.controllers c.promise life) r out → b ≡ with_out a out → Born law c kinds life b
  born_is c life a b r out h state did is =
      let step = restarted c.me c.setup.controllers c.promise life in
      let fresh_is : a.work.state ≡ fresh step.state = state ∙ ap (λ (v : VrState). fresh v) did.state_is in
      let none : later_of a.promise out.promise ≡ None = ap (λ (p : Option ℕ). later_of p out.promise) h.unsaved ∙ later_than_none out.promise ∙ did.promise_is in
      let letters : a.work.letters ++ to_members out.letters ≡ to_members step.letters = ap (λ (w : Work). w.letters ++ to_members out.letters) h.rests ∙ ap (λ (l : List VrLetter). to_members l) did.letters_are in
      subst (λ (x : Acting A). Born law c kinds life x) (sym is)
      (record {
        acts = record { valid = h.acts.valid; own = h.acts.own; reach = h.acts.reach; stands = h.acts.stands; marks = h.acts.marks; saves = refl };
        work_is = ap (λ (s : ControllerState). record { state = s; save = pair_with s.vr.life (later_of a.promise out.promise); letters = a.work.letters ++ to_members out.letters }) fresh_is
            ∙ ap (λ (p : Option ℕ). record { state = fresh step.state; save = pair_with step.state.life p; letters = a.work.letters ++ to_members out.letters }) none
            ∙ ap (λ (l : List (Letter ControllerSays)). record { state = fresh step.state; save = None; letters = l }) letters;
        unsaved = none;
      })

  -- what a rule left, whose promise was saved
  left_is : (c : Controlling A) (a left : Acting A) (promise : ℕ) (r : SaveResult) (new : Controlling A) → Stands law c kinds a →
      new ≡ record c { promise = (standing r (promise, c.life) (c.promise, c.life)).0; life = (standing r (promise, c.life) (c.promise, c.life)).1; results = c.results ++ r ∷ []; acting = acting_by r (Some left) } →
      state_of (released new) ≡ left_by r a.work.state left.work (promise, c.life)
  left_is c a left promise Saved new h is = ap (λ (x : Controlling A). state_of (released x)) is
  left_is c a left promise KeptOld new h is =
      ap (λ (x : Controlling A). state_of (released x)) is ∙ down_is c a c.promise c.life h ∙ ap (λ (n : ℕ). down a.work.state n c.life) (sym h.promise) ∙ ap (λ (n : ℕ). down a.work.state a.work.state.vr.promise n) (sym h.life)
  left_is c a left promise KeptNew new h is = ap (λ (x : Controlling A). state_of (released x)) is ∙ down_is c a promise c.life h

  -- and what it left to be posted
  posted_is : (left : Acting A) (r : SaveResult) → letters_left (acting_by r (Some left)) ≡ letters_posted_by r left.work
  posted_is left Saved = refl
  posted_is left KeptOld = refl
  posted_is left KeptNew = refl

  -- one that is not down stands
  pub acting_stands : (c : Controlling A) (a : Acting A) → Controls law c kinds → c.acting ≡ Some a → Stands law c kinds a
  acting_stands c a h is = subst (λ (o : Option (Acting A)). IfSome o (Stands law c kinds)) is h.acting

  rule_is : (c : Controlling A) (a left : Acting A) (input : ControllerInput) → Stands law c kinds a →
      Works law kinds c.setup (begun a) (on_input kinds c.setup (begun a).work.state input) left →
      left.work ≡ controller_work kinds c.setup a.work.state input
  rule_is c a left input h w = w.work_is ∙ sym (awake_work kinds c.setup a.work.state input h.awake)

  saved_turn : (c : Controlling A) (a left : Acting A) (input : ControllerInput) (promise : ℕ) (new : Controlling A) (pb pa : ℕ × ℕ) (fb fa : ℕ) →
      Stands law c kinds a →
      Works law kinds c.setup (begun a) (on_input kinds c.setup (begun a).work.state input) left →
      left.promise ≡ Some promise → SavesAndKeeps (promise, c.life) (record c { acting = Some left }) new pb pa fb fa →
      Turns kinds (record c { acting = Some a }) input (letters_left new.acting) (released new) pb pa fb fa
  saved_turn c a left input promise new pb pa fb fa h w is k =
      let life : left.work.state.vr.life ≡ c.life = w.lasts.life ∙ h.life in
      let save : left.work.save ≡ Some (promise, c.life) = w.acts.saves ∙ ap (λ (p : Option ℕ). pair_with left.work.state.vr.life p) is ∙ ap (λ (n : ℕ). pair_with n (Some promise)) life in
      subst (λ (work : Work). Done a.work.state work work.save (state_of (released new)) (letters_left new.acting) c.results new.results pb pa fb fa) (rule_is c a left input h w)
      (subst (λ (s : Option (ℕ × ℕ)). Done a.work.state left.work s (state_of (released new)) (letters_left new.acting) c.results new.results pb pa fb fa) (sym save)
      (record {
        result = k.result;
        kept = ap (λ (x : Controlling A). x.results) k.left;
        saves = k.saves;
        state_is = left_is c a left promise k.result new h k.left;
        letters_are = ap (λ (x : Controlling A). letters_left x.acting) k.left ∙ posted_is left k.result;
      }))

  pub act_saved : (c mid new : Controlling A) (input : ControllerInput) (promise : ℕ) (pb pa : ℕ × ℕ) (fb fa : ℕ) → Controls law c kinds →
      TakesInput law kinds input (Some promise) c mid → SavesAndKeeps (promise, mid.life) mid new pb pa fb fa → Turns kinds c input (letters_left new.acting) (released new) pb pa fb fa
  act_saved c mid new input promise pb pa fb fa h t k =
      subst (λ (o : Option (Acting A)). Turns kinds (record c { acting = o }) input (letters_left new.acting) (released new) pb pa fb fa) (sym t.was)
      (saved_turn c t.before t.after input promise new pb pa fb fa (acting_stands c t.before h t.was) t.works t.promise_is (subst (λ (x : Controlling A). SavesAndKeeps (promise, x.life) x new pb pa fb fa) t.left k))

  pub act_unsaved : (c new : Controlling A) (input : ControllerInput) (pair : ℕ × ℕ) (faults : ℕ) → Controls law c kinds →
      TakesInput law kinds input None c new → Turns kinds c input (letters_left new.acting) (released new) pair pair faults faults
  act_unsaved c new input pair faults h t =
      let left = t.after in
      let save : left.work.save ≡ None = t.works.acts.saves ∙ ap (λ (p : Option ℕ). pair_with left.work.state.vr.life p) t.promise_is in
      subst (λ (o : Option (Acting A)). Turns kinds (record c { acting = o }) input (letters_left new.acting) (released new) pair pair faults faults) (sym t.was)
      (subst (λ (work : Work). Done t.before.work.state work work.save (state_of (released new)) (letters_left new.acting) c.results new.results pair pair faults faults) (rule_is c t.before left input (acting_stands c t.before h t.was) t.works)
      (subst (λ (s : Option (ℕ × ℕ)). Done t.before.work.state left.work s (state_of (released new)) (letters_left new.acting) c.results new.results pair pair faults faults) (sym save)
      (record {
        kept = ap (λ (x : Controlling A). x.results) t.left;
        pair_is = refl;
        faults_are = refl;
        state_is = ap (λ (x : Controlling A). state_of (released x)) t.left;
        letters_are = ap (λ (x : Controlling A). letters_left x.acting) t.left;
      })))

  -- one that is not down goes down
  stops_at : (c new : Controlling A) (a : Acting A) → Stands law c kinds a → new ≡ record c { acting = None } → state_of (released new) ≡ down a.work.state a.work.state.vr.promise a.work.state.vr.life
  stops_at c new a h new_is =
      ap (λ (x : Controlling A). state_of (released x)) new_is ∙ down_is c a c.promise c.life h ∙ ap (λ (n : ℕ). down a.work.state n c.life) (sym h.promise) ∙ ap (λ (n : ℕ). down a.work.state a.work.state.vr.promise n) (sym h.life)

  crashed_at : (c new : Controlling A) (a : Acting A) (input : ControllerInput) (pair : ℕ × ℕ) (faults : ℕ) →
      Stands law c kinds a → is_crash_input input ≡ true → new ≡ record c { acting = None } →
      Turns kinds (record c { acting = Some a }) input (letters_left new.acting) (released new) pair pair faults faults
  crashed_at c new a input pair faults h crash new_is =
      let work = resting (down a.work.state a.work.state.vr.promise a.work.state.vr.life) in
      let rule : work ≡ controller_work kinds c.setup a.work.state input = sym (awake_work kinds c.setup a.work.state input h.awake ∙ crash_work kinds c.setup (with_no_met_limit a.work.state) input crash) in
      subst (λ (w : Work). Done a.work.state w w.save (state_of (released new)) (letters_left new.acting) c.results new.results pair pair faults faults) rule
      (record {
        kept = ap (λ (x : Controlling A). x.results) new_is;
        pair_is = refl;
        faults_are = refl;
        state_is = stops_at c new a h new_is;
        letters_are = ap (λ (x : Controlling A). letters_left x.acting) new_is;
      })

  pub act_crashed : (c new : Controlling A) (input : ControllerInput) (pair : ℕ × ℕ) (faults : ℕ) → IsSome c.acting → Controls law c kinds →
      is_crash_input input ≡ true → new ≡ record c { acting = None } → Turns kinds c input (letters_left new.acting) (released new) pair pair faults faults
  act_crashed c new input pair faults some h crash new_is =
      by_acting c.acting refl some
    where
      by_acting : (o : Option (Acting A)) → c.acting ≡ o → IsSome o → Turns kinds c input (letters_left new.acting) (released new) pair pair faults faults
      by_acting None is none = absurd cc none
      by_acting (Some a) is some =
          subst (λ (o : Option (Acting A)). Turns kinds (record c { acting = o }) input (letters_left new.acting) (released new) pair pair faults faults) (sym is)
          (crashed_at c new a input pair faults (acting_stands c a h is) crash new_is)

  wants_at : (c new : Controlling A) (a : Acting A) (pair : ℕ × ℕ) (faults : ℕ) → Stands law c kinds a → new ≡ record c { acting = None } → Wants (record c { acting = Some a }) new pair pair faults faults
  wants_at c new a pair faults h new_is =
      record {
        state_is = ap (λ (x : Controlling A). state_of x) new_is ∙ sym (ap (λ (x : Controlling A). state_of (released x)) new_is) ∙ stops_at c new a h new_is;
        kept = ap (λ (x : Controlling A). x.results) new_is;
        pair_is = refl;
        faults_are = refl;
      }

  pub began_begins : (setup : Setup) (a b : Acting A) → BeginsTurn law a kinds setup → b ≡ begun a → BeginsTurn law b kinds setup
  began_begins setup a b s is =
      subst (λ (x : Acting A). BeginsTurn law x kinds setup) (sym is)
      (record {
        acts = record { valid = s.acts.valid; own = s.acts.own; reach = s.acts.reach; stands = s.acts.stands; marks = s.acts.marks; saves = s.acts.saves };
        rests = ap (λ (w : Work). record w { state = with_no_met_limit a.work.state }) s.rests;
        unsaved = s.unsaved;
      })

  pub takes_by : {E : Type 0} (r : Result (Option ℕ) E) (c : Controlling A) (a left : Acting A) (input : ControllerInput) → c.acting ≡ Some a →
      OnOk r (Works law kinds c.setup (begun a) (on_input kinds c.setup (begun a).work.state input) left) → IfOk r (λ promise. promise ≡ left.promise) →
      IfOk r (λ promise. TakesInput law kinds input promise c (record c { acting = Some left }))
  takes_by (Ok promise) c a left input was works is = record { before = a; after = left; was = was; works = works; promise_is = sym is; left = refl }
  takes_by (Err e) c a left input was works is = tt

  abbrev kept_by : Controlling A → Acting A → ℕ → SaveResult → Controlling A
  kept_by c left promise r =
      record c { promise = (standing r (promise, c.life) (c.promise, c.life)).0; life = (standing r (promise, c.life) (c.promise, c.life)).1; results = c.results ++ r ∷ []; acting = acting_by r (Some left) }

  -- a restart whose pair stands all the same
  pub restart_kept_new : (c mid new : Controlling A) (life : ℕ) (r : SaveResult) (pb pa : ℕ × ℕ) (fb fa : ℕ) → c.acting ≡ None → c.life < last_life → life ≡ c.life + 1 → mid ≡ record c { shelf = mid.shelf } →
      r ≡ KeptNew → Saves r (mid.promise, life) pb pa fb fa →
      new ≡ record mid { promise = (standing r (mid.promise, life) (mid.promise, mid.life)).0; life = (standing r (mid.promise, life) (mid.promise, mid.life)).1; results = mid.results ++ r ∷ [] } →
      Restarts c (letters_left new.acting) (released new) pb pa fb fa
  restart_kept_new c mid new life r pb pa fb fa off low life_is mid_is result_is saves new_is =
      let below = fresh (down_state c.me c.setup.controllers c.promise c.life) in
      let work : Work = record (stepped below (restarted c.me c.setup.controllers c.promise (c.life + 1))) { save = Some (c.promise, c.life + 1) } in
      let old : state_of c ≡ below = ap (λ (o : Option (Acting A)). state_of (record c { acting = o })) off in
      let rule : work ≡ on_restart (state_of c) = sym (ap (λ (s : ControllerState). on_restart s) old ∙ ap (λ (b : Bool). if b then work else resting below) (lt-ltb c.life last_life low)) in
      let promise : mid.promise ≡ c.promise = ap (λ (x : Controlling A). x.promise) mid_is in
      let results : mid.results ≡ c.results = ap (λ (x : Controlling A). x.results) mid_is in
      let told : new ≡ record c { shelf = mid.shelf; life = c.life + 1; results = c.results ++ KeptNew ∷ [] } =
      new_is
      ∙ ap (λ (x : SaveResult). record mid { promise = (standing x (mid.promise, life) (mid.promise, mid.life)).0; life = (standing x (mid.promise, life) (mid.promise, mid.life)).1; results = mid.results ++ x ∷ [] }) result_is
      ∙ ap (λ (n : ℕ). record mid { life = n; results = mid.results ++ KeptNew ∷ [] }) life_is
      ∙ ap (λ (l : List SaveResult). record mid { life = c.life + 1; results = l ++ KeptNew ∷ [] }) results
      ∙ ap (λ (x : Controlling A). record x { life = c.life + 1; results = c.results ++ KeptNew ∷ [] }) mid_is in
      let state : state_of (released new) ≡ down (state_of c) c.promise (c.life + 1) =
      ap (λ (x : Controlling A). state_of (released x)) told ∙ ap (λ (o : Option (Acting A)). state_of (released (record c { acting = o; life = c.life + 1 }))) off ∙ sym (ap (λ (s : ControllerState). down s c.promise (c.life + 1)) old) in
      subst (λ (w : Work). Done (state_of c) w w.save (state_of (released new)) (letters_left new.acting) c.results new.results pb pa fb fa) rule
      (record {
        result = KeptNew;
        kept = ap (λ (x : Controlling A). x.results) told;
        saves = subst (λ (x : SaveResult). Saves x (c.promise, c.life + 1) pb pa fb fa) result_is
            (subst (λ (n : ℕ). Saves r (c.promise, n) pb pa fb fa) life_is (subst (λ (n : ℕ). Saves r (n, life) pb pa fb fa) promise saves));
        state_is = state;
        letters_are = ap (λ (x : Controlling A). letters_left x.acting) told ∙ ap letters_left off;
      })

  -- a restart whose pair was saved: the member of the life that begins is kept
  pub restart_saved : (c mid after new : Controlling A) (a : Acting A) (life : ℕ) (r : SaveResult) (pb pa : ℕ × ℕ) (fb fa : ℕ) → c.acting ≡ None → c.life < last_life → life ≡ c.life + 1 → mid ≡ record c { shelf = mid.shelf } →
      r ≡ Saved → Saves r (mid.promise, life) pb pa fb fa → Born law c kinds life a → after.results ≡ mid.results ++ r ∷ [] →
      new ≡ record after { acting = Some a } → Restarts c (letters_left new.acting) (released new) pb pa fb fa
  restart_saved c mid after new a life r pb pa fb fa off low life_is mid_is result_is saves born results new_is =
      let below = fresh (down_state c.me c.setup.controllers c.promise c.life) in
      let work : Work = record (stepped below (restarted c.me c.setup.controllers c.promise (c.life + 1))) { save = Some (c.promise, c.life + 1) } in
      let old : state_of c ≡ below = ap (λ (o : Option (Acting A)). state_of (record c { acting = o })) off in
      let rule : work ≡ on_restart (state_of c) = sym (ap (λ (s : ControllerState). on_restart s) old ∙ ap (λ (b : Bool). if b then work else resting below) (lt-ltb c.life last_life low)) in
      let promise : mid.promise ≡ c.promise = ap (λ (x : Controlling A). x.promise) mid_is in
      let kept : mid.results ≡ c.results = ap (λ (x : Controlling A). x.results) mid_is in
      let begun : a.work ≡ stepped below (restarted c.me c.setup.controllers c.promise (c.life + 1)) = born.work_is ∙ ap (λ (n : ℕ). stepped below (restarted c.me c.setup.controllers c.promise n)) life_is in
      subst (λ (w : Work). Done (state_of c) w w.save (state_of (released new)) (letters_left new.acting) c.results new.results pb pa fb fa) rule
      (record {
        result = Saved;
        kept = ap (λ (x : Controlling A). x.results) new_is ∙ results ∙ ap (λ (l : List SaveResult). l ++ r ∷ []) kept ∙ ap (λ (x : SaveResult). c.results ++ x ∷ []) result_is;
        saves = subst (λ (x : SaveResult). Saves x (c.promise, c.life + 1) pb pa fb fa) result_is
            (subst (λ (n : ℕ). Saves r (c.promise, n) pb pa fb fa) life_is (subst (λ (n : ℕ). Saves r (n, life) pb pa fb fa) promise saves));
        state_is = ap (λ (x : Controlling A). state_of (released x)) new_is ∙ ap (λ (w : Work). w.state) begun;
        letters_are = ap (λ (x : Controlling A). letters_left x.acting) new_is ∙ ap (λ (w : Work). w.letters) begun;
      })

  -- a controller as its group starts
  pub starts_controlled : (me : ℕ) (setup copied : Setup) (a : Acting A) (r : VrState) (shelf : List A) (results : List SaveResult) → copied ≡ setup → IsSetup setup → me < setup.controllers →
      BeginsTurn law a kinds setup → a.work.state ≡ fresh r → r ≡ starting_state me setup.controllers → AreAlike law kinds shelf →
      Controls law (record { setup = copied; me = me; promise = 0; life = 0; acting = Some a; shelf = shelf; results = results }) kinds
  starts_controlled me setup copied a r shelf results copied_is right member begins state is alike =
      let starts : a.work.state ≡ fresh (starting_state me setup.controllers) = state ∙ ap (λ (v : VrState). fresh v) is in
      subst (λ (s : Setup). Controls law (record { setup = s; me = me; promise = 0; life = 0; acting = Some a; shelf = shelf; results = results }) kinds) (sym copied_is)
      (record {
        setup = right;
        member = member;
        acting = record {
          begins = begins;
          me = ap (λ (s : ControllerState). s.vr.me) starts;
          controllers = ap (λ (s : ControllerState). s.vr.controllers) starts;
          promise = ap (λ (s : ControllerState). s.vr.promise) starts;
          life = ap (λ (s : ControllerState). s.vr.life) starts;
          awake = λ off. let both : Normal ≡ Down = sym (ap (λ (s : ControllerState). s.vr.status) starts) ∙ off in absurd cc both;
        };
        shelf = alike;
      })

  all_push : {X : Type 0} (P : X → Type 0) (xs : List X) (x : X) → AllByRecursion P xs → P x → AllByRecursion P (xs ++ x ∷ [])
  all_push P [] x h p = (p, tt)
  all_push P (y ∷ xs) x h p = (h.0, all_push P xs x h.1 p)

  -- an application is put back
  pub pushed_alike : (b : Bool) (xs ys : List A) (app : A) → AreAlike law kinds xs → law.kinds app ≡ kinds → given_by (law.kinds app) ≤ most_commands → ys ≡ (if b then xs ++ app ∷ [] else xs) → AreAlike law kinds ys
  pushed_alike true xs ys app h k m is = subst (λ (l : List A). AreAlike law kinds l) (sym is) (all_push _ xs app h (k, m))
  pushed_alike false xs ys app h k m is = subst (λ (l : List A). AreAlike law kinds l) (sym is) h

  pub controls_back : (c after : Controlling A) (shelf : List A) → Controls law c kinds → after.setup ≡ c.setup → after.me ≡ c.me → after.acting ≡ None → AreAlike law kinds shelf →
      Controls law (released (record after { shelf = shelf })) kinds
  controls_back c after shelf h setup me off alike =
      let now = released (record after { shelf = shelf }) in
      record {
        setup = subst (λ (s : Setup). IsSetup s) (sym setup) h.setup;
        member = subst (λ (n : ℕ). n < after.setup.controllers) (sym me) (subst (λ (s : Setup). c.me < s.controllers) (sym setup) h.member);
        acting = subst (λ (o : Option (Acting A)). IfSome (released (record after { acting = o })).acting (Stands law now kinds)) (sym off) tt;
        shelf = alike;
      }

  -- one that is not down forgets what is settled
  pub forgets_state : (c : Controlling A) (a b : Acting A) → c.acting ≡ Some a → b.work.state ≡ with_settled_forgotten kinds c.setup a.work.state → b.work.state ≡ with_settled_forgotten kinds c.setup (state_of c)
  forgets_state c a b was is = is ∙ ap (λ (o : Option (Acting A)). with_settled_forgotten kinds c.setup (state_of (record c { acting = o }))) (sym was)

  pub forgets_controls : (c : Controlling A) (a b : Acting A) → Controls law c kinds → c.acting ≡ Some a → BeginsTurn law b kinds c.setup → b.work.state ≡ with_settled_forgotten kinds c.setup a.work.state →
      Controls law (record c { acting = Some b }) kinds
  forgets_controls c a b h was begins is =
      let stands = acting_stands c a h was in
      record {
        setup = h.setup;
        member = h.member;
        acting = record {
          begins = begins;
          me = ap (λ (s : ControllerState). s.vr.me) is ∙ stands.me;
          controllers = ap (λ (s : ControllerState). s.vr.controllers) is ∙ stands.controllers;
          promise = ap (λ (s : ControllerState). s.vr.promise) is ∙ stands.promise;
          life = ap (λ (s : ControllerState). s.vr.life) is ∙ stands.life;
          awake = λ off. stands.awake (sym (ap (λ (s : ControllerState). s.vr.status) is) ∙ off);
        };
        shelf = h.shelf;
      }

  -- one that is down has nothing to forget
  pub down_forgets : (c : Controlling A) → c.acting ≡ None → state_of c ≡ with_settled_forgotten kinds c.setup (state_of c)
  down_forgets c off = subst (λ (o : Option (Acting A)). state_of (record c { acting = o }) ≡ with_settled_forgotten kinds c.setup (state_of (record c { acting = o }))) (sym off) refl

  -- whatever became of its saves
  pub controls_alike : (c : Controlling A) (results : List SaveResult) → Controls law c kinds → Controls law (record c { results = results }) kinds
  controls_alike c results h = record { setup = h.setup; member = h.member; acting = each c.acting h.acting; shelf = h.shelf }
    where
      each : (o : Option (Acting A)) → IfSome o (Stands law c kinds) → IfSome o (Stands law (record c { results = results }) kinds)
      each None stands = tt
      each (Some a) s = record { begins = s.begins; me = s.me; controllers = s.controllers; promise = s.promise; life = s.life; awake = s.awake }

  pair_by : (c : Controlling A) (o : Option (Acting A)) → IfSome o (Stands law c kinds) → pair_in (state_or (fresh (down_state c.me c.setup.controllers c.promise c.life)) o) ≡ (c.promise, c.life)
  pair_by c None h = refl
  pair_by c (Some a) h = ap (λ (n : ℕ). (n, a.work.state.vr.life)) h.promise ∙ ap (λ (n : ℕ). (c.promise, n)) h.life

  down_work : (c : Controlling A) (input : ControllerInput) → controller_work kinds c.setup (state_of (record c { acting = None })) input ≡ when_down (state_of (record c { acting = None })) input
  unfolding controller_work
  down_work c input = refl

  -- one that is down does what its rule says
  down_rule : (c : Controlling A) (input : ControllerInput) (work : ControllerState → Work) → c.acting ≡ None → ((below : ControllerState) → when_down below input ≡ work below) →
      work (state_of c) ≡ controller_work kinds c.setup (state_of c) input
  down_rule c input work off rule =
      subst (λ (o : Option (Acting A)). work (state_of (record c { acting = o })) ≡ controller_work kinds c.setup (state_of (record c { acting = o })) input) (sym off)
      (sym (down_work c input ∙ rule (state_of (record c { acting = None }))))

  pub turn_restarts : (c : Controlling A) (input : ControllerInput) (letters : List (Letter ControllerSays)) (new : Controlling A) (pb pa : ℕ × ℕ) (fb fa : ℕ) → c.acting ≡ None → is_restart_input input ≡ true →
      Restarts c letters new pb pa fb fa → Turns kinds c input letters new pb pa fb fa
  turn_restarts c input letters new pb pa fb fa off is h =
      subst (λ (w : Work). Done (state_of c) w w.save (state_of new) letters c.results new.results pb pa fb fa) (down_rule c input on_restart off (λ below. restart_rule below input is)) h

  pub turn_drops : (c : Controlling A) (input : ControllerInput) (letters : List (Letter ControllerSays)) (pair : ℕ × ℕ) (faults : ℕ) → c.acting ≡ None → is_restart_input input ≡ false → letters ≡ [] →
      Turns kinds c input letters c pair pair faults faults
  turn_drops c input letters pair faults off is none =
      subst (λ (w : Work). Done (state_of c) w w.save (state_of c) letters c.results c.results pair pair faults faults) (down_rule c input resting off (λ below. drop_rule below input is))
      (record { kept = refl; pair_is = refl; faults_are = refl; state_is = refl; letters_are = none })

-- a pair was saved, and its controller knows it
pub knows_saved : {A : Type 0} (c new : Controlling A) (r : SaveResult) (saved pb pa : ℕ × ℕ) (fb fa : ℕ) → Saves r saved pb pa fb fa →
    new.promise ≡ (standing r saved (c.promise, c.life)).0 → new.life ≡ (standing r saved (c.promise, c.life)).1 → KnowsPair c new pb pa
knows_saved c new r saved pb pa fb fa s promise life known =
    s.pair ∙ ap (λ (p : ℕ × ℕ). standing r saved p) known ∙ ap (λ (n : ℕ). (n, (standing r saved (c.promise, c.life)).1)) (sym promise) ∙ ap (λ (n : ℕ). (new.promise, n)) (sym life)

-- whichever a result is
pub whichever : {X E : Type 0} (r : Result X E) (P : X → Type 0) (Q R : Type 0) → IfOk r P → OnErr r Q → ((x : X) → P x → R) → (Q → R) → R
whichever (Ok x) P Q R ok err f g = f x ok
whichever (Err e) P Q R ok err f g = g err

-- whatever went wrong
pub on_any_err : {X E : Type 0} (r : Result X E) (P : Type 0) → P → OnErr r P
on_any_err (Ok x) P h = tt
on_any_err (Err e) P h = h

not_both_local : (what : Local) → is_restart_input (controller_input.Local what) ≡ true → is_crash_input (controller_input.Local what) ≡ false
not_both_local (local.Frame port bytes) h = absurd cc h
not_both_local (local.Port port up) h = absurd cc h
not_both_local local.Tick h = absurd cc h
not_both_local (local.Suspect view) h = absurd cc h
not_both_local local.Crash h = absurd cc h
not_both_local local.Restart h = refl

-- a restart is no crash
pub not_both : (input : ControllerInput) → is_restart_input input ≡ true → is_crash_input input ≡ false
not_both (controller_input.Local what) h = not_both_local what h
not_both (controller_input.Of switch xid said) h = absurd cc h
not_both (controller_input.Malformed sender) h = absurd cc h
not_both (controller_input.Vr from message) h = absurd cc h

module _ {A : Type 0} (law : AppLaw A) where
  -- the member of a life that begins took no event
  pub born_fresh : (c : Controlling A) (kinds : List ℕ) (life : ℕ) (a : Acting A) → Born law c kinds life a →
      law.states a.dispatcher.app ≡ starting_chain (law.kinds a.dispatcher.app)
  born_fresh c kinds life a b =
      b.acts.stands.states
      ∙ ap (λ (w : Work). chain_after kinds c.setup (starting_chain kinds) (received (take w.state.vr.commit w.state.vr.log))) b.work_is
      ∙ ap (λ (ks : List ℕ). starting_chain ks) (sym b.acts.stands.kind)

  -- the application of a life that did not begin is put back
  pub puts_back : (b : Bool) (between new : List A) (app : A) → law.states app ≡ starting_chain (law.kinds app) → new ≡ (if b then between ++ app ∷ [] else between) → PutsBack law between new
  puts_back true between new app fresh is = (Some app, is, fresh)
  puts_back false between new app fresh is = (None, is ∙ sym (append-nil between), tt)

  -- whatever a turn answers that begins no life
  pub keeps_shelf : {X E : Type 0} (r : Result X E) (c new : Controlling A) (b : Bool) → b ≡ false → new.shelf ≡ c.shelf → IfOk r (λ _. LeavesShelf law b c new)
  keeps_shelf (Ok x) c new b off same = subst (λ (b : Bool). LeavesShelf law b c new) (sym off) same
  keeps_shelf (Err e) c new b off same = tt

  -- a restart took an application, and its save had this result
  pub restart_takes : (c mid new : Controlling A) (r : SaveResult) → c.life < last_life → mid ≡ record c { shelf = mid.shelf } → new.results ≡ mid.results ++ r ∷ [] → TakesBy law r c.shelf new.shelf →
      LeavesShelf law (nat_lt c.life last_life) c new
  restart_takes c mid new r low mid_is results takes =
      subst (λ (b : Bool). LeavesShelf law b c new) (sym (lt-ltb c.life last_life low))
      (r, results ∙ ap (λ (x : Controlling A). x.results ++ r ∷ []) mid_is, takes)

  pub takes_saved : (r : SaveResult) (old between new : List A) → r ≡ Saved → TakesOne old between → new ≡ between → TakesBy law r old new
  takes_saved r old between new is takes same =
      subst (λ (x : SaveResult). TakesBy law x old new) (sym is) (subst (λ (l : List A). TakesOne old l) (sym same) takes)

  pub takes_kept_new : (r : SaveResult) (old between new : List A) → r ≡ KeptNew → TakesOne old between → new ≡ between → TakesBy law r old new
  takes_kept_new r old between new is takes same =
      subst (λ (x : SaveResult). TakesBy law x old new) (sym is) (subst (λ (l : List A). TakesOne old l) (sym same) takes)

  pub takes_kept_old : (r : SaveResult) (old between new : List A) → r ≡ KeptOld → TakesOne old between → PutsBack law between new → TakesBy law r old new
  takes_kept_old r old between new is takes back =
      subst (λ (x : SaveResult). TakesBy law x old new) (sym is) (between, takes, back)

module _ {A : Type 0} where
  -- the same at want of memory
  pub takes_none : {X E : Type 0} (r : Result X E) (c new : Controlling A) (b : Bool) → b ≡ false → new.shelf ≡ c.shelf → OnErr r (MayTake b c new)
  takes_none (Ok x) c new b off same = tt
  takes_none (Err e) c new b off same = subst (λ (b : Bool). MayTake b c new) (sym off) same

  -- a restart that wants memory before it took an application, or after
  pub may_have_taken : (c new : Controlling A) → c.life < last_life → TakesOneAtMost c.shelf new.shelf → MayTake (nat_lt c.life last_life) c new
  may_have_taken c new low takes = subst (λ (b : Bool). MayTake b c new) (sym (lt-ltb c.life last_life low)) takes

  pub has_taken : (c between new : Controlling A) → c.life < last_life → TakesOne c.shelf between.shelf → new ≡ between → MayTake (nat_lt c.life last_life) c new
  has_taken c between new low takes same =
      may_have_taken c new low (subst (λ (x : Controlling A). TakesOneAtMost c.shelf x.shelf) (sym same) (Some takes.0, takes.1))
