-- Two worlds of one journal, over messages and over bytes.
use Rattle.std.proofs.Common.{◌≡◌, ◌<◌, ℕ, zero, suc, List, [], ◌∷◌, ◌++◌, length, map, reverse, refl, sym, ◌∙◌, ap, subst, arith}
use Rattle.std.specs.Prelude.{slice_get, Some}
use Rattle.std.proofs.lemmas.List.{length-map, reverse-append}
use Rattle.std.proofs.lemmas.Option.{slice_get_within}
use Rattle.of_types.specs.declared.setup.Setup.{Setup}
use Rattle.journal.specs.declared.journal.Actor.{Actor}
use Rattle.journal.specs.declared.journal.Actor.TheVariants as actor
use Rattle.journal.specs.declared.journal.JournalEntry.{JournalEntry}
use Rattle.journal.specs.declared.journal.Letter.{Letter}
use Rattle.journal.specs.declared.journal.SaveResult.{SaveResult}
use Rattle.journal.specs.Actors.{IsActor}
use Rattle.journal.specs.Part.{part}
use Rattle.journal.specs.Pool.{past}
use Rattle.journal.specs.Turns.{entry_of}
use Rattle.group_controller.specs.State.{ControllerState}
use Rattle.group_controller.specs.Turns.{Controlling, state_of}
use Rattle.of_switch.specs.State.{SwitchState}
use Rattle.app_core.specs.Law.{AppLaw}
use Rattle.byte_bodies.specs.Typed.{Typed}
use Rattle.run_spec.specs.declared.messages.Message.{Message}
use Rattle.run_spec.specs.Bodies.{byte_bodies, message_bytes}
use Rattle.run_spec.specs.Committed.{controller_state, switch_state}
use Rattle.run_spec.specs.Legal.{results_of}
use Rattle.run_spec.specs.States.{ControllerAt, SwitchAt, controller_at, controller_message, sealed_letters, switch_at, switch_message}
use Rattle.run_spec.proofs.Pasts.{from_some}
use Rattle.world.specs.World.{HoldsAt, Worlding, debt_of, results_in}
use Rattle.byte_bodies.specs.Bare.{bare, bare_entry, bare_letters, scene_bytes, scene_typed, typed_bodies}
use Rattle.byte_bodies.specs.SameSteps.{AreTwins, IsAsBytes, TakeTheSameSteps, TwinsTakeTheSameSteps}
use Rattle.byte_bodies.proofs.Carrying.{map_joined}
use Rattle.byte_bodies.proofs.SameSteps.{over_bytes}

-- a list laid upon another, each element made from one
reversed_made : {X Y : Type 0} (f : X → Y) (xs : List X) → reverse (map f xs) ≡ map f (reverse xs)
reversed_made f [] = refl
reversed_made {X = X} {Y = Y} f (x ∷ xs) =
    reverse-append (f x ∷ []) (map f xs)
    ∙ ap (λ (l : List Y). l ++ f x ∷ []) (reversed_made f xs)
    ∙ sym (map_joined f (reverse xs) (x ∷ []))
    ∙ ap (λ (l : List X). map f l) (sym (reverse-append (x ∷ []) xs))

-- two lists with the same elements at all places
same_at : {X : Type 0} (xs ys : List X) → length xs ≡ length ys → ((i : ℕ) (x y : X) → slice_get xs i ≡ Some x → slice_get ys i ≡ Some y → x ≡ y) → xs ≡ ys
same_at [] [] same each = refl
same_at [] (y ∷ ys) same each = cc
same_at (x ∷ xs) [] same each = cc
same_at {X = X} (x ∷ xs) (y ∷ ys) same each =
    let lengths : length xs ≡ length ys = omega (arith, same) in
    ap (λ (z : X). z ∷ xs) (each 0 x y refl refl) ∙ ap (λ (l : List X). y ∷ l) (same_at xs ys lengths (λ i. each (suc i)))

got_map : {X Y : Type 0} (f : X → Y) (xs : List X) (i : ℕ) (y : Y) → slice_get (map f xs) i ≡ Some y → (x : X) × (slice_get xs i ≡ Some x) × (y ≡ f x)
got_map f [] i y h = cc
got_map f (x ∷ xs) zero y h = (x, refl, from_some y (f x) (sym h))
got_map f (x ∷ xs) (suc i) y h = got_map f xs i y h

-- what was sealed as messages is bare as bytes
sealed_bare : {A : Type 0} (said : A → Message) (owed : List (Letter A)) → bare_letters (sealed_letters said typed_bodies owed) ≡ sealed_letters said byte_bodies owed
sealed_bare said [] = refl
sealed_bare said (l ∷ owed) = ap (λ (ls : List (Letter (List ℕ))). record { to = l.to; body = message_bytes (said l.body) } ∷ ls) (sealed_bare said owed)

module _ {A : Type 0} (law : AppLaw A) (kinds : List ℕ) (said : Worlding Typed A) (spelled : Worlding (List ℕ) A) (twins : AreTwins law kinds said spelled) where
  abbrev Results : List (List SaveResult)
  Results = results_in said.controllers

  abbrev Past : List (JournalEntry Typed)
  Past = past said.journal

  past_is : past spelled.journal ≡ bare Past
  past_is = ap (λ (l : List (JournalEntry (List ℕ))). past l) twins.journal ∙ reversed_made (λ e. bare_entry e) said.journal

  -- what is said of the run of the one over bytes is said of the run over messages
  of_twin : (P : Setup → List (List SaveResult) → List (JournalEntry (List ℕ)) → Type 0) → P spelled.setup (results_in spelled.controllers) (past spelled.journal) → P said.setup Results (bare Past)
  of_twin P h =
      subst (λ (l : List (JournalEntry (List ℕ))). P said.setup Results l) past_is
      (subst (λ (r : List (List SaveResult)). P said.setup r (past spelled.journal)) twins.results
      (subst (λ (s : Setup). P s (results_in spelled.controllers) (past spelled.journal)) twins.setup h))

  as_bytes : IsAsBytes kinds said.setup Results Past
  as_bytes = over_bytes kinds said.setup Results Past twins.over_messages.run.setup twins.over_messages.run.legal.possible

  run_typed : HoldsAt law (scene_typed kinds said.setup) Results Past said
  run_typed = twins.over_messages.run

  run_bytes : HoldsAt law (scene_bytes kinds said.setup) Results (bare Past) spelled
  run_bytes = of_twin (λ s r l. HoldsAt law (scene_bytes kinds s) r l spelled) twins.over_bytes.run

  state_bytes : (c : ℕ) (x : Controlling A) → slice_get spelled.controllers c ≡ Some x → c < said.setup.controllers → state_of x ≡ controller_state (scene_bytes kinds said.setup) Results c (bare Past)
  state_bytes c x found there = let m = run_bytes.controllers c there in ap (λ (y : Controlling A). state_of y) (from_some x m.member (sym found ∙ m.stands)) ∙ m.state

  state_typed : (c : ℕ) (x : Controlling A) → slice_get said.controllers c ≡ Some x → c < said.setup.controllers → state_of x ≡ controller_state (scene_typed kinds said.setup) Results c Past
  state_typed c x found there = let m = run_typed.controllers c there in ap (λ (y : Controlling A). state_of y) (from_some x m.member (sym found ∙ m.stands)) ∙ m.state

  same_state : (i : ℕ) (x y : ControllerState) → slice_get (map (λ c. state_of c) spelled.controllers) i ≡ Some x → slice_get (map (λ c. state_of c) said.controllers) i ≡ Some y → x ≡ y
  same_state i x y at_bytes at_typed =
      let a = got_map (λ (c : Controlling A). state_of c) spelled.controllers i x at_bytes in
      let b = got_map (λ (c : Controlling A). state_of c) said.controllers i y at_typed in
      let within = slice_get_within said.controllers i b.0 b.1 in
      let group = run_typed.group in
      let there : i < said.setup.controllers = omega (arith, within, group) in
      a.2 ∙ state_bytes i a.0 a.1 there ∙ ap (λ (w : ControllerAt). w.now) (as_bytes.controllers i) ∙ sym (state_typed i b.0 b.1 there) ∙ sym b.2

  same_switch : (i : ℕ) (x y : SwitchState) → slice_get spelled.switches i ≡ Some x → slice_get said.switches i ≡ Some y → x ≡ y
  same_switch i x y at_bytes at_typed =
      let within = slice_get_within said.switches i y at_typed in
      let count = run_typed.count in
      let there : i < length said.setup.ports = omega (arith, within, count) in
      from_some x (switch_state (scene_bytes kinds said.setup) i (bare Past)) (sym at_bytes ∙ run_bytes.switches i there)
      ∙ ap (λ (w : SwitchAt). w.now) (as_bytes.switches i)
      ∙ from_some (switch_state (scene_typed kinds said.setup) i Past) y (sym (run_typed.switches i there) ∙ at_typed)

  owed_same : (a : Actor) → IsActor said.setup a → debt_of spelled.owed a ≡ bare_letters (debt_of said.owed a)
  owed_same (actor.Controller c) there =
      (run_bytes.controller_debts c there).sealed
      ∙ ap (λ (w : ControllerAt). sealed_letters controller_message byte_bodies w.owed) (as_bytes.controllers c)
      ∙ sym (sealed_bare controller_message (controller_at (scene_typed kinds said.setup) (results_of Results c) c (part (actor.Controller c) Past)).owed)
      ∙ ap (λ (ls : List (Letter Typed)). bare_letters ls) (sym (run_typed.controller_debts c there).sealed)
  owed_same (actor.Switch s) there =
      (run_bytes.switch_debts s there).sealed
      ∙ ap (λ (w : SwitchAt). sealed_letters switch_message byte_bodies w.owed) (as_bytes.switches s)
      ∙ sym (sealed_bare switch_message (switch_at (scene_typed kinds said.setup) s (part (actor.Switch s) Past)).owed)
      ∙ ap (λ (ls : List (Letter Typed)). bare_letters ls) (sym (run_typed.switch_debts s there).sealed)

  same_steps : TakeTheSameSteps said spelled
  same_steps = record {
    controllers = same_at (map (λ c. state_of c) spelled.controllers) (map (λ c. state_of c) said.controllers)
        (length-map spelled.controllers (λ c. state_of c) ∙ run_bytes.group ∙ sym run_typed.group ∙ sym (length-map said.controllers (λ c. state_of c))) same_state;
    switches = same_at spelled.switches said.switches (run_bytes.count ∙ sym run_typed.count) same_switch;
    owed = owed_same;
    turns = λ t. ap (λ (l : List (JournalEntry (List ℕ))). entry_of t l) past_is ∙ as_bytes.turns t;
  }

pub twins_law : {A : Type 0} (law : AppLaw A) → TwinsTakeTheSameSteps law
twins_law law kinds said spelled twins = same_steps law kinds said spelled twins
