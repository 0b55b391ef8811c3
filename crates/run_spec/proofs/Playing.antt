-- Where every save was made, a script and the closing schedule give one journal: the one that the definitions play.
use Rattle.std.proofs.Common.{◌≡◌, ◌≢◌, ◌<◌, ℕ, zero, suc, ◌+◌, Bool, true, cond, List, [], ◌∷◌, ◌++◌, length, take, map, reverse, refl, sym, ◌∙◌, ap, subst, arith, append_assoc, take-suc, take_all}
use Rattle.std.specs.Prelude.{Option, Some, None, slice_get, slice_index_or}
use Rattle.std.specs.List.{AllByRecursion, range_with_len}
use Rattle.std.proofs.lemmas.List.{reverse-append}
use Rattle.std.proofs.lemmas.List.Sums.{sum_by-cons}
use Rattle.std.proofs.lemmas.Option.{slice_get_within, get_or_from_slice_get}
use Rattle.journal.specs.declared.journal.Actor.{Actor}
use Rattle.journal.specs.declared.journal.Actor.TheVariants as actor
use Rattle.journal.specs.declared.journal.JournalEntry.{JournalEntry}
use Rattle.journal.specs.declared.journal.JournalEntry.TheVariants.{Post, Draw, Lose, Local, Idle, Refused}
use Rattle.journal.specs.declared.journal.Letter.{Letter}
use Rattle.journal.specs.declared.journal.Packet.{Packet}
use Rattle.journal.specs.declared.journal.SaveResult.{SaveResult}
use Rattle.journal.specs.declared.journal.SaveResult.TheVariants.{Saved}
use Rattle.journal.specs.declared.journal.Turn.{Turn}
use Rattle.journal.specs.Actors.{same_actor, actor_of, is_input}
use Rattle.journal.specs.Orderly.{lost_of}
use Rattle.journal.specs.Part.{part}
use Rattle.journal.specs.Pool.{pool, letters_posted}
use Rattle.journal.specs.Turns.{entry_of, posted}
use Rattle.group_controller.specs.declared.messages.ControllerInput.TheVariants as controller_input
use Rattle.group_controller.specs.State.{ControllerState, Work}
use Rattle.group_controller.specs.Rules.{controller_work}
use Rattle.run_spec.specs.States.{Scene, ControllerAt, content, controller_hears, controller_message, sealed_letters, controller_saved, controller_took, controller_step, controller_at}
use Rattle.run_spec.specs.Legal.{IsSoundSwitch, IsSoundController, IsPossible, results_of}
use Rattle.run_spec.specs.Committed.{controller_state, states_of}
use Rattle.run_spec.specs.Script.{owed_of, inputs, IsPosted, IsInputOf, TakesInOrder, FollowsInOrder}
use Rattle.run_spec.specs.Closing.{Phase, Losing, Suspecting, Draining, Met, ClosingAnswer, ClosingMove, Takes, Ends, next_lost, next_move, after_turn, after_move, IsMove, IsEnd, ClosesTo, Closes}
use Rattle.run_spec.specs.Play.{with_entry, played, Rest, closed_from, plays}
use Rattle.run_spec.proofs.Pasts.{possible_before, from_some, self_switch, self_controller}
use Rattle.run_spec.proofs.Pools.{one_actor}

-- the first so many, and the next one
take_next : {A : Type 0} (xs : List A) (n : ℕ) (x : A) → slice_get xs n ≡ Some x → take (suc n) xs ≡ take n xs ++ x ∷ []
take_next {A = A} xs n x at = take-suc xs n x (slice_get_within xs n x at) ∙ ap (λ (y : A). take n xs ++ y ∷ []) (get_or_from_slice_get xs n x x at)

-- one entry of a list that is laid upon another
pub reverse_onto : {A : Type 0} (x : A) (xs ys : List A) → reverse (x ∷ xs) ++ ys ≡ reverse xs ++ (x ∷ ys)
reverse_onto {A = A} x xs ys = ap (λ (zs : List A). zs ++ ys) (reverse-append (x ∷ []) xs) ∙ append_assoc (reverse xs) (x ∷ []) ys

module _ {B : Type 0} (scene : Scene B) (results : List (List SaveResult)) where
  -- a past is possible without its newest entries
  possible_behind : (front before : List (JournalEntry B)) → IsPossible scene results (front ++ before) → IsPossible scene results before
  possible_behind [] before possible = possible
  possible_behind (e ∷ front) before possible = possible_behind front before (possible_before scene results e (front ++ before) possible)

  -- a past, once what its newest input owes is posted
  abbrev completed : List (JournalEntry B) → List (JournalEntry B)
  completed [] = []
  completed (Post a first letters lost ∷ before) = Post a first letters lost ∷ before
  completed (e ∷ before) = with_entry scene results e before

  -- nothing is posted where nothing is owed
  rests : (a : Actor) (letters : List (Letter B)) (before : List (JournalEntry B)) → letters ≡ [] → posted scene.sealing.size a letters before ≡ before
  rests a letters before none = ap (λ (ls : List (Letter B)). posted scene.sealing.size a ls before) none

  -- a past in which all is posted is complete
  completed_posted : (entries : List (JournalEntry B)) → IsPosted scene results entries → completed entries ≡ entries
  completed_posted [] none = refl
  completed_posted (Post a first letters lost ∷ before) none = refl
  completed_posted (Draw a id keep ∷ before) none = rests a (owed_of scene results a (Draw a id keep ∷ before)) (Draw a id keep ∷ before) none
  completed_posted (Lose a id ∷ before) none = rests a (owed_of scene results a (Lose a id ∷ before)) (Lose a id ∷ before) none
  completed_posted (Local a input ∷ before) none = rests a (owed_of scene results a (Local a input ∷ before)) (Local a input ∷ before) none
  completed_posted (Idle a ∷ before) none = rests a (owed_of scene results a (Idle a ∷ before)) (Idle a ∷ before) none
  completed_posted (Refused a ∷ before) none = rests a (owed_of scene results a (Refused a ∷ before)) (Refused a ∷ before) none

  -- a Post has all of what its actor owes, and there is something
  post_owed : (a : Actor) (first : ℕ) (letters : List (Letter B)) (lost : ℕ) (before : List (JournalEntry B)) → IsPossible scene results (Post a first letters lost ∷ before) →
      (letters ≡ owed_of scene results a before) × (letters ≢ [])
  post_owed (actor.Controller c) first letters lost before possible =
      let own : part (actor.Controller c) (Post (actor.Controller c) first letters lost ∷ before) ≡ (Post (actor.Controller c) first letters lost, None) ∷ part (actor.Controller c) before = rw (self_controller c) refl in
      let fits = (subst (λ (p : List (JournalEntry B × Option (Packet B))). IsSoundController scene (results_of results c) c p) own (possible.controllers c possible.named.0)).0 in
      (fits.0, fits.1)
  post_owed (actor.Switch s) first letters lost before possible =
      let own : part (actor.Switch s) (Post (actor.Switch s) first letters lost ∷ before) ≡ (Post (actor.Switch s) first letters lost, None) ∷ part (actor.Switch s) before = rw (self_switch s) refl in
      let fits = (subst (λ (p : List (JournalEntry B × Option (Packet B))). IsSoundSwitch scene s p) own (possible.switches s possible.named.0)).0 in
      (fits.0, fits.1)

  some_posted : (a : Actor) (letters : List (Letter B)) (before : List (JournalEntry B)) → letters ≢ [] →
      posted scene.sealing.size a letters before ≡ Post a (letters_posted before) letters (lost_of scene.sealing.size (pool before) letters) ∷ before
  some_posted a [] before some = absurd (some refl)
  some_posted a (l ∷ letters) before some = refl

  -- so it is the one that is made of this
  post_made : (a : Actor) (first : ℕ) (letters : List (Letter B)) (lost : ℕ) (before : List (JournalEntry B)) → IsPossible scene results (Post a first letters lost ∷ before) →
      (b : Actor) → same_actor b a ≡ true → posted scene.sealing.size b (owed_of scene results b before) before ≡ Post a first letters lost ∷ before
  post_made a first letters lost before possible b same =
      let owed = post_owed a first letters lost before possible in
      let orderly = possible.orderly in
      ap (λ (x : Actor). posted scene.sealing.size x (owed_of scene results x before) before) (one_actor b a same)
      ∙ ap (λ (ls : List (Letter B)). posted scene.sealing.size a ls before) (sym owed.0)
      ∙ some_posted a letters before owed.1
      ∙ ap (λ (n : ℕ). Post a n letters (lost_of scene.sealing.size (pool before) letters) ∷ before) (sym orderly.0)
      ∙ ap (λ (n : ℕ). Post a first letters n ∷ before) (sym orderly.1)

  -- behind an input it is what completes the past
  completed_post : (a : Actor) (first : ℕ) (letters : List (Letter B)) (lost : ℕ) (before : List (JournalEntry B)) → IsPossible scene results (Post a first letters lost ∷ before) →
      IsInputOf a before → completed before ≡ Post a first letters lost ∷ before
  completed_post a first letters lost [] possible input = absurd input
  completed_post a first letters lost (Post b n ls m ∷ before) possible input = let no = input.0 in absurd cc
  completed_post a first letters lost (Draw b id keep ∷ before) possible input = post_made a first letters lost (Draw b id keep ∷ before) possible b input.1
  completed_post a first letters lost (Lose b id ∷ before) possible input = post_made a first letters lost (Lose b id ∷ before) possible b input.1
  completed_post a first letters lost (Local b x ∷ before) possible input = post_made a first letters lost (Local b x ∷ before) possible b input.1
  completed_post a first letters lost (Idle b ∷ before) possible input = post_made a first letters lost (Idle b ∷ before) possible b input.1
  completed_post a first letters lost (Refused b ∷ before) possible input = let no = input.0 in absurd cc

  -- the steps one after another
  played_more : (steps more : List Turn) (before : List (JournalEntry B)) → played scene results (steps ++ more) before ≡ played scene results more (played scene results steps before)
  unfolding played
  played_more [] more before = refl
  played_more (step ∷ steps) more before = played_more steps more (with_entry scene results (entry_of step before) before)

  played_none : (before : List (JournalEntry B)) → played scene results [] before ≡ before
  unfolding played
  played_none before = refl

  played_one : (step : Turn) (before : List (JournalEntry B)) → played scene results (step ∷ []) before ≡ with_entry scene results (entry_of step before) before
  unfolding played
  played_one step before = refl

  -- how many inputs were taken, by the newest entry
  counted : (e : JournalEntry B) (before : List (JournalEntry B)) → inputs (e ∷ before) ≡ cond (is_input e) 1 0 + inputs before
  counted e before = sum_by-cons (λ (x : JournalEntry B). cond (is_input x) 1 0) e before

  input_counted : (e : JournalEntry B) (before : List (JournalEntry B)) → is_input e ≡ true → inputs (e ∷ before) ≡ suc (inputs before)
  input_counted e before is = counted e before ∙ ap (λ (b : Bool). cond b 1 0 + inputs before) is ∙ omega arith

  -- an input that is the one of the next step is played, with what is owed then
  input_played : (steps : List Turn) (e : JournalEntry B) (before : List (JournalEntry B)) → is_input e ≡ true → played scene results (take (inputs before) steps) [] ≡ before →
      (step : Turn) × (slice_get steps (inputs before) ≡ Some step) × (e ≡ entry_of step before) →
      played scene results (take (inputs (e ∷ before)) steps) [] ≡ with_entry scene results e before
  input_played steps e before is old next =
      let step = next.0 in
      ap (λ (n : ℕ). played scene results (take n steps) []) (input_counted e before is)
      ∙ ap (λ (ss : List Turn). played scene results ss []) (take_next steps (inputs before) step next.1)
      ∙ played_more (take (inputs before) steps) (step ∷ []) []
      ∙ ap (λ (entries : List (JournalEntry B)). played scene results (step ∷ []) entries) old
      ∙ played_one step before
      ∙ ap (λ (x : JournalEntry B). with_entry scene results x before) (sym next.2)

  module _ (steps : List Turn) where
    -- the steps that a past has taken give it, once all is posted
    takes_played : (entries : List (JournalEntry B)) → IsPossible scene results entries → TakesInOrder scene results steps entries →
        played scene results (take (inputs entries) steps) [] ≡ completed entries
    takes_played [] possible takes = played_none []
    takes_played (Post a first letters lost ∷ before) possible takes =
        ap (λ (n : ℕ). played scene results (take n steps) []) (counted (Post a first letters lost) before ∙ omega arith)
        ∙ takes_played before (possible_before scene results (Post a first letters lost) before possible) takes.2
        ∙ completed_post a first letters lost before possible takes.0
    takes_played (Draw a id keep ∷ before) possible takes =
        input_played steps (Draw a id keep) before refl
        (takes_played before (possible_before scene results (Draw a id keep) before possible) takes.2 ∙ completed_posted before (takes.1 refl)) takes.0
    takes_played (Lose a id ∷ before) possible takes =
        input_played steps (Lose a id) before refl
        (takes_played before (possible_before scene results (Lose a id) before possible) takes.2 ∙ completed_posted before (takes.1 refl)) takes.0
    takes_played (Local a input ∷ before) possible takes =
        input_played steps (Local a input) before refl
        (takes_played before (possible_before scene results (Local a input) before possible) takes.2 ∙ completed_posted before (takes.1 refl)) takes.0
    takes_played (Idle a ∷ before) possible takes =
        input_played steps (Idle a) before refl
        (takes_played before (possible_before scene results (Idle a) before possible) takes.2 ∙ completed_posted before (takes.1 refl)) takes.0
    takes_played (Refused a ∷ before) possible takes = absurd takes.0

    -- a script's part of a journal is what its steps give
    pub script_played : (script : List (JournalEntry B)) → IsPossible scene results script → FollowsInOrder scene results steps script → played scene results steps [] ≡ script
    script_played script possible follows =
        let all = follows.all in
        ap (λ (ss : List Turn). played scene results ss []) (sym (take_all (inputs script) steps (omega (arith, all))))
        ∙ takes_played script possible follows.takes
        ∙ completed_posted script follows.posted

  -- a move that takes an entry, and one that ends
  move_is : (m : ClosingMove B) (e : JournalEntry B) (next : Phase) → IsMove m e next → m ≡ Takes e next
  move_is (Takes f after) e next is = ap (λ (x : JournalEntry B). Takes x after) (sym is.0) ∙ ap (λ (x : Phase). Takes e x) (sym is.1)
  move_is (Ends answer) e next is = absurd is

  end_is : (m : ClosingMove B) (answer : ClosingAnswer) → IsEnd m answer → m ≡ Ends answer
  end_is (Takes e next) answer is = absurd is
  end_is (Ends given) answer is = ap (λ (x : ClosingAnswer). Ends x) (sym is)

  -- a closing that may take one more move, by what its next move is
  abbrev goes : ℕ → Phase → List (JournalEntry B) → ClosingMove B → Rest B
  goes more phase before m = elim m [
    | Ends answer ↦ record { entries = before; answer = Some answer }
    | Takes e next ↦ closed_from more scene results (after_move scene results e before next) (with_entry scene results e before)
  ]

  closed_goes : (more : ℕ) (phase : Phase) (before : List (JournalEntry B)) → closed_from (suc more) scene results phase before ≡ goes more phase before (next_move scene results phase before)
  unfolding closed_from
  closed_goes more phase before = refl

  closed_none : (phase : Phase) (before : List (JournalEntry B)) → closed_from 0 scene results phase before ≡ record { entries = before; answer = None }
  unfolding closed_from
  closed_none phase before = refl

  -- the past that a closing gives, and its answer
  abbrev closing : List (JournalEntry B) → ClosingAnswer → Rest B
  closing whole answer = record { entries = whole; answer = Some answer }

  closed_end : (more : ℕ) (phase : Phase) (before : List (JournalEntry B)) (answer : ClosingAnswer) → next_move scene results phase before ≡ Ends answer →
      closed_from (suc more) scene results phase before ≡ closing before answer
  closed_end more phase before answer is = closed_goes more phase before ∙ ap (λ (m : ClosingMove B). goes more phase before m) is

  closed_takes : (more : ℕ) (phase : Phase) (before : List (JournalEntry B)) (e : JournalEntry B) (next : Phase) → next_move scene results phase before ≡ Takes e next →
      closed_from (suc more) scene results phase before ≡ closed_from more scene results (after_move scene results e before next) (with_entry scene results e before)
  closed_takes more phase before e next is = closed_goes more phase before ∙ ap (λ (m : ClosingMove B). goes more phase before m) is

  -- a closing from a phase gives this past and this answer
  pub record IsClosed (phase : Phase) (before whole : List (JournalEntry B)) (answer : ClosingAnswer) : Type 0 where
    pub most : ℕ
    pub gives : closed_from most scene results phase before ≡ record { entries = whole; answer = Some answer }

  -- and so with one move more before it
  one_more : (phase : Phase) (e : JournalEntry B) (before whole : List (JournalEntry B)) (next : Phase) (answer : ClosingAnswer) → IsPosted scene results before →
      IsMove (next_move scene results phase before) e next → IsClosed (after_move scene results e before next) (with_entry scene results e before) whole answer →
      IsClosed phase (completed before) whole answer
  one_more phase e before whole next answer none move rest =
      record {
        most = suc rest.most;
        gives = ap (λ (entries : List (JournalEntry B)). closed_from (suc rest.most) scene results phase entries) (completed_posted before none)
            ∙ closed_takes rest.most phase before e next (move_is (next_move scene results phase before) e next move) ∙ rest.gives;
      }

  module _ (whole : List (JournalEntry B)) (last : Phase) (answer : ClosingAnswer) (possible : IsPossible scene results whole) (posted_whole : IsPosted scene results whole)
      (ends : IsEnd (next_move scene results last whole) answer) where
    -- the entries of a closing are those that its schedule gives
    steps_closed : (entries : List (JournalEntry B)) (phase : Phase) (before : List (JournalEntry B)) → whole ≡ reverse entries ++ before →
        ClosesTo scene results phase before entries last → IsClosed phase (completed before) whole answer
    steps_closed [] phase before joined steps =
        let here : completed before ≡ whole = completed_posted before (subst (λ (entries : List (JournalEntry B)). IsPosted scene results entries) joined posted_whole) ∙ sym joined in
        record {
          most = 1;
          gives = ap (λ (entries : List (JournalEntry B)). closed_from 1 scene results phase entries) here
              ∙ ap (λ (p : Phase). closed_from 1 scene results p whole) (sym steps)
              ∙ closed_end 0 last whole answer (end_is (next_move scene results last whole) answer ends);
        }
    steps_closed (Post a first letters lost ∷ rest) phase before joined steps =
        let post = Post a first letters lost in
        let there : whole ≡ reverse rest ++ (post ∷ before) = joined ∙ reverse_onto post rest before in
        let behind = possible_behind (reverse rest) (post ∷ before) (subst (λ (entries : List (JournalEntry B)). IsPossible scene results entries) there possible) in
        subst (λ (entries : List (JournalEntry B)). IsClosed phase entries whole answer) (sym (completed_post a first letters lost before behind steps.0))
        (steps_closed rest phase (post ∷ before) there steps.1)
    steps_closed (Draw a id keep ∷ rest) phase before joined steps =
        one_more phase (Draw a id keep) before whole steps.1.0 answer steps.0 steps.1.1
        (steps_closed rest (after_move scene results (Draw a id keep) before steps.1.0) (Draw a id keep ∷ before) (joined ∙ reverse_onto (Draw a id keep) rest before) steps.1.2)
    steps_closed (Lose a id ∷ rest) phase before joined steps =
        one_more phase (Lose a id) before whole steps.1.0 answer steps.0 steps.1.1
        (steps_closed rest (after_move scene results (Lose a id) before steps.1.0) (Lose a id ∷ before) (joined ∙ reverse_onto (Lose a id) rest before) steps.1.2)
    steps_closed (Local a input ∷ rest) phase before joined steps =
        one_more phase (Local a input) before whole steps.1.0 answer steps.0 steps.1.1
        (steps_closed rest (after_move scene results (Local a input) before steps.1.0) (Local a input ∷ before) (joined ∙ reverse_onto (Local a input) rest before) steps.1.2)
    steps_closed (Idle a ∷ rest) phase before joined steps =
        one_more phase (Idle a) before whole steps.1.0 answer steps.0 steps.1.1
        (steps_closed rest (after_move scene results (Idle a) before steps.1.0) (Idle a ∷ before) (joined ∙ reverse_onto (Idle a) rest before) steps.1.2)
    steps_closed (Refused a ∷ rest) phase before joined steps =
        one_more phase (Refused a) before whole steps.1.0 answer steps.0 steps.1.1
        (steps_closed rest (after_move scene results (Refused a) before steps.1.0) (Refused a ∷ before) (joined ∙ reverse_onto (Refused a) rest before) steps.1.2)

  -- the journal of a script and its closing is the one that is played
  pub run_plays : (steps : List Turn) (script entries : List (JournalEntry B)) (answer : ClosingAnswer) → IsPossible scene results (reverse entries ++ script) →
      FollowsInOrder scene results steps script → Closes scene results script entries answer →
      (most : ℕ) × (plays most scene results steps ≡ record { entries = reverse entries ++ script; answer = Some answer })
  run_plays steps script entries answer possible follows closes =
      let behind = possible_behind (reverse entries) script possible in
      let closed = steps_closed (reverse entries ++ script) closes.last answer possible closes.posted closes.ends entries Losing script refl closes.steps in (
        closed.most,
        ap (λ (before : List (JournalEntry B)). closed_from closed.most scene results Losing before) (script_played steps script behind follows ∙ sym (completed_posted script follows.posted))
            ∙ closed.gives,
      )

  -- a closing that gave its answer gives it with more moves too
  further : (most more : ℕ) (phase : Phase) (before whole : List (JournalEntry B)) (answer : ClosingAnswer) →
      ((p : Phase) (b : List (JournalEntry B)) → closed_from most scene results p b ≡ closing whole answer → closed_from (most + more) scene results p b ≡ closing whole answer) →
      (m : ClosingMove B) → next_move scene results phase before ≡ m → closed_from (suc most) scene results phase before ≡ closing whole answer →
      closed_from (suc (most + more)) scene results phase before ≡ closing whole answer
  further most more phase before whole answer rest (Ends given) is gives = closed_end (most + more) phase before given is ∙ sym (closed_end most phase before given is) ∙ gives
  further most more phase before whole answer rest (Takes e next) is gives =
      closed_takes (most + more) phase before e next is
      ∙ rest (after_move scene results e before next) (with_entry scene results e before) (sym (closed_takes most phase before e next is) ∙ gives)

  closed_again : (most more : ℕ) (phase : Phase) (before whole : List (JournalEntry B)) (answer : ClosingAnswer) → closed_from most scene results phase before ≡ closing whole answer →
      closed_from (most + more) scene results phase before ≡ closing whole answer
  closed_again zero more phase before whole answer gives = let no = ap (λ (r : Rest B). r.answer) (sym (closed_none phase before) ∙ gives) in absurd cc
  closed_again (suc most) more phase before whole answer gives =
      ap (λ (n : ℕ). closed_from n scene results phase before) (omega arith)
      ∙ further most more phase before whole answer (λ p b g. closed_again most more p b whole answer g) (next_move scene results phase before) refl gives

  -- so it gives one past and one answer, however many moves it may take
  closed_once : (most more : ℕ) (phase : Phase) (before whole other : List (JournalEntry B)) (answer given : ClosingAnswer) → closed_from most scene results phase before ≡ closing whole answer →
      closed_from more scene results phase before ≡ closing other given → (whole ≡ other) × (answer ≡ given)
  closed_once most more phase before whole other answer given one another =
      let same = sym (closed_again most more phase before whole answer one) ∙ ap (λ (n : ℕ). closed_from n scene results phase before) (omega arith)
      ∙ closed_again more most phase before other given another in
      (ap (λ (r : Rest B). r.entries) same, from_some answer given (ap (λ (r : Rest B). r.answer) same))

-- all these saves were made
abbrev pub AreSaved : List SaveResult → Type 0
AreSaved results = AllByRecursion (λ r. r ≡ Saved) results

-- every save of every controller was made
abbrev pub AllSaved : List (List SaveResult) → Type 0
AllSaved results = (c : ℕ) → AreSaved (results_of results c)

-- by the numbers of the controllers
pub all_saved : (results : List (List SaveResult)) → ((c : ℕ) → c < length results → AreSaved (results_of results c)) → AllSaved results
all_saved [] saved c = tt
all_saved (rs ∷ results) saved zero = saved 0 (omega arith)
all_saved (rs ∷ results) saved (suc c) = all_saved results (λ d there. saved (suc d) (omega (arith, there))) c

-- so whatever save is looked up was made
saved_at : (results : List SaveResult) → AreSaved results → (i : ℕ) → slice_index_or results i Saved ≡ Saved
saved_at [] saved i = refl
saved_at (r ∷ results) saved zero = saved.0
saved_at (r ∷ results) saved (suc i) = saved_at results saved.1 i

map_same : {A C : Type 0} (f g : A → C) (xs : List A) → ((x : A) → f x ≡ g x) → map f xs ≡ map g xs
map_same f g [] e = refl
map_same f g (x ∷ xs) e = ap (λ y. y ∷ map f xs) (e x) ∙ ap (λ l. g x ∷ l) (map_same f g xs e)

module _ {B : Type 0} (scene : Scene B) where
  module _ (results : List SaveResult) (saved : AreSaved results) where
    took_saved : (w : ControllerAt) (work : Work) → controller_took results w work ≡ controller_took [] w work
    took_saved w work = by_save work.save refl
      where
        by_save : (o : Option (ℕ × ℕ)) → work.save ≡ o → controller_took results w work ≡ controller_took [] w work
        by_save None h = rw h refl
        by_save (Some pair) h = rw h (ap (λ (r : SaveResult). controller_saved w work pair.0 pair.1 r) (saved_at results saved w.saves))

    step_saved : (w : ControllerAt) (e : JournalEntry B) (found : Option (Packet B)) → controller_step scene results w e found ≡ controller_step scene [] w e found
    step_saved w (Draw a id keep) (Some p) = took_saved w (controller_work scene.kinds scene.setup w.now (controller_hears p.from (content scene.sealing p)))
    step_saved w (Draw a id keep) None = refl
    step_saved w (Local a input) found = took_saved w (controller_work scene.kinds scene.setup w.now (controller_input.Local input))
    step_saved w (Post a first letters lost) found = refl
    step_saved w (Refused a) found = refl
    step_saved w (Lose a id) found = refl
    step_saved w (Idle a) found = refl

    -- where all its saves were made, a controller is as with no results
    pub controller_unfailed : (c : ℕ) (ps : List (JournalEntry B × Option (Packet B))) → controller_at scene results c ps ≡ controller_at scene [] c ps
    controller_unfailed c [] = refl
    controller_unfailed c (p ∷ ps) =
        step_saved (controller_at scene results c ps) p.0 p.1 ∙ ap (λ (w : ControllerAt). controller_step scene [] w p.0 p.1) (controller_unfailed c ps)

  module _ (results : List (List SaveResult)) (saved : AllSaved results) where
    owed_unfailed : (a : Actor) (entries : List (JournalEntry B)) → owed_of scene results a entries ≡ owed_of scene [] a entries
    owed_unfailed (actor.Controller c) entries =
        ap (λ (w : ControllerAt). sealed_letters controller_message scene.sealing w.owed) (controller_unfailed (results_of results c) (saved c) c (part (actor.Controller c) entries))
    owed_unfailed (actor.Switch s) entries = refl

    entry_unfailed : (e : JournalEntry B) (before : List (JournalEntry B)) → with_entry scene results e before ≡ with_entry scene [] e before
    entry_unfailed e before = ap (λ (ls : List (Letter B)). posted scene.sealing.size (actor_of e) ls (e ∷ before)) (owed_unfailed (actor_of e) (e ∷ before))

    played_unfailed : (steps : List Turn) (before : List (JournalEntry B)) → played scene results steps before ≡ played scene [] steps before
    unfolding played
    played_unfailed [] before = refl
    played_unfailed (step ∷ steps) before =
        ap (λ (entries : List (JournalEntry B)). played scene results steps entries) (entry_unfailed (entry_of step before) before)
        ∙ played_unfailed steps (with_entry scene [] (entry_of step before) before)

    state_unfailed : (c : ℕ) (entries : List (JournalEntry B)) → controller_state scene results c entries ≡ controller_state scene [] c entries
    state_unfailed c entries = ap (λ (w : ControllerAt). w.now) (controller_unfailed (results_of results c) (saved c) c (part (actor.Controller c) entries))

    states_unfailed : (entries : List (JournalEntry B)) → states_of scene results entries ≡ states_of scene [] entries
    states_unfailed entries =
        map_same (λ (c : ℕ). controller_state scene results c entries) (λ (c : ℕ). controller_state scene [] c entries) (range_with_len 0 scene.setup.controllers)
        (λ c. state_unfailed c entries)

    move_unfailed : (phase : Phase) (entries : List (JournalEntry B)) → next_move scene results phase entries ≡ next_move scene [] phase entries
    move_unfailed Losing entries = ap (λ (states : List ControllerState). next_lost scene.setup.controllers states (pool entries)) (states_unfailed entries)
    move_unfailed (Suspecting view quorum members) entries = refl
    move_unfailed (Draining view quorum) entries = refl
    move_unfailed (Met limit) entries = refl

    after_unfailed : (e : JournalEntry B) (before : List (JournalEntry B)) (next : Phase) → after_move scene results e before next ≡ after_move scene [] e before next
    after_unfailed (Local (actor.Controller c) input) before next = ap (λ (s : ControllerState). after_turn s next) (state_unfailed c (Local (actor.Controller c) input ∷ before))
    after_unfailed (Draw (actor.Controller c) id keep) before next = ap (λ (s : ControllerState). after_turn s next) (state_unfailed c (Draw (actor.Controller c) id keep ∷ before))
    after_unfailed (Local (actor.Switch s) input) before next = refl
    after_unfailed (Draw (actor.Switch s) id keep) before next = refl
    after_unfailed (Post a first letters lost) before next = refl
    after_unfailed (Lose a id) before next = refl
    after_unfailed (Idle a) before next = refl
    after_unfailed (Refused a) before next = refl

    goes_unfailed : (more : ℕ) → ((p : Phase) (b : List (JournalEntry B)) → closed_from more scene results p b ≡ closed_from more scene [] p b) →
        (phase : Phase) (before : List (JournalEntry B)) (m : ClosingMove B) → goes scene results more phase before m ≡ goes scene [] more phase before m
    goes_unfailed more rest phase before (Ends answer) = refl
    goes_unfailed more rest phase before (Takes e next) =
        ap (λ (p : Phase). closed_from more scene results p (with_entry scene results e before)) (after_unfailed e before next)
        ∙ ap (λ (entries : List (JournalEntry B)). closed_from more scene results (after_move scene [] e before next) entries) (entry_unfailed e before)
        ∙ rest (after_move scene [] e before next) (with_entry scene [] e before)

    closed_unfailed : (most : ℕ) (phase : Phase) (before : List (JournalEntry B)) → closed_from most scene results phase before ≡ closed_from most scene [] phase before
    closed_unfailed zero phase before = closed_none scene results phase before ∙ sym (closed_none scene [] phase before)
    closed_unfailed (suc more) phase before =
        closed_goes scene results more phase before
        ∙ goes_unfailed more (λ p b. closed_unfailed more p b) phase before (next_move scene results phase before)
        ∙ ap (λ (m : ClosingMove B). goes scene [] more phase before m) (move_unfailed phase before)
        ∙ sym (closed_goes scene [] more phase before)

    -- what is played with all saves made is what is played with no results
    pub plays_unfailed : (most : ℕ) (steps : List Turn) → plays most scene results steps ≡ plays most scene [] steps
    plays_unfailed most steps =
        closed_unfailed most Losing (played scene results steps [])
        ∙ ap (λ (before : List (JournalEntry B)). closed_from most scene [] Losing before) (played_unfailed steps [])

  -- a run of a script and its closing, in which every save was made
  pub record IsWholeRun (steps : List Turn) (script entries : List (JournalEntry B)) (answer : ClosingAnswer) : Type 0 where
    pub results : List (List SaveResult)
    pub saved : AllSaved results
    pub possible : IsPossible scene results (reverse entries ++ script)
    pub follows : FollowsInOrder scene results steps script
    pub closes : Closes scene results script entries answer

  -- its journal is the one that its scene and its script give
  pub the_one_journal : (steps : List Turn) (script entries : List (JournalEntry B)) (answer : ClosingAnswer) → IsWholeRun steps script entries answer →
      (most : ℕ) × (plays most scene [] steps ≡ record { entries = reverse entries ++ script; answer = Some answer })
  the_one_journal steps script entries answer run =
      let plays_so = run_plays scene run.results steps script entries answer run.possible run.follows run.closes in
      (plays_so.0, sym (plays_unfailed run.results run.saved plays_so.0 steps) ∙ plays_so.1)

  -- so two runs of one scenario have one journal and one answer
  pub one_journal : (steps : List Turn) (script entries : List (JournalEntry B)) (answer : ClosingAnswer) (script' entries' : List (JournalEntry B)) (answer' : ClosingAnswer) →
      IsWholeRun steps script entries answer → IsWholeRun steps script' entries' answer' →
      (reverse entries ++ script ≡ reverse entries' ++ script') × (answer ≡ answer')
  one_journal steps script entries answer script' entries' answer' run run' =
      let one = the_one_journal steps script entries answer run in
      let other = the_one_journal steps script' entries' answer' run' in
      closed_once scene [] one.0 other.0 Losing (played scene [] steps []) (reverse entries ++ script) (reverse entries' ++ script') answer answer' one.1 other.1
