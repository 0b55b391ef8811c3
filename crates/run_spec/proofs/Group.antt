-- What a run is hangs on the results of the group's controllers alone: further lists of results change nothing.
use Rattle.std.proofs.Common.{◌≡◌, ◌<◌, ℕ, zero, suc, ◌+◌, List, [], ◌∷◌, ◌++◌, map, reverse, take, refl, sym, ◌∙◌, ap, subst, arith}
use Rattle.std.specs.List.{AllByRecursion, range_with_len}
use Rattle.of_types.specs.declared.setup.Setup.{Setup}
use Rattle.journal.specs.declared.journal.Actor.{Actor}
use Rattle.journal.specs.declared.journal.Actor.TheVariants as actor
use Rattle.journal.specs.declared.journal.JournalEntry.{JournalEntry}
use Rattle.journal.specs.declared.journal.JournalEntry.TheVariants.{Post, Draw, Lose, Local, Idle, Refused}
use Rattle.journal.specs.declared.journal.SaveResult.{SaveResult}
use Rattle.journal.specs.declared.journal.Turn.{Turn}
use Rattle.journal.specs.Actors.{actor_of, IsActor}
use Rattle.journal.specs.Part.{part}
use Rattle.journal.specs.Pool.{pool}
use Rattle.group_controller.specs.State.{ControllerState}
use Rattle.run_spec.specs.States.{Scene, controller_at, controller_message, sealed_letters}
use Rattle.run_spec.specs.Legal.{IsSoundController, IsPossible, results_of}
use Rattle.run_spec.specs.Committed.{controller_state, states_of}
use Rattle.run_spec.specs.Script.{owed_of, IsPosted, TakesInOrder, FollowsInOrder}
use Rattle.run_spec.proofs.Playing.{AreSaved, AllSaved, reverse_onto}
use Rattle.run_spec.specs.Closing.{Phase, Losing, Suspecting, Draining, Met, ClosingAnswer, next_lost, next_move, after_turn, after_move, IsMove, IsEnd, ClosesTo, Closes}

-- the lists of the first controllers
pub first_same : (n c : ℕ) (results : List (List SaveResult)) → c < n → results_of results c ≡ results_of (take n results) c
first_same zero c results there = absurd (omega (arith, there))
first_same (suc n) c [] there = refl
first_same (suc n) zero (rs ∷ results) there = refl
first_same (suc n) (suc c) (rs ∷ results) there = first_same n c results (omega (arith, there))

pub first_saved : (n : ℕ) (results : List (List SaveResult)) → ((c : ℕ) → c < n → AreSaved (results_of results c)) → AllSaved (take n results)
first_saved zero results saved c = tt
first_saved (suc n) [] saved c = tt
first_saved (suc n) (rs ∷ results) saved zero = saved 0 (omega arith)
first_saved (suc n) (rs ∷ results) saved (suc c) = first_saved n results (λ d there. saved (suc d) (omega (arith, there))) c

-- two maps over the numbers of a range
map_over : {A : Type 0} (f g : ℕ → A) (from count : ℕ) → ((c : ℕ) → c < from + count → f c ≡ g c) → map f (range_with_len from count) ≡ map g (range_with_len from count)
map_over f g from zero same = refl
map_over {A = A} f g from (suc count) same =
    let others : map f (range_with_len (from + 1) count) ≡ map g (range_with_len (from + 1) count) = map_over f g (from + 1) count (λ c there. same c (omega (arith, there))) in
    ap (λ (x : A). x ∷ map f (range_with_len (from + 1) count)) (same from (omega arith)) ∙ ap (λ (l : List A). g from ∷ l) others

-- entries that name actors of a setup alone
module _ {B : Type 0} (setup : Setup) where
  abbrev pub Named : List (JournalEntry B) → Type 0
  Named entries = AllByRecursion (λ e. IsActor setup (actor_of e)) entries

  pub named_turned : (entries before : List (JournalEntry B)) → Named entries → Named before → Named (reverse entries ++ before)
  named_turned [] before named behind = behind
  named_turned (e ∷ entries) before named behind = subst (λ l. Named l) (sym (reverse_onto e entries before)) (named_turned entries (e ∷ before) named.1 (named.0, behind))

  pub named_both : (entries before : List (JournalEntry B)) → Named (reverse entries ++ before) → Named entries × Named before
  named_both [] before named = (tt, named)
  named_both (e ∷ entries) before named =
      let rest = named_both entries (e ∷ before) (subst (λ l. Named l) (reverse_onto e entries before) named) in
      ((rest.1.0, rest.0), rest.1.1)

-- the results of each controller of the group are the same
module _ {B : Type 0} (scene : Scene B) (results other : List (List SaveResult)) (same : (c : ℕ) → c < scene.setup.controllers → results_of results c ≡ results_of other c) where
  owed_same : (a : Actor) → IsActor scene.setup a → (entries : List (JournalEntry B)) → owed_of scene results a entries ≡ owed_of scene other a entries
  owed_same (actor.Controller c) there entries =
      ap (λ (rs : List SaveResult). sealed_letters controller_message scene.sealing (controller_at scene rs c (part (actor.Controller c) entries)).owed) (same c there)
  owed_same (actor.Switch s) there entries = refl

  state_same : (c : ℕ) → c < scene.setup.controllers → (entries : List (JournalEntry B)) → controller_state scene results c entries ≡ controller_state scene other c entries
  state_same c there entries = ap (λ (rs : List SaveResult). (controller_at scene rs c (part (actor.Controller c) entries)).now) (same c there)

  states_same : (entries : List (JournalEntry B)) → states_of scene results entries ≡ states_of scene other entries
  states_same entries = map_over (λ c. controller_state scene results c entries) (λ c. controller_state scene other c entries) 0 scene.setup.controllers (λ c there. state_same c (omega (arith, there)) entries)

  posted_same : (entries : List (JournalEntry B)) → Named scene.setup entries → IsPosted scene results entries → IsPosted scene other entries
  posted_same [] named none = tt
  posted_same (e ∷ before) named none = sym (owed_same (actor_of e) named.0 (e ∷ before)) ∙ none

  takes_same : (steps : List Turn) (entries : List (JournalEntry B)) → Named scene.setup entries → TakesInOrder scene results steps entries → TakesInOrder scene other steps entries
  takes_same steps [] named takes = tt
  takes_same steps (e ∷ before) named takes = (takes.0, λ input. posted_same before named.1 (takes.1 input), takes_same steps before named.1 takes.2)

  pub follows_same : (steps : List Turn) (script : List (JournalEntry B)) → Named scene.setup script → FollowsInOrder scene results steps script → FollowsInOrder scene other steps script
  follows_same steps script named follows = record { takes = takes_same steps script named follows.takes; all = follows.all; posted = posted_same script named follows.posted }

  move_same : (phase : Phase) (entries : List (JournalEntry B)) → next_move scene results phase entries ≡ next_move scene other phase entries
  move_same Losing entries = ap (λ (states : List ControllerState). next_lost scene.setup.controllers states (pool entries)) (states_same entries)
  move_same (Suspecting view quorum members) entries = refl
  move_same (Draining view quorum) entries = refl
  move_same (Met limit) entries = refl

  after_same : (e : JournalEntry B) → IsActor scene.setup (actor_of e) → (before : List (JournalEntry B)) (next : Phase) → after_move scene results e before next ≡ after_move scene other e before next
  after_same (Local (actor.Controller c) input) there before next = ap (λ (s : ControllerState). after_turn s next) (state_same c there (Local (actor.Controller c) input ∷ before))
  after_same (Draw (actor.Controller c) id keep) there before next = ap (λ (s : ControllerState). after_turn s next) (state_same c there (Draw (actor.Controller c) id keep ∷ before))
  after_same (Local (actor.Switch s) input) there before next = refl
  after_same (Draw (actor.Switch s) id keep) there before next = refl
  after_same (Post a first letters lost) there before next = refl
  after_same (Lose a id) there before next = refl
  after_same (Idle a) there before next = refl
  after_same (Refused a) there before next = refl

  -- a move and what follows it, where that is the same
  one_closes : (phase : Phase) (before : List (JournalEntry B)) (e : JournalEntry B) (rest : List (JournalEntry B)) (last : Phase) → Named scene.setup before → IsActor scene.setup (actor_of e) →
      ((p : Phase) → ClosesTo scene results p (e ∷ before) rest last → ClosesTo scene other p (e ∷ before) rest last) →
      IsPosted scene results before × ((next : Phase) × IsMove (next_move scene results phase before) e next × ClosesTo scene results (after_move scene results e before next) (e ∷ before) rest last) →
      IsPosted scene other before × ((next : Phase) × IsMove (next_move scene other phase before) e next × ClosesTo scene other (after_move scene other e before next) (e ∷ before) rest last)
  one_closes phase before e rest last behind there follows (posted, (next, move, closes)) = (
    posted_same before behind posted,
    (
      next,
      subst (λ m. IsMove m e next) (move_same phase before) move,
      subst (λ (p : Phase). ClosesTo scene other p (e ∷ before) rest last) (after_same e there before next) (follows (after_move scene results e before next) closes),
    ),
  )

  closes_same : (phase : Phase) (before entries : List (JournalEntry B)) (last : Phase) → Named scene.setup before → Named scene.setup entries → ClosesTo scene results phase before entries last → ClosesTo scene other phase before entries last
  closes_same phase before [] last behind named closes = closes
  closes_same phase before (Post a first letters lost ∷ rest) last behind named closes = (closes.0, closes_same phase (Post a first letters lost ∷ before) rest last (named.0, behind) named.1 closes.1)
  closes_same phase before (Draw a id keep ∷ rest) last behind named closes =
      one_closes phase before (Draw a id keep) rest last behind named.0 (λ p. closes_same p ((Draw a id keep) ∷ before) rest last (named.0, behind) named.1) closes
  closes_same phase before (Lose a id ∷ rest) last behind named closes =
      one_closes phase before (Lose a id) rest last behind named.0 (λ p. closes_same p ((Lose a id) ∷ before) rest last (named.0, behind) named.1) closes
  closes_same phase before (Local a input ∷ rest) last behind named closes =
      one_closes phase before (Local a input) rest last behind named.0 (λ p. closes_same p ((Local a input) ∷ before) rest last (named.0, behind) named.1) closes
  closes_same phase before (Idle a ∷ rest) last behind named closes =
      one_closes phase before (Idle a) rest last behind named.0 (λ p. closes_same p ((Idle a) ∷ before) rest last (named.0, behind) named.1) closes
  closes_same phase before (Refused a ∷ rest) last behind named closes =
      one_closes phase before (Refused a) rest last behind named.0 (λ p. closes_same p ((Refused a) ∷ before) rest last (named.0, behind) named.1) closes

  pub closes_by_group : (before entries : List (JournalEntry B)) (answer : ClosingAnswer) → Named scene.setup before → Named scene.setup entries → Closes scene results before entries answer → Closes scene other before entries answer
  closes_by_group before entries answer behind named closes = record {
    last = closes.last;
    steps = closes_same Losing before entries closes.last behind named closes.steps;
    posted = posted_same (reverse entries ++ before) (named_turned scene.setup entries before named behind) closes.posted;
    ends = subst (λ m. IsEnd m answer) (move_same closes.last (reverse entries ++ before)) closes.ends;
  }

  pub possible_same : (entries : List (JournalEntry B)) → IsPossible scene results entries → IsPossible scene other entries
  possible_same entries possible = record {
    named = possible.named;
    fits = possible.fits;
    orderly = possible.orderly;
    switches = possible.switches;
    controllers = λ c there. subst (λ (rs : List SaveResult). IsSoundController scene rs c (part (actor.Controller c) entries)) (same c there) (possible.controllers c there);
  }
