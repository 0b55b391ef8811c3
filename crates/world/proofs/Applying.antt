-- What a turn of a world comes to where its post, its step or the post of its outbox stopped.
use Rattle.std.proofs.Common.{◌≡◌, List, ◌++◌, append-nil, sym, ◌∙◌, ap, subst, inl, inr}
use Rattle.std.specs.Prelude.{Option, Some, None, IfSome, IfErr, Result, Ok, Err, ℕ}
use Rattle.journal.specs.declared.journal.JournalEntry.{JournalEntry}
use Rattle.journal.specs.declared.journal.Turn.{Turn}
use Rattle.journal.specs.declared.wire.Stop.{Stop}
use Rattle.journal.specs.declared.wire.Stop.TheVariants.{OutOfMemory, JournalFull}
use Rattle.journal.specs.Answers.{RefusedBy}
use Rattle.journal.specs.Pool.{past}
use Rattle.journal.specs.Stables.{Saving}
use Rattle.journal.specs.Turns.{turn_actor}
use Rattle.app_core.specs.Law.{AppLaw}
use Rattle.run_spec.specs.States.{Sealing}
use Rattle.world.specs.Debts.{Debt}
use Rattle.world.specs.Refusals.{IsHalted, IsRefused, Not_taken, Posted, StepStops, TurnStops, Turned_down, Unchanged, Unposted}
use Rattle.world.specs.World.{Applies, Holds, IsStuck, Keeps, PairsStand, PostStops, Steps, Worlding, posts_of, taken, with_posts}
use Rattle.world.proofs.Turning.{keeps_then, rests_keeps}

-- a post is refused: something is owed
pub post_refused : {B A : Type 0} (size : B → ℕ) (w : Worlding B A) (d : Debt B) → w.owed ≡ Some d → (stop : Stop) → RefusedBy size stop d.letters (past w.journal) → PostStops size w stop
post_refused size w d is OutOfMemory refused = (d, is)
post_refused size w d is (JournalFull bytes letters) refused = rw is refused

-- nothing is owed, and so nothing is posted
pub none_posted : {B A : Type 0} (size : B → ℕ) (w : Worlding B A) → w.owed ≡ None → w ≡ with_posts size w
none_posted {B = B} size w none =
    ap (λ (o : Option (Debt B)). record w { owed = o }) none
    ∙ ap (λ (l : List (JournalEntry B)). record w { journal = l; owed = None }) (sym (append-nil w.journal) ∙ ap (λ (o : Option (Debt B)). w.journal ++ posts_of size o w.journal) (sym none))

-- what was owed is posted, and the world holds what it held
pub record IsRested {B A : Type 0} (law : AppLaw A) (sealing : Sealing B) (old new : Worlding B A) : Type 0 where
  pub posted : new ≡ with_posts sealing.size old
  pub holds : (kinds : List ℕ) → Holds law sealing old kinds → Holds law sealing new kinds

pub none_rests : {B A : Type 0} (law : AppLaw A) (sealing : Sealing B) (old new : Worlding B A) → old.owed ≡ None → new ≡ old → IsRested law sealing old new
none_rests law sealing old new none is = record {
  posted = is ∙ none_posted sealing.size old none;
  holds = λ kinds h. subst (λ (w : Worlding _ _). Holds law sealing w kinds) (sym is) h;
}

pub rested_keeps : {B A W : Type 0} (law : AppLaw A) (saving : Saving W) (sealing : Sealing B) (old new : Worlding B A) (stables : List W) → IsRested law sealing old new →
    PairsStand saving stables old.controllers → Keeps law saving sealing old stables new stables
rested_keeps law saving sealing old new stables r stand =
    rests_keeps law saving sealing old new stables (ap (λ (w : Worlding _ _). w.setup) r.posted) (ap (λ (w : Worlding _ _). w.controllers) r.posted) r.holds stand

-- what was owed before it was not posted
pub unposted : {B A : Type 0} (size : B → ℕ) (turn : Turn) (old new : Worlding B A) (stop : Stop) → (new ≡ old) × PostStops size old stop → TurnStops size turn old new stop
unposted size turn old new OutOfMemory stops = Unchanged stops.0
unposted size turn old new (JournalFull bytes letters) stops = (subst (λ w. IsStuck size w bytes letters) (sym stops.0) stops.1, inl stops.0)

-- its step found no memory
module _ {B A W : Type 0} (law : AppLaw A) (saving : Saving W) (sealing : Sealing B) (turn : Turn) (old rested new : Worlding B A) (stables stables_after : List W) where
  pub step_halts : rested ≡ with_posts sealing.size old → StepStops law saving sealing turn rested stables new stables_after → IsHalted sealing.size turn old new
  step_halts posted (Not_taken same others) = Posted (same ∙ posted)
  step_halts posted (Turned_down keeps refused) = Turned_down (subst (λ w. IsRefused turn w new) posted refused)

  pub step_keeps : Keeps law saving sealing old stables rested stables → StepStops law saving sealing turn rested stables new stables_after → Keeps law saving sealing old stables new stables_after
  step_keeps kept (Not_taken same others) = rw (same, others) kept
  step_keeps kept (Turned_down keeps refused) = keeps_then law saving sealing old rested new stables stables stables_after kept keeps

-- its outbox was posted, or was not
module _ {B A W : Type 0} (law : AppLaw A) (saving : Saving W) (sealing : Sealing B) (turn : Turn) (old rested stepped new : Worlding B A) (stables stables_after : List W)
    (posted : rested ≡ with_posts sealing.size old) (steps : Steps law saving sealing turn rested stables stepped stables_after) where
  one_outbox : (stop : Stop) → (new ≡ stepped) × PostStops sealing.size stepped stop → TurnStops sealing.size turn old new stop
  one_outbox OutOfMemory stops =
      let d = stops.1.0 in
      Unposted (record {
        journal = ap (λ w. w.journal) stops.0 ∙ steps.journal ∙ ap (λ (w : Worlding B A). taken turn w.journal) posted;
        owing = d;
        owed = ap (λ w. w.owed) stops.0 ∙ stops.1.1;
        its = subst (λ o. IfSome o (λ (x : Debt B). x.actor ≡ turn_actor turn)) stops.1.1 steps.owed;
      })
  one_outbox (JournalFull bytes letters) stops = (
    subst (λ w. IsStuck sealing.size w bytes letters) (sym stops.0) stops.1,
    inr (ap (λ w. w.journal) stops.0 ∙ steps.journal ∙ ap (λ (w : Worlding B A). taken turn w.journal) posted),
  )

  pub applied : new ≡ with_posts sealing.size stepped → Applies sealing.size turn old new
  applied is = record {
    owing = stepped.owed;
    journal = ap (λ (w : Worlding B A). w.journal) is ∙
        ap (λ (l : List (JournalEntry B)). l ++ posts_of sealing.size stepped.owed l) (steps.journal ∙ ap (λ (w : Worlding B A). taken turn w.journal) posted);
    owed = steps.owed;
    rests = ap (λ (w : Worlding B A). w.owed) is;
  }

  pub outbox_stops : {T : Type 0} (result : Result T Stop) → IfErr result (λ stop. (new ≡ stepped) × PostStops sealing.size stepped stop) → IfErr result (λ stop. TurnStops sealing.size turn old new stop)
  outbox_stops (Ok x) stops = tt
  outbox_stops (Err stop) stops = one_outbox stop stops
