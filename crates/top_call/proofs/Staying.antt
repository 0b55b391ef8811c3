-- The stable pairs stay, whatever becomes of a call.
use Rattle.std.proofs.Common.{◌≡◌, ◌≤◌, inl, inr, ℕ, List, ◌++◌, length, take, drop, Some, refl, sym, ◌∙◌, ap, subst, arith}
use Rattle.std.specs.Prelude.{slice_get}
use Rattle.std.proofs.Math.Seq.{take-append_seam}
use Rattle.std.proofs.lemmas.Bool.{cases_lt}
use Rattle.std.proofs.lemmas.Option.{slice_get_within}
use Rattle.journal.specs.Stables.{Saving}
use Rattle.app_core.specs.Law.{AppLaw}
use Rattle.group_controller.specs.Turns.{Controlling}
use Rattle.run_spec.specs.Bodies.{byte_bodies}
use Rattle.run_spec.proofs.Pasts.{from_some}
use Rattle.top_call.proofs.Ran.{there_is}
use Rattle.world.specs.World.{AreTold, Holds, Keeps, PairsStand, Worlding}
use Rattle.running.specs.declared.run.Played.{Played}
use Rattle.running.specs.Threads.{IsLeftPaired}
use Rattle.journal.specs.declared.wire.Stop.{Stop}
use Rattle.journal.specs.declared.wire.Stop.TheVariants.{OutOfMemory, JournalFull}
use Rattle.journal.specs.declared.journal.Turn.{Turn}
use Rattle.playing.specs.Played.{HaltsAs}
use Rattle.top_call.specs.Runs.{StablesStay}

pub stay_same : {W : Type 0} (saving : Saving W) (stables : List W) → StablesStay saving stables stables
stay_same saving stables = record {
  count = refl;
  later = λ c old new was is. let same = ap saving.faults (from_some old new (sym was ∙ is)) in omega (arith, same);
}

-- where each of one list has its like in another, that one is no shorter
no_shorter : {W : Type 0} (xs ys : List W) → ((i : ℕ) (x : W) → slice_get xs i ≡ Some x → (y : W) × (slice_get ys i ≡ Some y)) → length xs ≤ length ys
no_shorter xs ys has = elim (cases_lt (length ys) (length xs)) [
  | inl less ↦
      let x = there_is xs (length ys) less in
      let y = has (length ys) x.0 x.1 in
      let within = slice_get_within ys (length ys) y.0 y.1 in
      absurd (omega (arith, within))
  | inr most ↦ most
]

-- those of a group stand for its controllers, and further ones are as they were
module _ {A W : Type 0} (saving : Saving W) (group : ℕ) (before after : List (Controlling A)) (stables stables_after : List W) (long : length before ≡ group)
    (pairs : PairsStand saving stables before) (told : AreTold saving stables stables_after before after) (beyond : (i : ℕ) → group ≤ i → slice_get stables_after i ≡ slice_get stables i) where
  left_at : (c : ℕ) (old : W) → slice_get stables c ≡ Some old → (new : W) × (slice_get stables_after c ≡ Some new) × (saving.faults old ≤ saving.faults new)
  left_at c old was = elim (cases_lt c group) [
    | inl less ↦
        let x = there_is before c (omega (arith, less, long)) in
        let t = told c x.0 old x.1 was in
        (t.1, t.3, t.4.later)
    | inr past ↦ (old, beyond c past ∙ was, omega arith)
  ]

  stood_at : (c : ℕ) (new : W) → slice_get stables_after c ≡ Some new → (old : W) × (slice_get stables c ≡ Some old)
  stood_at c new is = elim (cases_lt c group) [
    | inl less ↦
        let x = there_is before c (omega (arith, less, long)) in
        let s = pairs c x.0 x.1 in
        (s.0, s.1)
    | inr past ↦ (new, sym (beyond c past) ∙ is)
  ]

  pub stay : StablesStay saving stables stables_after
  stay = record {
    count =
        let more = no_shorter stables stables_after (λ i x was. let l = left_at i x was in (l.0, l.1)) in
        let less = no_shorter stables_after stables stood_at in
        omega (arith, more, less);
    later = λ c old new was is.
        let l = left_at c old was in
        let most = l.2 in
        let same = ap saving.faults (from_some l.0 new (sym l.1 ∙ is)) in
        omega (arith, most, same);
  }

module _ {A W : Type 0} (law : AppLaw A) (saving : Saving W) (kinds : List ℕ) (start : Worlding (List ℕ) A) (stables stables_after : List W)
    (holds : Holds law byte_bodies start kinds) (pairs : PairsStand saving stables start.controllers) where
  -- a world keeps them
  pub stay_kept : (w : Worlding (List ℕ) A) → Keeps law saving byte_bodies start stables w stables_after → StablesStay saving stables stables_after
  stay_kept w k = stay saving start.setup.controllers start.controllers w.controllers stables stables_after holds.run.group pairs k.told k.beyond

  -- and so do threads, whatever stopped them
  stay_paired : (left : List (Controlling A)) → IsLeftPaired saving start.setup start.controllers stables stables_after left → StablesStay saving stables stables_after
  stay_paired left l = stay saving start.setup.controllers start.controllers left stables stables_after holds.run.group pairs l.told l.beyond

  pub stay_halted : {G : Type 0} (steps : List Turn) (left : Played (List ℕ) A G) (stop : Stop) → HaltsAs law saving byte_bodies steps kinds start stables stables_after left stop → StablesStay saving stables stables_after
  stay_halted steps left OutOfMemory halts = stay_paired left.controllers.items halts
  stay_halted steps left (JournalFull bytes letters) halts = stay_paired left.controllers.items halts.0.paired

-- those of a slice stay, and so those of its vector, over which they are written back
pub stay_over : {W : Type 0} (saving : Saving W) (n : ℕ) (before lent left : List W) → n ≡ length before → lent ≡ before → length left ≡ length lent → StablesStay saving lent left →
    StablesStay saving before (take n (left ++ drop (length left) before))
stay_over saving n before lent left all lends long stays =
    let lies = ap (λ m. take m (left ++ drop (length left) before)) (all ∙ sym (long ∙ ap (λ l. length l) lends)) ∙ take-append_seam left (drop (length left) before) in
    subst (λ (l : List _). StablesStay saving before l) (sym lies) (subst (λ (l : List _). StablesStay saving l left) lends stays)
