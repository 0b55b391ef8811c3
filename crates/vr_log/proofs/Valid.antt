-- What keeps a state valid.
use Rattle.std.proofs.Common.{◌≡◌, refl, Result, Ok, Err, OnOk, ℕ, ◌<◌, ◌≤◌, Bool, true, false, List, [], ◌∷◌, ◌++◌, length, sym, subst, arith, length-append, max, min}
use Rattle.std.specs.Prelude.{◌&&◌, nat_le, take, if◌then◌else◌, Contains, Option, None, Some, IfSome}
use Rattle.std.specs.List.{IsDistinct}
use Rattle.std.proofs.lemmas.List.{length-replicate}
use Rattle.vr_log.specs.declared.entry.Entry.{Entry}
use Rattle.vr_log.specs.declared.state.Supplied.{Supplied}
use Rattle.vr_log.specs.declared.state.VrOut.{VrOut}
use Rattle.vr_log.specs.declared.state.VrState.{VrState}
use Rattle.vr_log.specs.Log.{follows, is_log, IsLog}
use Rattle.vr_log.specs.Same.{same_entries}
use Rattle.std.proofs.lemmas.Bool.{and_parts, leb-true}
use Rattle.vr_log.proofs.Logs.{IsLog_append, IsLog_is, no_log}
use Rattle.vr_log.specs.Steps.{VrStep, Did, quiet, is_sound, guarded, acknowledges}
use Rattle.vr_log.specs.Valid.{AreMembers, IsValidState, starting_state}

-- a choice keeps what both sides keep
pub either : (P : VrState → Type 0) (b : Bool) (x y : VrStep) → P x.state → P y.state → P (if b then x else y).state
either P true x y p q = p
either P false x y p q = q

-- a choice keeps what each side keeps where it is taken
pub chosen_by : (P : VrState → Type 0) (b : Bool) (x y : VrStep) → (b ≡ true → P x.state) → (b ≡ false → P y.state) → P (if b then x else y).state
chosen_by P true x y p q = p refl
chosen_by P false x y p q = q refl

-- the commit number rises
supply_rises : (supply : Option Supplied) (commit most : ℕ) → commit ≤ most → IfSome supply (λ p. p.first ≤ commit) → IfSome supply (λ p. p.first ≤ most)
supply_rises None commit most le h = h
supply_rises (Some p) commit most le h = omega arith

pub commit_valid : (s : VrState) (commit : ℕ) → IsValidState s → s.commit ≤ commit → commit ≤ length s.log → IsValidState (record s { commit = commit })
commit_valid s commit v more le = record {
  log = v.log;
  group = v.group;
  member = v.member;
  commit = le;
  acked = v.acked;
  votes = v.votes;
  collected = v.collected;
  responses = v.responses;
  base = let b = v.base in omega arith;
  supply = supply_rises s.supply s.commit commit more v.supply;
}

pub acknowledges_valid : (s : VrState) (commit : ℕ) → IsValidState s → IsValidState (acknowledges s commit).state
acknowledges_valid s commit v = commit_valid s (max s.commit (min commit (length s.log))) v (omega arith) (omega (arith, v.commit))

pub grown_valid : (s : VrState) (entries : List Entry) → IsValidState s → follows s.log entries ≡ true → IsValidState (record s { log = s.log ++ entries })
grown_valid s entries v f = record {
  log = IsLog_append s.log entries v.log f;
  group = v.group;
  member = v.member;
  commit = omega (arith, v.commit, length-append s.log entries);
  acked = v.acked;
  votes = v.votes;
  collected = v.collected;
  responses = v.responses;
  base = v.base;
  supply = v.supply;
}

-- a step that leaves a valid state did so
pub did_valid : (step : VrStep) (state : VrState) (old new : VrOut) → IsValidState step.state → Did step state old new → IsValidState state
did_valid step state old new v d = subst (λ (x : VrState). IsValidState x) (sym d.state_is) v

pub on_ok : {A E : Type 0} {P Q : Type 0} (r : Result A E) → (P → Q) → OnOk r P → OnOk r Q
on_ok (Ok x) f p = f p
on_ok (Err e) f p = tt

pub ok_of : {A E : Type 0} {P : Type 0} (r : Result A E) → P → OnOk r P
ok_of (Ok x) p = p
ok_of (Err e) p = tt

pub nobody : (size : ℕ) → AreMembers size []
unfolding IsDistinct
nobody size = record { below = tt; once = tt }

pub starting_valid : (me controllers : ℕ) → Contains (1 ∷ 3 ∷ 5 ∷ 7 ∷ []) controllers → me < controllers → IsValidState (starting_state me controllers)
starting_valid me controllers group member = record {
  log = no_log;
  group = group;
  member = member;
  commit = omega arith;
  acked = length-replicate {A = ℕ} controllers 0;
  votes = nobody controllers;
  collected = nobody controllers;
  responses = nobody controllers;
  base = omega arith;
  supply = tt;
}

-- what a step that is not dropped leaves
pub record Sound (old new : VrState) : Type 0 where
  pub log : IsLog new.log
  pub commit : new.commit ≤ length new.log

pub sound_is : (old new : VrState) → is_sound old new ≡ true → Sound old new
sound_is old new h =
    let p = and_parts (is_log new.log && nat_le new.commit (length new.log)) (same_entries (take old.commit old.log) (take old.commit new.log)) h in
    let q = and_parts (is_log new.log) (nat_le new.commit (length new.log)) p.0 in
    record { log = IsLog_is new.log q.0; commit = leb-true new.commit (length new.log) q.1 }

pub guarded_valid : (s : VrState) (step : VrStep) → IsValidState s → (Sound s step.state → IsValidState step.state) → IsValidState (guarded s step).state
guarded_valid s step v h = chosen_by IsValidState (is_sound s step.state) step (quiet s) (λ e. h (sound_is s step.state e)) (λ e. v)
