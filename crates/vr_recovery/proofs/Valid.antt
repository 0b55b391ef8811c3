-- Each step of a transfer and of a recovery keeps a state valid.
use Rattle.std.proofs.Common.{inl, inr, ◌≡◌, ◌<◌, ℕ, Bool, true, false, not, Option, None, Some, List, [], ◌∷◌, ◌++◌, refl, ap, sym, subst, ◌∙◌}
use Rattle.std.specs.Prelude.{nat_eq, nat_lt, map, if◌then◌else◌}
use Rattle.std.specs.List.{AllByRecursion, IsDistinct}
use Rattle.std.proofs.lemmas.Bool.{eqb-true, and_parts, ltb-true, cases_Bool}
use Rattle.vr_log.specs.declared.entry.Entry.{Entry}
use Rattle.vr_log.specs.declared.message.Filled.{Filled}
use Rattle.vr_log.specs.declared.message.VrMessage.{VrMessage}
use Rattle.vr_log.specs.declared.message.VrMessage.TheVariants as message
use Rattle.vr_log.specs.declared.state.Response.{Response}
use Rattle.vr_log.specs.declared.state.VrOut.{VrOut}
use Rattle.vr_log.specs.declared.state.VrState.{VrState}
use Rattle.vr_log.specs.Log.{follows}
use Rattle.vr_log.specs.Members.{is_other}
use Rattle.vr_log.specs.Steps.{VrStep, Did, quiet, guarded}
use Rattle.vr_log.specs.Valid.{AreMembers, IsValidState}
use Rattle.vr_log.proofs.Valid.{either, chosen_by, nobody, Sound, guarded_valid, grown_valid, acknowledges_valid}
use Rattle.view_change.specs.Adopting.{adopt}
use Rattle.view_change.proofs.Valid.{adopt_passes, adopt_valid}
use Rattle.vr_recovery.specs.Cases.{is_longer, is_adopted, lacking, completes, new_state}
use Rattle.vr_recovery.specs.Recovering.{newest, with_response, greatest_view_told, responded, ending, ends_with, recovers}

pub completes_valid : (s : VrState) (first commit : ℕ) (log : List Entry) → IsValidState s → IsValidState (completes s first commit log).state
completes_valid s first commit log v =
    chosen_by IsValidState (follows s.log (lacking s first log)) _ _ (λ f. acknowledges_valid (record s { log = s.log ++ lacking s first log }) commit (grown_valid s (lacking s first log) v f)) (λ f. v)

pub new_state_valid : (s : VrState) (from view first commit : ℕ) (log : List Entry) → IsValidState s → IsValidState (new_state s from view first commit log).state
new_state_valid s from view first commit log v =
    either IsValidState (is_other s from) _ _
    (either IsValidState (is_longer s view first log) (completes s first commit log) _ (completes_valid s first commit log v)
    (either IsValidState (is_adopted s view first) (guarded s (adopt s view first commit log)) (quiet s) (adopt_valid s view first commit log v) v)) v

-- of each member one response is kept
newest_from : (kept r : Response) → kept.from ≡ r.from → (newest kept r).from ≡ kept.from
newest_from kept r same = chosen (nat_lt kept.view r.view)
  where
    chosen : (b : Bool) → (if b then r else kept).from ≡ kept.from
    chosen true = sym same
    chosen false = refl

all_with : (P : ℕ → Type 0) (responses : List Response) (r : Response) → AllByRecursion P (map (λ k. k.from) responses) → P r.from → AllByRecursion P (map (λ k. k.from) (with_response responses r))
all_with P [] r a p = (p, tt)
all_with P (kept ∷ responses) r a p = elim (cases_Bool (nat_eq kept.from r.from)) [
  | inl here ↦ rw here (subst P (sym (newest_from kept r (eqb-true kept.from r.from here))) a.0, a.1)
  | inr other ↦ rw other (a.0, all_with P responses r a.1 p)
]

distinct_with : (responses : List Response) (r : Response) → IsDistinct nat_eq (map (λ k. k.from) responses) → IsDistinct nat_eq (map (λ k. k.from) (with_response responses r))
unfolding IsDistinct
distinct_with [] r d = (tt, tt)
distinct_with (kept ∷ responses) r d = elim (cases_Bool (nat_eq kept.from r.from)) [
  | inl here ↦ rw here (subst (λ (n : ℕ). AllByRecursion (λ y. nat_eq n y ≡ false) (map (λ k. k.from) responses)) (sym (newest_from kept r (eqb-true kept.from r.from here))) d.0, d.1)
  | inr other ↦ rw other (all_with (λ y. nat_eq kept.from y ≡ false) responses r d.0 other, distinct_with responses r d.1)
]

told_valid : (s : VrState) (responses : List Response) → IsValidState s → AreMembers s.controllers (map (λ k. k.from) responses) → IsValidState (record s { responses = responses })
told_valid s responses v a = record {
  log = v.log;
  group = v.group;
  member = v.member;
  commit = v.commit;
  acked = v.acked;
  votes = v.votes;
  collected = v.collected;
  responses = a;
  base = v.base;
  supply = v.supply;
}

pub emptied_valid : (s : VrState) → IsValidState s → IsValidState (record s { responses = [] })
emptied_valid s v = told_valid s [] v (nobody s.controllers)

responded_valid : (s : VrState) (r : Response) → IsValidState s → r.from < s.controllers → IsValidState (responded s r)
responded_valid s r v lt =
    told_valid s (with_response s.responses r) v (record { below = all_with (λ j. j < s.controllers) s.responses r v.responses.below lt; once = distinct_with s.responses r v.responses.once })

ends_passes : (t : VrState) (view : ℕ) (told : Option Filled) → IsValidState t → Sound (ends_with t view told).state (ends_with t view told).state → IsValidState (ends_with t view told).state
ends_passes t view None v sound = v
ends_passes t view (Some told) v sound = adopt_passes (record t { responses = [] }) view 0 told.commit told.log (emptied_valid t v) sound

pub recovers_valid : (s : VrState) (r : Response) → IsValidState s → is_other s r.from ≡ true → IsValidState (guarded s (recovers (responded s r))).state
recovers_valid s r v other =
    let t = responded s r in
    let lt = ltb-true r.from s.controllers (and_parts (nat_lt r.from s.controllers) (not (nat_eq r.from s.me)) other).0 in
    guarded_valid s (recovers t) v (λ sound. ends_passes t (greatest_view_told t.responses) (ending t) (responded_valid s r v lt) (record { log = sound.log; commit = sound.commit }))
