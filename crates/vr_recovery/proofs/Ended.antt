-- A response that does not end a recovery.
use Rattle.std.proofs.Common.{◌≡◌, ◌≤◌, Bool, Option, None, List, length, refl, ap, sym, subst, ◌∙◌, append-nil}
use Rattle.std.specs.Prelude.{if◌then◌else◌}
use Rattle.vr_log.specs.declared.message.Filled.{Filled}
use Rattle.vr_log.specs.declared.state.Response.{Response}
use Rattle.vr_log.specs.declared.state.VrOut.{VrOut}
use Rattle.vr_log.specs.declared.state.VrState.{VrState}
use Rattle.vr_log.specs.Log.{IsLog}
use Rattle.vr_log.specs.Steps.{VrStep, Did, quiet, guarded}
use Rattle.vr_log.proofs.Steps.{sound_here}
use Rattle.vr_recovery.specs.Recovering.{with_response, greatest_view_told, responded, ending, ends_with, recovers}

module _ (s : VrState) (r : Response) (responses : List Response) (is : responses ≡ with_response s.responses r) where
  abbrev told : VrState
  told = record s { responses = responses }

  told_is : told ≡ responded s r
  told_is = ap (λ (l : List Response). record s { responses = l }) is

  pub waits : (old : VrOut) → IsLog s.log → s.commit ≤ length s.log → None ≡ ending told → Did (guarded s (recovers (responded s r))) told old old
  waits old one le none =
      let e : ending (responded s r) ≡ None = ap (λ (t : VrState). ending t) (sym told_is) ∙ sym none in
      let step : recovers (responded s r) ≡ quiet (responded s r) = ap (λ (f : Option Filled). ends_with (responded s r) (greatest_view_told (responded s r).responses) f) e in
      let did : Did (quiet (responded s r)) told old old = record { state_is = told_is; promise_is = refl; letters_are = sym (append-nil old.letters) } in
      let here : Did (guarded s (quiet (responded s r))) told old old = subst (λ (b : Bool). Did (if b then quiet (responded s r) else quiet s) told old old) (sym (sound_here s (responded s r) one le refl refl)) did in
      subst (λ (x : VrStep). Did (guarded s x) told old old) (sym step) here
