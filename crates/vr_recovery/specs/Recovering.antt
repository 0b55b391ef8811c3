-- Recovery (Viewstamped Replication Revisited, 4.3; the stable pair of a promise and a life is our own rule).
use Rattle.std.specs.Prelude.{ℕ, Bool, nat_eq, nat_lt, ◌&&◌, List, [], ◌∷◌, find, Option, Some, None, if◌then◌else◌}
use Rattle.vr_log.specs.declared.message.Filled.{Filled}
use Rattle.vr_log.specs.declared.message.VrMessage.TheVariants as message
use Rattle.vr_log.specs.declared.state.Response.{Response}
use Rattle.vr_log.specs.declared.state.Status.TheVariants.{Recovering}
use Rattle.vr_log.specs.declared.state.VrState.{VrState}
use Rattle.vr_log.specs.Members.{is_normal, is_recovering, is_primary, is_other, primary_of}
use Rattle.vr_log.specs.Steps.{VrStep, quiet, sends, tells, to_others, guarded}
use Rattle.vr_log.specs.Valid.{starting_state}
use Rattle.vr_quorum.specs.Ending as rule
use Rattle.view_change.specs.Adopting.{adopt}
use Rattle.view_change.specs.Cases.{enters}

-- a life begins behind a stable pair: it asks the others
abbrev pub recovering_state : ℕ → ℕ → ℕ → ℕ → VrState
recovering_state me controllers promise life =
    record (starting_state me controllers) { status = Recovering; promise = promise; life = life }

abbrev pub restarted : ℕ → ℕ → ℕ → ℕ → VrStep
restarted me controllers promise life =
    let s = recovering_state me controllers promise life in sends s (to_others s (message.Recovery life promise))

-- RECOVERY: a normal member first enters a view that was promised above its own, and else tells its view; a primary
-- also its log and its commit number
abbrev pub filled : VrState → Option Filled
filled s = if is_primary s then Some (record { commit = s.commit; log = s.log }) else None

abbrev pub responds : VrState → ℕ → ℕ → VrStep
responds s to nonce = tells s to (message.RecoveryResponse s.view nonce (filled s))

abbrev pub recovery : VrState → ℕ → ℕ → ℕ → VrStep
recovery s from nonce promise =
    if is_other s from
    then (if is_normal s
    then (if nat_lt s.view promise then guarded s (enters s promise) else responds s from nonce)
    else quiet s)
    else quiet s

-- of each member the response of the greatest view is kept, and of equal views the first
abbrev pub newest : Response → Response → Response
newest kept r = if nat_lt kept.view r.view then r else kept

abbrev pub with_response : List Response → Response → List Response
with_response [] r = r ∷ []
with_response (kept ∷ responses) r =
    if nat_eq kept.from r.from then newest kept r ∷ responses else kept ∷ with_response responses r

-- the greatest view that was told
abbrev pub greatest_view_told : List Response → ℕ
greatest_view_told = rule.greatest_view

-- the log of its primary, where that told it
abbrev pub told_log : ℕ → Option Response → Option Filled
told_log view None = None
told_log view (Some r) = if nat_eq r.view view then r.filled else None

abbrev pub primary_log : VrState → ℕ → Option Filled
primary_log s view = told_log view (find (λ r. nat_eq r.from (primary_of s view)) s.responses)

-- enough members told a view, which is not below the promise
abbrev pub are_responses_enough : VrState → Bool
are_responses_enough = rule.is_enough

-- recovery ends with that log
abbrev pub ending : VrState → Option Filled
ending s = if are_responses_enough s then primary_log s (greatest_view_told s.responses) else None

abbrev pub ends_with : VrState → ℕ → Option Filled → VrStep
ends_with s view None = quiet s
ends_with s view (Some told) = adopt (record s { responses = [] }) view 0 told.commit told.log

abbrev pub recovers : VrState → VrStep
recovers s = ends_with s (greatest_view_told s.responses) (ending s)

-- RECOVERYRESPONSE to the question of this life
abbrev pub responded : VrState → Response → VrState
responded s r = record s { responses = with_response s.responses r }

abbrev pub response : VrState → ℕ → ℕ → ℕ → Option Filled → VrStep
response s from view nonce filled =
    if is_other s from
    then (if is_recovering s && nat_eq nonce s.life
    then guarded s (recovers (responded s (record { from = from; view = view; filled = filled }))) else quiet s)
    else quiet s
