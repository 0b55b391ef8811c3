-- One step of a member: the case of its input's kind.
use Rattle.std.specs.Prelude.{◌≡◌, ℕ, true, false, Result, Ok, Err}
use Rattle.vr_log.specs.declared.entry.Entry.{Entry}
use Rattle.vr_log.specs.declared.message.VrMessage.{VrMessage}
use Rattle.vr_log.specs.declared.message.VrMessage.TheVariants as message
use Rattle.vr_log.specs.declared.state.VrState.{VrState}
use Rattle.vr_log.specs.declared.state.VrOut.{VrOut}
use Rattle.vr_log.specs.Log.{is_past_limits, full_at}
use Rattle.vr_log.specs.Members.{leads}
use Rattle.vr_log.specs.Steps.{VrStep}
use Rattle.vr_normal.specs.declared.normal.ProposeFault.{ProposeFault}
use Rattle.vr_normal.specs.declared.normal.ProposeFault.TheVariants as fault
use Rattle.vr_normal.specs.Proposing.{proposed}
use Rattle.vr_normal.specs.Cases.{prepare, prepare_ok, commit_told}
use Rattle.vr_normal.specs.Ticks.{ticked}
use Rattle.view_change.specs.Cases.{suspect, start_view_change, do_view_change, start_view, fetch, supply}
use Rattle.vr_recovery.specs.Cases.{get_state, new_state}
use Rattle.vr_recovery.specs.Recovering.{recovery, response}
use Rattle.vr_core.specs.declared.input.VrInput.{VrInput}
use Rattle.vr_core.specs.declared.input.VrInput.TheVariants as vr_input

-- a message from a member
unfoldable pub on_vr : VrState → ℕ → VrMessage → VrStep
on_vr s from (message.Prepare view op commit entry) = prepare s from view op commit entry
on_vr s from (message.PrepareOk view op) = prepare_ok s from view op
on_vr s from (message.Commit view commit) = commit_told s from view commit
on_vr s from (message.StartViewChange view) = start_view_change s from view
on_vr s from (message.DoViewChange view normal commit log) = do_view_change s from view normal commit log
on_vr s from (message.StartView view first commit log) = start_view s from view first commit log
on_vr s from (message.Recovery nonce promise) = recovery s from nonce promise
on_vr s from (message.RecoveryResponse view nonce filled) = response s from view nonce filled
on_vr s from (message.GetState view op) = get_state s from view op
on_vr s from (message.NewState view first commit log) = new_state s from view first commit log
on_vr s from (message.Fetch view op) = fetch s from view op
on_vr s from (message.Supply view first log) = supply s from view first log

abbrev pub vr_step : VrState → VrInput → VrStep
vr_step s (vr_input.From from what) = on_vr s from what
vr_step s (vr_input.Suspect view) = suspect s view
vr_step s vr_input.Tick = ticked s

-- What a step leaves, and what it wants to be saved and sent. No letter may leave before the promise is saved.
pub record Stepped (step : VrStep) (state : VrState) (out : VrOut) : Type 0 where
  pub state_is : state ≡ step.state
  pub promise_is : out.promise ≡ step.promise
  pub letters_are : out.letters ≡ step.letters

-- the answer of a proposal that left this to be saved and sent
abbrev pub answered : VrOut → Result (Unit {0}) ProposeFault → Result VrOut ProposeFault
answered out (Ok done) = Ok out
answered out (Err fault) = Err fault

-- What a proposal answers, and what it leaves. A refusal changes nothing; after want of memory the state is to be
-- dropped.
abbrev pub ProposesTo : VrState → Entry → Result VrOut ProposeFault → VrState → Type 0
ProposesTo s entry (Ok out) state = (leads s ≡ true) × (is_past_limits s.log entry ≡ false) × Stepped (proposed s entry) state out
ProposesTo s entry (Err fault.NotPrimary) state = (leads s ≡ false) × (state ≡ s)
ProposesTo s entry (Err (fault.LogFull full)) state = (leads s ≡ true) × (is_past_limits s.log entry ≡ true) × (full ≡ full_at s.log entry) × (state ≡ s)
ProposesTo s entry (Err fault.OutOfMemory) state = (leads s ≡ true) × (is_past_limits s.log entry ≡ false)
